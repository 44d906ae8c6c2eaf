-- Every chunk that is spelled so is read.
use Rattle.std.proofs.Common.{◌≡◌, ℕ, ◌-◌, ◌^◌, ◌<◌, Bool, true, false, cond, List, [], ◌∷◌, ◌++◌, length, Option, Some, None, Result, Ok, Err, refl, sym, ap, subst, ◌∙◌}
use Rattle.std.specs.Prelude.{◌&&◌, slice_get}
use Rattle.std.specs.List.{AllByRecursion}
use Rattle.std.proofs.lemmas.Bool.{and_parts}
use Rattle.vx_model.specs.declared.encoding.EncodingId.{EncodingId}
use Rattle.vx_model.specs.declared.encoding.EncodingId.TheVariants as encodings
use Rattle.vx_model.specs.Words.{joined_by}
use Rattle.vx_model.specs.Ty.{Ty, Tys, boolean, primitive, utf8, binary, list, struct, extension, ty_eq}
use Rattle.vx_model.specs.TyLaws.{ty_eq_decides}
use Rattle.vx_model.specs.CellData.{CellData, spelling}
use Rattle.vx_model.specs.ChunkData.{ChunkData, ChunkList, plain_piece, constant_piece, dict_piece, chunked_piece, list_piece, struct_piece, extension_piece, no_pieces, part, pieces_in, piece_type, cells, is_sound, are_sound}
use Rattle.vx_layout_spec.specs.Real.{is_real, are_real}
use Rattle.vx_chunk.proofs.Sound.{SoundDict, of_dict, of_chunked, of_list, of_struct, of_extension}
use Rattle.vx_segment_writer.specs.Head.{Head}
use Rattle.vx_segment_writer.specs.Segment.{own_buffers, buffers, buffers_below, head_of, heads, heads_below, own_refusal, refused, refused_below}
use Rattle.vx_segment_spec.specs.Pieces.{Rest, Frame, number, part_of, whole_of, count_fields, own_of, columns_at, piece_at}
use Rattle.vx_segment_spec.proofs.AgainLaws.{rest_of, Ready, ReadyAll, placed, own_listed, none_of, at_part, at_whole, plain_again, constant_again, dict_again, WholeAgain, Again, chunked_again}
use Rattle.vx_segment_spec.proofs.ColumnsAgain.{flags_for, list_again, struct_again, extension_again}
use Rattle.vx_segment_spec.proofs.RowsFit.{rows_fit}

plain_whole : (frame : Frame) (t : Ty) (cs : List CellData) → Ready frame.ids (plain_piece t cs) → Again frame (plain_piece t cs)
plain_whole frame t cs ready =
    let p : ChunkData = plain_piece t cs in
    let n : Head = head_of frame.ids p in
    let text : List ℕ = joined_by (spelling t) cs in
    let got = placed frame.ids encodings.Plain (own_listed frame.ids encodings.Plain ready.listed) in
    record {
      as_part = λ apart ns bs. at_part frame t n ns (text ∷ bs) encodings.Plain (p, rest_of ns bs) got (plain_again frame.ids t cs (number frame (rest_of (n ∷ ns) (text ∷ bs))) ns bs ready.sound ready.real);
      whole = λ ns bs. at_whole frame t n ns (text ∷ bs) encodings.Plain (p, rest_of ns bs) got (plain_again frame.ids t cs (number frame (rest_of (n ∷ ns) (text ∷ bs))) ns bs ready.sound ready.real);
    }

constant_whole : (frame : Frame) (t : Ty) (c : CellData) (rows : ℕ) → Ready frame.ids (constant_piece t c rows) → Again frame (constant_piece t c rows)
constant_whole frame t c rows ready =
    let p : ChunkData = constant_piece t c rows in
    let n : Head = head_of frame.ids p in
    let text : List ℕ = spelling t c in
    let got = placed frame.ids encodings.Constant (own_listed frame.ids encodings.Constant ready.listed) in
    record {
      as_part = λ apart ns bs. at_part frame t n ns (text ∷ bs) encodings.Constant (p, rest_of ns bs) got (constant_again frame.ids t c rows (number frame (rest_of (n ∷ ns) (text ∷ bs))) ns bs ready.sound ready.real);
      whole = λ ns bs. at_whole frame t n ns (text ∷ bs) encodings.Constant (p, rest_of ns bs) got (constant_again frame.ids t c rows (number frame (rest_of (n ∷ ns) (text ∷ bs))) ns bs ready.sound ready.real);
    }

dict_whole : (frame : Frame) (codes values : ChunkData) → Ready frame.ids (dict_piece codes values) → Again frame (dict_piece codes values)
dict_whole frame codes values ready =
    let ctx : List EncodingId = frame.ids in
    let p : ChunkData = dict_piece codes values in
    let t : Ty = piece_type values in
    let n : Head = head_of ctx p in
    let known = of_dict codes values ready.sound in
    let parts = none_of (own_refusal ctx encodings.Dict) _ ready.listed in
    let below = none_of (refused ctx codes) (refused ctx values) parts.1 in
    let codes_ready : Ready ctx codes = record { sound = known.codes_sound; real = (and_parts (is_real codes) _ ready.real).0; listed = below.0 } in
    let values_ready : Ready ctx values = record { sound = known.values_sound; real = (and_parts (is_real codes) _ ready.real).1; listed = below.1 } in
    let got = placed ctx encodings.Dict (own_listed ctx encodings.Dict parts.0) in
    record {
      as_part = λ apart ns bs.
          let nodes : List Head = (heads ctx codes ++ heads ctx values) ++ ns in
          let texts : List (List ℕ) = (buffers codes ++ buffers values) ++ bs in
          at_part frame t n nodes texts encodings.Dict (p, rest_of ns bs) got (dict_again frame codes values (number frame (rest_of (n ∷ nodes) texts)) ns bs codes_ready values_ready known.codes_simple known.values_simple known.code_type known.dict_type known.places);
      whole = λ ns bs.
          let nodes : List Head = (heads ctx codes ++ heads ctx values) ++ ns in
          let texts : List (List ℕ) = (buffers codes ++ buffers values) ++ bs in
          at_whole frame t n nodes texts encodings.Dict (p, rest_of ns bs) got (dict_again frame codes values (number frame (rest_of (n ∷ nodes) texts)) ns bs codes_ready values_ready known.codes_simple known.values_simple known.code_type known.dict_type known.places);
    }

chunked_whole : (frame : Frame) (t : Ty) (ps : ChunkList) → Ready frame.ids (chunked_piece t ps) → AllByRecursion (Again frame) (pieces_in ps) → Again frame (chunked_piece t ps)
chunked_whole frame t ps ready agains =
    let ctx : List EncodingId = frame.ids in
    let p : ChunkData = chunked_piece t ps in
    let n : Head = head_of ctx p in
    let got = placed ctx encodings.Chunked (own_listed ctx encodings.Chunked (none_of (own_refusal ctx encodings.Chunked) _ ready.listed).0) in
    record {
      as_part = λ apart ns bs. absurd cc;
      whole = λ ns bs.
          let nodes : List Head = heads_below ctx ps ++ ns in
          let texts : List (List ℕ) = buffers_below ps ++ bs in
          at_whole frame t n nodes texts encodings.Chunked (p, rest_of ns bs) got (chunked_again frame t ps (number frame (rest_of (n ∷ nodes) texts)) ns bs agains (of_chunked t ps ready.sound).parts);
    }

list_whole : (frame : Frame) (t : Ty) (e : ChunkData) (offsets : List ℕ) (valid : List Bool) → Ready frame.ids (list_piece t e offsets valid) → WholeAgain frame e → Again frame (list_piece t e offsets valid)
list_whole frame (list u m) e offsets valid ready whole =
    let ctx : List EncodingId = frame.ids in
    let t : Ty = list u m in
    let p : ChunkData = list_piece t e offsets valid in
    let n : Head = head_of ctx p in
    let known = of_list t e offsets valid ready.sound in
    let kind : u ≡ piece_type e = (ty_eq_decides u (piece_type e)).0 known.elements in
    let few = rows_fit e known.elements_sound in
    let flags = flags_for t (length offsets - 1) valid known.flags in
    let got = placed ctx encodings.List (own_listed ctx encodings.List (none_of (own_refusal ctx encodings.List) _ ready.listed).0) in
    record {
      as_part = λ apart ns bs.
          let nodes : List Head = heads ctx e ++ ns in
          let texts : List (List ℕ) = (own_buffers p ++ buffers e) ++ bs in
          at_part frame t n nodes texts encodings.List (p, rest_of ns bs) got (list_again frame u m e offsets valid (number frame (rest_of (n ∷ nodes) texts)) ns bs whole kind few known.ascend known.some flags);
      whole = λ ns bs.
          let nodes : List Head = heads ctx e ++ ns in
          let texts : List (List ℕ) = (own_buffers p ++ buffers e) ++ bs in
          at_whole frame t n nodes texts encodings.List (p, rest_of ns bs) got (list_again frame u m e offsets valid (number frame (rest_of (n ∷ nodes) texts)) ns bs whole kind few known.ascend known.some flags);
    }
list_whole frame t e offsets valid ready whole = absurd (let h = (of_list t e offsets valid ready.sound).elements in cc)

struct_whole : (frame : Frame) (t : Ty) (ps : ChunkList) (valid : List Bool) (rows : ℕ) → Ready frame.ids (struct_piece t ps valid rows) → AllByRecursion (Again frame) (pieces_in ps) → Again frame (struct_piece t ps valid rows)
struct_whole frame (struct fs m) ps valid rows ready agains =
    let ctx : List EncodingId = frame.ids in
    let t : Ty = struct fs m in
    let p : ChunkData = struct_piece t ps valid rows in
    let n : Head = head_of ctx p in
    let known = of_struct t ps valid rows ready.sound in
    let flags = flags_for t rows valid known.flags in
    let got = placed ctx encodings.Struct (own_listed ctx encodings.Struct (none_of (own_refusal ctx encodings.Struct) _ ready.listed).0) in
    record {
      as_part = λ apart ns bs.
          let nodes : List Head = heads_below ctx ps ++ ns in
          let texts : List (List ℕ) = (own_buffers p ++ buffers_below ps) ++ bs in
          at_part frame t n nodes texts encodings.Struct (p, rest_of ns bs) got (struct_again frame fs m ps valid rows (number frame (rest_of (n ∷ nodes) texts)) ns bs agains known.fields flags);
      whole = λ ns bs.
          let nodes : List Head = heads_below ctx ps ++ ns in
          let texts : List (List ℕ) = (own_buffers p ++ buffers_below ps) ++ bs in
          at_whole frame t n nodes texts encodings.Struct (p, rest_of ns bs) got (struct_again frame fs m ps valid rows (number frame (rest_of (n ∷ nodes) texts)) ns bs agains known.fields flags);
    }
struct_whole frame t ps valid rows ready agains = absurd (let h = (of_struct t ps valid rows ready.sound).fields in cc)

extension_whole : (frame : Frame) (t : Ty) (e : ChunkData) → Ready frame.ids (extension_piece t e) → WholeAgain frame e → Again frame (extension_piece t e)
extension_whole frame (extension tag u) e ready whole =
    let ctx : List EncodingId = frame.ids in
    let t : Ty = extension tag u in
    let p : ChunkData = extension_piece t e in
    let n : Head = head_of ctx p in
    let kind : u ≡ piece_type e = (ty_eq_decides u (piece_type e)).0 (of_extension t e ready.sound).storage in
    let got = placed ctx encodings.Extension (own_listed ctx encodings.Extension (none_of (own_refusal ctx encodings.Extension) _ ready.listed).0) in
    record {
      as_part = λ apart ns bs.
          let nodes : List Head = heads ctx e ++ ns in
          let texts : List (List ℕ) = buffers e ++ bs in
          at_part frame t n nodes texts encodings.Extension (p, rest_of ns bs) got (extension_again frame tag u e (number frame (rest_of (n ∷ nodes) texts)) ns bs whole kind);
      whole = λ ns bs.
          let nodes : List Head = heads ctx e ++ ns in
          let texts : List (List ℕ) = buffers e ++ bs in
          at_whole frame t n nodes texts encodings.Extension (p, rest_of ns bs) got (extension_again frame tag u e (number frame (rest_of (n ∷ nodes) texts)) ns bs whole kind);
    }
extension_whole frame t e ready whole = absurd (let h = (of_extension t e ready.sound).storage in cc)

mutual
  pub again_of : (frame : Frame) (p : ChunkData) → Ready frame.ids p → Again frame p
  again_of frame (plain_piece t cs) ready = plain_whole frame t cs ready
  again_of frame (constant_piece t c rows) ready = constant_whole frame t c rows ready
  again_of frame (dict_piece codes values) ready = dict_whole frame codes values ready
  again_of frame (chunked_piece t ps) ready =
      chunked_whole frame t ps ready (agains_of frame ps (record { sound = (of_chunked t ps ready.sound).parts_sound; real = ready.real; listed = (none_of (own_refusal frame.ids encodings.Chunked) _ ready.listed).1 }))
  again_of frame (list_piece t e offsets valid) ready =
      list_whole frame t e offsets valid ready (again_of frame e (record { sound = (of_list t e offsets valid ready.sound).elements_sound; real = ready.real; listed = (none_of (own_refusal frame.ids encodings.List) _ ready.listed).1 })).whole
  again_of frame (struct_piece t ps valid rows) ready =
      struct_whole frame t ps valid rows ready (agains_of frame ps (record { sound = (of_struct t ps valid rows ready.sound).fields_sound; real = ready.real; listed = (none_of (own_refusal frame.ids encodings.Struct) _ ready.listed).1 }))
  again_of frame (extension_piece t e) ready =
      extension_whole frame t e ready (again_of frame e (record { sound = (of_extension t e ready.sound).storage_sound; real = ready.real; listed = (none_of (own_refusal frame.ids encodings.Extension) _ ready.listed).1 })).whole

  agains_of : (frame : Frame) (ps : ChunkList) → ReadyAll frame.ids ps → AllByRecursion (Again frame) (pieces_in ps)
  agains_of frame no_pieces ready = tt
  agains_of frame (part p ps) ready =
      let listed = none_of (refused frame.ids p) (refused_below frame.ids ps) ready.listed in
      (again_of frame p (record { sound = (and_parts (is_sound p) _ ready.sound).0; real = (and_parts (is_real p) _ ready.real).0; listed = listed.0 }), agains_of frame ps (record { sound = (and_parts (is_sound p) _ ready.sound).1; real = (and_parts (is_real p) _ ready.real).1; listed = listed.1 }))
