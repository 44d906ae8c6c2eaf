-- Layouts as trees of numbers, one to one: by this a proof tells two layouts apart.
use Rattle.std.specs.Prelude.{◌≡◌, ℕ, zero, suc, false, List, [], ◌∷◌, Option, Some, None, refl}
use Rattle.std.specs.Coded.{Coded, code_by}
use base.Stored.{Gv, gnil, gnum, gcons}
use denote.Struct.Codes.{itself}
use Rattle.vx_model.specs.declared.encoding.EncodingId.{EncodingId}
use Rattle.vx_model.specs.declared.encoding.EncodingId.TheVariants as encodings
use Rattle.vx_model.specs.Ty.{boolean}
use Rattle.vx_layout_spec.specs.Refusal.{Refusal, bad_grammar, too_deep, too_many_nodes, unknown_index, unregistered, not_permitted, child_count, child_type, other_rows, segment_count, bad_metadata, unknown_aggregate, slot_range, field_not_found, no_list, no_struct}
use Rattle.vx_layout_spec.specs.LayoutTree.{Spec, Kind, flat_kind, chunked_kind, struct_kind, list_kind, dict_kind, zoned_kind, unread_zoned_kind, stats_kind, foreign_kind, refused_kind, LayoutData, LayoutList, layout, no_layouts, child}
use Rattle.vx_model.specs.Numbers.{encoding_number}
use Rattle.vx_model.specs.Codes.{flag, flag_of, flag_back, number_of, numbers, numbers_of, numbers_back, ty_code, ty_of, ty_back}

-- ---- refusals: those of a number, of bytes, of two numbers, of two types, and of nothing

abbrev pub refusal : Refusal → Gv
refusal (bad_grammar n) = gcons (gnum 0) (gcons (gnum 0) (gnum n))
refusal (too_deep n) = gcons (gnum 0) (gcons (gnum 1) (gnum n))
refusal (too_many_nodes n) = gcons (gnum 0) (gcons (gnum 2) (gnum n))
refusal (unknown_index n) = gcons (gnum 0) (gcons (gnum 3) (gnum n))
refusal (segment_count n) = gcons (gnum 0) (gcons (gnum 4) (gnum n))
refusal (unregistered s) = gcons (gnum 1) (gcons (gnum 0) (numbers s))
refusal (not_permitted s) = gcons (gnum 1) (gcons (gnum 1) (numbers s))
refusal (bad_metadata s) = gcons (gnum 1) (gcons (gnum 2) (numbers s))
refusal (unknown_aggregate s) = gcons (gnum 1) (gcons (gnum 3) (numbers s))
refusal (field_not_found s) = gcons (gnum 1) (gcons (gnum 4) (numbers s))
refusal (child_count a b) = gcons (gnum 2) (gcons (gnum 0) (gcons (gnum a) (gnum b)))
refusal (other_rows a b) = gcons (gnum 2) (gcons (gnum 1) (gcons (gnum a) (gnum b)))
refusal (slot_range a b) = gcons (gnum 2) (gcons (gnum 2) (gcons (gnum a) (gnum b)))
refusal (child_type t u) = gcons (gnum 3) (gcons (ty_code t) (ty_code u))
refusal no_list = gcons (gnum 4) gnil
refusal no_struct = gcons (gnum 5) gnil

abbrev pub of_number : Gv → ℕ → Refusal
of_number (gnum zero) n = bad_grammar n
of_number (gnum (suc zero)) n = too_deep n
of_number (gnum (suc (suc zero))) n = too_many_nodes n
of_number (gnum (suc (suc (suc zero)))) n = unknown_index n
of_number g n = segment_count n

abbrev pub of_bytes : Gv → List ℕ → Refusal
of_bytes (gnum zero) s = unregistered s
of_bytes (gnum (suc zero)) s = not_permitted s
of_bytes (gnum (suc (suc zero))) s = bad_metadata s
of_bytes (gnum (suc (suc (suc zero)))) s = unknown_aggregate s
of_bytes g s = field_not_found s

abbrev pub of_pair : Gv → ℕ → ℕ → Refusal
of_pair (gnum zero) a b = child_count a b
of_pair (gnum (suc zero)) a b = other_rows a b
of_pair g a b = slot_range a b

abbrev pub refusal_of : Gv → Refusal
refusal_of (gcons (gnum zero) (gcons k n)) = of_number k (number_of n)
refusal_of (gcons (gnum (suc zero)) (gcons k s)) = of_bytes k (numbers_of s)
refusal_of (gcons (gnum (suc (suc zero))) (gcons k (gcons a b))) = of_pair k (number_of a) (number_of b)
refusal_of (gcons (gnum (suc (suc (suc zero)))) (gcons t u)) = child_type (ty_of t) (ty_of u)
refusal_of (gcons (gnum (suc (suc (suc (suc zero))))) g) = no_list
refusal_of g = no_struct

pub refusal_back : (r : Refusal) → refusal_of (refusal r) ≡ r
refusal_back (bad_grammar n) = refl
refusal_back (too_deep n) = refl
refusal_back (too_many_nodes n) = refl
refusal_back (unknown_index n) = refl
refusal_back (segment_count n) = refl
refusal_back (unregistered s) = cc (numbers_back s)
refusal_back (not_permitted s) = cc (numbers_back s)
refusal_back (bad_metadata s) = cc (numbers_back s)
refusal_back (unknown_aggregate s) = cc (numbers_back s)
refusal_back (field_not_found s) = cc (numbers_back s)
refusal_back (child_count a b) = refl
refusal_back (other_rows a b) = refl
refusal_back (slot_range a b) = refl
refusal_back (child_type t u) = cc (ty_back t, ty_back u)
refusal_back no_list = refl
refusal_back no_struct = refl

-- ---- kinds

abbrev pub encoding_of : Gv → EncodingId
encoding_of (gnum zero) = encodings.Plain
encoding_of (gnum (suc zero)) = encodings.Constant
encoding_of (gnum (suc (suc zero))) = encodings.Dict
encoding_of (gnum (suc (suc (suc zero)))) = encodings.Chunked
encoding_of (gnum (suc (suc (suc (suc zero))))) = encodings.List
encoding_of (gnum (suc (suc (suc (suc (suc zero)))))) = encodings.Struct
encoding_of g = encodings.Extension

pub encoding_back : (e : EncodingId) → encoding_of (gnum (encoding_number e)) ≡ e
encoding_back encodings.Plain = refl
encoding_back encodings.Constant = refl
encoding_back encodings.Dict = refl
encoding_back encodings.Chunked = refl
encoding_back encodings.List = refl
encoding_back encodings.Struct = refl
encoding_back encodings.Extension = refl

abbrev pub ids : List EncodingId → Gv
ids [] = gnil
ids (e ∷ es) = gcons (gnum (encoding_number e)) (ids es)

abbrev pub ids_of : Gv → List EncodingId
ids_of (gcons a b) = encoding_of a ∷ ids_of b
ids_of g = []

pub ids_back : (es : List EncodingId) → ids_of (ids es) ≡ es
ids_back [] = refl
ids_back (e ∷ es) = cc (encoding_back e, ids_back es)

abbrev pub maybe : Option (List ℕ) → Gv
maybe None = gnil
maybe (Some s) = gcons gnil (numbers s)

abbrev pub maybe_of : Gv → Option (List ℕ)
maybe_of (gcons a b) = Some (numbers_of b)
maybe_of g = None

pub maybe_back : (o : Option (List ℕ)) → maybe_of (maybe o) ≡ o
maybe_back None = refl
maybe_back (Some s) = cc (numbers_back s)

abbrev pub spec_of : Gv → Gv → Spec
spec_of a b = record { id = numbers_of a; options = numbers_of b }

abbrev pub specs : List Spec → Gv
specs [] = gnil
specs (s ∷ ss) = gcons (gcons (numbers s.id) (numbers s.options)) (specs ss)

abbrev pub specs_of : Gv → List Spec
specs_of (gcons (gcons a b) c) = spec_of a b ∷ specs_of c
specs_of g = []

pub specs_back : (ss : List Spec) → specs_of (specs ss) ≡ ss
specs_back [] = refl
specs_back (s ∷ ss) = rw (numbers_back s.id, numbers_back s.options, specs_back ss) refl

abbrev pub kind_code : Kind → Gv
kind_code (flat_kind es tree) = gcons (gnum 0) (gcons (ids es) (maybe tree))
kind_code chunked_kind = gcons (gnum 1) gnil
kind_code struct_kind = gcons (gnum 2) gnil
kind_code list_kind = gcons (gnum 3) gnil
kind_code (dict_kind all) = gcons (gnum 4) (flag all)
kind_code (zoned_kind n ss) = gcons (gnum 5) (gcons (gnum n) (specs ss))
kind_code (stats_kind n ss) = gcons (gnum 6) (gcons (gnum n) (numbers ss))
kind_code (foreign_kind id metadata) = gcons (gnum 7) (gcons (numbers id) (numbers metadata))
kind_code (unread_zoned_kind metadata) = gcons (gnum 8) (numbers metadata)
kind_code (refused_kind is_flat r) = gcons (gnum 9) (gcons (flag is_flat) (refusal r))

abbrev pub kind_of : Gv → Kind
kind_of (gcons (gnum zero) (gcons es tree)) = flat_kind (ids_of es) (maybe_of tree)
kind_of (gcons (gnum (suc zero)) g) = chunked_kind
kind_of (gcons (gnum (suc (suc zero))) g) = struct_kind
kind_of (gcons (gnum (suc (suc (suc zero)))) g) = list_kind
kind_of (gcons (gnum (suc (suc (suc (suc zero))))) all) = dict_kind (flag_of all)
kind_of (gcons (gnum (suc (suc (suc (suc (suc zero)))))) (gcons n ss)) = zoned_kind (number_of n) (specs_of ss)
kind_of (gcons (gnum (suc (suc (suc (suc (suc (suc zero))))))) (gcons n ss)) = stats_kind (number_of n) (numbers_of ss)
kind_of (gcons (gnum (suc (suc (suc (suc (suc (suc (suc zero)))))))) (gcons id metadata)) = foreign_kind (numbers_of id) (numbers_of metadata)
kind_of (gcons (gnum (suc (suc (suc (suc (suc (suc (suc (suc zero))))))))) metadata) = unread_zoned_kind (numbers_of metadata)
kind_of (gcons (gnum (suc (suc (suc (suc (suc (suc (suc (suc (suc k)))))))))) (gcons is_flat r)) = refused_kind (flag_of is_flat) (refusal_of r)
kind_of g = chunked_kind

pub kind_back : (k : Kind) → kind_of (kind_code k) ≡ k
kind_back (flat_kind es tree) = cc (ids_back es, maybe_back tree)
kind_back chunked_kind = refl
kind_back struct_kind = refl
kind_back list_kind = refl
kind_back (dict_kind all) = cc (flag_back all)
kind_back (zoned_kind n ss) = cc (specs_back ss)
kind_back (stats_kind n ss) = cc (numbers_back ss)
kind_back (foreign_kind id metadata) = cc (numbers_back id, numbers_back metadata)
kind_back (unread_zoned_kind metadata) = cc (numbers_back metadata)
kind_back (refused_kind is_flat r) = cc (flag_back is_flat, refusal_back r)

-- ---- layouts

abbrev mutual
  pub to_code : LayoutData ℕ → Gv
  to_code (layout k t n names ls) = gcons (kind_code k) (gcons (ty_code t) (gcons (gnum n) (gcons (numbers names) (to_codes ls))))

  pub to_codes : LayoutList ℕ → Gv
  to_codes no_layouts = gnil
  to_codes (child l ls) = gcons (to_code l) (to_codes ls)

abbrev mutual
  pub of_code : Gv → LayoutData ℕ
  of_code (gcons k (gcons t (gcons n (gcons names ls)))) = layout (kind_of k) (ty_of t) (number_of n) (numbers_of names) (of_codes ls)
  of_code g = layout chunked_kind (boolean false) 0 [] no_layouts

  pub of_codes : Gv → LayoutList ℕ
  of_codes (gcons l ls) = child (of_code l) (of_codes ls)
  of_codes g = no_layouts

mutual
  pub code_back : (l : LayoutData ℕ) → of_code (to_code l) ≡ l
  code_back (layout k t n names ls) = cc (kind_back k, ty_back t, numbers_back names, codes_back ls)

  pub codes_back : (ls : LayoutList ℕ) → of_codes (to_codes ls) ≡ ls
  codes_back no_layouts = refl
  codes_back (child l ls) = cc (code_back l, codes_back ls)

abbrev pub lay_code : Coded (LayoutData ℕ)
lay_code = code_by Gv itself to_code of_code code_back
