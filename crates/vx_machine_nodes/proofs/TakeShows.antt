-- What the take of a chunk or of the end does, against the same in plain data.
use Rattle.std.proofs.Common.{◌≡◌, ◌+◌, ◌^◌, ◌<◌, not, if◌then◌else◌, ℕ, suc, Bool, true, false, List, [], ◌∷◌, ◌++◌, length, Option, Some, None, Result, Ok, Err, IfOk, IfErr, refl, sym, ap, subst, ◌∙◌, append_assoc, arith}
use Rattle.std.proofs.lemmas.Bool.{true≢false}
use Rattle.std.proofs.lemmas.List.{map_push}
use Rattle.std.specs.Arc.{arc_value}
use Rattle.vx_path.specs.Path.{next}
use Rattle.vx_model.specs.declared.encoding.EncodingId.{EncodingId}
use Rattle.vx_model.specs.Ty.{Ty, boolean, primitive, utf8, binary, list, struct, extension, nullable, is_list, ty_eq}
use Rattle.vx_model.specs.TyLaws.{ty_eq_decides}
use Rattle.vx_model.specs.TyView.{ty}
use Rattle.vx_model.specs.ChunkData.{ChunkData, piece_type, cells}
use Rattle.vx_chunk_cells.specs.Parts.{element_type}
use Rattle.vx_rules.specs.Columns.{list_columns}
use Rattle.vx_split.specs.ListState.{behind, elements_to}
use Rattle.vx_segment_writer.specs.Segment.{encode, refused, bytes_unless, tree_bytes, segment_bytes}
use Rattle.vx_segment_writer.specs.Encoding.{HasEncodeCause}
use Rattle.vx_segment_writer.specs.declared.error.EncodeError.{EncodeError}
use Rattle.vx_segment_writer.specs.declared.error.EncodeError.TheVariants as encoding
use Rattle.vx_sink.specs.declared.context.LayoutWriterContext.{LayoutWriterContext}
use Rattle.vx_sink.specs.ContextView.{listed}
use Rattle.vx_plan.specs.PlanData.{Setting}
use Rattle.vx_plan.specs.FlatNode.{segment, inlined, length_of}
use Rattle.vx_strategy.specs.FlatViews.{flat_options}
use Rattle.vx_machine_turns.specs.Flat.{forbidden}
use Rattle.vx_machine_state.specs.State.{Next, shut_kids, join_kids, one_chunk, by_column, by_list, ending, fold_columns, Tasks}
use Rattle.vx_machine_state.specs.Acts.{Did, stored, columns_in, column_count, puts, end_lists}
use Rattle.vx_write_answer.specs.Causes.{of_encode}
use Rattle.vx_write_answer.specs.declared.error.WriteError.{WriteError}
use Rattle.vx_write_answer.specs.declared.error.WriteError.TheVariants.{ManyChunks, EmptyList}
use Rattle.vx_machine_node.specs.declared.item.Due.{Due}
use Rattle.vx_machine_node.specs.declared.item.Item.{Item}
use Rattle.vx_machine_node.specs.declared.item.Segment.{Segment}
use Rattle.vx_machine_node.specs.declared.kinds.FlatNode.{FlatNode}
use Rattle.vx_machine_node.specs.declared.kinds.ListsNode.{ListsNode}
use Rattle.vx_machine_node.specs.declared.node.Local.{Local}
use Rattle.vx_machine_node.specs.declared.node.Local.TheVariants.{Empty, Full, Chunked, Columns, Lists, Grouped, Zoned, Pressing, AsIs, Probe, Asking, Runs, Over, Passing, Made}
use Rattle.vx_machine_nodes.specs.Acting.{bare, taken, Took, TakeRefused, tree_kept, IsStored, WordRefused, first_word, SplitRefused, ListRefused, is_flat, Ended, EndTaken, EndRefused}
use Rattle.vx_machine_node.specs.Context.{setting_of}
use Rattle.vx_machine_node.specs.Outcome.{AllFit}
use Rattle.vx_machine_node.specs.View.{item_of, next_of, todo_of, mind_of}
use Rattle.vx_machine_node.proofs.Fitting.{none_fit, then_fit, one_fits}
use Rattle.vx_machine_nodes.proofs.RefusalSteps.{by_word, by_split, by_lists}

-- ---- a flat node's

allowed : (ids : List EncodingId) (padded : Bool) (p : ChunkData) (first : Option EncodingId) (b : List ℕ) → first ≡ refused ids p
    → bytes_unless first (segment_bytes ids padded p) ≡ Some b → forbidden first ≡ None
allowed ids padded p None b is h = refl
allowed ids padded p (Some e) b is h = cc

pub listed_all : (ids : List EncodingId) (padded : Bool) (p : ChunkData) (b : List ℕ) → encode ids padded p ≡ Some b → forbidden (refused ids p) ≡ None
listed_all ids padded p b h = allowed ids padded p (refused ids p) b refl h

module _ (ctx : LayoutWriterContext) (image : ℕ → ChunkData → ChunkData) (name : List ℕ) (ks : Tasks) (i : Item) (todo : List Next) where
  flat_from : (n : FlatNode) (x : Segment) → IsStored (listed ctx) n i.chunk x
      → Took (taken (setting_of ctx image) name ks (item_of i) (mind_of (Empty n))) (mind_of (Full (record { id = i.id; segment = x }))) todo todo ks
  flat_from n x s = record {
    unrefused = listed_all (listed ctx) n.options.include_padding i.chunk x.bytes.items s.bytes;
    fits = refl;
    mind_is = (λ j. one_chunk (record { id = i.id; bytes = x.bytes.items; tree = s.tree j; rows = s.rows j; type = s.type j }))
        ∙ ap (stored (ty (arc_value n.dtype)) (item_of i) (inlined (setting_of ctx image) (flat_options n.options) (item_of i))) (sym s.bytes);
    todo_is = refl;
    kids_are = refl;
    counted = subst (λ z. AllFit ((length (cells i.chunk) ∷ length_of z) ++ [])) (sym s.bytes) s.counted;
  }

  -- the first chunk is stored
  pub flat_took : (l m : Local) (n : FlatNode) (x : Segment) → l ≡ Empty n → m ≡ Full (record { id = i.id; segment = x }) → IsStored (listed ctx) n i.chunk x
      → Took (taken (setting_of ctx image) name ks (item_of i) (mind_of l)) (mind_of m) todo todo ks
  flat_took l m n x a b s =
      subst (λ z. Took (taken (setting_of ctx image) name ks (item_of i) (mind_of z)) (mind_of m) todo todo ks) (sym a)
      (subst (λ z. Took (taken (setting_of ctx image) name ks (item_of i) (mind_of (Empty n))) (mind_of z) todo todo ks) (sym b) (flat_from n x s))

  -- a chunk with an encoding that isn't listed is refused, and so is a second one
  pub flat_why : (l : Local) (e : WriteError) → is_flat l ≡ true → WordRefused (first_word (refused (listed ctx) i.chunk) l) e → TakeRefused (taken (setting_of ctx image) name ks (item_of i) (mind_of l)) e
  flat_why (Empty n) e f h =
      by_word (forbidden (refused (listed ctx) i.chunk)) (length (cells i.chunk) ∷ length_of (segment (setting_of ctx image) (flat_options n.options) (item_of i))) [] e h
  flat_why (Full x) e f h = h
  flat_why (Chunked n eof rows) e f h = absurd (true≢false (sym f))
  flat_why (Columns n rows) e f h = absurd (true≢false (sym f))
  flat_why (Lists n rows) e f h = absurd (true≢false (sym f))
  flat_why (Grouped n) e f h = absurd (true≢false (sym f))
  flat_why (Zoned n) e f h = absurd (true≢false (sym f))
  flat_why (Pressing which) e f h = absurd (true≢false (sym f))
  flat_why AsIs e f h = absurd (true≢false (sym f))
  flat_why (Probe n eof) e f h = absurd (true≢false (sym f))
  flat_why Asking e f h = absurd (true≢false (sym f))
  flat_why (Runs r) e f h = absurd (true≢false (sym f))
  flat_why Passing e f h = absurd (true≢false (sym f))
  flat_why Over e f h = absurd (true≢false (sym f))
  flat_why (Made x) e f h = absurd (true≢false (sym f))

encode_why : (first : Option EncodingId) (e : EncodeError) → HasEncodeCause first e → WordRefused (forbidden first) (of_encode e)
encode_why first (encoding.EncodingNotListed id) h = ap forbidden h
encode_why first encoding.OutOfMemory h = tt

-- under the listed encodings
pub store_refused : (ids all : List EncodingId) (p : ChunkData) (e : EncodeError) → ids ≡ all → HasEncodeCause (refused ids p) e → WordRefused (forbidden (refused all p)) (of_encode e)
store_refused ids all p e is h = encode_why (refused all p) e (subst (λ z. HasEncodeCause (refused z p) e) is h)

pub none_kept : (ids : List EncodingId) (n : FlatNode) (p : ChunkData) → n.options.inline_array_node ≡ false → None ≡ tree_kept ids n p
none_kept ids n p e = ap (λ b. if b then Some (tree_bytes ids n.options.include_padding p) else None) (sym e)

pub tree_is_kept : (ids : List EncodingId) (n : FlatNode) (p : ChunkData) (tree : List ℕ) → n.options.inline_array_node ≡ true → tree ≡ tree_bytes ids n.options.include_padding p → Some tree ≡ tree_kept ids n p
tree_is_kept ids n p tree e is = ap (λ t. Some t) is ∙ ap (λ b. if b then Some (tree_bytes ids n.options.include_padding p) else None) (sym e)

pub first_stored : (ids : List EncodingId) (p : ChunkData) (l : Local) (n : FlatNode) (r : Result Segment WriteError) → l ≡ Empty n → IfOk r (IsStored ids n p)
    → IfOk r (λ x. (k : FlatNode) × (l ≡ Empty k) × IsStored ids k p x)
first_stored ids p l n (Ok x) e h = (n, e, h)
first_stored ids p l n (Err x) e h = tt

pub first_why : (first : Option EncodingId) (l : Local) (n : FlatNode) (r : Result Segment WriteError) → l ≡ Empty n → IfErr r (WordRefused (forbidden first)) → IfErr r (WordRefused (first_word first l))
first_why first l n r e h = subst (λ z. IfErr r (WordRefused (first_word first z))) (sym e) h

pub second_why : (first : Option EncodingId) (l : Local) → ((n : FlatNode) → l ≡ Empty n → ⊥) → WordRefused (first_word first l) ManyChunks
second_why first (Empty n) h = absurd (h n refl)
second_why first (Full x) h = refl
second_why first (Chunked n eof rows) h = refl
second_why first (Columns n rows) h = refl
second_why first (Lists n rows) h = refl
second_why first (Grouped n) h = refl
second_why first (Zoned n) h = refl
second_why first (Pressing which) h = refl
second_why first AsIs h = refl
second_why first (Probe n eof) h = refl
second_why first Asking h = refl
second_why first (Runs r) h = refl
second_why first Passing h = refl
second_why first Over h = refl
second_why first (Made x) h = refl

-- ---- a struct node's

module _ (s : Setting) (name : List ℕ) (ks : Tasks) (i : Item) (t : Ty) (rows : ℕ) where
  pub columns_took : (now_rows : ℕ) (todo before : List Next) (xs : List ChunkData) → ty_eq (piece_type i.chunk) t ≡ true → now_rows ≡ rows + length (cells i.chunk)
      → rows + length (cells i.chunk) < 2 ^ 64 → column_count t < 2 ^ 64 → xs ≡ columns_in t i.chunk → todo ≡ puts 0 i.id xs ++ before → Took (taken s name ks (item_of i) (by_column t rows)) (by_column t now_rows) todo before ks
  columns_took now_rows todo before xs typed sum fits few is put = record {
    unrefused = refl;
    fits = ap not typed;
    mind_is = ap (by_column t) sum;
    todo_is = put ∙ ap (λ z. puts 0 i.id z ++ before) is;
    kids_are = refl;
    counted = then_fit (rows + length (cells i.chunk)) (column_count t ∷ []) fits (one_fits (column_count t) few);
  }

  pub columns_why : (e : WriteError) → SplitRefused (not (ty_eq (piece_type i.chunk) t)) (rows + length (cells i.chunk)) e → TakeRefused (taken s name ks (item_of i) (by_column t rows)) e
  columns_why e h = by_split (not (ty_eq (piece_type i.chunk) t)) (rows + length (cells i.chunk)) (column_count t ∷ []) e h

-- ---- a list node's

-- a list's type by its parts
pub list_parts : (t : Ty) → is_list t ≡ true → list (element_type t) (nullable t) ≡ t
list_parts (list u n) h = refl
list_parts (boolean n) h = absurd (true≢false (sym h))
list_parts (primitive p n) h = absurd (true≢false (sym h))
list_parts (utf8 n) h = absurd (true≢false (sym h))
list_parts (binary n) h = absurd (true≢false (sym h))
list_parts (struct fs n) h = absurd (true≢false (sym h))
list_parts (extension tag u) h = absurd (true≢false (sym h))

few_columns : (t : Ty) (n : Bool) → column_count (list t n) < 2 ^ 64
few_columns t true = omega arith
few_columns t false = omega arith

module _ (s : Setting) (name : List ℕ) (ks : Tasks) (i : Item) (n : ListsNode) (rows : ℕ) where
  abbrev typed : Ty
  typed = ty (arc_value n.dtype)

  abbrev parts : Ty
  parts = list (element_type typed) (nullable typed)

  abbrev longer : ℕ
  longer = rows + length (cells i.chunk)

  pub lists_took : (m : ListsNode) (now_rows : ℕ) (todo before : List Next) (xs : List ChunkData) → m.dtype ≡ n.dtype → piece_type i.chunk ≡ typed → m.split ≡ behind n.split i.chunk
      → now_rows ≡ longer → longer + 1 < 2 ^ 64 → elements_to n.split i.chunk < 2 ^ 64 → xs ≡ list_columns (element_type typed) (nullable typed) n.split.first n.split.base i.chunk
      → todo ≡ puts 0 i.id xs ++ before → Took (taken s name ks (item_of i) (mind_of (Lists n rows))) (mind_of (Lists m now_rows)) todo before ks
  lists_took m now_rows todo before xs same fit next sum far few is put = record {
    unrefused = refl;
    fits = ap not ((ty_eq_decides (piece_type i.chunk) parts).1 (fit ∙ sym (list_parts typed n.lists)));
    mind_is = λ j. by_list (element_type (ty (arc_value (same j)))) (nullable (ty (arc_value (same j)))) ((next j).first) ((next j).base) (sum j);
    todo_is = put ∙ ap (λ z. puts 0 i.id z ++ before) is;
    kids_are = refl;
    counted = then_fit longer (suc longer ∷ elements_to n.split i.chunk ∷ column_count parts ∷ []) (omega (arith, far))
        (then_fit (suc longer) (elements_to n.split i.chunk ∷ column_count parts ∷ []) (omega (arith, far))
        (then_fit (elements_to n.split i.chunk) (column_count parts ∷ []) few (one_fits (column_count parts) (few_columns (element_type typed) (nullable typed)))));
  }

  pub lists_why : (e : WriteError) → ListRefused (not (ty_eq (piece_type i.chunk) typed)) (longer ∷ suc longer ∷ elements_to n.split i.chunk ∷ []) e
      → TakeRefused (taken s name ks (item_of i) (mind_of (Lists n rows))) e
  lists_why e h = by_lists (not (ty_eq (piece_type i.chunk) typed)) (not (ty_eq (piece_type i.chunk) parts)) (longer ∷ suc longer ∷ elements_to n.split i.chunk ∷ []) (column_count parts ∷ []) e
      (λ k. ap (λ z. not (ty_eq (piece_type i.chunk) z)) (list_parts typed n.lists) ∙ k) h

-- ---- the end

pub two_more : (xs ys zs : List Due) (d e : Due) → ys ≡ xs ++ (d ∷ []) → zs ≡ ys ++ (e ∷ []) → todo_of zs ≡ todo_of xs ++ (next_of d ∷ next_of e ∷ [])
two_more xs ys zs d e a b =
    ap todo_of b ∙ map_push next_of ys e ∙ ap (λ ws. todo_of ws ++ (next_of e ∷ [])) a ∙ ap (λ ws. ws ++ (next_of e ∷ [])) (map_push next_of xs d)
    ∙ append_assoc (todo_of xs) (next_of d ∷ []) (next_of e ∷ [])

-- a list node to which no chunk came refuses the end
module _ (n : ListsNode) (rows kids : ℕ) where
  -- its end, by whether a chunk came
  abbrev ends_by : Bool → Tasks → Did
  ends_by b ks = end_lists b (list (element_type (ty (arc_value n.dtype))) (nullable (ty (arc_value n.dtype)))) rows (bare [] (mind_of (Lists n rows))) ks

  pub lists_end : (m : Local) (todo before : List Next) → n.split.first ≡ false → mind_of m ≡ ending
      → todo ≡ before ++ (shut_kids ∷ join_kids (fold_columns (ty (arc_value n.dtype)) rows) ∷ []) → EndTaken (Lists n rows) kids m todo before
  lists_end m todo before is a e = λ s ks same. subst (λ z. Ended (ends_by z ks) (mind_of m) todo before) (sym is)
      (record { unrefused = refl; fits = refl; counted = none_fit; mind_is = a; todo_is = e ∙ ap (λ t. before ++ (shut_kids ∷ join_kids (fold_columns t rows) ∷ [])) (sym (list_parts (ty (arc_value n.dtype)) n.lists)) })

  pub lists_empty : n.split.first ≡ true → EndRefused (Lists n rows) kids EmptyList
  lists_empty is = λ s ks same. ap (λ z. (ends_by z ks).refusal) is
