-- Layouts that are joined aren't refused, and what is made of them.
use Rattle.std.proofs.Common.{◌≡◌, ◌≢◌, ℕ, ◌+◌, ◌==◌, ◌^◌, ◌≤◌, true, false, List, [], ◌∷◌, ◌++◌, length, vec_len, map, Result, Ok, IfOk, IfErr, Vec, Global, refl, sym, ap, subst, ◌∙◌, inl, inr, arith, length-append, eqb-true, eq-eqb}
use Rattle.std.proofs.lemmas.Bool.{true≢false}
use Rattle.std.proofs.lemmas.List.{length-map}
use Rattle.std.specs.Arc.{arc_value}
use Rattle.std.specs.Int.NonZero.{non_zero_u32_get}
use Rattle.std.specs.declared.sync.Arc.{Arc}
use Rattle.vx_model.specs.Words.{total_by}
use Rattle.vx_model.specs.Ty.{Ty, boolean, primitive, utf8, binary, list, struct, extension, is_struct, is_list}
use Rattle.vx_layout_spec.specs.Refusal.{Refusal}
use Rattle.vx_layout_spec.proofs.LayoutLaws.{map_twice}
use Rattle.vx_layout_spec.specs.LayoutTree.{LayoutData, Spec, layout, list_kind, zoned_kind, lays_of, row_count, chunked_layout, gathered, struct_layout, list_layout}
use Rattle.vx_model.specs.TyView.{ty}
use Rattle.vx_model.specs.declared.dtype.DType.{DType}
use Rattle.vx_model.specs.declared.segment.SegmentId.{SegmentId}
use Rattle.vx_session.specs.Made.{kid_rows}
use Rattle.vx_layout_tree.specs.declared.error.LayoutError.{LayoutError}
use Rattle.vx_layout_tree.specs.declared.error.LayoutError.TheVariants as errors
use Rattle.vx_layout_tree.specs.declared.layout.Layout.{Layout}
use Rattle.vx_layout_tree.specs.declared.layout.Layout.TheVariants as layouts
use Rattle.vx_layout_tree.specs.declared.children.LayoutChildren.{LayoutChildren}
use Rattle.vx_layout_tree.specs.declared.children.LayoutChildren.TheVariants as children
use Rattle.vx_layout_tree.specs.LayoutView.{layout_data, number, seen_layout}
use Rattle.vx_layout_tree.specs.KidsView.{layout_kids, chunks}
use Rattle.vx_layout_tree.specs.Made.{make_chunked, make_struct}
use Rattle.vx_layout_shape.specs.Shape.{struct_children, validity_count}
use Rattle.vx_layout_tree.specs.SpecView.{specs_of}
use Rattle.vx_layout_tree.specs.Views.{Fails}
use Rattle.vx_layout_tree.proofs.KidSteps.{chunk_sum}
use Rattle.vx_aggregate_spec.specs.Aggregate.{spec}
use Rattle.vx_aggregate.specs.AggregateView.{aggregate}
use Rattle.vx_aggregate.specs.declared.aggregate.AggregateFn.{AggregateFn}
use Rattle.vx_machine_state.specs.State.{fold_runs}
use Rattle.vx_machine_state.specs.Acts.{column_count, columns_layout, zones_layout, folded, joined_rows}
use Rattle.vx_write_answer.specs.declared.error.WriteError.{WriteError}
use Rattle.vx_write_answer.specs.declared.error.WriteError.TheVariants.{TooLarge, OutOfMemory}
use Rattle.vx_machine_node.specs.declared.kinds.ColumnsNode.{ColumnsNode}
use Rattle.vx_machine_node.specs.declared.kinds.ListsNode.{ListsNode}
use Rattle.vx_machine_node.specs.declared.dict_node.DictNode.{DictNode}
use Rattle.vx_machine_node.specs.declared.zoned_node.Zones.{Zones}
use Rattle.vx_machine_node.specs.declared.node.Shape.{Shape}
use Rattle.vx_machine_node.specs.declared.node.Shape.TheVariants as shapes
use Rattle.vx_machine_nodes.specs.Acting.{JoinRefused}
use Rattle.vx_machine_node.specs.View.{fold_of}
use Rattle.vx_machine_nodes.proofs.RefusalSteps.{memory_only}

never : (e : LayoutError) (l : LayoutData ℕ) (r : Result (LayoutData ℕ) Refusal) → r ≡ Ok l → e ≢ errors.OutOfMemory → Fails e r → ⊥
never (errors.Grammar a) l r is n h = cc
never (errors.TooDeep a) l r is n h = cc
never (errors.TooManyNodes a) l r is n h = cc
never (errors.UnknownIndex a) l r is n h = cc
never (errors.Unregistered a) l r is n h = cc
never (errors.NotPermitted a) l r is n h = cc
never (errors.ChildCount a b) l r is n h = cc
never (errors.ChildType a b) l r is n h = cc
never (errors.RowCount a b) l r is n h = cc
never (errors.SegmentCount a) l r is n h = cc
never (errors.Metadata a) l r is n h = cc
never (errors.UnknownAggregate a) l r is n h = cc
never (errors.SlotRange a b) l r is n h = cc
never (errors.FieldNotFound a) l r is n h = cc
never errors.NotAList l r is n h = cc
never errors.NotAStruct l r is n h = cc
never errors.OutOfMemory l r is n h = n refl

-- the rows add up
pub chunks_join : (t : Ty) (n : ℕ) (c : LayoutChildren) (e : LayoutError) → n ≡ total_by kid_rows (layout_kids c) → e ≢ errors.OutOfMemory → Fails e (make_chunked t n (chunks t c)) → ⊥
chunks_join t n c e is m h =
    let ls : List (LayoutData ℕ) = chunks t c in
    let sum : total_by row_count ls ≡ n = chunk_sum t c ∙ sym is in
    let made : make_chunked t n ls ≡ Ok (chunked_layout t n ls) = simp (eq-eqb (total_by row_count ls) n sum) refl in
    never e (chunked_layout t n ls) (make_chunked t n ls) made m h

-- there are as many as columns
pub columns_join : (t u : Ty) (n : ℕ) (v : Vec Layout Global) (e : LayoutError) → t ≡ u → is_struct u ≡ true → (vec_len v == struct_children u) ≡ true → e ≢ errors.OutOfMemory
    → Fails e (make_struct t n (map layout_data v.items)) → ⊥
columns_join t u n v e is s k m h =
    let ls : List (LayoutData ℕ) = map layout_data v.items in
    let count : length ls ≡ struct_children u = length-map v.items layout_data ∙ sym v.ok.0 ∙ eqb-true (vec_len v) (struct_children u) k in
    let made : make_struct u n ls ≡ Ok (struct_layout u n ls) = simp (s, eq-eqb (length ls) (struct_children u) count) refl in
    never e (struct_layout u n ls) (make_struct t n ls) (ap (λ x. make_struct x n ls) is ∙ made) m h

-- ---- what is made

-- one layout is given itself, none or several are chunked

pub gather_one : (t : Ty) (all xs : List Layout) (l : Layout) → all ≡ xs ++ (l ∷ []) → length all ≡ 1
    → layout_data l ≡ gathered t (total_by row_count (map layout_data all)) (map layout_data all)
gather_one t all [] l e h = ap (λ z. gathered t (total_by row_count (map layout_data z)) (map layout_data z)) (sym e)
gather_one t all (x ∷ xs) l e h = absurd (omega (arith, ap length e, length-append xs (l ∷ []), h))

many : (t : Ty) (n : ℕ) (ls : List (LayoutData ℕ)) → length ls ≢ 1 → gathered t n ls ≡ chunked_layout t n ls
many t n [] h = refl
many t n (l ∷ []) h = absurd (h refl)
many t n (l ∷ k ∷ ls) h = refl

pub gather_many : (t u : Ty) (all : List Layout) (r : Result Layout WriteError) → t ≡ u → length all ≢ 1
    → IfOk r (λ l. layout_data l ≡ chunked_layout t (total_by row_count (map layout_data all)) (map layout_data all))
    → IfOk r (λ l. layout_data l ≡ gathered u (total_by row_count (map layout_data all)) (map layout_data all))
gather_many t u all r same h k =
    let ls : List (LayoutData ℕ) = map layout_data all in
    let n : ℕ = total_by row_count ls in
    let e : length ls ≡ length all = length-map all layout_data in
    subst (λ z. IfOk r (λ l. layout_data l ≡ z)) (sym (many t n ls (λ g. h (sym e ∙ g))) ∙ ap (λ z. gathered z n ls) same) k

pub chunks_made : (t u : Ty) (n : ℕ) (c : LayoutChildren) (v : Vec Layout Global) (x : LayoutData ℕ) → t ≡ u → c ≡ children.Owned v → n ≡ total_by kid_rows (layout_kids c)
    → make_chunked t n (chunks t c) ≡ Ok x → layout_data (layouts.Chunked x) ≡ chunked_layout u (total_by row_count (map layout_data v.items)) (map layout_data v.items)
unfolding layout_data
chunks_made t u n c v x a b is h =
    let ls : List (LayoutData ℕ) = chunks t c in
    let sum : total_by row_count ls ≡ n = chunk_sum t c ∙ sym is in
    let made : make_chunked t n ls ≡ Ok (chunked_layout t n ls) = simp (eq-eqb (total_by row_count ls) n sum) refl in
    let e : x ≡ chunked_layout t n ls = cc in
    e ∙ ap (λ k. chunked_layout t k ls) (sym sum) ∙ (λ j. chunked_layout (a j) (total_by row_count (chunks (a j) (b j))) (chunks (a j) (b j)))

pub columns_made : (t u : Ty) (n : ℕ) (v : Vec Layout Global) (x : LayoutData ℕ) → t ≡ u → is_struct u ≡ true → (vec_len v == struct_children u) ≡ true
    → make_struct t n (map layout_data v.items) ≡ Ok x → layout_data (layouts.Struct x) ≡ struct_layout u n (map layout_data v.items)
unfolding layout_data
columns_made t u n v x is s k h =
    let ls : List (LayoutData ℕ) = map layout_data v.items in
    let count : length ls ≡ struct_children u = length-map v.items layout_data ∙ sym v.ok.0 ∙ eqb-true (vec_len v) (struct_children u) k in
    let made : make_struct u n ls ≡ Ok (struct_layout u n ls) = simp (s, eq-eqb (length ls) (struct_children u) count) refl in
    let g : make_struct u n ls ≡ Ok x = ap (λ z. make_struct z n ls) (sym is) ∙ h in
    let e : x ≡ struct_layout u n ls = cc in
    e

-- ---- of lists

-- how many columns, as those who keep layouts count them
pub list_count : (t : Ty) → is_list t ≡ true → column_count t ≡ 2 + validity_count t
list_count (list t true) h = refl
list_count (list t false) h = refl
list_count (boolean n) h = absurd (true≢false (sym h))
list_count (primitive p n) h = absurd (true≢false (sym h))
list_count (utf8 n) h = absurd (true≢false (sym h))
list_count (binary n) h = absurd (true≢false (sym h))
list_count (struct fs n) h = absurd (true≢false (sym h))
list_count (extension tag t) h = absurd (true≢false (sym h))

pub lists_join : (t u : Ty) (v : Vec Layout Global) → t ≡ u → is_list u ≡ true → (vec_len v == column_count u) ≡ true → length v.items ≡ 2 + validity_count t
lists_join t u v is l k = sym v.ok.0 ∙ eqb-true (vec_len v) (column_count u) k ∙ list_count u l ∙ ap (λ z. 2 + validity_count z) (sym is)

pub lists_made : (d : DType) (u : Ty) (n : ℕ) (segments : Vec SegmentId Global) (v : Vec Layout Global) (x : Layout) → ty d ≡ u → segments.items ≡ []
    → layout_data x ≡ seen_layout list_kind d n segments (map layout_data v.items) → layout_data x ≡ list_layout u n (map layout_data v.items)
lists_made d u n segments v x is none h = h ∙ (λ j. layout list_kind (is j) n (map number (none j)) (lays_of (map layout_data v.items)))

-- of a zoned node's data and table

two_zones : (t : Ty) (n zone : ℕ) (specs : List Spec) (ls : List Layout) → length ls ≡ 2 → layout (zoned_kind zone specs) t n [] (lays_of (map layout_data ls)) ≡ zones_layout t n zone specs (map layout_data ls)
two_zones t n zone specs [] h = absurd (omega (arith, h))
two_zones t n zone specs (a ∷ []) h = absurd (omega (arith, h))
two_zones t n zone specs (a ∷ b ∷ []) h = refl
two_zones t n zone specs (a ∷ b ∷ c ∷ ls) h = absurd (omega (arith, h))

pub zones_made : (d : DType) (u : Ty) (n len zone : ℕ) (columns : Vec AggregateFn Global) (segments : Vec SegmentId Global) (v : Vec Layout Global) (x : Layout) → ty d ≡ u → segments.items ≡ [] → len ≡ zone → vec_len v ≡ 2
    → layout_data x ≡ seen_layout (zoned_kind len (specs_of columns)) d n segments (map layout_data v.items) → layout_data x ≡ zones_layout u n zone (map (λ a. spec (aggregate a)) columns.items) (map layout_data v.items)
zones_made d u n len zone columns segments v x is none same two h =
    h ∙ (λ j. layout (zoned_kind (same j) (map_twice aggregate spec columns.items j)) (is j) n (map number (none j)) (lays_of (map layout_data v.items)))
    ∙ two_zones u n zone (map (λ a. spec (aggregate a)) columns.items) v.items (sym v.ok.0 ∙ two)

-- by the type

struct_is : (t : Ty) (n : ℕ) (ls : List (LayoutData ℕ)) → is_struct t ≡ true → columns_layout t n ls ≡ struct_layout t n ls
struct_is (struct fs b) n ls h = refl
struct_is (boolean b) n ls h = refl
struct_is (primitive p b) n ls h = refl
struct_is (utf8 b) n ls h = refl
struct_is (binary b) n ls h = refl
struct_is (list t b) n ls h = absurd (true≢false (sym h))
struct_is (extension tag t) n ls h = refl

list_is : (t : Ty) (n : ℕ) (ls : List (LayoutData ℕ)) → is_list t ≡ true → columns_layout t n ls ≡ list_layout t n ls
list_is (list t b) n ls h = refl
list_is (boolean b) n ls h = absurd (true≢false (sym h))
list_is (primitive p b) n ls h = absurd (true≢false (sym h))
list_is (utf8 b) n ls h = absurd (true≢false (sym h))
list_is (binary b) n ls h = absurd (true≢false (sym h))
list_is (struct fs b) n ls h = absurd (true≢false (sym h))
list_is (extension tag t) n ls h = absurd (true≢false (sym h))

-- their rows are too many
pub rows_past : (t : Ty) (n : ℕ) (c : LayoutChildren) (v : Vec Layout Global) → c ≡ children.Owned v → n ≡ total_by kid_rows (layout_kids c) → 2 ^ 64 ≤ n
    → JoinRefused (total_by row_count (map layout_data v.items) ∷ []) (TooLarge n)
rows_past t n c v b is h = inr (inr (inl (is ∙ sym (chunk_sum t c) ∙ ap (λ z. total_by row_count (chunks t z)) b), h))

-- ---- by the shape

pub shape_chunks : (h : Shape) (t : Arc DType Global) (d : DType) (ls all : List (LayoutData ℕ)) (r : Result Layout WriteError) → h ≡ shapes.Chunks t → d ≡ arc_value t → ls ≡ all
    → IfOk r (λ l. layout_data l ≡ gathered (ty d) (total_by row_count ls) ls) → IfOk r (λ l. layout_data l ≡ folded (fold_of h) all)
shape_chunks h t d ls all r a b e k =
    subst (λ z. IfOk r (λ l. layout_data l ≡ folded (fold_of z) all)) (sym a)
    (subst (λ z. IfOk r (λ l. layout_data l ≡ z)) (λ j. gathered (ty (b j)) (total_by row_count (e j)) (e j)) k)

pub chunks_refused : (h : Shape) (t : Arc DType Global) (ls all : List (LayoutData ℕ)) (r : Result Layout WriteError) → h ≡ shapes.Chunks t → ls ≡ all
    → IfErr r (JoinRefused (total_by row_count ls ∷ [])) → IfErr r (JoinRefused (joined_rows (fold_of h) all))
chunks_refused h t ls all r a e k =
    subst (λ z. IfErr r (JoinRefused (joined_rows (fold_of z) all))) (sym a) (subst (λ z. IfErr r (JoinRefused (total_by row_count z ∷ []))) e k)

pub shape_columns : (h : Shape) (n : ColumnsNode) (rows : ℕ) (ls all : List (LayoutData ℕ)) (r : Result Layout WriteError) → h ≡ shapes.Columns n rows → ls ≡ all
    → IfOk r (λ l. layout_data l ≡ struct_layout (ty (arc_value n.dtype)) rows ls) → IfOk r (λ l. layout_data l ≡ folded (fold_of h) all)
shape_columns h n rows ls all r a e k =
    subst (λ z. IfOk r (λ l. layout_data l ≡ folded (fold_of z) all)) (sym a)
    (subst (λ z. IfOk r (λ l. layout_data l ≡ z)) (ap (struct_layout (ty (arc_value n.dtype)) rows) e ∙ sym (struct_is (ty (arc_value n.dtype)) rows all n.structs)) k)

pub shape_lists : (h : Shape) (n : ListsNode) (rows : ℕ) (ls all : List (LayoutData ℕ)) (r : Result Layout WriteError) → h ≡ shapes.Lists n rows → ls ≡ all
    → IfOk r (λ l. layout_data l ≡ list_layout (ty (arc_value n.dtype)) rows ls) → IfOk r (λ l. layout_data l ≡ folded (fold_of h) all)
shape_lists h n rows ls all r a e k =
    subst (λ z. IfOk r (λ l. layout_data l ≡ folded (fold_of z) all)) (sym a)
    (subst (λ z. IfOk r (λ l. layout_data l ≡ z)) (ap (list_layout (ty (arc_value n.dtype)) rows) e ∙ sym (list_is (ty (arc_value n.dtype)) rows all n.lists)) k)

pub shape_zones : (h : Shape) (z : Zones) (ls all : List (LayoutData ℕ)) (r : Result Layout WriteError) → h ≡ shapes.Zones z → ls ≡ all
    → IfOk r (λ l. layout_data l ≡ zones_layout (ty (arc_value z.dtype)) z.rows (non_zero_u32_get z.zone_len) (map (λ a. spec (aggregate a)) z.aggregates.items) ls) → IfOk r (λ l. layout_data l ≡ folded (fold_of h) all)
shape_zones h z ls all r a e k =
    subst (λ x. IfOk r (λ l. layout_data l ≡ folded (fold_of x) all)) (sym a)
    (subst (λ x. IfOk r (λ l. layout_data l ≡ zones_layout (ty (arc_value z.dtype)) z.rows (non_zero_u32_get z.zone_len) (map (λ a. spec (aggregate a)) z.aggregates.items) x)) e k)

module _ (h : Shape) (n : Arc DictNode Global) (rows : Vec ℕ Global) (d : DictNode) (ls all : List (LayoutData ℕ)) (r : Result Layout WriteError) (a : h ≡ shapes.Runs n rows) (b : d ≡ arc_value n) (e : ls ≡ all) where
  pub shape_runs : IfOk r (λ l. layout_data l ≡ folded (fold_runs (ty (arc_value d.dtype)) rows.items) ls) → IfOk r (λ l. layout_data l ≡ folded (fold_of h) all)
  shape_runs k =
      subst (λ z. IfOk r (λ l. layout_data l ≡ folded (fold_of z) all)) (sym a)
      (subst (λ z. IfOk r (λ l. layout_data l ≡ z)) (λ j. folded (fold_runs (ty (arc_value (b j).dtype)) rows.items) (e j)) k)

  pub runs_refused : IfErr r (JoinRefused (joined_rows (fold_runs (ty (arc_value d.dtype)) rows.items) ls)) → IfErr r (JoinRefused (joined_rows (fold_of h) all))
  runs_refused k =
      subst (λ z. IfErr r (JoinRefused (joined_rows (fold_of z) all))) (sym a)
      (subst (λ z. IfErr r (JoinRefused z)) (λ j. joined_rows (fold_runs (ty (arc_value (b j).dtype)) rows.items) (e j)) k)

pub columns_refused : (ns : List ℕ) (r : Result Layout WriteError) → IfErr r (λ e. e ≡ OutOfMemory) → IfErr r (JoinRefused ns)
columns_refused ns r h = memory_only (JoinRefused ns) r tt h
