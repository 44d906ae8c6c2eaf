-- Children one by one.
use Rattle.std.proofs.Common.{◌≡◌, ℕ, zero, suc, ◌+◌, ◌<◌, ◌≤◌, ◌++◌, Bool, true, false, List, [], ◌∷◌, length, get_or, take, map, Result, Err, refl, sym, ◌∙◌, ap, arith}
use Rattle.std.specs.Prelude.{if◌then◌else◌}
use Rattle.std.proofs.lemmas.List.{length-map}
use Rattle.vx_model.specs.Words.{total_by}
use Rattle.vx_model.specs.Ty.{Ty, Tys, struct, boolean, no_fields, field, fields_in, nullable}
use Rattle.vx_layout_spec.specs.Refusal.{Refusal}
use Rattle.vx_layout_spec.specs.LayoutTree.{LayoutData, row_count}
use Rattle.vx_layout_spec.proofs.LayoutLaws.{lays_in-lays_of}
use Rattle.vx_layout_bytes.specs.Node.{Node, nodes_of, own_of}
use Rattle.vx_layout_bytes.specs.There.{node_there}
use Rattle.vx_layout_bytes.specs.Views.{seen_nodes}
use Rattle.vx_session.specs.Scope.{Scope}
use Rattle.vx_session.specs.Made.{ChildData, kid_rows, rows_at, all_stand, each_stands}
use Rattle.vx_session.specs.Kinds.{struct_types, types_in, field_types}
use Rattle.vx_session.specs.Builder.{kids}
use Rattle.vx_session.proofs.RowsKept.{stands_kept}
use Rattle.vx_session.specs.Views.{scope_of}
use Rattle.vx_layout_tree.specs.declared.error.LayoutError.{LayoutError}
use Rattle.vx_layout_tree.specs.declared.error.LayoutError.TheVariants as errors
use Rattle.vx_layout_tree.specs.declared.layout.Layout.{Layout}
use Rattle.vx_layout_tree.specs.declared.children.LayoutChildren.{LayoutChildren}
use Rattle.vx_layout_tree.specs.declared.children.LayoutChildren.TheVariants as children
use Rattle.vx_layout_tree.specs.LayoutView.{layout_data}
use Rattle.vx_layout_tree.specs.KidsView.{owned_kids, viewed_kids, layout_kids, chunks, fields}
use Rattle.vx_layout_shape.specs.Shape.{fields_of}
use Rattle.vx_layout_tree.specs.Children as places
use Rattle.vx_layout_shape.specs.Shape.{struct_children}
use Rattle.vx_layout_tree.specs.Views.{Fails}

-- ---- how many, and their rows

pub length-owned : (ls : List (LayoutData ℕ)) → length (owned_kids ls) ≡ length ls
length-owned [] = refl
length-owned (l ∷ ls) = ap suc (length-owned ls)

pub length-kids : (s : Scope) (ns : List Node) → length (kids s (nodes_of ns)) ≡ length ns
length-kids s [] = refl
length-kids s (n ∷ ns) = ap suc (length-kids s ns)

pub owned_rows : (ls : List Layout) (i : ℕ) (l : Layout) → i < length ls → l ≡ get_or ls i l → row_count (layout_data l) ≡ rows_at (owned_kids (map layout_data ls)) i
owned_rows [] i l lt is = absurd (omega (arith, lt))
owned_rows (x ∷ ls) zero l lt is = rw is refl
owned_rows (x ∷ ls) (suc i) l lt is = owned_rows ls i l (omega (arith, lt)) is

pub viewed_rows : (s : Scope) (bytes ps : List ℕ) (i : ℕ) → i < length ps → (own_of (node_there bytes (get_or ps i 0))).rows ≡ rows_at (kids s (nodes_of (map (node_there bytes) ps))) i
viewed_rows s bytes [] i lt = absurd (omega (arith, lt))
viewed_rows s bytes (p ∷ ps) zero lt = refl
viewed_rows s bytes (p ∷ ps) (suc i) lt = viewed_rows s bytes ps i (omega (arith, lt))

pub ruleset rows_rules = (owned_rows, viewed_rows, length-owned, length-kids, length-map)

-- ---- sums

pub take_rows : (ks : List ChildData) (i : ℕ) → i < length ks → total_by kid_rows (take (i + 1) ks) ≡ total_by kid_rows (take i ks) + rows_at ks i
take_rows [] i lt = absurd (omega (arith, lt))
take_rows (k ∷ ks) zero lt = omega arith
take_rows (k ∷ ks) (suc i) lt = let e : suc i + 1 ≡ suc (i + 1) = omega arith in rw e (omega (arith, take_rows ks i (omega (arith, lt))))

pub few_rows : (ks : List ChildData) (i : ℕ) → total_by kid_rows (take i ks) ≤ total_by kid_rows ks
few_rows [] zero = omega arith
few_rows [] (suc i) = omega arith
few_rows (k ∷ ks) zero = omega arith
few_rows (k ∷ ks) (suc i) = omega (arith, few_rows ks i)

pub all_rows : (ks : List ChildData) (i : ℕ) → length ks ≤ i → total_by kid_rows (take i ks) ≡ total_by kid_rows ks
all_rows [] zero le = refl
all_rows [] (suc i) le = refl
all_rows (k ∷ ks) zero le = absurd (omega (arith, le))
all_rows (k ∷ ks) (suc i) le = omega (arith, all_rows ks i (omega (arith, le)))

pub ruleset sum_rules = (take_rows, few_rows, all_rows)

-- ---- as they stand

owned_total : (ls : List (LayoutData ℕ)) (i : ℕ) → total_by row_count (take i ls) ≡ total_by kid_rows (take i (owned_kids ls))
owned_total [] zero = refl
owned_total [] (suc i) = refl
owned_total (l ∷ ls) zero = refl
owned_total (l ∷ ls) (suc i) = ap (λ n. row_count l + n) (owned_total ls i)

viewed_total : (s : Scope) (t : Ty) (ns : List Node) (i : ℕ) → total_by row_count (take i (all_stand t (kids s (nodes_of ns)))) ≡ total_by kid_rows (take i (kids s (nodes_of ns)))
viewed_total s t [] zero = refl
viewed_total s t [] (suc i) = refl
viewed_total s t (n ∷ ns) zero = refl
viewed_total s t (n ∷ ns) (suc i) = rw (stands_kept s n t, viewed_total s t ns i) refl

pub chunk_total : (t : Ty) (c : LayoutChildren) (i : ℕ) → total_by row_count (take i (chunks t c)) ≡ total_by kid_rows (take i (layout_kids c))
chunk_total t (children.Owned v) i = owned_total (map layout_data v.items) i
chunk_total t (children.Viewed v) i = viewed_total (scope_of v.scope.value) t (seen_nodes v.nodes) i

whole : {X : Type 0} (f : X → ℕ) (xs : List X) → total_by f (take (length xs) xs) ≡ total_by f xs
whole f [] = refl
whole f (x ∷ xs) = ap (λ n. f x + n) (whole f xs)

length-all : (t : Ty) (ks : List ChildData) → length (all_stand t ks) ≡ length ks
length-all t [] = refl
length-all t (k ∷ ks) = ap suc (length-all t ks)

pub length-chunks : (t : Ty) (c : LayoutChildren) → length (chunks t c) ≡ length (layout_kids c)
length-chunks t (children.Owned v) = sym (length-owned (map layout_data v.items))
length-chunks t (children.Viewed v) = length-all t (viewed_kids v)

pub chunk_sum : (t : Ty) (c : LayoutChildren) → total_by row_count (chunks t c) ≡ total_by kid_rows (layout_kids c)
chunk_sum t c =
    let e : length (chunks t c) ≡ length (layout_kids c) = length-chunks t c in
    sym (whole row_count (chunks t c)) ∙ chunk_total t c (length (chunks t c)) ∙ ap (λ n. total_by kid_rows (take n (layout_kids c))) e ∙ whole kid_rows (layout_kids c)

pub ruleset chunk_rules = (chunk_sum, chunk_total, length-chunks)

owned_stand : (t : Ty) (ls : List (LayoutData ℕ)) → ls ≡ all_stand t (owned_kids ls)
owned_stand t [] = refl
owned_stand t (l ∷ ls) = ap (λ r. l ∷ r) (owned_stand t ls)

pub chunks_are : (t : Ty) (c : LayoutChildren) → chunks t c ≡ all_stand t (layout_kids c)
chunks_are t (children.Owned v) = owned_stand t (map layout_data v.items)
chunks_are t (children.Viewed v) = refl

-- ---- fields of a struct

owned_each : (ts : List Ty) (ls : List (LayoutData ℕ)) → length (owned_kids ls) ≡ length ts → ls ≡ each_stands ts (owned_kids ls)
owned_each [] [] e = refl
owned_each [] (l ∷ ls) e = absurd (omega (arith, e))
owned_each (t ∷ ts) [] e = refl
owned_each (t ∷ ts) (l ∷ ls) e = ap (λ r. l ∷ r) (owned_each ts ls (omega (arith, e)))

pub fields_are : (t : Ty) (c : LayoutChildren) → length (layout_kids c) ≡ length (struct_types t) → fields t c ≡ each_stands (struct_types t) (layout_kids c)
fields_are t (children.Owned v) e = owned_each (struct_types t) (map layout_data v.items) e
fields_are t (children.Viewed v) e = refl

length-each : (ts : List Ty) (ks : List ChildData) → length ks ≡ length ts → length (each_stands ts ks) ≡ length ks
length-each [] [] e = refl
length-each [] (k ∷ ks) e = absurd (omega (arith, e))
length-each (t ∷ ts) [] e = refl
length-each (t ∷ ts) (k ∷ ks) e = ap suc (length-each ts ks (omega (arith, e)))

pub length-fields : (t : Ty) (c : LayoutChildren) → length (layout_kids c) ≡ length (struct_types t) → length (fields t c) ≡ length (layout_kids c)
length-fields t (children.Owned v) e = sym (length-owned (map layout_data v.items))
length-fields t (children.Viewed v) e = length-each (struct_types t) (viewed_kids v) e

types_length : (fs : Tys) → length (types_in fs) ≡ length (fields_in fs)
types_length no_fields = refl
types_length (field name t fs) = ap suc (types_length fs)

field_length : (t : Ty) → length (field_types t) ≡ length (fields_of t)
field_length (struct fs n) = types_length fs
field_length t = refl

validity_length : (b : Bool) (ts : List Ty) (t : Ty) (n : ℕ) → length ts ≡ n → length ((if b then t ∷ [] else []) ++ ts) ≡ n + (if b then 1 else 0)
validity_length true ts t n e = omega (arith, e)
validity_length false ts t n e = omega (arith, e)

pub struct_count : (t : Ty) → length (struct_types t) ≡ struct_children t
struct_count t = validity_length (nullable t) (field_types t) (boolean false) (length (fields_of t)) (field_length t)

pub ruleset field_rules = (struct_count, length-owned, length-map)

-- ---- at a place

owned_at : (ls : List (LayoutData ℕ)) (i : ℕ) → places.rows_at ls i ≡ rows_at (owned_kids ls) i
owned_at [] i = refl
owned_at (l ∷ ls) zero = refl
owned_at (l ∷ ls) (suc i) = owned_at ls i

viewed_at : (s : Scope) (t : Ty) (ns : List Node) (i : ℕ) → places.rows_at (all_stand t (kids s (nodes_of ns))) i ≡ rows_at (kids s (nodes_of ns)) i
viewed_at s t [] i = refl
viewed_at s t (n ∷ ns) zero = stands_kept s n t
viewed_at s t (n ∷ ns) (suc i) = viewed_at s t ns i

pub chunk_rows_at : (t : Ty) (c : LayoutChildren) (i : ℕ) → places.rows_at (chunks t c) i ≡ rows_at (layout_kids c) i
chunk_rows_at t (children.Owned v) i = owned_at (map layout_data v.items) i
chunk_rows_at t (children.Viewed v) i = viewed_at (scope_of v.scope.value) t (seen_nodes v.nodes) i

field_at : (s : Scope) (ts : List Ty) (ns : List Node) (i : ℕ) → length (kids s (nodes_of ns)) ≡ length ts → places.rows_at (each_stands ts (kids s (nodes_of ns))) i ≡ rows_at (kids s (nodes_of ns)) i
field_at s [] [] i e = refl
field_at s [] (n ∷ ns) i e = absurd (omega (arith, e))
field_at s (t ∷ ts) [] i e = refl
field_at s (t ∷ ts) (n ∷ ns) zero e = stands_kept s n t
field_at s (t ∷ ts) (n ∷ ns) (suc i) e = field_at s ts ns i (omega (arith, e))

pub field_rows_at : (t : Ty) (c : LayoutChildren) (i : ℕ) → length (layout_kids c) ≡ length (struct_types t) → places.rows_at (fields t c) i ≡ rows_at (layout_kids c) i
field_rows_at t (children.Owned v) i e = owned_at (map layout_data v.items) i
field_rows_at t (children.Viewed v) i e = field_at (scope_of v.scope.value) (struct_types t) (seen_nodes v.nodes) i e

pub ruleset place_rules = (lays_in-lays_of, length-map, length-chunks, length-fields, chunk_rows_at, field_rows_at)

-- ---- a layout by its kind

pub ruleset kind_rules = (lays_in-lays_of, chunk_sum)

-- ---- refusals

pub fails_by : {A B : Type 0} (e : LayoutError) (r : Result A Refusal) (total : Result B Refusal) → ((x : Refusal) → r ≡ Err x → total ≡ Err x) → Fails e r → Fails e total
fails_by (errors.Grammar a) r total carry h = carry _ h
fails_by (errors.TooDeep a) r total carry h = carry _ h
fails_by (errors.TooManyNodes a) r total carry h = carry _ h
fails_by (errors.UnknownIndex a) r total carry h = carry _ h
fails_by (errors.Unregistered a) r total carry h = carry _ h
fails_by (errors.NotPermitted a) r total carry h = carry _ h
fails_by (errors.ChildCount a b) r total carry h = carry _ h
fails_by (errors.ChildType a b) r total carry h = carry _ h
fails_by (errors.RowCount a b) r total carry h = carry _ h
fails_by (errors.SegmentCount a) r total carry h = carry _ h
fails_by (errors.Metadata a) r total carry h = carry _ h
fails_by (errors.UnknownAggregate a) r total carry h = carry _ h
fails_by (errors.SlotRange a b) r total carry h = carry _ h
fails_by (errors.FieldNotFound a) r total carry h = carry _ h
fails_by errors.NotAList r total carry h = carry _ h
fails_by errors.NotAStruct r total carry h = carry _ h
fails_by errors.OutOfMemory r total carry h = tt
