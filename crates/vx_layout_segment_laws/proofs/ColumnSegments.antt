-- The segments that struct and list nodes name: those of their columns, beside each other.
use Rattle.std.proofs.Common.{◌≡◌, ℕ, suc, ◌||◌, Bool, true, false, List, [], ◌∷◌, Option, Some, None}
use Rattle.vx_model.specs.Ty.{Ty, Tys, no_fields, field}
use Rattle.vx_path.specs.Path.{Eof, inside, next}
use Rattle.vx_rules.specs.Columns.{Split, struct_splits, list_splits, column, other_columns}
use Rattle.vx_plan.specs.PlanData.{Item, Plan, Node}
use Rattle.vx_plan.specs.ChunkedNode.{all_faults}
use Rattle.vx_plan.specs.ColumnNodes.{Column, marked, column_plans, not_struct_node, struct_writers, struct_node, list_writers, list_node}
use Rattle.vx_plan.proofs.Relate.{Fields}
use Rattle.vx_plan.proofs.PlanLists.{nil_left, nil_right}
use Rattle.vx_plan.proofs.FlatLaws.{cons_nil}
use Rattle.vx_layout_segment_laws.specs.Named.{SegmentsArePairs}
use Rattle.vx_layout_segment_laws.proofs.Arranged.{AllNamed, all_named}
use Rattle.vx_layout_segment_laws.proofs.NodeSegments.{Names}

abbrev ColumnNames : Column → Type 0
ColumnNames k = (items : List Item) (e : Eof) → (k items true e).faults ≡ [] → SegmentsArePairs (k items true e)

abbrev AllNames : List Column → Type 0
AllNames [] = Unit {0}
AllNames (k ∷ ks) = ColumnNames k × AllNames ks

columns_named : (ks : List Column) → AllNames ks → (c : ℕ) (xs : List Split) (e : Eof) → all_faults (column_plans ks c xs true e) ≡ [] → AllNamed (column_plans ks c xs true e)
columns_named [] r c xs e clean = tt
columns_named (k ∷ ks) r c xs e clean =
    let p : Plan = k (column c xs) true (inside e) in
    let ps : List Plan = column_plans ks (suc c) (other_columns xs) true (next e) in
    (r.0 (column c xs) (inside e) (nil_left p.faults (all_faults ps) clean), columns_named ks r.1 (suc c) (other_columns xs) (next e) (nil_right p.faults (all_faults ps) clean))

-- a node's columns, its mark given
given_mark : (m : Bool) (k : Node) → Names k → ColumnNames (k m)
given_mark m k r items e clean = r.names m items e clean

fields_name : (fs : Tys) (ks : List Node) → Fields (λ t k. Names k) fs ks → (m : Bool) → AllNames (marked m ks)
fields_name no_fields [] r m = tt
fields_name no_fields (k ∷ ks) r m = absurd r
fields_name (field name t fs) [] r m = absurd r
fields_name (field name t fs) (k ∷ ks) r m = (given_mark m k r.0, fields_name fs ks r.1 m)

-- ---- structs

writers_name : (fs : Tys) (n m : Bool) (v : Node) (ks : List Node) → Names v → Fields (λ t k. Names k) fs ks → AllNames (struct_writers n m v ks)
writers_name fs true m v ks rv rs = (given_mark m v rv, fields_name fs ks rs (m || true))
writers_name fs false m v ks rv rs = fields_name fs ks rs (m || false)

pub struct_names : (fs : Tys) (n : Bool) (dup : Option (List ℕ)) (v : Node) (ks : List Node) → Names v → Fields (λ t k. Names k) fs ks → Names (struct_node fs n dup v ks)
struct_names fs n (Some name) v ks rv rs = record { names = λ m items e clean. absurd (cons_nil clean) }
struct_names fs n None v ks rv rs = record {
  names = λ m items e clean.
      all_named (column_plans (struct_writers n m v ks) 0 (struct_splits fs n items) true e) (columns_named (struct_writers n m v ks) (writers_name fs n m v ks rv rs) 0 (struct_splits fs n items) e clean);
}

pub not_struct_names : (t : Ty) → Names (not_struct_node t)
not_struct_names t = record { names = λ m items e clean. absurd (cons_nil clean) }

-- ---- lists

parts_name : (n m : Bool) (es os v : Node) → Names es → Names os → Names v → AllNames (list_writers n m es os v)
parts_name true m es os v re ro rv = (given_mark m es re, (given_mark m os ro, (given_mark m v rv, tt)))
parts_name false m es os v re ro rv = (given_mark m es re, (given_mark m os ro, tt))

pub list_names : (t : Ty) (n : Bool) (es os v : Node) → Names es → Names os → Names v → Names (list_node t n es os v)
list_names t n es os v re ro rv = record { names = go }
  where
    go : (m : Bool) (items : List Item) (e : Eof) → (list_node t n es os v m items true e).faults ≡ [] → SegmentsArePairs (list_node t n es os v m items true e)
    go m [] e clean = absurd (cons_nil clean)
    go m (i ∷ is) e clean =
        all_named (column_plans (list_writers n m es os v) 0 (list_splits t n true 0 (i ∷ is)) true e)
        (columns_named (list_writers n m es os v) (parts_name n m es os v re ro rv) 0 (list_splits t n true 0 (i ∷ is)) e clean)
