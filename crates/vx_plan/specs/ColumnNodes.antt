-- Struct and list nodes write their columns beside each other.
use Rattle.std.specs.Prelude.{ℕ, suc, ◌+◌, ◌||◌, Bool, true, false, if◌then◌else◌, List, [], ◌∷◌, ◌++◌, length, Option, Some, None}
use Rattle.vx_model.specs.Ty.{Ty, Tys, list, struct}
use Rattle.vx_model.specs.ChunkData.{ChunkData, cells}
use Rattle.vx_path.specs.Path.{Eof, inside, next}
use Rattle.vx_layout_spec.specs.LayoutTree.{LayoutData, struct_layout, list_layout}
use Rattle.vx_rules.specs.Columns.{Split, struct_splits, list_splits, column, other_columns}
use Rattle.vx_layout_spec.specs.Parts.{all_elements}
use Rattle.vx_plan.specs.PlanData.{Item, Plan, Node, fault, What, not_struct, duplicate_field, empty_list, Place, at_start, at_end, totals, rows_in, row_total, row_totals}
use Rattle.vx_plan.specs.ChunkedNode.{all_pairs, all_faults, all_numbers, all_layouts, all_reserved}

-- a column's writer, its mark given
abbrev pub Column : Type 0
Column = List Item → Bool → Eof → Plan

abbrev pub marked : Bool → List Node → List Column
marked m [] = []
marked m (k ∷ ks) = k m ∷ marked m ks

-- column c of the chunk at p has the path p ++ [c], and the first eof path below e + c
abbrev pub column_plans : List Column → ℕ → List Split → Bool → Eof → List Plan
column_plans [] c xs ended e = []
column_plans (k ∷ ks) c xs ended e = k (column c xs) ended (inside e) ∷ column_plans ks (suc c) (other_columns xs) ended (next e)

abbrev pub beside : LayoutData (List ℕ) → List ℕ → List Plan → Plan
beside l ns ps = record { pairs = all_pairs ps; faults = all_faults ps; layout = l; numbers = ns ++ all_numbers ps; reserved = all_reserved ps }

abbrev pub refused_node : LayoutData (List ℕ) → What → Place → Plan
refused_node l w p = record { pairs = []; faults = fault w p ∷ []; layout = l; numbers = []; reserved = 0 }

-- ---- structs

abbrev pub not_struct_node : Ty → Node
not_struct_node t m items ended e = refused_node (struct_layout t 0 []) not_struct at_start

-- fields are marked where a nullable struct stands above or here, validity only where one stands above
abbrev pub struct_writers : Bool → Bool → Node → List Node → List Column
struct_writers n m v ks = if n then v m ∷ marked (m || n) ks else marked (m || n) ks

-- the rows, the number of columns, and the pointer behind the last column's eof path
abbrev pub column_numbers : List Item → List Column → Eof → List ℕ
column_numbers items ks e = row_totals items ++ (length ks ∷ (e.last + length ks) ∷ [])

abbrev pub struct_plans : Tys → Bool → Node → List Node → Bool → List Item → Bool → Eof → List Plan
struct_plans fs n v ks m items ended e = column_plans (struct_writers n m v ks) 0 (struct_splits fs n items) ended e

abbrev pub struct_node : Tys → Bool → Option (List ℕ) → Node → List Node → Node
struct_node fs n (Some name) v ks m items ended e = refused_node (struct_layout (struct fs n) 0 []) (duplicate_field name) at_start
struct_node fs n None v ks m items ended e =
    beside (struct_layout (struct fs n) (row_total items) (all_layouts (struct_plans fs n v ks m items ended e)))
    (column_numbers items (struct_writers n m v ks) e) (struct_plans fs n v ks m items ended e)

-- ---- lists

abbrev pub list_writers : Bool → Bool → Node → Node → Node → List Column
list_writers n m es os v = es m ∷ os m ∷ (if n then v m ∷ [] else [])

abbrev pub elements_in : ChunkData → ℕ
elements_in p = length (all_elements (cells p))

-- also the offsets' rows, one more than the lists', and the elements up to each chunk, which its last offset is
abbrev pub list_numbers : List Item → List Column → Eof → List ℕ
list_numbers items ks e = totals rows_in 1 items ++ (totals elements_in 0 items ++ column_numbers items ks e)

abbrev pub list_plans : Ty → Bool → Node → Node → Node → Bool → List Item → Bool → Eof → List Plan
list_plans t n es os v m items ended e = column_plans (list_writers n m es os v) 0 (list_splits t n true 0 items) ended e

abbrev pub list_columns_plan : Ty → Bool → Node → Node → Node → Bool → List Item → Bool → Eof → Plan
list_columns_plan t n es os v m items ended e =
    beside (list_layout (list t n) (row_total items) (all_layouts (list_plans t n es os v m items ended e)))
    (list_numbers items (list_writers n m es os v) e) (list_plans t n es os v m items ended e)

-- a stream that has ended without a chunk is refused, behind which stand the faults of its columns' empty streams; their
-- numbers are those of streams that may go on, since the columns start with the node
abbrev pub no_lists_plan : Ty → Bool → Node → Node → Node → Bool → Eof → Plan
no_lists_plan t n es os v m e = record {
  pairs = [];
  faults = fault empty_list at_end ∷ (list_columns_plan t n es os v m [] false e).faults;
  layout = list_layout (list t n) 0 [];
  numbers = (list_columns_plan t n es os v m [] false e).numbers;
  reserved = 0;
}

abbrev pub list_node : Ty → Bool → Node → Node → Node → Node
list_node t n es os v m [] true e = no_lists_plan t n es os v m e
list_node t n es os v m [] false e = list_columns_plan t n es os v m [] false e
list_node t n es os v m (i ∷ is) ended e = list_columns_plan t n es os v m (i ∷ is) ended e
