-- A chunked node hands each chunk alone to a child of its own.
use Rattle.std.specs.Prelude.{ℕ, ◌+◌, Bool, true, List, [], ◌∷◌, ◌++◌, length}
use Rattle.vx_model.specs.Ty.{Ty}
use Rattle.vx_path.specs.Path.{Eof, inside, next}
use Rattle.vx_layout_spec.specs.LayoutTree.{LayoutData, gathered}
use Rattle.vx_plan.specs.PlanData.{Pair, Item, Plan, Node, Fault, row_total, row_totals}

abbrev pub all_pairs : List Plan → List Pair
all_pairs [] = []
all_pairs (p ∷ ps) = p.pairs ++ all_pairs ps

abbrev pub all_faults : List Plan → List Fault
all_faults [] = []
all_faults (p ∷ ps) = p.faults ++ all_faults ps

abbrev pub all_layouts : List Plan → List (LayoutData (List ℕ))
all_layouts [] = []
all_layouts (p ∷ ps) = p.layout ∷ all_layouts ps

abbrev pub all_numbers : List Plan → List ℕ
all_numbers [] = []
all_numbers (p ∷ ps) = p.numbers ++ all_numbers ps

abbrev pub all_reserved : List Plan → ℕ
all_reserved [] = 0
all_reserved (p ∷ ps) = p.reserved + all_reserved ps

-- one plan's layout is given itself, none or several are chunked, with so many rows
abbrev pub whole : Ty → ℕ → List ℕ → List Plan → Plan
whole t n numbers ps = record {
  pairs = all_pairs ps;
  faults = all_faults ps;
  layout = gathered t n (all_layouts ps);
  numbers = numbers ++ all_numbers ps;
  reserved = all_reserved ps;
}

-- two plans beside each other, under one layout
abbrev pub both_plans : LayoutData (List ℕ) → List ℕ → Plan → Plan → Plan
both_plans l ns p q = record { pairs = p.pairs ++ q.pairs; faults = p.faults ++ q.faults; layout = l; numbers = ns ++ (p.numbers ++ q.numbers); reserved = p.reserved + q.reserved }

-- chunk j alone, ended, with the first eof path below e + j
abbrev pub chunk_plans : Node → Bool → List Item → Eof → List Plan
chunk_plans k m [] e = []
chunk_plans k m (i ∷ is) e = k m (i ∷ []) true (inside e) ∷ chunk_plans k m is (next e)

-- the rows, and the last index of the pointer behind the last chunk's eof path
abbrev pub chunked_numbers : List Item → Eof → List ℕ
chunked_numbers items e = row_totals items ++ ((e.last + length items) ∷ [])

abbrev pub chunked_node : Ty → Node → Node
chunked_node t k m items ended e = whole t (row_total items) (chunked_numbers items e) (chunk_plans k m items e)
