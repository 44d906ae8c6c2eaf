-- What is read off tasks that are yet to come, from the actions of the task above them.
use Rattle.std.specs.Prelude.{ℕ, suc, ◌+◌, List, [], ◌∷◌, ◌++◌, Option, Some, None}
use Rattle.vx_model.specs.Ty.{Ty}
use Rattle.vx_layout_spec.specs.LayoutTree.{LayoutData, gathered, struct_layout, list_layout, dict_layout, zoned_layout}
use Rattle.vx_plan.specs.PlanData.{Setting, Pair, What}
use Rattle.vx_machine_turns.specs.Acts.{Seed, Act, Shape, alone, gathers, struct_of, list_of, runs_of, zones_of, passes, gifts, shut, births, wrote, first_refusal, shape_in, numbers_in, indices_in, raised_in, lowered_in}
use Rattle.vx_machine_turns.specs.Turns.{firsts, start_indices}
use Rattle.vx_machine_turns.specs.Scripts.{script}
use Rattle.vx_machine_turns.specs.Fuels.{Fuel, spent, fuel}

-- of a task's actions, from what is read off its children and off its later siblings
pub record Reading (F : Type 0) : Type 0 where
  pub none : F
  pub make : Seed → List Act → F → F → F

-- children from number j on of a task that still does `acts`
abbrev pub row_of : {F : Type 0} → Setting → Reading F → (Seed → List Seed → List Act → F) → ℕ → List Seed → List Act → F
row_of s v deeper j [] acts = v.none
row_of s v deeper j (q ∷ qs) acts =
    v.make q (script s q.local (gifts j acts) (shut j acts))
    (deeper q (firsts q ++ births (script s q.local (gifts j acts) (shut j acts))) (script s q.local (gifts j acts) (shut j acts)))
    (row_of s v deeper (suc j) qs acts)

abbrev pub unread : {F : Type 0} → Setting → Reading F → Fuel → ℕ → List Seed → List Act → F
unread s v spent j qs acts = v.none
unread s v (fuel g) j qs acts = row_of s v (λ q. unread s v (g q.type) 0) j qs acts

-- ---- readings

abbrev pub pair_reading : Reading (List Pair)
pair_reading = record { none = []; make = λ q acts kids rest. wrote acts ++ (kids ++ rest) }

-- at most one a task
abbrev pub fault_reading : Reading (List What)
fault_reading = record { none = []; make = λ q acts kids rest. first_refusal acts ++ (kids ++ rest) }

-- each run's rows, with its codes' layout and its values'
abbrev pub run_layouts : Ty → List ℕ → List (LayoutData (List ℕ)) → List (LayoutData (List ℕ))
run_layouts t (n ∷ ns) (codes ∷ values ∷ ls) = dict_layout t n values codes ∷ run_layouts t ns ls
run_layouts t ns ls = []

abbrev pub shaped : Option Shape → List (LayoutData (List ℕ)) → List (LayoutData (List ℕ))
shaped None ls = []
shaped (Some (alone l)) ls = l ∷ []
shaped (Some (gathers t n)) ls = gathered t n ls ∷ []
shaped (Some (struct_of t n)) ls = struct_layout t n ls ∷ []
shaped (Some (list_of t n)) ls = list_layout t n ls ∷ []
shaped (Some (runs_of t n ns)) ls = gathered t n (run_layouts t ns ls) ∷ []
shaped (Some (zones_of t n zone specs)) (data_child ∷ zones ∷ ls) = zoned_layout t n zone specs data_child zones ∷ []
shaped (Some (zones_of t n zone specs)) ls = []
shaped (Some passes) ls = ls

-- one a task, none where its actions tell no shape
abbrev pub layout_reading : Reading (List (LayoutData (List ℕ)))
layout_reading = record { none = []; make = λ q acts kids rest. shaped (shape_in acts) kids ++ rest }

abbrev pub number_reading : Reading (List ℕ)
number_reading = record { none = []; make = λ q acts kids rest. numbers_in acts ++ (kids ++ rest) }

abbrev pub index_reading : Reading (List ℕ)
index_reading = record { none = []; make = λ q acts kids rest. indices_in acts ++ (kids ++ rest) }

-- how far the starts move their pointers
abbrev pub start_reading : Reading (List ℕ)
start_reading = record { none = []; make = λ q acts kids rest. start_indices q.local ++ (kids ++ rest) }

-- what is added to the tracker, and taken from it
abbrev pub raise_reading : Reading ℕ
raise_reading = record { none = 0; make = λ q acts kids rest. raised_in acts + (kids + rest) }

abbrev pub lower_reading : Reading ℕ
lower_reading = record { none = 0; make = λ q acts kids rest. lowered_in acts + (kids + rest) }
