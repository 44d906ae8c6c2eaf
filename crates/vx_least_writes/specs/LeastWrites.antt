-- Where ready tasks write.
use Rattle.std.specs.Prelude.{◌≡◌, ℕ, List, [], ◌∷◌, Some, IsTrue}
use Rattle.vx_path.specs.Path.{is_least}
use Rattle.vx_tasks.specs.Run.{nth}
use Rattle.vx_plan.specs.PlanData.{Setting, Pair}
use Rattle.vx_machine_promises.specs.Write.{Answer}
use Rattle.vx_machine_view.specs.Machine.{Machine, WholeStep, whole_steps}

-- nothing, or one segment at the least of these paths
abbrev pub WritesLeast : List (List ℕ) → List Pair → Type 0
WritesLeast all [] = Unit {0}
WritesLeast all (x ∷ []) = IsTrue (is_least x.0 all)
WritesLeast all (x ∷ y ∷ xs) = ⊥

-- whatever the paths are that are held in all
abbrev pub StepsWriteLeast : Type 0
StepsWriteLeast = (s : Setting) (all : List (List ℕ)) (number : ℕ) (a : Answer) (m : Machine) (k : ℕ) (w : WholeStep) → nth (whole_steps s all number a m) k ≡ Some w → WritesLeast all w.wrote
