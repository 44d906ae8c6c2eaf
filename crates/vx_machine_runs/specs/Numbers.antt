-- What a finished run has counted, against the plan's numbers.
use Rattle.std.specs.Prelude.{◌≡◌, ◌^◌, ◌<◌, ℕ, true, List, [], ◌∷◌, ◌++◌, None, IsTrue}
use Rattle.vx_path.specs.Lists.{Each}
use Rattle.vx_path.specs.Path.{root_eof}
use Rattle.vx_machine_state.specs.Images.{Careful}
use Rattle.vx_tasks.specs.Run.{Note}
use Rattle.vx_plan.specs.SourcePlan.{start_fault}
use Rattle.vx_plan.specs.Valid.{Fit}
use Rattle.vx_machine_promises.specs.Write.{Write}
use Rattle.vx_machine_state.specs.Start.{first_indices}
use Rattle.vx_machine_view.specs.Machine.{is_finished}
use Rattle.vx_machine_view.specs.Whole.{form_of}
use Rattle.vx_machine_runs.specs.Runs.{Stand, outset, Led}
use Rattle.vx_machine_runs.specs.Ends.{plan_of}

-- all numbers are below this one
abbrev pub AllBelow : ℕ → List ℕ → Type 0
AllBelow most ns = Each (λ n. n < most) ns

-- what each step of a run counts: rows and lengths, and how far pointers come
abbrev pub CountsBelow : ℕ → (g : Write) (first : ℕ) (x : Stand) (ns : List Note) (y : Stand) → Led g first x ns y → Type 0
CountsBelow most g first x [] y l = Unit {0}
CountsBelow most g first x (n ∷ ns) y l = AllBelow most (l.1.step.numbers ++ l.1.step.indices) × CountsBelow most g first l.0 ns y l.2

-- Where all that is counted is below a number, from the start on, so is each number of the plan of the batches that were taken.
abbrev pub NumbersAreCounted : Type 0
NumbersAreCounted = (most : ℕ) (g : Write) (first : ℕ) (ns : List Note) (y : Stand) → Careful g.setting
    → start_fault g.setting g.way g.type g.mark ≡ None → (l : Led g first (outset g) ns y) → IsTrue (is_finished y.machine)
    → 1 < most → AllBelow most (first_indices (form_of g) g.mark root_eof) → CountsBelow most g first (outset g) ns y l → AllBelow most (plan_of g y.taken true).numbers

-- so they fit 64 bits, where all that is counted does
abbrev pub NumbersFit : Type 0
NumbersFit = (g : Write) (first : ℕ) (ns : List Note) (y : Stand) → Careful g.setting
    → start_fault g.setting g.way g.type g.mark ≡ None → (l : Led g first (outset g) ns y) → IsTrue (is_finished y.machine)
    → AllBelow (2 ^ 64) (first_indices (form_of g) g.mark root_eof) → CountsBelow (2 ^ 64) g first (outset g) ns y l → Fit (plan_of g y.taken true).numbers
