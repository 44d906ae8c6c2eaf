-- Picks by a count of what is ready that stops at a greatest number.
use Rattle.std.specs.Prelude.{◌≡◌, ◌%◌, ◌≤◌, min, slice_index, ℕ, suc, List, [], ◌∷◌, length, None, IsTrue}
use Rattle.vx_path.specs.Lists.{In}
use Rattle.vx_machine_state.specs.Images.{Careful}
use Rattle.vx_tasks.specs.Run.{Note, work}
use Rattle.vx_cut_laws.specs.Cut.{cut}
use Rattle.vx_plan.specs.SourcePlan.{start_fault}
use Rattle.vx_machine_promises.specs.Write.{Write, Future, Open, scripts}
use Rattle.vx_machine_view.specs.Machine.{is_finished}
use Rattle.vx_machine_runs.specs.Runs.{Stand, outset, Led, PickedBy}

-- from this place of the schedule on, each place is its pick's, or the first past its end, where no count comes past `most`
abbrev pub PickedUpTo : ℕ → List ℕ → ℕ → List Note → Type 0
PickedUpTo most schedule place [] = Unit {0}
PickedUpTo most schedule place (n ∷ ns) = (n.picked ≡ slice_index schedule place % min n.ready most) × PickedUpTo most schedule (suc place) ns

-- they are those that the schedule picks, where no more were ready than that
abbrev pub PicksAreExact : Type 0
PicksAreExact = (most : ℕ) (schedule : List ℕ) (ns : List Note) → ((n : Note) → In n ns → n.ready ≤ most) → PickedUpTo most schedule 0 ns → PickedBy schedule ns

-- In a run that has finished no more were ready at a step than there are steps, whatever picked its places; and in each run no more than
-- the work of what may still come.

abbrev pub ReadyIsWithinSteps : Type 0
ReadyIsWithinSteps = (g : Write) (first : ℕ) (ns : List Note) (y : Stand) (n : Note) → Careful g.setting
    → start_fault g.setting g.way g.type g.mark ≡ None → Led g first (outset g) ns y → IsTrue (is_finished y.machine) → In n ns → n.ready ≤ length ns

abbrev pub ReadyIsWithinAll : Type 0
ReadyIsWithinAll = (g : Write) (first : ℕ) (ns : List Note) (y : Stand) (f : Future) (n : Note) → Careful g.setting
    → start_fault g.setting g.way g.type g.mark ≡ None → Led g first (outset g) ns y → Open y.heard f → In n ns → n.ready ≤ work (cut (scripts g y.taken f))
