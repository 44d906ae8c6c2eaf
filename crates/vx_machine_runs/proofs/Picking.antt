-- Picks by a count of what is ready that stops at a greatest number.
use Rattle.std.proofs.Common.{◌≡◌, ◌%◌, ◌≤◌, ◌∷◌, ◌∙◌, min, slice_index, ℕ, zero, suc, List, refl, sym, ap, subst, inl, inr, arith, []}
use Rattle.vx_path.specs.Lists.{In}
use Rattle.vx_tasks.specs.Run.{Note, first_pick, later_picks}
use Rattle.vx_machine_steps.specs.Runs.{picks_after}
use Rattle.vx_machine_promises.specs.Write.{Write}
use Rattle.vx_machine_promises.specs.Promises.{StartIsReached, StepIsReached, EndIsPlanned, SeenIsFirst, SeenIsWhole, AllSteps}
use Rattle.vx_machine_runs.specs.Runs.{outset, PickedBy, scheduled}
use Rattle.vx_machine_runs.specs.Picks.{PickedUpTo, PicksAreExact, ReadyIsWithinSteps, ReadyIsWithinAll}
use Rattle.vx_machine_runs.proofs.Stepping.{places, schedule_is_free, run_under}
use Rattle.vx_machine_runs.proofs.Tracing.{notes_are_within_work, notes_are_whole}

pub least : (n most : ℕ) → n ≤ most → min n most ≡ n
least n most l = grind (arith, l)

-- the next pick behind so many steps is that of its place
pub pick_here : (k : ℕ) (picks : List ℕ) → first_pick (picks_after k picks) ≡ slice_index picks k
pick_here zero [] = refl
pick_here zero (p ∷ ps) = refl
pick_here (suc k) [] = pick_here k []
pick_here (suc k) (p ∷ ps) = pick_here k ps

one_later : (k : ℕ) (picks : List ℕ) → picks_after (suc k) picks ≡ later_picks (picks_after k picks)
one_later zero picks = refl
one_later (suc k) picks = one_later k (later_picks picks)

picked_from : (most : ℕ) (schedule : List ℕ) (place : ℕ) (ns : List Note) → ((n : Note) → In n ns → n.ready ≤ most) → PickedUpTo most schedule place ns → PickedBy (picks_after place schedule) ns
picked_from most schedule place [] h p = tt
picked_from most schedule place (n ∷ ns) h p = (
  p.0 ∙ ap (λ z. slice_index schedule place % z) (least n.ready most (h n (inl refl))) ∙ ap (λ z. z % n.ready) (sym (pick_here place schedule)),
  subst (λ z. PickedBy z ns) (one_later place schedule) (picked_from most schedule (suc place) ns (λ m i. h m (inr i)) p.1),
)

pub picks_are_exact : PicksAreExact
picks_are_exact most schedule ns h p = picked_from most schedule 0 ns h p

-- ---- how many are ready

pub ready_is_within_steps : StartIsReached → StepIsReached → EndIsPlanned → SeenIsWhole → AllSteps → ReadyIsWithinSteps
ready_is_within_steps began reached planned_end whole all g first ns y n law s l fin i =
    let h : Write = scheduled g (places ns) in
    (notes_are_whole planned_end whole all h first ns y (run_under began reached h first ns y law s refl (schedule_is_free g first (places ns) (outset g) y ns l)) s fin).ready n i

pub ready_is_within_all : StartIsReached → StepIsReached → SeenIsFirst → ReadyIsWithinAll
ready_is_within_all began reached firsts g first ns y f n law s l o i =
    let h : Write = scheduled g (places ns) in
    notes_are_within_work firsts h first ns y f n (run_under began reached h first ns y law s refl (schedule_is_free g first (places ns) (outset g) y ns l)) o i
