-- What the tracker counts in a run.
use Rattle.std.proofs.Common.{◌≡◌, ◌+◌, ◌≤◌, ◌∷◌, ◌++◌, ◌∙◌, refl, sym, ap, subst, append_assoc, []}
use Rattle.vx_plan.specs.PlanData.{Plan}
use Rattle.vx_machine_steps.specs.Runs.{appended}
use Rattle.vx_machine_steps.specs.StartPlanned.{started}
use Rattle.vx_machine_promises.specs.Write.{Future, Answer, unasked, came, over, begin, before, planned, taken_by, heard_by}
use Rattle.vx_machine_promises.specs.Reached.{Reached, moves_at}
use Rattle.vx_machine_promises.specs.Promises.{MovesAreCounted, Counted}
use Rattle.vx_machine_view.specs.Underway.{Showing}
use Rattle.vx_machine_view.proofs.Underway.{write_moves}
use Rattle.vx_machine_runs.specs.Runs.{tracked}
use Rattle.vx_machine_runs.specs.Tracked.{StepIsTracked, StepsAreTracked, Comes, TrackerComes, TrackerComesWithin}
use Rattle.vx_machine_runs.proofs.Counting.{nth_in}
use Rattle.vx_machine_runs.proofs.Ending.{none_later, open_none, same_plan}
use Rattle.vx_machine_runs.proofs.Reaching.{move_of}
use Rattle.vx_machine_runs.proofs.Stepping.{open_before, asks_so, evened}

pub step_is_tracked : StepIsTracked
step_is_tracked g first seen x y n d u = ap (λ z. tracked g z + d.step.lowers) d.left ∙ on (u (before d.told later) (open_before x.heard d.told later d.chosen.once (open_none (heard_by x.heard d.told))))
  where
    later : Future
    later = none_later (heard_by x.heard d.told)

    on : (r : Reached g x.taken (before d.told later) seen x.history (tracked g x)) × Showing g first x.taken x.machine (before d.told later) r.tree
        → tracked g (record { machine = d.step.after; taken = taken_by x.taken d.told; heard = heard_by x.heard d.told; history = x.history ++ d.step.wrote }) + d.step.lowers ≡ tracked g x + d.step.raises
    on (r, shown) = evened g first x d.told later r.tree shown n.picked d.step d.chosen.place

pub steps_are_tracked : MovesAreCounted → StepsAreTracked
steps_are_tracked counts g first seen x told f k w law u o c = on (u (before told f) (open_before x.heard told f c.once o))
  where
    on : (r : Reached g x.taken (before told f) seen x.history (tracked g x)) × Showing g first x.taken x.machine (before told f) r.tree
        → tracked g x + w.raises ≤ g.tracker + (planned g (taken_by x.taken told) f).reserved
    on (r, shown) =
        let m = write_moves g first x.taken x.heard told f seen x.history (tracked g x) r x.machine k w law o shown c.place (asks_so g first x told k w f c) in
        let n : Counted g x.taken (before told f) (tracked g x) m.0 = counts g x.taken (before told f) seen x.history (tracked g x) r m.0 m.1 in
        subst (λ (z : Plan). tracked g x + w.raises ≤ g.tracker + z.reserved) (same_plan g x.taken told f)
        (subst (λ z. tracked g x + z ≤ g.tracker + (planned g x.taken (before told f)).reserved) (sym m.2.raises) n.tracked)

pub tracker_comes : TrackerComes
tracker_comes g first seen x told f k w law u o c = subst (λ z. Comes g z seen k (tracked g x + w.raises)) (same_begin told) (on (u (before told f) (open_before x.heard told f c.once o)))
  where
    same_begin : (a : Answer) → begin g x.taken (before a f) ≡ begin g (taken_by x.taken a) f
    same_begin unasked = refl
    same_begin (came b) = ap (λ z. started g.way g.type g.mark z f.fits) (sym (append_assoc x.taken (b ∷ []) f.later))
    same_begin over = refl

    on : (r : Reached g x.taken (before told f) seen x.history (tracked g x)) × Showing g first x.taken x.machine (before told f) r.tree → Comes g (begin g x.taken (before told f)) seen k (tracked g x + w.raises)
    on (r, shown) =
        let m = move_of g first x.taken x.heard told f seen x.history (tracked g x) r x.machine k w law o shown c.place (asks_so g first x told k w f c) in
        record { tree = r.tree; moves = r.moves; runs = r.runs; seen_is = r.seen_is; move = m.0; place = m.1; counts = tracked g x; counts_are = r.tracked; number_is = ap (λ z. tracked g x + z) m.2.raises }

pub tracker_comes_within : MovesAreCounted → TrackerComesWithin
tracker_comes_within counted g taken f seen k n c =
    let m : Counted g taken f c.counts c.move = counted g taken f seen (appended c.moves) c.counts r c.move (nth_in (moves_at g c.tree) k c.move c.place) in
    subst (λ z. z ≤ g.tracker + (planned g taken f).reserved) (sym c.number_is) m.tracked
  where
    r : Reached g taken f seen (appended c.moves) c.counts
    r = record { tree = c.tree; moves = c.moves; runs = c.runs; seen_is = c.seen_is; wrote = refl; tracked = c.counts_are }
