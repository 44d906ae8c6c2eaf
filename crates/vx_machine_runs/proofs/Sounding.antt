-- What holds of the next step, wherever a run stands.
use Rattle.std.proofs.Common.{◌≡◌, ◌+◌, ◌^◌, ◌<◌, ◌≤◌, ◌⊎◌, ◌||◌, ◌∷◌, ◌∙◌, ℕ, Bool, true, false, List, length, refl, sym, ap, subst, inl, inr, arith, Option, Some, None, is_some, []}
use Rattle.vx_path.specs.Lists.{In}
use Rattle.vx_path.specs.Path.{root_eof}
use Rattle.vx_plan.specs.PlanData.{Plan, What, Fault}
use Rattle.vx_plan.specs.Number.{sorted}
use Rattle.vx_plan.specs.SourcePlan.{batch_items, start_fault}
use Rattle.vx_plan.specs.Valid.{Fit, Has, IsPast}
use Rattle.vx_plan.proofs.SourceLaws.{start_stands}
use Rattle.vx_machine_turns.specs.Acts.{refuses}
use Rattle.vx_machine_turns.specs.Planned.{AtMost}
use Rattle.vx_machine_promises.specs.Write.{unasked, planned, taken_by, before}
use Rattle.vx_machine_promises.specs.Reached.{Reached, moves_at}
use Rattle.vx_machine_promises.specs.Promises.{HistoryIsFirst, RefusalsHaveCause, MovesAreCounted, AppendsFit, StartIsCounted}
use Rattle.vx_machine_view.specs.Machine.{WholeStep, is_finished, machine_ids}
use Rattle.vx_machine_view.specs.Places.{whole_ready}
use Rattle.vx_machine_view.specs.Underway.{Showing, ready_steps}
use Rattle.vx_machine_view.proofs.Placing.{whole_is_ready}
use Rattle.vx_machine_runs.specs.Runs.{tracked}
use Rattle.vx_machine_runs.specs.Ends.{Caused}
use Rattle.vx_machine_runs.specs.Steps.{IdleIsFinished, HistoryIsFront, AppendIsOneMore, PastIsCaused, StartIsCaused, SoundStep, ValidIsSound, ValidStarts}
use Rattle.vx_machine_runs.proofs.Counting.{nth_in}
use Rattle.vx_machine_runs.proofs.Doing.{opened_first}
use Rattle.vx_machine_runs.proofs.Ending.{same_plan, stays_ready, caused}
use Rattle.vx_machine_runs.proofs.Reaching.{move_of}
use Rattle.vx_machine_runs.proofs.Stepping.{open_before, asks_so}

pub idle_is_finished : IdleIsFinished
idle_is_finished g first seen x law u none = by (is_finished x.machine) refl
  where
    by : (b : Bool) → is_finished x.machine ≡ b → is_finished x.machine ≡ true
    by true e = e
    by false e =
        let a : 0 < length (ready_steps g first x.history unasked x.machine) = stays_ready g first seen x unasked law u e in
        let b : length (ready_steps g first x.history unasked x.machine) ≡ whole_ready (machine_ids x.machine) x.machine = whole_is_ready g.setting (machine_ids x.machine) (first + length x.history) unasked x.machine in
        absurd (omega (arith, a, b, none))

pub history_is_front : HistoryIsFirst → HistoryIsFront
history_is_front firsts g first seen x told f once o u =
    let r = (u (before told f) (open_before x.heard told f once o)).0 in
    let h = firsts g x.taken (before told f) seen x.history (tracked g x) r in
    (h.0, ap (λ (z : Plan). sorted z.pairs) (sym (same_plan g x.taken told f)) ∙ h.1)

-- ---- valid input

pub fits : (n : ℕ) (ns : List ℕ) → Fit ns → In n ns → n < 2 ^ 64
fits n [] h i = absurd i
fits n (m ∷ ns) h (inl e) = omega (arith, h.0, e)
fits n (m ∷ ns) h (inr i) = fits n ns h.1 i

pub none_has : (w : What) (fs : List Fault) → fs ≡ [] → Has w fs → ⊥
none_has w fs e h = no_one h.0 (subst (In h.0) e h.1)
  where
    no_one : (x : Fault) → In x [] → ⊥
    no_one x i = i

fits_most : (n : ℕ) (ns : List ℕ) → Fit ns → AtMost n ns → n < 2 ^ 64
fits_most n ns h (m, i, l) = let a : m < 2 ^ 64 = fits m ns h i in omega (arith, a, l)

sound_of : (p : Plan) (w : WholeStep) → p.faults ≡ [] → Fit p.numbers → Caused p w → SoundStep w
sound_of p w clean fit c = record {
  unrefused = by w.refusal refl;
  numbers = λ n i. fits n p.numbers fit (c.numbers n i);
  indices = λ n i. fits_most n p.numbers fit (c.indices n i);
  joined = λ n i. joins n (c.joined n i);
}
  where
    by : (o : Option What) → w.refusal ≡ o → w.refusal ≡ None
    by None e = e
    by (Some v) e = absurd (none_has v p.faults clean (c.refusal v e))

    joins : (n : ℕ) → (n ≡ 0) ⊎ In n p.numbers → n < 2 ^ 64
    joins n (inl e) = omega (arith, e)
    joins n (inr i) = fits n p.numbers fit i

pub valid_is_sound : RefusalsHaveCause → MovesAreCounted → ValidIsSound
valid_is_sound refusals counts g first seen x told f k w law u o c clean fit = on (u (before told f) (open_before x.heard told f c.once o))
  where
    on : (r : Reached g x.taken (before told f) seen x.history (tracked g x)) × Showing g first x.taken x.machine (before told f) r.tree → SoundStep w
    on (r, shown) = sound_of (planned g (taken_by x.taken told) f) w clean fit (caused refusals counts g first seen x told k w law c f o r shown)

pub valid_starts : StartIsCounted → ValidStarts
valid_starts counts g f clean fit =
    (by (start_fault g.setting g.way g.type g.mark) refl, λ n i. fits_most n (planned g [] f).numbers fit (counts g f n (subst (λ z. In n z) (sym (opened_first g)) i)))
  where
    by : (o : Option What) → start_fault g.setting g.way g.type g.mark ≡ o → start_fault g.setting g.way g.type g.mark ≡ None
    by None e = e
    by (Some v) e = absurd (none_has v (planned g [] f).faults clean (start_stands g.setting g.way g.type g.mark v e (batch_items 0 f.later) f.fits root_eof))

-- ---- an append

pub append_is_one_more : AppendsFit → AppendIsOneMore
append_is_one_more more g first seen x told f k w y law u o c none e = on (u (before told f) (open_before x.heard told f c.once o))
  where
    on : (r : Reached g x.taken (before told f) seen x.history (tracked g x)) × Showing g first x.taken x.machine (before told f) r.tree → length x.history < length (planned g (taken_by x.taken told) f).pairs
    on (r, shown) =
        let m = move_of g first x.taken x.heard told f seen x.history (tracked g x) r x.machine k w law o shown c.place (asks_so g first x told k w f c) in
        let q : refuses m.0.act ≡ false = ap (λ z. z || is_some m.0.act.refusal) (sym m.2.misfit ∙ c.fits) ∙ ap is_some (sym m.2.refusal ∙ none) in
        subst (λ (z : Plan). length x.history < length z.pairs) (same_plan g x.taken told f)
        (more g x.taken (before told f) seen x.history (tracked g x) r m.0 y (nth_in (moves_at g r.tree) k m.0 m.1) q (sym m.2.wrote ∙ e))

-- ---- what doesn't fit

pub past_most : (n : ℕ) (ns : List ℕ) → 2 ^ 64 ≤ n → AtMost n ns → IsPast (2 ^ 64) ns
past_most n ns big (m, i, l) = (omega arith, inr (refl, (m, i, omega (arith, big, l))))

pub past_is_caused : PastIsCaused
past_is_caused p w n c big = record {
  numbers = λ i. (big, inl (c.numbers n i));
  joined = λ i. (big, inl (joins (c.joined n i)));
  indices = λ i. past_most n p.numbers big (c.indices n i);
}
  where
    joins : (n ≡ 0) ⊎ In n p.numbers → In n p.numbers
    joins (inl e) = absurd (omega (arith, e, big))
    joins (inr i) = i

pub start_is_caused : StartIsCounted → StartIsCaused
start_is_caused counts g f n i big = past_most n (planned g [] f).numbers big (counts g f n (subst (λ z. In n z) (sym (opened_first g)) i))
