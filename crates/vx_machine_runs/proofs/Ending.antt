-- What stands where a run ends, or a step of it is refused.
use Rattle.std.proofs.Common.{◌≡◌, ◌⊎◌, ◌∷◌, ◌∙◌, ℕ, Bool, true, List, map, refl, sym, ap, subst, ⊎_elim, append_assoc, append-nil, []}
use Rattle.vx_model.specs.ChunkData.{ChunkData}
use Rattle.vx_path.specs.Lists.{In}
use Rattle.vx_layout_spec.specs.LayoutTree.{renamed}
use Rattle.vx_machine_state.specs.Images.{Careful}
use Rattle.vx_tasks.specs.Run.{Note}
use Rattle.vx_plan.specs.PlanData.{Plan}
use Rattle.vx_plan.specs.Number.{sorted, number_of, numbered}
use Rattle.vx_plan.specs.SourcePlan.{source_plan}
use Rattle.vx_plan.specs.Valid.{Has}
use Rattle.vx_machine_turns.specs.Planned.{AtMost}
use Rattle.vx_machine_steps.specs.Tree.{opened}
use Rattle.vx_path.proofs.Lists.{in_cases}
use Rattle.vx_machine_promises.specs.Write.{Write, Future, Open, Answer, unasked, came, over, planned, taken_by, heard_by, before}
use Rattle.vx_machine_promises.specs.Reached.{Reached}
use Rattle.vx_machine_promises.specs.Promises.{EndIsPlanned, Ended, RefusalsHaveCause, MovesAreCounted, Counted}
use Rattle.vx_machine_view.specs.Machine.{WholeStep}
use Rattle.vx_machine_view.specs.Underway.{Showing}
use Rattle.vx_machine_view.proofs.Reserving.{finish_reserves}
use Rattle.vx_machine_view.proofs.Underway.{write_moves, write_ready, write_ends, write_joins}
use Rattle.vx_machine_runs.specs.Runs.{Stand, tracked, Chosen}
use Rattle.vx_machine_runs.specs.Ends.{plan_of, StaysReady, Whole, EndsWhole, Caused, StepsHaveCause}
use Rattle.vx_machine_runs.proofs.Stepping.{open_before, asks_so}

-- the future in which no more comes
abbrev pub none_later : Bool → Future
none_later heard = record { later = []; fits = heard }

pub open_none : (heard : Bool) → Open heard (none_later heard)
open_none heard = λ h. (refl, h)

pub none_planned : (g : Write) (taken : List ChunkData) (heard : Bool) → planned g taken (none_later heard) ≡ plan_of g taken heard
none_planned g taken heard = ap (λ z. source_plan g.setting g.way g.type g.mark z heard) (append-nil taken)

pub same_plan : (g : Write) (taken : List ChunkData) (a : Answer) (f : Future) → planned g taken (before a f) ≡ planned g (taken_by taken a) f
same_plan g taken unasked f = refl
same_plan g taken (came b) f = ap (λ z. source_plan g.setting g.way g.type g.mark z f.fits) (sym (append_assoc taken (b ∷ []) f.later))
same_plan g taken over f = refl

pub stays_ready : StaysReady
stays_ready g first seen x a law u n =
    let p = u (none_later x.heard) (open_none x.heard) in
    write_ready g first x.taken a (none_later x.heard) seen x.history (tracked g x) p.0 x.machine law p.1 n

pub ends_whole : EndIsPlanned → EndsWhole
ends_whole planned_end g first seen x u s fin = from (u (none_later x.heard) (open_none x.heard))
  where
    from : (r : Reached g x.taken (none_later x.heard) seen x.history (tracked g x)) × Showing g first x.taken x.machine (none_later x.heard) r.tree → Whole g first x
    from (r, shown) =
        let w = write_ends g first x.taken (none_later x.heard) seen x.history (tracked g x) r x.machine shown fin in
        let e : Ended g x.taken (none_later x.heard) x.history (tracked g x) r.tree = planned_end g x.taken (none_later x.heard) seen x.history (tracked g x) r w.0 s in
        let p : planned g x.taken (none_later x.heard) ≡ plan_of g x.taken true = none_planned g x.taken x.heard ∙ ap (plan_of g x.taken) e.fits in
        record {
          heard = e.fits;
          faultless = ap (λ (z : Plan). z.faults) (sym p) ∙ e.faultless;
          appended = e.whole ∙ ap (λ (z : Plan). sorted z.pairs) p;
          layout = w.1 ∙ ap (λ ls. map (renamed (number_of (planned g x.taken (none_later x.heard)).pairs first)) ls) e.layout ∙ ap (λ z. numbered z first ∷ []) p;
          released = finish_reserves g (number_of (planned g x.taken (none_later x.heard)).pairs first) (none_later x.heard) x.machine r.tree shown fin;
        }

module _ (refusals : RefusalsHaveCause) (counts : MovesAreCounted) (g : Write) (first : ℕ) (seen : List Note) (x : Stand) (told : Answer) (k : ℕ) (w : WholeStep) (law : Careful g.setting)
    (c : Chosen g first x told k w) (f : Future) (o : Open (heard_by x.heard told) f) where
  pub caused : (r : Reached g x.taken (before told f) seen x.history (tracked g x)) → Showing g first x.taken x.machine (before told f) r.tree → Caused (planned g (taken_by x.taken told) f) w
  caused r shown =
      let p : planned g x.taken (before told f) ≡ planned g (taken_by x.taken told) f = same_plan g x.taken told f in
      let m = write_moves g first x.taken x.heard told f seen x.history (tracked g x) r x.machine k w law o shown c.place (asks_so g first x told k w f c) in
      let n : Counted g x.taken (before told f) (tracked g x) m.0 = counts g x.taken (before told f) seen x.history (tracked g x) r m.0 m.1 in
      record {
        refusal = λ v e. subst (λ (z : Plan). Has v z.faults) p (refusals g x.taken (before told f) seen x.history (tracked g x) r m.0 v m.1 (sym m.2.refusal ∙ e));
        numbers = λ i h. subst (λ (z : Plan). In i z.numbers) p (n.numbers i (subst (In i) m.2.numbers h));
        indices = λ i h. subst (λ (z : Plan). AtMost i z.numbers) p (⊎_elim (n.indices i) (n.births i) (in_cases i m.0.act.indices (opened m.0.room m.0.act.starts) (subst (In i) m.2.indices h)));
        joined = λ i h. subst (λ (z : Plan). (i ≡ 0) ⊎ In i z.numbers) p (write_joins g first x.taken told (before told f) seen x.history (tracked g x) r x.machine k w shown c.place i h);
      }

pub steps_have_cause : RefusalsHaveCause → MovesAreCounted → StepsHaveCause
steps_have_cause refusals counts g first seen x told f k w law u o c =
    let p = u (before told f) (open_before x.heard told f c.once o) in
    caused refusals counts g first seen x told k w law c f o p.0 p.1
