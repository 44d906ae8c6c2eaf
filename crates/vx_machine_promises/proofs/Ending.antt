-- What a write has appended, and what stands where all is done.
use Rattle.std.proofs.Common.{◌≡◌, ◌+◌, ◌++◌, ◌∙◌, ℕ, Bool, true, false, not, List, map, length, None, refl, sym, ap, subst, arith, []}
use Rattle.vx_model.specs.ChunkData.{ChunkData}
use Rattle.vx_tasks.specs.Task.{refuses_in}
use Rattle.vx_tasks.specs.State.{left}
use Rattle.vx_tasks.specs.Rules.{NoneRefuses}
use Rattle.vx_tasks.specs.Run.{Note}
use Rattle.vx_tasks.proofs.Runs.{at_the_end}
use Rattle.vx_tasks.proofs.Scripts.{no_true}
use Rattle.vx_plan.specs.PlanData.{Pair, Plan}
use Rattle.vx_plan.specs.Number.{sorted}
use Rattle.vx_plan.specs.SourcePlan.{start_fault}
use Rattle.vx_machine_turns.specs.Acts.{raised_in, lowered_in}
use Rattle.vx_machine_turns.specs.Readings.{fault_reading, layout_reading, raise_reading, lower_reading}
use Rattle.vx_machine_turns.specs.Plain.{task_of, script_reading}
use Rattle.vx_machine_turns.specs.Source.{named_acts, seed_at}
use Rattle.vx_machine_turns.specs.Forms.{form_nodes}
use Rattle.vx_machine_turns.proofs.WholeLaws.{source_is_silent, root_is_source}
use Rattle.vx_strategy_spec.specs.Walk.{walk}
use Rattle.vx_named_tasks.specs.Names.{Outset, root_outset, CanBegin}
use Rattle.vx_named_tasks.proofs.NamedLaws.{root_begins}
use Rattle.vx_machine_steps.specs.Tree.{read, forest, counts}
use Rattle.vx_machine_steps.specs.Moves.{all_over, view}
use Rattle.vx_machine_steps.specs.Runs.{Runs, acts_of, done}
use Rattle.vx_machine_steps.proofs.Joins.{refuses-plain}
use Rattle.vx_machine_steps.proofs.Laws.{end_is_free, over_is_done}
use Rattle.vx_machine_steps.proofs.Unrefused.{none_refused}
use Rattle.vx_machine_steps.proofs.Sorted.{all_sorted}
use Rattle.vx_machine_steps.specs.StartPlanned.{IsPlannedAt}
use Rattle.vx_machine_steps.proofs.Start.{start_at_reads}
use Rattle.vx_machine_steps.proofs.Summed.{sum_raised, sum_lowered, raised_start, lowered_start}
use Rattle.vx_machine_promises.specs.Write.{Write, Future, depth, begin_at, scripts_at, planned_at}
use Rattle.vx_machine_promises.specs.Reached.{ReachedAt}
use Rattle.vx_machine_promises.specs.Promises.{HistoryIsFirst, EndedBy, EndIsPlannedAt, EndIsPlanned}
use Rattle.vx_machine_promises.proofs.Standing.{history_first_at, at_start_at, runs_at, leads_at, leads_on_at, reads_at}

pub history_is_first : HistoryIsFirst
history_is_first g taken f seen history tracker r =
    let h = history_first_at g root_outset taken f seen history tracker r (root_begins (length (taken ++ f.later))) in
    (h.0, ap (λ (p : Plan). sorted p.pairs) (sym (root_is_source g.setting g.way g.type g.mark (taken ++ f.later) f.fits)) ∙ h.1, h.2)

not_false : (b : Bool) → not b ≡ false → b ≡ true
not_false true e = refl
not_false false e = absurd (no_true e refl)

-- ---- wherever it begins

module _ (g : Write) (o : Outset) (taken : List ChunkData) (f : Future) (seen : List Note) (history : List Pair) (tracker : ℕ) (r : ReachedAt g o taken f seen history tracker)
    (can : CanBegin o (length (taken ++ f.later))) (over : all_over r.tree ≡ true) where
  start : IsPlannedAt g.setting g.way g.type g.mark o (taken ++ f.later) f.fits (planned_at g o taken f)
  start = at_start_at g o taken f seen history tracker r can

  lead : Runs g.setting (depth g) (begin_at g o taken f) r.moves r.tree
  lead = runs_at g o taken f seen history tracker r can

  left_none : left (forest g.setting (depth g) r.tree) (counts r.tree) ≡ 0
  left_none = (over_is_done g.setting (depth g) r.tree (leads_at g o taken f seen history tracker r can).2).0 over

  nothing_left : left (scripts_at g o taken f) (counts r.tree) ≡ 0
  nothing_left = subst (λ z. left z (counts r.tree) ≡ 0) (leads_at g o taken f seen history tracker r can).1 left_none

  none : NoneRefuses (scripts_at g o taken f)
  none = (at_the_end (scripts_at g o taken f) (counts r.tree) (map view r.moves) start.stands.rules (leads_on_at g o taken f seen history tracker r can) nothing_left).0

  -- the source refuses where a batch doesn't fit
  fits : f.fits ≡ true
  fits = not_false f.fits (sym (source_is_silent o.names (taken ++ f.later) f.fits).1 ∙ sym (refuses-plain 1 (named_acts o.names (taken ++ f.later) f.fits)) ∙ own)
    where
      own : refuses_in (task_of (seed_at (walk form_nodes g.way g.type) g.mark o) (named_acts o.names (taken ++ f.later) f.fits)).script ≡ false
      own = (subst NoneRefuses (start_at_reads script_reading g.setting (depth g) (walk form_nodes g.way g.type) g.mark o (taken ++ f.later) f.fits) none).0

  no_refusals : read g.setting fault_reading (depth g) 0 [] (begin_at g o taken f) ≡ []
  no_refusals = none_refused g.setting (depth g) (begin_at g o taken f) none

  all_raised : raised_in (acts_of r.moves) ≡ (planned_at g o taken f).reserved
  all_raised =
      let a : done raised_in r.tree ≡ done raised_in (begin_at g o taken f) + raised_in (acts_of r.moves) = sum_raised.grows g.setting (depth g) (begin_at g o taken f) r.tree r.moves lead in
      let b : done raised_in (begin_at g o taken f) ≡ 0 = raised_start (depth g) (walk form_nodes g.way g.type) g.mark o (taken ++ f.later) f.fits in
      let c : done raised_in r.tree ≡ (planned_at g o taken f).reserved = sum_raised.ends g.setting (depth g) r.tree left_none ∙ reads_at g o taken f seen history tracker r can raise_reading ∙ start.raises in
      omega (arith, a, b, c)

  all_lowered : lowered_in (acts_of r.moves) ≡ (planned_at g o taken f).reserved
  all_lowered =
      let a : done lowered_in r.tree ≡ done lowered_in (begin_at g o taken f) + lowered_in (acts_of r.moves) = sum_lowered.grows g.setting (depth g) (begin_at g o taken f) r.tree r.moves lead in
      let b : done lowered_in (begin_at g o taken f) ≡ 0 = lowered_start (depth g) (walk form_nodes g.way g.type) g.mark o (taken ++ f.later) f.fits in
      let c : done lowered_in r.tree ≡ (planned_at g o taken f).reserved = sum_lowered.ends g.setting (depth g) r.tree left_none ∙ reads_at g o taken f seen history tracker r can lower_reading ∙ start.lowers fits in
      omega (arith, a, b, c)

  ended : start_fault g.setting g.way g.type g.mark ≡ None → EndedBy g (planned_at g o taken f) f history tracker r.tree
  ended begun =
      let clean : (planned_at g o taken f).faults ≡ [] = start.clean no_refusals begun in
      record {
        fits = fits;
        faultless = clean;
        whole = r.wrote ∙ all_sorted g.setting (depth g) (begin_at g o taken f) r.tree r.moves start.stands start.order start.zeros lead nothing_left start.one ∙ ap sorted start.pairs;
        layout = reads_at g o taken f seen history tracker r can layout_reading ∙ start.layout fits clean;
        tracked =
            let c : tracker + lowered_in (acts_of r.moves) ≡ g.tracker + raised_in (acts_of r.moves) = r.tracked in
            omega (arith, all_raised, all_lowered, c);
        free = end_is_free g.setting (depth g) r.tree (leads_at g o taken f seen history tracker r can).2 over;
      }

pub end_is_planned_at : (o : Outset) → EndIsPlannedAt o
end_is_planned_at o g taken f seen history tracker r can over begun = ended g o taken f seen history tracker r can over begun

-- ---- a whole write

pub end_is_planned : EndIsPlanned
end_is_planned g taken f seen history tracker r over begun =
    subst (λ (p : Plan). EndedBy g p f history tracker r.tree) (root_is_source g.setting g.way g.type g.mark (taken ++ f.later) f.fits)
    (end_is_planned_at root_outset g taken f seen history tracker r (root_begins (length (taken ++ f.later))) over begun)
