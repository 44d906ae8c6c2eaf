-- The tasks of a write never get stuck.
use Rattle.std.proofs.Common.{◌≡◌, ◌+◌, ◌<◌, ◌⊎◌, ℕ, Bool, false, List, [], ◌∷◌, ◌++◌, length, refl, sym, subst, inl, inr, arith}
use Rattle.vx_model.specs.Ty.{Ty}
use Rattle.vx_model.specs.ChunkData.{ChunkData}
use Rattle.vx_path.specs.Lists.{In}
use Rattle.vx_tasks.specs.Task.{Forest}
use Rattle.vx_tasks.specs.State.{Counts, left}
use Rattle.vx_tasks.specs.State.Counts.{Zeros}
use Rattle.vx_tasks.specs.Run.{Move, outside, all_held, all_moves, ready, work, Leads}
use Rattle.vx_tasks.specs.Rules.{KeepsRules}
use Rattle.vx_tasks.proofs.Runs.{leads_left, always_ready}
use Rattle.vx_tasks.proofs.Steps.{move_left}
use Rattle.vx_cut_laws.specs.Cut.{cut}
use Rattle.vx_cut_laws.proofs.Runs.{same_moves, cut_is_done}
use Rattle.vx_strategy_spec.specs.StrategyData.{StrategyData}
use Rattle.vx_plan.specs.PlanData.{Setting}
use Rattle.vx_machine_steps.specs.StartPlanned.{started_forest}
use Rattle.vx_machine_steps.proofs.StartPlanned.{start_is_planned}
use Rattle.vx_write.specs.Traced.{tasks_of}
use Rattle.vx_write.specs.NowhereStuck.{NowhereStuck}

leads_more : (f : Forest) (s e : Counts) (ms : List Move) (m : Move) → Leads f s ms e → In m (all_moves f e) → m.action.refuses ≡ false → Leads f s (ms ++ (m ∷ [])) m.after
leads_more f s e [] m l i c = (subst (λ z. In m (all_moves f z)) (sym l) i, c, refl)
leads_more f s e (n ∷ ms) m (j, d, l) i c = (j, d, leads_more f n.after e ms m l i c)

-- what can be done where a refusal ends its task can be done
leads_uncut : (f : Forest) (before : List Move) (s e : Counts) (ms : List Move) → KeepsRules f → Leads f Zeros before s → Leads (cut f) s ms e → Leads f s ms e
leads_uncut f before s e [] rules b l = l
leads_uncut f before s e (m ∷ ms) rules b (i, c, l) =
    let j : In m (all_moves f s) = subst (λ z. In m z) (same_moves f s before rules b) i in
    (j, c, leads_uncut f (before ++ (m ∷ [])) m.after e ms rules (leads_more f Zeros s before m b j c) l)

module _ (f : Forest) (rules : KeepsRules f) (done : List Move) (s : Counts) (l : Leads (cut f) Zeros done s) (some : 0 < left (cut f) s) where
  led : Leads f Zeros done s
  led = leads_uncut f [] Zeros s done rules refl l

  left_too : 0 < left f s
  left_too = by (cases (left f s))
    where
      cases : (n : ℕ) → (n ≡ 0) ⊎ (0 < n)
      cases n = grind arith

      by : (left f s ≡ 0) ⊎ (0 < left f s) → 0 < left f s
      by (inl z) =
          let a : length done ≡ work (cut f) = cut_is_done f s done rules led z in
          let b : left (cut f) s + length done ≡ work (cut f) = leads_left (cut f) Zeros s done l in
          absurd (omega (arith, a, b, some))
      by (inr h) = h

  stays_ready : 0 < ready (cut f) s
  stays_ready = subst (λ z. 0 < length z) (sym (same_moves f s done rules led)) (always_ready f s done rules led left_too)

pub cut_stuck_nowhere : (f : Forest) → KeepsRules f → NowhereStuck (cut f)
cut_stuck_nowhere f rules = record {
  some_ready = λ done s l some. stays_ready f rules done s l some;
  falls = λ s m i. move_left (all_held (cut f) s) outside 1 0 (cut f) s m i;
}

-- those of a write are, whatever batches come, and whether their end is told
pub never_stuck : (s : Setting) (w : StrategyData) (t : Ty) (m : Bool) (xs : List ChunkData) (ended : Bool) → NowhereStuck (tasks_of s w t m xs ended)
never_stuck s w t m xs ended = cut_stuck_nowhere (started_forest s w t m xs ended) (start_is_planned s w t m xs ended).stands.rules
