-- What a column's tracker counts is at most what the plan reserves.
use Rattle.std.proofs.Common.{◌≡◌, ◌+◌, ◌^◌, ◌≤◌, ◌++◌, ◌∙◌, ℕ, Bool, true, List, length, Some, None, slice_get, refl, sym, ap, subst, arith, append-nil, []}
use Rattle.vx_model.specs.Ty.{Ty, Tys, struct}
use Rattle.vx_model.specs.ChunkData.{ChunkData}
use Rattle.vx_named_tasks.specs.Names.{Outset, CanBegin}
use Rattle.vx_named_tasks.proofs.NamedLaws.{column_begins}
use Rattle.vx_strategy_spec.specs.StrategyData.{StrategyData, StrategyList, structured}
use Rattle.vx_strategy_spec.specs.Walk.{duplicate}
use Rattle.vx_strategy_spec.specs.Dispatch.{dispatch}
use Rattle.vx_plan.specs.PlanData.{Setting, Plan}
use Rattle.vx_plan.specs.SourcePlan.{source_plan}
use Rattle.vx_column_plan.specs.Columns.{columns_by}
use Rattle.vx_column_ways.specs.Ways.{columns_in}
use Rattle.vx_machine_turns.specs.Source.{stream_plan}
use Rattle.vx_machine_steps.specs.Runs.{appended}
use Rattle.vx_machine_promises.specs.Write.{Future, planned_at}
use Rattle.vx_machine_promises.specs.Reached.{ReachedAt, moves_at}
use Rattle.vx_machine_promises.specs.Promises.{MovesAreCountedAt, CountedBy}
use Rattle.vx_machine_runs.proofs.Counting.{nth_in}
use Rattle.vx_column_worker.specs.Course.{Course, write_of, outset_of, plan_of}
use Rattle.vx_column_worker.specs.Causes.{Passes}
use Rattle.vx_write_columns.specs.Beside.{PassesBeside}
use Rattle.vx_write_columns.proofs.Beside.{course_at}
use Rattle.vx_write_columns.proofs.Causing.{course_there, reserves_within}

-- the future in which no more comes
abbrev no_more : Future
no_more = record { later = []; fits = true }

pub passes_within : ((o : Outset) → MovesAreCountedAt o) → (x : Course) (n : ℕ) → Passes x n → n ≤ (plan_of x).reserved
passes_within counted x n h =
    let c = h.comes in
    let r : ReachedAt (write_of x) (outset_of x) x.chunks no_more h.notes (appended c.moves) c.counts
    = record { tree = c.tree; moves = c.moves; runs = c.runs; seen_is = c.seen_is; wrote = refl; tracked = c.counts_are } in
    let begins : CanBegin (outset_of x) (length (x.chunks ++ []))
    = subst (λ (z : List ChunkData). CanBegin (outset_of x) (length z)) (sym (append-nil x.chunks)) (column_begins x.number (length x.chunks)) in
    let m : CountedBy (write_of x) (planned_at (write_of x) (outset_of x) x.chunks no_more) c.counts c.move
    = counted (outset_of x) (write_of x) x.chunks no_more h.notes (appended c.moves) c.counts r begins c.move
    (nth_in (moves_at (write_of x) c.tree) h.place c.move c.place) in
    let same : (planned_at (write_of x) (outset_of x) x.chunks no_more).reserved ≡ (plan_of x).reserved
    = ap (λ (z : List ChunkData). (stream_plan x.setting x.column.way x.column.type x.column.mark (outset_of x) z true).reserved) (append-nil x.chunks) in
    let t : c.counts + c.move.act.raises ≤ 0 + (planned_at (write_of x) (outset_of x) x.chunks no_more).reserved = m.tracked in
    let is : n ≡ c.counts + c.move.act.raises = c.number_is in
    omega arith

-- past 64 bits
pub beside_past : (s : Setting) (w : StrategyData) (t : Ty) (m : Bool) (bs : List ChunkData) (i : ℕ) → PassesBeside s w t m bs i → 2 ^ 64 ≤ i
beside_past s w t m bs i h = h.passes.past

module _ (counted : (o : Outset) → MovesAreCountedAt o) (s : Setting) (v d : StrategyData) (ws : StrategyList) (m : Bool) (fs : Tys) (n : Bool) (bs : List ChunkData) (distinct : duplicate fs ≡ None)
    (w : StrategyData) (at_type : dispatch w (struct fs n) ≡ structured v d ws) where
  abbrev p : Plan
  p = source_plan s (structured v d ws) (struct fs n) m bs true

  pub beside_within : (i : ℕ) → PassesBeside s w (struct fs n) m bs i → i ≤ p.reserved
  beside_within i h =
      let z : 0 + h.place ≡ h.place = omega arith in
      let x : Course = course_at s fs n bs h.place h.column in
      let here = subst (λ (u : StrategyData). slice_get (columns_in u (struct fs n) m) h.place ≡ Some h.column) at_type h.at in
      let there = course_there s fs n bs 0 (columns_by v d ws m fs n) h.place h.column here ∙ ap (λ j. Some (course_at s fs n bs j h.column)) z in
      let a : i ≤ (plan_of x).reserved = passes_within counted x i h.passes in
      let b : (plan_of x).reserved ≤ p.reserved = reserves_within s v d ws m fs n bs distinct h.place x there in
      omega arith
