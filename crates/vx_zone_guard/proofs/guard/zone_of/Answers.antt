use Rattle.std.proofs.Common.{◌≡◌, ℕ, length, map, sym, ap, subst, ◌∙◌, rules}
use Rattle.std.specs.Prelude.{Some, None}
use Rattle.std.proofs.lemmas.Result.{IfErr-weaker}
use Rattle.std.specs.Int.NonZero.{non_zero_u32_get}
use Rattle.vx_hash.specs.XxHash3.{xxhash3_64}
use Rattle.vx_model.specs.ChunkData.{cells, row_values}
use Rattle.vx_model.specs.TyView.{ty}
use Rattle.vx_aggregate_spec.specs.Aggregate.{held_aggregates}
use Rattle.vx_aggregate.specs.AggregateView.{aggregate}
use Rattle.vx_zone_spec.specs.Record.{zone_record}
use Rattle.vx_plan.specs.PlanData.{zone_cut}
use Rattle.vx_machine_turns.specs.Zoned.{zone_fault}
use Rattle.vx_zone_guard.specs.declared.error.GuardError.{GuardError}
use Rattle.vx_zone_guard.specs.declared.error.GuardError.TheVariants.{OutOfMemory}
use Rattle.vx_zone_guard.specs.GuardView.{guard_view}
use Rattle.vx_zone_guard.specs.Causes.{Refuses}
use Rattle.vx_zone_guard.proofs.GuardSteps.{none_held, some_held, untold, unrefused, refusal, recorded_zone, empty_list, some_list}
use Rattle.vx_zone_guard.proofs.guard.zone_of.Goals as goal

pub returns-then-is_empty-clause-zone : goal.returns-then-is_empty-clause-zone
returns-then-is_empty-clause-zone c =
    let t = ty c.args.dtype.now in
    let columns = held_aggregates (map aggregate c.args.aggregates.now) t in
    sym (untold columns (zone_record xxhash3_64 t (row_values c.args.chunk.now) columns)
    (none_held t c.args.aggregates.now (empty_list c.is_empty.result (length c.args.aggregates.now) c.is_empty.ensures c.if-is_empty.true)))

pub returns-then-is_empty-clause-makes_zones : goal.returns-then-is_empty-clause-makes_zones
returns-then-is_empty-clause-makes_zones c =
    let t = ty c.args.dtype.now in
    unrefused (non_zero_u32_get c.args.zone_len) c.args.last (length (cells c.args.chunk.now)) (held_aggregates (map aggregate c.args.aggregates.now) t)
    (none_held t c.args.aggregates.now (empty_list c.is_empty.result (length c.args.aggregates.now) c.is_empty.ensures c.if-is_empty.true))

pub returns-in-Some-clause-refused : goal.returns-in-Some-clause-refused
returns-in-Some-clause-refused c =
    let t = ty c.args.dtype.now in
    let columns = held_aggregates (map aggregate c.args.aggregates.now) t in
    subst (λ (n : ℕ). zone_fault (non_zero_u32_get c.args.zone_len) columns c.args.last n ≡ Some (zone_cut c.in-Some.rows)) c.len.ensures.rows
    (refusal (non_zero_u32_get c.args.zone_len) c.args.last c.len.result columns (Some (zone_cut c.in-Some.rows))
    (some_held t c.args.aggregates.now (some_list c.is_empty.result (length c.args.aggregates.now) c.is_empty.ensures c.if-is_empty.false) c.requires.stands) c.in-Some.ensures)

pub returns-in_ok-zone-in-None-clause-zone : goal.returns-in_ok-zone-in-None-clause-zone
returns-in_ok-zone-in-None-clause-zone c =
    let t = ty c.args.dtype.now in
    let columns = held_aggregates (map aggregate c.args.aggregates.now) t in
    ap Some c.in_ok-zone-in-None.ensures.values
    ∙ sym (recorded_zone columns (zone_record xxhash3_64 t (row_values c.args.chunk.now) columns)
    (some_held t c.args.aggregates.now (some_list c.is_empty.result (length c.args.aggregates.now) c.is_empty.ensures c.if-is_empty.false) c.requires.stands))

pub returns-in_ok-zone-in-None-clause-makes_zones : goal.returns-in_ok-zone-in-None-clause-makes_zones
returns-in_ok-zone-in-None-clause-makes_zones c =
    let t = ty c.args.dtype.now in
    let columns = held_aggregates (map aggregate c.args.aggregates.now) t in
    subst (λ (n : ℕ). zone_fault (non_zero_u32_get c.args.zone_len) columns c.args.last n ≡ None) c.len.ensures.rows
    (refusal (non_zero_u32_get c.args.zone_len) c.args.last c.len.result columns None
    (some_held t c.args.aggregates.now (some_list c.is_empty.result (length c.args.aggregates.now) c.is_empty.ensures c.if-is_empty.false) c.requires.stands) c.in-None.ensures)

pub returns-in_err-zone-in-None-clause-refused : goal.returns-in_err-zone-in-None-clause-refused
returns-in_err-zone-in-None-clause-refused c =
    let t = ty c.args.dtype.now in
    let columns = held_aggregates (map aggregate c.args.aggregates.now) t in
    let g = guard_view c.args.dtype.now (non_zero_u32_get c.args.zone_len) c.args.aggregates.now c.args.last in
    let some = some_held t c.args.aggregates.now (some_list c.is_empty.result (length c.args.aggregates.now) c.is_empty.ensures c.if-is_empty.false) c.requires.stands in
    let none : zone_fault (non_zero_u32_get c.args.zone_len) columns c.args.last (length (cells c.args.chunk.now)) ≡ None =
    subst (λ (n : ℕ). zone_fault (non_zero_u32_get c.args.zone_len) columns c.args.last n ≡ None) c.len.ensures.rows (refusal (non_zero_u32_get c.args.zone_len) c.args.last c.len.result columns None some c.in-None.ensures) in
    IfErr-weaker c.from_residual.result (λ (e : GuardError). e ≡ OutOfMemory) (Refuses g c.args.chunk.now) (λ e h. subst (λ (z : GuardError). Refuses g c.args.chunk.now z) (sym h) (none, some)) (search rules)
