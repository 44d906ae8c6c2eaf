use Rattle.std.proofs.Common.{sym, ◌∙◌, arith}
use Rattle.vx_zone_map.specs.PredicateView.{predicate_data}
use Rattle.vx_zone_map.proofs.PruneSteps.{flag_more, flags_all, none_skipped}
use Rattle.vx_zone_map.proofs.map.ZoneMap.prune.Goals as goal

pub loop-place-preserved : goal.loop-place-preserved
loop-place-preserved c =
    rw c.in_ok-push.ensures.items
    (flag_more c.args.self.now (predicate_data c.args.predicate.now) c.loop-place.skips.items c.loop-place.place c.rows_at-rows.result c.rules_out-skipped.result c.as_slice-columns.result.now _
    c.loop-place-test.true c.as_slice-columns.ensures.value c.rows_at-rows.ensures c.rules_out-skipped.ensures c.loop-place.invariant)

pub returns-clause-zones : goal.returns-clause-zones
returns-clause-zones c = flags_all c.args.self.now (predicate_data c.args.predicate.now) c.loop-place.skips.items c.loop-place.place _ (omega arith) c.loop-place.invariant

pub returns-clause-sound : goal.returns-clause-sound
returns-clause-sound c =
    none_skipped c.args.self.now (predicate_data c.args.predicate.now) c.loop-place.skips.items
    (flags_all c.args.self.now (predicate_data c.args.predicate.now) c.loop-place.skips.items c.loop-place.place _ (omega arith) c.loop-place.invariant) (sym c.fits.ensures ∙ c.if-not-fits.false)
