use Rattle.vx_rules.specs.Flushes.{flushed, still_held}
use Rattle.vx_regroup.specs.Kept.{chunks_in}
use Rattle.vx_regroup.proofs.FlushSteps.{flushed_end, still_end}
use Rattle.vx_regroup.proofs.buffered.flush.Goals as goal

pub returns-clause-leaves : goal.returns-clause-leaves
returns-clause-leaves c = flushed_end c.args.size c.loop-total.total c.loop-total.kept.items c.loop-total.invariant.stands c.loop-total-test.false c.loop-total.chunks.items (flushed c.args.size (chunks_in c.args.kept.items)) c.loop-total.invariant.leaves

pub returns-clause-holds : goal.returns-clause-holds
returns-clause-holds c = still_end c.args.size c.loop-total.total c.loop-total.kept.items c.loop-total.invariant.stands c.loop-total-test.false (still_held c.args.size (chunks_in c.args.kept.items)) c.loop-total.invariant.holds
