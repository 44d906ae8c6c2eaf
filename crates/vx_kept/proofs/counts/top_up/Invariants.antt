use Rattle.std.proofs.Common.{◌≡◌, ◌-◌, length}
use Rattle.vx_machine_state.specs.State.{Tasks}
use Rattle.vx_machine_state.specs.Acts.{count}
use Rattle.vx_kept.specs.Kept.{KnowsFrom}
use Rattle.vx_kept.proofs.counts.top_up.Given as goal

abbrev pub invariant-more : goal.invariant-more
invariant-more l = (ks : Tasks) → count ks ≡ l.len → KnowsFrom l.initial.asked.items 0 l.initial.ready l.initial.kids.items ks → KnowsFrom l.asked.items 0 l.ready l.kids.items ks

abbrev pub decreases-more : goal.decreases-more
decreases-more l = l.len - length l.ready
