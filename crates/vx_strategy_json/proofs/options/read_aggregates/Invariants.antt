use Rattle.std.proofs.Common.{◌≡◌, drop, map}
use Rattle.serde_json.specs.View.{items_view}
use Rattle.vx_aggregate.specs.AggregateView.{aggregate}
use Rattle.vx_json.specs.Lists.{each}
use Rattle.vx_strategy_json.specs.Options.{aggregate_of}
use Rattle.vx_json.proofs.Items.{with_front}
use Rattle.vx_strategy_json.proofs.options.read_aggregates.Given as goal

abbrev pub invariant-loop-item : goal.invariant-loop-item
invariant-loop-item l = with_front (map aggregate l.aggregates.items) (each aggregate_of (items_view (drop l.item-index l.items))) ≡ each aggregate_of (items_view l.items)
