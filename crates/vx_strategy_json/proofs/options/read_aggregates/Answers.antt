use Rattle.std.proofs.Common.{◌≡◌, map, Some}
use Rattle.std.proofs.lemmas.List.{map_push}
use Rattle.serde_json.specs.View.{items_view}
use Rattle.vx_aggregate.specs.AggregateView.{aggregate}
use Rattle.vx_json.specs.Lists.{each}
use Rattle.vx_json.proofs.Items.{each_goes_on}
use Rattle.vx_strategy_json.specs.Options.{aggregate_of}
use Rattle.vx_strategy_json.proofs.options.read_aggregates.Goals as goal

pub loop-item-preserved : goal.loop-item-preserved
loop-item-preserved c =
    let read : aggregate_of _ ≡ Some (aggregate c.in_ok-read_aggregate.field-0) = c.in_ok-read_aggregate.ensures in
    rw (c.in_ok-push.ensures.items, map_push)
    (each_goes_on aggregate_of c.in_ok-items.items.now c.loop-item.item-index c.item-item.result (map aggregate c.loop-item.aggregates.items) (aggregate c.in_ok-read_aggregate.field-0)
    (each aggregate_of (items_view c.in_ok-items.items.now)) c.loop-item-test.true c.item-item.is read c.loop-item.invariant)
