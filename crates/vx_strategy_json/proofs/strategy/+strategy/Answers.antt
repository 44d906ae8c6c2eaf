use Rattle.std.proofs.Common.{◌≡◌, map, Some}
use Rattle.std.proofs.lemmas.List.{map_push}
use Rattle.serde_json.specs.Find.{as_str}
use Rattle.serde_json.specs.View.{view, items_view}
use Rattle.vx_strategy.specs.PairWays.{named_way, path_way}
use Rattle.vx_json.specs.Lists.{each}
use Rattle.vx_json.specs.Values.{all, pair}
use Rattle.vx_json.proofs.Items.{each_goes_on}
use Rattle.vx_strategy_json.specs.Forms.{wrap_of}
use Rattle.vx_strategy_json.specs.StrategyText.{strategy_of}
use Rattle.vx_strategy_json.specs.Views.{wrap}
use Rattle.vx_strategy_json.proofs.Fixed.{strategy_is}
use Rattle.vx_strategy_json.proofs.strategy.+strategy.Goals as goal

pub read_strategy-returns : goal.read_strategy-returns
read_strategy-returns t c = rw (strategy_is (view c.args.value.now)) c.read_form.ensures

pub read_fields-loop-item-preserved : goal.read_fields-loop-item-preserved
read_fields-loop-item-preserved t c =
    let read : (pair as_str strategy_of) _ ≡ Some (named_way c.in_ok-read_field.field-0) = c.in_ok-read_field.ensures in
    rw (c.in_ok-push.ensures.items, map_push)
    (each_goes_on (pair as_str strategy_of) c.in_ok-items.items.now c.loop-item.item-index c.item-item.result (map named_way c.loop-item.fields.items) (named_way c.in_ok-read_field.field-0)
    (each (pair as_str strategy_of) (items_view c.in_ok-items.items.now)) c.loop-item-test.true c.item-item.is read c.loop-item.invariant)

pub read_overrides-loop-item-preserved : goal.read_overrides-loop-item-preserved
read_overrides-loop-item-preserved t c =
    let read : (pair (all as_str) strategy_of) _ ≡ Some (path_way c.in_ok-read_override.field-0) = c.in_ok-read_override.ensures in
    rw (c.in_ok-push.ensures.items, map_push)
    (each_goes_on (pair (all as_str) strategy_of) c.in_ok-items.items.now c.loop-item.item-index c.item-item.result (map path_way c.loop-item.overrides.items) (path_way c.in_ok-read_override.field-0)
    (each (pair (all as_str) strategy_of) (items_view c.in_ok-items.items.now)) c.loop-item-test.true c.item-item.is read c.loop-item.invariant)

pub read_wraps-loop-item-preserved : goal.read_wraps-loop-item-preserved
read_wraps-loop-item-preserved t c =
    let read : (wrap_of strategy_of) _ ≡ Some (wrap c.in_ok-read_wrap.field-0) = c.in_ok-read_wrap.ensures in
    rw (c.in_ok-push.ensures.items, map_push)
    (each_goes_on (wrap_of strategy_of) c.in_ok-items.items.now c.loop-item.item-index c.item-item.result (map wrap c.loop-item.wraps.items) (wrap c.in_ok-read_wrap.field-0)
    (each (wrap_of strategy_of) (items_view c.in_ok-items.items.now)) c.loop-item-test.true c.item-item.is read c.loop-item.invariant)
