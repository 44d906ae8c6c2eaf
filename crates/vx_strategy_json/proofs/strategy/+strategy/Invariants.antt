use Rattle.std.proofs.Common.{◌≡◌, ◌+◌, ◌*◌, drop, map}
use Rattle.serde_json.specs.Data.{depth}
use Rattle.serde_json.specs.Find.{as_str}
use Rattle.serde_json.specs.View.{view, items_view}
use Rattle.vx_strategy.specs.PairWays.{named_way, path_way}
use Rattle.vx_strategy_json.specs.Forms.{wrap_of}
use Rattle.vx_json.specs.Lists.{each}
use Rattle.vx_json.specs.Values.{all, pair}
use Rattle.vx_strategy_json.specs.StrategyText.{strategy_of}
use Rattle.vx_strategy_json.specs.Views.{wrap}
use Rattle.vx_json.proofs.Items.{with_front}
use Rattle.vx_strategy_json.proofs.strategy.+strategy.Given as goal

abbrev pub decreases-read_strategy : goal.decreases-read_strategy
decreases-read_strategy l = 4 * depth (view l.value.now) + 2

abbrev pub decreases-read_form : goal.decreases-read_form
decreases-read_form l = 4 * depth (view l.value.now) + 1

abbrev pub decreases-read_kind : goal.decreases-read_kind
decreases-read_kind l = 4 * depth (view l.value.now) + 4

abbrev pub decreases-read_chunked : goal.decreases-read_chunked
decreases-read_chunked l = 4 * depth (view l.value.now) + 3

abbrev pub decreases-read_collect : goal.decreases-read_collect
decreases-read_collect l = 4 * depth (view l.value.now) + 3

abbrev pub decreases-strategy_at : goal.decreases-strategy_at
decreases-strategy_at l = 4 * depth (view l.value.now) + 1

abbrev pub decreases-read_repartition : goal.decreases-read_repartition
decreases-read_repartition l = 4 * depth (view l.value.now) + 3

abbrev pub decreases-read_buffered : goal.decreases-read_buffered
decreases-read_buffered l = 4 * depth (view l.value.now) + 3

abbrev pub decreases-read_compress : goal.decreases-read_compress
decreases-read_compress l = 4 * depth (view l.value.now) + 3

abbrev pub decreases-read_zoned : goal.decreases-read_zoned
decreases-read_zoned l = 4 * depth (view l.value.now) + 3

abbrev pub decreases-read_dictionary : goal.decreases-read_dictionary
decreases-read_dictionary l = 4 * depth (view l.value.now) + 3

abbrev pub decreases-read_list : goal.decreases-read_list
decreases-read_list l = 4 * depth (view l.value.now) + 3

abbrev pub decreases-read_struct : goal.decreases-read_struct
decreases-read_struct l = 4 * depth (view l.value.now) + 3

abbrev pub decreases-read_fields : goal.decreases-read_fields
decreases-read_fields l = 4 * depth (view l.value.now) + 3

abbrev pub decreases-read_field : goal.decreases-read_field
decreases-read_field l = 4 * depth (view l.value.now) + 4

abbrev pub decreases-read_table : goal.decreases-read_table
decreases-read_table l = 4 * depth (view l.value.now) + 3

abbrev pub decreases-read_overrides : goal.decreases-read_overrides
decreases-read_overrides l = 4 * depth (view l.value.now) + 3

abbrev pub decreases-read_override : goal.decreases-read_override
decreases-read_override l = 4 * depth (view l.value.now) + 4

abbrev pub decreases-read_lists : goal.decreases-read_lists
decreases-read_lists l = 4 * depth (view l.value.now) + 4

abbrev pub decreases-read_wraps : goal.decreases-read_wraps
decreases-read_wraps l = 4 * depth (view l.value.now) + 3

abbrev pub decreases-read_wrap : goal.decreases-read_wrap
decreases-read_wrap l = 4 * depth (view l.value.now) + 4

abbrev pub decreases-read_wrap_kind : goal.decreases-read_wrap_kind
decreases-read_wrap_kind l = 4 * depth (view l.value.now) + 4

abbrev pub decreases-read_zoned_around : goal.decreases-read_zoned_around
decreases-read_zoned_around l = 4 * depth (view l.value.now) + 3

abbrev pub invariant-read_fields-loop-item : goal.invariant-read_fields-loop-item
invariant-read_fields-loop-item l = with_front (map named_way l.fields.items) (each (pair as_str strategy_of) (items_view (drop l.item-index l.items))) ≡ each (pair as_str strategy_of) (items_view l.items)

abbrev pub invariant-read_overrides-loop-item : goal.invariant-read_overrides-loop-item
invariant-read_overrides-loop-item l = with_front (map path_way l.overrides.items) (each (pair (all as_str) strategy_of) (items_view (drop l.item-index l.items))) ≡ each (pair (all as_str) strategy_of) (items_view l.items)

abbrev pub invariant-read_wraps-loop-item : goal.invariant-read_wraps-loop-item
invariant-read_wraps-loop-item l = with_front (map wrap l.wraps.items) (each (wrap_of strategy_of) (items_view (drop l.item-index l.items))) ≡ each (wrap_of strategy_of) (items_view l.items)

abbrev pub decreases-both_at : goal.decreases-both_at
decreases-both_at l = 4 * depth (view l.value.now) + 2

abbrev pub decreases-fields_at : goal.decreases-fields_at
decreases-fields_at l = 4 * depth (view l.value.now) + 2

abbrev pub decreases-overrides_at : goal.decreases-overrides_at
decreases-overrides_at l = 4 * depth (view l.value.now) + 2

abbrev pub decreases-lists_at : goal.decreases-lists_at
decreases-lists_at l = 4 * depth (view l.value.now) + 2
