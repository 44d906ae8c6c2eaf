-- Each strategy is one that constructors make.
use Rattle.std.proofs.Common.{◌≡◌, true, List, [], ◌∷◌, refl}
use Rattle.std.proofs.lemmas.Bool.{and_from, and_parts}
use Rattle.vx_strategy_spec.specs.StrategyData.{by_blocks}
use Rattle.vx_strategy_spec.specs.Admitted.{is_admitted, are_admitted, are_apart, wraps_admitted, is_admitted_grouping, is_admitted_zoned}
use Rattle.vx_strategy.specs.AdmittedStrategy.{item_admitted}
use Rattle.vx_strategy_options.specs.RuleViews.{block_rule, zone_rule}
use Rattle.vx_strategy.specs.FieldWays.{field_ways}
use Rattle.vx_strategy.specs.WrapViews.{wraps}
use Rattle.vx_strategy.specs.StrategyView.{strategy_data}
use Rattle.vx_strategy_options.specs.declared.block_rule.BlockRule.{BlockRule}
use Rattle.vx_strategy_options.specs.declared.zone_rule.ZoneRule.{ZoneRule}
use Rattle.vx_strategy.specs.declared.field_writer.FieldWriter.{FieldWriter}
use Rattle.vx_strategy.specs.declared.strategy.Strategy.{Strategy}
use Rattle.vx_strategy.specs.declared.strategy.Strategy.TheVariants.{Flat, Chunked, Struct, List as ListStrategy, Dict, Zoned, Repartition, Buffered, Collect, Compressing, Table}
use Rattle.vx_strategy.specs.declared.wrapper.Wrapper.{Wrapper}
use Rattle.vx_strategy.specs.declared.wrapper.Wrapper.TheVariants as tested
use Rattle.vx_strategy_options.proofs.Admits.{above_zero, below_u32}

blocks_admitted : (r : BlockRule) → is_admitted_grouping (by_blocks (block_rule r)) ≡ true
blocks_admitted r = above_zero _ r.multiple.ok

zones_admitted : (r : ZoneRule) → is_admitted_zoned (zone_rule r) ≡ true
zones_admitted r = and_from _ _ (above_zero _ r.zone_len.ok) (and_from _ _ (below_u32 _ r.short) (and_from _ _ (above_zero _ r.concurrency.ok) r.admitted))

writers_admitted : (ws : List FieldWriter) → are_admitted (field_ways ws) ≡ true
writers_admitted [] = refl
writers_admitted (w ∷ ws) = and_from _ _ w.writer.passes (writers_admitted ws)

all_wraps_admitted : (ws : List Wrapper) → wraps_admitted (wraps ws) ≡ true
all_wraps_admitted [] = refl
all_wraps_admitted (tested.Repartition r ∷ ws) = and_from _ _ (blocks_admitted r) (all_wraps_admitted ws)
all_wraps_admitted (tested.Buffered size ∷ ws) = all_wraps_admitted ws
all_wraps_admitted (tested.Zoned stats r ∷ ws) = and_from _ _ (zones_admitted r) (and_from _ _ stats.passes (all_wraps_admitted ws))

pub strategy_admitted : (s : Strategy) → is_admitted (strategy_data s) ≡ true
strategy_admitted (Flat s) = refl
strategy_admitted (Chunked s) = s.child.passes
strategy_admitted (Struct s) = and_from _ _ s.validity.passes (and_from _ _ s.default.passes (writers_admitted s.writers.items))
strategy_admitted (ListStrategy s) = and_from _ _ s.elements.passes (and_from _ _ s.offsets.passes (and_from _ _ s.validity.passes s.fallback.passes))
strategy_admitted (Dict s) = and_from _ _ s.codes.passes (and_from _ _ s.values.passes s.fallback.passes)
strategy_admitted (Zoned s) = and_from _ _ (zones_admitted s.rule) (and_from _ _ s.child.passes s.stats.passes)
strategy_admitted (Repartition s) = and_from _ _ (blocks_admitted s.rule) s.child.passes
strategy_admitted (Buffered s) = s.child.passes
strategy_admitted (Collect s) = s.child.passes
strategy_admitted (Compressing s) = and_from _ _ (above_zero _ s.concurrency.ok) s.child.passes
strategy_admitted (Table s) =
    and_from _ _ s.validity.passes (and_from _ _ s.leaf.passes (and_from _ _
    (and_parts (are_apart s.overrides.item) (are_admitted s.overrides.item) s.overrides.passes).0 (and_from _ _
    (and_parts (are_apart s.overrides.item) (are_admitted s.overrides.item) s.overrides.passes).1
    (all_wraps_admitted s.wrappers.value.items))))

pub ruleset child_rules = (strategy_admitted, item_admitted)
