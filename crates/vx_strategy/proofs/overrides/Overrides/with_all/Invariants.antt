use Rattle.std.proofs.Common.{◌≡◌, map, length}
use Rattle.std.specs.Vec.Iter.{into_iter_items, into_iter_len}
use Rattle.vx_strategy.specs.Overridden.{all_appended, AllFit}
use Rattle.vx_strategy.specs.Causes.{OverridesRefused}
use Rattle.vx_strategy.specs.PairWays.{path_way}
use Rattle.vx_strategy_options.specs.declared.error.BuildError.{BuildError}
use Rattle.vx_strategy.proofs.overrides.Overrides.with_all.Given as goal

abbrev pub invariant-loop-path : goal.invariant-loop-path
invariant-loop-path l = record {
  same : all_appended l.overrides.item (map path_way (into_iter_items l.path-iterator))
      ≡ all_appended l.initial.overrides.item (map path_way (into_iter_items l.initial.path-iterator));
  fit : AllFit l.overrides.item (map path_way (into_iter_items l.path-iterator)) → AllFit l.initial.overrides.item (map path_way (into_iter_items l.initial.path-iterator));
  refused : (e : BuildError) → OverridesRefused l.overrides.item (map path_way (into_iter_items l.path-iterator)) e
      → OverridesRefused l.initial.overrides.item (map path_way (into_iter_items l.initial.path-iterator)) e;
  left : into_iter_len l.path-iterator ≡ length (into_iter_items l.path-iterator);
}
