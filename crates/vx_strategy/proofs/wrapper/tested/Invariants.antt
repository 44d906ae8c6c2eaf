use Rattle.std.proofs.Common.{◌≡◌, length}
use Rattle.std.specs.Vec.Iter.{into_iter_items, into_iter_len}
use Rattle.vx_strategy.specs.Wrapped.{wraps_asked}
use Rattle.vx_strategy.specs.WrapCauses.{AllWrap, FirstRefused}
use Rattle.vx_strategy_options.specs.declared.error.BuildError.{BuildError}
use Rattle.vx_strategy.proofs.Wrappers.{wraps_before}
use Rattle.vx_strategy.proofs.wrapper.tested.Given as goal

abbrev pub invariant-loop-wrapper : goal.invariant-loop-wrapper
invariant-loop-wrapper l = record {
  same : wraps_before l.wrappers.items (wraps_asked (into_iter_items l.wrapper-iterator)) ≡ wraps_asked (into_iter_items l.initial.wrapper-iterator);
  fit : AllWrap (into_iter_items l.wrapper-iterator) → AllWrap (into_iter_items l.initial.wrapper-iterator);
  refused : (e : BuildError) → FirstRefused (into_iter_items l.wrapper-iterator) e → FirstRefused (into_iter_items l.initial.wrapper-iterator) e;
  left : into_iter_len l.wrapper-iterator ≡ length (into_iter_items l.wrapper-iterator);
}
