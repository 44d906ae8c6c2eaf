use Rattle.std.proofs.Common.{◌≡◌, ◌+◌, ◌++◌, List, length}
use Rattle.std.specs.Vec.Iter.{into_iter_items}
use Rattle.vx_model.specs.TyView.{ty}
use Rattle.vx_react.specs.Reactor.{Output}
use Rattle.vx_react.specs.Cutter.{closed_outputs}
use Rattle.vx_strategy_options.specs.OptionViews.{dict_options}
use Rattle.vx_runs.specs.Cutting.{pairs, ClosedFit}
use Rattle.vx_runs.proofs.outputs.push_closed.Given as goal

abbrev pub invariant-loop-run : goal.invariant-loop-run
invariant-loop-run l = record {
  number : l.next + length (into_iter_items l.run-iterator) ≡ l.number + length l.fn.closed.items;
  fit : ClosedFit (dict_options l.limits 0) (ty l.dtype) (pairs (into_iter_items l.run-iterator));
  outputs : (more : List Output) → l.outputs.items ++ closed_outputs (dict_options l.limits 0) (ty l.dtype) l.next (pairs (into_iter_items l.run-iterator)) more
      ≡ l.fn.outputs.items ++ closed_outputs (dict_options l.limits 0) (ty l.dtype) l.number (pairs l.fn.closed.items) more;
}
