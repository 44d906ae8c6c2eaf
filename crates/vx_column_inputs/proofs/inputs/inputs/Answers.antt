use Rattle.std.proofs.Common.{map, arith}
use Rattle.std.specs.Vec.Iter.{into_iter_items}
use Rattle.vx_sink.specs.ContextView.{is_marked, listed, allowed_in}
use Rattle.vx_sink.specs.contracts.list_source.ListSourceBatchSource.TheImpl as source
use Rattle.vx_sink.specs.contracts.list_source.ListSourceFallible.TheImpl as faults
use Rattle.vx_column_ways.specs.Ways.{column_of}
use Rattle.vx_column_inputs.proofs.Given.{made_all}
use Rattle.vx_column_inputs.proofs.inputs.inputs.Goals as goal

pub returns : goal.returns
returns c =
    made_all (listed c.args.ctx.now) (allowed_in c.args.ctx.now) source.ghosts.kind faults.ghosts.may_fail source.ghosts.to_come source.ghosts.left (is_marked c.args.ctx.now) (into_iter_items c.columns.ways) (into_iter_items c.columns.chunks-iterator)
    (map column_of c.args.ways.items) (map (λ x. x.items) c.args.split.items) c.columns.inputs.items (omega (arith, c.in-None.ensures.steps.0, c.columns.chunks-iterator.rest.ok.0)) c.columns.invariant.fit c.columns.invariant.made
