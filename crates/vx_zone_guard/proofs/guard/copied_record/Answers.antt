use Rattle.std.proofs.Common.{map, ap, ◌∙◌}
use Rattle.vx_model.specs.TyView.{ty}
use Rattle.vx_model.specs.TreeView.{tree, val}
use Rattle.vx_aggregate.specs.AggregateView.{aggregate}
use Rattle.vx_zone_guard.proofs.GuardSteps.{fit_cells, chunk_record}
use Rattle.vx_zone_guard.proofs.guard.copied_record.Goals as goal

pub cells_record-requires-clause-fit : goal.cells_record-requires-clause-fit
cells_record-requires-clause-fit c = fit_cells c.args.chunk.now (ty c.args.dtype.now) (map tree c.deref.result.now) c.sound.ensures c.requires.typed (ap (map tree) c.deref.ensures.value ∙ c.in-Ok.ensures.cells)

pub returns-clause-values : goal.returns-clause-values
returns-clause-values c =
    chunk_record (ty c.args.dtype.now) c.args.chunk.now (map tree c.deref.result.now) (map aggregate c.args.aggregates.now) (map val c.in_ok-values.values.items) c.requires.stands (ap (map tree) c.deref.ensures.value ∙ c.in-Ok.ensures.cells) c.in_ok-values.ensures.record
