use Rattle.std.proofs.Common.{map, ap, ◌∙◌}
use Rattle.vx_model.specs.TyView.{ty}
use Rattle.vx_model.specs.TreeView.{val}
use Rattle.vx_typed.specs.Lent.{lent_cell}
use Rattle.vx_aggregate.specs.AggregateView.{aggregate}
use Rattle.vx_zone_guard.proofs.GuardSteps.{fit_cells, chunk_record}
use Rattle.vx_zone_guard.proofs.guard.held_record.Goals as goal

pub lent_record-requires-clause-fit : goal.lent_record-requires-clause-fit
lent_record-requires-clause-fit c =
    fit_cells c.args.chunk.now (ty c.args.dtype.now) (map lent_cell c.deref.result.now) c.sound.ensures c.requires.typed (ap (map lent_cell) c.deref.ensures.value ∙ c.in_ok-rows.ensures ∙ c.in-Some.ensures.cells)

pub returns-in-Some-clause-values : goal.returns-in-Some-clause-values
returns-in-Some-clause-values c =
    chunk_record (ty c.args.dtype.now) c.args.chunk.now (map lent_cell c.deref.result.now) (map aggregate c.args.aggregates.now) (map val c.in_ok-values.values.items) c.requires.stands
    (ap (map lent_cell) c.deref.ensures.value ∙ c.in_ok-rows.ensures ∙ c.in-Some.ensures.cells) c.in_ok-values.ensures.record
