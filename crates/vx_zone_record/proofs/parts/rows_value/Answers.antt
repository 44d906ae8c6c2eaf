use Rattle.vx_hash.specs.XxHash3.{xxhash3_64}
use Rattle.vx_model.specs.TyView.{ty}
use Rattle.vx_typed.specs.Lent.{lent_cell}
use Rattle.vx_aggregate.specs.AggregateView.{aggregate}
use Rattle.vx_zone_record.proofs.RecordSteps.{cells_fit}
use Rattle.vx_zone_record.proofs.PartSteps.{value_seen}
use Rattle.vx_zone_record.proofs.parts.rows_value.Goals as goal

pub aggregate_value-requires-clause-fit : goal.aggregate_value-requires-clause-fit
aggregate_value-requires-clause-fit c = cells_fit lent_cell (ty c.args.column.now) c.args.rows.now c.requires.fit

pub returns : goal.returns
returns c = value_seen lent_cell xxhash3_64 (ty c.args.column.now) c.args.rows.now (aggregate c.args.aggregate) c.aggregate_value.result c.aggregate_value.ensures
