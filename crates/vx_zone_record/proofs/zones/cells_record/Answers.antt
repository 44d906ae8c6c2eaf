use Rattle.vx_hash.specs.XxHash3.{xxhash3_64}
use Rattle.vx_model.specs.TyView.{ty}
use Rattle.vx_model.specs.TreeView.{tree}
use Rattle.vx_zone_record.proofs.RecordSteps.{cells_fit, record_seen}
use Rattle.vx_zone_record.proofs.zones.cells_record.Goals as goal

pub rows_record-requires-clause-fit : goal.rows_record-requires-clause-fit
rows_record-requires-clause-fit c = cells_fit tree (ty c.args.column.now) c.args.cells.now c.requires.fit

pub returns-clause-record : goal.returns-clause-record
returns-clause-record c = λ columns e. record_seen tree xxhash3_64 (ty c.args.column.now) c.args.cells.now _ columns (c.in_ok-rows_record.ensures.record columns e)
