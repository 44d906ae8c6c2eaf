use Rattle.vx_hash.specs.XxHash3.{xxhash3_64}
use Rattle.vx_model.specs.TyView.{ty}
use Rattle.vx_typed.specs.Lent.{lent_cell}
use Rattle.vx_zone_record.proofs.RecordSteps.{cells_fit, record_seen}
use Rattle.vx_zone_record.proofs.zones.lent_record.Goals as goal

pub rows_record-requires-clause-fit : goal.rows_record-requires-clause-fit
rows_record-requires-clause-fit c = cells_fit lent_cell (ty c.args.column.now) c.args.rows.now c.requires.fit

pub returns-clause-record : goal.returns-clause-record
returns-clause-record c = λ columns e. record_seen lent_cell xxhash3_64 (ty c.args.column.now) c.args.rows.now _ columns (c.in_ok-rows_record.ensures.record columns e)
