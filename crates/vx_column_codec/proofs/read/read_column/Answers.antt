use Rattle.std.proofs.Common.{List, Option, subst, arith}
use Rattle.vx_model.specs.TyView.{ty}
use Rattle.vx_model.specs.CellData.{CellData}
use Rattle.vx_cell_codec.specs.Views.{Gives}
use Rattle.vx_cell_codec.proofs.FilledLaws.{cells_again}
use Rattle.vx_column.specs.ColumnView.{column_cells}
use Rattle.vx_column_codec.proofs.FillSteps.{is_found, is_bounded}
use Rattle.vx_column_codec.proofs.read.read_column.Goals as goal

pub returns-clause-found : goal.returns-clause-found
returns-clause-found c = is_found (ty c.args.dtype.now) c.args.rows c.args.bytes.now c.read_rows.result (λ i. omega (arith, c.type_inv.bytes i)) c.read_rows.ensures

pub returns-clause-only : goal.returns-clause-only
returns-clause-only c = λ cs filled. subst (λ (o : Option (List CellData)). Gives column_cells c.read_rows.result o) (cells_again (ty c.args.dtype.now) c.args.rows c.args.bytes.now cs filled) c.read_rows.ensures

pub returns-clause-bounded : goal.returns-clause-bounded
returns-clause-bounded c = is_bounded (ty c.args.dtype.now) c.args.rows c.args.bytes.now c.read_rows.result (λ i. omega (arith, c.type_inv.bytes i)) c.read_rows.ensures
