use Rattle.std.proofs.Common.{Option, subst, arith}
use Rattle.vx_model.specs.TyView.{ty}
use Rattle.vx_model.specs.TreeView.{tree}
use Rattle.vx_model.specs.CellData.{CellData}
use Rattle.vx_cell_codec.specs.Views.{Gives}
use Rattle.vx_cell_codec.proofs.FilledLaws.{is_found_one, only_again}
use Rattle.vx_cell_codec.proofs.reading.read_cell.Goals as goal

pub returns-clause-found : goal.returns-clause-found
returns-clause-found c = is_found_one (ty c.args.dtype.now) c.args.bytes.now c.read_only.result (λ i. omega (arith, c.type_inv.bytes i)) c.read_only.ensures

pub returns-clause-only : goal.returns-clause-only
returns-clause-only c = λ d filled. subst (λ (o : Option CellData). Gives tree c.read_only.result o) (only_again (ty c.args.dtype.now) c.args.bytes.now d filled) c.read_only.ensures
