use Rattle.std.proofs.Common.{rules, ◌≡◌, true, length, refl}
use Rattle.vx_model.specs.TyView.{ty}
use Rattle.vx_model.specs.ChunkData.{is_dict_type}
use Rattle.vx_column.specs.ColumnView.{column_cells}
use Rattle.vx_table_compressor.proofs.ImageSteps.{coded_is}
use Rattle.vx_table_compressor.proofs.image.coded.Goals as goal

pub returns : goal.returns
returns c =
    let d : is_dict_type (ty c.args.dtype.now) ≡ true = search rules in
    coded_is (ty c.args.dtype.now) (column_cells c.args.column.now) c.len.result c.dictionary.result d c.len.ensures c.dictionary.ensures
