use Rattle.std.proofs.Common.{map}
use Rattle.vx_model.specs.TyView.{ty}
use Rattle.vx_model.specs.TreeView.{tree}
use Rattle.vx_chunk_cells.specs.Parts.{struct_fields}
use Rattle.vx_chunk.proofs.FieldSteps.{count_is, cells_width, cells_columns, columns_are}
use Rattle.vx_chunk.proofs.fields.field_columns.Goals as goal

pub columns_of-requires : goal.columns_of-requires
columns_of-requires c =
    let t = ty c.args.dtype.now in
    rw (count_is t c.types_of-types.result.now c.types_of-types.ensures) (cells_width t (map tree c.args.cells.items) c.requires.structs c.requires.fit)

pub typed-requires : goal.typed-requires
typed-requires c =
    let t = ty c.args.dtype.now in
    rw (c.types_of-types.ensures, c.in_ok-columns.ensures, count_is t c.types_of-types.result.now c.types_of-types.ensures) (cells_columns t (map tree c.args.cells.items) c.requires.structs c.requires.fit)

pub returns : goal.returns
returns c =
    let t = ty c.args.dtype.now in
    let same = columns_are (struct_fields t) (map tree c.args.cells.items) in
    rw (← same, ← count_is t c.types_of-types.result.now c.types_of-types.ensures, ← c.in_ok-columns.ensures, ← c.types_of-types.ensures) c.typed.ensures
