use Rattle.vx_chunk.proofs.CellsFit.{cells_fit}
use Rattle.vx_chunk.proofs.node.Chunk.into_plain_fields.Goals as goal

pub field_columns-fields-requires-clause-fit : goal.field_columns-fields-requires-clause-fit
field_columns-fields-requires-clause-fit c = rw (c.in-Ok.ensures.cases, c.dtype.ensures, c.in-Ok-into_cells.ensures.cells) (cells_fit c.args.self c.sound.ensures)
