-- The images keep types and row values.
use Rattle.std.specs.Prelude.{ℕ, refl, map}
use Rattle.std.proofs.Common.{ap}
use Rattle.vx_model.specs.ValueData.{value}
use Rattle.vx_model.specs.ChunkData.{ChunkData, piece_type}
use Rattle.vx_layout_spec.specs.Real.{Whole, SameRows}
use Rattle.vx_compressor_spec.specs.TableImage.{table_image}
use Rattle.vx_compressor_spec.specs.Statements.{Kept}
use Rattle.vx_compressor_spec.proofs.ImageLaws.{images_keep_cells}

pub images_keep_rows : (which : ℕ) (p : ChunkData) → Whole p → SameRows p (table_image which p)
images_keep_rows which p whole =
    let kept : Kept which (piece_type p) p = images_keep_cells which (piece_type p) p (record { typed = refl; whole = whole }) in
    record { whole = kept.whole.whole; type = kept.whole.typed; values = ap (map value) kept.cells }
