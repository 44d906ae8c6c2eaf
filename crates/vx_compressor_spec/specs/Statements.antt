-- The law of the table compressor's images.
use Rattle.std.specs.Prelude.{◌≡◌, ℕ}
use Rattle.vx_model.specs.Ty.{Ty}
use Rattle.vx_model.specs.ChunkData.{ChunkData, cells}
use Rattle.vx_layout_spec.specs.Real.{Of}
use Rattle.vx_compressor_spec.specs.TableImage.{table_image}

-- The image of a whole chunk is a whole chunk of the same type with the same cells.
pub record Kept (which : ℕ) (t : Ty) (p : ChunkData) : Type 0 where
  pub whole : Of t (table_image which p)
  pub cells : cells (table_image which p) ≡ cells p

abbrev pub ImagesKeepCells : Type 0
ImagesKeepCells = (which : ℕ) (t : Ty) (p : ChunkData) → Of t p → Kept which t p
