-- Bytes that are the spelling of cells of a type.
use Rattle.std.specs.Prelude.{◌≡◌, ℕ, List, length, IsTrue}
use Rattle.vx_model.specs.Words.{joined_by, all_by}
use Rattle.vx_model.specs.Ty.{Ty}
use Rattle.vx_model.specs.CellData.{CellData, fits, spelling}
use Rattle.vx_layout_spec.specs.Real.{is_real_cell}

-- The bytes are the spelling of so many cells of the type. Texts are UTF-8 and lengths fit 64 bits.
pub record AreFilled (t : Ty) (rows : ℕ) (bytes : List ℕ) (cs : List CellData) : Type 0 where
  pub spelled : bytes ≡ joined_by (spelling t) cs
  pub count : length cs ≡ rows
  pub fit : IsTrue (all_by (fits t) cs)
  pub real : IsTrue (all_by is_real_cell cs)
