-- A node of the tree of encodings.
use Rattle.std.specs.Prelude.{ℕ, List, ◌∷◌, ◌++◌, length}
use Rattle.std.specs.Int.{w16, to_le_bytes}
use Rattle.vx_model.specs.Words.{joined_by}
use Rattle.vx_model.specs.CellData.{u64_bytes}

-- A node without its children, which are the nodes behind it.
pub record Head : Type 0 where
  -- the encoding's place in the context
  pub index : ℕ
  pub rows : ℕ
  -- one byte more
  pub extra : ℕ
  -- the lengths of its buffers in bytes
  pub lengths : List ℕ
  -- how many children it has
  pub children : ℕ

abbrev pub head_spelling : Head → List ℕ
head_spelling n = to_le_bytes w16 n.index ++ (u64_bytes n.rows ++ (n.extra ∷ length n.lengths ∷ (joined_by u64_bytes n.lengths ++ u64_bytes n.children)))
