-- What a tree of encodings is spelled as: the spelling that the reader takes back.
use Rattle.std.specs.Prelude.{ℕ, zero, suc, ◌+◌, ◌<◌, ◌^◌, Bool, true, false, List, [], ◌∷◌, length}
use Rattle.std.specs.List.{AllByRecursion}
use Rattle.vx_model.specs.Words.{joined_by}
use Rattle.vx_model.specs.CellData.{bit}
use Rattle.vx_segment_writer.specs.Head.{Head, head_spelling}
use Rattle.vx_segment_spec.specs.Reading.{RawTree}

-- whether nodes in pre-order are so many whole trees
abbrev pub are_trees : ℕ → List Head → Bool
are_trees zero [] = true
are_trees zero (n ∷ ns) = false
are_trees (suc pending) [] = false
are_trees (suc pending) (n ∷ ns) = are_trees (pending + n.children) ns

abbrev pub tree_spelling : RawTree → List ℕ
tree_spelling t = bit t.padded ∷ joined_by head_spelling t.nodes

-- the numbers of a node fit their fields
pub record IsHead (n : Head) : Type 0 where
  pub index : n.index < 2 ^ 16
  pub rows : n.rows < 2 ^ 64
  pub count : length n.lengths < 2 ^ 8
  pub lengths : AllByRecursion (λ m. m < 2 ^ 64) n.lengths
  pub children : n.children < 2 ^ 64
