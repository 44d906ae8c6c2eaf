-- The number of a layout's rows, and what is counted on the way to it.
use Rattle.std.specs.Prelude.{◌≡◌, ℕ, zero, suc, ◌+◌, List, [], ◌∷◌, length, Option, Some, None, Ok, option_map}
use Rattle.vx_model.specs.ValueData.{ValueData}
use Rattle.vx_layout_spec.specs.LayoutTree.{LayoutData, row_count}
use Rattle.vx_layout_spec.specs.Rows.{rows}
use Rattle.vx_segment_reader.specs.Codec.{segment_codec}
use Rattle.vx_layout_tree.specs.Children.{child_in}

-- the layout gives so many rows
abbrev pub IsCount : (ℕ → Option (List ℕ)) → LayoutData ℕ → ℕ → Type 0
IsCount look l n = option_map length (rows segment_codec look l) ≡ Some n

-- the child at the place can be built
abbrev pub HasChild : List (LayoutData ℕ) → ℕ → Type 0
HasChild ls i = (x : LayoutData ℕ) × (child_in ls i ≡ Ok x)

-- the rows of the child at the place
abbrev pub rows_of_child : (ℕ → Option (List ℕ)) → List (LayoutData ℕ) → ℕ → Option (List ValueData)
rows_of_child look [] i = None
rows_of_child look (l ∷ ls) zero = rows segment_codec look l
rows_of_child look (l ∷ ls) (suc i) = rows_of_child look ls i

-- the rows that the first children count, so many of them
abbrev pub rows_before : List (LayoutData ℕ) → ℕ → ℕ
rows_before ls zero = 0
rows_before [] (suc i) = 0
rows_before (l ∷ ls) (suc i) = row_count l + rows_before ls i
