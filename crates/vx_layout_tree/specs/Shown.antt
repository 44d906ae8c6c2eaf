-- The text of a layout.
use Rattle.std.specs.Prelude.{ℕ, Bool, true, false, List, [], ◌∷◌, ◌++◌, codes, decimal}
use Rattle.vx_model.specs.Shown.{comma, type_text}
use Rattle.vx_layout_spec.specs.LayoutTree.{LayoutData, layout_kind, layout_type, row_count, segments_of, kind_id}

-- numbers with commas between
abbrev pub numbers_text : Bool → List ℕ → List ℕ
numbers_text first [] = []
numbers_text first (n ∷ ns) = comma first ++ (decimal n ++ numbers_text false ns)

abbrev pub in_brackets : List ℕ → List ℕ
in_brackets ns = codes "[" ++ (numbers_text true ns ++ codes "]")

-- the segments, where there are any
abbrev pub segments_part : List ℕ → List ℕ
segments_part [] = []
segments_part (n ∷ ns) = codes ", segments=" ++ in_brackets (n ∷ ns)

-- the id, the type, the rows and its own segments
abbrev pub layout_text : LayoutData ℕ → List ℕ
layout_text l = kind_id (layout_kind l) ++ (codes "(" ++ (type_text (layout_type l) ++ (codes ", rows=" ++ (decimal (row_count l) ++ (segments_part (segments_of l) ++ codes ")")))))
