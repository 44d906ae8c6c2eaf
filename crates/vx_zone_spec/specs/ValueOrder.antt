-- The order of values of one kind: false before true, integers by size, texts and bytes by their bytes.
use Rattle.std.specs.Prelude.{◌&&◌, ◌||◌, Bool, false, not, if◌then◌else◌, List, [], ◌∷◌, int_lt}
use Rattle.vx_model.specs.ValueData.{ValueData, null_value, bool_value, int_value, text_value, bytes_value}
use Rattle.vx_path.specs.Path.{path_le, path_lt}

-- values of two kinds aren't compared
abbrev pub value_le : ValueData → ValueData → Bool
value_le (bool_value a) (bool_value b) = not a || b
value_le (int_value a) (int_value b) = not (int_lt b a)
value_le (text_value a) (text_value b) = path_le a b
value_le (bytes_value a) (bytes_value b) = path_le a b
value_le v w = false

abbrev pub value_lt : ValueData → ValueData → Bool
value_lt (bool_value a) (bool_value b) = not a && b
value_lt (int_value a) (int_value b) = int_lt a b
value_lt (text_value a) (text_value b) = path_lt a b
value_lt (bytes_value a) (bytes_value b) = path_lt a b
value_lt v w = false

abbrev pub value_same : ValueData → ValueData → Bool
value_same v w = value_le v w && value_le w v

-- ---- the greatest and the least of the values that aren't null; null where there is none

abbrev pub greater : ValueData → ValueData → ValueData
greater null_value w = w
greater v null_value = v
greater v w = if value_le v w then w else v

abbrev pub lesser : ValueData → ValueData → ValueData
lesser null_value w = w
lesser v null_value = v
lesser v w = if value_le v w then v else w

abbrev pub greatest : List ValueData → ValueData
greatest [] = null_value
greatest (v ∷ vs) = greater v (greatest vs)

abbrev pub least : List ValueData → ValueData
least [] = null_value
least (v ∷ vs) = lesser v (least vs)
