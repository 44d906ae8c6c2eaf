-- What the functions return, as contracts see it.
use Rattle.std.specs.Prelude.{ℕ, List, Option}
use Rattle.std.specs.Global.{Vec}
use Rattle.vx_field_path.specs.declared.mask.FieldMask.{FieldMask}
use Rattle.vx_layout_fields.specs.Matching.{Match}

abbrev pub matches_in : Vec (FieldMask × ℕ) → List Match
matches_in v = v.items

abbrev pub one_match : Option (FieldMask × ℕ) → Option Match
one_match o = o
