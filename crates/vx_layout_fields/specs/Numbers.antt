-- The numbers of fields that masks mean.
use Rattle.std.specs.Prelude.{◌<◌, List, length}
use Rattle.std.specs.List.{All}
use Rattle.vx_model.specs.Ty.{Named}
use Rattle.vx_layout_fields.specs.Matching.{Match}

-- each is the number of a field
abbrev pub AreNumbers : List Named → List Match → Type 0
AreNumbers fields matches = All (λ m. m.1 < length fields) matches
