-- The parts of a desk.
use Rattle.std.specs.Prelude.{ℕ, List, map}
use Rattle.std.specs.Global.{Vec}
use Rattle.vx_sequence.specs.Universe.{Active}
use Rattle.vx_desk.specs.declared.desk.Desk.{Desk}

abbrev pub segments_in : List (Vec ℕ) → List (List ℕ)
segments_in vs = map (λ v. v.items) vs

abbrev pub universe_of : Desk → Active
universe_of o = o.universe

-- how many segments were written
abbrev pub written_of : Desk → ℕ
written_of o = o.written

-- those that weren't taken
abbrev pub kept_of : Desk → List (List ℕ)
kept_of o = segments_in o.kept.items
