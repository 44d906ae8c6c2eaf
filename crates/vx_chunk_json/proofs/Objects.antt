-- Values at keys.
use Rattle.std.proofs.Common.{◌≡◌, Option, Some, Ordering, Less, Equal, Greater, cond, is_eq, refl}
use Rattle.std.specs.Ordering.{match_ordering}
use Rattle.serde_json.specs.Data.{Data}
use Rattle.vx_json.specs.Steps.{◌>>=◌}

-- what f makes of the value at the first key, else what it makes at the others
pub at_first : {A : Type 0} (f : Data → Option A) (o : Ordering) (d : Data) (rest : Option Data) (later : Option A) → later ≡ (rest >>= f)
    → cond (is_eq o) (f d) later ≡ (match_ordering o rest (Some d) rest >>= f)
at_first f Less d rest later h = h
at_first f Equal d rest later h = refl
at_first f Greater d rest later h = h
