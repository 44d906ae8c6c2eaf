-- A map from ids to their places.
use Rattle.std.specs.Prelude.{◌≡◌, ℕ, List}
use Rattle.std.specs.Cmp.Lexicographic.{slice_cmp}
use Rattle.std.specs.Ordering.{nat_cmp}
use Rattle.std.specs.BTreeMap.{BTreeMap, get_by}
use denote.Ref.{Bor}
use Rattle.vx_session.specs.Ids.{place_of}

-- the map has the place of each id that is listed, and no other id
abbrev pub TellsPlaces : BTreeMap (Bor (List ℕ)) ℕ → List (List ℕ) → Type 0
TellsPlaces places ids = (id : List ℕ) → get_by (λ k. slice_cmp nat_cmp id k.now) places ≡ place_of id ids
