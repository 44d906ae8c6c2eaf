-- The loop over ids.
use Rattle.std.proofs.Common.{◌≡◌, ℕ, ◌+◌, ◌<◌, ◌||◌, bytes_eq, List, length, get_or, drop, refl}
use Rattle.std.proofs.lemmas.List.{drop_more, drop_all}
use Rattle.vx_model.specs.Words.{lists_id}

pub drop_listed : (ids : List (List ℕ)) (id : List ℕ) (i : ℕ) (other : List ℕ) → i < length ids → other ≡ get_or ids i other
    → lists_id id (drop i ids) ≡ (bytes_eq other id || lists_id id (drop (i + 1) ids))
drop_listed ids id i other lt is = rw (drop_more ids i other lt, ← is) refl

pub ruleset id_rules = (drop_listed, drop_all)
