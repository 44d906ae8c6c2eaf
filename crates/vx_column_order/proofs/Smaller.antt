-- The least active path beside a path that isn't least.
use Rattle.std.proofs.Common.{Bor, ◌≡◌, ℕ, List, Option, Some, None, IfSome, IsTrue, true, subst, ⊎_elim}
use Rattle.std.specs.Prelude.{MatchOption}
use Rattle.std.proofs.lemmas.Bool.{cases_Bool}
use Rattle.std.specs.FinMap as map
use Rattle.vx_path.specs.Path.{path_le, path_lt}
use Rattle.vx_path.proofs.Path.{path_le-trans, not_le}
use Rattle.vx_sequence.specs.Universe.{Active, IsActive, IsLeast}
use Rattle.vx_sequence.proofs.Sets.{not_empty}

pub least_below : (u : Active) (p id : List ℕ) → IsLeast u p → ¬ (IsLeast u id) → path_lt p id ≡ true
least_below u p id least not = not_le p id (⊎_elim (λ t. absurd (not (λ q a. path_le-trans id p q t (least q a)))) (λ f. f) (cases_Bool (path_le id p)))

pub none_active : (u : Active) (id : List ℕ) → u ≡ map.empty → IsActive u id → ⊥
none_active u id e a = not_empty id (subst (λ w. IsActive w id) e a)

-- what is found where the id isn't least
pub below : (u : Active) (id : List ℕ) (r : Option (Bor (List ℕ))) → ¬ (IsLeast u id) → MatchOption r (u ≡ map.empty) (λ p. IsActive u p.now × IsLeast u p.now)
    → IfSome r (λ p. IsActive u p.now × IsLeast u p.now × IsTrue (path_lt p.now id))
below u id None not found = tt
below u id (Some p) not found = (found.0, found.1, least_below u p.now id found.1 not)
