-- An advance and a descend of the id.
use Rattle.std.proofs.Common.{◌≡◌, ℕ, List, ap₂, ◌∙◌, subst, sym, inr}
use Rattle.vx_path.specs.Path.{Eof, eof_path, inside, next}
use Rattle.vx_sequence.specs.Universe.{Active, IsActive, advanced, descended, split_from, released}
use Rattle.vx_sequence.proofs.Uses.{advanced_id}
use Rattle.vx_order.specs.Ids.{SplitRefused}

pub off_is : (off e : Eof) (id : List ℕ) → id ≡ eof_path e → (off.stem ≡ id) × (off.last ≡ 0) → off ≡ inside e
off_is off e id is h = let stem : off.stem ≡ eof_path e = h.0 ∙ is in λ j. record { stem = stem j; last = h.1 j }

pub id_is_active : (u v : Active) (e : Eof) (id : List ℕ) → v ≡ advanced u e → id ≡ eof_path e → IsActive v id
id_is_active u v e id made is = subst (λ w. IsActive w id) (sym made) (subst (IsActive (advanced u e)) (sym is) (advanced_id u e))

pub split_is_made : (u v w : Active) (e : Eof) (id : List ℕ) → v ≡ advanced u e → id ≡ eof_path e → w ≡ descended v id → w ≡ split_from u e
split_is_made u v w e id made is then = then ∙ ap₂ descended made is

-- where the id isn't descended, it is released
pub id_is_lost : (u v w x : Active) (e f : Eof) (id back : List ℕ) → v ≡ advanced u e → id ≡ eof_path e → w ≡ v → back ≡ id → x ≡ released w back
    → f ≡ next e → SplitRefused u e x f
id_is_lost u v w x e f id back made is same handed gone at = inr (at, gone ∙ ap₂ released (same ∙ made) (handed ∙ is))
