-- Counts of what is ready, and walks over children.
use Rattle.std.proofs.Common.{◌≡◌, List, [], ◌∷◌, length, refl, arith}

-- ---- walks

pub none_is : {A : Type 0} (xs : List A) → length xs ≡ 0 → xs ≡ []
none_is [] h = refl
none_is (y ∷ ys) h = absurd (omega (arith, h))
