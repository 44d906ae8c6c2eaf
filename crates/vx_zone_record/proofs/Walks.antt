-- What holds of each element from a place on, at that place and behind it.
use Rattle.std.proofs.Common.{◌≡◌, ℕ, ◌+◌, ◌<◌, ◌&&◌, Bool, true, List, map, length, drop, get_or, refl, sym, ◌∙◌}
use Rattle.std.proofs.lemmas.Bool.{and_parts}
use Rattle.std.proofs.lemmas.List.{drop_more}
use Rattle.vx_model.specs.Words.{all_by}

module _ {X A : Type 0} (p : A → Bool) (f : X → A) (xs : List X) (i : ℕ) (x : X) (lt : i < length xs) (is : x ≡ get_or xs i x) where
  first_of : all_by p (map f (drop i xs)) ≡ (p (f x) && all_by p (map f (drop (i + 1) xs)))
  first_of = rw (drop_more xs i x lt, ← is) refl

  pub holds_here : all_by p (map f (drop i xs)) ≡ true → p (f x) ≡ true
  holds_here h = (and_parts (p (f x)) (all_by p (map f (drop (i + 1) xs))) (sym first_of ∙ h)).0

  pub holds_behind : all_by p (map f (drop i xs)) ≡ true → all_by p (map f (drop (i + 1) xs)) ≡ true
  holds_behind h = (and_parts (p (f x)) (all_by p (map f (drop (i + 1) xs))) (sym first_of ∙ h)).1
