-- The order of paths is std's order of slices.
use Rattle.std.proofs.Common.{◌≡◌, ℕ, List, Ordering, refl, arith}
use Rattle.std.proofs.lemmas.Bool.Decides.{nat_tests}
use Rattle.std.proofs.lemmas.Cmp.{same_from_slice_cmp}
use Rattle.std.specs.Cmp.Lexicographic.{slice_cmp}
use Rattle.std.specs.Ordering.{nat_cmp, is_le}
use Rattle.vx_path.specs.Path.{path_le}

pub is_path_le : (p q : List ℕ) (o : Ordering) → o ≡ slice_cmp nat_cmp p q → is_le o ≡ path_le p q
is_path_le =
    same_from_slice_cmp nat_cmp is_le path_le refl (λ _ _. refl) (λ _ _. refl) (λ x y xs ys o h. grind (arith, nat_tests))
