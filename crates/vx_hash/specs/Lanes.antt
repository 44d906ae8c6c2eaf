-- The words of a stripe.
use Rattle.std.specs.Prelude.{ℕ, ◌+◌, ◌*◌, List, [], ◌∷◌}
use Rattle.vx_hash.specs.Words.{word}

-- the eight words from place i
unfoldable pub words : List ℕ → ℕ → List ℕ
words b i =
    let nth = λ (j : ℕ). word b (i + 8 * j) in
    nth 0 ∷ nth 1 ∷ nth 2 ∷ nth 3 ∷ nth 4 ∷ nth 5 ∷ nth 6 ∷ nth 7 ∷ []
