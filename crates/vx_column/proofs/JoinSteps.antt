-- Columns behind others, and columns cut in two.
use Rattle.std.proofs.Common.{◌≡◌, ℕ, zero, suc, ◌-◌, List, length, take, drop, map, ◌++◌, refl, ap, ◌∙◌, arith, append_assoc, append-nil}
use Rattle.std.proofs.lemmas.List.{length-map, map-append, take-map, drop-map, take_all, nil_from_length, take_rest}
use Rattle.vx_chunk_cells.specs.Window.{window}

pub window_front : {X : Type 0} (at : ℕ) (xs : List X) → window 0 at xs ≡ take at xs
window_front at xs = let e : at - 0 ≡ at = omega arith in ap (λ (n : ℕ). take n xs) e

pub window_back : {X : Type 0} (at : ℕ) (xs : List X) → window at (length xs) xs ≡ drop at xs
window_back at xs = take_rest xs at

pub window_all : {X : Type 0} (n : ℕ) (xs : List X) → n ≡ length xs → window 0 n xs ≡ xs
window_all n xs e = window_front n xs ∙ take_all n xs (omega (arith, e))

pub ruleset join_rules = (append_assoc, append-nil, map-append, length-map, window_all, nil_from_length)

pub ruleset split_rules = (length-map, take-map, drop-map, window_front, window_back)
