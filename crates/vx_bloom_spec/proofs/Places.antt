-- Places of blocks, and one block after the other.
use Rattle.std.proofs.Common.{◌≡◌, ℕ, ◌-◌, ◌*◌, ◌/◌, ◌^◌, ◌<◌, ◌≤◌, zero, suc, List, [], ◌∷◌, length, get_or, refl, sym, ap, ◌∙◌, arith}
use Rattle.std.proofs.lemmas.List.{same_lists}
use Rattle.std.proofs.lemmas.Nat.{shr_below, div_below}
use Rattle.std.proofs.Math.Nat.{mul-le-mul_left}
use Rattle.vx_bloom_spec.specs.Blocks.{Block, or_lanes}
use Rattle.vx_bloom_spec.specs.Filter.{or_blocks}

product_below : (hash blocks : ℕ) → hash < 2 ^ 64 → 1 ≤ blocks → hash / 2 ^ 32 * blocks < blocks * 2 ^ 32
product_below hash blocks low some =
    let high : hash / 2 ^ 32 < 2 ^ 32 = shr_below hash 32 32 low in
    let under : hash / 2 ^ 32 ≤ 2 ^ 32 - 1 = omega arith in
    omega (arith, mul-le-mul_left blocks under)

pub place_fits : (hash blocks : ℕ) → hash < 2 ^ 64 → 1 ≤ blocks → blocks < 2 ^ 32 → hash / 2 ^ 32 * blocks < 2 ^ 64
place_fits hash blocks low some few = omega (arith, product_below hash blocks low some)

pub place_within : (hash blocks : ℕ) → hash < 2 ^ 64 → 1 ≤ blocks → hash / 2 ^ 32 * blocks / 2 ^ 32 < blocks
place_within hash blocks low some =
    div_below (hash / 2 ^ 32 * blocks) (2 ^ 32) blocks (omega arith) (product_below hash blocks low some)

pub length-or_blocks : (xs ys : List Block) → length xs ≡ length ys → length (or_blocks xs ys) ≡ length xs
unfolding or_blocks
length-or_blocks [] ys e = refl
length-or_blocks (x ∷ xs) [] e = absurd (omega arith)
length-or_blocks (x ∷ xs) (y ∷ ys) e = ap suc (length-or_blocks xs ys (omega arith))

pub get_or-or_blocks : (xs ys : List Block) (k : ℕ) (d : Block) → k < length xs → k < length ys
    → get_or (or_blocks xs ys) k d ≡ or_lanes (get_or xs k d) (get_or ys k d)
unfolding or_blocks
get_or-or_blocks [] ys k d low low' = absurd (omega arith)
get_or-or_blocks (x ∷ xs) [] k d low low' = absurd (omega arith)
get_or-or_blocks (x ∷ xs) (y ∷ ys) zero d low low' = refl
get_or-or_blocks (x ∷ xs) (y ∷ ys) (suc k) d low low' = get_or-or_blocks xs ys k d (omega arith) (omega arith)

-- the blocks below i are done, and those from i on are as they were
pub record Laid (old others now : List Block) (i : ℕ) : Type 0 where
  pub len : length now ≡ length old
  pub done : (k : ℕ) (d : Block) → k < i → get_or now k d ≡ or_lanes (get_or old k d) (get_or others k d)
  pub rest : (k : ℕ) (d : Block) → i ≤ k → get_or now k d ≡ get_or old k d

pub all_laid : (old others now : List Block) → length old ≡ length others → Laid old others now (length others) → now ≡ or_blocks old others
all_laid old others now same laid =
    same_lists now (or_blocks old others) (laid.len ∙ sym (length-or_blocks old others same)) (λ k d low.
    let within : k < length others = omega (arith, laid.len) in
    let within' : k < length old = omega arith in
    laid.done k d within ∙ sym (get_or-or_blocks old others k d within' within))

pub ruleset place_rules = (place_fits, place_within)

pub ruleset or_rules = (all_laid)
