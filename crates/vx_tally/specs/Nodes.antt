-- A tree of sums in one list. The node at u has its children at 2 * u and 2 * u + 1 and is their sum, as far as 64 bits go.
-- The leaves stand from `half` on: the counts, and behind them zeros.
use Rattle.std.specs.Prelude.{◌≡◌, ◌≢◌, ℕ, zero, suc, ◌+◌, ◌-◌, ◌*◌, ◌^◌, ◌<◌, ◌≤◌, ◌⊎◌, min, List, length, take, drop, set, get_or}

-- the node at u is the sum of its children
abbrev pub IsSummed : List ℕ → ℕ → Type 0
IsSummed nodes u = get_or nodes u 0 ≡ min (get_or nodes (2 * u) 0 + get_or nodes (2 * u + 1) 0) (2 ^ 64 - 1)

-- each node from the place on that is no leaf
abbrev pub SummedFrom : List ℕ → ℕ → ℕ → Type 0
SummedFrom nodes half from = (u : ℕ) → from ≤ u → u < half → IsSummed nodes u

-- w doubled so many times is m
abbrev pub IsDoubled : ℕ → ℕ → ℕ → Type 0
IsDoubled zero w m = w ≡ m
IsDoubled (suc j) w m = IsDoubled j (2 * w) m

-- the sum of so many nodes from a on
abbrev pub sum_from : List ℕ → ℕ → ℕ → ℕ
sum_from nodes a zero = 0
sum_from nodes a (suc n) = sum_from nodes a n + get_or nodes (a + n) 0

-- Such a tree, of so many counts; without any it may have no node.
pub record IsTree (nodes : List ℕ) (half len : ℕ) : Type 0 where
  pub size : length nodes ≡ 2 * half
  pub room : len ≤ half
  pub levels : (half ≡ 0) ⊎ ((j : ℕ) × IsDoubled j 1 half)
  pub sums : SummedFrom nodes half 1
  pub zeros : (i : ℕ) → len ≤ i → i < half → get_or nodes (half + i) 0 ≡ 0

-- On the way down: below the node at width + i, which stands in a row of so many, rest is what is left of k.
pub record Descends (nodes : List ℕ) (half k width i rest : ℕ) : Type 0 where
  pub doubled : (j : ℕ) × IsDoubled j width half
  pub within : i < width
  pub place : sum_from nodes width i + rest ≡ k
  pub inside : rest < get_or nodes (width + i) 0

-- On the way up: leaf i is n, and of the nodes that are no leaves only the one at u may not be the sum of its children.
pub record Raises (old nodes : List ℕ) (half i n u : ℕ) : Type 0 where
  pub size : length nodes ≡ 2 * half
  pub leaves : drop half nodes ≡ set (drop half old) i n
  pub below : u < half
  pub sums : (v : ℕ) → 1 ≤ v → v < half → v ≢ u → IsSummed nodes v

-- while they are summed up from the last one on
pub record AddsUp (old nodes : List ℕ) (half u : ℕ) : Type 0 where
  pub size : length nodes ≡ 2 * half
  pub leaves : drop half nodes ≡ drop half old
  pub within : u ≤ half
  pub sums : SummedFrom nodes half u

-- while the leaves of a tree are copied to a wider one, before the place
pub record Copies (old nodes : List ℕ) (half wide place : ℕ) : Type 0 where
  pub size : length nodes ≡ 2 * wide
  pub leaves : (i : ℕ) → i < place → get_or nodes (wide + i) 0 ≡ get_or old (half + i) 0
  pub zeros : (i : ℕ) → half ≤ i → i < wide → get_or nodes (wide + i) 0 ≡ 0

-- with room for one more count, and the same ones
pub record HasRoom (old nodes : List ℕ) (half wide len : ℕ) : Type 0 where
  pub tree : IsTree nodes wide len
  pub more : len < wide
  pub counts : take len (drop wide nodes) ≡ take len (drop half old)
