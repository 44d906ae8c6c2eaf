-- How many acts are done, where what is at 0 is left out.
use Rattle.std.proofs.Common.{◌≡◌, ◌∷◌, ℕ, zero, suc, List, length, refl, ap, []}
use Rattle.vx_tasks.specs.State.{Counts, Zeros, Count, top, below, beside}
use Rattle.vx_machine_turns.specs.Acts.{Seed, Act}
use Rattle.vx_machine_turns.specs.Fuels.{Fuel, spent, fuel}
use Rattle.vx_machine_turns.specs.Turns.{firsts}
use Rattle.vx_machine_steps.specs.Tree.{Tree, Leaf, Work, trim, counts, sprout_row, quiet, sprout, feed}

pub top_trim : (n : ℕ) (k r : Counts) → top (trim n k r) ≡ n
top_trim zero Zeros Zeros = refl
top_trim zero Zeros (Count m c d) = refl
top_trim zero (Count m c d) r = refl
top_trim (suc n) k r = refl

pub below_trim : (n : ℕ) (k r : Counts) → below (trim n k r) ≡ k
below_trim zero Zeros Zeros = refl
below_trim zero Zeros (Count m c d) = refl
below_trim zero (Count m c d) r = refl
below_trim (suc n) k r = refl

pub beside_trim : (n : ℕ) (k r : Counts) → beside (trim n k r) ≡ r
beside_trim zero Zeros Zeros = refl
beside_trim zero Zeros (Count m c d) = refl
beside_trim zero (Count m c d) r = refl
beside_trim (suc n) k r = refl

abbrev pub IsCount : Counts → Type 0
IsCount Zeros = ⊥
IsCount (Count n k r) = Unit {0}

pub trim_kids : (n : ℕ) (k r : Counts) → IsCount k → trim n k r ≡ Count n k r
trim_kids zero Zeros r h = absurd h
trim_kids zero (Count m c d) r h = refl
trim_kids (suc n) k r h = refl

pub trim_rest : (n : ℕ) (k r : Counts) → IsCount r → trim n k r ≡ Count n k r
trim_rest zero k Zeros h = absurd h
trim_rest zero Zeros (Count m c d) h = refl
trim_rest zero (Count m c d) (Count m' c' d') h = refl
trim_rest (suc n) k r h = refl

pub sprout_zeros : (d : Fuel) (j : ℕ) (a : Act) (qs : List Seed) → counts (sprout d a j qs) ≡ Zeros
sprout_zeros spent j a qs = refl
sprout_zeros (fuel g) j a qs = along j qs (λ q fs. sprout_zeros (g q.type) 0 quiet fs)
  where
    along : (j : ℕ) (qs : List Seed) → ((q : Seed) (fs : List Seed) → counts (sprout (g q.type) quiet 0 fs) ≡ Zeros) → counts (sprout_row (λ q. sprout (g q.type) quiet 0) a j qs) ≡ Zeros
    along j [] deep = refl
    along j (q ∷ qs) deep =
        let e : counts (sprout (g q.type) quiet 0 (firsts q)) ≡ Zeros = deep q (firsts q) in
        let f : counts (sprout_row (λ x. sprout (g x.type) quiet 0) a (suc j) qs) ≡ Zeros = along (suc j) qs deep in
        rw (e, f) refl

pub fed_counts : (d : Fuel) (j : ℕ) (a : Act) (ks : Tree) → counts (feed d a j ks) ≡ counts ks
fed_counts d j a Leaf = sprout_zeros d j a a.starts
fed_counts d j a (Work h ks r) = ap (λ z. trim (length h.past) (counts ks) z) (fed_counts d (suc j) a r)
