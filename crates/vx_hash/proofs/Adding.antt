-- One step more of each recursion of the hash.
use Rattle.std.proofs.Common.{◌≡◌, ℕ, ◌+◌, ◌*◌, List, refl, add-one}
use Rattle.vx_hash.specs.Words.{add, add_each}
use Rattle.vx_hash.specs.XxHash3.{after_stripe, after_stripes, scrambled, first_lanes, after_blocks}

pub add_each_none : (start : ℕ) (f : ℕ → ℕ) → add_each start f 0 ≡ start
unfolding add_each
add_each_none start f = refl

pub add_each_more : (start : ℕ) (f : ℕ → ℕ) (i : ℕ) → add_each start f (i + 1) ≡ add (add_each start f i) (f i)
unfolding add_each
add_each_more start f i = rw add-one refl

pub after_stripes_none : (lanes b : List ℕ) (i : ℕ) → after_stripes lanes b i 0 ≡ lanes
unfolding after_stripes
after_stripes_none lanes b i = refl

pub after_stripes_more : (lanes b : List ℕ) (i k : ℕ)
    → after_stripes lanes b i (k + 1) ≡ after_stripe (after_stripes lanes b i k) b (i + 64 * k) (8 * k)
unfolding after_stripes
after_stripes_more lanes b i k = rw add-one refl

pub after_blocks_none : (b : List ℕ) → after_blocks b 0 ≡ first_lanes
unfolding after_blocks
after_blocks_none b = refl

pub after_blocks_more : (b : List ℕ) (k : ℕ)
    → after_blocks b (k + 1) ≡ scrambled (after_stripes (after_blocks b k) b (1024 * k) 16)
unfolding after_blocks
after_blocks_more b k = rw add-one refl

pub ruleset adding = (add_each_none, add_each_more)

pub ruleset stripes = (after_stripes_none, after_stripes_more)

pub ruleset blocks = (after_blocks_none, after_blocks_more)
