-- What stands for a strategy that others stand for, step by step.
use Rattle.std.proofs.Common.{◌≡◌, ◌<◌, ℕ, zero, suc, Bool, true, false, if◌then◌else◌, refl, sym, subst, arith}
use Rattle.std.proofs.lemmas.Bool.{true≢false}
use Rattle.vx_model.specs.Ty.{Ty, boolean, primitive, utf8, binary, list, struct, extension}
use Rattle.vx_strategy_spec.specs.StrategyData.{StrategyData, StrategyList, Wraps, flat, chunked, grouped, compressed, coded, zoned, structured, listed, tabled, no_ways, no_wraps, wrap_grouped, wrap_zoned}
use Rattle.vx_strategy_spec.specs.Dispatch.{wrapped, dispatch}
use Rattle.vx_table_dispatch.specs.Settled.{further, passes_on, settled, nested}

-- a strategy for which no other stands is itself
pub itself : (w : StrategyData) (t : Ty) → passes_on w t ≡ false → settled w t ≡ w
itself (tabled v l ws lists wraps) t h = absurd (true≢false h)
itself (listed e o v f) (list t n) h = refl
itself (listed e o v f) (boolean n) h = absurd (true≢false h)
itself (listed e o v f) (primitive p n) h = absurd (true≢false h)
itself (listed e o v f) (utf8 n) h = absurd (true≢false h)
itself (listed e o v f) (binary n) h = absurd (true≢false h)
itself (listed e o v f) (struct fs n) h = absurd (true≢false h)
itself (listed e o v f) (extension tag t) h = absurd (true≢false h)
itself (flat o) t h = refl
itself (chunked w) t h = refl
itself (grouped g w) t h = refl
itself (compressed which room w) t h = refl
itself (coded o c v f) (boolean n) h = absurd (true≢false h)
itself (coded o c v f) (primitive p n) h = refl
itself (coded o c v f) (utf8 n) h = refl
itself (coded o c v f) (binary n) h = refl
itself (coded o c v f) (list t n) h = absurd (true≢false h)
itself (coded o c v f) (struct fs n) h = absurd (true≢false h)
itself (coded o c v f) (extension tag t) h = absurd (true≢false h)
itself (zoned o w stats) t h = refl
itself (structured v d ws) t h = refl

wrapped_settled : (wraps : Wraps) (w : StrategyData) (t : Ty) → settled w t ≡ w → settled (wrapped wraps w) t ≡ wrapped wraps w
wrapped_settled no_wraps w t h = h
wrapped_settled (wrap_grouped g ws) w t h = refl
wrapped_settled (wrap_zoned o stats ws) w t h = refl

lists_settled : (v l : StrategyData) (ws : StrategyList) (lists : Bool) (wraps : Wraps) (t : Ty) (n : Bool)
    → settled (if lists then wrapped wraps (listed (tabled v l no_ways lists wraps) l v l) else l) (list t n) ≡ settled (tabled v l ws lists wraps) (list t n)
lists_settled v l ws true wraps t n = wrapped_settled wraps (listed (tabled v l no_ways true wraps) l v l) (list t n) refl
lists_settled v l ws false wraps t n = refl

pub one_more : (w : StrategyData) (t : Ty) → settled (further w t) t ≡ settled w t
one_more (tabled v l ws lists wraps) (list t n) = lists_settled v l ws lists wraps t n
one_more (tabled v l ws lists wraps) (boolean n) = refl
one_more (tabled v l ws lists wraps) (primitive p n) = refl
one_more (tabled v l ws lists wraps) (utf8 n) = refl
one_more (tabled v l ws lists wraps) (binary n) = refl
one_more (tabled v l ws lists wraps) (struct fs n) = refl
one_more (tabled v l ws lists wraps) (extension tag t) = refl
one_more (listed e o v f) (list t n) = refl
one_more (listed e o v f) (boolean n) = refl
one_more (listed e o v f) (primitive p n) = refl
one_more (listed e o v f) (utf8 n) = refl
one_more (listed e o v f) (binary n) = refl
one_more (listed e o v f) (struct fs n) = refl
one_more (listed e o v f) (extension tag t) = refl
one_more (flat o) t = refl
one_more (chunked w) t = refl
one_more (grouped g w) t = refl
one_more (compressed which room w) t = refl
one_more (coded o c v f) (boolean n) = refl
one_more (coded o c v f) (primitive p n) = refl
one_more (coded o c v f) (utf8 n) = refl
one_more (coded o c v f) (binary n) = refl
one_more (coded o c v f) (list t n) = refl
one_more (coded o c v f) (struct fs n) = refl
one_more (coded o c v f) (extension tag t) = refl
one_more (zoned o w stats) t = refl
one_more (structured v d ws) t = refl

-- ---- how often

wrapped_fewer : (wraps : Wraps) (w : StrategyData) (k : ℕ) → nested w < k → nested (wrapped wraps w) < k
wrapped_fewer no_wraps w k h = h
wrapped_fewer (wrap_grouped g ws) w k h = omega (arith, h)
wrapped_fewer (wrap_zoned o stats ws) w k h = omega (arith, h)

lists_fewer : (v l : StrategyData) (lists : Bool) (wraps : Wraps) → nested (if lists then wrapped wraps (listed (tabled v l no_ways lists wraps) l v l) else l) < suc (suc (nested l))
lists_fewer v l true wraps = wrapped_fewer wraps (listed (tabled v l no_ways true wraps) l v l) (suc (suc (nested l))) (let h : suc (nested l) < suc (suc (nested l)) = omega arith in h)
lists_fewer v l false wraps = omega arith

pub fewer : (w : StrategyData) (t : Ty) → passes_on w t ≡ true → nested (further w t) < nested w
fewer (tabled v l ws lists wraps) (list t n) h = lists_fewer v l lists wraps
fewer (tabled v l ws lists wraps) (boolean n) h = omega arith
fewer (tabled v l ws lists wraps) (primitive p n) h = omega arith
fewer (tabled v l ws lists wraps) (utf8 n) h = omega arith
fewer (tabled v l ws lists wraps) (binary n) h = omega arith
fewer (tabled v l ws lists wraps) (struct fs n) h = omega arith
fewer (tabled v l ws lists wraps) (extension tag t) h = omega arith
fewer (listed e o v f) (list t n) h = absurd (true≢false (sym h))
fewer (listed e o v f) (boolean n) h = omega arith
fewer (listed e o v f) (primitive p n) h = omega arith
fewer (listed e o v f) (utf8 n) h = omega arith
fewer (listed e o v f) (binary n) h = omega arith
fewer (listed e o v f) (struct fs n) h = omega arith
fewer (listed e o v f) (extension tag t) h = omega arith
fewer (flat o) t h = absurd (true≢false (sym h))
fewer (chunked w) t h = absurd (true≢false (sym h))
fewer (grouped g w) t h = absurd (true≢false (sym h))
fewer (compressed which room w) t h = absurd (true≢false (sym h))
fewer (coded o c v f) (boolean n) h = omega arith
fewer (coded o c v f) (primitive p n) h = absurd (true≢false (sym h))
fewer (coded o c v f) (utf8 n) h = absurd (true≢false (sym h))
fewer (coded o c v f) (binary n) h = absurd (true≢false (sym h))
fewer (coded o c v f) (list t n) h = omega arith
fewer (coded o c v f) (struct fs n) h = omega arith
fewer (coded o c v f) (extension tag t) h = omega arith
fewer (zoned o w stats) t h = absurd (true≢false (sym h))
fewer (structured v d ws) t h = absurd (true≢false (sym h))

-- ---- what holds on

-- what each step keeps holds of the last
pub holds_on : (P : StrategyData → Type 0) (t : Ty) → ((w : StrategyData) → P w → P (further w t)) → (w : StrategyData) → P w → P (settled w t)
holds_on P t keep w h = go (nested w) w refl h
  where
    kind : (w : StrategyData) → (b : Bool) → passes_on w t ≡ b → (k : ℕ) → nested w ≡ k → P w → ((j : ℕ) → j < k → (x : StrategyData) → nested x ≡ j → P x → P (settled x t)) → P (settled w t)
    kind w false e k q p down = subst P (sym (itself w t e)) p
    kind w true e k q p down =
        subst P (one_more w t) (down (nested (further w t)) (subst (λ z. nested (further w t) < z) q (fewer w t e)) (further w t) refl (keep w p))

    below : (k j : ℕ) → j < k → (x : StrategyData) → nested x ≡ j → P x → P (settled x t)
    below zero j l x q p = absurd (omega (arith, l))
    below (suc k) j l x q p = kind x (passes_on x t) refl j q p (λ i m y r z. below k i (omega (arith, l, m)) y r z)

    go : (k : ℕ) (w : StrategyData) → nested w ≡ k → P w → P (settled w t)
    go k w q p = below (suc k) k (omega arith) w q p

-- for which no other stands
pub no_other : (w : StrategyData) (t : Ty) → passes_on (settled w t) t ≡ false
no_other w t = go w t
  where
    around : (wraps : Wraps) (w : StrategyData) (t : Ty) → passes_on w t ≡ false → passes_on (wrapped wraps w) t ≡ false
    around no_wraps w t h = h
    around (wrap_grouped g ws) w t h = refl
    around (wrap_zoned o stats ws) w t h = refl

    go : (w : StrategyData) (t : Ty) → passes_on (settled w t) t ≡ false
    go (tabled v l ws lists wraps) (struct fs n) = refl
    go (tabled v l ws true wraps) (list t n) = around wraps (listed (tabled v l no_ways true wraps) l v l) (list t n) refl
    go (tabled v l ws false wraps) (list t n) = go l (list t n)
    go (tabled v l ws lists wraps) (boolean n) = go l (boolean n)
    go (tabled v l ws lists wraps) (primitive p n) = go l (primitive p n)
    go (tabled v l ws lists wraps) (utf8 n) = go l (utf8 n)
    go (tabled v l ws lists wraps) (binary n) = go l (binary n)
    go (tabled v l ws lists wraps) (extension tag t) = go l (extension tag t)
    go (listed e o v f) (list t n) = refl
    go (listed e o v f) (boolean n) = go f (boolean n)
    go (listed e o v f) (primitive p n) = go f (primitive p n)
    go (listed e o v f) (utf8 n) = go f (utf8 n)
    go (listed e o v f) (binary n) = go f (binary n)
    go (listed e o v f) (struct fs n) = go f (struct fs n)
    go (listed e o v f) (extension tag t) = go f (extension tag t)
    go (flat o) t = refl
    go (chunked w) t = refl
    go (grouped g w) t = refl
    go (compressed which room w) t = refl
    go (coded o c v f) (boolean n) = go f (boolean n)
    go (coded o c v f) (primitive p n) = refl
    go (coded o c v f) (utf8 n) = refl
    go (coded o c v f) (binary n) = refl
    go (coded o c v f) (list t n) = go f (list t n)
    go (coded o c v f) (struct fs n) = go f (struct fs n)
    go (coded o c v f) (extension tag t) = go f (extension tag t)
    go (zoned o w stats) t = refl
    go (structured v d ws) t = refl
