-- Numbers that fit 64 bits.
use Rattle.std.proofs.Common.{◌<◌, ◌^◌, ℕ, List, [], ◌∷◌, ◌++◌, refl, sym, subst, inl, inr, ⊎_elim}
use Rattle.vx_path.proofs.Lists.{in_left, in_cases}
use Rattle.vx_machine_node.specs.Outcome.{AllFit}

pub none_fit : AllFit []
none_fit = λ n i. absurd i

pub then_fit : (n : ℕ) (ns : List ℕ) → n < 2 ^ 64 → AllFit ns → AllFit (n ∷ ns)
then_fit n ns h hs = λ m i. ⊎_elim (λ e. subst (λ z. z < 2 ^ 64) (sym e) h) (λ t. hs m t) i

pub one_fits : (n : ℕ) → n < 2 ^ 64 → AllFit (n ∷ [])
one_fits n h = then_fit n [] h none_fit

pub both_fit : (ns ms : List ℕ) → AllFit ns → AllFit ms → AllFit (ns ++ ms)
both_fit ns ms a b = λ m i. ⊎_elim (λ l. a m l) (λ r. b m r) (in_cases m ns ms i)

pub first_fits : (n : ℕ) (ns : List ℕ) → AllFit (n ∷ ns) → n < 2 ^ 64
first_fits n ns h = h n (inl refl)

pub rest_fit : (n : ℕ) (ns : List ℕ) → AllFit (n ∷ ns) → AllFit ns
rest_fit n ns h = λ m i. h m (inr i)

pub left_fit : (ns ms : List ℕ) → AllFit (ns ++ ms) → AllFit ns
left_fit ns ms h = λ m i. h m (in_left m ns ms i)
