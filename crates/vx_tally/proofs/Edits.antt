-- A wider tree of sums.
use Rattle.std.proofs.Common.{◌≡◌, ◌≢◌, ℕ, suc, ◌+◌, ◌*◌, ◌<◌, ◌≤◌, ◌⊎◌, List, length, take, drop, get_or, sym, ◌∙◌, subst, inl, inr, arith, ext_get_or}
use Rattle.vx_tally.specs.Nodes.{SummedFrom, IsDoubled, IsTree, HasRoom}
use Rattle.vx_tally.proofs.Sums.{doubled_more, length-counts, get-counts}

-- a wider tree with the same leaves in front
pub widened : (old nodes : List ℕ) (half wide len : ℕ) → IsTree old half len → half ≤ len → ((half ≡ 0) × (wide ≡ 1)) ⊎ ((half ≢ 0) × (wide ≡ 2 * half)) → length nodes ≡ 2 * wide
    → ((i : ℕ) → i < half → get_or nodes (wide + i) 0 ≡ get_or old (half + i) 0) → ((i : ℕ) → half ≤ i → i < wide → get_or nodes (wide + i) 0 ≡ 0) → SummedFrom nodes wide 1
    → HasRoom old nodes half wide len
widened old nodes half wide len t l e s same none sums =
    let r : len ≤ half = t.room in
    let more : len < wide = wider e r in
    record {
      tree = record { size = s; room = omega arith; levels = inr (by e t.levels); sums = sums; zeros = λ i u v. none i (omega (arith, l, u)) v };
      more = more;
      counts = ext_get_or 0 (take len (drop wide nodes)) (take len (drop half old))
          (length-counts nodes wide len s (omega arith) ∙ sym (length-counts old half len t.size r))
          (λ i u.
          let v : i < len = subst (λ z. i < z) (length-counts nodes wide len s (omega arith)) u in
          get-counts nodes wide len i v ∙ same i (omega arith) ∙ sym (get-counts old half len i v));
    }
  where
    by : ((half ≡ 0) × (wide ≡ 1)) ⊎ ((half ≢ 0) × (wide ≡ 2 * half)) → (half ≡ 0) ⊎ ((j : ℕ) × IsDoubled j 1 half) → (j : ℕ) × IsDoubled j 1 wide
    by (inl a) b = (0, sym a.1)
    by (inr a) (inl b) = absurd (a.0 b)
    by (inr a) (inr b) = (suc b.0, subst (λ z. IsDoubled (suc b.0) 1 z) (sym a.1) (doubled_more b.0 1 half b.1))

    wider : ((half ≡ 0) × (wide ≡ 1)) ⊎ ((half ≢ 0) × (wide ≡ 2 * half)) → len ≤ half → len < wide
    wider (inl a) r = omega (arith, a.0, a.1, r)
    wider (inr a) r = let n : half ≢ 0 = a.0 in let w : wide ≡ 2 * half = a.1 in grind (arith, n, w, r)
