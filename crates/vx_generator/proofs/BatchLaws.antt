-- What is to come behind a batch.
use Rattle.std.proofs.Common.{◌≡◌, ℕ, zero, suc, ◌+◌, ◌-◌, ◌<◌, ◌∷◌, Some, refl, sym, ap, ◌∙◌, arith}
use Rattle.std.specs.Prelude.{min}
use Rattle.vx_model.specs.Ty.{Ty}
use Rattle.vx_model.specs.ChunkData.{ChunkData, plain_piece}
use Rattle.vx_generator.specs.Generated.{rows_from, batch_count, batches_from}

count_falls : (i end c : ℕ) → c ≡ min 1000 (end - i) → (c ≡ 0 → ⊥) → batch_count (end - i) ≡ suc (batch_count (end - (i + c)))
count_falls i end c e some = omega (arith, e, some)

none_behind : (i end c : ℕ) → c ≡ min 1000 (end - i) → c < 1000 → batch_count (end - (i + c)) ≡ 0
none_behind i end c e less = omega (arith, e, less)

full : (i end c : ℕ) → c ≡ min 1000 (end - i) → (c < 1000 → ⊥) → c ≡ 1000
full i end c e not_less = omega (arith, e, not_less)

no_suc : (k : ℕ) → suc k ≡ 0 → ⊥
no_suc k e = omega (arith, e)

behind : (t : Ty) (i end c k : ℕ) → c ≡ min 1000 (end - i) → k ≡ batch_count (end - (i + c)) → batches_from t k (i + 1000) end ≡ batches_from t k (i + c) end
behind t i end c zero e is = refl
behind t i end c (suc k) e is = ap (λ z. batches_from t (suc k) (i + z) end) (sym (full i end c e (λ less. no_suc k (is ∙ none_behind i end c e less))))

pub given : (t : Ty) (i end c : ℕ) (b : ChunkData) → c ≡ min 1000 (end - i) → (c ≡ 0 → ⊥) → b ≡ plain_piece t (rows_from i c)
    → Some (batches_from t (batch_count (end - i)) i end) ≡ Some (b ∷ batches_from t (batch_count (end - (i + c))) (i + c) end)
given t i end c b e some is =
    ap (λ z. Some (batches_from t z i end)) (count_falls i end c e some)
    ∙ ap (λ z. Some (plain_piece t (rows_from i z) ∷ batches_from t (batch_count (end - (i + c))) (i + 1000) end)) (sym e)
    ∙ ap (λ z. Some (z ∷ batches_from t (batch_count (end - (i + c))) (i + 1000) end)) (sym is)
    ∙ ap (λ z. Some (b ∷ z)) (behind t i end c (batch_count (end - (i + c))) e refl)
