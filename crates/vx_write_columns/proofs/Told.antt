-- What is told of batches and segments where there are no more, and how many segments there are.
use Rattle.std.proofs.Common.{◌≡◌, ◌∷◌, ℕ, suc, List, length, Option, Some, None, refl, sym, ap, append-nil, []}
use Rattle.vx_model.specs.ChunkData.{ChunkData}
use Rattle.vx_fault.specs.Told.{before_told, then_told}
use Rattle.vx_plan.specs.PlanData.{Pair, stored}

pub told_same : (a : Option (List ChunkData)) → a ≡ before_told [] a
told_same None = refl
told_same (Some xs) = refl

pub then_same : (a : Option (List (List ℕ))) → a ≡ then_told a []
then_same None = refl
then_same (Some xs) = ap (λ z. Some z) (sym (append-nil xs))

-- one segment a pair
pub stored_length : (ps : List Pair) → length (stored ps) ≡ length ps
stored_length [] = refl
stored_length (p ∷ ps) = ap suc (stored_length ps)
