-- What waits isn't free, and a calm sink didn't fail.
use Rattle.std.proofs.Common.{ℕ, List, ⊎_elim, arith}
use Rattle.vx_path.proofs.Path.{lt_not_le}
use Rattle.vx_fault.specs.Counts.{Rose, IsCalm}
use Rattle.vx_seats.specs.Fronts.{Fronts}
use Rattle.vx_seats.specs.Turns.{Stop, IsFree, WaitsFor}

pub not_free : (stop : Stop) (fronts : Fronts) (written : List (List ℕ)) (column : ℕ) (path q : List ℕ) → WaitsFor fronts written column path q → IsFree stop fronts written column path → ⊥
not_free stop fronts written column path q waits free = ⊎_elim
    (λ ahead. lt_not_le q path ahead.below (free.none_ahead q ahead.other))
    (λ behind. lt_not_le q path (free.is_new q behind.1) behind.2) waits

pub calm_or_rose : (before now : ℕ) → IsCalm before now → Rose before now → ⊥
calm_or_rose before now calm rose = omega (arith, calm.0, calm.1, rose.1)
