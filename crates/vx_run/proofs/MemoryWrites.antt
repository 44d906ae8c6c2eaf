-- What writes share that go into an empty memory, by the table compressor.
use Rattle.std.proofs.Common.{◌≡◌, ℕ, ◌-◌, ◌^◌, ◌&&◌, nat_lt, Bool, true, false, List, [], Option, Some, refl, sym, ap, ap₂, ◌∙◌, arith}
use Rattle.std.specs.Prelude.{IsTrue}
use Rattle.vx_fault.specs.Counts.{IsCalm}
use Rattle.vx_fault.specs.Fails.{fails_at}
use Rattle.vx_fault.specs.Faults.{FaultsTold}
use Rattle.vx_fault.specs.Told.{then_told}
use Rattle.vx_model.specs.declared.encoding.EncodingId.{EncodingId}
use Rattle.vx_setting.specs.Setting.{real}
use Rattle.vx_machine_state.specs.Images.{images_of}
use Rattle.vx_compressor_spec.specs.TableImage.{table_image}

-- the same lists make the same setting
pub same_setting : (ids ids_now : List EncodingId) (allowed allowed_now : Option (List (List ℕ))) → ids ≡ ids_now → allowed ≡ allowed_now
    → real ids allowed (images_of table_image) ≡ real ids_now allowed_now (images_of table_image)
same_setting ids ids_now allowed allowed_now e f = ap₂ (λ (xs : List EncodingId) (ys : Option (List (List ℕ))). real xs ys (images_of table_image)) e f

-- all segments there are those that were appended
pub told_all : {old new : Option (List (List ℕ))} {shown bs : List (List ℕ)} → old ≡ Some [] → new ≡ Some shown → new ≡ then_told old bs → shown ≡ bs
told_all {shown = shown} {bs = bs} none told stored = let all : Some shown ≡ Some bs = sym told ∙ (stored ∙ ap (λ o. then_told o bs) none) in cc

-- where the call that comes next may not fail, none did
pub is_calm : (failed : Bool) {before now answered : ℕ} {may must : ℕ → Type 0} → before ≡ 0 → (¬ may answered) → FaultsTold before now may must answered failed → IsCalm before now
is_calm true none never told = absurd (never (told.allowed refl))
is_calm false none never told = (told.counted, omega (arith, none))

-- where no call is listed, none fails
pub never_listed : (list : List ℕ) (k : ℕ) → list ≡ [] → ¬ (IsTrue (fails_at list k))
never_listed list k none h = by_test (nat_lt k (2 ^ 64 - 1)) (rw none at h)
  where
    by_test : (b : Bool) → IsTrue (b && false) → ⊥
    by_test true h = let f : false ≡ true = h in cc
    by_test false h = let f : false ≡ true = h in cc
