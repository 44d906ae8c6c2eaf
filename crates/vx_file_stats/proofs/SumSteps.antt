-- Whether a total fits the type of sums.
use Rattle.std.proofs.Common.{◌≡◌, Bool, true, false, refl, sym, ap, ◌∙◌, Option, Some, None}
use Rattle.std.specs.Prelude.{ℤ, if◌then◌else◌}
use Rattle.vx_model.specs.declared.ptype.PType.{PType}
use Rattle.vx_model.specs.Numbers.{int_fits}
use Rattle.vx_model.specs.Ty.{Ty, primitive}
use Rattle.vx_model.specs.ValueData.{null_value, int_value, is_row_value}
use Rattle.vx_aggregate_spec.specs.Aggregate.{sum_state}
use Rattle.vx_zone_spec.specs.Record.{sum_value}

state_is : (o : Option PType) (s : Ty) (b : Bool) (n : ℤ) → Some s ≡ sum_state o → is_row_value s (int_value n) ≡ b → sum_value o n ≡ (if b then int_value n else null_value)
state_is None s b n e h = cc
state_is (Some p) s b n e h = go (some_in e)
  where
    some_in : Some s ≡ Some (primitive p true) → s ≡ primitive p true
    some_in f = ap (λ (o : Option Ty). state_or s o) f
      where
        state_or : Ty → Option Ty → Ty
        state_or d None = d
        state_or d (Some t) = t

    go : s ≡ primitive p true → (if int_fits p n then int_value n else null_value) ≡ (if b then int_value n else null_value)
    go f = ap (λ (c : Bool). if c then int_value n else null_value) (sym (ap (λ (t : Ty). is_row_value t (int_value n)) f) ∙ h)

pub total_fits : (o : Option PType) (s : Ty) (n : ℤ) → Some s ≡ sum_state o → is_row_value s (int_value n) ≡ true → sum_value o n ≡ int_value n
total_fits o s n e h = state_is o s true n e h

pub total_unfit : (o : Option PType) (s : Ty) (n : ℤ) → Some s ≡ sum_state o → is_row_value s (int_value n) ≡ false → sum_value o n ≡ null_value
total_unfit o s n e h = state_is o s false n e h

pub no_total : (o : Option PType) (n : ℤ) → None ≡ sum_state o → sum_value o n ≡ null_value
no_total None n e = refl
no_total (Some p) n e = cc

pub ruleset fitting_rules = (total_fits, total_unfit, no_total)
