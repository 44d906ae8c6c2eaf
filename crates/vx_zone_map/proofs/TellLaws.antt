-- A record without some of its entries that are null tells the same.
use Rattle.std.proofs.Common.{◌≡◌, ℕ, Bool, true, false, List, [], ◌∷◌, refl, sym, subst, inl, inr, ⊎_elim}
use Rattle.std.specs.Prelude.{◌≢◌, pos}
use Rattle.vx_path.specs.Lists.{In}
use Rattle.vx_model.specs.Ty.{Ty}
use Rattle.vx_model.specs.ValueData.{ValueData, null_value, int_value, bytes_value}
use Rattle.vx_aggregate_spec.specs.Aggregate.{Aggregate, null_count, bloom}
use Rattle.vx_zone_spec.specs.ValueOrder.{value_le, value_lt, value_same}
use Rattle.vx_zone_spec.specs.Pruning.{Predicate, ZoneRecord, eq, not_eq, lt, lt_eq, gt, gt_eq, is_null, is_not_null, both, either, negated, pushed, falsified}
use Rattle.vx_zone_spec.specs.Record.{aggregate_value}
use Rattle.vx_zone_spec.specs.Statements.{IsRecord, Upper, Lower, Lacking, Nulls, RulesOut, Exact}
use Rattle.vx_zone_spec.proofs.TableLaws.{table_is_exact}
use Rattle.vx_zone_map.specs.Statements.{TellsAs}

-- each entry of the first that isn't null is one of the second
abbrev pub Keeps : ZoneRecord → ZoneRecord → Type 0
Keeps a b = (e : Aggregate × ValueData) → In e a → e.1 ≢ null_value → In e b

module _ (hash : List ℕ → ℕ) (t : Ty) (a b : ZoneRecord) (keeps : Keeps a b) where
  upper_kept : (f : ValueData → Bool) → Upper f a → Upper f b
  upper_kept f u = record { aggregate = u.aggregate; bound = u.bound; listed = keeps (u.aggregate, u.bound) u.listed u.some; is_upper = u.is_upper; some = u.some; passes = u.passes }

  lower_kept : (f : ValueData → Bool) → Lower f a → Lower f b
  lower_kept f l = record { aggregate = l.aggregate; bound = l.bound; listed = keeps (l.aggregate, l.bound) l.listed l.some; is_lower = l.is_lower; some = l.some; passes = l.passes }

  lacking_kept : (v : ValueData) → Lacking hash t v a → Lacking hash t v b
  lacking_kept v l = record { blocks = l.blocks; stored = l.stored; listed = keeps (bloom l.blocks, bytes_value l.stored) l.listed (λ e. cc); whole = l.whole; lacks = l.lacks }

  nulls_kept : (n : ℕ) → Nulls n a → Nulls n b
  nulls_kept n i = keeps (null_count, int_value (pos n)) i (λ e. cc)

  rules_kept : (n : ℕ) (p : Predicate) → RulesOut hash t a n p → RulesOut hash t b n p
  rules_kept n (eq v) h =
      ⊎_elim (λ u. inl (upper_kept (λ u. value_lt u v) u)) (λ h. inr (
      ⊎_elim (λ l. inl (lower_kept (λ l. value_lt v l) l)) (λ h. inr (
      ⊎_elim (λ l. inl (lacking_kept v l)) (λ i. inr (nulls_kept n i)) h)) h)) h
  rules_kept n (not_eq v) h = ⊎_elim (λ k. inl (upper_kept (λ u. value_same u v) k.0, lower_kept (λ l. value_same l v) k.1)) (λ i. inr (nulls_kept n i)) h
  rules_kept n (lt v) h = ⊎_elim (λ l. inl (lower_kept (λ l. value_le v l) l)) (λ i. inr (nulls_kept n i)) h
  rules_kept n (lt_eq v) h = ⊎_elim (λ l. inl (lower_kept (λ l. value_lt v l) l)) (λ i. inr (nulls_kept n i)) h
  rules_kept n (gt v) h = ⊎_elim (λ u. inl (upper_kept (λ u. value_le u v) u)) (λ i. inr (nulls_kept n i)) h
  rules_kept n (gt_eq v) h = ⊎_elim (λ u. inl (upper_kept (λ u. value_lt u v) u)) (λ i. inr (nulls_kept n i)) h
  rules_kept n is_null i = nulls_kept 0 i
  rules_kept n is_not_null i = nulls_kept n i
  rules_kept n (both p q) h = ⊎_elim (λ k. inl (rules_kept n p k)) (λ k. inr (rules_kept n q k)) h
  rules_kept n (either p q) h = (rules_kept n p h.0, rules_kept n q h.1)
  rules_kept n (negated p) h = h

same_tests : (a b : Bool) → (a ≡ true → b ≡ true) → (b ≡ true → a ≡ true) → a ≡ b
same_tests true true f g = refl
same_tests true false f g = sym (f refl)
same_tests false true f g = g refl
same_tests false false f g = refl

falsified_same : (hash : List ℕ → ℕ) (t : Ty) (a b : ZoneRecord) → Keeps a b → Keeps b a → (p : Predicate) (n : ℕ) → falsified hash t p a n ≡ falsified hash t p b n
falsified_same hash t a b ab ba p n =
    let x : Exact hash t p a n = table_is_exact hash t p a n in
    let y : Exact hash t p b n = table_is_exact hash t p b n in
    same_tests (falsified hash t p a n) (falsified hash t p b n) (λ h. y.whenever (rules_kept hash t a b ab n (pushed p) (x.only h))) (λ h. x.whenever (rules_kept hash t b a ba n (pushed p) (y.only h)))

-- ---- a record of a zone's rows

entry_is : (hash : List ℕ → ℕ) (t : Ty) (vs : List ValueData) (r : ZoneRecord) → IsRecord hash t vs r → (e : Aggregate × ValueData) → In e r → e.1 ≡ aggregate_value hash t vs e.0
entry_is hash t vs [] h e i = absurd i
entry_is hash t vs (x ∷ r) h e i = ⊎_elim (λ k. subst (λ (y : Aggregate × ValueData). y.1 ≡ aggregate_value hash t vs y.0) (sym k) h.0) (λ j. entry_is hash t vs r h.1 e j) i

from_entries : (hash : List ℕ → ℕ) (t : Ty) (vs : List ValueData) (r : ZoneRecord) → ((e : Aggregate × ValueData) → In e r → e.1 ≡ aggregate_value hash t vs e.0) → IsRecord hash t vs r
from_entries hash t vs [] h = tt
from_entries hash t vs (x ∷ r) h = (h x (inl refl), from_entries hash t vs r (λ e i. h e (inr i)))

pub tells : (pushed told : ZoneRecord) → ((e : Aggregate × ValueData) → In e told → In e pushed) → ((e : Aggregate × ValueData) → In e pushed → e.1 ≢ null_value → In e told) → TellsAs pushed told
tells pushed told only all = record {
  only = only;
  all = all;
  holds = λ hash t vs h. from_entries hash t vs told (λ e i. entry_is hash t vs pushed h e (only e i));
  same = λ hash t p n. falsified_same hash t told pushed (λ e i k. only e i) all p n;
}
