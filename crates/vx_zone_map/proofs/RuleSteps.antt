-- What rules a predicate out, form by form.
use Rattle.std.proofs.Common.{◌≡◌, ℕ, ◌&&◌, ◌||◌, Bool, true, false, not, List, [], ◌∷◌, refl, sym, ap, ◌∙◌, Bor, Box}
use Rattle.std.specs.Prelude.{if◌then◌else◌}
use Rattle.std.proofs.lemmas.Bool.{and_parts}
use Rattle.vx_hash.specs.XxHash3.{xxhash3_64}
use Rattle.vx_model.specs.Ty.{Ty, has_order}
use Rattle.vx_model.specs.TreeView.{val}
use Rattle.vx_model.specs.ValueData.{ValueData, value_fits, is_null_value, is_row_value}
use Rattle.vx_model.specs.declared.row_value.Value.{Value}
use Rattle.vx_zone_spec.specs.Pruning.{Predicate, eq, not_eq, lt, lt_eq, gt, gt_eq, is_null, is_not_null, both, either, negated, ruled_out, ZoneRecord, is_literal, predicate_fits, some_upper, some_lower, some_filter_lacks, null_count_is, upper_passes, lower_passes, lacks, counts}
use Rattle.vx_zone_map.specs.declared.comparison.Comparison.TheVariants.{Eq, NotEq, Lt, LtEq, Gt, GtEq}
use Rattle.vx_zone_map.specs.declared.comparison.Relation.{Relation}
use Rattle.vx_zone_map.specs.declared.zone.Test.TheVariants.{Upper, Lower, Lacks, Nulls}
use Rattle.vx_zone_map.specs.Tests.{stands, some_passes}
use Rattle.vx_zone_map.specs.Comparisons.{comparison_data, turned_comparison, turned}
use Rattle.std.specs.Global.{Global}
use Rattle.vx_zone_map.specs.declared.predicate.Predicate as predicates
use Rattle.vx_zone_map.specs.PredicateView.{predicate_data}
use Rattle.vx_zone_map.proofs.PredicateSteps.{data_and, data_or, predicate_rules}

-- ---- the entries that pass

module _ (t : Ty) where
  pub upper_some : (k : Relation) (v : Bor Value) (r : ZoneRecord) → some_passes t (Upper k v) r ≡ some_upper (stands k (val v.now)) r
  upper_some k v [] = refl
  upper_some k v (e ∷ r) = ap (λ (b : Bool). upper_passes (stands k (val v.now)) e.0 e.1 || b) (upper_some k v r)

  pub lower_some : (k : Relation) (v : Bor Value) (r : ZoneRecord) → some_passes t (Lower k v) r ≡ some_lower (stands k (val v.now)) r
  lower_some k v [] = refl
  lower_some k v (e ∷ r) = ap (λ (b : Bool). lower_passes (stands k (val v.now)) e.0 e.1 || b) (lower_some k v r)

  pub filter_some : (v : Bor Value) (r : ZoneRecord) → some_passes t (Lacks v) r ≡ some_filter_lacks xxhash3_64 t (val v.now) r
  filter_some v [] = refl
  filter_some v (e ∷ r) = ap (λ (b : Bool). lacks xxhash3_64 t (val v.now) e.0 e.1 || b) (filter_some v r)

  pub null_some : (n : ℕ) (r : ZoneRecord) → some_passes t (Nulls n) r ≡ null_count_is n r
  null_some n [] = refl
  null_some n (e ∷ r) = ap (λ (b : Bool). counts n e.0 e.1 || b) (null_some n r)

pub ruleset comparison_rules = (upper_some, lower_some, filter_some, null_some)

pub ruleset null_rules = (null_some)

-- ---- Not, pushed to the comparisons

pub turned_eq : (n : Bool) (v : ValueData) → turned n (eq v) ≡ comparison_data (turned_comparison n Eq) v
turned_eq true v = refl
turned_eq false v = refl

pub turned_not_eq : (n : Bool) (v : ValueData) → turned n (not_eq v) ≡ comparison_data (turned_comparison n NotEq) v
turned_not_eq true v = refl
turned_not_eq false v = refl

pub turned_lt : (n : Bool) (v : ValueData) → turned n (lt v) ≡ comparison_data (turned_comparison n Lt) v
turned_lt true v = refl
turned_lt false v = refl

pub turned_lt_eq : (n : Bool) (v : ValueData) → turned n (lt_eq v) ≡ comparison_data (turned_comparison n LtEq) v
turned_lt_eq true v = refl
turned_lt_eq false v = refl

pub turned_gt : (n : Bool) (v : ValueData) → turned n (gt v) ≡ comparison_data (turned_comparison n Gt) v
turned_gt true v = refl
turned_gt false v = refl

pub turned_gt_eq : (n : Bool) (v : ValueData) → turned n (gt_eq v) ≡ comparison_data (turned_comparison n GtEq) v
turned_gt_eq true v = refl
turned_gt_eq false v = refl

pub turned_not : (n : Bool) (p : Predicate) → turned n (negated p) ≡ turned (not n) p
turned_not true p = refl
turned_not false p = refl

module _ (hash : List ℕ → ℕ) (t : Ty) (r : ZoneRecord) (k : ℕ) where
  pub turned_null : (n : Bool) → ruled_out hash t r k (turned n is_null) ≡ null_count_is (if n then k else 0) r
  turned_null true = refl
  turned_null false = refl

  pub turned_not_null : (n : Bool) → ruled_out hash t r k (turned n is_not_null) ≡ null_count_is (if not n then k else 0) r
  turned_not_null true = refl
  turned_not_null false = refl

  pub both_turned : (n : Bool) (p q : Predicate) → n ≡ true → ruled_out hash t r k (turned n (both p q)) ≡ (ruled_out hash t r k (turned true p) && ruled_out hash t r k (turned true q))
  both_turned true p q e = refl
  both_turned false p q e = cc

  pub both_pushed : (n : Bool) (p q : Predicate) → n ≡ false → ruled_out hash t r k (turned n (both p q)) ≡ (ruled_out hash t r k (turned false p) || ruled_out hash t r k (turned false q))
  both_pushed true p q e = cc
  both_pushed false p q e = refl

  pub either_turned : (n : Bool) (p q : Predicate) → n ≡ true → ruled_out hash t r k (turned n (either p q)) ≡ (ruled_out hash t r k (turned true p) || ruled_out hash t r k (turned true q))
  either_turned true p q e = refl
  either_turned false p q e = cc

  pub either_pushed : (n : Bool) (p q : Predicate) → n ≡ false → ruled_out hash t r k (turned n (either p q)) ≡ (ruled_out hash t r k (turned false p) && ruled_out hash t r k (turned false q))
  either_pushed true p q e = cc
  either_pushed false p q e = refl

-- ---- what a predicate that fits has in it

pub literal_row : (t : Ty) (v : ValueData) → is_literal t v ≡ true → is_row_value t v ≡ true
literal_row t v h = go (is_null_value v) (and_parts (not (is_null_value v)) (value_fits t v) (and_parts (has_order t) (not (is_null_value v) && value_fits t v) h).1).1
  where
    go : (b : Bool) → value_fits t v ≡ true → (b || value_fits t v) ≡ true
    go true e = refl
    go false e = e

pub left_fits : (t : Ty) (p q : Predicate) → (predicate_fits t p && predicate_fits t q) ≡ true → predicate_fits t p ≡ true
left_fits t p q h = (and_parts (predicate_fits t p) (predicate_fits t q) h).0

pub right_fits : (t : Ty) (p q : Predicate) → (predicate_fits t p && predicate_fits t q) ≡ true → predicate_fits t q ≡ true
right_fits t p q h = (and_parts (predicate_fits t p) (predicate_fits t q) h).1

-- the right side of And and of Or
pub and_right : (t : Ty) (p : predicates.Predicate) (a b : Box predicates.Predicate Global) → p ≡ predicates.And a b → predicate_fits t (predicate_data p) ≡ true → predicate_fits t (predicate_data b.value) ≡ true
and_right t p a b e h = right_fits t (predicate_data a.value) (predicate_data b.value) (ap (predicate_fits t) (sym (ap predicate_data e ∙ data_and a b)) ∙ h)

pub or_right : (t : Ty) (p : predicates.Predicate) (a b : Box predicates.Predicate Global) → p ≡ predicates.Or a b → predicate_fits t (predicate_data p) ≡ true → predicate_fits t (predicate_data b.value) ≡ true
or_right t p a b e h = right_fits t (predicate_data a.value) (predicate_data b.value) (ap (predicate_fits t) (sym (ap predicate_data e ∙ data_or a b)) ∙ h)

pub ruleset rule_rules = (
  turned_eq,
  turned_not_eq,
  turned_lt,
  turned_lt_eq,
  turned_gt,
  turned_gt_eq,
  turned_not,
  turned_null,
  turned_not_null,
  both_turned,
  both_pushed,
  either_turned,
  either_pushed,
  literal_row,
  left_fits,
  right_fits,
  predicate_rules,
)
