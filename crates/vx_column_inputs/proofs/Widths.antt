-- A struct type has as many columns as its strategy writes.
use Rattle.std.proofs.Common.{◌≡◌, ℕ, suc, ◌+◌, ◌||◌, Bool, true, false, length, Some, None, refl, sym, ap, ◌∙◌, arith}
use Rattle.std.specs.Prelude.{if◌then◌else◌, unwrap_or}
use Rattle.vx_model.specs.Ty.{Ty, Tys, boolean, primitive, utf8, binary, list, struct, extension, no_fields, field, fields_in, is_struct}
use Rattle.vx_strategy_spec.specs.StrategyData.{StrategyData, StrategyList, structured}
use Rattle.vx_column_plan.specs.Columns.{field_columns, columns_by}
use Rattle.vx_column_ways.specs.Ways.{columns_in}
use Rattle.vx_column_batches.specs.Beside.{width_of}
use Rattle.vx_column_ways.specs.ColumnCount.{columns_of}

fields_counted : (d : StrategyData) (ws : StrategyList) (m : Bool) (fs : Tys) → length (field_columns d ws m fs) ≡ length (fields_in fs)
fields_counted d ws m no_fields = refl
fields_counted d ws m (field name t fs) = ap suc (fields_counted d ws m fs)

by_counted : (v d : StrategyData) (ws : StrategyList) (m : Bool) (fs : Tys) (n : Bool) → length (columns_by v d ws m fs n) ≡ (if n then length (fields_in fs) + 1 else length (fields_in fs))
by_counted v d ws m fs true = let h : length (field_columns d ws (m || true) fs) ≡ length (fields_in fs) = fields_counted d ws (m || true) fs in omega (arith, h)
by_counted v d ws m fs false = fields_counted d ws (m || false) fs

pub none_some : (k : ℕ) → None ≡ Some k → ⊥
none_some k e = cc

pub is_count : (n k : ℕ) → Some n ≡ Some k → n ≡ k
is_count n k e = ap (λ o. unwrap_or o n) e

pub columns_counted : (v d : StrategyData) (ws : StrategyList) (t : Ty) (m : Bool) (k : ℕ) → columns_of t ≡ Some k → length (columns_in (structured v d ws) t m) ≡ k
columns_counted v d ws (struct fs n) m k h = by_counted v d ws m fs n ∙ is_count (if n then length (fields_in fs) + 1 else length (fields_in fs)) k h
columns_counted v d ws (boolean n) m k h = absurd (none_some k h)
columns_counted v d ws (primitive p n) m k h = absurd (none_some k h)
columns_counted v d ws (utf8 n) m k h = absurd (none_some k h)
columns_counted v d ws (binary n) m k h = absurd (none_some k h)
columns_counted v d ws (list t n) m k h = absurd (none_some k h)
columns_counted v d ws (extension tag t) m k h = absurd (none_some k h)

width : (fs : Tys) (n : Bool) → width_of (struct fs n) ≡ (if n then length (fields_in fs) + 1 else length (fields_in fs))
width fs true = omega arith
width fs false = refl

pub width_counted : (t : Ty) (k : ℕ) → columns_of t ≡ Some k → k ≡ width_of t
width_counted (struct fs n) k h = sym (width fs n ∙ is_count (if n then length (fields_in fs) + 1 else length (fields_in fs)) k h)
width_counted (boolean n) k h = absurd (none_some k h)
width_counted (primitive p n) k h = absurd (none_some k h)
width_counted (utf8 n) k h = absurd (none_some k h)
width_counted (binary n) k h = absurd (none_some k h)
width_counted (list t n) k h = absurd (none_some k h)
width_counted (extension tag t) k h = absurd (none_some k h)

pub struct_counted : (t : Ty) (k : ℕ) → columns_of t ≡ Some k → is_struct t ≡ true
struct_counted (struct fs n) k h = refl
struct_counted (boolean n) k h = absurd (none_some k h)
struct_counted (primitive p n) k h = absurd (none_some k h)
struct_counted (utf8 n) k h = absurd (none_some k h)
struct_counted (binary n) k h = absurd (none_some k h)
struct_counted (list t n) k h = absurd (none_some k h)
struct_counted (extension tag t) k h = absurd (none_some k h)
