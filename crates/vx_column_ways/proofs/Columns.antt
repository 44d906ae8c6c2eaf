-- A struct's columns, field by field.
use Rattle.std.proofs.Common.{◌≡◌, ℕ, ◌+◌, ◌<◌, Bool, List, [], ◌∷◌, ◌++◌, length, get_or, drop, map, refl, ap}
use Rattle.std.proofs.lemmas.List.{drop_more, drop_all}
use Rattle.vx_model.specs.Ty.{tys_of}
use Rattle.vx_model.specs.TyView.{ty, field_ty}
use Rattle.vx_model.specs.declared.dtype.StructField.{StructField}
use Rattle.vx_model.proofs.Views.{field_ty_is}
use Rattle.vx_strategy_spec.specs.StrategyData.{StrategyData, StrategyList}
use Rattle.vx_strategy_spec.specs.Dispatch.{override, given_or}
use Rattle.vx_column_plan.specs.Columns.{Column, field_columns}
use Rattle.vx_column_ways.specs.Ways.{column_of, before}
use Rattle.vx_column_ways.specs.declared.ways.ColumnWay.{ColumnWay}

pub before_push : (xs : List ColumnWay) (x : ColumnWay) (cs : List Column) → before (xs ++ (x ∷ [])) cs ≡ before xs (column_of x ∷ cs)
before_push [] x cs = refl
before_push (y ∷ ys) x cs = ap (λ (z : List Column). column_of y ∷ z) (before_push ys x cs)

pub before_end : (xs : List ColumnWay) → before xs [] ≡ map column_of xs
before_end [] = refl
before_end (y ∷ ys) = ap (λ (z : List Column). column_of y ∷ z) (before_end ys)

pub drop_columns : (d : StrategyData) (ws : StrategyList) (m : Bool) (xs : List StructField) (i : ℕ) (x : StructField) → i < length xs → x ≡ get_or xs i x
    → field_columns d ws m (tys_of (map field_ty (drop i xs)))
    ≡ record { way = given_or (override x.name ws) d; type = ty x.dtype; mark = m } ∷ field_columns d ws m (tys_of (map field_ty (drop (i + 1) xs)))
drop_columns d ws m xs i x lt is = rw (drop_more xs i x lt, ← is, field_ty_is x) refl

pub ruleset column_rules = (before_push, before_end, drop_columns, drop_all)
