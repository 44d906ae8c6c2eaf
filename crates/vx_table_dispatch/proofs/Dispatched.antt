-- What a table stands for, step by step.
use Rattle.std.proofs.Common.{◌≡◌, ℕ, ◌+◌, ◌<◌, Bool, List, [], ◌∷◌, ◌++◌, length, get_or, take, drop, map, refl, sym, ◌∙◌, ap}
use Rattle.std.proofs.lemmas.List.{drop_more, drop_all, take_more, take_all}
use Rattle.vx_model.specs.Ty.{tys_of}
use Rattle.vx_model.specs.TyView.{field_ty}
use Rattle.vx_model.specs.declared.dtype.StructField.{StructField}
use Rattle.vx_model.proofs.Views.{field_ty_is}
use Rattle.vx_strategy_spec.specs.StrategyData.{StrategyData, StrategyList, Wraps, no_ways, way_at, no_wraps}
use Rattle.vx_strategy_spec.specs.Dispatch.{field_writer, field_writers, wrapped}
use Rattle.vx_strategy.specs.FieldWays.{field_ways}
use Rattle.vx_strategy.specs.WrapViews.{wrap, wraps}
use Rattle.vx_strategy.specs.declared.field_writer.FieldWriter.{FieldWriter}
use Rattle.vx_strategy.specs.declared.table.TableStrategy.{TableStrategy}
use Rattle.vx_strategy.specs.declared.wrapper.Wrapper.{Wrapper}
use Rattle.vx_strategy.specs.declared.wrapper.Wrapper.TheVariants as tested

-- these writers before those
abbrev pub writers_before : List FieldWriter → StrategyList → StrategyList
writers_before [] ws = ws
writers_before (x ∷ xs) ws = way_at (x.name ∷ []) x.writer.item (writers_before xs ws)

pub writers_push : (xs : List FieldWriter) (x : FieldWriter) (ws : StrategyList) → writers_before (xs ++ (x ∷ [])) ws ≡ writers_before xs (way_at (x.name ∷ []) x.writer.item ws)
writers_push [] x ws = refl
writers_push (y ∷ ys) x ws = ap (way_at (y.name ∷ []) y.writer.item) (writers_push ys x ws)

pub writers_end : (xs : List FieldWriter) → writers_before xs no_ways ≡ field_ways xs
writers_end [] = refl
writers_end (y ∷ ys) = ap (way_at (y.name ∷ []) y.writer.item) (writers_end ys)

-- the writers of these fields of a table
abbrev pub writers_of : TableStrategy → List StructField → StrategyList
writers_of s fields = field_writers s.validity.item s.leaf.item s.overrides.item s.list_layout (wraps s.wrappers.value.items) (tys_of (map field_ty fields))

pub drop_fields : (v l : StrategyData) (ws : StrategyList) (lists : Bool) (around : Wraps) (xs : List StructField) (i : ℕ) (x : StructField) → i < length xs → x ≡ get_or xs i x
    → field_writers v l ws lists around (tys_of (map field_ty (drop i xs)))
    ≡ way_at (x.name ∷ []) (field_writer v l ws lists around x.name) (field_writers v l ws lists around (tys_of (map field_ty (drop (i + 1) xs))))
drop_fields v l ws lists around xs i x lt is = rw (drop_more xs i x lt, ← is, field_ty_is x) refl

pub ruleset field_rules = (writers_push, writers_end, drop_fields, drop_all)

wrapped_one : (x : Wrapper) (ws : Wraps) (w : StrategyData) → wrapped (wrap x ws) w ≡ wrapped (wrap x no_wraps) (wrapped ws w)
wrapped_one (tested.Repartition r) ws w = refl
wrapped_one (tested.Buffered size) ws w = refl
wrapped_one (tested.Zoned stats r) ws w = refl

wrapped_push : (xs : List Wrapper) (x : Wrapper) (w : StrategyData) → wrapped (wraps (xs ++ (x ∷ []))) w ≡ wrapped (wraps xs) (wrapped (wrap x no_wraps) w)
wrapped_push [] x w = refl
wrapped_push (y ∷ ys) x w =
    wrapped_one y (wraps (ys ++ (x ∷ []))) w ∙ ap (wrapped (wrap y no_wraps)) (wrapped_push ys x w) ∙ sym (wrapped_one y (wraps ys) (wrapped (wrap x no_wraps) w))

pub wrapped_more : (xs : List Wrapper) (i : ℕ) (x : Wrapper) (w : StrategyData) → i < length xs → x ≡ get_or xs i x
    → wrapped (wraps (take (i + 1) xs)) w ≡ wrapped (wraps (take i xs)) (wrapped (wrap x no_wraps) w)
wrapped_more xs i x w lt is = rw (take_more xs i x lt, ← is) (wrapped_push (take i xs) x w)

pub ruleset wrapper_rules = (wrapped_more, take_all)
