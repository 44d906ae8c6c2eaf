-- The columns of a zone table, one by one, and their values.
use Rattle.std.proofs.Common.{◌≡◌, ℕ, zero, suc, ◌+◌, ◌<◌, ◌≤◌, List, [], ◌∷◌, ◌++◌, length, get_or, drop, map, refl, sym, ap, ◌∙◌, arith, append_assoc, append-nil}
use Rattle.std.proofs.lemmas.List.{drop_more, drop_all, map_push, map_more}
use Rattle.vx_model.specs.declared.cell.Cell.{Cell}
use Rattle.vx_model.specs.TreeView.{tree}
use Rattle.vx_model.specs.ValueData.{null_value, value}
use Rattle.vx_aggregate.specs.AggregateView.{aggregate}
use Rattle.vx_aggregate.specs.declared.aggregate.AggregateFn.{AggregateFn}
use Rattle.vx_zone_map.specs.Columns.{value_at}

pub value_some : (xs : List Cell) (i : ℕ) (x : Cell) → i < length xs → x ≡ get_or xs i x → value_at i (map value (map tree xs)) ≡ value (tree x)
value_some [] i x lt is = absurd (omega arith)
value_some (c ∷ cs) zero x lt is = ap (λ (y : Cell). value (tree y)) (sym is)
value_some (c ∷ cs) (suc i) x lt is = value_some cs i x (omega arith) is

pub value_none : (xs : List Cell) (i : ℕ) → length xs ≤ i → value_at i (map value (map tree xs)) ≡ null_value
value_none [] i le = refl
value_none (c ∷ cs) zero le = absurd (omega arith)
value_none (c ∷ cs) (suc i) le = value_none cs i (omega arith)

pub ruleset value_rules = (value_some, value_none)

pub drop_names : (xs : List AggregateFn) (i : ℕ) (a : AggregateFn) → i < length xs → a ≡ get_or xs i a → map aggregate (drop i xs) ≡ aggregate a ∷ map aggregate (drop (i + 1) xs)
drop_names xs i a lt is = rw (drop_more xs i a lt, ← is) refl

pub ruleset column_rules = (drop_names, append_assoc, append-nil, map_push, drop_all)
