-- Columns filled with one zone after the other.
use Rattle.std.proofs.Common.{◌≡◌, ℕ, ◌+◌, ◌<◌, ◌≤◌, List, [], ◌∷◌, ◌++◌, length, get_or, set, take, drop, map, refl, sym, ap, ap₂, ◌∙◌, arith, append_assoc, append-nil}
use Rattle.std.proofs.lemmas.List.{drop_more, drop_all, take_all, take_more_set, drop-set-lt, map_push, map-append, nil_from_length}
use Rattle.vx_model.specs.Words.{head_or, tail}
use Rattle.vx_model.specs.TreeView.{val}
use Rattle.vx_model.specs.ValueData.{ValueData, null_value}
use Rattle.vx_model.specs.declared.row_value.Value.{Value}
use Rattle.vx_aggregate_spec.specs.Aggregate.{Column}
use Rattle.vx_zone_spec.specs.ZoneTable.{Filled, filled}
use Rattle.vx_zone_table.specs.declared.column.TableColumn.{TableColumn}
use Rattle.vx_zone_table.specs.Columns.{filled_column}
use Rattle.vx_zone_table.specs.Filling.{with_value, pushed, all_pushed}

-- ---- a zone more

pushed_filled : (cols : List Column) (qs : List (List ValueData)) (r : List ValueData) → pushed (filled cols qs) r ≡ filled cols (qs ++ r ∷ [])
pushed_filled [] qs r = refl
pushed_filled (a ∷ cols) qs r =
    ap₂ (λ (vs : List ValueData) (cs : List Filled). record { aggregate = a.0; state = a.1; values = vs } ∷ cs)
    (sym (map_push (head_or null_value) qs r))
    (pushed_filled cols (map tail qs) (tail r) ∙ ap (filled cols) (sym (map_push tail qs r)))

filled_more : (cols : List Column) (qs rs : List (List ValueData)) → all_pushed (filled cols qs) rs ≡ filled cols (qs ++ rs)
filled_more cols qs [] = ap (filled cols) (sym (append-nil qs))
filled_more cols qs (r ∷ rs) =
    ap (λ (cs : List Filled). all_pushed cs rs) (pushed_filled cols qs r) ∙ filled_more cols (qs ++ r ∷ []) rs ∙ ap (filled cols) (append_assoc qs (r ∷ []) rs)

-- all zones in columns without values
pub filled_all : (cs : List Filled) (cols : List Column) (rs : List (List ValueData)) → cs ≡ filled cols [] → all_pushed cs rs ≡ filled cols rs
filled_all cs cols rs e = ap (λ (z : List Filled). all_pushed z rs) e ∙ filled_more cols [] rs

-- ---- a value more, in the column at place i

pub push_more : (table : List TableColumn) (i : ℕ) (column grown : TableColumn) (v : ValueData) (vs : List ValueData) → i < length table → column ≡ get_or table i column → filled_column grown ≡ with_value (filled_column column) v → v ≡ head_or null_value vs
    → map filled_column (take (i + 1) (set table i grown)) ++ pushed (map filled_column (drop (i + 1) (set table i grown))) (tail vs) ≡ map filled_column (take i table) ++ pushed (map filled_column (drop i table)) vs
push_more table i column grown v vs lt is e h =
    let further : i < i + 1 = omega arith in
    rw (take_more_set table i grown lt, drop-set-lt (i + 1) table i grown further, drop_more table i column lt, ← is, map-append filled_column (take i table) (grown ∷ []), append_assoc, e, h) refl

pub push_all : (table : List TableColumn) (i : ℕ) (vs : List ValueData) → length table ≤ i → map filled_column (take i table) ++ pushed (map filled_column (drop i table)) vs ≡ map filled_column table
push_all table i vs le = rw (take_all i table le, drop_all i table le) (append-nil (map filled_column table))

-- ---- the next value

pub first_of : (ss ts : List Value) (v : Value) → ss ≡ v ∷ ts → val v ≡ head_or null_value (map val ss)
first_of ss ts v e = ap (λ (zs : List Value). head_or null_value (map val zs)) (sym e)

pub rest_of : (ss ts : List Value) (v : Value) → ss ≡ v ∷ ts → map val ts ≡ tail (map val ss)
rest_of ss ts v e = ap (λ (zs : List Value). tail (map val zs)) (sym e)

pub none_first : (ss : List Value) → length ss ≡ 0 → null_value ≡ head_or null_value (map val ss)
none_first ss e = ap (λ (zs : List Value). head_or null_value (map val zs)) (sym (nil_from_length ss e))

pub none_rest : (ss ts : List Value) → length ss ≡ 0 → length ts ≡ 0 → map val ts ≡ tail (map val ss)
none_rest ss ts e f = ap (map val) (nil_from_length ts f) ∙ ap (λ (zs : List Value). tail (map val zs)) (sym (nil_from_length ss e))

pub ruleset next_rules = (first_of, rest_of, none_first, none_rest)

pub ruleset fill_rules = (filled_all)

pub ruleset empty_rules = (append_assoc, append-nil, map_push)

pub ruleset push_rules = (push_more, push_all)

pub ruleset value_rules = (map_push)
