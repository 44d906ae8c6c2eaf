-- A record, one aggregate at a time.
use Rattle.std.proofs.Common.{◌≡◌, ℕ, ◌+◌, ◌<◌, ◌≤◌, ◌^◌, true, List, [], ◌∷◌, ◌++◌, map, length, drop, get_or, refl, sym, ap, ◌∙◌, arith, append_assoc}
use Rattle.std.proofs.lemmas.Bool.{and_from, and_parts, or_right}
use Rattle.std.proofs.lemmas.List.{drop_more, drop_all, append-nil, length-map, map_push}
use Rattle.vx_model.specs.Words.{all_by}
use Rattle.vx_model.specs.Ty.{Ty}
use Rattle.vx_model.specs.CellData.{CellData, fits}
use Rattle.vx_model.specs.ValueData.{ValueData, value, value_fits, is_null_value, is_row_value}
use Rattle.vx_model.specs.TreeView.{val}
use Rattle.vx_model.specs.declared.row_value.Value.{Value}
use Rattle.vx_bloom_spec.proofs.ValueFits.{value_fits-value}
use Rattle.vx_aggregate_spec.specs.Aggregate.{Column, held_aggregates}
use Rattle.vx_aggregate.specs.AggregateView.{aggregate}
use Rattle.vx_aggregate.specs.declared.aggregate.AggregateFn.{AggregateFn}
use Rattle.vx_zone_spec.specs.Record.{aggregate_value, zone_record}
use Rattle.vx_zone_spec.specs.ZoneMap.{names_of}
use Rattle.vx_zone_record_spec.specs.Held.{has_state, record_fits}
use Rattle.vx_zone_record.proofs.StateFits.{values_of, record_fits_states}

drop_value : (hash : List ℕ → ℕ) (t : Ty) (vs : List ValueData) (xs : List AggregateFn) (i : ℕ) (a : AggregateFn) → i < length xs → a ≡ get_or xs i a
    → values_of hash t vs (map aggregate (drop i xs)) ≡ aggregate_value hash t vs (aggregate a) ∷ values_of hash t vs (map aggregate (drop (i + 1) xs))
drop_value hash t vs xs i a lt is = rw (drop_more xs i a lt, ← is) refl

-- a value goes over into the record so far
pub one_folded : (hash : List ℕ → ℕ) (t : Ty) (vs : List ValueData) (xs : List AggregateFn) (i : ℕ) (a : AggregateFn) (items : List Value) (v : Value) (more : List Value) (all : List ValueData) → i < length xs → a ≡ get_or xs i a
    → more ≡ items ++ v ∷ [] → val v ≡ aggregate_value hash t vs (aggregate a) → map val items ++ values_of hash t vs (map aggregate (drop i xs)) ≡ all
    → map val more ++ values_of hash t vs (map aggregate (drop (i + 1) xs)) ≡ all
one_folded hash t vs xs i a items v more all lt is e n k =
    let rest = values_of hash t vs (map aggregate (drop (i + 1) xs)) in
    ap (λ (z : List Value). map val z ++ rest) e ∙ ap (λ (z : List ValueData). z ++ rest) (map_push val items v) ∙ append_assoc (map val items) (val v ∷ []) rest
    ∙ ap (λ (z : ValueData). map val items ++ (z ∷ rest)) n ∙ ap (λ (z : List ValueData). map val items ++ z) (sym (drop_value hash t vs xs i a lt is)) ∙ k

values_are : (hash : List ℕ → ℕ) (t : Ty) (vs : List ValueData) (columns : List Column) → values_of hash t vs (names_of columns) ≡ zone_record hash t vs columns
values_are hash t vs [] = refl
values_are hash t vs (a ∷ columns) = ap (λ r. aggregate_value hash t vs a.0 ∷ r) (values_are hash t vs columns)

-- ---- all aggregates are folded

all_folded : (hash : List ℕ → ℕ) (t : Ty) (vs r : List ValueData) (xs : List AggregateFn) (i : ℕ) → length xs ≤ i → r ++ values_of hash t vs (map aggregate (drop i xs)) ≡ values_of hash t vs (map aggregate xs) → r ≡ values_of hash t vs (map aggregate xs)
all_folded hash t vs r xs i le e = sym (append-nil r) ∙ ap (λ (ys : List AggregateFn). r ++ values_of hash t vs (map aggregate ys)) (sym (drop_all i xs le)) ∙ e

pub record_end : (hash : List ℕ → ℕ) (t : Ty) (vs r : List ValueData) (xs : List AggregateFn) (i : ℕ) → length xs ≤ i → r ++ values_of hash t vs (map aggregate (drop i xs)) ≡ values_of hash t vs (map aggregate xs)
    → (columns : List Column) → names_of columns ≡ map aggregate xs → r ≡ zone_record hash t vs columns
record_end hash t vs r xs i le e columns n = all_folded hash t vs r xs i le e ∙ ap (values_of hash t vs) (sym n) ∙ values_are hash t vs columns

pub fits_end : {R : Type 0} (hash : List ℕ → ℕ) (t : Ty) (f : R → ValueData) (rows : List R) (r : List ValueData) (xs : List AggregateFn) (i : ℕ) → all_by (is_row_value t) (map f rows) ≡ true → length rows < 2 ^ 64 → all_by (has_state t) (map aggregate xs) ≡ true
    → length xs ≤ i → r ++ values_of hash t (map f rows) (map aggregate (drop i xs)) ≡ values_of hash t (map f rows) (map aggregate xs) → record_fits (held_aggregates (map aggregate xs) t) r ≡ true
fits_end hash t f rows r xs i h short k le e =
    let l : length (map f rows) ≡ length rows = length-map rows f in
    record_fits_states hash t (map f rows) h (omega arith) r (map aggregate xs) k (all_folded hash t (map f rows) r xs i le e)

-- ---- rows that are cells, by what they are seen as

cell_fits : (t : Ty) (c : CellData) → fits t c ≡ true → is_row_value t (value c) ≡ true
cell_fits t c h = or_right (is_null_value (value c)) (value_fits t (value c)) (value_fits-value t c h)

module _ {R : Type 0} (f : R → CellData) where
  pub cells_fit : (t : Ty) (cs : List R) → all_by (fits t) (map f cs) ≡ true → all_by (is_row_value t) (map (λ c. value (f c)) cs) ≡ true
  cells_fit t [] h = refl
  cells_fit t (c ∷ cs) h =
      let parts : (fits t (f c) ≡ true) × (all_by (fits t) (map f cs) ≡ true) = and_parts (fits t (f c)) (all_by (fits t) (map f cs)) h in
      and_from (is_row_value t (value (f c))) (all_by (is_row_value t) (map (λ c. value (f c)) cs)) (cell_fits t (f c) parts.0) (cells_fit t cs parts.1)

  pub cells_seen : (cs : List R) → map value (map f cs) ≡ map (λ c. value (f c)) cs
  cells_seen [] = refl
  cells_seen (c ∷ cs) = ap (λ (vs : List ValueData). value (f c) ∷ vs) (cells_seen cs)

  -- the record of what is seen of cells is the record of their values
  pub record_seen : (hash : List ℕ → ℕ) (t : Ty) (cs : List R) (r : List ValueData) (columns : List Column) → r ≡ zone_record hash t (map (λ c. value (f c)) cs) columns
      → r ≡ zone_record hash t (map value (map f cs)) columns
  record_seen hash t cs r columns e = e ∙ ap (λ (vs : List ValueData). zone_record hash t vs columns) (sym (cells_seen cs))
