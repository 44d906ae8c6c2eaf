-- Steps of a guard of zones.
use Rattle.std.proofs.Common.{◌≡◌, ℕ, zero, suc, eqb-true, Bool, true, false, List, [], ◌∷◌, ◌++◌, map, length, Option, Some, None, refl, sym, ap, ◌∙◌, subst, arith}
use Rattle.std.specs.Prelude.{◌&&◌, ◌==◌, is_some}
use Rattle.vx_model.specs.Words.{all_by}
use Rattle.vx_model.specs.Ty.{Ty}
use Rattle.vx_model.specs.CellData.{CellData, fits}
use Rattle.vx_model.specs.ValueData.{ValueData, value}
use Rattle.vx_model.specs.ChunkData.{ChunkData, piece_type, cells, row_values, is_sound}
use Rattle.vx_hash.specs.XxHash3.{xxhash3_64}
use Rattle.vx_chunk.proofs.CellsFit.{cells_fit}
use Rattle.vx_aggregate_spec.specs.Aggregate.{Aggregate, Column, state_type, with_state, held_aggregates}
use Rattle.vx_zone_spec.specs.Record.{zone_record}
use Rattle.vx_zone_spec.specs.ZoneMap.{names_of}
use Rattle.vx_zone_record_spec.specs.Held.{has_state}
use Rattle.vx_zone_record.proofs.HeldSteps.{names_held}
use Rattle.vx_aggregate.specs.declared.aggregate.AggregateFn.{AggregateFn}
use Rattle.vx_aggregate.specs.AggregateView.{aggregate}
use Rattle.vx_plan.specs.PlanData.{What}
use Rattle.vx_machine_turns.specs.Zoned.{zone_fault}
use Rattle.vx_turn_laws.specs.Guard.{is_some_column, where_some}

-- some column is there where an aggregate is
pub some_column : (t : Ty) (a : Aggregate) (xs : List Aggregate) → all_by (has_state t) (a ∷ xs) ≡ true → is_some_column (held_aggregates (a ∷ xs) t) ≡ true
some_column t a xs h = go (state_type a t) h
  where
    go : (u : Option Ty) → (is_some u && all_by (has_state t) xs) ≡ true → is_some_column (with_state a u ++ held_aggregates xs t) ≡ true
    go None h = cc
    go (Some u) h = refl

pub recorded_zone : (columns : List Column) (r : List ValueData) → is_some_column columns ≡ true → where_some columns r ≡ Some r
recorded_zone [] r h = cc
recorded_zone (a ∷ columns) r h = refl

-- ---- a chunk's record

pub fit_cells : (p : ChunkData) (t : Ty) (cs : List CellData) → is_sound p ≡ true → piece_type p ≡ t → cs ≡ cells p → all_by (fits t) cs ≡ true
fit_cells p t cs s e h = ap (λ z. all_by (fits t) z) h ∙ subst (λ u. all_by (fits u) (cells p) ≡ true) e (cells_fit p s)

-- what is told of the cells that a chunk has
pub chunk_record : (t : Ty) (p : ChunkData) (cs : List CellData) (xs : List Aggregate) (r : List ValueData) → all_by (has_state t) xs ≡ true → cs ≡ cells p
    → ((columns : List Column) → names_of columns ≡ xs → r ≡ zone_record xxhash3_64 t (map value cs) columns) → r ≡ zone_record xxhash3_64 t (row_values p) (held_aggregates xs t)
chunk_record t p cs xs r h e q = q (held_aggregates xs t) (names_held t xs h) ∙ ap (λ z. zone_record xxhash3_64 t (map value z) (held_aggregates xs t)) e

-- ---- where nothing is recorded, and where something is

pub none_held : (t : Ty) (fs : List AggregateFn) → length fs ≡ 0 → held_aggregates (map aggregate fs) t ≡ []
none_held t [] h = refl
none_held t (f ∷ fs) h = absurd (omega arith)

pub some_held : (t : Ty) (fs : List AggregateFn) → (length fs ≡ 0 → ⊥) → all_by (has_state t) (map aggregate fs) ≡ true → is_some_column (held_aggregates (map aggregate fs) t) ≡ true
some_held t [] some h = absurd (some refl)
some_held t (f ∷ fs) some h = some_column t (aggregate f) (map aggregate fs) h

pub untold : (columns : List Column) (r : List ValueData) → columns ≡ [] → where_some columns r ≡ None
untold [] r h = refl
untold (a ∷ columns) r h = cc

pub unrefused : (zone last n : ℕ) (columns : List Column) → columns ≡ [] → zone_fault zone columns last n ≡ None
unrefused zone last n [] h = refl
unrefused zone last n (a ∷ columns) h = cc

pub refusal : (zone last n : ℕ) (columns : List Column) (x : Option What) → is_some_column columns ≡ true → ((a : Column) (cs : List Column) → zone_fault zone (a ∷ cs) last n ≡ x)
    → zone_fault zone columns last n ≡ x
refusal zone last n [] x h q = cc
refusal zone last n (a ∷ columns) x h q = q a columns

pub empty_list : (empty : Bool) (n : ℕ) → empty ≡ (n == 0) → empty ≡ true → n ≡ 0
empty_list empty n is e = eqb-true n 0 (sym is ∙ e)

pub some_list : (empty : Bool) (n : ℕ) → empty ≡ (n == 0) → empty ≡ false → n ≡ 0 → ⊥
some_list empty zero is e h = absurd cc
some_list empty (suc n) is e h = absurd (omega arith)
