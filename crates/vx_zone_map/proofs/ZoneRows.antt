-- The record of a zone, from the row of its table.
use Rattle.std.proofs.Common.{◌≡◌, ℕ, zero, suc, ◌+◌, ◌-◌, ◌*◌, ◌<◌, ◌≤◌, Bool, List, [], ◌∷◌, length, map, drop, refl, sym, ap, ap₂, ◌∙◌, arith, add-one}
use Rattle.std.specs.Prelude.{if◌then◌else◌, nat_lt}
use Rattle.std.proofs.lemmas.List.{drop_all}
use Rattle.vx_model.specs.Words.{head_or, tail}
use Rattle.vx_model.specs.ValueData.{ValueData, null_value, struct_value, vals_of, vals_in}
use Rattle.vx_layout_spec.specs.Rows.{zipped}
use Rattle.vx_aggregate_spec.specs.Aggregate.{held_aggregates}
use Rattle.vx_zone_spec.specs.Pruning.{Predicate, falsified}
use Rattle.vx_zone_spec.specs.ZoneMap.{ZoneMap, names_of, paired, record_of, zone_rows, skips_from}
use Rattle.vx_zone_map.specs.declared.columns.ZoneColumn.{ZoneColumn}
use Rattle.vx_zone_map.specs.Columns.{name_in, seen_values, value_at, entries}

-- ---- rows of columns

heads_are : (columns : List (List ValueData)) → map (head_or null_value) columns ≡ map (value_at 0) columns
heads_are [] = refl
heads_are ([] ∷ columns) = ap (λ vs. null_value ∷ vs) (heads_are columns)
heads_are ((v ∷ vs) ∷ columns) = ap (λ ws. v ∷ ws) (heads_are columns)

tails_are : (z : ℕ) (columns : List (List ValueData)) → map (value_at z) (map tail columns) ≡ map (value_at (suc z)) columns
tails_are z [] = refl
tails_are z ([] ∷ columns) = ap (λ vs. null_value ∷ vs) (tails_are z columns)
tails_are z ((v ∷ vs) ∷ columns) = ap (λ ws. value_at z vs ∷ ws) (tails_are z columns)

abbrev pub row_at : ℕ → List (List ValueData) → ValueData
row_at z columns = struct_value (vals_of (map (value_at z) columns))

pub length-zipped : (n : ℕ) (columns : List (List ValueData)) → length (zipped n columns) ≡ n
length-zipped zero columns = refl
length-zipped (suc n) columns = ap suc (length-zipped n (map tail columns))

drop_suc : (n : ℕ) (columns : List (List ValueData)) (z : ℕ) → z < n → drop z (zipped n columns) ≡ row_at z columns ∷ drop (suc z) (zipped n columns)
drop_suc zero columns z h = absurd (omega arith)
drop_suc (suc n) columns zero h = ap (λ vs. struct_value (vals_of vs) ∷ zipped n (map tail columns)) (heads_are columns)
drop_suc (suc n) columns (suc z) h =
    drop_suc n (map tail columns) z (omega arith) ∙ ap (λ vs. struct_value (vals_of vs) ∷ drop (suc z) (zipped n (map tail columns))) (tails_are z columns)

-- ---- the record

pub back_in : (vs : List ValueData) → vals_in (vals_of vs) ≡ vs
back_in [] = refl
back_in (v ∷ vs) = ap (λ r. v ∷ r) (back_in vs)

paired_entries : (z : ℕ) (columns : List ZoneColumn) → paired (map name_in columns) (map (value_at z) (map seen_values columns)) ≡ entries z columns
paired_entries z [] = refl
paired_entries z (c ∷ columns) = ap (λ r. (name_in c, value_at z (seen_values c)) ∷ r) (paired_entries z columns)

module _ (m : ZoneMap) (columns : List ZoneColumn) (names : map name_in columns ≡ names_of (held_aggregates m.aggregates m.column)) where
  pub record_at : (z : ℕ) → record_of m (row_at z (map seen_values columns)) ≡ entries z columns
  record_at z =
      ap₂ paired (sym names) (back_in (map (value_at z) (map seen_values columns)))
      ∙ paired_entries z columns

  module _ (hash : List ℕ → ℕ) (p : Predicate) (n : ℕ) (zones : m.zones ≡ zipped n (map seen_values columns)) where
    count_is : length m.zones ≡ n
    count_is = ap length zones ∙ length-zipped n (map seen_values columns)

    -- the flag of a zone stands before those of the zones behind it
    pub one_flag : (z rows : ℕ) (b : Bool) → z < n → rows ≡ (if nat_lt (suc z) n then m.zone_len else m.row_count - m.zone_len * z) → b ≡ falsified hash m.column p (entries z columns) rows
        → skips_from hash m p z (drop z m.zones) ≡ b ∷ skips_from hash m p (z + 1) (drop (z + 1) m.zones)
    one_flag z rows b h e f =
        let rows_are : zone_rows m z ≡ rows = ap (λ k. if nat_lt (suc z) k then m.zone_len else m.row_count - m.zone_len * z) count_is ∙ sym e in
        let one : falsified hash m.column p (record_of m (row_at z (map seen_values columns))) (zone_rows m z) ≡ b = ap₂ (λ r k. falsified hash m.column p r k) (record_at z) rows_are ∙ sym f in
        let front : drop z m.zones ≡ row_at z (map seen_values columns) ∷ drop (suc z) m.zones =
        ap (drop z) zones ∙ drop_suc n (map seen_values columns) z h ∙ ap (λ vs. row_at z (map seen_values columns) ∷ drop (suc z) vs) (sym zones) in
        ap (skips_from hash m p z) front
        ∙ ap (λ x. x ∷ skips_from hash m p (suc z) (drop (suc z) m.zones)) one
        ∙ ap (λ k. b ∷ skips_from hash m p k (drop k m.zones)) (sym (add-one z))

    -- behind the last zone there is none
    pub no_flag : (z : ℕ) → n ≤ z → skips_from hash m p z (drop z m.zones) ≡ []
    no_flag z h =
        let l : length m.zones ≡ n = count_is in
        ap (skips_from hash m p z) (drop_all z m.zones (omega arith))
