-- The generated table is valid input.
use Rattle.std.proofs.Common.{◌≡◌, ℕ, zero, suc, ◌+◌, ◌*◌, ◌^◌, ◌<◌, ◌≤◌, true, false, List, [], ◌∷◌, ◌++◌, length, None, refl, ap, arith}
use Rattle.vx_model.specs.declared.ptype.PType.TheVariants.{I64}
use Rattle.vx_model.specs.Words.{total_by}
use Rattle.vx_model.specs.Ty.{Ty, primitive, utf8}
use Rattle.vx_path.specs.Path.{Eof, inside, next, root_eof}
use Rattle.vx_rules.specs.Stream.{stream_cells}
use Rattle.vx_rules.specs.Columns.{column, other_columns}
use Rattle.vx_rules.specs.Runs.{DictOptions}
use Rattle.vx_strategy_spec.specs.StrategyData.{FlatOptions, ZonedOptions}
use Rattle.vx_plan.specs.PlanData.{Setting, Item, Plan, rows_in, row_totals}
use Rattle.vx_plan.specs.ChunkedNode.{all_numbers}
use Rattle.vx_plan.specs.SourcePlan.{plan, batch_items}
use Rattle.vx_plan.specs.Valid.{Fit, OfSchema, Valid}
use Rattle.vx_generator.specs.Generated.{table_type, batch_count, batches_from, table_batches}
use Rattle.vx_generator.specs.TableStrategy.{column_blocks, table_strategy}
use Rattle.vx_generator_laws.specs.TableWrite.{table_setting, most_rows, TableIsValid}
use Rattle.vx_generator_laws.proofs.RunSums.{in_all}
use Rattle.vx_generator_laws.proofs.Tame.{AtMost, most_append, most_up, Tame, tame_up, AllTame, tame_none, tame_more, most_totals}
use Rattle.vx_generator_laws.proofs.DictPlans.{Ample}
use Rattle.vx_generator_laws.proofs.ZonePlans.{SmallTables}
use Rattle.vx_generator_laws.proofs.BlockPlans.{weight, column_tame}
use Rattle.vx_generator_laws.proofs.Aggregates.{is_short, integers_bounded, texts_bounded}
use Rattle.vx_generator_laws.proofs.TableColumns.{Fed, splits, ids_fed, cities_fed, amounts_fed, batch_rows}
use Rattle.vx_generator_laws.proofs.TableSetting.{table_ample, table_small}

abbrev flat_options : FlatOptions
flat_options = record { padding = true; inline = false }

abbrev dict_options : DictOptions
dict_options = record { max_bytes = 1048576; max_len = 65535; probe = 1 }

abbrev zone_options : ZonedOptions
zone_options = record { zone_len = 8192; aggregates = None; concurrency = 1 }

fit_most : (n : ℕ) (ns : List ℕ) → n < 2 ^ 64 → AtMost n ns → Fit ns
fit_most n [] l h = tt
fit_most n (m ∷ ns) l h = ((let k : m ≤ n = h.0 in omega arith), fit_most n ns l h.1)

of_schema : (k i end : ℕ) → OfSchema table_type (batches_from table_type k i end)
of_schema zero i end = tt
of_schema (suc k) i end = (refl, of_schema k (i + 1000) end)

batches_length : (t : Ty) (k i end : ℕ) → length (batches_from t k i end) ≡ k
batches_length t zero i end = refl
batches_length t (suc k) i end = ap (λ n. suc n) (batches_length t k (i + 1000) end)

-- three columns of so many batches
abbrev pairs_of : ℕ → ℕ
pairs_of k = 4000 * k + 1 + (4000 * k + 1 + (4000 * k + 1 + 0))

abbrev numbers_of : ℕ → ℕ
numbers_of k = 30000000 * k + 302 + (30000000 * k + 302 + (30000000 * k + 302 + 0))

-- what a plan of at most a thousand batches keeps to
record Fits (p : Plan) : Type 0 where
  numbered : 0 + length p.pairs ≤ 2 ^ 32
  numbers : Fit p.numbers
  tracked : 0 + p.reserved < 2 ^ 64

tame_fits : (k : ℕ) (p : Plan) → k ≤ 1000 → Tame 1 (pairs_of k) (numbers_of k) p → Fits p
tame_fits k p few h =
    let a : length p.pairs ≤ pairs_of k = h.pairs in
    let b : p.reserved ≤ numbers_of k = h.reserved in
    record { numbered = omega arith; numbers = fit_most (1 + numbers_of k) p.numbers (omega arith) h.numbers; tracked = omega arith }

column_few : (t : Ty) (k : ℕ) (items : List Item) (p : Plan) → Fed t k items
    → Tame 0 (4 * length (stream_cells items) + 1) (1000 * total_by (weight t) (stream_cells items) + 302) p → Tame 0 (4000 * k + 1) (30000000 * k + 302) p
column_few t k items p f h =
    let a : length (stream_cells items) ≤ 1000 * k = f.rows in
    let b : total_by (weight t) (stream_cells items) ≤ 30000 * k = f.sizes in
    tame_up 0 _ _ _ _ p (omega arith) (omega arith) h

-- of a setting in which all is written
module _ (s : Setting) (ample : Ample s flat_options) (small : SmallTables s flat_options) where
  some_rows : 0 < 8192
  some_rows = omega arith

  three : 3 ≤ 3
  three = omega arith

  ids_tame : (k : ℕ) (items : List Item) (e : Eof) → Fed (primitive I64 false) k items → Tame 0 (4000 * k + 1) (30000000 * k + 302) (plan s column_blocks (primitive I64 false) false items true (inside e))
  ids_tame k items e f =
      column_few (primitive I64 false) k items _ f
      (column_tame s flat_options ample small dict_options 1048576 zone_options some_rows (primitive I64 false) refl is_short three (λ xs h. integers_bounded s I64 false xs) items (inside e) f.blocks f.short)

  cities_tame : (k : ℕ) (items : List Item) (e : Eof) → Fed (utf8 false) k items → Tame 0 (4000 * k + 1) (30000000 * k + 302) (plan s column_blocks (utf8 false) false items true (inside e))
  cities_tame k items e f =
      column_few (utf8 false) k items _ f
      (column_tame s flat_options ample small dict_options 1048576 zone_options some_rows (utf8 false) refl is_short three (λ xs h. texts_bounded s false xs h) items (inside e) f.blocks f.short)

  amounts_tame : (k : ℕ) (items : List Item) (e : Eof) → Fed (primitive I64 true) k items → Tame 0 (4000 * k + 1) (30000000 * k + 302) (plan s column_blocks (primitive I64 true) false items true (inside e))
  amounts_tame k items e f =
      column_few (primitive I64 true) k items _ f
      (column_tame s flat_options ample small dict_options 1048576 zone_options some_rows (primitive I64 true) refl is_short three (λ xs h. integers_bounded s I64 true xs) items (inside e) f.blocks f.short)

  table_tame : (k end : ℕ) → Tame 1 (pairs_of k) (numbers_of k) (plan s table_strategy table_type false (batch_items 0 (batches_from table_type k 0 end)) true root_eof)
  table_tame k end =
      let items : List Item = batch_items 0 (batches_from table_type k 0 end) in
      let a : in_all rows_in items ≤ 1000 * k = batch_rows 0 k 0 end in
      let n : 0 + in_all rows_in items ≤ 1 + numbers_of k = omega arith in
      let x : 3 ≤ 1 + numbers_of k = omega arith in
      let y : 4 ≤ 1 + numbers_of k = omega arith in
      let z : numbers_of k ≤ 1 + numbers_of k = omega arith in
      let ids : List Item = column 0 (splits 0 k 0 end) in
      let cities : List Item = column 1 (other_columns (splits 0 k 0 end)) in
      let amounts : List Item = column 2 (other_columns (other_columns (splits 0 k 0 end))) in
      let first : Plan = plan s column_blocks (primitive I64 false) false ids true (inside root_eof) in
      let second : Plan = plan s column_blocks (utf8 false) false cities true (inside (next root_eof)) in
      let third : Plan = plan s column_blocks (primitive I64 true) false amounts true (inside (next (next root_eof))) in
      let ps : List Plan = first ∷ second ∷ third ∷ [] in
      let h : AllTame (pairs_of k) (numbers_of k) ps =
      tame_more (4000 * k + 1) (30000000 * k + 302) (4000 * k + 1 + (4000 * k + 1 + 0)) (30000000 * k + 302 + (30000000 * k + 302 + 0)) first (second ∷ third ∷ []) (ids_tame k ids root_eof (ids_fed 0 k 0 end))
      (tame_more (4000 * k + 1) (30000000 * k + 302) (4000 * k + 1 + 0) (30000000 * k + 302 + 0) second (third ∷ []) (cities_tame k cities (next root_eof) (cities_fed 0 k 0 end))
      (tame_more (4000 * k + 1) (30000000 * k + 302) 0 0 third [] (amounts_tame k amounts (next (next root_eof)) (amounts_fed 0 k 0 end))
      tame_none)) in
      record {
        faultless = h.faultless;
        pairs = h.pairs;
        numbers = most_append (1 + numbers_of k) (row_totals items ++ (3 ∷ 4 ∷ [])) (all_numbers ps)
            (most_append (1 + numbers_of k) (row_totals items) (3 ∷ 4 ∷ []) (most_totals rows_in 0 (1 + numbers_of k) items n) (x, (y, tt)))
            (most_up (numbers_of k) (1 + numbers_of k) (all_numbers ps) z h.numbers);
        reserved = h.reserved;
      }

  table_valid : (rows : ℕ) → rows ≤ most_rows → Valid s table_strategy table_type false 0 0 (table_batches rows)
  table_valid rows l =
      let few : batch_count rows ≤ 1000 = omega arith in
      let f : Fits (plan s table_strategy table_type false (batch_items 0 (table_batches rows)) true root_eof) =
      tame_fits (batch_count rows) (plan s table_strategy table_type false (batch_items 0 (table_batches rows)) true root_eof) few (table_tame (batch_count rows) rows) in
      let c : length (table_batches rows) ≡ batch_count rows = batches_length table_type (batch_count rows) 0 rows in
      let d : length (table_batches rows) < 2 ^ 64 = omega arith in
      record {
        faultless = (table_tame (batch_count rows) rows).faultless;
        of_schema = of_schema (batch_count rows) 0 rows;
        numbered = f.numbered;
        fit = (d, f.numbers);
        tracked = f.tracked;
      }

pub table_is_valid : TableIsValid
table_is_valid rows l = table_valid table_setting (table_ample flat_options) (table_small flat_options) rows l
