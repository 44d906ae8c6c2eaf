-- The columns of the generated table: their rows, the sizes of their cells, and that their texts are short.
use Rattle.std.proofs.Common.{◌≡◌, ℕ, zero, suc, ◌+◌, ◌-◌, ◌*◌, ◌%◌, ◌==◌, ◌^◌, ◌<◌, ◌≤◌, Bool, true, false, List, [], ◌∷◌, ◌++◌, map, length, refl, sym, ap, subst, arith, length-append}
use Rattle.std.specs.Prelude.{if◌then◌else◌, min, codes, decimal, pos, nat_le}
use Rattle.std.proofs.lemmas.Bool.{and_from}
use Rattle.std.proofs.lemmas.Bool.Decides.{nat_tests}
use Rattle.std.proofs.lemmas.Fmt.{length-decimal-le}
use Rattle.vx_model.specs.declared.ptype.PType.TheVariants.{I64}
use Rattle.vx_model.specs.Words.{total_by, all_by}
use Rattle.vx_model.specs.Ty.{Ty, Tys, primitive, utf8, struct, no_fields}
use Rattle.vx_model.specs.CellData.{CellData, null_cell, int_cell, cell_size}
use Rattle.vx_model.specs.ChunkData.{plain_piece, cells}
use Rattle.vx_layout_spec.proofs.CellsFit.{all_append}
use Rattle.vx_path.specs.Path.{under}
use Rattle.vx_layout_spec.specs.Parts.{first_of, others_of}
use Rattle.vx_rules.specs.Stream.{stream_cells}
use Rattle.vx_rules.specs.Columns.{Split, struct_splits, column, other_columns}
use Rattle.vx_plan.specs.PlanData.{Item, rows_in}
use Rattle.vx_plan.specs.SourcePlan.{batch_items}
use Rattle.vx_generator.specs.Generated.{table_type, city, amount, table_row, rows_from, batches_from}
use Rattle.vx_generator_laws.proofs.Sums.{total-append}
use Rattle.vx_generator_laws.proofs.RunSums.{in_all}
use Rattle.vx_generator_laws.proofs.BlockStreams.{Short}
use Rattle.vx_generator_laws.proofs.BlockPlans.{weight}
use Rattle.vx_generator_laws.proofs.Aggregates.{is_short}

-- ---- cells

-- so many rows of a column
pub record Rows (t : Ty) (n : ℕ) (cs : List CellData) : Type 0 where
  pub rows : length cs ≡ n
  pub sizes : total_by (weight t) cs ≤ 30 * n
  pub short : all_by is_short cs ≡ true

-- a column that has the cell g of each row
rows_of : (t : Ty) (h : List CellData → List CellData) (g : CellData → CellData) → h [] ≡ [] → ((r : CellData) (rs : List CellData) → h (r ∷ rs) ≡ g r ∷ h rs)
    → ((i : ℕ) → cell_size t (g (table_row i)) ≤ 29) → ((i : ℕ) → is_short (g (table_row i)) ≡ true) → (i n : ℕ) → Rows t n (h (rows_from i n))
rows_of t h g none more size short i zero = subst (Rows t 0) (sym none) (record { rows = refl; sizes = omega arith; short = refl })
rows_of t h g none more size short i (suc n) =
    let r : Rows t n (h (rows_from (i + 1) n)) = rows_of t h g none more size short (i + 1) n in
    let k : cell_size t (g (table_row i)) ≤ 29 = size i in
    let s : total_by (weight t) (h (rows_from (i + 1) n)) ≤ 30 * n = r.sizes in
    subst (Rows t (suc n)) (sym (more (table_row i) (rows_from (i + 1) n)))
    (record { rows = ap (λ m. suc m) r.rows; sizes = omega arith; short = and_from (is_short (g (table_row i))) (all_by is_short (h (rows_from (i + 1) n))) (short i) r.short })

city_length : (i : ℕ) → length (city i) ≤ 7
city_length i =
    let e : length (codes "city-" ++ decimal (i % 23)) ≡ 5 + length (decimal (i % 23)) = length-append (codes "city-") (decimal (i % 23)) in
    let m : i % 23 < 23 = omega arith in
    let d : length (decimal (i % 23)) ≤ 2 = length-decimal-le 2 (i % 23) (omega arith) (let k : i % 23 < 10 ^ 2 = omega arith in k) (let k : i % 23 < 2 ^ 64 = omega arith in k) in omega arith

city_short : (i : ℕ) → nat_le (length (city i)) 64 ≡ true
city_short i = go (length (city i)) (city_length i)
  where
    go : (n : ℕ) → n ≤ 7 → nat_le n 64 ≡ true
    go n h = grind (arith, nat_tests)

amount_short : (i : ℕ) → is_short (amount i) ≡ true
amount_short i = go ((i % 10) == 9)
  where
    go : (b : Bool) → is_short (if b then null_cell else int_cell (pos ((i * 37) % 1000))) ≡ true
    go true = refl
    go false = refl

ids : (i n : ℕ) → Rows (primitive I64 false) n (map first_of (rows_from i n))
ids i n = rows_of (primitive I64 false) (map first_of) first_of refl (λ r rs. refl) (λ j. omega arith) (λ j. refl) i n

cities : (i n : ℕ) → Rows (utf8 false) n (map first_of (map others_of (rows_from i n)))
cities i n =
    rows_of (utf8 false) (λ rs. map first_of (map others_of rs)) (λ r. first_of (others_of r)) refl (λ r rs. refl)
    (λ j. let l : length (city j) ≤ 7 = city_length j in omega arith) city_short i n

amounts : (i n : ℕ) → Rows (primitive I64 true) n (map first_of (map others_of (map others_of (rows_from i n))))
amounts i n =
    rows_of (primitive I64 true) (λ rs. map first_of (map others_of (map others_of rs))) (λ r. first_of (others_of (others_of r))) refl (λ r rs. refl) (λ j. omega arith) amount_short i n

-- ---- streams

-- the stream of a column, of so many batches
pub record Fed (t : Ty) (k : ℕ) (items : List Item) : Type 0 where
  pub blocks : Short 8192 items
  pub rows : length (stream_cells items) ≤ 1000 * k
  pub sizes : total_by (weight t) (stream_cells items) ≤ 30000 * k
  pub short : all_by is_short (stream_cells items) ≡ true

fed_none : (t : Ty) → Fed t 0 []
fed_none t = record { blocks = tt; rows = omega arith; sizes = omega arith; short = refl }

fed_more : (t : Ty) (k n : ℕ) (c : Item) (cs : List Item) → n ≤ 1000 → Rows t n (cells c.1) → Fed t k cs → Fed t (suc k) (c ∷ cs)
fed_more t k n c cs l r f =
    let a : length (cells c.1) ≡ n = r.rows in
    let b : total_by (weight t) (cells c.1) ≤ 30 * n = r.sizes in
    let d : length (stream_cells cs) ≤ 1000 * k = f.rows in
    let e : total_by (weight t) (stream_cells cs) ≤ 30000 * k = f.sizes in
    let g : length (cells c.1 ++ stream_cells cs) ≡ length (cells c.1) + length (stream_cells cs) = length-append (cells c.1) (stream_cells cs) in
    let h : total_by (weight t) (cells c.1 ++ stream_cells cs) ≡ total_by (weight t) (cells c.1) + total_by (weight t) (stream_cells cs) = total-append (weight t) (cells c.1) (stream_cells cs) in
    record { blocks = ((omega arith), f.blocks); rows = omega arith; sizes = omega arith; short = all_append is_short (cells c.1) (stream_cells cs) r.short f.short }

few_rows : (i end : ℕ) → min 1000 (end - i) ≤ 1000
few_rows i end = omega arith

-- the fields of a struct
abbrev pub fields_of : Ty → Tys
fields_of (struct fs n) = fs
fields_of t = no_fields

abbrev pub splits : ℕ → ℕ → ℕ → ℕ → List Split
splits j k i end = struct_splits (fields_of table_type) false (batch_items j (batches_from table_type k i end))

pub ids_fed : (j k i end : ℕ) → Fed (primitive I64 false) k (column 0 (splits j k i end))
ids_fed j zero i end = fed_none (primitive I64 false)
ids_fed j (suc k) i end = fed_more (primitive I64 false) k (min 1000 (end - i)) (under (0 ∷ j ∷ []) 0, plain_piece (primitive I64 false) (map first_of (rows_from i (min 1000 (end - i))))) (column 0 (splits (suc j) k (i + 1000) end)) (few_rows i end) (ids i (min 1000 (end - i))) (ids_fed (suc j) k (i + 1000) end)

pub cities_fed : (j k i end : ℕ) → Fed (utf8 false) k (column 1 (other_columns (splits j k i end)))
cities_fed j zero i end = fed_none (utf8 false)
cities_fed j (suc k) i end =
    fed_more (utf8 false) k (min 1000 (end - i)) (under (0 ∷ j ∷ []) 1, plain_piece (utf8 false) (map first_of (map others_of (rows_from i (min 1000 (end - i)))))) (column 1 (other_columns (splits (suc j) k (i + 1000) end))) (few_rows i end) (cities i (min 1000 (end - i))) (cities_fed (suc j) k (i + 1000) end)

pub amounts_fed : (j k i end : ℕ) → Fed (primitive I64 true) k (column 2 (other_columns (other_columns (splits j k i end))))
amounts_fed j zero i end = fed_none (primitive I64 true)
amounts_fed j (suc k) i end =
    fed_more (primitive I64 true) k (min 1000 (end - i)) (under (0 ∷ j ∷ []) 2, plain_piece (primitive I64 true) (map first_of (map others_of (map others_of (rows_from i (min 1000 (end - i))))))) (column 2 (other_columns (other_columns (splits (suc j) k (i + 1000) end)))) (few_rows i end) (amounts i (min 1000 (end - i))) (amounts_fed (suc j) k (i + 1000) end)

pub rows_length : (i n : ℕ) → length (rows_from i n) ≡ n
rows_length i zero = refl
rows_length i (suc n) = ap (λ m. suc m) (rows_length (i + 1) n)

pub batch_rows : (j k i end : ℕ) → in_all rows_in (batch_items j (batches_from table_type k i end)) ≤ 1000 * k
batch_rows j zero i end = omega arith
batch_rows j (suc k) i end =
    let a : length (rows_from i (min 1000 (end - i))) ≡ min 1000 (end - i) = rows_length i (min 1000 (end - i)) in
    let b : min 1000 (end - i) ≤ 1000 = few_rows i end in
    let r : in_all rows_in (batch_items (suc j) (batches_from table_type k (i + 1000) end)) ≤ 1000 * k = batch_rows (suc j) k (i + 1000) end in omega arith
