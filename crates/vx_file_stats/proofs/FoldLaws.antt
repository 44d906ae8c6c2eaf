-- What is gathered batch by batch is what the batches tell.
use Rattle.std.proofs.Common.{◌≡◌, ℕ, ◌+◌, ◌-◌, ◌^◌, min, Bool, true, false, List, [], ◌∷◌, map, refl, sym, ap, ap₂, ◌∙◌, arith, Option}
use Rattle.std.specs.Prelude.{nat_lt, if◌then◌else◌, ℤ, pos}
use Rattle.std.proofs.lemmas.Bool.Decides.{nat_tests}
use Rattle.vx_model.specs.Words.{total_by, head_or, tail}
use Rattle.vx_model.specs.Ty.{Ty}
use Rattle.vx_model.specs.ValueData.{int_value, is_null_value}
use Rattle.vx_model.specs.ChunkData.{ChunkData, piece_type, row_values, row_size}
use Rattle.vx_aggregate.specs.declared.stat.Stat.{Stat}
use Rattle.vx_aggregate.specs.declared.stat.Stat.TheVariants as stats
use Rattle.vx_zone_spec.specs.ValueOrder.{greatest, least}
use Rattle.vx_zone_spec.specs.Record.{nulls}
use Rattle.vx_file_stats.specs.Precisions.{PrecisionData, exact, absent, SetData}
use Rattle.vx_file_stats.specs.FileStats.{both, batch_sum, some_by, is_longer, batch_max, batch_min, total_sum, counted, keeps, kept, column_set, column_sets, max_of, min_of, sum_of, null_count_of, size_of, fitting, firsts, others}
use Rattle.vx_file_stats.specs.Gathering.{no_column, ColumnData, max_with, min_with, added, next_total, with_piece, with_pieces, column_gathered, columns_gathered, max_told, min_told, set_told}
use Rattle.vx_file_stats.specs.Gathered.{AllTyped}

-- all of one type
abbrev pub AllOf : Ty → List ChunkData → Type 0
AllOf t [] = Unit {0}
AllOf t (p ∷ ps) = (piece_type p ≡ t) × AllOf t ps

-- ---- a set, statistic by statistic

abbrev set_by : PrecisionData → PrecisionData → PrecisionData → PrecisionData → PrecisionData → SetData
set_by a b c d e = record { of_max = a; of_min = b; of_sum = c; of_null_count = d; of_size = e }

same_set : (a b c d e f g h i j : PrecisionData) → a ≡ f → b ≡ g → c ≡ h → d ≡ i → e ≡ j → set_by a b c d e ≡ set_by f g h i j
same_set a b c d e f g h i j k l m n o =
    ap (λ (x : PrecisionData). set_by x b c d e) k ∙ ap (λ (x : PrecisionData). set_by f x c d e) l ∙ ap (λ (x : PrecisionData). set_by f g x d e) m
    ∙ ap (λ (x : PrecisionData). set_by f g h x e) n ∙ ap (λ (x : PrecisionData). set_by f g h i x) o

-- ---- one column

module _ (asked : List Stat) (limit : ℕ) (t : Ty) where
  abbrev pub state : List ChunkData → ColumnData
  state ps = column_gathered asked limit t ps

  type_stays : (ps : List ChunkData) → (state ps).type ≡ t
  type_stays [] = refl
  type_stays (p ∷ ps) = type_stays ps

  -- the test at a batch's own type is that at the column's
  test_at : (s : Stat) (p : ChunkData) → piece_type p ≡ t → keeps asked s t ≡ true → keeps asked s (piece_type p) ≡ true
  test_at s p e k = ap (keeps asked s) e ∙ k

  upper_is : (ps : List ChunkData) → AllOf t ps → keeps asked stats.Max t ≡ true
      → (state ps).rows.upper ≡ record { found = greatest (map (batch_max limit) ps); cut = some_by (λ p. is_longer limit (greatest (row_values p))) ps; missing = some_by (λ p. is_null_value (batch_max limit p)) ps }
  upper_is [] all k = refl
  upper_is (p ∷ ps) all k =
      ap (λ (b : Bool). if b then max_with limit (greatest (row_values p)) (state ps).rows.upper else (state ps).rows.upper) (test_at stats.Max p all.0 k)
      ∙ ap (max_with limit (greatest (row_values p))) (upper_is ps all.1 k)

  lower_is : (ps : List ChunkData) → AllOf t ps → keeps asked stats.Min t ≡ true
      → (state ps).rows.lower ≡ record { found = least (map (batch_min limit) ps); cut = some_by (λ p. is_longer limit (least (row_values p))) ps; missing = some_by (λ p. is_null_value (batch_min limit p)) ps }
  lower_is [] all k = refl
  lower_is (p ∷ ps) all k =
      ap (λ (b : Bool). if b then min_with limit (least (row_values p)) (state ps).rows.lower else (state ps).rows.lower) (test_at stats.Min p all.0 k)
      ∙ ap (min_with limit (least (row_values p))) (lower_is ps all.1 k)

  total_is : (ps : List ChunkData) → AllOf t ps → keeps asked stats.Sum t ≡ true → (state ps).rows.total ≡ total_sum t ps
  total_is [] all k = refl
  total_is (p ∷ ps) all k =
      ap (λ (u : Ty). next_total asked u (row_values p) (state ps).rows.total) all.0
      ∙ ap (λ (o : Option ℤ). next_total asked t (row_values p) o) (total_is ps all.1 k)
      ∙ ap (λ (b : Bool). if b then both (batch_sum t p) (total_sum t ps) else total_sum t ps) k

  capped : (m n : ℕ) → min (min m (2 ^ 128 - 1) + n) (2 ^ 128 - 1) ≡ min (n + m) (2 ^ 128 - 1)
  capped m n = omega arith

  nulls_are : (ps : List ChunkData) → AllOf t ps → keeps asked stats.NullCount t ≡ true → (state ps).rows.null_rows ≡ min (total_by (λ p. nulls (row_values p)) ps) (2 ^ 128 - 1)
  nulls_are [] all k = refl
  nulls_are (p ∷ ps) all k =
      ap (λ (b : Bool). if b then added (state ps).rows.null_rows (nulls (row_values p)) else (state ps).rows.null_rows) (test_at stats.NullCount p all.0 k)
      ∙ ap (λ (n : ℕ). added n (nulls (row_values p))) (nulls_are ps all.1 k) ∙ capped (total_by (λ p. nulls (row_values p)) ps) (nulls (row_values p))

  bytes_are : (ps : List ChunkData) → AllOf t ps → keeps asked stats.UncompressedSizeInBytes t ≡ true → (state ps).bytes ≡ min (total_by row_size ps) (2 ^ 128 - 1)
  bytes_are [] all k = refl
  bytes_are (p ∷ ps) all k =
      ap (λ (b : Bool). if b then added (state ps).bytes (row_size p) else (state ps).bytes) (test_at stats.UncompressedSizeInBytes p all.0 k)
      ∙ ap (λ (n : ℕ). added n (row_size p)) (bytes_are ps all.1 k) ∙ capped (total_by row_size ps) (row_size p)

  -- a number that stopped is one that no value holds
  counted_least : (n : ℕ) → counted (min n (2 ^ 128 - 1)) ≡ counted n
  counted_least n = go (nat_lt n (2 ^ 127)) refl
    where
      below : (n : ℕ) → nat_lt n (2 ^ 127) ≡ true → min n (2 ^ 128 - 1) ≡ n
      below n h = grind (arith, nat_tests, h)

      past : (n : ℕ) → nat_lt n (2 ^ 127) ≡ false → nat_lt (min n (2 ^ 128 - 1)) (2 ^ 127) ≡ false
      past n h = grind (arith, nat_tests, h)

      go : (b : Bool) → nat_lt n (2 ^ 127) ≡ b → counted (min n (2 ^ 128 - 1)) ≡ counted n
      go true h = ap counted (below n h)
      go false h =
          ap (λ (c : Bool). if c then exact (int_value (pos (min n (2 ^ 128 - 1)))) else absent) (past n h)
          ∙ sym (ap (λ (c : Bool). if c then exact (int_value (pos n)) else absent) h)

  kept_same : (b : Bool) (p q : PrecisionData) → (b ≡ true → p ≡ q) → kept b p ≡ kept b q
  kept_same true p q h = h refl
  kept_same false p q h = refl

  pub told_is : (ps : List ChunkData) → AllOf t ps → set_told asked (state ps) ≡ column_set asked limit t ps
  told_is ps all =
      let c = state ps in
      ap
      (λ (u : Ty). set_by (kept (keeps asked stats.Max u) (max_told u c.rows.upper)) (kept (keeps asked stats.Min u) (min_told c.rows.lower)) (kept (keeps asked stats.Sum u) (fitting u c.rows.total))
      (kept (keeps asked stats.NullCount u) (counted c.rows.null_rows)) (kept (keeps asked stats.UncompressedSizeInBytes u) (counted c.bytes)))
      (type_stays ps)
      ∙ same_set _ _ _ _ _ _ _ _ _ _
      (kept_same (keeps asked stats.Max t) (max_told t c.rows.upper) (max_of limit t ps) (λ k. ap (max_told t) (upper_is ps all k)))
      (kept_same (keeps asked stats.Min t) (min_told c.rows.lower) (min_of limit ps) (λ k. ap min_told (lower_is ps all k)))
      (kept_same (keeps asked stats.Sum t) (fitting t c.rows.total) (sum_of t ps) (λ k. ap (fitting t) (total_is ps all k)))
      (kept_same (keeps asked stats.NullCount t) (counted c.rows.null_rows) (null_count_of ps) (λ k. ap counted (nulls_are ps all k) ∙ counted_least (total_by (λ p. nulls (row_values p)) ps)))
      (kept_same (keeps asked stats.UncompressedSizeInBytes t) (counted c.bytes) (size_of ps) (λ k. ap counted (bytes_are ps all k) ∙ counted_least (total_by row_size ps)))

-- ---- all columns

firsts_typed : (t : Ty) (ts : List Ty) (rows : List (List ChunkData)) → AllTyped (t ∷ ts) rows → AllOf t (firsts rows)
firsts_typed t ts [] all = tt
firsts_typed t ts ([] ∷ rows) all = firsts_typed t ts rows all.1
firsts_typed t ts ((p ∷ ps) ∷ rows) all = (ap (head_or t) all.0, firsts_typed t ts rows all.1)

others_typed : (t : Ty) (ts : List Ty) (rows : List (List ChunkData)) → AllTyped (t ∷ ts) rows → AllTyped ts (others rows)
others_typed t ts [] all = tt
others_typed t ts ([] ∷ rows) all = others_typed t ts rows all.1
others_typed t ts ((p ∷ ps) ∷ rows) all = (ap tail all.0, others_typed t ts rows all.1)

pub sets_are : (asked : List Stat) (limit : ℕ) (ts : List Ty) (rows : List (List ChunkData)) → AllTyped ts rows
    → map (set_told asked) (columns_gathered asked limit ts rows) ≡ column_sets asked limit ts rows
sets_are asked limit [] rows all = refl
sets_are asked limit (t ∷ ts) rows all =
    ap₂ (λ (s : SetData) (ss : List SetData). s ∷ ss) (told_is asked limit t (firsts rows) (firsts_typed t ts rows all)) (sets_are asked limit ts (others rows) (others_typed t ts rows all))

-- one batch more
pub pieces_gathered : (asked : List Stat) (limit : ℕ) (ts : List Ty) (ps : List ChunkData) (rows : List (List ChunkData)) → map piece_type ps ≡ ts
    → with_pieces asked limit (columns_gathered asked limit ts rows) ps ≡ columns_gathered asked limit ts (ps ∷ rows)
pieces_gathered asked limit [] [] rows e = refl
pieces_gathered asked limit [] (p ∷ ps) rows e = cc
pieces_gathered asked limit (t ∷ ts) [] rows e = cc
pieces_gathered asked limit (t ∷ ts) (p ∷ ps) rows e =
    ap (λ (cs : List ColumnData). with_piece asked limit p (column_gathered asked limit t (firsts rows)) ∷ cs) (pieces_gathered asked limit ts ps (others rows) (ap tail e))

-- before the first
pub none_gathered : (asked : List Stat) (limit : ℕ) (ts : List Ty) → map no_column ts ≡ columns_gathered asked limit ts []
none_gathered asked limit [] = refl
none_gathered asked limit (t ∷ ts) = ap (λ (cs : List ColumnData). no_column t ∷ cs) (none_gathered asked limit ts)
