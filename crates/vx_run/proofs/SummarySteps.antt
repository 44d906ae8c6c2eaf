-- What is summed up, a segment and a column at a time.
use Rattle.std.proofs.Common.{◌≡◌, ℕ, zero, suc, ◌+◌, ◌-◌, ◌*◌, ◌<◌, ◌≤◌, Option, List, [], ◌∷◌, ◌++◌, length, drop, get_or, refl, sym, ap, ◌∙◌, arith, append_assoc}
use Rattle.std.proofs.lemmas.List.{append-nil, drop_more, length-append, length-map}
use Rattle.std.specs.Prelude.{codes, decimal, min, Some, IsSome}
use Rattle.vx_model.specs.Ty.{Ty}
use Rattle.vx_model.specs.ChunkData.{plain_piece, row_values}
use Rattle.vx_model.specs.ValueData.{value}
use Rattle.vx_layout_spec.specs.LayoutTree.{flat_kind, chunked_kind, struct_kind, list_kind, dict_kind, zoned_kind, unread_zoned_kind, stats_kind, foreign_kind, refused_kind, LayoutData, layout, children_of, layout_kind, row_count}
use Rattle.vx_layout_spec.specs.Rows.{rows}
use Rattle.vx_segment_reader.specs.Codec.{segment_codec}
use Rattle.vx_layout_tree.specs.Children.{kind_name}
use Rattle.vx_layout_tree.proofs.Answered.{made_is}
use Rattle.vx_layout_tree.specs.declared.kind.LayoutKind.{LayoutKind}
use Rattle.vx_layout_tree.specs.declared.kind.LayoutKind.TheVariants as kinds
use Rattle.vx_plan.specs.Number.{segment_at}
use Rattle.vx_plan.specs.SourcePlan.{source_values}
use Rattle.vx_generator.specs.Generated.{table_type, rows_from, batch_count, batches_from, table_batches}
use Rattle.vx_generator_laws.proofs.TableColumns.{rows_length}
use Rattle.vx_row_count.proofs.CountSteps.{counts, has_child, columns}
use Rattle.vx_run.specs.Summary.{table_layout, table_segments, summary_of, summary, bytes_in, columns_of, zones_by, zone_counts, ColumnsThere, IsZoneCount}

-- ---- bytes

pub drop_bytes : (bs : List (List ℕ)) (i : ℕ) → i < length bs → bytes_in (drop i bs) ≡ length (get_or bs i []) + bytes_in (drop (i + 1) bs)
drop_bytes bs i lt = rw (drop_more bs i [] lt) refl

pub ruleset byte_rules = (drop_bytes)

-- ---- columns

-- a layout with columns is a struct
record IsStruct (l : LayoutData ℕ) : Type 0 where
  kind : kind_name (layout_kind l) ≡ kinds.Struct
  own : columns_of l ≡ children_of l

has_columns : (l : LayoutData ℕ) (i : ℕ) → i < length (columns_of l) → IsStruct l
has_columns (layout struct_kind t n names ls) i less = record { kind = refl; own = refl }
has_columns (layout (flat_kind encodings tree) t n names ls) i less = absurd (omega (arith, less))
has_columns (layout chunked_kind t n names ls) i less = absurd (omega (arith, less))
has_columns (layout list_kind t n names ls) i less = absurd (omega (arith, less))
has_columns (layout (dict_kind all) t n names ls) i less = absurd (omega (arith, less))
has_columns (layout (zoned_kind m specs) t n names ls) i less = absurd (omega (arith, less))
has_columns (layout (unread_zoned_kind metadata) t n names ls) i less = absurd (omega (arith, less))
has_columns (layout (stats_kind m stats) t n names ls) i less = absurd (omega (arith, less))
has_columns (layout (foreign_kind id metadata) t n names ls) i less = absurd (omega (arith, less))
has_columns (layout (refused_kind is_flat refusal) t n names ls) i less = absurd (omega (arith, less))

pub columns_are : (l : LayoutData ℕ) (i : ℕ) → i < length (columns_of l) → columns_of l ≡ children_of l
columns_are l i less = (has_columns l i less).own

-- where the rows are there, so are the columns
pub columns_there : (look : ℕ → Option (List ℕ)) (l : LayoutData ℕ) → IsSome (rows segment_codec look l) → ColumnsThere l
columns_there look l there i less =
    let s = has_columns l i less in
    rw s.own (has_child look (children_of l) i ((columns look l there s.kind).each i (rw s.own at less)))

-- ---- zones

pub no_table : (k : LayoutKind) (ls : List (LayoutData ℕ)) → length ls < 2 → zones_by k ls ≡ 0
no_table kinds.Zoned [] less = refl
no_table kinds.Zoned (l ∷ []) less = refl
no_table kinds.Zoned (l ∷ k ∷ ls) less = absurd (omega (arith, less))
no_table kinds.LegacyStats [] less = refl
no_table kinds.LegacyStats (l ∷ []) less = refl
no_table kinds.LegacyStats (l ∷ k ∷ ls) less = absurd (omega (arith, less))
no_table kinds.Flat ls less = refl
no_table kinds.Chunked ls less = refl
no_table kinds.Struct ls less = refl
no_table kinds.List ls less = refl
no_table kinds.Dict ls less = refl
no_table kinds.Foreign ls less = refl

pub ruleset table_rules = (no_table)

-- the columns from one on: its zones, and those behind
pub drop_zones : (ls : List (LayoutData ℕ)) (i n : ℕ) → IsZoneCount ls i n → zone_counts (drop i ls) ≡ codes " " ++ (decimal n ++ zone_counts (drop (i + 1) ls))
drop_zones [] i n h = absurd (cc h.1)
drop_zones (l ∷ ls) zero n h = rw ((made_is l h.0 h.1).0, h.2) refl
drop_zones (l ∷ ls) (suc i) n h = let e : suc i + 1 ≡ suc (i + 1) = omega arith in rw e (drop_zones ls i n h)

-- a column more
pub next_zones : (out new whole : List ℕ) (ls : List (LayoutData ℕ)) (i n : ℕ) → IsZoneCount ls i n → new ≡ out ++ (codes " " ++ decimal n) → out ++ zone_counts (drop i ls) ≡ whole → new ++ zone_counts (drop (i + 1) ls) ≡ whole
next_zones out new whole ls i n h is so_far =
    let rest = zone_counts (drop (i + 1) ls) in
    ap (λ z. z ++ rest) is
    ∙ (append_assoc out (codes " " ++ decimal n) rest ∙ (ap (λ z. out ++ z) (append_assoc (codes " ") (decimal n) rest ∙ sym (drop_zones ls i n h)) ∙ so_far))

pub ruleset text_rules = (append_assoc, append-nil)

-- ---- rows

batch_rows : (t : Ty) (i n : ℕ) → length (row_values (plain_piece t (rows_from i n))) ≡ n
batch_rows t i n = length-map (rows_from i n) value ∙ rows_length i n

source_rows : (t : Ty) (k i end : ℕ) → end - i ≤ k * 1000 → length (source_values (batches_from t k i end)) ≡ end - i
source_rows t zero i end few = omega (arith, few)
source_rows t (suc k) i end few =
    let a : length (row_values (plain_piece t (rows_from i (min 1000 (end - i))))) ≡ min 1000 (end - i) = batch_rows t i (min 1000 (end - i)) in
    let b : length (source_values (batches_from t k (i + 1000) end)) ≡ end - (i + 1000) = source_rows t k (i + 1000) end (omega (arith, few)) in
    omega (arith, a, b, few, length-append (row_values (plain_piece t (rows_from i (min 1000 (end - i))))) (source_values (batches_from t k (i + 1000) end)))

-- the table has so many rows, and its layout counts them
pub table_rows : (n : ℕ) → length (source_values (table_batches n)) ≡ n
table_rows n = let all : length (source_values (table_batches n)) ≡ n - 0 = source_rows table_type (batch_count n) 0 n (omega arith) in omega (arith, all)

pub layout_rows : (n : ℕ) (look : ℕ → Option (List ℕ)) (l : LayoutData ℕ) → rows segment_codec look l ≡ Some (source_values (table_batches n)) → row_count l ≡ n
layout_rows n look l read = sym (counts look l (source_values (table_batches n)) read) ∙ table_rows n

-- so the summary of what was written is the table's
pub summary_is : (n : ℕ) (l : LayoutData ℕ) (stored : List (List ℕ)) {text : List ℕ} → l ≡ table_layout n → stored ≡ table_segments n → rows segment_codec (segment_at 0 stored) l ≡ Some (source_values (table_batches n))
    → text ≡ summary_of (row_count l) l stored → text ≡ summary n
summary_is n l stored laid all read is =
    is ∙ (ap (λ m. summary_of m l stored) (layout_rows n (segment_at 0 stored) l read) ∙ (ap (λ z. summary_of n z stored) laid ∙ ap (λ z. summary_of n (table_layout n) z) all))
