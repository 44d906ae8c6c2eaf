-- How many rows the streams of columns and of runs have.
use Rattle.std.proofs.Common.{◌≡◌, ℕ, suc, ◌<◌, ◌^◌, true, List, [], ◌∷◌, length, map, refl, sym, ap, ◌∙◌, arith}
use Rattle.std.proofs.lemmas.List.{length-map}
use Rattle.vx_model.specs.Words.{head_or, tail}
use Rattle.vx_model.specs.Ty.{Ty, Tys, no_fields, field}
use Rattle.vx_model.specs.ValueData.{value}
use Rattle.vx_model.specs.CellData.{CellData, bool_cell}
use Rattle.vx_model.specs.ChunkData.{ChunkData, cells, row_values}
use Rattle.vx_rules.specs.Stream.{Chunks, stream_cells, piece_cells, PiecesOf}
use Rattle.vx_rules.specs.Blocks.{blocks}
use Rattle.vx_rules.specs.Flushes.{flushes}
use Rattle.vx_rules.specs.Columns.{Split, column, other_columns, offset_cell}
use Rattle.vx_layout_spec.specs.Parts.{flag_of, first_of, others_of, ends}
use Rattle.vx_rules.proofs.RegroupLaws.{regrouped_rows, regrouped_of}
use Rattle.vx_rules.proofs.BlockLaws.{Rows, blocks_regroup}
use Rattle.vx_rules.proofs.FlushLaws.{flushes_regroup, collected_rows, collected_of}
use Rattle.vx_rules.proofs.ColumnCells.{field_cells}
use Rattle.vx_rules.proofs.ColumnStreams.{field_streams, streams_cells, length-ends}
use Rattle.vx_plan.specs.PlanData.{Setting, Item, row_total}
use Rattle.vx_strategy_spec.specs.StrategyData.{Grouping, by_blocks, by_bytes, into_one}
use Rattle.vx_plan.specs.GroupNode.{grouped_stream, images}
use Rattle.vx_plan.specs.Valid.{Keeps}
use Rattle.vx_plan.proofs.PlanLists.{ItemsOf, row_total_cells}

-- a stream of as many cells
pub rows_of_cells : (items : List Item) (cs : List CellData) → stream_cells items ≡ cs → row_total items ≡ length cs
rows_of_cells items cs e = row_total_cells items ∙ ap length e

-- ---- regrouped and compressed streams

kept_cells : (g : Grouping) (t : Ty) (items : List Item) → stream_cells (grouped_stream g t items true) ≡ stream_cells items
kept_cells (by_blocks o) t items = regrouped_rows (List CellData) t (blocks o t) (λ rows. rows) (Rows t) (blocks_regroup o t) items
kept_cells (by_bytes size) t items = regrouped_rows (List ChunkData) t (flushes size) piece_cells (PiecesOf t) (flushes_regroup size t) items
kept_cells into_one t items = collected_rows t items

pub kept_of : (g : Grouping) (t : Ty) (items : List Item) → Chunks t items → length (stream_cells items) < 2 ^ 64 → Chunks t (grouped_stream g t items true)
kept_of (by_blocks o) t items of lt = regrouped_of (List CellData) t (blocks o t) (λ rows. rows) (Rows t) (blocks_regroup o t) items of lt
kept_of (by_bytes size) t items of lt = regrouped_of (List ChunkData) t (flushes size) piece_cells (PiecesOf t) (flushes_regroup size t) items of lt
kept_of into_one t items of lt = collected_of t items of lt

pub grouped_count : (g : Grouping) (t : Ty) (items : List Item) → row_total (grouped_stream g t items true) ≡ row_total items
grouped_count g t items = rows_of_cells (grouped_stream g t items true) (stream_cells items) (kept_cells g t items) ∙ sym (row_total_cells items)

pub images_of : (st : Setting) → Keeps st → (which : ℕ) (t : Ty) (items : List Item) → ItemsOf t items → ItemsOf t (images st which items)
images_of st keeps which t [] of = tt
images_of st keeps which t (c ∷ cs) of = (keeps.image_of which t c.1 of.0, images_of st keeps which t cs of.1)

pub images_count : (st : Setting) → Keeps st → (which : ℕ) (t : Ty) (items : List Item) → ItemsOf t items → row_total (images st which items) ≡ row_total items
images_count st keeps which t [] of = refl
images_count st keeps which t (c ∷ cs) of =
    let same : length (row_values (st.image which c.1)) ≡ length (row_values c.1) = ap length (keeps.image_rows which t c.1 of.0) in
    let one : length (row_values (st.image which c.1)) ≡ length (cells (st.image which c.1)) = length-map (cells (st.image which c.1)) value in
    let two : length (row_values c.1) ≡ length (cells c.1) = length-map (cells c.1) value in
    let others : row_total (images st which cs) ≡ row_total cs = images_count st keeps which t cs of.1 in
    omega arith

-- ---- columns

-- each column of fields has so many rows
abbrev pub EachCounts : ℕ → Tys → ℕ → List Split → Type 0
EachCounts n no_fields c xs = Unit {0}
EachCounts n (field name t fs) c xs = (row_total (column c xs) ≡ n) × EachCounts n fs (suc c) (other_columns xs)

pub fields_count : (fs : Tys) (c : ℕ) (xs : List Split) (cs : List CellData) (n : ℕ) → length cs ≡ n → streams_cells (field_streams fs c xs) ≡ field_cells fs cs → EachCounts n fs c xs
fields_count no_fields c xs cs n l e = tt
fields_count (field name t fs) c xs cs n l e = (
  rows_of_cells (column c xs) (map first_of cs) (ap (head_or []) e) ∙ length-map cs first_of ∙ l,
  fields_count fs (suc c) (other_columns xs) (map others_of cs) n (length-map cs others_of ∙ l) (ap tail e),
)

-- a flag a row
pub flags_count : (items flags : List Item) → stream_cells flags ≡ map bool_cell (map flag_of (stream_cells items)) → row_total flags ≡ row_total items
flags_count items flags e =
    rows_of_cells flags (map bool_cell (map flag_of (stream_cells items))) e
    ∙ length-map (map flag_of (stream_cells items)) bool_cell ∙ length-map (stream_cells items) flag_of ∙ sym (row_total_cells items)

-- an offset more than rows
pub offsets_count : (items offsets : List Item) → stream_cells offsets ≡ map offset_cell (0 ∷ ends 0 (stream_cells items)) → row_total offsets ≡ suc (row_total items)
offsets_count items offsets e =
    rows_of_cells offsets (map offset_cell (0 ∷ ends 0 (stream_cells items))) e
    ∙ ap suc (length-map (ends 0 (stream_cells items)) offset_cell ∙ length-ends 0 (stream_cells items) ∙ sym (row_total_cells items))
