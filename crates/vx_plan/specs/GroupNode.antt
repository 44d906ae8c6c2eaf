-- Regrouping and compressing nodes hand another stream to their child.
use Rattle.std.specs.Prelude.{ℕ, ◌+◌, Bool, if◌then◌else◌, List, [], ◌∷◌, ◌++◌, length}
use Rattle.vx_model.specs.Words.{total_by}
use Rattle.vx_model.specs.Ty.{Ty}
use Rattle.vx_model.specs.CellData.{CellData}
use Rattle.vx_model.specs.ChunkData.{ChunkData, cells, held}
use Rattle.vx_rules.specs.Regroup.{Rule, regrouped}
use Rattle.vx_rules.specs.Blocks.{BlockOptions, blocks, block_len, tested_sizes, check_points}
use Rattle.vx_rules.specs.Flushes.{flushes, collected}
use Rattle.vx_plan.specs.PlanData.{Setting, Item, Plan, Node, summed, row_totals}
use Rattle.vx_strategy_spec.specs.StrategyData.{Grouping, by_blocks, by_bytes, into_one}

abbrev pub with_numbers : List ℕ → ℕ → Plan → Plan
with_numbers ns reserved p = record { pairs = p.pairs; faults = p.faults; layout = p.layout; numbers = ns ++ p.numbers; reserved = reserved + p.reserved }

-- ---- regrouping

abbrev pub grouped_stream : Grouping → Ty → List Item → Bool → List Item
grouped_stream (by_blocks o) t items ended = regrouped (blocks o t) [] items ended
grouped_stream (by_bytes size) t items ended = regrouped (flushes size) [] items ended
grouped_stream into_one t items ended = collected t items ended

-- What is counted at each chunk that a rule acts on, the last one apart. Of an open stream the newest isn't acted on.
abbrev pub counted_at : {S : Type 0} → (S → ChunkData → List ℕ) → (S → ChunkData → List ℕ) → Rule S → S → List Item → Bool → List ℕ
counted_at f g r s [] ended = []
counted_at f g r s (c ∷ []) ended = if ended then g s c.1 else []
counted_at f g r s (c ∷ d ∷ cs) ended = f s c.1 ++ counted_at f g r (r.holds s c.1) (d ∷ cs) ended

-- how many leave at a chunk: the index at which the pointer below its path then stands
abbrev pub left_count : {S : Type 0} → Rule S → S → ChunkData → List ℕ
left_count r s c = length (r.leaves s c) ∷ []

abbrev pub rest_count : {S : Type 0} → Rule S → S → ChunkData → List ℕ
rest_count r s c = length (r.rest s c) ∷ []

-- the row sizes from the last cut to the check points of a chunk
abbrev pub tested_at : BlockOptions → Ty → List CellData → ChunkData → List ℕ
tested_at o t rows c = tested_sizes (block_len o t) o.minimum t 0 (rows ++ cells c) (check_points (block_len o t) (length rows) (length (cells c)))

abbrev pub block_count : BlockOptions → Ty → List CellData → ChunkData → List ℕ
block_count o t rows c = left_count (blocks o t) rows c ++ tested_at o t rows c

abbrev pub block_rest : BlockOptions → Ty → List CellData → ChunkData → List ℕ
block_rest o t rows c = rest_count (blocks o t) rows c ++ tested_at o t rows c

-- the held size of each chunk and of the buffer with it
abbrev pub held_sizes : ℕ → List ChunkData → List Item → List ℕ
held_sizes size ps [] = []
held_sizes size ps (c ∷ cs) = held c.1 ∷ total_by held (ps ++ (c.1 ∷ [])) ∷ held_sizes size ((flushes size).holds ps c.1) cs

abbrev pub group_numbers : Grouping → Ty → List Item → Bool → List ℕ
group_numbers (by_blocks o) t items ended = counted_at (block_count o t) (block_rest o t) (blocks o t) [] items ended
group_numbers (by_bytes size) t items ended = held_sizes size [] items ++ counted_at (left_count (flushes size)) (rest_count (flushes size)) (flushes size) [] items ended
group_numbers into_one t items ended = []

abbrev pub held_total : List Item → ℕ
held_total items = summed held items

-- what the chunks of a buffering node reserve
abbrev pub group_reserved : Grouping → List Item → ℕ
group_reserved (by_bytes size) items = held_total items
group_reserved g items = 0

abbrev pub grouped_node : Grouping → Ty → Node → Node
grouped_node g t k m items ended e =
    with_numbers (row_totals items ++ group_numbers g t items ended) (group_reserved g items) (k m (grouped_stream g t items ended) ended e)

-- ---- compressing: each chunk's image, under the same path

abbrev pub images : Setting → ℕ → List Item → List Item
images s which [] = []
images s which (c ∷ cs) = (c.0, s.image which c.1) ∷ images s which cs

abbrev pub compressed_node : Setting → ℕ → ℕ → Ty → Node → Node
compressed_node s which room t k m items ended e = k m (images s which items) ended e
