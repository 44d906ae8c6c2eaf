-- What a column's worker reads, against the streams of a struct's columns.
use Rattle.std.specs.Prelude.{◌≡◌, ℕ, ◌<◌, Bool, List, [], ◌∷◌, map, length, slice_index_or}
use Rattle.vx_model.specs.Ty.{Tys, struct}
use Rattle.vx_model.specs.ChunkData.{ChunkData}
use Rattle.vx_rules.specs.Stream.{Chunk}
use Rattle.vx_rules.specs.Columns.{struct_splits}
use Rattle.vx_react.specs.Statements.{column_at}
use Rattle.vx_plan.specs.SourcePlan.{batch_items}
use Rattle.vx_named_tasks.specs.Names.{column_names}
use Rattle.vx_column_batches.specs.Beside.{columns_of, width_of, chunks_beside}

-- chunks at these paths, as far as there are both
abbrev pub placed : List (List ℕ) → List ChunkData → List Chunk
placed [] cs = []
placed (p ∷ ps) [] = []
placed (p ∷ ps) (c ∷ cs) = (p, c) ∷ placed ps cs

-- the chunks of column c of a source's batches, at the ids of the column
abbrev pub worker_stream : Tys → Bool → ℕ → List ChunkData → List Chunk
worker_stream fs n c bs =
    placed (column_names c 0 (length bs)) (slice_index_or (chunks_beside (width_of (struct fs n)) (map (columns_of (struct fs n)) bs)) c [])

-- they are the column's stream
abbrev pub StreamsAreColumns : Type 0
StreamsAreColumns = (fs : Tys) (n : Bool) (c : ℕ) (bs : List ChunkData) → c < width_of (struct fs n) → worker_stream fs n c bs ≡ column_at c (struct_splits fs n (batch_items 0 bs))
