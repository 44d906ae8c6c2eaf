-- A column's stream has the column's ids as paths, and the chunks that are split off for it.
use Rattle.std.proofs.Common.{◌≡◌, ℕ, zero, suc, ◌+◌, ◌<◌, Bool, List, [], ◌∷◌, map, length, get_or, refl, sym, ap, ◌∙◌, arith}
use Rattle.vx_model.specs.Ty.{Tys, struct}
use Rattle.vx_model.specs.Words.{tail}
use Rattle.vx_model.specs.ChunkData.{ChunkData}
use Rattle.vx_path.specs.Path.{under}
use Rattle.vx_rules.specs.Stream.{Chunk}
use Rattle.vx_rules.specs.Columns.{Split, struct_splits, struct_columns, column, other_columns, head_piece}
use Rattle.vx_react.specs.Statements.{columns_after, column_at}
use Rattle.vx_plan.specs.SourcePlan.{batch_items}
use Rattle.vx_named_tasks.specs.Names.{column_names}
use Rattle.vx_column_batches.specs.Beside.{columns_of, width_of, chunks_beside}
use Rattle.vx_column_streams.specs.Streams.{placed, StreamsAreColumns}

-- the columns of each batch, and their paths
abbrev pub rows_of : List Split → List (List ChunkData)
rows_of xs = map (λ x. x.1) xs

abbrev paths_at : ℕ → List Split → List (List ℕ)
paths_at c xs = map (λ x. under x.0 c) xs

-- the columns behind the first c
abbrev pub behind : ℕ → List (List ChunkData) → List (List ChunkData)
behind zero rows = rows
behind (suc c) rows = behind c (map tail rows)

column_is : (c : ℕ) (xs : List Split) → column c xs ≡ placed (paths_at c xs) (map head_piece (rows_of xs))
column_is c [] = refl
column_is c (x ∷ xs) = ap (λ ys. (under x.0 c, head_piece x.1) ∷ ys) (column_is c xs)

other_rows : (xs : List Split) → rows_of (other_columns xs) ≡ map tail (rows_of xs)
other_rows [] = refl
other_rows (x ∷ xs) = ap (λ ys. tail x.1 ∷ ys) (other_rows xs)

other_paths : (c : ℕ) (xs : List Split) → paths_at c (other_columns xs) ≡ paths_at c xs
other_paths c [] = refl
other_paths c (x ∷ xs) = ap (λ ys. under x.0 c ∷ ys) (other_paths c xs)

pub rows_behind : (k : ℕ) (xs : List Split) → rows_of (columns_after k xs) ≡ behind k (rows_of xs)
rows_behind zero xs = refl
rows_behind (suc k) xs = rows_behind k (other_columns xs) ∙ ap (behind k) (other_rows xs)

paths_behind : (k c : ℕ) (xs : List Split) → paths_at c (columns_after k xs) ≡ paths_at c xs
paths_behind zero c xs = refl
paths_behind (suc k) c xs = paths_behind k c (other_columns xs) ∙ other_paths c xs

chunks_at : (w c : ℕ) (rows : List (List ChunkData)) → c < w → get_or (chunks_beside w rows) c [] ≡ map head_piece (behind c rows)
chunks_at zero c rows h = absurd (omega (arith, h))
chunks_at (suc w) zero rows h = refl
chunks_at (suc w) (suc c) rows h = chunks_at w c (map tail rows) (omega (arith, h))

-- of a source's batches

pub batch_rows : (fs : Tys) (n : Bool) (i : ℕ) (bs : List ChunkData) → rows_of (struct_splits fs n (batch_items i bs)) ≡ map (columns_of (struct fs n)) bs
batch_rows fs n i [] = refl
batch_rows fs n i (b ∷ bs) = ap (λ ys. struct_columns fs n b ∷ ys) (batch_rows fs n (suc i) bs)

batch_paths : (fs : Tys) (n : Bool) (c i : ℕ) (bs : List ChunkData) → paths_at c (struct_splits fs n (batch_items i bs)) ≡ column_names c i (length bs)
batch_paths fs n c i [] = refl
batch_paths fs n c i (b ∷ bs) = ap (λ ys. (0 ∷ i ∷ c ∷ []) ∷ ys) (batch_paths fs n c (suc i) bs)

pub streams_are_columns : StreamsAreColumns
streams_are_columns fs n c bs h =
    let xs : List Split = struct_splits fs n (batch_items 0 bs) in
    ap (placed (column_names c 0 (length bs))) (chunks_at (width_of (struct fs n)) c (map (columns_of (struct fs n)) bs) h)
    ∙ ap (λ rows. placed (column_names c 0 (length bs)) (map head_piece (behind c rows))) (sym (batch_rows fs n 0 bs))
    ∙ ap (λ rows. placed (column_names c 0 (length bs)) (map head_piece rows)) (sym (rows_behind c xs))
    ∙ ap (λ ps. placed ps (map head_piece (rows_of (columns_after c xs)))) (sym (paths_behind c c xs ∙ batch_paths fs n c 0 bs))
    ∙ sym (column_is c (columns_after c xs))
