-- Whole traces of chunks that are each one flat segment.
use Rattle.std.proofs.Common.{◌≡◌, [], ◌∷◌, None, Some, refl}
use Rattle.vx_model.specs.declared.encoding.EncodingId.TheVariants.{Plain}
use Rattle.vx_machine_worked.proofs.Words.{free, setting, tasks, open_tasks, lines, line, batch, end, close, take, put, append, join, stops, whole, refusing, chunks, i64, i64s}

two_chunks : lines (tasks free chunks i64 (i64s (1 ∷ 2 ∷ []) ∷ i64s (3 ∷ []) ∷ [])) [] ≡
    line 1 0 (0 ∷ []) batch ∷ line 1 0 (0 ∷ []) put ∷ line 2 0 (0 ∷ []) batch ∷ line 1 0 (1 ∷ []) take ∷ line 2 0 (0 ∷ []) put ∷ line 3 0 (0 ∷ []) end
    ∷ line 3 0 (0 ∷ []) close ∷ line 2 0 (1 ∷ []) take ∷ line 3 0 (1 ∷ []) take ∷ line 2 0 (1 ∷ 0 ∷ []) take ∷ line 2 0 (1 ∷ 0 ∷ []) take
    ∷ line 2 0 (1 ∷ 0 ∷ []) append ∷ line 1 0 (1 ∷ 1 ∷ []) take ∷ line 1 0 (1 ∷ 1 ∷ []) take ∷ line 1 0 (1 ∷ 1 ∷ []) append ∷ line 1 0 (1 ∷ []) join ∷ []
two_chunks = refl

two_chunks_ends : stops (tasks free chunks i64 (i64s (1 ∷ 2 ∷ []) ∷ i64s (3 ∷ []) ∷ [])) [] ≡ whole
two_chunks_ends = refl

no_chunk : lines (tasks free chunks i64 []) [] ≡
    line 1 0 (0 ∷ []) end ∷ line 1 0 (0 ∷ []) close ∷ line 1 0 (1 ∷ []) take ∷ line 1 0 (1 ∷ []) join ∷ []
no_chunk = refl

no_chunk_ends : stops (tasks free chunks i64 []) [] ≡ whole
no_chunk_ends = refl

one_chunk : lines (tasks free chunks i64 (i64s (7 ∷ []) ∷ [])) [] ≡
    line 1 0 (0 ∷ []) batch ∷ line 1 0 (0 ∷ []) put ∷ line 2 0 (0 ∷ []) end ∷ line 2 0 (0 ∷ []) close ∷ line 1 0 (1 ∷ []) take ∷ line 2 0 (1 ∷ []) take
    ∷ line 1 0 (1 ∷ 0 ∷ []) take ∷ line 1 0 (1 ∷ 0 ∷ []) take ∷ line 1 0 (1 ∷ 0 ∷ []) append ∷ line 1 0 (1 ∷ []) join ∷ []
one_chunk = refl

one_chunk_ends : stops (tasks free chunks i64 (i64s (7 ∷ []) ∷ [])) [] ≡ whole
one_chunk_ends = refl

three_chunks_picked : lines (tasks free chunks i64 (i64s (1 ∷ []) ∷ i64s (2 ∷ []) ∷ i64s (3 ∷ []) ∷ [])) (0 ∷ 0 ∷ 1 ∷ 1 ∷ 1 ∷ 1 ∷ []) ≡
    line 1 0 (0 ∷ []) batch ∷ line 1 0 (0 ∷ []) put ∷ line 2 1 (1 ∷ []) take ∷ line 2 1 (1 ∷ 0 ∷ []) take ∷ line 2 1 (1 ∷ 0 ∷ []) take
    ∷ line 2 1 (1 ∷ 0 ∷ []) append ∷ line 1 0 (0 ∷ []) batch ∷ line 1 0 (0 ∷ []) put ∷ line 2 0 (0 ∷ []) batch ∷ line 1 0 (1 ∷ []) take
    ∷ line 2 0 (0 ∷ []) put ∷ line 3 0 (0 ∷ []) end ∷ line 3 0 (0 ∷ []) close ∷ line 2 0 (1 ∷ []) take ∷ line 3 0 (1 ∷ []) take
    ∷ line 2 0 (1 ∷ 1 ∷ []) take ∷ line 2 0 (1 ∷ 1 ∷ []) take ∷ line 2 0 (1 ∷ 1 ∷ []) append ∷ line 1 0 (1 ∷ 2 ∷ []) take ∷ line 1 0 (1 ∷ 2 ∷ []) take
    ∷ line 1 0 (1 ∷ 2 ∷ []) append ∷ line 1 0 (1 ∷ []) join ∷ []
three_chunks_picked = refl

three_chunks_picked_ends : stops (tasks free chunks i64 (i64s (1 ∷ []) ∷ i64s (2 ∷ []) ∷ i64s (3 ∷ []) ∷ [])) (0 ∷ 0 ∷ 1 ∷ 1 ∷ 1 ∷ 1 ∷ []) ≡ whole
three_chunks_picked_ends = refl

four_chunks : lines (tasks free chunks i64 (i64s (0 ∷ []) ∷ i64s (1 ∷ []) ∷ i64s (2 ∷ []) ∷ i64s (3 ∷ []) ∷ [])) [] ≡
    line 1 0 (0 ∷ []) batch ∷ line 1 0 (0 ∷ []) put ∷ line 2 0 (0 ∷ []) batch ∷ line 1 0 (1 ∷ []) take ∷ line 2 0 (0 ∷ []) put ∷ line 3 0 (0 ∷ []) batch
    ∷ line 2 0 (1 ∷ []) take ∷ line 3 0 (0 ∷ []) put ∷ line 4 0 (0 ∷ []) batch ∷ line 3 0 (1 ∷ []) take ∷ line 4 0 (0 ∷ []) put ∷ line 5 0 (0 ∷ []) end
    ∷ line 5 0 (0 ∷ []) close ∷ line 4 0 (1 ∷ []) take ∷ line 5 0 (1 ∷ []) take ∷ line 4 0 (1 ∷ 0 ∷ []) take ∷ line 4 0 (1 ∷ 0 ∷ []) take
    ∷ line 4 0 (1 ∷ 0 ∷ []) append ∷ line 3 0 (1 ∷ 1 ∷ []) take ∷ line 3 0 (1 ∷ 1 ∷ []) take ∷ line 3 0 (1 ∷ 1 ∷ []) append ∷ line 2 0 (1 ∷ 2 ∷ []) take
    ∷ line 2 0 (1 ∷ 2 ∷ []) take ∷ line 2 0 (1 ∷ 2 ∷ []) append ∷ line 1 0 (1 ∷ 3 ∷ []) take ∷ line 1 0 (1 ∷ 3 ∷ []) take ∷ line 1 0 (1 ∷ 3 ∷ []) append
    ∷ line 1 0 (1 ∷ []) join ∷ []
four_chunks = refl

four_chunks_ends : stops (tasks free chunks i64 (i64s (0 ∷ []) ∷ i64s (1 ∷ []) ∷ i64s (2 ∷ []) ∷ i64s (3 ∷ []) ∷ [])) [] ≡ whole
four_chunks_ends = refl

no_encoding : lines (tasks (setting (Some Plain) None) chunks i64 (i64s (1 ∷ 2 ∷ []) ∷ i64s (3 ∷ []) ∷ [])) [] ≡
    line 1 0 (0 ∷ []) batch ∷ line 1 0 (0 ∷ []) put ∷ line 2 0 (0 ∷ []) batch ∷ line 1 0 (1 ∷ []) take ∷ line 2 0 (0 ∷ []) put ∷ line 3 0 (0 ∷ []) end
    ∷ line 3 0 (0 ∷ []) close ∷ line 2 0 (1 ∷ []) take ∷ line 3 0 (1 ∷ []) take ∷ []
no_encoding = refl

no_encoding_ends : stops (tasks (setting (Some Plain) None) chunks i64 (i64s (1 ∷ 2 ∷ []) ∷ i64s (3 ∷ []) ∷ [])) [] ≡ refusing
no_encoding_ends = refl

wrong_batch : lines (open_tasks free chunks i64 []) [] ≡
    []
wrong_batch = refl

wrong_batch_ends : stops (open_tasks free chunks i64 []) [] ≡ refusing
wrong_batch_ends = refl
