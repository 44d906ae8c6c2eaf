-- Whole traces of regrouped and compressed streams.
use Rattle.std.proofs.Common.{◌≡◌, [], ◌∷◌, refl}
use Rattle.vx_tasks.specs.Task.{Forest}
use Rattle.vx_strategy_spec.specs.StrategyData.{grouped, compressed, by_bytes, into_one}
use Rattle.vx_machine_worked.proofs.Words.{free, tasks, blocks, lines, line, batch, end, call, close, take, put, append, join, stops, whole, chunks, i64, u8, i64s, u8s}

abbrev buffered_tree : Forest
buffered_tree = tasks free (grouped (by_bytes 10) chunks) u8 (u8s (0 ∷ 1 ∷ 2 ∷ 3 ∷ 4 ∷ 5 ∷ 6 ∷ 7 ∷ []) ∷ u8s (0 ∷ 1 ∷ 2 ∷ 3 ∷ 4 ∷ 5 ∷ 6 ∷ 7 ∷ []) ∷ u8s (0 ∷ 1 ∷ 2 ∷ 3 ∷ 4 ∷ 5 ∷ 6 ∷ 7 ∷ []) ∷ u8s (9 ∷ []) ∷ [])

buffered : lines buffered_tree [] ≡
    line 1 0 (0 ∷ []) batch ∷ line 1 0 (0 ∷ []) put ∷ line 2 0 (0 ∷ []) batch ∷ line 1 0 (1 ∷ []) take ∷ line 1 0 (0 ∷ []) put ∷ line 2 0 (0 ∷ []) batch
    ∷ line 1 0 (1 ∷ []) take ∷ line 1 0 (0 ∷ []) put ∷ line 2 0 (0 ∷ []) batch ∷ line 1 0 (1 ∷ []) take ∷ line 1 0 (0 ∷ []) put ∷ line 2 0 (0 ∷ []) end
    ∷ line 2 0 (0 ∷ []) close ∷ line 1 0 (1 ∷ []) take ∷ line 1 0 (1 ∷ []) put ∷ line 1 0 (1 ∷ 0 ∷ []) take ∷ line 2 0 (1 ∷ []) put
    ∷ line 3 0 (1 ∷ []) take ∷ line 2 0 (1 ∷ 0 ∷ []) take ∷ line 3 0 (1 ∷ []) put ∷ line 3 0 (1 ∷ 0 ∷ []) take ∷ line 4 0 (1 ∷ []) put
    ∷ line 5 0 (1 ∷ []) close ∷ line 4 0 (1 ∷ 0 ∷ []) take ∷ line 5 0 (1 ∷ 0 ∷ []) take ∷ line 4 0 (1 ∷ 0 ∷ 0 ∷ []) take ∷ line 4 0 (1 ∷ 0 ∷ 0 ∷ []) take
    ∷ line 4 0 (1 ∷ 0 ∷ 0 ∷ []) append ∷ line 3 0 (1 ∷ 0 ∷ 1 ∷ []) take ∷ line 3 0 (1 ∷ 0 ∷ 1 ∷ []) take ∷ line 3 0 (1 ∷ 0 ∷ 1 ∷ []) append
    ∷ line 2 0 (1 ∷ 0 ∷ 2 ∷ []) take ∷ line 2 0 (1 ∷ 0 ∷ 2 ∷ []) take ∷ line 2 0 (1 ∷ 0 ∷ 2 ∷ []) append ∷ line 1 0 (1 ∷ 0 ∷ 3 ∷ []) take
    ∷ line 1 0 (1 ∷ 0 ∷ 3 ∷ []) take ∷ line 1 0 (1 ∷ 0 ∷ 3 ∷ []) append ∷ line 1 0 (1 ∷ 0 ∷ []) join ∷ []
buffered = refl

buffered_ends : stops buffered_tree [] ≡ whole
buffered_ends = refl

blocks_of_4 : lines (tasks free (blocks 6 4 chunks) u8 (u8s (1 ∷ 2 ∷ 3 ∷ []) ∷ u8s (4 ∷ 5 ∷ 6 ∷ 7 ∷ []) ∷ [])) [] ≡
    line 1 0 (0 ∷ []) batch ∷ line 1 0 (0 ∷ []) put ∷ line 2 0 (0 ∷ []) batch ∷ line 1 0 (1 ∷ []) take ∷ line 1 0 (0 ∷ []) put ∷ line 2 0 (0 ∷ []) end
    ∷ line 2 0 (0 ∷ []) close ∷ line 1 0 (1 ∷ []) take ∷ line 1 0 (1 ∷ []) take ∷ line 1 0 (1 ∷ []) put ∷ line 1 0 (1 ∷ 0 ∷ []) take
    ∷ line 2 0 (1 ∷ []) put ∷ line 3 0 (1 ∷ []) close ∷ line 2 0 (1 ∷ 0 ∷ []) take ∷ line 3 0 (1 ∷ 0 ∷ []) take ∷ line 2 0 (1 ∷ 0 ∷ 0 ∷ []) take
    ∷ line 2 0 (1 ∷ 0 ∷ 0 ∷ []) take ∷ line 2 0 (1 ∷ 0 ∷ 0 ∷ []) append ∷ line 1 0 (1 ∷ 0 ∷ 1 ∷ []) take ∷ line 1 0 (1 ∷ 0 ∷ 1 ∷ []) take
    ∷ line 1 0 (1 ∷ 0 ∷ 1 ∷ []) append ∷ line 1 0 (1 ∷ 0 ∷ []) join ∷ []
blocks_of_4 = refl

blocks_of_4_ends : stops (tasks free (blocks 6 4 chunks) u8 (u8s (1 ∷ 2 ∷ 3 ∷ []) ∷ u8s (4 ∷ 5 ∷ 6 ∷ 7 ∷ []) ∷ [])) [] ≡ whole
blocks_of_4_ends = refl

blocks_of_8 : lines (tasks free (blocks 10 4 chunks) u8 (u8s (1 ∷ 2 ∷ 3 ∷ []) ∷ u8s (0 ∷ 1 ∷ 2 ∷ 3 ∷ 4 ∷ 5 ∷ 6 ∷ 7 ∷ []) ∷ [])) [] ≡
    line 1 0 (0 ∷ []) batch ∷ line 1 0 (0 ∷ []) put ∷ line 2 0 (0 ∷ []) batch ∷ line 1 0 (1 ∷ []) take ∷ line 1 0 (0 ∷ []) put ∷ line 2 0 (0 ∷ []) end
    ∷ line 2 0 (0 ∷ []) close ∷ line 1 0 (1 ∷ []) take ∷ line 1 0 (1 ∷ []) take ∷ line 1 0 (1 ∷ []) put ∷ line 1 0 (1 ∷ 0 ∷ []) take
    ∷ line 2 0 (1 ∷ []) put ∷ line 3 0 (1 ∷ []) close ∷ line 2 0 (1 ∷ 0 ∷ []) take ∷ line 3 0 (1 ∷ 0 ∷ []) take ∷ line 2 0 (1 ∷ 0 ∷ 0 ∷ []) take
    ∷ line 2 0 (1 ∷ 0 ∷ 0 ∷ []) take ∷ line 2 0 (1 ∷ 0 ∷ 0 ∷ []) append ∷ line 1 0 (1 ∷ 0 ∷ 1 ∷ []) take ∷ line 1 0 (1 ∷ 0 ∷ 1 ∷ []) take
    ∷ line 1 0 (1 ∷ 0 ∷ 1 ∷ []) append ∷ line 1 0 (1 ∷ 0 ∷ []) join ∷ []
blocks_of_8 = refl

blocks_of_8_ends : stops (tasks free (blocks 10 4 chunks) u8 (u8s (1 ∷ 2 ∷ 3 ∷ []) ∷ u8s (0 ∷ 1 ∷ 2 ∷ 3 ∷ 4 ∷ 5 ∷ 6 ∷ 7 ∷ []) ∷ [])) [] ≡ whole
blocks_of_8_ends = refl

collected : lines (tasks free (grouped into_one chunks) i64 (i64s (1 ∷ []) ∷ i64s (2 ∷ []) ∷ [])) [] ≡
    line 1 0 (0 ∷ []) batch ∷ line 1 0 (0 ∷ []) put ∷ line 2 0 (0 ∷ []) batch ∷ line 1 0 (1 ∷ []) take ∷ line 1 0 (0 ∷ []) put ∷ line 2 0 (0 ∷ []) end
    ∷ line 2 0 (0 ∷ []) close ∷ line 1 0 (1 ∷ []) take ∷ line 1 0 (1 ∷ []) take ∷ line 1 0 (1 ∷ []) put ∷ line 2 0 (1 ∷ []) close
    ∷ line 1 0 (1 ∷ 0 ∷ []) take ∷ line 2 0 (1 ∷ 0 ∷ []) take ∷ line 1 0 (1 ∷ 0 ∷ 0 ∷ []) take ∷ line 1 0 (1 ∷ 0 ∷ 0 ∷ []) take
    ∷ line 1 0 (1 ∷ 0 ∷ 0 ∷ []) append ∷ line 1 0 (1 ∷ 0 ∷ []) join ∷ []
collected = refl

collected_ends : stops (tasks free (grouped into_one chunks) i64 (i64s (1 ∷ []) ∷ i64s (2 ∷ []) ∷ [])) [] ≡ whole
collected_ends = refl

images_of_one : lines (tasks free (compressed 1 1 chunks) i64 (i64s (5 ∷ 5 ∷ 5 ∷ []) ∷ [])) [] ≡
    line 1 0 (0 ∷ []) batch ∷ line 1 0 (0 ∷ []) put ∷ line 2 0 (0 ∷ []) end ∷ line 2 0 (0 ∷ []) close ∷ line 1 0 (1 ∷ []) take ∷ line 1 0 (1 ∷ []) call
    ∷ line 1 0 (1 ∷ []) put ∷ line 2 0 (1 ∷ []) take ∷ line 2 0 (1 ∷ []) close ∷ line 1 0 (1 ∷ 0 ∷ []) take ∷ line 1 0 (1 ∷ 0 ∷ []) put
    ∷ line 2 0 (1 ∷ 0 ∷ []) take ∷ line 2 0 (1 ∷ 0 ∷ []) close ∷ line 1 0 (1 ∷ 1 ∷ []) take ∷ line 2 0 (1 ∷ 1 ∷ []) take ∷ line 1 0 (1 ∷ 1 ∷ 0 ∷ []) take
    ∷ line 1 0 (1 ∷ 1 ∷ 0 ∷ []) take ∷ line 1 0 (1 ∷ 1 ∷ 0 ∷ []) append ∷ line 1 0 (1 ∷ 1 ∷ []) join ∷ []
images_of_one = refl

images_of_one_ends : stops (tasks free (compressed 1 1 chunks) i64 (i64s (5 ∷ 5 ∷ 5 ∷ []) ∷ [])) [] ≡ whole
images_of_one_ends = refl

images_of_none : lines (tasks free (compressed 1 1 chunks) i64 (i64s [] ∷ [])) [] ≡
    line 1 0 (0 ∷ []) batch ∷ line 1 0 (0 ∷ []) put ∷ line 2 0 (0 ∷ []) end ∷ line 2 0 (0 ∷ []) close ∷ line 1 0 (1 ∷ []) take ∷ line 1 0 (1 ∷ []) call
    ∷ line 1 0 (1 ∷ []) put ∷ line 2 0 (1 ∷ []) take ∷ line 2 0 (1 ∷ []) close ∷ line 1 0 (1 ∷ 0 ∷ []) take ∷ line 1 0 (1 ∷ 0 ∷ []) put
    ∷ line 2 0 (1 ∷ 0 ∷ []) take ∷ line 2 0 (1 ∷ 0 ∷ []) close ∷ line 1 0 (1 ∷ 1 ∷ []) take ∷ line 2 0 (1 ∷ 1 ∷ []) take ∷ line 1 0 (1 ∷ 1 ∷ 0 ∷ []) take
    ∷ line 1 0 (1 ∷ 1 ∷ 0 ∷ []) take ∷ line 1 0 (1 ∷ 1 ∷ 0 ∷ []) append ∷ line 1 0 (1 ∷ 1 ∷ []) join ∷ []
images_of_none = refl

images_of_none_ends : stops (tasks free (compressed 1 1 chunks) i64 (i64s [] ∷ [])) [] ≡ whole
images_of_none_ends = refl
