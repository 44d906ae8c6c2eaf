-- Whole traces of structs, lists and tables.
use Rattle.std.proofs.Common.{◌≡◌, true, false, [], ◌∷◌, refl}
use Rattle.std.specs.Prelude.{codes, replicate, pos}
use Rattle.vx_model.specs.Ty.{list, struct, field, no_fields}
use Rattle.vx_model.specs.CellData.{int_cell, list_cell, struct_cell, trees_of}
use Rattle.vx_model.specs.ChunkData.{plain_piece, list_piece}
use Rattle.vx_tasks.specs.Task.{Forest}
use Rattle.vx_tasks.specs.Nodes.{numbers}
use Rattle.vx_strategy_spec.specs.StrategyData.{structured, listed, tabled, no_ways, way_at, no_wraps}
use Rattle.vx_machine_worked.proofs.Words.{free, tasks, lines, line, batch, end, close, take, put, append, join, stops, whole, refusing, flats, chunks, i64, i64s, ab, falling, i64_fields, records}

abbrev two_columns_tree : Forest
two_columns_tree = tasks free (structured flats chunks no_ways) ab (records ab ((1 ∷ 10 ∷ []) ∷ (2 ∷ 20 ∷ []) ∷ []) ∷ records ab ((3 ∷ 30 ∷ []) ∷ []) ∷ [])

two_columns : lines two_columns_tree [] ≡
    line 1 0 (0 ∷ []) batch ∷ line 1 0 (0 ∷ []) put ∷ line 2 0 (0 ∷ []) batch ∷ line 1 0 (1 ∷ []) take ∷ line 2 0 (0 ∷ []) put ∷ line 2 0 (0 ∷ []) end
    ∷ line 2 0 (0 ∷ []) close ∷ line 1 0 (1 ∷ []) put ∷ line 2 0 (1 ∷ []) put ∷ line 3 0 (1 ∷ []) take ∷ line 2 0 (1 ∷ 0 ∷ []) take ∷ line 3 0 (1 ∷ []) put
    ∷ line 3 0 (1 ∷ 0 ∷ []) take ∷ line 3 0 (1 ∷ 0 ∷ 0 ∷ []) take ∷ line 3 0 (1 ∷ 0 ∷ 0 ∷ []) take ∷ line 3 0 (1 ∷ 0 ∷ 0 ∷ []) append
    ∷ line 2 0 (1 ∷ 0 ∷ 1 ∷ []) take ∷ line 2 0 (1 ∷ 0 ∷ 1 ∷ []) take ∷ line 1 0 (1 ∷ 1 ∷ []) take ∷ line 2 0 (1 ∷ []) put ∷ line 3 0 (1 ∷ []) take
    ∷ line 3 0 (1 ∷ []) close ∷ line 3 0 (1 ∷ 0 ∷ []) take ∷ line 2 0 (1 ∷ 1 ∷ []) take ∷ line 3 0 (1 ∷ 1 ∷ []) take ∷ line 2 0 (1 ∷ 1 ∷ 0 ∷ []) take
    ∷ line 2 0 (1 ∷ 1 ∷ 0 ∷ []) take ∷ line 2 0 (1 ∷ 1 ∷ 0 ∷ []) append ∷ line 2 0 (1 ∷ 0 ∷ 1 ∷ []) append ∷ line 2 0 (1 ∷ 0 ∷ []) join
    ∷ line 1 0 (1 ∷ 1 ∷ 1 ∷ []) take ∷ line 1 0 (1 ∷ 1 ∷ 1 ∷ []) take ∷ line 1 0 (1 ∷ 1 ∷ 1 ∷ []) append ∷ line 1 0 (1 ∷ 1 ∷ []) join
    ∷ line 1 0 (1 ∷ []) join ∷ []
two_columns = refl

two_columns_ends : stops two_columns_tree [] ≡ whole
two_columns_ends = refl

two_columns_picked : lines two_columns_tree (5 ∷ 0 ∷ 7 ∷ 3 ∷ []) ≡
    line 1 0 (0 ∷ []) batch ∷ line 1 0 (0 ∷ []) put ∷ line 2 1 (1 ∷ []) take ∷ line 2 1 (1 ∷ []) put ∷ line 3 0 (0 ∷ []) batch ∷ line 3 0 (0 ∷ []) put
    ∷ line 3 0 (0 ∷ []) end ∷ line 3 0 (0 ∷ []) close ∷ line 2 0 (1 ∷ []) put ∷ line 3 0 (1 ∷ []) take ∷ line 2 0 (1 ∷ 0 ∷ []) take ∷ line 3 0 (1 ∷ []) put
    ∷ line 3 0 (1 ∷ 0 ∷ []) take ∷ line 3 0 (1 ∷ 0 ∷ 0 ∷ []) take ∷ line 3 0 (1 ∷ 0 ∷ 0 ∷ []) take ∷ line 3 0 (1 ∷ 0 ∷ 0 ∷ []) append
    ∷ line 2 0 (1 ∷ 0 ∷ 1 ∷ []) take ∷ line 2 0 (1 ∷ 0 ∷ 1 ∷ []) take ∷ line 1 0 (1 ∷ 1 ∷ []) take ∷ line 2 0 (1 ∷ []) put ∷ line 3 0 (1 ∷ []) take
    ∷ line 3 0 (1 ∷ []) close ∷ line 3 0 (1 ∷ 0 ∷ []) take ∷ line 2 0 (1 ∷ 1 ∷ []) take ∷ line 3 0 (1 ∷ 1 ∷ []) take ∷ line 2 0 (1 ∷ 1 ∷ 0 ∷ []) take
    ∷ line 2 0 (1 ∷ 1 ∷ 0 ∷ []) take ∷ line 2 0 (1 ∷ 1 ∷ 0 ∷ []) append ∷ line 2 0 (1 ∷ 0 ∷ 1 ∷ []) append ∷ line 2 0 (1 ∷ 0 ∷ []) join
    ∷ line 1 0 (1 ∷ 1 ∷ 1 ∷ []) take ∷ line 1 0 (1 ∷ 1 ∷ 1 ∷ []) take ∷ line 1 0 (1 ∷ 1 ∷ 1 ∷ []) append ∷ line 1 0 (1 ∷ 1 ∷ []) join
    ∷ line 1 0 (1 ∷ []) join ∷ []
two_columns_picked = refl

two_columns_picked_ends : stops two_columns_tree (5 ∷ 0 ∷ 7 ∷ 3 ∷ []) ≡ whole
two_columns_picked_ends = refl

two_columns_always_first : lines two_columns_tree (replicate 64 0) ≡
    line 1 0 (0 ∷ []) batch ∷ line 1 0 (0 ∷ []) put ∷ line 2 0 (0 ∷ []) batch ∷ line 1 0 (1 ∷ []) take ∷ line 2 0 (0 ∷ []) put ∷ line 2 0 (0 ∷ []) end
    ∷ line 2 0 (0 ∷ []) close ∷ line 1 0 (1 ∷ []) put ∷ line 2 0 (1 ∷ []) put ∷ line 3 0 (1 ∷ []) take ∷ line 2 0 (1 ∷ 0 ∷ []) take ∷ line 3 0 (1 ∷ []) put
    ∷ line 3 0 (1 ∷ 0 ∷ []) take ∷ line 3 0 (1 ∷ 0 ∷ 0 ∷ []) take ∷ line 3 0 (1 ∷ 0 ∷ 0 ∷ []) take ∷ line 3 0 (1 ∷ 0 ∷ 0 ∷ []) append
    ∷ line 2 0 (1 ∷ 0 ∷ 1 ∷ []) take ∷ line 2 0 (1 ∷ 0 ∷ 1 ∷ []) take ∷ line 1 0 (1 ∷ 1 ∷ []) take ∷ line 2 0 (1 ∷ []) put ∷ line 3 0 (1 ∷ []) take
    ∷ line 3 0 (1 ∷ []) close ∷ line 3 0 (1 ∷ 0 ∷ []) take ∷ line 2 0 (1 ∷ 1 ∷ []) take ∷ line 3 0 (1 ∷ 1 ∷ []) take ∷ line 2 0 (1 ∷ 1 ∷ 0 ∷ []) take
    ∷ line 2 0 (1 ∷ 1 ∷ 0 ∷ []) take ∷ line 2 0 (1 ∷ 1 ∷ 0 ∷ []) append ∷ line 2 0 (1 ∷ 0 ∷ 1 ∷ []) append ∷ line 2 0 (1 ∷ 0 ∷ []) join
    ∷ line 1 0 (1 ∷ 1 ∷ 1 ∷ []) take ∷ line 1 0 (1 ∷ 1 ∷ 1 ∷ []) take ∷ line 1 0 (1 ∷ 1 ∷ 1 ∷ []) append ∷ line 1 0 (1 ∷ 1 ∷ []) join
    ∷ line 1 0 (1 ∷ []) join ∷ []
two_columns_always_first = refl

two_columns_always_second : lines two_columns_tree (replicate 64 1) ≡
    line 1 0 (0 ∷ []) batch ∷ line 1 0 (0 ∷ []) put ∷ line 2 1 (1 ∷ []) take ∷ line 2 1 (1 ∷ []) put ∷ line 3 1 (1 ∷ []) put ∷ line 3 1 (1 ∷ 0 ∷ []) take
    ∷ line 3 1 (1 ∷ 0 ∷ 0 ∷ []) take ∷ line 3 1 (1 ∷ 0 ∷ 0 ∷ []) take ∷ line 3 1 (1 ∷ 0 ∷ 0 ∷ []) append ∷ line 2 1 (1 ∷ 1 ∷ []) take
    ∷ line 2 1 (1 ∷ 1 ∷ 0 ∷ []) take ∷ line 2 1 (1 ∷ 1 ∷ 0 ∷ []) take ∷ line 2 1 (1 ∷ 1 ∷ 0 ∷ []) append ∷ line 1 0 (0 ∷ []) batch ∷ line 1 0 (0 ∷ []) put
    ∷ line 2 1 (1 ∷ []) take ∷ line 2 1 (1 ∷ []) put ∷ line 3 1 (1 ∷ []) put ∷ line 3 1 (1 ∷ 0 ∷ []) take ∷ line 3 1 (1 ∷ 0 ∷ 1 ∷ []) take
    ∷ line 3 1 (1 ∷ 0 ∷ 1 ∷ []) take ∷ line 3 1 (1 ∷ 0 ∷ 1 ∷ []) append ∷ line 2 1 (1 ∷ 1 ∷ []) take ∷ line 2 1 (1 ∷ 1 ∷ 1 ∷ []) take
    ∷ line 2 1 (1 ∷ 1 ∷ 1 ∷ []) take ∷ line 2 1 (1 ∷ 1 ∷ 1 ∷ []) append ∷ line 1 0 (0 ∷ []) end ∷ line 1 0 (0 ∷ []) close ∷ line 1 0 (1 ∷ []) take
    ∷ line 1 0 (1 ∷ []) close ∷ line 2 1 (1 ∷ 1 ∷ []) take ∷ line 2 1 (1 ∷ 1 ∷ []) join ∷ line 1 0 (1 ∷ 0 ∷ []) take ∷ line 1 0 (1 ∷ 0 ∷ []) join
    ∷ line 1 0 (1 ∷ []) join ∷ []
two_columns_always_second = refl

two_columns_always_greatest : lines two_columns_tree (replicate 64 18446744073709551615) ≡
    line 1 0 (0 ∷ []) batch ∷ line 1 0 (0 ∷ []) put ∷ line 2 1 (1 ∷ []) take ∷ line 2 1 (1 ∷ []) put ∷ line 3 0 (0 ∷ []) batch ∷ line 3 0 (0 ∷ []) put
    ∷ line 3 0 (0 ∷ []) end ∷ line 3 0 (0 ∷ []) close ∷ line 2 1 (1 ∷ 0 ∷ []) take ∷ line 2 1 (1 ∷ 0 ∷ 0 ∷ []) take ∷ line 2 1 (1 ∷ 0 ∷ 0 ∷ []) take
    ∷ line 2 1 (1 ∷ 0 ∷ 0 ∷ []) append ∷ line 1 0 (1 ∷ []) put ∷ line 2 1 (1 ∷ 1 ∷ []) take ∷ line 2 1 (1 ∷ 1 ∷ 0 ∷ []) take
    ∷ line 2 1 (1 ∷ 1 ∷ 0 ∷ []) take ∷ line 2 1 (1 ∷ 1 ∷ 0 ∷ []) append ∷ line 1 0 (1 ∷ []) take ∷ line 1 0 (1 ∷ []) put ∷ line 2 1 (1 ∷ 0 ∷ []) take
    ∷ line 2 1 (1 ∷ 0 ∷ 1 ∷ []) take ∷ line 2 1 (1 ∷ 0 ∷ 1 ∷ []) take ∷ line 2 1 (1 ∷ 0 ∷ 1 ∷ []) append ∷ line 1 0 (1 ∷ []) put
    ∷ line 2 1 (1 ∷ 1 ∷ []) take ∷ line 2 1 (1 ∷ 1 ∷ 1 ∷ []) take ∷ line 2 1 (1 ∷ 1 ∷ 1 ∷ []) take ∷ line 2 1 (1 ∷ 1 ∷ 1 ∷ []) append
    ∷ line 1 0 (1 ∷ []) take ∷ line 1 0 (1 ∷ []) close ∷ line 2 1 (1 ∷ 1 ∷ []) take ∷ line 2 1 (1 ∷ 1 ∷ []) join ∷ line 1 0 (1 ∷ 0 ∷ []) take
    ∷ line 1 0 (1 ∷ 0 ∷ []) join ∷ line 1 0 (1 ∷ []) join ∷ []
two_columns_always_greatest = refl

two_columns_ascending : lines two_columns_tree (numbers 0 64) ≡
    line 1 0 (0 ∷ []) batch ∷ line 1 0 (0 ∷ []) put ∷ line 2 0 (0 ∷ []) batch ∷ line 1 0 (1 ∷ []) take ∷ line 2 0 (0 ∷ []) put ∷ line 2 1 (1 ∷ []) put
    ∷ line 3 0 (0 ∷ []) end ∷ line 3 1 (1 ∷ []) put ∷ line 4 0 (0 ∷ []) close ∷ line 3 0 (1 ∷ []) take ∷ line 2 0 (1 ∷ 0 ∷ []) take
    ∷ line 3 2 (1 ∷ 1 ∷ []) take ∷ line 3 0 (1 ∷ []) put ∷ line 4 1 (1 ∷ 0 ∷ []) take ∷ line 4 2 (1 ∷ 0 ∷ 1 ∷ []) take ∷ line 4 3 (1 ∷ 1 ∷ 0 ∷ []) take
    ∷ line 4 0 (1 ∷ []) put ∷ line 5 2 (1 ∷ 0 ∷ 1 ∷ []) take ∷ line 4 2 (1 ∷ 1 ∷ []) take ∷ line 4 3 (1 ∷ 1 ∷ 1 ∷ []) take ∷ line 4 0 (1 ∷ []) take
    ∷ line 4 1 (1 ∷ 0 ∷ 0 ∷ []) take ∷ line 4 2 (1 ∷ 1 ∷ 0 ∷ []) take ∷ line 3 2 (1 ∷ 1 ∷ 1 ∷ []) take ∷ line 2 0 (1 ∷ []) close
    ∷ line 3 1 (1 ∷ 0 ∷ 0 ∷ []) take ∷ line 3 2 (1 ∷ 1 ∷ []) take ∷ line 2 1 (1 ∷ 0 ∷ 0 ∷ []) append ∷ line 2 0 (1 ∷ 0 ∷ []) take
    ∷ line 1 0 (1 ∷ 1 ∷ 0 ∷ []) append ∷ line 1 0 (1 ∷ 0 ∷ 1 ∷ []) append ∷ line 2 1 (1 ∷ 1 ∷ 1 ∷ []) append ∷ line 2 0 (1 ∷ 0 ∷ []) join
    ∷ line 1 0 (1 ∷ 1 ∷ []) join ∷ line 1 0 (1 ∷ []) join ∷ []
two_columns_ascending = refl

two_columns_descending : lines two_columns_tree (falling 64) ≡
    line 1 0 (0 ∷ []) batch ∷ line 1 0 (0 ∷ []) put ∷ line 2 1 (1 ∷ []) take ∷ line 2 0 (0 ∷ []) batch ∷ line 2 1 (1 ∷ []) put ∷ line 3 1 (1 ∷ []) put
    ∷ line 3 0 (0 ∷ []) put ∷ line 4 0 (0 ∷ []) end ∷ line 4 3 (1 ∷ 1 ∷ []) take ∷ line 4 2 (1 ∷ 0 ∷ []) take ∷ line 4 1 (1 ∷ []) take
    ∷ line 4 0 (0 ∷ []) close ∷ line 3 0 (1 ∷ []) put ∷ line 4 2 (1 ∷ 0 ∷ 0 ∷ []) take ∷ line 4 1 (1 ∷ 0 ∷ []) take ∷ line 4 0 (1 ∷ []) put
    ∷ line 5 2 (1 ∷ 0 ∷ 1 ∷ []) take ∷ line 5 1 (1 ∷ 0 ∷ 0 ∷ []) take ∷ line 5 0 (1 ∷ []) take ∷ line 5 4 (1 ∷ 1 ∷ 0 ∷ []) take
    ∷ line 5 3 (1 ∷ 1 ∷ []) take ∷ line 5 2 (1 ∷ 0 ∷ 1 ∷ []) take ∷ line 4 1 (1 ∷ 0 ∷ 0 ∷ []) append ∷ line 3 1 (1 ∷ 1 ∷ 0 ∷ []) take
    ∷ line 3 0 (1 ∷ []) close ∷ line 4 2 (1 ∷ 1 ∷ 0 ∷ []) append ∷ line 4 1 (1 ∷ 0 ∷ 1 ∷ []) append ∷ line 3 0 (1 ∷ 0 ∷ []) take
    ∷ line 3 2 (1 ∷ 1 ∷ 1 ∷ []) take ∷ line 3 1 (1 ∷ 1 ∷ []) take ∷ line 2 1 (1 ∷ 1 ∷ 1 ∷ []) take ∷ line 2 0 (1 ∷ 0 ∷ []) join
    ∷ line 1 0 (1 ∷ 1 ∷ 1 ∷ []) append ∷ line 1 0 (1 ∷ 1 ∷ []) join ∷ line 1 0 (1 ∷ []) join ∷ []
two_columns_descending = refl

abbrev flat_columns_tree : Forest
flat_columns_tree = tasks free (structured flats flats no_ways) ab (records ab ((1 ∷ 10 ∷ []) ∷ (2 ∷ 20 ∷ []) ∷ []) ∷ records ab ((3 ∷ 30 ∷ []) ∷ []) ∷ [])

flat_columns : lines flat_columns_tree [] ≡
    line 1 0 (0 ∷ []) batch ∷ line 1 0 (0 ∷ []) put ∷ line 2 0 (0 ∷ []) batch ∷ line 1 0 (1 ∷ []) take ∷ line 2 0 (0 ∷ []) put ∷ line 2 0 (0 ∷ []) end
    ∷ line 2 0 (0 ∷ []) close ∷ line 1 0 (1 ∷ []) put ∷ line 2 0 (1 ∷ []) put ∷ line 3 0 (1 ∷ []) take ∷ line 2 0 (1 ∷ 0 ∷ []) take ∷ line 2 0 (1 ∷ []) put
    ∷ []
flat_columns = refl

flat_columns_ends : stops flat_columns_tree [] ≡ refusing
flat_columns_ends = refl

flat_columns_picked : lines flat_columns_tree (5 ∷ 0 ∷ 7 ∷ 3 ∷ []) ≡
    line 1 0 (0 ∷ []) batch ∷ line 1 0 (0 ∷ []) put ∷ line 2 1 (1 ∷ []) take ∷ line 2 1 (1 ∷ []) put ∷ line 3 0 (0 ∷ []) batch ∷ line 3 0 (0 ∷ []) put
    ∷ line 3 0 (0 ∷ []) end ∷ line 3 0 (0 ∷ []) close ∷ line 2 0 (1 ∷ []) put ∷ line 3 0 (1 ∷ []) take ∷ line 2 0 (1 ∷ 0 ∷ []) take ∷ line 2 0 (1 ∷ []) put
    ∷ []
flat_columns_picked = refl

flat_columns_picked_ends : stops flat_columns_tree (5 ∷ 0 ∷ 7 ∷ 3 ∷ []) ≡ refusing
flat_columns_picked_ends = refl

abbrev three_columns_tree : Forest
three_columns_tree = tasks free (structured flats chunks no_ways) (i64_fields (codes "a" ∷ codes "b" ∷ codes "c" ∷ []) false) (records (i64_fields (codes "a" ∷ codes "b" ∷ codes "c" ∷ []) false) ((0 ∷ 0 ∷ 0 ∷ []) ∷ []) ∷ records (i64_fields (codes "a" ∷ codes "b" ∷ codes "c" ∷ []) false) ((1 ∷ 1 ∷ 1 ∷ []) ∷ []) ∷ [])

three_columns : lines three_columns_tree [] ≡
    line 1 0 (0 ∷ []) batch ∷ line 1 0 (0 ∷ []) put ∷ line 2 0 (0 ∷ []) batch ∷ line 1 0 (1 ∷ []) take ∷ line 2 0 (0 ∷ []) put ∷ line 2 0 (0 ∷ []) end
    ∷ line 2 0 (0 ∷ []) close ∷ line 1 0 (1 ∷ []) put ∷ line 2 0 (1 ∷ []) put ∷ line 3 0 (1 ∷ []) put ∷ line 4 0 (1 ∷ []) take ∷ line 3 0 (1 ∷ 0 ∷ []) take
    ∷ line 4 0 (1 ∷ []) put ∷ line 4 0 (1 ∷ 0 ∷ []) take ∷ line 4 0 (1 ∷ 0 ∷ 0 ∷ []) take ∷ line 4 0 (1 ∷ 0 ∷ 0 ∷ []) take
    ∷ line 4 0 (1 ∷ 0 ∷ 0 ∷ []) append ∷ line 3 0 (1 ∷ 0 ∷ 1 ∷ []) take ∷ line 3 0 (1 ∷ 0 ∷ 1 ∷ []) take ∷ line 2 0 (1 ∷ 1 ∷ []) take
    ∷ line 3 0 (1 ∷ []) put ∷ line 3 0 (1 ∷ 1 ∷ []) take ∷ line 3 0 (1 ∷ 1 ∷ 0 ∷ []) take ∷ line 3 0 (1 ∷ 1 ∷ 0 ∷ []) take
    ∷ line 3 0 (1 ∷ 1 ∷ 0 ∷ []) append ∷ line 2 0 (1 ∷ 1 ∷ 1 ∷ []) take ∷ line 2 0 (1 ∷ 1 ∷ 1 ∷ []) take ∷ line 1 0 (1 ∷ 2 ∷ []) take
    ∷ line 2 0 (1 ∷ []) put ∷ line 3 0 (1 ∷ []) take ∷ line 3 0 (1 ∷ []) close ∷ line 4 0 (1 ∷ 0 ∷ []) take ∷ line 3 0 (1 ∷ 1 ∷ []) take
    ∷ line 2 0 (1 ∷ 2 ∷ []) take ∷ line 3 0 (1 ∷ 2 ∷ []) take ∷ line 2 0 (1 ∷ 2 ∷ 0 ∷ []) take ∷ line 2 0 (1 ∷ 2 ∷ 0 ∷ []) take
    ∷ line 2 0 (1 ∷ 2 ∷ 0 ∷ []) append ∷ line 2 0 (1 ∷ 0 ∷ 1 ∷ []) append ∷ line 3 0 (1 ∷ 0 ∷ []) join ∷ line 2 0 (1 ∷ 1 ∷ 1 ∷ []) append
    ∷ line 2 0 (1 ∷ 1 ∷ []) join ∷ line 1 0 (1 ∷ 2 ∷ 1 ∷ []) take ∷ line 1 0 (1 ∷ 2 ∷ 1 ∷ []) take ∷ line 1 0 (1 ∷ 2 ∷ 1 ∷ []) append
    ∷ line 1 0 (1 ∷ 2 ∷ []) join ∷ line 1 0 (1 ∷ []) join ∷ []
three_columns = refl

three_columns_ends : stops three_columns_tree [] ≡ whole
three_columns_ends = refl

abbrev two_lists_tree : Forest
two_lists_tree = tasks free (listed chunks chunks flats flats) (list i64 false) (list_piece (list i64 false) (i64s (9 ∷ 1 ∷ 2 ∷ 8 ∷ [])) (1 ∷ 3 ∷ 3 ∷ []) [] ∷ list_piece (list i64 false) (i64s (3 ∷ [])) (0 ∷ 1 ∷ []) [] ∷ [])

two_lists : lines two_lists_tree [] ≡
    line 1 0 (0 ∷ []) batch ∷ line 1 0 (0 ∷ []) put ∷ line 2 0 (0 ∷ []) batch ∷ line 1 0 (1 ∷ []) take ∷ line 2 0 (0 ∷ []) put ∷ line 2 0 (0 ∷ []) end
    ∷ line 2 0 (0 ∷ []) close ∷ line 1 0 (1 ∷ []) put ∷ line 2 0 (1 ∷ []) put ∷ line 3 0 (1 ∷ []) take ∷ line 2 0 (1 ∷ 0 ∷ []) take ∷ line 3 0 (1 ∷ []) put
    ∷ line 3 0 (1 ∷ 0 ∷ []) take ∷ line 3 0 (1 ∷ 0 ∷ 0 ∷ []) take ∷ line 3 0 (1 ∷ 0 ∷ 0 ∷ []) take ∷ line 3 0 (1 ∷ 0 ∷ 0 ∷ []) append
    ∷ line 2 0 (1 ∷ 0 ∷ 1 ∷ []) take ∷ line 2 0 (1 ∷ 0 ∷ 1 ∷ []) take ∷ line 1 0 (1 ∷ 1 ∷ []) take ∷ line 2 0 (1 ∷ []) put ∷ line 3 0 (1 ∷ []) take
    ∷ line 3 0 (1 ∷ []) close ∷ line 3 0 (1 ∷ 0 ∷ []) take ∷ line 2 0 (1 ∷ 1 ∷ []) take ∷ line 3 0 (1 ∷ 1 ∷ []) take ∷ line 2 0 (1 ∷ 1 ∷ 0 ∷ []) take
    ∷ line 2 0 (1 ∷ 1 ∷ 0 ∷ []) take ∷ line 2 0 (1 ∷ 1 ∷ 0 ∷ []) append ∷ line 2 0 (1 ∷ 0 ∷ 1 ∷ []) append ∷ line 2 0 (1 ∷ 0 ∷ []) join
    ∷ line 1 0 (1 ∷ 1 ∷ 1 ∷ []) take ∷ line 1 0 (1 ∷ 1 ∷ 1 ∷ []) take ∷ line 1 0 (1 ∷ 1 ∷ 1 ∷ []) append ∷ line 1 0 (1 ∷ 1 ∷ []) join
    ∷ line 1 0 (1 ∷ []) join ∷ []
two_lists = refl

two_lists_ends : stops two_lists_tree [] ≡ whole
two_lists_ends = refl

two_lists_always_first : lines two_lists_tree (replicate 64 0) ≡
    line 1 0 (0 ∷ []) batch ∷ line 1 0 (0 ∷ []) put ∷ line 2 0 (0 ∷ []) batch ∷ line 1 0 (1 ∷ []) take ∷ line 2 0 (0 ∷ []) put ∷ line 2 0 (0 ∷ []) end
    ∷ line 2 0 (0 ∷ []) close ∷ line 1 0 (1 ∷ []) put ∷ line 2 0 (1 ∷ []) put ∷ line 3 0 (1 ∷ []) take ∷ line 2 0 (1 ∷ 0 ∷ []) take ∷ line 3 0 (1 ∷ []) put
    ∷ line 3 0 (1 ∷ 0 ∷ []) take ∷ line 3 0 (1 ∷ 0 ∷ 0 ∷ []) take ∷ line 3 0 (1 ∷ 0 ∷ 0 ∷ []) take ∷ line 3 0 (1 ∷ 0 ∷ 0 ∷ []) append
    ∷ line 2 0 (1 ∷ 0 ∷ 1 ∷ []) take ∷ line 2 0 (1 ∷ 0 ∷ 1 ∷ []) take ∷ line 1 0 (1 ∷ 1 ∷ []) take ∷ line 2 0 (1 ∷ []) put ∷ line 3 0 (1 ∷ []) take
    ∷ line 3 0 (1 ∷ []) close ∷ line 3 0 (1 ∷ 0 ∷ []) take ∷ line 2 0 (1 ∷ 1 ∷ []) take ∷ line 3 0 (1 ∷ 1 ∷ []) take ∷ line 2 0 (1 ∷ 1 ∷ 0 ∷ []) take
    ∷ line 2 0 (1 ∷ 1 ∷ 0 ∷ []) take ∷ line 2 0 (1 ∷ 1 ∷ 0 ∷ []) append ∷ line 2 0 (1 ∷ 0 ∷ 1 ∷ []) append ∷ line 2 0 (1 ∷ 0 ∷ []) join
    ∷ line 1 0 (1 ∷ 1 ∷ 1 ∷ []) take ∷ line 1 0 (1 ∷ 1 ∷ 1 ∷ []) take ∷ line 1 0 (1 ∷ 1 ∷ 1 ∷ []) append ∷ line 1 0 (1 ∷ 1 ∷ []) join
    ∷ line 1 0 (1 ∷ []) join ∷ []
two_lists_always_first = refl

two_lists_always_second : lines two_lists_tree (replicate 64 1) ≡
    line 1 0 (0 ∷ []) batch ∷ line 1 0 (0 ∷ []) put ∷ line 2 1 (1 ∷ []) take ∷ line 2 1 (1 ∷ []) put ∷ line 3 1 (1 ∷ []) put ∷ line 3 1 (1 ∷ 0 ∷ []) take
    ∷ line 3 1 (1 ∷ 0 ∷ 0 ∷ []) take ∷ line 3 1 (1 ∷ 0 ∷ 0 ∷ []) take ∷ line 3 1 (1 ∷ 0 ∷ 0 ∷ []) append ∷ line 2 1 (1 ∷ 1 ∷ []) take
    ∷ line 2 1 (1 ∷ 1 ∷ 0 ∷ []) take ∷ line 2 1 (1 ∷ 1 ∷ 0 ∷ []) take ∷ line 2 1 (1 ∷ 1 ∷ 0 ∷ []) append ∷ line 1 0 (0 ∷ []) batch ∷ line 1 0 (0 ∷ []) put
    ∷ line 2 1 (1 ∷ []) take ∷ line 2 1 (1 ∷ []) put ∷ line 3 1 (1 ∷ []) put ∷ line 3 1 (1 ∷ 0 ∷ []) take ∷ line 3 1 (1 ∷ 0 ∷ 1 ∷ []) take
    ∷ line 3 1 (1 ∷ 0 ∷ 1 ∷ []) take ∷ line 3 1 (1 ∷ 0 ∷ 1 ∷ []) append ∷ line 2 1 (1 ∷ 1 ∷ []) take ∷ line 2 1 (1 ∷ 1 ∷ 1 ∷ []) take
    ∷ line 2 1 (1 ∷ 1 ∷ 1 ∷ []) take ∷ line 2 1 (1 ∷ 1 ∷ 1 ∷ []) append ∷ line 1 0 (0 ∷ []) end ∷ line 1 0 (0 ∷ []) close ∷ line 1 0 (1 ∷ []) take
    ∷ line 1 0 (1 ∷ []) close ∷ line 2 1 (1 ∷ 1 ∷ []) take ∷ line 2 1 (1 ∷ 1 ∷ []) join ∷ line 1 0 (1 ∷ 0 ∷ []) take ∷ line 1 0 (1 ∷ 0 ∷ []) join
    ∷ line 1 0 (1 ∷ []) join ∷ []
two_lists_always_second = refl

two_lists_always_greatest : lines two_lists_tree (replicate 64 18446744073709551615) ≡
    line 1 0 (0 ∷ []) batch ∷ line 1 0 (0 ∷ []) put ∷ line 2 1 (1 ∷ []) take ∷ line 2 1 (1 ∷ []) put ∷ line 3 0 (0 ∷ []) batch ∷ line 3 0 (0 ∷ []) put
    ∷ line 3 0 (0 ∷ []) end ∷ line 3 0 (0 ∷ []) close ∷ line 2 1 (1 ∷ 0 ∷ []) take ∷ line 2 1 (1 ∷ 0 ∷ 0 ∷ []) take ∷ line 2 1 (1 ∷ 0 ∷ 0 ∷ []) take
    ∷ line 2 1 (1 ∷ 0 ∷ 0 ∷ []) append ∷ line 1 0 (1 ∷ []) put ∷ line 2 1 (1 ∷ 1 ∷ []) take ∷ line 2 1 (1 ∷ 1 ∷ 0 ∷ []) take
    ∷ line 2 1 (1 ∷ 1 ∷ 0 ∷ []) take ∷ line 2 1 (1 ∷ 1 ∷ 0 ∷ []) append ∷ line 1 0 (1 ∷ []) take ∷ line 1 0 (1 ∷ []) put ∷ line 2 1 (1 ∷ 0 ∷ []) take
    ∷ line 2 1 (1 ∷ 0 ∷ 1 ∷ []) take ∷ line 2 1 (1 ∷ 0 ∷ 1 ∷ []) take ∷ line 2 1 (1 ∷ 0 ∷ 1 ∷ []) append ∷ line 1 0 (1 ∷ []) put
    ∷ line 2 1 (1 ∷ 1 ∷ []) take ∷ line 2 1 (1 ∷ 1 ∷ 1 ∷ []) take ∷ line 2 1 (1 ∷ 1 ∷ 1 ∷ []) take ∷ line 2 1 (1 ∷ 1 ∷ 1 ∷ []) append
    ∷ line 1 0 (1 ∷ []) take ∷ line 1 0 (1 ∷ []) close ∷ line 2 1 (1 ∷ 1 ∷ []) take ∷ line 2 1 (1 ∷ 1 ∷ []) join ∷ line 1 0 (1 ∷ 0 ∷ []) take
    ∷ line 1 0 (1 ∷ 0 ∷ []) join ∷ line 1 0 (1 ∷ []) join ∷ []
two_lists_always_greatest = refl

two_lists_ascending : lines two_lists_tree (numbers 0 64) ≡
    line 1 0 (0 ∷ []) batch ∷ line 1 0 (0 ∷ []) put ∷ line 2 0 (0 ∷ []) batch ∷ line 1 0 (1 ∷ []) take ∷ line 2 0 (0 ∷ []) put ∷ line 2 1 (1 ∷ []) put
    ∷ line 3 0 (0 ∷ []) end ∷ line 3 1 (1 ∷ []) put ∷ line 4 0 (0 ∷ []) close ∷ line 3 0 (1 ∷ []) take ∷ line 2 0 (1 ∷ 0 ∷ []) take
    ∷ line 3 2 (1 ∷ 1 ∷ []) take ∷ line 3 0 (1 ∷ []) put ∷ line 4 1 (1 ∷ 0 ∷ []) take ∷ line 4 2 (1 ∷ 0 ∷ 1 ∷ []) take ∷ line 4 3 (1 ∷ 1 ∷ 0 ∷ []) take
    ∷ line 4 0 (1 ∷ []) put ∷ line 5 2 (1 ∷ 0 ∷ 1 ∷ []) take ∷ line 4 2 (1 ∷ 1 ∷ []) take ∷ line 4 3 (1 ∷ 1 ∷ 1 ∷ []) take ∷ line 4 0 (1 ∷ []) take
    ∷ line 4 1 (1 ∷ 0 ∷ 0 ∷ []) take ∷ line 4 2 (1 ∷ 1 ∷ 0 ∷ []) take ∷ line 3 2 (1 ∷ 1 ∷ 1 ∷ []) take ∷ line 2 0 (1 ∷ []) close
    ∷ line 3 1 (1 ∷ 0 ∷ 0 ∷ []) take ∷ line 3 2 (1 ∷ 1 ∷ []) take ∷ line 2 1 (1 ∷ 0 ∷ 0 ∷ []) append ∷ line 2 0 (1 ∷ 0 ∷ []) take
    ∷ line 1 0 (1 ∷ 1 ∷ 0 ∷ []) append ∷ line 1 0 (1 ∷ 0 ∷ 1 ∷ []) append ∷ line 2 1 (1 ∷ 1 ∷ 1 ∷ []) append ∷ line 2 0 (1 ∷ 0 ∷ []) join
    ∷ line 1 0 (1 ∷ 1 ∷ []) join ∷ line 1 0 (1 ∷ []) join ∷ []
two_lists_ascending = refl

two_lists_descending : lines two_lists_tree (falling 64) ≡
    line 1 0 (0 ∷ []) batch ∷ line 1 0 (0 ∷ []) put ∷ line 2 1 (1 ∷ []) take ∷ line 2 0 (0 ∷ []) batch ∷ line 2 1 (1 ∷ []) put ∷ line 3 1 (1 ∷ []) put
    ∷ line 3 0 (0 ∷ []) put ∷ line 4 0 (0 ∷ []) end ∷ line 4 3 (1 ∷ 1 ∷ []) take ∷ line 4 2 (1 ∷ 0 ∷ []) take ∷ line 4 1 (1 ∷ []) take
    ∷ line 4 0 (0 ∷ []) close ∷ line 3 0 (1 ∷ []) put ∷ line 4 2 (1 ∷ 0 ∷ 0 ∷ []) take ∷ line 4 1 (1 ∷ 0 ∷ []) take ∷ line 4 0 (1 ∷ []) put
    ∷ line 5 2 (1 ∷ 0 ∷ 1 ∷ []) take ∷ line 5 1 (1 ∷ 0 ∷ 0 ∷ []) take ∷ line 5 0 (1 ∷ []) take ∷ line 5 4 (1 ∷ 1 ∷ 0 ∷ []) take
    ∷ line 5 3 (1 ∷ 1 ∷ []) take ∷ line 5 2 (1 ∷ 0 ∷ 1 ∷ []) take ∷ line 4 1 (1 ∷ 0 ∷ 0 ∷ []) append ∷ line 3 1 (1 ∷ 1 ∷ 0 ∷ []) take
    ∷ line 3 0 (1 ∷ []) close ∷ line 4 2 (1 ∷ 1 ∷ 0 ∷ []) append ∷ line 4 1 (1 ∷ 0 ∷ 1 ∷ []) append ∷ line 3 0 (1 ∷ 0 ∷ []) take
    ∷ line 3 2 (1 ∷ 1 ∷ 1 ∷ []) take ∷ line 3 1 (1 ∷ 1 ∷ []) take ∷ line 2 1 (1 ∷ 1 ∷ 1 ∷ []) take ∷ line 2 0 (1 ∷ 0 ∷ []) join
    ∷ line 1 0 (1 ∷ 1 ∷ 1 ∷ []) append ∷ line 1 0 (1 ∷ 1 ∷ []) join ∷ line 1 0 (1 ∷ []) join ∷ []
two_lists_descending = refl

no_lists : lines (tasks free (listed chunks chunks flats flats) (list i64 false) []) [] ≡
    line 1 0 (0 ∷ []) end ∷ line 1 0 (0 ∷ []) close ∷ []
no_lists = refl

no_lists_ends : stops (tasks free (listed chunks chunks flats flats) (list i64 false) []) [] ≡ refusing
no_lists_ends = refl

abbrev nested_table_tree : Forest
nested_table_tree = tasks free (tabled flats chunks (way_at (codes "a" ∷ codes "b" ∷ []) flats no_ways) false no_wraps) (struct (field (codes "a") (i64_fields (codes "b" ∷ []) false) (field (codes "c") i64 no_fields)) false) (plain_piece (struct (field (codes "a") (i64_fields (codes "b" ∷ []) false) (field (codes "c") i64 no_fields)) false) (struct_cell true (trees_of (struct_cell true (trees_of (int_cell (pos 1) ∷ [])) ∷ int_cell (pos 2) ∷ [])) ∷ []) ∷ [])

nested_table : lines nested_table_tree [] ≡
    line 1 0 (0 ∷ []) batch ∷ line 1 0 (0 ∷ []) put ∷ line 2 0 (0 ∷ []) end ∷ line 2 0 (0 ∷ []) close ∷ line 1 0 (1 ∷ []) take ∷ line 1 0 (1 ∷ []) put
    ∷ line 2 0 (1 ∷ []) put ∷ line 3 0 (1 ∷ []) take ∷ line 3 0 (1 ∷ []) close ∷ line 2 0 (1 ∷ 0 ∷ []) take ∷ line 2 0 (1 ∷ 0 ∷ []) put
    ∷ line 3 0 (1 ∷ 0 ∷ []) take ∷ line 3 0 (1 ∷ 0 ∷ []) close ∷ line 2 0 (1 ∷ 0 ∷ 0 ∷ []) take ∷ line 2 0 (1 ∷ 0 ∷ 0 ∷ []) take
    ∷ line 2 0 (1 ∷ 0 ∷ 0 ∷ []) append ∷ line 2 0 (1 ∷ 0 ∷ []) join ∷ line 1 0 (1 ∷ 1 ∷ []) take ∷ line 2 0 (1 ∷ 1 ∷ []) take
    ∷ line 1 0 (1 ∷ 1 ∷ 0 ∷ []) take ∷ line 1 0 (1 ∷ 1 ∷ 0 ∷ []) take ∷ line 1 0 (1 ∷ 1 ∷ 0 ∷ []) append ∷ line 1 0 (1 ∷ 1 ∷ []) join
    ∷ line 1 0 (1 ∷ []) join ∷ []
nested_table = refl

nested_table_ends : stops nested_table_tree [] ≡ whole
nested_table_ends = refl

abbrev nested_table_twice_tree : Forest
nested_table_twice_tree = tasks free (tabled flats chunks (way_at (codes "a" ∷ codes "b" ∷ []) flats no_ways) false no_wraps) (struct (field (codes "a") (i64_fields (codes "b" ∷ []) false) (field (codes "c") i64 no_fields)) false) (plain_piece (struct (field (codes "a") (i64_fields (codes "b" ∷ []) false) (field (codes "c") i64 no_fields)) false) (struct_cell true (trees_of (struct_cell true (trees_of (int_cell (pos 1) ∷ [])) ∷ int_cell (pos 2) ∷ [])) ∷ []) ∷ plain_piece (struct (field (codes "a") (i64_fields (codes "b" ∷ []) false) (field (codes "c") i64 no_fields)) false) (struct_cell true (trees_of (struct_cell true (trees_of (int_cell (pos 3) ∷ [])) ∷ int_cell (pos 4) ∷ [])) ∷ []) ∷ [])

nested_table_twice : lines nested_table_twice_tree [] ≡
    line 1 0 (0 ∷ []) batch ∷ line 1 0 (0 ∷ []) put ∷ line 2 0 (0 ∷ []) batch ∷ line 1 0 (1 ∷ []) take ∷ line 2 0 (0 ∷ []) put ∷ line 2 0 (0 ∷ []) end
    ∷ line 2 0 (0 ∷ []) close ∷ line 1 0 (1 ∷ []) put ∷ line 2 0 (1 ∷ []) put ∷ line 3 0 (1 ∷ []) take ∷ line 2 0 (1 ∷ 0 ∷ []) take ∷ line 3 0 (1 ∷ []) put
    ∷ line 2 0 (1 ∷ 0 ∷ []) put ∷ line 3 0 (1 ∷ 0 ∷ []) take ∷ line 2 0 (1 ∷ 0 ∷ 0 ∷ []) take ∷ line 2 0 (1 ∷ 0 ∷ []) put ∷ []
nested_table_twice = refl

nested_table_twice_ends : stops nested_table_twice_tree [] ≡ refusing
nested_table_twice_ends = refl

abbrev lists_as_leaves_tree : Forest
lists_as_leaves_tree = tasks free (tabled flats flats no_ways false no_wraps) (struct (field (codes "l") (list i64 false) no_fields) false) (plain_piece (struct (field (codes "l") (list i64 false) no_fields) false) (struct_cell true (trees_of (list_cell true (trees_of (int_cell (pos 1) ∷ int_cell (pos 2) ∷ [])) ∷ [])) ∷ []) ∷ [])

lists_as_leaves : lines lists_as_leaves_tree [] ≡
    line 1 0 (0 ∷ []) batch ∷ line 1 0 (0 ∷ []) put ∷ line 2 0 (0 ∷ []) end ∷ line 2 0 (0 ∷ []) close ∷ line 1 0 (1 ∷ []) take ∷ line 1 0 (1 ∷ []) put
    ∷ line 2 0 (1 ∷ []) take ∷ line 2 0 (1 ∷ []) close ∷ line 1 0 (1 ∷ 0 ∷ []) take ∷ line 1 0 (1 ∷ 0 ∷ []) take ∷ line 1 0 (1 ∷ 0 ∷ []) append
    ∷ line 1 0 (1 ∷ []) join ∷ []
lists_as_leaves = refl

lists_as_leaves_ends : stops lists_as_leaves_tree [] ≡ whole
lists_as_leaves_ends = refl

abbrev lists_as_lists_tree : Forest
lists_as_lists_tree = tasks free (tabled flats flats no_ways true no_wraps) (struct (field (codes "l") (list i64 false) no_fields) false) (plain_piece (struct (field (codes "l") (list i64 false) no_fields) false) (struct_cell true (trees_of (list_cell true (trees_of (int_cell (pos 1) ∷ int_cell (pos 2) ∷ [])) ∷ [])) ∷ []) ∷ [])

lists_as_lists : lines lists_as_lists_tree [] ≡
    line 1 0 (0 ∷ []) batch ∷ line 1 0 (0 ∷ []) put ∷ line 2 0 (0 ∷ []) end ∷ line 2 0 (0 ∷ []) close ∷ line 1 0 (1 ∷ []) take ∷ line 1 0 (1 ∷ []) put
    ∷ line 2 0 (1 ∷ []) take ∷ line 2 0 (1 ∷ []) close ∷ line 1 0 (1 ∷ 0 ∷ []) take ∷ line 1 0 (1 ∷ 0 ∷ []) put ∷ line 2 0 (1 ∷ 0 ∷ []) put
    ∷ line 3 0 (1 ∷ 0 ∷ []) take ∷ line 3 0 (1 ∷ 0 ∷ []) close ∷ line 2 0 (1 ∷ 0 ∷ 0 ∷ []) take ∷ line 2 0 (1 ∷ 0 ∷ 0 ∷ []) take
    ∷ line 2 0 (1 ∷ 0 ∷ 0 ∷ []) append ∷ line 1 0 (1 ∷ 0 ∷ 1 ∷ []) take ∷ line 1 0 (1 ∷ 0 ∷ 1 ∷ []) take ∷ line 1 0 (1 ∷ 0 ∷ 1 ∷ []) append
    ∷ line 1 0 (1 ∷ 0 ∷ []) join ∷ line 1 0 (1 ∷ []) join ∷ []
lists_as_lists = refl

lists_as_lists_ends : stops lists_as_lists_tree [] ≡ whole
lists_as_lists_ends = refl
