-- Whole traces of dictionaries.
use Rattle.std.proofs.Common.{◌≡◌, [], ◌∷◌, refl}
use Rattle.std.specs.Prelude.{codes, replicate}
use Rattle.vx_tasks.specs.Task.{Forest}
use Rattle.vx_tasks.specs.Nodes.{numbers}
use Rattle.vx_machine_worked.proofs.Words.{free, tasks, dictionaries, lines, line, batch, end, call, close, take, put, append, join, stops, whole, refusing, flats, chunks, text, texts, falling}

abbrev three_runs_tree : Forest
three_runs_tree = tasks free (dictionaries 64 100 2 chunks flats flats) text (texts (codes "a" ∷ codes "xxxxxxxxxxxxxxxxxxxxxxxxxxxxxxxxxxxxxxxxxxxxxxxxx" ∷ codes "b" ∷ []) ∷ [])

three_runs : lines three_runs_tree [] ≡
    line 1 0 (0 ∷ []) batch ∷ line 1 0 (0 ∷ []) put ∷ line 2 0 (0 ∷ []) end ∷ line 2 0 (0 ∷ []) close ∷ line 1 0 (1 ∷ []) take ∷ line 1 0 (1 ∷ []) call
    ∷ line 1 0 (1 ∷ []) take ∷ line 1 0 (1 ∷ []) put ∷ line 2 0 (1 ∷ []) put ∷ line 3 0 (1 ∷ []) put ∷ line 4 0 (1 ∷ []) put ∷ line 5 0 (1 ∷ []) put
    ∷ line 6 0 (1 ∷ []) put ∷ line 6 0 (1 ∷ 0 ∷ []) take ∷ line 7 0 (1 ∷ 0 ∷ []) take ∷ line 6 0 (1 ∷ 0 ∷ 0 ∷ []) take ∷ line 6 0 (1 ∷ 0 ∷ 0 ∷ []) take
    ∷ line 6 0 (1 ∷ 0 ∷ 0 ∷ []) append ∷ line 6 0 (1 ∷ 0 ∷ []) join ∷ line 5 0 (1 ∷ 1 ∷ []) take ∷ line 5 0 (1 ∷ 1 ∷ []) take
    ∷ line 5 0 (1 ∷ 1 ∷ []) append ∷ line 4 0 (1 ∷ 2 ∷ []) take ∷ line 5 0 (1 ∷ 2 ∷ []) take ∷ line 4 0 (1 ∷ 2 ∷ 0 ∷ []) take
    ∷ line 4 0 (1 ∷ 2 ∷ 0 ∷ []) take ∷ line 4 0 (1 ∷ 2 ∷ 0 ∷ []) append ∷ line 4 0 (1 ∷ 2 ∷ []) join ∷ line 3 0 (1 ∷ 3 ∷ []) take
    ∷ line 3 0 (1 ∷ 3 ∷ []) take ∷ line 3 0 (1 ∷ 3 ∷ []) append ∷ line 2 0 (1 ∷ 4 ∷ []) take ∷ line 3 0 (1 ∷ 4 ∷ []) take ∷ line 2 0 (1 ∷ 4 ∷ 0 ∷ []) take
    ∷ line 2 0 (1 ∷ 4 ∷ 0 ∷ []) take ∷ line 2 0 (1 ∷ 4 ∷ 0 ∷ []) append ∷ line 2 0 (1 ∷ 4 ∷ []) join ∷ line 1 0 (1 ∷ 5 ∷ []) take
    ∷ line 1 0 (1 ∷ 5 ∷ []) take ∷ line 1 0 (1 ∷ 5 ∷ []) append ∷ line 1 0 (1 ∷ []) join ∷ []
three_runs = refl

three_runs_ends : stops three_runs_tree [] ≡ whole
three_runs_ends = refl

abbrev two_runs_tree : Forest
two_runs_tree = tasks free (dictionaries 1048576 2 2 chunks flats flats) text (texts (codes "a" ∷ codes "b" ∷ []) ∷ texts (codes "c" ∷ []) ∷ [])

two_runs : lines two_runs_tree [] ≡
    line 1 0 (0 ∷ []) batch ∷ line 1 0 (0 ∷ []) put ∷ line 2 0 (0 ∷ []) batch ∷ line 1 0 (1 ∷ []) take ∷ line 2 0 (0 ∷ []) put ∷ line 2 0 (0 ∷ []) end
    ∷ line 2 0 (0 ∷ []) close ∷ line 1 0 (1 ∷ []) call ∷ line 1 0 (1 ∷ []) take ∷ line 1 0 (1 ∷ []) put ∷ line 2 0 (1 ∷ []) take
    ∷ line 1 0 (1 ∷ 0 ∷ []) take ∷ line 2 0 (1 ∷ []) put ∷ line 3 0 (1 ∷ []) put ∷ line 4 0 (1 ∷ []) put ∷ line 5 0 (1 ∷ []) put
    ∷ line 5 0 (1 ∷ 0 ∷ []) take ∷ line 6 0 (1 ∷ 0 ∷ []) take ∷ line 5 0 (1 ∷ 0 ∷ 0 ∷ []) take ∷ line 5 0 (1 ∷ 0 ∷ 0 ∷ []) take
    ∷ line 5 0 (1 ∷ 0 ∷ 0 ∷ []) append ∷ line 4 0 (1 ∷ 0 ∷ 1 ∷ []) take ∷ line 4 0 (1 ∷ 0 ∷ 1 ∷ []) take ∷ line 4 0 (1 ∷ 0 ∷ 1 ∷ []) append
    ∷ line 4 0 (1 ∷ 0 ∷ []) join ∷ line 3 0 (1 ∷ 1 ∷ []) take ∷ line 3 0 (1 ∷ 1 ∷ []) take ∷ line 3 0 (1 ∷ 1 ∷ []) append ∷ line 2 0 (1 ∷ 2 ∷ []) take
    ∷ line 3 0 (1 ∷ 2 ∷ []) take ∷ line 2 0 (1 ∷ 2 ∷ 0 ∷ []) take ∷ line 2 0 (1 ∷ 2 ∷ 0 ∷ []) take ∷ line 2 0 (1 ∷ 2 ∷ 0 ∷ []) append
    ∷ line 2 0 (1 ∷ 2 ∷ []) join ∷ line 1 0 (1 ∷ 3 ∷ []) take ∷ line 1 0 (1 ∷ 3 ∷ []) take ∷ line 1 0 (1 ∷ 3 ∷ []) append ∷ line 1 0 (1 ∷ []) join ∷ []
two_runs = refl

two_runs_ends : stops two_runs_tree [] ≡ whole
two_runs_ends = refl

two_runs_always_first : lines two_runs_tree (replicate 64 0) ≡
    line 1 0 (0 ∷ []) batch ∷ line 1 0 (0 ∷ []) put ∷ line 2 0 (0 ∷ []) batch ∷ line 1 0 (1 ∷ []) take ∷ line 2 0 (0 ∷ []) put ∷ line 2 0 (0 ∷ []) end
    ∷ line 2 0 (0 ∷ []) close ∷ line 1 0 (1 ∷ []) call ∷ line 1 0 (1 ∷ []) take ∷ line 1 0 (1 ∷ []) put ∷ line 2 0 (1 ∷ []) take
    ∷ line 1 0 (1 ∷ 0 ∷ []) take ∷ line 2 0 (1 ∷ []) put ∷ line 3 0 (1 ∷ []) put ∷ line 4 0 (1 ∷ []) put ∷ line 5 0 (1 ∷ []) put
    ∷ line 5 0 (1 ∷ 0 ∷ []) take ∷ line 6 0 (1 ∷ 0 ∷ []) take ∷ line 5 0 (1 ∷ 0 ∷ 0 ∷ []) take ∷ line 5 0 (1 ∷ 0 ∷ 0 ∷ []) take
    ∷ line 5 0 (1 ∷ 0 ∷ 0 ∷ []) append ∷ line 4 0 (1 ∷ 0 ∷ 1 ∷ []) take ∷ line 4 0 (1 ∷ 0 ∷ 1 ∷ []) take ∷ line 4 0 (1 ∷ 0 ∷ 1 ∷ []) append
    ∷ line 4 0 (1 ∷ 0 ∷ []) join ∷ line 3 0 (1 ∷ 1 ∷ []) take ∷ line 3 0 (1 ∷ 1 ∷ []) take ∷ line 3 0 (1 ∷ 1 ∷ []) append ∷ line 2 0 (1 ∷ 2 ∷ []) take
    ∷ line 3 0 (1 ∷ 2 ∷ []) take ∷ line 2 0 (1 ∷ 2 ∷ 0 ∷ []) take ∷ line 2 0 (1 ∷ 2 ∷ 0 ∷ []) take ∷ line 2 0 (1 ∷ 2 ∷ 0 ∷ []) append
    ∷ line 2 0 (1 ∷ 2 ∷ []) join ∷ line 1 0 (1 ∷ 3 ∷ []) take ∷ line 1 0 (1 ∷ 3 ∷ []) take ∷ line 1 0 (1 ∷ 3 ∷ []) append ∷ line 1 0 (1 ∷ []) join ∷ []
two_runs_always_first = refl

two_runs_always_second : lines two_runs_tree (replicate 64 1) ≡
    line 1 0 (0 ∷ []) batch ∷ line 1 0 (0 ∷ []) put ∷ line 2 1 (1 ∷ []) take ∷ line 2 1 (1 ∷ []) call ∷ line 1 0 (0 ∷ []) batch ∷ line 1 0 (0 ∷ []) put
    ∷ line 2 1 (1 ∷ []) take ∷ line 2 1 (1 ∷ []) put ∷ line 2 1 (1 ∷ 0 ∷ []) take ∷ line 2 1 (1 ∷ 0 ∷ 0 ∷ []) take ∷ line 2 1 (1 ∷ 0 ∷ 0 ∷ []) take
    ∷ line 2 1 (1 ∷ 0 ∷ 0 ∷ []) append ∷ line 1 0 (0 ∷ []) end ∷ line 1 0 (0 ∷ []) close ∷ line 1 0 (1 ∷ []) take ∷ line 1 0 (1 ∷ []) put
    ∷ line 2 1 (1 ∷ 0 ∷ []) take ∷ line 2 1 (1 ∷ 0 ∷ 1 ∷ []) take ∷ line 2 1 (1 ∷ 0 ∷ 1 ∷ []) take ∷ line 2 1 (1 ∷ 0 ∷ 1 ∷ []) append
    ∷ line 1 0 (1 ∷ []) put ∷ line 3 1 (1 ∷ 0 ∷ []) take ∷ line 3 1 (1 ∷ 0 ∷ []) join ∷ line 2 1 (1 ∷ 1 ∷ []) take ∷ line 2 1 (1 ∷ 1 ∷ []) take
    ∷ line 2 1 (1 ∷ 1 ∷ []) append ∷ line 1 0 (1 ∷ []) put ∷ line 2 1 (1 ∷ 2 ∷ []) take ∷ line 2 1 (1 ∷ 2 ∷ 0 ∷ []) take ∷ line 2 1 (1 ∷ 2 ∷ 0 ∷ []) take
    ∷ line 2 1 (1 ∷ 2 ∷ 0 ∷ []) append ∷ line 1 0 (1 ∷ []) put ∷ line 2 1 (1 ∷ 3 ∷ []) take ∷ line 2 1 (1 ∷ 3 ∷ []) take ∷ line 2 1 (1 ∷ 3 ∷ []) append
    ∷ line 1 0 (1 ∷ 2 ∷ []) take ∷ line 1 0 (1 ∷ 2 ∷ []) join ∷ line 1 0 (1 ∷ []) join ∷ []
two_runs_always_second = refl

two_runs_always_greatest : lines two_runs_tree (replicate 64 18446744073709551615) ≡
    line 1 0 (0 ∷ []) batch ∷ line 1 0 (0 ∷ []) put ∷ line 2 1 (1 ∷ []) take ∷ line 2 1 (1 ∷ []) call ∷ line 1 0 (0 ∷ []) batch ∷ line 1 0 (0 ∷ []) put
    ∷ line 2 1 (1 ∷ []) take ∷ line 2 1 (1 ∷ []) put ∷ line 2 1 (1 ∷ 0 ∷ []) take ∷ line 2 1 (1 ∷ 0 ∷ 0 ∷ []) take ∷ line 2 1 (1 ∷ 0 ∷ 0 ∷ []) take
    ∷ line 2 1 (1 ∷ 0 ∷ 0 ∷ []) append ∷ line 1 0 (0 ∷ []) end ∷ line 1 0 (0 ∷ []) close ∷ line 1 0 (1 ∷ []) take ∷ line 1 0 (1 ∷ []) put
    ∷ line 2 1 (1 ∷ 0 ∷ []) take ∷ line 2 1 (1 ∷ 0 ∷ 1 ∷ []) take ∷ line 2 1 (1 ∷ 0 ∷ 1 ∷ []) take ∷ line 2 1 (1 ∷ 0 ∷ 1 ∷ []) append
    ∷ line 1 0 (1 ∷ []) put ∷ line 3 0 (1 ∷ []) put ∷ line 4 3 (1 ∷ 2 ∷ []) take ∷ line 4 3 (1 ∷ 2 ∷ 0 ∷ []) take ∷ line 4 3 (1 ∷ 2 ∷ 0 ∷ []) take
    ∷ line 3 0 (1 ∷ []) put ∷ line 4 3 (1 ∷ 3 ∷ []) take ∷ line 4 3 (1 ∷ 3 ∷ []) take ∷ line 3 0 (1 ∷ 0 ∷ []) take ∷ line 3 0 (1 ∷ 0 ∷ []) join
    ∷ line 2 1 (1 ∷ 2 ∷ []) take ∷ line 1 0 (1 ∷ 1 ∷ []) take ∷ line 1 0 (1 ∷ 1 ∷ []) take ∷ line 1 0 (1 ∷ 1 ∷ []) append
    ∷ line 1 0 (1 ∷ 2 ∷ 0 ∷ []) append ∷ line 2 1 (1 ∷ 3 ∷ []) append ∷ line 1 0 (1 ∷ 2 ∷ []) join ∷ line 1 0 (1 ∷ []) join ∷ []
two_runs_always_greatest = refl

two_runs_ascending : lines two_runs_tree (numbers 0 64) ≡
    line 1 0 (0 ∷ []) batch ∷ line 1 0 (0 ∷ []) put ∷ line 2 0 (0 ∷ []) batch ∷ line 1 0 (1 ∷ []) take ∷ line 2 0 (0 ∷ []) put ∷ line 2 1 (1 ∷ []) call
    ∷ line 2 0 (0 ∷ []) end ∷ line 2 1 (1 ∷ []) take ∷ line 2 0 (0 ∷ []) close ∷ line 1 0 (1 ∷ []) put ∷ line 2 0 (1 ∷ []) take
    ∷ line 1 0 (1 ∷ 0 ∷ []) take ∷ line 2 0 (1 ∷ []) put ∷ line 3 1 (1 ∷ 0 ∷ []) take ∷ line 3 2 (1 ∷ 0 ∷ 1 ∷ []) take ∷ line 3 0 (1 ∷ []) put
    ∷ line 5 1 (1 ∷ 0 ∷ []) take ∷ line 4 1 (1 ∷ 0 ∷ 0 ∷ []) take ∷ line 4 2 (1 ∷ 0 ∷ 1 ∷ []) take ∷ line 3 1 (1 ∷ 0 ∷ 0 ∷ []) take
    ∷ line 3 2 (1 ∷ 1 ∷ []) take ∷ line 3 0 (1 ∷ []) put ∷ line 4 2 (1 ∷ 1 ∷ []) take ∷ line 3 2 (1 ∷ 2 ∷ []) take ∷ line 3 0 (1 ∷ []) put
    ∷ line 4 1 (1 ∷ 2 ∷ []) take ∷ line 3 2 (1 ∷ 3 ∷ []) take ∷ line 3 0 (1 ∷ 0 ∷ 0 ∷ []) append ∷ line 3 1 (1 ∷ 2 ∷ 0 ∷ []) take
    ∷ line 3 2 (1 ∷ 3 ∷ []) take ∷ line 2 0 (1 ∷ 0 ∷ 1 ∷ []) append ∷ line 3 1 (1 ∷ 1 ∷ []) append ∷ line 2 0 (1 ∷ 0 ∷ []) join
    ∷ line 1 0 (1 ∷ 2 ∷ 0 ∷ []) take ∷ line 1 0 (1 ∷ 2 ∷ 0 ∷ []) append ∷ line 2 1 (1 ∷ 3 ∷ []) append ∷ line 1 0 (1 ∷ 2 ∷ []) join
    ∷ line 1 0 (1 ∷ []) join ∷ []
two_runs_ascending = refl

two_runs_descending : lines two_runs_tree (falling 64) ≡
    line 1 0 (0 ∷ []) batch ∷ line 1 0 (0 ∷ []) put ∷ line 2 1 (1 ∷ []) take ∷ line 2 0 (0 ∷ []) batch ∷ line 2 1 (1 ∷ []) call ∷ line 1 0 (0 ∷ []) put
    ∷ line 2 1 (1 ∷ []) take ∷ line 2 0 (0 ∷ []) end ∷ line 2 1 (1 ∷ []) put ∷ line 2 0 (0 ∷ []) close ∷ line 2 1 (1 ∷ 0 ∷ []) take
    ∷ line 2 0 (1 ∷ []) take ∷ line 2 1 (1 ∷ 0 ∷ 0 ∷ []) take ∷ line 2 0 (1 ∷ []) put ∷ line 3 1 (1 ∷ 0 ∷ []) take ∷ line 3 0 (1 ∷ []) put
    ∷ line 5 2 (1 ∷ 0 ∷ 0 ∷ []) take ∷ line 5 1 (1 ∷ 0 ∷ []) take ∷ line 4 1 (1 ∷ 0 ∷ 0 ∷ []) append ∷ line 3 2 (1 ∷ 1 ∷ []) take
    ∷ line 3 1 (1 ∷ 0 ∷ 1 ∷ []) take ∷ line 3 0 (1 ∷ []) put ∷ line 4 1 (1 ∷ 0 ∷ 1 ∷ []) take ∷ line 4 0 (1 ∷ []) put ∷ line 4 3 (1 ∷ 3 ∷ []) take
    ∷ line 4 2 (1 ∷ 2 ∷ []) take ∷ line 5 2 (1 ∷ 2 ∷ []) take ∷ line 4 0 (1 ∷ 0 ∷ 1 ∷ []) append ∷ line 4 3 (1 ∷ 3 ∷ []) take ∷ line 3 1 (1 ∷ 1 ∷ []) take
    ∷ line 3 0 (1 ∷ 0 ∷ []) join ∷ line 2 0 (1 ∷ 1 ∷ []) append ∷ line 1 0 (1 ∷ 2 ∷ 0 ∷ []) take ∷ line 1 0 (1 ∷ 2 ∷ 0 ∷ []) take
    ∷ line 1 0 (1 ∷ 2 ∷ 0 ∷ []) append ∷ line 2 0 (1 ∷ 2 ∷ []) join ∷ line 1 0 (1 ∷ 3 ∷ []) append ∷ line 1 0 (1 ∷ []) join ∷ []
two_runs_descending = refl

abbrev flat_codes_tree : Forest
flat_codes_tree = tasks free (dictionaries 1048576 2 2 flats flats flats) text (texts (codes "a" ∷ codes "b" ∷ []) ∷ texts (codes "c" ∷ []) ∷ [])

flat_codes : lines flat_codes_tree [] ≡
    line 1 0 (0 ∷ []) batch ∷ line 1 0 (0 ∷ []) put ∷ line 2 0 (0 ∷ []) batch ∷ line 1 0 (1 ∷ []) take ∷ line 2 0 (0 ∷ []) put ∷ line 2 0 (0 ∷ []) end
    ∷ line 2 0 (0 ∷ []) close ∷ line 1 0 (1 ∷ []) call ∷ line 1 0 (1 ∷ []) take ∷ line 1 0 (1 ∷ []) put ∷ line 2 0 (1 ∷ []) take
    ∷ line 1 0 (1 ∷ 0 ∷ []) take ∷ line 1 0 (1 ∷ []) put ∷ line 2 0 (1 ∷ []) put ∷ line 3 0 (1 ∷ []) put ∷ line 4 0 (1 ∷ []) put ∷ []
flat_codes = refl

flat_codes_ends : stops flat_codes_tree [] ≡ refusing
flat_codes_ends = refl
