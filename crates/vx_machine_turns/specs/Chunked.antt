-- A chunked node starts a child for each chunk that it takes, hands it the chunk and closes its queue, and joins.
use Rattle.std.specs.Prelude.{ℕ, suc, ◌+◌, List, [], ◌∷◌}
use Rattle.vx_path.specs.Path.{under, Eof, eof_path, inside, next}
use Rattle.vx_tasks.specs.Task.Kind.{Take, Join}
use Rattle.vx_plan.specs.PlanData.{Setting, Item, rows_in}
use Rattle.vx_machine_turns.specs.Locals.{ChunkedNode, chunked_local}
use Rattle.vx_machine_turns.specs.Acts.{Act, Turn, does, ends_as, gathers}
use Rattle.vx_machine_turns.specs.Starts.{start_fault, seed_of}

abbrev pub chunked_turn : Setting → ChunkedNode → ℕ → Eof → ℕ → Item → Turn
chunked_turn s n j e rows i = record {
  first = record (does Take) {
    starts = seed_of n.child n.mark (under n.name j) (inside e) ∷ [];
    gives = (j, i) ∷ [];
    shuts = j ∷ [];
    refusal = start_fault s n.child n.mark;
    numbers = (rows + rows_in i.1) ∷ [];
    indices = (e.last + 1) ∷ [];
  };
  more = [];
  after = chunked_local n (suc j) (next e) (rows + rows_in i.1);
}

abbrev pub chunked_end : ChunkedNode → ℕ → Act
chunked_end n rows = ends_as (gathers n.type rows)

abbrev pub chunked_join : List Act
chunked_join = does Join ∷ []

-- the pointer at the next child's eof path
abbrev pub chunked_kept : Eof → List (List ℕ)
chunked_kept e = eof_path e ∷ []
