-- A collecting node hands on one chunk of all, at the end.
use Rattle.std.specs.Prelude.{ℕ, ◌+◌, List, [], ◌∷◌, ◌++◌, Option, Some, None}
use Rattle.vx_model.specs.Ty.{Ty}
use Rattle.vx_model.specs.ChunkData.{ChunkData}
use Rattle.vx_rules.specs.Flushes.{concatenated}
use Rattle.vx_tasks.specs.Task.Kind.{Take}
use Rattle.vx_plan.specs.PlanData.{Item, rows_in}
use Rattle.vx_machine_turns.specs.Locals.{GroupedNode, collect_local}
use Rattle.vx_machine_turns.specs.Acts.{Act, Turn, does, put_all, close_queues}

abbrev pub collected_so_far : Option (List ℕ × List ChunkData) → List ChunkData
collected_so_far None = []
collected_so_far (Some x) = x.1

abbrev pub collect_turn : GroupedNode → Option (List ℕ × List ChunkData) → ℕ → Item → Turn
collect_turn n x rows i = record {
  first = record (does Take) { numbers = (rows + rows_in i.1) ∷ [] };
  more = [];
  after = collect_local n (Some (i.0, collected_so_far x ++ (i.1 ∷ []))) (rows + rows_in i.1);
}

-- under the last chunk's own path
abbrev pub collect_rest : Ty → Option (List ℕ × List ChunkData) → List Item
collect_rest t None = []
collect_rest t (Some x) = (x.0, concatenated t x.1) ∷ []

abbrev pub collect_ends : GroupedNode → Option (List ℕ × List ChunkData) → List Act
collect_ends n x = put_all (collect_rest n.type x) ++ (close_queues (0 ∷ []) ∷ [])

abbrev pub collect_kept : Option (List ℕ × List ChunkData) → List (List ℕ)
collect_kept None = []
collect_kept (Some x) = x.0 ∷ []
