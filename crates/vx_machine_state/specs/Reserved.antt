-- What tasks have reserved in the tracker.
use Rattle.std.specs.Prelude.{◌+◌, ℕ, List, [], ◌∷◌, Option, Some, None}
use Rattle.vx_model.specs.Words.{total_by}
use Rattle.vx_model.specs.ChunkData.{held}
use Rattle.vx_plan.specs.PlanData.{Item}
use Rattle.vx_machine_state.specs.State.{Next, put, hand_on, press, probe, open_run, end_run, append, shut_kids, join_kids, start_table, leave_kid, Mind, no_chunk, one_chunk, by_chunk, by_column, by_list, by_block, by_size, as_one, by_image, as_is, by_probe, asking, by_run, by_zone, ending, passing, made, Tasks, no_tasks, task_then}

-- what a task is about to hand on
abbrev pub next_reserved : List Next → ℕ
next_reserved [] = 0
next_reserved (put j i ∷ todo) = next_reserved todo
next_reserved (hand_on n i ∷ todo) = n + next_reserved todo
next_reserved (press which i ∷ todo) = next_reserved todo
next_reserved (probe n e i ∷ todo) = next_reserved todo
next_reserved (open_run n j e i ∷ todo) = next_reserved todo
next_reserved (end_run j i ∷ todo) = next_reserved todo
next_reserved (append x ∷ todo) = next_reserved todo
next_reserved (shut_kids ∷ todo) = next_reserved todo
next_reserved (join_kids f ∷ todo) = next_reserved todo
next_reserved (start_table f e p ∷ todo) = next_reserved todo
next_reserved (leave_kid e ∷ todo) = next_reserved todo

abbrev pub newest_held : Option Item → ℕ
newest_held None = 0
newest_held (Some j) = held j.1

-- what a buffer holds, with the newest chunk
abbrev pub mind_reserved : Mind → ℕ
mind_reserved (by_size size x j rows) = total_by held x + newest_held j
mind_reserved (no_chunk o t) = 0
mind_reserved (one_chunk x) = 0
mind_reserved (by_chunk m t f e rows) = 0
mind_reserved (by_column t rows) = 0
mind_reserved (by_list t n first from rows) = 0
mind_reserved (by_block len minimum t x j rows) = 0
mind_reserved (as_one t x rows) = 0
mind_reserved (by_zone g e z) = 0
mind_reserved (by_image which) = 0
mind_reserved as_is = 0
mind_reserved (by_probe n e) = 0
mind_reserved asking = 0
mind_reserved (by_run n r j rows) = 0
mind_reserved ending = 0
mind_reserved passing = 0
mind_reserved (made l) = 0

-- of these tasks and all below them
abbrev pub reserved_by : Tasks → ℕ
reserved_by no_tasks = 0
reserved_by (task_then c ks r) = ((next_reserved c.todo + mind_reserved c.mind) + reserved_by ks) + reserved_by r
