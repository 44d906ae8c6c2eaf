-- Whether a task has its layout, and nothing else.
use Rattle.std.specs.Prelude.{◌&&◌, Bool, true, false}
use Rattle.vx_machine_state.specs.State.{Mind, no_chunk, one_chunk, by_chunk, by_column, by_list, by_block, by_size, as_one, by_image, as_is, by_probe, asking, by_run, by_zone, ending, passing, made, Tasks, no_tasks, task_then}
use Rattle.vx_machine_state.specs.Moves.{is_empty}

abbrev pub no_more : Tasks → Bool
no_more no_tasks = true
no_more (task_then c ks r) = false

abbrev pub is_alone : Tasks → Bool
is_alone no_tasks = false
is_alone (task_then c ks r) = no_more r

-- whether the layout is there, where this is told of the first child
abbrev pub has_layout : Mind → Tasks → Bool → Bool
has_layout (made l) ks below = no_more ks
has_layout passing ks below = is_alone ks && below
has_layout (no_chunk o t) ks below = false
has_layout (one_chunk x) ks below = false
has_layout (by_chunk m t f e rows) ks below = false
has_layout (by_column t rows) ks below = false
has_layout (by_list t n first from rows) ks below = false
has_layout (by_block len minimum t x j rows) ks below = false
has_layout (by_size size x j rows) ks below = false
has_layout (as_one t x rows) ks below = false
has_layout (by_zone g e z) ks below = false
has_layout (by_image which) ks below = false
has_layout as_is ks below = false
has_layout (by_probe n e) ks below = false
has_layout asking ks below = false
has_layout (by_run n r j rows) ks below = false
has_layout ending ks below = false

-- the first one's layout is there, its own or that of its only child, and nothing else
abbrev pub is_done : Tasks → Bool
is_done no_tasks = false
is_done (task_then c ks r) = has_layout c.mind ks (is_done ks) && (is_empty c.todo && is_empty c.inbox)
