-- What a task does at an item and at the end, by what it has in mind: a line a kind of node.
use Rattle.std.specs.Prelude.{ℕ, List, [], ◌∷◌}
use Rattle.vx_zone_spec.specs.ZoneTable.{kept_columns}
use Rattle.vx_tasks.specs.Task.Kind.{Take, TakeEnd}
use Rattle.vx_plan.specs.PlanData.{Setting, Item}
use Rattle.vx_machine_turns.specs.Locals.{Local, flat_empty, flat_full, flat_many, chunked_local, struct_local, list_local, blocks_local, bytes_local, collect_local, compressed_local, outlet_local, dict_local, fallback_local, runs_local, zoned_local, idle_local, source_local, outside_local}
use Rattle.vx_machine_turns.specs.Acts.{Seed, Act, Turn, does, close_queues, ends_as, passes}
use Rattle.vx_machine_turns.specs.Flat.{flat_first, flat_second, flat_later, flat_empty_end, flat_end, flat_append, flat_kept}
use Rattle.vx_machine_turns.specs.Chunked.{chunked_turn, chunked_end, chunked_join, chunked_kept}
use Rattle.vx_machine_turns.specs.Columns.{column_seeds, column_ends, column_indices}
use Rattle.vx_machine_turns.specs.Struct.{struct_turn, struct_end}
use Rattle.vx_machine_turns.specs.ListNode.{list_turn, list_end, list_ends}
use Rattle.vx_machine_turns.specs.Grouped.{block_grouper, byte_grouper, group_turn, group_end, group_ends, group_kept, grouped_firsts}
use Rattle.vx_machine_turns.specs.Collected.{collect_turn, collect_ends, collect_kept}
use Rattle.vx_machine_turns.specs.Compressed.{compressed_turn, outlet_turn, outlet_seed, outlet_firsts}
use Rattle.vx_machine_turns.specs.Dict.{dict_turn, dict_empty_end, dict_kept, fallback_turn, runs_turn, runs_end, runs_ends, runs_kept}
use Rattle.vx_machine_turns.specs.Zoned.{zone_columns, zoned_turn, zoned_end, zoned_ends, zoned_kept, zoned_firsts, zoned_indices}
use Rattle.vx_machine_turns.specs.Source.{firsts_at, kept_at, outside_firsts}

abbrev pub idle_turn : Local → Turn
idle_turn l = record { first = does Take; more = []; after = l }

-- at an item
abbrev pub turn : Setting → Local → Item → Turn
turn s (flat_empty o t) i = flat_first s o t i
turn s (flat_full o t j b) i = flat_second
turn s flat_many i = flat_later
turn s (chunked_local n j e rows) i = chunked_turn s n j e rows i
turn s (struct_local n rows) i = struct_turn n rows i
turn s (list_local n first from rows) i = list_turn n first from rows i
turn s (blocks_local o n x j rows) i = group_turn (block_grouper o n.type) (blocks_local o n) x j rows i
turn s (bytes_local size n x j rows) i = group_turn (byte_grouper size) (bytes_local size n) x j rows i
turn s (collect_local n x rows) i = collect_turn n x rows i
turn s (compressed_local n) i = compressed_turn s n i
turn s (outlet_local n) i = outlet_turn n i
turn s (dict_local n) i = dict_turn s n i
turn s fallback_local i = fallback_turn i
turn s (runs_local n r j rows) i = runs_turn s n r j rows i
turn s (zoned_local n records last zones rows) i = zoned_turn s n records last zones rows i
turn s idle_local i = idle_turn idle_local
turn s (source_local f m o) i = idle_turn (source_local f m o)
turn s outside_local i = idle_turn outside_local

-- at the end: the first action takes it
abbrev pub first_at_end : Setting → Local → Act
first_at_end s (flat_empty o t) = flat_empty_end t
first_at_end s (flat_full o t j b) = flat_end s o t j
first_at_end s flat_many = does TakeEnd
first_at_end s (chunked_local n j e rows) = chunked_end n rows
first_at_end s (struct_local n rows) = struct_end n rows
first_at_end s (list_local n first from rows) = list_end n first rows
first_at_end s (blocks_local o n x j rows) = group_end (block_grouper o n.type) x j
first_at_end s (bytes_local size n x j rows) = group_end (byte_grouper size) x j
first_at_end s (collect_local n x rows) = ends_as passes
first_at_end s (compressed_local n) = ends_as passes
first_at_end s (outlet_local n) = ends_as passes
first_at_end s (dict_local n) = dict_empty_end s n
first_at_end s fallback_local = ends_as passes
first_at_end s (runs_local n r j rows) = runs_end n r j rows
first_at_end s (zoned_local n records last zones rows) = zoned_end n zones rows (kept_columns (zone_columns n) records)
first_at_end s idle_local = does TakeEnd
first_at_end s (source_local f m o) = does TakeEnd
first_at_end s outside_local = does TakeEnd

abbrev pub more_at_end : Setting → Local → List Act
more_at_end s (flat_empty o t) = []
more_at_end s (flat_full o t j b) = flat_append j b
more_at_end s flat_many = []
more_at_end s (chunked_local n j e rows) = chunked_join
more_at_end s (struct_local n rows) = column_ends n.writers
more_at_end s (list_local n first from rows) = list_ends n first
more_at_end s (blocks_local o n x j rows) = group_ends (block_grouper o n.type) x j
more_at_end s (bytes_local size n x j rows) = group_ends (byte_grouper size) x j
more_at_end s (collect_local n x rows) = collect_ends n x
more_at_end s (compressed_local n) = close_queues (0 ∷ []) ∷ []
more_at_end s (outlet_local n) = close_queues (0 ∷ []) ∷ []
more_at_end s (dict_local n) = close_queues (0 ∷ []) ∷ []
more_at_end s fallback_local = close_queues (0 ∷ []) ∷ []
more_at_end s (runs_local n r j rows) = runs_ends s n r j
more_at_end s (zoned_local n records last zones rows) = zoned_ends s n zones (kept_columns (zone_columns n) records)
more_at_end s idle_local = []
more_at_end s (source_local f m o) = []
more_at_end s outside_local = []

-- the children that are started with a task
abbrev pub firsts_of : Local → List Seed
firsts_of (flat_empty o t) = []
firsts_of (flat_full o t j b) = []
firsts_of flat_many = []
firsts_of (chunked_local n j e rows) = []
firsts_of (struct_local n rows) = column_seeds n.name 0 n.writers n.eof
firsts_of (list_local n first from rows) = column_seeds n.name 0 n.writers n.eof
firsts_of (blocks_local o n x j rows) = grouped_firsts n
firsts_of (bytes_local size n x j rows) = grouped_firsts n
firsts_of (collect_local n x rows) = grouped_firsts n
firsts_of (compressed_local n) = outlet_seed n ∷ []
firsts_of (outlet_local n) = outlet_firsts n
firsts_of (dict_local n) = []
firsts_of fallback_local = []
firsts_of (runs_local n r j rows) = []
firsts_of (zoned_local n records last zones rows) = zoned_firsts n
firsts_of idle_local = []
firsts_of (source_local f m o) = firsts_at f m o
firsts_of outside_local = outside_firsts

abbrev pub firsts : Seed → List Seed
firsts q = firsts_of q.local

-- the paths that a task keeps by itself
abbrev pub kept : Local → List (List ℕ)
kept (flat_empty o t) = []
kept (flat_full o t j b) = flat_kept j b
kept flat_many = []
kept (chunked_local n j e rows) = chunked_kept e
kept (struct_local n rows) = []
kept (list_local n first from rows) = []
kept (blocks_local o n x j rows) = group_kept j
kept (bytes_local size n x j rows) = group_kept j
kept (collect_local n x rows) = collect_kept x
kept (compressed_local n) = []
kept (outlet_local n) = []
kept (dict_local n) = dict_kept n
kept fallback_local = []
kept (runs_local n r j rows) = runs_kept r j
kept (zoned_local n records last zones rows) = zoned_kept n
kept idle_local = []
kept (source_local f m o) = kept_at o
kept outside_local = []

-- how far a task's start moves its pointer
abbrev pub start_indices : Local → List ℕ
start_indices (flat_empty o t) = []
start_indices (flat_full o t j b) = []
start_indices flat_many = []
start_indices (chunked_local n j e rows) = []
start_indices (struct_local n rows) = column_indices n.writers n.eof
start_indices (list_local n first from rows) = column_indices n.writers n.eof
start_indices (blocks_local o n x j rows) = []
start_indices (bytes_local size n x j rows) = []
start_indices (collect_local n x rows) = []
start_indices (compressed_local n) = []
start_indices (outlet_local n) = []
start_indices (dict_local n) = []
start_indices fallback_local = []
start_indices (runs_local n r j rows) = []
start_indices (zoned_local n records last zones rows) = zoned_indices n
start_indices idle_local = []
start_indices (source_local f m o) = []
start_indices outside_local = []
