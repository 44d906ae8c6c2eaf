-- Behind the first action of a block none takes.
use Rattle.std.proofs.Common.{ℕ, suc, ◌+◌, Bool, true, false, List, [], ◌∷◌, ◌++◌, Option, Some, None, refl}
use Rattle.std.specs.Prelude.{if◌then◌else◌}
use Rattle.vx_model.specs.ChunkData.{ChunkData}
use Rattle.vx_model.specs.Words.{tail}
use Rattle.vx_path.specs.Path.{Eof, next}
use Rattle.vx_rules.specs.Regroup.{ranked}
use Rattle.vx_rules.specs.Columns.{struct_columns, list_columns}
use Rattle.vx_tasks.specs.Task.Kind.{Join}
use Rattle.vx_zone_spec.specs.ZoneTable.{Filled, kept_columns}
use Rattle.vx_plan.specs.PlanData.{Setting, Item}
use Rattle.vx_plan.specs.DictNode.{is_dictionary}
use Rattle.vx_machine_turns.specs.Forms.{Writer}
use Rattle.vx_machine_turns.specs.Locals.{Local, GroupedNode, DictNode, ZonedNode, flat_empty, flat_full, flat_many, chunked_local, struct_local, list_local, blocks_local, bytes_local, collect_local, compressed_local, outlet_local, dict_local, fallback_local, runs_local, zoned_local, idle_local, source_local, outside_local}
use Rattle.vx_machine_turns.specs.Acts.{Act, does, close_queues}
use Rattle.vx_machine_turns.specs.Flat.{flat_append}
use Rattle.vx_machine_turns.specs.Columns.{column_puts, column_ends}
use Rattle.vx_machine_turns.specs.Grouped.{Grouper, block_grouper, byte_grouper, weighed_puts, group_turn, group_rest, group_ends}
use Rattle.vx_machine_turns.specs.Collected.{collect_ends}
use Rattle.vx_machine_turns.specs.Dict.{Stretch, ended_puts, cut_puts, dict_turn, runs_first, fallback_first, next_cut, last_stretches}
use Rattle.vx_machine_turns.specs.Zoned.{zone_columns, zoned_ends}
use Rattle.vx_machine_turns.specs.Turns.{turn, more_at_end}
use Rattle.vx_machine_turns.specs.Scripts.{Calm, TurnsAreCalm}

flat_calm : (i : Item) (b : Option (List ℕ)) → Calm (flat_append i b)
flat_calm i None = tt
flat_calm i (Some bytes) = (refl, tt)

columns_calm : (c : ℕ) (p : List ℕ) (ps : List ChunkData) (ws : List Writer) → Calm (column_puts c p ps ws)
columns_calm c p ps [] = tt
columns_calm c p ps (w ∷ ws) = (refl, columns_calm (suc c) p (tail ps) ws)

ends_calm : (ws : List Writer) → Calm (column_ends ws)
ends_calm [] = tt
ends_calm (w ∷ ws) = (refl, (refl, tt))

weighed_calm : (w : ChunkData → ℕ) (is : List Item) (acts : List Act) → Calm acts → Calm (weighed_puts w is ++ acts)
weighed_calm w [] acts h = h
weighed_calm w (i ∷ is) acts h = (refl, weighed_calm w is acts h)

weighed_only : (w : ChunkData → ℕ) (is : List Item) → Calm (weighed_puts w is)
weighed_only w [] = tt
weighed_only w (i ∷ is) = (refl, weighed_only w is)

group_calm : {S : Type 0} (g : Grouper S) (after : S → Option Item → ℕ → Local) (x : S) (j : Option Item) (rows : ℕ) (i : Item) → Calm (group_turn g after x j rows i).more
group_calm g after x None rows i = tt
group_calm g after x (Some j) rows i = weighed_only g.weight (ranked j.0 0 (g.rule.leaves x j.1))

group_ends_calm : {S : Type 0} (g : Grouper S) (x : S) (j : Option Item) → Calm (group_ends g x j)
group_ends_calm g x j = weighed_calm g.weight (group_rest g x j) (close_queues (0 ∷ []) ∷ []) (refl, tt)

collect_calm : (n : GroupedNode) (x : Option (List ℕ × List ChunkData)) → Calm (collect_ends n x)
collect_calm n None = (refl, tt)
collect_calm n (Some x) = (refl, (refl, tt))

cut_calm : (s : Setting) (n : DictNode) (p : List ℕ) (rank base : ℕ) (e : Eof) (begun : Bool) (xs : List Stretch) (codes : List ℕ) → Calm (cut_puts s n p rank base e begun xs codes)
cut_calm s n p rank base e begun [] codes = (refl, tt)
cut_calm s n p rank base e begun (x ∷ xs) codes = (refl, (refl, cut_calm s n p (rank + 2) (suc (suc base)) (next (next e)) false xs codes))

ended_calm : (s : Setting) (n : DictNode) (p : List ℕ) (rank base : ℕ) (e : Eof) (begun : Bool) (xs : List Stretch) (acts : List Act) → Calm acts → Calm (ended_puts s n p rank base e begun xs ++ acts)
ended_calm s n p rank base e begun [] acts h = h
ended_calm s n p rank base e begun (x ∷ xs) acts h = (refl, (refl, ended_calm s n p (rank + 2) (suc (suc base)) (next (next e)) false xs acts h))

dict_calm : (s : Setting) (n : DictNode) (i : Item) → Calm (dict_turn s n i).more
dict_calm s n i = go (is_dictionary (s.image n.options.probe i.1))
  where
    go : (b : Bool) → Calm (if b then runs_first n i else fallback_first s n i).more
    go true = (refl, tt)
    go false = (refl, (refl, tt))

zoned_calm : (s : Setting) (n : ZonedNode) (zones : ℕ) (table : Option (List Filled)) → Calm (zoned_ends s n zones table)
zoned_calm s n zones None = (refl, (refl, tt))
zoned_calm s n zones (Some cs) = (refl, (refl, (refl, tt)))

pub calm_turn : (s : Setting) (l : Local) (i : Item) → Calm (turn s l i).more
calm_turn s (flat_empty o t) i = tt
calm_turn s (flat_full o t j b) i = tt
calm_turn s flat_many i = tt
calm_turn s (chunked_local n j e rows) i = tt
calm_turn s (struct_local n rows) i = columns_calm 0 i.0 (struct_columns n.fields n.nullable i.1) n.writers
calm_turn s (list_local n first from rows) i = columns_calm 0 i.0 (list_columns n.elements n.nullable first from i.1) n.writers
calm_turn s (blocks_local o n x j rows) i = group_calm (block_grouper o n.type) (blocks_local o n) x j rows i
calm_turn s (bytes_local size n x j rows) i = group_calm (byte_grouper size) (bytes_local size n) x j rows i
calm_turn s (collect_local n x rows) i = tt
calm_turn s (compressed_local n) i = (refl, (refl, tt))
calm_turn s (outlet_local n) i = (refl, tt)
calm_turn s (dict_local n) i = dict_calm s n i
calm_turn s fallback_local i = (refl, tt)
calm_turn s (runs_local n r j rows) i = cut_calm s n j.0 0 r.base r.eof r.begun (next_cut n r j).closed (next_cut n r j).codes
calm_turn s (zoned_local n records last zones rows) i = (refl, tt)
calm_turn s idle_local i = tt
calm_turn s (source_local f m o) i = tt
calm_turn s outside_local i = tt

pub calm_end : (s : Setting) (l : Local) → Calm (more_at_end s l)
calm_end s (flat_empty o t) = tt
calm_end s (flat_full o t j b) = flat_calm j b
calm_end s flat_many = tt
calm_end s (chunked_local n j e rows) = (refl, tt)
calm_end s (struct_local n rows) = ends_calm n.writers
calm_end s (list_local n true from rows) = tt
calm_end s (list_local n false from rows) = ends_calm n.writers
calm_end s (blocks_local o n x j rows) = group_ends_calm (block_grouper o n.type) x j
calm_end s (bytes_local size n x j rows) = group_ends_calm (byte_grouper size) x j
calm_end s (collect_local n x rows) = collect_calm n x
calm_end s (compressed_local n) = (refl, tt)
calm_end s (outlet_local n) = (refl, tt)
calm_end s (dict_local n) = (refl, tt)
calm_end s fallback_local = (refl, tt)
calm_end s (runs_local n r j rows) = ended_calm s n j.0 0 r.base r.eof r.begun (last_stretches n r j) (does Join ∷ []) (refl, tt)
calm_end s (zoned_local n records last zones rows) = zoned_calm s n zones (kept_columns (zone_columns n) records)
calm_end s idle_local = tt
calm_end s (source_local f m o) = tt
calm_end s outside_local = tt

pub turns_are_calm : TurnsAreCalm
turns_are_calm s l = (calm_turn s l, calm_end s l)
