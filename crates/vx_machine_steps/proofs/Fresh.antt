-- Each task that is started begins at the start of its script, so all scripts are neat.
use Rattle.std.proofs.Common.{◌≡◌, ℕ, suc, ◌+◌, Bool, true, false, if◌then◌else◌, List, [], ◌∷◌, ◌++◌, length, Option, Some, None, refl, sym, subst}
use Rattle.vx_model.specs.ChunkData.{ChunkData}
use Rattle.vx_model.specs.Words.{tail}
use Rattle.vx_path.specs.Path.{Eof, under, inside, next}
use Rattle.vx_rules.specs.Columns.{struct_columns, list_columns}
use Rattle.vx_rules.specs.Regroup.{ranked}
use Rattle.vx_zone_spec.specs.ZoneTable.{Filled, kept_columns, table_type}
use Rattle.vx_tasks.specs.Task.Kind.{Take, TakeEnd, Join}
use Rattle.vx_plan.specs.PlanData.{Setting, Item}
use Rattle.vx_plan.specs.DictNode.{is_dictionary}
use Rattle.vx_machine_turns.specs.Forms.{Writer}
use Rattle.vx_machine_turns.specs.Locals.{Local, DictNode, ZonedNode, flat_empty, flat_full, flat_many, chunked_local, struct_local, list_local, blocks_local, bytes_local, collect_local, compressed_local, outlet_local, dict_local, fallback_local, runs_local, zoned_local, idle_local, source_local, outside_local}
use Rattle.vx_machine_turns.specs.Acts.{Seed, Act, does, put_all, close_queues, gifts, shut, births}
use Rattle.vx_machine_turns.specs.Flat.{flat_append}
use Rattle.vx_machine_turns.specs.Columns.{column_seeds, column_puts, column_ends}
use Rattle.vx_machine_turns.specs.Grouped.{Grouper, block_grouper, byte_grouper, weighed_puts, group_turn, group_end, group_rest, group_ends}
use Rattle.vx_machine_turns.specs.Collected.{collect_rest}
use Rattle.vx_machine_turns.specs.Dict.{Stretch, run_seeds, fallback_seed, ended_puts, cut_puts, runs_first, fallback_first, next_cut, last_stretches}
use Rattle.vx_machine_turns.specs.Zoned.{zone_columns, zoned_end, zoned_ends}
use Rattle.vx_machine_turns.specs.Source.{named_acts, seed_at}
use Rattle.vx_machine_turns.proofs.WholeLaws.{source_is_tidy}
use Rattle.vx_machine_turns.specs.Turns.{turn, first_at_end, more_at_end, firsts, firsts_of, kept}
use Rattle.vx_machine_turns.specs.Scripts.{as_kind, filled, block, script}
use Rattle.vx_machine_turns.specs.Fuels.{Fuel, spent, fuel, less}
use Rattle.vx_machine_turns.specs.Readings.{row_of, unread}
use Rattle.vx_machine_turns.specs.Plain.{task_of, script_reading}
use Rattle.vx_machine_turns.specs.Tidy.{Tidy, started}
use Rattle.vx_machine_turns.proofs.TidyLaws.{scripts_are_tidy, firsts_are_started}
use Rattle.vx_machine_steps.specs.Stands.{Neat, AllNeat}
use Rattle.vx_machine_steps.specs.Start.{root_at}
use Rattle.vx_machine_steps.specs.Laws.{StartIsNeat}
use Rattle.vx_machine_steps.proofs.Neats.{tidy_is_neat}
use Rattle.vx_machine_steps.proofs.Start.{start_at_reads}

-- its first children are those that its script counts as started
abbrev pub IsFresh : Seed → Type 0
IsFresh q = length (firsts q) ≡ started q.local

abbrev pub AllFresh : List Seed → Type 0
AllFresh [] = Unit {0}
AllFresh (q ∷ qs) = IsFresh q × AllFresh qs

-- so it is with all that the acts start
abbrev pub FreshActs : List Act → Type 0
FreshActs [] = Unit {0}
FreshActs (a ∷ acts) = AllFresh a.starts × FreshActs acts

fresh_append : (xs ys : List Seed) → AllFresh xs → AllFresh ys → AllFresh (xs ++ ys)
fresh_append [] ys f g = g
fresh_append (q ∷ xs) ys f g = (f.0, fresh_append xs ys f.1 g)

acts_append : (xs ys : List Act) → FreshActs xs → FreshActs ys → FreshActs (xs ++ ys)
acts_append [] ys f g = g
acts_append (a ∷ xs) ys f g = (f.0, acts_append xs ys f.1 g)

births_fresh : (acts : List Act) → FreshActs acts → AllFresh (births acts)
births_fresh [] f = tt
births_fresh (a ∷ acts) f = fresh_append a.starts (births acts) f.0 (births_fresh acts f.1)

filled_fresh : (keep : List (List ℕ)) (acts : List Act) → FreshActs acts → FreshActs (filled keep acts)
filled_fresh keep [] f = tt
filled_fresh keep (a ∷ acts) f = (f.0, filled_fresh keep acts f.1)

-- Of each kind of node.

columns_fresh : (name : List ℕ) (c : ℕ) (ws : List Writer) (e : Eof) → AllFresh (column_seeds name c ws e)
columns_fresh name c [] e = tt
columns_fresh name c (w ∷ ws) e = (firsts_are_started w.1 w.0 (under name c) (inside e), columns_fresh name (suc c) ws (next e))

column_puts_fresh : (c : ℕ) (p : List ℕ) (columns : List ChunkData) (ws : List Writer) → FreshActs (column_puts c p columns ws)
column_puts_fresh c p columns [] = tt
column_puts_fresh c p columns (w ∷ ws) = (tt, column_puts_fresh (suc c) p (tail columns) ws)

column_ends_fresh : (ws : List Writer) → FreshActs (column_ends ws)
column_ends_fresh [] = tt
column_ends_fresh (w ∷ ws) = (tt, (tt, tt))

puts_fresh : (is : List Item) → FreshActs (put_all is)
puts_fresh [] = tt
puts_fresh (i ∷ is) = (tt, puts_fresh is)

weighed_fresh : (weight : ChunkData → ℕ) (is : List Item) → FreshActs (weighed_puts weight is)
weighed_fresh weight [] = tt
weighed_fresh weight (i ∷ is) = (tt, weighed_fresh weight is)

group_fresh : {S : Type 0} (g : Grouper S) (after : S → Option Item → ℕ → Local) (x : S) (j : Option Item) (rows : ℕ) (i : Item)
    → FreshActs ((group_turn g after x j rows i).first ∷ (group_turn g after x j rows i).more)
group_fresh g after x None rows i = (tt, tt)
group_fresh g after x (Some j) rows i = (tt, weighed_fresh g.weight (ranked j.0 0 (g.rule.leaves x j.1)))

group_ends_fresh : {S : Type 0} (g : Grouper S) (x : S) (j : Option Item) → FreshActs (group_end g x j ∷ group_ends g x j)
group_ends_fresh g x None = (tt, acts_append (weighed_puts g.weight (group_rest g x None)) (close_queues (0 ∷ []) ∷ []) (weighed_fresh g.weight (group_rest g x None)) (tt, tt))
group_ends_fresh g x (Some j) =
    (tt, acts_append (weighed_puts g.weight (group_rest g x (Some j))) (close_queues (0 ∷ []) ∷ []) (weighed_fresh g.weight (group_rest g x (Some j))) (tt, tt))

runs_fresh : (n : DictNode) (base : ℕ) (e : Eof) (begun : Bool) → AllFresh (if begun then [] else run_seeds n base e)
runs_fresh n base e true = tt
runs_fresh n base e false =
    (firsts_are_started n.codes n.mark (under n.name base) (inside e), (firsts_are_started n.values n.mark (under n.name (suc base)) (inside (next e)), tt))

ended_fresh : (s : Setting) (n : DictNode) (p : List ℕ) (rank base : ℕ) (e : Eof) (begun : Bool) (xs : List Stretch) → FreshActs (ended_puts s n p rank base e begun xs)
ended_fresh s n p rank base e begun [] = tt
ended_fresh s n p rank base e begun (x ∷ xs) = (runs_fresh n base e begun, (tt, ended_fresh s n p (rank + 2) (suc (suc base)) (next (next e)) false xs))

cut_fresh : (s : Setting) (n : DictNode) (p : List ℕ) (rank base : ℕ) (e : Eof) (begun : Bool) (xs : List Stretch) (codes : List ℕ)
    → FreshActs (cut_puts s n p rank base e begun xs codes)
cut_fresh s n p rank base e begun [] codes = (runs_fresh n base e begun, tt)
cut_fresh s n p rank base e begun (x ∷ xs) codes = (runs_fresh n base e begun, (tt, cut_fresh s n p (rank + 2) (suc (suc base)) (next (next e)) false xs codes))

fallback_fresh : (n : DictNode) → AllFresh (fallback_seed n ∷ [])
fallback_fresh n = (firsts_are_started n.fallback n.mark (under n.name 0) n.eof, tt)

dict_fresh : (s : Setting) (n : DictNode) (i : Item) (b : Bool)
    → FreshActs ((if b then runs_first n i else fallback_first s n i).first ∷ (if b then runs_first n i else fallback_first s n i).more)
dict_fresh s n i true = (tt, (tt, tt))
dict_fresh s n i false = (tt, (fallback_fresh n, (tt, tt)))

append_fresh : (i : Item) (b : Option (List ℕ)) → FreshActs (flat_append i b)
append_fresh i None = tt
append_fresh i (Some bytes) = (tt, tt)

zoned_fresh : (s : Setting) (n : ZonedNode) (zones rows : ℕ) (table : Option (List Filled)) → FreshActs (zoned_end n zones rows table ∷ zoned_ends s n zones table)
zoned_fresh s n zones rows None = (tt, (tt, (tt, tt)))
zoned_fresh s n zones rows (Some cs) = (tt, (tt, ((firsts_are_started (n.table (table_type cs)) false (under n.name 1) (next (next n.eof)), tt), (tt, tt))))

turn_fresh : (s : Setting) (l : Local) (i : Item) → FreshActs ((turn s l i).first ∷ (turn s l i).more)
turn_fresh s (flat_empty o t) i = (tt, tt)
turn_fresh s (flat_full o t j b) i = (tt, tt)
turn_fresh s flat_many i = (tt, tt)
turn_fresh s (chunked_local n j e rows) i = ((firsts_are_started n.child n.mark (under n.name j) (inside e), tt), tt)
turn_fresh s (struct_local n rows) i = (tt, column_puts_fresh 0 i.0 (struct_columns n.fields n.nullable i.1) n.writers)
turn_fresh s (list_local n first from rows) i = (tt, column_puts_fresh 0 i.0 (list_columns n.elements n.nullable first from i.1) n.writers)
turn_fresh s (blocks_local o n x j rows) i = group_fresh (block_grouper o n.type) (blocks_local o n) x j rows i
turn_fresh s (bytes_local size n x j rows) i = group_fresh (byte_grouper size) (bytes_local size n) x j rows i
turn_fresh s (collect_local n x rows) i = (tt, tt)
turn_fresh s (compressed_local n) i = (tt, (tt, (tt, tt)))
turn_fresh s (outlet_local n) i = (tt, (tt, tt))
turn_fresh s (dict_local n) i = dict_fresh s n i (is_dictionary (s.image n.options.probe i.1))
turn_fresh s fallback_local i = (tt, (tt, tt))
turn_fresh s (runs_local n r j rows) i = (tt, cut_fresh s n j.0 0 r.base r.eof r.begun (next_cut n r j).closed (next_cut n r j).codes)
turn_fresh s (zoned_local n records last zones rows) i = (tt, (tt, tt))
turn_fresh s idle_local i = (tt, tt)
turn_fresh s (source_local f m o) i = (tt, tt)
turn_fresh s outside_local i = (tt, tt)

end_fresh : (s : Setting) (l : Local) → FreshActs (first_at_end s l ∷ more_at_end s l)
end_fresh s (flat_empty o t) = (tt, tt)
end_fresh s (flat_full o t j b) = (tt, append_fresh j b)
end_fresh s flat_many = (tt, tt)
end_fresh s (chunked_local n j e rows) = (tt, (tt, tt))
end_fresh s (struct_local n rows) = (tt, column_ends_fresh n.writers)
end_fresh s (list_local n true from rows) = (tt, tt)
end_fresh s (list_local n false from rows) = (tt, column_ends_fresh n.writers)
end_fresh s (blocks_local o n x j rows) = group_ends_fresh (block_grouper o n.type) x j
end_fresh s (bytes_local size n x j rows) = group_ends_fresh (byte_grouper size) x j
end_fresh s (collect_local n x rows) =
    (tt, acts_append (put_all (collect_rest n.type x)) (close_queues (0 ∷ []) ∷ []) (puts_fresh (collect_rest n.type x)) (tt, tt))
end_fresh s (compressed_local n) = (tt, (tt, tt))
end_fresh s (outlet_local n) = (tt, (tt, tt))
end_fresh s (dict_local n) = (fallback_fresh n, (tt, tt))
end_fresh s fallback_local = (tt, (tt, tt))
end_fresh s (runs_local n r j rows) =
    (tt, acts_append (ended_puts s n j.0 0 r.base r.eof r.begun (last_stretches n r j)) (does Join ∷ []) (ended_fresh s n j.0 0 r.base r.eof r.begun (last_stretches n r j)) (tt, tt))
end_fresh s (zoned_local n records last zones rows) = zoned_fresh s n zones rows (kept_columns (zone_columns n) records)
end_fresh s idle_local = (tt, tt)
end_fresh s (source_local f m o) = (tt, tt)
end_fresh s outside_local = (tt, tt)

firsts_fresh : (l : Local) → AllFresh (firsts_of l)
firsts_fresh (flat_empty o t) = tt
firsts_fresh (flat_full o t j b) = tt
firsts_fresh flat_many = tt
firsts_fresh (chunked_local n j e rows) = tt
firsts_fresh (struct_local n rows) = columns_fresh n.name 0 n.writers n.eof
firsts_fresh (list_local n first from rows) = columns_fresh n.name 0 n.writers n.eof
firsts_fresh (blocks_local o n x j rows) = (firsts_are_started n.child n.mark (under n.name 0) n.eof, tt)
firsts_fresh (bytes_local size n x j rows) = (firsts_are_started n.child n.mark (under n.name 0) n.eof, tt)
firsts_fresh (collect_local n x rows) = (firsts_are_started n.child n.mark (under n.name 0) n.eof, tt)
firsts_fresh (compressed_local n) = (refl, tt)
firsts_fresh (outlet_local n) = (firsts_are_started n.child n.mark (under n.name 1) n.eof, tt)
firsts_fresh (dict_local n) = tt
firsts_fresh fallback_local = tt
firsts_fresh (runs_local n r j rows) = tt
firsts_fresh (zoned_local n records last zones rows) = (firsts_are_started n.child false (under n.name 0) (inside n.eof), tt)
firsts_fresh idle_local = tt
firsts_fresh (source_local f m o) = (firsts_are_started f m (1 ∷ []) o.eof, tt)
firsts_fresh outside_local = (refl, tt)

-- Of all tasks.

script_fresh : (s : Setting) (l : Local) (xs : List Item) (ended : Bool) → FreshActs (script s l xs ended)
script_fresh s l [] false = tt
script_fresh s l [] true = filled_fresh [] (as_kind TakeEnd (first_at_end s l) ∷ more_at_end s l) (end_fresh s l)
script_fresh s l (x ∷ xs) ended = acts_append (block s l x) (script s (turn s l x).after xs ended)
    (filled_fresh (kept (turn s l x).after) (as_kind Take (turn s l x).first ∷ (turn s l x).more) (turn_fresh s l x)) (script_fresh s (turn s l x).after xs ended)

task_neat : (s : Setting) (q : Seed) (xs : List Item) (ended : Bool) → IsFresh q → Neat (task_of q (script s q.local xs ended))
task_neat s q xs ended e = tidy_is_neat q (script s q.local xs ended) (subst (λ z. Tidy z (script s q.local xs ended)) (sym e) (scripts_are_tidy s q.local xs ended))

pub unread_neat : (s : Setting) (d : Fuel) (j : ℕ) (qs : List Seed) (acts : List Act) → AllFresh qs → AllNeat (unread s script_reading d j qs acts)
unread_neat s spent j qs acts f = tt
unread_neat s (fuel g) j qs acts f = along j qs f (λ q fs sc h. unread_neat s (g q.type) 0 fs sc h)
  where
    along : (j : ℕ) (qs : List Seed) → AllFresh qs → ((q : Seed) (fs : List Seed) (sc : List Act) → AllFresh fs → AllNeat (unread s script_reading (g q.type) 0 fs sc))
        → AllNeat (row_of s script_reading (λ q. unread s script_reading (g q.type) 0) j qs acts)
    along j [] f deep = tt
    along j (q ∷ qs) f deep =
        let sc : List Act = script s q.local (gifts j acts) (shut j acts) in (
          task_neat s q (gifts j acts) (shut j acts) f.0,
          deep q (firsts q ++ births sc) sc
              (fresh_append (firsts q) (births sc) (firsts_fresh q.local) (births_fresh sc (script_fresh s q.local (gifts j acts) (shut j acts)))),
          along (suc j) qs f.1 deep,
        )

pub start_is_neat : StartIsNeat
start_is_neat s d f m o bs fits = subst AllNeat (sym (start_at_reads script_reading s d f m o bs fits)) (
  tidy_is_neat (seed_at f m o) (named_acts o.names bs fits) (source_is_tidy o.names bs fits),
  unread_neat s (less d (seed_at f m o).type) 0 (root_at f m o ∷ []) (named_acts o.names bs fits) (firsts_are_started f m (1 ∷ []) o.eof, tt),
  tt,
)
