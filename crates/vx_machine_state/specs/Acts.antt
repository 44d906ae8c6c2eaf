-- What a task's next act does to it and to its children.
use Rattle.std.specs.Prelude.{ℕ, zero, suc, ◌+◌, ◌==◌, ◌&&◌, not, if◌then◌else◌, Bool, true, false, List, [], ◌∷◌, ◌++◌, length, Option, Some, None}
use Rattle.vx_model.specs.Words.{total_by}
use Rattle.vx_model.specs.Ty.{Ty, struct, list, fields_in, ty_eq}
use Rattle.vx_model.specs.ChunkData.{ChunkData, piece_type}
use Rattle.vx_path.specs.Path.{Eof, under, inside, next}
use Rattle.vx_layout_spec.specs.LayoutTree.{LayoutData, Spec, row_count, flat_layout, gathered, struct_layout, list_layout, zoned_layout}
use Rattle.vx_zone_spec.specs.ZoneTable.{Filled, kept_columns, table_type, table_specs, table_piece}
use Rattle.vx_rules.specs.Blocks.{BlockOptions}
use Rattle.vx_rules.specs.Columns.{struct_columns, list_columns}
use Rattle.vx_rules.specs.Regroup.{ranked}
use Rattle.vx_tasks.specs.Task.{Kind}
use Rattle.vx_tasks.specs.Task.Prompt.{Call, Close}
use Rattle.vx_tasks.specs.Task.Kind.{Free, Take, TakeEnd, Put, Append, Join}
use Rattle.vx_plan.specs.PlanData.{Setting, Item, Pair, What, many_chunks, empty_list, rows_in}
use Rattle.vx_plan.specs.ColumnNodes.{elements_in}
use Rattle.vx_plan.specs.DictNode.{is_dictionary}
use Rattle.vx_plan.specs.FlatNode.{segment, inlined, length_of}
use Rattle.vx_plan.specs.GroupNode.{left_count, rest_count}
use Rattle.vx_machine_turns.specs.Acts.{or_else}
use Rattle.vx_machine_turns.specs.Starts.{start_fault}
use Rattle.vx_machine_turns.specs.Flat.{forbidden}
use Rattle.vx_machine_turns.specs.Grouped.{Grouper, block_grouper, byte_grouper}
use Rattle.vx_machine_turns.specs.Zoned.{zone_fault}
use Rattle.vx_machine_turns.specs.Collected.{collected_so_far, collect_rest}
use Rattle.vx_machine_state.specs.Zoned.{Zoner, Zones, one_zone, table_item}
use Rattle.vx_machine_state.specs.State.{Fold, fold_chunks, fold_columns, fold_runs, fold_zones, Next, put, hand_on, press, probe, open_run, end_run, append, shut_kids, join_kids, start_table, leave_kid, Mind, no_chunk, one_chunk, by_chunk, by_column, by_list, by_block, by_size, as_one, by_image, as_is, by_probe, asking, by_run, by_zone, ending, passing, made, Desk, Tasks, no_tasks, task_then}
use Rattle.vx_machine_state.specs.Coder.{Coder}
use Rattle.vx_machine_state.specs.Coding.{no_runs, runs_after, run_rows, cut_indices, last_indices, deeds_at, last_deeds, deed_nexts, runs_laid}
use Rattle.vx_machine_state.specs.Start.{first_mind, first_kids, waiting, first_indices, started_task}

-- ---- children

abbrev pub count : Tasks → ℕ
count no_tasks = 0
count (task_then c ks r) = suc (count r)

-- one more behind the others
abbrev pub add : Tasks → Tasks → Tasks
add no_tasks new = new
add (task_then c ks r) new = task_then c ks (add r new)

abbrev pub with_item : Desk → Item → Desk
with_item c i = record { name = c.name; mind = c.mind; todo = c.todo; inbox = c.inbox ++ (i ∷ []); places = c.places; closed = c.closed }

-- an item on the queue of child j
abbrev pub give : ℕ → Item → Tasks → Tasks
give j i no_tasks = no_tasks
give zero i (task_then c ks r) = task_then (with_item c i) ks r
give (suc j) i (task_then c ks r) = task_then c ks (give j i r)

abbrev pub shut_desk : Desk → Desk
shut_desk c = record { name = c.name; mind = c.mind; todo = c.todo; inbox = c.inbox; places = c.places; closed = true }

-- the queues of all closed
abbrev pub shut_all : Tasks → Tasks
shut_all no_tasks = no_tasks
shut_all (task_then c ks r) = task_then (shut_desk c) ks (shut_all r)

-- a task's layout: its own, or that of its children
abbrev pub layout_in : Mind → List (LayoutData ℕ) → List (LayoutData ℕ)
layout_in (made l) below = l ∷ []
layout_in passing below = below
layout_in (no_chunk o t) below = []
layout_in (one_chunk x) below = []
layout_in (by_chunk m t f e rows) below = []
layout_in (by_column t rows) below = []
layout_in (by_list t n first from rows) below = []
layout_in (by_block len minimum t x j rows) below = []
layout_in (by_size size x j rows) below = []
layout_in (as_one t x rows) below = []
layout_in (by_zone g e z) below = []
layout_in (by_image which) below = []
layout_in as_is below = []
layout_in (by_probe n e) below = []
layout_in asking below = []
layout_in (by_run n r j rows) below = []
layout_in ending below = []

-- the queue of child j closed
abbrev pub shut_at : ℕ → Tasks → Tasks
shut_at j no_tasks = no_tasks
shut_at zero (task_then c ks r) = task_then (shut_desk c) ks r
shut_at (suc j) (task_then c ks r) = task_then c ks (shut_at j r)

-- an item on the queue of child j + 1; that and child j's are then closed
abbrev pub end_at : ℕ → Item → Tasks → Tasks
end_at j i ks = shut_at (suc j) (give (suc j) i (shut_at j ks))

-- the layouts of those that have done all
abbrev pub layouts_in : Tasks → List (LayoutData ℕ)
layouts_in no_tasks = []
layouts_in (task_then c ks r) = layout_in c.mind (layouts_in ks) ++ layouts_in r

-- ---- what an act does

pub record Did : Type 0 where
  pub kind : Kind
  -- why it is refused: by the plan's words, or since the chunk has another type; where it is, the rest means nothing
  pub refusal : Option What
  pub misfit : Bool
  -- what must fit 64 bits: rows and lengths, and how far pointers come
  pub numbers : List ℕ
  pub indices : List ℕ
  -- what it appends
  pub wrote : List Pair
  -- the rows of the layouts that it joins, summed, where they have no other count
  pub joined : List ℕ
  -- what it adds to the tracker, and takes from it
  pub raises : ℕ
  pub lowers : ℕ
  pub desk : Desk
  pub kids : Tasks

-- the task with this in mind, this left to do and this queue
abbrev pub now : Desk → Mind → List Next → List Item → Desk
now c mind todo inbox = record { name = c.name; mind = mind; todo = todo; inbox = inbox; places = c.places; closed = c.closed }

abbrev pub done_as : Kind → Desk → Tasks → Did
done_as k c ks = record { kind = k; refusal = None; misfit = false; numbers = []; indices = []; wrote = []; joined = []; raises = 0; lowers = 0; desk = c; kids = ks }

-- of the columns' layouts
abbrev pub columns_layout : {A : Type 0} → Ty → ℕ → List (LayoutData A) → LayoutData A
columns_layout (list t n) rows ls = list_layout (list t n) rows ls
columns_layout t rows ls = struct_layout t rows ls

-- of a zoned node's data and table; other layouts it never has
abbrev pub zones_layout : {A : Type 0} → Ty → ℕ → ℕ → List Spec → List (LayoutData A) → LayoutData A
zones_layout t rows zone specs (data_child ∷ zones ∷ ls) = zoned_layout t rows zone specs data_child zones
zones_layout t rows zone specs ls = struct_layout t rows ls

abbrev pub folded : Fold → List (LayoutData ℕ) → LayoutData ℕ
folded (fold_chunks t) ls = gathered t (total_by row_count ls) ls
folded (fold_columns t rows) ls = columns_layout t rows ls
folded (fold_zones t rows zone specs) ls = zones_layout t rows zone specs ls
folded (fold_runs t ns) ls = gathered t (total_by row_count (runs_laid t ns ls)) (runs_laid t ns ls)

abbrev pub joined_rows : Fold → List (LayoutData ℕ) → List ℕ
joined_rows (fold_chunks t) ls = total_by row_count ls ∷ []
joined_rows (fold_columns t rows) ls = []
joined_rows (fold_zones t rows zone specs) ls = []
joined_rows (fold_runs t ns) ls = total_by row_count (runs_laid t ns ls) ∷ []

-- the fallback of a dictionary node, which gets its pointer
abbrev pub fall_back : Setting → Kind → Coder → Eof → Mind → List Next → Desk → Tasks → List Item → Did
fall_back s kind n e mind todo c ks inbox =
    record (done_as kind (now c mind todo inbox) (add ks (started_task n.fallback n.mark (under c.name (count ks)) e [] false))) {
      refusal = start_fault s n.fallback n.mark;
      indices = first_indices n.fallback n.mark e;
    }

-- by what the compressor makes of the first chunk
abbrev pub probed : Setting → Bool → Coder → Eof → Item → List Next → Desk → Tasks → Did
probed s true n e i todo c ks = done_as (Free Call) (now c (by_run n (no_runs e) i (0 + rows_in i.1)) todo c.inbox) ks
probed s false n e i todo c ks = fall_back s (Free Call) n e as_is (hand_on 0 i ∷ todo) c ks c.inbox

-- codes and values of a run from number j on
abbrev pub run_tasks : Coder → List ℕ → ℕ → Eof → Item → Tasks
run_tasks n at j e i =
    task_then (waiting (under at j) (first_mind n.codes n.mark (inside e)) (i ∷ []) false) (first_kids n.codes n.mark (under at j) (inside e))
    (task_then (waiting (under at (suc j)) (first_mind n.values n.mark (inside (next e))) [] false) (first_kids n.values n.mark (under at (suc j)) (inside (next e))) no_tasks)

-- Of what is left of its block: an append gets this number. Joined children are given up; a zoned node's table is started behind the data child.
abbrev pub do_next : Setting → ℕ → Desk → Tasks → Next → List Next → Did
do_next s number c ks (put j i) todo = done_as (Put j) (now c c.mind todo c.inbox) (give j i ks)
do_next s number c ks (hand_on n i) todo = record (done_as (Put 0) (now c c.mind todo c.inbox) (give 0 i ks)) { lowers = n }
do_next s number c ks (press which i) todo = done_as (Free Call) (now c c.mind (hand_on 0 (i.0, s.image which i.1) ∷ todo) c.inbox) ks
do_next s number c ks (probe n e i) todo = probed s (is_dictionary (s.image n.options.probe i.1)) n e i todo c ks
do_next s number c ks (open_run n j e i) todo = record (done_as (Put j) (now c c.mind todo c.inbox) (add ks (run_tasks n c.name j e i))) {
  refusal = or_else (start_fault s n.codes n.mark) (start_fault s n.values n.mark);
  indices = first_indices n.codes n.mark (inside e) ++ first_indices n.values n.mark (inside (next e));
}
do_next s number c ks (end_run j i) todo = done_as (Put (suc j)) (now c c.mind todo c.inbox) (end_at j i ks)
do_next s number c ks (append x) todo = record (done_as (Append x.id) (now c (made (flat_layout x.type x.rows s.encodings x.tree number)) todo c.inbox) ks) { wrote = (x.id, x.bytes) ∷ [] }
do_next s number c ks shut_kids todo = done_as (Free Close) (now c c.mind todo c.inbox) (shut_all ks)
do_next s number c ks (join_kids f) todo = record (done_as Join (now c (made (folded f (layouts_in ks))) todo c.inbox) no_tasks) { joined = joined_rows f (layouts_in ks) }
do_next s number c ks (start_table f e p) todo =
    record (done_as Join (now c c.mind todo c.inbox) (add ks (started_task f false (under c.name 1) (next e) (table_item e p ∷ []) true))) {
      refusal = start_fault s f false;
      indices = (e.last + 1) ∷ first_indices f false (next e);
    }
do_next s number c ks (leave_kid e) todo = done_as Join (now c c.mind todo c.inbox) ks

-- a chunk's segment, where it can be encoded, with the tree that its layout keeps
abbrev pub stored : Ty → Item → Option (List ℕ) → Option (List ℕ) → Mind
stored t i tree None = ending
stored t i tree (Some bytes) = one_chunk (record { id = i.0; bytes = bytes; tree = tree; rows = rows_in i.1; type = t })

abbrev pub columns_in : Ty → ChunkData → List ChunkData
columns_in (struct fs n) p = struct_columns fs n p
columns_in t p = []

-- the columns of a type: a struct's validity where it is nullable, and the fields; a list's elements, offsets, and validity
-- where it is nullable
abbrev pub column_count : Ty → ℕ
column_count (struct fs n) = length (fields_in fs) + (if n then 1 else 0)
column_count (list t n) = if n then 3 else 2
column_count t = 0

-- a column each, from number c on, for the queue of its child
abbrev pub puts : ℕ → List ℕ → List ChunkData → List Next
puts c p [] = []
puts c p (x ∷ xs) = put c (under p c, x) ∷ puts (suc c) p xs

-- ---- nodes that regroup

-- options by which blocks of each type have this length
abbrev pub of_length : ℕ → ℕ → BlockOptions
of_length len minimum = record { minimum = minimum; multiple = len; target = None; canonicalize = false }

-- to the only child, each with what it then counts no more in the tracker
abbrev pub hand_all : (ChunkData → ℕ) → List Item → List Next
hand_all weight [] = []
hand_all weight (i ∷ is) = hand_on (weight i.1) i ∷ hand_all weight is

-- The newest chunk is acted on where another one comes: x is held besides it, and `after` makes of what is held, the newest chunk
-- and the rows so far what it has in mind.
abbrev pub take_grouped : {S : Type 0} → Grouper S → (S → Option Item → ℕ → Mind) → Bool → S → Option Item → ℕ → Desk → Tasks → Item → List Item → Did
take_grouped g after misfit x None rows c ks i xs = record (done_as Take (now c (after x (Some i) (rows + rows_in i.1)) [] xs) ks) {
  misfit = misfit;
  numbers = (rows + rows_in i.1) ∷ g.taken x i.1;
  raises = g.weight i.1;
}
take_grouped g after misfit x (Some j) rows c ks i xs =
    record (done_as Take (now c (after (g.rule.holds x j.1) (Some i) (rows + rows_in i.1)) (hand_all g.weight (ranked j.0 0 (g.rule.leaves x j.1))) xs) ks) {
      misfit = misfit;
      numbers = (rows + rows_in i.1) ∷ (g.taken (g.rule.holds x j.1) i.1 ++ g.acted x j.1);
      indices = left_count g.rule x j.1;
      raises = g.weight i.1;
    }

-- at the end: what is left goes to the only child, whose queue is then closed
abbrev pub pass_on : List Next → Desk → Tasks → Did
pass_on outs c ks = done_as TakeEnd (now c passing (outs ++ (shut_kids ∷ [])) []) ks

abbrev pub end_grouped : {S : Type 0} → Grouper S → S → Option Item → Desk → Tasks → Did
end_grouped g x None c ks = pass_on [] c ks
end_grouped g x (Some j) c ks = record (pass_on (hand_all g.weight (ranked j.0 0 (g.rule.rest x j.1))) c ks) { numbers = g.acted x j.1; indices = rest_count g.rule x j.1 }

-- ---- zoned nodes

-- the chunk is recorded beside the data child
abbrev pub take_zone : Setting → Zoner → Eof → Zones → Desk → Tasks → Item → List Item → Did
take_zone s g e z c ks i xs = record (done_as Take (now c (by_zone g e (one_zone s g z i.1)) (put 0 i ∷ []) xs) ks) {
  refusal = zone_fault g.zone_len g.columns z.last (rows_in i.1);
  misfit = not (ty_eq (piece_type i.1) g.type);
  numbers = (z.rows + rows_in i.1) ∷ [];
}

-- at the end, by the table's columns, if any are kept; without a table its layout is its only child's
abbrev pub end_zones : Option (List Filled) → Zoner → Eof → Zones → Desk → Tasks → Did
end_zones None g e z c ks = done_as TakeEnd (now c passing (shut_kids ∷ leave_kid e ∷ []) []) ks
end_zones (Some cs) g e z c ks =
    record (done_as TakeEnd (now c ending (shut_kids ∷ start_table (g.table (table_type cs)) e (table_piece cs z.zones) ∷ join_kids (fold_zones g.type z.rows g.zone_len (table_specs cs)) ∷ []) []) ks) {
      numbers = z.zones ∷ [];
    }

-- takes a chunk, behind which these are left in its queue
abbrev pub take_chunk : Setting → Desk → Tasks → Item → List Item → Mind → Did
take_chunk s c ks i xs (no_chunk o t) = record {
  kind = Take;
  refusal = forbidden (s.codec.refused s.encodings i.1);
  misfit = false;
  numbers = rows_in i.1 ∷ length_of (segment s o i);
  indices = [];
  wrote = [];
  joined = [];
  raises = 0;
  lowers = 0;
  desk = now c (stored t i (inlined s o i) (segment s o i)) [] xs;
  kids = ks;
}
take_chunk s c ks i xs (one_chunk x) = record (done_as Take (now c (one_chunk x) [] xs) ks) { refusal = Some many_chunks }
take_chunk s c ks i xs (by_chunk m t f e rows) = record {
  kind = Take;
  refusal = start_fault s f m;
  misfit = false;
  numbers = (rows + rows_in i.1) ∷ [];
  indices = (e.last + 1) ∷ first_indices f m (inside e);
  wrote = [];
  joined = [];
  raises = 0;
  lowers = 0;
  desk = now c (by_chunk m t f (next e) (rows + rows_in i.1)) [] xs;
  kids = add ks (started_task f m (under c.name (count ks)) (inside e) (i ∷ []) true);
}
take_chunk s c ks i xs (by_column t rows) = record {
  kind = Take;
  refusal = None;
  misfit = not (ty_eq (piece_type i.1) t);
  numbers = (rows + rows_in i.1) ∷ [];
  indices = column_count t ∷ [];
  wrote = [];
  joined = [];
  raises = 0;
  lowers = 0;
  desk = now c (by_column t (rows + rows_in i.1)) (puts 0 i.0 (columns_in t i.1)) xs;
  kids = ks;
}
-- it counts the rows, the offsets' rows, one more than these, and the elements
take_chunk s c ks i xs (by_list t n first from rows) = record {
  kind = Take;
  refusal = None;
  misfit = not (ty_eq (piece_type i.1) (list t n));
  numbers = (rows + rows_in i.1) ∷ suc (rows + rows_in i.1) ∷ (from + elements_in i.1) ∷ [];
  indices = column_count (list t n) ∷ [];
  wrote = [];
  joined = [];
  raises = 0;
  lowers = 0;
  desk = now c (by_list t n false (from + elements_in i.1) (rows + rows_in i.1)) (puts 0 i.0 (list_columns t n first from i.1)) xs;
  kids = ks;
}
take_chunk s c ks i xs (by_block len minimum t x j rows) =
    take_grouped (block_grouper (of_length len minimum) t) (by_block len minimum t) (not (ty_eq (piece_type i.1) t)) x j rows c ks i xs
take_chunk s c ks i xs (by_size size x j rows) = take_grouped (byte_grouper size) (by_size size) false x j rows c ks i xs
take_chunk s c ks i xs (as_one t x rows) = record (done_as Take (now c (as_one t (Some (i.0, collected_so_far x ++ (i.1 ∷ []))) (rows + rows_in i.1)) [] xs) ks) {
  misfit = not (ty_eq (piece_type i.1) t);
  numbers = (rows + rows_in i.1) ∷ [];
}
take_chunk s c ks i xs (by_zone g e z) = take_zone s g e z c ks i xs
take_chunk s c ks i xs (by_image which) = done_as Take (now c (by_image which) (press which i ∷ []) xs) ks
take_chunk s c ks i xs as_is = done_as Take (now c as_is (hand_on 0 i ∷ []) xs) ks
take_chunk s c ks i xs (by_probe n e) = record (done_as Take (now c asking (probe n e i ∷ []) xs) ks) {
  misfit = not (ty_eq (piece_type i.1) n.type);
  numbers = if is_dictionary (s.image n.options.probe i.1) then (0 + rows_in i.1) ∷ [] else [];
}
take_chunk s c ks i xs asking = done_as Take (now c asking [] xs) ks
take_chunk s c ks i xs (by_run n r j rows) =
    record (done_as Take (now c (by_run n (runs_after n r j) i (rows + rows_in i.1)) (deed_nexts n (deeds_at n r j)) xs) ks) {
      misfit = not (ty_eq (piece_type i.1) n.type);
      numbers = (rows + rows_in i.1) ∷ [];
      indices = cut_indices n r j;
    }
take_chunk s c ks i xs ending = done_as Take (now c ending [] xs) ks
take_chunk s c ks i xs passing = done_as Take (now c passing [] xs) ks
take_chunk s c ks i xs (made l) = done_as Take (now c (made l) [] xs) ks

-- a struct node without columns has its layout at once
abbrev pub end_columns : Bool → Ty → ℕ → Desk → Tasks → Did
end_columns true t rows c ks = done_as TakeEnd (now c (made (struct_layout t rows [])) [] []) ks
end_columns false t rows c ks = done_as TakeEnd (now c ending (shut_kids ∷ join_kids (fold_columns t rows) ∷ []) []) ks

-- a list node to which no chunk came is refused
abbrev pub end_lists : Bool → Ty → ℕ → Desk → Tasks → Did
end_lists true t rows c ks = record (done_as TakeEnd (now c ending [] []) ks) { refusal = Some empty_list }
end_lists false t rows c ks = done_as TakeEnd (now c ending (shut_kids ∷ join_kids (fold_columns t rows) ∷ []) []) ks

-- a dictionary node to which no chunk came hands its empty stream to the fallback
abbrev pub take_end : Setting → Desk → Tasks → Mind → Did
take_end s c ks (no_chunk o t) = done_as TakeEnd (now c (made (gathered t 0 [])) [] []) ks
take_end s c ks (one_chunk x) = done_as TakeEnd (now c ending (append x ∷ []) []) ks
take_end s c ks (by_chunk m t f e rows) = done_as TakeEnd (now c ending (join_kids (fold_chunks t) ∷ []) []) ks
take_end s c ks (by_column t rows) = end_columns ((count ks == 0) && (0 == column_count t)) t rows c ks
take_end s c ks (by_list t n first from rows) = end_lists first (list t n) rows c ks
take_end s c ks (by_block len minimum t x j rows) = end_grouped (block_grouper (of_length len minimum) t) x j c ks
take_end s c ks (by_size size x j rows) = end_grouped (byte_grouper size) x j c ks
take_end s c ks (as_one t x rows) = pass_on (hand_all (λ p. 0) (collect_rest t x)) c ks
take_end s c ks (by_zone g e z) = end_zones (kept_columns g.columns z.records) g e z c ks
take_end s c ks (by_image which) = pass_on [] c ks
take_end s c ks as_is = pass_on [] c ks
take_end s c ks (by_probe n e) = fall_back s TakeEnd n e passing (shut_kids ∷ []) c ks []
take_end s c ks asking = done_as TakeEnd (now c asking [] []) ks
take_end s c ks (by_run n r j rows) =
    record (done_as TakeEnd (now c ending (deed_nexts n (last_deeds n r j) ++ (join_kids (fold_runs n.type (run_rows n r j)) ∷ [])) []) ks) { indices = last_indices n r j }
take_end s c ks ending = done_as TakeEnd (now c ending [] []) ks
take_end s c ks passing = done_as TakeEnd (now c passing [] []) ks
take_end s c ks (made l) = done_as TakeEnd (now c (made l) [] []) ks

abbrev pub do_take : Setting → Desk → Tasks → List Item → Did
do_take s c ks (i ∷ xs) = take_chunk s c ks i xs c.mind
do_take s c ks [] = take_end s c ks c.mind

abbrev pub do_act : Setting → ℕ → Desk → Tasks → List Next → Did
do_act s number c ks (x ∷ todo) = do_next s number c ks x todo
do_act s number c ks [] = do_take s c ks c.inbox
