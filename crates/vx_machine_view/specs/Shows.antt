-- The program's tasks against the abstract machine's.
use Rattle.std.specs.Prelude.{◌≡◌, ◌+◌, ◌⊎◌, ℕ, suc, Bool, true, false, List, [], ◌∷◌, ◌++◌, map, length, get_or, Option, Some, None, IsTrue}
use Rattle.vx_model.specs.Ty.{Ty, struct, list}
use Rattle.vx_model.specs.CellData.{CellData}
use Rattle.vx_model.specs.ChunkData.{ChunkData, held}
use Rattle.vx_path.specs.Lists.{In}
use Rattle.vx_path.specs.Path.{Eof}
use Rattle.vx_zone_spec.specs.ZoneTable.{Filled, table_type}
use Rattle.vx_layout_spec.specs.LayoutTree.{LayoutData, row_count, renamed, flat_layout}
use Rattle.vx_tasks.specs.Task.Prompt.{Call}
use Rattle.vx_tasks.specs.Task.Kind.{Free, Append, Join}
use Rattle.vx_tasks.specs.Nodes.{numbers}
use Rattle.vx_rules.specs.Blocks.{BlockOptions, block_len}
use Rattle.vx_rules.specs.Stream.{piece_cells}
use Rattle.vx_strategy_spec.specs.StrategyData.{FlatOptions}
use Rattle.vx_plan.specs.PlanData.{Setting, Item, row_total, rows_in}
use Rattle.vx_plan.specs.FlatNode.{inlined}
use Rattle.vx_plan.specs.DictNode.{is_dictionary}
use Rattle.vx_machine_turns.specs.Forms.{Writer, chunked_form}
use Rattle.vx_machine_turns.specs.Locals.{ChunkedNode, StructNode, ListNode, GroupedNode, CompressedNode, DictNode, RunsSoFar, ZonedNode, Local, flat_empty, flat_full, flat_many, chunked_local, struct_local, list_local, blocks_local, bytes_local, collect_local, compressed_local, outlet_local, dict_local, fallback_local, runs_local, zoned_local, idle_local, source_local, outside_local}
use Rattle.vx_machine_turns.specs.Acts.{Seed, Act, Shape, alone, gathers, struct_of, list_of, runs_of, zones_of, passes, does, put_item, close_queues, shape_in, gifts, numbers_in}
use Rattle.vx_machine_turns.specs.Grouped.{weighed_puts, group_kept}
use Rattle.vx_machine_turns.specs.Collected.{collected_so_far, collect_kept}
use Rattle.vx_machine_turns.specs.Zoned.{zoned_ends, zoned_joins}
use Rattle.vx_machine_turns.specs.Fuels.{Fuel, less, Enough}
use Rattle.vx_machine_turns.specs.Dict.{dict_turn, runs_kept}
use Rattle.vx_machine_turns.specs.Columns.{column_puts}
use Rattle.vx_machine_turns.specs.Readings.{shaped}
use Rattle.vx_machine_turns.specs.Turns.{kept}
use Rattle.vx_machine_turns.specs.Scripts.{filled}
use Rattle.vx_machine_steps.specs.Tree.{Head, Tree, Leaf, Work}
use Rattle.vx_machine_steps.specs.Moves.{all_paths, all_over}
use Rattle.vx_machine_state.specs.State.{Stored, fold_chunks, fold_columns, fold_runs, Next, press, probe, append, shut_kids, join_kids, Mind, no_chunk, one_chunk, by_chunk, by_column, by_list, by_block, by_size, as_one, by_image, as_is, by_probe, asking, by_run, ending, passing, made, Desk, Tasks, no_tasks, task_then}
use Rattle.vx_machine_state.specs.Acts.{count, column_count, puts, hand_all}
use Rattle.vx_machine_state.specs.Coder.{coder_of}
use Rattle.vx_machine_state.specs.Coding.{Deed, deed_nexts}
use Rattle.vx_machine_view.specs.Deeds.{deed_acts, run_types, Going, run_count, summed, Cutting, Coded}
use Rattle.vx_machine_view.specs.Suited.{Suited, column_types, list_types}
use Rattle.vx_machine_state.specs.Zoned.{Zones}
use Rattle.vx_machine_view.specs.Zoning.{IsZoned, Records, zones_mind, lay_zones, zones_left, zones_shape}
use Rattle.vx_machine_state.specs.Typed.{Typed, AllTyped, EachTyped, ChunksTyped, NewestTyped}

-- ---- what is read off the abstract tree

-- the layouts of tasks that have done all
abbrev pub laid : Tree → List (LayoutData (List ℕ))
laid Leaf = []
laid (Work h ks r) = shaped (shape_in h.past) (laid ks) ++ laid r

abbrev pub types_of : Tree → List Ty
types_of Leaf = []
types_of (Work h ks r) = h.seed.type ∷ types_of r

-- A task's rows, beside those in its queue: once it has seen the end, by its layout's shape. One that hands all on has what it
-- still holds, and what stands below it.

abbrev pub shape_rows : Option Shape → ℕ → ℕ
shape_rows None below = 0
shape_rows (Some (alone l)) below = row_count l
shape_rows (Some (gathers t n)) below = n
shape_rows (Some (struct_of t n)) below = n
shape_rows (Some (list_of t n)) below = n
shape_rows (Some (runs_of t n ns)) below = n
shape_rows (Some (zones_of t n zone specs)) below = n
shape_rows (Some passes) below = below

abbrev pub newest_rows : Option Item → ℕ
newest_rows None = 0
newest_rows (Some j) = rows_in j.1

abbrev pub local_rows : Local → ℕ → ℕ
local_rows (flat_empty o t) below = 0
local_rows (flat_full o t i b) below = rows_in i.1
local_rows (chunked_local n j e rows) below = rows
local_rows (struct_local n rows) below = rows
local_rows flat_many below = 0
local_rows (list_local n first from rows) below = rows
local_rows (blocks_local o n x j rows) below = (length x + newest_rows j) + below
local_rows (bytes_local size n x j rows) below = (length (piece_cells x) + newest_rows j) + below
local_rows (collect_local n x rows) below = length (piece_cells (collected_so_far x)) + below
local_rows (compressed_local n) below = below
local_rows (outlet_local n) below = below
local_rows (dict_local n) below = 0
local_rows fallback_local below = below
local_rows (runs_local n r j rows) below = rows
local_rows (zoned_local n records last zones rows) below = rows
local_rows idle_local below = 0
local_rows (source_local f m o) below = 0
local_rows outside_local below = 0

abbrev pub task_rows : Bool → Local → List Act → ℕ → ℕ
task_rows true l past below = shape_rows (shape_in past) below
task_rows false l past below = local_rows l below

-- of all these tasks, with those in their queues; a task that hands all on puts what it still puts on its first child's queue
abbrev pub rows_of : Tree → ℕ
rows_of Leaf = 0
rows_of (Work h ks r) = (task_rows h.over h.local h.past (row_total (gifts 0 h.todo) + rows_of ks) + row_total h.inbox) + rows_of r

-- ---- a task by itself

-- child j of a seed
pub record Alike (q : Seed) (j : ℕ) (c : Desk) (h : Head) : Type 0 where
  pub name : c.name ≡ h.seed.name
  pub inbox : c.inbox ≡ h.inbox
  pub closed : c.closed ≡ h.closed
  pub places : c.places ≡ 1 + get_or q.spare j 0
  pub typed : AllTyped h.seed.type h.inbox

-- it waits for a chunk or the end, with this in mind
pub record Rests (mind : Mind) (left : List Next) (past todo : List Act) (l : Local) (over : Bool) (mind_now : Mind) (local_now : Local) : Type 0 where
  pub mind_is : mind ≡ mind_now
  pub local_is : l ≡ local_now
  pub idle : left ≡ []
  pub rest : todo ≡ []
  pub on : over ≡ false
  pub unshaped : shape_in past ≡ None

-- it has seen the end, with this in mind, and has this left to do
pub record Ends (mind : Mind) (left : List Next) (past todo : List Act) (over : Bool) (mind_now : Mind) (left_now : List Next) (acts : List Act) (shape : Shape) : Type 0 where
  pub mind_is : mind ≡ mind_now
  pub left_is : left ≡ left_now
  pub rest : todo ≡ acts
  pub off : over ≡ true
  pub shape_is : shape_in past ≡ Some shape

-- a node with columns of these types has these in mind, and puts the last columns of the chunk at p next, from number j on
pub record Hands (mind : Mind) (left : List Next) (past todo : List Act) (l : Local) (over : Bool) (hs : Tree) (mind_now : Mind) (local_now : Local) (types : List Ty) (j : ℕ) (p : List ℕ) (xs : List ChunkData) (ws : List Writer) : Type 0 where
  pub mind_is : mind ≡ mind_now
  pub local_is : l ≡ local_now
  pub left_is : left ≡ puts j p xs
  pub rest : todo ≡ filled [] (column_puts j p xs ws)
  pub on : over ≡ false
  pub unshaped : shape_in past ≡ None
  -- its children are its columns
  pub kids : types_of hs ≡ types
  pub before : List Ty
  pub behind : List Ty
  pub split : types ≡ before ++ behind
  pub place : length before ≡ j
  pub typed : EachTyped behind xs
  pub same : length ws ≡ length xs

-- before a chunk came nothing is held
abbrev pub NoneHeld : {A : Type 0} → List A → Option Item → Type 0
NoneHeld x None = x ≡ []
NoneHeld x (Some j) = Unit {0}

-- a node that regroups chunks of this type has these in mind, and hands these on next
pub record Groups (mind : Mind) (left : List Next) (q : Seed) (past todo : List Act) (l : Local) (over : Bool) (hs : Tree) (mind_now : Mind) (local_now : Local) (t : Ty) (weight : ChunkData → ℕ) (keep : List (List ℕ)) (outs : List Item) : Type 0 where
  pub mind_is : mind ≡ mind_now
  pub local_is : l ≡ local_now
  pub left_is : left ≡ hand_all weight outs
  pub rest : todo ≡ filled keep (weighed_puts weight outs)
  pub on : over ≡ false
  pub unshaped : shape_in past ≡ None
  pub type_is : q.type ≡ t
  -- it has one child
  pub kids : types_of hs ≡ t ∷ []
  pub typed : AllTyped t outs

-- It has this in mind and calls the compressor next, as these acts tell. Its chunks are of this type.
pub record Calls (mind : Mind) (left : List Next) (q : Seed) (past todo : List Act) (l : Local) (over : Bool) (hs : Tree) (mind_now : Mind) (left_now : List Next) (acts : List Act) (local_now : Local) (t : Ty) : Type 0 where
  pub mind_is : mind ≡ mind_now
  pub local_is : l ≡ local_now
  pub left_is : left ≡ left_now
  pub rest : todo ≡ acts
  pub on : over ≡ false
  pub unshaped : shape_in past ≡ None
  pub type_is : q.type ≡ t
  -- it has one child
  pub kids : types_of hs ≡ t ∷ []

-- rows that were counted, of one that has done these acts
abbrev pub Counted : List Act → ℕ → Type 0
Counted past n = (n ≡ 0) ⊎ In n (numbers_in past)

-- a dictionary node calls the compressor for its first chunk: what it then does is what the image tells
pub record Probes (s : Setting) (mind : Mind) (left : List Next) (past todo : List Act) (l : Local) (over : Bool) (n : DictNode) (i : Item) : Type 0 where
  pub mind_is : mind ≡ asking
  pub local_is : l ≡ (dict_turn s n i).after
  pub left_is : left ≡ probe (coder_of n) n.eof i ∷ []
  pub rest : todo ≡ filled (kept (dict_turn s n i).after) (dict_turn s n i).more
  pub on : over ≡ false
  pub unshaped : shape_in past ≡ None
  pub typed : Typed n.type i.1
  -- where it will cut runs
  pub counted : is_dictionary (s.image n.options.probe i.1) ≡ true → Counted past (0 + rows_in i.1)

-- it cuts runs, and does these next; so many runs have children
pub record Cuts (s : Setting) (mind : Mind) (left : List Next) (past todo : List Act) (l : Local) (over : Bool) (hs : Tree) (n : DictNode) (r : RunsSoFar) (i : Item) (rows k : ℕ) (ds : List Deed) : Type 0 where
  pub mind_is : mind ≡ by_run (coder_of n) r i rows
  pub local_is : l ≡ runs_local n r i rows
  pub left_is : left ≡ deed_nexts (coder_of n) ds
  pub rest : todo ≡ filled (runs_kept r i) (deed_acts s n ds)
  pub on : over ≡ false
  pub unshaped : shape_in past ≡ None
  pub typed : Typed n.type i.1
  pub kids : types_of hs ≡ run_types n.options n.type k
  pub going : Going n k ds (run_count r)
  pub cutting : Cutting r i rows

-- the shape of a node with columns of this type
abbrev pub columns_of : Ty → ℕ → Shape
columns_of (list t n) rows = list_of (list t n) rows
columns_of t rows = struct_of t rows

abbrev pub append_of : Stored → Act
append_of x = record (does (Append x.id)) { uses = x.id ∷ []; bytes = x.bytes }

-- A task that hasn't done all, or has its only child's layout: what the program's has in mind and left to do, with its children, against the abstract one's past,
-- what that has left and its local, with its children, which may go as deep as d.
pub data Stage (s : Setting) (d : Fuel) (mind : Mind) (left : List Next) (ks : Tasks) (q : Seed) (past todo : List Act) (l : Local) (over : Bool) (hs : Tree) : Type 0 where
  waits_first : (o : FlatOptions) (t : Ty) → ks ≡ no_tasks → Rests mind left past todo l over (no_chunk o t) (flat_empty o t)
      → Stage s d mind left ks q past todo l over hs
  waits_end : (o : FlatOptions) (t : Ty) (i : Item) (bytes : List ℕ) → ks ≡ no_tasks
      → Rests mind left past todo l over (one_chunk (record { id = i.0; bytes = bytes; tree = inlined s o i; rows = rows_in i.1; type = t })) (flat_full o t i (Some bytes))
      → Stage s d mind left ks q past todo l over hs
  appends : (x : Stored) → ks ≡ no_tasks → Ends mind left past todo over ending (append x ∷ []) (append_of x ∷ []) (alone (flat_layout x.type x.rows s.encodings x.tree x.id))
      → Stage s d mind left ks q past todo l over hs
  -- the children have all rows so far
  splits : (n : ChunkedNode) (e : Eof) → n.name ≡ q.name → q.type ≡ n.type → q.spare ≡ [] → Suited (chunked_form n.type n.child) → Enough d (chunked_form n.type n.child)
      → Counted past (rows_of hs) → Rests mind left past todo l over (by_chunk n.mark n.type n.child e (rows_of hs)) (chunked_local n (count ks) e (rows_of hs))
      → Stage s d mind left ks q past todo l over hs
  gathers_all : (t : Ty) → Counted past (rows_of hs) → Ends mind left past todo over ending (join_kids (fold_chunks t) ∷ []) (does Join ∷ []) (gathers t (rows_of hs))
      → Stage s d mind left ks q past todo l over hs
  hands : (n : StructNode) (rows j : ℕ) (p : List ℕ) (xs : List ChunkData) (ws : List Writer) → q.type ≡ struct n.fields n.nullable → length n.writers ≡ length (column_types n.fields n.nullable)
      → Hands mind left past todo l over hs (by_column (struct n.fields n.nullable) rows) (struct_local n rows) (column_types n.fields n.nullable) j p xs ws
      → Stage s d mind left ks q past todo l over hs
  hands_lists : (n : ListNode) (first : Bool) (from rows j : ℕ) (p : List ℕ) (xs : List ChunkData) (ws : List Writer) → q.type ≡ list n.elements n.nullable
      → length n.writers ≡ length (list_types n.elements n.nullable)
      → Hands mind left past todo l over hs (by_list n.elements n.nullable first from rows) (list_local n first from rows) (list_types n.elements n.nullable) j p xs ws
      → Stage s d mind left ks q past todo l over hs
  shuts : (t : Ty) (rows : ℕ) → column_count t ≡ count ks
      → Ends mind left past todo over ending (shut_kids ∷ join_kids (fold_columns t rows) ∷ []) (close_queues (numbers 0 (count ks)) ∷ does Join ∷ []) (columns_of t rows)
      → Stage s d mind left ks q past todo l over hs
  joins_columns : (t : Ty) (rows : ℕ) → column_count t ≡ count ks → Ends mind left past todo over ending (join_kids (fold_columns t rows) ∷ []) (does Join ∷ []) (columns_of t rows)
      → Stage s d mind left ks q past todo l over hs
  regroups_rows : (o : BlockOptions) (n : GroupedNode) (x : List CellData) (j : Option Item) (rows : ℕ) (outs : List Item) → NewestTyped n.type j → NoneHeld x j
      → Groups mind left q past todo l over hs (by_block (block_len o n.type) o.minimum n.type x j rows) (blocks_local o n x j rows) n.type (λ p. 0) (group_kept j) outs
      → Stage s d mind left ks q past todo l over hs
  regroups_chunks : (size : ℕ) (n : GroupedNode) (x : List ChunkData) (j : Option Item) (rows : ℕ) (outs : List Item) → ChunksTyped n.type x → NewestTyped n.type j → NoneHeld x j
      → Groups mind left q past todo l over hs (by_size size x j rows) (bytes_local size n x j rows) n.type held (group_kept j) outs
      → Stage s d mind left ks q past todo l over hs
  collects : (n : GroupedNode) (x : Option (List ℕ × List ChunkData)) (rows : ℕ)
      → Groups mind left q past todo l over hs (as_one n.type x rows) (collect_local n x rows) n.type (λ p. 0) (collect_kept x) []
      → Stage s d mind left ks q past todo l over hs
  -- a compressing node, before a chunk's image, and behind it
  presses : (n : CompressedNode) (t : Ty) (i : Item) → Typed t i.1
      → Calls mind left q past todo l over hs (by_image n.which) (press n.which i ∷ []) (filled [] (does (Free Call) ∷ put_item 0 (i.0, s.image n.which i.1) ∷ [])) (compressed_local n) t
      → Stage s d mind left ks q past todo l over hs
  pressed : (n : CompressedNode) (t : Ty) (outs : List Item) → Groups mind left q past todo l over hs (by_image n.which) (compressed_local n) t (λ p. 0) [] outs
      → Stage s d mind left ks q past todo l over hs
  lets_out : (n : CompressedNode) (t : Ty) (outs : List Item) → Groups mind left q past todo l over hs as_is (outlet_local n) t (λ p. 0) [] outs
      → Stage s d mind left ks q past todo l over hs
  -- a dictionary node: before its first chunk, and its image; it hands all to the fallback; it cuts runs; behind the end, it does
  -- these and joins
  asks_first : (n : DictNode) → Coded q d n → ks ≡ no_tasks → Rests mind left past todo l over (by_probe (coder_of n) n.eof) (dict_local n) → Stage s d mind left ks q past todo l over hs
  probes : (n : DictNode) (i : Item) → Coded q d n → ks ≡ no_tasks → Probes s mind left past todo l over n i → Stage s d mind left ks q past todo l over hs
  falls_back : (t : Ty) (outs : List Item) → Groups mind left q past todo l over hs as_is fallback_local t (λ p. 0) [] outs → Stage s d mind left ks q past todo l over hs
  cuts : (n : DictNode) (r : RunsSoFar) (i : Item) (rows k : ℕ) (ds : List Deed) → Coded q d n → Counted past rows → Cuts s mind left past todo l over hs n r i rows k ds
      → Stage s d mind left ks q past todo l over hs
  last_cuts : (n : DictNode) (rows : ℕ) (ns : List ℕ) (k : ℕ) (ds : List Deed) → Coded q d n → Counted past rows → rows ≡ summed ns → types_of hs ≡ run_types n.options n.type k → Going n k ds (length ns)
      → Ends mind left past todo over ending (deed_nexts (coder_of n) ds ++ (join_kids (fold_runs n.type ns) ∷ [])) (filled [] (deed_acts s n ds ++ (does Join ∷ []))) (runs_of n.type rows ns)
      → Stage s d mind left ks q past todo l over hs
  -- behind the end: these are left to hand on, then the queue of its only child is closed; or nothing is left
  passes_on : (t : Ty) (weight : ChunkData → ℕ) (outs : List Item) → types_of hs ≡ t ∷ [] → AllTyped t outs
      → Ends mind left past todo over passing (hand_all weight outs ++ (shut_kids ∷ [])) (filled [] (weighed_puts weight outs ++ (close_queues (0 ∷ []) ∷ []))) passes
      → Stage s d mind left ks q past todo l over hs
  passed : (t : Ty) → types_of hs ≡ t ∷ [] → Ends mind left past todo over passing [] [] passes → Stage s d mind left ks q past todo l over hs
  -- the data child, and what is handed on next, have all rows so far
  records_zones : (n : ZonedNode) (z : Zones) (outs : List Item) → IsZoned d q n → types_of hs ≡ n.type ∷ [] → z.rows ≡ row_total outs + rows_of hs → AllTyped n.type outs
      → Records mind left past todo l over n z outs → Stage s d mind left ks q past todo l over hs
  -- behind the end, by the table's columns: the data child's queue is closed; it is joined; so is the table's child
  closes_zones : (n : ZonedNode) (z : Zones) (table : Option (List Filled)) → IsZoned d q n → types_of hs ≡ n.type ∷ []
      → Ends mind left past todo over (zones_mind table) (shut_kids ∷ zones_left n z table) (filled [] (zoned_ends s n z.zones table)) (zones_shape n z.rows table)
      → Stage s d mind left ks q past todo l over hs
  joins_data : (n : ZonedNode) (z : Zones) (table : Option (List Filled)) → IsZoned d q n → types_of hs ≡ n.type ∷ []
      → Ends mind left past todo over (zones_mind table) (zones_left n z table) (filled [] (zoned_joins s n z.zones table)) (zones_shape n z.rows table)
      → Stage s d mind left ks q past todo l over hs
  joins_zones : (n : ZonedNode) (rows : ℕ) (cs : List Filled) → types_of hs ≡ n.type ∷ table_type cs ∷ []
      → Ends mind left past todo over ending (lay_zones n rows cs) (does Join ∷ []) (zones_shape n rows (Some cs))
      → Stage s d mind left ks q past todo l over hs

-- A task that has done all and has a layout of its own: its children are given up, and it is theirs, where `number` tells each
-- segment's.
pub record Done (number : List ℕ → ℕ) (mind : Mind) (left : List Next) (ks : Tasks) (past todo : List Act) (over : Bool) (hs : Tree) : Type 0 where
  pub layout : LayoutData ℕ
  pub mind_is : mind ≡ made layout
  pub idle : left ≡ []
  pub no_kids : ks ≡ no_tasks
  pub rest : todo ≡ []
  pub off : over ≡ true
  pub below : IsTrue (all_over hs)
  pub free : all_paths hs ≡ []
  pub laid_is : map (renamed number) (shaped (shape_in past) (laid hs)) ≡ layout ∷ []
  pub rows_are : (below : ℕ) → row_count layout ≡ shape_rows (shape_in past) below

-- The tasks show the abstract ones: those from number j on of a seed, and all below them.
abbrev pub Shows : Setting → (List ℕ → ℕ) → Fuel → Seed → ℕ → Tasks → Tree → Type 0
Shows s number d q j no_tasks Leaf = Unit {0}
Shows s number d q j no_tasks (Work h hs r) = ⊥
Shows s number d q j (task_then c ks more) Leaf = ⊥
Shows s number d q j (task_then c ks more) (Work h hs r) =
    Alike q j c h
    × ((Stage s (less d h.seed.type) c.mind c.todo ks h.seed h.past h.todo h.local h.over hs × Shows s number (less d h.seed.type) h.seed 0 ks hs)
    ⊎ Done number c.mind c.todo ks h.past h.todo h.over hs)
    × Shows s number d q (suc j) more r
