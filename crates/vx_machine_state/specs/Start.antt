-- The task of a form, with all that is started with it.
use Rattle.std.specs.Prelude.{ℕ, suc, ◌+◌, ◌-◌, ◌||◌, if◌then◌else◌, Bool, true, false, List, [], ◌∷◌, ◌++◌, Some, None}
use Rattle.vx_model.specs.Ty.{struct}
use Rattle.vx_rules.specs.Blocks.{block_len}
use Rattle.vx_strategy_spec.specs.StrategyData.{by_blocks, by_bytes, into_one}
use Rattle.vx_path.specs.Path.{Eof, under, inside, next}
use Rattle.vx_plan.specs.PlanData.{Item}
use Rattle.vx_machine_turns.specs.Forms.{Form, Forms, flat_form, chunked_form, grouped_form, compressed_form, dict_form, zoned_form, no_struct_form, struct_form, list_form, no_forms, form_then}
use Rattle.vx_machine_state.specs.Zoned.{zoner, no_zones}
use Rattle.vx_machine_state.specs.State.{Mind, no_chunk, by_chunk, by_column, by_list, by_block, by_size, as_one, by_image, as_is, by_probe, by_zone, ending, Desk, Tasks, no_tasks, task_then}

-- what it has in mind before a chunk comes: its mark and its pointer; a marked zoned node is its child
abbrev pub first_mind : Form → Bool → Eof → Mind
first_mind (flat_form o t) m e = no_chunk o t
first_mind (chunked_form t k) m e = by_chunk m t k e 0
first_mind (struct_form fs n name v ks) m e = by_column (struct fs n) 0
first_mind (grouped_form (by_blocks o) t k) m e = by_block (block_len o t) o.minimum t [] None 0
first_mind (grouped_form (by_bytes size) t k) m e = by_size size [] None 0
first_mind (grouped_form into_one t k) m e = as_one t None 0
first_mind (compressed_form which room t k) m e = by_image which
first_mind (dict_form o t c v f) m e = by_probe (record { mark = m; options = o; type = t; codes = c; values = v; fallback = f }) e
first_mind (zoned_form o t k stats) true e = first_mind k true e
first_mind (zoned_form o t k stats) false e = by_zone (zoner o t stats) (next e) (no_zones (zoner o t stats))
first_mind (no_struct_form t) m e = ending
first_mind (list_form t n es os v) m e = by_list t n true 0 0

-- with this queue, of one place
abbrev pub waiting : List ℕ → Mind → List Item → Bool → Desk
waiting name mind inbox closed = record { name = name; mind = mind; todo = []; inbox = inbox; places = 1; closed = closed }

-- before an item came, with a place more for each of so many that may wait besides the one
abbrev pub roomy : ℕ → List ℕ → Mind → Desk
roomy room name mind = record { name = name; mind = mind; todo = []; inbox = []; places = 1 + (room - 1); closed = false }

-- What stands between a compressing node and its child: it hands on each image, and its queue has so many places.
abbrev pub outlet_desk : ℕ → List ℕ → Desk
outlet_desk room name = roomy room name as_is

-- A struct's columns start with it: validity where it is nullable, then the fields. So do a list's: elements, offsets, and
-- validity where it is nullable. Column c has the c-th name below, and a pointer inside the c-th path from e on. So does the only
-- child of a node that regroups, which gets the pointer itself, and the data child of a zoned node, whose queue has its own places.
-- A compressing node has its outlet for a child, and that the node's child, whose name comes next beside the outlet's.
abbrev mutual
  pub first_kids : Form → Bool → List ℕ → Eof → Tasks
  first_kids (struct_form fs n name v ks) m at e =
      if n
      then task_then (waiting (under at 0) (first_mind v m (inside e)) [] false) (first_kids v m (under at 0) (inside e)) (field_tasks ks (m || n) at 1 (next e))
      else field_tasks ks (m || n) at 0 e
  first_kids (flat_form o t) m at e = no_tasks
  first_kids (chunked_form t k) m at e = no_tasks
  first_kids (grouped_form g t k) m at e = task_then (waiting (under at 0) (first_mind k m e) [] false) (first_kids k m (under at 0) e) no_tasks
  first_kids (compressed_form which room t k) m at e =
      task_then (outlet_desk room (under at 0)) (task_then (waiting (under at 1) (first_mind k m e) [] false) (first_kids k m (under at 1) e) no_tasks) no_tasks
  first_kids (dict_form o t c v f) m at e = no_tasks
  first_kids (zoned_form o t k stats) true at e = first_kids k true at e
  first_kids (zoned_form o t k stats) false at e = task_then (roomy o.concurrency (under at 0) (first_mind k false (inside e))) (first_kids k false (under at 0) (inside e)) no_tasks
  first_kids (no_struct_form t) m at e = no_tasks
  first_kids (list_form t n es os v) m at e =
      task_then (waiting (under at 0) (first_mind es m (inside e)) [] false) (first_kids es m (under at 0) (inside e))
      (task_then (waiting (under at 1) (first_mind os m (inside (next e))) [] false) (first_kids os m (under at 1) (inside (next e)))
      (if n then task_then (waiting (under at 2) (first_mind v m (inside (next (next e)))) [] false) (first_kids v m (under at 2) (inside (next (next e)))) no_tasks else no_tasks))

  pub field_tasks : Forms → Bool → List ℕ → ℕ → Eof → Tasks
  field_tasks no_forms m at c e = no_tasks
  field_tasks (form_then f fs) m at c e =
      task_then (waiting (under at c) (first_mind f m (inside e)) [] false) (first_kids f m (under at c) (inside e)) (field_tasks fs m at (suc c) (next e))

-- How far pointers come where it is started: behind the last column's, and at the path of a zoned node's table. A form whose start
-- refuses at once moves none.
abbrev pub form_count : Forms → ℕ
form_count no_forms = 0
form_count (form_then f fs) = suc (form_count fs)

abbrev mutual
  pub first_indices : Form → Bool → Eof → List ℕ
  first_indices (struct_form fs n (Some name) v ks) m e = []
  first_indices (struct_form fs true None v ks) m e = (e.last + suc (form_count ks)) ∷ (first_indices v m (inside e) ++ field_indices ks (m || true) (next e))
  first_indices (struct_form fs false None v ks) m e = (e.last + form_count ks) ∷ field_indices ks (m || false) e
  first_indices (flat_form o t) m e = []
  first_indices (chunked_form t k) m e = []
  first_indices (grouped_form g t k) m e = first_indices k m e
  first_indices (compressed_form which room t k) m e = first_indices k m e
  first_indices (dict_form o t c v f) m e = []
  first_indices (zoned_form o t k stats) true e = first_indices k true e
  first_indices (zoned_form o t k stats) false e = (e.last + 1) ∷ first_indices k false (inside e)
  first_indices (no_struct_form t) m e = []
  first_indices (list_form t true es os v) m e = (e.last + 3) ∷ (first_indices es m (inside e) ++ (first_indices os m (inside (next e)) ++ first_indices v m (inside (next (next e)))))
  first_indices (list_form t false es os v) m e = (e.last + 2) ∷ (first_indices es m (inside e) ++ first_indices os m (inside (next e)))

  pub field_indices : Forms → Bool → Eof → List ℕ
  field_indices no_forms m e = []
  field_indices (form_then f fs) m e = first_indices f m (inside e) ++ field_indices fs m (next e)

-- the task alone, with this queue
abbrev pub started_task : Form → Bool → List ℕ → Eof → List Item → Bool → Tasks
started_task f m name e inbox closed = task_then (waiting name (first_mind f m e) inbox closed) (first_kids f m name e) no_tasks
