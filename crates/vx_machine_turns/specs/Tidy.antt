-- What each action spares: children that aren't started, and those whose queues it closes.
use Rattle.std.specs.Prelude.{◌≡◌, ℕ, ◌+◌, ◌≤◌, Bool, true, false, if◌then◌else◌, List, [], ◌∷◌, length}
use Rattle.vx_path.specs.Path.{Eof}
use Rattle.vx_tasks.specs.Task.{has}
use Rattle.vx_plan.specs.PlanData.{Setting, Item}
use Rattle.vx_machine_turns.specs.Forms.{Form}
use Rattle.vx_machine_turns.specs.Locals.{Local, flat_empty, flat_full, flat_many, chunked_local, struct_local, list_local, blocks_local, bytes_local, collect_local, compressed_local, outlet_local, dict_local, fallback_local, runs_local, zoned_local, idle_local, source_local, outside_local}
use Rattle.vx_machine_turns.specs.Acts.{Act, for_child, gifts}
use Rattle.vx_machine_turns.specs.Starts.{seed_of}
use Rattle.vx_machine_turns.specs.Turns.{firsts}
use Rattle.vx_machine_turns.specs.Scripts.{script}

-- it gives nothing to a child from number k on, and doesn't close its queue
abbrev pub Spares : Act → ℕ → Type 0
Spares a k = (i : ℕ) → k ≤ i → (for_child i a.gives ≡ []) × (has i a.shuts ≡ false)

-- So it is with each, where k children are started before: those from there on that aren't started by then are spared; and
-- a child whose queue is closed gets nothing more.
abbrev pub Tidy : ℕ → List Act → Type 0
Tidy k [] = Unit {0}
Tidy k (a ∷ acts) = Spares a (length a.starts + k) × ((i : ℕ) → has i a.shuts ≡ true → gifts i acts ≡ []) × Tidy (length a.starts + k) acts

-- how many children a task has started by then
abbrev pub started : Local → ℕ
started (flat_empty o t) = 0
started (flat_full o t j b) = 0
started flat_many = 0
started (chunked_local n j e rows) = j
started (struct_local n rows) = length n.writers
started (list_local n first from rows) = length n.writers
started (blocks_local o n x j rows) = 1
started (bytes_local size n x j rows) = 1
started (collect_local n x rows) = 1
started (compressed_local n) = 1
started (outlet_local n) = 1
started (dict_local n) = 0
started fallback_local = 1
started (runs_local n r j rows) = if r.begun then 2 + r.base else r.base
started (zoned_local n records last zones rows) = 1
started idle_local = 0
started (source_local f m o) = 1
started outside_local = 1

-- Each script is tidy, behind the children that are started.
abbrev pub ScriptsAreTidy : Type 0
ScriptsAreTidy = (s : Setting) (l : Local) (items : List Item) (ended : Bool) → Tidy (started l) (script s l items ended)

-- A seed's task starts with so many children.
abbrev pub FirstsAreStarted : Type 0
FirstsAreStarted = (f : Form) (m : Bool) (name : List ℕ) (e : Eof) → length (firsts (seed_of f m name e)) ≡ started (seed_of f m name e).local
