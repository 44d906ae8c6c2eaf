-- Where the paths of a task's turns come from: each goes on from what it knows.
use Rattle.std.specs.Prelude.{◌≡◌, ℕ, ◌+◌, Bool, true, false, List, [], ◌∷◌, ◌++◌, IsTrue}
use Rattle.vx_path.specs.Lists.{In}
use Rattle.vx_path.specs.Path.{Eof, Before}
use Rattle.vx_tasks.specs.Task.{Kind, appends_of}
use Rattle.vx_tasks.specs.Task.Kind.{Free, Take, TakeEnd, Put, Append, Join}
use Rattle.vx_tasks.specs.Good.{Good}
use Rattle.vx_tasks.specs.Walks.{From}
use Rattle.vx_plan.specs.PlanData.{Setting, Item, places}
use Rattle.vx_model.specs.Ty.{Ty}
use Rattle.vx_strategy_spec.specs.StrategyData.{StrategyData}
use Rattle.vx_strategy_spec.specs.Walk.{walk}
use Rattle.vx_machine_turns.specs.Forms.{form_nodes}
use Rattle.vx_machine_turns.specs.Locals.{Local, flat_empty, flat_full, flat_many, chunked_local, struct_local, list_local, blocks_local, bytes_local, collect_local, compressed_local, outlet_local, dict_local, fallback_local, runs_local, zoned_local, idle_local, source_local, outside_local}
use Rattle.vx_machine_turns.specs.Acts.{Seed, Act}
use Rattle.vx_machine_turns.specs.Starts.{seed_of, local_of}
use Rattle.vx_machine_turns.specs.Turns.{turn, first_at_end, more_at_end, kept}
use Rattle.vx_machine_turns.specs.Scripts.{all_uses, script}
use Rattle.vx_machine_turns.specs.Fuels.{Fuel, Enough}
use Rattle.vx_machine_turns.specs.Plain.{task_of, script_reading}
use Rattle.vx_machine_turns.specs.Duties.{duty_of, below}

-- e, its last index raised
abbrev pub shifted : Eof → ℕ → Eof
shifted e j = record { stem = e.stem; last = e.last + j }

-- A local of a node with the eof path e, whose pointer has come as far as the children that are started. Of the nodes that
-- append nothing.
abbrev pub At : Eof → Local → Type 0
At e (flat_empty o t) = ⊥
At e (flat_full o t j b) = ⊥
At e flat_many = ⊥
At e (chunked_local n j p rows) = p ≡ shifted e j
At e (struct_local n rows) = Unit {0}
At e (list_local n first from rows) = Unit {0}
At e (blocks_local o n x j rows) = Unit {0}
At e (bytes_local size n x j rows) = Unit {0}
At e (collect_local n x rows) = Unit {0}
At e (compressed_local n) = Unit {0}
At e (outlet_local n) = Unit {0}
At e (dict_local n) = n.eof ≡ e
At e fallback_local = Unit {0}
At e (runs_local n r j rows) = r.eof ≡ shifted e r.base
At e (zoned_local n records last zones rows) = n.eof ≡ e
At e idle_local = Unit {0}
At e (source_local f m o) = ⊥
At e outside_local = ⊥

-- what an action gives, and the eof paths of what it starts, goes on from these paths
abbrev pub Draws : Eof → List (List ℕ) → Act → Type 0
Draws e ys a = ((g : ℕ × Item) → In g a.gives → From e ys g.1.0) × ((q : Seed) → In q a.starts → From e ys q.eof)

-- from what each uses
abbrev pub AllDraw : Eof → List Act → Type 0
AllDraw e [] = Unit {0}
AllDraw e (a ∷ acts) = Draws e a.uses a × AllDraw e acts

-- a call, a closing or a put
abbrev pub is_soft : Kind → Bool
is_soft (Free w) = true
is_soft Take = false
is_soft TakeEnd = false
is_soft (Put c) = true
is_soft (Append path) = false
is_soft Join = false

abbrev pub AllSoft : List Act → Type 0
AllSoft [] = Unit {0}
AllSoft (a ∷ acts) = IsTrue (is_soft a.kind) × AllSoft acts

-- none of them appends
abbrev pub AllMute : List Act → Type 0
AllMute [] = Unit {0}
AllMute (a ∷ acts) = (appends_of a.kind ≡ []) × AllMute acts

-- A turn at an item, of a node with the eof path e.
pub record Goes (e : Eof) (s : Setting) (l : Local) (i : Item) : Type 0 where
  pub stays : At e (turn s l i).after
  pub soft : AllSoft (turn s l i).more
  -- what is held behind the first action, and what that gives, is known from what was kept and from the item
  pub holds : (x : List ℕ) → In x (all_uses (turn s l i).more ++ kept (turn s l i).after) → From e (kept l ++ (i.0 ∷ [])) x
  pub first : Draws e (kept l ++ (i.0 ∷ [])) (turn s l i).first
  pub later : AllDraw e (turn s l i).more

-- And at the end.
pub record Ends (e : Eof) (s : Setting) (l : Local) : Type 0 where
  pub mute : AllMute (more_at_end s l)
  pub holds : (x : List ℕ) → In x (all_uses (more_at_end s l)) → From e (kept l) x
  pub first : Draws e (kept l) (first_at_end s l)
  pub later : AllDraw e (more_at_end s l)

abbrev pub TurnsGo : Type 0
TurnsGo = (e : Eof) (s : Setting) (l : Local) → At e l → ((i : Item) → Goes e s l i) × Ends e s l

-- The task of a strategy at a type and all below it are good, on a stream before the eof path.
abbrev pub TasksAreGood : Type 0
TasksAreGood = (s : Setting) (w : StrategyData) (t : Ty) (m : Bool) (name : List ℕ) (items : List Item) (ended : Bool) (e : Eof) (d : Fuel) → Enough d (walk form_nodes w t) → Before (places items) e
    → Good name (places items) ended e (task_of (seed_of (walk form_nodes w t) m name e) (script s (local_of (walk form_nodes w t) m name e) items ended))
    (below s script_reading d (duty_of s (walk form_nodes w t) m name items ended e))
