-- How far a write has come by the steps of its machine, and what is still to be done: wherever its paths begin, and over whatever order.
use Rattle.std.specs.Prelude.{◌≡◌, ◌+◌, ◌<◌, ℕ, zero, suc, Bool, false, List, [], ◌∷◌, ◌++◌, length, slice_index, Option}
use Rattle.vx_model.specs.Ty.{Ty}
use Rattle.vx_model.specs.ChunkData.{ChunkData}
use Rattle.vx_path.specs.Lists.{In}
use Rattle.vx_path.specs.Path.{Eof}
use Rattle.vx_tasks.specs.Rules.{AtLeast}
use Rattle.vx_tasks.specs.Run.{Note}
use Rattle.vx_named_tasks.specs.Names.{Names, CanBegin}
use Rattle.vx_strategy_spec.specs.StrategyData.{StrategyData}
use Rattle.vx_plan.specs.PlanData.{Setting, Pair}
use Rattle.vx_plan.specs.Number.{sorted}
use Rattle.vx_order.specs.Outlet.{Outlet, own, shared}
use Rattle.vx_write_answer.specs.declared.step.Step.{Step}
use Rattle.vx_machine_promises.specs.Write.{Write, planned_at, before}
use Rattle.vx_machine_state.specs.Images.{Careful}
use Rattle.vx_machine_view.specs.Machine.{Machine, is_finished, machine_ids}
use Rattle.vx_machine_view.specs.Whole.{outset_from}
use Rattle.vx_machine_runs.specs.Courses.{Point, start_point, Goes, HasComeTo, ForFutures, LeavesIn}
use Rattle.vx_machine_nodes.specs.Acting.{Behind}
use Rattle.vx_machine_node.specs.Context.{Allowed}
use Rattle.vx_machine_node.specs.Outcome.{action_of, AllFit}
use Rattle.vx_machine.specs.SourceActs.{Tells}

-- a step shows a note: how many tasks were ready, the place that was picked, the task and its act
abbrev pub ShowsNote : Step → Note → Type 0
ShowsNote s n = (s.ready ≡ n.ready) × (s.picked ≡ n.picked) × (s.task ≡ n.name) × (s.action ≡ action_of n.kind)

-- the write has come here from these paths and this pointer: the machine is where the steps of these notes have led
pub record HasCome (g : Write) (names : Names) (eof : Eof) (notes : List Note) (x : Point) (m : Machine) : Type 0 where
  pub come : HasComeTo g names eof notes x
  pub machine_is : m ≡ x.machine

-- a machine that was started so is where each write by this strategy at this type begins from its paths and pointer
abbrev pub Begins : Allowed → StrategyData → Ty → Bool → Names → Eof → Machine → Type 0
Begins allowed w t mark names eof m = (g : Write) → Careful g.setting → g.setting.allowed ≡ allowed → g.way ≡ w → g.type ≡ t → g.mark ≡ mark → HasCome g names eof [] (start_point g names eof) m

-- ---- nothing gets stuck

-- wherever a write has come whose machine can begin there with the batches taken, so many tasks are ready that there is one, until the
-- machine has finished
abbrev pub NeverStuck : Machine → ℕ → Type 0
NeverStuck m ready = (g : Write) (names : Names) (eof : Eof) (notes : List Note) (x : Point) → HasCome g names eof notes x m → CanBegin (outset_from names eof) (length x.taken) → is_finished m ≡ false → 0 < ready

-- ---- what was appended

-- Wherever a write has come, and whatever may still come of its source: what it has appended are the first pairs of the plan, in order of
-- path, and each of the others has a path that is at least one of those that the machine holds.
abbrev pub IsFront : Machine → Type 0
IsFront m = (g : Write) (names : Names) (eof : Eof) (notes : List Note) (x : Point) → HasCome g names eof notes x m → ForFutures (outset_from names eof) x (λ f. (more : List Pair)
    × (sorted (planned_at g (outset_from names eof) x.taken f).pairs ≡ x.history ++ more) × ((p : Pair) → In p more → AtLeast (machine_ids m) p.0))

-- ---- a step

-- so many numbers, one by one
abbrev pub numbers_from : ℕ → ℕ → List ℕ
numbers_from first zero = []
numbers_from first (suc n) = first ∷ numbers_from (suc first) n

-- Over a sink of its own the segments have the numbers from this one on, and the sink gives the next one next. Of a sink that others use
-- too, the order tells how many it has written: so many more than before.
abbrev pub GoesOnFrom : ℕ → Outlet → Point → Type 0
GoesOnFrom first (own s) x = (s.next ≡ first + length x.history) × (x.numbers ≡ numbers_from first (length x.history))
GoesOnFrom first (shared s) x = s.writes ≡ first + length x.history

-- A step leads the write on, and of all that may then still come one act less is left.
pub record LeadsOn (g : Write) (names : Names) (eof : Eof) (notes : List Note) (x : Point) (to_come to_come_then : Option (List ChunkData)) (outlet outlet_then : Outlet) (new : Machine) (s : Step) : Type 0 where
  -- where the write has then come, and the step's note
  pub point : Point
  pub note : Note
  pub shows : ShowsNote s note
  pub goes : Goes g x point note
  pub counted : AllFit (goes.step.numbers ++ goes.step.indices)
  pub comes : HasCome g names eof (notes ++ (note ∷ [])) point new
  -- what the source told in it, and what the sink was told, which gave this number
  pub tells : Tells g.type to_come to_come_then goes.told
  pub sink : Behind outlet goes.number goes.step.wrote outlet_then
  pub numbers : (first : ℕ) → GoesOnFrom first outlet x → GoesOnFrom first outlet_then point
  pub falls : ForFutures (outset_from names eof) point (λ f. (n : ℕ) × LeavesIn g (outset_from names eof) notes x (before goes.told f) (suc n) × LeavesIn g (outset_from names eof) (notes ++ (note ∷ [])) point f n)

-- so it does wherever a write by this setting at this type has come, by the pick of its schedule
abbrev pub StepsOn : Setting → Ty → ℕ → Option (List ChunkData) → Option (List ChunkData) → Outlet → Outlet → Machine → Machine → Step → Type 0
StepsOn setting t pick to_come to_come_then outlet outlet_then m new s = (g : Write) (names : Names) (eof : Eof) (notes : List Note) (x : Point) → g.setting ≡ setting → g.type ≡ t → pick ≡ slice_index g.schedule (length notes)
    → HasCome g names eof notes x m → LeadsOn g names eof notes x to_come to_come_then outlet outlet_then new s
