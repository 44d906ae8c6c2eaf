-- How steps change what tasks have reserved in the tracker.
use Rattle.std.specs.Prelude.{◌≡◌, ◌+◌, ℕ, Bool, List, IsTrue}
use Rattle.vx_path.specs.Lists.{In}
use Rattle.vx_path.specs.Path.{Eof}
use Rattle.vx_named_tasks.specs.Names.{Names, Outset}
use Rattle.vx_plan.specs.PlanData.{Setting}
use Rattle.vx_machine_turns.specs.Forms.{Form}
use Rattle.vx_machine_turns.specs.Acts.{Seed}
use Rattle.vx_machine_turns.specs.Fuels.{Fuel}
use Rattle.vx_machine_steps.specs.Tree.{Tree}
use Rattle.vx_machine_promises.specs.Write.{Write, Future, Answer}
use Rattle.vx_machine_state.specs.State.{Tasks}
use Rattle.vx_machine_state.specs.Moves.{Step, steps}
use Rattle.vx_machine_view.specs.Shows.{Shows}
use Rattle.vx_machine_view.specs.Machine.{Machine, start_from, WholeStep, whole_steps, is_finished}
use Rattle.vx_machine_view.specs.Whole.{ShowsMachineAt, ShowsMachine}
use Rattle.vx_machine_state.specs.Reserved.{reserved_by}

-- each step of tasks that show a state changes it by what it adds to the tracker and takes from it
abbrev pub StepsReserve : Type 0
StepsReserve = (s : Setting) (number : List ℕ → ℕ) (next : ℕ) (all : List (List ℕ)) (d : Fuel) (q : Seed) (j : ℕ) (cs : Tasks) (t : Tree) (w : Step)
    → Shows s number d q j cs t → In w (steps s all next cs) → reserved_by w.after + w.lowers ≡ reserved_by cs + w.raises

-- ---- of the whole machine

-- nothing at the start
abbrev pub StartReservesAt : Names → Eof → Type 0
StartReservesAt names eof = (f : Form) (m : Bool) → reserved_by (start_from names eof f m).root ≡ 0

abbrev pub WholeReservesAt : Outset → Type 0
WholeReservesAt o = (g : Write) (number : List ℕ → ℕ) (next : ℕ) (all : List (List ℕ)) (a : Answer) (f : Future) (m : Machine) (t : Tree) (w : WholeStep) → ShowsMachineAt g o number m f t
    → In w (whole_steps g.setting all next a m) → reserved_by w.after.root + w.lowers ≡ reserved_by m.root + w.raises

-- nor once it has finished
abbrev pub FinishReserves : Type 0
FinishReserves = (g : Write) (number : List ℕ → ℕ) (f : Future) (m : Machine) (t : Tree) → ShowsMachine g number m f t → IsTrue (is_finished m) → reserved_by m.root ≡ 0
