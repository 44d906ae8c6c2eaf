-- What the program's tasks would do against what the abstract ones can do.
use Rattle.std.specs.Prelude.{◌≡◌, ℕ, List, [], ◌∷◌, ◌++◌, IsFalse}
use Rattle.vx_machine_state.specs.Images.{Careful}
use Rattle.vx_tasks.specs.Task.Kind.{Append}
use Rattle.vx_plan.specs.PlanData.{Setting}
use Rattle.vx_machine_turns.specs.Acts.{Seed, refuses, written_by}
use Rattle.vx_machine_turns.specs.Fuels.{Fuel}
use Rattle.vx_machine_steps.specs.Tree.{Tree, opened}
use Rattle.vx_machine_steps.specs.Moves.{TreeMove, tree_moves}
use Rattle.vx_machine_steps.specs.Laws.{JoinsFree}
use Rattle.vx_machine_state.specs.State.{Tasks}
use Rattle.vx_machine_state.specs.Acts.{count}
use Rattle.vx_machine_state.specs.Moves.{Step, steps}
use Rattle.vx_machine_view.specs.Shows.{Shows, rows_of, types_of}

-- the lists go in step
abbrev pub AllPairs : {A B : Type 0} → (A → B → Type 0) → List A → List B → Type 0
AllPairs P [] [] = Unit {0}
AllPairs P [] (y ∷ ys) = ⊥
AllPairs P (x ∷ xs) [] = ⊥
AllPairs P (x ∷ xs) (y ∷ ys) = P x y × AllPairs P xs ys

-- what never changes of tasks and of abstract ones
pub record Steady (cs new : Tasks) (t after : Tree) : Type 0 where
  pub count_is : count new ≡ count cs
  pub rows_are : rows_of after ≡ rows_of t
  pub types_are : types_of after ≡ types_of t

-- A step is a move: by its task, its act and why that is refused. Where it isn't, the tasks after it show the state after it;
-- an append gets the number of its path.
pub record SameStep (s : Setting) (number : List ℕ → ℕ) (next : ℕ) (d : Fuel) (q : Seed) (j : ℕ) (cs : Tasks) (t : Tree) (w : Step) (m : TreeMove) : Type 0 where
  pub name : w.name ≡ m.name
  pub kind : w.kind ≡ m.act.kind
  pub refusal : w.refusal ≡ m.act.refusal
  pub misfit : w.misfit ≡ m.act.misfit
  pub numbers : w.numbers ≡ m.act.numbers
  pub indices : w.indices ≡ m.act.indices ++ opened m.room m.act.starts
  pub wrote : w.wrote ≡ written_by m.act.kind m.act.bytes
  pub raises : w.raises ≡ m.act.raises
  pub lowers : w.lowers ≡ m.act.lowers
  pub after : IsFalse (refuses m.act) → ((p : List ℕ) → m.act.kind ≡ Append p → next ≡ number p)
      → Shows s number d q j w.after m.after × Steady cs w.after t m.after

-- Tasks that show a state can do just what it can, place by place.
abbrev pub StepsShow : Type 0
StepsShow = (s : Setting) (number : List ℕ → ℕ) (next : ℕ) (all : List (List ℕ)) (d : Fuel) (q : Seed) (j : ℕ) (cs : Tasks) (t : Tree) → Careful s
    → Shows s number d q j cs t → JoinsFree s t → AllPairs (SameStep s number next d q j cs t) (steps s all next cs) (tree_moves s all d t)
