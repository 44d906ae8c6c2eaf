-- What a tree and its cut tree have in common, for every tree that keeps the rules.
use Rattle.std.specs.Prelude.{◌≡◌, ℕ, ◌<◌, List, length}
use Rattle.vx_path.specs.Lists.{In}
use Rattle.vx_tasks.specs.Task.{Forest}
use Rattle.vx_tasks.specs.State.{Counts, left}
use Rattle.vx_tasks.specs.State.Counts.{Zeros}
use Rattle.vx_tasks.specs.Rules.{KeepsRules, NoneRefuses}
use Rattle.vx_tasks.specs.Run.{Move, all_held, all_moves, work, Leads, run, trace}
use Rattle.vx_cut_laws.specs.Cut.{cut}

-- in each state that a run reaches, the same can be done, and the same paths are held
abbrev pub SameMoves : Type 0
SameMoves = (f : Forest) (e : Counts) (ms : List Move) → KeepsRules f → Leads f Zeros ms e → all_moves (cut f) e ≡ all_moves f e

abbrev pub SameHeld : Type 0
SameHeld = (f : Forest) (e : Counts) (ms : List Move) → KeepsRules f → Leads f Zeros ms e → all_held (cut f) e ≡ all_held f e

-- so the runs are the same, step by step
abbrev pub SameRuns : Type 0
SameRuns = (f : Forest) (picks : List ℕ) (n : ℕ) → KeepsRules f → run (cut f) Zeros picks n ≡ run f Zeros picks n

-- and the traces
abbrev pub SameTrace : Type 0
SameTrace = (f : Forest) (picks : List ℕ) → KeepsRules f → trace (cut f) picks ≡ trace f picks

-- where a move is still there, as one that refuses, fewer were made than the work that is left in after the cut
abbrev pub RefusedEarly : Type 0
RefusedEarly = (f : Forest) (e : Counts) (ms : List Move) (m : Move) → KeepsRules f → Leads f Zeros ms e → In m (all_moves f e) → length ms < work (cut f)

-- where nothing is left, as many were made as that
abbrev pub CutIsDone : Type 0
CutIsDone = (f : Forest) (e : Counts) (ms : List Move) → KeepsRules f → Leads f Zeros ms e → left f e ≡ 0 → length ms ≡ work (cut f)

-- where no task refuses, nothing is cut
abbrev pub NothingCut : Type 0
NothingCut = (f : Forest) → KeepsRules f → NoneRefuses f → cut f ≡ f
