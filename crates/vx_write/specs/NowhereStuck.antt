-- That the tasks of a write get nowhere stuck, whatever is picked.
use Rattle.std.specs.Prelude.{◌≡◌, ◌<◌, suc, List}
use Rattle.vx_path.specs.Lists.{In}
use Rattle.vx_tasks.specs.Task.{Forest}
use Rattle.vx_tasks.specs.State.{Counts, left}
use Rattle.vx_tasks.specs.State.Counts.{Zeros}
use Rattle.vx_tasks.specs.Run.{Move, Leads, all_moves, ready}

-- Wherever acts of these tasks have led from their start, whichever were picked, and none of them refused: as long as an act is left, a
-- task is ready. Each act that can be done leaves one less.
pub record NowhereStuck (tasks : Forest) : Type 0 where
  pub some_ready : (done : List Move) (state : Counts) → Leads tasks Zeros done state → 0 < left tasks state → 0 < ready tasks state
  pub falls : (state : Counts) (m : Move) → In m (all_moves tasks state) → suc (left tasks m.after) ≡ left tasks state
