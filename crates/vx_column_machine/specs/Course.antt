-- A column's own write, and how far it has come.
use Rattle.std.specs.Prelude.{◌≡◌, ℕ, ◌+◌, ◌^◌, true, List, [], ◌++◌, length, Option, Some, None}
use Rattle.vx_model.specs.ChunkData.{ChunkData}
use Rattle.vx_tasks.specs.Run.{Note}
use Rattle.vx_named_tasks.specs.Names.{Outset, column_outset}
use Rattle.vx_plan.specs.PlanData.{Setting, Plan, paths as paths_of}
use Rattle.vx_plan.specs.SourcePlan.{start_fault}
use Rattle.vx_plan.specs.Valid.{OfSchema}
use Rattle.vx_column_plan.specs.Columns.{Column}
use Rattle.vx_machine_turns.specs.Source.{stream_plan}
use Rattle.vx_machine_promises.specs.Write.{Write}
use Rattle.vx_machine_state.specs.Images.{Careful}
use Rattle.vx_machine_state.specs.Start.{first_indices}
use Rattle.vx_machine_view.specs.Machine.{Machine}
use Rattle.vx_machine_view.specs.Whole.{form_of}
use Rattle.vx_machine_runs.specs.Runs.{PickedBy}
use Rattle.vx_machine_runs.specs.Numbers.{AllBelow}
use Rattle.vx_machine_runs.specs.Courses.{Point, start_point, GoesBy, CountedBelow}
use Rattle.vx_machine.specs.Progress.{numbers_from}

-- how a column is written, its number, and its chunks
pub record Course : Type 0 where
  pub setting : Setting
  pub column : Column
  pub number : ℕ
  pub chunks : List ChunkData

-- nothing is in its tracker before, and of what is ready the first is taken
abbrev pub write_of : Course → Write
write_of x = record { setting = x.setting; way = x.column.way; type = x.column.type; mark = x.column.mark; tracker = 0; schedule = [] }

-- it begins where the struct's node makes an id for each chunk of the column, and the eof path behind them
abbrev pub outset_of : Course → Outset
outset_of x = column_outset x.number (length x.chunks)

abbrev pub start_of : Course → Point
start_of x = start_point (write_of x) (outset_of x).names (outset_of x).eof

-- what it writes
abbrev pub plan_of : Course → Plan
plan_of x = stream_plan x.setting x.column.way x.column.type x.column.mark (outset_of x) x.chunks true

-- It has come so far: the machine stands there, and the source still tells the other chunks. Segments are numbered from 0.
pub record StandsAt (x : Course) (m : Machine) (to_come : Option (List ChunkData)) (written : ℕ) (paths : List (List ℕ)) : Type 0 where
  pub notes : List Note
  pub point : Point
  pub comes : GoesBy (write_of x) (start_of x) notes point
  pub picked : PickedBy [] notes
  pub counts : CountedBelow (2 ^ 64) (write_of x) (start_of x) notes point comes
  pub careful : Careful x.setting
  pub starts : start_fault x.setting x.column.way x.column.type x.column.mark ≡ None
  pub first : AllBelow (2 ^ 64) (first_indices (form_of (write_of x)) x.column.mark (outset_of x).eof)
  pub machine_is : m ≡ point.machine
  pub later : List ChunkData
  pub told : to_come ≡ Some later
  pub taken : x.chunks ≡ point.taken ++ later
  pub ended : point.heard ≡ true → later ≡ []
  pub typed : OfSchema x.column.type x.chunks
  pub written_is : written ≡ 0 + length point.history
  pub numbers : point.numbers ≡ numbers_from 0 (length point.history)
  pub paths_are : paths ≡ paths_of point.history
