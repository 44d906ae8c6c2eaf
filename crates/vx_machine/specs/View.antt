-- The machine in plain data: its source and its root.
use Rattle.vx_machine_state.specs.State as view
use Rattle.vx_machine_view.specs.Machine as whole
use Rattle.vx_machine.specs.declared.source.Phase.{Phase}
use Rattle.vx_machine.specs.declared.source.Phase.TheVariants.{Reading, Giving, Closing, Finished}
use Rattle.vx_machine.specs.declared.machine.Machine.{Machine}
use Rattle.vx_machine_node.specs.View.{item_of}
use Rattle.vx_machine_task.specs.View.{task_row}
use Rattle.vx_machine.specs.Names.{names_of}

abbrev pub phase_of : Phase → whole.Phase
phase_of (Reading ns) = whole.reading (names_of ns)
phase_of (Giving ns i) = whole.giving (names_of ns) (item_of i)
phase_of Closing = whole.closing
phase_of Finished = whole.finished

abbrev pub machine_of : Machine → whole.Machine
machine_of m = record { phase = phase_of m.phase; root = task_row m.root view.no_tasks }
