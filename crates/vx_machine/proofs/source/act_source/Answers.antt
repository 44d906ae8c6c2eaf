use Rattle.std.proofs.Common.{ap, inl, true}
use Rattle.vx_machine_state.specs.State.{no_tasks}
use Rattle.vx_machine.specs.Calls.{reads_at}
use Rattle.vx_machine_node.specs.View.{item_of}
use Rattle.vx_machine_task.specs.View.{task_row}
use Rattle.vx_machine.specs.Names.{names_of}
use Rattle.vx_machine.specs.View.{phase_of}
use Rattle.vx_machine_nodes.proofs.CallSteps.{unasked_self}
use Rattle.vx_machine.proofs.CallSteps.{told_as}
use Rattle.vx_machine.proofs.SourceSteps.{read_done, read_refused, put_done, put_refused, close_done, rest_done}
use Rattle.vx_machine.proofs.source.act_source.Goals as goal

pub returns-in-Reading-clause-done : goal.returns-in-Reading-clause-done
returns-in-Reading-clause-done g c =
    read_done (g.B.BatchSource.kind c.args.source.now) (g.B.BatchSource.to_come c.args.source.now) (g.B.BatchSource.to_come c.read.new.source) (names_of c.in-Reading.names) (phase_of c.args.phase) (phase_of c.read.result.0)
    (task_row c.args.root.now no_tasks) c.read.result.1 (ap phase_of c.in-Reading.is) c.read.ensures.done

pub returns-in-Reading-clause-refused : goal.returns-in-Reading-clause-refused
returns-in-Reading-clause-refused g c =
    read_refused (g.B.BatchSource.kind c.args.source.now) (g.B.BatchSource.to_come c.args.source.now) (g.B.BatchSource.to_come c.read.new.source) (names_of c.in-Reading.names) (phase_of c.args.phase)
    (task_row c.args.root.now no_tasks) c.read.result.1 (ap phase_of c.in-Reading.is) c.read.ensures.refused

pub returns-in-Ok-clause-done : goal.returns-in-Ok-clause-done
returns-in-Ok-clause-done g c =
    put_done (g.B.BatchSource.kind c.args.source.now) (g.B.BatchSource.to_come c.args.source.now) (names_of c.in-Giving.names) (item_of c.in-Giving.item) (phase_of c.args.phase) c.args.root.now (task_row c.give.new.self no_tasks)
    (ap phase_of c.in-Giving.is) (c.in-Ok.ensures.shows no_tasks)

pub returns-in-Err-clause-refused : goal.returns-in-Err-clause-refused
returns-in-Err-clause-refused g c =
    put_refused (g.B.BatchSource.kind c.args.source.now) (g.B.BatchSource.to_come c.args.source.now) (names_of c.in-Giving.names) (item_of c.in-Giving.item) (phase_of c.args.phase) (task_row c.args.root.now no_tasks) (ap phase_of c.in-Giving.is)

pub returns-in-Closing-clause-done : goal.returns-in-Closing-clause-done
returns-in-Closing-clause-done g c =
    close_done (g.B.BatchSource.kind c.args.source.now) (g.B.BatchSource.to_come c.args.source.now) (phase_of c.args.phase) c.args.root.now (task_row c.shut.new.self no_tasks) (ap phase_of c.in-Closing.is) (c.shut.ensures.shows no_tasks)

pub returns-in-Finished-clause-done : goal.returns-in-Finished-clause-done
returns-in-Finished-clause-done g c =
    rest_done (g.B.BatchSource.kind c.args.source.now) (g.B.BatchSource.to_come c.args.source.now) (phase_of c.args.phase) (task_row c.args.root.now no_tasks) (ap phase_of c.in-Finished.is)

-- calls of the source
pub returns-in-Reading-clause-told : goal.returns-in-Reading-clause-told
returns-in-Reading-clause-told g c =
    told_as g.B.Fallible.faults g.B.Fallible.may_fail g.B.Fallible.must_fail c.args.source.now c.read.new.source true (reads_at (phase_of c.args.phase) 0) c.read.result.1
    (ap (λ p. reads_at (phase_of p) 0) c.in-Reading.is) c.read.ensures.told

pub returns-in-Ok-clause-told : goal.returns-in-Ok-clause-told
returns-in-Ok-clause-told g c = unasked_self (g.B.Fallible.faults c.args.source.now) (g.B.Fallible.may_fail c.args.source.now) (g.B.Fallible.must_fail c.args.source.now)

pub returns-in-Err-clause-told : goal.returns-in-Err-clause-told
returns-in-Err-clause-told g c = inl (unasked_self (g.B.Fallible.faults c.args.source.now) (g.B.Fallible.may_fail c.args.source.now) (g.B.Fallible.must_fail c.args.source.now))

pub returns-in-Closing-clause-told : goal.returns-in-Closing-clause-told
returns-in-Closing-clause-told g c = unasked_self (g.B.Fallible.faults c.args.source.now) (g.B.Fallible.may_fail c.args.source.now) (g.B.Fallible.must_fail c.args.source.now)

pub returns-in-Finished-clause-told : goal.returns-in-Finished-clause-told
returns-in-Finished-clause-told g c = unasked_self (g.B.Fallible.faults c.args.source.now) (g.B.Fallible.may_fail c.args.source.now) (g.B.Fallible.must_fail c.args.source.now)
