use Rattle.std.proofs.Common.{map}
use Rattle.std.specs.Prelude.{string_bytes}
use Rattle.vx_run.specs.Runs.{pipe_at}
use Rattle.vx_run.proofs.Promises.{command_runs, other_runs}
use Rattle.vx_run.proofs.running.run_told.Goals as goal

pub returns-in-Some-clause-runs : goal.returns-in-Some-clause-runs
returns-in-Some-clause-runs g c =
    let input = pipe_at g.I.Fallible.faults g.I.Fallible.may_fail g.I.Input.to_come in
    let output = pipe_at g.O.Fallible.faults g.O.Fallible.may_fail g.O.Output.written in
    let told = c.run_command.ensures in
    command_runs (map string_bytes c.args.words.now) (input c.args.input.now) (input c.run_command.new.input) (output c.args.output.now) (output c.run_command.new.output) c.run_command.result
    c.in-Some.command c.in-Some.ensures (record { counted = told.input_count; allowed = told.may_input }) (record { counted = told.output_count; allowed = told.may_output })
    told.took told.early told.known told.ended told.judged told.ran

pub returns-in-None-clause-runs : goal.returns-in-None-clause-runs
returns-in-None-clause-runs g c =
    let input = pipe_at g.I.Fallible.faults g.I.Fallible.may_fail g.I.Input.to_come c.args.input.now in
    let output = pipe_at g.O.Fallible.faults g.O.Fallible.may_fail g.O.Output.written in
    let told = c.run_other.ensures in
    other_runs (map string_bytes c.args.words.now) input (output c.args.output.now) (output c.run_other.new.output) c.run_other.result
    c.in-None.ensures told.unread (record { counted = told.count; allowed = told.may }) told.used told.summed
