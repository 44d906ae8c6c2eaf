use Rattle.vx_run.specs.Runs.{pipe_at}
use Rattle.vx_run_columns.proofs.Printing.{beside_runs}
use Rattle.vx_run_columns.proofs.running.run_columns.Goals as goal

pub returns : goal.returns
returns g c =
    let input = pipe_at g.I.Fallible.faults g.I.Fallible.may_fail g.I.Input.to_come in
    let output = pipe_at g.O.Fallible.faults g.O.Fallible.may_fail g.O.Output.written in
    let told = c.print_answer.ensures in
    record {
      runs = beside_runs (input c.args.input.now) (input c.print_answer.new.input) (output c.args.output.now) (output c.print_answer.new.output) c.print_answer.result
          (record { counted = told.input_count; allowed = told.may_input }) (record { counted = told.output_count; allowed = told.may_output })
          told.took told.early told.known told.ended told.judged told.ran;
    }
