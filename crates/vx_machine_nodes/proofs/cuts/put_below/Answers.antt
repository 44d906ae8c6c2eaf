use Rattle.std.proofs.Common.{◌+◌, ◌≡◌, length, subst, arith, []}
use Rattle.std.specs.Prelude.{IfErr}
use Rattle.vx_machine_turns.specs.Dict.{rest_eof}
use Rattle.vx_machine_nodes.specs.Runs.{behind_all, CutRefused}
use Rattle.vx_machine_node.specs.View.{runs_in}
use Rattle.vx_machine_nodes.proofs.cuts.put_below.Goals as goal

pub returns-in-Ok-clause-refused : goal.returns-in-Ok-clause-refused
returns-in-Ok-clause-refused g c =
    let e : c.in-Ok.below.last + length c.args.outputs.items ≡ length c.args.outputs.items = omega (arith, c.in-Ok.ensures.pointer.1) in
    subst (λ n. IfErr c.put_outputs-put.result (CutRefused (rest_eof (behind_all (runs_in c.args.runs.now []) c.args.outputs.items)).last n)) e c.put_outputs-put.ensures.refused
