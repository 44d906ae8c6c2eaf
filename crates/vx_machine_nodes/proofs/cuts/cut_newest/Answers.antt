use Rattle.std.proofs.Common.{◌≤◌, ◌+◌, List, [], length, subst, arith}
use Rattle.std.specs.Prelude.{IfErr, OnOk}
use Rattle.std.specs.Arc.{arc_value}
use Rattle.vx_react.specs.Reactor.{Output}
use Rattle.vx_runs.specs.CutterData.{held_at}
use Rattle.vx_machine_turns.specs.Dict.{rest_eof}
use Rattle.vx_machine_nodes.specs.Runs.{behind_all, CutRefused}
use Rattle.vx_machine_node.specs.View.{runs_in}
use Rattle.vx_machine_nodes.proofs.RunTakes.{number_small, outputs_follow, outputs_rows}
use Rattle.vx_machine_nodes.proofs.cuts.cut_newest.Goals as goal

pub put_below-requires-clause-follow : goal.put_below-requires-clause-follow
put_below-requires-clause-follow g c = outputs_follow c.args.cutter.now c.args.newest.chunk c.args.runs.now.begun c.args.last c.in-Ok.outputs.items c.in-Ok.ensures.gives

pub put_below-requires-clause-few : goal.put_below-requires-clause-few
put_below-requires-clause-few g c = omega (arith, c.requires.few, outputs_rows c.args.cutter.now c.args.newest.chunk c.args.last c.in-Ok.outputs.items c.in-Ok.ensures.gives)

pub returns-in-Ok-clause-refused : goal.returns-in-Ok-clause-refused
returns-in-Ok-clause-refused g c =
    subst (λ (xs : List Output). IfErr c.put_below.result (CutRefused (rest_eof (behind_all (runs_in c.args.runs.now []) xs)).last (length xs))) (c.in-Ok.ensures.gives (arc_value c.args.node.now).probe) c.put_below.ensures.refused

pub returns-in-Err-clause-refused : goal.returns-in-Err-clause-refused
returns-in-Err-clause-refused g c =
    c.cut_refusal.ensures.refused (held_at 0 c.args.cutter.now c.args.newest.chunk).number _ _ c.in-Err.ensures.refused
    (number_small c.args.cutter.now (arc_value c.args.node.now).probe c.args.newest.chunk c.args.runs.now c.args.last c.requires.number)

pub returns-in-Ok-clause-rows : goal.returns-in-Ok-clause-rows
returns-in-Ok-clause-rows g c =
    subst (λ n. OnOk c.put_below.result (c.put_below.new.runs.rows ≤ c.args.runs.now.rows + n)) (outputs_rows c.args.cutter.now c.args.newest.chunk c.args.last c.in-Ok.outputs.items c.in-Ok.ensures.gives) c.put_below.ensures.rows
