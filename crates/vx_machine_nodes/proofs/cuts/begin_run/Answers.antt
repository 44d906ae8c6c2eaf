use Rattle.vx_machine_nodes.proofs.RunSteps.{first_path, second_path}
use Rattle.vx_machine_nodes.proofs.cuts.begin_run.Goals as goal

pub invariant_of-result : goal.invariant_of-result
invariant_of-result g c = record {
  few = c.requires.few;
  first = first_path c.in-Ok.codes c.args.pointer.now c.in-Ok.ensures.ids.0;
  second = second_path c.in-Ok.codes c.in-Ok.values c.args.pointer.now c.in-Ok.ensures.ids.0 c.in-Ok.ensures.ids.1;
}
