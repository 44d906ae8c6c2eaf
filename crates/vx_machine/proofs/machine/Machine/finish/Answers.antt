use Rattle.vx_machine.proofs.Finishing.{finished_parts, finished_none, finished_unreserved, closed_is}
use Rattle.vx_machine.proofs.machine.Machine.finish.Goals as goal

pub into_layout-layout-requires : goal.into_layout-layout-requires
into_layout-layout-requires c = (finished_parts c.args.self c.requires).1

pub unreachable-requires : goal.unreachable-requires
unreachable-requires c = c.in_default.not-Finished (closed_is c.args.self.phase (finished_parts c.args.self c.requires).0)

pub returns-clause-free : goal.returns-clause-free
returns-clause-free c = finished_none c.args.self c.requires

pub returns-clause-unreserved : goal.returns-clause-unreserved
returns-clause-unreserved c = finished_unreserved c.args.self c.requires
