use Rattle.vx_segment_writer.specs.Segment.{refused}
use Rattle.vx_sink.specs.ContextView.{listed}
use Rattle.vx_machine_nodes.proofs.TakeShows.{first_stored, first_why, second_why}
use Rattle.vx_machine_nodes.proofs.flat.first_segment.Goals as goal

pub returns-in-Empty-clause-stored : goal.returns-in-Empty-clause-stored
returns-in-Empty-clause-stored c = first_stored (listed c.args.ctx.now) c.args.chunk.now c.args.local.now c.in-Empty.node c.store.result c.in-Empty.is c.store.ensures.stored

pub returns-in-Empty-clause-refused : goal.returns-in-Empty-clause-refused
returns-in-Empty-clause-refused c = first_why (refused (listed c.args.ctx.now) c.args.chunk.now) c.args.local.now c.in-Empty.node c.store.result c.in-Empty.is c.store.ensures.refused

pub returns-in_default-clause-refused : goal.returns-in_default-clause-refused
returns-in_default-clause-refused c = second_why (refused (listed c.args.ctx.now) c.args.chunk.now) c.args.local.now c.in_default.not-Empty
