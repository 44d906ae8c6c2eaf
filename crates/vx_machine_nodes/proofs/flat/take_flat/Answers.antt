use Rattle.std.proofs.Common.{[]}
use Rattle.vx_machine_nodes.proofs.TakeShows.{flat_took, flat_why}
use Rattle.vx_machine_nodes.proofs.flat.take_flat.Goals as goal

pub returns-in-Ok-clause-done : goal.returns-in-Ok-clause-done
returns-in-Ok-clause-done g c = λ name ks todo image.
    flat_took c.args.ctx.now image name ks c.args.item todo c.args.local.now c.set_local.new.local c.in-Ok.ensures.stored.0 c.in-Ok.segment
    c.in-Ok.ensures.stored.1 c.set_local.ensures.local c.in-Ok.ensures.stored.2

pub returns-in-Err-clause-refused : goal.returns-in-Err-clause-refused
returns-in-Err-clause-refused g c = λ flat name ks image. flat_why c.args.ctx.now image name ks c.args.item [] c.args.local.now c.in-Err.error flat c.in-Err.ensures.refused
