use Rattle.vx_machine_nodes.proofs.zoned.record_of.Goals as goal

pub returns-in-Err-clause-refused : goal.returns-in-Err-clause-refused
returns-in-Err-clause-refused c = λ rows. c.guard_refusal.ensures.refused c.args.guard.now c.args.chunk.now rows c.in-Err.ensures.refused
