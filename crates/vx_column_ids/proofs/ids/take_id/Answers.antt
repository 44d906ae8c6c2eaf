use Rattle.std.proofs.Common.{ap, arith}
use Rattle.std.specs.Prelude.{Err}
use Rattle.vx_machine_ids.proofs.CallLaws.{owned_open}
use Rattle.vx_machine_ids.proofs.IdMoves.{took, not_took}
use Rattle.vx_column_ids.proofs.Pointers.{memory_alone}
use Rattle.vx_column_ids.proofs.ids.take_id.Goals as goal

pub advance-requires : goal.advance-requires
advance-requires c = owned_open c.args.universe.now c.args.pointer.now c.requires.owned

pub returns-in-Ok-clause-moved : goal.returns-in-Ok-clause-moved
returns-in-Ok-clause-moved c = took c.args.universe.now c.advance.new.universe c.args.pointer.now c.advance.new.self c.in-Ok.id
    c.in-Ok.ensures.rules c.in-Ok.ensures.universe c.in-Ok.ensures.pointer c.in-Ok.ensures.id c.requires.owned

pub returns-in-Err-clause-moved : goal.returns-in-Err-clause-moved
returns-in-Err-clause-moved c = not_took c.args.universe.now c.advance.new.universe c.args.pointer.now c.advance.new.self
    c.in-Err.ensures.unchanged.1 c.in-Err.ensures.unchanged.0 c.requires.owned

pub returns-in-Err-clause-memory : goal.returns-in-Err-clause-memory
returns-in-Err-clause-memory c = memory_alone c.in-Err.error (λ e. omega (arith, c.in-Err.ensures.full (ap (λ x. Err x) e), c.requires.room))
