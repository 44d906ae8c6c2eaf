use Rattle.std.proofs.Common.{arith}
use Rattle.vx_session.proofs.Named.{not_found}
use Rattle.vx_session.proofs.aggregates.aggregate_named.Goals as goal

pub returns-in-Err : goal.returns-in-Err
returns-in-Err c = not_found c.args.id.now c.args.options.now c.in-Err.error (λ i. omega (arith, c.type_inv.options i)) c.in-Err.ensures
