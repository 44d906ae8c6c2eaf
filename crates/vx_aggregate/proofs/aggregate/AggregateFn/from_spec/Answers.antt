use Rattle.std.proofs.Common.{refl, sym, rules, arith}
use Rattle.std.proofs.lemmas.Grind.{common_steps}
use Rattle.vx_aggregate_spec.specs.Aggregate.{bounded_maximum, bounded_minimum, bloom}
use Rattle.vx_aggregate.specs.declared.aggregate.AggregateFn.TheVariants.{Max, Min, NullCount, Sum}
use Rattle.vx_aggregate.proofs.Named.{plain_named, bound_refused, blocks_refused}
use Rattle.vx_aggregate.proofs.aggregate.AggregateFn.from_spec.Goals as goal

pub returns-then-eq : goal.returns-then-eq
returns-then-eq c = plain_named Max c.args.id.now c.args.options.now c.plain.result (search rules) refl refl c.plain.ensures

pub returns-then-eq-2 : goal.returns-then-eq-2
returns-then-eq-2 c = plain_named Min c.args.id.now c.args.options.now c.plain-then-eq-2.result (search rules) refl refl c.plain-then-eq-2.ensures

pub returns-then-eq-3 : goal.returns-then-eq-3
returns-then-eq-3 c = plain_named NullCount c.args.id.now c.args.options.now c.plain-then-eq-3.result (search rules) refl refl c.plain-then-eq-3.ensures

pub returns-then-eq-4 : goal.returns-then-eq-4
returns-then-eq-4 c = plain_named Sum c.args.id.now c.args.options.now c.plain-then-eq-4.result (search rules) refl refl c.plain-then-eq-4.ensures

pub returns-in-None : goal.returns-in-None
returns-in-None c = bound_refused (bounded_maximum 1) c.args.id.now c.args.options.now (sym (search rules)) refl c.in-None.ensures

pub returns-in-None-bound : goal.returns-in-None-bound
returns-in-None-bound c = bound_refused (bounded_minimum 1) c.args.id.now c.args.options.now (sym (search rules)) refl c.in-None-bound.ensures

pub returns-in-None-blocks : goal.returns-in-None-blocks
returns-in-None-blocks c = blocks_refused (bloom 1) c.args.id.now c.args.options.now (sym (search rules)) refl c.in-None-blocks.ensures
