use Rattle.std.proofs.Common.{arith}
use Rattle.std.specs.Vec.Iter.{into_iter_items}
use Rattle.vx_chunk.proofs.FieldSteps.{column_fits, next_fit, next_typed, all_typed}
use Rattle.vx_chunk.proofs.fields.typed.Goals as goal

pub bounds-types-i : goal.bounds-types-i
bounds-types-i c = column_fits c.args.types.now c.loop-column.i _ _ (rw c.in-Some.ensures.steps.0 at c.loop-column.invariant.fit)

pub typed-requires : goal.typed-requires
typed-requires c =
    let next = next_fit c.args.types.now c.loop-column.i c.index-types-i.result _ _ c.in-Some.column c.index-types-i.is c.in-Some.ensures.steps.0 c.loop-column.invariant.fit in
    rw (c.in_ok-dtype.ensures.cases, ← c.index-types-i.is) next.1.0

pub loop-column-preserved : goal.loop-column-preserved
loop-column-preserved c =
    let next = next_fit c.args.types.now c.loop-column.i c.index-types-i.result _ _ c.in-Some.column c.index-types-i.is c.in-Some.ensures.steps.0 c.loop-column.invariant.fit in
    record {
      fit = next.1.1;
      chunks = rw (c.in_ok-push.ensures.items, c.in_ok-typed.ensures, c.in_ok-dtype.ensures.cases, ← c.index-types-i.is)
          (next_typed c.args.types.now c.loop-column.i c.index-types-i.result _ _ c.in-Some.column c.loop-column.chunks.items _ next.0 c.index-types-i.is c.in-Some.ensures.steps.0 c.loop-column.invariant.chunks);
    }

pub returns : goal.returns
returns c =
    all_typed c.loop-column.chunks.items _ _ (into_iter_items c.loop-column.column-iterator) (omega (arith, c.in-None.ensures.steps.0, c.loop-column.column-iterator.rest.ok.0)) c.loop-column.invariant.chunks
