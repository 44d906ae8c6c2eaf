use Rattle.std.proofs.Common.{◌+◌, ◌-◌, ◌/◌, ℕ, List, length, take, arith, sym, subst, add-one}
use Rattle.vx_sequence.specs.declared.entries.Entry.{Entry}
use Rattle.vx_sequence.specs.Entries.{AreBelow}
use Rattle.vx_sequence.proofs.Ascending.{up_to_below, from_above, same_path}
use Rattle.vx_sequence.proofs.Halves.{Halved, one_step, half_left}
use Rattle.vx_sequence.proofs.entries.search.Goals as goal

-- the entry in the middle stands to the path as the comparison says
pub loop-low-preserved-in-Less : goal.loop-low-preserved-in-Less
loop-low-preserved-in-Less g c =
    let es : List Entry = g.R.Row.entries c.args.row.now in
    let middle : ℕ = c.loop-low.low + (c.loop-low.high - c.loop-low.low) / 2 in
    let before : Halved c.args.steps.now c.loop-low.steps (c.loop-low.high - c.loop-low.low) (length es) =
    record { counted = c.loop-low.invariant.counted; halved = c.loop-low.invariant.halved; cost = c.loop-low.invariant.cost } in
    let later : Halved c.args.steps.now c.compare.new.self (c.loop-low.high - (middle + 1)) (length es) =
    half_left c.args.steps.now c.loop-low.steps (c.loop-low.high - c.loop-low.low) (length es) before
    c.compare.new.self c.compare.ensures.step (c.loop-low.high - (middle + 1)) (omega (arith, c.loop-low-test.true)) (omega (arith, c.loop-low-test.true)) in
    record {
      ordered = omega (arith, c.loop-low-test.true);
      within = c.loop-low.invariant.within;
      before = subst (λ n. AreBelow (take n es) c.args.path.now) (sym (add-one middle))
          (up_to_below es middle c.path_at.result.now c.args.path.now c.compare.result c.requires.ascends
          c.path_at.ensures c.compare.ensures.order c.in-Less.is);
      behind = c.loop-low.invariant.behind;
      counted = later.counted;
      halved = later.halved;
      cost = later.cost;
    }

pub loop-low-preserved : goal.loop-low-preserved
loop-low-preserved g c =
    let es : List Entry = g.R.Row.entries c.args.row.now in
    let middle : ℕ = c.loop-low.low + (c.loop-low.high - c.loop-low.low) / 2 in
    let before : Halved c.args.steps.now c.loop-low.steps (c.loop-low.high - c.loop-low.low) (length es) =
    record { counted = c.loop-low.invariant.counted; halved = c.loop-low.invariant.halved; cost = c.loop-low.invariant.cost } in
    let later : Halved c.args.steps.now c.compare.new.self (middle - c.loop-low.low) (length es) =
    half_left c.args.steps.now c.loop-low.steps (c.loop-low.high - c.loop-low.low) (length es) before
    c.compare.new.self c.compare.ensures.step (middle - c.loop-low.low) (omega (arith, c.loop-low-test.true)) (omega (arith, c.loop-low-test.true)) in
    record {
      ordered = omega arith;
      within = omega (arith, c.loop-low-test.true, c.loop-low.invariant.within);
      before = c.loop-low.invariant.before;
      behind = from_above es middle c.path_at.result.now c.args.path.now c.compare.result c.requires.ascends
          c.path_at.ensures c.compare.ensures.order c.in-Greater.is;
      counted = later.counted;
      halved = later.halved;
      cost = later.cost;
    }

pub returns-in-Equal-clause-place : goal.returns-in-Equal-clause-place
returns-in-Equal-clause-place g c =
    same_path (g.R.Row.entries c.args.row.now) (c.loop-low.low + (c.loop-low.high - c.loop-low.low) / 2)
    c.path_at.result.now c.args.path.now c.compare.result c.requires.ascends c.path_at.ensures c.compare.ensures.order c.in-Equal.is

pub returns-in-Equal-clause-cost : goal.returns-in-Equal-clause-cost
returns-in-Equal-clause-cost g c =
    let n : ℕ = length (g.R.Row.entries c.args.row.now) in
    let before : Halved c.args.steps.now c.loop-low.steps (c.loop-low.high - c.loop-low.low) n =
    record { counted = c.loop-low.invariant.counted; halved = c.loop-low.invariant.halved; cost = c.loop-low.invariant.cost } in
    one_step c.args.steps.now c.loop-low.steps (c.loop-low.high - c.loop-low.low) n before
    c.compare.new.self c.compare.ensures.step (omega (arith, c.loop-low-test.true))
