use Rattle.vx_tally.proofs.Sums.{down_left, down_right, at_bottom, has_below}
use Rattle.vx_tally.proofs.descend.Goals as goal

pub bounds-nodes-width : goal.bounds-nodes-width
bounds-nodes-width c = has_below c.args.nodes.now c.args.half c.args.k c.loop-width.width c.loop-width.i c.loop-width.rest c.loop-width.invariant c.loop-width-test.true c.requires.size

pub loop-width-preserved-then-rest-left : goal.loop-width-preserved-then-rest-left
loop-width-preserved-then-rest-left c =
    down_right c.args.nodes.now c.args.half c.args.k c.loop-width.width c.loop-width.i c.loop-width.rest c.loop-width.invariant c.requires.sums c.requires.fits c.loop-width-test.true c.if-rest-left.true

pub loop-width-preserved : goal.loop-width-preserved
loop-width-preserved c =
    down_left c.args.nodes.now c.args.half c.args.k c.loop-width.width c.loop-width.i c.loop-width.rest c.loop-width.invariant c.requires.sums c.requires.fits c.loop-width-test.true c.if-rest-left.false

pub returns-clause-place : goal.returns-clause-place
returns-clause-place c = (at_bottom c.args.nodes.now c.args.half c.args.k c.loop-width.width c.loop-width.i c.loop-width.rest c.loop-width.invariant c.loop-width-test.false).0

pub returns-clause-inside : goal.returns-clause-inside
returns-clause-inside c = (at_bottom c.args.nodes.now c.args.half c.args.k c.loop-width.width c.loop-width.i c.loop-width.rest c.loop-width.invariant c.loop-width-test.false).1
