use Rattle.vx_sequence.specs.Blocks.{list_of}
use Rattle.vx_sequence.proofs.Least.{rank_at, rank_gap, len-active_of}
use Rattle.vx_sequence.proofs.active.Universe.find.Goals as goal

pub returns-in-Ok-clause-ok : goal.returns-in-Ok-clause-ok
returns-in-Ok-clause-ok g c =
    rank_at (list_of c.self.inside.entries) c.args.self.now c.args.path.now c.in-Ok.place c.self.invariant.0.ascends c.self.view_is c.in-Ok.ensures.place

pub returns-in-Ok-clause-cost : goal.returns-in-Ok-clause-cost
returns-in-Ok-clause-cost g c = rw (len-active_of (list_of c.self.inside.entries) c.args.self.now c.self.invariant.0.ascends c.self.view_is) c.search.ensures.cost

pub returns-in-Err-clause-err : goal.returns-in-Err-clause-err
returns-in-Err-clause-err g c =
    rank_gap (list_of c.self.inside.entries) c.args.self.now c.args.path.now c.in-Err.place c.self.invariant.0.ascends c.self.view_is c.in-Err.ensures.place

pub returns-in-Err-clause-cost : goal.returns-in-Err-clause-cost
returns-in-Err-clause-cost g c = rw (len-active_of (list_of c.self.inside.entries) c.args.self.now c.self.invariant.0.ascends c.self.view_is) c.search.ensures.cost
