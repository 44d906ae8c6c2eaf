use Rattle.vx_typed.proofs.Steps.{all_leaves}
use Rattle.vx_typed.proofs.read.are_leaves.Goals as goal

pub returns : goal.returns
returns g c = all_leaves g.T.Leaf.as_cell g.met.T.Leaf.leaf c.args._items.now c.args._valid.now
