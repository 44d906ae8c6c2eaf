use Rattle.vx_array_tree_laws.proofs.ArrayLaws.{array_trees}
use Rattle.vx_array_tree_laws.proofs.array_trees_are_of_segments.Goals as goal

pub returns : goal.returns
returns c = array_trees
