use Rattle.std.proofs.Common.{◌∙◌}
use Rattle.vx_machine_nodes.proofs.TakeShows.{none_kept, tree_is_kept}
use Rattle.vx_machine_nodes.proofs.flat.kept_tree.Goals as goal

pub returns-then-not-node : goal.returns-then-not-node
returns-then-not-node c = λ ids p e. none_kept ids c.args.node.now p c.if-not-node.true

pub returns : goal.returns
returns c = λ ids p e.
    tree_is_kept ids c.args.node.now p c.in_ok-from_slice.field-0 c.if-not-node.false (c.in_ok-from_slice.ensures ∙ c.array_tree.ensures ids c.args.node.now.options.include_padding p e)
