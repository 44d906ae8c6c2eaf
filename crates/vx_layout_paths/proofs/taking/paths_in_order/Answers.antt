use Rattle.vx_layout_segments.specs.Segments.{segments_in}
use Rattle.vx_layout_tree.specs.LayoutView.{layout_data}
use Rattle.vx_layout_paths.proofs.Steps.{took_all}
use Rattle.vx_layout_paths.proofs.taking.paths_in_order.Goals as goal

pub returns : goal.returns
returns c =
    took_all (segments_in (layout_data c.args.layout.now)) c.args.paths.items c.take_paths.new.paths c.args.ordered c.take_paths.new.ordered
    c.requires.apart (rw c.deref_mut.ensures.value at c.in_ok-take_paths.ensures)
