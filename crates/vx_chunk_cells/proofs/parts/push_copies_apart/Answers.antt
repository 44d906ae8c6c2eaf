use Rattle.vx_model.specs.TreeView.{tree}
use Rattle.vx_chunk_cells.proofs.PartSteps.{copies_more}
use Rattle.vx_chunk_cells.proofs.parts.push_copies_apart.Goals as goal

pub loop-i-preserved : goal.loop-i-preserved
loop-i-preserved c =
    let more = copies_more c.args.count c.loop-i._i (tree c.args.cell.now) c.loop-i.elements.items c.push_one_apart.new.elements.items c.loop-i.offsets.items c.push_one_apart.new.offsets.items _ _ c.loop-i-test.true
    c.in_ok-push_one_apart.ensures.elements c.in_ok-push_one_apart.ensures.offsets c.loop-i.invariant.elements c.loop-i.invariant.offsets in
    record { elements = more.0; offsets = more.1 }
