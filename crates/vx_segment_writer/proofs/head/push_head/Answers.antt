use Rattle.std.proofs.Common.{[], ◌∷◌, length}
use Rattle.std.specs.Int.{w16, to_le_bytes}
use Rattle.vx_model.specs.Words.{joined_by}
use Rattle.vx_model.specs.CellData.{u64_bytes}
use Rattle.vx_segment_writer.proofs.Steps.{joins}
use Rattle.vx_segment_writer.proofs.head.push_head.Goals as goal

pub returns : goal.returns
returns c =
    let n = c.args.node.now in
    rw (c.in_ok-extend_from_slice-4.ensures.items, c.to_le_bytes-2.ensures, c.in_ok-push_numbers.ensures, c.deref.ensures.value, c.in_ok-extend_from_slice-3.ensures.items, c.len.ensures, n.lengths.ok.0, c.in_ok-extend_from_slice-2.ensures.items, c.to_le_bytes.ensures, c.in_ok-extend_from_slice.ensures.items)
    (joins c.args.out.now.items (to_le_bytes w16 n.index) (u64_bytes n.rows) (n.extra ∷ length n.lengths.items ∷ []) (joined_by u64_bytes n.lengths.items) (u64_bytes n.children))
