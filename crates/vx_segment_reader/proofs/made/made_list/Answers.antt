use Rattle.std.proofs.Common.{◌≡◌, true, length, refl, sym, ◌∙◌}
use Rattle.vx_model.specs.ChunkData.{cells, are_offsets}
use Rattle.vx_segment_reader.proofs.made.made_list.Goals as goal

pub list-requires : goal.list-requires
list-requires c =
    let within : are_offsets (length (cells c.args.elements)) c.args.offsets.items ≡ true = rw (c.len.ensures.rows, c.deref.ensures.value) at (sym c.are_offsets.ensures ∙ c.if-not-are_offsets.false) in
    rw (c.in-Ok.ensures.cases, c.requires.elements, within, c.requires.flags) refl
