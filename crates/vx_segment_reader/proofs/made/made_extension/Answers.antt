use Rattle.vx_segment_reader.proofs.made.made_extension.Goals as goal

pub extension-requires : goal.extension-requires
extension-requires c = rw c.in-Ok.ensures.cases c.requires
