use Rattle.vx_segment_spec.proofs.SegmentLaws.{is_lawful}
use Rattle.vx_segment_spec.proofs.law.segments_read_back.Goals as goal

pub returns : goal.returns
returns c = is_lawful
