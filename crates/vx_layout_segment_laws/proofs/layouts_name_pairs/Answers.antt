use Rattle.vx_layout_segment_laws.proofs.SegmentNaming.{layouts_name_pairs}
use Rattle.vx_layout_segment_laws.proofs.Places.{pairs_named_once}
use Rattle.vx_layout_segment_laws.proofs.layouts_name_pairs.Goals as goal

pub returns-clause-pairs : goal.returns-clause-pairs
returns-clause-pairs c = layouts_name_pairs

pub returns-clause-once : goal.returns-clause-once
returns-clause-once c = pairs_named_once
