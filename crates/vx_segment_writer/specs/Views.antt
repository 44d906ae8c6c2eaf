-- A node of the tree as contracts see it.
use Rattle.vx_segment_writer.specs.declared.head.Head.{Head as HeldHead}
use Rattle.vx_segment_writer.specs.Head.{Head}

abbrev pub head : HeldHead → Head
head n = record { index = n.index; rows = n.rows; extra = n.extra; lengths = n.lengths.items; children = n.children }
