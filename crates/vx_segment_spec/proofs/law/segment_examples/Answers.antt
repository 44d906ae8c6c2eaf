use Rattle.std.proofs.Common.{refl}
use Rattle.vx_byte_reader.specs.Fields.{front_at, number_at, many_at as more_at}
use Rattle.vx_cell_codec.specs.Reading.{int_at, valid_at, leaf_at, cells_at, only_cell_at}
use Rattle.vx_byte_reader.specs.Places.{many_at}
use Rattle.vx_segment_spec.specs.Reading.{node_at, nodes_at, tree_at}
use Rattle.vx_segment_spec.specs.Pieces.{plain_at, constant_at, part_at, whole_at}
use Rattle.vx_segment_spec.specs.Segment.{buffers_at, raw_of, piece_in}
use Rattle.vx_segment_spec.proofs.law.segment_examples.Goals as goal

pub returns-clause-read : goal.returns-clause-read
unfolding raw_of many_at node_at nodes_at tree_at buffers_at piece_in whole_at part_at plain_at constant_at cells_at only_cell_at more_at int_at number_at front_at leaf_at valid_at
returns-clause-read c = refl

pub returns-clause-wrong_flag : goal.returns-clause-wrong_flag
unfolding raw_of many_at node_at nodes_at tree_at buffers_at piece_in whole_at part_at plain_at constant_at cells_at only_cell_at more_at int_at number_at front_at leaf_at valid_at
returns-clause-wrong_flag c = refl

pub returns-clause-another_encoding : goal.returns-clause-another_encoding
unfolding raw_of many_at node_at nodes_at tree_at buffers_at piece_in whole_at part_at plain_at constant_at cells_at only_cell_at more_at int_at number_at front_at leaf_at valid_at
returns-clause-another_encoding c = refl

pub returns-clause-a_row_more : goal.returns-clause-a_row_more
unfolding raw_of many_at node_at nodes_at tree_at buffers_at piece_in whole_at part_at plain_at constant_at cells_at only_cell_at more_at int_at number_at front_at leaf_at valid_at
returns-clause-a_row_more c = refl
