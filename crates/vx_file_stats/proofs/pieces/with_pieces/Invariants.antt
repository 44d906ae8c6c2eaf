use Rattle.std.proofs.Common.{◌≡◌, ◌++◌, map, drop}
use Rattle.std.specs.Vec.Iter.{into_iter_items}
use Rattle.vx_file_stats.specs.Gathering.{column_data, with_pieces}
use Rattle.vx_file_stats.proofs.pieces.with_pieces.Given as goal

abbrev pub invariant-loop-column : goal.invariant-loop-column
invariant-loop-column l =
    map column_data l.columns.items ++ with_pieces l.asked l.limit (map column_data (into_iter_items l.column-iterator)) (drop l.i l.pieces) ≡ with_pieces l.asked l.limit (map column_data l.fn.before.items) l.pieces
