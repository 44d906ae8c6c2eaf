use Rattle.std.proofs.Common.{◌≡◌, ◌++◌, map}
use Rattle.std.specs.Vec.Iter.{into_iter_items}
use Rattle.vx_file_stats.specs.Precisions.{set_data}
use Rattle.vx_file_stats.specs.Gathering.{column_data, set_told}
use Rattle.vx_file_stats.proofs.told.sets_of.Given as goal

abbrev pub invariant-loop-column : goal.invariant-loop-column
invariant-loop-column l =
    map set_data l.sets.items ++ map (set_told l.asked) (map column_data (into_iter_items l.column-iterator)) ≡ map (set_told l.asked) (map column_data l.fn.columns.items)
