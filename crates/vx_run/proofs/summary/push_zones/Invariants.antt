use Rattle.std.proofs.Common.{◌≡◌, ◌++◌, drop}
use Rattle.std.specs.Prelude.{string_bytes}
use Rattle.vx_layout_tree.specs.LayoutView.{layout_data}
use Rattle.vx_run.specs.Summary.{columns_of, zone_counts}
use Rattle.vx_run.proofs.summary.push_zones.Given as goal

abbrev pub invariant-loop-i : goal.invariant-loop-i
invariant-loop-i l = string_bytes l.out ++ zone_counts (drop l.i (columns_of (layout_data l.layout))) ≡ string_bytes l.fn.out ++ zone_counts (columns_of (layout_data l.layout))
