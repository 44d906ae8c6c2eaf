use Rattle.std.proofs.Common.{◌≡◌, ◌==◌, ◌++◌, true, drop}
use Rattle.std.specs.Prelude.{string_bytes}
use Rattle.vx_display.specs.Text.{sizes}
use Rattle.vx_display.proofs.node.push_sizes.Given as goal

abbrev pub invariant-loop-i : goal.invariant-loop-i
invariant-loop-i l = string_bytes l.out ++ sizes (l.i == 0) (drop l.i l.lengths) ≡ string_bytes l.fn.out ++ sizes true l.lengths
