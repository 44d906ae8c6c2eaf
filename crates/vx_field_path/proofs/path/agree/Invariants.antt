use Rattle.std.proofs.Common.{◌≡◌, drop}
use Rattle.vx_field_path.specs.Paths.{overlaps}
use Rattle.vx_field_path.proofs.path.agree.Given as goal

abbrev pub invariant-loop-i : goal.invariant-loop-i
invariant-loop-i l = overlaps (drop l.i l.a) (drop l.i l.b) ≡ overlaps l.a l.b
