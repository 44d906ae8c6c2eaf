use Rattle.std.proofs.Common.{◌≡◌, ◌-◌, drop}
use Rattle.vx_cell_codec.specs.Columns.{ascend}
use Rattle.vx_cell_codec.proofs.columns.ascend.Given as goal

abbrev pub invariant-loop-i : goal.invariant-loop-i
invariant-loop-i l = ascend (drop (l.i - 1) l.numbers) ≡ ascend l.numbers
