use Rattle.std.proofs.Common.{◌≡◌, ◌==◌, List, ℕ, ◌++◌, true, drop, map}
use Rattle.std.specs.Fmt.{HasWritten, IsPlainFormatter}
use Rattle.vx_layout_tree.specs.LayoutView.{number}
use Rattle.vx_layout_tree.specs.Shown.{numbers_text}
use Rattle.vx_layout_tree.proofs.display.write_numbers.Given as goal

abbrev pub invariant-loop-i : goal.invariant-loop-i
invariant-loop-i g l =
    IsPlainFormatter l.initial.f → (done : List ℕ) × HasWritten g.W.Write.write_str_gives l.initial.f done l.f
    × (done ++ numbers_text (l.i == 0) (map number (drop l.i l.segments)) ≡ numbers_text true (map number l.segments))
