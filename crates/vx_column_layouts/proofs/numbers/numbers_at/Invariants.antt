use Rattle.std.proofs.Common.{◌≡◌, ℕ, map, take}
use Rattle.vx_layout_tree.specs.LayoutView.{number}
use Rattle.vx_seats.specs.History.{paths as written_paths}
use Rattle.vx_column_plan.specs.Shared.{number_by}
use Rattle.vx_column_layouts.specs.Numbers.{AllIn}
use Rattle.vx_column_layouts.proofs.numbers.numbers_at.Given as goal

abbrev pub invariant-loop-path : goal.invariant-loop-path
invariant-loop-path l = (first : ℕ) → AllIn l.paths (written_paths l.history) → map number l.numbers.items ≡ map (number_by first l.history) (take l.path-index l.paths)
