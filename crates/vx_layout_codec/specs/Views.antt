-- What the functions return, as contracts see it.
use Rattle.std.specs.Prelude.{ℕ, Option, Some, None, option_map, Result, Ok, Err}
use Rattle.vx_layout_spec.specs.Refusal.{Refusal}
use Rattle.vx_layout_spec.specs.LayoutTree.{LayoutData}
use Rattle.vx_layout_build.specs.declared.child.LayoutChild.{LayoutChild}
use Rattle.vx_layout_build.specs.ChildView.{child_lay}

abbrev pub kept : Option LayoutChild → Option (LayoutData ℕ)
kept child = option_map child_lay child

-- a child, where it can be built
abbrev pub children_answer : Result (LayoutData ℕ) Refusal → Option (LayoutData ℕ)
children_answer (Ok l) = Some l
children_answer (Err r) = None
