-- The segments of a layout.
use Rattle.std.specs.Prelude.{List, [], ◌++◌}
use Rattle.vx_layout_spec.specs.LayoutTree.{LayoutData, LayoutList, layout, no_layouts, child}

-- The segments of a layout, in pre-order: a node's own before its children's, and these from left to right.
abbrev mutual
  pub segments_in : {A : Type 0} → LayoutData A → List A
  segments_in (layout k t n names ls) = names ++ all_segments ls

  pub all_segments : {A : Type 0} → LayoutList A → List A
  all_segments no_layouts = []
  all_segments (child l ls) = segments_in l ++ all_segments ls
