-- How deep a layout is.
use Rattle.std.specs.Prelude.{ℕ, ◌+◌, max}
use Rattle.vx_layout_spec.specs.LayoutTree.{LayoutData, LayoutList, layout, no_layouts, child}

abbrev mutual
  pub depth : LayoutData ℕ → ℕ
  depth (layout k t n names ls) = depths ls

  pub depths : LayoutList ℕ → ℕ
  depths no_layouts = 0
  depths (child l ls) = max (depth l + 1) (depths ls)
