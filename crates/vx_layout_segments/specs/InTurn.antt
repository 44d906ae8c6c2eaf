-- Layouts whose segments get names in turn.
use Rattle.std.specs.Prelude.{List, length, take, drop}
use Rattle.vx_layout_spec.specs.LayoutTree.{LayoutData, LayoutList, layout, no_layouts, child}
use Rattle.vx_layout_segments.specs.Segments.{segments_in}

-- The same tree, whose segments have these names, in pre-order. There are names for all.
abbrev mutual
  pub in_turn : {A B : Type 0} → List B → LayoutData A → LayoutData B
  in_turn ns (layout k t n names ls) = layout k t n (take (length names) ns) (each_in_turn (drop (length names) ns) ls)

  -- those of the first layout, then those of the others
  pub each_in_turn : {A B : Type 0} → List B → LayoutList A → LayoutList B
  each_in_turn ns no_layouts = no_layouts
  each_in_turn ns (child l ls) = child (in_turn ns l) (each_in_turn (drop (length (segments_in l)) ns) ls)
