-- A layout as contracts see it.
use Rattle.std.specs.Prelude.{ℕ, List, map}
use Rattle.std.specs.Global.{Vec}
use Rattle.vx_model.specs.declared.dtype.DType.{DType}
use Rattle.vx_model.specs.declared.segment.SegmentId.{SegmentId}
use Rattle.vx_model.specs.TyView.{ty}
use Rattle.vx_layout_spec.specs.LayoutTree.{Kind, LayoutData, layout, lays_of}
use Rattle.vx_layout_tree.specs.FlatView.{flat_lay}
use Rattle.vx_layout_tree.specs.declared.layout.Layout.{Layout}
use Rattle.vx_layout_tree.specs.declared.layout.Layout.TheVariants as layouts

unfoldable pub layout_data : Layout → LayoutData ℕ
layout_data (layouts.Flat f) = flat_lay f
layout_data (layouts.Chunked c) = c
layout_data (layouts.Struct s) = s
layout_data (layouts.List l) = l
layout_data (layouts.Dict d) = d
layout_data (layouts.Zoned z) = z
layout_data (layouts.LegacyStats s) = s
layout_data (layouts.Foreign f) = f

abbrev pub number : SegmentId → ℕ
number s = s.0

-- a layout of the kind with such parts
abbrev pub seen_layout : Kind → DType → ℕ → Vec SegmentId → List (LayoutData ℕ) → LayoutData ℕ
seen_layout k t n segments ls = layout k (ty t) n (map number segments.items) (lays_of ls)

-- the same of children that are kept
abbrev pub seen : Kind → DType → ℕ → Vec SegmentId → Vec Layout → LayoutData ℕ
seen k t n segments children = layout k (ty t) n (map number segments.items) (lays_of (map layout_data children.items))
