-- The layouts of a tree in pre-order.
use Rattle.std.specs.Prelude.{ℕ, Bool, false, ◌||◌, if◌then◌else◌, List, [], ◌∷◌, ◌++◌, Option, Some, None}
use Rattle.vx_layout_spec.specs.LayoutTree.{LayoutData, LayoutList, layout, no_layouts, child, layout_kind}
use Rattle.vx_layout_tree.specs.Children.{is_refused}

-- whether some of them can't be built
abbrev pub some_refused : LayoutList ℕ → Bool
some_refused no_layouts = false
some_refused (child l ls) = is_refused (layout_kind l) || some_refused ls

-- A layout that has a child which can't be built comes without children.
abbrev mutual
  pub pre_order : LayoutData ℕ → List (LayoutData ℕ)
  pre_order (layout k t n names ls) = layout k t n names ls ∷ (if some_refused ls then [] else each_pre_order ls)

  pub each_pre_order : LayoutList ℕ → List (LayoutData ℕ)
  each_pre_order no_layouts = []
  each_pre_order (child l ls) = pre_order l ++ each_pre_order ls

-- all below the layout
abbrev pub below : LayoutData ℕ → List (LayoutData ℕ)
below (layout k t n names ls) = if some_refused ls then [] else each_pre_order ls

abbrev pub all_pre_order : List (LayoutData ℕ) → List (LayoutData ℕ)
all_pre_order [] = []
all_pre_order (l ∷ ls) = pre_order l ++ all_pre_order ls

-- all of the layouts on a stack, whose last is the first
abbrev pub stacked : List (LayoutData ℕ) → List (LayoutData ℕ)
stacked [] = []
stacked (l ∷ ls) = stacked ls ++ pre_order l

abbrev pub rooted : Option (LayoutData ℕ) → List (LayoutData ℕ)
rooted None = []
rooted (Some l) = pre_order l
