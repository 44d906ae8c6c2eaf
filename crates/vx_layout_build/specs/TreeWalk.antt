-- What is left of a walk over a tree.
use Rattle.std.specs.Prelude.{◌≡◌, ◌<◌, List, [], ◌∷◌, ◌++◌, ℕ, length, map, Option, MatchOption, option_map, Result, MatchResult}
use Rattle.vx_layout_spec.specs.LayoutTree.{LayoutData}
use Rattle.vx_layout_build.specs.declared.child.LayoutChild.{LayoutChild}
use Rattle.vx_layout_build.specs.declared.walk.DepthFirst.{DepthFirst}
use Rattle.vx_layout_build.specs.ChildView.{child_lay}
use Rattle.vx_layout_build.specs.PreOrder.{rooted, stacked}

-- the layouts to come: all of the root before it was given, then those on the stack
abbrev pub nodes_left : DepthFirst → List (LayoutData ℕ)
nodes_left w = rooted (option_map child_lay w.root) ++ stacked (map child_lay w.stack.items)

-- a call gave the first of what was left and left the others, or failed and left nothing
abbrev pub YieldsNode : {E : Type 0} → DepthFirst → Option (Result LayoutChild E) → DepthFirst → Type 0
YieldsNode s r t = MatchOption r
    ((nodes_left s ≡ []) × (nodes_left t ≡ []))
    (λ x. MatchResult x (λ c. nodes_left s ≡ child_lay c ∷ nodes_left t) (λ e. (0 < length (nodes_left s)) × (nodes_left t ≡ [])))
