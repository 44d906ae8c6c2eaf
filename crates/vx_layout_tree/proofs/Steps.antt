-- Steps over layouts one by one, and over elements.
use Rattle.std.proofs.Common.{◌≡◌, ℕ, zero, suc, ◌<◌, List, [], ◌∷◌, length, get_or, map, refl, arith, Some, None}
use Rattle.std.proofs.lemmas.List.{length-map}
use Rattle.vx_model.specs.Ty.{Ty, boolean, primitive, utf8, binary, list, struct, extension, list_item}
use Rattle.vx_layout_spec.specs.LayoutTree.{row_count}
use Rattle.vx_layout_tree.specs.declared.layout.Layout.{Layout}
use Rattle.vx_layout_tree.specs.LayoutView.{layout_data}
use Rattle.vx_session.specs.Kinds.{element_type}
use Rattle.vx_layout_tree.specs.Children.{rows_at}

-- ---- one of them

pub rows_of_child : (ls : List Layout) (i : ℕ) (l : Layout) → i < length ls → l ≡ get_or ls i l → row_count (layout_data l) ≡ rows_at (map layout_data ls) i
rows_of_child [] i l lt is = absurd (omega (arith, lt))
rows_of_child (x ∷ ls) zero l lt is = rw is refl
rows_of_child (x ∷ ls) (suc i) l lt is = rows_of_child ls i l (omega (arith, lt)) is

pub ruleset rows_rules = (rows_of_child, length-map)

-- ---- what a list type is made of, as its calls tell it

pub element_told : (t u : Ty) → Some u ≡ list_item t → u ≡ element_type t
element_told (list t n) u e = cc
element_told (boolean n) u e = cc
element_told (primitive p n) u e = cc
element_told (utf8 n) u e = cc
element_told (binary n) u e = cc
element_told (struct fs n) u e = cc
element_told (extension tag t) u e = cc

pub no_element_told : (t : Ty) → None ≡ list_item t → t ≡ element_type t
no_element_told (list t n) e = absurd (cc e)
no_element_told (boolean n) e = refl
no_element_told (primitive p n) e = refl
no_element_told (utf8 n) e = refl
no_element_told (binary n) e = refl
no_element_told (struct fs n) e = refl
no_element_told (extension tag t) e = refl

pub ruleset part_rules = (element_told, no_element_told)
