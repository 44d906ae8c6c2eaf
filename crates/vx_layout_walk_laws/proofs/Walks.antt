-- Steps of walks over the nodes of a layout, each of which is built or can't be.
use Rattle.std.proofs.Common.{◌≡◌, ℕ, zero, suc, ◌+◌, ◌<◌, List, [], ◌∷◌, length, drop, Option, Some, None, Result, Ok, Err, refl, arith}
use Rattle.vx_layout_spec.specs.Refusal.{Refusal}
use Rattle.vx_layout_spec.specs.LayoutTree.{flat_kind, chunked_kind, struct_kind, list_kind, dict_kind, zoned_kind, unread_zoned_kind, stats_kind, foreign_kind, refused_kind, LayoutData, LayoutList, layout, lays_of, layout_kind, children_of}
use Rattle.vx_layout_tree.specs.Children.{answered, child_in}
use Rattle.vx_layout_tree.specs.LayDepth.{depth, depths}
use Rattle.vx_layout_tree.proofs.Answered.{made_is}
use Rattle.vx_layout_codec_spec.specs.Permitted.{and_checked, refusal_in, built, all_built}
use Rattle.vx_layout_codec_spec.proofs.ParsedBack.{lays_back}

pub answered_same : (x l : LayoutData ℕ) → answered x ≡ Ok l → x ≡ l
answered_same x l is = (made_is x l is).0

pub kind_refused : (x : LayoutData ℕ) (r : Refusal) → answered x ≡ Err r → refusal_in (layout_kind x) ≡ Some r
kind_refused (layout (flat_kind e tree) t n names ls) r is = cc
kind_refused (layout chunked_kind t n names ls) r is = cc
kind_refused (layout struct_kind t n names ls) r is = cc
kind_refused (layout list_kind t n names ls) r is = cc
kind_refused (layout (dict_kind all) t n names ls) r is = cc
kind_refused (layout (zoned_kind z ss) t n names ls) r is = cc
kind_refused (layout (unread_zoned_kind m) t n names ls) r is = cc
kind_refused (layout (stats_kind z ss) t n names ls) r is = cc
kind_refused (layout (foreign_kind id m) t n names ls) r is = cc
kind_refused (layout (refused_kind f q) t n names ls) r is = cc

pub kind_built : (x : LayoutData ℕ) → answered x ≡ Ok x → refusal_in (layout_kind x) ≡ None
kind_built (layout (flat_kind e tree) t n names ls) is = refl
kind_built (layout chunked_kind t n names ls) is = refl
kind_built (layout struct_kind t n names ls) is = refl
kind_built (layout list_kind t n names ls) is = refl
kind_built (layout (dict_kind all) t n names ls) is = refl
kind_built (layout (zoned_kind z ss) t n names ls) is = refl
kind_built (layout (unread_zoned_kind m) t n names ls) is = refl
kind_built (layout (stats_kind z ss) t n names ls) is = refl
kind_built (layout (foreign_kind id m) t n names ls) is = refl
kind_built (layout (refused_kind f q) t n names ls) is = cc

pub built_from : (x : LayoutData ℕ) → refusal_in (layout_kind x) ≡ None → built x ≡ all_built (lays_of (children_of x))
built_from (layout k t n names ls) is = rw (is, lays_back ls) refl

pub refused_from : (x : LayoutData ℕ) (r : Refusal) → refusal_in (layout_kind x) ≡ Some r → built x ≡ Err r
refused_from (layout k t n names ls) r is = rw is refl

-- what is built is built where its children are
pub built_is : (x : LayoutData ℕ) → answered x ≡ Ok x → built x ≡ all_built (lays_of (children_of x))
built_is x is = built_from x (kind_built x is)

-- ---- the children one by one

pub drop_built : (ls : List (LayoutData ℕ)) (i : ℕ) (l : LayoutData ℕ) → i < length ls → child_in ls i ≡ Ok l
    → all_built (lays_of (drop i ls)) ≡ and_checked (built l) (all_built (lays_of (drop (i + 1) ls)))
drop_built [] i l lt is = absurd (omega (arith, lt))
drop_built (x ∷ ls) zero l lt is = rw (answered_same x l is) refl
drop_built (x ∷ ls) (suc i) l lt is = let e : suc i + 1 ≡ suc (i + 1) = omega arith in rw e (drop_built ls i l (omega (arith, lt)) is)

pub drop_refused : (ls : List (LayoutData ℕ)) (i : ℕ) (r : Refusal) → i < length ls → child_in ls i ≡ Err r → all_built (lays_of (drop i ls)) ≡ Err r
drop_refused [] i r lt is = absurd (omega (arith, lt))
drop_refused (x ∷ ls) zero r lt is = rw (refused_from x r (kind_refused x r is)) refl
drop_refused (x ∷ ls) (suc i) r lt is = drop_refused ls i r (omega (arith, lt)) is

-- ---- a child is less deep

pub depth_is : (l : LayoutData ℕ) → depth l ≡ depths (lays_of (children_of l))
depth_is (layout k t n names ls) = rw (lays_back ls) refl

pub child_falls : (ls : List (LayoutData ℕ)) (i : ℕ) (l : LayoutData ℕ) → child_in ls i ≡ Ok l → depth l < depths (lays_of ls)
child_falls [] i l is = cc
child_falls (x ∷ ls) zero l is = rw (← answered_same x l is) (omega arith)
child_falls (x ∷ ls) (suc i) l is = omega (arith, child_falls ls i l is)
