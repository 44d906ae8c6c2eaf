-- What asking for a layout answers.
use Rattle.std.proofs.Common.{◌≡◌, ℕ, true, false, Ok, Err, refl}
use Rattle.vx_layout_spec.specs.Refusal.{Refusal}
use Rattle.vx_layout_spec.specs.LayoutTree.{flat_kind, chunked_kind, struct_kind, list_kind, dict_kind, zoned_kind, unread_zoned_kind, stats_kind, foreign_kind, refused_kind, LayoutData, layout, layout_kind}
use Rattle.vx_layout_tree.specs.Children.{answered, is_refused}

pub made_is : (l c : LayoutData ℕ) → answered l ≡ Ok c → (l ≡ c) × (is_refused (layout_kind l) ≡ false)
made_is (layout (flat_kind e tree) t n names ls) c is = (cc, refl)
made_is (layout chunked_kind t n names ls) c is = (cc, refl)
made_is (layout struct_kind t n names ls) c is = (cc, refl)
made_is (layout list_kind t n names ls) c is = (cc, refl)
made_is (layout (dict_kind all) t n names ls) c is = (cc, refl)
made_is (layout (zoned_kind z ss) t n names ls) c is = (cc, refl)
made_is (layout (unread_zoned_kind m) t n names ls) c is = (cc, refl)
made_is (layout (stats_kind z ss) t n names ls) c is = (cc, refl)
made_is (layout (foreign_kind id m) t n names ls) c is = (cc, refl)
made_is (layout (refused_kind f q) t n names ls) c is = cc is

pub refused_is : (l : LayoutData ℕ) (r : Refusal) → answered l ≡ Err r → is_refused (layout_kind l) ≡ true
refused_is (layout (flat_kind e tree) t n names ls) r is = cc is
refused_is (layout chunked_kind t n names ls) r is = cc is
refused_is (layout struct_kind t n names ls) r is = cc is
refused_is (layout list_kind t n names ls) r is = cc is
refused_is (layout (dict_kind all) t n names ls) r is = cc is
refused_is (layout (zoned_kind z ss) t n names ls) r is = cc is
refused_is (layout (unread_zoned_kind m) t n names ls) r is = cc is
refused_is (layout (stats_kind z ss) t n names ls) r is = cc is
refused_is (layout (foreign_kind id m) t n names ls) r is = cc is
refused_is (layout (refused_kind f q) t n names ls) r is = refl
