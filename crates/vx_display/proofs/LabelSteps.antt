-- Steps of the names of children.
use Rattle.std.proofs.Common.{◌≡◌, ℕ, suc, ◌<◌, length, refl, arith}
use Rattle.std.proofs.lemmas.Bool.Decides.{nat_tests}
use Rattle.std.specs.Prelude.{if◌then◌else◌}
use Rattle.vx_model.specs.Ty.{Ty, nullable}
use Rattle.vx_layout_spec.specs.LayoutTree.{flat_kind, chunked_kind, struct_kind, list_kind, dict_kind, zoned_kind, unread_zoned_kind, stats_kind, foreign_kind, refused_kind, Kind, LayoutData, layout, children_of, layout_kind}
use Rattle.vx_layout_tree.specs.declared.kind.LayoutKind.TheVariants as kinds
use Rattle.vx_layout_tree.specs.Children.{kind_name}
use Rattle.vx_layout_slots.specs.Slots.{bracketed}
use Rattle.vx_display.specs.Text.{label, child_slot}

pub chunk_label : (l : LayoutData ℕ) (i : ℕ) → kind_name (layout_kind l) ≡ kinds.Chunked → i < length (children_of l) → label l i ≡ bracketed i
unfolding label
chunk_label (layout (flat_kind e tree) t n names ls) i is lt = cc
chunk_label (layout chunked_kind t n names ls) i is lt = grind (arith, nat_tests)
chunk_label (layout struct_kind t n names ls) i is lt = cc
chunk_label (layout list_kind t n names ls) i is lt = cc
chunk_label (layout (dict_kind all) t n names ls) i is lt = cc
chunk_label (layout (zoned_kind z ss) t n names ls) i is lt = cc
chunk_label (layout (unread_zoned_kind m) t n names ls) i is lt = cc
chunk_label (layout (stats_kind z ss) t n names ls) i is lt = cc
chunk_label (layout (foreign_kind id m) t n names ls) i is lt = cc
chunk_label (layout (refused_kind f r) t n names ls) i is lt = cc

pub struct_slot : (k : Kind) (t : Ty) (i : ℕ) → kind_name k ≡ kinds.Struct → child_slot k t i ≡ (if nullable t then i else suc i)
struct_slot (flat_kind e tree) t i is = cc
struct_slot chunked_kind t i is = cc
struct_slot struct_kind t i is = refl
struct_slot list_kind t i is = cc
struct_slot (dict_kind all) t i is = cc
struct_slot (zoned_kind z ss) t i is = cc
struct_slot (unread_zoned_kind m) t i is = cc
struct_slot (stats_kind z ss) t i is = cc
struct_slot (foreign_kind id m) t i is = cc
struct_slot (refused_kind f r) t i is = cc

pub other_slot : (k : Kind) (t : Ty) (i : ℕ) → (kind_name k ≡ kinds.Struct → ⊥) → child_slot k t i ≡ i
other_slot (flat_kind e tree) t i not = refl
other_slot chunked_kind t i not = refl
other_slot struct_kind t i not = absurd (not refl)
other_slot list_kind t i not = refl
other_slot (dict_kind all) t i not = refl
other_slot (zoned_kind z ss) t i not = refl
other_slot (unread_zoned_kind m) t i not = refl
other_slot (stats_kind z ss) t i not = refl
other_slot (foreign_kind id m) t i not = refl
other_slot (refused_kind f r) t i not = refl

pub ruleset label_rules = (chunk_label)

pub ruleset slot_rules = (struct_slot, other_slot)
