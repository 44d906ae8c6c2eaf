-- A child of children by themselves.
use Rattle.std.proofs.Common.{◌≡◌, ◌↔◌, ℕ, zero, suc, ◌<◌, ◌≤◌, Bool, true, false, IsTrue, List, [], ◌∷◌, length, get_or, map, Some, None, Ok, Err, refl, sym, ◌∙◌, arith}
use Rattle.std.proofs.lemmas.List.{length-map}
use Rattle.vx_model.specs.Ty.{Ty, ty_eq}
use Rattle.vx_layout_spec.specs.Refusal.{slot_range, child_type}
use Rattle.vx_layout_spec.specs.LayoutTree.{Kind, flat_kind, chunked_kind, struct_kind, list_kind, dict_kind, zoned_kind, unread_zoned_kind, stats_kind, foreign_kind, refused_kind, layout_kind, layout_type}
use Rattle.vx_layout_bytes.specs.declared.view.NodeView.{NodeView}
use Rattle.vx_layout_bytes.specs.declared.view.NodeViews.{NodeViews}
use Rattle.vx_layout_bytes.specs.Node.{nodes_of, own_of}
use Rattle.vx_layout_bytes.specs.There.{node_there}
use Rattle.vx_layout_bytes.specs.Views.{seen_node, seen_nodes, nth_node}
use Rattle.vx_session.specs.Scope.{Scope}
use Rattle.vx_session.specs.Made.{ChildData, kid_at, child_at}
use Rattle.vx_session.specs.Builder.{kids, builder, is_flat_node, kid_of}
use Rattle.vx_layout_tree.specs.declared.kind.LayoutKind.TheVariants as kinds
use Rattle.vx_layout_tree.specs.declared.layout.Layout.{Layout}
use Rattle.vx_layout_tree.specs.LayoutView.{layout_data}
use Rattle.vx_layout_tree.specs.KidsView.{is_flat_kind, owned_kid, owned_kids}
use Rattle.vx_layout_tree.specs.Children.{kind_name}
use Rattle.vx_layout_build.specs.Asked.{is_flat_at}
use Rattle.vx_layout_tree.proofs.KidSteps.{length-owned, length-kids}

-- ---- past the last

past : (ks : List ChildData) (i : ℕ) → length ks ≤ i → kid_at ks i ≡ None
past [] i le = refl
past (k ∷ ks) zero le = absurd (omega (arith, le))
past (k ∷ ks) (suc i) le = past ks i (omega (arith, le))

pub none_at : (ks : List ChildData) (i : ℕ) (t : Ty) → length ks ≤ i → child_at ks i t ≡ Err (slot_range i (length ks))
none_at ks i t le = rw (past ks i le) refl

pub ruleset place_rules = (none_at, length-owned, length-kids, length-map)

-- ---- a layout that is kept

owned_at : (ls : List Layout) (i : ℕ) (l : Layout) → i < length ls → l ≡ get_or ls i l → kid_at (owned_kids (map layout_data ls)) i ≡ Some (owned_kid (layout_data l))
owned_at [] i l lt is = absurd (omega (arith, lt))
owned_at (x ∷ ls) zero l lt is = rw (← is) refl
owned_at (x ∷ ls) (suc i) l lt is = owned_at ls i l (omega (arith, lt)) is

pub kept_is : (ls : List Layout) (i : ℕ) (l : Layout) (t : Ty) → i < length ls → l ≡ get_or ls i l → child_at (owned_kids (map layout_data ls)) i t ≡ (owned_kid (layout_data l)).build t
kept_is ls i l t lt is = rw (owned_at ls i l lt is) refl

pub ruleset kept_rules = (length-map)

-- ---- a node

viewed_at : (s : Scope) (bytes ps : List ℕ) (i : ℕ) → i < length ps
    → kid_at (kids s (nodes_of (map (node_there bytes) ps))) i ≡ Some (kid_of s (own_of (node_there bytes (get_or ps i 0))) (builder s (node_there bytes (get_or ps i 0))))
viewed_at s bytes [] i lt = absurd (omega (arith, lt))
viewed_at s bytes (p ∷ ps) zero lt = refl
viewed_at s bytes (p ∷ ps) (suc i) lt = viewed_at s bytes ps i (omega (arith, lt))

pub node_is : (s : Scope) (v : NodeViews) (i : ℕ) (n : NodeView) (t : Ty) → i < length v.places.items → seen_node n ≡ nth_node v i
    → builder s (seen_node n) t ≡ child_at (kids s (nodes_of (seen_nodes v))) i t
node_is s v i n t lt is = rw (viewed_at s v.bytes v.places.items i lt, is) refl

pub ruleset viewed_rules = (node_is, length-kids, length-map)

-- ---- whether it is flat

flat_named : (b : Bool) (k : Kind) → IsTrue b ↔ (kind_name k ≡ kinds.Flat) → b ≡ is_flat_kind k
flat_named true (flat_kind e tree) is = refl
flat_named true chunked_kind is = let h : kinds.Chunked ≡ kinds.Flat = is.0 refl in cc h
flat_named true struct_kind is = let h : kinds.Struct ≡ kinds.Flat = is.0 refl in cc h
flat_named true list_kind is = let h : kinds.List ≡ kinds.Flat = is.0 refl in cc h
flat_named true (dict_kind all) is = let h : kinds.Dict ≡ kinds.Flat = is.0 refl in cc h
flat_named true (zoned_kind z ss) is = let h : kinds.Zoned ≡ kinds.Flat = is.0 refl in cc h
flat_named true (unread_zoned_kind m) is = let h : kinds.Zoned ≡ kinds.Flat = is.0 refl in cc h
flat_named true (stats_kind z ss) is = let h : kinds.LegacyStats ≡ kinds.Flat = is.0 refl in cc h
flat_named true (foreign_kind id m) is = let h : kinds.Foreign ≡ kinds.Flat = is.0 refl in cc h
flat_named true (refused_kind f r) is = let h : kinds.Foreign ≡ kinds.Flat = is.0 refl in cc h
flat_named false (flat_kind e tree) is = is.1 refl
flat_named false chunked_kind is = refl
flat_named false struct_kind is = refl
flat_named false list_kind is = refl
flat_named false (dict_kind all) is = refl
flat_named false (zoned_kind z ss) is = refl
flat_named false (unread_zoned_kind m) is = refl
flat_named false (stats_kind z ss) is = refl
flat_named false (foreign_kind id m) is = refl
flat_named false (refused_kind f r) is = refl

is_flat_of : (ks : List ChildData) (i : ℕ) (k : ChildData) → kid_at ks i ≡ Some k → is_flat_at ks i ≡ k.is_flat
is_flat_of [] i k is = cc is
is_flat_of (x ∷ ks) zero k is = let h : x ≡ k = cc is in rw h refl
is_flat_of (x ∷ ks) (suc i) k is = is_flat_of ks i k is

pub kept_flat : (ls : List Layout) (i : ℕ) (l : Layout) (b : Bool) → i < length ls → l ≡ get_or ls i l → IsTrue b ↔ (kind_name (layout_kind (layout_data l)) ≡ kinds.Flat) → b ≡ is_flat_at (owned_kids (map layout_data ls)) i
kept_flat ls i l b lt is named = flat_named b (layout_kind (layout_data l)) named ∙ sym (is_flat_of (owned_kids (map layout_data ls)) i (owned_kid (layout_data l)) (owned_at ls i l lt is))

pub node_flat : (s : Scope) (v : NodeViews) (i : ℕ) → i < length v.places.items → is_flat_node s (own_of (nth_node v i)) ≡ is_flat_at (kids s (nodes_of (seen_nodes v))) i
node_flat s v i lt = sym (is_flat_of (kids s (nodes_of (seen_nodes v))) i (kid_of s (own_of (nth_node v i)) (builder s (nth_node v i))) (viewed_at s v.bytes v.places.items i lt))

pub ruleset flat_rules = (kept_flat, node_flat, length-owned, length-kids, length-map)
