-- Copies are equal.
use Rattle.std.proofs.Common.{◌≡◌, ℕ, zero, suc, ◌+◌, ◌<◌, ◌≤◌, ◌++◌, List, [], ◌∷◌, length, get_or, map, refl, ap, arith}
use Rattle.std.proofs.lemmas.List.{length-map, map_push, map_more}
use Rattle.vx_model.specs.Ty.{Ty}
use Rattle.vx_layout_spec.specs.LayoutTree.{LayoutData, lays_of, lays_in}
use Rattle.vx_layout_spec.proofs.LayoutLaws.{lays_in-lays_of}
use Rattle.vx_layout_tree.specs.declared.layout.Layout.{Layout}
use Rattle.vx_layout_tree.specs.declared.children.LayoutChildren.{LayoutChildren}
use Rattle.vx_layout_tree.specs.declared.children.LayoutChildren.TheVariants as children
use Rattle.vx_layout_tree.specs.LayDepth.{depth, depths}
use Rattle.vx_layout_tree.specs.LayoutView.{layout_data}
use Rattle.vx_layout_tree.specs.KidsView.{chunks, fields, layout_kids, owned_kids}
use Rattle.std.specs.Global.{Vec}
use Rattle.vx_aggregate.specs.declared.aggregate.AggregateFn.{AggregateFn}
use Rattle.vx_layout_tree.specs.declared.zoned.ZoneTable.{ZoneTable}
use Rattle.vx_layout_tree.specs.declared.zoned.ZoneTable.TheVariants as tables
use Rattle.vx_layout_tree.specs.ZonedView.{no_columns, kind_of_zones, zoned_children}
use Rattle.vx_layout_tree.specs.Copies.{SameChildren, SameTable, kept_depth, table_depth}

pub same_chunks : (t : Ty) (c d : LayoutChildren) → SameChildren c d → chunks t c ≡ chunks t d
same_chunks t (children.Owned v) (children.Owned w) same = same
same_chunks t (children.Owned v) (children.Viewed w) same = absurd same
same_chunks t (children.Viewed v) (children.Owned w) same = absurd same
same_chunks t (children.Viewed v) (children.Viewed w) same = rw (same.0, same.1, same.2) refl

pub same_fields : (t : Ty) (c d : LayoutChildren) → SameChildren c d → fields t c ≡ fields t d
same_fields t (children.Owned v) (children.Owned w) same = same
same_fields t (children.Owned v) (children.Viewed w) same = absurd same
same_fields t (children.Viewed v) (children.Owned w) same = absurd same
same_fields t (children.Viewed v) (children.Viewed w) same = rw (same.0, same.1, same.2) refl

-- a copy builds the same
pub same_kids : (c d : LayoutChildren) → SameChildren c d → layout_kids c ≡ layout_kids d
same_kids (children.Owned v) (children.Owned w) same = ap owned_kids same
same_kids (children.Owned v) (children.Viewed w) same = absurd same
same_kids (children.Viewed v) (children.Owned w) same = absurd same
same_kids (children.Viewed v) (children.Viewed w) same = rw (same.0, same.1, same.2) refl

pub ruleset copy_rules = (same_chunks, same_fields, same_kids, lays_in-lays_of)

-- as many children
pub as_many : (xs ys : List Layout) → map layout_data xs ≡ lays_in (lays_of (map layout_data ys)) → length xs ≡ length ys
as_many xs ys same = omega (arith, length-map xs layout_data, length-map ys layout_data, ap length same, ap length (lays_in-lays_of (map layout_data ys)))

pub ruleset kind_rules = (lays_in-lays_of, as_many)

-- ---- depths

pub kept_chunks : (t : Ty) (c : LayoutChildren) → kept_depth c ≤ depths (lays_of (chunks t c))
kept_chunks t (children.Owned v) = omega arith
kept_chunks t (children.Viewed v) = omega arith

pub kept_fields : (t : Ty) (c : LayoutChildren) → kept_depth c ≤ depths (lays_of (fields t c))
kept_fields t (children.Owned v) = omega arith
kept_fields t (children.Viewed v) = omega arith

pub one_below : (ls : List Layout) (i : ℕ) (l : Layout) → i < length ls → l ≡ get_or ls i l → depth (layout_data l) + 1 ≤ depths (lays_of (map layout_data ls))
one_below [] i l lt is = absurd (omega (arith, lt))
one_below (x ∷ ls) zero l lt is = rw is (omega arith)
one_below (x ∷ ls) (suc i) l lt is = omega (arith, one_below ls i l (omega (arith, lt)) is)

-- one more of them is copied
pub ruleset push_rules = (map_push, map_more, one_below)

-- ---- tables of zones

pub same_kind : (n : ℕ) (v w : Vec AggregateFn) (t u : ZoneTable) → SameTable t u → v.items ≡ w.items → kind_of_zones n v t ≡ kind_of_zones n w u
same_kind n v w tables.Read tables.Read same items = rw items refl
same_kind n v w tables.Read (tables.Unread y) same items = absurd same
same_kind n v w (tables.Unread x) tables.Read same items = absurd same
same_kind n v w (tables.Unread x) (tables.Unread y) same items = rw same.0 refl

pub same_zones : (v w : Vec Layout) (t u : ZoneTable) → SameTable t u → map layout_data v.items ≡ map layout_data w.items → zoned_children v t ≡ zoned_children w u
same_zones v w tables.Read tables.Read same kept = kept
same_zones v w tables.Read (tables.Unread y) same kept = absurd same
same_zones v w (tables.Unread x) tables.Read same kept = absurd same
same_zones v w (tables.Unread x) (tables.Unread y) same kept = rw (kept, same_chunks no_columns x.zones y.zones same.1) refl

front_depths : (ls ms : List (LayoutData ℕ)) → depths (lays_of ls) ≤ depths (lays_of (ls ++ ms))
front_depths [] ms = omega arith
front_depths (l ∷ ls) ms = omega (arith, front_depths ls ms)

back_depths : (ls ms : List (LayoutData ℕ)) → depths (lays_of ms) ≤ depths (lays_of (ls ++ ms))
back_depths [] ms = omega arith
back_depths (l ∷ ls) ms = omega (arith, back_depths ls ms)

pub kept_zones : (v : Vec Layout) (t : ZoneTable) → depths (lays_of (map layout_data v.items)) ≤ depths (lays_of (zoned_children v t))
kept_zones v tables.Read = omega arith
kept_zones v (tables.Unread u) = front_depths (map layout_data v.items) (chunks no_columns u.zones)

pub table_below : (v : Vec Layout) (t : ZoneTable) → table_depth t ≤ depths (lays_of (zoned_children v t))
table_below v tables.Read = omega arith
table_below v (tables.Unread u) = omega (arith, kept_chunks no_columns u.zones, back_depths (map layout_data v.items) (chunks no_columns u.zones))

pub ruleset zoned_rules = (same_kind, same_zones, kept_zones, table_below, lays_in-lays_of)
