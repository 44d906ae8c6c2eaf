-- Layouts whose children are still to be built, as contracts see them.
use Rattle.std.specs.Prelude.{◌≡◌, ◌<◌, ◌≤◌, ℕ, ◌+◌, ◌-◌, ◌^◌, length, map, max, IsTrue, List, [], ◌∷◌, ◌++◌, Result, Ok, Err, if◌then◌else◌}
use Rattle.vx_model.specs.Ty.{Ty, nullable}
use Rattle.vx_model.specs.TyView.{ty}
use Rattle.vx_layout_spec.specs.LayoutTree.{LayoutData, list_kind, dict_kind, zoned_kind, unread_zoned_kind, stats_kind, row_count}
use Rattle.vx_aggregate.specs.Stats.{stat_number}
use Rattle.vx_metadata.specs.Values.{are_in_order}
use Rattle.vx_layout_tree.specs.KindView.{headed}
use Rattle.vx_layout_tree.specs.SpecView.{specs_of}
use Rattle.vx_layout_tree.specs.ZonedView.{no_columns}
use Rattle.vx_layout_shape.specs.Shape.{validity_count}
use Rattle.vx_layout_spec.specs.Refusal.{Refusal}
use Rattle.vx_session.specs.Made.{Made, ◌>>=◌, ChildData, child_at, standing_at, has_children, has_rows}
use Rattle.vx_session.specs.Kinds.{element_type, validity_type}
use Rattle.vx_layout_tree.specs.declared.error.LayoutError.{LayoutError}
use Rattle.vx_layout_build.specs.declared.open.RowsRule.{RowsRule}
use Rattle.vx_layout_build.specs.declared.open.RowsRule.TheVariants as rules
use Rattle.vx_layout_build.specs.declared.open.Wanted.{Wanted}
use Rattle.vx_layout_build.specs.declared.open.Frame.{Frame}
use Rattle.vx_layout_build.specs.declared.open.Frame.TheVariants as frames
use Rattle.vx_layout_build.specs.declared.open.Open.{Open}
use Rattle.vx_layout_tree.specs.declared.children.LayoutChildren.{LayoutChildren}
use Rattle.vx_layout_tree.specs.declared.parts.LayoutHead.{LayoutHead}
use Rattle.vx_layout_tree.specs.declared.parts.LayoutParts.{LayoutParts}
use Rattle.vx_layout_build.specs.declared.one_child.OneChild.{OneChild}
use Rattle.vx_layout_tree.specs.KidsView.{chunks}
use Rattle.vx_layout_build.specs.PartsView.{one_built, one_depth}
use Rattle.vx_layout_tree.specs.Views.{Fails}

abbrev pub Children : Type 0
Children = Result (List (LayoutData ℕ)) Refusal

-- ---- rows

abbrev pub rows_ruled : RowsRule → ℕ → Result (Unit {0}) Refusal
rows_ruled rules.Any n = Ok tt
rows_ruled (rules.Same rows) n = has_rows n rows
rows_ruled (rules.OneMore rows) n = has_rows (n - 1) rows

-- ---- two children, and three

abbrev pub pair_kids : List ChildData → Ty → Ty → RowsRule → Children
pair_kids ks t u rule = do
  count ← has_children 2 ks
  a ← child_at ks 0 t
  b ← child_at ks 1 u
  rows ← rows_ruled rule (row_count b)
  Ok (a ∷ b ∷ [])

abbrev pub triple_kids : List ChildData → Ty → Ty → ℕ → Children
triple_kids ks t u n = do
  count ← has_children 3 ks
  a ← child_at ks 0 t
  b ← child_at ks 1 u
  rows ← has_rows (row_count b - 1) n
  c ← child_at ks 2 validity_type
  same ← has_rows (row_count c) n
  Ok (a ∷ b ∷ c ∷ [])

-- elements, ends of the integers, and validity where the type is nullable
abbrev pub list_kids : List ChildData → Ty → Ty → ℕ → Children
list_kids ks t ends n =
    if nullable t then triple_kids ks (element_type t) ends n else pair_kids ks (element_type t) ends (rules.OneMore n)

-- the column, and a table of no aggregates as it stands
abbrev pub column_kids : List ChildData → Ty → Ty → Children
column_kids ks t u = child_at ks 0 t >>= λ a. Ok (a ∷ standing_at ks 1 u)

-- ---- children that are to be built

abbrev pub with_rows : RowsRule → LayoutData ℕ → Made
with_rows rule l = rows_ruled rule (row_count l) >>= λ ok. Ok l

abbrev pub wanted_built : Wanted → Made
wanted_built w = one_built w.child (ty w.dtype) >>= with_rows w.rows

abbrev pub all_built : List Wanted → Children
all_built [] = Ok []
all_built (w ∷ ws) = wanted_built w >>= λ l. all_built ws >>= λ ls. Ok (l ∷ ls)

-- the built ones, and others that stand behind them
abbrev pub column_made : List Wanted → Ty → LayoutChildren → Children
column_made ws t zones = all_built ws >>= λ ls. Ok (ls ++ chunks t zones)

-- one child by itself, whatever its rows are
abbrev pub one_alone : OneChild → Ty → Children
one_alone c t = one_built c t >>= λ l. Ok (l ∷ [])

abbrev pub wanted_depths : List Wanted → ℕ
wanted_depths [] = 0
wanted_depths (w ∷ ws) = max (one_depth w.child) (wanted_depths ws)

-- ---- layouts without them

abbrev pub head_of : LayoutParts → LayoutHead
head_of p = record { row_count = p.row_count; dtype = p.dtype; segment_ids = p.segment_ids }

abbrev pub framed : Frame → List (LayoutData ℕ) → LayoutData ℕ
framed (frames.List h) ls = headed list_kind h ls
framed (frames.Dict h all) ls = headed (dict_kind all) h ls
framed (frames.Zoned h zone_len aggregates) ls = headed (zoned_kind zone_len (specs_of aggregates)) h ls
framed (frames.Unread h metadata zones) ls = headed (unread_zoned_kind metadata) h (ls ++ chunks no_columns zones)
framed (frames.LegacyStats h zone_len stats) ls = headed (stats_kind zone_len (map stat_number stats.items)) h ls

abbrev pub open_made : Open → Made
open_made o = all_built o.wanted.items >>= λ ls. Ok (framed o.frame ls)

-- what is true of each layout of the kind, of so many children
abbrev pub fits : Frame → ℕ → Type 0
fits (frames.List h) n = n ≡ 2 + validity_count (ty h.dtype)
fits (frames.Dict h all) n = Unit {0}
fits (frames.Zoned h zone_len aggregates) n = length aggregates.items < 2 ^ 32
fits (frames.Unread h metadata zones) n = Unit {0}
fits (frames.LegacyStats h zone_len stats) n = IsTrue (are_in_order stats.items)

-- What is opened is what is made, and its children are no deeper than the nodes.
abbrev pub Opens : Result Open LayoutError → Made → ℕ → Type 0
Opens (Ok o) made deep = (made ≡ open_made o) × (wanted_depths o.wanted.items ≤ deep) × fits o.frame (length o.wanted.items)
Opens (Err e) made deep = Fails e made
