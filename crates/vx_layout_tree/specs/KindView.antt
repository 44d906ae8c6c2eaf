-- What layouts of the kinds are made of, and what a layout by its kind tells.
use Rattle.std.specs.Prelude.{◌≡◌, ◌<◌, ◌+◌, ◌^◌, ℕ, IsTrue, List, ◌++◌, length, map}
use Rattle.vx_model.specs.Words.{total_by}
use Rattle.vx_model.specs.TyView.{ty}
use Rattle.vx_layout_spec.specs.LayoutTree.{Kind, chunked_kind, struct_kind, list_kind, dict_kind, zoned_kind, unread_zoned_kind, stats_kind, foreign_kind, LayoutData, layout_kind, layout_type, row_count, children_of}
use Rattle.vx_aggregate_spec.specs.Aggregate.{spec}
use Rattle.vx_aggregate.specs.AggregateView.{aggregate}
use Rattle.vx_aggregate.specs.Stats.{stat_number}
use Rattle.vx_metadata.specs.Values.{are_in_order}
use Rattle.vx_session.specs.Made.{kid_rows}
use Rattle.vx_session.specs.Kinds.{struct_types}
use Rattle.vx_layout_tree.specs.declared.parts.LayoutHead.{LayoutHead}
use Rattle.vx_layout_tree.specs.declared.parts.KindParts.{KindParts}
use Rattle.vx_layout_tree.specs.declared.parts.KindParts.TheVariants as parts
use Rattle.vx_layout_tree.specs.declared.kind_ref.KindRef.{KindRef}
use Rattle.vx_layout_tree.specs.declared.kind_ref.KindRef.TheVariants as refs
use Rattle.vx_layout_tree.specs.FlatView.{flat_lay}
use Rattle.vx_layout_tree.specs.KidsView.{chunks, fields, layout_kids}
use Rattle.vx_layout_tree.specs.LayoutView.{layout_data, seen_layout}
use Rattle.vx_layout_shape.specs.Shape.{validity_count}
use Rattle.vx_layout_tree.specs.SpecView.{specs_of}
use Rattle.vx_layout_tree.specs.ZonedView.{no_columns}

-- ---- parts of a layout

abbrev pub headed : Kind → LayoutHead → List (LayoutData ℕ) → LayoutData ℕ
headed k h ls = seen_layout k h.dtype h.row_count h.segment_ids ls

abbrev pub whole_lay : KindParts → LayoutData ℕ
whole_lay (parts.Chunked p) = seen_layout chunked_kind p.dtype p.row_count p.segment_ids (chunks (ty p.dtype) p.children)
whole_lay (parts.Struct p) = seen_layout struct_kind p.dtype p.row_count p.segment_ids (fields (ty p.dtype) p.children)
whole_lay (parts.List h v) = headed list_kind h (map layout_data v.items)
whole_lay (parts.Dict h v all) = headed (dict_kind all) h (map layout_data v.items)
whole_lay (parts.Zoned h v zone_len aggregates) = headed (zoned_kind zone_len (specs_of aggregates)) h (map layout_data v.items)
whole_lay (parts.Unread h v metadata zones) = headed (unread_zoned_kind metadata) h (map layout_data v.items ++ chunks no_columns zones)
whole_lay (parts.LegacyStats h v zone_len stats) = headed (stats_kind zone_len (map stat_number stats.items)) h (map layout_data v.items)

-- what is true of each layout of the kind
abbrev pub IsWhole : KindParts → Type 0
IsWhole (parts.Chunked p) = total_by row_count (chunks (ty p.dtype) p.children) ≡ p.row_count
IsWhole (parts.Struct p) = length (layout_kids p.children) ≡ length (struct_types (ty p.dtype))
IsWhole (parts.List h v) = length v.items ≡ 2 + validity_count (ty h.dtype)
IsWhole (parts.Dict h v all) = Unit {0}
IsWhole (parts.Zoned h v zone_len aggregates) = length aggregates.items < 2 ^ 32
IsWhole (parts.Unread h v metadata zones) = Unit {0}
IsWhole (parts.LegacyStats h v zone_len stats) = IsTrue (are_in_order stats.items)

-- ---- a layout by its kind

-- the kind and the children that it tells, and what is true of each layout of the kind
abbrev pub Tells : LayoutData ℕ → KindRef → Type 0
Tells l (refs.Flat f) = l ≡ flat_lay f.now
Tells l (refs.Chunked c) = (layout_kind l ≡ chunked_kind) × (children_of l ≡ chunks (layout_type l) c.now) × (total_by kid_rows (layout_kids c.now) ≡ row_count l)
Tells l (refs.Struct c) = (layout_kind l ≡ struct_kind) × (children_of l ≡ fields (layout_type l) c.now) × (length (layout_kids c.now) ≡ length (struct_types (layout_type l)))
Tells l (refs.List v) = (layout_kind l ≡ list_kind) × (children_of l ≡ map layout_data v.now)
Tells l (refs.Dict v all) = (layout_kind l ≡ dict_kind all) × (children_of l ≡ map layout_data v.now)
Tells l (refs.Zoned v zone_len aggregates) = (layout_kind l ≡ zoned_kind zone_len (map spec (map aggregate aggregates.now))) × (children_of l ≡ map layout_data v.now) × (length aggregates.now < 2 ^ 32)
Tells l (refs.Unread v metadata zones) = (layout_kind l ≡ unread_zoned_kind metadata.now) × (children_of l ≡ map layout_data v.now ++ chunks no_columns zones.now)
Tells l (refs.LegacyStats v zone_len stats) = (layout_kind l ≡ stats_kind zone_len (map stat_number stats.now)) × (children_of l ≡ map layout_data v.now) × IsTrue (are_in_order stats.now)
Tells l (refs.Foreign v id metadata) = (layout_kind l ≡ foreign_kind id.now metadata.now) × (children_of l ≡ map layout_data v.now)
