-- The layouts that constructors make of parts, and what they refuse first.
use Rattle.std.specs.Prelude.{ℕ, ◌+◌, ◌-◌, ◌==◌, not, if◌then◌else◌, List, [], ◌∷◌, length, map, Option, Some, None, Result, Ok, Err}
use Rattle.vx_model.specs.Words.{total_by}
use Rattle.vx_model.specs.Ty.{Ty, is_list, is_struct, ty_eq}
use Rattle.vx_layout_spec.specs.Refusal.{Refusal, child_count, child_type, other_rows, no_list, no_struct}
use Rattle.vx_layout_spec.specs.LayoutTree.{LayoutData, layout, no_layouts, child, stats_kind, row_count, layout_type, chunked_layout, struct_layout, list_layout, dict_layout, zoned_layout}
use Rattle.vx_aggregate_spec.specs.Aggregate.{Aggregate, spec}
use Rattle.vx_aggregate.specs.declared.stat.Stat.{Stat}
use Rattle.vx_aggregate.specs.Stats.{stat_number}
use Rattle.vx_aggregate.specs.Tables.{stats_table, legacy_table}
use Rattle.vx_layout_shape.specs.Shape.{validity_count, struct_children, is_primitive, integer_type}

abbrev pub Made : Type 0
Made = Result (LayoutData ℕ) Refusal

abbrev pub refused : Refusal → Made
refused why = Err why

abbrev pub make_chunked : Ty → ℕ → List (LayoutData ℕ) → Made
make_chunked t n ls = if total_by row_count ls == n then Ok (chunked_layout t n ls) else Err (other_rows (total_by row_count ls) n)

abbrev pub make_struct : Ty → ℕ → List (LayoutData ℕ) → Made
make_struct t n ls =
    if is_struct t
    then (if length ls == struct_children t then Ok (struct_layout t n ls) else Err (child_count (length ls) (struct_children t)))
    else Err no_struct

abbrev pub listed : Option (LayoutData ℕ) → List (LayoutData ℕ)
listed None = []
listed (Some l) = l ∷ []

-- elements, offsets, and validity where the type is nullable; a row less than offsets, at least none
abbrev pub make_list : Ty → LayoutData ℕ → LayoutData ℕ → Option (LayoutData ℕ) → Made
make_list t elements offsets validity =
    if not (is_list t) then Err no_list
    else if not (length (listed validity) == validity_count t) then Err (child_count (2 + length (listed validity)) (2 + validity_count t))
    else if not (is_primitive (layout_type offsets)) then Err (child_type (layout_type offsets) integer_type)
    else Ok (list_layout t (row_count offsets - 1) (elements ∷ offsets ∷ listed validity))

-- the type of the values, the rows of the codes
abbrev pub make_dict : LayoutData ℕ → LayoutData ℕ → Made
make_dict values codes =
    if is_primitive (layout_type codes)
    then Ok (dict_layout (layout_type values) (row_count codes) values codes)
    else Err (child_type (layout_type codes) integer_type)

-- the type and the rows of the column; the zones are a table of the aggregates
abbrev pub make_zoned : LayoutData ℕ → LayoutData ℕ → ℕ → List Aggregate → Made
make_zoned column zones zone_len aggregates =
    if ty_eq (layout_type zones) (stats_table (layout_type column) aggregates)
    then Ok (zoned_layout (layout_type column) (row_count column) zone_len (map spec aggregates) column zones)
    else Err (child_type (layout_type zones) (stats_table (layout_type column) aggregates))

abbrev pub stats_layout : Ty → ℕ → ℕ → List ℕ → LayoutData ℕ → LayoutData ℕ → LayoutData ℕ
stats_layout t n zone_len stats column zones = layout (stats_kind zone_len stats) t n [] (child column (child zones no_layouts))

abbrev pub make_stats : LayoutData ℕ → LayoutData ℕ → ℕ → List Stat → Made
make_stats column zones zone_len stats =
    if ty_eq (layout_type zones) (legacy_table (layout_type column) stats)
    then Ok (stats_layout (layout_type column) (row_count column) zone_len (map stat_number stats) column zones)
    else Err (child_type (layout_type zones) (legacy_table (layout_type column) stats))
