-- Whether the nodes of a layout can be spelled in a context: whether it lists their ids, and whether they can be built.
use Rattle.std.specs.Prelude.{ℕ, List, Option, Some, None, Result, Ok, Err}
use Rattle.vx_layout_spec.specs.Refusal.{Refusal, not_permitted}
use Rattle.vx_layout_spec.specs.LayoutTree.{Kind, flat_kind, chunked_kind, struct_kind, list_kind, dict_kind, zoned_kind, unread_zoned_kind, stats_kind, foreign_kind, refused_kind, kind_id, LayoutData, LayoutList, layout, no_layouts, child}
use Rattle.vx_session.specs.Ids.{place_of}

-- nothing, or what is refused
abbrev pub Checked : Type 0
Checked = Result (Unit {0}) Refusal

abbrev pub and_checked : Checked → Checked → Checked
and_checked (Ok u) later = later
and_checked (Err r) later = Err r

-- why a node of the kind can't be built, where it can't
abbrev pub refusal_in : Kind → Option Refusal
refusal_in (flat_kind encodings tree) = None
refusal_in chunked_kind = None
refusal_in struct_kind = None
refusal_in list_kind = None
refusal_in (dict_kind all) = None
refusal_in (zoned_kind zone_len specs) = None
refusal_in (unread_zoned_kind metadata) = None
refusal_in (stats_kind zone_len stats) = None
refusal_in (foreign_kind id metadata) = None
refusal_in (refused_kind is_flat refusal) = Some refusal

-- ---- ids

abbrev pub found_at : List ℕ → Option ℕ → Checked
found_at id None = Err (not_permitted id)
found_at id (Some place) = Ok tt

abbrev pub listed : List (List ℕ) → List ℕ → Checked
listed ids id = found_at id (place_of id ids)

-- of a node that can't be built the id isn't known
abbrev pub if_built : Option Refusal → Checked → Checked
if_built None checked = checked
if_built (Some refusal) checked = Ok tt

-- the first id in pre-order that the context doesn't list
abbrev mutual
  pub permitted : List (List ℕ) → LayoutData ℕ → Checked
  permitted ids (layout k t n names ls) = if_built (refusal_in k) (and_checked (listed ids (kind_id k)) (all_permitted ids ls))

  pub all_permitted : List (List ℕ) → LayoutList ℕ → Checked
  all_permitted ids no_layouts = Ok tt
  all_permitted ids (child l ls) = and_checked (permitted ids l) (all_permitted ids ls)

-- ---- builds

abbrev pub own_built : Option Refusal → Checked
own_built None = Ok tt
own_built (Some refusal) = Err refusal

-- the first refusal in pre-order
abbrev mutual
  pub built : LayoutData ℕ → Checked
  built (layout k t n names ls) = and_checked (own_built (refusal_in k)) (all_built ls)

  pub all_built : LayoutList ℕ → Checked
  all_built no_layouts = Ok tt
  all_built (child l ls) = and_checked (built l) (all_built ls)
