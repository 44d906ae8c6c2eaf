-- What metadata there is.
use Rattle.std.specs.Prelude.{ℕ, ◌<◌, ◌^◌, ◌&&◌, nat_lt, Bool, true, List, [], ◌∷◌, length, IsTrue}
use Rattle.std.specs.Str.{is_utf8}
use Rattle.vx_model.specs.Words.{all_by}
use Rattle.vx_layout_spec.specs.LayoutTree.{Spec}
use Rattle.vx_aggregate.specs.declared.stat.Stat.{Stat}
use Rattle.vx_aggregate.specs.Stats.{stat_number}

-- of a zoned layout
pub record Zoned : Type 0 where
  pub zone_len : ℕ
  pub specs : List Spec

-- an id and options whose lengths fit their fields
abbrev pub is_short_spec : Spec → Bool
is_short_spec s = nat_lt (length s.id) (2 ^ 32) && nat_lt (length s.options) (2 ^ 32)

-- the number of specs and all lengths fit their fields
abbrev pub is_short : Zoned → Bool
is_short z = nat_lt (length z.specs) (2 ^ 32) && all_by is_short_spec z.specs

abbrev pub has_text_id : Spec → Bool
has_text_id s = is_utf8 s.id

-- numbers fit their fields, and ids are UTF-8
pub record IsZoned (z : Zoned) : Type 0 where
  pub zone_len : z.zone_len < 2 ^ 32
  pub short : IsTrue (is_short z)
  pub ids : IsTrue (all_by has_text_id z.specs)

-- statistics by ascending number, so each once
abbrev pub are_in_order : List Stat → Bool
are_in_order [] = true
are_in_order (s ∷ []) = true
are_in_order (s ∷ t ∷ ss) = nat_lt (stat_number s) (stat_number t) && are_in_order (t ∷ ss)
