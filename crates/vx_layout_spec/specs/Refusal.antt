-- Why there is no layout: of parts, of bytes, or in a context.
use Rattle.std.specs.Prelude.{ℕ, List}
use Rattle.vx_model.specs.Ty.{Ty}

pub data Refusal : Type 0 where
  -- the bytes are no node, from this place on
  bad_grammar : ℕ → Refusal
  -- the node that starts at this place is deeper than the limit
  too_deep : ℕ → Refusal
  -- the node that starts at this place is one more than the limit
  too_many_nodes : ℕ → Refusal
  -- no id stands at this place of the context
  unknown_index : ℕ → Refusal
  -- the session doesn't know the kind of this id
  unregistered : List ℕ → Refusal
  -- the context doesn't list this id
  not_permitted : List ℕ → Refusal
  -- how many children there are, and how many there must be
  child_count : ℕ → ℕ → Refusal
  -- the type that a child has, and the one that it must have
  child_type : Ty → Ty → Refusal
  -- the rows that there are, and those that there must be
  other_rows : ℕ → ℕ → Refusal
  -- how many segments there are, where there must be one
  segment_count : ℕ → Refusal
  -- bytes that no metadata of the kind has
  bad_metadata : List ℕ → Refusal
  -- the first aggregate that isn't known, or whose options none has
  unknown_aggregate : List ℕ → Refusal
  -- a place among the children, and how many there are
  slot_range : ℕ → ℕ → Refusal
  -- the struct has no field of this name
  field_not_found : List ℕ → Refusal
  no_list : Refusal
  no_struct : Refusal
