-- Reading the tree of a segment, with the first fault that is met. A fault of the grammar names a place in the segment.
use Rattle.std.specs.Prelude.{ℕ, zero, suc, ◌+◌, ◌-◌, Bool, List, [], ◌∷◌, length, Result, Ok, Err, ◌==◌, if◌then◌else◌}
use Rattle.std.specs.Int.{Width, w16, w64}
use Rattle.vx_byte_reader.specs.Fields as fields
use Rattle.vx_byte_reader.specs.Places.{◌>>=◌, field_at, many_at}
use Rattle.vx_segment_writer.specs.Head.{Head}

pub data Fault : Type 0 where
  -- the bytes are no segment, from this place on
  bad_grammar : ℕ → Fault
  -- the node of this number, in pre-order from 0, isn't one of the type
  bad_type : ℕ → Fault

-- a number, a byte, a flag
abbrev pub number_at : Width → ℕ → List ℕ → Result (ℕ × List ℕ) Fault
number_at w = field_at bad_grammar (fields.number_at w)

abbrev pub byte_at : ℕ → List ℕ → Result (ℕ × List ℕ) Fault
byte_at = field_at bad_grammar fields.byte_at

abbrev pub flag_at : ℕ → List ℕ → Result (Bool × List ℕ) Fault
flag_at = field_at bad_grammar fields.flag_at

-- ---- the tree of encodings

unfoldable pub node_at : ℕ → List ℕ → Result (Head × List ℕ) Fault
node_at stop bytes = do
  index ← number_at w16 stop bytes
  rows ← number_at w64 stop index.1
  extra ← byte_at stop rows.1
  count ← byte_at stop extra.1
  lengths ← many_at (number_at w64 stop) count.0 count.1
  children ← number_at w64 stop lengths.1
  Ok (record { index = index.0; rows = rows.0; extra = extra.0; lengths = lengths.0; children = children.0 }, children.1)

-- So many trees, as their nodes in pre-order: a node's children stand behind it, before what comes after it. The fuel
-- is the number of bytes, so that it never runs out before they do.
unfoldable pub nodes_at : ℕ → ℕ → ℕ → List ℕ → Result (List Head × List ℕ) Fault
nodes_at fuel zero stop bytes = Ok ([], bytes)
nodes_at zero (suc pending) stop bytes = Err (bad_grammar (stop - length bytes))
nodes_at (suc fuel) (suc pending) stop bytes = do
  first ← node_at stop bytes
  others ← nodes_at fuel (pending + first.0.children) stop first.1
  Ok (first.0 ∷ others.0, others.1)

-- a tree, as its nodes in pre-order
pub record RawTree : Type 0 where
  pub padded : Bool
  pub nodes : List Head

-- all of the bytes
unfoldable pub tree_at : ℕ → List ℕ → Result RawTree Fault
tree_at stop bytes = do
  padded ← flag_at stop bytes
  nodes ← nodes_at (length padded.1) 1 stop padded.1
  if length nodes.1 == 0 then Ok (record { padded = padded.0; nodes = nodes.0 }) else Err (bad_grammar (stop - length nodes.1))
