-- Reading the bytes of a node, with the first fault that is met.
use Rattle.std.specs.Prelude.{ℕ, zero, suc, ◌-◌, List, length, Result, Ok, Err, ◌==◌, if◌then◌else◌}
use Rattle.std.specs.Int.{Width, w16, w32, w64}
use Rattle.vx_byte_reader.specs.Fields as fields
use Rattle.vx_byte_reader.specs.Fields.{front_at}
use Rattle.vx_byte_reader.specs.Places.{◌>>=◌, field_at, many_at}
use Rattle.vx_layout_bytes.specs.Node.{Own, Node, Nodes, node, no_nodes, first}

pub data Fault : Type 0 where
  -- the bytes are no node, from this place on
  bad_grammar : ℕ → Fault
  -- the node that starts here is deeper than the limit
  too_deep : ℕ → Fault
  -- the node that starts here is one more than the limit
  too_many : ℕ → Fault

-- a number; so many bytes
abbrev pub number_at : Width → ℕ → List ℕ → Result (ℕ × List ℕ) Fault
number_at w = field_at bad_grammar (fields.number_at w)

abbrev pub bytes_at : ℕ → ℕ → List ℕ → Result (List ℕ × List ℕ) Fault
bytes_at n = field_at bad_grammar (front_at n)

-- bytes behind their number
unfoldable pub numbered_at : ℕ → List ℕ → Result (List ℕ × List ℕ) Fault
numbered_at stop bytes = do
  width ← number_at w64 stop bytes
  bytes_at width.0 stop width.1

-- segments behind their number
unfoldable pub segments_at : ℕ → List ℕ → Result (List ℕ × List ℕ) Fault
segments_at stop bytes = do
  count ← number_at w64 stop bytes
  many_at (number_at w32 stop) count.0 count.1

-- a node without its children, their number, and the bytes behind it
unfoldable pub own_at : ℕ → List ℕ → Result (Own × ℕ × List ℕ) Fault
own_at stop bytes = do
  index ← number_at w16 stop bytes
  rows ← number_at w64 stop index.1
  metadata ← numbered_at stop rows.1
  segments ← segments_at stop metadata.1
  children ← number_at w64 stop segments.1
  Ok (record { index = index.0; rows = rows.0; metadata = metadata.0; segments = segments.0 }, children.0, children.1)

-- A reader of nodes takes how many nodes may still come, and tells how many then may.
abbrev pub ReaderOf : Type 0 → Type 0
ReaderOf A = ℕ → List ℕ → Result (A × ℕ × List ℕ) Fault

-- so many nodes, one after the other
unfoldable pub many_nodes : ReaderOf Node → ℕ → ReaderOf Nodes
many_nodes read zero left bytes = Ok (no_nodes, left, bytes)
many_nodes read (suc n) left bytes = do
  one ← read left bytes
  others ← many_nodes read n one.1 one.2
  Ok (first one.0 others.0, others.1, others.2)

unfoldable pub none_at : ℕ → ReaderOf Node
none_at stop left bytes = Err (too_deep (stop - length bytes))

-- a node whose children are read so
unfoldable pub node_with : ReaderOf Node → ℕ → ReaderOf Node
node_with read stop zero bytes = Err (too_many (stop - length bytes))
node_with read stop (suc left) bytes = do
  own ← own_at stop bytes
  children ← many_nodes read own.1 left own.2
  Ok (node own.0 children.0, children.1, children.2)

-- a node so deep at most
abbrev pub node_at : ℕ → ℕ → ReaderOf Node
node_at zero stop = none_at stop
node_at (suc depth) stop = node_with (node_at depth stop) stop

-- a node so deep at most, of so many nodes at most, and nothing behind it
unfoldable pub root_at : ℕ → ℕ → List ℕ → Result Node Fault
root_at depth nodes bytes = do
  root ← node_at depth (length bytes) nodes bytes
  if length root.2 == 0 then Ok root.0 else Err (bad_grammar (length bytes - length root.2))
