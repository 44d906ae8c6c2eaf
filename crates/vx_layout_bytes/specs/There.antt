-- Nodes that stand at places of bytes.
use Rattle.std.specs.Prelude.{ℕ, ◌&&◌, Bool, true, false, List, [], ◌∷◌, length, drop, Result, Ok, Err}
use Rattle.vx_layout_bytes.specs.Node.{Node, node, no_nodes}
use Rattle.vx_layout_bytes.specs.Reading.{Fault, node_at}

-- what is read from the place on, by a reader that the bytes alone limit
abbrev pub read_there : List ℕ → ℕ → Result (Node × ℕ × List ℕ) Fault
read_there bytes place = node_at (length bytes) (length bytes) (length bytes) (drop place bytes)

abbrev pub is_read : {A : Type 0} → Result A Fault → Bool
is_read (Ok x) = true
is_read (Err f) = false

-- whether a node stands there
unfoldable pub is_node_at : List ℕ → ℕ → Bool
is_node_at bytes place = is_read (read_there bytes place)

abbrev pub are_nodes_at : List ℕ → List ℕ → Bool
are_nodes_at bytes [] = true
are_nodes_at bytes (p ∷ ps) = is_node_at bytes p && are_nodes_at bytes ps

-- the node that was read, or one of nothing
abbrev pub node_read : Result (Node × ℕ × List ℕ) Fault → Node
node_read (Ok x) = x.0
node_read (Err f) = node (record { index = 0; rows = 0; metadata = []; segments = [] }) no_nodes

-- the node that stands there
unfoldable pub node_there : List ℕ → ℕ → Node
node_there bytes place = node_read (read_there bytes place)

-- where a reader stands behind a value
abbrev pub behind : {A : Type 0} → Result (A × ℕ × List ℕ) Fault → Result (ℕ × List ℕ) Fault
behind (Ok x) = Ok (x.1, x.2)
behind (Err f) = Err f

-- the value by itself
abbrev pub only_value : {A : Type 0} → Result (A × ℕ × List ℕ) Fault → Result A Fault
only_value (Ok x) = Ok x.0
only_value (Err f) = Err f
