-- The bytes of a node, one spelling a node. Numbers have their lowest byte first.
use Rattle.std.specs.Prelude.{ℕ, List, [], ◌++◌, length}
use Rattle.std.specs.Int.{w16, w32, to_le_bytes}
use Rattle.vx_model.specs.Words.{joined_by}
use Rattle.vx_model.specs.CellData.{u64_bytes}
use Rattle.vx_layout_bytes.specs.Node.{Own, Node, Nodes, node, no_nodes, first, number_of}

abbrev pub u32_bytes : ℕ → List ℕ
u32_bytes n = to_le_bytes w32 n

-- bytes behind their number
abbrev pub numbered : List ℕ → List ℕ
numbered s = u64_bytes (length s) ++ s

-- segments behind their number
abbrev pub segment_bytes : List ℕ → List ℕ
segment_bytes s = u64_bytes (length s) ++ joined_by u32_bytes s

-- the index, the rows, the metadata, the segments, and the number of children
abbrev pub own_bytes : Own → ℕ → List ℕ
own_bytes o children = to_le_bytes w16 o.index ++ (u64_bytes o.rows ++ (numbered o.metadata ++ (segment_bytes o.segments ++ u64_bytes children)))

abbrev pub head_bytes : Node → List ℕ
head_bytes (node o ns) = own_bytes o (number_of ns)

-- a node's own bytes, then its children's nodes
abbrev mutual
  pub spelling : Node → List ℕ
  spelling (node o ns) = own_bytes o (number_of ns) ++ spellings ns

  pub spellings : Nodes → List ℕ
  spellings no_nodes = []
  spellings (first n ns) = spelling n ++ spellings ns
