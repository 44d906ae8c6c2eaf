-- A node of a layout as bytes spell it: what its index stands for isn't known here.
use Rattle.std.specs.Prelude.{ℕ, suc, List, [], ◌∷◌}

-- a node without its children
pub record Own : Type 0 where
  -- the place of its kind's id in the context
  pub index : ℕ
  pub rows : ℕ
  pub metadata : List ℕ
  -- the numbers of its own segments
  pub segments : List ℕ

mutual
  -- with its children in slot order
  pub data Node : Type 0 where
    node : Own → Nodes → Node

  pub data Nodes : Type 0 where
    no_nodes : Nodes
    first : Node → Nodes → Nodes

abbrev pub own_of : Node → Own
own_of (node o ns) = o

abbrev pub nodes_of : List Node → Nodes
nodes_of [] = no_nodes
nodes_of (n ∷ ns) = first n (nodes_of ns)

abbrev pub number_of : Nodes → ℕ
number_of no_nodes = 0
number_of (first n ns) = suc (number_of ns)
