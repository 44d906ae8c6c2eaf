-- Nodes whose numbers fit their fields, and that are within limits.
use Rattle.std.specs.Prelude.{ℕ, suc, ◌+◌, ◌<◌, ◌≤◌, ◌^◌, max, List, length, get_or}
use Rattle.std.specs.List.{AllByRecursion}
use Rattle.vx_layout_bytes.specs.Node.{Own, Node, Nodes, node, no_nodes, first, number_of}

-- each number is a byte
abbrev pub AreBytes : List ℕ → Type 0
AreBytes bytes = (i : ℕ) → get_or bytes i 0 < 256

-- a node's own numbers, with so many children
pub record FitsOwn (o : Own) (n : ℕ) : Type 0 where
  pub index : o.index < 2 ^ 16
  pub rows : o.rows < 2 ^ 64
  pub metadata : length o.metadata < 2 ^ 64
  pub count : length o.segments < 2 ^ 64
  pub segments : AllByRecursion (λ s. s < 2 ^ 32) o.segments
  pub children : n < 2 ^ 64

abbrev mutual
  pub Fits : Node → Type 0
  Fits (node o ns) = FitsOwn o (number_of ns) × AllFit ns

  pub AllFit : Nodes → Type 0
  AllFit no_nodes = Unit {0}
  AllFit (first n ns) = Fits n × AllFit ns

-- a node without children has depth 1
abbrev mutual
  pub depth : Node → ℕ
  depth (node o ns) = suc (depths ns)

  pub depths : Nodes → ℕ
  depths no_nodes = 0
  depths (first n ns) = max (depth n) (depths ns)

-- how many nodes there are, with all below
abbrev mutual
  pub size : Node → ℕ
  size (node o ns) = suc (sizes ns)

  pub sizes : Nodes → ℕ
  sizes no_nodes = 0
  sizes (first n ns) = size n + sizes ns

pub record IsWithin (most_deep most : ℕ) (n : Node) : Type 0 where
  pub fits : Fits n
  pub deep : depth n ≤ most_deep
  pub many : size n ≤ most
