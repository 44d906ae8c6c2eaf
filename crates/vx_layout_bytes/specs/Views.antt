-- What nodes and answers are seen as.
use Rattle.std.specs.Prelude.{◌≡◌, ℕ, List, get_or, map, Result, Ok, Err}
use Rattle.vx_layout_bytes.specs.declared.error.GrammarError.{GrammarError}
use Rattle.vx_layout_bytes.specs.declared.error.GrammarError.TheVariants as errors
use Rattle.vx_layout_bytes.specs.declared.node.RawNode.{RawNode, fold-RawNode}
use Rattle.vx_layout_bytes.specs.declared.node.RawNode.TheOpen.{RawNode-F}
use Rattle.vx_layout_bytes.specs.declared.view.OpenNode.{OpenNode}
use Rattle.vx_layout_bytes.specs.declared.read.Own as declared_own
use Rattle.vx_layout_bytes.specs.declared.view.NodeView.{NodeView}
use Rattle.vx_layout_bytes.specs.declared.view.NodeViews.{NodeViews}
use Rattle.vx_layout_bytes.specs.Node as nodes
use Rattle.vx_layout_bytes.specs.Node.{Node, node, nodes_of}
use Rattle.vx_layout_bytes.specs.Reading.{Fault, bad_grammar, too_deep, too_many}
use Rattle.vx_layout_bytes.specs.There.{node_there}

-- the same fault; memory may run out
abbrev pub Fails : {Y : Type 0} → GrammarError → Result Y Fault → Type 0
Fails (errors.Grammar place) read = read ≡ Err (bad_grammar place)
Fails (errors.TooDeep place) read = read ≡ Err (too_deep place)
Fails (errors.TooManyNodes place) read = read ≡ Err (too_many place)
Fails errors.OutOfMemory read = Unit {0}

-- What a function returned, seen by `view`, is what reading gives, unless memory ran out.
abbrev pub Gives : {X Y : Type 0} → (X → Y) → Result X GrammarError → Result Y Fault → Type 0
Gives view (Ok x) read = read ≡ Ok (view x)
Gives view (Err e) read = Fails e read

abbrev pub own : declared_own.Own → nodes.Own
own o = record { index = o.index; rows = o.rows; metadata = o.metadata; segments = o.segments.items }

abbrev pub raw_step : RawNode-F Node → Node
raw_step n = node (record { index = n.index; rows = n.rows; metadata = n.metadata; segments = n.segments.items }) (nodes_of n.children.items)

abbrev pub raw : RawNode → Node
raw = fold-RawNode Node raw_step

-- ---- nodes that stay in the bytes

abbrev pub seen_node : NodeView → Node
seen_node v = node_there v.bytes v.place

abbrev pub seen_nodes : NodeViews → List Node
seen_nodes v = map (node_there v.bytes) v.places.items

-- the node at the place among them
abbrev pub nth_node : NodeViews → ℕ → Node
nth_node v i = node_there v.bytes (get_or v.places.items i 0)

-- a node whose children stay there
abbrev pub opened : OpenNode → Node
opened n = node (record { index = n.index; rows = n.rows; metadata = n.metadata; segments = n.segments.items }) (nodes_of (seen_nodes n.children))
