-- What bytes are as a layout: the first fault of the node that they must be, or what that node is built into.
use Rattle.std.specs.Prelude.{◌≡◌, ℕ, List, Result, Ok, Err}
use Rattle.vx_model.specs.Ty.{Ty}
use Rattle.vx_layout_spec.specs.Refusal as refusals
use Rattle.vx_layout_spec.specs.Refusal.{Refusal}
use Rattle.vx_layout_spec.specs.LayoutTree.{LayoutData}
use Rattle.vx_layout_bytes.specs.Node.{Node}
use Rattle.vx_layout_bytes.specs.Spelled.{spelling}
use Rattle.vx_layout_bytes.specs.Values.{IsWithin}
use Rattle.vx_layout_bytes.specs.Reading.{Fault, bad_grammar, too_deep, too_many, root_at}
use Rattle.vx_session.specs.Scope.{Scope}
use Rattle.vx_session.specs.Made.{Made}
use Rattle.vx_session.specs.Builder.{builder}

abbrev pub refused_by : Fault → Refusal
refused_by (bad_grammar place) = refusals.bad_grammar place
refused_by (too_deep place) = refusals.too_deep place
refused_by (too_many place) = refusals.too_many_nodes place

abbrev pub node_or_refusal : Result Node Fault → Result Node Refusal
node_or_refusal (Ok n) = Ok n
node_or_refusal (Err fault) = Err (refused_by fault)

-- the node that all of the bytes are, so deep and of so many nodes at most
abbrev pub node_within : ℕ → ℕ → List ℕ → Result Node Refusal
node_within depth nodes bytes = node_or_refusal (root_at depth nodes bytes)

abbrev pub built_at : Scope → Ty → Result Node Refusal → Made
built_at s t (Ok n) = builder s n t
built_at s t (Err refusal) = Err refusal

abbrev pub parsed : Scope → Ty → ℕ → ℕ → List ℕ → Made
parsed s t depth nodes bytes = built_at s t (node_within depth nodes bytes)

-- The bytes spell a node within the limits, and the layout is what that is built into.
pub record ParsedWithin (s : Scope) (t : Ty) (depth nodes : ℕ) (bytes : List ℕ) (l : LayoutData ℕ) : Type 0 where
  pub node : Node
  pub within : IsWithin depth nodes node
  pub spelled : spelling node ≡ bytes
  pub built : builder s node t ≡ Ok l
