-- The kind of a node's layout.
use Rattle.std.specs.Prelude.{ℕ, if◌then◌else◌, List, Option, Some, None, Result, Ok, Err}
use Rattle.vx_layout_spec.specs.Refusal.{Refusal, unregistered}
use Rattle.vx_session.specs.declared.encoding.LayoutEncoding.{LayoutEncoding}
use Rattle.vx_session.specs.Encodings.{kind_of}
use Rattle.vx_session.specs.Scope.{Scope}
use Rattle.vx_session.specs.Made.{◌>>=◌}
use Rattle.vx_session.specs.Builder.{known_id}

abbrev pub Kinds : Type 0
Kinds = Result (Option LayoutEncoding) Refusal

-- none where the id isn't registered, and such nodes are kept as they are found
abbrev pub kind_there : Scope → List ℕ → Option LayoutEncoding → Kinds
kind_there s id (Some kind) = Ok (Some kind)
kind_there s id None = if s.allow_unknown then Ok None else Err (unregistered id)

abbrev pub node_kind : Scope → ℕ → Kinds
node_kind s index = known_id s.ids index >>= λ id. kind_there s id (kind_of id s.registered)

abbrev pub the_kind : Option LayoutEncoding → Option LayoutEncoding
the_kind kind = kind
