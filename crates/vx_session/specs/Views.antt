-- What scopes are seen as.
use Rattle.std.specs.Prelude.{ℕ, Bool, List}
use Rattle.vx_model.specs.declared.encoding.EncodingId.{EncodingId}
use Rattle.vx_session.specs.declared.build_context.LayoutBuildContext.{LayoutBuildContext}
use Rattle.vx_session.specs.declared.session.Session.{Session}
use Rattle.vx_session.specs.declared.scope.Scope as declared_scope
use Rattle.vx_session.specs.Scope.{Context, Scope}

abbrev pub context : LayoutBuildContext → Context
context c = record { encodings = c.array_ctx; aggregates = c.aggregates.items; allow_unknown = c.allow_unknown }

abbrev pub scope_of : declared_scope.Scope → Scope
scope_of s = record { ids = s.ids; registered = s.registry; context = context s.context; allow_unknown = s.allow_unknown }

-- what a session knows, with these encodings
abbrev pub context_in : List EncodingId → Session → Context
context_in encodings s = record { encodings = encodings; aggregates = s.aggregates.items; allow_unknown = s.allow_unknown }

abbrev pub scope_in : List (List ℕ) → List EncodingId → Session → Bool → Scope
scope_in ids encodings s allow_unknown = record { ids = ids; registered = s.layouts; context = context_in encodings s; allow_unknown = allow_unknown }
