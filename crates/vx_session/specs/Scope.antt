-- What a node is built in.
use Rattle.std.specs.Prelude.{ℕ, Bool, List}
use Rattle.vx_model.specs.declared.encoding.EncodingId.{EncodingId}
use Rattle.vx_session.specs.declared.encoding.LayoutEncoding.{LayoutEncoding}

-- what a kind's build needs besides the parts
pub record Context : Type 0 where
  -- the encodings that segments name by their places
  pub encodings : List EncodingId
  -- the ids of aggregates that are known
  pub aggregates : List (List ℕ)
  -- whether others are let through
  pub allow_unknown : Bool

pub record Scope : Type 0 where
  -- the ids that nodes name by their places
  pub ids : List (List ℕ)
  -- the kinds that are built
  pub registered : List LayoutEncoding
  pub context : Context
  -- whether other ids are let through, as foreign layouts
  pub allow_unknown : Bool
