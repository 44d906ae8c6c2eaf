-- What a context allows, and what it counts.
use Rattle.std.specs.Prelude.{ℕ, Bool, true, List, Option, Some, None, option_map}
use Rattle.vx_model.specs.declared.encoding.EncodingId.{EncodingId}
use Rattle.vx_model.specs.Words.{lists_id}
use Rattle.vx_sink.specs.declared.context.LayoutWriterContext.{LayoutWriterContext}

-- the encodings that stored chunks may have
abbrev pub listed : LayoutWriterContext → List EncodingId
listed c = c.array_ctx

-- the ids of the aggregates that zones may have; where none are given, all may be
abbrev pub allowed_in : LayoutWriterContext → Option (List (List ℕ))
allowed_in c = option_map (λ ids. ids.items) c.allowed

-- whether the id is allowed
abbrev pub allows_id : Option (List (List ℕ)) → List ℕ → Bool
allows_id None id = true
allows_id (Some ids) id = lists_id id ids

-- whether a nullable struct stands above
abbrev pub is_marked : LayoutWriterContext → Bool
is_marked c = c.marked

-- how many bytes its tracker counts
abbrev pub counted : LayoutWriterContext → ℕ
counted c = c.tracker
