-- What is written is read again.
use Rattle.std.specs.Prelude.{ℕ, ◌≡◌, Bool, true, List, [], Option, Ok}
use Rattle.vx_model.specs.Ty.{Ty}
use Rattle.vx_model.specs.ChunkData.{ChunkData}
use Rattle.vx_layout_bytes.specs.Values.{IsWithin}
use Rattle.vx_session.specs.Scope.{Scope}
use Rattle.vx_layout_codec_spec.specs.NodeOf.{node_in}
use Rattle.vx_layout_codec_spec.specs.Bytes.{bytes_in}
use Rattle.vx_layout_codec_spec.specs.Parsed.{parsed}
use Rattle.vx_plan.specs.PlanData.{Setting}
use Rattle.vx_strategy_spec.specs.StrategyData.{StrategyData}
use Rattle.vx_strategy_spec.specs.Admitted.{is_admitted}
use Rattle.vx_plan.specs.Valid.{Fit, AllOf, Keeps}
use Rattle.vx_plan.specs.SourcePlan.{source_plan}
use Rattle.vx_plan.specs.Number.{numbered}
use Rattle.vx_model.specs.declared.encoding.EncodingId.{EncodingId}
use Rattle.vx_session.specs.declared.session.Session.{Session}
use Rattle.vx_session.specs.Encodings.{all_encodings}
use Rattle.vx_session.specs.Ids.{aggregate_ids}
use Rattle.vx_session.specs.Views.{scope_in}
use Rattle.vx_setting.specs.Setting.{real}
use Rattle.vx_parse_back_laws.specs.Knowing.{KnowsLayout, KnowsWrites}

-- A write that has no fault gives a layout. Its bytes, parsed at the schema's type and within limits that it keeps, in a
-- scope that knows the layout, are built into the same layout.
abbrev pub WrittenIsParsed : Type 0
WrittenIsParsed = (st : Setting) (s : Scope) (w : StrategyData) (t : Ty) (m : Bool) (batches : List ChunkData) (first deep nodes : ℕ) (bytes : List ℕ)
    → Keeps st → is_admitted w ≡ true → AllOf t batches → (source_plan st w t m batches true).faults ≡ [] → Fit (source_plan st w t m batches true).numbers
    → KnowsLayout s (numbered (source_plan st w t m batches true) first)
    → IsWithin deep nodes (node_in s.ids (numbered (source_plan st w t m batches true) first)) → bytes_in s.ids (numbered (source_plan st w t m batches true) first) ≡ Ok bytes
    → parsed s t deep nodes bytes ≡ Ok (numbered (source_plan st w t m batches true) first)

-- A session of all kinds and all aggregates knows the layout of each write by these encodings, ended or not.
abbrev pub WrittenIsKnown : Type 0
WrittenIsKnown = (st : Setting) (s : Scope) (w : StrategyData) (t : Ty) (m : Bool) (batches : List ChunkData) (ended : Bool) (first : ℕ)
    → is_admitted w ≡ true → KnowsWrites s st → KnowsLayout s (numbered (source_plan st w t m batches ended) first)

-- A session with all kinds and the ids of all aggregates is one.
abbrev pub SessionKnowsWrites : Type 0
SessionKnowsWrites = (session : Session) (ids : List (List ℕ)) (encodings : List EncodingId) (allow_unknown : Bool) (allowed : Option (List (List ℕ))) (image : ℕ → ChunkData → ChunkData)
    → session.layouts ≡ all_encodings → session.aggregates.items ≡ aggregate_ids → KnowsWrites (scope_in ids encodings session allow_unknown) (real encodings allowed image)
