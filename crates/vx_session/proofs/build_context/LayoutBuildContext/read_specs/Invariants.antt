use Rattle.std.proofs.Common.{◌≡◌, map, drop}
use Rattle.vx_metadata.specs.Views.{spec_of}
use Rattle.vx_aggregate.specs.AggregateView.{aggregate}
use Rattle.vx_session.specs.Kinds.{read_specs}
use Rattle.vx_session.specs.Views.{context}
use Rattle.vx_session.proofs.SpecSteps.{behind}
use Rattle.vx_session.proofs.build_context.LayoutBuildContext.read_specs.Given as goal

abbrev pub invariant-loop-spec : goal.invariant-loop-spec
invariant-loop-spec l = behind (map aggregate l.aggregates.items) (read_specs (context l.self) (map spec_of (drop l.spec-index l.specs))) ≡ read_specs (context l.self) (map spec_of l.specs)
