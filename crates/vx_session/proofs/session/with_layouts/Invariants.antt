use Rattle.std.proofs.Common.{◌≡◌, drop}
use Rattle.vx_session.specs.Encodings.{with_kinds}
use Rattle.vx_session.proofs.session.with_layouts.Given as goal

abbrev pub invariant-loop-layout : goal.invariant-loop-layout
invariant-loop-layout l = with_kinds (drop l.layout-index l.layouts) l.more ≡ with_kinds l.layouts l.registry
