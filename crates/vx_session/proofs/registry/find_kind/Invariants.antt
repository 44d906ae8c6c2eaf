use Rattle.std.proofs.Common.{◌≡◌, drop}
use Rattle.vx_session.specs.Encodings.{kind_of}
use Rattle.vx_session.proofs.registry.find_kind.Given as goal

abbrev pub invariant-loop-kind : goal.invariant-loop-kind
invariant-loop-kind l = kind_of l.id (drop l.kind-index l.kinds) ≡ kind_of l.id l.kinds
