use Rattle.std.proofs.Common.{◌<◌, length}
use Rattle.vx_model.specs.TyView.{ty}
use Rattle.vx_rule_cases.proofs.lines.push_lines.Given as goal

abbrev pub invariant-loop-i : goal.invariant-loop-i
invariant-loop-i g l = l.i < length l.stream.batches.now → g.R.Rule.is_at l.rule (ty l.stream.dtype.now)
