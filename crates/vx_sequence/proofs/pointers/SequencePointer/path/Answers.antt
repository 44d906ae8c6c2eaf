use Rattle.std.proofs.Common.{◌∙◌}
use Rattle.vx_sequence.proofs.Places.{path_is}
use Rattle.vx_sequence.proofs.pointers.SequencePointer.path.Goals as goal

pub returns-clause-path : goal.returns-clause-path
returns-clause-path c = c.as_slice.ensures ∙ path_is c.self.inside.path c.args.self.now c.self.view_is c.self.invariant
