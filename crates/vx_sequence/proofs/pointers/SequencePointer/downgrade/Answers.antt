use Rattle.std.proofs.Common.{◌∙◌}
use Rattle.vx_sequence.proofs.Places.{path_is}
use Rattle.vx_sequence.proofs.pointers.SequencePointer.downgrade.Goals as goal

pub returns : goal.returns
returns c = c.new.ensures ∙ path_is c.self.inside.path c.args.self c.self.view_is c.self.invariant
