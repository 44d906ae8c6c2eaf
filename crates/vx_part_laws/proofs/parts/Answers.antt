use Rattle.vx_part_laws.proofs.PartLaws.{held_can_part, part_is_exact, part_is_owned, part_leaves}
use Rattle.vx_part_laws.proofs.parts.Goals as goal

pub returns-clause-can : goal.returns-clause-can
returns-clause-can c = held_can_part

pub returns-clause-exact : goal.returns-clause-exact
returns-clause-exact c = part_is_exact

pub returns-clause-owned : goal.returns-clause-owned
returns-clause-owned c = part_is_owned

pub returns-clause-left : goal.returns-clause-left
returns-clause-left c = part_leaves
