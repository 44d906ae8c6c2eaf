use Rattle.vx_machine_ids.proofs.CallLaws.{advanced_moved, descended_moved, split_moved, released_moved}
use Rattle.vx_machine_ids.proofs.calls.Goals as goal

pub returns-clause-advance : goal.returns-clause-advance
returns-clause-advance c = advanced_moved

pub returns-clause-descend : goal.returns-clause-descend
returns-clause-descend c = descended_moved

pub returns-clause-split : goal.returns-clause-split
returns-clause-split c = split_moved

pub returns-clause-release : goal.returns-clause-release
returns-clause-release c = released_moved
