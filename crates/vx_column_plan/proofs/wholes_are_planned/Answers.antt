use Rattle.vx_column_plan.proofs.SharedLaws.{whole_is_planned, columns_are_laid}
use Rattle.vx_column_plan.proofs.wholes_are_planned.Goals as goal

pub returns-clause-whole : goal.returns-clause-whole
returns-clause-whole c = whole_is_planned

pub returns-clause-laid : goal.returns-clause-laid
returns-clause-laid c = columns_are_laid
