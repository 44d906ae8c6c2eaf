use Rattle.std.proofs.Common.{length, ap, ◌∙◌}
use Rattle.vx_path.specs.Path.{under}
use Rattle.vx_machine_task.proofs.ViewParts.{len_is}
use Rattle.vx_machine_start.proofs.pressing_start.outlet_parts.Goals as goal

pub returns-in-Ok-clause-first : goal.returns-in-Ok-clause-first
returns-in-Ok-clause-first c = c.in_ok-first.ensures.name ∙ ap (under c.args.name.now) (len_is c.args.kids.now ∙ ap length c.requires)
