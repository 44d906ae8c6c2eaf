use Rattle.vx_machine_task.proofs.RowSteps.{layouts_back}
use Rattle.vx_machine_acts.proofs.join.take_layouts.Goals as goal

pub returns-in-Ok-clause-layouts : goal.returns-in-Ok-clause-layouts
returns-in-Ok-clause-layouts g c =
    layouts_back c.args.kids.now.items c.in_ok-layouts.layouts.items c.add_layouts.new.layouts.items c.in_order.result.items c.in_ok-layouts.ensures.items c.in_order.ensures.items c.in-Ok.ensures.layouts
