use Rattle.std.proofs.Common.{map, ap}
use Rattle.std.specs.Arc.{arc_value}
use Rattle.vx_model.specs.TyView.{ty}
use Rattle.vx_layout_tree.specs.LayoutView.{layout_data}
use Rattle.vx_machine_acts.proofs.RunJoins.{runs_gathered, runs_past}
use Rattle.vx_machine_acts.proofs.dict_join.join_runs.Goals as goal

pub returns-clause-layout : goal.returns-clause-layout
returns-clause-layout c =
    runs_gathered (ty c.deref.result.now) (ty (arc_value c.args.node.now.dtype)) c.args.rows.items (map layout_data c.args.layouts.items) (map layout_data c.in_ok-runs.runs.items) c.gather.result (ap ty c.deref.ensures) c.in_ok-runs.ensures
    (ty c.deref-2.result.now) (ap ty c.deref-2.ensures) c.gather.ensures.layout

pub returns-clause-refused : goal.returns-clause-refused
returns-clause-refused c =
    runs_past (ty c.deref.result.now) (ty (arc_value c.args.node.now.dtype)) c.args.rows.items (map layout_data c.args.layouts.items) (map layout_data c.in_ok-runs.runs.items) c.gather.result (ap ty c.deref.ensures) c.in_ok-runs.ensures
    c.gather.ensures.refused
