use Rattle.vx_model.specs.TyView.{ty}
use Rattle.vx_machine_acts.proofs.RunJoins.{run_made}
use Rattle.vx_machine_acts.proofs.dict_join.run_layout.Goals as goal

pub returns : goal.returns
returns c =
    run_made c.in_ok-clone.field-0 (ty c.args.dtype.now) c.args.rows c.new.result c.in_ok-children.children.items c.args.values c.args.codes c.from_parts.result
    c.in_ok-clone.ensures.cases c.new.ensures.items c.in_ok-children.ensures.items c.from_parts.ensures
