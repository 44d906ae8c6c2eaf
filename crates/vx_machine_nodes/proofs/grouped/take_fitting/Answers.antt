use Rattle.std.proofs.Common.{◌≤◌, ◌++◌, ap, refl, ◌∙◌, arith}
use Rattle.vx_sink.specs.ContextView.{counted}
use Rattle.vx_machine_node.specs.Regrouped.{handed}
use Rattle.vx_machine_node.specs.Sizes.{sum_of}
use Rattle.vx_machine_node.specs.View.{todo_of}
use Rattle.std.specs.Arc.{arc_value}
use Rattle.vx_model.specs.TyView.{ty}
use Rattle.vx_machine_node.proofs.GroupSizes.{sum_kept}
use Rattle.vx_machine_nodes.proofs.GroupTakes.{weighs_less, next_fits, next_of, next_sizes, next_rows, group_took}
use Rattle.vx_machine_nodes.proofs.grouped.take_fitting.Goals as goal

pub invariant_of-result : goal.invariant_of-result
invariant_of-result g c = record {
  typed = next_of c.args.node.rule c.args.node.newest c.in-Ok-acted.rule c.act_on-acted.new.reserved.items (todo_of c.act_on-acted.new.todo.items) (todo_of c.args.todo.now.items) (ty (arc_value c.args.node.dtype))
      c.in-Ok-acted.ensures.done c.args.node.typed;
  fits = next_fits c.args.node.rule c.args.node.newest c.in-Ok-acted.rule c.act_on-acted.new.reserved.items (todo_of c.act_on-acted.new.todo.items) (todo_of c.args.todo.now.items) c.args.item
      c.in-Ok-acted.ensures.done c.requires.typed;
  idle = refl;
  weighed = next_sizes c.args.node.rule c.args.node.newest c.in-Ok-acted.rule c.act_on-acted.new.reserved.items c.keep.new.reserved.items (todo_of c.act_on-acted.new.todo.items) (todo_of c.args.todo.now.items) c.args.item
      c.in-Ok-acted.ensures.done (c.keep.ensures ∙ ap (λ r. c.act_on-acted.new.reserved.items ++ handed r) c.in-Ok.ensures.bytes);
  summed = next_rows c.args.node.rule c.args.node.newest c.in-Ok-acted.rule c.act_on-acted.new.reserved.items (todo_of c.act_on-acted.new.todo.items) (todo_of c.args.todo.now.items) c.args.item c.args.node.rows c.in-Ok.rows
      c.in-Ok-acted.ensures.done c.args.node.summed c.in-Ok.ensures.rows;
}

pub release_all-requires : goal.release_all-requires
release_all-requires g c =
    omega (arith, sum_kept c.keep.new.reserved.items c.act_on-acted.new.reserved.items c.in-Ok.reservation c.keep.ensures, c.act_on-acted.ensures.balance, ap sum_of c.admit.ensures.same, c.in-Ok.ensures.tracked, c.requires.reserved)

pub returns-in-Ok-acted-clause-tracked : goal.returns-in-Ok-acted-clause-tracked
returns-in-Ok-acted-clause-tracked g c =
    omega (arith, sum_kept c.keep.new.reserved.items c.act_on-acted.new.reserved.items c.in-Ok.reservation c.keep.ensures, c.act_on-acted.ensures.balance, ap sum_of c.admit.ensures.same, c.in-Ok.ensures.tracked)

pub returns-in-Ok-acted-clause-done : goal.returns-in-Ok-acted-clause-done
returns-in-Ok-acted-clause-done g c = λ s name ks.
    let less : sum_of c.act_on-acted.new.reserved.items ≤ counted c.args.ctx.now = omega (arith, c.act_on-acted.ensures.balance, ap sum_of c.admit.ensures.same, c.requires.reserved) in
    group_took s name ks c.args.item c.args.node.rows c.in-Ok.rows c.in-Ok-acted.rule c.act_on-acted.new.reserved.items (todo_of c.act_on-acted.new.todo.items) (todo_of c.args.todo.now.items)
    c.in-Ok.ensures.rows c.in-Ok.ensures.rows_fit c.args.node.rule c.args.node.newest c.requires.typed c.args.node.idle c.in-Ok-acted.ensures.done
    (weighs_less (sum_of c.act_on-acted.new.reserved.items) (counted c.args.ctx.now) c.args.node.rule c.args.item.chunk less c.in-Ok.ensures.fits)

pub returns-in-Err-acted-clause-tracked : goal.returns-in-Err-acted-clause-tracked
returns-in-Err-acted-clause-tracked g c =
    omega (arith, sum_kept c.keep.new.reserved.items c.act_on-acted.new.reserved.items c.in-Ok.reservation c.keep.ensures, c.act_on-acted.ensures.balance, ap sum_of c.admit.ensures.same, c.in-Ok.ensures.tracked, c.release_all.ensures.tracked)
