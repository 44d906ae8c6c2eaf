use Rattle.std.proofs.Common.{◌<◌, ◌^◌, inl, inr, arith}
use Rattle.vx_model.specs.TyView.{ty}
use Rattle.vx_model.specs.TreeView.{tree}
use Rattle.vx_strategy_options.specs.OptionViews.{dict_options}
use Rattle.vx_runs.proofs.Steps.{more_runs, none_more}
use Rattle.vx_runs.proofs.rows.cost_with.Goals as goal
use Rattle.vx_runs.proofs.rows.cost_with.Goals.{then-count-from-via-then-count-from, then-count-from-via-else-count-from+then-total-from}

pub returns-then-count-from : goal.returns-then-count-from
returns-then-count-from c =
    let small : c.args.cost < 2 ^ 65 = c.requires.small in
    none_more (dict_options c.args.limits 0) (ty c.args.dtype.now) c.args.distinct.now (tree c.args.cell.now) c.args.cost c.cell_cost-added.result c.requires c.cell_cost-added.ensures.cost (omega arith)
    (elim c.then-count-from.branch [
      | then-count-from-via-then-count-from w ↦ inl (let k = w.if-count-from.true in omega arith)
      | then-count-from-via-else-count-from+then-total-from w ↦ inr (let k = w.if-total-from.true in let e = w.from-else-count-from.ensures in omega arith)
    ])

pub returns : goal.returns
returns c =
    let small : c.args.cost < 2 ^ 65 = c.requires.small in
    let more : c.cell_cost-added.result < 2 ^ 65 = c.cell_cost-added.ensures.small in
    more_runs (dict_options c.args.limits 0) (ty c.args.dtype.now) c.args.distinct.now (tree c.args.cell.now) c.args.cost c.cell_cost-added.result c.requires c.cell_cost-added.ensures.cost
    (omega arith) (omega arith) (omega arith)
