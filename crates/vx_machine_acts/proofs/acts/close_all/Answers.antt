use Rattle.std.proofs.Common.{◌<◌, length, sym, ◌∙◌, arith, ◌≡◌}
use Rattle.vx_machine_ids.proofs.Lists.{set_same}
use Rattle.vx_machine_task.specs.Stocks.{task_stock}
use Rattle.vx_machine_task.proofs.PaidSteps.{at_same}
use Rattle.vx_machine_task.proofs.RowSteps.{shut_more, shut_done}
use Rattle.vx_machine_acts.proofs.acts.close_all.Goals as goal

pub kids-preserved : goal.kids-preserved
kids-preserved c =
    let h : c.kids.i < length c.kids.kids.items = omega (arith, c.kids.kids.ok.0, c.kids.invariant.count) in
    record {
      stock = set_same task_stock c.kids.kids.items c.kids.i c.index_mut.result.now c.shut.new.self h (sym c.index_mut.ensures.value) c.shut.ensures.held ∙ c.kids.invariant.stock;
      reserved = at_same c.kids.kids.items c.kids.i c.index_mut.result.now c.shut.new.self h (sym c.index_mut.ensures.value) c.shut.ensures.reserved ∙ c.kids.invariant.reserved;
      shut = shut_more c.kids.kids.items c.args.kids.now.items c.kids.i c.index_mut.result.now c.shut.new.self h (sym c.index_mut.ensures.value) c.shut.ensures.shows c.kids.invariant.shut;
      count = c.kids.invariant.count;
    }

pub returns-clause-kids : goal.returns-clause-kids
returns-clause-kids c =
    let h : length c.args.kids.now.items ≡ c.kids.i = omega (arith, c.args.kids.now.ok.0) in
    shut_done c.kids.kids.items c.args.kids.now.items c.kids.i h c.kids.invariant.shut
