-- The next list, and what is left behind it.
use Rattle.std.proofs.Common.{◌-◌, ap, sym, ◌∙◌, map, take, drop}
use Rattle.vx_model.specs.TreeView.{val}
use Rattle.vx_layout_spec.specs.Rows.{lists_of}
use Rattle.vx_read.specs.Parts.{rows_in}
use Rattle.vx_read.proofs.ListSteps.{list_more, drop_offsets, further}
use Rattle.vx_read.proofs.lists.lists.Goals as goal

pub loop-i-preserved : goal.loop-i-preserved
loop-i-preserved c =
    let es = rows_in c.args.elements in
    let last = c.loop-i.last in
    let end = c.in_ok-end.end in
    let offsets = c.args.offsets.now in
    let offset = c.index-offsets-i.result in
    let cut = c.in_ok-list.ensures.taken ∙ ap (take (end - last)) c.loop-i.invariant.rest in
    record {
      whole = c.loop-i.invariant.whole;
      within = c.in_ok-end.ensures.within;
      rest = c.in_ok-list.ensures.rest ∙ ap (drop (end - last)) c.loop-i.invariant.rest ∙ further es last end c.in_ok-end.ensures.after;
      rows = rw c.in_ok-push.ensures.items (list_more es offsets c.loop-i.i last end offset c.in_ok-list.list c.loop-i.rows.items (lists_of es (map val offsets)) c.loop-i-test.true c.index-offsets-i.is
          c.in_ok-end.ensures.number c.in_ok-end.ensures.after cut c.loop-i.invariant.rows);
      faults = sym (drop_offsets c.len-count.result last end offsets c.loop-i.i offset c.loop-i-test.true c.index-offsets-i.is c.in_ok-end.ensures.number c.in_ok-end.ensures.fault) ∙ c.loop-i.invariant.faults;
    }
