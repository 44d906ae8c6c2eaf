use Rattle.std.proofs.Common.{true, false, sym, ◌∙◌}
use Rattle.vx_session.proofs.Lists.{had, repeat_found, one_more, set_more}
use Rattle.vx_session.proofs.layout_context.are_distinct.Goals as goal

pub returns-then-not-branch : goal.returns-then-not-branch
returns-then-not-branch c =
    let has = had c.loop-id.before c.as_str.result c.id-item.result c.in_ok-insert.field-0 true c.as_str.ensures.text c.in_ok-insert.ensures.added c.if-not-branch.true in
    sym (repeat_found c.args.ids.now c.loop-id.id-index c.id-item.result c.loop-id-test.true c.id-item.is (sym (c.loop-id.invariant.seen c.id-item.result) ∙ has))

pub loop-id-preserved : goal.loop-id-preserved
loop-id-preserved c =
    let lacks = had c.loop-id.before c.as_str.result c.id-item.result c.in_ok-insert.field-0 false c.as_str.ensures.text c.in_ok-insert.ensures.added c.if-not-branch.false in
    let new = sym (c.loop-id.invariant.seen c.id-item.result) ∙ lacks in
    record {
      apart = one_more c.args.ids.now c.loop-id.id-index c.id-item.result c.loop-id-test.true c.id-item.is new c.loop-id.invariant.apart;
      seen = set_more c.args.ids.now c.loop-id.id-index c.id-item.result c.loop-id.before c.insert.new.self c.as_str.result c.loop-id-test.true c.id-item.is c.as_str.ensures.text c.in_ok-insert.ensures.updates c.loop-id.invariant.seen;
    }
