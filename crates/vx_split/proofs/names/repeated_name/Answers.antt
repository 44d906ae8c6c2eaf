use Rattle.std.proofs.Common.{true, false, sym, ◌∙◌}
use Rattle.vx_split.proofs.NameSteps.{had, repeat_found, one_more, set_more}
use Rattle.vx_split.proofs.names.repeated_name.Goals as goal

pub returns-then-not-branch : goal.returns-then-not-branch
returns-then-not-branch c =
    let name = c.field-item.result.name in
    let has = had c.loop-field.before c.as_str.result name c.in_ok-insert.field-0 true c.as_str.ensures.text c.in_ok-insert.ensures.added c.if-not-branch.true in
    let again = repeat_found c.args.fields.now c.loop-field.field-index c.field-item.result c.loop-field-test.true c.field-item.is (sym (c.loop-field.invariant.seen name) ∙ has) in
    rw (c.in_ok-clone.ensures.cases) (sym again ∙ c.loop-field.invariant.same)

pub loop-field-preserved : goal.loop-field-preserved
loop-field-preserved c =
    let name = c.field-item.result.name in
    let lacks = had c.loop-field.before c.as_str.result name c.in_ok-insert.field-0 false c.as_str.ensures.text c.in_ok-insert.ensures.added c.if-not-branch.false in
    let new = sym (c.loop-field.invariant.seen name) ∙ lacks in
    record {
      same = sym (one_more c.args.fields.now c.loop-field.field-index c.field-item.result c.loop-field-test.true c.field-item.is new) ∙ c.loop-field.invariant.same;
      seen = set_more c.args.fields.now c.loop-field.field-index c.field-item.result c.loop-field.before c.insert.new.self c.as_str.result c.loop-field-test.true c.field-item.is c.as_str.ensures.text c.in_ok-insert.ensures.updates c.loop-field.invariant.seen;
    }
