-- The next value.
use Rattle.std.proofs.Common.{sym, ◌∙◌, map}
use Rattle.vx_model.specs.TreeView.{val}
use Rattle.vx_layout_spec.specs.Rows.{all_there, picked}
use Rattle.vx_read.proofs.DictSteps.{pick_more, pass_code}
use Rattle.vx_read.proofs.dicts.picked.Goals as goal

pub loop-code-preserved : goal.loop-code-preserved
loop-code-preserved c =
    let values = c.args.values.now in
    let codes = c.args.codes.now in
    let code = c.code-item.result in
    let value = c.in_ok-value.value in
    record {
      rows = rw c.in_ok-push.ensures.items (pick_more values codes c.loop-code.code-index code value c.loop-code.rows.items (all_there (map (picked (map val values)) (map val codes))) c.loop-code-test.true c.code-item.is
          c.in_ok-value.ensures c.loop-code.invariant.rows);
      faults = sym (pass_code values codes c.loop-code.code-index code (val value) c.loop-code-test.true c.code-item.is c.in_ok-value.ensures) ∙ c.loop-code.invariant.faults;
    }
