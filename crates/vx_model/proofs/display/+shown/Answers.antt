use Rattle.std.proofs.Common.{rules}
use Rattle.std.proofs.Output.{has_written_append}
use Rattle.vx_model.proofs.Texts.{field_written}
use Rattle.vx_model.proofs.display.+shown.Goals as goal

pub write_fields-loop-i-preserved : goal.write_fields-loop-i-preserved
write_fields-loop-i-preserved g b c plain =
    let (done, wrote, so_far) = c.loop-i.invariant plain in
    let one = c.write_name.ensures wrote.plain (search rules) in
    let two = c.write_type.ensures one.plain (search rules) in (
      _,
      has_written_append _ _ _ _ _ _ (has_written_append _ _ _ _ _ _ wrote one) two,
      rw c.as_str.ensures.text (field_written _ c.args.fields.now c.loop-i.i c.index-fields-i.result done _ c.loop-i-test.true c.index-fields-i.is so_far),
    )
