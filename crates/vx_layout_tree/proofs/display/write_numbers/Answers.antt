use Rattle.std.proofs.Common.{rules}
use Rattle.std.proofs.Output.{has_written_append}
use Rattle.vx_layout_tree.proofs.Texts.{number_written}
use Rattle.vx_layout_tree.proofs.display.write_numbers.Goals as goal

pub loop-i-preserved : goal.loop-i-preserved
loop-i-preserved g c plain =
    let (done, wrote, so_far) = c.loop-i.invariant plain in
    let one = c.write_number.ensures wrote.plain (search rules) in (
      _,
      has_written_append _ _ _ _ _ _ wrote one,
      number_written _ c.args.segments.now c.loop-i.i (record { 0 = 0 }) done _ c.loop-i-test.true so_far,
    )
