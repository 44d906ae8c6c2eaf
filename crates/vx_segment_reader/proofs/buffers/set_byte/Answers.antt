use Rattle.std.proofs.Common.{arith}
use Rattle.vx_segment_spec.specs.Segment.{set_byte}
use Rattle.vx_segment_reader.proofs.BufferSteps.{set_found, set_not_yet, set_nowhere}
use Rattle.vx_segment_reader.proofs.buffers.set_byte.Goals as goal

pub returns-then-bytes-i-ne0 : goal.returns-then-bytes-i-ne0
returns-then-bytes-i-ne0 c = set_found c.args.at c.loop-i.i c.args.bytes.now (set_byte c.args.at c.args.bytes.now) c.loop-i-test.true (omega (arith, c.if-bytes-i-ne0.true)) c.loop-i.invariant

pub loop-i-preserved : goal.loop-i-preserved
loop-i-preserved c = set_not_yet c.args.at c.loop-i.i c.args.bytes.now (set_byte c.args.at c.args.bytes.now) c.loop-i-test.true (omega (arith, c.if-bytes-i-ne0.false)) c.loop-i.invariant

pub returns : goal.returns
returns c = set_nowhere c.args.at c.loop-i.i c.args.bytes.now (set_byte c.args.at c.args.bytes.now) c.loop-i-test.false c.loop-i.invariant
