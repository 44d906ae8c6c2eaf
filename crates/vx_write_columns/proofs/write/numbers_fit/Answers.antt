use Rattle.std.proofs.Common.{sym}
use Rattle.vx_write_columns.proofs.Last.{numbers_end, none_end}
use Rattle.vx_write_columns.proofs.write.numbers_fit.Goals as goal

pub returns-in_default : goal.returns-in_default
returns-in_default c = λ first h. none_end first c.args.history.now (sym c.in_default.ensures.value)

pub returns : goal.returns
returns c = λ first h. numbers_end first c.args.history.now c.in-Some.last.now (sym c.in-Some.ensures.value) c.has_32_bits.ensures h
