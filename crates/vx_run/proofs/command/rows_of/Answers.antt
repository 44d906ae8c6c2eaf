use Rattle.std.proofs.Common.{◌≡◌, ap, ◌∙◌, arith}
use Rattle.std.specs.Prelude.{decimal, IsTrue}
use Rattle.vx_run.proofs.WordSteps.{parsed_same, not_parsed}
use Rattle.vx_run.proofs.command.rows_of.Goals as goal

pub returns-in_default : goal.returns-in_default
returns-in_default c n are = not_parsed c.args.word.now n _ c.parse.result c.parse.ensures.value.0 c.in_default.is are

pub returns-then-rows-eq0 : goal.returns-then-rows-eq0
returns-then-rows-eq0 c n are =
    let same : n ≡ c.in-Ok.rows = parsed_same c.args.word.now n c.in-Ok.rows c.parse.result c.parse.ensures.value.0 c.in-Ok.is are in
    omega (arith, same, are.1, c.if-rows-eq0.true)

pub returns-then-rows-gt-MOST_ROWS : goal.returns-then-rows-gt-MOST_ROWS
returns-then-rows-gt-MOST_ROWS c n are =
    let same : n ≡ c.in-Ok.rows = parsed_same c.args.word.now n c.in-Ok.rows c.parse.result c.parse.ensures.value.0 c.in-Ok.is are in
    omega (arith, same, are.2, c.if-rows-gt-MOST_ROWS.true)

pub returns-else-same : goal.returns-else-same
returns-else-same c n are =
    let same : n ≡ c.in-Ok.rows = parsed_same c.args.word.now n c.in-Ok.rows c.parse.result c.parse.ensures.value.0 c.in-Ok.is are in
    let is : IsTrue c.in_ok-same.same = c.in_ok-same.ensures.1 (are.0 ∙ ap decimal same) in
    cc (is, c.if-same.false)
