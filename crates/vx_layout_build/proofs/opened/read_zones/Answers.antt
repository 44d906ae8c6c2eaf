use Rattle.std.proofs.Common.{ap, map}
use Rattle.std.proofs.lemmas.Result.{err_from_is_err_and}
use Rattle.vx_metadata.specs.Views.{zoned, spec_of}
use Rattle.vx_session.specs.Aggregates.{all_named}
use Rattle.vx_session.specs.Views.{context}
use Rattle.vx_layout_build.proofs.OpenSteps.{zoned_is, zoned_rows_fail, zoned_specs_fail}
use Rattle.vx_layout_build.proofs.opened.read_zones.Goals as goal

pub returns-in_err-has_rows-clause-refused : goal.returns-in_err-has_rows-clause-refused
returns-in_err-has_rows-clause-refused c =
    let p = err_from_is_err_and c.from_residual-in_err-has_rows.result c.from_residual-in_err-has_rows.ensures.1 in
    rw (p.1, p.2) (zoned_rows_fail _ (context c.args.within.now) c.args.parts.now c.args.metadata.now (zoned c.in_ok-zoned.zoned) c.in_ok-zoned.ensures.exact c.in_ok-has_children.ensures c.child_row_count.result c.child_row_count.ensures c.in_err-has_rows.ensures)

pub returns-in_err-aggregates-clause-refused : goal.returns-in_err-aggregates-clause-refused
returns-in_err-aggregates-clause-refused c =
    let p = err_from_is_err_and c.from_residual-in_err-aggregates.result c.from_residual-in_err-aggregates.ensures.1 in
    rw (p.1, p.2) (zoned_specs_fail _ (context c.args.within.now) c.args.parts.now c.args.metadata.now (zoned c.in_ok-zoned.zoned) c.in_ok-zoned.ensures.exact c.in_ok-has_children.ensures c.child_row_count.result c.child_row_count.ensures c.in_ok-has_rows.ensures c.deref.result.now (ap (map spec_of) c.deref.ensures.value) c.in_err-aggregates.ensures.exact)

pub returns-clause-exact : goal.returns-clause-exact
returns-clause-exact c =
    zoned_is (context c.args.within.now) c.args.parts.now c.args.metadata.now (zoned c.in_ok-zoned.zoned) (all_named c.in_ok-aggregates.aggregates) c.in_ok-zoned.ensures.exact c.in_ok-has_children.ensures c.child_row_count.result c.child_row_count.ensures c.in_ok-has_rows.ensures c.deref.result.now (ap (map spec_of) c.deref.ensures.value) c.in_ok-aggregates.ensures.exact
