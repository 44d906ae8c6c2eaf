use Rattle.std.proofs.Common.{◌≤◌, ◌^◌, refl, arith}
use Rattle.vx_model.specs.TyView.{ty}
use Rattle.vx_machine_acts.proofs.JoinSteps.{chunks_join, chunks_made, rows_past}
use Rattle.vx_machine_acts.proofs.join.chunk_all.Goals as goal

pub unreachable-requires : goal.unreachable-requires
unreachable-requires c = chunks_join (ty c.args.dtype) c.total_rows-total.result c.layout_children-children.result c.in-Err._refusal c.total_rows-total.ensures c.in-Err.ensures.room c.in-Err.ensures.made

pub returns-clause-layout : goal.returns-clause-layout
returns-clause-layout c =
    chunks_made (ty c.args.dtype) (ty c.args.dtype) c.total_rows-total.result c.layout_children-children.result c.args.layouts c.in-Ok.chunked
    refl c.layout_children-children.ensures c.total_rows-total.ensures c.in-Ok.ensures.made

pub returns-then-total-from-clause-refused : goal.returns-then-total-from-clause-refused
returns-then-total-from-clause-refused c =
    let h : 2 ^ 64 ≤ c.total_rows-total.result = omega arith in
    rows_past (ty c.args.dtype) c.total_rows-total.result c.layout_children-children.result c.args.layouts c.layout_children-children.ensures c.total_rows-total.ensures h
