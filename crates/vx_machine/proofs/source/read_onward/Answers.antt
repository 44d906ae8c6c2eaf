use Rattle.std.proofs.Common.{sym, subst, IfOk, IfErr}
use Rattle.vx_path.specs.Path.{Eof}
use Rattle.vx_named_tasks.specs.Names.{onward}
use Rattle.vx_order.specs.Answers.{FullAt}
use Rattle.vx_machine.specs.SourceActs.{ReadActed, ReadRefused}
use Rattle.vx_machine.specs.View.{phase_of}
use Rattle.vx_machine.proofs.source.read_onward.Goals as goal

pub read_none-requires-clause-full : goal.read_none-requires-clause-full
read_none-requires-clause-full g c = subst (λ (p : Eof). FullAt p.last c.in-Err.full) (sym c.in-Err.ensures.same) c.in-Err.ensures.full

pub returns-in-Ok-clause-done : goal.returns-in-Ok-clause-done
returns-in-Ok-clause-done g c = c.read_at.ensures.done c.args.pointer c.in-Ok.ensures.id c.in-Ok.ensures.next c.in-Ok.ensures.fits

pub returns-in-Ok-clause-refused : goal.returns-in-Ok-clause-refused
returns-in-Ok-clause-refused g c = c.read_at.ensures.refused c.args.pointer

pub returns-in-Err-clause-done : goal.returns-in-Err-clause-done
returns-in-Err-clause-done g c =
    subst (λ (p : Eof). IfOk c.read_none.result.1 (ReadActed (g.B.BatchSource.kind c.args.source.now) (g.B.BatchSource.to_come c.args.source.now) (g.B.BatchSource.to_come c.read_none.new.source) (onward p) (phase_of c.read_none.result.0)))
    c.in-Err.ensures.same c.read_none.ensures.done

pub returns-in-Err-clause-refused : goal.returns-in-Err-clause-refused
returns-in-Err-clause-refused g c =
    subst (λ (p : Eof). IfErr c.read_none.result.1 (ReadRefused (g.B.BatchSource.kind c.args.source.now) (g.B.BatchSource.to_come c.args.source.now) (g.B.BatchSource.to_come c.read_none.new.source) (onward p)))
    c.in-Err.ensures.same c.read_none.ensures.refused
