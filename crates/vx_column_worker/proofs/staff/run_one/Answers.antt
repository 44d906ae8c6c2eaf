use Rattle.vx_column_worker.proofs.Staffing.{has_run}
use Rattle.vx_column_worker.proofs.staff.run_one.Goals as goal

pub run-requires-clause-free : goal.run-requires-clause-free
run-requires-clause-free g c = c.requires.free

pub run-requires-clause-fits : goal.run-requires-clause-fits
run-requires-clause-fits g c = c.requires.fits

pub returns : goal.returns
returns g c =
    has_run g.C.CompressorPlugin.image g.C.CompressorPlugin.kind g.C.Fallible.faults g.C.Fallible.may_fail _ _ _ _ _ _ _ c.run.ensures.spent c.run.ensures.ended c.run.ensures.done
    c.run.ensures.refused c.run.ensures.stopped c.run.ensures.unstopped c.run.ensures.kind c.run.ensures.pressed
