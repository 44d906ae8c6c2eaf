use Rattle.std.proofs.Common.{◌≡◌, ◌+◌, ℕ, List, length, ap, sym, subst, refl}
use Rattle.std.proofs.lemmas.Result.{err_from_is_err_and}
use Rattle.vx_model.specs.ChunkData.{ChunkData}
use Rattle.vx_column_machine.specs.Course.{Course}
use Rattle.vx_column_worker.specs.Jobs.{AtWork}
use Rattle.vx_column_worker.specs.Worked.{MayWrite, SharedPast}
use Rattle.vx_column_worker.proofs.Refused.{own_cause, own_told, handed_cause, handed_pressed, handed_on, handed_writes}
use Rattle.vx_column_worker.proofs.Handed.{may_write, one_more, still_at_work}
use Rattle.vx_column_worker.proofs.steps.turn.Goals as goal

pub returns-in_err-written-clause-refused : goal.returns-in_err-written-clause-refused
returns-in_err-written-clause-refused g c =
    let p = err_from_is_err_and c.from_residual.result c.from_residual.ensures.1 in
    rw (p.1, p.2) (λ x w. own_cause (SharedPast g.P.Pairs.first (length g.P.Pairs.pairs)) x c.in_err-written.field-0.0 (c.in_err-written.ensures.cause x w.set w.underway))

pub returns-in_err-written-clause-seat : goal.returns-in_err-written-clause-seat
returns-in_err-written-clause-seat g c =
    let p = err_from_is_err_and c.from_residual.result c.from_residual.ensures.1 in
    let a = c.requires.at_work in
    rw (p.1, p.2) (own_told a.0 c.in_err-written.field-0.0 (c.in_err-written.ensures.cause a.0 a.1.set a.1.underway)
    c.args.seat.now.faults.amount c.args.seat.now.faults.amount c.args.seat.now.made.amount c.args.seat.now.made.amount c.args.seat.now.seen.amount c.args.seat.now.seen.amount refl refl refl)

pub hand_on-requires : goal.hand_on-requires
hand_on-requires g c =
    let a = c.requires.at_work in
    subst (λ z. MayWrite g.P.Pairs.pairs z c.as_slice.result.now) (sym c.paths.ensures)
    (subst (λ z. MayWrite g.P.Pairs.pairs c.step.new.self.paths.items z) (sym c.as_slice.ensures.value)
    (may_write a.0 c.args.machine.now.paths.items c.step.new.self.paths.items c.in-Some.segment (rw c.in-Some.is at (c.in_ok-written.ensures.wrote a.0 a.1.set a.1.underway)) g.P.Pairs.pairs a.1.all))

pub returns-in-Some-clause-at_work : goal.returns-in-Some-clause-at_work
returns-in-Some-clause-at_work g c =
    let image : ℕ → ChunkData → ChunkData = g.D.CompressorPlugin.image (g.D.CompressorPlugin.kind c.args.compressor.now) in
    handed_on ((x : Course) → AtWork g.B.BatchSource.to_come g.B.BatchSource.kind g.B.BatchSource.left g.P.Pairs.pairs image x c.args.machine.now → AtWork g.B.BatchSource.to_come g.B.BatchSource.kind g.B.BatchSource.left g.P.Pairs.pairs image x c.step.new.self) c.hand_on.result
    (λ x w. still_at_work g.B.BatchSource.to_come g.B.BatchSource.kind g.B.BatchSource.left g.P.Pairs.pairs image x c.args.machine.now c.step.new.self c.in_ok-written.ensures.context (c.in_ok-written.ensures.led x) w)

pub returns-in-Some-clause-writes : goal.returns-in-Some-clause-writes
returns-in-Some-clause-writes g c =
    let a = c.requires.at_work in
    let n : length c.step.new.self.paths.items ≡ length c.args.machine.now.paths.items + 1 =
    one_more a.0 c.args.machine.now.paths.items c.step.new.self.paths.items c.in-Some.segment (rw c.in-Some.is at (c.in_ok-written.ensures.wrote a.0 a.1.set a.1.underway)) in
    handed_writes c.hand_on.result c.args.seat.now.writes.amount c.hand_on.new.seat.writes.amount (length c.args.machine.now.paths.items) (length c.step.new.self.paths.items) n c.hand_on.ensures.writes

pub returns-in-Some-clause-refused : goal.returns-in-Some-clause-refused
returns-in-Some-clause-refused g c =
    let image : ℕ → ChunkData → ChunkData = g.D.CompressorPlugin.image (g.D.CompressorPlugin.kind c.args.compressor.now) in
    handed_cause (SharedPast g.P.Pairs.first (length g.P.Pairs.pairs)) (λ x. AtWork g.B.BatchSource.to_come g.B.BatchSource.kind g.B.BatchSource.left g.P.Pairs.pairs image x c.args.machine.now) c.hand_on.result c.hand_on.ensures.refused

pub returns-in-Some-clause-pressed : goal.returns-in-Some-clause-pressed
returns-in-Some-clause-pressed g c =
    handed_pressed (SharedPast g.P.Pairs.first (length g.P.Pairs.pairs)) (g.D.Fallible.faults c.args.compressor.now) (g.D.Fallible.faults c.step.new.compressor)
    (g.D.Fallible.may_fail c.args.compressor.now) (g.D.Fallible.may_fail c.step.new.compressor) c.hand_on.result c.hand_on.ensures.refused c.in_ok-written.ensures.pressed.0 c.in_ok-written.ensures.pressed.1

pub returns-in-None-clause-at_work : goal.returns-in-None-clause-at_work
returns-in-None-clause-at_work g c =
    let image : ℕ → ChunkData → ChunkData = g.D.CompressorPlugin.image (g.D.CompressorPlugin.kind c.args.compressor.now) in
    λ x w. still_at_work g.B.BatchSource.to_come g.B.BatchSource.kind g.B.BatchSource.left g.P.Pairs.pairs image x c.args.machine.now c.step.new.self c.in_ok-written.ensures.context (c.in_ok-written.ensures.led x) w

pub returns-in-None-clause-writes : goal.returns-in-None-clause-writes
returns-in-None-clause-writes g c =
    let a = c.requires.at_work in
    ap (λ (z : List (List ℕ)). c.args.seat.now.writes.amount + length z) (sym (rw c.in-None.is at (c.in_ok-written.ensures.wrote a.0 a.1.set a.1.underway)))
