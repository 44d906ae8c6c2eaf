use Rattle.std.proofs.Common.{◌∙◌, sym, arith, rules}
use Rattle.vx_column_worker.proofs.Refused.{told_stopping, pressed_last}
use Rattle.vx_column_worker.proofs.Handed.{as_kind}
use Rattle.vx_column_worker.proofs.steps.steps.Goals as goal

pub turn-requires-clause-at_work : goal.turn-requires-clause-at_work
turn-requires-clause-at_work g c =
    let a = c.requires.at_work in
    (a.0, as_kind g.B.BatchSource.to_come g.B.BatchSource.kind g.B.BatchSource.left g.P.Pairs.pairs g.D.CompressorPlugin.image (g.D.CompressorPlugin.kind c.args.compressor.now) (g.D.CompressorPlugin.kind c.steps.compressor) a.0 c.steps.machine (sym c.steps.invariant.kind) (c.steps.invariant.at_work a.0 a.1))

pub finish_with_paths-requires-clause-underway : goal.finish_with_paths-requires-clause-underway
finish_with_paths-requires-clause-underway g c = let a = c.requires.at_work in (a.0, (c.steps.invariant.at_work a.0 a.1).underway)

pub returns-then-finished-clause-done : goal.returns-then-finished-clause-done
returns-then-finished-clause-done g c = λ x w. c.in-Ok-finish_with_paths.ensures.done x (c.steps.invariant.at_work x w).underway

pub steps-preserved : goal.steps-preserved
steps-preserved g c = record {
  goes = search rules;
  balance = c.in-Ok-turn.ensures.balance;
  at_work = λ x w.
      as_kind g.B.BatchSource.to_come g.B.BatchSource.kind g.B.BatchSource.left g.P.Pairs.pairs g.D.CompressorPlugin.image (g.D.CompressorPlugin.kind c.steps.compressor) (g.D.CompressorPlugin.kind c.args.compressor.now) x c.turn.new.machine c.steps.invariant.kind
      (c.in-Ok-turn.ensures.at_work x (as_kind g.B.BatchSource.to_come g.B.BatchSource.kind g.B.BatchSource.left g.P.Pairs.pairs g.D.CompressorPlugin.image (g.D.CompressorPlugin.kind c.args.compressor.now) (g.D.CompressorPlugin.kind c.steps.compressor) x c.steps.machine (sym c.steps.invariant.kind) (c.steps.invariant.at_work x w)));
  writes = let a = c.steps.invariant.writes in let b = c.in-Ok-turn.ensures.writes in omega (arith, a, b);
  column = c.in-Ok-turn.ensures.column ∙ c.steps.invariant.column;
  faults = c.in-Ok-turn.ensures.seat.fault ∙ c.steps.invariant.faults;
  made = c.in-Ok-turn.ensures.seat.unmade ∙ c.steps.invariant.made;
  seen = c.in-Ok-turn.ensures.seat.saw ∙ c.steps.invariant.seen;
  kind = c.in-Ok-turn.ensures.kind ∙ c.steps.invariant.kind;
  pressed = c.in-Ok-turn.ensures.pressed.0 ∙ c.steps.invariant.pressed;
  steady = λ n. c.in-Ok-turn.ensures.pressed.1 (c.steps.invariant.steady n);
}

pub returns-in-Err-clause-refused : goal.returns-in-Err-clause-refused
returns-in-Err-clause-refused g c = λ x w.
    c.in-Err.ensures.refused x (as_kind g.B.BatchSource.to_come g.B.BatchSource.kind g.B.BatchSource.left g.P.Pairs.pairs g.D.CompressorPlugin.image (g.D.CompressorPlugin.kind c.args.compressor.now) (g.D.CompressorPlugin.kind c.steps.compressor) x c.steps.machine (sym c.steps.invariant.kind) (c.steps.invariant.at_work x w))

pub returns-in-Err-clause-seat : goal.returns-in-Err-clause-seat
returns-in-Err-clause-seat g c =
    told_stopping c.in-Err.error c.args.seat.now.faults.amount c.steps.seat.faults.amount c.turn.new.seat.faults.amount c.give_up-in-Err.new.seat.faults.amount
    c.args.seat.now.made.amount c.steps.seat.made.amount c.turn.new.seat.made.amount c.give_up-in-Err.new.seat.made.amount
    c.args.seat.now.seen.amount c.steps.seat.seen.amount c.turn.new.seat.seen.amount c.give_up-in-Err.new.seat.seen.amount c.steps.invariant.faults c.steps.invariant.made c.steps.invariant.seen c.in-Err.ensures.seat
    c.give_up-in-Err.ensures.faults c.give_up-in-Err.ensures.made c.give_up-in-Err.ensures.seen

pub returns-in-Err-clause-pressed : goal.returns-in-Err-clause-pressed
returns-in-Err-clause-pressed g c =
    pressed_last (Unit {0}) (Unit {0}) (g.D.Fallible.faults c.args.compressor.now) (g.D.Fallible.faults c.steps.compressor) (g.D.Fallible.faults c.turn.new.compressor) (g.D.Fallible.may_fail c.args.compressor.now)
    (g.D.Fallible.may_fail c.steps.compressor) (g.D.Fallible.may_fail c.turn.new.compressor) c.in-Err.error c.steps.invariant.pressed c.steps.invariant.steady c.in-Err.ensures.pressed
