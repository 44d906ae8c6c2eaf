use Rattle.vx_calls.specs.Written.{in_turns}
use Rattle.vx_calls.proofs.turns.taken_in_turns.Given as goal

abbrev pub ghosts-tried-W-Ledger : goal.ghosts-tried-W-Ledger
ghosts-tried-W-Ledger g a = record { name = a.blanks.0.name; parts = a.blanks.0.parts }

abbrev pub ghosts-tried-F-Ledger : goal.ghosts-tried-F-Ledger
ghosts-tried-F-Ledger g a = record { name = a.blanks.1.name; parts = a.blanks.1.parts }

abbrev pub ghosts-tried-M-Ledger : goal.ghosts-tried-M-Ledger
ghosts-tried-M-Ledger g a = record { name = a.blanks.2.name; parts = a.blanks.2.parts }

abbrev pub ghosts-tried-N-Ledger : goal.ghosts-tried-N-Ledger
ghosts-tried-N-Ledger g a = record { name = a.blanks.3.name; parts = a.blanks.3.parts }

abbrev pub ghosts-tried-P-Pairs : goal.ghosts-tried-P-Pairs
ghosts-tried-P-Pairs g a = record {
  pairs = in_turns;
  columns = 2;
  first = g.S.SegmentSink.next a.sink;
  told = g.S.SegmentSink.segments a.sink;
  faults = g.S.Fallible.faults a.sink;
  may_fail = g.S.Fallible.may_fail a.sink;
  borrow = g.S.SegmentSink.borrow a.sink;
}
