use Rattle.std.specs.Prelude.{vec_len}
use Rattle.vx_column_plan.specs.Shared.{allowed_by}
use Rattle.vx_write_columns.specs.Courses.{courses_of, pairs_beside}
use Rattle.vx_column_worker.specs.Staffed.{list_to_come}
use Rattle.vx_write_columns.proofs.write.write_fields.Given as goal

abbrev pub ghosts-write_shared-W-Ledger : goal.ghosts-write_shared-W-Ledger
ghosts-write_shared-W-Ledger g a = record { name = a.blanks.writes.name; parts = a.blanks.writes.parts }

abbrev pub ghosts-write_shared-F-Ledger : goal.ghosts-write_shared-F-Ledger
ghosts-write_shared-F-Ledger g a = record { name = a.blanks.faults.name; parts = a.blanks.faults.parts }

abbrev pub ghosts-write_shared-M-Ledger : goal.ghosts-write_shared-M-Ledger
ghosts-write_shared-M-Ledger g a = record { name = a.blanks.made.name; parts = a.blanks.made.parts }

abbrev pub ghosts-write_shared-N-Ledger : goal.ghosts-write_shared-N-Ledger
ghosts-write_shared-N-Ledger g a = record { name = a.blanks.seen.name; parts = a.blanks.seen.parts }

abbrev pub ghosts-write_shared-L-Ledger : goal.ghosts-write_shared-L-Ledger
ghosts-write_shared-L-Ledger g a = record { name = a.blanks.bytes.name; parts = a.blanks.bytes.parts }

abbrev pub ghosts-write_shared-P-Pairs : goal.ghosts-write_shared-P-Pairs
ghosts-write_shared-P-Pairs g a = record {
  pairs = allowed_by (pairs_beside (courses_of g.C.CompressorPlugin.image g.C.CompressorPlugin.kind list_to_come 0 a.columns.inputs.items a.compressors.items));
  columns = vec_len a.compressors;
  first = g.S.SegmentSink.next a.sink;
  told = g.S.SegmentSink.segments a.sink;
  faults = g.S.Fallible.faults a.sink;
  may_fail = g.S.Fallible.may_fail a.sink;
  borrow = g.S.SegmentSink.borrow a.sink;
}
