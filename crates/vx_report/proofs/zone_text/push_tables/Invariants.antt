use Rattle.std.proofs.Common.{◌≡◌, ◌++◌, drop}
use Rattle.std.specs.Prelude.{string_bytes}
use Rattle.vx_report.specs.TableView.{told_tables}
use Rattle.vx_report.proofs.zone_text.push_tables.Given as goal

abbrev pub invariant-loop-i : goal.invariant-loop-i
invariant-loop-i l = string_bytes l.out ++ told_tables l.i (drop l.i l.tables) ≡ string_bytes l.fn.out ++ told_tables 0 l.tables
