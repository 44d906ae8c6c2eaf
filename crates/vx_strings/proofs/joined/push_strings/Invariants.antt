use Rattle.std.proofs.Common.{◌≡◌, ◌++◌, drop}
use Rattle.vx_strings.specs.StringCells.{strings_between, Grown}
use Rattle.vx_strings.proofs.joined.push_strings.Given as goal

abbrev pub invariant-loop-row : goal.invariant-loop-row
invariant-loop-row l = record {
  joined : strings_between l.bytes.items l.offsets.items ++ drop l.row (strings_between l.strings l.places) ≡ strings_between l.fn.bytes.items l.fn.offsets.items ++ strings_between l.strings l.places;
  grown : Grown l.kind l.bytes.items l.offsets.items;
}
