use Rattle.std.proofs.Common.{rules, ◌≡◌, true, [], ◌∷◌, ◌++◌, sym}
use Rattle.vx_byte_reader.proofs.FieldLoops.{many_stops, many_done}
use Rattle.vx_cell_codec.specs.Reading.{cell_at}
use Rattle.vx_typed.specs.Typed.{typed_cells}
use Rattle.vx_strings.specs.StringCells.{strings_between, string_cell, string_type, may_be}
use Rattle.vx_strings.proofs.StringSteps.{grown_more, grown_strings}
use Rattle.vx_column_codec.proofs.LeafSteps.{flagged_more, both_more}
use Rattle.vx_column_codec.proofs.strings.take_strings.Goals as goal

pub returns-in_default-clause-cells : goal.returns-in_default-clause-cells
returns-in_default-clause-cells c =
    many_stops (cell_at (string_type c.args.kind c.args.nullable)) (typed_cells (string_cell c.args.kind) (strings_between c.loop.taken.strings.items c.loop.taken.places.items) c.loop.taken.valid.items)
    c.args.rows c.loop.counter c.loop.rest.now _ c.loop-test.true (sym c.in_default.ensures.seen) c.loop.invariant.read

pub loop-preserved : goal.loop-preserved
loop-preserved c =
    let bytes = c.loop.taken.strings.items in
    let places = c.loop.taken.places.items in
    let s = c.in-Some.string.now in
    let fine : may_be c.args.kind s ≡ true = search (rules, c.in-Some.ensures.may_be) in
    let next : strings_between c.push.new.self.strings.items c.push.new.self.places.items ≡ strings_between bytes places ++ s ∷ [] =
    grown_strings c.args.kind bytes places s c.push.new.self.strings.items c.push.new.self.places.items c.loop.invariant.grown c.in_ok-push.ensures.strings c.in_ok-push.ensures.places in
    record {
      read = flagged_more (string_cell c.args.kind) (cell_at (string_type c.args.kind c.args.nullable)) (strings_between bytes places) (strings_between c.push.new.self.strings.items c.push.new.self.places.items) s
          c.loop.taken.valid.items c.push.new.self.valid.items c.in-Some.flag c.args.rows c.loop.counter c.loop.rest.now c.in-Some.after.now _
          next c.in_ok-push.ensures.valid c.loop.invariant.flags c.loop-test.true c.in-Some.ensures.seen c.loop.invariant.read;
      grown = grown_more c.args.kind bytes places s c.push.new.self.strings.items c.push.new.self.places.items c.loop.invariant.grown fine c.in_ok-push.ensures.strings c.in_ok-push.ensures.places;
      flags = both_more (strings_between bytes places) (strings_between c.push.new.self.strings.items c.push.new.self.places.items) s c.loop.taken.valid.items c.push.new.self.valid.items c.in-Some.flag
          next c.in_ok-push.ensures.valid c.loop.invariant.flags;
    }

pub returns-clause-cells : goal.returns-clause-cells
returns-clause-cells c =
    many_done (cell_at (string_type c.args.kind c.args.nullable)) (typed_cells (string_cell c.args.kind) (strings_between c.loop.taken.strings.items c.loop.taken.places.items) c.loop.taken.valid.items)
    c.args.rows c.loop.counter c.loop.rest.now _ c.loop-test.false c.loop.invariant.read
