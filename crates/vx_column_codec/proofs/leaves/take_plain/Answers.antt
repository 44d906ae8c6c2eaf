use Rattle.std.proofs.Common.{rules, ◌≡◌, [], ◌∷◌, ◌++◌, false, sym}
use Rattle.vx_byte_reader.proofs.FieldLoops.{many_stops, many_done}
use Rattle.vx_cell_codec.specs.Reading.{cell_at}
use Rattle.vx_typed.specs.Typed.{typed_cells}
use Rattle.vx_column_codec.proofs.LeafSteps.{plain_more}
use Rattle.vx_column_codec.proofs.leaves.take_plain.Goals as goal

pub returns-in_default : goal.returns-in_default
returns-in_default g c = many_stops (cell_at (g.T.Leaf.kind false)) (typed_cells g.T.Leaf.as_cell c.loop.items.items []) c.args.rows c.loop.counter c.loop.rest.now _ c.loop-test.true (sym c.in_default.ensures) c.loop.invariant

pub loop-preserved : goal.loop-preserved
loop-preserved g c =
    let e : c.push.new.self.items ≡ c.loop.items.items ++ c.in-Some.value ∷ [] = search (rules, c.in_ok-push.ensures.items) in
    let more = plain_more g.T.Leaf.as_cell (cell_at (g.T.Leaf.kind false)) c.loop.items.items c.push.new.self.items c.in-Some.value c.args.rows c.loop.counter c.loop.rest.now c.in-Some.after.now _
    e c.loop-test.true c.in-Some.ensures c.loop.invariant in
    search (rules, more)

pub returns : goal.returns
returns g c = many_done (cell_at (g.T.Leaf.kind false)) (typed_cells g.T.Leaf.as_cell c.loop.items.items []) c.args.rows c.loop.counter c.loop.rest.now _ c.loop-test.false c.loop.invariant
