use Rattle.std.proofs.Common.{◌≡◌, ◌-◌, ◌∷◌, [], ◌++◌, ℕ, length, map, ap, ◌∙◌}
use Rattle.std.proofs.lemmas.List.{map_push}
use Rattle.std.proofs.lemmas.Result.{err_from_is_err_and}
use Rattle.vx_layout_bytes.specs.Reading.{node_at, many_nodes}
use Rattle.vx_layout_bytes.specs.There.{node_there, only_value}
use Rattle.vx_layout_bytes.proofs.Loops.{nodes_go_on, nodes_end, nodes_done}
use Rattle.vx_layout_bytes.proofs.Skips.{fails_behind, only_fails}
use Rattle.vx_layout_bytes.proofs.There.{are_push, went_behind}
use Rattle.vx_layout_bytes.proofs.open.places_of.Goals as goal

pub returns-in_err-fewer-clause-nodes : goal.returns-in_err-fewer-clause-nodes
returns-in_err-fewer-clause-nodes c =
    let p = err_from_is_err_and c.from_residual.result c.from_residual.ensures.1 in
    let read = node_at (c.args.stop - 1) c.args.stop in
    let total = many_nodes read c.args.count (c.args.stop - 1) c.args.rest in
    let failed = fails_behind c.in_err-fewer.field-0.0 (read c.loop.left c.loop.rest) c.in_err-fewer.ensures in
    rw (p.1, p.2) (only_fails c.in_err-fewer.field-0.0 total (nodes_end c.in_err-fewer.field-0.0 read (map (node_there c.args.bytes.now) c.loop.places.items) c.args.count c.loop.counter c.loop.left c.loop.rest total c.loop-test.true failed c.loop.invariant.so_far))

pub loop-preserved : goal.loop-preserved
loop-preserved c =
    let bytes = c.args.bytes.now in
    let read = node_at (c.args.stop - 1) c.args.stop in
    let total = many_nodes read c.args.count (c.args.stop - 1) c.args.rest in
    let place : ℕ = c.args.stop - length c.loop.rest in
    let b = went_behind bytes c.loop.rest c.args.stop (c.args.stop - 1) c.loop.left c.in_ok-fewer.fewer c.skip_node.new.bytes c.requires.stop c.requires.octets c.loop.invariant.ends c.in_ok-fewer.ensures in
    let items : c.push.new.self.items ≡ c.loop.places.items ++ place ∷ [] = c.in_ok-push.ensures.items ∙ ap (λ (p : ℕ). c.loop.places.items ++ p ∷ []) c.place_of-place.ensures in
    let more : map (node_there bytes) c.push.new.self.items ≡ map (node_there bytes) c.loop.places.items ++ node_there bytes place ∷ [] = rw items (map_push _ c.loop.places.items place) in
    record {
      so_far = rw more (nodes_go_on read (map (node_there bytes) c.loop.places.items) c.args.count c.loop.counter c.loop.left c.loop.rest (node_there bytes place) c.in_ok-fewer.fewer c.skip_node.new.bytes total c.loop-test.true b.reads c.loop.invariant.so_far);
      there = rw items (are_push bytes c.loop.places.items place c.loop.invariant.there b.there);
      ends = b.ends;
    }

pub returns-clause-nodes : goal.returns-clause-nodes
returns-clause-nodes c =
    let read = node_at (c.args.stop - 1) c.args.stop in
    let total = many_nodes read c.args.count (c.args.stop - 1) c.args.rest in
    ap only_value (nodes_done read (map (node_there c.args.bytes.now) c.loop.places.items) c.args.count c.loop.counter c.loop.left c.loop.rest total c.loop-test.false c.loop.invariant.so_far)
