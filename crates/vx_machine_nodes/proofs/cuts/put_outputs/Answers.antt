use Rattle.std.proofs.Common.{◌≡◌, ◌+◌, ◌∷◌, ◌++◌, List, [], length, sym, ap, ◌∙◌, arith}
use Rattle.std.specs.Arc.{arc_value}
use Rattle.std.specs.Vec.Iter.{into_iter_items}
use Rattle.std.proofs.lemmas.Result.{err_from_is_err_and}
use Rattle.vx_path.specs.Path.{Eof}
use Rattle.vx_sequence.specs.Universe.{Active}
use Rattle.vx_react.specs.Reactor.{Output}
use Rattle.vx_machine_ids.specs.Stock.{Stock, both, end_stock}
use Rattle.vx_machine_ids.proofs.MoveLaws.{moved_then, owned_now}
use Rattle.vx_machine_nodes.specs.Runs.{behind_all, nexts_at, are_runs}
use Rattle.vx_machine_node.specs.Stocks.{dues_stock}
use Rattle.vx_machine_node.specs.View.{coder_in, runs_in, todo_of}
use Rattle.vx_machine_nodes.proofs.RunSteps.{begun_now, rows_now, first_follows, rest_follow, first_few, late_refusal, one_nexts}
use Rattle.vx_machine_nodes.proofs.cuts.put_outputs.Goals as goal

pub put_output-requires-clause-owned : goal.put_output-requires-clause-owned
put_output-requires-clause-owned g c = c.outputs.invariant.owned

pub put_output-requires-clause-follows : goal.put_output-requires-clause-follows
put_output-requires-clause-follows g c = first_follows c.outputs.runs.begun _ c.in-Some.output _ c.in-Some.ensures.steps.0 c.outputs.invariant.follow

pub put_output-requires-clause-few : goal.put_output-requires-clause-few
put_output-requires-clause-few g c = let h = first_few c.outputs.runs.rows _ c.in-Some.output _ c.in-Some.ensures.steps.0 in omega (arith, h, c.outputs.invariant.rows, c.requires.few)

pub outputs-preserved : goal.outputs-preserved
outputs-preserved g c =
    let xs : List Output = into_iter_items c.next.new.self in
    let step : into_iter_items c.outputs.output-iterator ≡ c.in-Some.output ∷ xs = c.in-Some.ensures.steps.0 in
    let u : Active = g.O.Order.active c.outputs.order in
    let v : Active = g.O.Order.active c.put_output.new.order in
    let s : Stock = both (both (end_stock c.outputs.runs.pointer) (dues_stock c.outputs.todo.items)) (end_stock c.outputs.below) in
    let t : Stock = both (both (end_stock c.put_output.new.runs.pointer) (dues_stock c.put_output.new.todo.items)) (end_stock c.put_output.new.below) in
    let follows = first_follows c.outputs.runs.begun _ c.in-Some.output xs step c.outputs.invariant.follow in
    record {
      owned = owned_now u v s t c.outputs.invariant.owned c.in_ok-put_output.ensures.moved;
      moved = moved_then (g.O.Order.active c.args.order.now) u v _ s t c.outputs.invariant.moved c.in_ok-put_output.ensures.moved;
      reserved = c.in_ok-put_output.ensures.reserved ∙ c.outputs.invariant.reserved;
      outlet = c.in_ok-put_output.ensures.outlet ∙ c.outputs.invariant.outlet;
      sink = c.in_ok-put_output.ensures.sink ∙ c.outputs.invariant.sink;
      follow = ap (λ b. are_runs b xs) (begun_now c.outputs.runs c.put_output.new.runs c.in-Some.output.0 c.in-Some.output.1 follows c.in_ok-put_output.ensures.runs) ∙ rest_follow c.outputs.runs.begun _ c.in-Some.output xs step c.outputs.invariant.follow;
      rows = (let h = first_few c.outputs.runs.rows _ c.in-Some.output xs step in omega (arith, h, c.outputs.invariant.rows, rows_now c.outputs.runs c.put_output.new.runs c.in-Some.output.0 c.in-Some.output.1 c.in_ok-put_output.ensures.runs));
      runs = λ ds. ap (λ r. behind_all r xs) (c.in_ok-put_output.ensures.runs ds) ∙ ap (behind_all (runs_in c.outputs.runs ds)) (sym step) ∙ c.outputs.invariant.runs ds;
      todo = λ ds.
          (λ j. c.in_ok-put_output.ensures.todo ds j ++ nexts_at (coder_in (arc_value c.args.node.now)) (c.in_ok-put_output.ensures.runs ds j) (c.in_ok-put_output.ensures.below j).stem (c.in_ok-put_output.ensures.below j).last xs)
          ∙ one_nexts (coder_in (arc_value c.args.node.now)) (runs_in c.outputs.runs ds) c.outputs.below (into_iter_items c.outputs.output-iterator) c.in-Some.output xs step (todo_of c.outputs.todo.items)
          ∙ c.outputs.invariant.todo ds;
      stem = ap (λ (e : Eof). e.stem) c.in_ok-put_output.ensures.below ∙ c.outputs.invariant.stem;
      last = omega (arith, ap (λ (e : Eof). e.last) c.in_ok-put_output.ensures.below, ap length step, c.outputs.invariant.last);
      fits = λ h. omega (arith, ap (λ (e : Eof). e.last) c.in_ok-put_output.ensures.below, c.in_ok-put_output.ensures.fits);
    }

pub returns-in_err-put_output-clause-refused : goal.returns-in_err-put_output-clause-refused
returns-in_err-put_output-clause-refused g c =
    let p = err_from_is_err_and c.from_residual.result c.from_residual.ensures.1 in
    rw (p.1, p.2)
    (late_refusal c.outputs.runs _ c.in-Some.output _ c.in-Some.ensures.steps.0 c.outputs.invariant.follow c.outputs.below.last (c.args.below.now.last + length c.args.outputs.items) (behind_all (runs_in c.args.runs.now []) c.args.outputs.items)
    (c.outputs.invariant.runs []) (omega (arith, ap length c.in-Some.ensures.steps.0, c.outputs.invariant.last)) _ c.in_err-put_output.ensures.refused)
