use Rattle.std.proofs.Common.{◌++◌, false, List, refl, sym, ap, subst, ◌∙◌, arith}
use Rattle.std.specs.Arc.{arc_value}
use Rattle.vx_model.specs.CellData.{CellData}
use Rattle.vx_runs.specs.CutterData.{CutterData, gives_at}
use Rattle.vx_machine_state.specs.State.{Next, by_run}
use Rattle.vx_machine_node.specs.declared.node.Local.TheVariants.{Runs}
use Rattle.vx_machine_nodes.specs.Acting.{taken, Took}
use Rattle.vx_machine_nodes.specs.Runs.{nexts_at}
use Rattle.vx_machine_node.specs.View.{coder_in, runs_in, item_of, todo_of, mind_of}
use Rattle.vx_machine_nodes.proofs.RunTakes.{runs_took, runs_why, number_more}
use Rattle.vx_machine_nodes.proofs.dict.take_counted.Goals as goal

pub invariant_of-result : goal.invariant_of-result
invariant_of-result g c = record {
  typed = ap (λ (z : CutterData). z.typed) (c.in-Ok.ensures.cutter refl) ∙ c.args.runs.typed;
  bytes = ap (λ (z : CutterData). z.max_bytes) (c.in-Ok.ensures.cutter refl) ∙ c.args.runs.bytes;
  len = ap (λ (z : CutterData). z.max_len) (c.in-Ok.ensures.cutter refl) ∙ c.args.runs.len;
  number = number_more c.args.runs c.cut.new.runs c.cut.new.cutter (c.in-Ok.ensures.cutter refl) c.in-Ok.ensures.runs;
  same = c.requires.typed;
  few = omega (arith, c.in-Ok.ensures.rows, c.args.runs.few, c.requires.counted);
}

pub returns-in-Ok-clause-done : goal.returns-in-Ok-clause-done
returns-in-Ok-clause-done g c = λ idle s name ks.
    let gives = gives_at (arc_value c.args.runs.node).probe c.args.runs.cutter c.args.runs.newest.chunk false in
    subst (λ (xs : List Next). Took (taken s name ks (item_of c.args.item) (mind_of (Runs c.args.runs))) (by_run (coder_in (arc_value c.args.runs.node)) (runs_in c.cut.new.runs c.cut.new.cutter.distinct) (item_of c.args.item) c.args.rows) (todo_of c.cut.new.todo.items) xs ks)
    (sym (ap todo_of idle))
    (runs_took s name ks c.args.runs c.args.item c.cut.new.cutter c.cut.new.runs c.args.rows (todo_of c.cut.new.todo.items) c.requires.counted (omega (arith, c.requires.counted, c.ranges.rows.fits)) c.requires.typed (c.in-Ok.ensures.cutter refl) c.in-Ok.ensures.runs
    (λ (ds : List CellData). c.in-Ok.ensures.todo ds ∙ ap (λ xs. todo_of xs ++ nexts_at (coder_in (arc_value c.args.runs.node)) (runs_in c.args.runs.runs ds) c.args.runs.newest.id 0 gives) idle) c.cut.ensures.eofs c.in-Ok.ensures.fits)

pub returns-in-Err-clause-refused : goal.returns-in-Err-clause-refused
returns-in-Err-clause-refused g c = λ s name ks. runs_why s name ks c.args.runs c.args.item c.in-Err.error c.in-Err.ensures.refused
