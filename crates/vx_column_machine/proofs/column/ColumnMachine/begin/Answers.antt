use Rattle.std.proofs.Common.{◌∙◌, sym, arith}
use Rattle.std.proofs.lemmas.Result.{err_from_is_err_and}
use Rattle.vx_model.specs.TyView.{ty}
use Rattle.vx_sequence.specs.Universe.{Active}
use Rattle.vx_strategy.specs.StrategyView.{strategy_data}
use Rattle.vx_sink.specs.ContextView.{is_marked, allowed_in}
use Rattle.vx_column_ids.specs.Outsets.{outset_of}
use Rattle.vx_desk.specs.DeskView.{universe_of, written_of, kept_of}
use Rattle.vx_machine_ids.specs.Stock.{both, end_stock, ids_stock}
use Rattle.vx_machine_ids.proofs.MoveLaws.{owned_now}
use Rattle.vx_machine_node.specs.View.{form_of}
use Rattle.vx_machine.specs.View.{machine_of}
use Rattle.vx_machine.specs.Whole.{machine_stock}
use Rattle.vx_machine.proofs.HeldViews.{exact_then}
use Rattle.vx_column_machine.proofs.Beginning.{ids_owned, ids_held, begun_handed, still_kept, still_next, stands, begin_cause, none_pressed}
use Rattle.vx_column_machine.proofs.column.ColumnMachine.begin.Goals as goal

pub start_at-requires : goal.start_at-requires
start_at-requires g c = ids_owned c.args.part.universe (universe_of c.new-desk.result) c.args.part.ids.items c.args.part.eof c.new-desk.ensures.universe c.args.part.owned

pub returns-in_err-machine-clause-refused : goal.returns-in_err-machine-clause-refused
returns-in_err-machine-clause-refused g c =
    let p = err_from_is_err_and c.from_residual.result c.from_residual.ensures.1 in
    rw (p.1, p.2) (λ x given. begin_cause x (allowed_in c.args.ctx) (strategy_data c.args.strategy.now) (g.B.BatchSource.kind c.args.source) (is_marked c.args.ctx) c.args.column (outset_of c.args.part) (g.B.BatchSource.to_come c.args.source) given
    c.start_faults_stand.ensures.stands c.start_faults_agree.ensures c.course_ends.ensures.starts c.in_err-machine.field-0.0 (rw c.dtype.ensures at c.in_err-machine.ensures.refused))

pub returns-in_err-machine-clause-uncompressed : goal.returns-in_err-machine-clause-uncompressed
returns-in_err-machine-clause-uncompressed g c =
    let p = err_from_is_err_and c.from_residual.result c.from_residual.ensures.1 in
    rw (p.1, p.2) (none_pressed (allowed_in c.args.ctx) (strategy_data c.args.strategy.now) (ty c.dtype.result.now) (is_marked c.args.ctx) c.args.part.eof c.in_err-machine.field-0.0
    c.in_err-machine.ensures.refused)

pub returns-clause-balance : goal.returns-clause-balance
returns-clause-balance g c =
    let u : Active = universe_of c.new-desk.result in
    let v : Active = universe_of c.start_at.new.order in
    record {
      owned = owned_now u v (both (ids_stock c.args.part.ids.items) (end_stock c.args.part.eof)) (machine_stock c.in_ok-machine.machine)
          (ids_owned c.args.part.universe u c.args.part.ids.items c.args.part.eof c.new-desk.ensures.universe c.args.part.owned) c.in_ok-machine.ensures.moved;
      exact = exact_then u v (both (ids_stock c.args.part.ids.items) (end_stock c.args.part.eof)) (machine_stock c.in_ok-machine.machine)
          (ids_held c.args.part.universe u c.args.part.ids.items c.args.part.eof c.new-desk.ensures.universe c.args.part.exact) c.in_ok-machine.ensures.moved;
      counts = c.requires.none ∙ sym c.in_ok-machine.ensures.unreserved;
      kept = still_kept (written_of c.new-desk.result) (written_of c.start_at.new.order) (kept_of c.new-desk.result) (kept_of c.start_at.new.order) c.in_ok-machine.ensures.outlet ∙ c.new-desk.ensures.kept;
      steady = c.requires.steady;
      unordered = c.new-ordered.ensures.len;
      room = omega (arith, c.new-paths.ensures.len);
    }

pub returns-clause-underway : goal.returns-clause-underway
returns-clause-underway g c = λ x given. record {
  stands = rw c.new-paths.ensures.items (stands x (allowed_in c.args.ctx) (strategy_data c.args.strategy.now) (g.B.BatchSource.kind c.args.source) (is_marked c.args.ctx) c.args.column (outset_of c.args.part) (g.B.BatchSource.to_come c.args.source) given
      (machine_of c.in_ok-machine.machine) (written_of c.start_at.new.order)
      (still_next (written_of c.new-desk.result) (written_of c.start_at.new.order) (kept_of c.new-desk.result) (kept_of c.start_at.new.order) c.in_ok-machine.ensures.outlet ∙ c.new-desk.ensures.written)
      (rw c.dtype.ensures at c.in_ok-machine.ensures.begins) (rw c.dtype.ensures at c.in_ok-machine.ensures.counted));
  type_is = sym given.type_is;
  number_is = sym given.number_is;
  enough = begun_handed (machine_of c.in_ok-machine.machine) c.args.part.ids.items (form_of c.args.strategy.now c.dtype.result.now) (is_marked c.args.ctx) c.args.part.eof (g.B.BatchSource.left c.args.source) c.in_ok-machine.ensures.shows
      (omega (arith, c.requires.enough, c.args.part.ids.ok.0));
}
