use Rattle.std.proofs.Common.{refl, ap}
use Rattle.std.specs.Arc.{arc_value}
use Rattle.vx_sequence.specs.Universe.{Active}
use Rattle.vx_model.specs.TyView.{ty}
use Rattle.vx_machine_ids.specs.Stock.{end_stock}
use Rattle.vx_machine_ids.proofs.MoveLaws.{moved_none}
use Rattle.vx_machine_state.specs.State.{by_chunk}
use Rattle.vx_strategy.specs.NodeViews.{chunked_way}
use Rattle.vx_machine_node.specs.View.{form_at}
use Rattle.vx_machine_task.specs.View.{row}
use Rattle.vx_machine_node.specs.declared.node.Local.TheVariants.{Chunked}
use Rattle.vx_machine_start.proofs.StartMoves.{alone_moved}
use Rattle.vx_machine_node.proofs.Fitting.{none_fit}
use Rattle.vx_machine_start.proofs.StartShows.{started}
use Rattle.vx_machine_fresh.proofs.StartCauses.{memory_start}
use Rattle.vx_machine_start.proofs.start.start_chunked.Goals as goal

pub returns-in-Ok-clause-moved : goal.returns-in-Ok-clause-moved
returns-in-Ok-clause-moved g c =
    let u : Active = g.O.Order.active c.args.order.now in
    alone_moved u u (end_stock c.args.eof) (end_stock c.args.eof) c.waiting.result c.new.result.items c.new.ensures.items c.waiting.ensures.held (moved_none u (end_stock c.args.eof) c.requires.owned)

pub returns-in-Ok-clause-shows : goal.returns-in-Ok-clause-shows
returns-in-Ok-clause-shows g c = λ a.
    started a (form_at (chunked_way c.args.chunked.now) (ty (arc_value c.args.dtype))) c.args.marked c.args.name c.args.eof (Chunked c.in-Ok.node c.args.eof 0) c.new.result.items c.waiting.result
    (λ s q. refl) (λ k. none_fit)
    (λ j. by_chunk (c.in-Ok.ensures.node.2 j) (ty (arc_value (c.in-Ok.ensures.node.0 j))) (form_at ((c.in-Ok.ensures.node.1 j).item) (ty (arc_value (c.in-Ok.ensures.node.0 j)))) c.args.eof 0)
    (ap row c.new.ensures.items) c.waiting.ensures.shows

pub returns-in-Err-clause-cause : goal.returns-in-Err-clause-cause
returns-in-Err-clause-cause g c = memory_start c.in-Err.error c.in-Err.ensures.memory
