use Rattle.std.specs.Arc.{arc_value}
use Rattle.vx_sequence.specs.Universe.{Active}
use Rattle.vx_model.specs.TyView.{ty}
use Rattle.vx_strategy_options.specs.OptionViews.{dict_options}
use Rattle.vx_machine_ids.specs.Stock.{end_stock}
use Rattle.vx_machine_ids.proofs.MoveLaws.{moved_none}
use Rattle.vx_machine_node.specs.declared.node.Local.TheVariants.{Probe}
use Rattle.vx_machine_start.proofs.StartMoves.{alone_moved}
use Rattle.vx_machine_start.proofs.StartKinds.{dict_started}
use Rattle.vx_machine_fresh.proofs.StartCauses.{memory_start}
use Rattle.vx_machine_start.proofs.start.start_dict.Goals as goal

pub returns-in-Ok-clause-moved : goal.returns-in-Ok-clause-moved
returns-in-Ok-clause-moved g c =
    let u : Active = g.O.Order.active c.args.order.now in
    alone_moved u u (end_stock c.args.eof) (end_stock c.args.eof) c.waiting.result c.new.result.items c.new.ensures.items c.waiting.ensures.held (moved_none u (end_stock c.args.eof) c.requires.owned)

pub returns-in-Ok-clause-shows : goal.returns-in-Ok-clause-shows
returns-in-Ok-clause-shows g c = λ a.
    let by = c.args.by.now in
    dict_started (dict_options by.constraints by.probe) by.codes.item by.values.item by.fallback.item (ty (arc_value c.args.dtype)) c.requires.dict a c.args.marked c.args.name c.args.eof (Probe c.in-Ok.node c.args.eof) c.new.result.items c.waiting.result
    (c.in-Ok.ensures.mind c.args.eof) c.new.ensures.items c.waiting.ensures.shows

pub returns-in-Err-clause-cause : goal.returns-in-Err-clause-cause
returns-in-Err-clause-cause g c = memory_start c.in-Err.error c.in-Err.ensures.memory
