use Rattle.std.proofs.Common.{◌∙◌, ℕ, List, length, ap, sym, refl}
use Rattle.std.specs.Global.{Vec}
use Rattle.vx_model.specs.Distinct.{first_repeat}
use Rattle.vx_model.specs.ChunkData.{ChunkData}
use Rattle.vx_strategy.specs.StrategyView.{strategy_data}
use Rattle.vx_layout_tree.specs.declared.layout.Layout.{Layout}
use Rattle.vx_column_machine.specs.Course.{Course}
use Rattle.vx_column_worker.specs.Jobs.{course_of}
use Rattle.vx_column_worker.specs.Worked.{SharedPast}
use Rattle.vx_column_worker.proofs.Refused.{own_cause, own_told, told_stopping, pressed_none}
use Rattle.vx_column_worker.proofs.Begun.{ids_enough, given, begun}
use Rattle.vx_column_worker.proofs.Ended.{done_all, refused_all}
use Rattle.vx_column_worker.proofs.worker.Worker.run_machine.Goals as goal

pub begin-begun-requires-clause-enough : goal.begin-begun-requires-clause-enough
begin-begun-requires-clause-enough g c =
    ids_enough g.P.Pairs.pairs (g.D.CompressorPlugin.image (g.D.CompressorPlugin.kind c.args.compressor.now)) c.args.column c.args.input _ _ _ _ _ c.requires c.args.part.ids.items c.args.part.ids.len refl c.args.part.ids.ok.0

pub steps-requires-clause-at_work : goal.steps-requires-clause-at_work
steps-requires-clause-at_work g c =
    let image : ℕ → ChunkData → ChunkData = g.D.CompressorPlugin.image (g.D.CompressorPlugin.kind c.args.compressor.now) in (
      course_of image c.args.column c.args.input c.requires.chunks,
      begun g.P.Pairs.pairs (g.D.CompressorPlugin.image (g.D.CompressorPlugin.kind c.args.compressor.now)) c.args.column c.args.input _ _ _ _ _ c.requires c.requires.chunks c.requires.told _ _ _ c.in-Ok.machine
          c.conditions.ensures.images c.segments_read_back.ensures (ap first_repeat (sym c.array_ctx.ensures) ∙ c.ids.ensures.distinct) (g.met.D.CompressorPlugin.keeps (g.D.CompressorPlugin.kind c.args.compressor.now))
          (strategy_data c.strategy.result.now) c.strategy.ensures.same c.in-Ok.ensures.context c.in-Ok.ensures.underway,
    )

pub returns-in-Ok-clause-done : goal.returns-in-Ok-clause-done
returns-in-Ok-clause-done g c = λ chunks told.
    let image : ℕ → ChunkData → ChunkData = g.D.CompressorPlugin.image (g.D.CompressorPlugin.kind c.args.compressor.now) in
    done_all _ _ _ g.P.Pairs.pairs image c.in-Ok.machine (course_of image c.args.column c.args.input chunks)
    (begun g.P.Pairs.pairs (g.D.CompressorPlugin.image (g.D.CompressorPlugin.kind c.args.compressor.now)) c.args.column c.args.input _ _ _ _ _ c.requires chunks told _ _ _ c.in-Ok.machine
    c.conditions.ensures.images c.segments_read_back.ensures (ap first_repeat (sym c.array_ctx.ensures) ∙ c.ids.ensures.distinct) (g.met.D.CompressorPlugin.keeps (g.D.CompressorPlugin.kind c.args.compressor.now))
    (strategy_data c.strategy.result.now) c.strategy.ensures.same c.in-Ok.ensures.context c.in-Ok.ensures.underway)
    c.steps.result c.args.self.now.seat.writes.amount c.steps.new.seat.writes.amount c.in-Ok.ensures.unwritten c.steps.ensures.done c.steps.ensures.writes

pub returns-in-Ok-clause-refused : goal.returns-in-Ok-clause-refused
returns-in-Ok-clause-refused g c = λ chunks told.
    let image : ℕ → ChunkData → ChunkData = g.D.CompressorPlugin.image (g.D.CompressorPlugin.kind c.args.compressor.now) in
    refused_all _ _ _ g.P.Pairs.pairs image c.in-Ok.machine (course_of image c.args.column c.args.input chunks)
    (begun g.P.Pairs.pairs (g.D.CompressorPlugin.image (g.D.CompressorPlugin.kind c.args.compressor.now)) c.args.column c.args.input _ _ _ _ _ c.requires chunks told _ _ _ c.in-Ok.machine
    c.conditions.ensures.images c.segments_read_back.ensures (ap first_repeat (sym c.array_ctx.ensures) ∙ c.ids.ensures.distinct) (g.met.D.CompressorPlugin.keeps (g.D.CompressorPlugin.kind c.args.compressor.now))
    (strategy_data c.strategy.result.now) c.strategy.ensures.same c.in-Ok.ensures.context c.in-Ok.ensures.underway)
    c.steps.result (SharedPast g.P.Pairs.first (length g.P.Pairs.pairs)) c.steps.ensures.refused

pub returns-clause-refused : goal.returns-clause-refused
returns-clause-refused g c =
    let image : ℕ → ChunkData → ChunkData = g.D.CompressorPlugin.image (g.D.CompressorPlugin.kind c.args.compressor.now) in
    λ chunks told. own_cause (SharedPast g.P.Pairs.first (length g.P.Pairs.pairs)) (course_of image c.args.column c.args.input chunks) c.in-Err.error
    (c.in-Err.ensures.refused (course_of image c.args.column c.args.input chunks) (given g.P.Pairs.pairs image c.args.column c.args.input _ _ _ _ _ c.requires chunks told c.conditions.ensures.images c.segments_read_back.ensures
    (ap first_repeat (sym c.array_ctx.ensures) ∙ c.ids.ensures.distinct) (g.met.D.CompressorPlugin.keeps (g.D.CompressorPlugin.kind c.args.compressor.now)) (strategy_data c.strategy.result.now) c.strategy.ensures.same))

pub returns-clause-seat : goal.returns-clause-seat
returns-clause-seat g c =
    let image : ℕ → ChunkData → ChunkData = g.D.CompressorPlugin.image (g.D.CompressorPlugin.kind c.args.compressor.now) in
    let x : Course = course_of image c.args.column c.args.input c.requires.chunks in
    told_stopping c.in-Err.error c.args.self.now.seat.faults.amount c.args.self.now.seat.faults.amount c.args.self.now.seat.faults.amount c.stop_others.new.seat.faults.amount
    c.args.self.now.seat.made.amount c.args.self.now.seat.made.amount c.args.self.now.seat.made.amount c.stop_others.new.seat.made.amount
    c.args.self.now.seat.seen.amount c.args.self.now.seat.seen.amount c.args.self.now.seat.seen.amount c.stop_others.new.seat.seen.amount refl refl refl
    (own_told {A = Unit {0}} x c.in-Err.error (c.in-Err.ensures.refused x (given g.P.Pairs.pairs image c.args.column c.args.input _ _ _ _ _ c.requires c.requires.chunks c.requires.told c.conditions.ensures.images c.segments_read_back.ensures
    (ap first_repeat (sym c.array_ctx.ensures) ∙ c.ids.ensures.distinct) (g.met.D.CompressorPlugin.keeps (g.D.CompressorPlugin.kind c.args.compressor.now)) (strategy_data c.strategy.result.now) c.strategy.ensures.same))
    c.args.self.now.seat.faults.amount c.args.self.now.seat.faults.amount c.args.self.now.seat.made.amount c.args.self.now.seat.made.amount
    c.args.self.now.seat.seen.amount c.args.self.now.seat.seen.amount refl refl refl)
    c.stop_others.ensures.faults c.stop_others.ensures.made c.stop_others.ensures.seen

pub returns-clause-pressed : goal.returns-clause-pressed
returns-clause-pressed g c =
    pressed_none (Layout × Vec (List ℕ)) (g.D.Fallible.faults c.args.compressor.now) (g.D.Fallible.may_fail c.args.compressor.now) c.in-Err.error c.in-Err.ensures.uncompressed
