-- What was written is read again.
use Rattle.std.proofs.Common.{◌≡◌, ℕ, Bool, true, List, Option, sym, subst}
use Rattle.vx_model.specs.Ty.{Ty}
use Rattle.vx_model.specs.ChunkData.{ChunkData}
use Rattle.vx_layout_spec.specs.LayoutTree.{LayoutData}
use Rattle.vx_strategy_spec.specs.StrategyData.{StrategyData}
use Rattle.vx_strategy_spec.specs.Admitted.{is_admitted}
use Rattle.vx_strategy.specs.StrategyView.{strategy_data}
use Rattle.vx_strategy.specs.declared.strategy.Strategy.{Strategy}
use Rattle.vx_strategy.proofs.AllAdmitted.{strategy_admitted}
use Rattle.vx_sink.specs.declared.context.LayoutWriterContext.{LayoutWriterContext}
use Rattle.vx_sink.specs.ContextView.{listed, allowed_in}
use Rattle.vx_setting.specs.Setting.{RealHashIsSmall}
use Rattle.vx_prune_laws.specs.Statements.{PruningKeepsRows}
use Rattle.vx_parse_back_laws.specs.Statements.{WrittenIsParsed, WrittenIsKnown}
use Rattle.vx_machine.specs.Context.{setting_of}
use Rattle.vx_machine_state.specs.Images.{images_of}
use Rattle.vx_plan.specs.Number.{segments}
use Rattle.vx_plan.specs.PlanData.{Setting}
use Rattle.vx_plan.specs.SourcePlan.{source_plan}
use Rattle.vx_plan.specs.Valid.{Keeps}
use Rattle.vx_write.specs.Written.{Planned, Wrote}
use Rattle.vx_write.specs.Readable.{IsReadable}

module _ (prune : PruningKeepsRows) (parse : WrittenIsParsed) (know : WrittenIsKnown) (small : RealHashIsSmall) (ctx : LayoutWriterContext) (image : ℕ → ChunkData → ChunkData) (strategy : Strategy) (t : Ty) (m : Bool)
    (to_come : Option (List ChunkData)) (first next : ℕ) (before now : Option (List (List ℕ))) (l : LayoutData ℕ) (keeps : Keeps (setting_of ctx image)) where
  abbrev s : Setting
  s = setting_of ctx image

  abbrev w : StrategyData
  w = strategy_data strategy

  admitted : is_admitted w ≡ true
  admitted = strategy_admitted strategy

  wrote_readable : (xs : List ChunkData) → Wrote t first next before now l xs (source_plan s w t m xs true) → IsReadable s t first (segments (source_plan s w t m xs true)) l
  wrote_readable xs x =
      subst (IsReadable s t first (segments (source_plan s w t m xs true))) (sym x.laid)
      (record {
        zones = prune s w t m xs first keeps (small (listed ctx) (allowed_in ctx) (images_of image)) admitted x.valid.whole x.valid.faultless x.valid.fit;
        known = λ scope k. know s scope w t m xs true first admitted k;
        parsed = λ scope deep nodes bytes k within spelled. parse s scope w t m xs first deep nodes bytes keeps admitted x.valid.whole x.valid.faultless x.valid.fit k within spelled;
      })

  pub planned_readable : Planned s w t m to_come (Wrote t first next before now l) → Planned s w t m to_come (λ xs p. IsReadable s t first (segments p) l)
  planned_readable wrote xs told = wrote_readable xs (wrote xs told)
