-- What a setting keeps, and what readers have of a write that kept it.
use Rattle.std.proofs.Common.{◌≡◌, ℕ, Bool, true, List, Option, None, sym, subst}
use Rattle.vx_model.specs.Ty.{Ty}
use Rattle.vx_model.specs.ChunkData.{ChunkData}
use Rattle.vx_model.specs.Distinct.{first_repeat}
use Rattle.vx_layout_spec.specs.Real.{Whole, SameRows}
use Rattle.vx_layout_spec.specs.LayoutTree.{LayoutData}
use Rattle.vx_strategy.specs.StrategyView.{strategy_data}
use Rattle.vx_strategy.specs.declared.strategy.Strategy.{Strategy}
use Rattle.vx_strategy.proofs.AllAdmitted.{strategy_admitted}
use Rattle.vx_sink.specs.declared.context.LayoutWriterContext.{LayoutWriterContext}
use Rattle.vx_sink.specs.ContextView.{listed, allowed_in}
use Rattle.vx_setting.specs.Setting.{RealKeeps, RealHashIsSmall}
use Rattle.vx_prune_laws.specs.Statements.{PruningKeepsRows}
use Rattle.vx_parse_back_laws.specs.Statements.{WrittenIsParsed, WrittenIsKnown}
use Rattle.vx_plan.specs.PlanData.{Setting}
use Rattle.vx_plan.specs.Number.{segments}
use Rattle.vx_plan.specs.SourcePlan.{source_plan}
use Rattle.vx_plan.specs.Valid.{Keeps}
use Rattle.vx_machine_state.specs.Images.{images_of}
use Rattle.vx_machine_node.specs.Context.{setting_of}
use Rattle.vx_write.specs.Readable.{IsReadable}
use Rattle.vx_write.specs.Written.{Planned, Wrote}
use Rattle.vx_write.proofs.Imaging.{images_keep}

-- where no encoding is listed twice and the images keep the rows of whole chunks
pub setting_keeps : RealKeeps → (ctx : LayoutWriterContext) (image : ℕ → ChunkData → ChunkData) → first_repeat (listed ctx) ≡ None → ((which : ℕ) (p : ChunkData) → Whole p → SameRows p (image which p)) → Keeps (setting_of ctx image)
setting_keeps law ctx image distinct keeps = law (listed ctx) (allowed_in ctx) (images_of image) distinct (images_keep image keeps)

module _ (prune : PruningKeepsRows) (parse : WrittenIsParsed) (know : WrittenIsKnown) (small : RealHashIsSmall) (ctx : LayoutWriterContext) (image : ℕ → ChunkData → ChunkData) (strategy : Strategy) (t : Ty) (m : Bool)
    (to_come : Option (List ChunkData)) (first next : ℕ) (before now : Option (List (List ℕ))) (l : LayoutData ℕ) (keeps : Keeps (setting_of ctx image)) where
  abbrev s : Setting
  s = setting_of ctx image

  pub planned_readable : Planned s (strategy_data strategy) t m to_come (Wrote t first next before now l) → Planned s (strategy_data strategy) t m to_come (λ xs p. IsReadable s t first (segments p) l)
  planned_readable wrote xs told = readable (wrote xs told)
    where
      readable : Wrote t first next before now l xs (source_plan s (strategy_data strategy) t m xs true) → IsReadable s t first (segments (source_plan s (strategy_data strategy) t m xs true)) l
      readable x =
          subst (IsReadable s t first (segments (source_plan s (strategy_data strategy) t m xs true))) (sym x.laid)
          (record {
            zones = prune s (strategy_data strategy) t m xs first keeps (small (listed ctx) (allowed_in ctx) (images_of image)) (strategy_admitted strategy) x.valid.whole x.valid.faultless x.valid.fit;
            known = λ scope k. know s scope (strategy_data strategy) t m xs true first (strategy_admitted strategy) k;
            parsed = λ scope deep nodes bytes k within spelled.
                parse s scope (strategy_data strategy) t m xs first deep nodes bytes keeps (strategy_admitted strategy) x.valid.whole x.valid.faultless x.valid.fit k within spelled;
          })
