use Rattle.std.proofs.Common.{List, ap₂, ◌∙◌}
use Rattle.vx_model.specs.Words.{all_by}
use Rattle.vx_model.specs.Ty.{Ty}
use Rattle.vx_model.specs.CellData.{CellData, fits}
use Rattle.vx_strategy_options.specs.OptionViews.{dict_options}
use Rattle.vx_runs.proofs.CodeSteps.{codes_fit}
use Rattle.vx_runs.proofs.codes.codes_chunk.Goals as goal

pub typed-requires : goal.typed-requires
typed-requires c =
    ap₂ (λ (t : Ty) (cs : List CellData). all_by (fits t) cs) c.code_dtype.ensures c.in_ok-cells.ensures
    ∙ codes_fit (dict_options c.args.limits 0) c.args.codes.now ∙ c.requires
