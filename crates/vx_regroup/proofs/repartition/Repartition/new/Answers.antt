use Rattle.std.proofs.Common.{ℕ, ap₂, sym}
use Rattle.vx_model.specs.TyView.{ty}
use Rattle.vx_rules.specs.Blocks.{blocks}
use Rattle.vx_regroup.specs.Rules.{exactly}
use Rattle.vx_regroup.proofs.repartition.Repartition.new.Goals as goal

pub returns-clause-rule : goal.returns-clause-rule
returns-clause-rule c = λ o e f. ap₂ (λ (l m : ℕ). blocks (exactly l m) (ty c.args.dtype)) (sym e) (sym f)
