use Rattle.std.proofs.Common.{sym, subst}
use Rattle.vx_model.specs.ChunkData.{ChunkData}
use Rattle.vx_regroup.specs.Regrouping.{Takes, after}
use Rattle.vx_regroup.specs.declared.regroup.Regroup.{Regroup}
use Rattle.vx_regroup.specs.declared.regroup.Regroup.TheVariants.{Repartition, Buffered, Collect}
use Rattle.vx_rule_cases.proofs.rule.RegroupRule.step.Goals as goal

-- behind a chunk a rule takes what it took before
takes_after : (r : Regroup) (c d : ChunkData) → Takes r d → Takes (after r c) d
takes_after (Repartition h) c d k = k
takes_after (Buffered h) c d k = k
takes_after (Collect h) c d k = k

pub returns : goal.returns
returns c = λ l d e. subst (λ (r : Regroup). Takes r d) (sym (c.in_ok-outputs.ensures.next l)) (takes_after c.args.self.now c.args.chunk d (c.requires.at d e))
