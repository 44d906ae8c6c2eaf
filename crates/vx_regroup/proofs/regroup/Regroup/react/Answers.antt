use Rattle.std.proofs.Common.{ap, sym, ◌∙◌}
use Rattle.std.proofs.lemmas.Result.{on_ok_weaker}
use Rattle.vx_regroup.specs.declared.regroup.Regroup.{Regroup}
use Rattle.vx_regroup.specs.declared.regroup.Regroup.TheVariants.{Repartition, Buffered, Collect}
use Rattle.vx_regroup.specs.Regrouping.{after}
use Rattle.vx_regroup.proofs.Taken.{taken_next}
use Rattle.vx_regroup.proofs.regroup.Regroup.react.Goals as goal

pub returns-in-Repartition-clause-taken : goal.returns-in-Repartition-clause-taken
returns-in-Repartition-clause-taken c =
    on_ok_weaker c.react.result
    (λ h l first cs e. taken_next c.args.self.now (Repartition c.react.new.self) first cs c.args.chunk (ap Repartition (h l) ∙ sym (ap (λ (r : Regroup). after r c.args.chunk) c.in-Repartition.is)) e)
    c.react.ensures.holds

pub returns-in-Buffered-clause-taken : goal.returns-in-Buffered-clause-taken
returns-in-Buffered-clause-taken c =
    on_ok_weaker c.react-in-Buffered.result
    (λ h l first cs e. taken_next c.args.self.now (Buffered c.react-in-Buffered.new.self) first cs c.args.chunk (ap Buffered (h l) ∙ sym (ap (λ (r : Regroup). after r c.args.chunk) c.in-Buffered.is)) e)
    c.react-in-Buffered.ensures.holds

pub returns-in-Collect-clause-taken : goal.returns-in-Collect-clause-taken
returns-in-Collect-clause-taken c =
    on_ok_weaker c.react-in-Collect.result
    (λ h l first cs e. taken_next c.args.self.now (Collect c.react-in-Collect.new.self) first cs c.args.chunk (ap Collect (h l) ∙ sym (ap (λ (r : Regroup). after r c.args.chunk) c.in-Collect.is)) e)
    c.react-in-Collect.ensures.holds
