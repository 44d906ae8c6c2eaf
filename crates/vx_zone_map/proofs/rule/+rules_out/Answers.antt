use Rattle.std.proofs.Common.{rules}
use Rattle.vx_model.specs.TyView.{ty}
use Rattle.vx_zone_map.specs.declared.predicate.Predicate as pr
use Rattle.vx_zone_map.proofs.RuleSteps.{and_right, or_right}
use Rattle.vx_zone_map.proofs.rule.+rules_out.Goals as goal

pub rules_out-requires-then-rules_out : goal.rules_out-requires-then-rules_out
rules_out-requires-then-rules_out t c =
    (search (rules, pr.the_lemmas), rw c.deref-then-rules_out.ensures (and_right (ty c.args.zone.dtype.now) c.args.predicate.now c.in-And.a c.in-And.b c.in-And.is c.requires))

pub rules_out-requires-else-rules_out-2 : goal.rules_out-requires-else-rules_out-2
rules_out-requires-else-rules_out-2 t c =
    (search (rules, pr.the_lemmas), rw c.deref-else-rules_out-2.ensures (and_right (ty c.args.zone.dtype.now) c.args.predicate.now c.in-And.a c.in-And.b c.in-And.is c.requires))

pub rules_out-requires-else-rules_out-3 : goal.rules_out-requires-else-rules_out-3
rules_out-requires-else-rules_out-3 t c =
    (search (rules, pr.the_lemmas), rw c.deref-else-rules_out-3.ensures (or_right (ty c.args.zone.dtype.now) c.args.predicate.now c.in-Or.a c.in-Or.b c.in-Or.is c.requires))

pub rules_out-requires-then-rules_out-4 : goal.rules_out-requires-then-rules_out-4
rules_out-requires-then-rules_out-4 t c =
    (search (rules, pr.the_lemmas), rw c.deref-then-rules_out-4.ensures (or_right (ty c.args.zone.dtype.now) c.args.predicate.now c.in-Or.a c.in-Or.b c.in-Or.is c.requires))
