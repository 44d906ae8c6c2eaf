use Rattle.std.proofs.Common.{◌∙◌, ap, sym, subst, true}
use Rattle.std.specs.FinMap as fin
use Rattle.vx_sequence.specs.Universe.{IsUniverse, place_of}
use Rattle.vx_sequence.specs.Entries.{active_of}
use Rattle.vx_sequence.proofs.Places.{eof_path-place_of}
use Rattle.vx_sequence.proofs.Rules.{only_rules}
use Rattle.vx_sequence.proofs.active.Universe.only.Goals as goal

pub returns-clause-ok : goal.returns-clause-ok
returns-clause-ok c = c.in_ok-put.ensures.ok
    ∙ ap (λ es. fin.insert (active_of es) c.in_ok-clone.field-0 true) c.new-entries.ensures.none
    ∙ ap (λ p. fin.insert fin.empty p true) (c.in_ok-clone.ensures.cases ∙ sym (eof_path-place_of c.args.path.now c.requires))

pub invariant_of-result : goal.invariant_of-result
invariant_of-result c = (
  record { ascends = c.put.ensures.ascends; rules = subst IsUniverse (sym (returns-clause-ok c)) (only_rules (place_of c.args.path.now)) },
  c.put.ensures.filled,
)
