use Rattle.std.proofs.Common.{◌∙◌, sym, ap, subst}
use Rattle.vx_sequence.specs.Entries.{active_of, IsKept}
use Rattle.vx_sequence.specs.Blocks.{list_of, index_of}
use Rattle.vx_sequence.proofs.Edits.{is_found}
use Rattle.vx_sequence.proofs.Changes.{keeps_descended, shows_descended}
use Rattle.vx_sequence.proofs.active.Universe.descend.Goals as goal

pub place_of-parent-requires-clause-is_there : goal.place_of-parent-requires-clause-is_there
place_of-parent-requires-clause-is_there c = is_found (list_of c.self.inside.entries) c.args.self.now c.args.path.now c.self.view_is c.requires

pub invariant_of-self : goal.invariant_of-self
invariant_of-self c = (
  subst IsKept (sym c.replace.ensures.list)
      (keeps_descended (list_of c.self.inside.entries) c.self.invariant.0 c.args.self.now c.self.view_is c.args.path.now
      c.requires (index_of c.self.inside.entries c.place_of-parent.result) c.place_of-parent.ensures.at
      c.in_ok-copy.copy (c.in_ok-copy.ensures.cases ∙ c.in_ok-child.ensures)),
  c.replace.ensures.filled,
)

pub returns-clause-ok : goal.returns-clause-ok
returns-clause-ok c = ap active_of c.replace.ensures.list
    ∙ shows_descended (list_of c.self.inside.entries) c.self.invariant.0 c.args.self.now c.self.view_is c.args.path.now
    c.requires (index_of c.self.inside.entries c.place_of-parent.result) c.place_of-parent.ensures.at
    c.in_ok-copy.copy (c.in_ok-copy.ensures.cases ∙ c.in_ok-child.ensures)
