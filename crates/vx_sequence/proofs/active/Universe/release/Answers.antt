use Rattle.std.proofs.Common.{◌∙◌, sym, ap, subst}
use Rattle.vx_sequence.specs.Entries.{active_of, IsKept}
use Rattle.vx_sequence.specs.Blocks.{list_of, index_of}
use Rattle.vx_sequence.proofs.Edits.{is_found}
use Rattle.vx_sequence.proofs.Changes.{keeps_released, shows_released}
use Rattle.vx_sequence.proofs.active.Universe.release.Goals as goal

pub place_of-place-requires-clause-is_there : goal.place_of-place-requires-clause-is_there
place_of-place-requires-clause-is_there c = is_found (list_of c.self.inside.entries) c.args.self.now c.args.path.now c.self.view_is c.requires

pub invariant_of-self : goal.invariant_of-self
invariant_of-self c = (
  subst IsKept (sym c.remove.ensures.list)
      (keeps_released (list_of c.self.inside.entries) c.self.invariant.0 c.args.self.now c.self.view_is c.args.path.now
      c.requires (index_of c.self.inside.entries c.place_of-place.result) c.place_of-place.ensures.at),
  c.remove.ensures.filled,
)

pub returns-clause-active : goal.returns-clause-active
returns-clause-active c = ap active_of c.remove.ensures.list
    ∙ shows_released (list_of c.self.inside.entries) c.self.invariant.0 c.args.self.now c.self.view_is c.args.path.now
    c.requires (index_of c.self.inside.entries c.place_of-place.result) c.place_of-place.ensures.at
