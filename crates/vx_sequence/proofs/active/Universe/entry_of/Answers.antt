use Rattle.std.proofs.Common.{◌∙◌, ap}
use Rattle.vx_sequence.specs.Blocks.{list_of, index_of}
use Rattle.vx_sequence.proofs.Edits.{is_found}
use Rattle.vx_sequence.proofs.Part.{mark_of}
use Rattle.vx_sequence.proofs.active.Universe.entry_of.Goals as goal

pub place_of-place-requires-clause-is_there : goal.place_of-place-requires-clause-is_there
place_of-place-requires-clause-is_there c = is_found (list_of c.self.inside.entries) c.args.self.now c.args.path.now c.self.view_is c.requires

pub returns-clause-ok : goal.returns-clause-ok
returns-clause-ok c = (
  c.in_ok-copy.ensures,
  ap (λ e. e.is_open) c.entry.ensures
      ∙ mark_of (list_of c.self.inside.entries) c.args.self.now c.args.path.now (index_of c.self.inside.entries c.place_of-place.result)
      c.self.invariant.0 c.self.view_is c.place_of-place.ensures.at c.entry.result.now,
)
