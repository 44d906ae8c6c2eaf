use Rattle.std.proofs.Common.{◌∙◌, sym, ap, subst}
use Rattle.vx_sequence.specs.Entries.{active_of, IsKept}
use Rattle.vx_sequence.specs.Blocks.{list_of, index_of}
use Rattle.vx_sequence.proofs.Changes.{next_is_new, still_there, keeps_advanced, shows_advanced}
use Rattle.vx_sequence.proofs.active.Universe.advance.Goals as goal

pub put-requires-clause-is_new : goal.put-requires-clause-is_new
put-requires-clause-is_new c = next_is_new (list_of c.self.inside.entries) c.self.invariant.0 c.args.self.now c.self.view_is c.args.path.now
    c.requires.stem c.requires.open c.in_ok-copy.copy (c.in_ok-copy.ensures.cases ∙ c.in_ok-next.ensures.next)

pub place_of-place-requires-clause-is_there : goal.place_of-place-requires-clause-is_there
place_of-place-requires-clause-is_there c = still_there (list_of c.self.inside.entries) c.self.invariant.0 c.args.self.now c.self.view_is c.args.path.now
    c.requires.stem c.requires.open c.in_ok-copy.copy (c.in_ok-copy.ensures.cases ∙ c.in_ok-next.ensures.next)
    (list_of c.put.new.self) c.put.ensures.ascends c.in_ok-put.ensures.ok

pub invariant_of-self-2 : goal.invariant_of-self-2
invariant_of-self-2 c = (
  subst IsKept (sym c.close.ensures.list.2)
      (keeps_advanced (list_of c.self.inside.entries) c.self.invariant.0 c.args.self.now c.self.view_is c.args.path.now
      c.requires.stem c.requires.open c.in_ok-copy.copy (c.in_ok-copy.ensures.cases ∙ c.in_ok-next.ensures.next)
      (list_of c.put.new.self) c.put.ensures.ascends c.in_ok-put.ensures.ok (index_of c.put.new.self c.place_of-place.result) c.place_of-place.ensures.at
      c.close.ensures.list.0 c.close.ensures.list.1),
  c.close.ensures.filled,
)

pub returns-clause-ok : goal.returns-clause-ok
returns-clause-ok c = ap active_of c.close.ensures.list.2
    ∙ shows_advanced (list_of c.self.inside.entries) c.self.invariant.0 c.args.self.now c.self.view_is c.args.path.now
    c.requires.stem c.requires.open c.in_ok-copy.copy (c.in_ok-copy.ensures.cases ∙ c.in_ok-next.ensures.next)
    (list_of c.put.new.self) c.put.ensures.ascends c.in_ok-put.ensures.ok (index_of c.put.new.self c.place_of-place.result) c.place_of-place.ensures.at
    c.close.ensures.list.0 c.close.ensures.list.1
