use Rattle.std.proofs.Common.{◌∙◌, sym, ap, subst}
use Rattle.vx_sequence.specs.Entries.{active_of, IsKept}
use Rattle.vx_sequence.specs.Blocks.{list_of, index_of}
use Rattle.vx_sequence.proofs.Changes.{next_is_new, still_there, keeps_split, shows_split}
use Rattle.vx_sequence.proofs.active.Universe.split.Goals as goal

pub put-requires-clause-is_new : goal.put-requires-clause-is_new
put-requires-clause-is_new c = next_is_new (list_of c.self.inside.entries) c.self.invariant.0 c.args.self.now c.self.view_is c.args.path.now
    c.requires.stem c.requires.open c.in_ok-next_copy.next_copy (c.in_ok-next_copy.ensures.cases ∙ c.in_ok-next.ensures.next)

pub place_of-place-requires-clause-is_there : goal.place_of-place-requires-clause-is_there
place_of-place-requires-clause-is_there c = still_there (list_of c.self.inside.entries) c.self.invariant.0 c.args.self.now c.self.view_is c.args.path.now
    c.requires.stem c.requires.open c.in_ok-next_copy.next_copy (c.in_ok-next_copy.ensures.cases ∙ c.in_ok-next.ensures.next)
    (list_of c.put.new.self) c.put.ensures.ascends c.in_ok-put.ensures.ok

pub invariant_of-self-2 : goal.invariant_of-self-2
invariant_of-self-2 c = (
  subst IsKept (sym c.replace.ensures.list)
      (keeps_split (list_of c.self.inside.entries) c.self.invariant.0 c.args.self.now c.self.view_is c.args.path.now
      c.requires.stem c.requires.open c.in_ok-next_copy.next_copy (c.in_ok-next_copy.ensures.cases ∙ c.in_ok-next.ensures.next)
      (list_of c.put.new.self) c.put.ensures.ascends c.in_ok-put.ensures.ok (index_of c.put.new.self c.place_of-place.result) c.place_of-place.ensures.at
      c.in_ok-child_copy.child_copy (c.in_ok-child_copy.ensures.cases ∙ c.in_ok-child.ensures)),
  c.replace.ensures.filled,
)

pub returns-clause-ok : goal.returns-clause-ok
returns-clause-ok c = ap active_of c.replace.ensures.list
    ∙ shows_split (list_of c.self.inside.entries) c.self.invariant.0 c.args.self.now c.self.view_is c.args.path.now
    c.requires.stem c.requires.open c.in_ok-next_copy.next_copy (c.in_ok-next_copy.ensures.cases ∙ c.in_ok-next.ensures.next)
    (list_of c.put.new.self) c.put.ensures.ascends c.in_ok-put.ensures.ok (index_of c.put.new.self c.place_of-place.result) c.place_of-place.ensures.at
    c.in_ok-child_copy.child_copy (c.in_ok-child_copy.ensures.cases ∙ c.in_ok-child.ensures)
