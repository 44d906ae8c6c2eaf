use Rattle.std.proofs.Common.{◌∙◌, ◌<◌, ◌≤◌, ◌+◌, ◌≡◌, List, length, sym, ap, subst, arith}
use Rattle.std.proofs.lemmas.List.Elements.{All-set}
use Rattle.vx_sequence.specs.declared.entries.Entry.{Entry}
use Rattle.vx_sequence.specs.Blocks.{all_of, index_of}
use Rattle.std.specs.List.{insert}
use Rattle.std.proofs.lemmas.List.Edits.{length-insert}
use Rattle.vx_sequence.proofs.InBlocks.{HasEntry, at_error, at_block, same_in, insert_in, long}
use Rattle.vx_sequence.proofs.blocks.Blocks.insert.Goals as goal

pub returns-in_err-insert-clause-filled : goal.returns-in_err-insert-clause-filled
returns-in_err-insert-clause-filled c =
    record {
      filled = All-set HasEntry c.args.self.now.blocks.items c.args.place.block c.insert.new.self
          (subst (λ (l : List Entry). 0 < length l) (sym c.in_err-insert.ensures.items)
          (subst HasEntry (sym c.index_mut.ensures.value) (c.requires.filled.filled c.args.place.block c.index_mut.result.now c.requires.block)))
          c.requires.filled.filled;
      counted = c.requires.filled.counted
          ∙ sym (ap length (same_in c.args.self.now.blocks.items c.args.place.block c.requires.block c.index_mut.result.now c.index_mut.ensures.value c.insert.new.self c.in_err-insert.ensures.items));
    }

pub returns-in_err-insert-clause-err : goal.returns-in_err-insert-clause-err
returns-in_err-insert-clause-err c = at_error c.from_residual.result _
    (same_in c.args.self.now.blocks.items c.args.place.block c.requires.block c.index_mut.result.now c.index_mut.ensures.value c.insert.new.self c.in_err-insert.ensures.items)

pub returns-clause-ok : goal.returns-clause-ok
returns-clause-ok c =
    insert_in c.args.self.now.blocks.items c.args.place.block c.requires.block c.index_mut.result.now c.index_mut.ensures.value
    c.args.place.at c.args.entry c.insert.new.self
    (at_block c.args.self.now.blocks.items c.args.place.block c.requires.block c.index_mut.result.now c.index_mut.ensures.value (λ d. c.args.place.at ≤ length d.items) c.requires.at)
    c.in_ok-insert.ensures.items

pub returns-clause-filled : goal.returns-clause-filled
returns-clause-filled c =
    let at : c.args.place.at ≤ length c.index_mut.result.now.items =
    at_block c.args.self.now.blocks.items c.args.place.block c.requires.block c.index_mut.result.now c.index_mut.ensures.value (λ d. c.args.place.at ≤ length d.items) c.requires.at in
    let more : length (insert c.index_mut.result.now.items c.args.place.at c.args.entry) ≡ length c.index_mut.result.now.items + 1 =
    length-insert c.index_mut.result.now.items c.args.place.at c.args.entry at in
    let all = long c.args.self.now.blocks.items c.args.place.block c.requires.block c.index_mut.result.now c.index_mut.ensures.value in
    let now : length (insert (all_of c.args.self.now.blocks.items) (index_of c.args.self.now c.args.place) c.args.entry) ≡ length (all_of c.args.self.now.blocks.items) + 1 =
    length-insert (all_of c.args.self.now.blocks.items) (index_of c.args.self.now c.args.place) c.args.entry (omega (arith, all, at)) in
    record {
      filled = All-set HasEntry c.args.self.now.blocks.items c.args.place.block c.insert.new.self
          (subst (λ (l : List Entry). 0 < length l) (sym c.in_ok-insert.ensures.items) (omega (arith, more))) c.requires.filled.filled;
      counted = omega (arith, c.in-Some.ensures, c.requires.filled.counted, now, ap length (returns-clause-ok c));
    }
