use Rattle.std.proofs.Common.{◌∙◌, ◌<◌, ◌+◌, ◌≡◌, [], length, sym, ap, subst, arith}
use Rattle.std.proofs.lemmas.List.Elements.{All-set}
use Rattle.vx_sequence.specs.Blocks.{all_of, index_of}
use Rattle.std.specs.List.{All, remove}
use Rattle.std.proofs.lemmas.List.{nil_from_length}
use Rattle.std.proofs.lemmas.List.Edits.{length-remove}
use Rattle.vx_sequence.proofs.InBlocks.{HasEntry, at_block, remove_in, place_within, taken_out, others_filled}
use Rattle.vx_sequence.proofs.blocks.Blocks.remove.Goals as goal

pub overflow_sub-self : goal.overflow_sub-self
overflow_sub-self c =
    let at : c.args.place.at < length c.index_mut-block.result.now.items =
    at_block c.args.self.now.blocks.items c.args.place.block c.requires.place.block c.index_mut-block.result.now c.index_mut-block.ensures.value (λ d. c.args.place.at < length d.items) c.requires.place.at in
    let within : index_of c.args.self.now c.args.place < length (all_of c.args.self.now.blocks.items) =
    place_within c.args.self.now.blocks.items c.args.place.block c.requires.place.block c.index_mut-block.result.now c.index_mut-block.ensures.value c.args.place.at at in
    omega (arith, within, c.requires.filled.counted)

pub returns-clause-list : goal.returns-clause-list
returns-clause-list c =
    remove_in c.args.self.now.blocks.items c.args.place.block c.requires.place.block c.index_mut-block.result.now c.index_mut-block.ensures.value
    c.args.place.at c.remove-entry.new.self
    (at_block c.args.self.now.blocks.items c.args.place.block c.requires.place.block c.index_mut-block.result.now c.index_mut-block.ensures.value (λ d. c.args.place.at < length d.items) c.requires.place.at)
    c.remove-entry.ensures.items

pub returns-clause-filled : goal.returns-clause-filled
returns-clause-filled c =
    let at : c.args.place.at < length c.index_mut-block.result.now.items =
    at_block c.args.self.now.blocks.items c.args.place.block c.requires.place.block c.index_mut-block.result.now c.index_mut-block.ensures.value (λ d. c.args.place.at < length d.items) c.requires.place.at in
    let within : index_of c.args.self.now c.args.place < length (all_of c.args.self.now.blocks.items) =
    place_within c.args.self.now.blocks.items c.args.place.block c.requires.place.block c.index_mut-block.result.now c.index_mut-block.ensures.value c.args.place.at at in
    let less : length (remove (all_of c.args.self.now.blocks.items) (index_of c.args.self.now c.args.place)) + 1 ≡ length (all_of c.args.self.now.blocks.items) =
    length-remove (all_of c.args.self.now.blocks.items) (index_of c.args.self.now c.args.place) within in
    record {
      filled = All-set HasEntry c.args.self.now.blocks.items c.args.place.block c.remove-entry.new.self
          (omega (arith, c.len-left.ensures, c.if-left-eq0.false, c.remove-entry.new.self.ok.0)) c.requires.filled.filled;
      counted = omega (arith, c.requires.filled.counted, less, ap length (returns-clause-list c));
    }

pub returns-then-left-eq0-clause-list : goal.returns-then-left-eq0-clause-list
returns-then-left-eq0-clause-list c =
    let none : c.remove-entry.new.self.items ≡ [] =
    nil_from_length c.remove-entry.new.self.items (omega (arith, c.len-left.ensures, c.if-left-eq0.true, c.remove-entry.new.self.ok.0)) in
    ap all_of c.remove-block.ensures.items
    ∙ taken_out c.args.self.now.blocks.items c.args.place.block c.requires.place.block c.index_mut-block.result.now c.index_mut-block.ensures.value c.remove-entry.new.self none
    ∙ remove_in c.args.self.now.blocks.items c.args.place.block c.requires.place.block c.index_mut-block.result.now c.index_mut-block.ensures.value
    c.args.place.at c.remove-entry.new.self
    (at_block c.args.self.now.blocks.items c.args.place.block c.requires.place.block c.index_mut-block.result.now c.index_mut-block.ensures.value (λ d. c.args.place.at < length d.items) c.requires.place.at)
    c.remove-entry.ensures.items

pub returns-then-left-eq0-clause-filled : goal.returns-then-left-eq0-clause-filled
returns-then-left-eq0-clause-filled c =
    let at : c.args.place.at < length c.index_mut-block.result.now.items =
    at_block c.args.self.now.blocks.items c.args.place.block c.requires.place.block c.index_mut-block.result.now c.index_mut-block.ensures.value (λ d. c.args.place.at < length d.items) c.requires.place.at in
    let within : index_of c.args.self.now c.args.place < length (all_of c.args.self.now.blocks.items) =
    place_within c.args.self.now.blocks.items c.args.place.block c.requires.place.block c.index_mut-block.result.now c.index_mut-block.ensures.value c.args.place.at at in
    let less : length (remove (all_of c.args.self.now.blocks.items) (index_of c.args.self.now c.args.place)) + 1 ≡ length (all_of c.args.self.now.blocks.items) =
    length-remove (all_of c.args.self.now.blocks.items) (index_of c.args.self.now c.args.place) within in
    record {
      filled = subst (All HasEntry) (sym c.remove-block.ensures.items)
          (others_filled c.args.self.now.blocks.items c.args.place.block c.requires.place.block c.index_mut-block.result.now c.index_mut-block.ensures.value
          c.remove-entry.new.self c.requires.filled.filled);
      counted = omega (arith, c.requires.filled.counted, less, ap length (returns-then-left-eq0-clause-list c));
    }
