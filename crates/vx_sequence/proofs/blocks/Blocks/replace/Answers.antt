use Rattle.std.proofs.Common.{◌∙◌, ◌<◌, ◌≡◌, length, set, sym, ap, refl, arith}
use Rattle.std.proofs.lemmas.List.{length-set}
use Rattle.std.proofs.lemmas.List.Elements.{All-set}
use Rattle.std.specs.Vec.{with_item}
use Rattle.vx_sequence.specs.Blocks.{all_of, index_of}
use Rattle.vx_sequence.proofs.InBlocks.{HasEntry, at_block, set_in}
use Rattle.vx_sequence.proofs.blocks.Blocks.replace.Goals as goal

pub returns-clause-filled : goal.returns-clause-filled
returns-clause-filled c =
    let within : c.args.place.at < length c.index_mut.result.now.items =
    at_block c.args.self.now.blocks.items c.args.place.block c.requires.place.block c.index_mut.result.now c.index_mut.ensures.value (λ d. c.args.place.at < length d.items) c.requires.place.at in
    let same : length (set c.index_mut.result.now.items c.args.place.at c.args.entry) ≡ length c.index_mut.result.now.items = length-set c.index_mut.result.now.items c.args.place.at c.args.entry in
    record {
      filled = All-set HasEntry c.args.self.now.blocks.items c.args.place.block (with_item c.index_mut.result.now c.args.place.at c.args.entry) (omega (arith, within, same)) c.requires.filled.filled;
      counted = c.requires.filled.counted
          ∙ sym (ap length (set_in c.args.self.now.blocks.items c.args.place.block c.requires.place.block c.index_mut.result.now c.index_mut.ensures.value
          c.args.place.at c.args.entry (with_item c.index_mut.result.now c.args.place.at c.args.entry) within refl)
          ∙ length-set (all_of c.args.self.now.blocks.items) (index_of c.args.self.now c.args.place) c.args.entry);
    }

pub returns-clause-list : goal.returns-clause-list
returns-clause-list c =
    let within : c.args.place.at < length c.index_mut.result.now.items =
    at_block c.args.self.now.blocks.items c.args.place.block c.requires.place.block c.index_mut.result.now c.index_mut.ensures.value (λ d. c.args.place.at < length d.items) c.requires.place.at in
    set_in c.args.self.now.blocks.items c.args.place.block c.requires.place.block c.index_mut.result.now c.index_mut.ensures.value
    c.args.place.at c.args.entry (with_item c.index_mut.result.now c.args.place.at c.args.entry) within refl
