use Rattle.std.proofs.Common.{◌∙◌, ◌<◌, ◌≡◌, length, set, sym, ap, refl, arith, false}
use Rattle.std.proofs.lemmas.List.{length-set}
use Rattle.std.proofs.lemmas.List.Elements.{All-set}
use Rattle.std.specs.Vec.{with_item}
use Rattle.vx_sequence.specs.Blocks.{all_of, index_of}
use Rattle.vx_sequence.proofs.InBlocks.{HasEntry, at_block, entry_there, set_in}
use Rattle.vx_sequence.proofs.blocks.Blocks.close.Goals as goal

pub returns-clause-filled : goal.returns-clause-filled
returns-clause-filled c =
    let within : c.args.place.at < length c.index_mut.result.now.items =
    at_block c.args.self.now.blocks.items c.args.place.block c.requires.place.block c.index_mut.result.now c.index_mut.ensures.value (λ d. c.args.place.at < length d.items) c.requires.place.at in
    let same : length (set c.index_mut.result.now.items c.args.place.at (record { path = c.index_mut-2.result.now.path; is_open = false })) ≡ length c.index_mut.result.now.items = length-set c.index_mut.result.now.items c.args.place.at (record { path = c.index_mut-2.result.now.path; is_open = false }) in
    record {
      filled = All-set HasEntry c.args.self.now.blocks.items c.args.place.block (with_item c.index_mut.result.now c.args.place.at (record { path = c.index_mut-2.result.now.path; is_open = false })) (omega (arith, within, same)) c.requires.filled.filled;
      counted = c.requires.filled.counted
          ∙ sym (ap length (set_in c.args.self.now.blocks.items c.args.place.block c.requires.place.block c.index_mut.result.now c.index_mut.ensures.value
          c.args.place.at (record { path = c.index_mut-2.result.now.path; is_open = false }) (with_item c.index_mut.result.now c.args.place.at (record { path = c.index_mut-2.result.now.path; is_open = false })) within refl)
          ∙ length-set (all_of c.args.self.now.blocks.items) (index_of c.args.self.now c.args.place) (record { path = c.index_mut-2.result.now.path; is_open = false }));
    }

pub returns-clause-list : goal.returns-clause-list
returns-clause-list c =
    let within : c.args.place.at < length c.index_mut.result.now.items =
    at_block c.args.self.now.blocks.items c.args.place.block c.requires.place.block c.index_mut.result.now c.index_mut.ensures.value (λ d. c.args.place.at < length d.items) c.requires.place.at in (
      c.index_mut-2.result.now,
      c.index_mut-2.ensures.value
          ∙ sym (entry_there c.args.self.now.blocks.items c.args.place.block c.requires.place.block c.index_mut.result.now c.index_mut.ensures.value
          c.args.place.at c.index_mut-2.result.now within),
      set_in c.args.self.now.blocks.items c.args.place.block c.requires.place.block c.index_mut.result.now c.index_mut.ensures.value
          c.args.place.at (record { path = c.index_mut-2.result.now.path; is_open = false })
          (with_item c.index_mut.result.now c.args.place.at (record { path = c.index_mut-2.result.now.path; is_open = false })) within refl,
    )
