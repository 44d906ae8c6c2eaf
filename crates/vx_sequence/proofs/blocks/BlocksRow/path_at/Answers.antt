use Rattle.std.proofs.Common.{◌≡◌, ◌<◌, ◌∙◌, List, length, get_or, subst, sym, ap, arith}
use Rattle.std.proofs.lemmas.List.{get_or_default}
use Rattle.std.specs.Global.{Vec}
use Rattle.vx_sequence.specs.declared.entries.Entry.{Entry}
use Rattle.vx_sequence.specs.Entries.{IsAt}
use Rattle.vx_sequence.specs.Blocks.{list_of}
use Rattle.vx_sequence.proofs.InBlocks.{block_at}
use Rattle.vx_sequence.proofs.blocks.BlocksRow.path_at.Goals as goal

pub returns-then-left-len : goal.returns-then-left-len
returns-then-left-len c =
    let lt : c.loop-block.block-index < length c.args.self.now.blocks.items =
    subst (λ (l : List (Vec Entry)). c.loop-block.block-index < length l) c.deref-block-items.ensures.value c.loop-block-test.true in
    let is : c.block-item.result ≡ get_or c.args.self.now.blocks.items c.loop-block.block-index c.block-item.result =
    subst (λ (l : List (Vec Entry)). c.block-item.result ≡ get_or l c.loop-block.block-index c.block-item.result) c.deref-block-items.ensures.value c.block-item.is in
    let within : c.loop-block.left < length c.block-item.result.items = omega (arith, c.if-left-len.true, c.len.ensures, c.block-item.result.ok.0) in
    subst (λ i. IsAt (list_of c.args.self.now) c.as_slice.result.now i) c.loop-block.invariant
    (block_at c.args.self.now.blocks.items c.loop-block.block-index lt c.block-item.result is c.as_slice.result.now c.loop-block.left (record {
      within = within;
      found = λ d. ap (λ (e : Entry). e.path) (get_or_default c.block-item.result.items c.loop-block.left d c.index.result.now within ∙ sym c.index.ensures) ∙ sym c.as_slice.ensures;
    }))
