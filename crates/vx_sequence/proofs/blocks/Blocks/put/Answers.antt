use Rattle.std.proofs.Common.{◌+◌, ◌∙◌, ℕ, length, take, subst, sym, ap}
use Rattle.vx_sequence.specs.Entries.{active_of, Ascends, IsAt, IsGap}
use Rattle.vx_sequence.specs.Blocks.{all_of, list_of, IsBlockOf}
use Rattle.vx_sequence.proofs.Edits.{is_at, active-insert, ascends-insert}
use Rattle.vx_sequence.proofs.InBlocks.{block_ascends, block_at, block_gap}
use Rattle.vx_sequence.proofs.blocks.Blocks.put.Goals as goal

pub place-requires : goal.place-requires
place-requires c = block_ascends c.args.self.now.blocks.items c.block_of-block.result c.block_of-block.ensures.within c.index.result.now c.index.ensures c.requires.ascends

pub unreachable-requires : goal.unreachable-requires
unreachable-requires c =
    is_at (list_of c.args.self.now) c.args.entry.path (length (all_of (take c.block_of-block.result c.args.self.now.blocks.items)) + c.in-Ok.field-0) c.requires.ascends
    (block_at c.args.self.now.blocks.items c.block_of-block.result c.block_of-block.ensures.within c.index.result.now c.index.ensures
    c.args.entry.path c.in-Ok.field-0 (subst (λ p. IsAt c.index.result.now.items p c.in-Ok.field-0) c.as_slice-2.ensures c.in-Ok.ensures.place))
    c.requires.is_new

pub returns-clause-ascends : goal.returns-clause-ascends
returns-clause-ascends c =
    let at : ℕ = length (all_of (take c.block_of-block.result c.args.self.now.blocks.items)) + c.in-Err.at in
    let gap : IsGap (list_of c.args.self.now) c.args.entry.path at =
    block_gap c.args.self.now.blocks.items c.block_of-block.result c.block_of-block.ensures.within c.index.result.now c.index.ensures c.args.entry.path c.in-Err.at
    (subst (λ p. IsBlockOf c.args.self.now.blocks.items p c.block_of-block.result) c.as_slice.ensures c.block_of-block.ensures)
    (subst (λ p. IsGap c.index.result.now.items p c.in-Err.at) c.as_slice-2.ensures c.in-Err.ensures.place) in
    subst Ascends (sym (c.cut_full.ensures.same ∙ c.in_ok-insert-in-Err.ensures.ok)) (ascends-insert (list_of c.args.self.now) at c.args.entry c.requires.ascends gap)

pub returns-clause-ok : goal.returns-clause-ok
returns-clause-ok c =
    let at : ℕ = length (all_of (take c.block_of-block.result c.args.self.now.blocks.items)) + c.in-Err.at in
    let gap : IsGap (list_of c.args.self.now) c.args.entry.path at =
    block_gap c.args.self.now.blocks.items c.block_of-block.result c.block_of-block.ensures.within c.index.result.now c.index.ensures c.args.entry.path c.in-Err.at
    (subst (λ p. IsBlockOf c.args.self.now.blocks.items p c.block_of-block.result) c.as_slice.ensures c.block_of-block.ensures)
    (subst (λ p. IsGap c.index.result.now.items p c.in-Err.at) c.as_slice-2.ensures c.in-Err.ensures.place) in
    ap active_of (c.cut_full.ensures.same ∙ c.in_ok-insert-in-Err.ensures.ok) ∙ active-insert (list_of c.args.self.now) at c.args.entry c.requires.ascends gap
