use Rattle.std.proofs.Common.{◌≡◌, ◌+◌, ◌-◌, ◌/◌, ◌<◌, ◌∙◌, ℕ, length, take, subst, sym, ap, arith}
use Rattle.std.specs.declared.cmp.Ordering.TheVariants.{Less, Equal, Greater}
use Rattle.vx_sequence.specs.Universe.{path_cmp}
use Rattle.vx_sequence.specs.Entries.{AreBelow}
use Rattle.vx_sequence.specs.Blocks.{all_of, IsBlockOf}
use Rattle.vx_sequence.proofs.Ascending.{turned}
use Rattle.vx_sequence.proofs.InBlocks.{HasEntry, before_less, below_first, this_block, below_later}
use Rattle.vx_sequence.proofs.blocks.Blocks.block_of.Goals as goal

-- the block in the middle has a first entry, which stands to the path as the comparison says
pub loop-low-preserved-in-Less : goal.loop-low-preserved-in-Less
loop-low-preserved-in-Less c =
    let middle : ℕ = c.loop-low.low + (c.loop-low.high - c.loop-low.low) / 2 in
    let lt : middle < length c.args.self.now.blocks.items = omega (arith, c.loop-low-test.true, c.loop-low.invariant.within) in
    let stands : path_cmp c.index-in-loop-low.result.now.path c.args.path.now ≡ Less =
    ap (λ p. path_cmp p c.args.path.now) (sym c.as_slice.ensures) ∙ sym c.cmp.ensures ∙ c.in-Less.is in
    let same : middle ≡ middle + 1 - 1 = omega arith in
    record {
      ordered = omega (arith, c.loop-low-test.true);
      within = c.loop-low.invariant.within;
      before = subst (λ n. AreBelow (all_of (take n c.args.self.now.blocks.items)) c.args.path.now) same (before_less c.args.self.now.blocks.items middle lt c.index.result.now c.index.ensures
          (subst HasEntry (sym c.index.ensures) (c.requires.filled.filled middle c.index.result.now lt))
          c.requires.ascends c.index-in-loop-low.result.now c.index-in-loop-low.ensures c.args.path.now stands);
      behind = c.loop-low.invariant.behind;
    }

pub loop-low-preserved : goal.loop-low-preserved
loop-low-preserved c =
    let middle : ℕ = c.loop-low.low + (c.loop-low.high - c.loop-low.low) / 2 in
    let lt : middle < length c.args.self.now.blocks.items = omega (arith, c.loop-low-test.true, c.loop-low.invariant.within) in
    let stands : path_cmp c.index-in-loop-low.result.now.path c.args.path.now ≡ Greater =
    ap (λ p. path_cmp p c.args.path.now) (sym c.as_slice.ensures) ∙ sym c.cmp.ensures ∙ c.in-Greater.is in
    record {
      ordered = omega arith;
      within = omega (arith, c.loop-low-test.true, c.loop-low.invariant.within);
      before = c.loop-low.invariant.before;
      behind = below_first c.args.self.now.blocks.items middle lt c.index.result.now c.index.ensures
          (subst HasEntry (sym c.index.ensures) (c.requires.filled.filled middle c.index.result.now lt))
          c.requires.ascends c.index-in-loop-low.result.now c.index-in-loop-low.ensures c.args.path.now (turned c.index-in-loop-low.result.now.path c.args.path.now stands);
    }

pub returns-in-Equal : goal.returns-in-Equal
returns-in-Equal c =
    let middle : ℕ = c.loop-low.low + (c.loop-low.high - c.loop-low.low) / 2 in
    let lt : middle < length c.args.self.now.blocks.items = omega (arith, c.loop-low-test.true, c.loop-low.invariant.within) in
    let stands : path_cmp c.index-in-loop-low.result.now.path c.args.path.now ≡ Equal =
    ap (λ p. path_cmp p c.args.path.now) (sym c.as_slice.ensures) ∙ sym c.cmp.ensures ∙ c.in-Equal.is in
    this_block c.args.self.now.blocks.items middle lt c.index.result.now c.index.ensures
    (subst HasEntry (sym c.index.ensures) (c.requires.filled.filled middle c.index.result.now lt))
    c.requires.ascends c.index-in-loop-low.result.now c.index-in-loop-low.ensures c.args.path.now stands

pub returns : goal.returns
returns c = subst (IsBlockOf c.args.self.now.blocks.items c.args.path.now) (sym c.saturating_sub.ensures) (record {
  within = omega (arith, c.loop-low.invariant.ordered, c.loop-low.invariant.within, c.requires.some);
  before = c.loop-low.invariant.before;
  behind = below_later c.args.path.now c.args.self.now.blocks.items c.loop-low.high (c.loop-low.low - 1 + 1)
      (omega (arith, c.loop-low-test.false, c.loop-low.invariant.ordered)) c.loop-low.invariant.behind;
})
