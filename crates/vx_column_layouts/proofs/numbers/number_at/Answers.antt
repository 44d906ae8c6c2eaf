use Rattle.std.proofs.Common.{◌≡◌, ◌+◌, ◌-◌, ◌/◌, ◌<◌, ◌≤◌, ℕ, true, false, length, sym, ap, ◌∙◌, arith}
use Rattle.vx_path.specs.Path.{path_le}
use Rattle.vx_column_layouts.proofs.Places.{lower, raise, none_within, number_found}
use Rattle.vx_column_layouts.proofs.numbers.number_at.Goals as goal

pub halves-preserved-then-not-path_le : goal.halves-preserved-then-not-path_le
halves-preserved-then-not-path_le c =
    let middle : ℕ = c.halves.low + (c.halves.high - c.halves.low) / 2 in
    let at : middle < length c.args.history.now = omega (arith, c.halves.invariant.top) in
    let above : path_le c.index-history-middle.result.path c.args.path.now ≡ false = cc in
    record {
      top = omega (arith, at);
      within = lower c.args.history.now c.args.path.now c.halves.low c.halves.high middle c.index-history-middle.result c.requires at c.index-history-middle.is c.halves.invariant.within above;
    }

pub returns-then-path_le : goal.returns-then-path_le
returns-then-path_le c =
    let middle : ℕ = c.halves.low + (c.halves.high - c.halves.low) / 2 in
    let at : middle < length c.args.history.now = omega (arith, c.halves.invariant.top) in
    let low : path_le c.index-history-middle.result.path c.args.path.now ≡ true = cc in
    let high : path_le c.args.path.now c.index-history-middle-else-not-path_le.result.path ≡ true = cc in
    λ first i. ap (λ z. z.number) (sym c.index-history-middle-then-path_le.is)
    ∙ number_found c.args.history.now middle c.index-history-middle.result c.index-history-middle-else-not-path_le.result c.index-history-middle-then-path_le.result c.args.path.now c.requires at
    c.index-history-middle.is c.index-history-middle-else-not-path_le.is c.index-history-middle-then-path_le.is low high first

pub halves-preserved : goal.halves-preserved
halves-preserved c =
    let middle : ℕ = c.halves.low + (c.halves.high - c.halves.low) / 2 in
    let at : middle < length c.args.history.now = omega (arith, c.halves.invariant.top) in
    let below : path_le c.args.path.now c.index-history-middle-else-not-path_le.result.path ≡ false = cc in
    record {
      top = c.halves.invariant.top;
      within = raise c.args.history.now c.args.path.now c.halves.low c.halves.high middle c.index-history-middle-else-not-path_le.result c.requires at c.index-history-middle-else-not-path_le.is c.halves.invariant.within below;
    }

pub returns : goal.returns
returns c = λ first i. absurd (none_within c.args.history.now c.args.path.now c.halves.low c.halves.high c.halves.invariant.within (omega (arith, c.halves-test.false)) i)
