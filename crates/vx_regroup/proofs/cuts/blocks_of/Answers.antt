use Rattle.std.proofs.Common.{◌∷◌, ◌-◌, [], length, take, sum, ap, ◌∙◌}
use Rattle.std.specs.Prelude.{reverse}
use Rattle.std.proofs.lemmas.List.{reverse-append}
use Rattle.vx_layout_spec.proofs.CellsFit.{all_take}
use Rattle.vx_model.specs.Words.{all_by}
use Rattle.vx_model.specs.CellData.{fits}
use Rattle.vx_model.specs.ChunkData.{ChunkData, plain_piece}
use Rattle.vx_model.specs.TyView.{ty}
use Rattle.vx_column.specs.ColumnView.{column_cells}
use Rattle.vx_regroup.proofs.CutSteps.{size_fits, left_is, taken_is, blocks_is}
use Rattle.vx_regroup.proofs.cuts.blocks_of.Goals as goal

pub last_off-requires-clause-fit : goal.last_off-requires-clause-fit
last_off-requires-clause-fit c =
    ap (all_by (fits (ty c.args.dtype.now))) c.loop-k.invariant.front
    ∙ all_take (fits (ty c.args.dtype.now)) (sum (take (length c.args.sizes.now - c.loop-k.k) c.args.sizes.now)) (column_cells c.args.rows) c.requires.fit

pub last_off-requires-clause-within : goal.last_off-requires-clause-within
last_off-requires-clause-within c =
    size_fits (column_cells c.args.rows) c.args.sizes.now c.loop-k.k c.loop-k-test.true c.requires.summed (column_cells c.loop-k.front) c.loop-k.invariant.front

pub loop-k-preserved : goal.loop-k-preserved
loop-k-preserved c =
    record {
      front = c.in_ok-before.ensures.before ∙ left_is (column_cells c.args.rows) c.args.sizes.now c.loop-k.k c.loop-k-test.true c.requires.summed (column_cells c.loop-k.front) c.loop-k.invariant.front;
      blocks = ap reverse c.in_ok-push.ensures.items ∙ reverse-append c.loop-k.blocks.items (c.in_ok-before.block ∷ [])
          ∙ ap (λ (p : ChunkData). p ∷ reverse c.loop-k.blocks.items)
          (c.in_ok-before.ensures.block ∙ ap (plain_piece (ty c.args.dtype.now)) (taken_is (column_cells c.args.rows) c.args.sizes.now c.loop-k.k c.loop-k-test.true c.requires.summed (column_cells c.loop-k.front) c.loop-k.invariant.front))
          ∙ blocks_is (column_cells c.args.rows) c.args.sizes.now c.loop-k.k c.loop-k-test.true c.requires.summed (ty c.args.dtype.now) (reverse c.loop-k.blocks.items) c.loop-k.invariant.blocks;
    }
