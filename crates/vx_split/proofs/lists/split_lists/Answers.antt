use Rattle.std.proofs.Common.{◌≡◌, ◌+◌, ◌<◌, ◌^◌, suc, length, refl, ap, ◌∙◌, arith}
use Rattle.vx_model.specs.ChunkData.{cells}
use Rattle.vx_layout_spec.specs.Parts.{all_elements}
use Rattle.vx_rules.proofs.ColumnStreams.{length-ends}
use Rattle.vx_split.proofs.OffsetSteps.{entries_behind, entries_fit}
use Rattle.vx_split.proofs.lists.split_lists.Goals as goal

pub put_together-requires : goal.put_together-requires
put_together-requires c =
    let cs = cells c.args.chunk in
    let count : c.len.result ≡ length (all_elements cs) = rw c.in_ok-elements.ensures.elements at c.len.ensures.rows in
    let lt : c.args.base + length (all_elements cs) < 2 ^ 64 = omega (arith, c.in-Ok.ensures.fits) in
    let rows : length c.in_ok-elements.offsets.items ≡ suc (length cs) = ap length c.in_ok-elements.ensures.offsets ∙ ap suc (length-ends 0 cs) in
    let many : suc (length cs) < 2 ^ 64 = omega (arith, c.in_ok-elements.offsets.ok.0) in
    rw (c.in-Ok-offset_cells.ensures, c.in_ok-elements.ensures.offsets, entries_behind c.args.first c.args.base cs) (entries_fit c.args.first c.args.base cs lt many)

pub returns-in_ok-columns-in-Ok-clause-columns : goal.returns-in_ok-columns-in-Ok-clause-columns
returns-in_ok-columns-in-Ok-clause-columns c =
    let cs = cells c.args.chunk in
    rw (c.in_ok-columns-in-Ok.ensures, c.in_ok-elements.ensures.elements, c.in-Ok-offset_cells.ensures, c.in_ok-elements.ensures.offsets, entries_behind c.args.first c.args.base cs, c.in_ok-elements.ensures.valid) refl
