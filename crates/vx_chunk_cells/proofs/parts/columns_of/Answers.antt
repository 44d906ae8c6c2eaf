use Rattle.std.proofs.Common.{refl, [], ◌∷◌, map, ap, append_assoc}
use Rattle.std.specs.Vec.Iter.{into_iter_items}
use Rattle.std.proofs.lemmas.List.{map-append}
use Rattle.vx_model.specs.TreeView.{tree}
use Rattle.vx_chunk_cells.specs.Parts.{fields_of}
use Rattle.vx_chunk_cells.proofs.PartSteps.{width_more}
use Rattle.vx_chunk_cells.proofs.parts.columns_of.Goals as goal

pub loop-cell-preserved : goal.loop-cell-preserved
loop-cell-preserved c =
    let next = c.in-Some.ensures.steps.0 in
    let done = map fields_of (map tree c.loop-cell.yielded) in
    let more = width_more c.args.count done (tree c.in-Some.cell) _ _ (ap (map tree) next) c.loop-cell.invariant.rest in
    record {
      cells = rw (append_assoc c.loop-cell.yielded (c.in-Some.cell ∷ []) (into_iter_items c.next.new.self), ← next) c.loop-cell.invariant.cells;
      rest = more.1;
      columns = rw (c.in_ok-push_each.ensures, c.loop-cell.invariant.columns, c.into_fields.ensures, more.0, map-append tree c.loop-cell.yielded (c.in-Some.cell ∷ []), map-append fields_of (map tree c.loop-cell.yielded) (tree c.in-Some.cell ∷ [])) refl;
    }
