use Rattle.std.proofs.Common.{◌∷◌, ◌++◌, [], map, sym, ap, ◌∙◌}
use Rattle.std.proofs.lemmas.List.{map_push}
use Rattle.vx_column_batches.specs.Beside.{columns_of, width_of, chunks_beside, dealt}
use Rattle.vx_column_batches.proofs.Deals.{beside_push}
use Rattle.vx_column_batches.proofs.split.split_each.Goals as goal

pub batches-preserved : goal.batches-preserved
batches-preserved c =
    let t = c.args.split.now in
    let parts = c.in_ok-parts.parts.items in
    let rows = map (columns_of t) c.batches.yielded in
    c.in_ok-deal.ensures ∙ ap (λ cs. dealt cs parts) c.batches.invariant ∙ sym (beside_push (width_of t) rows parts c.in_ok-parts.ensures.count)
    ∙ ap (λ r. chunks_beside (width_of t) (rows ++ (r ∷ []))) c.in_ok-parts.ensures.columns
    ∙ ap (chunks_beside (width_of t)) (sym (map_push (columns_of t) c.batches.yielded c.in-Some.batch))
