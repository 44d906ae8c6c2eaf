use Rattle.std.proofs.Common.{◌∷◌, ◌++◌, [], map, ap, ◌∙◌}
use Rattle.std.proofs.lemmas.List.{map_push}
use Rattle.vx_column_batches.specs.Beside.{chunks_beside}
use Rattle.vx_column_batches.proofs.Deals.{beside_more}
use Rattle.vx_column_batches.proofs.split.empty_columns.Goals as goal

pub loop-c-preserved : goal.loop-c-preserved
loop-c-preserved c =
    ap (map (λ v. v.items)) c.in_ok-push.ensures.items ∙ map_push (λ v. v.items) c.loop-c.columns.items c.in_ok-with_capacity.field-0
    ∙ ap (λ ys. ys ++ (c.in_ok-with_capacity.field-0.items ∷ [])) c.loop-c.invariant
    ∙ ap (λ z. chunks_beside c.loop-c._c [] ++ (z ∷ [])) c.in_ok-with_capacity.ensures.items ∙ beside_more c.loop-c._c
