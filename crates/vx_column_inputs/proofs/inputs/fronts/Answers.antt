use Rattle.std.proofs.Common.{◌∷◌, ◌++◌, [], map, ap, ◌∙◌, sym, arith}
use Rattle.std.proofs.lemmas.List.FromFn.{map-range_with_len_more}
use Rattle.std.specs.List.{range_with_len}
use Rattle.vx_column_inputs.proofs.inputs.fronts.Goals as goal

pub loop-k-preserved : goal.loop-k-preserved
loop-k-preserved c =
    c.in_ok-push.ensures.items ∙ ap (λ z. z ++ (c.in_ok-from_slice.field-0 ∷ [])) c.loop-k.invariant
    ∙ ap (λ z. map (λ k. 0 ∷ 0 ∷ k ∷ []) (range_with_len 0 c.loop-k.k) ++ (z ∷ [])) c.in_ok-from_slice.ensures
    ∙ sym (map-range_with_len_more (λ k. 0 ∷ 0 ∷ k ∷ []) 0 c.loop-k.k c.loop-k.k (omega arith))
