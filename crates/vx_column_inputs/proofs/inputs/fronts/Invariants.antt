use Rattle.std.proofs.Common.{◌≡◌, ◌∷◌, [], map}
use Rattle.std.specs.List.{range_with_len}
use Rattle.vx_column_inputs.proofs.inputs.fronts.Given as goal

abbrev pub invariant-loop-k : goal.invariant-loop-k
invariant-loop-k l = l.fronts.items ≡ map (λ k. 0 ∷ 0 ∷ k ∷ []) (range_with_len 0 l.k)
