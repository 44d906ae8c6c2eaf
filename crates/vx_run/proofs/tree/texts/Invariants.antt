use Rattle.std.proofs.Common.{◌≡◌, List, ℕ, map, take, Bor}
use Rattle.vx_run.proofs.tree.texts.Given as goal

abbrev pub invariant-loop-name : goal.invariant-loop-name
invariant-loop-name l = l.texts.items ≡ map (λ (n : Bor (List ℕ)). n.now) (take l.name-index l.names)
