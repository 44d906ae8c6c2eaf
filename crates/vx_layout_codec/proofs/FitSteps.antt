-- The numbers of a node that is spelled fit their fields.
use Rattle.std.proofs.Common.{◌<◌, ◌^◌, ℕ, List, [], ◌∷◌, ◌++◌}
use Rattle.std.specs.List.{AllByRecursion}
use Rattle.vx_layout_bytes.specs.Node.{Node, nodes_of}
use Rattle.vx_layout_bytes.specs.Values.{Fits, AllFit}

pub below_more : (ns : List ℕ) (n : ℕ) → AllByRecursion (λ s. s < 2 ^ 32) ns → n < 2 ^ 32 → AllByRecursion (λ s. s < 2 ^ 32) (ns ++ (n ∷ []))
below_more [] n all lt = (lt, tt)
below_more (m ∷ ns) n all lt = (all.0, below_more ns n all.1 lt)

pub all_fit_more : (ns : List Node) (n : Node) → AllFit (nodes_of ns) → Fits n → AllFit (nodes_of (ns ++ (n ∷ [])))
all_fit_more [] n all fit = (fit, tt)
all_fit_more (m ∷ ns) n all fit = (all.0, all_fit_more ns n all.1 fit)
