-- Each override's writer is less deep than all of them.
use Rattle.std.specs.Prelude.{◌≡◌, ◌≤◌, max, true, List, [], ◌∷◌}
use Rattle.std.proofs.Common.{arith}
use denote.Param.Weighed.{most}
use Rattle.vx_strategy.specs.declared.overrides.PathWriter.{PathWriter}
use Rattle.vx_strategy.specs.declared.child.ChildStrategy.TheDeep.{deep-PathWriter}
use Rattle.vx_strategy.specs.PathWays.{path_ways}
use Rattle.vx_strategy.specs.AdmittedStrategy.{are_overrides, as_overrides, item_overrides}
use Rattle.vx_strategy.specs.WayDepth.{depths}

depths_fall : (ws : List PathWriter) → max (most deep-PathWriter ws) 0 ≤ depths (path_ways ws)
depths_fall [] = omega arith
depths_fall (w ∷ ws) = omega (arith, depths_fall ws)

pub overrides_fall : (ws : List PathWriter) → are_overrides (path_ways ws) ≡ true → max (most deep-PathWriter ws) 0 ≤ depths (as_overrides (path_ways ws)).item
overrides_fall ws h = rw (item_overrides (path_ways ws) h) (depths_fall ws)
