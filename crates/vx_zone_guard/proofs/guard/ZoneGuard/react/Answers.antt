use Rattle.std.proofs.Common.{ap, sym, ◌∙◌}
use Rattle.vx_turn_laws.specs.Guard.{Guard}
use Rattle.vx_zone_guard.proofs.guard.ZoneGuard.react.Goals as goal

pub zone_of-requires-clause-typed : goal.zone_of-requires-clause-typed
zone_of-requires-clause-typed c = c.requires ∙ sym (ap (λ (g : Guard). g.typed) c.self.view_is)
