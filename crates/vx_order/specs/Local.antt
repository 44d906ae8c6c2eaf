-- The parts of a local order.
use Rattle.vx_sequence.specs.Universe.{Active}
use Rattle.vx_order.specs.declared.local.LocalOrder.{LocalOrder}

abbrev pub sink_of : {S : Type 0} → LocalOrder S → S
sink_of o = o.sink

abbrev pub universe_of : {S : Type 0} → LocalOrder S → Active
universe_of o = o.universe
