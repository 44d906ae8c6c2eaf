-- A zoned node's task against the abstract one's.
use Rattle.std.specs.Prelude.{◌≡◌, ◌-◌, ℕ, Bool, false, List, [], ◌∷◌, Option, Some, None}
use Rattle.vx_path.specs.Path.{next}
use Rattle.vx_zone_spec.specs.ZoneTable.{Filled, table_type, table_specs, table_piece}
use Rattle.vx_plan.specs.PlanData.{Item}
use Rattle.vx_machine_turns.specs.Forms.{zoned_form}
use Rattle.vx_machine_turns.specs.Locals.{ZonedNode, Local, zoned_local}
use Rattle.vx_machine_turns.specs.Acts.{Seed, Act, Shape, zones_of, passes, put_all, shape_in}
use Rattle.vx_machine_turns.specs.Zoned.{zoned_kept}
use Rattle.vx_machine_turns.specs.Fuels.{Fuel, Enough}
use Rattle.vx_machine_turns.specs.Scripts.{filled}
use Rattle.vx_machine_state.specs.Zoned.{Zoner, Zones, zoner}
use Rattle.vx_machine_state.specs.State.{fold_zones, Next, put, join_kids, start_table, leave_kid, Mind, by_zone, ending, passing}
use Rattle.vx_machine_view.specs.Suited.{Suited}

abbrev pub zoner_of : ZonedNode → Zoner
zoner_of n = zoner n.options n.type n.table

-- each for the queue of the data child
abbrev pub put_each : List Item → List Next
put_each [] = []
put_each (i ∷ is) = put 0 i ∷ put_each is

-- the seed is the node's, whose children may go as deep as d
pub record IsZoned (d : Fuel) (q : Seed) (n : ZonedNode) : Type 0 where
  pub named : n.name ≡ q.name
  pub type_is : q.type ≡ n.type
  pub spare : q.spare ≡ (n.options.concurrency - 1) ∷ []
  pub suited : Suited (zoned_form n.options n.type n.child n.table)
  pub enough : Enough d (zoned_form n.options n.type n.child n.table)

-- it has these zones in mind, and hands these on next
pub record Records (mind : Mind) (left : List Next) (past todo : List Act) (l : Local) (over : Bool) (n : ZonedNode) (z : Zones) (outs : List Item) : Type 0 where
  pub mind_is : mind ≡ by_zone (zoner_of n) (next n.eof) z
  pub local_is : l ≡ zoned_local n z.records z.last z.zones z.rows
  pub left_is : left ≡ put_each outs
  pub rest : todo ≡ filled (zoned_kept n) (put_all outs)
  pub on : over ≡ false
  pub unshaped : shape_in past ≡ None

-- ---- behind the end, by the table's columns, if any are kept

abbrev pub zones_mind : Option (List Filled) → Mind
zones_mind None = passing
zones_mind (Some cs) = ending

abbrev pub lay_zones : ZonedNode → ℕ → List Filled → List Next
lay_zones n rows cs = join_kids (fold_zones n.type rows n.options.zone_len (table_specs cs)) ∷ []

abbrev pub zones_left : ZonedNode → Zones → Option (List Filled) → List Next
zones_left n z None = leave_kid (next n.eof) ∷ []
zones_left n z (Some cs) = start_table (n.table (table_type cs)) (next n.eof) (table_piece cs z.zones) ∷ lay_zones n z.rows cs

abbrev pub zones_shape : ZonedNode → ℕ → Option (List Filled) → Shape
zones_shape n rows None = passes
zones_shape n rows (Some cs) = zones_of n.type rows n.options.zone_len (table_specs cs)
