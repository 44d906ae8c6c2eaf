-- What a zoned node records: a chunk a zone.
use Rattle.std.specs.Prelude.{ℕ, suc, ◌+◌, List, [], ◌∷◌, ◌++◌}
use Rattle.vx_model.specs.Ty.{Ty}
use Rattle.vx_model.specs.ValueData.{ValueData}
use Rattle.vx_model.specs.ChunkData.{ChunkData, row_values}
use Rattle.vx_path.specs.Path.{Eof, eof_path, under}
use Rattle.vx_aggregate_spec.specs.Aggregate.{Column}
use Rattle.vx_zone_spec.specs.Record.{zone_record}
use Rattle.vx_strategy_spec.specs.StrategyData.{ZonedOptions}
use Rattle.vx_plan.specs.PlanData.{Setting, Item, rows_in}
use Rattle.vx_plan.specs.ZonedNode.{recorded}
use Rattle.vx_machine_turns.specs.Forms.{Form}

-- what the node is: its zone length, its type, what it records, and its table's form at each type
pub record Zoner : Type 0 where
  pub zone_len : ℕ
  pub type : Ty
  pub columns : List Column
  pub table : Ty → Form

-- how far it has come: a record a chunk, the last chunk's rows, and the chunks and the rows so far
pub record Zones : Type 0 where
  pub records : List (List ValueData)
  pub last : ℕ
  pub zones : ℕ
  pub rows : ℕ

abbrev pub zoner : ZonedOptions → Ty → (Ty → Form) → Zoner
zoner o t table = record { zone_len = o.zone_len; type = t; columns = recorded o t; table = table }

-- before a chunk comes the last one counts as a whole zone
abbrev pub no_zones : Zoner → Zones
no_zones g = record { records = []; last = g.zone_len; zones = 0; rows = 0 }

-- behind one more chunk
abbrev pub one_zone : Setting → Zoner → Zones → ChunkData → Zones
one_zone s g z p = record {
  records = z.records ++ (zone_record s.hash g.type (row_values p) g.columns ∷ []);
  last = rows_in p;
  zones = suc z.zones;
  rows = z.rows + rows_in p;
}

-- the table, under the first path below that of the pointer
abbrev pub table_item : Eof → ChunkData → Item
table_item e p = (under (eof_path e) 0, p)
