-- A zoned node records each chunk beside handing it on, and starts its table's child at the end.
use Rattle.std.specs.Prelude.{ℕ, suc, ◌+◌, nat_lt, false, if◌then◌else◌, List, [], ◌∷◌, ◌++◌, Option, Some, None}
use Rattle.vx_model.specs.ValueData.{ValueData}
use Rattle.vx_model.specs.ChunkData.{row_values}
use Rattle.vx_path.specs.Path.{under, raised, inside, next}
use Rattle.vx_aggregate_spec.specs.Aggregate.{Column}
use Rattle.vx_zone_spec.specs.Record.{zone_record}
use Rattle.vx_zone_spec.specs.ZoneTable.{Filled, table_type, table_specs}
use Rattle.vx_tasks.specs.Task.Kind.{Take, Join}
use Rattle.vx_plan.specs.PlanData.{Setting, Item, What, zone_cut, rows_in}
use Rattle.vx_plan.specs.ZonedNode.{recorded, is_no_zone, table_items}
use Rattle.vx_machine_turns.specs.Locals.{ZonedNode, zoned_local}
use Rattle.vx_machine_turns.specs.Acts.{Seed, Act, Turn, does, put_item, close_queues, ends_as, zones_of, passes}
use Rattle.vx_machine_turns.specs.Starts.{start_fault, seed_of}

-- A chunk of n rows behind one of `last` rows: what isn't a zone is refused itself, a shorter one once another follows;
-- only where something is recorded.
abbrev pub zone_fault : ℕ → List Column → ℕ → ℕ → Option What
zone_fault zone [] last n = None
zone_fault zone (a ∷ columns) last n = if nat_lt last zone then Some (zone_cut last) else if is_no_zone zone n then Some (zone_cut n) else None

abbrev pub zone_columns : ZonedNode → List Column
zone_columns n = recorded n.options n.type

abbrev pub zoned_turn : Setting → ZonedNode → List (List ValueData) → ℕ → ℕ → ℕ → Item → Turn
zoned_turn s n records last zones rows i = record {
  first = record (does Take) { refusal = zone_fault n.options.zone_len (zone_columns n) last (rows_in i.1); numbers = (rows + rows_in i.1) ∷ [] };
  more = put_item 0 i ∷ [];
  after = zoned_local n (records ++ (zone_record s.hash n.type (row_values i.1) (zone_columns n) ∷ [])) (rows_in i.1) (suc zones) (rows + rows_in i.1);
}

-- ---- the end, by the table's columns, if any are kept

abbrev pub zoned_end : ZonedNode → ℕ → ℕ → Option (List Filled) → Act
zoned_end n zones rows None = ends_as passes
zoned_end n zones rows (Some cs) = record (ends_as (zones_of n.type rows n.options.zone_len (table_specs cs))) { numbers = zones ∷ [] }

abbrev pub table_seed : ZonedNode → List Filled → Seed
table_seed n cs = seed_of (n.table (table_type cs)) false (under n.name 1) (next (next n.eof))

-- gives items to child j, each under its own path
abbrev pub gives_to : ℕ → List Item → List (ℕ × Item)
gives_to j [] = []
gives_to j (i ∷ is) = (j, i) ∷ gives_to j is

-- the first join holds the pointer e + 1 above the data child's paths, and then makes of it the table's path
abbrev pub zoned_joins : Setting → ZonedNode → ℕ → Option (List Filled) → List Act
zoned_joins s n zones None = record (does Join) { uses = raised n.eof 1 ∷ [] } ∷ []
zoned_joins s n zones (Some cs) =
    record (does Join) {
      starts = table_seed n cs ∷ [];
      gives = gives_to 1 (table_items cs zones n.eof);
      shuts = 1 ∷ [];
      uses = raised n.eof 1 ∷ [];
      indices = (n.eof.last + 2) ∷ [];
      refusal = start_fault s (n.table (table_type cs)) false;
    }
    ∷ does Join ∷ []

abbrev pub zoned_ends : Setting → ZonedNode → ℕ → Option (List Filled) → List Act
zoned_ends s n zones table = close_queues (0 ∷ []) ∷ zoned_joins s n zones table

abbrev pub zoned_kept : ZonedNode → List (List ℕ)
zoned_kept n = raised n.eof 1 ∷ []

abbrev pub zoned_firsts : ZonedNode → List Seed
zoned_firsts n = seed_of n.child false (under n.name 0) (inside n.eof) ∷ []

-- the pointer behind the data child's eof path
abbrev pub zoned_indices : ZonedNode → List ℕ
zoned_indices n = (n.eof.last + 1) ∷ []
