-- Why a guard refuses a chunk.
use Rattle.std.specs.Prelude.{◌≡◌, true, Some, None}
use Rattle.vx_model.specs.ChunkData.{ChunkData}
use Rattle.vx_plan.specs.PlanData.{zone_cut}
use Rattle.vx_turn_laws.specs.Guard.{Guard, records, refused_at}
use Rattle.vx_zone_guard.specs.declared.error.GuardError.{GuardError}
use Rattle.vx_zone_guard.specs.declared.error.GuardError.TheVariants.{ZoneCut, OutOfMemory}

-- that length is what it refuses; memory is asked for only of a chunk that it records and doesn't refuse
abbrev pub Refuses : Guard → ChunkData → GuardError → Type 0
Refuses g p (ZoneCut n) = refused_at g p ≡ Some (zone_cut n)
Refuses g p OutOfMemory = (refused_at g p ≡ None) × (records g ≡ true)
