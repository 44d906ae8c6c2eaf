-- A flat node takes its one chunk, sees the end, and appends the chunk's segment.
use Rattle.std.specs.Prelude.{ℕ, List, [], ◌∷◌, length, Option, Some, None}
use Rattle.vx_model.specs.declared.encoding.EncodingId.{EncodingId}
use Rattle.vx_model.specs.Ty.{Ty}
use Rattle.vx_model.specs.ChunkData.{cells}
use Rattle.vx_layout_spec.specs.LayoutTree.{gathered}
use Rattle.vx_tasks.specs.Task.Kind.{Take, Append}
use Rattle.vx_strategy_spec.specs.StrategyData.{FlatOptions}
use Rattle.vx_plan.specs.PlanData.{Setting, Item, What, many_chunks, forbidden_encoding}
use Rattle.vx_plan.specs.FlatNode.{segment, length_of, flat_of}
use Rattle.vx_machine_turns.specs.Locals.{flat_full, flat_many}
use Rattle.vx_machine_turns.specs.Acts.{Act, Turn, does, ends_as, alone}

abbrev pub forbidden : Option EncodingId → Option What
forbidden None = None
forbidden (Some id) = Some (forbidden_encoding id)

-- it is refused where it has an encoding that isn't listed
abbrev pub flat_first : Setting → FlatOptions → Ty → Item → Turn
flat_first s o t i = record {
  first = record (does Take) { refusal = forbidden (s.codec.refused s.encodings i.1); numbers = length (cells i.1) ∷ length_of (segment s o i) };
  more = [];
  after = flat_full o t i (segment s o i);
}

abbrev pub flat_second : Turn
flat_second = record { first = record (does Take) { refusal = Some many_chunks }; more = []; after = flat_many }

abbrev pub flat_later : Turn
flat_later = record { first = does Take; more = []; after = flat_many }

-- of no chunk, and of one
abbrev pub flat_empty_end : Ty → Act
flat_empty_end t = ends_as (alone (gathered t 0 []))

abbrev pub flat_end : Setting → FlatOptions → Ty → Item → Act
flat_end s o t i = ends_as (alone (flat_of s o t i))

abbrev pub flat_append : Item → Option (List ℕ) → List Act
flat_append i None = []
flat_append i (Some bytes) = record (does (Append i.0)) { uses = i.0 ∷ []; bytes = bytes } ∷ []

-- the chunk's path, where there is a segment to append
abbrev pub flat_kept : Item → Option (List ℕ) → List (List ℕ)
flat_kept i None = []
flat_kept i (Some bytes) = i.0 ∷ []
