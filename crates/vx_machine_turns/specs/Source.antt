-- The source reads batches and puts them on the root's queue. It is always there, and takes no items.
use Rattle.std.specs.Prelude.{ℕ, Bool, true, false, List, [], ◌∷◌, ◌++◌, length, Some}
use Rattle.vx_model.specs.Ty.{Ty, boolean}
use Rattle.vx_model.specs.ChunkData.{ChunkData}
use Rattle.vx_path.specs.Path.{Eof}
use Rattle.vx_tasks.specs.Task.Prompt.{Batch, End}
use Rattle.vx_tasks.specs.Task.Kind.{Free}
use Rattle.vx_named_tasks.specs.Names.{Names, onward, next_name, later_names, held_names, names_index, names_reach, Outset, root_outset}
use Rattle.vx_strategy_spec.specs.StrategyData.{StrategyData}
use Rattle.vx_plan.specs.PlanData.{Setting, Item, Plan}
use Rattle.vx_plan.specs.SourcePlan.{plan}
use Rattle.vx_machine_turns.specs.Forms.{Form, form_type}
use Rattle.vx_machine_turns.specs.Locals.{source_local, outside_local}
use Rattle.vx_machine_turns.specs.Acts.{Seed, Act, does, put_item, close_queues, passes}
use Rattle.vx_machine_turns.specs.Starts.{seed_of}

-- The next batch gets the next of these paths. Where a batch doesn't fit the schema, the Batch that reads it refuses:
-- `fits` tells that all fit, so that the source ends.
abbrev pub named_acts : Names → List ChunkData → Bool → List Act
named_acts ns [] true = record (does (Free End)) { shape = Some passes } ∷ close_queues (0 ∷ []) ∷ []
named_acts ns [] false = record (does (Free Batch)) { misfit = true } ∷ []
named_acts ns (b ∷ bs) fits =
    record (does (Free Batch)) { holds = next_name ns ∷ held_names (later_names ns); indices = names_index ns }
    ∷ record (put_item 0 (next_name ns, b)) { holds = held_names (later_names ns) }
    ∷ named_acts (later_names ns) bs fits

abbrev pub firsts_at : Form → Bool → Outset → List Seed
firsts_at f m o = seed_of f m (1 ∷ []) o.eof ∷ []

abbrev pub kept_at : Outset → List (List ℕ)
kept_at o = held_names o.names

abbrev pub seed_at : Form → Bool → Outset → Seed
seed_at f m o = record { type = form_type f; name = 0 ∷ []; spare = []; eof = []; local = source_local f m o }

-- the items that it gives
abbrev pub named_items : Names → List ChunkData → List Item
named_items ns [] = []
named_items ns (b ∷ bs) = (next_name ns, b) ∷ named_items (later_names ns) bs

-- what is written of the batches that begin there, the first ones where the source hasn't ended; with how far a pointer comes
abbrev pub reaching : List ℕ → Plan → Plan
reaching ns p = record { pairs = p.pairs; faults = p.faults; layout = p.layout; numbers = ns ++ p.numbers; reserved = p.reserved }

abbrev pub stream_plan : Setting → StrategyData → Ty → Bool → Outset → List ChunkData → Bool → Plan
stream_plan s w t m o bs ended = reaching (names_reach o.names (length bs)) (plan s w t m (named_items o.names bs) ended o.eof)

-- the root's, whose pointer is at this path
abbrev pub source_acts : Eof → List ChunkData → Bool → List Act
source_acts here bs fits = named_acts (onward here) bs fits

abbrev pub source_firsts : Form → Bool → List Seed
source_firsts f m = firsts_at f m root_outset

abbrev pub source_kept : List (List ℕ)
source_kept = kept_at root_outset

abbrev pub source_seed : Form → Bool → Seed
source_seed f m = seed_at f m root_outset

-- what stands above the source has started one child
abbrev pub outside_seed : Seed
outside_seed = record { type = boolean false; name = []; spare = []; eof = []; local = outside_local }

abbrev pub outside_firsts : List Seed
outside_firsts = outside_seed ∷ []
