-- A compressing node hands on each chunk's image. Between it and its child stands an outlet, whose queue has the room.
use Rattle.std.specs.Prelude.{List, [], ◌∷◌}
use Rattle.vx_path.specs.Path.{under, eof_path}
use Rattle.vx_tasks.specs.Task.Prompt.{Call}
use Rattle.vx_tasks.specs.Task.Kind.{Free, Take}
use Rattle.vx_plan.specs.PlanData.{Setting, Item}
use Rattle.vx_machine_turns.specs.Forms.{form_type}
use Rattle.vx_machine_turns.specs.Locals.{CompressedNode, compressed_local, outlet_local}
use Rattle.vx_machine_turns.specs.Acts.{Seed, Turn, does, put_item}
use Rattle.vx_machine_turns.specs.Starts.{seed_of}

abbrev pub compressed_turn : Setting → CompressedNode → Item → Turn
compressed_turn s n i = record { first = does Take; more = does (Free Call) ∷ put_item 0 (i.0, s.image n.which i.1) ∷ []; after = compressed_local n }

abbrev pub outlet_turn : CompressedNode → Item → Turn
outlet_turn n i = record { first = does Take; more = put_item 0 i ∷ []; after = outlet_local n }

abbrev pub outlet_seed : CompressedNode → Seed
outlet_seed n = record { type = form_type n.child; name = under n.name 0; spare = []; eof = eof_path n.eof; local = outlet_local n }

-- the child's name comes behind the outlet's, beside it
abbrev pub outlet_firsts : CompressedNode → List Seed
outlet_firsts n = seed_of n.child n.mark (under n.name 1) n.eof ∷ []
