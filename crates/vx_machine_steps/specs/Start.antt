-- The source on top, and the state at the start.
use Rattle.std.specs.Prelude.{◌∷◌, Bool, true, List, []}
use Rattle.vx_named_tasks.specs.Names.{Outset, root_outset}
use Rattle.vx_model.specs.ChunkData.{ChunkData}
use Rattle.vx_machine_turns.specs.Acts.{Seed}
use Rattle.vx_machine_turns.specs.Locals.{source_local}
use Rattle.vx_machine_turns.specs.Forms.{Form}
use Rattle.vx_machine_turns.specs.Fuels.{Fuel, less}
use Rattle.vx_machine_turns.specs.Turns.{firsts}
use Rattle.vx_machine_turns.specs.Starts.{seed_of}
use Rattle.vx_machine_turns.specs.Source.{named_acts, seed_at}
use Rattle.vx_machine_steps.specs.Tree.{Head, Tree, Leaf, Work, quiet, sprout}

abbrev pub root_at : Form → Bool → Outset → Seed
root_at f m o = seed_of f m (1 ∷ []) o.eof

abbrev pub source_head : Form → Bool → Outset → List ChunkData → Bool → Head
source_head f m o bs fits = record {
  seed = seed_at f m o;
  past = [];
  todo = named_acts o.names bs fits;
  local = source_local f m o;
  over = true;
  inbox = [];
  closed = true;
}

-- the state at the start of a form with its mark, for these batches to come, which begin there
abbrev pub start_at : Fuel → Form → Bool → Outset → List ChunkData → Bool → Tree
start_at d f m o bs fits = Work (source_head f m o bs fits) (sprout (less d (seed_at f m o).type) quiet 0 (firsts (seed_at f m o))) Leaf

-- that of whole machines

abbrev pub root_seed : Form → Bool → Seed
root_seed f m = root_at f m root_outset

abbrev pub start : Fuel → Form → Bool → List ChunkData → Bool → Tree
start d f m bs fits = start_at d f m root_outset bs fits
