-- What a start of the machine makes.
use Rattle.std.specs.Prelude.{Bool, false, [], ◌∷◌}
use Rattle.vx_path.specs.Path.{Eof}
use Rattle.vx_named_tasks.specs.Names.{Names}
use Rattle.vx_machine_turns.specs.Forms.{Form}
use Rattle.vx_machine_state.specs.Start.{started_task}
use Rattle.vx_machine_view.specs.Machine as whole

-- the machine that a form starts, with these paths and this pointer
abbrev pub machine_at : Names → Form → Bool → Eof → whole.Machine
machine_at names f m e = record { phase = whole.reading names; root = started_task f m (1 ∷ []) e [] false }
