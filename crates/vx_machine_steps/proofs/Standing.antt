-- At the start the machine stands.
use Rattle.std.proofs.Common.{◌∷◌, Bool, true, false, List, refl, ap, inr, arith, []}
use Rattle.vx_named_tasks.specs.Names.{Names, later_names}
use Rattle.vx_tasks.specs.State.{Zeros}
use Rattle.vx_model.specs.ChunkData.{ChunkData}
use Rattle.vx_machine_turns.specs.Fuels.{less}
use Rattle.vx_machine_turns.specs.Turns.{firsts}
use Rattle.vx_machine_turns.specs.Scripts.{Calm}
use Rattle.vx_machine_turns.specs.Source.{named_acts, seed_at}
use Rattle.vx_machine_steps.specs.Laws.{StartStands}
use Rattle.vx_machine_steps.specs.Tree.{trim, quiet}
use Rattle.vx_machine_steps.proofs.Fresh.{start_is_neat}
use Rattle.vx_machine_steps.proofs.Holding.{sprout_hold}
use Rattle.vx_machine_steps.proofs.Kept.{sprout_linked}
use Rattle.vx_machine_steps.proofs.Laws.{sprout_clean}
use Rattle.vx_machine_steps.proofs.Trimmed.{sprout_zeros}

source_calm : (ns : Names) (bs : List ChunkData) (fits : Bool) → Calm (named_acts ns bs fits)
source_calm ns [] true = (refl, (refl, tt))
source_calm ns [] false = (refl, tt)
source_calm ns (b ∷ bs) fits = (refl, (refl, source_calm (later_names ns) bs fits))

pub start_stands : StartStands
start_stands s d f m o bs fits rules = (
  record {
    rules = rules;
    neat = start_is_neat s d f m o bs fits;
    linked = (
      record { begun = omega arith; taken = []; split = refl; count = refl; shut_is = refl; calm = source_calm o.names bs fits },
      sprout_linked (less d (seed_at f m o).type) 0 (seed_at f m o) [] quiet (firsts (seed_at f m o)) refl (λ i l. (refl, refl)),
      inr refl,
    );
    clean = (refl, sprout_clean (less d (seed_at f m o).type) 0 quiet (firsts (seed_at f m o)), tt);
    holds = (sprout_hold (less d (seed_at f m o).type) 0 quiet (firsts (seed_at f m o)), tt);
  },
  ap (λ z. trim 0 z Zeros) (sprout_zeros (less d (seed_at f m o).type) 0 quiet (firsts (seed_at f m o))),
)
