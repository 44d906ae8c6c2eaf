-- How the machine stands at the start.
use Rattle.std.proofs.Common.{◌≡◌, ◌∷◌, ◌++◌, ◌∙◌, ℕ, Bool, true, false, List, refl, ap, append-nil, []}
use Rattle.vx_named_tasks.specs.Names.{Names, later_names, root_outset}
use Rattle.vx_tasks.specs.Runs.{first_batch}
use Rattle.vx_plan.specs.PlanData.{Setting}
use Rattle.vx_model.specs.ChunkData.{ChunkData}
use Rattle.vx_machine_turns.specs.Forms.{Form}
use Rattle.vx_machine_turns.specs.Acts.{Act, births}
use Rattle.vx_machine_turns.specs.Fuels.{Fuel, spent, fuel, less}
use Rattle.vx_machine_turns.specs.Turns.{firsts}
use Rattle.vx_machine_turns.specs.Readings.{Reading, unread}
use Rattle.vx_machine_turns.specs.Source.{named_acts, seed_at, source_acts, source_seed}
use Rattle.vx_machine_turns.proofs.DutyLaws.{unread_same}
use Rattle.vx_machine_steps.specs.Laws.{StartReads}
use Rattle.vx_machine_steps.specs.Start.{root_at, root_seed, start}
use Rattle.vx_machine_steps.specs.Tree.{read, quiet, sprout}
use Rattle.vx_machine_steps.proofs.Seen.{sprouted}

unread_nil : {F : Type 0} (s : Setting) (v : Reading F) (d : Fuel) (j : ℕ) (acts : List Act) → unread s v d j [] acts ≡ v.none
unread_nil s v spent j acts = refl
unread_nil s v (fuel g) j acts = refl

source_births : (ns : Names) (bs : List ChunkData) (fits : Bool) → births (named_acts ns bs fits) ≡ []
source_births ns [] true = refl
source_births ns [] false = refl
source_births ns (b ∷ bs) fits = source_births (later_names ns) bs fits

pub start_at_reads : {F : Type 0} (v : Reading F) → StartReads v
start_at_reads v s d f m o bs fits =
    ap (λ z. v.make (seed_at f m o) z (read s v (less d (seed_at f m o).type) 0 z (sprout (less d (seed_at f m o).type) quiet 0 (firsts (seed_at f m o)))) (unread s v d 1 [] []))
    (append-nil (named_acts o.names bs fits))
    ∙ ap (λ z. v.make (seed_at f m o) (named_acts o.names bs fits) z (unread s v d 1 [] []))
    (sprouted s v (less d (seed_at f m o).type) 0 quiet (firsts (seed_at f m o)) (named_acts o.names bs fits) (λ i l. (refl, refl))
    ∙ unread_same s v (less d (seed_at f m o).type) 0 (firsts (seed_at f m o) ++ births (named_acts o.names bs fits)) (quiet ∷ named_acts o.names bs fits) (named_acts o.names bs fits)
    (λ i l. (refl, refl))
    ∙ ap (λ z. unread s v (less d (seed_at f m o).type) 0 (firsts (seed_at f m o) ++ z) (named_acts o.names bs fits)) (source_births o.names bs fits))
    ∙ ap (λ z. v.make (seed_at f m o) (named_acts o.names bs fits) (unread s v (less d (seed_at f m o).type) 0 (root_at f m o ∷ []) (named_acts o.names bs fits)) z)
    (unread_nil s v d 1 [])

-- that of whole machines
pub start_reads : {F : Type 0} (v : Reading F) (s : Setting) (d : Fuel) (f : Form) (m : Bool) (bs : List ChunkData) (fits : Bool) → read s v d 0 [] (start d f m bs fits)
    ≡ v.make (source_seed f m) (source_acts first_batch bs fits) (unread s v (less d (source_seed f m).type) 0 (root_seed f m ∷ []) (source_acts first_batch bs fits)) v.none
start_reads v s d f m bs fits = start_at_reads v s d f m root_outset bs fits
