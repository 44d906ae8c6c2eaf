-- The state that a write has come to, and the move that a ready step is.
use Rattle.std.proofs.Common.{◌≡◌, ◌+◌, ◌++◌, ◌∙◌, ℕ, Bool, List, map, length, ap, subst, Some, []}
use Rattle.vx_model.specs.ChunkData.{ChunkData}
use Rattle.vx_machine_state.specs.Images.{Careful}
use Rattle.vx_tasks.specs.Run.{Note, nth, Leads}
use Rattle.vx_plan.specs.PlanData.{Pair}
use Rattle.vx_plan.specs.Number.{number_of}
use Rattle.vx_machine_turns.specs.Readings.{Reading}
use Rattle.vx_machine_steps.specs.Tree.{read, forest, counts}
use Rattle.vx_machine_steps.specs.Moves.{TreeMove, tree_moves, view}
use Rattle.vx_machine_steps.specs.Runs.{Runs}
use Rattle.vx_machine_steps.specs.Stands.{Stands}
use Rattle.vx_machine_steps.specs.StartPlanned.{IsPlanned}
use Rattle.vx_machine_steps.proofs.Laws.{runs_lead, runs_read}
use Rattle.vx_machine_steps.proofs.Noted.{notes_agree}
use Rattle.vx_machine_steps.proofs.StartPlanned.{start_is_planned}
use Rattle.vx_machine_promises.specs.Write.{Write, Future, Open, Answer, depth, begin, scripts, planned, heard_by, before}
use Rattle.vx_machine_promises.specs.Reached.{Reached, moves_at}
use Rattle.vx_machine_view.specs.Machine.{Machine, WholeStep, machine_ids}
use Rattle.vx_machine_view.specs.Whole.{Asks, SameWhole}
use Rattle.vx_machine_view.specs.Underway.{Showing, ready_steps}
use Rattle.vx_machine_view.proofs.Ending.{moves_shows}
use Rattle.vx_machine_view.proofs.Wholes.{step_shows, ready_shows}

module _ (g : Write) (taken : List ChunkData) (f : Future) (seen : List Note) (history : List Pair) (tracker : ℕ) (r : Reached g taken f seen history tracker) where
  pub at_start : IsPlanned g.setting g.way g.type g.mark (taken ++ f.later) f.fits
  at_start = start_is_planned g.setting g.way g.type g.mark (taken ++ f.later) f.fits

  runs : Runs g.setting (depth g) (begin g taken f) r.moves r.tree
  runs = (notes_agree g.setting (depth g) (begin g taken f) r.tree g.schedule r.moves at_start.stands r.runs).0

  -- its tree of scripts is that of the start, and it stands
  pub leads : Leads (scripts g taken f) (counts (begin g taken f)) (map view r.moves) (counts r.tree) × (forest g.setting (depth g) r.tree ≡ scripts g taken f) × Stands g.setting (depth g) r.tree
  leads = runs_lead g.setting (depth g) (begin g taken f) r.tree r.moves at_start.stands runs

  -- what is read off it is what is read off the start
  pub reads : {F : Type 0} (v : Reading F) → read g.setting v (depth g) 0 [] r.tree ≡ read g.setting v (depth g) 0 [] (begin g taken f)
  reads v = runs_read v g.setting (depth g) (begin g taken f) r.tree r.moves at_start.stands runs

  module _ (first : ℕ) (m : Machine) (shown : Showing g first taken m f r.tree) where
    pub same_moves : tree_moves g.setting (machine_ids m) (depth g) r.tree ≡ moves_at g r.tree
    same_moves = moves_shows g (number_of (planned g taken f).pairs first) f m r.tree leads.2 shown

    -- as many steps are ready as moves can be done
    pub as_ready : (a : Answer) → Careful g.setting → length (ready_steps g first history a m) ≡ length (moves_at g r.tree)
    as_ready a law = ready_shows g (number_of (planned g taken f).pairs first) (first + length history) (machine_ids m) a f m r.tree law leads.2 shown ∙ ap length same_moves

-- the move at the same place
pub move_of : (g : Write) (first : ℕ) (taken : List ChunkData) (heard : Bool) (a : Answer) (f : Future) (seen : List Note) (history : List Pair) (tracker : ℕ)
    (r : Reached g taken (before a f) seen history tracker) (m : Machine) (k : ℕ) (w : WholeStep)
    → Careful g.setting → Open (heard_by heard a) f → Showing g first taken m (before a f) r.tree
    → nth (ready_steps g first history a m) k ≡ Some w → Asks g.type f m.phase k a
    → (v : TreeMove) × (nth (moves_at g r.tree) k ≡ Some v) × SameWhole g (number_of (planned g taken (before a f)).pairs first) (first + length history) f w v
move_of g first taken heard a f seen history tracker r m k w law o shown at ask =
    subst (λ z. (v : TreeMove) × (nth z k ≡ Some v) × SameWhole g (number_of (planned g taken (before a f)).pairs first) (first + length history) f w v)
    (same_moves g taken (before a f) seen history tracker r first m shown)
    (step_shows g (number_of (planned g taken (before a f)).pairs first) (first + length history) (machine_ids m) heard a f m r.tree k w law
    (leads g taken (before a f) seen history tracker r).2 o shown at ask)
