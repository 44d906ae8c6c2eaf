-- The state that a write has come to: it stands, and is one of the theory.
use Rattle.std.proofs.Common.{◌≡◌, ◌+◌, ◌<◌, ◌∷◌, ◌++◌, ◌∙◌, ℕ, suc, false, List, map, length, refl, sym, ap, subst, []}
use Rattle.vx_tasks.specs.State.{left}
use Rattle.vx_tasks.specs.State.Counts.{Zeros}
use Rattle.vx_tasks.specs.Run.{Note, Leads, later_picks, outside, all_held, all_moves}
use Rattle.vx_tasks.specs.Rules.{AtLeast}
use Rattle.vx_tasks.proofs.Steps.{move_left}
use Rattle.vx_path.specs.Lists.{In}
use Rattle.vx_path.specs.Path.{Scattered, Before}
use Rattle.vx_path.proofs.Lists.{in_map}
use Rattle.vx_cut_laws.specs.Cut.{cut}
use Rattle.vx_cut_laws.proofs.Runs.{same_moves}
use Rattle.vx_named_tasks.specs.Names.{Outset, root_outset, CanBegin}
use Rattle.vx_named_tasks.proofs.NamedLaws.{root_begins}
use Rattle.vx_model.specs.ChunkData.{ChunkData}
use Rattle.vx_plan.specs.PlanData.{Setting, Pair, paths, places}
use Rattle.vx_plan.proofs.Spots.{Apart}
use Rattle.vx_plan.proofs.SourceLaws.{plan_placed}
use Rattle.vx_plan.specs.Number.{sorted}
use Rattle.vx_machine_turns.specs.Fuels.{Fuel}
use Rattle.vx_machine_turns.specs.Readings.{Reading}
use Rattle.vx_machine_turns.specs.Source.{named_items}
use Rattle.vx_machine_turns.proofs.WholeLaws.{places_are}
use Rattle.vx_machine_steps.specs.Tree.{Tree, read, forest, counts}
use Rattle.vx_machine_steps.specs.Moves.{TreeMove, view, all_paths, all_over}
use Rattle.vx_machine_steps.specs.Runs.{Runs, notes}
use Rattle.vx_machine_steps.specs.Stands.{Stands}
use Rattle.vx_machine_steps.specs.StartPlanned.{IsPlannedAt, IsPlanned}
use Rattle.vx_machine_steps.proofs.Laws.{moves_agree, runs_lead, runs_read}
use Rattle.vx_machine_steps.proofs.Noted.{notes_agree}
use Rattle.vx_machine_steps.proofs.Ready.{some_move, moves_lower, runs_count}
use Rattle.vx_machine_steps.proofs.Sorted.{appended_first}
use Rattle.vx_machine_steps.proofs.StartPlanned.{start_at_is_planned, start_is_planned}
use Rattle.vx_machine_promises.specs.Write.{Write, Future, depth, begin_at, scripts_at, planned_at, begin, scripts}
use Rattle.vx_machine_promises.specs.Reached.{ReachedAt, Reached, moves_at}
use Rattle.vx_machine_promises.specs.Promises.{StateStandsAt, SomethingIsReadyAt, WorkFallsAt, HistoryIsFirstAt, PathsAreApartAt, SomethingIsReady, WorkFalls, WorkIsShared}

notes_length : (s : Setting) (d : Fuel) (t : Tree) (picks : List ℕ) (ms : List TreeMove) → length (notes s d t picks ms) ≡ length ms
notes_length s d t picks [] = refl
notes_length s d t picks (m ∷ ms) = ap suc (notes_length s d m.after (later_picks picks) ms)

-- ---- wherever it begins

module _ (g : Write) (o : Outset) (taken : List ChunkData) (f : Future) (seen : List Note) (history : List Pair) (tracker : ℕ) (r : ReachedAt g o taken f seen history tracker) where
  pub as_many_at : length seen ≡ length r.moves
  as_many_at = ap length r.seen_is ∙ notes_length g.setting (depth g) (begin_at g o taken f) g.schedule r.moves

  module _ (can : CanBegin o (length (taken ++ f.later))) where
    pub at_start_at : IsPlannedAt g.setting g.way g.type g.mark o (taken ++ f.later) f.fits (planned_at g o taken f)
    at_start_at = start_at_is_planned g.setting g.way g.type g.mark o (taken ++ f.later) f.fits can

    pub runs_at : Runs g.setting (depth g) (begin_at g o taken f) r.moves r.tree
    runs_at = (notes_agree g.setting (depth g) (begin_at g o taken f) r.tree g.schedule r.moves at_start_at.stands r.runs).0

    pub leads_at : Leads (scripts_at g o taken f) (counts (begin_at g o taken f)) (map view r.moves) (counts r.tree) × (forest g.setting (depth g) r.tree ≡ scripts_at g o taken f)
        × Stands g.setting (depth g) r.tree
    leads_at = runs_lead g.setting (depth g) (begin_at g o taken f) r.tree r.moves at_start_at.stands runs_at

    pub leads_on_at : Leads (scripts_at g o taken f) Zeros (map view r.moves) (counts r.tree)
    leads_on_at = subst (λ z. Leads (scripts_at g o taken f) z (map view r.moves) (counts r.tree)) at_start_at.zeros leads_at.0

    -- what is read off the state is what is read off the start
    pub reads_at : {F : Type 0} (v : Reading F) → read g.setting v (depth g) 0 [] r.tree ≡ read g.setting v (depth g) 0 [] (begin_at g o taken f)
    reads_at v = runs_read v g.setting (depth g) (begin_at g o taken f) r.tree r.moves at_start_at.stands runs_at

    -- a move of the machine is one of the theory
    there_at : (m : TreeMove) → In m (moves_at g r.tree) → In (view m) (all_moves (scripts_at g o taken f) (counts r.tree))
    there_at m i = subst (λ z. In (view m) (all_moves z (counts r.tree))) leads_at.1
        (subst (λ z. In (view m) z) (sym (moves_agree g.setting (depth g) r.tree leads_at.2)) (in_map view m (moves_at g r.tree) i))

    -- of the tree in which a refusal ends its task, too
    cut_there_at : (m : TreeMove) → In m (moves_at g r.tree) → In (view m) (all_moves (cut (scripts_at g o taken f)) (counts r.tree))
    cut_there_at m i = subst (λ z. In (view m) z) (sym (same_moves (scripts_at g o taken f) (counts r.tree) (map view r.moves) at_start_at.stands.rules leads_on_at)) (there_at m i)

    pub work_falls_by : (m : TreeMove) → In m (moves_at g r.tree) → suc (left (cut (scripts_at g o taken f)) (counts m.after)) ≡ left (cut (scripts_at g o taken f)) (counts r.tree)
    work_falls_by m i = move_left (all_held (cut (scripts_at g o taken f)) (counts r.tree)) outside 1 0 (cut (scripts_at g o taken f)) (counts r.tree) (view m) (cut_there_at m i)

    pub some_ready_at : all_over r.tree ≡ false → 0 < length (moves_at g r.tree)
    some_ready_at over = some_move g.setting (depth g) (begin_at g o taken f) r.tree r.moves at_start_at.stands at_start_at.zeros runs_at over

    pub history_first_at : (more : List Pair) × (sorted (planned_at g o taken f).pairs ≡ history ++ more) × ((x : Pair) → In x more → AtLeast (all_paths r.tree) x.0)
    history_first_at =
        let h = appended_first g.setting (depth g) (begin_at g o taken f) r.tree r.moves at_start_at.stands at_start_at.order at_start_at.zeros runs_at at_start_at.one in
        (h.0, ap sorted (sym at_start_at.pairs) ∙ h.1 ∙ ap (λ z. z ++ h.0) (sym r.wrote), h.2)

pub state_stands_at : (o : Outset) → StateStandsAt o
state_stands_at o g taken f seen history tracker r can = (leads_at g o taken f seen history tracker r can).2

pub something_is_ready_at : (o : Outset) → SomethingIsReadyAt o
something_is_ready_at o g taken f seen history tracker r can over = some_ready_at g o taken f seen history tracker r can over

pub work_falls_at : (o : Outset) → WorkFallsAt o
work_falls_at o g taken f seen history tracker r can m i = work_falls_by g o taken f seen history tracker r can m i

pub history_is_first_at : (o : Outset) → HistoryIsFirstAt o
history_is_first_at o g taken f seen history tracker r can = history_first_at g o taken f seen history tracker r can

module _ (g : Write) (o : Outset) (taken : List ChunkData) (f : Future) (can : CanBegin o (length (taken ++ f.later))) where
  apart : Apart (places (named_items o.names (taken ++ f.later))) o.eof
  apart = record {
    scattered = subst (λ z. Scattered z) (sym (places_are o.names (taken ++ f.later))) can.apart;
    off = λ p i j. (subst (λ z. Before z o.eof) (sym (places_are o.names (taken ++ f.later))) can.before p i j).1;
  }

  apart_at : Scattered (paths (planned_at g o taken f).pairs)
  apart_at = ((plan_placed g.setting g.way g.type).placed g.mark (named_items o.names (taken ++ f.later)) f.fits o.eof apart).scattered

pub paths_are_apart_at : (o : Outset) → PathsAreApartAt o
paths_are_apart_at o g taken f can = apart_at g o taken f can

-- ---- a whole write

module _ (g : Write) (taken : List ChunkData) (f : Future) (seen : List Note) (history : List Pair) (tracker : ℕ) (r : Reached g taken f seen history tracker) where
  pub at_start : IsPlanned g.setting g.way g.type g.mark (taken ++ f.later) f.fits
  at_start = start_is_planned g.setting g.way g.type g.mark (taken ++ f.later) f.fits

  begins : CanBegin root_outset (length (taken ++ f.later))
  begins = root_begins (length (taken ++ f.later))

  pub as_many : length seen ≡ length r.moves
  as_many = as_many_at g root_outset taken f seen history tracker r

  pub runs : Runs g.setting (depth g) (begin g taken f) r.moves r.tree
  runs = runs_at g root_outset taken f seen history tracker r begins

  pub leads : Leads (scripts g taken f) (counts (begin g taken f)) (map view r.moves) (counts r.tree) × (forest g.setting (depth g) r.tree ≡ scripts g taken f) × Stands g.setting (depth g) r.tree
  leads = leads_at g root_outset taken f seen history tracker r begins

  pub stands : Stands g.setting (depth g) r.tree
  stands = leads.2

  pub leads_on : Leads (scripts g taken f) Zeros (map view r.moves) (counts r.tree)
  leads_on = subst (λ z. Leads (scripts g taken f) z (map view r.moves) (counts r.tree)) at_start.zeros leads.0

  -- what is read off the state is what is read off the start
  pub reads : {F : Type 0} (v : Reading F) → read g.setting v (depth g) 0 [] r.tree ≡ read g.setting v (depth g) 0 [] (begin g taken f)
  reads v = runs_read v g.setting (depth g) (begin g taken f) r.tree r.moves at_start.stands runs

pub something_is_ready : SomethingIsReady
something_is_ready g taken f seen history tracker r over = some_ready_at g root_outset taken f seen history tracker r (begins g taken f seen history tracker r) over

pub work_falls : WorkFalls
work_falls g taken f seen history tracker r m i =
    subst (λ z. suc (left z (counts m.after)) ≡ left z (counts r.tree)) (leads g taken f seen history tracker r).1
    (moves_lower g.setting (depth g) r.tree m (stands g taken f seen history tracker r) i)

pub work_is_shared : WorkIsShared
work_is_shared g taken f seen history tracker r =
    ap (λ z. left (scripts g taken f) (counts r.tree) + z) (as_many g taken f seen history tracker r)
    ∙ runs_count g.setting (depth g) (begin g taken f) r.tree r.moves (at_start g taken f seen history tracker r).stands (at_start g taken f seen history tracker r).zeros
    (runs g taken f seen history tracker r)
