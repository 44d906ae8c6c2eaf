-- What was seen of a write's steps, and how many there are.
use Rattle.std.proofs.Common.{◌≡◌, ◌<◌, ◌⊎◌, ◌∙◌, ℕ, true, List, map, length, Some, sym, ap, subst, inl, inr, ⊎_elim}
use Rattle.vx_model.specs.ChunkData.{ChunkData}
use Rattle.vx_path.specs.Lists.{In}
use Rattle.vx_path.proofs.Lists.{in_map}
use Rattle.vx_tasks.specs.State.{left}
use Rattle.vx_tasks.specs.State.Counts.{Zeros}
use Rattle.vx_tasks.specs.Rules.{KeepsRules}
use Rattle.vx_tasks.specs.Run.{Note, all_moves, nth, note, run, trace, work}
use Rattle.vx_tasks.proofs.Picks.{length_map}
use Rattle.vx_cut_laws.specs.Cut.{cut}
use Rattle.vx_cut_laws.proofs.Runs.{same_trace, refused_early, cut_is_done}
use Rattle.vx_plan.specs.PlanData.{Pair}
use Rattle.vx_machine_turns.specs.Acts.{refuses}
use Rattle.vx_machine_steps.specs.Tree.{counts}
use Rattle.vx_machine_steps.specs.Moves.{TreeMove, machine_moves, all_over, view}
use Rattle.vx_machine_steps.specs.Runs.{pick_of, picks_after}
use Rattle.vx_machine_steps.proofs.Laws.{moves_agree, over_is_done}
use Rattle.vx_machine_steps.proofs.Noted.{notes_agree, notes_end}
use Rattle.vx_machine_promises.specs.Write.{Write, Future, depth, begin, scripts}
use Rattle.vx_machine_promises.specs.Reached.{Reached, moves_at, pick_at}
use Rattle.vx_machine_promises.specs.Promises.{SeenIsFirst, SeenIsWhole, AllSteps, FewerSteps}
use Rattle.vx_machine_promises.proofs.Standing.{at_start, as_many, leads, stands, leads_on}

module _ (g : Write) (taken : List ChunkData) (f : Future) (seen : List Note) (history : List Pair) (tracker : ℕ) (r : Reached g taken f seen history tracker) where
  rules : KeepsRules (scripts g taken f)
  rules = (at_start g taken f seen history tracker r).stands.rules

  -- all is done where the theory has no work left
  pub nothing_left : all_over r.tree ≡ true → left (scripts g taken f) (counts r.tree) ≡ 0
  nothing_left over = subst (λ z. left z (counts r.tree) ≡ 0) (leads g taken f seen history tracker r).1
      ((over_is_done g.setting (depth g) r.tree (stands g taken f seen history tracker r)).0 over)

  first : seen ≡ map note (run (scripts g taken f) Zeros g.schedule (length seen))
  first = r.seen_is
      ∙ (notes_agree g.setting (depth g) (begin g taken f) r.tree g.schedule r.moves (at_start g taken f seen history tracker r).stands r.runs).1
      ∙ ap (λ z. map note (run (scripts g taken f) z g.schedule (length r.moves))) (at_start g taken f seen history tracker r).zeros
      ∙ ap (λ z. map note (run (scripts g taken f) Zeros g.schedule z)) (sym (as_many g taken f seen history tracker r))

  whole : (all_over r.tree ≡ true) ⊎ ((m : TreeMove) × (nth (moves_at g r.tree) (pick_at g r.tree seen) ≡ Some m) × (refuses m.act ≡ true)) → seen ≡ trace (scripts g taken f) g.schedule
  whole ends = r.seen_is ∙ notes_end g.setting (depth g) (begin g taken f) r.tree g.schedule r.moves (at_start g taken f seen history tracker r).stands (at_start g taken f seen history tracker r).zeros r.runs
      (⊎_elim (λ a. inl (nothing_left a)) (λ a. inr (refused a)) ends)
    where
      refused : (m : TreeMove) × (nth (moves_at g r.tree) (pick_at g r.tree seen) ≡ Some m) × (refuses m.act ≡ true)
          → (m : TreeMove) × (nth (machine_moves g.setting (depth g) r.tree) (pick_of g.setting (depth g) r.tree (picks_after (length r.moves) g.schedule)) ≡ Some m) × (refuses m.act ≡ true)
      refused (m, n, e) = (m, subst (λ z. nth (moves_at g r.tree) (pick_of g.setting (depth g) r.tree (picks_after z g.schedule)) ≡ Some m) (as_many g taken f seen history tracker r) n, e)

  steps : length (map view r.moves) ≡ length seen
  steps = length_map view r.moves ∙ sym (as_many g taken f seen history tracker r)

  done : all_over r.tree ≡ true → length seen ≡ work (cut (scripts g taken f))
  done over = sym steps ∙ cut_is_done (scripts g taken f) (counts r.tree) (map view r.moves) rules (leads_on g taken f seen history tracker r) (nothing_left over)

  -- a move of the machine is one of the theory
  there : (m : TreeMove) → In m (moves_at g r.tree) → In (view m) (all_moves (scripts g taken f) (counts r.tree))
  there m i = subst (λ z. In (view m) (all_moves z (counts r.tree))) (leads g taken f seen history tracker r).1
      (subst (λ z. In (view m) z) (sym (moves_agree g.setting (depth g) r.tree (stands g taken f seen history tracker r))) (in_map view m (moves_at g r.tree) i))

  fewer : (m : TreeMove) → In m (moves_at g r.tree) → length seen < work (cut (scripts g taken f))
  fewer m i = subst (λ z. z < work (cut (scripts g taken f))) steps
      (refused_early (scripts g taken f) (counts r.tree) (map view r.moves) (view m) rules (leads_on g taken f seen history tracker r) (there m i))

pub seen_is_first : SeenIsFirst
seen_is_first g taken f seen history tracker r = first g taken f seen history tracker r

pub seen_is_whole : SeenIsWhole
seen_is_whole g taken f seen history tracker r ends =
    let w : seen ≡ trace (scripts g taken f) g.schedule = whole g taken f seen history tracker r ends in
    (w, w ∙ sym (same_trace (scripts g taken f) g.schedule (rules g taken f seen history tracker r)))

pub all_steps : AllSteps
all_steps g taken f seen history tracker r over = done g taken f seen history tracker r over

pub fewer_steps : FewerSteps
fewer_steps g taken f seen history tracker r m i = fewer g taken f seen history tracker r m i
