-- What is noted of a run, against the work of its tree of scripts.
use Rattle.std.proofs.Common.{◌≡◌, ◌+◌, ◌%◌, ◌<◌, ◌≤◌, ◌||◌, ◌∷◌, ◌++◌, ◌∙◌, ℕ, true, false, List, map, length, refl, sym, ap, subst, inl, inr, arith, append_assoc, append-nil, Some, is_some, []}
use Rattle.std.proofs.lemmas.Bool.{true≢false}
use Rattle.vx_named_tasks.specs.Names.{Names}
use Rattle.vx_model.specs.ChunkData.{ChunkData}
use Rattle.vx_path.specs.Lists.{In}
use Rattle.vx_machine_state.specs.Images.{Careful}
use Rattle.vx_tasks.specs.Task.{Kind, Free, Take, TakeEnd, Put, Append, Join, appends_of}
use Rattle.vx_tasks.specs.State.{left}
use Rattle.vx_tasks.specs.State.Counts.{Zeros}
use Rattle.vx_tasks.specs.Run.{Note, note, nth, ready, Leads, run, trace, work, first_pick, later_picks}
use Rattle.vx_tasks.specs.Rules.{KeepsRules}
use Rattle.vx_tasks.proofs.Picks.{nth_there}
use Rattle.vx_cut_laws.specs.Cut.{cut}
use Rattle.vx_cut_laws.proofs.Runs.{same_runs}
use Rattle.vx_plan.specs.PlanData.{Setting, paths}
use Rattle.vx_plan.specs.Number.{number_of}
use Rattle.vx_plan.proofs.ChunkedLaws.{paths-append}
use Rattle.vx_machine_turns.specs.Acts.{refuses, written_by}
use Rattle.vx_machine_turns.specs.Fuels.{Fuel}
use Rattle.vx_machine_steps.specs.Tree.{Tree, forest, counts}
use Rattle.vx_machine_steps.specs.Moves.{TreeMove, view, all_over}
use Rattle.vx_machine_steps.specs.Runs.{notes, picks_after, appended}
use Rattle.vx_machine_steps.specs.StartPlanned.{started_forest, IsPlanned}
use Rattle.vx_machine_steps.proofs.Noted.{ready_is}
use Rattle.vx_machine_promises.specs.Write.{Write, Future, Open, Answer, unasked, came, over, depth, begin, scripts, planned, taken_by, heard_by, before}
use Rattle.vx_machine_promises.specs.Reached.{Reached, moves_at, pick_at}
use Rattle.vx_machine_promises.specs.Promises.{EndIsPlanned, SomethingIsReady, WorkIsShared, SeenIsFirst, SeenIsWhole, AllSteps, FewerSteps}
use Rattle.vx_machine_view.specs.Machine.{Phase, reading, WholeStep}
use Rattle.vx_machine_view.specs.Whole.{Asks}
use Rattle.vx_machine_view.specs.Underway.{Showing, ready_steps}
use Rattle.vx_machine_view.proofs.Ending.{finish_shows}
use Rattle.vx_machine_view.proofs.Underway.{write_ends}
use Rattle.vx_machine_view.proofs.Words.{or_all}
use Rattle.vx_machine_runs.specs.Runs.{Stand, tracked, UnderwayAt}
use Rattle.vx_machine_runs.specs.Traces.{scripts_of, ReadyIsWithinWork, NextIsWithinWork, NotesAreWithinWork, NotesAreFirst, NotesAreFewer, ReadyIsMore, WholeTrace, NotesAreWhole, RefusalIsLast, MisfitIsLast, appends_noted, AppendsAreNoted}
use Rattle.vx_machine_runs.proofs.Counting.{nth_in, ready_is_within_left, ready_within_cut, noted_within, run_is_front}
use Rattle.vx_machine_runs.proofs.Ending.{none_later, open_none, ends_whole}
use Rattle.vx_machine_runs.proofs.Misfits.{misfit_is_read}
use Rattle.vx_machine_runs.proofs.Reaching.{at_start, leads, as_ready, move_of}
use Rattle.vx_machine_runs.proofs.Stepping.{open_before, asks_so}

-- where the write has come, and what the machine shows there
abbrev At : Write → ℕ → List Note → Stand → Future → Type 0
At g first seen x f = (r : Reached g x.taken f seen x.history (tracked g x)) × Showing g first x.taken x.machine f r.tree

pub ready_is_within_work : WorkIsShared → ReadyIsWithinWork
ready_is_within_work shared g first seen x a f law u o = on (u f o)
  where
    on : At g first seen x f → length (ready_steps g first x.history a x.machine) + length seen ≤ work (scripts g x.taken f)
    on (r, shown) =
        let l = leads g x.taken f seen x.history (tracked g x) r in
        let b : length (ready_steps g first x.history a x.machine) ≡ length (moves_at g r.tree) = as_ready g x.taken f seen x.history (tracked g x) r first x.machine shown a law in
        let c : ready (forest g.setting (depth g) r.tree) (counts r.tree) ≡ length (moves_at g r.tree) = ready_is g.setting (depth g) r.tree l.2 in
        let d : ready (forest g.setting (depth g) r.tree) (counts r.tree) ≤ left (forest g.setting (depth g) r.tree) (counts r.tree) = ready_is_within_left (forest g.setting (depth g) r.tree) (counts r.tree) in
        let e : left (forest g.setting (depth g) r.tree) (counts r.tree) ≡ left (scripts g x.taken f) (counts r.tree) = ap (λ z. left z (counts r.tree)) l.1 in
        let h : left (scripts g x.taken f) (counts r.tree) + length seen ≡ work (scripts g x.taken f) = shared g x.taken f seen x.history (tracked g x) r in
        omega (arith, b, c, d, e, h)

pub next_is_within_work : NextIsWithinWork
next_is_within_work g first seen x a f law u o = on (u f o)
  where
    on : At g first seen x f → length (ready_steps g first x.history a x.machine) ≤ work (cut (scripts g x.taken f))
    on (r, shown) =
        let l = leads g x.taken f seen x.history (tracked g x) r in
        let s : IsPlanned g.setting g.way g.type g.mark (x.taken ++ f.later) f.fits = at_start g x.taken f seen x.history (tracked g x) r in
        let b : length (ready_steps g first x.history a x.machine) ≡ length (moves_at g r.tree) = as_ready g x.taken f seen x.history (tracked g x) r first x.machine shown a law in
        let c : ready (forest g.setting (depth g) r.tree) (counts r.tree) ≡ length (moves_at g r.tree) = ready_is g.setting (depth g) r.tree l.2 in
        let e : ready (forest g.setting (depth g) r.tree) (counts r.tree) ≡ ready (scripts g x.taken f) (counts r.tree) = ap (λ z. ready z (counts r.tree)) l.1 in
        let d : ready (scripts g x.taken f) (counts r.tree) ≤ work (cut (scripts g x.taken f)) = ready_within_cut (scripts g x.taken f) (counts r.tree) (map view r.moves) s.stands.rules
        (subst (λ z. Leads (scripts g x.taken f) z (map view r.moves) (counts r.tree)) s.zeros l.0) in
        omega (arith, b, c, d, e)

run_is : SeenIsFirst → (g : Write) (first : ℕ) (seen : List Note) (x : Stand) (f : Future) → UnderwayAt g first seen x → Open x.heard f
    → seen ≡ map note (run (cut (scripts g x.taken f)) Zeros g.schedule (length seen))
run_is firsts g first seen x f u o = on (u f o)
  where
    on : At g first seen x f → seen ≡ map note (run (cut (scripts g x.taken f)) Zeros g.schedule (length seen))
    on (r, shown) =
        let rules : KeepsRules (scripts g x.taken f) = (at_start g x.taken f seen x.history (tracked g x) r).stands.rules in
        firsts g x.taken f seen x.history (tracked g x) r ∙ ap (map note) (sym (same_runs (scripts g x.taken f) g.schedule (length seen) rules))

pub notes_are_first : SeenIsFirst → NotesAreFirst
notes_are_first firsts g first seen x f u o = run_is_front (cut (scripts g x.taken f)) g.schedule seen (run_is firsts g first seen x f u o)

pub notes_are_within_work : SeenIsFirst → NotesAreWithinWork
notes_are_within_work firsts g first seen x f n u o i =
    noted_within (cut (scripts g x.taken f)) g.schedule (length seen) n (subst (λ z. In n z) (run_is firsts g first seen x f u o) i)

pub notes_are_fewer : SomethingIsReady → FewerSteps → NotesAreFewer
notes_are_fewer some fewer g first seen x f u o open_still = on (u f o)
  where
    on : At g first seen x f → length seen < work (cut (scripts g x.taken f))
    on (r, shown) =
        let going : all_over r.tree ≡ false = sym (finish_shows g (number_of (planned g x.taken f).pairs first) f x.machine r.tree (leads g x.taken f seen x.history (tracked g x) r).2 shown) ∙ open_still in
        let m : (m : TreeMove) × (nth (moves_at g r.tree) 0 ≡ Some m) = nth_there (moves_at g r.tree) 0 (some g x.taken f seen x.history (tracked g x) r going) in
        fewer g x.taken f seen x.history (tracked g x) r m.0 (nth_in (moves_at g r.tree) 0 m.0 m.1)

pub ready_is_more : FewerSteps → ReadyIsMore
ready_is_more fewer g first seen x a f law u o some = on (u f o)
  where
    on : At g first seen x f → length seen < work (cut (scripts g x.taken f))
    on (r, shown) =
        let is : length (ready_steps g first x.history a x.machine) ≡ length (moves_at g r.tree) = as_ready g x.taken f seen x.history (tracked g x) r first x.machine shown a law in
        let m : (m : TreeMove) × (nth (moves_at g r.tree) 0 ≡ Some m) = nth_there (moves_at g r.tree) 0 (subst (λ z. 0 < z) is some) in
        fewer g x.taken f seen x.history (tracked g x) r m.0 (nth_in (moves_at g r.tree) 0 m.0 m.1)

pub notes_are_whole : EndIsPlanned → SeenIsWhole → AllSteps → NotesAreWhole
notes_are_whole planned_end whole all g first seen x u s fin = on (u (none_later x.heard) (open_none x.heard))
  where
    told : scripts g x.taken (none_later x.heard) ≡ scripts_of g x.taken true
    told = ap (λ z. started_forest g.setting g.way g.type g.mark z x.heard) (append-nil x.taken) ∙ ap (scripts_of g x.taken) (ends_whole planned_end g first seen x u s fin).heard

    on : At g first seen x (none_later x.heard) → WholeTrace g seen (scripts_of g x.taken true)
    on (r, shown) =
        let over : all_over r.tree ≡ true = (write_ends g first x.taken (none_later x.heard) seen x.history (tracked g x) r x.machine shown fin).0 in
        let t : seen ≡ trace (cut (scripts_of g x.taken true)) g.schedule = (whole g x.taken (none_later x.heard) seen x.history (tracked g x) r (inl over)).1 ∙ ap (λ z. trace (cut z) g.schedule) told in
        let c : length seen ≡ work (cut (scripts_of g x.taken true)) = all g x.taken (none_later x.heard) seen x.history (tracked g x) r over ∙ ap (λ z. work (cut z)) told in
        record {
          trace_is = t;
          count_is = c;
          ready = λ n i. let h : n.ready ≤ work (cut (scripts_of g x.taken true)) =
              noted_within (cut (scripts_of g x.taken true)) g.schedule (work (cut (scripts_of g x.taken true))) n (subst (λ z. In n z) t i) in
              omega (arith, h, c);
        }

-- ---- a refusal

pub same_scripts : (g : Write) (taken : List ChunkData) (a : Answer) (f : Future) → scripts g taken (before a f) ≡ scripts g (taken_by taken a) f
same_scripts g taken unasked f = refl
same_scripts g taken (came b) f = ap (λ z. started_forest g.setting g.way g.type g.mark z f.fits) (sym (append_assoc taken (b ∷ []) f.later))
same_scripts g taken over f = refl

module _ (whole : SeenIsWhole) (g : Write) (first : ℕ) (seen : List Note) (x : Stand) (told : Answer) (f : Future) (k : ℕ) (w : WholeStep) (law : Careful g.setting)
    (o : Open (heard_by x.heard told) f) (place : nth (ready_steps g first x.history told x.machine) k ≡ Some w) (asks : Asks g.type f x.machine.phase k told)
    (pick : k ≡ first_pick (picks_after (length seen) g.schedule) % length (ready_steps g first x.history told x.machine)) where
  -- where the picked step is refused
  last_one : (w.misfit || is_some w.refusal) ≡ true → At g first seen x (before told f) → seen ≡ trace (cut (scripts g x.taken (before told f))) g.schedule
  last_one e (r, shown) =
      let m = move_of g first x.taken x.heard told f seen x.history (tracked g x) r x.machine k w law o shown place asks in
      let is : k ≡ pick_at g r.tree seen
      = pick ∙ ap (λ z. first_pick (picks_after (length seen) g.schedule) % z) (as_ready g x.taken (before told f) seen x.history (tracked g x) r first x.machine shown told law) in
      let refused : refuses m.0.act ≡ true = ap (λ z. z || is_some m.0.act.refusal) (sym m.2.misfit) ∙ ap (λ z. w.misfit || is_some z) (sym m.2.refusal) ∙ e in
      (whole g x.taken (before told f) seen x.history (tracked g x) r (inr (m.0, ap (nth (moves_at g r.tree)) (sym is) ∙ m.1, refused))).1

pub refusal_is_last : SeenIsWhole → RefusalIsLast
refusal_is_last whole g first seen x told f k w v law u o c e pick =
    last_one whole g first seen x told f k w law o c.place (asks_so g first x told k w f c) pick (ap (λ z. w.misfit || is_some z) e ∙ or_all w.misfit) (u (before told f) (open_before x.heard told f c.once o))
    ∙ ap (λ z. trace (cut z) g.schedule) (same_scripts g x.taken told f)

pub misfit_is_last : SeenIsWhole → MisfitIsLast
misfit_is_last whole g first seen x k w law u still at mis pick = by (misfit_is_read g first seen x unasked k w u at mis)
  where
    o : Open x.heard (none_later false)
    o = λ h. absurd (true≢false (sym h ∙ still))

    reads : (ns : Names) (p : Phase) (j : ℕ) → p ≡ reading ns → j ≡ 0 → Asks g.type (none_later false) p j unasked
    reads e p j q z = subst (λ y. Asks g.type (none_later false) y j unasked) (sym q) (subst (λ y. Asks g.type (none_later false) (reading e) y unasked) (sym z) (refl, refl))

    by : (ns : Names) × (x.machine.phase ≡ reading ns) × (k ≡ 0) × (unasked ≡ unasked) → seen ≡ trace (cut (scripts_of g x.taken false)) g.schedule
    by (e, q, z, r) =
        last_one whole g first seen x unasked (none_later false) k w law o at (reads e x.machine.phase k q z) pick (ap (λ y. y || is_some w.refusal) mis) (u (none_later false) o)
        ∙ ap (λ y. trace (cut (started_forest g.setting g.way g.type g.mark y false)) g.schedule) (append-nil x.taken)

-- ---- appends

kind_appends : (k : Kind) (bytes : List ℕ) → paths (written_by k bytes) ≡ appends_of k
kind_appends (Free w) bytes = refl
kind_appends Take bytes = refl
kind_appends TakeEnd bytes = refl
kind_appends (Put c) bytes = refl
kind_appends (Append p) bytes = refl
kind_appends Join bytes = refl

moves_append : (s : Setting) (d : Fuel) (t : Tree) (picks : List ℕ) (ms : List TreeMove) → paths (appended ms) ≡ appends_noted (notes s d t picks ms)
moves_append s d t picks [] = refl
moves_append s d t picks (m ∷ ms) =
    paths-append (written_by m.act.kind m.act.bytes) (appended ms) ∙ ap (λ z. z ++ paths (appended ms)) (kind_appends m.act.kind m.act.bytes)
    ∙ ap (λ z. appends_of m.act.kind ++ z) (moves_append s d m.after (later_picks picks) ms)

pub appends_are_noted : AppendsAreNoted
appends_are_noted g first seen x u = on (u (none_later x.heard) (open_none x.heard))
  where
    on : At g first seen x (none_later x.heard) → paths x.history ≡ appends_noted seen
    on (r, shown) =
        ap paths r.wrote ∙ moves_append g.setting (depth g) (begin g x.taken (none_later x.heard)) g.schedule r.moves ∙ ap appends_noted (sym r.seen_is)
