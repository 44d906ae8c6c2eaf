-- One step more of a write.
use Rattle.std.proofs.Common.{◌≡◌, ◌+◌, ◌∷◌, ◌++◌, ◌∙◌, ℕ, Bool, false, List, length, refl, sym, ap, subst, arith, append_assoc, append-nil, []}
use Rattle.vx_model.specs.ChunkData.{ChunkData}
use Rattle.vx_tasks.specs.Run.{Note, nth}
use Rattle.vx_tasks.specs.Runs.{noted}
use Rattle.vx_tasks.proofs.Scripts.{no_true}
use Rattle.vx_named_tasks.specs.Names.{Outset, root_outset}
use Rattle.vx_plan.specs.PlanData.{Pair}
use Rattle.vx_machine_turns.specs.Acts.{written_by, raised_in, lowered_in}
use Rattle.vx_machine_steps.specs.Moves.{TreeMove, machine_moves}
use Rattle.vx_machine_steps.specs.Runs.{pick_of, RunsBy, notes, picks_after, acts_of, appended}
use Rattle.vx_machine_steps.specs.StartPlanned.{started_at}
use Rattle.vx_machine_steps.proofs.Noted.{notes_grow}
use Rattle.vx_machine_promises.specs.Write.{Write, Future, Open, Answer, unasked, came, over, depth, begin_at, taken_by, heard_by, before}
use Rattle.vx_machine_promises.specs.Reached.{ReachedAt, moves_at, pick_at, Stepped}
use Rattle.vx_machine_promises.specs.Promises.{StartIsReachedAt, StepIsReachedAt, StartIsReached, StepIsReached}
use Rattle.vx_machine_promises.proofs.Standing.{as_many_at}

pub start_is_reached_at : (o : Outset) → StartIsReachedAt o
start_is_reached_at o g f = (record { tree = begin_at g o [] f; moves = []; runs = refl; seen_is = refl; wrote = refl; tracked = refl }, refl)

pub start_is_reached : StartIsReached
start_is_reached = start_is_reached_at root_outset

-- what one more move appends and counts

pub appended_more : (ms : List TreeMove) (m : TreeMove) → appended (ms ++ (m ∷ [])) ≡ appended ms ++ written_by m.act.kind m.act.bytes
appended_more [] m = append-nil (written_by m.act.kind m.act.bytes)
appended_more (x ∷ ms) m = ap (λ z. written_by x.act.kind x.act.bytes ++ z) (appended_more ms m) ∙ sym (append_assoc (written_by x.act.kind x.act.bytes) (appended ms) (written_by m.act.kind m.act.bytes))

raised_more : (ms : List TreeMove) (m : TreeMove) → raised_in (acts_of (ms ++ (m ∷ []))) ≡ raised_in (acts_of ms) + m.act.raises
raised_more [] m = omega arith
raised_more (x ∷ ms) m = let h : raised_in (acts_of (ms ++ (m ∷ []))) ≡ raised_in (acts_of ms) + m.act.raises = raised_more ms m in omega (arith, h)

lowered_more : (ms : List TreeMove) (m : TreeMove) → lowered_in (acts_of (ms ++ (m ∷ []))) ≡ lowered_in (acts_of ms) + m.act.lowers
lowered_more [] m = omega arith
lowered_more (x ∷ ms) m = let h : lowered_in (acts_of (ms ++ (m ∷ []))) ≡ lowered_in (acts_of ms) + m.act.lowers = lowered_more ms m in omega (arith, h)

module _ (g : Write) (o : Outset) (taken : List ChunkData) (f : Future) (seen : List Note) (history history_then : List Pair) (tracker tracker_then : ℕ) (n : Note)
    (r : ReachedAt g o taken f seen history tracker) (st : Stepped g r.tree seen n history history_then tracker tracker_then) where
  same_pick : pick_at g r.tree seen ≡ pick_of g.setting (depth g) r.tree (picks_after (length r.moves) g.schedule)
  same_pick = ap (λ z. pick_of g.setting (depth g) r.tree (picks_after z g.schedule)) (as_many_at g o taken f seen history tracker r)

  grown : RunsBy g.setting (depth g) (begin_at g o taken f) g.schedule (r.moves ++ (st.move ∷ [])) st.move.after
      × (notes g.setting (depth g) (begin_at g o taken f) g.schedule (r.moves ++ (st.move ∷ [])) ≡ notes g.setting (depth g) (begin_at g o taken f) g.schedule r.moves
      ++ (noted (length (machine_moves g.setting (depth g) r.tree)) (pick_of g.setting (depth g) r.tree (picks_after (length r.moves) g.schedule)) st.move.name st.move.act.kind ∷ []))
  grown = notes_grow g.setting (depth g) (begin_at g o taken f) r.tree g.schedule r.moves st.move r.runs (ap (nth (moves_at g r.tree)) (sym same_pick) ∙ st.picked) st.done

  pub reached_then : ReachedAt g o taken f (seen ++ (n ∷ [])) history_then tracker_then
  reached_then = record {
    tree = st.move.after;
    moves = r.moves ++ (st.move ∷ []);
    runs = grown.0;
    seen_is = ap (λ z. z ++ (n ∷ [])) r.seen_is
        ∙ ap (λ z. notes g.setting (depth g) (begin_at g o taken f) g.schedule r.moves ++ (z ∷ []))
        (st.note_is ∙ ap (λ z. noted (length (moves_at g r.tree)) z st.move.name st.move.act.kind) same_pick)
        ∙ sym grown.1;
    wrote = st.wrote ∙ ap (λ z. z ++ written_by st.move.act.kind st.move.act.bytes) r.wrote ∙ sym (appended_more r.moves st.move);
    tracked = let a : raised_in (acts_of (r.moves ++ (st.move ∷ []))) ≡ raised_in (acts_of r.moves) + st.move.act.raises = raised_more r.moves st.move in
        let b : lowered_in (acts_of (r.moves ++ (st.move ∷ []))) ≡ lowered_in (acts_of r.moves) + st.move.act.lowers = lowered_more r.moves st.move in
        let c : tracker_then + st.move.act.lowers ≡ tracker + st.move.act.raises = st.tracked in
        let e : tracker + lowered_in (acts_of r.moves) ≡ g.tracker + raised_in (acts_of r.moves) = r.tracked in
        omega (arith, a, b, c, e);
  }

-- the same run, from a start that is the same
moved_over : (g : Write) (o : Outset) (xs ys : List ChunkData) (f h : Future) (seen : List Note) (history : List Pair) (tracker : ℕ) → begin_at g o xs f ≡ begin_at g o ys h → (r : ReachedAt g o xs f seen history tracker)
    → (q : ReachedAt g o ys h seen history tracker) × (q.tree ≡ r.tree)
moved_over g o xs ys f h seen history tracker e r = (
  record {
    tree = r.tree;
    moves = r.moves;
    runs = subst (λ z. RunsBy g.setting (depth g) z g.schedule r.moves r.tree) e r.runs;
    seen_is = r.seen_is ∙ ap (λ z. notes g.setting (depth g) z g.schedule r.moves) e;
    wrote = r.wrote;
    tracked = r.tracked;
  },
  refl,
)

same_begin : (g : Write) (o : Outset) (taken : List ChunkData) (a : Answer) (f : Future) → begin_at g o taken (before a f) ≡ begin_at g o (taken_by taken a) f
same_begin g o taken unasked f = refl
same_begin g o taken (came b) f = ap (λ z. started_at g.way g.type g.mark o z f.fits) (sym (append_assoc taken (b ∷ []) f.later))
same_begin g o taken over f = refl

pub step_is_reached_at : (o : Outset) → StepIsReachedAt o
unfolding reached_then
step_is_reached_at o g taken a f seen history history_then tracker tracker_then n r st =
    moved_over g o taken (taken_by taken a) (before a f) f (seen ++ (n ∷ [])) history_then tracker_then (same_begin g o taken a f)
    (reached_then g o taken (before a f) seen history history_then tracker tracker_then n r st)

pub step_is_reached : StepIsReached
step_is_reached = step_is_reached_at root_outset

-- A write that is under way goes on so, where a batch comes only while the end isn't told; `Then` is what the machine shows then.

abbrev pub Asked : Bool → Answer → Type 0
Asked heard unasked = Unit {0}
Asked heard (came b) = heard ≡ false
Asked heard over = Unit {0}

open_before : (heard : Bool) (a : Answer) (f : Future) → Asked heard a → Open (heard_by heard a) f → Open heard (before a f)
open_before heard unasked f k o = o
open_before heard (came b) f k o = λ h. absurd (no_true k h)
open_before heard over f k o = λ h. o refl
