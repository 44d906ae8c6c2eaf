-- The act that the schedule picks next, and the error as its own.
use Rattle.std.proofs.Common.{◌≡◌, ◌+◌, ◌%◌, ◌^◌, ◌<◌, ◌≤◌, ◌⊎◌, ◌∷◌, ◌++◌, ◌∙◌, ℕ, Bool, true, false, List, length, refl, sym, ap, subst, inl, inr, arith, Some, slice_index, append-nil, []}
use Rattle.std.proofs.lemmas.Bool.{true≢false}
use Rattle.vx_model.specs.ChunkData.{ChunkData}
use Rattle.vx_path.specs.Lists.{In}
use Rattle.vx_named_tasks.specs.Names.{Names}
use Rattle.vx_tasks.specs.Task.{Kind, Free, Take, TakeEnd, Put, Append, Join}
use Rattle.vx_tasks.specs.Run.{Note, nth, later_picks}
use Rattle.vx_plan.specs.PlanData.{Setting, Pair}
use Rattle.vx_order.specs.Outlet.{Outlet}
use Rattle.vx_order.specs.Answers.{IsShared, IsPast as PastLast}
use Rattle.vx_write_answer.specs.declared.step.Step.{Step}
use Rattle.vx_write_answer.specs.declared.error.WriteError.{WriteError}
use Rattle.vx_write_answer.specs.declared.error.WriteError.TheVariants.{SourceFault, SinkFault, CompressFault, BatchType, NotStruct, DuplicateField, ManyChunks, EmptyList, ZoneCut, ForbiddenAggregate, ForbiddenEncoding, TooLarge, OutOfMemory, Stopped}
use Rattle.vx_machine_turns.specs.Acts.{written_by}
use Rattle.vx_machine_turns.specs.Fuels.{Fuel}
use Rattle.vx_machine_steps.specs.Tree.{Tree, opened}
use Rattle.vx_machine_steps.specs.Moves.{TreeMove, machine_moves}
use Rattle.vx_machine_steps.specs.Runs.{RunsBy, notes}
use Rattle.vx_machine_steps.specs.StartPlanned.{started}
use Rattle.vx_machine_promises.specs.Write.{Write, Future, Answer, unasked, came, over, depth, begin, taken_by, heard_by, before}
use Rattle.vx_machine_promises.specs.Reached.{Reached, moves_at}
use Rattle.vx_machine_state.specs.Images.{Careful}
use Rattle.vx_machine_state.specs.State.{Tasks}
use Rattle.vx_machine_view.specs.Machine.{WholeStep, reading, source_step, machine_ids}
use Rattle.vx_machine_view.specs.Steps.{AllPairs}
use Rattle.vx_machine_view.specs.Underway.{Showing, ready_steps}
use Rattle.vx_machine_view.specs.Whole.{Asks}
use Rattle.vx_machine_view.proofs.Placing.{whole_is_ready}
use Rattle.vx_machine_runs.specs.Runs.{Stand, tracked, BeforeEnd, UnderwayAt}
use Rattle.vx_machine_runs.proofs.Ending.{none_later, open_none}
use Rattle.vx_machine_runs.proofs.Reaching.{as_ready, move_of}
use Rattle.vx_machine_runs.proofs.Stepping.{open_before}
use Rattle.vx_machine.specs.Outcome.{Refused, Past, Appending}
use Rattle.vx_machine.specs.TaskActing.{CallFails}
use Rattle.vx_machine.specs.SourceActs.{IsElsewhere}
use Rattle.vx_machine.specs.Progress.{ShowsNote}
use Rattle.vx_machine.specs.Run.{ready_at}
use Rattle.vx_write.specs.RefusedAct.{LeadTo, NextAct, IsRead, IsAppend, CountsPast, IsOwn}

-- why a step is refused over this sink, where the tracker counts so much
abbrev pub RefusedBy : ℕ → WholeStep → Outlet → WriteError → Type 0
RefusedBy counts w o e = Refused w.refusal w.misfit ((counts + w.raises) ∷ w.numbers) w.indices w.wrote (PastLast o) (IsShared o) w.joined e

-- a step is an act of the tasks
pub record SameAct (w : WholeStep) (m : TreeMove) : Type 0 where
  pub kind : w.kind ≡ m.act.kind
  pub refusal : w.refusal ≡ m.act.refusal
  pub misfit : w.misfit ≡ m.act.misfit
  pub numbers : w.numbers ≡ m.act.numbers
  pub indices : w.indices ≡ m.act.indices ++ opened m.room m.act.starts
  pub wrote : w.wrote ≡ written_by m.act.kind m.act.bytes
  pub raises : w.raises ≡ m.act.raises

-- ---- whose own the error is

written_appends : (k : Kind) (bytes : List ℕ) (x : Pair) → In x (written_by k bytes) → (p : List ℕ) × (k ≡ Append p)
written_appends (Append p) bytes x i = (p, refl)
written_appends (Free w) bytes x i = absurd i
written_appends Take bytes x i = absurd i
written_appends TakeEnd bytes x i = absurd i
written_appends (Put c) bytes x i = absurd i
written_appends Join bytes x i = absurd i

module _ (w : WholeStep) (m : TreeMove) (same : SameAct w m) (o : Outlet) (mine : IsShared o → ⊥) (heard : Bool) (next : ℕ) where
  appends : Appending w.wrote → IsAppend m.act
  appends a = written_appends m.act.kind m.act.bytes a.0 (subst (In a.0) same.wrote a.1)

  -- of a step that is no batch of another type
  module _ (fits : w.misfit ≡ false) (joined : (n : ℕ) → In n w.joined → n < 2 ^ 64) (last : (n : ℕ) → PastLast o n → (n ≡ next) × (2 ^ 32 ≤ n)) (counts : ℕ) where
    own_past : (n : ℕ) → Past w.numbers w.indices n → Past m.act.numbers (m.act.indices ++ opened m.room m.act.starts) n
    own_past n p = subst (λ z. Past z (m.act.indices ++ opened m.room m.act.starts) n) same.numbers (subst (λ z. Past w.numbers z n) same.indices p)

    counts_past : (n : ℕ) → Past ((counts + w.raises) ∷ w.numbers) w.indices n ⊎ (Appending w.wrote × PastLast o n) ⊎ (In n w.joined × (2 ^ 64 ≤ n)) → CountsPast m counts next n
    counts_past n (inl (inl (inl is, big))) = inr (inl (is ∙ ap (λ z. counts + z) same.raises, big))
    counts_past n (inl (inl (inr i, big))) = inl (own_past n (inl (i, big)))
    counts_past n (inl (inr p)) = inl (own_past n (inr p))
    counts_past n (inr (inl (a, p))) = inr (inr (appends a, (last n p).0, (last n p).1))
    counts_past n (inr (inr (i, big))) = let l : n < 2 ^ 64 = joined n i in absurd (omega (arith, l, big))

    pub is_own : (e : WriteError) → IsElsewhere e → CallFails w.kind e → RefusedBy counts w o e → IsOwn m counts heard next e
    is_own SourceFault far k h = absurd far
    is_own SinkFault far k h = appends h
    is_own CompressFault far k h = sym same.kind ∙ k
    is_own (BatchType c) far k h = absurd (true≢false (sym h ∙ fits))
    is_own NotStruct far k h = sym same.refusal ∙ h
    is_own (DuplicateField name) far k h = sym same.refusal ∙ h
    is_own ManyChunks far k h = sym same.refusal ∙ h
    is_own EmptyList far k h = sym same.refusal ∙ h
    is_own (ZoneCut n) far k h = sym same.refusal ∙ h
    is_own (ForbiddenAggregate id) far k h = sym same.refusal ∙ h
    is_own (ForbiddenEncoding id) far k h = sym same.refusal ∙ h
    is_own (TooLarge n) far k h = counts_past n h
    is_own OutOfMemory far k h = tt
    is_own (Stopped by name) far k h = absurd (mine h.1)

  -- of one in which the source reads, and no more of the type comes
  pub own_read : (d : Names) (root : Tasks) → w ≡ source_step unasked (reading d) root → heard ≡ false → IsRead m.act heard
  own_read d root is unheard = (sym same.kind ∙ ap (λ (z : WholeStep). z.kind) is, sym same.misfit ∙ ap (λ (z : WholeStep). z.misfit) is, unheard)

-- ---- the act that is picked

lead_to : (s : Setting) (d : Fuel) (t e : Tree) (picks : List ℕ) (steps : List Step) (ms : List TreeMove) → RunsBy s d t picks ms e → AllPairs ShowsNote steps (notes s d t picks ms) → LeadTo s d t steps ms e
lead_to s d t e picks [] [] r h = r
lead_to s d t e picks [] (m ∷ ms) r h = absurd h
lead_to s d t e picks (x ∷ steps) [] r h = absurd h
lead_to s d t e picks (x ∷ steps) (m ∷ ms) r h = (
  record { place = ap (nth (machine_moves s d t)) h.0.1 ∙ r.0; ready = h.0.0; task = h.0.2; action = h.0.3; unrefused = r.1 },
  lead_to s d m.after e (later_picks picks) steps ms r.2 h.1,
)

-- the start of the batches taken by then, where no more comes
same_begin : (g : Write) (taken : List ChunkData) (heard : Bool) (told : Answer)
    → begin g taken (before told (none_later (heard_by heard told))) ≡ started g.way g.type g.mark (taken_by taken told) (heard_by heard told)
same_begin g taken heard unasked = ap (λ z. started g.way g.type g.mark z heard) (append-nil taken)
same_begin g taken heard (came b) = refl
same_begin g taken heard over = ap (λ z. started g.way g.type g.mark z true) (append-nil taken)

module _ (g : Write) (first : ℕ) (seen : List Note) (x : Stand) (law : Careful g.setting) (u : UnderwayAt g first seen x) (schedule : List ℕ) (steps : List Step)
    (shown : AllPairs ShowsNote steps seen) (told : Answer) (once : BeforeEnd x.heard told) (k : ℕ) (w : WholeStep) (place : nth (ready_steps g first x.history told x.machine) k ≡ Some w)
    (asks : Asks g.type (none_later (heard_by x.heard told)) x.machine.phase k told) (pick : k ≡ slice_index schedule (length steps) % ready_at x.machine) where
  abbrev f : Future
  f = none_later (heard_by x.heard told)

  abbrev Next : Type 0
  Next = (a : NextAct g.setting g.way g.type g.mark g.tracker (taken_by x.taken told) (heard_by x.heard told) schedule steps) × (a.counts ≡ tracked g x) × SameAct w a.move

  on : (r : Reached g x.taken (before told f) seen x.history (tracked g x)) × Showing g first x.taken x.machine (before told f) r.tree → Next
  on (r, shows) =
      let m = move_of g first x.taken x.heard told f seen x.history (tracked g x) r x.machine k w law (open_none (heard_by x.heard told)) shows place asks in
      let size : ready_at x.machine ≡ length (moves_at g r.tree) =
      sym (whole_is_ready g.setting (machine_ids x.machine) (first + length x.history) told x.machine) ∙ as_ready g x.taken (before told f) seen x.history (tracked g x) r first x.machine shows told law in
      let at : slice_index schedule (length steps) % length (moves_at g r.tree) ≡ k = ap (λ z. slice_index schedule (length steps) % z) (sym size) ∙ sym pick in
      let led : LeadTo g.setting (depth g) (begin g x.taken (before told f)) steps r.moves r.tree =
      lead_to g.setting (depth g) (begin g x.taken (before told f)) r.tree g.schedule steps r.moves r.runs (subst (AllPairs ShowsNote steps) r.seen_is shown) in (
        record {
          stand = r.tree;
          moves = r.moves;
          led = subst (λ z. LeadTo g.setting (depth g) z steps r.moves r.tree) (same_begin g x.taken x.heard told) led;
          counts = tracked g x;
          counts_are = r.tracked;
          move = m.0;
          picked = ap (nth (moves_at g r.tree)) at ∙ m.1;
        },
        refl,
        record { kind = m.2.kind; refusal = m.2.refusal; misfit = m.2.misfit; numbers = m.2.numbers; indices = m.2.indices; wrote = m.2.wrote; raises = m.2.raises },
      )

  pub next_act : Next
  next_act = on (u (before told f) (open_before x.heard told f once (open_none (heard_by x.heard told))))
