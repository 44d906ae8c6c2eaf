-- The steps of a run show the notes of its trace, and what they call.
use Rattle.std.proofs.Common.{◌≡◌, ◌+◌, ◌%◌, ◌∷◌, ◌++◌, ◌∙◌, ℕ, suc, true, false, List, take, length, refl, sym, ap, subst, arith, Option, Some, None, if◌then◌else◌, slice_index, length-append, []}
use Rattle.vx_model.specs.Words.{total_by}
use Rattle.vx_model.specs.Ty.{Ty}
use Rattle.vx_model.specs.ChunkData.{ChunkData}
use Rattle.vx_tasks.specs.Task.{Kind, Free, Take, TakeEnd, Put, Append, Join, Batch, End, Call, Close, appends_of}
use Rattle.vx_tasks.specs.Run.{Note, nth, trace, first_pick}
use Rattle.vx_cut_laws.specs.Cut.{cut}
use Rattle.vx_strategy_spec.specs.StrategyData.{StrategyData}
use Rattle.vx_plan.specs.PlanData.{Pair, What, paths}
use Rattle.vx_plan.specs.SourcePlan.{start_fault}
use Rattle.vx_sink.specs.declared.context.LayoutWriterContext.{LayoutWriterContext}
use Rattle.vx_sink.specs.ContextView.{is_marked}
use Rattle.vx_write_answer.specs.declared.step.Step.{Step}
use Rattle.vx_machine_steps.specs.Runs.{picks_after}
use Rattle.vx_machine_promises.specs.Write.{Write, Future, Open, Answer, unasked, scripts, taken_by, heard_by}
use Rattle.vx_machine_state.specs.Images.{Careful}
use Rattle.vx_machine_view.specs.Machine.{WholeStep, is_finished, machine_ids}
use Rattle.vx_machine_view.specs.Steps.{AllPairs}
use Rattle.vx_machine_view.specs.Underway.{ready_steps}
use Rattle.vx_machine_view.proofs.Placing.{whole_is_ready}
use Rattle.vx_machine_view.proofs.Words.{pairs_length}
use Rattle.vx_machine_runs.specs.Runs.{outset, Chosen, scheduled, UnderwayAt, RunByIsUnderway}
use Rattle.vx_machine_runs.specs.Answers.{batch_read, end_read}
use Rattle.vx_machine_runs.specs.Traces.{scripts_of, NotesAreFirst, WholeTrace, NotesAreWhole, RefusalIsLast, MisfitIsLast, appends_noted}
use Rattle.vx_machine_runs.proofs.Asking.{answers_are_noted}
use Rattle.vx_machine_runs.proofs.Stepping.{places, schedule_is_free}
use Rattle.vx_machine_runs.proofs.Tracing.{appends_are_noted}
use Rattle.vx_machine.specs.TaskCalls.{reads_action, append_action}
use Rattle.vx_machine.specs.Calls.{reads_in, appends_in}
use Rattle.vx_machine.specs.Context.{setting_of}
use Rattle.vx_machine.specs.Outcome.{action_of}
use Rattle.vx_machine.specs.Run.{At, ready_at}
use Rattle.vx_machine.proofs.Going.{pick_here}
use Rattle.vx_write.specs.Ran.{write_by, Onward}
use Rattle.vx_machine.specs.Progress.{ShowsNote}
use Rattle.vx_fault.specs.Told.{answers_in}
use Rattle.vx_write.specs.Traced.{IsTraced}

-- ---- lists of steps

kind_reads : (k : Kind) → reads_action (action_of k) ≡ batch_read k + end_read k
kind_reads (Free Batch) = refl
kind_reads (Free End) = refl
kind_reads (Free Call) = refl
kind_reads (Free Close) = refl
kind_reads Take = refl
kind_reads TakeEnd = refl
kind_reads (Put c) = refl
kind_reads (Append p) = refl
kind_reads Join = refl

kind_appends : (k : Kind) → append_action (action_of k) ≡ length (appends_of k)
kind_appends (Free Batch) = refl
kind_appends (Free End) = refl
kind_appends (Free Call) = refl
kind_appends (Free Close) = refl
kind_appends Take = refl
kind_appends TakeEnd = refl
kind_appends (Put c) = refl
kind_appends (Append p) = refl
kind_appends Join = refl

shown_reads : (steps : List Step) (ns : List Note) → AllPairs ShowsNote steps ns → reads_in steps ≡ total_by (λ n. batch_read n.kind) ns + total_by (λ n. end_read n.kind) ns
shown_reads [] [] h = refl
shown_reads [] (n ∷ ns) h = absurd h
shown_reads (s ∷ steps) [] h = absurd h
shown_reads (s ∷ steps) (n ∷ ns) h =
    let a : reads_action s.action ≡ batch_read n.kind + end_read n.kind = ap reads_action h.0.3 ∙ kind_reads n.kind in
    let b : reads_in steps ≡ total_by (λ n. batch_read n.kind) ns + total_by (λ n. end_read n.kind) ns = shown_reads steps ns h.1 in
    omega (arith, a, b)

shown_appends : (steps : List Step) (ns : List Note) → AllPairs ShowsNote steps ns → appends_in steps ≡ length (appends_noted ns)
shown_appends [] [] h = refl
shown_appends [] (n ∷ ns) h = absurd h
shown_appends (s ∷ steps) [] h = absurd h
shown_appends (s ∷ steps) (n ∷ ns) h =
    let a : append_action s.action ≡ length (appends_of n.kind) = ap append_action h.0.3 ∙ kind_appends n.kind in
    let b : appends_in steps ≡ length (appends_noted ns) = shown_appends steps ns h.1 in
    let c : length (appends_of n.kind ++ appends_noted ns) ≡ length (appends_of n.kind) + length (appends_noted ns) = length-append (appends_of n.kind) (appends_noted ns) in
    omega (arith, a, b, c)

paths_length : (ps : List Pair) → length (paths ps) ≡ length ps
paths_length [] = refl
paths_length (p ∷ ps) = ap suc (paths_length ps)

-- ---- a run

module _ (ctx : LayoutWriterContext) (image : ℕ → ChunkData → ChunkData) (w : StrategyData) (t : Ty) (to_come : Option (List ChunkData)) (borrow first : ℕ) (stood : Option (List (List ℕ)))
    (law : Careful (setting_of ctx image)) (clean : start_fault (setting_of ctx image) w t (is_marked ctx) ≡ None)
    (schedule : List ℕ) (steps : List Step) (y : At) (o : Onward (write_by ctx image w t) to_come borrow first stood schedule 0 (outset (write_by ctx image w t)) steps y) where
  abbrev g : Write
  g = write_by ctx image w t

  as_many : length steps ≡ length o.notes
  as_many = pairs_length ShowsNote steps o.notes o.shown

  -- the source was asked for each batch taken, and for its end
  pub reads_are : reads_in steps ≡ answers_in o.stand.taken o.stand.heard
  reads_are =
      let a : reads_in steps ≡ total_by (λ n. batch_read n.kind) o.notes + total_by (λ n. end_read n.kind) o.notes = shown_reads steps o.notes o.shown in
      let n : (total_by (λ n. batch_read n.kind) o.notes ≡ length o.stand.taken) × (total_by (λ n. end_read n.kind) o.notes ≡ (if o.stand.heard then 1 else 0)) = answers_are_noted g first o.notes o.stand o.led in
      a ∙ ap (λ z. z + total_by (λ n. end_read n.kind) o.notes) n.0 ∙ ap (λ z. length o.stand.taken + z) n.1

  -- and the sink for each segment
  pub appends_are : UnderwayAt (scheduled g (places o.notes)) first o.notes o.stand → length o.stand.history ≡ appends_in steps
  appends_are u =
      sym (paths_length o.stand.history) ∙ ap length (appends_are_noted (scheduled g (places o.notes)) first o.notes o.stand u) ∙ sym (shown_appends steps o.notes o.shown)

  -- the write is under way there by the schedule
  by_schedule : RunByIsUnderway → UnderwayAt (scheduled g schedule) first o.notes o.stand
  by_schedule run = run (scheduled g schedule) first o.notes o.stand law clean o.picked (schedule_is_free g first schedule (outset g) o.stand o.notes o.led)

  pub traced_whole : RunByIsUnderway → NotesAreWhole → is_finished o.stand.machine ≡ true → o.stand.heard ≡ true → IsTraced (setting_of ctx image) w t (is_marked ctx) schedule o.stand.taken steps
  traced_whole run whole fin heard = record {
    steps_are = subst (λ z. AllPairs ShowsNote steps z) traced.trace_is o.shown;
    count = as_many ∙ traced.count_is;
    asked = reads_are ∙ ap (λ z. answers_in o.stand.taken z) heard;
  }
    where
      traced : WholeTrace (scheduled g schedule) o.notes (scripts_of g o.stand.taken true)
      traced = whole (scheduled g schedule) first o.notes o.stand (by_schedule run) clean fin

  pub traced_front : RunByIsUnderway → NotesAreFirst → (f : Future) → Open o.stand.heard f → AllPairs ShowsNote steps (take (length steps) (trace (cut (scripts g o.stand.taken f)) schedule))
  traced_front run front f may =
      subst (λ z. AllPairs ShowsNote steps z)
      (front (scheduled g schedule) first o.notes o.stand f (by_schedule run) may ∙ ap (λ z. take z (trace (cut (scripts g o.stand.taken f)) schedule)) (sym as_many)) o.shown

  -- the step that is picked next
  module _ (run : RunByIsUnderway) (told : Answer) (k : ℕ) (pick : k ≡ slice_index schedule (length steps) % ready_at y.machine) where
    abbrev size : ℕ
    size = length (ready_steps g first o.stand.history told o.stand.machine)

    size_is : ready_at y.machine ≡ size
    size_is = ap ready_at o.same.machine_is ∙ sym (whole_is_ready (setting_of ctx image) (machine_ids o.stand.machine) (first + length o.stand.history) told o.stand.machine)

    picked : k ≡ first_pick (picks_after (length o.notes) schedule) % size
    picked = pick ∙ ap (λ z. slice_index schedule z % ready_at y.machine) as_many ∙ ap (λ z. slice_index schedule (length o.notes) % z) size_is
        ∙ ap (λ z. z % size) (sym (pick_here (length o.notes) schedule))

    -- it refuses
    pub refused_last : RefusalIsLast → (f : Future) → Open (heard_by o.stand.heard told) f → (w : WholeStep) (v : What) → Chosen (scheduled g schedule) first o.stand told k w → w.refusal ≡ Some v
        → AllPairs ShowsNote steps (trace (cut (scripts g (taken_by o.stand.taken told) f)) schedule)
    refused_last last f may w v c e = subst (λ z. AllPairs ShowsNote steps z) (last (scheduled g schedule) first o.notes o.stand told f k w v law (by_schedule run) may c e picked) o.shown

  -- it finds a batch of another type
  pub misfit_last : RunByIsUnderway → MisfitIsLast → (k : ℕ) → k ≡ slice_index schedule (length steps) % ready_at y.machine → o.stand.heard ≡ false
      → (w : WholeStep) → nth (ready_steps g first o.stand.history unasked o.stand.machine) k ≡ Some w → w.misfit ≡ true → AllPairs ShowsNote steps (trace (cut (scripts_of g o.stand.taken false)) schedule)
  misfit_last run last k pick unheard w at misfit =
      subst (λ z. AllPairs ShowsNote steps z) (last (scheduled g schedule) first o.notes o.stand k w law (by_schedule run) unheard at misfit (picked run unasked k pick)) o.shown
