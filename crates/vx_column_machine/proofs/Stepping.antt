-- A step of a column's own machine, from what its parts tell.
use Rattle.std.proofs.Common.{◌≡◌, ◌%◌, ◌<◌, ◌∷◌, ◌++◌, ◌∙◌, ℕ, false, List, map, length, append-nil, refl, sym, ap, subst, inl, inr, Option, Some, []}
use Rattle.std.specs.FinMap as fin
use Rattle.std.specs.Global.{Vec}
use Rattle.vx_model.specs.Ty.{Ty}
use Rattle.vx_model.specs.ChunkData.{ChunkData}
use Rattle.vx_path.specs.Lists.{In}
use Rattle.vx_path.proofs.Sort.{from_sorted}
use Rattle.vx_sequence.specs.Universe.{Active, IsActive, IsLeast}
use Rattle.vx_tasks.specs.Rules.{AtLeast}
use Rattle.vx_plan.specs.PlanData.{Setting, Pair, paths as paths_of}
use Rattle.vx_plan.specs.Number.{path_of}
use Rattle.vx_sink.specs.declared.context.LayoutWriterContext.{LayoutWriterContext}
use Rattle.vx_write_answer.specs.declared.step.Step.{Step}
use Rattle.vx_write_answer.specs.declared.error.WriteError.{WriteError}
use Rattle.vx_write_answer.specs.declared.error.WriteError.TheVariants.{SourceFault, SinkFault}
use Rattle.vx_desk.specs.DeskView.{segments_in}
use Rattle.vx_machine_ids.specs.Balance.{Exact}
use Rattle.vx_machine_view.specs.Machine.{is_finished, machine_ids}
use Rattle.vx_machine_runs.specs.Courses.{CourseIsReady, CourseIsFront, CourseGoesOn, CourseHasCause, CourseMisfitIsRead}
use Rattle.vx_least_writes.specs.LeastWrites.{WritesLeast, StepsWriteLeast}
use Rattle.vx_machine_node.specs.Context.{setting_of}
use Rattle.vx_machine.proofs.ReservedSteps.{task_view}
use Rattle.vx_machine.specs.declared.machine.Machine.{Machine}
use Rattle.vx_machine.specs.View.{machine_of}
use Rattle.vx_machine.specs.Whole.{machine_stock, machine_reserved, machine_ready}
use Rattle.vx_machine.specs.Run.{ready_at}
use Rattle.vx_machine.specs.Steps.{StepFails, StepRefused}
use Rattle.vx_machine.specs.Progress.{LeadsOn, StepsOn}
use Rattle.vx_machine.proofs.RunSteps.{ready_held, fails_held}
use Rattle.vx_machine.proofs.Going.{pick_here}
use Rattle.vx_column_machine.specs.Course.{Course, write_of, outset_of, plan_of, StandsAt}
use Rattle.vx_column_machine.specs.Underway.{Wrote}
use Rattle.vx_column_machine.specs.Causes.{HasCause}
use Rattle.vx_column_machine.proofs.Begins.{can_taken}
use Rattle.vx_column_machine.proofs.Leading.{outlet, none_picked, has_come, stands_on, history_is, behind, at_least}
use Rattle.vx_column_machine.proofs.Writing.{kept_wrote, taken_one, taken_none, least_is, none_held}
use Rattle.vx_column_machine.proofs.Refusing.{refused_cause}

in_middle : (xs : List Pair) (p : Pair) (ys : List Pair) → In p ((xs ++ (p ∷ [])) ++ ys)
in_middle [] p ys = inl refl
in_middle (x ∷ xs) p ys = inr (in_middle xs p ys)

-- where it stands
module _ (x : Course) (u : Active) (m : Machine) (exact : Exact u (machine_stock m)) (to_come : Option (List ChunkData)) (written : ℕ) (paths : List (List ℕ)) (h : StandsAt x (machine_of m) to_come written paths) where
  -- something is ready until it has finished
  pub some_ready : CourseIsReady → is_finished (machine_of m) ≡ false → 0 < machine_ready u m
  some_ready ready going = subst (λ n. 0 < n) (ready_held u m exact x.setting) (subst (λ z. 0 < ready_at z) (sym h.machine_is)
      (ready (write_of x) (outset_of x).names (outset_of x).eof h.notes h.point (has_come x (machine_of m) to_come written paths h).come (can_taken x h.point.taken h.later h.taken) (ap is_finished (sym h.machine_is) ∙ going)))

  -- a step that was done leads on
  pub led : (setting : Setting) (t : Ty) (now : Option (List ChunkData)) (written_now : ℕ) (kept kept_now : List (List ℕ)) (new : Machine) (s : Step)
      → StepsOn setting t 0 to_come now (outlet written kept) (outlet written_now kept_now) (machine_of m) (machine_of new) s → setting ≡ x.setting → t ≡ x.column.type
      → LeadsOn (write_of x) (outset_of x).names (outset_of x).eof h.notes h.point to_come now (outlet written kept) (outlet written_now kept_now) (machine_of new) s
  led setting t now written_now kept kept_now new s on set typed =
      on (write_of x) (outset_of x).names (outset_of x).eof h.notes h.point (sym set) (sym typed) (sym (none_picked (length h.notes)) ∙ pick_here (length h.notes) []) (has_come x (machine_of m) to_come written paths h)

  -- why a step was refused
  pub cause_of : CourseHasCause → CourseMisfitIsRead → CourseGoesOn → CourseIsFront → (ctx : LayoutWriterContext) (image : ℕ → ChunkData → ChunkData) (counts : ℕ) (t : Ty) (now : Option (List ChunkData)) (kept : List (List ℕ)) (e : WriteError)
      → StepFails ctx image counts (fin.keys u) (0 % machine_ready u m) t to_come now (outlet written kept) (machine_of m) e → setting_of ctx image ≡ x.setting → t ≡ x.column.type → counts ≡ machine_reserved m
      → (e ≡ SourceFault → ⊥) → (e ≡ SinkFault → ⊥) → HasCause x e
  cause_of causes misfits on front ctx image counts t now kept e fails set typed reserved fed kept_whole =
      refused_cause x (machine_of m) to_come written paths h causes misfits on front now kept (0 % machine_ready u m) 0 counts
      (ap (λ z. 0 % z) (sym (ready_held u m exact x.setting))) (reserved ∙ sym (task_view m.root)) e
      (subst (λ z. StepRefused z (machine_ids (machine_of m)) (0 % machine_ready u m) counts x.column.type to_come now (outlet written kept) 0 (machine_of m) e) set
      (subst (λ z. StepRefused (setting_of ctx image) (machine_ids (machine_of m)) (0 % machine_ready u m) counts z to_come now (outlet written kept) 0 (machine_of m) e) typed
      (fails_held u m exact ctx image (0 % machine_ready u m) t to_come now (outlet written kept) counts e fails 0))) fed kept_whole

  -- ---- what it wrote
  module _ (now : Option (List ChunkData)) (written_now : ℕ) (kept kept_now : List (List ℕ)) (new : Machine) (s : Step)
      (l : LeadsOn (write_of x) (outset_of x).names (outset_of x).eof h.notes h.point to_come now (outlet written kept) (outlet written_now kept_now) (machine_of new) s) (picked : s.picked ≡ 0 % s.ready)
      (none : kept ≡ []) (least : StepsWriteLeast) (vs : List (Vec ℕ)) (are : segments_in vs ≡ kept_now) where
    writes : WritesLeast (machine_ids (machine_of m)) l.goes.step.wrote
    writes = subst (λ z. WritesLeast (machine_ids z) l.goes.step.wrote) (sym h.machine_is)
        (least x.setting (machine_ids h.point.machine) l.goes.number l.goes.told h.point.machine l.note.picked l.goes.step l.goes.place)

    kept_are : segments_in vs ≡ map (λ (p : Pair). p.1) l.goes.step.wrote
    kept_are = are ∙ kept_wrote written written_now kept kept_now l.goes.number (machine_ids (machine_of m)) l.goes.step.wrote writes l.sink none

    -- nothing
    pub stands_none : length vs ≡ 0 → StandsAt x (machine_of new) now written_now paths
    stands_none empty = stands_on x (machine_of m) to_come written paths h now kept kept_now written_now (machine_of new) s l picked paths
        (sym (append-nil paths) ∙ ap (λ w. paths ++ paths_of w) (sym (taken_none l.goes.step.wrote vs kept_are empty)))

    -- one segment
    module _ (front : CourseIsFront) (rest : List (Vec ℕ)) (v : Vec ℕ) (cut : vs ≡ rest ++ (v ∷ [])) where
      one : (p : Pair) × (l.goes.step.wrote ≡ p ∷ []) × (v.items ≡ p.1)
      one = taken_one (machine_ids (machine_of m)) l.goes.step.wrote vs rest v writes kept_are cut

      held_before : AtLeast (machine_ids (machine_of m)) one.0.0
      held_before = at_least x (machine_of m) to_come written paths h now kept kept_now written_now (machine_of new) s l picked front one.0 one.1

      pub some_active : u ≡ fin.empty → ⊥
      some_active e = none_held u m exact e one.0.0 held_before

      least_there : (a : List ℕ) → IsActive u a → IsLeast u a → a ≡ one.0.0
      least_there a active first = least_is u m exact a one.0 active first held_before (subst (λ w. WritesLeast (machine_ids (machine_of m)) w) one.1 writes)

      in_plan : In one.0 (plan_of x).pairs
      in_plan = from_sorted path_of one.0 (plan_of x).pairs (subst (In one.0) (sym (history_is x (machine_of m) to_come written paths h now kept kept_now written_now (machine_of new) s l picked front one.0 one.1))
          (in_middle h.point.history one.0 (behind x (machine_of m) to_come written paths h now kept kept_now written_now (machine_of new) s l picked front one.0 one.1).0))

      -- at the least path that was active
      pub wrote_on : (a : List ℕ) → IsActive u a → IsLeast u a → (paths_now : List (List ℕ)) → paths_now ≡ paths ++ (a ∷ [])
          → StandsAt x (machine_of new) now written_now paths_now × Wrote x paths paths_now (Some v)
      wrote_on a active first paths_now is = (
        stands_on x (machine_of m) to_come written paths h now kept kept_now written_now (machine_of new) s l picked paths_now (there ∙ ap (λ w. paths ++ paths_of w) (sym one.1)),
        (one.0, in_plan, there, one.2),
      )
        where
          there : paths_now ≡ paths ++ (one.0.0 ∷ [])
          there = is ∙ ap (λ z. paths ++ (z ∷ [])) (least_there a active first)
