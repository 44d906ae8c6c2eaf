-- A batch of another type is found where the source reads.
use Rattle.std.proofs.Common.{◌≡◌, ◌+◌, ◌∙◌, ℕ, true, length, refl, sym, ap, subst, inl, inr, Some, None}
use Rattle.vx_named_tasks.specs.Names.{Names}
use Rattle.vx_tasks.specs.Run.{nth}
use Rattle.vx_plan.specs.SourcePlan.{start_fault}
use Rattle.vx_machine_turns.specs.Planned.{StartFaultsAgree}
use Rattle.vx_sink.specs.ContextView.{is_marked}
use Rattle.vx_write_answer.specs.declared.error.WriteError.TheVariants.{BatchType, OutOfMemory}
use Rattle.vx_machine_promises.specs.Write.{Write, Answer, unasked}
use Rattle.vx_machine_view.specs.Machine.{reading, Machine, whole_steps, machine_ids}
use Rattle.vx_machine_runs.specs.Runs.{outset, scheduled, UnderwayAt, RunIsUnderway}
use Rattle.vx_machine_runs.proofs.Misfits.{misfit_is_read}
use Rattle.vx_machine_runs.proofs.Stepping.{places}
use Rattle.vx_machine.specs.Calls.{reads_at}
use Rattle.vx_machine.specs.Context.{setting_of}
use Rattle.vx_machine.specs.Steps.{StepRefused}
use Rattle.vx_machine.specs.Run.{picked_at, tracker_by, Stops}
use Rattle.vx_write.specs.Ran.{write_by, Onward}
use Rattle.vx_write.specs.Answered.{MisfitsAreRead}
use Rattle.vx_write.proofs.Imaging.{keeps_careful}
use Rattle.vx_write.proofs.Leading.{runs_are_led}
use Rattle.vx_write.proofs.Writing.{under}

pub misfits_are_read : RunIsUnderway → StartFaultsAgree → MisfitsAreRead
misfits_are_read run agree ctx image w t schedule to_come to_come_now borrow first before steps after c keeps a r = by r.stops
  where
    g : Write
    g = write_by ctx image w t

    clean : start_fault (setting_of ctx image) w t (is_marked ctx) ≡ None
    clean = sym (agree (setting_of ctx image) w t (is_marked ctx)) ∙ a.allowed (setting_of ctx image) refl

    o : Onward g to_come borrow first before schedule 0 (outset g) steps r.end
    o = runs_are_led ctx image w t schedule to_come borrow first before steps r.end r.ran

    u : UnderwayAt (scheduled g (places o.notes)) first o.notes o.stand
    u = under ctx image w t to_come borrow first before (keeps_careful ctx image keeps) clean schedule steps r.end o run

    no_memory : BatchType c ≡ OutOfMemory → ⊥
    no_memory e = cc

    reads : (k : ℕ) (told : Answer) → (d : Names) × (o.stand.machine.phase ≡ reading d) × (k ≡ 0) × (told ≡ unasked) → reads_at r.end.machine.phase k ≡ true
    reads k told (d, p, z, q) = ap (λ (m : Machine). reads_at m.phase k) o.same.machine_is ∙ ap (λ v. reads_at v k) p ∙ ap (λ v. reads_at (reading d) v) z

    refused : (k : ℕ) → StepRefused (setting_of ctx image) (machine_ids r.end.machine) k (tracker_by ctx r.end.machine) t r.end.to_come to_come_now r.end.outlet (first + length o.stand.history) r.end.machine (BatchType c)
        → reads_at r.end.machine.phase k ≡ true
    refused k x = reads k x.told (misfit_is_read (scheduled g (places o.notes)) first o.notes o.stand x.told k x.step u
        (subst (λ m. nth (whole_steps (setting_of ctx image) (machine_ids m) (first + length o.stand.history) x.told m) k ≡ Some x.step) o.same.machine_is x.place) x.cause)

    by : Stops ctx image t schedule (length steps) r.end to_come_now (BatchType c) → reads_at r.end.machine.phase (picked_at schedule (length steps) r.end.machine) ≡ true
    by (inl (e, same, going)) = absurd (no_memory e)
    by (inr (some, fails)) = refused _ (fails (first + length o.stand.history))
