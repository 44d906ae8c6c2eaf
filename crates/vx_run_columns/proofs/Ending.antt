-- The ends of columns that a job lets fail.
use Rattle.std.proofs.Common.{◌≡◌, ℕ, zero, suc, IsTrue, List, [], ◌∷◌, All, Some, refl, ap, subst, arith}
use Rattle.vx_model.specs.ChunkData.{ChunkData}
use Rattle.vx_fault.specs.Fails.{fails_at}
use Rattle.vx_job.specs.JobText.{JobData}
use Rattle.vx_write_answer.specs.declared.error.WriteError.{WriteError}
use Rattle.vx_write_answer.specs.declared.error.WriteError.TheVariants as errors
use Rattle.vx_write_columns.specs.Ends.{End, IsEnd, EndPressed, AllPressed, EndsTell, IsFirstRefusal}
use Rattle.vx_run.specs.Answers.{job_setting}
use Rattle.vx_run_columns.specs.BesideAnswers.{IsLetEnd, AllLetEnd, IsFirstBeside}
use Rattle.vx_run_columns.specs.Compressors.{FailsBy}
use Rattle.vx_run_columns.proofs.Failing.{some_listed}

module _ (j : JobData) where
  abbrev SinkListed : Type 0
  SinkListed = (k : ℕ) × IsTrue (fails_at j.options.faults.sink k)

  abbrev PressListed : Type 0
  PressListed = (k : ℕ) × IsTrue (fails_at j.options.faults.compress k)

  let_by : (o : End) → (o ≡ Some errors.SinkFault → SinkListed) → (o ≡ Some errors.CompressFault → PressListed) → IsLetEnd j o
  let_by (Some errors.SinkFault) of_sink of_press = of_sink refl
  let_by (Some errors.CompressFault) of_sink of_press = of_press refl
  let_by o of_sink of_press = tt

  module _ {C : Type 0} (faults : C → ℕ) (may : C → ℕ → Type 0) where
    abbrev AllBy : List C → Type 0
    AllBy cs = All (λ c. FailsBy j.options.faults.compress (faults c) (may c)) cs

    -- a column whose compressor failed
    press_listed : (b n : C) (o : End) → FailsBy j.options.faults.compress (faults b) (may b) → EndPressed (faults b) (faults n) (may b) o → o ≡ Some errors.CompressFault → PressListed
    press_listed b n o by pressed is =
        some_listed j.options.faults.compress by.listed (subst (λ (z : End). EndPressed (faults b) (faults n) (may b) z) is pressed).1

    all_let : (lent returned : List C) (ends : List End) → AllBy lent → (IsEnd errors.SinkFault ends → SinkListed) → AllPressed faults may lent returned ends → AllLetEnd j ends
    all_let [] [] [] by of_sink pressed = tt
    all_let (b ∷ bs) (n ∷ ns) (o ∷ ends) by of_sink pressed =
        let first : FailsBy j.options.faults.compress (faults b) (may b) = by 0 b (omega arith) in (
          let_by o (λ is. of_sink (0, ap Some is)) (press_listed b n o first pressed.0),
          all_let bs ns ends (λ k d less. by (suc k) d (omega (arith, less))) (λ e. of_sink (suc e.0, e.1)) pressed.1,
        )
    all_let lent returned ends by of_sink pressed = absurd pressed

    -- the first refusal of columns that are told so
    pub ended_let : (lent returned : List C) {sink sink_now : ℕ} {sink_may : ℕ → Type 0} → ((k : ℕ) → sink_may k → IsTrue (fails_at j.options.faults.sink k)) → AllBy lent → (taken : List ChunkData) (e : WriteError)
        → IsFirstRefusal (job_setting j) j.strategy j.schema j.options.marked j.options.next (EndsTell sink sink_now sink_may faults may lent returned) taken e → IsFirstBeside j taken e
    ended_let lent returned listed by taken e h = record {
      ends = h.ends;
      all = h.all;
      told = all_let lent returned h.ends by (λ is. some_listed j.options.faults.sink listed (h.told.sink_failed is).1) h.told.pressed;
      first_is = h.first_is;
    }
