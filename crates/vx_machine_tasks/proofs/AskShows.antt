-- Where an image is asked for, the sink isn't.
use Rattle.std.proofs.Common.{◌≡◌, ℕ, Result, Ok, Err, IfOk, IfErr, inl, refl}
use Rattle.vx_write_answer.specs.declared.step.ActionKind.{ActionKind}
use Rattle.vx_write_answer.specs.declared.step.ActionKind.TheVariants as actions
use Rattle.vx_write_answer.specs.declared.error.WriteError.{WriteError}
use Rattle.vx_write_answer.specs.declared.error.WriteError.TheVariants.{CompressFault}
use Rattle.vx_machine_nodes.specs.Calls.{SinkStops, TaskTold}
use Rattle.vx_machine_node.specs.Causes.{MayCome, ActMay}
use Rattle.vx_machine_nodes.proofs.ActCauses.{wider}
use Rattle.vx_machine_nodes.proofs.CallSteps.{unasked_by, quiet_stops, quiet_told}
use Rattle.vx_machine_tasks.specs.Asking.{ImageMay}

pub image_may : (e : WriteError) → MayCome e → ImageMay e
image_may CompressFault h = absurd h
image_may e h = h

pub image_wider : (e : WriteError) → ImageMay e → ActMay e
image_wider CompressFault h = tt
image_wider e h = wider e h

module _ {S : Type 0} (faults : S → ℕ) (may must : S → ℕ → Type 0) (a b : S) (same : b ≡ a) where
  image_stops : (e : WriteError) → ImageMay e → SinkStops (faults a) (faults b) (may a) (may b) (must a) (must b) e
  image_stops CompressFault h = inl (unasked_by faults may must a b same)
  image_stops e h = quiet_stops faults may must a b same e h

  pub image_told : (r : Result ActionKind WriteError) → IfOk r (λ x. x ≡ actions.Call) → IfErr r ImageMay → TaskTold (faults a) (faults b) (may a) (may b) (must a) (must b) r (λ x. x)
  image_told (Ok x) is h = quiet_told faults may must a b same actions.Call refl refl (Ok x) is tt
  image_told (Err e) is h = image_stops e h
