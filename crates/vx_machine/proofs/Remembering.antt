-- Memory that runs out before a step is chosen.
use Rattle.std.proofs.Common.{◌≡◌, ℕ, zero, suc, ◌<◌, ◌%◌, List, [], ◌∷◌, length, Option, Some, refl, ◌∙◌, arith}
use Rattle.std.proofs.Math.Nat.{mod-lt}
use Rattle.std.specs.FinMap as fin
use Rattle.vx_model.specs.Ty.{Ty}
use Rattle.vx_model.specs.ChunkData.{ChunkData}
use Rattle.vx_tasks.specs.Run.{nth}
use Rattle.vx_sequence.specs.Universe.{Active}
use Rattle.vx_order.specs.Outlet.{Outlet}
use Rattle.vx_plan.specs.PlanData.{Setting}
use Rattle.vx_write_answer.specs.declared.error.WriteError.TheVariants.{OutOfMemory}
use Rattle.vx_machine_promises.specs.Write.{unasked}
use Rattle.vx_machine_view.specs.Machine as whole
use Rattle.vx_machine_view.proofs.Placing.{whole_is_ready}
use Rattle.vx_machine.specs.Steps.{StepRefused}
use Rattle.vx_machine.specs.View.{machine_of}
use Rattle.vx_machine.specs.Whole.{machine_ready}
use Rattle.vx_machine.specs.declared.machine.Machine.{Machine}
use Rattle.vx_machine.proofs.ReadyViews.{machine_view}
use Rattle.vx_machine.proofs.StepShows.{asks_not, tells_memory}

nth_there : {A : Type 0} (xs : List A) (k : ℕ) → k < length xs → (x : A) × (nth xs k ≡ Some x)
nth_there [] k h = absurd (omega (arith, h))
nth_there (x ∷ xs) zero h = (x, refl)
nth_there (x ∷ xs) (suc k) h = nth_there xs k (omega (arith, h))

-- whatever step it would have been
pub memory_first : (s : Setting) (u : Active) (number : ℕ) (t : Ty) (before : Outlet) (m : Machine) (pick counts : ℕ) (to_come : Option (List ChunkData)) → 0 < machine_ready u m
    → StepRefused s (fin.keys u) (pick % machine_ready u m) counts t to_come to_come before number (machine_of m) OutOfMemory
memory_first s u number t before m pick counts to_come some =
    let k : ℕ = pick % machine_ready u m in
    let less : k < machine_ready u m = mod-lt pick (omega (arith, some)) in
    let are : length (whole.whole_steps s (fin.keys u) number unasked (machine_of m)) ≡ machine_ready u m = whole_is_ready s (fin.keys u) number unasked (machine_of m) ∙ machine_view u m in
    let w = nth_there (whole.whole_steps s (fin.keys u) number unasked (machine_of m)) k (omega (arith, less, are)) in
    record {
      told = unasked;
      step = w.0;
      place = w.1;
      asks = asks_not (machine_of m).phase k;
      tells = tells_memory (machine_of m).phase k t to_come to_come refl;
      cause = tt;
      called = tt;
    }
