-- The source's act is a step of the machine, and so is each step of the root.
use Rattle.std.proofs.Common.{◌≡◌, ℕ, zero, suc, ◌+◌, Bool, true, List, [], ◌∷◌, inr, Option, Some, None, option_map, refl, sym, ap, subst, ◌∙◌, arith}
use Rattle.vx_model.specs.Ty.{Ty}
use Rattle.vx_model.specs.ChunkData.{ChunkData}
use Rattle.vx_tasks.specs.Run.{nth}
use Rattle.vx_order.specs.Outlet.{Outlet}
use Rattle.vx_order.specs.Answers.{IsPast, IsShared}
use Rattle.vx_plan.specs.PlanData.{Setting, Pair, What}
use Rattle.vx_write_answer.specs.declared.step.ActionKind.{ActionKind}
use Rattle.vx_write_answer.specs.declared.error.WriteError.{WriteError}
use Rattle.vx_write_answer.specs.declared.error.WriteError.TheVariants.{OutOfMemory}
use Rattle.vx_machine_promises.specs.Write.{Answer, unasked, came, over}
use Rattle.vx_machine_state.specs.State.{Tasks}
use Rattle.vx_machine_state.specs.Moves.{Step, steps}
use Rattle.vx_machine_view.specs.Machine as whole
use Rattle.vx_machine_state.specs.Places.{one_if}
use Rattle.vx_machine_view.proofs.Placing.{source_place, root_place}
use Rattle.vx_machine_nodes.specs.Acting.{Behind}
use Rattle.vx_machine.specs.Source.{SourceMay}
use Rattle.vx_machine.specs.SourceActs.{AsksAt, IsElsewhere, TellsNothing, TellsRefused, whole_at, SourceActed, SourceRefused}
use Rattle.vx_machine_tasks.specs.Steps.{TaskStepped, TaskRefused}
use Rattle.vx_machine.specs.Steps.{WholeStepped, StepRefused}
use Rattle.vx_machine_node.specs.Outcome.{Refused, none_past}
use Rattle.vx_machine_nodes.proofs.RefusalSteps.{wider}
use Rattle.vx_machine.proofs.ActCauses.{source_uncalled}

pub asks_not : (p : whole.Phase) (k : ℕ) → AsksAt p k unasked
asks_not (whole.reading ns) zero = tt
asks_not (whole.reading ns) (suc k) = refl
asks_not (whole.giving ns i) k = refl
asks_not whole.closing k = refl
asks_not whole.finished k = refl

tells_none : (p : whole.Phase) (root : Tasks) (k j : ℕ) (t : Ty) (before now : Option (List ChunkData)) (e : WriteError) → k ≡ one_if (whole.may_source p root) + j → now ≡ before → IsElsewhere e → TellsNothing p k t before now e
tells_none (whole.reading ns) root zero j t before now e is h n = absurd (omega (arith, is))
tells_none (whole.reading ns) root (suc k) j t before now e is h n = (h, n)
tells_none (whole.giving ns i) root k j t before now e is h n = (h, n)
tells_none whole.closing root k j t before now e is h n = (h, n)
tells_none whole.finished root k j t before now e is h n = (h, n)

pub tells_memory : (p : whole.Phase) (k : ℕ) (t : Ty) (before now : Option (List ChunkData)) → now ≡ before → TellsNothing p k t before now OutOfMemory
tells_memory (whole.reading ns) zero t before now h = (h, tt, tt)
tells_memory (whole.reading ns) (suc k) t before now h = (h, tt)
tells_memory (whole.giving ns i) k t before now h = (h, tt)
tells_memory whole.closing k t before now h = (h, tt)
tells_memory whole.finished k t before now h = (h, tt)

-- whatever numbers of segments don't fit, and whatever else is counted
any_count : (r : Option What) (b : Bool) (k : ℕ) (ns is : List ℕ) (w : List Pair) (past : ℕ → Type 0) (stopped : Type 0) (hs : List ℕ) (e : WriteError) → Refused r b ns is w none_past ⊥ hs e → Refused r b (k ∷ ns) is w past stopped hs e
any_count r b k ns is w past stopped hs = wider w hs r r b b ns (k ∷ ns) is is none_past past ⊥ stopped (λ x h. h) (λ h. h) (λ n h. inr h) (λ n h. h) (λ n h. absurd h) (λ h. absurd h)

-- what never changes of the source's steps
record Fixed (w : whole.WholeStep) : Type 0 where
  name_is : w.name ≡ 0 ∷ []
  unrefused : w.refusal ≡ None
  silent : w.wrote ≡ []

fixed : (told : Answer) (p : whole.Phase) (root : Tasks) → Fixed (whole.source_step told p root)
fixed unasked (whole.reading ns) root = record { name_is = refl; unrefused = refl; silent = refl }
fixed (came b) (whole.reading ns) root = record { name_is = refl; unrefused = refl; silent = refl }
fixed over (whole.reading ns) root = record { name_is = refl; unrefused = refl; silent = refl }
fixed told (whole.giving ns i) root = record { name_is = refl; unrefused = refl; silent = refl }
fixed told whole.closing root = record { name_is = refl; unrefused = refl; silent = refl }
fixed told whole.finished root = record { name_is = refl; unrefused = refl; silent = refl }

module _ (s : Setting) (all : List (List ℕ)) (number : ℕ) (t : Ty) (before : Outlet) (phase : whole.Phase) (root : Tasks) where
  -- the source's own
  module _ (picked : ℕ) (first : picked ≡ 0) (may : whole.may_source phase root ≡ true) (to_come to_come_then : Option (List ChunkData)) where
    source_at : (told : Answer) → nth (whole.whole_steps s all number told (whole_at phase root)) picked ≡ Some (whole.source_step told phase root)
    source_at told = ap (nth (whole.whole_steps s all number told (whole_at phase root))) first ∙ source_place s all number told (whole_at phase root) may

    pub source_stepped : (after : Outlet) (later : whole.Phase) (new : Tasks) (name : List ℕ) (a : ActionKind) → name ≡ 0 ∷ [] → after ≡ before → SourceActed t to_come to_come_then phase later root new a
        → WholeStepped s all picked t to_come to_come_then before number after (whole_at phase root) (whole_at later new) name a
    source_stepped after later new name a n o w =
        let f : Fixed (whole.source_step w.told phase root) = fixed w.told phase root in
        record {
          told = w.told;
          step = whole.source_step w.told phase root;
          place = source_at w.told;
          asks = subst (λ k. AsksAt phase k w.told) (sym first) w.asks;
          tells = w.tells;
          name_is = n ∙ sym f.name_is;
          kind = w.kind;
          unrefused = f.unrefused;
          fits = w.fits;
          counted = w.counted;
          left = w.left;
          outlet = subst (λ ps. Behind before number ps after) (sym f.silent) o;
        }

    pub source_refused : (counts : ℕ) (e : WriteError) → SourceMay t e → SourceRefused t to_come to_come_then phase root e → StepRefused s all picked counts t to_come to_come_then before number (whole_at phase root) e
    source_refused counts e m w =
        let q : whole.WholeStep = whole.source_step w.told phase root in
        record {
          told = w.told;
          step = q;
          place = source_at w.told;
          asks = subst (λ k. AsksAt phase k w.told) (sym first) w.asks;
          tells = subst (λ k. TellsRefused phase k t to_come to_come_then e w.told) (sym first) w.tells;
          cause = any_count q.refusal q.misfit (counts + q.raises) q.numbers q.indices q.wrote (IsPast before) (IsShared before) q.joined e w.cause;
          called = source_uncalled t q.kind e m;
        }

    -- memory ran out before it
    pub source_memory : (counts : ℕ) → to_come_then ≡ to_come → StepRefused s all picked counts t to_come to_come_then before number (whole_at phase root) OutOfMemory
    source_memory counts h = record { told = unasked; step = whole.source_step unasked phase root; place = source_at unasked; asks = asks_not phase picked; tells = tells_memory phase picked t to_come to_come_then h; cause = tt; called = tt }

  -- one of the root, or below it
  module _ (picked j : ℕ) (is : picked ≡ one_if (whole.may_source phase root) + j) (to_come to_come_then : Option (List ChunkData)) (silent : to_come_then ≡ to_come) where
    root_at : (w : Step) → nth (steps s all number root) j ≡ Some w → nth (whole.whole_steps s all number unasked (whole_at phase root)) picked ≡ Some (whole.in_root phase w)
    root_at w e =
        ap (nth (whole.whole_steps s all number unasked (whole_at phase root))) is
        ∙ root_place s all number unasked (whole_at phase root) j
        ∙ ap (option_map (whole.in_root phase)) e

    pub root_stepped : (after : Outlet) (new : Tasks) (name : List ℕ) (a : ActionKind) → TaskStepped s all j before number after root new name a
        → WholeStepped s all picked t to_come to_come_then before number after (whole_at phase root) (whole_at phase new) name a
    root_stepped after new name a w = record {
      told = unasked;
      step = whole.in_root phase w.step;
      place = root_at w.step w.place;
      asks = asks_not phase picked;
      tells = silent;
      name_is = w.name_is;
      kind = w.kind;
      unrefused = w.unrefused;
      fits = w.fits;
      counted = w.counted;
      left = ap (whole_at phase) w.left;
      outlet = w.outlet;
    }

    pub root_refused : (counts : ℕ) (e : WriteError) → IsElsewhere e → TaskRefused s all j counts before number root e → StepRefused s all picked counts t to_come to_come_then before number (whole_at phase root) e
    root_refused counts e elsewhere w = record {
      told = unasked;
      step = whole.in_root phase w.step;
      place = root_at w.step w.place;
      asks = asks_not phase picked;
      tells = tells_none phase root picked j t to_come to_come_then e is silent elsewhere;
      cause = w.cause;
      called = w.called;
    }
