-- A step that was done over a sink that nobody else uses, of the machine to which steps have led.
use Rattle.std.proofs.Common.{◌≡◌, ◌+◌, ◌∷◌, ◌++◌, ◌∙◌, ℕ, zero, suc, List, length, refl, sym, ap, subst, inl, inr, Option, Some, slice_index, []}
use Rattle.vx_model.specs.Ty.{Ty}
use Rattle.vx_model.specs.ChunkData.{ChunkData}
use Rattle.vx_tasks.specs.Run.{Note, nth, first_pick, later_picks}
use Rattle.vx_tasks.specs.Runs.{noted}
use Rattle.vx_plan.specs.PlanData.{Pair}
use Rattle.vx_order.specs.Outlet.{Outlet, own, shared}
use Rattle.vx_write_answer.specs.declared.step.ActionKind.{ActionKind}
use Rattle.vx_machine_steps.specs.Runs.{picks_after}
use Rattle.vx_machine_promises.specs.Write.{Write, Answer, unasked, came, over, taken_by, heard_by}
use Rattle.vx_machine_view.specs.Machine.{Phase, reading, giving, closing, finished, Machine, whole_steps, machine_ids}
use Rattle.vx_machine_view.specs.Underway.{ready_steps}
use Rattle.vx_machine_view.proofs.Placing.{whole_is_ready}
use Rattle.vx_machine_view.proofs.Sounding.{sound_is_typed}
use Rattle.vx_machine_runs.specs.Runs.{Stand, outset, Asking, TypedAnswer, BeforeEnd, Done, Led}
use Rattle.vx_machine_runs.proofs.Asking.{asked_before_end}
use Rattle.vx_machine_runs.proofs.Freed.{number_is_free}
use Rattle.vx_machine_nodes.specs.Acting.{IsAppended, Behind}
use Rattle.vx_machine.specs.Run.{ready_at}
use Rattle.vx_machine.specs.SourceActs.{AsksAt, Tells}
use Rattle.vx_machine.specs.Steps.{WholeStepped}
use Rattle.vx_machine.proofs.Fewness.{Few, whole_few}

-- ---- picks

-- the next pick behind so many steps is that of its place
pub pick_here : (k : ℕ) (picks : List ℕ) → first_pick (picks_after k picks) ≡ slice_index picks k
pick_here zero [] = refl
pick_here zero (p ∷ ps) = refl
pick_here (suc k) [] = pick_here k []
pick_here (suc k) (p ∷ ps) = pick_here k ps

pub one_later : (k : ℕ) (picks : List ℕ) → picks_after (suc k) picks ≡ later_picks (picks_after k picks)
one_later zero picks = refl
one_later (suc k) picks = one_later k (later_picks picks)

-- one more step behind others

pub led_more : (g : Write) (first : ℕ) (x y z : Stand) (ns : List Note) (n : Note) → Led g first x ns y → Done g first y z n → Led g first x (ns ++ (n ∷ [])) z
led_more g first x y z [] n l d = (z, subst (λ v. Done g first v z n) (sym l) d, refl)
led_more g first x y z (m ∷ ns) n l d = (l.0, l.1, led_more g first l.0 y z ns n l.2 d)

-- ---- a step that was done, of the machine to which steps have led

pub asking : (p : Phase) (k : ℕ) (a : Answer) → AsksAt p k a → Asking p k a
asking (reading ns) zero a h = h
asking (reading ns) (suc k) a h = h
asking (giving ns i) k a h = h
asking closing k a h = h
asking finished k a h = h

pub typed_so : (t : Ty) (to_come now : Option (List ChunkData)) (a : Answer) → Tells t to_come now a → TypedAnswer t a
typed_so t to_come now unasked h = tt
typed_so t to_come now (came b) h = sound_is_typed b t h.1.whole.sound h.1.typed
typed_so t to_come now over h = tt

-- a sink that nobody else uses gives this number next
abbrev pub NextIs : Outlet → ℕ → Type 0
NextIs (own s) n = s.next ≡ n
NextIs (shared s) n = ⊥

-- the number that an append gets
appended_next : (o v : Outlet) (number n : ℕ) (p : Pair) → NextIs o n → IsAppended o number p v → number ≡ n
appended_next (own a) v number n p h w = w.told.1 ∙ h
appended_next (shared a) v number n p h w = absurd h

module _ (g : Write) (first : ℕ) (ns : List Note) (x : Stand) (led : Led g first (outset g) ns x) (m : Machine) (is : m ≡ x.machine) (picked : ℕ) (to_come to_come_then : Option (List ChunkData))
    (o v : Outlet) (next : NextIs o (first + length x.history)) (new : Machine) (name : List ℕ) (a : ActionKind) (number : ℕ)
    (w : WholeStepped g.setting (machine_ids m) picked g.type to_come to_come_then o number v m new name a) where
  place : nth (whole_steps g.setting (machine_ids x.machine) number w.told x.machine) picked ≡ Some w.step
  place = subst (λ z. nth (whole_steps g.setting (machine_ids z) number w.told z) picked ≡ Some w.step) is w.place

  pub asks : Asking x.machine.phase picked w.told
  asks = asking x.machine.phase picked w.told (subst (λ (z : Machine). AsksAt z.phase picked w.told) is w.asks)

  pub once : BeforeEnd x.heard w.told
  once = asked_before_end g first ns x w.told picked led asks

  -- at the number that the next segment has
  pub at : nth (ready_steps g first x.history w.told x.machine) picked ≡ Some w.step
  at = by (whole_few g.setting (machine_ids x.machine) number w.told x.machine picked w.step place)
    where
      by : Few w.step.wrote w.step.refusal → nth (ready_steps g first x.history w.told x.machine) picked ≡ Some w.step
      by (inl e) = number_is_free g.setting (machine_ids x.machine) number (first + length x.history) w.told x.machine picked w.step e place
      by (inr (p, e, u)) =
          let n : number ≡ first + length x.history = appended_next o v number (first + length x.history) p next (subst (λ ps. Behind o number ps v) e w.outlet) in
          subst (λ z. nth (whole_steps g.setting (machine_ids x.machine) z w.told x.machine) picked ≡ Some w.step) n place

  -- where it leads, and its note
  abbrev pub to : Stand
  to = record { machine = w.step.after; taken = taken_by x.taken w.told; heard = heard_by x.heard w.told; history = x.history ++ w.step.wrote }

  abbrev pub note : Note
  note = noted (length (ready_steps g first x.history w.told x.machine)) picked w.step.name w.step.kind

  abbrev pub done : Done g first x to note
  done = record {
    told = w.told;
    step = w.step;
    chosen = record { place = at; asks = asks; typed = typed_so g.type to_come to_come_then w.told w.tells; once = once; fits = w.fits };
    unrefused = w.unrefused;
    note = refl;
    left = refl;
  }

  pub as_many : note.ready ≡ ready_at m
  as_many = whole_is_ready g.setting (machine_ids x.machine) (first + length x.history) w.told x.machine ∙ sym (ap ready_at is)
