-- A run is a write that is under way.
use Rattle.std.proofs.Common.{◌≡◌, ◌+◌, ◌%◌, ◌<◌, ◌∷◌, ◌++◌, ◌∙◌, ℕ, zero, suc, Bool, true, false, List, map, length, refl, sym, ap, subst, arith, Some, None, append_assoc, append-nil, []}
use Rattle.std.proofs.Math.Nat.{mod-eq_of_lt}
use Rattle.std.proofs.lemmas.Bool.{true≢false}
use Rattle.vx_named_tasks.specs.Names.{Names}
use Rattle.vx_model.specs.Ty.{Ty}
use Rattle.vx_machine_state.specs.Images.{Careful}
use Rattle.vx_tasks.specs.Run.{Note, nth, first_pick, later_picks}
use Rattle.vx_tasks.specs.Runs.{noted}
use Rattle.vx_plan.specs.PlanData.{Setting}
use Rattle.vx_machine_steps.specs.Tree.{Tree}
use Rattle.vx_machine_steps.specs.Runs.{picks_after}
use Rattle.vx_machine_promises.specs.Write.{Write, Future, Open, Answer, unasked, came, over, planned, taken_by, heard_by, before}
use Rattle.vx_machine_promises.specs.Reached.{Reached}
use Rattle.vx_machine_promises.specs.Promises.{StartIsReached, StepIsReached}
use Rattle.vx_plan.specs.Number.{number_of}
use Rattle.vx_machine_view.specs.Machine.{Phase, reading, giving, closing, finished, Machine, may_source, WholeStep, source_step, whole_steps, machine_ids}
use Rattle.vx_machine_state.specs.Reserved.{reserved_by}
use Rattle.vx_machine_view.specs.Whole.{form_of, Asks}
use Rattle.vx_machine_view.specs.Underway.{Showing, ready_steps}
use Rattle.vx_machine_view.proofs.Placing.{source_place}
use Rattle.vx_machine_view.proofs.Reserving.{start_reserves, whole_reserves}
use Rattle.vx_machine_view.proofs.Underway.{write_steps}
use Rattle.vx_machine_view.proofs.Wholes.{start_shows}
use Rattle.vx_machine_runs.specs.Runs.{Stand, outset, tracked, Asking, TypedAnswer, BeforeEnd, Chosen, Done, Led, PickedBy, scheduled, UnderwayAt, StartIsUnderway, StepIsUnderway, RunByIsUnderway, PlacesArePicks, RunIsUnderway, ScheduleIsFree}
use Rattle.vx_machine_runs.proofs.Counting.{nth_in}

-- ---- what is asked

pub open_before : (heard : Bool) (a : Answer) (f : Future) → BeforeEnd heard a → Open (heard_by heard a) f → Open heard (before a f)
open_before heard unasked f k o = o
open_before heard (came b) f k o = λ h. absurd (true≢false (sym h ∙ k))
open_before heard over f k o = λ h. o refl

pub some_same : {A : Type 0} (x y : A) → Some x ≡ Some y → x ≡ y
some_same x y e = cc

-- where it reads and is told nothing, the step is of another type
misfits : (s : Setting) (all : List (List ℕ)) (number : ℕ) (m : Machine) (ns : Names) (w : WholeStep) → m.phase ≡ reading ns → nth (whole_steps s all number unasked m) 0 ≡ Some w → w.misfit ≡ true
misfits s all number m e w is at =
    let t : nth (whole_steps s all number unasked m) 0 ≡ Some (source_step unasked m.phase m.root) = source_place s all number unasked m (ap (λ z. may_source z m.root) is) in
    sym (ap (λ (z : WholeStep). z.misfit) (some_same (source_step unasked m.phase m.root) w (sym t ∙ at))) ∙ ap (λ z. (source_step unasked z m.root).misfit) is

asked : (t : Ty) (f : Future) (p : Phase) (k : ℕ) (a : Answer) → Asking p k a → TypedAnswer t a → ((ns : Names) → p ≡ reading ns → k ≡ 0 → a ≡ unasked → ⊥) → Asks t f p k a
asked t f (reading e) zero unasked h ty never = absurd (never e refl refl refl)
asked t f (reading e) zero (came b) h ty never = ty
asked t f (reading e) zero over h ty never = tt
asked t f (reading e) (suc k) a h ty never = h
asked t f (giving e i) k a h ty never = h
asked t f closing k a h ty never = h
asked t f finished k a h ty never = h

-- of a ready step that finds no chunk of another type, whatever number the next segment has
pub asks_by : (s : Setting) (t : Ty) (all : List (List ℕ)) (number : ℕ) (m : Machine) (told : Answer) (k : ℕ) (w : WholeStep) (f : Future) → nth (whole_steps s all number told m) k ≡ Some w → Asking m.phase k told
    → TypedAnswer t told → w.misfit ≡ false → Asks t f m.phase k told
asks_by s t all number m told k w f place asks typed fits = asked t f m.phase k told asks typed
    (λ e is z u. true≢false (sym (misfits s all number m e w is (subst (λ a. nth (whole_steps s all number a m) 0 ≡ Some w) u (subst (λ j. nth (whole_steps s all number told m) j ≡ Some w) z place))) ∙ fits))

pub asks_so : (g : Write) (first : ℕ) (x : Stand) (told : Answer) (k : ℕ) (w : WholeStep) (f : Future) → Chosen g first x told k w → Asks g.type f x.machine.phase k told
asks_so g first x told k w f c = asks_by g.setting g.type (machine_ids x.machine) (first + length x.history) x.machine told k w f c.place c.asks c.typed c.fits

-- ---- the tracker

pub start_tracked : (g : Write) → tracked g (outset g) ≡ g.tracker
start_tracked g = let h : reserved_by (outset g).machine.root ≡ 0 = start_reserves (form_of g) g.mark in omega (arith, h)

-- a step changes it by what it adds and takes
pub evened : (g : Write) (first : ℕ) (x : Stand) (told : Answer) (f : Future) (t : Tree) → Showing g first x.taken x.machine (before told f) t → (k : ℕ) (w : WholeStep)
    → nth (ready_steps g first x.history told x.machine) k ≡ Some w → (g.tracker + reserved_by w.after.root) + w.lowers ≡ tracked g x + w.raises
evened g first x told f t shown k w at =
    let h : reserved_by w.after.root + w.lowers ≡ reserved_by x.machine.root + w.raises =
    whole_reserves g (number_of (planned g x.taken (before told f)).pairs first) (first + length x.history) (machine_ids x.machine) told (before told f) x.machine t w shown
    (nth_in (ready_steps g first x.history told x.machine) k w at) in
    let e : (g.tracker + reserved_by w.after.root) + w.lowers ≡ (g.tracker + reserved_by x.machine.root) + w.raises = omega (arith, h) in e

-- ---- the start

pub start_under : StartIsReached → StartIsUnderway
start_under reached g first s f o =
    let r = reached g f in
    subst (λ z. (r : Reached g [] f [] [] z) × Showing g first [] (outset g).machine f r.tree) (sym (start_tracked g))
    (r.0, subst (λ t. Showing g first [] (outset g).machine f t) (sym r.1) (start_shows g (number_of (planned g [] f).pairs first) f s))

-- ---- a step

module _ (reached : StepIsReached) (g : Write) (first : ℕ) (seen : List Note) (x : Stand) (n : Note) (law : Careful g.setting)
    (pick : n.picked ≡ first_pick (picks_after (length seen) g.schedule) % n.ready) where
  step_to : (told : Answer) (w : WholeStep) → Chosen g first x told n.picked w → w.refusal ≡ None → n ≡ noted (length (ready_steps g first x.history told x.machine)) n.picked w.name w.kind
      → UnderwayAt g first seen x → UnderwayAt g first (seen ++ (n ∷ [])) (record { machine = w.after; taken = taken_by x.taken told; heard = heard_by x.heard told; history = x.history ++ w.wrote })
  step_to told w c u note under f o = on (under (before told f) (open_before x.heard told f c.once o))
    where
      Then : Note → Type 0
      Then z = (q : Reached g (taken_by x.taken told) f (seen ++ (z ∷ [])) (x.history ++ w.wrote) (g.tracker + reserved_by w.after.root)) × Showing g first (taken_by x.taken told) w.after f q.tree

      on : (r : Reached g x.taken (before told f) seen x.history (tracked g x)) × Showing g first x.taken x.machine (before told f) r.tree → Then n
      on (r, shown) =
          let size : ℕ = length (ready_steps g first x.history told x.machine) in
          let k : n.picked ≡ first_pick (picks_after (length seen) g.schedule) % size = pick ∙ ap (λ (z : Note). first_pick (picks_after (length seen) g.schedule) % z.ready) note in
          let st = write_steps g first x.taken x.heard told f seen x.history (tracked g x) (g.tracker + reserved_by w.after.root) r x.machine n.picked w law o shown c.place k (asks_so g first x told n.picked w f c) u c.fits
          (evened g first x told f r.tree shown n.picked w c.place) in
          let q = reached g x.taken told f seen x.history (x.history ++ w.wrote) (tracked g x) (g.tracker + reserved_by w.after.root) (noted size n.picked w.name w.kind) r st.0 in
          subst Then (sym note) (q.0, subst (λ t. Showing g first (taken_by x.taken told) w.after f t) (sym q.1) st.1)

pub step_under : StepIsReached → StepIsUnderway
step_under reached g first seen x y n law pick d u = subst (λ z. UnderwayAt g first (seen ++ (n ∷ [])) z) (sym d.left) (step_to reached g first seen x n law pick d.told d.step d.chosen d.unrefused d.note u)

-- ---- whole runs

nth_less : {A : Type 0} (xs : List A) (k : ℕ) (x : A) → nth xs k ≡ Some x → k < length xs
nth_less [] k x e = cc
nth_less (y ∷ ys) zero x e = omega arith
nth_less (y ∷ ys) (suc k) x e = let h : k < length ys = nth_less ys k x e in omega (arith, h)

-- the picks left after one more
pub picks_more : (seen : List Note) (n : Note) (picks : List ℕ) → picks_after (length (seen ++ (n ∷ []))) picks ≡ later_picks (picks_after (length seen) picks)
picks_more [] n picks = refl
picks_more (m ∷ seen) n picks = picks_more seen n (later_picks picks)

module _ (reached : StepIsReached) (g : Write) (first : ℕ) (law : Careful g.setting) where
  led_under : (seen ns : List Note) (x y : Stand) → PickedBy (picks_after (length seen) g.schedule) ns → Led g first x ns y → UnderwayAt g first seen x → UnderwayAt g first (seen ++ ns) y
  led_under seen [] x y p l u = subst (λ z. UnderwayAt g first z y) (sym (append-nil seen)) (subst (λ z. UnderwayAt g first seen z) l u)
  led_under seen (n ∷ ns) x y p l u = subst (λ z. UnderwayAt g first z y) (append_assoc seen (n ∷ []) ns)
      (led_under (seen ++ (n ∷ [])) ns l.0 y (subst (λ z. PickedBy z ns) (sym (picks_more seen n g.schedule)) p.1) l.2 (step_under reached g first seen x l.0 n law p.0 l.1 u))

pub run_by_under : StartIsReached → StepIsReached → RunByIsUnderway
run_by_under began reached g first ns y law s p l = led_under reached g first law [] ns (outset g) y p l (start_under began g first s)

pub places_are_picks : PlacesArePicks
places_are_picks g first x y [] l = tt
places_are_picks g first x y (n ∷ ns) l =
    let d : Done g first x l.0 n = l.1 in
    let less : n.picked < n.ready
    = subst (λ (z : Note). n.picked < z.ready) (sym d.note) (nth_less (ready_steps g first x.history d.told x.machine) n.picked d.step d.chosen.place) in
    (sym (mod-eq_of_lt less), places_are_picks g first l.0 y ns l.2)

pub run_under : StartIsReached → StepIsReached → RunIsUnderway
run_under began reached g first ns y law s p l =
    run_by_under began reached g first ns y law s (subst (λ z. PickedBy z ns) (sym p) (places_are_picks g first (outset g) y ns l)) l

-- ---- any schedule

abbrev pub places : List Note → List ℕ
places ns = map (λ n. n.picked) ns

module _ (g : Write) (first : ℕ) (picks : List ℕ) where
  pub chosen_so : (x : Stand) (told : Answer) (k : ℕ) (w : WholeStep) → Chosen g first x told k w → Chosen (scheduled g picks) first x told k w
  chosen_so x told k w c = record { place = c.place; asks = c.asks; typed = c.typed; once = c.once; fits = c.fits }

  abbrev pub done_so : (x y : Stand) (n : Note) → Done g first x y n → Done (scheduled g picks) first x y n
  done_so x y n d = record { told = d.told; step = d.step; chosen = chosen_so x d.told n.picked d.step d.chosen; unrefused = d.unrefused; note = d.note; left = d.left }

  abbrev pub led_so : (x y : Stand) (ns : List Note) → Led g first x ns y → Led (scheduled g picks) first x ns y
  led_so x y [] l = l
  led_so x y (n ∷ ns) l = (l.0, done_so x l.0 n l.1, led_so l.0 y ns l.2)

pub schedule_is_free : ScheduleIsFree
schedule_is_free g first picks x y ns l = led_so g first picks x y ns l
