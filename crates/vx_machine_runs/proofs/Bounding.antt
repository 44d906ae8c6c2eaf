-- What a finished run has counted, against the plan's numbers.
use Rattle.std.proofs.Common.{◌≡◌, ◌+◌, ◌^◌, ◌%◌, ◌<◌, ◌∷◌, ◌++◌, ◌∙◌, ℕ, true, List, length, refl, sym, ap, subst, inl, inr, ⊎_elim, arith, append_assoc, append-nil, None, []}
use Rattle.vx_path.specs.Lists.{In}
use Rattle.vx_path.specs.Path.{root_eof}
use Rattle.vx_machine_state.specs.Images.{Careful}
use Rattle.vx_tasks.specs.Run.{Note, nth, first_pick}
use Rattle.vx_tasks.specs.Runs.{noted}
use Rattle.vx_plan.specs.PlanData.{Plan}
use Rattle.vx_plan.specs.Number.{number_of}
use Rattle.vx_plan.specs.SourcePlan.{start_fault}
use Rattle.vx_plan.specs.Valid.{Fit}
use Rattle.vx_machine_turns.specs.Planned.{AtMost}
use Rattle.vx_machine_steps.specs.Tree.{read, opened}
use Rattle.vx_machine_steps.specs.Moves.{all_paths, all_over}
use Rattle.vx_machine_steps.specs.Runs.{picks_after}
use Rattle.vx_machine_steps.proofs.Laws.{over_is_done}
use Rattle.vx_machine_promises.specs.Write.{Write, Answer, depth, begin, planned, taken_by, heard_by, before}
use Rattle.vx_machine_promises.specs.Reached.{Reached, Underway, moves_at, pick_at}
use Rattle.vx_machine_promises.specs.Promises.{StartIsReached, StepIsReached, EndIsPlanned}
use Rattle.vx_machine_state.specs.Start.{first_indices}
use Rattle.vx_machine_view.specs.Machine.{WholeStep}
use Rattle.vx_machine_state.specs.Reserved.{reserved_by}
use Rattle.vx_machine_view.specs.Whole.{form_of}
use Rattle.vx_machine_view.specs.Underway.{Showing, ready_steps}
use Rattle.vx_machine_view.proofs.Underway.{write_steps, write_ends}
use Rattle.vx_machine_view.proofs.Wholes.{start_shows}
use Rattle.vx_machine_runs.specs.Runs.{Stand, outset, tracked, Chosen, Done, Led, PickedBy, scheduled, UnderwayAt}
use Rattle.vx_machine_runs.specs.Ends.{plan_of}
use Rattle.vx_machine_runs.specs.Numbers.{AllBelow, CountsBelow, NumbersAreCounted, NumbersFit}
use Rattle.vx_machine_runs.proofs.Counting.{nth_in}
use Rattle.vx_machine_runs.proofs.Covers.{count_reading}
use Rattle.vx_machine_runs.proofs.Covering.{start_covered}
use Rattle.vx_machine_runs.proofs.Doing.{did, counted_in, move_did, all_did, start_did}
use Rattle.vx_machine_runs.proofs.Ending.{none_later, open_none, none_planned, ends_whole}
use Rattle.vx_machine_runs.proofs.Reaching.{leads, reads, as_ready, move_of}
use Rattle.vx_machine_runs.proofs.Stepping.{open_before, some_same, asks_so, start_tracked, evened, picks_more, places, places_are_picks, led_so}

-- the write is under way there, and all that its tasks have counted is below this
abbrev pub Bounded : ℕ → Write → ℕ → List Note → Stand → Type 0
Bounded most g first seen x = Underway (λ f t. Showing g first x.taken x.machine f t × AllBelow most (did t)) g x.taken x.heard seen x.history (tracked g x)

start_bounded : StartIsReached → (most : ℕ) (g : Write) (first : ℕ) → start_fault g.setting g.way g.type g.mark ≡ None → AllBelow most (first_indices (form_of g) g.mark root_eof)
    → Bounded most g first [] (outset g)
start_bounded reached most g first s all f o =
    let r = reached g f in
    subst (λ z. (r : Reached g [] f [] [] z) × (Showing g first [] (outset g).machine f r.tree × AllBelow most (did r.tree))) (sym (start_tracked g)) (
      r.0,
      subst (λ t. Showing g first [] (outset g).machine f t × AllBelow most (did t)) (sym r.1)
          (start_shows g (number_of (planned g [] f).pairs first) f s, λ n i. all n (subst (λ z. In n z) (start_did g [] f) i)),
    )

-- ---- a step

module _ (reached : StepIsReached) (most : ℕ) (g : Write) (first : ℕ) (seen : List Note) (x : Stand) (n : Note) (law : Careful g.setting)
    (pick : n.picked ≡ first_pick (picks_after (length seen) g.schedule) % n.ready) where
  step_to : (told : Answer) (w : WholeStep) → Chosen g first x told n.picked w → w.refusal ≡ None → n ≡ noted (length (ready_steps g first x.history told x.machine)) n.picked w.name w.kind
      → AllBelow most (w.numbers ++ w.indices) → Bounded most g first seen x
      → Bounded most g first (seen ++ (n ∷ [])) (record { machine = w.after; taken = taken_by x.taken told; heard = heard_by x.heard told; history = x.history ++ w.wrote })
  step_to told w c u note counts under f o = on (under (before told f) (open_before x.heard told f c.once o))
    where
      Then : Note → Type 0
      Then z = (q : Reached g (taken_by x.taken told) f (seen ++ (z ∷ [])) (x.history ++ w.wrote) (g.tracker + reserved_by w.after.root)) × (Showing g first (taken_by x.taken told) w.after f q.tree × AllBelow most (did q.tree))

      on : (r : Reached g x.taken (before told f) seen x.history (tracked g x)) × (Showing g first x.taken x.machine (before told f) r.tree × AllBelow most (did r.tree)) → Then n
      on (r, (shown, below)) =
          let size : ℕ = length (ready_steps g first x.history told x.machine) in
          let k : n.picked ≡ first_pick (picks_after (length seen) g.schedule) % size = pick ∙ ap (λ (z : Note). first_pick (picks_after (length seen) g.schedule) % z.ready) note in
          let st = write_steps g first x.taken x.heard told f seen x.history (tracked g x) (g.tracker + reserved_by w.after.root) r x.machine n.picked w law o shown c.place k (asks_so g first x told n.picked w f c) u c.fits
          (evened g first x told f r.tree shown n.picked w c.place) in
          let q = reached g x.taken told f seen x.history (x.history ++ w.wrote) (tracked g x) (g.tracker + reserved_by w.after.root) (noted size n.picked w.name w.kind) r st.0 in
          let m = move_of g first x.taken x.heard told f seen x.history (tracked g x) r x.machine n.picked w law o shown c.place (asks_so g first x told n.picked w f c) in
          let place : n.picked ≡ pick_at g r.tree seen
          = k ∙ ap (λ z. first_pick (picks_after (length seen) g.schedule) % z) (as_ready g x.taken (before told f) seen x.history (tracked g x) r first x.machine shown told law) in
          let same : st.0.move ≡ m.0 = some_same st.0.move m.0 (sym st.0.picked ∙ ap (nth (moves_at g r.tree)) (sym place) ∙ m.1) in
          let is : counted_in st.0.move ≡ w.numbers ++ w.indices = ap counted_in same ∙ ap (λ z. z ++ (m.0.act.indices ++ opened m.0.room m.0.act.starts)) (sym m.2.numbers) ∙ ap (λ z. w.numbers ++ z) (sym m.2.indices) in
          let after : AllBelow most (did st.0.move.after) = λ i h. ⊎_elim (below i) (λ z. counts i (subst (λ v. In i v) is z))
          (move_did g.setting (all_paths r.tree) (depth g) r.tree st.0.move (nth_in (moves_at g r.tree) (pick_at g r.tree seen) st.0.move st.0.picked) i h) in
          subst Then (sym note) (q.0, subst (λ t. Showing g first (taken_by x.taken told) w.after f t × AllBelow most (did t)) (sym q.1) (st.1, after))

module _ (reached : StepIsReached) (most : ℕ) (g : Write) (first : ℕ) (law : Careful g.setting) where
  led_bounded : (seen ns : List Note) (x y : Stand) → PickedBy (picks_after (length seen) g.schedule) ns → (l : Led g first x ns y) → CountsBelow most g first x ns y l → Bounded most g first seen x
      → Bounded most g first (seen ++ ns) y
  led_bounded seen [] x y p l c u = subst (λ z. Bounded most g first z y) (sym (append-nil seen)) (subst (λ z. Bounded most g first seen z) l u)
  led_bounded seen (n ∷ ns) x y p l c u =
      let d : Done g first x l.0 n = l.1 in
      let now : Bounded most g first (seen ++ (n ∷ [])) l.0
      = subst (λ z. Bounded most g first (seen ++ (n ∷ [])) z) (sym d.left) (step_to reached most g first seen x n law p.0 d.told d.step d.chosen d.unrefused d.note c.0 u) in
      subst (λ z. Bounded most g first z y) (append_assoc seen (n ∷ []) ns)
      (led_bounded (seen ++ (n ∷ [])) ns l.0 y (subst (λ z. PickedBy z ns) (sym (picks_more seen n g.schedule)) p.1) l.2 c.1 now)

-- so it is of a whole run by the schedule
pub run_bounded : StartIsReached → StepIsReached → (most : ℕ) (g : Write) (first : ℕ) (ns : List Note) (y : Stand) → Careful g.setting → start_fault g.setting g.way g.type g.mark ≡ None
    → AllBelow most (first_indices (form_of g) g.mark root_eof) → PickedBy g.schedule ns → (l : Led g first (outset g) ns y) → CountsBelow most g first (outset g) ns y l → Bounded most g first ns y
run_bounded began reached most g first ns y law s starts p l c = led_bounded reached most g first law [] ns (outset g) y p l c (start_bounded began most g first s starts)

-- ---- the end

-- what is counted depends on no schedule
pub counts_so : (most : ℕ) (g : Write) (first : ℕ) (picks : List ℕ) (x y : Stand) (ns : List Note) (l : Led g first x ns y) → CountsBelow most g first x ns y l
    → CountsBelow most (scheduled g picks) first x ns y (led_so g first picks x y ns l)
counts_so most g first picks x y [] l c = tt
counts_so most g first picks x y (n ∷ ns) l c = (c.0, counts_so most g first picks l.0 y ns l.2 c.1)

pub numbers_are_counted : StartIsReached → StepIsReached → EndIsPlanned → NumbersAreCounted
numbers_are_counted began reached planned_end most w first ns y law s l fin one starts c = on (under (none_later y.heard) (open_none y.heard))
  where
    -- under the schedule that tells the places
    g : Write
    g = scheduled w (places ns)

    by_places : Led g first (outset g) ns y
    by_places = led_so w first (places ns) (outset g) y ns l

    under : Bounded most g first ns y
    under = led_bounded reached most g first law [] ns (outset g) y (places_are_picks g first (outset g) y ns by_places) by_places (counts_so most w first (places ns) (outset g) y ns l c)
        (start_bounded began most g first s starts)

    plain : UnderwayAt g first ns y
    plain f o = let r = under f o in (r.0, r.1.0)

    told : planned g y.taken (none_later y.heard) ≡ plan_of g y.taken true
    told = none_planned g y.taken y.heard ∙ ap (plan_of g y.taken) (ends_whole planned_end g first ns y plain s fin).heard

    on : (r : Reached g y.taken (none_later y.heard) ns y.history (tracked g y)) × (Showing g first y.taken y.machine (none_later y.heard) r.tree × AllBelow most (did r.tree)) → AllBelow most (plan_of g y.taken true).numbers
    on (r, (shown, below)) n i = by (start_covered g (y.taken ++ []) y.heard n (subst (λ (z : Plan). In n z.numbers) (sym told) i))
      where
        over : all_over r.tree ≡ true
        over = (write_ends g first y.taken (none_later y.heard) ns y.history (tracked g y) r y.machine shown fin).0

        is : read g.setting count_reading (depth g) 0 [] (begin g y.taken (none_later y.heard)) ≡ did r.tree
        is = sym (reads g y.taken (none_later y.heard) ns y.history (tracked g y) r count_reading)
            ∙ all_did g.setting (depth g) 0 r.tree ((over_is_done g.setting (depth g) r.tree (leads g y.taken (none_later y.heard) ns y.history (tracked g y) r).2).0 over)

        by : AtMost n (1 ∷ read g.setting count_reading (depth g) 0 [] (begin g y.taken (none_later y.heard))) → n < most
        by (m, inl e, k) = omega (arith, one, e, k)
        by (m, inr j, k) = let a : m < most = below m (subst (λ z. In m z) is j) in omega (arith, a, k)

pub fit_each : (ns : List ℕ) → AllBelow (2 ^ 64) ns → Fit ns
fit_each [] h = tt
fit_each (n ∷ ns) h = (h n (inl refl), fit_each ns (λ k i. h k (inr i)))

pub numbers_fit : StartIsReached → StepIsReached → EndIsPlanned → NumbersFit
numbers_fit began reached planned_end g first ns y law s l fin starts c =
    fit_each (plan_of g y.taken true).numbers (numbers_are_counted began reached planned_end (2 ^ 64) g first ns y law s l fin (omega arith) starts c)
