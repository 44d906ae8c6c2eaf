-- What a course has counted where it has finished, against the plan's numbers.
use Rattle.std.proofs.Common.{◌≡◌, ◌%◌, ◌^◌, ◌<◌, ◌∷◌, ◌++◌, ◌∙◌, ℕ, true, max, List, length, refl, sym, ap, subst, arith, None, append_assoc, append-nil, inl, inr, ⊎_elim, []}
use Rattle.vx_path.specs.Lists.{In}
use Rattle.vx_path.specs.Path.{Eof}
use Rattle.vx_tasks.specs.Run.{Note, first_pick}
use Rattle.vx_named_tasks.specs.Names.{Names, Outset, CanBegin}
use Rattle.vx_plan.specs.PlanData.{Plan}
use Rattle.vx_plan.specs.SourcePlan.{start_fault}
use Rattle.vx_machine_turns.specs.Planned.{AtMost}
use Rattle.vx_machine_turns.specs.Source.{stream_plan}
use Rattle.vx_machine_steps.specs.Tree.{read}
use Rattle.vx_machine_steps.specs.Moves.{all_over}
use Rattle.vx_machine_steps.specs.Runs.{picks_after}
use Rattle.vx_machine_steps.specs.Stands.{Stands}
use Rattle.vx_machine_steps.proofs.Laws.{over_is_done}
use Rattle.vx_machine_promises.specs.Write.{Write, Future, depth, begin_at, planned_at, before}
use Rattle.vx_machine_promises.specs.Reached.{ReachedAt}
use Rattle.vx_machine_promises.specs.Promises.{StartIsReachedAt, StepIsReachedAt, StateStandsAt, WorkFallsAt, HistoryIsFirstAt, PathsAreApartAt, EndIsPlannedAt}
use Rattle.vx_machine_promises.proofs.Standing.{reads_at}
use Rattle.vx_machine_state.specs.Images.{Careful}
use Rattle.vx_machine_state.specs.Reserved.{reserved_by}
use Rattle.vx_machine_state.specs.Start.{first_indices}
use Rattle.vx_machine_view.specs.Whole.{form_of, outset_from, ShowsMachineAt}
use Rattle.vx_machine_view.proofs.Reserving.{start_reserves_at}
use Rattle.vx_machine_view.proofs.Wholes.{start_shows_at}
use Rattle.vx_machine_runs.specs.Runs.{PickedBy}
use Rattle.vx_machine_runs.specs.Numbers.{AllBelow}
use Rattle.vx_machine_runs.specs.Courses.{Point, start_point, point_after, Goes, GoesBy, tracked_at, StandsIn, ForFutures, FinishedBy, CountedBelow, CourseIsCounted, CourseFits, names_last}
use Rattle.vx_machine_runs.proofs.Bounding.{fit_each}
use Rattle.vx_machine_runs.proofs.Covers.{count_reading}
use Rattle.vx_machine_runs.proofs.Covering.{start_covered_at}
use Rattle.vx_machine_runs.proofs.Coursing.{is_over, state_then, counted_then, goes_long, comes_long, same_batches, ends_as_planned}
use Rattle.vx_machine_runs.proofs.Doing.{did, all_did, start_did_at}
use Rattle.vx_machine_runs.proofs.Ending.{none_later, open_none}
use Rattle.vx_machine_runs.proofs.Stepping.{open_before, picks_more}

module _ (starts : (o : Outset) → StartIsReachedAt o) (reached : (o : Outset) → StepIsReachedAt o) (stands : (o : Outset) → StateStandsAt o) (falls : (o : Outset) → WorkFallsAt o) (first : (o : Outset) → HistoryIsFirstAt o)
    (apart : (o : Outset) → PathsAreApartAt o) (most : ℕ) (g : Write) (names : Names) (eof : Eof) where
  abbrev o : Outset
  o = outset_from names eof

  abbrev begun : Point
  begun = start_point g names eof

  -- it stands there, and all that its tasks have counted is below this
  abbrev Bounded : List Note → Point → Future → Type 0
  Bounded notes x f = (s : StandsIn g o notes x f) × AllBelow most (did s.reached.tree)

  start_bounded : start_fault g.setting g.way g.type g.mark ≡ None → AllBelow most (first_indices (form_of g) g.mark eof) → ForFutures o begun (λ f. Bounded [] begun f)
  start_bounded none all f may can =
      let r = starts o g f in
      let idle : reserved_by begun.machine.root ≡ 0 = start_reserves_at names eof (form_of g) g.mark in
      let t : g.tracker ≡ tracked_at g begun = omega (arith, idle) in
      let q : (r : ReachedAt g o [] f [] [] (tracked_at g begun)) × (r.tree ≡ begin_at g o [] f) = subst (λ z. (r : ReachedAt g o [] f [] [] z) × (r.tree ≡ begin_at g o [] f)) t r in (
        record { reached = q.0; shows = λ by e. subst (ShowsMachineAt g o by begun.machine f) (sym q.1) (start_shows_at names eof g by f none) },
        λ n i. all n (subst (λ z. In n z) (ap did q.1 ∙ start_did_at g o [] f) i),
      )

  -- from one point to the next
  step_bounded : Careful g.setting → (notes : List Note) (x y : Point) (n : Note) (d : Goes g x y n) → n.picked ≡ first_pick (picks_after (length notes) g.schedule) % n.ready → length x.numbers ≡ length x.history
      → AllBelow most (d.step.numbers ++ d.step.indices) → ForFutures o x (λ f. Bounded notes x f) → ForFutures o y (λ f. Bounded (notes ++ (n ∷ [])) y f)
  step_bounded law notes x y n d pick long counts under = subst (λ z. ForFutures o z (λ f. Bounded (notes ++ (n ∷ [])) z f)) (sym d.left) new
    where
      new : ForFutures o (point_after x d.told d.number d.step) (λ f. Bounded (notes ++ (n ∷ [])) (point_after x d.told d.number d.step) f)
      new f may can = on (under (before d.told f) (open_before x.heard d.told f d.once may) (subst (λ bs. CanBegin o (length bs)) (sym (same_batches x.taken d.told f)) can))
        where
          on : Bounded notes x (before d.told f) → Bounded (notes ++ (n ∷ [])) (point_after x d.told d.number d.step) f
          on (s, below) = (
            state_then reached stands falls first apart g o law notes x n d.told d.number d.step d.place d.asks d.typed d.once d.fits d.unrefused d.note pick long f may can s.reached s.shows,
            λ i h. ⊎_elim (below i) (counts i)
                (counted_then reached stands falls first apart g o law notes x n d.told d.number d.step d.place d.asks d.typed d.once d.fits d.unrefused d.note pick long f may can s.reached s.shows i h),
          )

  led_bounded : Careful g.setting → (seen ns : List Note) (x y : Point) → PickedBy (picks_after (length seen) g.schedule) ns → (c : GoesBy g x ns y) → CountedBelow most g x ns y c → length x.numbers ≡ length x.history
      → ForFutures o x (λ f. Bounded seen x f) → ForFutures o y (λ f. Bounded (seen ++ ns) y f)
  led_bounded law seen [] x y p c b l u = subst (λ z. ForFutures o y (λ f. Bounded z y f)) (sym (append-nil seen)) (subst (λ z. ForFutures o z (λ f. Bounded seen z f)) c u)
  led_bounded law seen (n ∷ ns) x y p c b l u = subst (λ z. ForFutures o y (λ f. Bounded z y f)) (append_assoc seen (n ∷ []) ns)
      (led_bounded law (seen ++ (n ∷ [])) ns c.0 y (subst (λ z. PickedBy z ns) (sym (picks_more seen n g.schedule)) p.1) c.2 b.1 (goes_long g x c.0 n c.1 l) (step_bounded law seen x c.0 n c.1 p.0 l b.0 u))

pub course_is_counted : ((o : Outset) → StartIsReachedAt o) → ((o : Outset) → StepIsReachedAt o) → ((o : Outset) → StateStandsAt o) → ((o : Outset) → WorkFallsAt o) → ((o : Outset) → HistoryIsFirstAt o)
    → ((o : Outset) → PathsAreApartAt o) → ((o : Outset) → EndIsPlannedAt o) → CourseIsCounted
course_is_counted starts reached stands falls first apart ends most g names eof notes x h can fin at_names at_eof starts_below counts =
    on (led_bounded starts reached stands falls first apart most g names eof h.careful [] notes (start_point g names eof) x h.picked h.comes counts refl
    (start_bounded starts reached stands falls first apart most g names eof h.starts starts_below) (none_later x.heard) (open_none x.heard) can_none)
  where
    can_none : CanBegin (outset_from names eof) (length (x.taken ++ []))
    can_none = subst (λ bs. CanBegin (outset_from names eof) (length bs)) (sym (append-nil x.taken)) can

    long : length x.numbers ≡ length x.history
    long = comes_long g notes (start_point g names eof) x h.comes refl

    ended : FinishedBy (stream_plan g.setting g.way g.type g.mark (outset_from names eof) x.taken true) x
    ended = ends_as_planned starts reached stands falls first apart ends g names eof notes x h can fin

    told : planned_at g (outset_from names eof) x.taken (none_later x.heard) ≡ stream_plan g.setting g.way g.type g.mark (outset_from names eof) x.taken true
    told = ap (λ z. stream_plan g.setting g.way g.type g.mark (outset_from names eof) z x.heard) (append-nil x.taken) ∙ ap (λ b. stream_plan g.setting g.way g.type g.mark (outset_from names eof) x.taken b) ended.heard

    on : Bounded starts reached stands falls first apart most g names eof notes x (none_later x.heard) → AllBelow most (stream_plan g.setting g.way g.type g.mark (outset_from names eof) x.taken true).numbers
    on (s, below) n i = by (start_covered_at g names eof (max (names_last names) eof.last) (x.taken ++ []) x.heard (omega arith) (omega arith) n (subst (λ (z : Plan). In n z.numbers) (sym told) i))
      where
        stood : Stands g.setting (depth g) s.reached.tree
        stood = stands (outset_from names eof) g x.taken (none_later x.heard) notes x.history (tracked_at g x) s.reached can_none

        over : all_over s.reached.tree ≡ true
        over = sym (is_over reached stands falls first apart g (outset_from names eof) h.careful notes x (none_later x.heard) long can_none s.reached s.shows) ∙ fin

        is : read g.setting count_reading (depth g) 0 [] (begin_at g (outset_from names eof) x.taken (none_later x.heard)) ≡ did s.reached.tree
        is = sym (reads_at g (outset_from names eof) x.taken (none_later x.heard) notes x.history (tracked_at g x) s.reached can_none count_reading)
            ∙ all_did g.setting (depth g) 0 s.reached.tree ((over_is_done g.setting (depth g) s.reached.tree stood).0 over)

        by : AtMost n (max (names_last names) eof.last ∷ read g.setting count_reading (depth g) 0 [] (begin_at g (outset_from names eof) x.taken (none_later x.heard))) → n < most
        by (m, inl e, k) = omega (arith, at_names, at_eof, e, k)
        by (m, inr j, k) = let a : m < most = below m (subst (λ z. In m z) is j) in omega (arith, a, k)

pub course_fits : ((o : Outset) → StartIsReachedAt o) → ((o : Outset) → StepIsReachedAt o) → ((o : Outset) → StateStandsAt o) → ((o : Outset) → WorkFallsAt o) → ((o : Outset) → HistoryIsFirstAt o)
    → ((o : Outset) → PathsAreApartAt o) → ((o : Outset) → EndIsPlannedAt o) → CourseFits
course_fits starts reached stands falls first apart ends g names eof notes x h can fin at_names at_eof starts_below counts =
    fit_each (stream_plan g.setting g.way g.type g.mark (outset_from names eof) x.taken true).numbers
    (course_is_counted starts reached stands falls first apart ends (2 ^ 64) g names eof notes x h can fin at_names at_eof starts_below counts)
