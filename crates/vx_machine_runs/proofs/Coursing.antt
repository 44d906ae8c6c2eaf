-- Runs of the machine wherever it begins and over whatever sink.
use Rattle.std.proofs.Common.{◌≡◌, ◌+◌, ◌%◌, ◌<◌, ◌≤◌, ◌||◌, ◌⊎◌, ◌∷◌, ◌++◌, ◌∙◌, ℕ, suc, Bool, true, false, if◌then◌else◌, bytes_eq, List, map, length, refl, sym, ap, subst, arith, Some, None, is_some, append_assoc, append-nil, length-append, inl, inr, ⊎_elim, []}
use Rattle.std.specs.Cmp.Lexicographic.{bytes_decides}
use Rattle.std.proofs.lemmas.Bool.{true≢false}
use Rattle.vx_model.specs.ChunkData.{ChunkData}
use Rattle.vx_path.specs.Lists.{In}
use Rattle.vx_path.proofs.Lists.{in_cases, from_map}
use Rattle.vx_path.specs.Path.{Eof, Scattered, meets}
use Rattle.vx_machine_state.specs.Images.{Careful}
use Rattle.vx_layout_spec.specs.LayoutTree.{renamed}
use Rattle.vx_tasks.specs.State.{left}
use Rattle.vx_tasks.specs.Rules.{AtLeast}
use Rattle.vx_tasks.specs.Run.{Note, nth, first_pick, later_picks}
use Rattle.vx_tasks.specs.Runs.{noted}
use Rattle.vx_cut_laws.specs.Cut.{cut}
use Rattle.vx_named_tasks.specs.Names.{Names, Outset, CanBegin}
use Rattle.vx_plan.specs.PlanData.{Pair, Plan, paths}
use Rattle.vx_plan.specs.Number.{sorted}
use Rattle.vx_plan.proofs.Fronts.{scattered_sorted}
use Rattle.vx_plan.proofs.Numbering.{in_paths, clash}
use Rattle.vx_plan.proofs.Spots.{scattered_left}
use Rattle.vx_machine_turns.specs.Acts.{refuses, written_by}
use Rattle.vx_machine_turns.specs.Source.{seed_at, stream_plan}
use Rattle.vx_machine_turns.specs.Readings.{number_reading}
use Rattle.vx_machine_steps.specs.Tree.{read, opened, counts}
use Rattle.vx_machine_steps.specs.Moves.{TreeMove, tree_moves, all_paths, all_over}
use Rattle.vx_machine_steps.specs.Runs.{picks_after}
use Rattle.vx_machine_steps.specs.Stands.{Stands}
use Rattle.vx_machine_steps.specs.StartPlanned.{started_at, forest_at}
use Rattle.vx_machine_promises.specs.Write.{Write, Future, Open, Answer, unasked, came, over, depth, scripts_at, planned_at, taken_by, heard_by, before}
use Rattle.vx_machine_promises.specs.Reached.{ReachedAt, moves_at, pick_at, Stepped}
use Rattle.vx_machine_promises.specs.Promises.{StartIsReachedAt, StepIsReachedAt, StateStandsAt, SomethingIsReadyAt, WorkFallsAt, HistoryIsFirstAt, PathsAreApartAt, EndedBy, EndIsPlannedAt, RefusalsHaveCauseAt, CountedBy, MovesAreCountedAt, StartIsCountedAt}
use Rattle.vx_machine_state.specs.Reserved.{reserved_by}
use Rattle.vx_machine_state.specs.Moves.{Step, steps}
use Rattle.vx_machine_view.specs.Machine.{reading, WholeStep, may_source, source_step, in_root, whole_steps, is_finished, machine_ids}
use Rattle.vx_machine_view.specs.Places.{whole_ready}
use Rattle.vx_machine_view.specs.Whole.{form_of, root_depth, Asks, outset_from, SameHeld, ShowsMachineAt, SameWholeAt}
use Rattle.vx_machine_view.proofs.Ending.{held_shows_at, moves_shows_at, finish_shows_at, layout_shows_at}
use Rattle.vx_machine_view.proofs.Placing.{whole_is_ready}
use Rattle.vx_machine_view.proofs.Reserving.{start_reserves_at, whole_reserves_at}
use Rattle.vx_machine_view.proofs.Wholes.{start_shows_at, step_shows_at, ready_shows_at, free_below_at}
use Rattle.vx_machine_view.proofs.Counting.{whole_joins}
use Rattle.vx_machine_promises.proofs.Standing.{at_start_at, reads_at}
use Rattle.vx_machine_view.proofs.Words.{same_some}
use Rattle.vx_machine_runs.specs.Ends.{Caused}
use Rattle.vx_machine_runs.specs.Tracked.{Comes}
use Rattle.vx_machine_runs.specs.Runs.{Asking, TypedAnswer, BeforeEnd, PickedBy}
use Rattle.vx_machine_runs.specs.Courses.{Point, start_point, point_after, Goes, GoesBy, HasComeTo, tracked_at, Numbered, StandsIn, ForFutures, LeavesIn, CourseIsUnderway, CourseIsReady, CourseIsFront, CourseGoesOn, FinishedBy, CourseEnds, CausedThere, CourseHasCause, CourseMisfitIsRead, CourseStartHasCause}
use Rattle.vx_machine_runs.proofs.Asking.{is_past, Tells, step_tells, before_end}
use Rattle.vx_machine_runs.proofs.Counting.{nth_in}
use Rattle.vx_machine_runs.proofs.Doing.{did, counted_in, move_did, opened_first_at}
use Rattle.vx_machine_runs.proofs.Ending.{none_later, open_none}
use Rattle.vx_machine_runs.proofs.Misfits.{steps_fit, source_misfit, at_place}
use Rattle.vx_machine_runs.proofs.Sounding.{past_most}
use Rattle.vx_machine_runs.proofs.Stepping.{open_before, asks_by, picks_more}

-- ---- numbers of paths

-- the number that stands beside the first pair of a path
abbrev number_in : List Pair → List ℕ → List ℕ → ℕ
number_in [] ns p = 0
number_in (x ∷ xs) [] p = 0
number_in (x ∷ xs) (n ∷ ns) p = if bytes_eq p x.0 then n else number_in xs ns p

map_alike : (f h : Pair → ℕ) (xs : List Pair) → ((x : Pair) → In x xs → f x ≡ h x) → map f xs ≡ map h xs
map_alike f h [] e = refl
map_alike f h (x ∷ xs) e = λ k. e x (inl refl) k ∷ map_alike f h xs (λ y i. e y (inr i)) k

numbered_in : (xs : List Pair) (ns : List ℕ) → length ns ≡ length xs → Scattered (paths xs) → map (λ x. number_in xs ns x.0) xs ≡ ns
numbered_in [] [] l s = refl
numbered_in [] (n ∷ ns) l s = absurd (omega (arith, l))
numbered_in (x ∷ xs) [] l s = absurd (omega (arith, l))
numbered_in (x ∷ xs) (n ∷ ns) l s =
    let here : number_in (x ∷ xs) (n ∷ ns) x.0 ≡ n = ap (λ z. if z then n else number_in xs ns x.0) ((bytes_decides x.0 x.0).1 refl) in
    let others : map (λ y. number_in (x ∷ xs) (n ∷ ns) y.0) xs ≡ ns = map_alike (λ y. number_in (x ∷ xs) (n ∷ ns) y.0) (λ y. number_in xs ns y.0) xs other ∙ numbered_in xs ns (omega (arith, l)) s.1 in
    λ k. here k ∷ others k
  where
    other : (y : Pair) → In y xs → number_in (x ∷ xs) (n ∷ ns) y.0 ≡ number_in xs ns y.0
    other y i = by (bytes_eq y.0 x.0) refl
      where
        by : (b : Bool) → bytes_eq y.0 x.0 ≡ b → (if bytes_eq y.0 x.0 then n else number_in xs ns y.0) ≡ number_in xs ns y.0
        by true e = absurd (clash x.0 (subst (λ z. meets x.0 z ≡ false) ((bytes_decides y.0 x.0).0 e) (s.0 y.0 (in_paths y xs i))))
        by false e = ap (λ z. if z then n else number_in xs ns y.0) e

-- lists that end by as many
split_ends : (xs us ys vs : List ℕ) → length ys ≡ length vs → xs ++ ys ≡ us ++ vs → (xs ≡ us) × (ys ≡ vs)
split_ends [] [] ys vs l e = (refl, e)
split_ends [] (u ∷ us) ys vs l e = let k : length ys ≡ suc (length (us ++ vs)) = ap length e in let m : length (us ++ vs) ≡ length us + length vs = length-append us vs in absurd (omega (arith, k, l, m))
split_ends (x ∷ xs) [] ys vs l e = let k : suc (length (xs ++ ys)) ≡ length vs = ap length e in let m : length (xs ++ ys) ≡ length xs + length ys = length-append xs ys in absurd (omega (arith, k, l, m))
split_ends (x ∷ xs) (u ∷ us) ys vs l e =
    let h : x ≡ u = cc in
    let t : xs ++ ys ≡ us ++ vs = cc in
    let r = split_ends xs us ys vs l t in
    (λ k. h k ∷ r.0 k, r.1)

map_length : (f : Pair → ℕ) (xs : List Pair) → length (map f xs) ≡ length xs
map_length f [] = refl
map_length f (x ∷ xs) = ap suc (map_length f xs)

map_append : (f : Pair → ℕ) (xs ys : List Pair) → map f (xs ++ ys) ≡ map f xs ++ map f ys
map_append f [] ys = refl
map_append f (x ∷ xs) ys = ap (λ z. f x ∷ z) (map_append f xs ys)

-- numbers of all are those of what was appended before, and the step's
numbered_both : (number : List ℕ → ℕ) (x : Point) (told : Answer) (n : ℕ) (w : WholeStep) → Numbered number (point_after x told n w) → Numbered number x × (map (λ p. number p.0) w.wrote ≡ map (λ p. n) w.wrote)
numbered_both number x told n w e =
    split_ends (map (λ p. number p.0) x.history) x.numbers (map (λ p. number p.0) w.wrote) (map (λ p. n) w.wrote) (map_length (λ p. number p.0) w.wrote ∙ sym (map_length (λ p. n) w.wrote))
    (sym (map_append (λ p. number p.0) x.history w.wrote) ∙ e)

number_of_one : (number : List ℕ → ℕ) (n : ℕ) (wrote : List Pair) (p b : List ℕ) → wrote ≡ (p, b) ∷ [] → map (λ x. number x.0) wrote ≡ map (λ x. n) wrote → n ≡ number p
number_of_one number n wrote p b is e = sym (only (number p) n (subst (λ z. map (λ x. number x.0) z ≡ map (λ x. n) z) is e))
  where
    only : (a c : ℕ) → a ∷ [] ≡ c ∷ [] → a ≡ c
    only a c h = cc

-- ---- what comes with a step

pub goes_long : (g : Write) (x y : Point) (n : Note) → Goes g x y n → length x.numbers ≡ length x.history → length y.numbers ≡ length y.history
goes_long g x y n d l =
    let a : length (x.numbers ++ map (λ p. d.number) d.step.wrote) ≡ length x.numbers + length (map (λ p. d.number) d.step.wrote) = length-append x.numbers (map (λ p. d.number) d.step.wrote) in
    let b : length (map (λ p. d.number) d.step.wrote) ≡ length d.step.wrote = map_length (λ p. d.number) d.step.wrote in
    let c : length (x.history ++ d.step.wrote) ≡ length x.history + length d.step.wrote = length-append x.history d.step.wrote in
    let e : length (x.numbers ++ map (λ p. d.number) d.step.wrote) ≡ length (x.history ++ d.step.wrote) = omega (arith, a, b, c, l) in
    subst (λ (z : Point). length z.numbers ≡ length z.history) (sym d.left) e

pub same_batches : (taken : List ChunkData) (told : Answer) (f : Future) → taken ++ (before told f).later ≡ taken_by taken told ++ f.later
same_batches taken unasked f = refl
same_batches taken (came b) f = sym (append_assoc taken (b ∷ []) f.later)
same_batches taken over f = refl

same_scripts_at : (g : Write) (o : Outset) (taken : List ChunkData) (told : Answer) (f : Future) → scripts_at g o taken (before told f) ≡ scripts_at g o (taken_by taken told) f
same_scripts_at g o taken unasked f = refl
same_scripts_at g o taken (came b) f = ap (λ z. forest_at g.setting g.way g.type g.mark o z f.fits) (sym (append_assoc taken (b ∷ []) f.later))
same_scripts_at g o taken over f = refl

done_so : (m : TreeMove) (w : WholeStep) → w.refusal ≡ m.act.refusal → w.misfit ≡ m.act.misfit → w.refusal ≡ None → w.misfit ≡ false → refuses m.act ≡ false
done_so m w r s n f = ap (λ z. z || is_some m.act.refusal) (sym s ∙ f) ∙ ap is_some (sym r ∙ n)

-- ---- one step, for one future

module _ (reached : (o : Outset) → StepIsReachedAt o) (stands : (o : Outset) → StateStandsAt o) (falls : (o : Outset) → WorkFallsAt o) (first : (o : Outset) → HistoryIsFirstAt o) (apart : (o : Outset) → PathsAreApartAt o)
    (g : Write) (o : Outset) (law : Careful g.setting) where
  -- some function gives each path its number
  module _ (notes : List Note) (x : Point) (f : Future) (long : length x.numbers ≡ length x.history) (can : CanBegin o (length (x.taken ++ f.later))) (r : ReachedAt g o x.taken f notes x.history (tracked_at g x)) where
    abbrev some_number : List ℕ → ℕ
    some_number = number_in x.history x.numbers

    all_apart : Scattered (paths x.history)
    all_apart =
        let h = first o g x.taken f notes x.history (tracked_at g x) r can in
        scattered_left (paths x.history) (paths h.0) (subst Scattered (paths_append x.history h.0)
        (subst (λ z. Scattered (paths z)) h.1 (scattered_sorted (planned_at g o x.taken f).pairs (apart o g x.taken f can))))
      where
        paths_append : (ps qs : List Pair) → paths (ps ++ qs) ≡ paths ps ++ paths qs
        paths_append [] qs = refl
        paths_append (p ∷ ps) qs = ap (λ z. p.0 ∷ z) (paths_append ps qs)

    some_numbered : Numbered some_number x
    some_numbered = numbered_in x.history x.numbers long all_apart

    module _ (shows : (number : List ℕ → ℕ) → Numbered number x → ShowsMachineAt g o number x.machine f r.tree) where
      shown : ShowsMachineAt g o some_number x.machine f r.tree
      shown = shows some_number some_numbered

      stands_here : Stands g.setting (depth g) r.tree
      stands_here = stands o g x.taken f notes x.history (tracked_at g x) r can

      same_moves : tree_moves g.setting (machine_ids x.machine) (depth g) r.tree ≡ moves_at g r.tree
      same_moves = moves_shows_at g o some_number f x.machine r.tree stands_here shown

      as_ready : (number : ℕ) (told : Answer) → whole_ready (machine_ids x.machine) x.machine ≡ length (moves_at g r.tree)
      as_ready number told =
          sym (whole_is_ready g.setting (machine_ids x.machine) number told x.machine)
          ∙ ready_shows_at o g some_number number (machine_ids x.machine) told f x.machine r.tree law stands_here shown ∙ ap length same_moves

      pub is_over : is_finished x.machine ≡ all_over r.tree
      is_over = finish_shows_at o g some_number f x.machine r.tree stands_here shown

      held_alike : SameHeld (machine_ids x.machine) (all_paths r.tree)
      held_alike = held_shows_at o g some_number f x.machine r.tree stands_here shown

  module _ (notes : List Note) (x : Point) (n : Note) (told : Answer) (number : ℕ) (w : WholeStep) (place : nth (whole_steps g.setting (machine_ids x.machine) number told x.machine) n.picked ≡ Some w)
      (asks : Asking x.machine.phase n.picked told) (typed : TypedAnswer g.type told) (once : BeforeEnd x.heard told) (fits : w.misfit ≡ false) (unrefused : w.refusal ≡ None)
      (note : n ≡ noted (whole_ready (machine_ids x.machine) x.machine) n.picked w.name w.kind) (pick : n.picked ≡ first_pick (picks_after (length notes) g.schedule) % n.ready) (long : length x.numbers ≡ length x.history)
      (f : Future) (may : Open (heard_by x.heard told) f) (can : CanBegin o (length (taken_by x.taken told ++ f.later))) where
    abbrev ahead : Future
    ahead = before told f

    abbrev new : Point
    new = point_after x told number w

    pub can_before : CanBegin o (length (x.taken ++ ahead.later))
    can_before = subst (λ bs. CanBegin o (length bs)) (sym (same_batches x.taken told f)) can

    ask : Asks g.type f x.machine.phase n.picked told
    ask = asks_by g.setting g.type (machine_ids x.machine) number x.machine told n.picked w f place asks typed fits

    module _ (r : ReachedAt g o x.taken ahead notes x.history (tracked_at g x)) (shows : (number : List ℕ → ℕ) → Numbered number x → ShowsMachineAt g o number x.machine ahead r.tree) where
      -- the move at the same place, by any numbers
      move_by : (by : List ℕ → ℕ) → ShowsMachineAt g o by x.machine ahead r.tree
          → (v : TreeMove) × (nth (tree_moves g.setting (machine_ids x.machine) (depth g) r.tree) n.picked ≡ Some v) × SameWholeAt g o by number f w v
      move_by by shown = step_shows_at o g by number (machine_ids x.machine) x.heard told f x.machine r.tree n.picked w law (stands_here notes x ahead long can_before r shows) may shown place ask

      pub some_move : (v : TreeMove) × (nth (tree_moves g.setting (machine_ids x.machine) (depth g) r.tree) n.picked ≡ Some v) × SameWholeAt g o (some_number notes x ahead long can_before r) number f w v
      some_move = move_by (some_number notes x ahead long can_before r) (shown notes x ahead long can_before r shows)

      abbrev move : TreeMove
      move = some_move.0

      at : nth (moves_at g r.tree) n.picked ≡ Some move
      at = ap (λ z. nth z n.picked) (sym (same_moves notes x ahead long can_before r shows)) ∙ some_move.1

      done : refuses move.act ≡ false
      done = done_so move w some_move.2.refusal some_move.2.misfit unrefused fits

      ready : whole_ready (machine_ids x.machine) x.machine ≡ length (moves_at g r.tree)
      ready = as_ready notes x ahead long can_before r shows number told

      picked : n.picked ≡ pick_at g r.tree notes
      picked = pick ∙ ap (λ (z : Note). first_pick (picks_after (length notes) g.schedule) % z.ready) note ∙ ap (λ z. first_pick (picks_after (length notes) g.schedule) % z) ready

      even : (g.tracker + reserved_by w.after.root) + move.act.lowers ≡ tracked_at g x + move.act.raises
      even =
          let h : reserved_by w.after.root + w.lowers ≡ reserved_by x.machine.root + w.raises =
          whole_reserves_at o g (some_number notes x ahead long can_before r) number (machine_ids x.machine) told ahead x.machine r.tree w (shown notes x ahead long can_before r shows)
          (nth_in (whole_steps g.setting (machine_ids x.machine) number told x.machine) n.picked w place) in
          let a : w.lowers ≡ move.act.lowers = some_move.2.lowers in
          let b : w.raises ≡ move.act.raises = some_move.2.raises in
          omega (arith, h, a, b)

      abbrev stepped : Stepped g r.tree notes n x.history (x.history ++ w.wrote) (tracked_at g x) (g.tracker + reserved_by w.after.root)
      stepped = record {
        move = move;
        picked = ap (nth (moves_at g r.tree)) (sym picked) ∙ at;
        done = done;
        note_is = note ∙ ap (λ z. noted z n.picked w.name w.kind) ready ∙ ap (λ z. noted (length (moves_at g r.tree)) z w.name w.kind) picked
            ∙ ap (λ z. noted (length (moves_at g r.tree)) (pick_at g r.tree notes) z w.kind) some_move.2.name
            ∙ ap (λ z. noted (length (moves_at g r.tree)) (pick_at g r.tree notes) move.name z) some_move.2.kind;
        wrote = ap (λ z. x.history ++ z) some_move.2.wrote;
        tracked = even;
      }

      pub grown : (q : ReachedAt g o (taken_by x.taken told) f (notes ++ (n ∷ [])) (x.history ++ w.wrote) (g.tracker + reserved_by w.after.root)) × (q.tree ≡ move.after)
      grown = reached o g x.taken told f notes x.history (x.history ++ w.wrote) (tracked_at g x) (g.tracker + reserved_by w.after.root) n r stepped

      -- whatever numbers it ahead has
      pub shows_then : (by : List ℕ → ℕ) → Numbered by new → ShowsMachineAt g o by w.after f grown.0.tree
      shows_then by numbered =
          let both = numbered_both by x told number w numbered in
          let m : (v : TreeMove) × (nth (tree_moves g.setting (machine_ids x.machine) (depth g) r.tree) n.picked ≡ Some v) × SameWholeAt g o by number f w v = move_by by (shows by both.0) in
          let v : m.0 ≡ move = same_some m.0 move (sym m.1 ∙ some_move.1) in
          let s : SameWholeAt g o by number f w move = subst (SameWholeAt g o by number f w) v m.2 in
          subst (ShowsMachineAt g o by w.after f) (sym grown.1)
          (s.after done (λ q e. number_of_one by number w.wrote q move.act.bytes (s.wrote ∙ ap (λ z. written_by z move.act.bytes) e) both.1))

      abbrev pub state_then : StandsIn g o (notes ++ (n ∷ [])) new f
      state_then = record { reached = grown.0; shows = shows_then }

      -- what is counted then was before, or in the step
      pub counted_then : (i : ℕ) → In i (did state_then.reached.tree) → In i (did r.tree) ⊎ In i (w.numbers ++ w.indices)
      counted_then i h = ⊎_elim (λ z. inl z) (λ z. inr (subst (λ v. In i v) is z))
          (move_did g.setting (all_paths r.tree) (depth g) r.tree move (nth_in (moves_at g r.tree) n.picked move at) i (subst (λ t. In i (did t)) grown.1 h))
        where
          is : counted_in move ≡ w.numbers ++ w.indices
          is = ap (λ z. z ++ (move.act.indices ++ opened move.room move.act.starts)) (sym some_move.2.numbers) ∙ ap (λ z. w.numbers ++ z) (sym some_move.2.indices)

      -- and one act less is left
      less : suc (left (cut (scripts_at g o (taken_by x.taken told) f)) (counts grown.0.tree)) ≡ left (cut (scripts_at g o x.taken ahead)) (counts r.tree)
      less =
          ap (λ z. suc (left (cut z) (counts grown.0.tree))) (sym (same_scripts_at g o x.taken told f))
          ∙ ap (λ z. suc (left (cut (scripts_at g o x.taken ahead)) (counts z))) grown.1
          ∙ falls o g x.taken ahead notes x.history (tracked_at g x) r can_before move (nth_in (moves_at g r.tree) n.picked move at)

-- ---- whole runs

-- once the end is told, the source has read it
abbrev Past : Point → Type 0
Past x = x.heard ≡ true → is_past x.machine.phase ≡ true

goes_past : (g : Write) (x y : Point) (n : Note) → Goes g x y n → Past x → Past y
goes_past g x y n d p = subst Past (sym d.left) (by d.told (step_tells g.setting d.number x.machine d.told n.picked d.step d.place d.asks d.fits) d.once)
  where
    by : (told : Answer) → Tells told x.machine.phase d.step → BeforeEnd x.heard told → Past (point_after x told d.number d.step)
    by unasked t b h = t.1 (p h)
    by (came c) t b h = absurd (true≢false (sym h ∙ b))
    by over t b h = t.3

comes_past : (g : Write) (ns : List Note) (x y : Point) → GoesBy g x ns y → Past x → Past y
comes_past g [] x y c p = subst Past c p
comes_past g (n ∷ ns) x y c p = comes_past g ns c.0 y c.2 (goes_past g x c.0 n c.1 p)

pub comes_long : (g : Write) (ns : List Note) (x y : Point) → GoesBy g x ns y → length x.numbers ≡ length x.history → length y.numbers ≡ length y.history
comes_long g [] x y c l = subst (λ (z : Point). length z.numbers ≡ length z.history) c l
comes_long g (n ∷ ns) x y c l = comes_long g ns c.0 y c.2 (goes_long g x c.0 n c.1 l)

pub comes_more : (g : Write) (x y z : Point) (ns : List Note) (n : Note) → GoesBy g x ns y → Goes g y z n → GoesBy g x (ns ++ (n ∷ [])) z
comes_more g x y z [] n c d = (z, subst (λ v. Goes g v z n) (sym c) d, refl)
comes_more g x y z (m ∷ ns) n c d = (c.0, c.1, comes_more g c.0 y z ns n c.2 d)

pub picked_more : (picks : List ℕ) (ns : List Note) (n : Note) → PickedBy picks ns → n.picked ≡ first_pick (picks_after (length ns) picks) % n.ready → PickedBy picks (ns ++ (n ∷ []))
picked_more picks [] n p h = (h, tt)
picked_more picks (m ∷ ns) n p h = (p.0, picked_more (later_picks picks) ns n p.1 h)

-- where the source tells something, its end isn't told
pub asked_before : (g : Write) (names : Names) (eof : Eof) (notes : List Note) (x : Point) (told : Answer) (k : ℕ) → HasComeTo g names eof notes x → Asking x.machine.phase k told → BeforeEnd x.heard told
asked_before g names eof notes x told k h asks = before_end x.heard told x.machine.phase k (comes_past g notes (start_point g names eof) x h.comes (λ e. absurd (true≢false (sym e)))) asks

module _ (starts : (o : Outset) → StartIsReachedAt o) (reached : (o : Outset) → StepIsReachedAt o) (stands : (o : Outset) → StateStandsAt o) (falls : (o : Outset) → WorkFallsAt o) (first : (o : Outset) → HistoryIsFirstAt o)
    (apart : (o : Outset) → PathsAreApartAt o) (g : Write) (names : Names) (eof : Eof) where
  abbrev o : Outset
  o = outset_from names eof

  begun : HasComeTo g names eof [] (start_point g names eof) → ForFutures o (start_point g names eof) (λ f. StandsIn g o [] (start_point g names eof) f)
  begun h f may can =
      let r = starts o g f in
      let none : reserved_by (start_point g names eof).machine.root ≡ 0 = start_reserves_at names eof (form_of g) g.mark in
      let t : g.tracker ≡ tracked_at g (start_point g names eof) = omega (arith, none) in
      let q : (r : ReachedAt g o [] f [] [] (tracked_at g (start_point g names eof))) × ((by : List ℕ → ℕ) → ShowsMachineAt g o by (start_point g names eof).machine f r.tree) =
      subst (λ z. (r : ReachedAt g o [] f [] [] z) × ((by : List ℕ → ℕ) → ShowsMachineAt g o by (start_point g names eof).machine f r.tree)) t
      (r.0, λ by. subst (ShowsMachineAt g o by (start_point g names eof).machine f) (sym r.1) (start_shows_at names eof g by f h.starts)) in
      record { reached = q.0; shows = λ by e. q.1 by }

  -- from one point to the next
  module _ (law : Careful g.setting) (notes : List Note) (x y : Point) (n : Note) (d : Goes g x y n) (pick : n.picked ≡ first_pick (picks_after (length notes) g.schedule) % n.ready)
      (long : length x.numbers ≡ length x.history) (under : ForFutures o x (λ f. StandsIn g o notes x f)) where
    abbrev next_point : Point
    next_point = point_after x d.told d.number d.step

    abbrev Less : Point → Future → Type 0
    Less z f = (k : ℕ) × LeavesIn g o notes x (before d.told f) (suc k) × LeavesIn g o (notes ++ (n ∷ [])) z f k

    less_new : ForFutures o next_point (λ f. Less next_point f)
    less_new f may can = on (under (before d.told f) (open_before x.heard d.told f d.once may) (subst (λ bs. CanBegin o (length bs)) (sym (same_batches x.taken d.told f)) can))
      where
        on : StandsIn g o notes x (before d.told f) → Less next_point f
        on s =
            let q : StandsIn g o (notes ++ (n ∷ [])) next_point f =
            state_then reached stands falls first apart g o law notes x n d.told d.number d.step d.place d.asks d.typed d.once d.fits d.unrefused d.note pick long f may can s.reached s.shows in
            let e : suc (left (cut (scripts_at g o next_point.taken f)) (counts q.reached.tree)) ≡ left (cut (scripts_at g o x.taken (before d.told f))) (counts s.reached.tree) =
            less reached stands falls first apart g o law notes x n d.told d.number d.step d.place d.asks d.typed d.once d.fits d.unrefused d.note pick long f may can s.reached s.shows in
            (left (cut (scripts_at g o next_point.taken f)) (counts q.reached.tree), record { state = s; left_is = sym e }, record { state = q; left_is = refl })

    less_on : ForFutures o y (λ f. Less y f)
    less_on = subst (λ z. ForFutures o z (λ f. Less z f)) (sym d.left) less_new

    under_on : ForFutures o y (λ f. StandsIn g o (notes ++ (n ∷ [])) y f)
    under_on f may can = (less_on f may can).2.state

  comes_under : Careful g.setting → (seen ns : List Note) (x y : Point) → PickedBy (picks_after (length seen) g.schedule) ns → GoesBy g x ns y → length x.numbers ≡ length x.history
      → ForFutures o x (λ f. StandsIn g o seen x f) → ForFutures o y (λ f. StandsIn g o (seen ++ ns) y f)
  comes_under law seen [] x y p c l u = subst (λ z. ForFutures o y (λ f. StandsIn g o z y f)) (sym (append-nil seen)) (subst (λ z. ForFutures o z (λ f. StandsIn g o seen z f)) c u)
  comes_under law seen (n ∷ ns) x y p c l u = subst (λ z. ForFutures o y (λ f. StandsIn g o z y f)) (append_assoc seen (n ∷ []) ns)
      (comes_under law (seen ++ (n ∷ [])) ns c.0 y (subst (λ z. PickedBy z ns) (sym (picks_more seen n g.schedule)) p.1) c.2 (goes_long g x c.0 n c.1 l) (under_on law seen x c.0 n c.1 p.0 l u))

  module _ (notes : List Note) (x : Point) (h : HasComeTo g names eof notes x) where
    under_way : ForFutures o x (λ f. StandsIn g o notes x f)
    under_way = comes_under h.careful [] notes (start_point g names eof) x h.picked h.comes refl (begun (record { careful = h.careful; starts = h.starts; picked = tt; comes = refl }))

pub course_is_underway : ((o : Outset) → StartIsReachedAt o) → ((o : Outset) → StepIsReachedAt o) → ((o : Outset) → StateStandsAt o) → ((o : Outset) → WorkFallsAt o) → ((o : Outset) → HistoryIsFirstAt o)
    → ((o : Outset) → PathsAreApartAt o) → CourseIsUnderway
course_is_underway starts reached stands falls first apart g names eof notes x h = under_way starts reached stands falls first apart g names eof notes x h

pub course_is_ready : ((o : Outset) → StartIsReachedAt o) → ((o : Outset) → StepIsReachedAt o) → ((o : Outset) → StateStandsAt o) → ((o : Outset) → WorkFallsAt o) → ((o : Outset) → HistoryIsFirstAt o)
    → ((o : Outset) → PathsAreApartAt o) → ((o : Outset) → SomethingIsReadyAt o) → CourseIsReady
course_is_ready starts reached stands falls first apart some g names eof notes x h can going =
    by (under_way starts reached stands falls first apart g names eof notes x h (none_later x.heard) (open_none x.heard) can_none)
  where
    can_none : CanBegin (outset_from names eof) (length (x.taken ++ []))
    can_none = subst (λ bs. CanBegin (outset_from names eof) (length bs)) (sym (append-nil x.taken)) can

    long : length x.numbers ≡ length x.history
    long = comes_long g notes (start_point g names eof) x h.comes refl

    by : StandsIn g (outset_from names eof) notes x (none_later x.heard) → 0 < whole_ready (machine_ids x.machine) x.machine
    by s =
        let more : 0 < length (moves_at g s.reached.tree) = some (outset_from names eof) g x.taken (none_later x.heard) notes x.history (tracked_at g x) s.reached can_none
        (sym (is_over reached stands falls first apart g (outset_from names eof) h.careful notes x (none_later x.heard) long can_none s.reached s.shows) ∙ going) in
        subst (λ z. 0 < z) (sym (as_ready reached stands falls first apart g (outset_from names eof) h.careful notes x (none_later x.heard) long can_none s.reached s.shows 0 unasked)) more

pub course_is_front : ((o : Outset) → StartIsReachedAt o) → ((o : Outset) → StepIsReachedAt o) → ((o : Outset) → StateStandsAt o) → ((o : Outset) → WorkFallsAt o) → ((o : Outset) → HistoryIsFirstAt o)
    → ((o : Outset) → PathsAreApartAt o) → CourseIsFront
course_is_front starts reached stands falls first apart g names eof notes x h f may can = by (under_way starts reached stands falls first apart g names eof notes x h f may can)
  where
    Front : Type 0
    Front = (more : List Pair) × (sorted (planned_at g (outset_from names eof) x.taken f).pairs ≡ x.history ++ more) × ((p : Pair) → In p more → AtLeast (machine_ids x.machine) p.0)

    long : length x.numbers ≡ length x.history
    long = comes_long g notes (start_point g names eof) x h.comes refl

    by : StandsIn g (outset_from names eof) notes x f → Front
    by s =
        let e = first (outset_from names eof) g x.taken f notes x.history (tracked_at g x) s.reached can in
        let held : SameHeld (machine_ids x.machine) (all_paths s.reached.tree) =
        held_alike reached stands falls first apart g (outset_from names eof) h.careful notes x f long can s.reached s.shows in
        (e.0, e.1, λ p i. at_held (machine_ids x.machine) (all_paths s.reached.tree) held p.0 (e.2 p i))
      where
        at_held : (ps qs : List (List ℕ)) → SameHeld ps qs → (q : List ℕ) → AtLeast qs q → AtLeast ps q
        at_held ps qs held q (y, i, l) = (y, held.1 y i, l)

pub course_goes_on : ((o : Outset) → StartIsReachedAt o) → ((o : Outset) → StepIsReachedAt o) → ((o : Outset) → StateStandsAt o) → ((o : Outset) → WorkFallsAt o) → ((o : Outset) → HistoryIsFirstAt o)
    → ((o : Outset) → PathsAreApartAt o) → CourseGoesOn
course_goes_on starts reached stands falls first apart g names eof notes x y n h d pick = (
  record { careful = h.careful; starts = h.starts; picked = picked_more g.schedule notes n h.picked pick; comes = comes_more g (start_point g names eof) x y notes n h.comes d },
  less_on starts reached stands falls first apart g names eof h.careful notes x y n d pick (comes_long g notes (start_point g names eof) x h.comes refl)
      (under_way starts reached stands falls first apart g names eof notes x h),
)

pub ends_as_planned : ((o : Outset) → StartIsReachedAt o) → ((o : Outset) → StepIsReachedAt o) → ((o : Outset) → StateStandsAt o) → ((o : Outset) → WorkFallsAt o) → ((o : Outset) → HistoryIsFirstAt o)
    → ((o : Outset) → PathsAreApartAt o) → ((o : Outset) → EndIsPlannedAt o) → CourseEnds
ends_as_planned starts reached stands falls first apart ends g names eof notes x h can fin =
    by (under_way starts reached stands falls first apart g names eof notes x h (none_later x.heard) (open_none x.heard) can_none)
  where
    can_none : CanBegin (outset_from names eof) (length (x.taken ++ []))
    can_none = subst (λ bs. CanBegin (outset_from names eof) (length bs)) (sym (append-nil x.taken)) can

    long : length x.numbers ≡ length x.history
    long = comes_long g notes (start_point g names eof) x h.comes refl

    by : StandsIn g (outset_from names eof) notes x (none_later x.heard) → FinishedBy (stream_plan g.setting g.way g.type g.mark (outset_from names eof) x.taken true) x
    by s =
        let stood : Stands g.setting (depth g) s.reached.tree = stands (outset_from names eof) g x.taken (none_later x.heard) notes x.history (tracked_at g x) s.reached can_none in
        let over_now : all_over s.reached.tree ≡ true =
        sym (is_over reached stands falls first apart g (outset_from names eof) h.careful notes x (none_later x.heard) long can_none s.reached s.shows) ∙ fin in
        let e : EndedBy g (planned_at g (outset_from names eof) x.taken (none_later x.heard)) (none_later x.heard) x.history (tracked_at g x) s.reached.tree =
        ends (outset_from names eof) g x.taken (none_later x.heard) notes x.history (tracked_at g x) s.reached can_none over_now h.starts in
        let p : planned_at g (outset_from names eof) x.taken (none_later x.heard) ≡ stream_plan g.setting g.way g.type g.mark (outset_from names eof) x.taken true =
        ap (λ z. stream_plan g.setting g.way g.type g.mark (outset_from names eof) z x.heard) (append-nil x.taken) ∙ ap (λ b. stream_plan g.setting g.way g.type g.mark (outset_from names eof) x.taken b) e.fits in
        record {
          heard = e.fits;
          faultless = ap (λ (z : Plan). z.faults) (sym p) ∙ e.faultless;
          appended = e.whole ∙ ap (λ (z : Plan). sorted z.pairs) p;
          layout = λ number numbered. layout_shows_at (outset_from names eof) g number (none_later x.heard) x.machine s.reached.tree stood (s.shows number numbered) over_now
              ∙ ap (map (renamed number)) e.layout ∙ ap (λ (z : Plan). renamed number z.layout ∷ []) p;
          released = let t : g.tracker + reserved_by x.machine.root ≡ g.tracker = e.tracked in omega (arith, t);
        }

-- ---- causes

caused_then : (g : Write) (o : Outset) (notes : List Note) (x : Point) (taken : List ChunkData) (told : Answer) (f : Future) (k : ℕ) (w : WholeStep) → CausedThere g o notes x taken (before told f) k w
    → CausedThere g o notes x (taken_by taken told) f k w
caused_then g o notes x taken unasked f k w c = c
caused_then g o notes x taken (came b) f k w c =
    let e : taken ++ (b ∷ f.later) ≡ (taken ++ (b ∷ [])) ++ f.later = sym (append_assoc taken (b ∷ []) f.later) in
    record {
      caused = subst (λ z. Caused (stream_plan g.setting g.way g.type g.mark o z f.fits) w) e c.caused;
      comes = subst (λ z. Comes g (started_at g.way g.type g.mark o z f.fits) notes k (tracked_at g x + w.raises)) e c.comes;
      within = subst (λ z. tracked_at g x + w.raises ≤ g.tracker + (stream_plan g.setting g.way g.type g.mark o z f.fits).reserved) e c.within;
    }
caused_then g o notes x taken over f k w c = c

pub course_has_cause : ((o : Outset) → StartIsReachedAt o) → ((o : Outset) → StepIsReachedAt o) → ((o : Outset) → StateStandsAt o) → ((o : Outset) → WorkFallsAt o) → ((o : Outset) → HistoryIsFirstAt o)
    → ((o : Outset) → PathsAreApartAt o) → ((o : Outset) → RefusalsHaveCauseAt o) → ((o : Outset) → MovesAreCountedAt o) → CourseHasCause
course_has_cause starts reached stands falls first apart refusals moved_counts g names eof notes x told number k w f h c may can =
    caused_then g (outset_from names eof) notes x x.taken told f k w
    (by (under_way starts reached stands falls first apart g names eof notes x h (before told f) (open_before x.heard told f c.once may) can_before))
  where
    can_before : CanBegin (outset_from names eof) (length (x.taken ++ (before told f).later))
    can_before = subst (λ bs. CanBegin (outset_from names eof) (length bs)) (sym (same_batches x.taken told f)) can

    long : length x.numbers ≡ length x.history
    long = comes_long g notes (start_point g names eof) x h.comes refl

    by : StandsIn g (outset_from names eof) notes x (before told f) → CausedThere g (outset_from names eof) notes x x.taken (before told f) k w
    by s =
        let stood : Stands g.setting (depth g) s.reached.tree = stands (outset_from names eof) g x.taken (before told f) notes x.history (tracked_at g x) s.reached can_before in
        let shows_it : ShowsMachineAt g (outset_from names eof) (number_in x.history x.numbers) x.machine (before told f) s.reached.tree = shown reached stands falls first apart g (outset_from names eof) h.careful notes x (before told f) long can_before s.reached s.shows in
        let m : (v : TreeMove) × (nth (tree_moves g.setting (machine_ids x.machine) (depth g) s.reached.tree) k ≡ Some v) × SameWholeAt g (outset_from names eof) (number_in x.history x.numbers) number f w v =
        step_shows_at (outset_from names eof) g (number_in x.history x.numbers) number (machine_ids x.machine) x.heard told f x.machine s.reached.tree k w h.careful stood may shows_it c.place
        (asks_by g.setting g.type (machine_ids x.machine) number x.machine told k w f c.place c.asks c.typed c.fits) in
        let place : nth (moves_at g s.reached.tree) k ≡ Some m.0 =
        ap (λ z. nth z k) (sym (same_moves reached stands falls first apart g (outset_from names eof) h.careful notes x (before told f) long can_before s.reached s.shows)) ∙ m.1 in
        let i : In m.0 (moves_at g s.reached.tree) = nth_in (moves_at g s.reached.tree) k m.0 place in
        let n : CountedBy g (planned_at g (outset_from names eof) x.taken (before told f)) (tracked_at g x) m.0 = moved_counts (outset_from names eof) g x.taken (before told f) notes x.history (tracked_at g x) s.reached can_before m.0 i in
        record {
          caused = record {
            refusal = λ v e. refusals (outset_from names eof) g x.taken (before told f) notes x.history (tracked_at g x) s.reached can_before m.0 v i (sym m.2.refusal ∙ e);
            numbers = λ j q. n.numbers j (subst (In j) m.2.numbers q);
            indices = λ j q. ⊎_elim (n.indices j) (n.births j) (in_cases j m.0.act.indices (opened m.0.room m.0.act.starts) (subst (In j) m.2.indices q));
            joined = λ j q. joined_by j (whole_joins g (outset_from names eof) (number_in x.history x.numbers) number (machine_ids x.machine) told (before told f) x.machine s.reached.tree shows_it
                (free_below_at g (outset_from names eof) x.machine (before told f) shows_it.past shows_it.kids s.reached.tree shows_it.tree_is stood) w
                (nth_in (whole_steps g.setting (machine_ids x.machine) number told x.machine) k w c.place) j q);
          };
          comes = record {
            tree = s.reached.tree;
            moves = s.reached.moves;
            runs = s.reached.runs;
            seen_is = s.reached.seen_is;
            move = m.0;
            place = place;
            counts = tracked_at g x;
            counts_are = s.reached.tracked;
            number_is = ap (λ z. tracked_at g x + z) m.2.raises;
          };
          within = subst (λ z. tracked_at g x + z ≤ g.tracker + (planned_at g (outset_from names eof) x.taken (before told f)).reserved) (sym m.2.raises) n.tracked;
        }
      where
        joined_by : (j : ℕ) → (j ≡ 0) ⊎ In j (read g.setting number_reading (depth g) 0 [] s.reached.tree) → (j ≡ 0) ⊎ In j (planned_at g (outset_from names eof) x.taken (before told f)).numbers
        joined_by j (inl e) = inl e
        joined_by j (inr q) = inr ((at_start_at g (outset_from names eof) x.taken (before told f) notes x.history (tracked_at g x) s.reached can_before).numbers j
            (subst (In j) (reads_at g (outset_from names eof) x.taken (before told f) notes x.history (tracked_at g x) s.reached can_before number_reading) q))

pub course_misfit_is_read : ((o : Outset) → StartIsReachedAt o) → ((o : Outset) → StepIsReachedAt o) → ((o : Outset) → StateStandsAt o) → ((o : Outset) → WorkFallsAt o) → ((o : Outset) → HistoryIsFirstAt o)
    → ((o : Outset) → PathsAreApartAt o) → CourseMisfitIsRead
course_misfit_is_read starts reached stands falls first apart g names eof notes x told number k w h can at mis =
    by (under_way starts reached stands falls first apart g names eof notes x h (none_later x.heard) (open_none x.heard) can_none)
  where
    Read : Type 0
    Read = (ns : Names) × (x.machine.phase ≡ reading ns) × (k ≡ 0) × (told ≡ unasked)

    can_none : CanBegin (outset_from names eof) (length (x.taken ++ []))
    can_none = subst (λ bs. CanBegin (outset_from names eof) (length bs)) (sym (append-nil x.taken)) can

    by : StandsIn g (outset_from names eof) notes x (none_later x.heard) → Read
    by s = at_it (at_place (may_source x.machine.phase x.machine.root) (source_step told x.machine.phase x.machine.root)
        (map (in_root x.machine.phase) (steps g.setting (machine_ids x.machine) number x.machine.root)) k w at)
      where
        sh : ShowsMachineAt g (outset_from names eof) (number_in x.history x.numbers) x.machine (none_later x.heard) s.reached.tree
        sh = shown reached stands falls first apart g (outset_from names eof) h.careful notes x (none_later x.heard) (comes_long g notes (start_point g names eof) x h.comes refl) can_none s.reached s.shows

        of_source : (ns : Names) × (x.machine.phase ≡ reading ns) × (told ≡ unasked) → k ≡ 0 → Read
        of_source (e, p, q) z = (e, p, z, q)

        of_root : (y : Step) × In y (steps g.setting (machine_ids x.machine) number x.machine.root) × (w ≡ in_root x.machine.phase y) → Read
        of_root (y, i, e) = absurd (true≢false (sym mis ∙ ap (λ (z : WholeStep). z.misfit) e
            ∙ steps_fit g.setting (number_in x.history x.numbers) number (machine_ids x.machine) (root_depth g) (seed_at (form_of g) g.mark (outset_from names eof)) 0 x.machine.root sh.kids sh.root y i))

        at_it : ((k ≡ 0) × (source_step told x.machine.phase x.machine.root ≡ w)) ⊎ In w (map (in_root x.machine.phase) (steps g.setting (machine_ids x.machine) number x.machine.root)) → Read
        at_it (inl (z, e)) = of_source (source_misfit told x.machine.phase x.machine.root (ap (λ (v : WholeStep). v.misfit) e ∙ mis)) z
        at_it (inr i) = of_root (from_map (in_root x.machine.phase) w (steps g.setting (machine_ids x.machine) number x.machine.root) i)

pub course_start_has_cause : ((o : Outset) → StartIsCountedAt o) → CourseStartHasCause
course_start_has_cause counted g names eof f n can i big =
    past_most n (planned_at g (outset_from names eof) [] f).numbers big (counted (outset_from names eof) g f n can (subst (λ z. In n z) (sym (opened_first_at g (outset_from names eof))) i))
