-- A step leads a column's own write on.
use Rattle.std.proofs.Common.{◌≡◌, ◌%◌, ◌^◌, ◌∷◌, ◌++◌, ◌∙◌, ℕ, zero, suc, Bool, true, List, length, append_assoc, refl, sym, ap, subst, inl, Option, Some, None, []}
use Rattle.std.proofs.lemmas.List.{append_cancel_left}
use Rattle.vx_model.specs.Ty.{Ty}
use Rattle.vx_model.specs.ChunkData.{ChunkData}
use Rattle.vx_fault.specs.Told.{NoneTold}
use Rattle.vx_path.specs.Lists.{In}
use Rattle.vx_tasks.specs.Rules.{AtLeast}
use Rattle.vx_tasks.specs.Run.{Note, first_pick}
use Rattle.vx_order.specs.Outlet.{Outlet, own}
use Rattle.vx_plan.specs.PlanData.{Pair, paths as paths_of}
use Rattle.vx_plan.specs.Number.{sorted}
use Rattle.vx_write_answer.specs.declared.step.Step.{Step}
use Rattle.vx_machine_turns.specs.Source.{stream_plan}
use Rattle.vx_machine_steps.specs.Runs.{picks_after}
use Rattle.vx_machine_promises.specs.Write.{Write, Future, Open, Answer, unasked, came, over, taken_by, heard_by}
use Rattle.vx_machine_view.specs.Machine.{Machine, machine_ids}
use Rattle.vx_machine_runs.specs.Runs.{PickedBy}
use Rattle.vx_machine_runs.specs.Numbers.{AllBelow}
use Rattle.vx_machine_runs.specs.Courses.{Point, Goes, GoesBy, CountedBelow, CourseIsFront}
use Rattle.vx_machine_runs.proofs.Coursing.{picked_more}
use Rattle.vx_machine.specs.Progress.{HasCome, GoesOnFrom, LeadsOn}
use Rattle.vx_machine.specs.SourceActs.{Tells}
use Rattle.vx_column_machine.specs.Course.{Course, write_of, start_of, outset_of, plan_of, StandsAt}
use Rattle.vx_column_machine.proofs.Begins.{can_all}

-- a desk that numbered so many segments, of which these weren't taken
abbrev pub outlet : ℕ → List (List ℕ) → Outlet
outlet n kept = own (record { next = n; segments = Some kept; borrow = 0 })

-- ---- steps behind each other

-- all that was counted, with one step more
counted_comes : (most : ℕ) (g : Write) (x y z : Point) (ns : List Note) (n : Note) (c : GoesBy g x ns y) → CountedBelow most g x ns y c → (d : Goes g y z n) → AllBelow most (d.step.numbers ++ d.step.indices)
    → (e : GoesBy g x (ns ++ (n ∷ [])) z) × CountedBelow most g x (ns ++ (n ∷ [])) z e
counted_comes most g x y z [] n c b d below =
    let p : (e : Goes g x z n) × AllBelow most (e.step.numbers ++ e.step.indices) = subst (λ v. (e : Goes g v z n) × AllBelow most (e.step.numbers ++ e.step.indices)) (sym c) (d, below) in
    ((z, p.0, refl), (p.1, tt))
counted_comes most g x y z (m ∷ ns) n c b d below =
    let r : (e : GoesBy g c.0 (ns ++ (n ∷ [])) z) × CountedBelow most g c.0 (ns ++ (n ∷ [])) z e = counted_comes most g c.0 y z ns n c.2 b.1 d below in
    ((c.0, c.1, r.0), (b.0, r.1))

-- behind the schedule's end the first task is picked
pub none_picked : (k : ℕ) → first_pick (picks_after k []) ≡ 0
none_picked zero = refl
none_picked (suc k) = none_picked k

-- ---- what the source tells

pub cons_none : {A : Type 0} (x : A) (xs : List A) → x ∷ xs ≡ [] → ⊥
cons_none x xs e = cc

told_on : (t : Ty) (chunks taken later : List ChunkData) (heard : Bool) (before now : Option (List ChunkData)) (a : Answer) → Tells t before now a → before ≡ Some later → chunks ≡ taken ++ later → (heard ≡ true → later ≡ [])
    → (rest : List ChunkData) × (now ≡ Some rest) × (chunks ≡ taken_by taken a ++ rest) × (heard_by heard a ≡ true → rest ≡ [])
told_on t chunks taken later heard before now unasked h e is end = (later, h ∙ e, is, end)
told_on t chunks taken later heard before now over h e is end = (later, h.0 ∙ e, is, λ i. subst (λ z. NoneTold z) (h.0 ∙ e) h.1)
told_on t chunks taken later heard before None (came b) h e is end = absurd (let f : Some later ≡ None = sym e ∙ h.0 in cc)
told_on t chunks taken later heard before (Some rest) (came b) h e is end =
    let l : later ≡ b ∷ rest = same (sym e ∙ h.0) in
    (rest, refl, is ∙ ap (λ z. taken ++ z) l ∙ sym (append_assoc taken (b ∷ []) rest), λ i. absurd (cons_none b rest (sym l ∙ end i)))
  where
    same : Some later ≡ Some (b ∷ rest) → later ≡ b ∷ rest
    same f = cc

paths_append : (xs ys : List Pair) → paths_of (xs ++ ys) ≡ paths_of xs ++ paths_of ys
paths_append [] ys = refl
paths_append (x ∷ xs) ys = ap (λ z. x.0 ∷ z) (paths_append xs ys)

-- ---- where it stands

module _ (x : Course) (m : Machine) (to_come : Option (List ChunkData)) (written : ℕ) (paths : List (List ℕ)) (h : StandsAt x m to_come written paths) where
  abbrev pub has_come : HasCome (write_of x) (outset_of x).names (outset_of x).eof h.notes h.point m
  has_come = record { come = record { careful = h.careful; starts = h.starts; picked = h.picked; comes = h.comes }; machine_is = h.machine_is }

  -- the chunks that are still to come
  abbrev pub future : Future
  future = record { later = h.later; fits = true }

  pub may_come : Open h.point.heard future
  may_come = λ i. (h.ended i, refl)

  -- what was written are the first pairs of the plan
  pub front_of : CourseIsFront → (more : List Pair) × (sorted (plan_of x).pairs ≡ h.point.history ++ more) × ((p : Pair) → In p more → AtLeast (machine_ids m) p.0)
  front_of front =
      let e = front (write_of x) (outset_of x).names (outset_of x).eof h.notes h.point has_come.come future may_come (can_all x (h.point.taken ++ h.later) h.taken) in (
        e.0,
        ap (λ z. sorted (stream_plan x.setting x.column.way x.column.type x.column.mark (outset_of x) z true).pairs) h.taken ∙ e.1,
        λ p i. subst (λ z. AtLeast (machine_ids z) p.0) (sym h.machine_is) (e.2 p i),
      )

-- ---- one step

module _ (x : Course) (m : Machine) (to_come : Option (List ChunkData)) (written : ℕ) (paths : List (List ℕ)) (h : StandsAt x m to_come written paths) (now : Option (List ChunkData)) (kept kept_now : List (List ℕ))
    (written_now : ℕ) (new : Machine) (s : Step) (l : LeadsOn (write_of x) (outset_of x).names (outset_of x).eof h.notes h.point to_come now (outlet written kept) (outlet written_now kept_now) new s) (picked : s.picked ≡ 0 % s.ready) where
  picked_now : PickedBy [] (h.notes ++ (l.note ∷ []))
  picked_now = picked_more [] h.notes l.note h.picked
      (sym l.shows.1 ∙ picked ∙ ap (λ z. 0 % z) l.shows.0 ∙ ap (λ z. z % l.note.ready) (sym (none_picked (length h.notes))))

  comes_now : (e : GoesBy (write_of x) (start_of x) (h.notes ++ (l.note ∷ [])) l.point) × CountedBelow (2 ^ 64) (write_of x) (start_of x) (h.notes ++ (l.note ∷ [])) l.point e
  comes_now = counted_comes (2 ^ 64) (write_of x) (start_of x) h.point l.point h.notes l.note h.comes h.counts l.goes l.counted

  told_now : (rest : List ChunkData) × (now ≡ Some rest) × (x.chunks ≡ taken_by h.point.taken l.goes.told ++ rest) × (heard_by h.point.heard l.goes.told ≡ true → rest ≡ [])
  told_now = told_on x.column.type x.chunks h.point.taken h.later h.point.heard to_come now l.goes.told l.tells h.told h.taken h.ended

  numbers_now : GoesOnFrom 0 (outlet written_now kept_now) l.point
  numbers_now = l.numbers 0 (h.written_is, h.numbers)

  -- it stands there, with what it wrote
  pub stands_on : (paths_now : List (List ℕ)) → paths_now ≡ paths ++ paths_of l.goes.step.wrote → StandsAt x new now written_now paths_now
  stands_on paths_now e = record {
    notes = h.notes ++ (l.note ∷ []);
    point = l.point;
    comes = comes_now.0;
    picked = picked_now;
    counts = comes_now.1;
    careful = h.careful;
    starts = h.starts;
    first = h.first;
    machine_is = l.comes.machine_is;
    later = told_now.0;
    told = told_now.1;
    taken = told_now.2 ∙ ap (λ (z : Point). z.taken ++ told_now.0) (sym l.goes.left);
    ended = λ i. told_now.3 (ap (λ (z : Point). z.heard) (sym l.goes.left) ∙ i);
    typed = h.typed;
    written_is = numbers_now.0;
    numbers = numbers_now.1;
    paths_are = e ∙ ap (λ z. z ++ paths_of l.goes.step.wrote) h.paths_are ∙ sym (paths_append h.point.history l.goes.step.wrote)
        ∙ ap (λ (z : Point). paths_of z.history) (sym l.goes.left);
  }

  -- what is written is the next pair of the plan
  module _ (front : CourseIsFront) (p : Pair) (one : l.goes.step.wrote ≡ p ∷ []) where
    ahead : (more : List Pair) × (sorted (plan_of x).pairs ≡ h.point.history ++ more) × ((q : Pair) → In q more → AtLeast (machine_ids m) q.0)
    ahead = front_of x m to_come written paths h front

    pub behind : (more : List Pair) × (sorted (plan_of x).pairs ≡ l.point.history ++ more) × ((q : Pair) → In q more → AtLeast (machine_ids new) q.0)
    unfolding stands_on
    behind = front_of x new now written_now (paths ++ paths_of l.goes.step.wrote) (stands_on (paths ++ paths_of l.goes.step.wrote) refl) front

    pub history_is : sorted (plan_of x).pairs ≡ (h.point.history ++ (p ∷ [])) ++ behind.0
    history_is = behind.1 ∙ ap (λ (z : Point). z.history ++ behind.0) l.goes.left ∙ ap (λ z. (h.point.history ++ z) ++ behind.0) one

    -- at least some path that is held before
    pub at_least : AtLeast (machine_ids m) p.0
    at_least = ahead.2 p (subst (In p) (sym next) (inl refl))
      where
        next : ahead.0 ≡ p ∷ behind.0
        next = append_cancel_left h.point.history ahead.0 (p ∷ behind.0) (sym ahead.1 ∙ history_is ∙ append_assoc h.point.history (p ∷ []) behind.0)
