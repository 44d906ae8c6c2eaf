-- What workers have done: a row a column.
use Rattle.std.proofs.Common.{◌≡◌, ◌⊎◌, ◌+◌, ◌<◌, ◌∷◌, ◌∙◌, ℕ, zero, suc, true, List, map, length, Option, Some, None, Result, Ok, Err, slice_get, refl, sym, ap, ap₂, subst, inl, inr, arith, []}
use Rattle.std.specs.Prelude.{All, IfSome, IsSome, IfOk, IfErr, OnOk, is_some, option_map, sum_by, unwrap_or}
use Rattle.std.specs.Global.{Vec}
use Rattle.std.specs.List.{AllZip}
use Rattle.std.proofs.lemmas.List.Elements.{All-head, All-tail, All-nil, All-cons}
use Rattle.std.proofs.lemmas.List.Sums.{sum_by-cons}
use Rattle.vx_model.specs.Ty.{Ty}
use Rattle.vx_model.specs.ChunkData.{ChunkData}
use Rattle.vx_path.specs.declared.owned.Path.{Path}
use Rattle.vx_layout_tree.specs.declared.layout.Layout.{Layout}
use Rattle.vx_layout_tree.specs.LayoutView.{layout_data}
use Rattle.vx_plan.specs.PlanData.{Plan}
use Rattle.vx_plan.specs.Valid.{Fit}
use Rattle.vx_order_answer.specs.declared.errors.WriteErrorName.{WriteErrorName}
use Rattle.vx_seats.specs.History as seats
use Rattle.vx_sink.specs.declared.list_source.ListSource.{ListSource}
use Rattle.vx_write_answer.specs.declared.error.WriteError.{WriteError}
use Rattle.vx_write_answer.specs.declared.error.WriteError.TheVariants.{SourceFault, SinkFault, CompressFault, BatchType, NotStruct, DuplicateField, ManyChunks, EmptyList, ZoneCut, ForbiddenAggregate, ForbiddenEncoding, TooLarge, OutOfMemory, Stopped}
use Rattle.vx_write_answer.specs.Causes.{is_sink_fault}
use Rattle.vx_column_worker.specs.Course.{Course, plan_of}
use Rattle.vx_column_worker.specs.Causes.{IsDone}
use Rattle.vx_column_ids.specs.Outsets.{outset_of}
use Rattle.vx_column_ids.specs.declared.part.ColumnPart.{ColumnPart}
use Rattle.vx_column_inputs.specs.declared.inputs.Input.{Input}
use Rattle.vx_column_worker.specs.declared.worker.Job.{Job}
use Rattle.vx_column_worker.specs.declared.worker.Done.{Done}
use Rattle.vx_column_worker.specs.Jobs.{JobFits, JobsFit, course_of}
use Rattle.vx_column_worker.specs.Staffed.{Counts, HasWorked, HasRun, MayRun, jobs_from, list_kind, list_may_fail, list_to_come, list_left}
use Rattle.vx_column_worker.specs.Worked.{SeatStopped}
use Rattle.vx_write_columns.specs.Courses.{courses_of}
use Rattle.vx_write_columns.specs.Numbers.{ColumnOutcome, AllDone, IsOwn, AllOk, HasOwn}
use Rattle.vx_write_columns.specs.Shared.{AllClean}

-- ---- lists

same_head : {A : Type 0} (x y : A) (xs ys : List A) → x ∷ xs ≡ y ∷ ys → x ≡ y
same_head x y xs ys e = cc

same_tail : {A : Type 0} (x y : A) (xs ys : List A) → x ∷ xs ≡ y ∷ ys → xs ≡ ys
same_tail x y xs ys e = cc

more_than_none : {A : Type 0} (x : A) (xs : List A) → x ∷ xs ≡ [] → ⊥
more_than_none x xs e = cc

same_some : {A : Type 0} (x y : A) → Some x ≡ Some y → x ≡ y
same_some x y e = cc

none_some : {A : Type 0} (x : A) → None ≡ Some x → ⊥
none_some x e = cc

none_than_more : {A : Type 0} (x : A) (xs : List A) → [] ≡ x ∷ xs → ⊥
none_than_more x xs e = cc

-- ---- a row

-- a column's course, the compressor that its worker was lent, and what the worker left
pub record Row (C : Type 0) : Type 0 where
  pub course : Course
  pub lent : C
  pub after : Counts
  pub done : Done C

abbrev pub none_counted : Counts
none_counted = record { writes = 0; faults = 0; made = 0; seen = 0 }

module _ {C : Type 0} where
  abbrev pub courses_in : List (Row C) → List Course
  courses_in rs = map (λ (r : Row C). r.course) rs

  abbrev pub lent_in : List (Row C) → List C
  lent_in rs = map (λ (r : Row C). r.lent) rs

  abbrev pub back_in : List (Row C) → List C
  back_in rs = map (λ (r : Row C). r.done.compressor) rs

  abbrev pub after_in : List (Row C) → List Counts
  after_in rs = map (λ (r : Row C). r.after) rs

  abbrev pub outcomes_in : List (Row C) → List ColumnOutcome
  outcomes_in rs = map (λ (r : Row C). r.done.outcome) rs

  module _ (kind faults : C → ℕ) (may : C → ℕ → Type 0) (first pairs : ℕ) where
    abbrev pub Worked : Row C → Type 0
    Worked r = HasWorked kind faults may first pairs r.course r.lent none_counted r.after r.done

    abbrev pub AllWorked : List (Row C) → Type 0
    AllWorked [] = Unit {0}
    AllWorked (r ∷ rs) = Worked r × AllWorked rs

-- ---- the rows of workers that have run

module _ {C W : Type 0} (image : ℕ → ℕ → ChunkData → ChunkData) (kind faults : C → ℕ) (may : C → ℕ → Type 0) (first pairs : ℕ)
    (job : W → Option (Job C)) (done : W → Option (Done C)) (counts : W → Counts) where
  abbrev pub Ran : W → W → Type 0
  Ran a b = HasRun image kind faults may first pairs (job a) (job b) (counts a) (counts b) (done b)

  abbrev Told : Job C → Counts → Counts → Done C → Type 0
  Told j before after d =
      (chunks : List ChunkData) → list_to_come j.input.source ≡ Some chunks → HasWorked kind faults may first pairs (course_of (image (kind j.compressor)) j.column j.input chunks) j.compressor before after d

  ran_out : (j : Job C) (now : Option (Job C)) (before after : Counts) (d : Option (Done C)) → HasRun image kind faults may first pairs (Some j) now before after d
      → (x : Done C) × (d ≡ Some x) × (now ≡ None) × Told j before after x
  ran_out j None before after None h = absurd h
  ran_out j None before after (Some d) h = (d, refl, refl, h)
  ran_out j (Some k) before after d h = absurd h

  -- A row for each worker: what was written, by what, and what was left.
  pub record RowsOf (xs : List Course) (cs : List C) (new : List W) : Type 0 where
    pub rows : List (Row C)
    pub courses : courses_in rows ≡ xs
    pub lent : lent_in rows ≡ cs
    pub after : after_in rows ≡ map counts new
    pub dones : map done new ≡ map (λ (r : Row C). Some r.done) rows
    pub ended : All (λ w. job w ≡ None) new
    pub worked : AllWorked kind faults may first pairs rows

  module _ (allowed : List seats.Pair) where
    abbrev MayDo : ℕ → Input → ColumnPart → C → Type 0
    MayDo k i p c = JobFits allowed (image (kind c)) k i (outset_of p) (list_kind i.source) (list_may_fail i.source) (list_to_come i.source) (list_left i.source)

    told_is : (k : ℕ) (i : Input) (p : ColumnPart) (c : C) → MayDo k i p c → list_to_come i.source ≡ Some (unwrap_or (list_to_come i.source) [])
    told_is k i p c f = f.told ∙ ap Some (sym (ap (λ (o : Option (List ChunkData)). unwrap_or o []) f.told))

    pub rows_of : (k : ℕ) (is : List Input) (ps : List ColumnPart) (cs : List C) (old new : List W) → length ps ≡ length is → length cs ≡ length is → map job old ≡ map Some (jobs_from k is ps cs)
        → JobsFit allowed image kind list_kind list_may_fail list_to_come list_left k is ps cs → All (λ w. counts w ≡ none_counted) old → AllZip Ran old new → RowsOf (courses_of image kind list_to_come k is cs) cs new
    rows_of k [] ps [] [] [] l e j f z h = record { rows = []; courses = refl; lent = refl; after = refl; dones = refl; ended = All-nil (λ w. job w ≡ None); worked = tt }
    rows_of k [] ps [] [] (b ∷ new) l e j f z h = absurd h
    rows_of k [] ps [] (a ∷ old) new l e j f z h = absurd (more_than_none (job a) (map job old) j)
    rows_of k [] ps (c ∷ cs) old new l e j f z h = absurd (omega (arith, e))
    rows_of k (i ∷ is) [] cs old new l e j f z h = absurd (omega (arith, l))
    rows_of k (i ∷ is) (p ∷ ps) [] old new l e j f z h = absurd (omega (arith, e))
    rows_of k (i ∷ is) (p ∷ ps) (c ∷ cs) [] new l e j f z h = absurd (none_than_more (Some (record { column = k; input = i; part = p; compressor = c })) (map Some (jobs_from (suc k) is ps cs)) j)
    rows_of k (i ∷ is) (p ∷ ps) (c ∷ cs) (a ∷ old) [] l e j f z h = absurd h
    rows_of k (i ∷ is) (p ∷ ps) (c ∷ cs) (a ∷ old) (b ∷ new) l e j f z h =
        put (ran_out mine (job b) (counts a) (counts b) (done b) (subst (λ o. HasRun image kind faults may first pairs o (job b) (counts a) (counts b) (done b)) is_mine h.0))
        (rows_of (suc k) is ps cs old new (omega (arith, l)) (omega (arith, e)) (same_tail (job a) (Some mine) (map job old) (map Some (jobs_from (suc k) is ps cs)) j) f.1 (All-tail (λ w. counts w ≡ none_counted) a old z) h.1)
      where
        mine : Job C
        mine = record { column = k; input = i; part = p; compressor = c }

        is_mine : job a ≡ Some mine
        is_mine = same_head (job a) (Some mine) (map job old) (map Some (jobs_from (suc k) is ps cs)) j

        here : List ChunkData
        here = unwrap_or (list_to_come i.source) []

        put : (x : Done C) × (done b ≡ Some x) × (job b ≡ None) × Told mine (counts a) (counts b) x → RowsOf (courses_of image kind list_to_come (suc k) is cs) cs new
            → RowsOf (courses_of image kind list_to_come k (i ∷ is) (c ∷ cs)) (c ∷ cs) (b ∷ new)
        put (x, d, n, t) r = record {
          rows = record { course = course_of (image (kind c)) k i here; lent = c; after = counts b; done = x } ∷ r.rows;
          courses = ap (λ z. course_of (image (kind c)) k i here ∷ z) r.courses;
          lent = ap (λ z. c ∷ z) r.lent;
          after = ap (λ z. counts b ∷ z) r.after;
          dones = ap₂ (λ (u : Option (Done C)) (v : List (Option (Done C))). u ∷ v) d r.dones;
          ended = All-cons (λ w. job w ≡ None) b new n r.ended;
          worked = (
            subst (λ z. HasWorked kind faults may first pairs (course_of (image (kind c)) k i here) c z (counts b) x) (All-head (λ w. counts w ≡ none_counted) a old z)
                (t here (told_is k i p c f.0)),
            r.worked,
          );
        }

-- ---- jobs that may be done

module _ {C W : Type 0} (job : W → Option (Job C)) (done : W → Option (Done C)) (allowed : List seats.Pair) (image : ℕ → ℕ → ChunkData → ChunkData) (kind : C → ℕ) where
  abbrev May : W → Type 0
  May w = MayRun allowed image kind (job w) (done w)

  pub all_may : (k : ℕ) (is : List Input) (ps : List ColumnPart) (cs : List C) (ws : List W) → map job ws ≡ map Some (jobs_from k is ps cs)
      → JobsFit allowed image kind list_kind list_may_fail list_to_come list_left k is ps cs → All (λ w. done w ≡ None) ws → All May ws
  all_may k is ps cs [] e h f = All-nil May
  all_may k [] ps cs (w ∷ ws) e h f = absurd (more_than_none (job w) (map job ws) e)
  all_may k (i ∷ is) [] cs (w ∷ ws) e h f = absurd h
  all_may k (i ∷ is) (p ∷ ps) [] (w ∷ ws) e h f = absurd h
  all_may k (i ∷ is) (p ∷ ps) (c ∷ cs) (w ∷ ws) e h f =
      All-cons May w ws
      (record {
        free = All-head (λ v. done v ≡ None) w ws f;
        fits = subst (λ o. IfSome o (λ j. JobFits allowed (image (kind j.compressor)) j.column j.input (outset_of j.part)
            (list_kind j.input.source) (list_may_fail j.input.source) (list_to_come j.input.source) (list_left j.input.source)))
            (sym (same_head (job w) (Some mine) (map job ws) (map Some (jobs_from (suc k) is ps cs)) e)) h.0;
      })
      (all_may (suc k) is ps cs ws (same_tail (job w) (Some mine) (map job ws) (map Some (jobs_from (suc k) is ps cs)) e) h.1 (All-tail (λ v. done v ≡ None) w ws f))
    where
      mine : Job C
      mine = record { column = k; input = i; part = p; compressor = c }

-- ---- whether all were written

pub rest_ok : (o : ColumnOutcome) (os : List ColumnOutcome) → AllOk (o ∷ os) → AllOk os
rest_ok (Ok r) os h = h
rest_ok (Err e) os h = absurd h

-- what holds of a column that was written
of_ok : (P : Layout × Vec Path → Type 0) (Q : Type 0) (o : ColumnOutcome) (os : List ColumnOutcome) → IfOk o P → AllOk (o ∷ os) → ((r : Layout × Vec Path) → P r → Q) → Q
of_ok P Q (Ok r) os h ok f = f r h
of_ok P Q (Err e) os h ok f = absurd ok

abbrev pub writes_in : List Counts → ℕ
writes_in ns = sum_by (λ (a : Counts). a.writes) ns

abbrev pub faults_in : List Counts → ℕ
faults_in ns = sum_by (λ (a : Counts). a.faults) ns

abbrev pub made_in : List Counts → ℕ
made_in ns = sum_by (λ (a : Counts). a.made) ns

abbrev pub seen_in : List Counts → ℕ
seen_in ns = sum_by (λ (a : Counts). a.seen) ns

module _ {C : Type 0} (kind faults : C → ℕ) (may : C → ℕ → Type 0) (first pairs : ℕ) where
  abbrev AllDid : List (Row C) → Type 0
  AllDid rs = AllWorked kind faults may first pairs rs

  all_done_step : (p : Plan) (ps : List Plan) (o : ColumnOutcome) (os : List ColumnOutcome) (a : Counts) → IfOk o (λ r. IsDone p (layout_data r.0) r.1.items × (a.writes ≡ 0 + length p.pairs))
      → AllOk (o ∷ os) → AllDone ps os → AllDone (p ∷ ps) (o ∷ os)
  all_done_step p ps (Ok r) os a h ok f = (h.0, f)
  all_done_step p ps (Err x) os a h ok f = absurd ok

  pub all_done : (rs : List (Row C)) → AllDid rs → AllOk (outcomes_in rs) → AllDone (map plan_of (courses_in rs)) (outcomes_in rs)
  all_done [] w ok = tt
  all_done (r ∷ rs) w ok =
      all_done_step (plan_of r.course) (map plan_of (courses_in rs)) r.done.outcome (outcomes_in rs) r.after w.0.done ok (all_done rs w.1 (rest_ok r.done.outcome (outcomes_in rs) ok))

  pub all_clean : (rs : List (Row C)) → AllDid rs → AllOk (outcomes_in rs) → AllClean (courses_in rs)
  all_clean [] w ok = tt
  all_clean (r ∷ rs) w ok =
      let p : Plan = plan_of r.course in
      let both : (p.faults ≡ []) × Fit p.numbers = of_ok (λ l. IsDone p (layout_data l.0) l.1.items × (r.after.writes ≡ 0 + length p.pairs)) ((p.faults ≡ []) × Fit p.numbers)
      r.done.outcome (outcomes_in rs) w.0.done ok (λ l h. (h.0.faultless, h.0.fit)) in
      (both.0, both.1, all_clean rs w.1 (rest_ok r.done.outcome (outcomes_in rs) ok))

  pub all_counted : (rs : List (Row C)) → AllDid rs → AllOk (outcomes_in rs) → writes_in (after_in rs) ≡ sum_by (λ x. length (plan_of x).pairs) (courses_in rs)
  all_counted [] w ok = refl
  all_counted (r ∷ rs) w ok =
      let p : Plan = plan_of r.course in
      let one : r.after.writes ≡ 0 + length p.pairs = of_ok (λ l. IsDone p (layout_data l.0) l.1.items × (r.after.writes ≡ 0 + length p.pairs)) (r.after.writes ≡ 0 + length p.pairs)
      r.done.outcome (outcomes_in rs) w.0.done ok (λ l h. h.1) in
      let more = all_counted rs w.1 (rest_ok r.done.outcome (outcomes_in rs) ok) in
      let z : 0 + length p.pairs ≡ length p.pairs = omega arith in
      sum_by-cons (λ (a : Counts). a.writes) r.after (after_in rs) ∙ ap₂ (λ (a b : ℕ). a + b) (one ∙ z) more ∙ sym (sum_by-cons (λ (x : Course). length (plan_of x).pairs) r.course (courses_in rs))

  -- the sink failed none
  pub all_quiet : (rs : List (Row C)) → AllDid rs → AllOk (outcomes_in rs) → faults_in (after_in rs) ≡ 0
  all_quiet [] w ok = refl
  all_quiet (r ∷ rs) w ok =
      let one : r.after.faults ≡ 0 = of_ok (λ l. (r.after.faults ≡ 0) × (r.after.made ≡ 0) × (r.after.seen ≡ 0)) (r.after.faults ≡ 0) r.done.outcome (outcomes_in rs) w.0.unstopped ok (λ l h. h.0) in
      let more = all_quiet rs w.1 (rest_ok r.done.outcome (outcomes_in rs) ok) in
      sum_by-cons (λ (a : Counts). a.faults) r.after (after_in rs) ∙ ap₂ (λ (a b : ℕ). a + b) one more

  -- ---- whose refusal it was

  own_or : (e : WriteError) → IsOwn e ⊎ ((by : ℕ) × (name : WriteErrorName) × (e ≡ Stopped by name))
  own_or (Stopped by name) = inr (by, name, refl)
  own_or e = inl tt

  abbrev Either : List ColumnOutcome → List Counts → Type 0
  Either os ns = HasOwn os ⊎ ((made_in ns ≡ 0) × (AllOk os ⊎ (0 < seen_in ns)))

  more_own : (o : ColumnOutcome) (os : List ColumnOutcome) → HasOwn os → HasOwn (o ∷ os)
  more_own o os (k, e, at, own) = (suc k, e, at, own)

  sum_of : (f : Counts → ℕ) (a : Counts) (ns : List Counts) (n m : ℕ) → f a ≡ n → sum_by f ns ≡ m → sum_by f (a ∷ ns) ≡ n + m
  sum_of f a ns n m e g = sum_by-cons f a ns ∙ ap₂ (λ (x y : ℕ). x + y) e g

  one_either : (o : ColumnOutcome) (os : List ColumnOutcome) (a : Counts) (ns : List Counts) → OnOk o ((a.faults ≡ 0) × (a.made ≡ 0) × (a.seen ≡ 0))
      → IfErr o (λ e. SeatStopped e (is_sink_fault e) 0 a.faults 0 a.made 0 a.seen) → Either os ns → Either (o ∷ os) (a ∷ ns)
  one_either o os a ns u s (inl h) = inl (more_own o os h)
  one_either (Ok r) os a ns u s (inr (m, inl ok)) = inr (sum_of (λ c. c.made) a ns 0 0 u.1 m, inl ok)
  one_either (Ok r) os a ns u s (inr (m, inr l)) =
      inr (sum_of (λ c. c.made) a ns 0 0 u.1 m, inr (let z = sum_by-cons (λ (c : Counts). c.seen) a ns in omega (arith, z, l)))
  one_either (Err e) os a ns u s (inr h) = on (own_or e)
    where
      on : IsOwn e ⊎ ((by : ℕ) × (name : WriteErrorName) × (e ≡ Stopped by name)) → Either (Err e ∷ os) (a ∷ ns)
      on (inl own) = inl (0, e, refl, own)
      on (inr (by, name, is)) = inr (
        sum_of (λ c. c.made) a ns 0 0 (s.unmade by name is) h.0,
        inr (let z = sum_by-cons (λ (c : Counts). c.seen) a ns in let y : a.seen ≡ 1 = s.stopped by name is refl in omega (arith, z, y)),
      )

  -- One column was refused by its own; or none made a stop, and all were written unless one saw a stop.
  pub either : (rs : List (Row C)) → AllDid rs → Either (outcomes_in rs) (after_in rs)
  either [] w = inr (refl, inl tt)
  either (r ∷ rs) w = one_either r.done.outcome (outcomes_in rs) r.after (after_in rs) w.0.unstopped w.0.stopped (either rs w.1)

  -- who was stopped was so by one of them
  pub some_own : (rs : List (Row C)) → AllDid rs → (0 < seen_in (after_in rs) → 0 < made_in (after_in rs)) → AllOk (outcomes_in rs) ⊎ HasOwn (outcomes_in rs)
  some_own rs w stops = on (either rs w)
    where
      on : Either (outcomes_in rs) (after_in rs) → AllOk (outcomes_in rs) ⊎ HasOwn (outcomes_in rs)
      on (inl own) = inr own
      on (inr (m, inl ok)) = inl ok
      on (inr (m, inr l)) = absurd (let k : 0 < made_in (after_in rs) = stops l in omega (arith, m, k))

  -- the row of a refusal
  pub row_of : (rs : List (Row C)) (k : ℕ) (o : ColumnOutcome) → AllDid rs → slice_get (outcomes_in rs) k ≡ Some o
      → (r : Row C) × (slice_get rs k ≡ Some r) × (r.done.outcome ≡ o) × Worked kind faults may first pairs r
  row_of [] k o w e = absurd (none_some o e)
  row_of (r ∷ rs) zero o w e = (r, refl, same_some r.done.outcome o e, w.0)
  row_of (r ∷ rs) (suc k) o w e = row_of rs k o w.1 e

-- ---- workers that were dismissed

-- what was left of them is that of the rows
module _ {C W X : Type 0} (done : W → Option (Done C)) (f : Done C → X) where
  pub left_is : (xs : List X) (ws : List W) (rs : List (Row C)) → map Some xs ≡ map (λ w. option_map f (done w)) ws → map done ws ≡ map (λ (r : Row C). Some r.done) rs
      → xs ≡ map (λ (r : Row C). f r.done) rs
  left_is [] [] [] e d = refl
  left_is [] [] (r ∷ rs) e d = absurd (none_than_more (Some r.done) (map (λ (z : Row C). Some z.done) rs) d)
  left_is [] (w ∷ ws) rs e d = absurd (none_than_more (option_map f (done w)) (map (λ v. option_map f (done v)) ws) e)
  left_is (x ∷ xs) [] rs e d = absurd (more_than_none (Some x) (map Some xs) e)
  left_is (x ∷ xs) (w ∷ ws) [] e d = absurd (more_than_none (done w) (map done ws) d)
  left_is (x ∷ xs) (w ∷ ws) (r ∷ rs) e d =
      let one : Some x ≡ Some (f r.done)
      = same_head (Some x) (option_map f (done w)) (map Some xs) (map (λ v. option_map f (done v)) ws) e
      ∙ ap (option_map f) (same_head (done w) (Some r.done) (map done ws) (map (λ (z : Row C). Some z.done) rs) d) in
      ap₂ (λ (a : X) (b : List X). a ∷ b) (same_some x (f r.done) one)
      (left_is xs ws rs (same_tail (Some x) (option_map f (done w)) (map Some xs) (map (λ v. option_map f (done v)) ws) e)
      (same_tail (done w) (Some r.done) (map done ws) (map (λ (z : Row C). Some z.done) rs) d))

-- they have ended, and are done
module _ {C W : Type 0} (job : W → Option (Job C)) (done : W → Option (Done C)) where
  pub all_ended : (ws : List W) (rs : List (Row C)) → map done ws ≡ map (λ (r : Row C). Some r.done) rs → All (λ w. job w ≡ None) ws → All (λ w. (job w ≡ None) × IsSome (done w)) ws
  all_ended [] rs d n = All-nil (λ w. (job w ≡ None) × IsSome (done w))
  all_ended (w ∷ ws) [] d n = absurd (more_than_none (done w) (map done ws) d)
  all_ended (w ∷ ws) (r ∷ rs) d n =
      All-cons (λ v. (job v ≡ None) × IsSome (done v)) w ws
      (All-head (λ v. job v ≡ None) w ws n, ap is_some (same_head (done w) (Some r.done) (map done ws) (map (λ (z : Row C). Some z.done) rs) d))
      (all_ended ws rs (same_tail (done w) (Some r.done) (map done ws) (map (λ (z : Row C). Some z.done) rs) d) (All-tail (λ v. job v ≡ None) w ws n))

-- what holds of each seat holds of the workers that have them
module _ {W S : Type 0} (seat : W → S) (P : S → Type 0) where
  pub each_seat : (ws : List W) (ss : List S) → map seat ws ≡ ss → All P ss → All (λ w. P (seat w)) ws
  each_seat [] ss e h = All-nil (λ w. P (seat w))
  each_seat (w ∷ ws) [] e h = absurd (more_than_none (seat w) (map seat ws) e)
  each_seat (w ∷ ws) (s ∷ ss) e h =
      All-cons (λ v. P (seat v)) w ws (subst P (sym (same_head (seat w) s (map seat ws) ss e)) (All-head P s ss h))
      (each_seat ws ss (same_tail (seat w) s (map seat ws) ss e) (All-tail P s ss h))

pub counts_none : (a : Counts) → (a.writes ≡ 0) × (a.faults ≡ 0) × (a.made ≡ 0) × (a.seen ≡ 0) → a ≡ none_counted
counts_none a h =
    ap₂ (λ (x y : ℕ). record { writes = x; faults = y; made = a.made; seen = a.seen }) h.0 h.1
    ∙ ap₂ (λ (x y : ℕ). record { writes = 0; faults = 0; made = x; seen = y }) h.2 h.3
