-- What workers leave, once they are dismissed and their sink is closed.
use Rattle.std.proofs.Common.{◌≡◌, ◌⊎◌, ◌+◌, ◌^◌, ◌<◌, ◌≤◌, ◌∙◌, ℕ, max, true, List, map, length, Option, Some, None, refl, sym, ap, subst, inl, inr, []}
use Rattle.std.specs.Prelude.{All, option_map, sum_by}
use Rattle.std.specs.List.{AllZip}
use Rattle.std.proofs.lemmas.List.Elements.{All-weaker}
use Rattle.vx_model.specs.Ty.{Ty}
use Rattle.vx_model.specs.ChunkData.{ChunkData}
use Rattle.vx_path.specs.Sort.{sort}
use Rattle.vx_fault.specs.Counts.{Rose}
use Rattle.vx_fault.specs.Told.{then_told}
use Rattle.vx_layout_spec.specs.LayoutTree.{LayoutData, struct_layout}
use Rattle.vx_plan.specs.PlanData.{Plan}
use Rattle.vx_order_answer.specs.declared.receipt.Receipt.{Receipt}
use Rattle.vx_seats.specs.History.{Pair, paths, ascends, all_listed, numbered, stored}
use Rattle.vx_seats.specs.Turns.{NeverFails}
use Rattle.vx_sink.specs.declared.list_source.ListSource.{ListSource}
use Rattle.vx_column_plan.specs.Shared.{number_by}
use Rattle.vx_write_answer.specs.declared.error.WriteError.{WriteError}
use Rattle.vx_write_answer.specs.declared.error.WriteError.TheVariants.{OutOfMemory}
use Rattle.vx_column_worker.specs.Course.{Course, plan_of}
use Rattle.vx_column_ids.specs.declared.part.ColumnPart.{ColumnPart}
use Rattle.vx_column_inputs.specs.declared.inputs.Input.{Input}
use Rattle.vx_column_worker.specs.declared.worker.Job.{Job}
use Rattle.vx_column_worker.specs.declared.worker.Done.{Done}
use Rattle.vx_column_worker.specs.Jobs.{JobsFit}
use Rattle.vx_column_worker.specs.Worked.{SharedPast}
use Rattle.vx_column_worker.specs.Staffed.{Counts, jobs_from, list_kind, list_may_fail, list_to_come, list_left}
use Rattle.vx_write_columns.specs.Courses.{courses_of}
use Rattle.vx_write_columns.specs.Numbers.{ColumnOutcome, AllDone, AllStandIn, AllOk, HasOwn, IsFirstOwn, layouts_by}
use Rattle.vx_write_columns.specs.Ends.{IsFirstOf, EndsTell}
use Rattle.vx_write_columns.specs.Shared.{AllClean, StandsBy, SharedDone, SharedStopped}
use Rattle.vx_write_columns.specs.Stopped.{AllKept, Failed}
use Rattle.vx_write_columns.proofs.Rows.{Row, none_counted, courses_in, lent_in, back_in, after_in, outcomes_in, AllWorked, Ran, RowsOf, rows_of, writes_in, faults_in, made_in, seen_in, all_done, all_clean, all_counted, all_quiet, some_own, left_is, each_seat, counts_none}
use Rattle.vx_write_columns.proofs.Failing.{sum_same, kinds_are, all_kept, has_failed}
use Rattle.vx_write_columns.proofs.Ending.{first_of}

-- The rows of workers that were dismissed: what was lent and came back, what came of the columns, and what the seats count.
pub record Closed {C : Type 0} (kind faults : C → ℕ) (may : C → ℕ → Type 0) (first pairs : ℕ) (xs : List Course) (lent back : List C) (outcomes : List ColumnOutcome) (writes failed made seen : ℕ) : Type 0 where
  pub rows : List (Row C)
  pub courses : courses_in rows ≡ xs
  pub lent_are : lent_in rows ≡ lent
  pub back_are : back_in rows ≡ back
  pub outcomes_are : outcomes_in rows ≡ outcomes
  pub writes_are : writes_in (after_in rows) ≡ writes
  pub failed_are : faults_in (after_in rows) ≡ failed
  pub made_are : made_in (after_in rows) ≡ made
  pub seen_are : seen_in (after_in rows) ≡ seen
  pub worked : AllWorked kind faults may first pairs rows

-- it counted nothing yet
abbrev pub IsIdle : Counts → Type 0
IsIdle a = (a.writes ≡ 0) × (a.faults ≡ 0) × (a.made ≡ 0) × (a.seen ≡ 0)

module _ {C W S : Type 0} (image : ℕ → ℕ → ChunkData → ChunkData) (kind faults : C → ℕ) (may : C → ℕ → Type 0) (first pairs : ℕ)
    (job : W → Option (Job C)) (done : W → Option (Done C)) (seat : W → S) (count : S → Counts) (allowed : List Pair)
    (is : List Input) (ps : List ColumnPart) (lent : List C) (old new : List W) (seats : List S) (parts : length ps ≡ length is) (same : length lent ≡ length is) (jobs : map job old ≡ map Some (jobs_from 0 is ps lent))
    (fits : JobsFit allowed image kind list_kind list_may_fail list_to_come list_left 0 is ps lent) (seated : map seat old ≡ seats) (idle : All (λ s. IsIdle (count s)) seats)
    (ran : AllZip (Ran image kind faults may first pairs job done (λ w. count (seat w))) old new) where
  pub rows_left : RowsOf image kind faults may first pairs job done (λ w. count (seat w)) (courses_of image kind list_to_come 0 is lent) lent new
  rows_left = rows_of image kind faults may first pairs job done (λ w. count (seat w)) allowed 0 is ps lent old new parts same jobs fits
      (All-weaker (λ w. IsIdle (count (seat w))) (λ w. count (seat w) ≡ none_counted) (λ w h. counts_none (count (seat w)) h) old (each_seat seat (λ s. IsIdle (count s)) old seats seated idle)) ran

  module _ (seats_back : List S) (back : List C) (outcomes : List ColumnOutcome) (given_up : seats_back ≡ map seat new) (returned : map Some back ≡ map (λ w. option_map (λ d. d.compressor) (done w)) new)
      (told : map Some outcomes ≡ map (λ w. option_map (λ d. d.outcome) (done w)) new) where
    summed : (f : Counts → ℕ) → sum_by f (after_in rows_left.rows) ≡ sum_by (λ s. f (count s)) seats_back
    summed f = ap (sum_by f) rows_left.after ∙ sym (sum_same (λ s. f (count s)) seat f (λ w. count (seat w)) (λ w. refl) new) ∙ sym (ap (sum_by (λ s. f (count s))) given_up)

    pub closed : Closed kind faults may first pairs (courses_of image kind list_to_come 0 is lent) lent back outcomes
        (sum_by (λ s. (count s).writes) seats_back) (sum_by (λ s. (count s).faults) seats_back) (sum_by (λ s. (count s).made) seats_back) (sum_by (λ s. (count s).seen) seats_back)
    closed = record {
      rows = rows_left.rows;
      courses = rows_left.courses;
      lent_are = rows_left.lent;
      back_are = sym (left_is done (λ (d : Done C). d.compressor) back new rows_left.rows returned rows_left.dones);
      outcomes_are = sym (left_is done (λ (d : Done C). d.outcome) outcomes new rows_left.rows told rows_left.dones);
      writes_are = summed (λ a. a.writes);
      failed_are = summed (λ a. a.faults);
      made_are = summed (λ a. a.made);
      seen_are = summed (λ a. a.seen);
      worked = rows_left.worked;
    }

-- what a closed sink tells of its history, whose last number has 32 bits
pub stands_by : (pairs : List Pair) (first next : ℕ) (before now : Option (List (List ℕ))) (history given : List Receipt) → ascends (paths history) ≡ true → all_listed pairs (paths history) ≡ true
    → numbered first history ≡ true → next ≡ first + length history → now ≡ then_told before (stored pairs history)
    → given ≡ history → ((n : ℕ) → numbered n given ≡ true → n + length given ≤ max n (2 ^ 32)) → StandsBy pairs first next before now history
stands_by pairs first next before now history given ascend listed numbers next_is stands same fits = record {
  ascend = ascend;
  listed = listed;
  numbers = numbers;
  next_is = next_is;
  stands = stands;
  last = subst (λ z. z ≤ max first (2 ^ 32)) (sym next_is)
      (subst (λ (z : List Receipt). first + length z ≤ max first (2 ^ 32)) same (fits first (subst (λ (z : List Receipt). numbered first z ≡ true) (sym same) numbers)));
}

-- ---- what follows

module _ {C : Type 0} (kind faults : C → ℕ) (may : C → ℕ → Type 0) (first : ℕ) (pairs : List Pair) (xs : List Course) (lent back : List C) (outcomes : List ColumnOutcome) (writes failed made seen : ℕ)
    (k : Closed kind faults may first (length pairs) xs lent back outcomes writes failed made seen) where
  pub own_or_all : (0 < seen → 0 < made) → AllOk outcomes ⊎ HasOwn outcomes
  own_or_all stops = subst (λ z. AllOk z ⊎ HasOwn z) k.outcomes_are
      (some_own kind faults may first (length pairs) k.rows k.worked (λ l. subst (λ z. 0 < z) (sym k.made_are) (stops (subst (λ z. 0 < z) k.seen_are l))))

  pub kinds_back : map kind back ≡ map kind lent
  kinds_back = ap (map kind) (sym k.back_are) ∙ kinds_are kind faults may first (length pairs) k.rows k.worked ∙ ap (map kind) k.lent_are

  -- all were written
  module _ (ok : AllOk outcomes) where
    all_ok : AllOk (outcomes_in k.rows)
    all_ok = subst AllOk (sym k.outcomes_are) ok

    pub all_back : AllKept faults lent back
    all_back = ap (map faults) (sym k.back_are) ∙ all_kept kind faults may first (length pairs) k.rows k.worked all_ok ∙ ap (map faults) k.lent_are

    pub none_failed : failed ≡ 0
    none_failed = sym k.failed_are ∙ all_quiet kind faults may first (length pairs) k.rows k.worked all_ok

    all_written : writes ≡ sum_by (λ x. length (plan_of x).pairs) xs
    all_written = sym k.writes_are ∙ all_counted kind faults may first (length pairs) k.rows k.worked all_ok ∙ ap (sum_by (λ (x : Course). length (plan_of x).pairs)) k.courses

    done_all : AllDone (map plan_of xs) outcomes
    done_all =
        subst (λ (z : List Course). AllDone (map plan_of z) outcomes) k.courses
        (subst (λ (z : List ColumnOutcome). AllDone (map plan_of (courses_in k.rows)) z) k.outcomes_are (all_done kind faults may first (length pairs) k.rows k.worked all_ok))

    pub shared_done : (next : ℕ) (before now : Option (List (List ℕ))) (t : Ty) (rows : ℕ) (l : LayoutData ℕ) (history : List Receipt) → StandsBy pairs first next before now history
        → sum_by (λ x. length (plan_of x).pairs) xs ≡ length pairs → (writes ≡ length pairs → paths history ≡ sort (map (λ c. c.path) pairs))
        → ((n : ℕ) (ps : List Plan) → AllDone ps outcomes → AllStandIn history ps → l ≡ struct_layout t rows (layouts_by (number_by n history) ps))
        → SharedDone pairs first next before now xs t rows l
    shared_done next before now t rows l history stands all whole laid = record {
      history = history;
      stands = stands;
      all = whole (all_written ∙ all);
      laid = λ s. laid first (map plan_of xs) done_all s;
      clean = subst (λ z. AllClean z) k.courses (all_clean kind faults may first (length pairs) k.rows k.worked all_ok);
    }

  -- some was refused
  module _ (e : WriteError) (refused : (e ≡ OutOfMemory) ⊎ IsFirstOwn outcomes e) where
    refused_row : (e ≡ OutOfMemory) ⊎ IsFirstOwn (outcomes_in k.rows) e
    refused_row = subst (λ z. (e ≡ OutOfMemory) ⊎ IsFirstOwn z e) (sym k.outcomes_are) refused

    module _ (before now : ℕ) (may_fail : ℕ → Type 0) (rose : 0 < failed → Rose before now) (could : 0 < failed → ¬ (NeverFails may_fail)) (quiet : failed ≡ 0 → now ≡ before) where
      rose_row : 0 < faults_in (after_in k.rows) → Rose before now
      rose_row l = rose (subst (λ z. 0 < z) k.failed_are l)

      could_row : 0 < faults_in (after_in k.rows) → ¬ (NeverFails may_fail)
      could_row l = could (subst (λ z. 0 < z) k.failed_are l)

      quiet_row : faults_in (after_in k.rows) ≡ 0 → now ≡ before
      quiet_row z = quiet (sym k.failed_are ∙ z)

      first_row : (e ≡ OutOfMemory) ⊎ IsFirstOf (SharedPast first (length pairs)) (EndsTell before now may_fail faults may lent back) xs e
      first_row =
          subst (λ (z : List Course). (e ≡ OutOfMemory) ⊎ IsFirstOf (SharedPast first (length pairs)) (EndsTell before now may_fail faults may lent back) z e) k.courses
          (subst (λ (z : List C). (e ≡ OutOfMemory) ⊎ IsFirstOf (SharedPast first (length pairs)) (EndsTell before now may_fail faults may z back) (courses_in k.rows) e) k.lent_are
          (subst (λ (z : List C). (e ≡ OutOfMemory) ⊎ IsFirstOf (SharedPast first (length pairs)) (EndsTell before now may_fail faults may (lent_in k.rows) z) (courses_in k.rows) e) k.back_are
          (first_of kind faults may first (length pairs) k.rows e before now may_fail k.worked refused_row rose_row could_row quiet_row)))

      pub shared_stopped : (next : ℕ) (told told_now : Option (List (List ℕ))) (history : List Receipt) → StandsBy pairs first next told told_now history
          → SharedStopped pairs first next told told_now (EndsTell before now may_fail faults may lent back) xs e
      shared_stopped next told told_now history stands = record { history = history; stands = stands; whose = first_row }

      pub failed_so : Failed before now may_fail faults may lent back e
      failed_so =
          subst (λ z. Failed before now may_fail faults may z back e) k.lent_are (subst (λ z. Failed before now may_fail faults may (lent_in k.rows) z e) k.back_are
          (has_failed kind faults may first (length pairs) k.rows e before now may_fail k.worked refused_row rose_row could_row quiet_row))
