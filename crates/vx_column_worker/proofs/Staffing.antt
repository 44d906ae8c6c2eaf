-- Lists that are taken apart from their ends and put together again.
use Rattle.std.proofs.Common.{subst, None, Option, Some, drop, take, ◌≡◌, ◌+◌, ◌<◌, ◌∷◌, ◌++◌, ◌∙◌, ℕ, suc, List, map, length, slice_index_or, sym, ap, arith, append_assoc, []}
use Rattle.std.specs.Prelude.{All, IfSome, IsSome, IfOk, IfErr, OnOk, reverse}
use Rattle.std.specs.List.{AllZip}
use Rattle.std.proofs.lemmas.List.{append-nil, reverse-append, reverse-reverse}
use Rattle.std.proofs.lemmas.Bool.{true≢false}
use Rattle.std.proofs.lemmas.Grind.{common_steps}
use Rattle.std.proofs.lemmas.List.Elements.{All-nil, All-head, All-tail, All-push, All-same}
use Rattle.vx_model.specs.ChunkData.{ChunkData}
use Rattle.vx_layout_tree.specs.LayoutView.{layout_data}
use Rattle.vx_write_answer.specs.Causes.{is_sink_fault}
use Rattle.vx_column_machine.specs.Course.{plan_of}
use Rattle.vx_column_machine.specs.Causes.{IsDone}
use Rattle.vx_column_ids.specs.declared.part.ColumnPart.{ColumnPart}
use Rattle.vx_column_inputs.specs.declared.inputs.Input.{Input}
use Rattle.vx_column_worker.specs.declared.worker.Job.{Job}
use Rattle.vx_column_worker.specs.declared.worker.Done.{Done}
use Rattle.vx_column_worker.specs.Jobs.{course_of}
use Rattle.vx_column_worker.specs.Staffed.{Counts, HasRun, jobs_from, list_to_come}
use Rattle.vx_column_worker.specs.Worked.{WorkerCause, SharedPast, SeatStopped, PressedOnly}

-- what holds at each place holds of both lists
pub each_zipped : {A : Type 0} (R : A → A → Type 0) (xs ys : List A) → length ys ≡ length xs
    → ((i : ℕ) (d : A) → i < length xs → R (slice_index_or xs i d) (slice_index_or ys i d)) → AllZip R xs ys
each_zipped R [] [] e h = tt
each_zipped R [] (y ∷ ys) e h = absurd (omega (arith, e))
each_zipped R (x ∷ xs) [] e h = absurd (omega (arith, e))
each_zipped R (x ∷ xs) (y ∷ ys) e h = (h 0 x (omega arith), each_zipped R xs ys (omega (arith, e)) (λ i d l. h (suc i) d (omega (arith, l))))

-- what is written back to a whole list is the list
pub all_back : {A : Type 0} (n : ℕ) (xs ys : List A) → length xs ≡ length ys → n ≡ length ys → take n (xs ++ drop (length xs) ys) ≡ xs
all_back n xs ys e m = grind (arith, common_steps)

-- and then what holds at each place of what was lent and of what is left
pub zipped_back : {A : Type 0} (R : A → A → Type 0) (n : ℕ) (items lent now : List A) → lent ≡ items → length now ≡ length lent → n ≡ length items
    → ((i : ℕ) (d : A) → i < length lent → R (slice_index_or lent i d) (slice_index_or now i d)) → AllZip R items (take n (now ++ drop (length now) items))
zipped_back R n items lent now e same m h =
    subst (λ z. AllZip R items z) (sym (all_back n now items (same ∙ ap length e) m)) (subst (λ z. AllZip R z now) e (each_zipped R lent now same h))

pub all_reverse : {A : Type 0} (P : A → Type 0) (xs : List A) → All P xs → All P (reverse xs)
all_reverse P [] h = All-nil P
all_reverse P (x ∷ xs) h =
    All-same P (reverse (x ∷ xs)) (reverse xs ++ (x ∷ [])) (reverse-append (x ∷ []) xs) (All-push P (reverse xs) x (all_reverse P xs (All-tail P x xs h)) (All-head P x xs h))

-- What stands last in one list comes first behind it, in what is read off another list from its end.
pub moved_one : {A B : Type 0} (f : A → B) (front rest : List B) (x : B) (w : A) (ws : List A) (all : List B) → front ≡ rest ++ (x ∷ []) → f w ≡ x
    → front ++ map f (reverse ws) ≡ all → rest ++ map f (reverse (ws ++ (w ∷ []))) ≡ all
moved_one f front rest x w ws all e g h =
    ap (λ z. rest ++ map f z) (reverse-append ws (w ∷ [])) ∙ ap (λ z. rest ++ (z ∷ map f (reverse ws))) g
    ∙ sym (append_assoc rest (x ∷ []) (map f (reverse ws))) ∙ ap (λ z. z ++ map f (reverse ws)) (sym e) ∙ h

-- at the end all have been moved
pub moved_all : {A B : Type 0} (f : A → B) (front : List B) (ws : List A) (all : List B) → length front ≡ 0 → front ++ map f (reverse ws) ≡ all → map f (reverse ws) ≡ all
moved_all f [] ws all e h = h
moved_all f (x ∷ xs) ws all e h = absurd (omega (arith, e))

-- And back: what is taken off the list's end is put behind the others.
pub put_back : {A B : Type 0} (f : A → B) (front : List B) (w : A) (ws rest : List A) (x : B) (all : List B) → ws ≡ rest ++ (w ∷ []) → x ≡ f w
    → front ++ map f (reverse ws) ≡ all → (front ++ (x ∷ [])) ++ map f (reverse rest) ≡ all
put_back f front w ws rest x all e g h =
    append_assoc front (x ∷ []) (map f (reverse rest)) ∙ ap (λ z. front ++ (z ∷ map f (reverse rest))) g
    ∙ sym (ap (λ z. front ++ map f z) (ap reverse e ∙ reverse-append rest (w ∷ []))) ∙ h

pub none_back : {A B : Type 0} (f : A → B) (front : List B) (ws : List A) (all : List B) → length ws ≡ 0 → front ++ map f (reverse ws) ≡ all → front ≡ all
none_back f front [] all e h = sym (append-nil front) ∙ h
none_back f front (w ∷ ws) all e h = absurd (omega (arith, e))

-- before any is taken
pub none_moved : {A B : Type 0} (f : A → B) (front : List B) (ws : List A) → length front ≡ 0 → front ++ map f (reverse (reverse ws)) ≡ map f ws
none_moved f [] ws e = ap (map f) (reverse-reverse ws)
none_moved f (x ∷ xs) ws e = absurd (omega (arith, e))

pub ap_three : {A B C D : Type 0} (f : A → B → C → D) {a a′ : A} {b b′ : B} {c c′ : C} → a ≡ a′ → b ≡ b′ → c ≡ c′ → f a b c ≡ f a′ b′ c′
ap_three f p q r = λ i. f (p i) (q i) (r i)

pub jobs_push : {C : Type 0} (k : ℕ) (is : List Input) (ps : List ColumnPart) (cs : List C) (i : Input) (p : ColumnPart) (c : C) (n : ℕ) → length is ≡ length ps → length is ≡ length cs → n ≡ k + length is
    → jobs_from k (is ++ (i ∷ [])) (ps ++ (p ∷ [])) (cs ++ (c ∷ [])) ≡ jobs_from k is ps cs ++ (record { column = n; input = i; part = p; compressor = c } ∷ [])
jobs_push k [] [] [] i p c n e f m = let z : k ≡ n = omega (arith, m) in ap (λ (v : ℕ). record { column = v; input = i; part = p; compressor = c } ∷ []) z
jobs_push k [] [] (d ∷ cs) i p c n e f m = absurd (omega (arith, f))
jobs_push k [] (q ∷ ps) cs i p c n e f m = absurd (omega (arith, e))
jobs_push k (j ∷ is) [] cs i p c n e f m = absurd (omega (arith, e))
jobs_push k (j ∷ is) (q ∷ ps) [] i p c n e f m = absurd (omega (arith, f))
jobs_push {C} k (j ∷ is) (q ∷ ps) (d ∷ cs) i p c n e f m =
    ap (λ (z : List (Job C)). record { column = k; input = j; part = q; compressor = d } ∷ z) (jobs_push (suc k) is ps cs i p c n (omega (arith, e)) (omega (arith, f)) (omega (arith, m)))

-- before any is hired
pub none_yet : {A B : Type 0} (f : A → B) (front : List B) (ws : List A) → length ws ≡ 0 → front ++ map f (reverse ws) ≡ front
none_yet f front [] e = append-nil front
none_yet f front (w ∷ ws) e = absurd (omega (arith, e))

pub all_none : {A : Type 0} (P : A → Type 0) (xs : List A) → length xs ≡ 0 → All P xs
all_none P [] e = All-nil P
all_none P (x ∷ xs) e = absurd (omega (arith, e))

-- ---- a worker has run

module _ {C : Type 0} (image : ℕ → ℕ → ChunkData → ChunkData) (kind faults : C → ℕ) (may : C → ℕ → Type 0) (first pairs : ℕ) where
  pub has_run : (old now : Option (Job C)) (before after : Counts) (d : Option (Done C)) → now ≡ None → IfSome old (λ j. IsSome d)
      → IfSome old (λ j. IfSome d (λ x. (chunks : List ChunkData) → list_to_come j.input.source ≡ Some chunks
      → IfOk x.outcome (λ r. IsDone (plan_of (course_of (image (kind j.compressor)) j.column j.input chunks)) (layout_data r.0) r.1.items
      × (after.writes ≡ before.writes + length (plan_of (course_of (image (kind j.compressor)) j.column j.input chunks)).pairs))))
      → IfSome old (λ j. IfSome d (λ x. (chunks : List ChunkData) → list_to_come j.input.source ≡ Some chunks
      → IfErr x.outcome (WorkerCause (SharedPast first pairs) (course_of (image (kind j.compressor)) j.column j.input chunks))))
      → IfSome d (λ x. IfErr x.outcome (λ e. SeatStopped e (is_sink_fault e) before.faults after.faults before.made after.made before.seen after.seen))
      → IfSome d (λ x. OnOk x.outcome ((after.faults ≡ before.faults) × (after.made ≡ before.made) × (after.seen ≡ before.seen)))
      → IfSome old (λ j. IfSome d (λ x. kind x.compressor ≡ kind j.compressor))
      → IfSome old (λ j. IfSome d (λ x. PressedOnly (faults j.compressor) (faults x.compressor) (may j.compressor) x.outcome))
      → HasRun image kind faults may first pairs old now before after d
  has_run None now before after d spent ended done refused stopped unstopped kinds pressed = tt
  has_run (Some j) (Some k) before after d spent ended done refused stopped unstopped kinds pressed = absurd (still spent)
    where
      still : Some k ≡ None → ⊥
      still e = cc
  has_run (Some j) None before after None spent ended done refused stopped unstopped kinds pressed = absurd (true≢false (sym ended))
  has_run (Some j) None before after (Some x) spent ended done refused stopped unstopped kinds pressed = λ chunks told. record {
    done = done chunks told;
    refused = refused chunks told;
    stopped = stopped;
    unstopped = unstopped;
    kind_is = kinds;
    pressed = pressed;
  }

-- ---- the job of a worker that had one

module _ {C : Type 0} (image : ℕ → ℕ → ChunkData → ChunkData) (kind : C → ℕ) where
  -- a job was written to its end, where it was
  abbrev pub IsWritten : ℕ → ℕ → Job C → Done C → Type 0
  IsWritten before now j x = (chunks : List ChunkData) → list_to_come j.input.source ≡ Some chunks
      → IfOk x.outcome (λ r. IsDone (plan_of (course_of (image (kind j.compressor)) j.column j.input chunks)) (layout_data r.0) r.1.items
      × (now ≡ before + length (plan_of (course_of (image (kind j.compressor)) j.column j.input chunks)).pairs))

  pub written_job : (before now : ℕ) (o : Option (Job C)) (d : Option (Done C)) (j : Job C) (x : Done C) → Some j ≡ o → d ≡ Some x → IsWritten before now j x → IfSome o (λ k. IfSome d (λ y. IsWritten before now k y))
  written_job before now o d j x job done h =
      subst (λ a. IfSome a (λ k. IfSome d (λ y. IsWritten before now k y))) job (subst (λ b. IfSome b (λ y. IsWritten before now j y)) (sym done) h)
