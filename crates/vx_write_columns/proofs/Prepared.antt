-- What the workers are given is the struct's columns.
use Rattle.std.proofs.Common.{◌≡◌, ◌+◌, ◌<◌, ◌∷◌, ◌++◌, ◌∙◌, ℕ, zero, suc, Bool, List, map, length, Option, Some, None, slice_get, option_map, All, refl, sym, ap, ap₂, subst, ⊎_elim, arith, []}
use Rattle.std.specs.Prelude.{unwrap_or}
use Rattle.std.proofs.lemmas.Bool.{cases_lt}
use Rattle.std.proofs.lemmas.List.{length-map, length_push}
use Rattle.std.proofs.lemmas.List.Elements.{All-head, All-tail}
use Rattle.std.proofs.lemmas.Option.{slice_get_within, slice_get-map}
use Rattle.vx_model.specs.Ty.{Ty, Tys, boolean, primitive, utf8, binary, list, struct, extension, nullable}
use Rattle.vx_model.specs.ChunkData.{ChunkData}
use Rattle.vx_model.specs.declared.encoding.EncodingId.{EncodingId}
use Rattle.vx_chunk_cells.specs.Parts.{struct_fields}
use Rattle.vx_plan.specs.PlanData.{Setting}
use Rattle.vx_plan.specs.Valid.{Fit}
use Rattle.vx_setting.specs.Setting.{real}
use Rattle.vx_sink.specs.ContextView.{listed, allowed_in}
use Rattle.vx_sink.specs.declared.context.LayoutWriterContext.{LayoutWriterContext}
use Rattle.vx_sink.specs.declared.list_source.ListSource.{ListSource}
use Rattle.vx_seats.specs.History as seats
use Rattle.vx_named_tasks.specs.Names.{Outset, column_outset}
use Rattle.vx_column_plan.specs.Columns.{Column}
use Rattle.vx_own_plans.specs.OwnPlans.{column_chunks}
use Rattle.vx_column_ids.specs.Outsets.{outset_of, column_outsets}
use Rattle.vx_column_ids.specs.declared.part.ColumnPart.{ColumnPart}
use Rattle.vx_column_ways.specs.Ways.{column_of}
use Rattle.vx_machine_state.specs.Images.{images_of}
use Rattle.vx_machine_node.specs.Context.{setting_of}
use Rattle.vx_column_worker.specs.Course.{Course, plan_of}
use Rattle.vx_column_inputs.specs.declared.inputs.Input.{Input}
use Rattle.vx_column_inputs.specs.Prepared.{IsInput, AreInputs}
use Rattle.vx_column_worker.specs.Jobs.{course_of, AllAllowed, JobFits, JobsFit}
use Rattle.vx_write.specs.ColumnCount.{columns_of}
use Rattle.vx_write_columns.specs.Courses.{column_courses, courses_of}

no_count : (k : ℕ) → None ≡ Some k → ⊥
no_count k e = cc

-- what has columns is a struct
pub struct_is : (t : Ty) (count : ℕ) → columns_of t ≡ Some count → t ≡ struct (struct_fields t) (nullable t)
struct_is (struct fs n) k h = refl
struct_is (boolean n) k h = absurd (no_count k h)
struct_is (primitive p n) k h = absurd (no_count k h)
struct_is (utf8 n) k h = absurd (no_count k h)
struct_is (binary n) k h = absurd (no_count k h)
struct_is (list t n) k h = absurd (no_count k h)
struct_is (extension tag t) k h = absurd (no_count k h)

pub fit_right : (ns ms : List ℕ) → Fit (ns ++ ms) → Fit ms
fit_right [] ms h = h
fit_right (n ∷ ns) ms h = fit_right ns ms h.1

abbrev course : Setting → Column → ℕ → List ChunkData → Course
course s c k chunks = record { setting = s; column = c; number = k; chunks = chunks }

-- What a worker needs of the column of its number: its part, as many chunks as there are batches, and pairs that it may write.
pub record FitsAt (s : Setting) (t : Ty) (bs : List ChunkData) (pairs : List seats.Pair) (k : ℕ) (c : Column) (part : Outset) : Type 0 where
  pub own : part ≡ column_outset k (length bs)
  pub many : length (column_chunks k (struct_fields t) (nullable t) bs) ≡ length bs
  pub all : AllAllowed pairs (plan_of (course s c k (column_chunks k (struct_fields t) (nullable t) bs))).pairs

-- The columns' sources tell by the functions given; each compressor is of one kind.
module _ {C : Type 0} (image : ℕ → ℕ → ChunkData → ChunkData) (kind : C → ℕ) (types : ListSource → Ty) (may_fail : ListSource → ℕ → Type 0) (to_come : ListSource → Option (List ChunkData)) (left : ListSource → ℕ)
    (ctx : LayoutWriterContext) (which : ℕ) (t : Ty) (bs : List ChunkData) where
  abbrev s : Setting
  s = setting_of ctx (image which)

  abbrev chunks_at : ℕ → List ChunkData
  chunks_at k = column_chunks k (struct_fields t) (nullable t) bs

  abbrev IsGiven : ℕ → Column → Input → Type 0
  IsGiven k c i = IsInput (listed ctx) (allowed_in ctx) c (chunks_at k) i (types i.source) (may_fail i.source) (to_come i.source) (left i.source)

  setting_is : (i : Input) (l : C) → listed i.ctx ≡ listed ctx → allowed_in i.ctx ≡ allowed_in ctx → kind l ≡ which → setting_of i.ctx (image (kind l)) ≡ s
  setting_is i l e f g =
      ap (λ (z : List EncodingId). real z (allowed_in i.ctx) (images_of (image (kind l)))) e
      ∙ ap (λ (z : Option (List (List ℕ))). real (listed ctx) z (images_of (image (kind l)))) f
      ∙ ap (λ (z : ℕ). real (listed ctx) (allowed_in ctx) (images_of (image z))) g

  course_is : (k : ℕ) (c : Column) (i : Input) (l : C) → IsGiven k c i → kind l ≡ which → course_of (image (kind l)) k i (chunks_at k) ≡ course s c k (chunks_at k)
  course_is k c i l h g =
      ap (λ (z : Setting). course z (column_of i.way) k (chunks_at k)) (setting_is i l h.listed_is h.allowed_is g)
      ∙ ap (λ (z : Column). course s z k (chunks_at k)) h.way_is

  told_course : (k : ℕ) (c : Column) (i : Input) (l : C) → IsGiven k c i → kind l ≡ which → course_of (image (kind l)) k i (unwrap_or (to_come i.source) []) ≡ course s c k (chunks_at k)
  told_course k c i l h g = ap (λ (z : Option (List ChunkData)). course_of (image (kind l)) k i (unwrap_or z [])) h.told ∙ course_is k c i l h g

  pub courses_are : (k : ℕ) (cs : List Column) (is : List Input) (lent : List C) → AreInputs (listed ctx) (allowed_in ctx) types may_fail to_come left t bs k cs is → length lent ≡ length is → All (λ c. kind c ≡ which) lent
      → courses_of image kind to_come k is lent ≡ column_courses s (struct_fields t) (nullable t) bs k cs
  courses_are k [] [] lent h e a = refl
  courses_are k [] (i ∷ is) lent h e a = absurd h
  courses_are k (c ∷ cs) [] lent h e a = absurd h
  courses_are k (c ∷ cs) (i ∷ is) [] h e a = absurd (omega (arith, e))
  courses_are k (c ∷ cs) (i ∷ is) (l ∷ lent) h e a =
      ap₂ (λ (x : Course) (xs : List Course). x ∷ xs) (told_course k c i l h.0 (All-head (λ z. kind z ≡ which) l lent a))
      (courses_are (suc k) cs is lent h.1 (omega (arith, e)) (All-tail (λ z. kind z ≡ which) l lent a))

  job_fits : (pairs : List seats.Pair) (k : ℕ) (c : Column) (i : Input) (part : Outset) (l : C) → IsGiven k c i → kind l ≡ which → FitsAt s t bs pairs k c part
      → JobFits pairs (image (kind l)) k i part (types i.source) (may_fail i.source) (to_come i.source) (left i.source)
  job_fits pairs k c i part l h g r = record {
    none = h.none;
    marked = h.marked;
    kind_is = h.kind_is;
    steady = h.steady;
    chunks = chunks_at k;
    told = h.told;
    left_is = h.left_is;
    typed = h.typed;
    part_is = r.own ∙ ap (λ z. column_outset k z) (sym r.many);
    all = subst (λ (x : Course). AllAllowed pairs (plan_of x).pairs) (sym (course_is k c i l h g)) r.all;
  }

  pub jobs_fit : (pairs : List seats.Pair) (k : ℕ) (cs : List Column) (is : List Input) (ps : List ColumnPart) (lent : List C) → AreInputs (listed ctx) (allowed_in ctx) types may_fail to_come left t bs k cs is
      → length ps ≡ length is → length lent ≡ length is → All (λ c. kind c ≡ which) lent
      → ((j : ℕ) (c : Column) (p : ColumnPart) → slice_get cs j ≡ Some c → slice_get ps j ≡ Some p → FitsAt s t bs pairs (k + j) c (outset_of p)) → JobsFit pairs image kind types may_fail to_come left k is ps lent
  jobs_fit pairs k [] [] ps lent h p e a all = tt
  jobs_fit pairs k [] (i ∷ is) ps lent h p e a all = absurd h
  jobs_fit pairs k (c ∷ cs) [] ps lent h p e a all = absurd h
  jobs_fit pairs k (c ∷ cs) (i ∷ is) [] lent h p e a all = absurd (omega (arith, p))
  jobs_fit pairs k (c ∷ cs) (i ∷ is) (q ∷ ps) [] h p e a all = absurd (omega (arith, e))
  jobs_fit pairs k (c ∷ cs) (i ∷ is) (q ∷ ps) (l ∷ lent) h p e a all =
      let z : k + 0 ≡ k = omega arith in
      let r : FitsAt s t bs pairs k c (outset_of q) = subst (λ v. FitsAt s t bs pairs v c (outset_of q)) z (all 0 c q refl refl) in (
        job_fits pairs k c i (outset_of q) l h.0 (All-head (λ z. kind z ≡ which) l lent a) r,
        jobs_fit pairs (suc k) cs is ps lent h.1 (omega (arith, p)) (omega (arith, e)) (All-tail (λ z. kind z ≡ which) l lent a) (λ j d u there here. next j d u (all (suc j) d u there here)),
      )
    where
      next : (j : ℕ) (d : Column) (u : ColumnPart) → FitsAt s t bs pairs (k + suc j) d (outset_of u) → FitsAt s t bs pairs (suc k + j) d (outset_of u)
      next j d u r = let y : k + suc j ≡ suc k + j = omega arith in subst (λ v. FitsAt s t bs pairs v d (outset_of u)) y r

-- ---- the parts

outsets_long : (count n : ℕ) → length (column_outsets count n) ≡ count
outsets_long zero n = refl
outsets_long (suc c) n =
    let l : length (column_outsets c n ++ (column_outset c n ∷ [])) ≡ length (column_outsets c n) + 1 = length_push (column_outsets c n) (column_outset c n) in
    let m : length (column_outsets c n) ≡ c = outsets_long c n in
    omega (arith, l, m)

-- what is in the front, and what is pushed behind it
get_front : {A : Type 0} (xs : List A) (x a : A) (k : ℕ) → slice_get xs k ≡ Some a → slice_get (xs ++ (x ∷ [])) k ≡ Some a
get_front [] x a k e = absurd (no_place a e)
  where
    no_place : {A : Type 0} (y : A) → None ≡ Some y → ⊥
    no_place y f = cc
get_front (y ∷ xs) x a zero e = e
get_front (y ∷ xs) x a (suc k) e = get_front xs x a k e

get_last : {A : Type 0} (xs : List A) (x : A) → slice_get (xs ++ (x ∷ [])) (length xs) ≡ Some x
get_last [] x = refl
get_last (y ∷ xs) x = get_last xs x

outsets_at : (count n j : ℕ) → j < count → slice_get (column_outsets count n) j ≡ Some (column_outset j n)
outsets_at zero n j l = absurd (omega (arith, l))
outsets_at (suc c) n j l = ⊎_elim
    (λ less. get_front (column_outsets c n) (column_outset c n) (column_outset j n) j (outsets_at c n j less))
    (λ most.
    let is : length (column_outsets c n) ≡ j = let m = outsets_long c n in omega (arith, l, most, m) in
    let c_is : c ≡ j = omega (arith, l, most) in
    subst (λ z. slice_get (column_outsets c n ++ (column_outset c n ∷ [])) z ≡ Some (column_outset c n)) is (get_last (column_outsets c n) (column_outset c n)) ∙ ap (λ z. Some (column_outset z n)) c_is)
    (cases_lt j c)

module _ (ps : List ColumnPart) (count n : ℕ) (same : map outset_of ps ≡ column_outsets count n) where
  pub parts_long : length ps ≡ count
  parts_long = sym (length-map ps outset_of) ∙ ap length same ∙ outsets_long count n

  pub parts_at : (j : ℕ) (p : ColumnPart) → slice_get ps j ≡ Some p → outset_of p ≡ column_outset j n
  parts_at j p e =
      let l : j < count = let w = slice_get_within ps j p e in omega (arith, w, parts_long) in
      same_outset (outset_of p) (column_outset j n)
      (sym (slice_get-map outset_of ps j ∙ ap (option_map outset_of) e) ∙ ap (λ (z : List Outset). slice_get z j) same ∙ outsets_at count n j l)
    where
      same_outset : (a b : Outset) → Some a ≡ Some b → a ≡ b
      same_outset a b f = cc
