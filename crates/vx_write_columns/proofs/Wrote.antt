-- A write by columns that is done has written the struct's plan, and one that was refused some of its segments.
use Rattle.std.proofs.Common.{◌≡◌, ◌+◌, ◌^◌, ◌≤◌, ◌∷◌, ◌++◌, ◌∙◌, ℕ, suc, max, Bool, true, List, length, Option, Some, None, refl, sym, ap, subst, append-nil, []}
use Rattle.std.proofs.lemmas.List.{length-map}
use Rattle.vx_model.specs.Ty.{Tys, struct}
use Rattle.vx_model.specs.ChunkData.{ChunkData}
use Rattle.vx_fault.specs.Told.{before_told, then_told, NoneTold}
use Rattle.vx_path.proofs.Sort.{length-sort_by}
use Rattle.vx_layout_spec.specs.LayoutTree.{LayoutData}
use Rattle.vx_layout_spec.specs.Rows.{rows}
use Rattle.vx_segment_reader.specs.Codec.{segment_codec}
use Rattle.vx_strategy_spec.specs.StrategyData.{StrategyData, StrategyList, structured}
use Rattle.vx_strategy_spec.specs.Walk.{duplicate}
use Rattle.vx_strategy_spec.specs.Dispatch.{dispatch}
use Rattle.vx_plan.specs.PlanData.{Setting, Plan, row_total, row_totals}
use Rattle.vx_plan.specs.PlanData as plans
use Rattle.vx_plan.specs.Number.{path_of, sorted, segments, numbered, segment_at}
use Rattle.vx_plan.specs.SourcePlan.{batch_items, source_plan, source_values}
use Rattle.vx_plan.specs.Statements.{RowsComeBack}
use Rattle.vx_plan.specs.Valid.{Fit, AllOf, Keeps}
use Rattle.vx_plan.proofs.SourceLaws.{paths_distinct}
use Rattle.vx_order_answer.specs.declared.receipt.Receipt.{Receipt}
use Rattle.vx_seats.specs.History.{Pair, bytes_at, stored}
use Rattle.vx_column_plan.specs.Columns.{Column, columns_by}
use Rattle.vx_column_plan.specs.Shared.{allowed_by, IsWhole, AreSome}
use Rattle.vx_column_plan.proofs.SharedLaws.{whole_is_planned, history_is_of_plan}
use Rattle.vx_column_worker.specs.Course.{Course}
use Rattle.vx_write.specs.Written.{Planned, Wrote}
use Rattle.vx_write_columns.proofs.Told.{stored_length}
use Rattle.vx_write_columns.specs.Courses.{column_courses}
use Rattle.vx_write_columns.specs.Shared.{StandsBy, SharedDone}
use Rattle.vx_write_columns.proofs.Beside.{all_stand, layouts_are, faults_none, numbers_fit}
use Rattle.vx_write_columns.proofs.Dispatched.{stands_for}

pub length_allowed : (ps : List plans.Pair) → length (allowed_by ps) ≡ length ps
length_allowed [] = refl
length_allowed (p ∷ ps) = ap suc (length_allowed ps)

-- one segment an entry
pub history_length : (pairs : List Pair) (rs : List Receipt) → length (stored pairs rs) ≡ length rs
history_length pairs rs = length-map rs (λ r. bytes_at pairs r.path)

-- as many have numbers
pub next_stored : (pairs : List Pair) (first next : ℕ) (before now : Option (List (List ℕ))) (rs : List Receipt) → StandsBy pairs first next before now rs
    → next ≡ first + length (stored pairs rs)
next_stored pairs first next before now rs h = h.next_is ∙ ap (λ z. first + z) (sym (history_length pairs rs))

-- where nothing is left, all was taken
pub all_taken : (taken xs : List ChunkData) (now : Option (List ChunkData)) → Some xs ≡ before_told taken now → NoneTold now → taken ≡ xs
all_taken taken xs None e n = absurd (let f : Some xs ≡ None = e in cc)
all_taken taken xs (Some ys) e n = sym (append-nil taken) ∙ ap (λ z. taken ++ z) (sym n) ∙ sym (same e)
  where
    same : Some xs ≡ Some (taken ++ ys) → xs ≡ taken ++ ys
    same f = cc

module _ (s : Setting) (v d : StrategyData) (ws : StrategyList) (m : Bool) (fs : Tys) (n : Bool) (bs : List ChunkData) (distinct : duplicate fs ≡ None)
    (w : StrategyData) (at_type : dispatch w (struct fs n) ≡ structured v d ws) where
  abbrev ks : List Column
  ks = columns_by v d ws m fs n

  abbrev xs : List Course
  xs = column_courses s fs n bs 0 ks

  abbrev p : Plan
  p = source_plan s (structured v d ws) (struct fs n) m bs true

  -- the plan is that of the strategy which stands for w
  pub same_plan : source_plan s w (struct fs n) m bs true ≡ p
  same_plan = stands_for s w (structured v d ws) (struct fs n) m bs true at_type

  module _ (first next : ℕ) (before now : Option (List (List ℕ))) where
    -- ---- done

    module _ (l : LayoutData ℕ) (h : SharedDone (allowed_by p.pairs) first next before now xs (struct fs n) (row_total (batch_items 0 bs)) l) where
      whole : IsWhole p first h.history
      whole = whole_is_planned p first h.history (paths_distinct s (structured v d ws) (struct fs n) m bs true) h.all h.stands.numbers

      laid : l ≡ numbered p first
      laid = h.laid (all_stand s v d ws m fs n bs distinct h.history h.all) ∙ layouts_are s v d ws m fs n bs distinct first h.history h.all h.stands.numbers

      counted : length h.history ≡ length (segments p)
      counted = sym (history_length (allowed_by p.pairs) h.history) ∙ ap (λ (z : List (List ℕ)). length z) whole.segments_are

      -- one entry a pair
      paired : length h.history ≡ length p.pairs
      paired = counted ∙ stored_length (sorted p.pairs) ∙ length-sort_by path_of p.pairs

      pub wrote_plan : RowsComeBack → Keeps s → s.codec ≡ segment_codec → AllOf (struct fs n) bs → Fit (length bs ∷ (row_totals (batch_items 0 bs) ++ (length ks ∷ (1 + length ks) ∷ [])))
          → Wrote (struct fs n) first next before now l bs p
      wrote_plan back keeps coded all fit =
          let clean : p.faults ≡ [] = faults_none s v d ws m fs n bs distinct h.clean in
          let fits : Fit p.numbers = numbers_fit s v d ws m fs n bs distinct fit h.clean in
          record {
            laid = laid;
            appended = h.stands.stands ∙ ap (λ (z : List (List ℕ)). then_told before z) whole.segments_are;
            counted = h.stands.next_is ∙ ap (λ z. first + z) counted;
            read_back = ap (λ (z : LayoutData ℕ). rows segment_codec (segment_at first (segments p)) z) laid
                ∙ subst (λ c. rows c (segment_at first (segments p)) (numbered p first) ≡ Some (source_values bs)) coded
                (back s (structured v d ws) (struct fs n) m bs first keeps all clean fits);
            valid = record {
              faultless = clean;
              whole = all;
              numbered = subst (λ z. z ≤ max first (2 ^ 32)) (h.stands.next_is ∙ ap (λ z. first + z) paired) h.stands.last;
              fit = fits;
            };
          }

  pub wrote_beside : RowsComeBack → Keeps s → s.codec ≡ segment_codec → (first next : ℕ) (before now : Option (List (List ℕ))) (l : LayoutData ℕ) → AllOf (struct fs n) bs
      → Fit (length bs ∷ (row_totals (batch_items 0 bs) ++ (length ks ∷ (1 + length ks) ∷ [])))
      → SharedDone (allowed_by p.pairs) first next before now xs (struct fs n) (row_total (batch_items 0 bs)) l
      → Wrote (struct fs n) first next before now l bs (source_plan s w (struct fs n) m bs true)
  wrote_beside back keeps coded first next before now l all fit h =
      subst (λ (z : Plan). Wrote (struct fs n) first next before now l bs z) (sym same_plan) (wrote_plan first next before now l h back keeps coded all fit)

  -- where the source told these batches and its end
  pub planned_beside : RowsComeBack → Keeps s → s.codec ≡ segment_codec → (first next : ℕ) (before now : Option (List (List ℕ))) (l : LayoutData ℕ) → AllOf (struct fs n) bs
      → Fit (length bs ∷ (row_totals (batch_items 0 bs) ++ (length ks ∷ (1 + length ks) ∷ [])))
      → SharedDone (allowed_by p.pairs) first next before now xs (struct fs n) (row_total (batch_items 0 bs)) l
      → (to_come to_come_now : Option (List ChunkData)) → to_come ≡ before_told bs to_come_now → NoneTold to_come_now
      → Planned s w (struct fs n) m to_come (Wrote (struct fs n) first next before now l)
  planned_beside back keeps coded first next before now l all fit h to_come to_come_now came ended taken told =
      subst (λ (z : List ChunkData). Wrote (struct fs n) first next before now l z (source_plan s w (struct fs n) m z true)) (all_taken bs taken to_come_now (sym told ∙ came) ended)
      (wrote_beside back keeps coded first next before now l all fit h)

  -- ---- refused

  -- what stands is of the plan
  pub some_written : (first next : ℕ) (before now : Option (List (List ℕ))) (rs : List Receipt) → StandsBy (allowed_by p.pairs) first next before now rs
      → AreSome (source_plan s w (struct fs n) m bs true) (stored (allowed_by p.pairs) rs)
  some_written first next before now rs h =
      subst (λ (z : Plan). AreSome z (stored (allowed_by p.pairs) rs)) (sym same_plan) (history_is_of_plan p rs h.ascend h.listed)
