-- A column's plan stands at its number, and is that of its chunks at the column's ids.
use Rattle.std.proofs.Common.{◌≡◌, ℕ, zero, suc, ◌+◌, Bool, List, [], ◌∷◌, length, Some, slice_get, refl, ap, ap₂, ◌∙◌, arith}
use Rattle.vx_model.specs.Ty.{Tys}
use Rattle.vx_model.specs.ChunkData.{ChunkData}
use Rattle.vx_path.specs.Path.{Eof, inside, next, root_eof, under}
use Rattle.vx_rules.specs.Flushes.{chunk_pieces}
use Rattle.vx_rules.specs.Columns.{Split, struct_splits, column, other_columns, head_piece}
use Rattle.vx_react.specs.Statements.{columns_after}
use Rattle.vx_named_tasks.specs.Names.{handed, column_names}
use Rattle.vx_plan.specs.PlanData.{Setting, Item, Plan}
use Rattle.vx_plan.specs.SourcePlan.{plan, batch_items}
use Rattle.vx_machine_turns.specs.Source.{named_items}
use Rattle.vx_column_plan.specs.Columns.{Column, plans_of}
use Rattle.vx_own_plans.specs.OwnPlans.{ColumnsWriteTheirOwn}

-- ---- where a column's plan stands

-- k eof paths further on
abbrev after : ℕ → Eof → Eof
after zero e = e
after (suc k) e = after k (next e)

after_is : (k : ℕ) (e : Eof) → after k e ≡ record { stem = e.stem; last = e.last + k }
after_is zero e = ap (λ n. record { stem = e.stem; last = n }) (let z : e.last ≡ e.last + 0 = omega arith in z)
after_is (suc k) e = after_is k (next e) ∙ ap (λ n. record { stem = e.stem; last = n }) (let z : (e.last + 1) + k ≡ e.last + suc k = omega arith in z)

-- the plan of a column whose number is n
abbrev written_at : Setting → Column → ℕ → List Split → Bool → Eof → Plan
written_at s c n xs ended e = plan s c.way c.type c.mark (column n xs) ended (inside e)

stands : (s : Setting) (ks : List Column) (k n : ℕ) (c : Column) (xs : List Split) (ended : Bool) (e : Eof) → slice_get ks k ≡ Some c
    → slice_get (plans_of s ks n xs ended e) k ≡ Some (written_at s c (n + k) (columns_after k xs) ended (after k e))
stands s [] k n c xs ended e h = cc
stands s (c ∷ ks) zero n d xs ended e h =
    let same : c ≡ d = cc in
    let here : n ≡ n + 0 = omega arith in
    ap₂ (λ (x : Column) (m : ℕ). Some (written_at s x m xs ended e)) same here
stands s (c ∷ ks) (suc k) n d xs ended e h =
    let there : suc n + k ≡ n + suc k = omega arith in
    stands s ks k (suc n) d (other_columns xs) ended (next e) h
    ∙ ap (λ m. Some (written_at s d m (columns_after k (other_columns xs)) ended (after k (next e)))) there

-- ---- its stream

-- the batches behind the first i stand at [0, i], [0, i + 1], ..
abbrev AtBatches : ℕ → List Split → Type 0
AtBatches i [] = Unit {0}
AtBatches i (x ∷ xs) = (x.0 ≡ 0 ∷ i ∷ []) × AtBatches (suc i) xs

splits_at : (fs : Tys) (n : Bool) (i : ℕ) (bs : List ChunkData) → AtBatches i (struct_splits fs n (batch_items i bs))
splits_at fs n i [] = tt
splits_at fs n i (b ∷ bs) = (refl, splits_at fs n (suc i) bs)

others_at : (i : ℕ) (xs : List Split) → AtBatches i xs → AtBatches i (other_columns xs)
others_at i [] h = tt
others_at i (x ∷ xs) h = (h.0, others_at (suc i) xs h.1)

after_at : (k i : ℕ) (xs : List Split) → AtBatches i xs → AtBatches i (columns_after k xs)
after_at zero i xs h = h
after_at (suc k) i xs h = after_at k i (other_columns xs) (others_at i xs h)

-- it is that of its chunks, at these ids
column_is : (k i : ℕ) (xs : List Split) → AtBatches i xs → column k xs ≡ named_items (handed (column_names k i (length (chunk_pieces (column k xs))))) (chunk_pieces (column k xs))
column_is k i [] h = refl
column_is k i (x ∷ xs) h = ap₂ (λ (p : List ℕ) (is : List Item). (under p k, head_piece x.1) ∷ is) h.0 (column_is k (suc i) xs h.1)

-- ---- it has a chunk a batch

column_long : (k : ℕ) (xs : List Split) → length (chunk_pieces (column k xs)) ≡ length xs
column_long k [] = refl
column_long k (x ∷ xs) = ap suc (column_long k xs)

others_long : (xs : List Split) → length (other_columns xs) ≡ length xs
others_long [] = refl
others_long (x ∷ xs) = ap suc (others_long xs)

after_long : (k : ℕ) (xs : List Split) → length (columns_after k xs) ≡ length xs
after_long zero xs = refl
after_long (suc k) xs = after_long k (other_columns xs) ∙ others_long xs

splits_long : (fs : Tys) (n : Bool) (i : ℕ) (bs : List ChunkData) → length (struct_splits fs n (batch_items i bs)) ≡ length bs
splits_long fs n i [] = refl
splits_long fs n i (b ∷ bs) = ap suc (splits_long fs n (suc i) bs)

pub columns_write_their_own : ColumnsWriteTheirOwn
columns_write_their_own s ks k c fs n bs ended h =
    let xs : List Split = struct_splits fs n (batch_items 0 bs) in
    let first : 0 + k ≡ k = omega arith in
    record {
      at = stands s ks k 0 c xs ended root_eof h
          ∙ ap (λ m. Some (written_at s c m (columns_after k xs) ended (after k root_eof))) first
          ∙ ap₂ (λ (is : List Item) (e : Eof). Some (plan s c.way c.type c.mark is ended (inside e))) (column_is k 0 (columns_after k xs) (after_at k 0 xs (splits_at fs n 0 bs))) (after_is k root_eof);
      as_many = column_long k (columns_after k xs) ∙ after_long k xs ∙ splits_long fs n 0 bs;
    }
