-- Rows are counted batch by batch.
use Rattle.std.proofs.Common.{◌≡◌, ℕ, suc, ◌+◌, ◌^◌, ◌<◌, ◌≤◌, List, [], ◌∷◌, ◌++◌, length, get_or, drop, inl, inr, sym, ap, subst, ◌∙◌, arith}
use Rattle.std.proofs.lemmas.List.{drop_more, drop_all}
use Rattle.vx_model.specs.ChunkData.{ChunkData, cells}
use Rattle.vx_path.specs.Lists.{In}
use Rattle.vx_plan.specs.PlanData.{Item, rows_in, row_total, totals, row_totals}
use Rattle.vx_plan.specs.SourcePlan.{batch_items}
use Rattle.vx_plan.specs.Valid.{Fit}
use Rattle.vx_plan.proofs.PlanLists.{fit_both}
use Rattle.vx_column_inputs.specs.Reading.{IsRowsPast}

-- n rows are in the first i batches
pub record Counted (bs : List ChunkData) (i n : ℕ) : Type 0 where
  pub total : n + row_total (batch_items i (drop i bs)) ≡ row_total (batch_items 0 bs)
  pub totals_are : (k : ℕ) → In k (totals rows_in n (batch_items i (drop i bs))) → In k (row_totals (batch_items 0 bs))

pub none_counted : (bs : List ChunkData) → Counted bs 0 0
none_counted bs = record { total = omega arith; totals_are = λ k h. h }

module _ (bs : List ChunkData) (i n : ℕ) (b : ChunkData) (lt : i < length bs) (is : b ≡ get_or bs i b) (h : Counted bs i n) where
  dropped : drop i bs ≡ b ∷ drop (i + 1) bs
  dropped = drop_more bs i b lt ∙ ap (λ x. x ∷ drop (i + 1) bs) (sym is)

  next_place : suc i ≡ i + 1
  next_place = omega arith

  pub counted_more : Counted bs (i + 1) (n + length (cells b))
  counted_more = record {
    total =
        let t : n + (length (cells b) + row_total (batch_items (suc i) (drop (i + 1) bs))) ≡ row_total (batch_items 0 bs) = subst (λ xs. n + row_total (batch_items i xs) ≡ row_total (batch_items 0 bs)) dropped h.total in
        subst (λ j. (n + length (cells b)) + row_total (batch_items j (drop (i + 1) bs)) ≡ row_total (batch_items 0 bs)) next_place (omega (arith, t));
    totals_are = λ k g. subst (λ xs. In k (totals rows_in n (batch_items i xs)) → In k (row_totals (batch_items 0 bs))) dropped (h.totals_are k)
        (inr (subst (λ j. In k (totals rows_in (n + length (cells b)) (batch_items j (drop (i + 1) bs)))) (sym next_place) g));
  }

  -- the batch's rows don't fit any more
  pub counted_past : (total : ℕ) → total ≡ n + length (cells b) → 2 ^ 64 ≤ total → IsRowsPast bs total
  counted_past total e past =
      (past, subst (λ xs. In total (totals rows_in n (batch_items i xs)) → In total (row_totals (batch_items 0 bs))) dropped (h.totals_are total) (inl e))

pub all_counted : (bs : List ChunkData) (i n : ℕ) → length bs ≤ i → Counted bs i n → n ≡ row_total (batch_items 0 bs)
all_counted bs i n le h =
    let t : n + 0 ≡ row_total (batch_items 0 bs) = subst (λ xs. n + row_total (batch_items i xs) ≡ row_total (batch_items 0 bs)) (drop_all i bs le) h.total in
    omega (arith, t)

-- totals fit where their last does
totals_fit : (items : List Item) (n : ℕ) → n + row_total items < 2 ^ 64 → Fit (totals rows_in n items)
totals_fit [] n h = tt
totals_fit (i ∷ is) n h = (omega (arith, h), totals_fit is (n + rows_in i.1) (omega (arith, h)))

-- what a struct's node itself counts
pub counts_fit : (bs : List ChunkData) (rows count : ℕ) → rows ≡ row_total (batch_items 0 bs) → rows < 2 ^ 64 → length bs < 2 ^ 64 → count < 2 ^ 63
    → Fit (length bs ∷ (row_totals (batch_items 0 bs) ++ (count ∷ (1 + count) ∷ [])))
counts_fit bs rows count e r l c =
    (l, fit_both (row_totals (batch_items 0 bs)) (count ∷ (1 + count) ∷ []) (totals_fit (batch_items 0 bs) 0 (omega (arith, e, r))) (omega (arith, c), (omega (arith, c), tt)))
