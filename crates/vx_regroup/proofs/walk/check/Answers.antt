use Rattle.std.proofs.Common.{◌≡◌, ℕ, ◌<◌, ◌≤◌, ◌-◌, ◌+◌, ◌*◌, ◌/◌, ◌^◌, List, length, take, drop, inl, inr, arith, sym, subst, ap, ◌∙◌}
use Rattle.std.specs.Prelude.{min}
use Rattle.vx_model.specs.Words.{total_by}
use Rattle.vx_model.specs.CellData.{CellData, cell_size as size_of}
use Rattle.vx_model.specs.Ty.{Ty}
use Rattle.vx_model.specs.TyView.{ty}
use Rattle.vx_column.specs.ColumnView.{column_cells}
use Rattle.vx_regroup.specs.Walks.{Stands, sizes_with}
use Rattle.vx_regroup.proofs.WalkSteps.{window_total, goes_on, cuts, left_fits, no_cut, one_cut, past_no_cut, past_one_cut, past_point, size_within}
use Rattle.vx_regroup.proofs.walk.check.Goals as goal
use Rattle.vx_regroup.proofs.walk.check.Goals.{then-rows-len-via-then-rows-len, then-rows-len-via-else-rows-len+then-total-from-2}

-- what was summed up is the size of the rows from the last cut
summed : (t : Ty) (rows : List CellData) (sizes : List ℕ) (cut seen total point : ℕ) → Stands t rows sizes cut seen total → seen ≤ point
    → (added : ℕ) → added ≡ min (total_by (size_of t) (take (point - seen) (drop seen rows))) (2 ^ 128 - 1)
    → (all : ℕ) → all ≡ min (total + added) (2 ^ 128 - 1) → all ≡ min (total_by (size_of t) (take (point - cut) (drop cut rows))) (2 ^ 128 - 1)
summed t rows sizes cut seen total point s a added e all g =
    let w : total_by (size_of t) (take (point - cut) (drop cut rows)) ≡ total_by (size_of t) (take (seen - cut) (drop cut rows)) + total_by (size_of t) (take (point - seen) (drop seen rows)) = window_total (size_of t) rows cut seen point s.order a in
    let k : total ≡ total_by (size_of t) (take (seen - cut) (drop cut rows)) = s.summed in omega arith

pub returns-then-total-from-clause-refused : goal.returns-then-total-from-clause-refused
returns-then-total-from-clause-refused c =
    let h : c.saturating_add-total.result ≡ min (total_by (size_of (ty c.args.dtype.now)) (take (c.args.point - c.args.walk.now.cut) (drop c.args.walk.now.cut (column_cells c.args.column.now)))) (2 ^ 128 - 1)
    = summed _ _ _ _ _ _ _ c.requires.stands c.requires.order _ c.size_between-added.ensures _ (let k : c.saturating_add-total.result ≡ min (c.args.walk.now.total + c.size_between-added.result) (2 ^ 128 - 1) = omega arith in k) in
    past_point c.args.len c.args.minimum (ty c.args.dtype.now) (column_cells c.args.column.now) c.args.walk.now.cut c.args.point c.saturating_add-total.result h (omega arith)

module _ (t : Ty) (rows : List CellData) (sizes : List ℕ) (cut seen total point added all : ℕ)
    (s : Stands t rows sizes cut seen total) (a : seen ≤ point) (b : point ≤ length rows)
    (e : added ≡ min (total_by (size_of t) (take (point - seen) (drop seen rows))) (2 ^ 128 - 1))
    (g : all ≡ min (total + added) (2 ^ 128 - 1)) (fits : all < 2 ^ 64) where
  here : Stands t rows sizes cut point all
  here = goes_on t rows sizes cut seen total point s a b all (omega arith)

  left_is : (k left : ℕ) → cut ≤ k → k ≤ point → left ≡ min (total_by (size_of t) (take (point - k) (drop k rows))) (2 ^ 128 - 1)
      → (left < 2 ^ 64) × (left ≡ total_by (size_of t) (take (point - k) (drop k rows)))
  left_is k left x y z =
      let w : total_by (size_of t) (take (point - k) (drop k rows)) ≤ total_by (size_of t) (take (point - cut) (drop cut rows)) = left_fits (size_of t) rows cut k point x y in
      let h : Stands t rows sizes cut point all = here in
      let m : all ≡ total_by (size_of t) (take (point - cut) (drop cut rows)) = h.summed in (omega arith, omega arith)

pub returns-then-rows-len-clause-stands : goal.returns-then-rows-len-clause-stands
returns-then-rows-len-clause-stands c = here _ _ _ _ _ _ _ _ _ c.requires.stands c.requires.order c.requires.within c.size_between-added.ensures (omega arith) (omega arith)

pub returns-then-rows-len-clause-sizes : goal.returns-then-rows-len-clause-sizes
returns-then-rows-len-clause-sizes c =
    let h : Stands (ty c.args.dtype.now) (column_cells c.args.column.now) c.args.walk.now.sizes.items c.args.walk.now.cut c.args.point c.saturating_add-total.result
    = here _ _ _ _ _ _ _ _ _ c.requires.stands c.requires.order c.requires.within c.size_between-added.ensures (omega arith) (omega arith) in
    λ ps. no_cut c.args.len c.args.minimum (ty c.args.dtype.now) (column_cells c.args.column.now) c.args.walk.now.sizes.items c.args.walk.now.cut c.args.point c.saturating_add-total.result ps
    h.summed
    (elim c.then-rows-len.branch [ then-rows-len-via-then-rows-len w ↦ inl w.if-rows-len.true | then-rows-len-via-else-rows-len+then-total-from-2 w ↦ inr (let l : w.from-else-rows-len.result ≡ c.args.minimum = w.from-else-rows-len.ensures in let k : c.saturating_add-total.result < w.from-else-rows-len.result = w.if-total-from-2.true in omega arith) ])

pub returns-then-rows-len-clause-fits : goal.returns-then-rows-len-clause-fits
returns-then-rows-len-clause-fits c =
    let h : Stands (ty c.args.dtype.now) (column_cells c.args.column.now) c.args.walk.now.sizes.items c.args.walk.now.cut c.args.point c.saturating_add-total.result
    = here _ _ _ _ _ _ _ _ _ c.requires.stands c.requires.order c.requires.within c.size_between-added.ensures (omega arith) (omega arith) in
    λ ps. past_no_cut c.args.len c.args.minimum (ty c.args.dtype.now) (column_cells c.args.column.now) c.args.walk.now.cut c.args.point c.saturating_add-total.result ps
    h.summed (omega arith)
    (elim c.then-rows-len.branch [ then-rows-len-via-then-rows-len w ↦ inl w.if-rows-len.true | then-rows-len-via-else-rows-len+then-total-from-2 w ↦ inr (let l : w.from-else-rows-len.result ≡ c.args.minimum = w.from-else-rows-len.ensures in let k : c.saturating_add-total.result < w.from-else-rows-len.result = w.if-total-from-2.true in omega arith) ])

pub overflow_cast-walk-2 : goal.overflow_cast-walk-2
overflow_cast-walk-2 c =
    let h : (c.size_between-left.result < 2 ^ 64) × (c.size_between-left.result ≡ total_by (size_of (ty c.args.dtype.now)) (take (c.args.point - (c.args.walk.now.cut + c.args.len * ((c.args.point - c.args.walk.now.cut) / c.args.len))) (drop (c.args.walk.now.cut + c.args.len * ((c.args.point - c.args.walk.now.cut) / c.args.len)) (column_cells c.args.column.now))))
    = left_is _ _ _ _ _ _ _ _ c.saturating_add-total.result c.requires.stands c.requires.order c.requires.within c.size_between-added.ensures (omega arith) (omega arith) (c.args.walk.now.cut + c.args.len * ((c.args.point - c.args.walk.now.cut) / c.args.len)) c.size_between-left.result (omega arith)
    (size_within c.args.len c.args.point c.args.walk.now.cut (let s : c.args.walk.now.cut ≤ c.args.walk.now.seen = c.requires.stands.order in omega arith)) c.size_between-left.ensures in
    let k : c.size_between-left.result < 2 ^ 64 = h.0 in omega arith

pub returns-clause-stands : goal.returns-clause-stands
returns-clause-stands c =
    let h : (c.size_between-left.result < 2 ^ 64) × (c.size_between-left.result ≡ total_by (size_of (ty c.args.dtype.now)) (take (c.args.point - (c.args.walk.now.cut + c.args.len * ((c.args.point - c.args.walk.now.cut) / c.args.len))) (drop (c.args.walk.now.cut + c.args.len * ((c.args.point - c.args.walk.now.cut) / c.args.len)) (column_cells c.args.column.now))))
    = left_is _ _ _ _ _ _ _ _ c.saturating_add-total.result c.requires.stands c.requires.order c.requires.within c.size_between-added.ensures (omega arith) (omega arith) (c.args.walk.now.cut + c.args.len * ((c.args.point - c.args.walk.now.cut) / c.args.len)) c.size_between-left.result (omega arith)
    (size_within c.args.len c.args.point c.args.walk.now.cut (let s : c.args.walk.now.cut ≤ c.args.walk.now.seen = c.requires.stands.order in omega arith)) c.size_between-left.ensures in
    subst (λ z. Stands (ty c.args.dtype.now) (column_cells c.args.column.now) z (c.args.walk.now.cut + c.args.len * ((c.args.point - c.args.walk.now.cut) / c.args.len)) c.args.point c.size_between-left.result) (sym c.in_ok-push.ensures.items)
    (cuts (ty c.args.dtype.now) c.args.len (column_cells c.args.column.now) c.args.walk.now.sizes.items c.args.walk.now.cut c.saturating_add-total.result c.args.point c.size_between-left.result
    (here _ _ _ _ _ _ _ _ _ c.requires.stands c.requires.order c.requires.within c.size_between-added.ensures (omega arith) (omega arith)) h.1)

pub returns-clause-sizes : goal.returns-clause-sizes
returns-clause-sizes c =
    let h : Stands (ty c.args.dtype.now) (column_cells c.args.column.now) c.args.walk.now.sizes.items c.args.walk.now.cut c.args.point c.saturating_add-total.result
    = here _ _ _ _ _ _ _ _ _ c.requires.stands c.requires.order c.requires.within c.size_between-added.ensures (omega arith) (omega arith) in
    λ ps. ap (λ z. sizes_with c.args.len c.args.minimum (ty c.args.dtype.now) (column_cells c.args.column.now) z (c.args.walk.now.cut + c.args.len * ((c.args.point - c.args.walk.now.cut) / c.args.len)) ps) c.in_ok-push.ensures.items
    ∙ one_cut c.args.len c.args.minimum (ty c.args.dtype.now) (column_cells c.args.column.now) c.args.walk.now.sizes.items c.args.walk.now.cut c.args.point c.saturating_add-total.result ps
    h.summed c.if-rows-len.false (let l : c.from-else-rows-len.result ≡ c.args.minimum = c.from-else-rows-len.ensures in let k : c.from-else-rows-len.result ≤ c.saturating_add-total.result = c.if-total-from-2.false in omega arith)

pub returns-clause-fits : goal.returns-clause-fits
returns-clause-fits c =
    let h : Stands (ty c.args.dtype.now) (column_cells c.args.column.now) c.args.walk.now.sizes.items c.args.walk.now.cut c.args.point c.saturating_add-total.result
    = here _ _ _ _ _ _ _ _ _ c.requires.stands c.requires.order c.requires.within c.size_between-added.ensures (omega arith) (omega arith) in
    λ ps. past_one_cut c.args.len c.args.minimum (ty c.args.dtype.now) (column_cells c.args.column.now) c.args.walk.now.cut c.args.point c.saturating_add-total.result ps
    h.summed (omega arith) c.if-rows-len.false (let l : c.from-else-rows-len.result ≡ c.args.minimum = c.from-else-rows-len.ensures in let k : c.from-else-rows-len.result ≤ c.saturating_add-total.result = c.if-total-from-2.false in omega arith)
