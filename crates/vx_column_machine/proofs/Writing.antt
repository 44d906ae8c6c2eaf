-- What a step wrote: nothing, or one segment, at the least path that is held.
use Rattle.std.proofs.Common.{◌≡◌, ◌∷◌, ◌++◌, ◌∙◌, ℕ, true, List, map, length, refl, sym, ap, subst, inl, inr, arith, Option, Some, None, is_some, []}
use Rattle.std.specs.FinMap as fin
use Rattle.std.specs.Global.{Vec}
use Rattle.std.proofs.lemmas.Bool.{true≢false}
use Rattle.vx_path.specs.Lists.{In}
use Rattle.vx_path.specs.Path.{path_le, is_least}
use Rattle.vx_path.proofs.Path.{path_le-antisym}
use Rattle.vx_sequence.specs.Universe.{path_cmp, Active, IsActive, IsLeast}
use Rattle.vx_tasks.specs.Rules.{AtLeast}
use Rattle.vx_order.specs.Outlet.{Outlet, own, shared}
use Rattle.vx_plan.specs.PlanData.{Pair}
use Rattle.vx_desk.specs.DeskView.{segments_in}
use Rattle.vx_machine_ids.specs.Balance.{Exact}
use Rattle.vx_machine_view.specs.Machine.{machine_ids}
use Rattle.vx_machine_view.proofs.Words.{and_left, and_right}
use Rattle.vx_machine.specs.Acting.{Behind}
use Rattle.vx_machine.specs.declared.machine.Machine.{Machine}
use Rattle.vx_machine.specs.View.{machine_of}
use Rattle.vx_machine.specs.Whole.{machine_stock}
use Rattle.vx_machine.proofs.HeldViews.{is_held, is_active}
use Rattle.vx_least_writes.specs.LeastWrites.{WritesLeast}
use Rattle.vx_column_machine.proofs.Leading.{outlet, cons_none}

-- ---- what is kept then

abbrev kept_in : Outlet → Option (List (List ℕ))
kept_in (own s) = s.segments
kept_in (shared s) = None

pub kept_wrote : (written written_now : ℕ) (kept kept_now : List (List ℕ)) (number : ℕ) (all : List (List ℕ)) (wrote : List Pair) → WritesLeast all wrote
    → Behind (outlet written kept) number wrote (outlet written_now kept_now) → kept ≡ [] → kept_now ≡ map (λ (p : Pair). p.1) wrote
kept_wrote written written_now kept kept_now number all [] w b e = same (ap kept_in b) ∙ e
  where
    same : Some kept_now ≡ Some kept → kept_now ≡ kept
    same f = cc
kept_wrote written written_now kept kept_now number all (p ∷ []) w b e = same b.written.1 ∙ ap (λ z. z ++ (p.1 ∷ [])) e
  where
    same : Some kept_now ≡ Some (kept ++ (p.1 ∷ [])) → kept_now ≡ kept ++ (p.1 ∷ [])
    same f = cc
kept_wrote written written_now kept kept_now number all (p ∷ q ∷ ps) w b e = absurd w

-- ---- what is taken of it

segments_some : (rest : List (Vec ℕ)) (v : Vec ℕ) → segments_in (rest ++ (v ∷ [])) ≡ [] → ⊥
segments_some [] v e = cons_none v.items [] e
segments_some (r ∷ rest) v e = cons_none r.items (segments_in (rest ++ (v ∷ []))) e

pub taken_one : (all : List (List ℕ)) (wrote : List Pair) (vs rest : List (Vec ℕ)) (v : Vec ℕ) → WritesLeast all wrote → segments_in vs ≡ map (λ (p : Pair). p.1) wrote → vs ≡ rest ++ (v ∷ [])
    → (p : Pair) × (wrote ≡ p ∷ []) × (v.items ≡ p.1)
taken_one all [] vs rest v w e k = absurd (segments_some rest v (ap segments_in (sym k) ∙ e))
taken_one all (p ∷ []) vs [] v w e k = (p, refl, same (ap segments_in (sym k) ∙ e))
  where
    same : v.items ∷ [] ≡ p.1 ∷ [] → v.items ≡ p.1
    same f = cc
taken_one all (p ∷ []) vs (r ∷ rest) v w e k = absurd (segments_some rest v (same (ap segments_in (sym k) ∙ e)))
  where
    same : r.items ∷ segments_in (rest ++ (v ∷ [])) ≡ p.1 ∷ [] → segments_in (rest ++ (v ∷ [])) ≡ []
    same f = cc
taken_one all (p ∷ q ∷ ps) vs rest v w e k = absurd w

pub taken_none : (wrote : List Pair) (vs : List (Vec ℕ)) → segments_in vs ≡ map (λ (p : Pair). p.1) wrote → length vs ≡ 0 → wrote ≡ []
taken_none [] vs e n = refl
taken_none (p ∷ ps) [] e n = absurd (cons_none p.1 (map (λ (p : Pair). p.1) ps) (sym e))
taken_none (p ∷ ps) (v ∷ vs) e n = absurd (omega (arith, n))

-- ---- where it was written

least_in : (p : List ℕ) (ps : List (List ℕ)) (q : List ℕ) → is_least p ps ≡ true → In q ps → path_le p q ≡ true
least_in p [] q l i = absurd i
least_in p (r ∷ ps) q l (inl e) = ap (path_le p) e ∙ and_left (path_le p r) (is_least p ps) l
least_in p (r ∷ ps) q l (inr i) = least_in p ps q (and_right (path_le p r) (is_least p ps) l) i

-- the least path that is active
pub least_is : (u : Active) (m : Machine) → Exact u (machine_stock m) → (l : List ℕ) (p : Pair) → IsActive u l → IsLeast u l → AtLeast (machine_ids (machine_of m)) p.0
    → is_least p.0 (machine_ids (machine_of m)) ≡ true → l ≡ p.0
least_is u m exact l p active least (y, i, le) writes =
    let same : y ≡ p.0 = path_le-antisym y p.0 le (least_in p.0 (machine_ids (machine_of m)) y writes i) in
    path_le-antisym l p.0 (subst (λ z. path_le l z ≡ true) same (least y (is_active u m exact y i))) (least_in p.0 (machine_ids (machine_of m)) l writes (is_held u m exact l active))

-- where no path is active none is held
pub none_held : (u : Active) (m : Machine) → Exact u (machine_stock m) → u ≡ fin.empty → (p : List ℕ) → AtLeast (machine_ids (machine_of m)) p → ⊥
none_held u m exact none p (y, i, le) = true≢false (sym (is_active u m exact y i) ∙ ap (λ z. fin.contains_key z y) none ∙ ap is_some (fin.get-empty path_cmp y))
