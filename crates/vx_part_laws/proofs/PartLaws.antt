-- A part of a universe is active exactly where its ids and its pointer are held.
use Rattle.std.proofs.Common.{◌≡◌, ◌≢◌, ℕ, ◌+◌, ◌≤◌, Bool, true, false, List, [], ◌∷◌, ◌++◌, Option, Some, None, is_some, unwrap_or, refl, sym, ap, subst, ◌∙◌, ⊎_elim, arith}
use Rattle.std.specs.FinMap as map
use Rattle.vx_path.specs.Path.{Eof, eof_path}
use Rattle.vx_sequence.specs.Universe.{Active, IsActive, IsOpen, released}
use Rattle.vx_sequence.specs.Part.{CanPart, left_of, parted}
use Rattle.vx_sequence.proofs.Sets.{one_path, same_refl, same_false, get-inserted, get-insert_other, none_active, not_empty, active_remove}
use Rattle.vx_machine_ids.specs.Stock.{held, same, one, none, both, id_stock, end_stock, ids_stock}
use Rattle.vx_machine_ids.specs.Balance.{active_at, Owned}
use Rattle.vx_machine_ids.proofs.Stocks.{none_both, both_assoc}
use Rattle.vx_machine_ids.proofs.MoveLaws.{moved_then, moved_as, moved_drop_first, owned_as, owned_left, owned_right, owned_rest}
use Rattle.vx_machine_ids.proofs.CallLaws.{released_moved, downgraded_moved, owned_active, owned_open, end_active}
use Rattle.vx_part_laws.specs.Parts.{stock_of, paths_of, HeldCanPart, PartIsExact, PartIsOwned, PartLeaves}

-- the first id apart from the rest
first_apart : (u : Active) (p : List ℕ) (ps : List (List ℕ)) (e : Eof) → Owned u (stock_of (p ∷ ps) e) → Owned u (both (id_stock p) (stock_of ps e))
first_apart u p ps e o = owned_as u (stock_of (p ∷ ps) e) (both (id_stock p) (stock_of ps e)) (both_assoc (id_stock p) (ids_stock ps) (end_stock e)) o

first_active : (u : Active) (p : List ℕ) (ps : List (List ℕ)) (e : Eof) → Owned u (stock_of (p ∷ ps) e) → IsActive u p
first_active u p ps e o = owned_active u p (owned_left u (id_stock p) (stock_of ps e) (first_apart u p ps e o))

later_owned : (u : Active) (p : List ℕ) (ps : List (List ℕ)) (e : Eof) → Owned u (stock_of (p ∷ ps) e) → Owned (released u p) (stock_of ps e)
later_owned u p ps e o = owned_rest u (released u p) (id_stock p) (stock_of ps e) (first_apart u p ps e o) (released_moved u p (first_active u p ps e o))

eof_owned : (u : Active) (ids : List (List ℕ)) (e : Eof) → Owned u (stock_of ids e) → Owned u (end_stock e)
eof_owned u ids e o = owned_right u (ids_stock ids) (end_stock e) o

pub held_can_part : HeldCanPart
held_can_part u [] e o = (end_active u e (eof_owned u [] e o), tt)
held_can_part u (p ∷ ps) e o = (first_active u p ps e o, held_can_part (released u p) ps e (later_owned u p ps e o))

pub part_leaves : PartLeaves
part_leaves u [] e o =
    moved_as u (released u (eof_path e)) (end_stock e) (stock_of [] e) none none (sym (none_both (end_stock e))) refl
    (downgraded_moved u e (end_active u e (eof_owned u [] e o)))
part_leaves u (p ∷ ps) e o =
    let v : Active = released u p in
    let w : Active = left_of v (paths_of ps e) in
    moved_as u w (both (id_stock p) (stock_of ps e)) (stock_of (p ∷ ps) e) none none (sym (both_assoc (id_stock p) (ids_stock ps) (end_stock e))) refl
    (moved_then u v w (both (id_stock p) (stock_of ps e)) (stock_of ps e) none
    (moved_drop_first u v (id_stock p) (stock_of ps e) (first_apart u p ps e o) (released_moved u p (first_active u p ps e o)))
    (part_leaves v ps e (later_owned u p ps e o)))

-- ---- the part

-- how often a path stands in a list
abbrev count : List (List ℕ) → List ℕ → ℕ
count [] p = 0
count (q ∷ qs) p = one (same p q) + count qs p

held_count : (ids : List (List ℕ)) (e : Eof) (p : List ℕ) → held (stock_of ids e) p ≡ count (paths_of ids e) p
held_count [] e p = omega arith
held_count (q ∷ qs) e p = let h : held (stock_of qs e) p ≡ count (paths_of qs e) p = held_count qs e p in omega (arith, h)

one_same : (p q : List ℕ) → p ≡ q → one (same p q) ≡ 1
one_same p q e = ap one (subst (λ r. same p r ≡ true) e (same_refl p))

one_other : (p q : List ℕ) → p ≢ q → one (same p q) ≡ 0
one_other p q n = ap one (same_false p q n)

marked_at : (v : Active) (p : List ℕ) (o : Option Bool) → map.get v p ≡ o → active_at v p ≡ one (is_some o)
marked_at v p o e = ap (λ z. one (is_some z)) e

inserted_at : (v : Active) (q : List ℕ) (b : Bool) (p : List ℕ) → map.get v q ≡ None → active_at (map.insert v q b) p ≡ active_at v p + one (same p q)
inserted_at v q b p f = ⊎_elim
    (λ e. omega (arith, one_same p q e, marked_at v p None (ap (map.get v) e ∙ f), marked_at (map.insert v q b) p (Some b) (ap (map.get (map.insert v q b)) e ∙ get-inserted v q b)))
    (λ n. omega (arith, one_other p q n, marked_at (map.insert v q b) p (map.get v p) (get-insert_other v q b p n)))
    (one_path p q)

part_counts : (u w v : Active) (ps : List (List ℕ)) (p : List ℕ) → CanPart w ps → ((x : List ℕ) → IsActive w x → map.get v x ≡ None)
    → active_at (parted u v ps) p ≡ active_at v p + count ps p
part_counts u w v [] p c f = omega arith
part_counts u w v (q ∷ qs) p c f =
    let b : Bool = unwrap_or (map.get u q) false in
    let more : active_at (parted u (map.insert v q b) qs) p ≡ active_at (map.insert v q b) p + count qs p
    = part_counts u (released w q) (map.insert v q b) qs p c.1 (λ x a. let r : (x ≢ q) × IsActive w x = active_remove w q x a in get-insert_other v q b x r.0 ∙ f x r.1) in
    omega (arith, more, inserted_at v q b p (f q c.0))

empty_at : (p : List ℕ) → active_at map.empty p ≡ 0
empty_at p = marked_at map.empty p None (none_active map.empty p (not_empty p))

pub part_is_exact : PartIsExact
part_is_exact u ids e c p =
    let h : active_at (parted u map.empty (paths_of ids e)) p ≡ active_at map.empty p + count (paths_of ids e) p
    = part_counts u u map.empty (paths_of ids e) p c (λ x a. none_active map.empty x (not_empty x)) in
    omega (arith, h, empty_at p, held_count ids e p)

-- the pointer's path stays open
parted_more : (u v : Active) (ps : List (List ℕ)) (p : List ℕ) → parted u v (ps ++ p ∷ []) ≡ map.insert (parted u v ps) p (unwrap_or (map.get u p) false)
parted_more u v [] p = refl
parted_more u v (r ∷ ps) p = parted_more u (map.insert v r (unwrap_or (map.get u r) false)) ps p

eof_open : (u : Active) (ids : List (List ℕ)) (e : Eof) → Owned u (stock_of ids e) → IsOpen (parted u map.empty (paths_of ids e)) (eof_path e)
eof_open u ids e o =
    ap (λ v. map.get v (eof_path e)) (parted_more u map.empty ids (eof_path e))
    ∙ get-inserted (parted u map.empty ids) (eof_path e) (unwrap_or (map.get u (eof_path e)) false)
    ∙ ap (λ z. Some (unwrap_or z false)) (owned_open u e (eof_owned u ids e o))

no_ends : (ids : List (List ℕ)) (p : List ℕ) → (ids_stock ids).ends p ≡ 0
no_ends [] p = refl
no_ends (q ∷ qs) p = let h : (ids_stock qs).ends p ≡ 0 = no_ends qs p in omega (arith, h)

is_eof : (ids : List (List ℕ)) (e : Eof) (p : List ℕ) → 1 ≤ (stock_of ids e).ends p → p ≡ eof_path e
is_eof ids e p h = ⊎_elim (λ g. g) (λ n. absurd (omega (arith, h, no_ends ids p, one_other p (eof_path e) n))) (one_path p (eof_path e))

pub part_is_owned : PartIsOwned
part_is_owned u ids e o = record {
  within = λ p. omega (arith, part_is_exact u ids e (held_can_part u ids e o) p);
  opened = λ p h. subst (λ z. IsOpen (parted u map.empty (paths_of ids e)) z) (sym (is_eof ids e p h)) (eof_open u ids e o);
}
