-- What is active, and what is open, after a path is put in or taken out.
use Rattle.std.proofs.Common.{◌≡◌, ◌≢◌, ℕ, ◌⊎◌, Bool, true, false, cond, List, Option, Some, None, is_some, refl, sym, ap, subst, ◌∙◌, inl, inr, ⊎_elim}
use Rattle.std.proofs.lemmas.Bool.{cases_Bool, true≢false}
use Rattle.std.specs.FinMap as map
use Rattle.std.specs.Cmp.Lexicographic.{nat_list_cmp_total, texts_ties, bytes_decides}
use Rattle.std.specs.Ordering.{eq_by_cmp}
use Rattle.vx_sequence.specs.Universe.{path_cmp, Active, IsActive, IsOpen}

-- the test that keys are compared by
abbrev pub same : List ℕ → List ℕ → Bool
same p q = eq_by_cmp path_cmp p q

pub same_true : (p q : List ℕ) → same p q ≡ true → p ≡ q
same_true p q h = (bytes_decides p q).0 (texts_ties p q ∙ h)

pub same_refl : (p : List ℕ) → same p p ≡ true
same_refl p = sym (texts_ties p p) ∙ (bytes_decides p p).1 refl

pub same_false : (p q : List ℕ) → p ≢ q → same p q ≡ false
same_false p q n = ⊎_elim (λ t. absurd (n (same_true p q t))) (λ f. f) (cases_Bool (same p q))

pub one_path : (p q : List ℕ) → (p ≡ q) ⊎ (p ≢ q)
one_path p q = ⊎_elim
    (λ t. inl (same_true p q t))
    (λ f. inr (λ e. true≢false (sym (subst (λ r. same p r ≡ true) e (same_refl p)) ∙ f)))
    (cases_Bool (same p q))

pub other_way : (p q : List ℕ) → same p q ≡ false → same q p ≡ false
other_way p q f = same_false q p (λ e. true≢false (sym (subst (λ r. same p r ≡ true) (sym e) (same_refl p)) ∙ f))

pub get-inserted : (u : Active) (p : List ℕ) (b : Bool) → map.get (map.insert u p b) p ≡ Some b
get-inserted u p b = map.get-insert nat_list_cmp_total u p b p ∙ ap (λ t. cond t (Some b) (map.get u p)) (same_refl p)

pub get-insert_other : (u : Active) (p : List ℕ) (b : Bool) (q : List ℕ) → q ≢ p → map.get (map.insert u p b) q ≡ map.get u q
get-insert_other u p b q n = map.get-insert nat_list_cmp_total u p b q ∙ ap (λ t. cond t (Some b) (map.get u q)) (same_false q p n)

pub get-removed : (u : Active) (p : List ℕ) → map.get (map.remove u p) p ≡ None
get-removed u p = map.get-remove nat_list_cmp_total u p p ∙ ap (λ t. cond t None (map.get u p)) (same_refl p)

pub get-remove_other : (u : Active) (p q : List ℕ) → q ≢ p → map.get (map.remove u p) q ≡ map.get u q
get-remove_other u p q n = map.get-remove nat_list_cmp_total u p q ∙ ap (λ t. cond t None (map.get u q)) (same_false q p n)

-- two sets with the same paths and marks are one
pub same_active : (u v : Active) → ((q : List ℕ) → map.get u q ≡ map.get v q) → u ≡ v
same_active u v f = map.same_map nat_list_cmp_total (map.slice_cmp-IsAntisymmetric map.nat_cmp-IsAntisymmetric) u v f

pub is_open_active : (u : Active) (p : List ℕ) → IsOpen u p → IsActive u p
is_open_active u p h = ap is_some h

pub none_active : (u : Active) (p : List ℕ) → (IsActive u p → ⊥) → map.get u p ≡ None
none_active u p n = go (map.get u p) n
  where
    go : (o : Option Bool) → (is_some o ≡ true → ⊥) → o ≡ None
    go None n = refl
    go (Some b) n = absurd (n refl)

pub not_empty : (p : List ℕ) → IsActive map.empty p → ⊥
not_empty p h = true≢false (sym h ∙ ap is_some (map.get-empty path_cmp p))

pub is_inserted : (u : Active) (p : List ℕ) (b : Bool) → IsActive (map.insert u p b) p
is_inserted u p b = ap is_some (get-inserted u p b)

pub is_active_more : (u : Active) (p : List ℕ) (b : Bool) (q : List ℕ) → IsActive u q → IsActive (map.insert u p b) q
is_active_more u p b q h = ⊎_elim
    (λ e. subst (λ r. IsActive (map.insert u p b) r) (sym e) (is_inserted u p b))
    (λ n. ap is_some (get-insert_other u p b q n) ∙ h)
    (one_path q p)

pub active_insert : (u : Active) (p : List ℕ) (b : Bool) (q : List ℕ) → IsActive (map.insert u p b) q → (q ≡ p) ⊎ IsActive u q
active_insert u p b q h = ⊎_elim (λ e. inl e) (λ n. inr (sym (ap is_some (get-insert_other u p b q n)) ∙ h)) (one_path q p)

same_mark : (a b : Bool) → Some a ≡ Some b → a ≡ b
same_mark a b e = cc

pub open_insert : (u : Active) (p : List ℕ) (b : Bool) (q : List ℕ) → IsOpen (map.insert u p b) q
    → ((q ≡ p) × (b ≡ true)) ⊎ ((q ≢ p) × IsOpen u q)
open_insert u p b q h = ⊎_elim
    (λ e. inl (e, same_mark b true (sym (get-inserted u p b) ∙ subst (λ r. map.get (map.insert u p b) r ≡ Some true) e h)))
    (λ n. inr (n, sym (get-insert_other u p b q n) ∙ h))
    (one_path q p)

pub active_remove : (u : Active) (p q : List ℕ) → IsActive (map.remove u p) q → (q ≢ p) × IsActive u q
active_remove u p q h = ⊎_elim
    (λ e. absurd (true≢false (sym h ∙ ap (λ r. is_some (map.get (map.remove u p) r)) e ∙ ap is_some (get-removed u p))))
    (λ n. (n, sym (ap is_some (get-remove_other u p q n)) ∙ h))
    (one_path q p)

pub open_remove : (u : Active) (p q : List ℕ) → IsOpen (map.remove u p) q → (q ≢ p) × IsOpen u q
open_remove u p q h =
    let a : (q ≢ p) × IsActive u q = active_remove u p q (ap is_some h) in (a.0, sym (get-remove_other u p q a.0) ∙ h)
