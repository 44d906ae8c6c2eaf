-- The least front.
use Rattle.std.specs.Option.{option_copied}
use Rattle.std.proofs.Common.{Bor, IfNone, IfSome, ◌≤◌, ◌≡◌, ◌≢◌, ℕ, ◌+◌, ◌<◌, ◌⊎◌, true, false, List, Option, Some, None, length, slice_get, sym, ap, ◌∙◌, arith, ⊎_elim, subst}
use Rattle.std.proofs.lemmas.Bool.{cases_Bool, true≢false}
use Rattle.std.proofs.lemmas.Option.{slice_get_within}
use Rattle.vx_path.specs.Path.{path_le}
use Rattle.vx_path.proofs.Path.{path_le-trans, path_le-refl, not_le, lt_le}
use Rattle.vx_seats.specs.Fronts.{Fronts, NoneAhead, IsAhead, lesser, IsBest}

-- what stands at place i of the others' fronts
abbrev pub IsAt : Fronts → ℕ → ℕ → Option (List ℕ) → Type 0
IsAt fronts c i None = (i ≡ c) ⊎ (slice_get fronts i ≡ Some None)
IsAt fronts c i (Some q) = (i ≢ c) × (slice_get fronts i ≡ Some (Some q))

below_or_at : (k i : ℕ) → k < i + 1 → (k < i) ⊎ (k ≡ i)
below_or_at k i h = grind (arith)

some_eq : {A : Type 0} (x y : A) → Some x ≡ Some y → x ≡ y
some_eq x y e = ap (λ o. elim o [ Some a ↦ a | None ↦ x ]) e

not_both : (q : List ℕ) (o : Option (Option (List ℕ))) → o ≡ Some None → o ≡ Some (Some q) → ⊥
not_both q o a b = let e = some_eq None (Some q) (sym a ∙ b) in absurd (true≢false (ap (λ (o : Option (List ℕ)). elim o [ Some a ↦ false | None ↦ true ]) e))

pub best_more : (fronts : Fronts) (c i : ℕ) (best f : Option (List ℕ)) → IsBest fronts c i best → IsAt fronts c i f → IsBest fronts c (i + 1) (lesser best f)
best_more fronts c i None None h at =
    λ k q l n e. ⊎_elim (λ b. h k q b n e)
    (λ s. ⊎_elim (λ same. absurd (n (s ∙ same))) (λ none. not_both q (slice_get fronts k) (ap (slice_get fronts) s ∙ none) e) at) (below_or_at k i l)
best_more fronts c i None (Some g) h at = (
  (i, at.0, at.1),
  λ k q l n e. ⊎_elim (λ b. absurd (h k q b n e))
      (λ s. let same = some_eq g q (some_eq (Some g) (Some q) (sym at.1 ∙ ap (slice_get fronts) (sym s) ∙ e)) in subst (λ (x : List ℕ). path_le g x ≡ true) same (path_le-refl g)) (below_or_at k i l),
)
best_more fronts c i (Some p) None h at = (
  h.0,
  λ k q l n e. ⊎_elim (λ b. h.1 k q b n e)
      (λ s. ⊎_elim (λ same. absurd (n (s ∙ same))) (λ none. absurd (not_both q (slice_get fronts k) (ap (slice_get fronts) s ∙ none) e)) at) (below_or_at k i l),
)
best_more fronts c i (Some p) (Some g) h at = ⊎_elim
    (λ t. rw t (
      h.0,
      λ k q l n e. ⊎_elim (λ b. h.1 k q b n e)
          (λ s. let same = some_eq g q (some_eq (Some g) (Some q) (sym at.1 ∙ ap (slice_get fronts) (sym s) ∙ e)) in subst (λ (x : List ℕ). path_le p x ≡ true) same t) (below_or_at k i l),
    ))
    (λ f. rw f (
      (i, at.0, at.1),
      λ k q l n e. ⊎_elim (λ b. path_le-trans g p q (lt_le g p (not_le g p f)) (h.1 k q b n e))
          (λ s. let same = some_eq g q (some_eq (Some g) (Some q) (sym at.1 ∙ ap (slice_get fronts) (sym s) ∙ e)) in subst (λ (x : List ℕ). path_le g x ≡ true) same (path_le-refl g)) (below_or_at k i l),
    ))
    (cases_Bool (path_le p g))

pub best_none : (fronts : Fronts) (c i : ℕ) (path : List ℕ) (best : Option (List ℕ)) → length fronts ≤ i → best ≡ None → IsBest fronts c i best → NoneAhead fronts c path
best_none fronts c i path best all e h q o =
    let h' : IsBest fronts c i None = subst (IsBest fronts c i) e h in
    absurd (h' o.0 q (omega (arith, all, slice_get_within fronts o.0 (Some q) o.2)) o.1 o.2)

pub best_not_ahead : (fronts : Fronts) (c i : ℕ) (path b : List ℕ) (best : Option (List ℕ)) → length fronts ≤ i → best ≡ Some b → IsBest fronts c i best
    → path_le path b ≡ true → NoneAhead fronts c path
best_not_ahead fronts c i path b best all e h t q o =
    let h' : IsBest fronts c i (Some b) = subst (IsBest fronts c i) e h in
    path_le-trans path b q t (h'.1 o.0 q (omega (arith, all, slice_get_within fronts o.0 (Some q) o.2)) o.1 o.2)

pub best_ahead : (fronts : Fronts) (c i : ℕ) (path b : List ℕ) (best : Option (List ℕ)) → length fronts ≤ i → best ≡ Some b → IsBest fronts c i best
    → path_le path b ≡ false → IsAhead fronts c path b
best_ahead fronts c i path b best all e h f =
    let h' : IsBest fronts c i (Some b) = subst (IsBest fronts c i) e h in
    record { other = h'.0; below = not_le b path f; least = λ r o. h'.1 o.0 r (omega (arith, all, slice_get_within fronts o.0 (Some r) o.2)) o.1 o.2 }

pub is_at : (fronts : Fronts) (c i : ℕ) (r : Option (Bor (List ℕ))) → IfNone r ((i ≡ c) ⊎ (slice_get fronts i ≡ Some None))
    → IfSome r (λ q. (i ≢ c) × (slice_get fronts i ≡ Some (Some q.now))) → IsAt fronts c i (option_copied r)
is_at fronts c i None n s = n
is_at fronts c i (Some q) n s = s

pub if_none : {A : Type 0} (X : Type 0) (o : Option A) → X → IfNone o X
if_none X None x = x
if_none X (Some a) x = tt
