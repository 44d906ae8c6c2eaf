-- One more entry of the history.
use Rattle.std.proofs.Common.{◌≡◌, ℕ, ◌+◌, ◌-◌, ◌==◌, ◌&&◌, Bool, true, false, List, [], ◌∷◌, ◌++◌, length, Option, Some, None, is_some, refl, sym, ap, ◌∙◌, suc, arith, append_assoc, slice_get, subst}
use Rattle.std.proofs.lemmas.List.{map_push}
use Rattle.std.specs.Cmp.Derive.{both_true}
use Rattle.std.proofs.lemmas.Bool.{true≢false}
use Rattle.vx_path.specs.Path.{path_le, path_lt}
use Rattle.vx_path.proofs.Path.{not_le}
use Rattle.vx_order_answer.specs.declared.receipt.Receipt.{Receipt}
use Rattle.vx_seats.specs.Turns.{IsLast, IsNew}
use Rattle.vx_fault.specs.Told.{then_told}
use Rattle.vx_seats.specs.History.{Pair, bytes_for, bytes_at, all_listed, ascends, paths, numbered, stored}

pub left_true : (a b : Bool) → (a && b) ≡ true → a ≡ true
left_true true b h = refl
left_true false b h = h

pub right_true : (a b : Bool) → (a && b) ≡ true → b ≡ true
right_true true b h = h
right_true false b h = absurd (true≢false (sym h))

pub ascends_push : (ps : List (List ℕ)) (p : List ℕ) → IsNew ps p → ascends ps ≡ true → ascends (ps ++ p ∷ []) ≡ true
ascends_push [] p new h = refl
ascends_push (q ∷ []) p new h = both_true (new q refl) refl
ascends_push (q ∷ r ∷ ps) p new h =
    both_true (left_true (path_lt q r) (ascends (r ∷ ps)) h) (ascends_push (r ∷ ps) p new (right_true (path_lt q r) (ascends (r ∷ ps)) h))

pub listed_push : (pairs : List Pair) (ps : List (List ℕ)) (p b : List ℕ) → bytes_for pairs p ≡ Some b → all_listed pairs ps ≡ true → all_listed pairs (ps ++ p ∷ []) ≡ true
listed_push pairs [] p b e h = both_true (ap is_some e) refl
listed_push pairs (q ∷ ps) p b e h =
    both_true (left_true (is_some (bytes_for pairs q)) (all_listed pairs ps) h) (listed_push pairs ps p b e (right_true (is_some (bytes_for pairs q)) (all_listed pairs ps) h))

same_nat : (m n : ℕ) → m ≡ n → (m == n) ≡ true
same_nat m n e = grind (arith)

pub numbered_push : (n : ℕ) (rs : List Receipt) (r : Receipt) → numbered n rs ≡ true → r.number ≡ n + length rs → numbered n (rs ++ r ∷ []) ≡ true
numbered_push n [] r h e = both_true (same_nat r.number n (omega (arith, e))) refl
numbered_push n (q ∷ rs) r h e =
    both_true (left_true (q.number == n) (numbered (n + 1) rs) h) (numbered_push (n + 1) rs r (right_true (q.number == n) (numbered (n + 1) rs) h) (omega (arith, e)))

pub told_push : (told : Option (List (List ℕ))) (xs : List (List ℕ)) (x : List ℕ) → then_told (then_told told xs) (x ∷ []) ≡ then_told told (xs ++ x ∷ [])
told_push None xs x = refl
told_push (Some t) xs x = ap Some (append_assoc t xs (x ∷ []))

pub stored_push : (pairs : List Pair) (rs : List Receipt) (r : Receipt) → stored pairs (rs ++ r ∷ []) ≡ stored pairs rs ++ bytes_at pairs r.path ∷ []
stored_push pairs rs r = map_push (λ (r : Receipt). bytes_at pairs r.path) rs r

pub bytes_found : (pairs : List Pair) (p b : List ℕ) → bytes_for pairs p ≡ Some b → bytes_at pairs p ≡ b
bytes_found pairs p b e = rw e refl

some_in : {A : Type 0} (x y : A) → Some x ≡ Some y → x ≡ y
some_in x y e = ap (λ o. elim o [ Some a ↦ a | None ↦ x ]) e

none_some : {A : Type 0} (x : A) → None ≡ Some x → ⊥
none_some {A} x e = true≢false (ap (λ (o : Option A). elim o [ Some a ↦ false | None ↦ true ]) e)

pub last_is : (rs : List Receipt) (r : Receipt) → Some r ≡ slice_get rs (length rs - 1) → IsLast (paths rs) r.path
last_is [] r e = absurd (none_some r (sym e))
last_is (a ∷ []) r e = ap (λ (x : Receipt). x.path) (some_in r a e)
last_is (a ∷ b ∷ rs) r e =
    last_is (b ∷ rs) r (e ∙ ap (slice_get (a ∷ b ∷ rs)) (less (length rs)) ∙ sym (ap (slice_get (b ∷ rs)) (one (length rs))))
  where
    less : (n : ℕ) → suc (suc n) - 1 ≡ suc n
    less n = omega arith

    one : (n : ℕ) → suc n - 1 ≡ n
    one n = omega arith

pub last_one : (ps : List (List ℕ)) (p q : List ℕ) → IsLast ps p → IsLast ps q → p ≡ q
last_one [] p q h i = absurd h
last_one (a ∷ []) p q h i = h ∙ sym i
last_one (a ∷ b ∷ ps) p q h i = last_one (b ∷ ps) p q h i

pub is_new : (ps : List (List ℕ)) (path last : List ℕ) → IsLast ps last → path_le path last ≡ false → IsNew ps path
is_new ps path last h f q i = not_le q path (subst (λ (x : List ℕ). path_le path x ≡ false) (last_one ps last q h i) f)

pub is_new_first : (ps : List (List ℕ)) (path : List ℕ) → ps ≡ [] → IsNew ps path
is_new_first ps path e q i = absurd (subst (λ (xs : List (List ℕ)). IsLast xs q) e i)

-- one more entry, at the path p
pub ascending_more : (rs items : List Receipt) (r : Receipt) (p : List ℕ) → items ≡ rs ++ (r ∷ []) → r.path ≡ p → IsNew (paths rs) p → ascends (paths rs) ≡ true → ascends (paths items) ≡ true
ascending_more rs items r p more at new h =
    ap (λ xs. ascends (paths xs)) more ∙ ap ascends (map_push (λ (q : Receipt). q.path) rs r) ∙ ascends_push (paths rs) r.path (subst (IsNew (paths rs)) (sym at) new) h

pub listed_more : (pairs : List Pair) (rs items : List Receipt) (r : Receipt) (p b : List ℕ) → items ≡ rs ++ (r ∷ []) → r.path ≡ p → bytes_for pairs p ≡ Some b
    → all_listed pairs (paths rs) ≡ true → all_listed pairs (paths items) ≡ true
listed_more pairs rs items r p b more at e h =
    ap (λ xs. all_listed pairs (paths xs)) more ∙ ap (all_listed pairs) (map_push (λ (q : Receipt). q.path) rs r)
    ∙ listed_push pairs (paths rs) r.path b (ap (bytes_for pairs) at ∙ e) h

pub numbered_more : (n : ℕ) (rs items : List Receipt) (r : Receipt) → items ≡ rs ++ (r ∷ []) → r.number ≡ n + length rs → numbered n rs ≡ true → numbered n items ≡ true
numbered_more n rs items r more at h = ap (numbered n) more ∙ numbered_push n rs r h at

pub told_more : (pairs : List Pair) (told before now : Option (List (List ℕ))) (rs items : List Receipt) (r : Receipt) (p b : List ℕ) → items ≡ rs ++ (r ∷ []) → r.path ≡ p
    → bytes_for pairs p ≡ Some b → before ≡ then_told told (stored pairs rs) → now ≡ then_told before (b ∷ []) → now ≡ then_told told (stored pairs items)
told_more pairs told before now rs items r p b more at e was is =
    is ∙ ap (λ t. then_told t (b ∷ [])) was ∙ told_push told (stored pairs rs) b
    ∙ ap (λ x. then_told told (stored pairs rs ++ x ∷ [])) (sym (bytes_found pairs r.path b (ap (bytes_for pairs) at ∙ e)))
    ∙ sym (ap (λ xs. then_told told (stored pairs xs)) more ∙ ap (then_told told) (stored_push pairs rs r))
