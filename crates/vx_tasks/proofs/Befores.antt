-- That a stream stands before an eof path passes down the tree. A Zoned node needs it.
use Rattle.std.proofs.Common.{◌≡◌, ℕ, zero, suc, ◌+◌, ◌<◌, nat_eq, nat_lt, cond, not, ◌&&◌, ◌||◌, true, false, List, [], ◌∷◌, sym, ◌∙◌, subst, inl, ⊎_elim, arith}
use Rattle.std.proofs.lemmas.Bool.Decides.{nat_tests}
use Rattle.vx_path.specs.Lists.{In}
use Rattle.vx_path.specs.Path.{path_lt, begins, meets, under, Eof, raised, inside, next, Before}
use Rattle.vx_path.proofs.Lists.{from_map}
use Rattle.vx_path.proofs.Path.{begins-refl, begins-under, begins-inside, meets-sym, apart_lt, apart_begins, raised-next, raised-zero}
use Rattle.vx_tasks.specs.Nodes.{batch_paths, column_stream}

-- each path of the stream goes on from one that stands before e
pub before_from : (ps qs : List (List ℕ)) (e : Eof) → ((p : List ℕ) → In p ps → (q : List ℕ) × In q qs × (begins q p ≡ true)) → Before qs e → Before ps e
before_from ps qs e from b p i j = at (from p i)
  where
    at : (q : List ℕ) × In q qs × (begins q p ≡ true) → (path_lt p (raised e j) ≡ true) × (meets p (raised e j) ≡ false)
    at (q, k, h) =
        let f : (path_lt q (raised e j) ≡ true) × (meets q (raised e j) ≡ false) = b q k j in
        (apart_lt q (raised e j) p (raised e j) f.0 f.1 h (begins-refl (raised e j)), apart_begins q (raised e j) p f.1 h)

pub before_part : (ps qs : List (List ℕ)) (e : Eof) → ((p : List ℕ) → In p ps → In p qs) → Before qs e → Before ps e
before_part ps qs e f b p i j = b p (f p i) j

pub before_next : (ps : List (List ℕ)) (e : Eof) → Before ps e → Before ps (next e)
before_next ps e b p i j = subst (λ r. (path_lt p r ≡ true) × (meets p r ≡ false)) (sym (raised-next e j)) (b p i (j + 1))

pub before_inside : (ps : List (List ℕ)) (e : Eof) → Before ps e → Before ps (inside e)
before_inside ps e b p i j =
    let f : (path_lt p (raised e 0) ≡ true) × (meets p (raised e 0) ≡ false) = b p i 0 in
    let on : begins (raised e 0) (raised (inside e) j) ≡ true = subst (λ r. begins r (raised (inside e) j) ≡ true) (sym (raised-zero e)) (begins-inside e j) in (
      apart_lt p (raised e 0) p (raised (inside e) j) f.0 f.1 (begins-refl p) on,
      meets-sym p (raised (inside e) j) ∙ apart_begins (raised e 0) p (raised (inside e) j) (meets-sym (raised e 0) p ∙ f.1) on,
    )

-- a chunk and the eof path of its child
pub before_chunk : (p : List ℕ) (ps : List (List ℕ)) (e : Eof) → Before (p ∷ ps) e → Before (p ∷ []) (inside e)
before_chunk p ps e b = before_inside (p ∷ []) e (before_part (p ∷ []) (p ∷ ps) e (λ q i. ⊎_elim (λ z. inl z) (λ z. absurd z) i) b)

-- a column and its eof path
pub before_column : (c : ℕ) (ps : List (List ℕ)) (e : Eof) → Before ps e → Before (column_stream c ps) (inside e)
before_column c ps e b = before_from (column_stream c ps) ps (inside e) (λ p i. at p (from_map (λ q. under q c) p ps i)) (before_inside ps e b)
  where
    at : (p : List ℕ) → (q : List ℕ) × In q ps × (p ≡ under q c) → (q : List ℕ) × In q ps × (begins q p ≡ true)
    at p (q, i, h) = (q, i, rw h (begins-under q c))

zero_lower : (m : ℕ) → 0 < m → not (cond (nat_eq m 0) true (nat_lt m 0)) ≡ true
zero_lower m h = grind (arith, nat_tests)

zero_apart : (m : ℕ) → 0 < m → (nat_eq 0 m && false || nat_eq m 0 && true) ≡ false
zero_apart m h = grind (arith, nat_tests)

-- the batches [0, k], [0, k + 1], .. and the root's eof path [1]
pub before_root : (k n : ℕ) → Before (batch_paths (record { stem = 0 ∷ []; last = k }) n) (record { stem = []; last = 1 })
before_root k zero p i j = absurd i
before_root k (suc n) p i j = ⊎_elim (λ e. rw e (first j)) (λ h. before_root (k + 1) n p h j) i
  where
    first : (j : ℕ) → (path_lt (0 ∷ k ∷ []) ((1 + j) ∷ []) ≡ true) × (meets (0 ∷ k ∷ []) ((1 + j) ∷ []) ≡ false)
    first j = (zero_lower (1 + j) (omega arith), zero_apart (1 + j) (omega arith))
