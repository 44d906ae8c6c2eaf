-- The pointers of batches, and the ids that they give column by column.
use Rattle.std.proofs.Common.{◌≡◌, ℕ, zero, suc, ◌+◌, ◌<◌, ◌≤◌, ◌^◌, List, [], ◌∷◌, ◌++◌, map, length, take, drop, get_or, set, refl, sym, ap, ◌∙◌, arith}
use Rattle.std.proofs.lemmas.List.{take_all, drop_all, append-nil, length_push, length-map}
use Rattle.vx_path.specs.Path.{Eof, eof_path, next, inside}
use Rattle.vx_sequence.specs.declared.errors.SequenceError.{SequenceError}
use Rattle.vx_sequence.specs.declared.errors.SequenceError.TheVariants.{IndexFull, OutOfMemory}
use Rattle.vx_named_tasks.specs.Names.{handed, column_names, column_outset}
use Rattle.vx_column_ids.specs.declared.part.ColumnPart.{ColumnPart}
use Rattle.vx_column_ids.specs.Outsets.{column_outsets, outset_of, batch_ends, StandBefore}

abbrev pub batch_end : ℕ → ℕ → Eof
batch_end c i = record { stem = 0 ∷ i ∷ []; last = c }

-- one batch more
pub ends_more : (c i n : ℕ) → batch_ends c i n ++ (batch_end c (i + n) ∷ []) ≡ batch_ends c i (n + 1)
ends_more c i zero = ap (λ k. batch_end c k ∷ []) (omega arith)
ends_more c i (suc n) =
    let e : suc n + 1 ≡ suc (n + 1) = omega arith in
    let k : i + suc n ≡ suc i + n = omega arith in
    rw (e, k) (ap (λ es. batch_end c i ∷ es) (ends_more c (suc i) n))

-- below the stream's pointer
pub batch_more : (ps : List Eof) (i : ℕ) (s x : Eof) → ps ≡ batch_ends 0 0 i → s.stem ≡ 0 ∷ [] → s.last ≡ i → x ≡ inside s → ps ++ (x ∷ []) ≡ batch_ends 0 0 (i + 1)
batch_more ps i s x a t l b =
    let e : s ≡ record { stem = 0 ∷ []; last = i } = λ j. record { stem = t j; last = l j } in
    let z : i ≡ 0 + i = omega arith in
    ap (λ ys. ys ++ (x ∷ [])) a ∙ ap (λ y. batch_ends 0 0 i ++ (y ∷ [])) (b ∙ ap inside e ∙ ap (batch_end 0) z) ∙ ends_more 0 0 i

pub ends_length : (c i n : ℕ) → length (batch_ends c i n) ≡ n
ends_length c i zero = refl
ends_length c i (suc n) = ap suc (ends_length c (suc i) n)

-- the next ids are those of the column, and the pointers then stand before those of the next one
pub ends_paths : (c i n : ℕ) → map eof_path (batch_ends c i n) ≡ column_names c i n
ends_paths c i zero = refl
ends_paths c i (suc n) = ap (λ ps. (0 ∷ i ∷ c ∷ []) ∷ ps) (ends_paths c (suc i) n)

pub ends_next : (c i n : ℕ) → map next (batch_ends c i n) ≡ batch_ends (c + 1) i n
ends_next c i zero = refl
ends_next c i (suc n) = ap (λ es. batch_end (c + 1) i ∷ es) (ends_next c (suc i) n)

pub counted : (ps : List Eof) (n len : ℕ) → ps ≡ batch_ends 0 0 n → len ≡ length ps → ps ≡ batch_ends 0 0 len
counted ps n len e l = e ∙ ap (batch_ends 0 0) (sym (l ∙ ap length e ∙ ends_length 0 0 n))

pub as_many : (ps : List Eof) (n len : ℕ) → ps ≡ batch_ends 0 0 n → len ≡ length ps → len ≡ n
as_many ps n len e l = l ∙ ap length e ∙ ends_length 0 0 n

-- each of them stands before the column's id
ends_at : (c i n k : ℕ) (e : Eof) → k < n → get_or (batch_ends c i n) k e ≡ e → e.last ≡ c
ends_at c i zero k e h g = absurd (omega (arith, h))
ends_at c i (suc n) zero e h g = ap (λ (z : Eof). z.last) (sym g)
ends_at c i (suc n) (suc k) e h g = ends_at c (suc i) n k e (omega (arith, h)) g

-- ---- the first i have gone on

abbrev pub gone_on : ℕ → List Eof → List Eof
gone_on i es = map next (take i es) ++ drop i es

same_at : (es : List Eof) (i : ℕ) (e : Eof) → get_or (gone_on i es) i e ≡ get_or es i e
same_at [] zero e = refl
same_at [] (suc i) e = refl
same_at (x ∷ es) zero e = refl
same_at (x ∷ es) (suc i) e = same_at es i e

goes_on : (es : List Eof) (i : ℕ) (e : Eof) → i < length es → get_or es i e ≡ e → set (gone_on i es) i (next e) ≡ gone_on (suc i) es
goes_on [] i e h g = absurd (omega (arith, h))
goes_on (x ∷ es) zero e h g = ap (λ z. next z ∷ es) (sym g)
goes_on (x ∷ es) (suc i) e h g = ap (λ zs. next x ∷ zs) (goes_on es i e (omega (arith, h)) g)

gives : (es : List Eof) (i : ℕ) (e : Eof) → i < length es → get_or es i e ≡ e → map eof_path (take i es) ++ (eof_path e ∷ []) ≡ map eof_path (take (suc i) es)
gives [] i e h g = absurd (omega (arith, h))
gives (x ∷ es) zero e h g = ap (λ z. eof_path z ∷ []) (sym g)
gives (x ∷ es) (suc i) e h g = ap (λ zs. eof_path x ∷ zs) (gives es i e (omega (arith, h)) g)

module _ (es now : List Eof) (i : ℕ) (e : Eof) (is : now ≡ gone_on i es) (h : i < length es) (g : get_or now i e ≡ e) where
  here : get_or es i e ≡ e
  here = sym (same_at es i e) ∙ ap (λ zs. get_or zs i e) (sym is) ∙ g

  pub fits_at : StandBefore es → e.last + 1 < 2 ^ 64
  fits_at b =
      let k : i < b.1 = omega (arith, h, ap length b.2, ends_length b.0 0 b.1) in
      let l : e.last ≡ b.0 = ends_at b.0 0 b.1 i e k (ap (λ zs. get_or zs i e) (sym b.2) ∙ here) in
      omega (arith, l, b.3)

  pub one_on : (e' : Eof) → e' ≡ next e → set now i e' ≡ gone_on (i + 1) es
  one_on e' n =
      let s : suc i ≡ i + 1 = omega arith in
      ap (λ z. set now i z) n ∙ ap (λ zs. set zs i (next e)) is ∙ goes_on es i e h here ∙ ap (λ k. gone_on k es) s

  pub one_given : (ids : List (List ℕ)) (p : List ℕ) → ids ≡ map eof_path (take i es) → p ≡ eof_path e → ids ++ (p ∷ []) ≡ map eof_path (take (i + 1) es)
  one_given ids p a b =
      let s : suc i ≡ i + 1 = omega arith in
      ap (λ zs. zs ++ (p ∷ [])) a ∙ ap (λ z. map eof_path (take i es) ++ (z ∷ [])) b ∙ gives es i e h here ∙ ap (λ k. map eof_path (take k es)) s

pub all_on : (es now : List Eof) (n : ℕ) → length es ≤ n → now ≡ gone_on n es → now ≡ map next es
all_on es now n h is = is ∙ ap (λ zs. map next zs ++ drop n es) (take_all n es h) ∙ ap (λ zs. map next es ++ zs) (drop_all n es h) ∙ append-nil (map next es)

pub all_given : (es : List Eof) (ids : List (List ℕ)) (n : ℕ) → length es ≤ n → ids ≡ map eof_path (take n es) → ids ≡ map eof_path es
all_given es ids n h is = is ∙ ap (map eof_path) (take_all n es h)

-- ---- a column's part

pub next_batches : (es now : List Eof) (c n : ℕ) → es ≡ batch_ends c 0 n → now ≡ map next es → now ≡ batch_ends (c + 1) 0 n
next_batches es now c n a b = b ∙ ap (map next) a ∙ ends_next c 0 n

pub outset_is : (p : ColumnPart) (c n : ℕ) (es : List Eof) (e : Eof) → es ≡ batch_ends c 0 n → e.stem ≡ [] → e.last ≡ c + 1 → p.ids.items ≡ map eof_path es → p.eof ≡ inside e
    → column_outsets c n ++ (outset_of p ∷ []) ≡ column_outsets (c + 1) n
outset_is p c n es e a s l i b =
    let w : c + 1 ≡ 1 + c = omega arith in
    let k : e ≡ record { stem = []; last = 1 + c } = λ j. record { stem = s j; last = (l ∙ w) j } in
    let ids : p.ids.items ≡ column_names c 0 n = i ∙ ap (map eof_path) a ∙ ends_paths c 0 n in
    let eof : p.eof ≡ inside (record { stem = []; last = 1 + c }) = b ∙ ap inside k in
    let o : outset_of p ≡ column_outset c n = λ j. record { names = handed (ids j); eof = eof j } in
    let z : suc c ≡ c + 1 = omega arith in
    ap (λ x. column_outsets c n ++ (x ∷ [])) o ∙ ap (λ x. column_outsets x n) z

-- as many parts as columns
outsets_long : (c n : ℕ) → length (column_outsets c n) ≡ c
outsets_long zero n = refl
outsets_long (suc c) n = length_push (column_outsets c n) (column_outset c n) ∙ (let z : length (column_outsets c n) + 1 ≡ suc c = omega (arith, outsets_long c n) in z)

pub parts_counted : (ps : List ColumnPart) (len c n : ℕ) → len ≡ length ps → map outset_of ps ≡ column_outsets c n → len ≡ c
parts_counted ps len c n l e = l ∙ sym (length-map ps outset_of) ∙ ap length e ∙ outsets_long c n

-- ---- refusals

pub memory_alone : (e : SequenceError) → (e ≡ IndexFull → ⊥) → e ≡ OutOfMemory
memory_alone IndexFull h = absurd (h refl)
memory_alone OutOfMemory h = refl
