-- Reading fields one after the other, as a loop does, up to the first fault.
use Rattle.std.proofs.Common.{◌≡◌, ℕ, suc, ◌-◌, ◌+◌, ◌≤◌, ◌<◌, List, [], ◌∷◌, ◌++◌, Result, Ok, Err, refl, sym, ap, ◌∙◌, append_assoc, arith}
use Rattle.std.proofs.lemmas.List.{append-nil}
use Rattle.vx_byte_reader.specs.Places.{◌>>=◌, many_at}

-- what was read before, and what is still read
abbrev pub with_front : {A E : Type 0} → List A → Result (List A × List ℕ) E → Result (List A × List ℕ) E
with_front front read = read >>= λ x. Ok (front ++ x.0, x.1)

pub regroup : {A E : Type 0} (front : List A) (n : A) (read : Result (List A × List ℕ) E) → with_front front (read >>= λ x. Ok (n ∷ x.0, x.1)) ≡ with_front (front ++ n ∷ []) read
regroup front n (Ok x) = ap (λ (ns : List _). Ok (ns, x.1)) (simp append_assoc)
regroup front n (Err f) = refl

pub many_goes_on : {A E : Type 0} (read : List ℕ → Result (A × List ℕ) E) (front : List A) (count i : ℕ) (bytes : List ℕ) (n : A) (after : List ℕ) (total : Result (List A × List ℕ) E) → i < count → read bytes ≡ Ok (n, after)
    → with_front front (many_at read (count - i) bytes) ≡ total → with_front (front ++ n ∷ []) (many_at read (count - (i + 1)) after) ≡ total
unfolding many_at
many_goes_on read front count i bytes n after total lt h so_far =
    let k : count - i ≡ suc (count - (i + 1)) = omega arith in
    let one : with_front front (many_at read (count - i) bytes) ≡ with_front (front ++ n ∷ []) (many_at read (count - (i + 1)) after) = rw (k, h) (regroup front n (many_at read (count - (i + 1)) after)) in
    sym one ∙ so_far

pub many_stops : {A E : Type 0} (read : List ℕ → Result (A × List ℕ) E) (front : List A) (count i : ℕ) (bytes : List ℕ) (total : Result (List A × List ℕ) E) (f : E) → i < count → read bytes ≡ Err f
    → with_front front (many_at read (count - i) bytes) ≡ total → total ≡ Err f
unfolding many_at
many_stops read front count i bytes total f lt h so_far =
    let k : count - i ≡ suc (count - (i + 1)) = omega arith in
    let one : with_front front (many_at read (count - i) bytes) ≡ Err f = rw (k, h) refl in
    sym so_far ∙ one

pub many_done : {A E : Type 0} (read : List ℕ → Result (A × List ℕ) E) (front : List A) (count i : ℕ) (bytes : List ℕ) (total : Result (List A × List ℕ) E) → count ≤ i → with_front front (many_at read (count - i) bytes) ≡ total → total ≡ Ok (front, bytes)
unfolding many_at
many_done read front count i bytes total le so_far =
    let k : count - i ≡ 0 = omega arith in
    let one : with_front front (many_at read (count - i) bytes) ≡ Ok (front, bytes) = rw k (ap (λ (ns : List _). Ok (ns, bytes)) (append-nil front)) in
    sym so_far ∙ one
