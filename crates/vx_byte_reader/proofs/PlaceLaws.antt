-- A field that is read is the field that was written, and what was written is read again, where faults have places.
use Rattle.std.proofs.Common.{◌≡◌, ℕ, zero, suc, ◌-◌, Bool, true, false, cond, List, [], ◌∷◌, ◌++◌, length, Option, Some, None, Result, Ok, Err, refl, ap, subst, ◌∙◌, append_assoc}
use Rattle.vx_model.specs.Words.{joined_by}
use Rattle.vx_byte_reader.specs.Places.{◌>>=◌, or_fault, field_at, many_at}
use Rattle.vx_byte_reader.proofs.FieldLaws.{IsBytes, Takes, Takes-then, Takes-none, Each}
use Rattle.vx_byte_reader.proofs.FieldLaws as fields

-- the value of a step that did not fail
pub bind_ok : {A B E : Type 0} (r : Result A E) (f : A → Result B E) (y : B) → (r >>= f) ≡ Ok y → (x : A) × (r ≡ Ok x) × (f x ≡ Ok y)
bind_ok (Ok x) f y e = (x, refl, e)
bind_ok (Err d) f y e = absurd cc

-- a test that did not fail
pub guard_ended : {A E : Type 0} (b : Bool) (d : E) (x y : A) → cond b (Ok x) (Err d) ≡ Ok y → (b ≡ true) × (x ≡ y)
guard_ended true d x y e = (refl, cc)
guard_ended false d x y e = absurd cc

pub ok_is : {A E : Type 0} (x y : A) → ◌≡◌ {A = Result A E} (Ok x) (Ok y) → x ≡ y
ok_is x y e = cc

-- what stands behind `or_fault`, where it gave a value
pub found : {A E : Type 0} (fault : E) (o : Option A) (x : A) → or_fault fault o ≡ Ok x → o ≡ Some x
found fault None x e = absurd cc
found fault (Some y) x e = ap Some (ok_is y x e)

-- A reader is the reader of a spelling: what is read is spelled so and is of the kind, and what is of the kind and
-- spelled so is read.
pub record Reads {A E : Type 0} (read : List ℕ → Result (A × List ℕ) E) (spell : A → List ℕ) (Kind : A → Type 0) : Type 0 where
  pub takes : (bytes : List ℕ) (x : A) (rest : List ℕ) → IsBytes bytes → read bytes ≡ Ok (x, rest) → Takes bytes (spell x) rest × Kind x
  pub again : (x : A) (rest : List ℕ) → Kind x → read (spell x ++ rest) ≡ Ok (x, rest)

-- a field reads the same with its place
pub placed : {A E : Type 0} (fault : ℕ → E) (read : List ℕ → Option (A × List ℕ)) (spell : A → List ℕ) (Kind : A → Type 0) (stop : ℕ) → fields.Reads read spell Kind → Reads (field_at fault read stop) spell Kind
placed fault read spell Kind stop reads = record {
  takes = λ bytes x rest fits e. reads.takes bytes x rest fits (found (fault (stop - length bytes)) (read bytes) (x, rest) e);
  again = λ x rest kind. rw (reads.again x rest kind) refl;
}

-- ---- many of one kind

pub many_takes : {A E : Type 0} (read : List ℕ → Result (A × List ℕ) E) (spell : A → List ℕ) (Kind : A → Type 0) → Reads read spell Kind
    → (n : ℕ) (bytes : List ℕ) (x : List A × List ℕ) → IsBytes bytes → many_at read n bytes ≡ Ok x → Takes bytes (joined_by spell x.0) x.1 × (length x.0 ≡ n) × Each Kind x.0
unfolding many_at
many_takes {A} read spell Kind reads zero bytes x fits e =
    subst (λ (y : List A × List ℕ). Takes bytes (joined_by spell y.0) y.1 × (length y.0 ≡ 0) × Each Kind y.0) (ok_is ([], bytes) x e) (Takes-none bytes fits, refl, tt)
many_takes {A} read spell Kind reads (suc n) bytes x fits e =
    let a = bind_ok (read bytes) (λ one. many_at read n one.1 >>= λ others. Ok (one.0 ∷ others.0, others.1)) x e in
    let b = bind_ok (many_at read n a.0.1) (λ others. Ok (a.0.0 ∷ others.0, others.1)) x a.2 in
    let one = reads.takes bytes a.0.0 a.0.1 fits a.1 in
    let others = many_takes read spell Kind reads n a.0.1 b.0 one.0.rest_bytes b.1 in
    let both = Takes-then bytes (spell a.0.0) a.0.1 (joined_by spell b.0.0) b.0.1 one.0 others.0 in
    let made : List A × List ℕ = (a.0.0 ∷ b.0.0, b.0.1) in
    subst (λ (y : List A × List ℕ). Takes bytes (joined_by spell y.0) y.1 × (length y.0 ≡ suc n) × Each Kind y.0) (ok_is made x b.2) (both, ap suc others.1, (one.1, others.2))

pub many_again : {A E : Type 0} (read : List ℕ → Result (A × List ℕ) E) (spell : A → List ℕ) (Kind : A → Type 0) → Reads read spell Kind
    → (xs : List A) (rest : List ℕ) → Each Kind xs → many_at read (length xs) (joined_by spell xs ++ rest) ≡ Ok (xs, rest)
unfolding many_at
many_again read spell Kind reads [] rest kinds = refl
many_again read spell Kind reads (x ∷ xs) rest kinds =
    ap (many_at read (suc (length xs))) (append_assoc (spell x) (joined_by spell xs) rest) ∙ rw (reads.again x (joined_by spell xs ++ rest) kinds.0, many_again read spell Kind reads xs rest kinds.1) refl
