-- Reading bytes from left to right, with the first fault that is met. A fault names a place: `stop` is the place at
-- which the bytes that are read end, so what is left tells the place of a field.
use Rattle.std.specs.Prelude.{ℕ, zero, suc, ◌-◌, List, [], ◌∷◌, length, Option, Some, None, Result, Ok, Err}

infixl 10 ◌>>=◌
abbrev pub ◌>>=◌ : {A B E : Type 0} → Result A E → (A → Result B E) → Result B E
(Ok x) >>= f = f x
(Err e) >>= f = Err e

abbrev pub or_fault : {A E : Type 0} → E → Option A → Result A E
or_fault e None = Err e
or_fault e (Some x) = Ok x

-- a field; where the bytes aren't one, the fault at its start
abbrev pub field_at : {A E : Type 0} → (ℕ → E) → (List ℕ → Option (A × List ℕ)) → ℕ → List ℕ → Result (A × List ℕ) E
field_at fault read stop bytes = or_fault (fault (stop - length bytes)) (read bytes)

-- so many fields, one after the other
unfoldable pub many_at : {A E : Type 0} → (List ℕ → Result (A × List ℕ) E) → ℕ → List ℕ → Result (List A × List ℕ) E
many_at read zero bytes = Ok ([], bytes)
many_at read (suc n) bytes = do
  first ← read bytes
  others ← many_at read n first.1
  Ok (first.0 ∷ others.0, others.1)
