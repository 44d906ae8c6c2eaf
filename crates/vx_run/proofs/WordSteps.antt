-- Which words ask for the generated table.
use Rattle.std.proofs.Common.{◌≡◌, ℕ, ◌<◌, ◌^◌, List, [], ◌∷◌, Option, Some, None, Ok, Err, sym, ◌∙◌, arith}
use Rattle.std.proofs.lemmas.Fmt.{parse-decimal, decimal_injective}
use Rattle.std.specs.Prelude.{codes, IfOk, Result}
use Rattle.std.specs.Str.Parse.{ParsesUnsigned}
use Rattle.vx_run.specs.Commands.{AreRows, AsksRows, IsNumber, TellsRows}

-- a word that is a number of rows is read as this number
pub parsed_is : {E : Type 0} (word : List ℕ) (n : ℕ) (r : Result ℕ E) → ParsesUnsigned 32 10 word r → AreRows word n → r ≡ Ok n
parsed_is word n r parsed are =
    let small : n < 2 ^ 32 = omega (arith, are.2) in
    let less : n < 2 ^ 64 = omega (arith, are.2) in
    parse-decimal 32 n word r small less are.0 parsed

pub parsed_same : {E : Type 0} (word : List ℕ) (n m : ℕ) (r : Result ℕ E) → ParsesUnsigned 32 10 word r → r ≡ Ok m → AreRows word n → n ≡ m
parsed_same word n m r parsed is are = let f : Ok n ≡ Ok m = sym (parsed_is word n r parsed are) ∙ is in cc f

pub not_parsed : {E : Type 0} (word : List ℕ) (n : ℕ) (e : E) (r : Result ℕ E) → ParsesUnsigned 32 10 word r → r ≡ Err e → AreRows word n → ⊥
not_parsed word n e r parsed is are = let f : Ok n ≡ Err e = sym (parsed_is word n r parsed are) ∙ is in cc f

-- the words ask for one number of rows
pub same_rows : (words : List (List ℕ)) (n m : ℕ) → AsksRows words n → AsksRows words m → n ≡ m
same_rows [] n m h k = absurd h
same_rows (word ∷ []) n m h k = absurd h
same_rows (word ∷ number ∷ []) n m h k =
    let a : n < 2 ^ 64 = omega (arith, h.1.2) in
    let b : m < 2 ^ 64 = omega (arith, k.1.2) in
    decimal_injective n m a b (sym h.1.0 ∙ k.1.0)
same_rows (word ∷ number ∷ other ∷ words) n m h k = absurd h

-- what is told of the number is told of the words
named : (word number : List ℕ) → word ≡ codes "gen" → (o : Option ℕ) → IsNumber number o → TellsRows (word ∷ number ∷ []) o
named word number is None none = λ n h. none n h.1
named word number is (Some n) are = (is, are)

pub rows_told : {E : Type 0} (word number : List ℕ) (r : Result (Option ℕ) E) → word ≡ codes "gen" → IfOk r (IsNumber number) → IfOk r (TellsRows (word ∷ number ∷ []))
rows_told word number (Ok o) is told = named word number is o told
rows_told word number (Err e) is told = tt
