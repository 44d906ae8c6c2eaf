-- A value that passes a test, with the fact that it does.
use Rattle.std.specs.Prelude.{◌≡◌, Bool, true, false, refl}
use Rattle.std.specs.Coded.{Coded, code_by, prop_coded}
use mathlib.Core.Bool.{Bool-set}
use denote.Struct.Record.{Also}
use denote.Struct.Codes.{also_coded}

pub record Passing (A : Type 0) (test : A → Bool) : Type 0 where
  pub item : A
  pub passes : test item ≡ true

module _ {A : Type 0} (test : A → Bool) where
  by_answer : Passing A test → (a : A) (answer : Bool) → test a ≡ answer → Passing A test
  by_answer other a true e = record { item = a; passes = e }
  by_answer other a false e = other

  -- the value, where it passes; else the other
  pub passing_or : Passing A test → A → Passing A test
  passing_or other a = by_answer other a (test a) refl

  item_by_answer : (other : Passing A test) (a : A) (answer : Bool) (e : test a ≡ answer) → answer ≡ true → (by_answer other a answer e).item ≡ a
  unfolding by_answer
  item_by_answer other a true e h = refl
  item_by_answer other a false e h = absurd (cc h)

  pub item_passing : (other : Passing A test) (a : A) → test a ≡ true → (passing_or other a).item ≡ a
  unfolding passing_or
  item_passing other a h = item_by_answer other a (test a) refl h

  abbrev pub passing_code : Coded A → Coded (Passing A test)
  passing_code c = code_by (Also A (λ a. test a ≡ true)) (also_coded c (λ a. prop_coded (Bool-set (test a) true)))
      (λ p. (p.item, p.passes)) (λ p. record { item = p.0; passes = p.1 }) (λ _. refl)
