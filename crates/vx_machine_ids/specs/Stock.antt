-- How often a value holds each path: by an id, and by a pointer.
use Rattle.std.specs.Prelude.{ℕ, ◌+◌, Bool, true, false, List, [], ◌∷◌, map, Option, Some, None, Result, Ok, Err}
use Rattle.std.specs.Global.{Vec}
use Rattle.std.specs.Ordering.{eq_by_cmp}
use Rattle.vx_path.specs.Path.{Eof, eof_path}
use Rattle.vx_sequence.specs.Universe.{path_cmp}

pub record Stock : Type 0 where
  pub ids : List ℕ → ℕ
  pub ends : List ℕ → ℕ

-- by either
abbrev pub held : Stock → List ℕ → ℕ
held s p = s.ids p + s.ends p

abbrev pub same : List ℕ → List ℕ → Bool
same p q = eq_by_cmp path_cmp p q

abbrev pub one : Bool → ℕ
one true = 1
one false = 0

abbrev pub none : Stock
none = record { ids = λ p. 0; ends = λ p. 0 }

abbrev pub both : Stock → Stock → Stock
both s t = record { ids = λ p. s.ids p + t.ids p; ends = λ p. s.ends p + t.ends p }

abbrev pub joined : List Stock → Stock
joined [] = none
joined (s ∷ ss) = both s (joined ss)

-- of an id, and of a pointer
abbrev pub id_stock : List ℕ → Stock
id_stock q = record { ids = λ p. one (same p q); ends = λ p. 0 }

abbrev pub end_stock : Eof → Stock
end_stock e = record { ids = λ p. 0; ends = λ p. one (same p (eof_path e)) }

-- of each of a list
abbrev pub all_stock : {A : Type 0} → (A → Stock) → List A → Stock
all_stock f xs = joined (map f xs)

abbrev pub ids_stock : List (List ℕ) → Stock
ids_stock ps = all_stock id_stock ps

abbrev pub all_ids : Vec (List ℕ) → Stock
all_ids v = ids_stock v.items

-- of an answer: nothing where there is none
abbrev pub ok_stock : {A E : Type 0} → (A → Stock) → Result A E → Stock
ok_stock f (Ok x) = f x
ok_stock f (Err e) = none

abbrev pub err_stock : {A E : Type 0} → (E → Stock) → Result A E → Stock
err_stock f (Ok x) = none
err_stock f (Err e) = f e

abbrev pub some_stock : {A : Type 0} → (A → Stock) → Option A → Stock
some_stock f (Some x) = f x
some_stock f None = none
