-- Lists sorted by path, and lists of paths.
use Rattle.std.specs.Prelude.{ℕ, cond, List, [], ◌∷◌, IsTrue}
use Rattle.vx_path.specs.Lists.{In}
use Rattle.vx_path.specs.Path.{path_le}

-- x put before the first element whose path isn't below its own
abbrev pub insert_by : {A : Type 0} → (A → List ℕ) → A → List A → List A
insert_by key x [] = x ∷ []
insert_by key x (y ∷ ys) = cond (path_le (key x) (key y)) (x ∷ y ∷ ys) (y ∷ insert_by key x ys)

-- the elements in order of their paths; those of one path stay as they stand
abbrev pub sort_by : {A : Type 0} → (A → List ℕ) → List A → List A
sort_by key [] = []
sort_by key (x ∷ xs) = insert_by key x (sort_by key xs)

-- the paths in order
abbrev pub sort : List (List ℕ) → List (List ℕ)
sort = sort_by (λ p. p)

-- each element's path is at most those of all later ones
abbrev pub Ascends : {A : Type 0} → (A → List ℕ) → List A → Type 0
Ascends key [] = Unit {0}
Ascends {A} key (x ∷ xs) = ((y : A) → In y xs → IsTrue (path_le (key x) (key y))) × Ascends key xs
