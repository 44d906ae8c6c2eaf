-- Paths: lists of numbers, in lexicographic order, a prefix before its extensions.
use Rattle.std.specs.Prelude.{ℕ, ◌+◌, ◌⊎◌, Bool, true, false, cond, not, nat_eq, nat_lt, ◌&&◌, ◌||◌, List, [], ◌∷◌, ◌++◌, IsTrue, IsFalse}
use Rattle.vx_path.specs.Lists.{In}

-- p is at most q: p is a prefix of q, or is smaller where the two first differ
abbrev pub path_le : List ℕ → List ℕ → Bool
path_le [] q = true
path_le (i ∷ p) [] = false
path_le (i ∷ p) (j ∷ q) = cond (nat_eq i j) (path_le p q) (nat_lt i j)

-- p is below q
abbrev pub path_lt : List ℕ → List ℕ → Bool
path_lt p q = not (path_le q p)

-- p is a prefix of x
abbrev pub begins : List ℕ → List ℕ → Bool
begins [] x = true
begins (i ∷ p) [] = false
begins (i ∷ p) (j ∷ x) = nat_eq i j && begins p x

-- one of the two is a prefix of the other
abbrev pub meets : List ℕ → List ℕ → Bool
meets p q = begins p q || begins q p

-- p is at most each path of the list
abbrev pub is_least : List ℕ → List (List ℕ) → Bool
is_least p [] = true
is_least p (q ∷ qs) = path_le p q && is_least p qs

-- no path of the list is a prefix of another one, so all are distinct
abbrev pub Scattered : List (List ℕ) → Type 0
Scattered [] = Unit {0}
Scattered (p ∷ ps) = ((q : List ℕ) → In q ps → IsFalse (meets p q)) × Scattered ps

-- the path of child j below p
abbrev pub under : List ℕ → ℕ → List ℕ
under p j = p ++ (j ∷ [])

-- A path that isn't empty, in two parts: the path that it stands under, and its last index.
-- A node is given one, its eof path, behind all of its stream.
pub record Eof : Type 0 where
  pub stem : List ℕ
  pub last : ℕ

-- the root's eof path [1]
abbrev pub root_eof : Eof
root_eof = record { stem = []; last = 1 }

-- the path e + j: the last index raised by j
abbrev pub raised : Eof → ℕ → List ℕ
raised e j = under e.stem (e.last + j)

-- the path itself
abbrev pub eof_path : Eof → List ℕ
eof_path e = under e.stem e.last

-- the first eof path below e
abbrev pub inside : Eof → Eof
inside e = record { stem = under e.stem e.last; last = 0 }

-- the first eof path below the eof path of column c of the root's struct, [1 + c, 0]
abbrev pub column_eof : ℕ → Eof
column_eof c = inside (record { stem = []; last = 1 + c })

-- the eof path e + 1
abbrev pub next : Eof → Eof
next e = record { stem = e.stem; last = e.last + 1 }

-- Where a node with a stream on the paths ps and the eof path e may write: at what goes on from a
-- path of the stream, or from e + j for some j.
abbrev pub Region : List (List ℕ) → Eof → List ℕ → Type 0
Region ps e x = ((p : List ℕ) × In p ps × IsTrue (begins p x)) ⊎ ((j : ℕ) × IsTrue (begins (raised e j) x))

-- what goes on from a path of ps is below what goes on from any e + j
abbrev pub Before : List (List ℕ) → Eof → Type 0
Before ps e = (p : List ℕ) → In p ps → (j : ℕ) → IsTrue (path_lt p (raised e j)) × IsFalse (meets p (raised e j))
