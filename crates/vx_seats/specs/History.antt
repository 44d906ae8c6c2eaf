-- The history of writes, and the pairs that may be written.
use Rattle.std.specs.Prelude.{ℕ, ◌+◌, ◌==◌, Bool, true, false, cond, ◌&&◌, List, [], ◌∷◌, map, Option, Some, None}
use Rattle.std.specs.Prelude.{is_some, unwrap_or}
use Rattle.vx_path.specs.Path.{path_le, path_lt}
use Rattle.vx_order_answer.specs.declared.receipt.Receipt.{Receipt}

pub record Pair : Type 0 where
  pub path : List ℕ
  pub bytes : List ℕ

-- one path
abbrev pub same : List ℕ → List ℕ → Bool
same p q = path_le p q && path_le q p

-- the bytes that may be written at the path
abbrev pub bytes_for : List Pair → List ℕ → Option (List ℕ)
bytes_for [] p = None
bytes_for (c ∷ cs) p = cond (same p c.path) (Some c.bytes) (bytes_for cs p)

abbrev pub bytes_at : List Pair → List ℕ → List ℕ
bytes_at pairs p = unwrap_or (bytes_for pairs p) []

-- each path is that of a pair
abbrev pub all_listed : List Pair → List (List ℕ) → Bool
all_listed pairs [] = true
all_listed pairs (p ∷ ps) = is_some (bytes_for pairs p) && all_listed pairs ps

-- p is below the first of the paths
abbrev pub leads : List ℕ → List (List ℕ) → Bool
leads p [] = true
leads p (q ∷ qs) = path_lt p q

-- each path is below the next
abbrev pub ascends : List (List ℕ) → Bool
ascends [] = true
ascends (p ∷ ps) = leads p ps && ascends ps

abbrev pub paths : List Receipt → List (List ℕ)
paths rs = map (λ r. r.path) rs

-- the numbers go on from n one by one
abbrev pub numbered : ℕ → List Receipt → Bool
numbered n [] = true
numbered n (r ∷ rs) = (r.number == n) && numbered (n + 1) rs

-- the bytes of the entries' pairs, in the order of the history
abbrev pub stored : List Pair → List Receipt → List (List ℕ)
stored pairs rs = map (λ r. bytes_at pairs r.path) rs

abbrev pub bit : Bool → ℕ
bit true = 1
bit false = 0
