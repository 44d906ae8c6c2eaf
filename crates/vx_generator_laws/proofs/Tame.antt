-- Plans without faults, of which the pairs, the numbers and the reserved bytes are bounded.
use Rattle.std.proofs.Common.{◌≡◌, ℕ, suc, ◌+◌, ◌≤◌, List, [], ◌∷◌, ◌++◌, length, Option, Some, None, refl, ap, arith, length-append}
use Rattle.vx_model.specs.Words.{total_by}
use Rattle.vx_model.specs.ChunkData.{ChunkData, cells, held}
use Rattle.vx_rules.specs.Flushes.{chunk_pieces}
use Rattle.vx_strategy_spec.specs.StrategyData.{FlatOptions}
use Rattle.vx_plan.specs.PlanData.{Setting, Item, Plan, summed, totals, rows_in, row_totals}
use Rattle.vx_plan.specs.ChunkedNode.{all_pairs, all_faults, all_numbers, all_reserved}
use Rattle.vx_plan.proofs.PlanLists.{nil_both}
use Rattle.vx_generator_laws.proofs.Sums.{total_most}
use Rattle.vx_generator_laws.proofs.RunSums.{in_all}

abbrev pub AtMost : ℕ → List ℕ → Type 0
AtMost n [] = Unit {0}
AtMost n (x ∷ xs) = (x ≤ n) × AtMost n xs

pub most_append : (n : ℕ) (xs ys : List ℕ) → AtMost n xs → AtMost n ys → AtMost n (xs ++ ys)
most_append n [] ys g h = h
most_append n (x ∷ xs) ys g h = (g.0, most_append n xs ys g.1 h)

pub most_up : (m n : ℕ) (xs : List ℕ) → m ≤ n → AtMost m xs → AtMost n xs
most_up m n [] l h = tt
most_up m n (x ∷ xs) l h = ((let k : x ≤ m = h.0 in omega arith), most_up m n xs l h.1)

-- no faults, at most q pairs, no number above last + n, and at most n reserved
pub record Tame (last q n : ℕ) (p : Plan) : Type 0 where
  pub faultless : p.faults ≡ []
  pub pairs : length p.pairs ≤ q
  pub numbers : AtMost (last + n) p.numbers
  pub reserved : p.reserved ≤ n

pub tame_up : (last q n r m : ℕ) (p : Plan) → q ≤ r → n ≤ m → Tame last q n p → Tame last r m p
tame_up last q n r m p a b h =
    let k : length p.pairs ≤ q = h.pairs in
    let l : p.reserved ≤ n = h.reserved in
    record { faultless = h.faultless; pairs = omega arith; numbers = most_up (last + n) (last + m) p.numbers (omega arith) h.numbers; reserved = omega arith }

-- the same of several plans together
pub record AllTame (q n : ℕ) (ps : List Plan) : Type 0 where
  pub faultless : all_faults ps ≡ []
  pub pairs : length (all_pairs ps) ≤ q
  pub numbers : AtMost n (all_numbers ps)
  pub reserved : all_reserved ps ≤ n

pub tame_none : AllTame 0 0 []
tame_none = record { faultless = refl; pairs = omega arith; numbers = tt; reserved = omega arith }

pub tame_more : (q n r m : ℕ) (p : Plan) (ps : List Plan) → Tame 0 q n p → AllTame r m ps → AllTame (q + r) (n + m) (p ∷ ps)
tame_more q n r m p ps g h =
    let a : length p.pairs ≤ q = g.pairs in
    let b : length (all_pairs ps) ≤ r = h.pairs in
    let c : p.reserved ≤ n = g.reserved in
    let d : all_reserved ps ≤ m = h.reserved in
    let e : length (p.pairs ++ all_pairs ps) ≡ length p.pairs + length (all_pairs ps) = length-append p.pairs (all_pairs ps) in
    record {
      faultless = nil_both p.faults (all_faults ps) g.faultless h.faultless;
      pairs = omega arith;
      numbers = most_append (n + m) p.numbers (all_numbers ps) (most_up (0 + n) (n + m) p.numbers (omega arith) g.numbers) (most_up m (n + m) (all_numbers ps) (omega arith) h.numbers);
      reserved = omega arith;
    }

pub all_up : (q n r m : ℕ) (ps : List Plan) → q ≤ r → n ≤ m → AllTame q n ps → AllTame r m ps
all_up q n r m ps a b h =
    let k : length (all_pairs ps) ≤ q = h.pairs in
    let l : all_reserved ps ≤ n = h.reserved in
    record { faultless = h.faultless; pairs = omega arith; numbers = most_up n m (all_numbers ps) b h.numbers; reserved = omega arith }

-- ---- what a chunk counts for

abbrev pub bytes_in : Option (List ℕ) → ℕ
bytes_in None = 0
bytes_in (Some b) = length b

-- itself, its rows, what it takes as it is held, and its segment
abbrev pub bulk : Setting → FlatOptions → ChunkData → ℕ
bulk s o p = 1 + length (cells p) + held p + bytes_in (s.codec.encode s.encodings o.padding p)

pub summed_all : (count : ChunkData → ℕ) (items : List Item) → summed count items ≡ in_all count items
summed_all count [] = refl
summed_all count (i ∷ is) = ap (λ n. count i.1 + n) (summed_all count is)

pub most_totals : (count : ChunkData → ℕ) (k n : ℕ) (items : List Item) → k + in_all count items ≤ n → AtMost n (totals count k items)
most_totals count k n [] h = tt
most_totals count k n (i ∷ is) h = (omega arith, most_totals count (k + count i.1) n is (omega arith))

-- each chunk counts for at least one
pub pieces_few : (count : ChunkData → ℕ) → ((p : ChunkData) → 1 ≤ count p) → (ps : List ChunkData) → length ps ≤ total_by count ps
pieces_few count h [] = omega arith
pieces_few count h (p ∷ ps) = let a : 1 ≤ count p = h p in let r : length ps ≤ total_by count ps = pieces_few count h ps in omega arith

pub pieces_length : (items : List Item) → length (chunk_pieces items) ≡ length items
pieces_length [] = refl
pieces_length (i ∷ is) = ap (λ n. suc n) (pieces_length is)

module _ (s : Setting) (o : FlatOptions) where
  pub some_bulk : (p : ChunkData) → 1 ≤ bulk s o p
  some_bulk p = omega arith

  pub held_bulk : (ps : List ChunkData) → total_by held ps ≤ total_by (bulk s o) ps
  held_bulk ps = total_most held (bulk s o) (λ p. omega arith) ps

  pub rows_bulk : (items : List Item) → in_all rows_in items ≤ in_all (bulk s o) items
  rows_bulk items = total_most rows_in (bulk s o) (λ p. omega arith) (chunk_pieces items)

  pub rows_most : (n : ℕ) (items : List Item) → in_all (bulk s o) items ≤ n → AtMost n (row_totals items)
  rows_most n items h = most_totals rows_in 0 n items (let r : in_all rows_in items ≤ in_all (bulk s o) items = rows_bulk items in omega arith)
