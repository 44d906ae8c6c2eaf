-- What the runs of a stream of chunks hold: sums over their chunks against sums over the rows.
use Rattle.std.proofs.Common.{◌≡◌, ℕ, suc, ◌+◌, ◌*◌, ◌≤◌, Bool, true, false, List, [], ◌∷◌, ◌++◌, length, refl, ap, ◌∙◌, arith}
use Rattle.std.specs.Prelude.{if◌then◌else◌}
use Rattle.vx_model.specs.Words.{total_by}
use Rattle.vx_model.specs.Ty.{Ty}
use Rattle.vx_model.specs.CellData.{CellData}
use Rattle.vx_model.specs.ChunkData.{ChunkData, plain_piece, cells}
use Rattle.vx_path.specs.Path.{under}
use Rattle.vx_rules.specs.Stream.{Chunk}
use Rattle.vx_rules.specs.Flushes.{chunk_pieces}
use Rattle.vx_rules.specs.Runs.{DictOptions, has_cell, with_cell, place_in, cells_fit, Cut, behind, stretches, codes_piece, Run, ended_runs, next_codes, cut_at, runs_from, runs}
use Rattle.vx_generator_laws.proofs.Sums.{total-append}

-- ---- streams

pub chunk_pieces-append : (xs ys : List Chunk) → chunk_pieces (xs ++ ys) ≡ chunk_pieces xs ++ chunk_pieces ys
chunk_pieces-append [] ys = refl
chunk_pieces-append (x ∷ xs) ys = ap (λ r. x.1 ∷ r) (chunk_pieces-append xs ys)

-- a sum over the chunks of a stream
abbrev pub in_all : (ChunkData → ℕ) → List Chunk → ℕ
in_all count items = total_by count (chunk_pieces items)

pub in_all-append : (count : ChunkData → ℕ) (xs ys : List Chunk) → in_all count (xs ++ ys) ≡ in_all count xs + in_all count ys
in_all-append count xs ys = ap (total_by count) (chunk_pieces-append xs ys) ∙ total-append count (chunk_pieces xs) (chunk_pieces ys)

-- over the chunks of runs
abbrev pub in_runs : (ChunkData → ℕ) → List Run → ℕ
in_runs count [] = 0
in_runs count (r ∷ rs) = (in_all count r.codes + in_all count r.values) + in_runs count rs

in_runs-append : (count : ChunkData → ℕ) (rs qs : List Run) → in_runs count (rs ++ qs) ≡ in_runs count rs + in_runs count qs
in_runs-append count [] qs = omega arith
in_runs-append count (r ∷ rs) qs = let e : in_runs count (rs ++ qs) ≡ in_runs count rs + in_runs count qs = in_runs-append count rs qs in omega arith

-- ---- runs of an ended stream have ended, with one chunk of values each

pub record Shut (r : Run) : Type 0 where
  pub closed : r.closed ≡ true
  pub values : (i : Chunk) × (r.values ≡ i ∷ [])

abbrev pub AllShut : List Run → Type 0
AllShut [] = Unit {0}
AllShut (r ∷ rs) = Shut r × AllShut rs

shut_append : (rs qs : List Run) → AllShut rs → AllShut qs → AllShut (rs ++ qs)
shut_append [] qs g h = h
shut_append (r ∷ rs) qs g h = (g.0, shut_append rs qs g.1 h)

ended_shut : (o : DictOptions) (t : Ty) (p : List ℕ) (r : ℕ) (cur : List Chunk) (xs : List (List ℕ × List CellData)) → AllShut (ended_runs o t p r cur xs)
ended_shut o t p r cur [] = tt
ended_shut o t p r cur (x ∷ xs) = (record { closed = refl; values = ((under p (suc r), plain_piece t x.1), refl) }, ended_shut o t p (r + 2) [] xs)

shut_from : (o : DictOptions) (t : Ty) (ds : List CellData) (cur : List Chunk) (items : List Chunk) → AllShut (runs_from o t ds cur items true)
shut_from o t ds cur [] = tt
shut_from o t ds cur (c ∷ []) = ended_shut o t c.0 0 cur ((cut_at o t ds c).closed ++ (((cut_at o t ds c).codes, (cut_at o t ds c).distinct) ∷ []))
shut_from o t ds cur (c ∷ d ∷ cs) =
    shut_append (ended_runs o t c.0 0 cur (cut_at o t ds c).closed) _ (ended_shut o t c.0 0 cur (cut_at o t ds c).closed)
    (shut_from o t (cut_at o t ds c).distinct (next_codes o c.0 0 cur (cut_at o t ds c).closed (cut_at o t ds c).codes) (d ∷ cs))

pub runs_shut : (o : DictOptions) (t : Ty) (items : List Chunk) → AllShut (runs o t items true)
runs_shut o t items = shut_from o t [] [] items

-- ---- each row ends one run at most

pub closed_count : (o : DictOptions) (t : Ty) (ds : List CellData) (codes : List ℕ) (cs : List CellData) → length (stretches o t ds codes cs).closed ≤ length cs
closed_count o t ds codes [] = omega arith
closed_count o t ds codes (c ∷ cs) =
    go (cells_fit o t (with_cell ds c)) (closed_count o t (with_cell ds c) (codes ++ (place_in c (with_cell ds c) ∷ [])) cs) (closed_count o t (c ∷ []) (0 ∷ []) cs)
  where
    joined : Cut
    joined = stretches o t (with_cell ds c) (codes ++ (place_in c (with_cell ds c) ∷ [])) cs

    begun : Cut
    begun = stretches o t (c ∷ []) (0 ∷ []) cs

    go : (b : Bool) → length joined.closed ≤ length cs → length begun.closed ≤ length cs → length (if b then joined else behind codes ds begun).closed ≤ suc (length cs)
    go true h k = omega arith
    go false h k = omega arith

-- ---- sums, where a chunk of codes counts for at most a and v of each code, one of values for at most a and w of each cell

module _ (o : DictOptions) (t : Ty) (count : ChunkData → ℕ) (a b : ℕ) (v : ℕ → ℕ) (w : CellData → ℕ)
    (few : (n : ℕ) → v n ≤ b) (of_codes : (codes : List ℕ) → count (codes_piece o codes) ≤ a + total_by v codes) (of_values : (ds : List CellData) → count (plain_piece t ds) ≤ a + total_by w ds) where
  -- a run with these codes and these distinct cells
  abbrev run_cost : List ℕ × List CellData → ℕ
  run_cost x = 2 * a + total_by v x.0 + total_by w x.1

  -- a row, which may begin a run
  abbrev row_cost : CellData → ℕ
  row_cost c = 2 * a + b + w c

  abbrev piece_cost : ChunkData → ℕ
  piece_cost p = 2 * a + total_by row_cost (cells p)

  one_more : (ds : List CellData) (c : CellData) → total_by w (with_cell ds c) ≤ total_by w ds + w c
  one_more ds c = go (has_cell c ds)
    where
      go : (h : Bool) → total_by w (if h then ds else ds ++ (c ∷ [])) ≤ total_by w ds + w c
      go true = omega arith
      go false = let e : total_by w (ds ++ (c ∷ [])) ≡ total_by w ds + (w c + 0) = total-append w ds (c ∷ []) in omega arith

  stretches_cost : (ds : List CellData) (codes : List ℕ) (cs : List CellData)
      → total_by run_cost (stretches o t ds codes cs).closed + run_cost ((stretches o t ds codes cs).codes, (stretches o t ds codes cs).distinct)
      ≤ run_cost (codes, ds) + total_by row_cost cs
  stretches_cost ds codes [] = omega arith
  stretches_cost ds codes (c ∷ cs) =
      go (cells_fit o t (with_cell ds c)) (stretches_cost (with_cell ds c) (codes ++ (place_in c (with_cell ds c) ∷ [])) cs) (stretches_cost (c ∷ []) (0 ∷ []) cs)
    where
      joined : Cut
      joined = stretches o t (with_cell ds c) (codes ++ (place_in c (with_cell ds c) ∷ [])) cs

      begun : Cut
      begun = stretches o t (c ∷ []) (0 ∷ []) cs

      go : (h : Bool) → total_by run_cost joined.closed + run_cost (joined.codes, joined.distinct) ≤ run_cost (codes ++ (place_in c (with_cell ds c) ∷ []), with_cell ds c) + total_by row_cost cs
          → total_by run_cost begun.closed + run_cost (begun.codes, begun.distinct) ≤ run_cost (0 ∷ [], c ∷ []) + total_by row_cost cs
          → let cut : Cut = (if h then joined else behind codes ds begun) in
          total_by run_cost cut.closed + run_cost (cut.codes, cut.distinct) ≤ run_cost (codes, ds) + (row_cost c + total_by row_cost cs)
      go true r q =
          let e : total_by v (codes ++ (place_in c (with_cell ds c) ∷ [])) ≡ total_by v codes + (v (place_in c (with_cell ds c)) + 0) = total-append v codes (place_in c (with_cell ds c) ∷ []) in
          let f : v (place_in c (with_cell ds c)) ≤ b = few (place_in c (with_cell ds c)) in
          let g : total_by w (with_cell ds c) ≤ total_by w ds + w c = one_more ds c in omega arith
      go false r q = let f : v 0 ≤ b = few 0 in omega arith

  with_codes : (cur : List Chunk) (p : List ℕ) (codes : List ℕ) → in_all count (cur ++ ((p, codes_piece o codes) ∷ [])) ≤ in_all count cur + (a + total_by v codes)
  with_codes cur p codes =
      let e : in_all count (cur ++ ((p, codes_piece o codes) ∷ [])) ≡ in_all count cur + (count (codes_piece o codes) + 0) = in_all-append count cur ((p, codes_piece o codes) ∷ []) in
      let h : count (codes_piece o codes) ≤ a + total_by v codes = of_codes codes in omega arith

  -- the runs that end at a chunk
  ended_cost : (p : List ℕ) (r : ℕ) (cur : List Chunk) (xs : List (List ℕ × List CellData)) → in_runs count (ended_runs o t p r cur xs) ≤ in_all count cur + total_by run_cost xs
  ended_cost p r cur [] = omega arith
  ended_cost p r cur (x ∷ xs) =
      let c : in_all count (cur ++ ((under p r, codes_piece o x.0) ∷ [])) ≤ in_all count cur + (a + total_by v x.0) = with_codes cur (under p r) x.0 in
      let d : count (plain_piece t x.1) ≤ a + total_by w x.1 = of_values x.1 in
      let rest : in_runs count (ended_runs o t p (r + 2) [] xs) ≤ 0 + total_by run_cost xs = ended_cost p (r + 2) [] xs in omega arith

  -- with the codes of the run that goes on
  going_cost : (p : List ℕ) (r : ℕ) (cur : List Chunk) (xs : List (List ℕ × List CellData)) (codes : List ℕ)
      → in_runs count (ended_runs o t p r cur xs) + in_all count (next_codes o p r cur xs codes) ≤ in_all count cur + total_by run_cost xs + (a + total_by v codes)
  going_cost p r cur [] codes = let c : in_all count (cur ++ ((under p r, codes_piece o codes) ∷ [])) ≤ in_all count cur + (a + total_by v codes) = with_codes cur (under p r) codes in omega arith
  going_cost p r cur (x ∷ xs) codes =
      let c : in_all count (cur ++ ((under p r, codes_piece o x.0) ∷ [])) ≤ in_all count cur + (a + total_by v x.0) = with_codes cur (under p r) x.0 in
      let d : count (plain_piece t x.1) ≤ a + total_by w x.1 = of_values x.1 in
      let rest : in_runs count (ended_runs o t p (r + 2) [] xs) + in_all count (next_codes o p (r + 2) [] xs codes) ≤ 0 + total_by run_cost xs + (a + total_by v codes) = going_cost p (r + 2) [] xs codes in omega arith

  cost_from : (ds : List CellData) (cur : List Chunk) (c : Chunk) (cs : List Chunk)
      → in_runs count (runs_from o t ds cur (c ∷ cs) true) ≤ in_all count cur + total_by w ds + in_all piece_cost (c ∷ cs)
  cost_from ds cur c [] =
      let cut : Cut = cut_at o t ds c in
      let h : in_runs count (ended_runs o t c.0 0 cur (cut.closed ++ ((cut.codes, cut.distinct) ∷ []))) ≤ in_all count cur + total_by run_cost (cut.closed ++ ((cut.codes, cut.distinct) ∷ [])) =
      ended_cost c.0 0 cur (cut.closed ++ ((cut.codes, cut.distinct) ∷ [])) in
      let e : total_by run_cost (cut.closed ++ ((cut.codes, cut.distinct) ∷ [])) ≡ total_by run_cost cut.closed + (run_cost (cut.codes, cut.distinct) + 0) = total-append run_cost cut.closed ((cut.codes, cut.distinct) ∷ []) in
      let g : total_by run_cost cut.closed + run_cost (cut.codes, cut.distinct) ≤ run_cost ([], ds) + total_by row_cost (cells c.1) = stretches_cost ds [] (cells c.1) in omega arith
  cost_from ds cur c (d ∷ cs) =
      let cut : Cut = cut_at o t ds c in
      let later : List Run = runs_from o t cut.distinct (next_codes o c.0 0 cur cut.closed cut.codes) (d ∷ cs) true in
      let e : in_runs count (ended_runs o t c.0 0 cur cut.closed ++ later) ≡ in_runs count (ended_runs o t c.0 0 cur cut.closed) + in_runs count later = in_runs-append count (ended_runs o t c.0 0 cur cut.closed) later in
      let h : in_runs count (ended_runs o t c.0 0 cur cut.closed) + in_all count (next_codes o c.0 0 cur cut.closed cut.codes) ≤ in_all count cur + total_by run_cost cut.closed + (a + total_by v cut.codes) =
      going_cost c.0 0 cur cut.closed cut.codes in
      let r : in_runs count later ≤ in_all count (next_codes o c.0 0 cur cut.closed cut.codes) + total_by w cut.distinct + in_all piece_cost (d ∷ cs) =
      cost_from cut.distinct (next_codes o c.0 0 cur cut.closed cut.codes) d cs in
      let g : total_by run_cost cut.closed + run_cost (cut.codes, cut.distinct) ≤ run_cost ([], ds) + total_by row_cost (cells c.1) = stretches_cost ds [] (cells c.1) in omega arith

  pub runs_cost : (items : List Chunk) → in_runs count (runs o t items true) ≤ in_all piece_cost items
  runs_cost [] = omega arith
  runs_cost (c ∷ cs) = let h : in_runs count (runs o t (c ∷ cs) true) ≤ 0 + 0 + in_all piece_cost (c ∷ cs) = cost_from [] [] c cs in omega arith
