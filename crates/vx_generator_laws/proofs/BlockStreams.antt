-- Blocks of rows without a least size in bytes: of chunks of at most a block's rows, each block but the last has exactly a block's rows.
use Rattle.std.proofs.Common.{◌≡◌, ℕ, suc, ◌+◌, ◌-◌, ◌*◌, ◌/◌, ◌<◌, ◌≤◌, ◌⊎◌, ◌&&◌, Bool, true, false, List, [], ◌∷◌, ◌++◌, length, take, drop, refl, sym, ap, ap₂, ◌∙◌, subst, inl, inr, arith, length-append, length-drop}
use Rattle.std.specs.Prelude.{if◌then◌else◌, nat_le, None}
use Rattle.std.proofs.lemmas.Bool.Decides.{nat_tests}
use Rattle.std.proofs.lemmas.List.{length-take-le}
use Rattle.std.proofs.Math.Nat.{div-eq_of_lt, div-eq_of_lt-le}
use Rattle.vx_model.specs.Words.{total_by}
use Rattle.vx_model.specs.Ty.{Ty}
use Rattle.vx_model.specs.CellData.{CellData, cell_size}
use Rattle.vx_model.specs.ChunkData.{ChunkData, plain_piece, cells}
use Rattle.vx_path.specs.Path.{under}
use Rattle.vx_rules.specs.Stream.{Chunk, stream_cells}
use Rattle.vx_rules.specs.Regroup.{ranked, regrouped}
use Rattle.vx_rules.specs.Flushes.{chunk_pieces}
use Rattle.vx_rules.specs.Blocks.{BlockOptions, steps, check_points, cut_rows, block_sizes, cut_off, left_over, last_block, sizes_at, blocks}
use Rattle.vx_generator_laws.proofs.Sums.{total-append}
use Rattle.vx_generator_laws.proofs.RunSums.{in_all, chunk_pieces-append}

-- each chunk but the last has so many rows, and the last one some
abbrev pub Zones : ℕ → List Chunk → Type 0
Zones len [] = Unit {0}
Zones len (c ∷ []) = (0 < length (cells c.1)) × (length (cells c.1) ≤ len)
Zones len (c ∷ d ∷ cs) = (length (cells c.1) ≡ len) × Zones len (d ∷ cs)

-- each chunk has at most so many rows
abbrev pub Short : ℕ → List Chunk → Type 0
Short len [] = Unit {0}
Short len (c ∷ cs) = (length (cells c.1) ≤ len) × Short len cs

-- each is a plain chunk of the type
abbrev pub AllPlain : Ty → List ChunkData → Type 0
AllPlain t [] = Unit {0}
AllPlain t (p ∷ ps) = (p ≡ plain_piece t (cells p)) × AllPlain t ps

pub plain_append : (t : Ty) (ps qs : List ChunkData) → AllPlain t ps → AllPlain t qs → AllPlain t (ps ++ qs)
plain_append t [] qs g h = h
plain_append t (p ∷ ps) qs g h = (g.0, plain_append t ps qs g.1 h)

pub ranked_pieces : (p : List ℕ) (r : ℕ) (cs : List ChunkData) → chunk_pieces (ranked p r cs) ≡ cs
ranked_pieces p r [] = refl
ranked_pieces p r (c ∷ cs) = ap (λ z. c ∷ z) (ranked_pieces p (suc r) cs)

pub cells_total : (f : CellData → ℕ) (items : List Chunk) → in_all (λ p. total_by f (cells p)) items ≡ total_by f (stream_cells items)
cells_total f [] = refl
cells_total f (c ∷ cs) =
    let r : in_all (λ p. total_by f (cells p)) cs ≡ total_by f (stream_cells cs) = cells_total f cs in
    let e : total_by f (cells c.1 ++ stream_cells cs) ≡ total_by f (cells c.1) + total_by f (stream_cells cs) = total-append f (cells c.1) (stream_cells cs) in omega arith

pub rows_total : (items : List Chunk) → in_all (λ p. length (cells p)) items ≡ length (stream_cells items)
rows_total [] = refl
rows_total (c ∷ cs) =
    let r : in_all (λ p. length (cells p)) cs ≡ length (stream_cells cs) = rows_total cs in
    let e : length (cells c.1 ++ stream_cells cs) ≡ length (cells c.1) + length (stream_cells cs) = length-append (cells c.1) (stream_cells cs) in omega arith

abbrev pub whole_blocks : ℕ → BlockOptions
whole_blocks len = record { minimum = 0; multiple = len; target = None; canonicalize = false }

module _ (len : ℕ) (t : Ty) (positive : 0 < len) where
  -- ---- one chunk

  one_point : (a n : ℕ) → n ≤ len → check_points len a n ≡ (a + n) ∷ []
  one_point a n h =
      let none : (n - 1) / len ≡ 0 = div-eq_of_lt (let l : n - 1 < len = omega arith in l) in
      ap (λ z. steps a len z ++ ((a + n) ∷ [])) none

  one_block : (n : ℕ) → len ≤ n → n < len + len → cut_rows len n ≡ len
  one_block n l h =
      let e : n / len ≡ 1 = div-eq_of_lt-le len (let k : 1 * len ≤ n = omega arith in k) (let k : n < (1 + 1) * len = omega arith in k) in
      ap (λ z. len * z) e ∙ (let k : len * 1 ≡ len = omega arith in k)

  -- no block leaves, or one of a block's rows
  abbrev Sizes : List CellData → List ℕ → Type 0
  Sizes rows ks = ((ks ≡ []) × (length rows < len)) ⊎ ((ks ≡ len ∷ []) × (len ≤ length rows) × (length rows < len + len))

  cut_once : (rows : List CellData) (p : ℕ) → p ≡ length rows → length rows < len + len → Sizes rows (block_sizes len 0 t 0 rows (p ∷ []))
  cut_once rows p e h = go (nat_le len (p - 0)) refl
    where
      go : (b : Bool) → nat_le len (p - 0) ≡ b
          → Sizes rows (if b && nat_le 0 (total_by (cell_size t) (take (p - 0) rows)) then cut_rows len (p - 0) ∷ [] else [])
      go true k = inr (
        ap₂ (λ x y. if x then y ∷ [] else []) (let z : nat_le 0 (total_by (cell_size t) (take (p - 0) rows)) ≡ true = grind (arith, nat_tests) in z)
            (one_block (p - 0) (let l : len ≤ p - 0 = grind (arith, nat_tests) in l) (omega arith)),
        (let l : len ≤ p - 0 = grind (arith, nat_tests) in omega arith),
        h,
      )
      go false k = inl (refl, (let l : p - 0 < len = grind (arith, nat_tests) in omega arith))

  sizes_are : (rows : List CellData) (c : ChunkData) → length rows < len → length (cells c) ≤ len → Sizes (rows ++ cells c) (sizes_at (whole_blocks len) t rows c)
  sizes_are rows c h k =
      let e : length (rows ++ cells c) ≡ length rows + length (cells c) = length-append rows (cells c) in
      subst (λ z. Sizes (rows ++ cells c) (block_sizes len 0 t 0 (rows ++ cells c) z)) (sym (one_point (length rows) (length (cells c)) k))
      (cut_once (rows ++ cells c) (length rows + length (cells c)) (sym e) (omega arith))

  -- ---- what leaves and what is held

  abbrev pub AllFull : List ChunkData → Type 0
  AllFull [] = Unit {0}
  AllFull (p ∷ ps) = (length (cells p) ≡ len) × AllFull ps

  pub record Left (rows : List CellData) (ks : List ℕ) : Type 0 where
    pub full : AllFull (cut_off t rows ks)
    pub few : length (cut_off t rows ks) ≤ 1
    pub rest : length (left_over rows ks) < len

  left_of : (rows : List CellData) (ks : List ℕ) → Sizes rows ks → Left rows ks
  left_of rows ks (inl h) = subst (Left rows) (sym h.0) (record { full = tt; few = omega arith; rest = h.1 })
  left_of rows ks (inr h) = subst (Left rows) (sym h.0) (record {
    full = (length-take-le len rows h.1, tt);
    few = omega arith;
    rest = (let e : length (drop len rows) ≡ length rows - len = length-drop len rows in let a : length rows < len + len = h.2 in omega arith);
  })

  pub at_chunk : (rows : List CellData) (c : ChunkData) → length rows < len → length (cells c) ≤ len → Left (rows ++ cells c) (sizes_at (whole_blocks len) t rows c)
  at_chunk rows c h k = left_of (rows ++ cells c) (sizes_at (whole_blocks len) t rows c) (sizes_are rows c h k)

  -- ---- streams

  full_first : (c : Chunk) (cs : List Chunk) → length (cells c.1) ≡ len → Zones len cs → Zones len (c ∷ cs)
  full_first c [] e h = (omega arith, omega arith)
  full_first c (d ∷ cs) e h = (e, h)

  full_then : (p : List ℕ) (r : ℕ) (ps : List ChunkData) (cs : List Chunk) → AllFull ps → Zones len cs → Zones len (ranked p r ps ++ cs)
  full_then p r [] cs g h = h
  full_then p r (q ∷ ps) cs g h = full_first (under p r, q) (ranked p (suc r) ps ++ cs) g.0 (full_then p (suc r) ps cs g.1 h)

  full_last : (p : List ℕ) (r : ℕ) (ps : List ChunkData) (rows : List CellData) → AllFull ps → length rows < len → Zones len (ranked p r (ps ++ last_block t rows))
  full_last p r [] [] g h = tt
  full_last p r [] (c ∷ cs) g h = (omega arith, omega arith)
  full_last p r (q ∷ ps) rows g h = full_first (under p r, q) (ranked p (suc r) (ps ++ last_block t rows)) g.0 (full_last p (suc r) ps rows g.1 h)

  zones_from : (rows : List CellData) (items : List Chunk) → length rows < len → Short len items → Zones len (regrouped (blocks (whole_blocks len) t) rows items true)
  zones_from rows [] h s = tt
  zones_from rows (c ∷ []) h s =
      let l : Left (rows ++ cells c.1) (sizes_at (whole_blocks len) t rows c.1) = at_chunk rows c.1 h s.0 in
      full_last c.0 0 _ _ l.full l.rest
  zones_from rows (c ∷ d ∷ cs) h s =
      let l : Left (rows ++ cells c.1) (sizes_at (whole_blocks len) t rows c.1) = at_chunk rows c.1 h s.0 in
      full_then c.0 0 _ _ l.full (zones_from ((blocks (whole_blocks len) t).holds rows c.1) (d ∷ cs) l.rest s.1)

  pub blocks_are_zones : (items : List Chunk) → Short len items → Zones len (regrouped (blocks (whole_blocks len) t) [] items true)
  blocks_are_zones items s = zones_from [] items positive s

  pub zones_few : (items : List Chunk) → Zones len items → length items ≤ length (stream_cells items)
  zones_few [] h = omega arith
  zones_few (c ∷ []) h =
      let e : length (cells c.1 ++ []) ≡ length (cells c.1) + 0 = length-append (cells c.1) [] in let k : 0 < length (cells c.1) = h.0 in omega arith
  zones_few (c ∷ d ∷ cs) h =
      let e : length (cells c.1 ++ stream_cells (d ∷ cs)) ≡ length (cells c.1) + length (stream_cells (d ∷ cs)) = length-append (cells c.1) (stream_cells (d ∷ cs)) in
      let k : length (cells c.1) ≡ len = h.0 in
      let r : length (d ∷ cs) ≤ length (stream_cells (d ∷ cs)) = zones_few (d ∷ cs) h.1 in omega arith

  -- ---- blocks are plain

  cut_plain : (rows : List CellData) (ks : List ℕ) → AllPlain t (cut_off t rows ks)
  cut_plain rows [] = tt
  cut_plain rows (k ∷ ks) = (refl, cut_plain (drop k rows) ks)

  last_plain : (rows : List CellData) → AllPlain t (last_block t rows)
  last_plain [] = tt
  last_plain (c ∷ cs) = (refl, tt)

  plain_ranked : (p : List ℕ) (r : ℕ) (ps : List ChunkData) → AllPlain t ps → AllPlain t (chunk_pieces (ranked p r ps))
  plain_ranked p r ps h = subst (AllPlain t) (sym (ranked_pieces p r ps)) h

  plain_from : (rows : List CellData) (items : List Chunk) → AllPlain t (chunk_pieces (regrouped (blocks (whole_blocks len) t) rows items true))
  plain_from rows [] = tt
  plain_from rows (c ∷ []) = plain_ranked c.0 0 _ (plain_append t _ _ (cut_plain (rows ++ cells c.1) (sizes_at (whole_blocks len) t rows c.1)) (last_plain _))
  plain_from rows (c ∷ d ∷ cs) =
      let leaves : List Chunk = ranked c.0 0 ((blocks (whole_blocks len) t).leaves rows c.1) in
      let later : List Chunk = regrouped (blocks (whole_blocks len) t) ((blocks (whole_blocks len) t).holds rows c.1) (d ∷ cs) true in
      subst (AllPlain t) (sym (chunk_pieces-append leaves later))
      (plain_append t (chunk_pieces leaves) (chunk_pieces later) (plain_ranked c.0 0 _ (cut_plain (rows ++ cells c.1) (sizes_at (whole_blocks len) t rows c.1)))
      (plain_from ((blocks (whole_blocks len) t).holds rows c.1) (d ∷ cs)))

  pub blocks_plain : (items : List Chunk) → AllPlain t (chunk_pieces (regrouped (blocks (whole_blocks len) t) [] items true))
  blocks_plain items = plain_from [] items
