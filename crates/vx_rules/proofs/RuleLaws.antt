-- The laws of regrouping and of runs.
use Rattle.std.proofs.Common.{◌≡◌, ℕ, zero, suc, ◌+◌, ◌-◌, ◌*◌, ◌/◌, ◌<◌, ◌≤◌, ◌^◌, ◌⊎◌, ◌&&◌, Bool, true, false, List, [], ◌∷◌, ◌++◌, map, length, take, drop, Option, Some, None, refl, sym, ap, ap₂, ◌∙◌, subst, inl, inr, ⊎_elim, arith, append_assoc, length-append, length-take, length-drop}
use Rattle.std.specs.Prelude.{if◌then◌else◌, nat_le, min, max}
use Rattle.std.proofs.lemmas.List.{append-nil, length-map, map-append, length-take-le}
use Rattle.std.proofs.lemmas.Bool.{cases_Bool, true≢false, and_parts}
use Rattle.std.proofs.lemmas.Bool.Decides.{nat_tests}
use Rattle.std.proofs.Math.Nat.{div-eq-sub-div, mul-div-le, mul-suc}
use Rattle.vx_model.specs.Words.{total_by}
use Rattle.vx_model.specs.Ty.{Ty}
use Rattle.vx_model.specs.CellData.{CellData, cell_size}
use Rattle.vx_model.specs.ValueData.{value}
use Rattle.vx_model.specs.ChunkData.{ChunkData, plain_piece, cells, held}
use Rattle.vx_path.specs.Path.{under}
use Rattle.vx_layout_spec.specs.Rows.{dict_rows}
use Rattle.vx_rules.specs.Stream.{Chunk, stream_cells, piece_cells, Chunks, PiecesOf}
use Rattle.vx_rules.specs.Regroup.{Rule, ranked, regrouped}
use Rattle.vx_model.specs.ElementSize.{element_size}
use Rattle.vx_rules.specs.Blocks.{BlockOptions, aimed, block_len, steps, check_points, is_cut, cut_rows, block_sizes, cut_off, left_over, last_block, sizes_at, blocks}
use Rattle.vx_rules.specs.Flushes.{twice, flushes}
use Rattle.vx_rules.specs.Columns.{offset_cell}
use Rattle.vx_rules.specs.Runs.{DictOptions, with_cell, place_in, cells_fit, Cut, behind, stretches, cut_at, Run, runs, distinct_from}
use Rattle.vx_rules.specs.Statements.{KeepsRows, RegroupingKeepsRows, AllButLast, IsMultiple, BlocksAreMultiples, held_after, BufferHoldsLess, RunsGive, RunsGiveRows, CutLongest, RunsAreLongest}
use Rattle.vx_rules.proofs.RegroupLaws.{regrouped_rows}
use Rattle.vx_rules.proofs.BlockLaws.{Rows, blocks_regroup}
use Rattle.vx_rules.proofs.FlushLaws.{flushes_regroup, collected_rows, holds_less}
use Rattle.vx_rules.proofs.RunLaws.{decodes_rows}
use Rattle.vx_rules.proofs.RunStreams.{Ended, AllEnded, runs_end}

pub regrouping_keeps_rows : RegroupingKeepsRows
regrouping_keeps_rows t items = record {
  by_blocks = λ o. regrouped_rows (List CellData) t (blocks o t) (λ rows. rows) (Rows t) (blocks_regroup o t) items;
  by_bytes = λ size. regrouped_rows (List ChunkData) t (flushes size) piece_cells (PiecesOf t) (flushes_regroup size t) items;
  into_one = collected_rows t items;
}

-- ---- blocks

le_of : (a b : ℕ) → nat_le a b ≡ true → a ≤ b
le_of a b h = grind (arith, nat_tests)

len_positive : (o : BlockOptions) (t : Ty) → 0 < o.multiple → 0 < block_len o t
len_positive o t h = go o.target (element_size t)
  where
    go : (a b : Option ℕ) → 0 < aimed o.multiple a b
    go None None = h
    go None (Some b) = h
    go (Some a) None = h
    go (Some a) (Some b) = let k : 1 ≤ max 1 (min o.multiple (Rattle.vx_rules.specs.Blocks.rounded_up a b)) = omega arith in k

-- points that lie within so many rows
abbrev pub WithinRows : ℕ → List ℕ → Type 0
WithinRows n [] = Unit {0}
WithinRows n (p ∷ ps) = (p ≤ n) × WithinRows n ps

-- sizes of blocks that lie within the rows
abbrev pub Multiples : ℕ → List CellData → List ℕ → Type 0
Multiples len rows [] = Unit {0}
Multiples len rows (k ∷ ks) = (q : ℕ) × (k ≡ len * suc q) × (k ≤ length rows) × Multiples len (drop k rows) ks

some_blocks : (len n : ℕ) → 0 < len → len ≤ n → (q : ℕ) × (cut_rows len n ≡ len * suc q)
some_blocks len n h l = ((n - len) / len, ap (λ z. len * z) (div-eq-sub-div h l ∙ (let e : (n - len) / len + 1 ≡ suc ((n - len) / len) = omega arith in e)))

sizes_are : (len minimum : ℕ) (t : Ty) (c : ℕ) (rows : List CellData) (ps : List ℕ) → 0 < len → WithinRows (c + length rows) ps → Multiples len rows (block_sizes len minimum t c rows ps)
sizes_are len minimum t c rows [] h w = tt
sizes_are len minimum t c rows (p ∷ ps) h w = ⊎_elim
    (λ (y : is_cut len minimum t rows (p - c) ≡ true).
    subst (λ b. Multiples len rows (if b then cut else kept)) (sym y) (
      (some_blocks len (p - c) h (le_of len (p - c) (and_parts (nat_le len (p - c)) _ y).0)).0,
      (some_blocks len (p - c) h (le_of len (p - c) (and_parts (nat_le len (p - c)) _ y).0)).1,
      (let a : cut_rows len (p - c) ≤ p - c = mul-div-le (p - c) len in let b : p ≤ c + length rows = w.0 in omega arith),
      sizes_are len minimum t (c + cut_rows len (p - c)) (drop (cut_rows len (p - c)) rows) ps h
          (moved (let a : cut_rows len (p - c) ≤ p - c = mul-div-le (p - c) len in let b : p ≤ c + length rows = w.0 in let l : length (drop (cut_rows len (p - c)) rows) ≡ length rows - cut_rows len (p - c) = length-drop (cut_rows len (p - c)) rows in
          let e : c + length rows ≡ c + cut_rows len (p - c) + length (drop (cut_rows len (p - c)) rows) = omega arith in e) w.1),
    ))
    (λ (n : is_cut len minimum t rows (p - c) ≡ false). subst (λ b. Multiples len rows (if b then cut else kept)) (sym n) (sizes_are len minimum t c rows ps h w.1))
    (cases_Bool (is_cut len minimum t rows (p - c)))
  where
    cut : List ℕ
    cut = cut_rows len (p - c) ∷ block_sizes len minimum t (c + cut_rows len (p - c)) (drop (cut_rows len (p - c)) rows) ps

    kept : List ℕ
    kept = block_sizes len minimum t c rows ps

    moved : {m k : ℕ} → m ≡ k → WithinRows m ps → WithinRows k ps
    moved e x = subst (λ z. WithinRows z ps) e x

steps_within : (len a n total : ℕ) → a + len * n ≤ total → WithinRows total (steps a len n)
steps_within len a zero total h = tt
steps_within len a (suc n) total h =
    let e : len * suc n ≡ len * n + len = mul-suc-at len n in
    ((let k : a + len * suc n ≤ total = h in omega arith), steps_within len (a + len) n total (let k : a + len * suc n ≤ total = h in omega arith))
  where
    mul-suc-at : (x y : ℕ) → x * suc y ≡ x * y + x
    mul-suc-at x y = omega (arith, mul-suc x y)

within_append : (total : ℕ) (ps qs : List ℕ) → WithinRows total ps → WithinRows total qs → WithinRows total (ps ++ qs)
within_append total [] qs g h = h
within_append total (p ∷ ps) qs g h = (g.0, within_append total ps qs g.1 h)

points_within : (len a n : ℕ) → WithinRows (a + n) (check_points len a n)
points_within len a n =
    within_append (a + n) (steps a len ((n - 1) / len)) ((a + n) ∷ [])
    (steps_within len a ((n - 1) / len) (a + n) (let k : len * ((n - 1) / len) ≤ n - 1 = mul-div-le (n - 1) len in omega arith)) (omega arith, tt)

AllMultiples : ℕ → List Chunk → Type 0
AllMultiples len [] = Unit {0}
AllMultiples len (c ∷ cs) = IsMultiple len c × AllMultiples len cs

pieces_are : (len : ℕ) (t : Ty) (p : List ℕ) (r : ℕ) (rows : List CellData) (ks : List ℕ) → Multiples len rows ks → AllMultiples len (ranked p r (cut_off t rows ks))
unfolding AllMultiples
pieces_are len t p r rows [] h = tt
pieces_are len t p r rows (k ∷ ks) h = ((h.0, length-take-le k rows h.2 ∙ h.1), pieces_are len t p (suc r) (drop k rows) ks h.3)

but_last : (len : ℕ) (xs ys : List Chunk) → AllMultiples len xs → AllButLast (IsMultiple len) ys → AllButLast (IsMultiple len) (xs ++ ys)
unfolding AllMultiples
but_last len [] ys g h = h
but_last len (x ∷ []) [] g h = tt
but_last len (x ∷ []) (y ∷ ys) g h = (g.0, h)
but_last len (x ∷ z ∷ xs) ys g h = (g.0, but_last len (z ∷ xs) ys g.1 h)

ranked_append : (p : List ℕ) (r : ℕ) (xs ys : List ChunkData) → ranked p r (xs ++ ys) ≡ ranked p r xs ++ ranked p (r + length xs) ys
ranked_append p r [] ys = ap (λ z. ranked p z ys) (let h : r ≡ r + 0 = omega arith in h)
ranked_append p r (x ∷ xs) ys =
    ap (λ (z : List Chunk). (under p r, x) ∷ z) (ranked_append p (suc r) xs ys ∙ ap (λ z. ranked p (suc r) xs ++ ranked p z ys) (let h : suc r + length xs ≡ r + suc (length xs) = omega arith in h))

last_alone : (len : ℕ) (t : Ty) (p : List ℕ) (r : ℕ) (rows : List CellData) → AllButLast (IsMultiple len) (ranked p r (last_block t rows))
last_alone len t p r [] = tt
last_alone len t p r (c ∷ cs) = tt

module _ (o : BlockOptions) (t : Ty) (positive : 0 < o.multiple) where
  at_sizes : (rows : List CellData) (c : ChunkData) → Multiples (block_len o t) (rows ++ cells c) (sizes_at o t rows c)
  at_sizes rows c =
      sizes_are (block_len o t) o.minimum t 0 (rows ++ cells c) (check_points (block_len o t) (length rows) (length (cells c))) (len_positive o t positive)
      (subst (λ z. WithinRows z (check_points (block_len o t) (length rows) (length (cells c)))) (sym (length-append rows (cells c)) ∙ (let h : length (rows ++ cells c) ≡ 0 + length (rows ++ cells c) = omega arith in h))
      (points_within (block_len o t) (length rows) (length (cells c))))

  multiples_from : (rows : List CellData) (items : List Chunk) (ended : Bool) → AllButLast (IsMultiple (block_len o t)) (regrouped (blocks o t) rows items ended)
  multiples_from rows [] ended = tt
  multiples_from rows (c ∷ []) false = tt
  multiples_from rows (c ∷ []) true =
      subst (AllButLast (IsMultiple (block_len o t))) (sym (ranked_append c.0 0 (cut_off t (rows ++ cells c.1) (sizes_at o t rows c.1)) (last_block t (left_over (rows ++ cells c.1) (sizes_at o t rows c.1)))))
      (but_last (block_len o t) (ranked c.0 0 (cut_off t (rows ++ cells c.1) (sizes_at o t rows c.1))) (ranked c.0 (0 + length (cut_off t (rows ++ cells c.1) (sizes_at o t rows c.1))) (last_block t (left_over (rows ++ cells c.1) (sizes_at o t rows c.1))))
      (pieces_are (block_len o t) t c.0 0 (rows ++ cells c.1) (sizes_at o t rows c.1) (at_sizes rows c.1))
      (last_alone (block_len o t) t c.0 (0 + length (cut_off t (rows ++ cells c.1) (sizes_at o t rows c.1))) (left_over (rows ++ cells c.1) (sizes_at o t rows c.1))))
  multiples_from rows (c ∷ d ∷ cs) ended =
      but_last (block_len o t) (ranked c.0 0 ((blocks o t).leaves rows c.1)) (regrouped (blocks o t) ((blocks o t).holds rows c.1) (d ∷ cs) ended)
      (pieces_are (block_len o t) t c.0 0 (rows ++ cells c.1) (sizes_at o t rows c.1) (at_sizes rows c.1))
      (multiples_from ((blocks o t).holds rows c.1) (d ∷ cs) ended)

pub blocks_are_multiples : BlocksAreMultiples
blocks_are_multiples o t items ended h = multiples_from o t h [] items ended

-- ---- buffers

held_less_from : (size : ℕ) (ps cs : List ChunkData) → 0 < size → size < 2 ^ 64 - 1 → total_by held ps < twice size → total_by held (held_after size ps cs) < twice size
held_less_from size ps [] a b h = h
held_less_from size ps (c ∷ cs) a b h = held_less_from size ((flushes size).holds ps c) cs a b (holds_less size ps c a b)

pub buffer_holds_less : BufferHoldsLess
buffer_holds_less size cs a b = held_less_from size [] cs a b (omega arith)

-- ---- runs

runs_give_from : (o : DictOptions) (t : Ty) (rs : List Run) (rows : List CellData) → AllEnded o t rs rows → RunsGive rs rows
runs_give_from o t [] rows h = h
runs_give_from o t (r ∷ rs) rows h =
    let e : Ended o t r h.0 = h.3 in (
      h.0,
      h.1,
      h.2,
      ap₂ (λ x y. dict_rows (map value x ∷ map value y ∷ [])) e.values_cells e.codes_cells ∙ decodes_rows e.distinct e.codes h.0 e.decodes,
      runs_give_from o t rs h.1 h.4,
    )

pub runs_give_rows : RunsGiveRows
runs_give_rows o t c cs d of = runs_give_from o t (runs o t (c ∷ cs) true) (stream_cells (c ∷ cs)) (runs_end o t d c cs of)

distinct_more : (ds done : List CellData) (c : CellData) → distinct_from ds (done ++ (c ∷ [])) ≡ with_cell (distinct_from ds done) c
distinct_more ds [] c = refl
distinct_more ds (d ∷ done) c = distinct_more (with_cell ds d) done c

longest_from : (o : DictOptions) (t : Ty) (first ds : List CellData) (codes : List ℕ) (done rows : List CellData) → ds ≡ distinct_from first done → (done ≡ []) ⊎ (cells_fit o t ds ≡ true)
    → CutLongest o t first (stretches o t ds codes rows).closed (stretches o t ds codes rows).distinct (done ++ rows)
longest_from o t first ds codes done [] e f =
    (e ∙ ap (distinct_from first) (sym (append-nil done)), ⊎_elim (λ n. inl (append-nil done ∙ n)) (λ y. inr y) f)
longest_from o t first ds codes done (c ∷ cs) e f = ⊎_elim
    (λ (y : cells_fit o t (with_cell ds c) ≡ true).
    subst (λ b. Given (if b then goes_on else ends_here)) (sym y)
    (subst (CutLongest o t first goes_on.closed goes_on.distinct) (append_assoc done (c ∷ []) cs)
    (longest_from o t first (with_cell ds c) (codes ++ (place_in c (with_cell ds c) ∷ [])) (done ++ (c ∷ [])) cs
    (ap (λ z. with_cell z c) e ∙ sym (distinct_more first done c)) (inr y))))
    (λ (n : cells_fit o t (with_cell ds c) ≡ false).
    subst (λ b. Given (if b then goes_on else ends_here)) (sym n)
    (done, c, cs, refl, e, f, n, longest_from o t [] (c ∷ []) (0 ∷ []) (c ∷ []) cs refl (inr refl)))
    (cases_Bool (cells_fit o t (with_cell ds c)))
  where
    goes_on : Cut
    goes_on = stretches o t (with_cell ds c) (codes ++ (place_in c (with_cell ds c) ∷ [])) cs

    ends_here : Cut
    ends_here = behind codes ds (stretches o t (c ∷ []) (0 ∷ []) cs)

    Given : Cut → Type 0
    Given z = CutLongest o t first z.closed z.distinct (done ++ (c ∷ cs))

pub runs_are_longest : RunsAreLongest
runs_are_longest o t ds c = longest_from o t ds ds [] [] (cells c.1) refl (inl refl)
