-- Runs: what is to be done against the abstract acts, the children that there are then, and the rows.
use Rattle.std.proofs.Common.{◌≡◌, ◌+◌, ◌*◌, ◌∷◌, ◌++◌, ◌∙◌, ℕ, zero, suc, Bool, true, false, if◌then◌else◌, List, length, refl, ap, arith, length-append, []}
use Rattle.vx_model.specs.Words.{total_by}
use Rattle.vx_model.specs.Ty.{Ty}
use Rattle.vx_model.specs.CellData.{CellData}
use Rattle.vx_model.specs.ChunkData.{cells}
use Rattle.vx_path.specs.Path.{Eof, under, next}
use Rattle.vx_layout_spec.specs.LayoutTree.{LayoutData, row_count}
use Rattle.vx_rules.specs.Runs.{DictOptions, with_cell, place_in, cells_fit, stretches, behind, codes_piece, code_type}
use Rattle.vx_plan.specs.PlanData.{Setting, Item, rows_in}
use Rattle.vx_machine_turns.specs.Locals.{DictNode, RunsSoFar}
use Rattle.vx_machine_turns.specs.Acts.{Act}
use Rattle.vx_machine_turns.specs.Dict.{Stretch, codes_put, values_put, ended_puts, cut_puts, base_after, ended_rows, open_rows, next_cut, after_cut, last_stretches}
use Rattle.vx_machine_state.specs.Coder.{coder_of}
use Rattle.vx_machine_state.specs.Coding.{puts_codes, ended_deeds, cut_deeds, deeds_at, last_deeds, run_rows, runs_laid}
use Rattle.vx_machine_view.specs.Deeds.{deed_act, deed_acts, run_types, Going, run_count, summed, Cutting}

-- ---- acts

codes_act : (s : Setting) (n : DictNode) (p : List ℕ) (rank j : ℕ) (e : Eof) (b : Bool) (codes : List ℕ)
    → codes_put s n p rank j e b codes ≡ deed_act s n (puts_codes j e b (under p rank, codes_piece n.options codes))
codes_act s n p rank j e true codes = refl
codes_act s n p rank j e false codes = refl

cut_acts : (s : Setting) (n : DictNode) (p : List ℕ) (rank j : ℕ) (e : Eof) (b : Bool) (xs : List Stretch) (codes : List ℕ)
    → cut_puts s n p rank j e b xs codes ≡ deed_acts s n (cut_deeds (coder_of n) p rank j e b xs codes)
cut_acts s n p rank j e b [] codes = ap (λ (z : Act). z ∷ []) (codes_act s n p rank j e b codes)
cut_acts s n p rank j e b (x ∷ xs) codes =
    ap (λ (z : Act). z ∷ values_put n p (suc rank) j x.1 ∷ cut_puts s n p (rank + 2) (suc (suc j)) (next (next e)) false xs codes) (codes_act s n p rank j e b x.0)
    ∙ ap (λ (z : List Act). deed_act s n (puts_codes j e b (under p rank, codes_piece n.options x.0)) ∷ values_put n p (suc rank) j x.1 ∷ z) (cut_acts s n p (rank + 2) (suc (suc j)) (next (next e)) false xs codes)

ended_acts : (s : Setting) (n : DictNode) (p : List ℕ) (rank j : ℕ) (e : Eof) (b : Bool) (xs : List Stretch)
    → ended_puts s n p rank j e b xs ≡ deed_acts s n (ended_deeds (coder_of n) p rank j e b xs)
ended_acts s n p rank j e b [] = refl
ended_acts s n p rank j e b (x ∷ xs) =
    ap (λ (z : Act). z ∷ values_put n p (suc rank) j x.1 ∷ ended_puts s n p (rank + 2) (suc (suc j)) (next (next e)) false xs) (codes_act s n p rank j e b x.0)
    ∙ ap (λ (z : List Act). deed_act s n (puts_codes j e b (under p rank, codes_piece n.options x.0)) ∷ values_put n p (suc rank) j x.1 ∷ z) (ended_acts s n p (rank + 2) (suc (suc j)) (next (next e)) false xs)

pub acts_at : (s : Setting) (n : DictNode) (r : RunsSoFar) (j : Item) → cut_puts s n j.0 0 r.base r.eof r.begun (next_cut n r j).closed (next_cut n r j).codes ≡ deed_acts s n (deeds_at (coder_of n) r j)
acts_at s n r j = cut_acts s n j.0 0 r.base r.eof r.begun (next_cut n r j).closed (next_cut n r j).codes

pub last_acts : (s : Setting) (n : DictNode) (r : RunsSoFar) (j : Item) → ended_puts s n j.0 0 r.base r.eof r.begun (last_stretches n r j) ≡ deed_acts s n (last_deeds (coder_of n) r j)
last_acts s n r j = ended_acts s n j.0 0 r.base r.eof r.begun (last_stretches n r j)

-- ---- children

pub types_more : (o : DictOptions) (t : Ty) (k : ℕ) → run_types o t (suc k) ≡ run_types o t k ++ (code_type o ∷ t ∷ [])
types_more o t zero = refl
types_more o t (suc k) = ap (λ z. code_type o ∷ t ∷ z) (types_more o t k)

pub types_length : (o : DictOptions) (t : Ty) (k : ℕ) → length (run_types o t k) ≡ 2 * k
types_length o t zero = refl
types_length o t (suc k) = let e : length (run_types o t k) ≡ 2 * k = types_length o t k in let h : suc (suc (length (run_types o t k))) ≡ 2 * suc k = omega (arith, e) in h

abbrev At : Bool → ℕ → ℕ → Type 0
At true j k = j + 2 ≡ 2 * k
At false j k = j ≡ 2 * k

abbrev then_count : Bool → ℕ → ℕ
then_count true k = k
then_count false k = suc k

cut_going : (n : DictNode) (p : List ℕ) (rank j : ℕ) (e : Eof) (b : Bool) (xs : List Stretch) (codes : List ℕ) (k m : ℕ) → At b j k → m ≡ then_count b k + length xs
    → Going n k (cut_deeds (coder_of n) p rank j e b xs codes) m
cut_going n p rank j e true [] codes k m a is = (a, refl, (let h : k ≡ m = omega (arith, is) in h))
cut_going n p rank j e false [] codes k m a is = (a, refl, (let h : suc k ≡ m = omega (arith, is) in h))
cut_going n p rank j e true (x ∷ xs) codes k m a is =
    (a, refl, (a, refl, cut_going n p (rank + 2) (suc (suc j)) (next (next e)) false xs codes k m (let h : suc (suc j) ≡ 2 * k = omega (arith, a) in h) (let h : m ≡ suc k + length xs = omega (arith, is) in h)))
cut_going n p rank j e false (x ∷ xs) codes k m a is = (a, refl, ((let h : j + 2 ≡ 2 * suc k = omega (arith, a) in h), refl, cut_going n p (rank + 2) (suc (suc j)) (next (next e)) false xs codes (suc k) m (let h : suc (suc j) ≡ 2 * suc k = omega (arith, a) in h) (let h : m ≡ suc (suc k) + length xs = omega (arith, is) in h)))

fresh_going : (n : DictNode) (p : List ℕ) (rank j : ℕ) (e : Eof) (xs : List Stretch) (k m : ℕ) → j ≡ 2 * k → m ≡ k + length xs → Going n k (ended_deeds (coder_of n) p rank j e false xs) m
fresh_going n p rank j e [] k m a is = (let h : k ≡ m = omega (arith, is) in h)
fresh_going n p rank j e (x ∷ xs) k m a is = (a, refl, ((let h : j + 2 ≡ 2 * suc k = omega (arith, a) in h), refl, fresh_going n p (rank + 2) (suc (suc j)) (next (next e)) xs (suc k) m (let h : suc (suc j) ≡ 2 * suc k = omega (arith, a) in h) (let h : m ≡ suc k + length xs = omega (arith, is) in h)))

ended_going : (n : DictNode) (p : List ℕ) (rank j : ℕ) (e : Eof) (b : Bool) (x : Stretch) (xs : List Stretch) (k m : ℕ) → At b j k → m ≡ then_count b k + length xs
    → Going n k (ended_deeds (coder_of n) p rank j e b (x ∷ xs)) m
ended_going n p rank j e true x xs k m a is =
    (a, refl, (a, refl, fresh_going n p (rank + 2) (suc (suc j)) (next (next e)) xs k m (let h : suc (suc j) ≡ 2 * k = omega (arith, a) in h) (let h : m ≡ k + length xs = omega (arith, is) in h)))
ended_going n p rank j e false x xs k m a is = (a, refl, ((let h : j + 2 ≡ 2 * suc k = omega (arith, a) in h), refl, fresh_going n p (rank + 2) (suc (suc j)) (next (next e)) xs (suc k) m (let h : suc (suc j) ≡ 2 * suc k = omega (arith, a) in h) (let h : m ≡ suc k + length xs = omega (arith, is) in h)))

-- where the runs so far stand
at_runs : (b : Bool) (base ended : ℕ) → base ≡ 2 * ended → At b base (ended + (if b then 1 else 0))
at_runs true base ended e = (let h : base + 2 ≡ 2 * (ended + 1) = omega (arith, e) in h)
at_runs false base ended e = (let h : base ≡ 2 * (ended + 0) = omega (arith, e) in h)

count_then : (b : Bool) (ended : ℕ) → then_count b (ended + (if b then 1 else 0)) ≡ suc ended
count_then true ended = (let h : ended + 1 ≡ suc ended = omega arith in h)
count_then false ended = (let h : suc (ended + 0) ≡ suc ended = omega arith in h)

-- ---- rows

abbrev code_total : List Stretch → ℕ
code_total xs = total_by (λ (x : Stretch). length x.0) xs

stretch_rows : (o : DictOptions) (t : Ty) (ds : List CellData) (codes : List ℕ) (cs : List CellData)
    → code_total (stretches o t ds codes cs).closed + length (stretches o t ds codes cs).codes ≡ length codes + length cs
stretch_rows o t ds codes [] = let h : 0 + length codes ≡ length codes + 0 = omega arith in h
stretch_rows o t ds codes (c ∷ cs) =
    by (cells_fit o t (with_cell ds c)) (stretch_rows o t (with_cell ds c) (codes ++ (place_in c (with_cell ds c) ∷ [])) cs) (stretch_rows o t (c ∷ []) (0 ∷ []) cs)
  where
    by : (b : Bool)
        → code_total (stretches o t (with_cell ds c) (codes ++ (place_in c (with_cell ds c) ∷ [])) cs).closed + length (stretches o t (with_cell ds c) (codes ++ (place_in c (with_cell ds c) ∷ [])) cs).codes
        ≡ length (codes ++ (place_in c (with_cell ds c) ∷ [])) + length cs
        → code_total (stretches o t (c ∷ []) (0 ∷ []) cs).closed + length (stretches o t (c ∷ []) (0 ∷ []) cs).codes ≡ 1 + length cs
        → code_total (if b then stretches o t (with_cell ds c) (codes ++ (place_in c (with_cell ds c) ∷ [])) cs else behind codes ds (stretches o t (c ∷ []) (0 ∷ []) cs)).closed
        + length (if b then stretches o t (with_cell ds c) (codes ++ (place_in c (with_cell ds c) ∷ [])) cs else behind codes ds (stretches o t (c ∷ []) (0 ∷ []) cs)).codes
        ≡ length codes + suc (length cs)
    by true e f = let l : length (codes ++ (place_in c (with_cell ds c) ∷ [])) ≡ length codes + 1 = length-append codes (place_in c (with_cell ds c) ∷ []) in omega (arith, e, l)
    by false e f =
        let h : (length codes + code_total (stretches o t (c ∷ []) (0 ∷ []) cs).closed) + length (stretches o t (c ∷ []) (0 ∷ []) cs).codes ≡ length codes + suc (length cs) = omega (arith, f) in h

cut_rows : (n : DictNode) (r : RunsSoFar) (j : Item) → code_total (next_cut n r j).closed + length (next_cut n r j).codes ≡ rows_in j.1
cut_rows n r j = let h : code_total (next_cut n r j).closed + length (next_cut n r j).codes ≡ 0 + length (cells j.1) = stretch_rows n.options n.type r.distinct [] (cells j.1) in omega (arith, h)

summed_append : (ms ns : List ℕ) → summed (ms ++ ns) ≡ summed ms + summed ns
summed_append [] ns = let h : summed ns ≡ 0 + summed ns = omega arith in h
summed_append (m ∷ ms) ns = let e : summed (ms ++ ns) ≡ summed ms + summed ns = summed_append ms ns in let h : m + summed (ms ++ ns) ≡ (m + summed ms) + summed ns = omega (arith, e) in h

ended_sum : (rows : ℕ) (xs : List Stretch) (codes : List ℕ) → summed (ended_rows rows xs) + open_rows rows xs codes ≡ rows + (code_total xs + length codes)
ended_sum rows [] codes = let h : 0 + (rows + length codes) ≡ rows + (0 + length codes) = omega arith in h
ended_sum rows (x ∷ xs) codes =
    let e : summed (ended_rows 0 xs) + open_rows 0 xs codes ≡ 0 + (code_total xs + length codes) = ended_sum 0 xs codes in
    let h : ((rows + length x.0) + summed (ended_rows 0 xs)) + open_rows 0 xs codes ≡ rows + ((length x.0 + code_total xs) + length codes) = omega (arith, e) in h

ended_length : (rows : ℕ) (xs : List Stretch) → length (ended_rows rows xs) ≡ length xs
ended_length rows [] = refl
ended_length rows (x ∷ xs) = ap suc (ended_length 0 xs)

base_is_after : (base : ℕ) (xs : List Stretch) → base_after base xs ≡ base + 2 * length xs
base_is_after base [] = let h : base ≡ base + 2 * 0 = omega arith in h
base_is_after base (x ∷ xs) = let e : base_after (suc (suc base)) xs ≡ suc (suc base) + 2 * length xs = base_is_after (suc (suc base)) xs in let h : base_after (suc (suc base)) xs ≡ base + 2 * suc (length xs) = omega (arith, e) in h

-- the last stretch ends too
ended_last : (rows : ℕ) (xs : List Stretch) (x : Stretch) → summed (ended_rows rows (xs ++ (x ∷ []))) ≡ summed (ended_rows rows xs) + open_rows rows xs x.0
ended_last rows [] x = let h : (rows + length x.0) + 0 ≡ 0 + (rows + length x.0) = omega arith in h
ended_last rows (y ∷ xs) x =
    let e : summed (ended_rows 0 (xs ++ (x ∷ []))) ≡ summed (ended_rows 0 xs) + open_rows 0 xs x.0 = ended_last 0 xs x in
    let h : (rows + length y.0) + summed (ended_rows 0 (xs ++ (x ∷ []))) ≡ ((rows + length y.0) + summed (ended_rows 0 xs)) + open_rows 0 xs x.0 = omega (arith, e) in h

-- ---- where a chunk is cut

module _ (n : DictNode) (r : RunsSoFar) (j : Item) (rows : ℕ) (c : Cutting r j rows) where
  pub going_at : Going n (run_count r) (deeds_at (coder_of n) r j) (run_count (after_cut n r j))
  going_at =
      let xs : List Stretch = (next_cut n r j).closed in
      let a : length (r.ended ++ ended_rows r.rows xs) ≡ length r.ended + length (ended_rows r.rows xs) = length-append r.ended (ended_rows r.rows xs) in
      let b : length (ended_rows r.rows xs) ≡ length xs = ended_length r.rows xs in
      let d : then_count r.begun (run_count r) ≡ suc (length r.ended) = count_then r.begun (length r.ended) in
      let m : length (r.ended ++ ended_rows r.rows xs) + 1 ≡ then_count r.begun (run_count r) + length xs = omega (arith, a, b, d) in
      cut_going n j.0 0 r.base r.eof r.begun xs (next_cut n r j).codes (run_count r) (run_count (after_cut n r j)) (at_runs r.begun r.base (length r.ended) c.base_is) m

  pub cutting_at : (i : Item) → Cutting (after_cut n r j) i (rows + rows_in i.1)
  cutting_at i =
      let xs : List Stretch = (next_cut n r j).closed in
      let cs : List ℕ = (next_cut n r j).codes in
      let a : length (r.ended ++ ended_rows r.rows xs) ≡ length r.ended + length (ended_rows r.rows xs) = length-append r.ended (ended_rows r.rows xs) in
      let b : length (ended_rows r.rows xs) ≡ length xs = ended_length r.rows xs in
      let d : base_after r.base xs ≡ r.base + 2 * length xs = base_is_after r.base xs in
      let e : r.base ≡ 2 * length r.ended = c.base_is in
      let f : base_after r.base xs ≡ 2 * length (r.ended ++ ended_rows r.rows xs) = omega (arith, a, b, d, e) in
      let s1 : summed (r.ended ++ ended_rows r.rows xs) ≡ summed r.ended + summed (ended_rows r.rows xs) = summed_append r.ended (ended_rows r.rows xs) in
      let s2 : summed (ended_rows r.rows xs) + open_rows r.rows xs cs ≡ r.rows + (code_total xs + length cs) = ended_sum r.rows xs cs in
      let s3 : code_total xs + length cs ≡ rows_in j.1 = cut_rows n r j in
      let s4 : rows ≡ summed r.ended + (r.rows + rows_in j.1) = c.rows_are in
      let s5 : rows + rows_in i.1 ≡ summed (r.ended ++ ended_rows r.rows xs) + (open_rows r.rows xs cs + rows_in i.1) = omega (arith, s1, s2, s3, s4) in
      record { base_is = f; rows_are = s5 }

  -- at the end
  pub last_going : Going n (run_count r) (last_deeds (coder_of n) r j) (length (run_rows (coder_of n) r j))
  last_going = by (next_cut n r j).closed
    where
      last : Stretch
      last = ((next_cut n r j).codes, (next_cut n r j).distinct)

      by : (xs : List Stretch) → Going n (run_count r) (ended_deeds (coder_of n) j.0 0 r.base r.eof r.begun (xs ++ (last ∷ []))) (length (r.ended ++ ended_rows r.rows (xs ++ (last ∷ []))))
      by xs =
          let a : length (r.ended ++ ended_rows r.rows (xs ++ (last ∷ []))) ≡ length r.ended + length (ended_rows r.rows (xs ++ (last ∷ []))) = length-append r.ended (ended_rows r.rows (xs ++ (last ∷ []))) in
          let b : length (ended_rows r.rows (xs ++ (last ∷ []))) ≡ length (xs ++ (last ∷ [])) = ended_length r.rows (xs ++ (last ∷ [])) in
          let d : then_count r.begun (run_count r) ≡ suc (length r.ended) = count_then r.begun (length r.ended) in
          let f : length (r.ended ++ ended_rows r.rows (xs ++ (last ∷ []))) ≡ length r.ended + length (xs ++ (last ∷ [])) = omega (arith, a, b) in
          some (xs ++ (last ∷ [])) (let l : length (xs ++ (last ∷ [])) ≡ length xs + 1 = length-append xs (last ∷ []) in omega (arith, l)) (length (r.ended ++ ended_rows r.rows (xs ++ (last ∷ [])))) d f
        where
          some : (ys : List Stretch) → length ys ≡ suc (length xs) → (m : ℕ) → then_count r.begun (run_count r) ≡ suc (length r.ended) → m ≡ length r.ended + length ys
              → Going n (run_count r) (ended_deeds (coder_of n) j.0 0 r.base r.eof r.begun ys) m
          some [] l m d f = absurd (omega (arith, l))
          some (y ∷ ys) l m d f =
              ended_going n j.0 0 r.base r.eof r.begun y ys (run_count r) m (at_runs r.begun r.base (length r.ended) c.base_is) (let h : m ≡ then_count r.begun (run_count r) + length ys = omega (arith, d, f) in h)

  pub last_sum : rows ≡ summed (run_rows (coder_of n) r j)
  last_sum =
      let xs : List Stretch = (next_cut n r j).closed in
      let cs : List ℕ = (next_cut n r j).codes in
      let last : Stretch = (cs, (next_cut n r j).distinct) in
      let s1 : summed (r.ended ++ ended_rows r.rows (xs ++ (last ∷ []))) ≡ summed r.ended + summed (ended_rows r.rows (xs ++ (last ∷ []))) = summed_append r.ended (ended_rows r.rows (xs ++ (last ∷ []))) in
      let s2 : summed (ended_rows r.rows (xs ++ (last ∷ []))) ≡ summed (ended_rows r.rows xs) + open_rows r.rows xs cs = ended_last r.rows xs last in
      let s3 : summed (ended_rows r.rows xs) + open_rows r.rows xs cs ≡ r.rows + (code_total xs + length cs) = ended_sum r.rows xs cs in
      let s4 : code_total xs + length cs ≡ rows_in j.1 = cut_rows n r j in
      let s5 : rows ≡ summed r.ended + (r.rows + rows_in j.1) = c.rows_are in
      omega (arith, s1, s2, s3, s4, s5)

-- ---- layouts

pub runs_total : (t : Ty) (ns : List ℕ) (ls : List (LayoutData ℕ)) → length ls ≡ 2 * length ns → total_by row_count (runs_laid t ns ls) ≡ summed ns
runs_total t [] ls e = refl
runs_total t (n ∷ ns) [] e = absurd (omega (arith, e))
runs_total t (n ∷ ns) (l ∷ []) e = absurd (omega (arith, e))
runs_total t (n ∷ ns) (k ∷ v ∷ ls) e = ap (λ z. n + z) (runs_total t ns ls (let h : length ls ≡ 2 * length ns = omega (arith, e) in h))
