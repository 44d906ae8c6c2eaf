-- What a cutter gives of a chunk, against what is done with runs in plain data.
use Rattle.std.proofs.Common.{◌≡◌, ◌+◌, ◌*◌, ◌≤◌, ◌∷◌, ◌++◌, ◌∙◌, ℕ, suc, Bool, true, false, if◌then◌else◌, List, [], length, refl, sym, ap, subst, arith, length-append, append_assoc, append-nil}
use Rattle.std.proofs.lemmas.Bool.{true≢false, and_parts}
use Rattle.std.proofs.lemmas.List.{length-map}
use Rattle.vx_model.specs.Ty.{Ty}
use Rattle.vx_model.specs.CellData.{CellData}
use Rattle.vx_model.specs.ChunkData.{ChunkData, plain_piece, cells}
use Rattle.vx_path.specs.Path.{Eof, under, next}
use Rattle.vx_rules.specs.Columns.{offset_cell}
use Rattle.vx_rules.specs.Runs.{DictOptions, Cut, with_cell, place_in, cells_fit, stretches, behind as behind_run, codes_piece}
use Rattle.vx_react.specs.declared.place.Place.{Place}
use Rattle.vx_react.specs.declared.place.Place.TheVariants.{Child, Column, Codes, Values}
use Rattle.vx_react.specs.Reactor.{Output}
use Rattle.vx_react.specs.Cutter.{next_number, closed_outputs, open_outputs, cut_outputs}
use Rattle.vx_machine_turns.specs.Locals.{RunsSoFar}
use Rattle.vx_machine_turns.specs.Dict.{Stretch, base_after, eof_after, ended_rows, open_rows, rest_eof}
use Rattle.vx_machine_state.specs.Coder.{Coder}
use Rattle.vx_machine_state.specs.Coding.{cut_deeds, ended_deeds, deed_nexts}
use Rattle.vx_machine_nodes.specs.Runs.{behind, next_at, may_follow, is_codes, rows_of, behind_all, nexts_at, are_runs, all_rows}

-- ---- rows

abbrev code_total : List Stretch → ℕ
code_total [] = 0
code_total (x ∷ xs) = length x.0 + code_total xs

stretch_rows : (o : DictOptions) (t : Ty) (ds : List CellData) (codes : List ℕ) (cs : List CellData)
    → code_total (stretches o t ds codes cs).closed + length (stretches o t ds codes cs).codes ≡ length codes + length cs
stretch_rows o t ds codes [] = let h : 0 + length codes ≡ length codes + 0 = omega arith in h
stretch_rows o t ds codes (c ∷ cs) =
    by (cells_fit o t (with_cell ds c)) (stretch_rows o t (with_cell ds c) (codes ++ (place_in c (with_cell ds c) ∷ [])) cs) (stretch_rows o t (c ∷ []) (0 ∷ []) cs)
  where
    by : (b : Bool)
        → code_total (stretches o t (with_cell ds c) (codes ++ (place_in c (with_cell ds c) ∷ [])) cs).closed + length (stretches o t (with_cell ds c) (codes ++ (place_in c (with_cell ds c) ∷ [])) cs).codes
        ≡ length (codes ++ (place_in c (with_cell ds c) ∷ [])) + length cs
        → code_total (stretches o t (c ∷ []) (0 ∷ []) cs).closed + length (stretches o t (c ∷ []) (0 ∷ []) cs).codes ≡ 1 + length cs
        → code_total (if b then stretches o t (with_cell ds c) (codes ++ (place_in c (with_cell ds c) ∷ [])) cs else behind_run codes ds (stretches o t (c ∷ []) (0 ∷ []) cs)).closed
        + length (if b then stretches o t (with_cell ds c) (codes ++ (place_in c (with_cell ds c) ∷ [])) cs else behind_run codes ds (stretches o t (c ∷ []) (0 ∷ []) cs)).codes
        ≡ length codes + suc (length cs)
    by true e f = let l : length (codes ++ (place_in c (with_cell ds c) ∷ [])) ≡ length codes + 1 = length-append codes (place_in c (with_cell ds c) ∷ []) in omega (arith, e, l)
    by false e f =
        let h : (length codes + code_total (stretches o t (c ∷ []) (0 ∷ []) cs).closed) + length (stretches o t (c ∷ []) (0 ∷ []) cs).codes ≡ length codes + suc (length cs) = omega (arith, f) in h

codes_length : (o : DictOptions) (codes : List ℕ) → length (cells (codes_piece o codes)) ≡ length codes
codes_length o codes = length-map codes offset_cell

closed_total : (o : DictOptions) (t : Ty) (k : ℕ) (xs : List Stretch) (more : List Output) → all_rows (closed_outputs o t k xs more) ≡ code_total xs + all_rows more
closed_total o t k [] more = let h : all_rows more ≡ 0 + all_rows more = omega arith in h
closed_total o t k (x ∷ xs) more =
    let e : all_rows (closed_outputs o t (suc k) xs more) ≡ code_total xs + all_rows more = closed_total o t (suc k) xs more in
    let c : length (cells (codes_piece o x.0)) ≡ length x.0 = codes_length o x.0 in
    let h : length (cells (codes_piece o x.0)) + (0 + all_rows (closed_outputs o t (suc k) xs more)) ≡ (length x.0 + code_total xs) + all_rows more = omega (arith, e, c) in h

open_total : (o : DictOptions) (t : Ty) (k : ℕ) (codes : List ℕ) (ds : List CellData) (b : Bool) → all_rows (open_outputs o t k codes ds b) ≡ length codes
open_total o t k codes ds true = let c : length (cells (codes_piece o codes)) ≡ length codes = codes_length o codes in let h : length (cells (codes_piece o codes)) + (0 + 0) ≡ length codes = omega (arith, c) in h
open_total o t k codes ds false = let c : length (cells (codes_piece o codes)) ≡ length codes = codes_length o codes in let h : length (cells (codes_piece o codes)) + 0 ≡ length codes = omega (arith, c) in h

-- all rows of the chunk are codes of some run
pub cut_total : (o : DictOptions) (t : Ty) (k : ℕ) (ds : List CellData) (cs : List CellData) (b : Bool) → all_rows (cut_outputs o t k (stretches o t ds [] cs) b) ≡ length cs
cut_total o t k ds cs b =
    let cut = stretches o t ds [] cs in
    let e : all_rows (closed_outputs o t k cut.closed (open_outputs o t (next_number k cut.closed) cut.codes cut.distinct b)) ≡ code_total cut.closed + all_rows (open_outputs o t (next_number k cut.closed) cut.codes cut.distinct b)
    = closed_total o t k cut.closed (open_outputs o t (next_number k cut.closed) cut.codes cut.distinct b) in
    let f : all_rows (open_outputs o t (next_number k cut.closed) cut.codes cut.distinct b) ≡ length cut.codes = open_total o t (next_number k cut.closed) cut.codes cut.distinct b in
    let g : code_total cut.closed + length cut.codes ≡ 0 + length cs = stretch_rows o t ds [] cs in
    omega (arith, e, f, g)

-- ---- values come behind codes

closed_follow : (o : DictOptions) (t : Ty) (k : ℕ) (xs : List Stretch) (b : Bool) (more : List Output) → ((c : Bool) → are_runs c more ≡ true) → are_runs b (closed_outputs o t k xs more) ≡ true
closed_follow o t k [] b more h = h b
closed_follow o t k (x ∷ xs) b more h = closed_follow o t (suc k) xs false more h

pub cut_follow : (o : DictOptions) (t : Ty) (k : ℕ) (cut : Cut) (b last : Bool) → are_runs b (cut_outputs o t k cut last) ≡ true
cut_follow o t k cut b true = closed_follow o t k cut.closed b (open_outputs o t (next_number k cut.closed) cut.codes cut.distinct true) (λ c. refl)
cut_follow o t k cut b false = closed_follow o t k cut.closed b (open_outputs o t (next_number k cut.closed) cut.codes cut.distinct false) (λ c. refl)

-- ---- how many

closed_count : (o : DictOptions) (t : Ty) (k : ℕ) (xs : List Stretch) (more : List Output) → length (closed_outputs o t k xs more) ≡ 2 * length xs + length more
closed_count o t k [] more = let h : length more ≡ 2 * 0 + length more = omega arith in h
closed_count o t k (x ∷ xs) more =
    let e : length (closed_outputs o t (suc k) xs more) ≡ 2 * length xs + length more = closed_count o t (suc k) xs more in
    let h : suc (suc (length (closed_outputs o t (suc k) xs more))) ≡ 2 * suc (length xs) + length more = omega (arith, e) in h

pub cut_count : (o : DictOptions) (t : Ty) (k : ℕ) (cut : Cut) → length (cut_outputs o t k cut false) ≡ 2 * length cut.closed + 1
cut_count o t k cut = closed_count o t k cut.closed (open_outputs o t (next_number k cut.closed) cut.codes cut.distinct false)

pub last_count : (o : DictOptions) (t : Ty) (k : ℕ) (cut : Cut) → length (cut_outputs o t k cut true) ≡ 2 * suc (length cut.closed)
last_count o t k cut =
    let e : length (cut_outputs o t k cut true) ≡ 2 * length cut.closed + 2 = closed_count o t k cut.closed (open_outputs o t (next_number k cut.closed) cut.codes cut.distinct true) in
    omega (arith, e)

pub number_is : (k : ℕ) (xs : List Stretch) → next_number k xs ≡ k + length xs
number_is k [] = let h : k ≡ k + 0 = omega arith in h
number_is k (x ∷ xs) = let e : next_number (suc k) xs ≡ suc k + length xs = number_is (suc k) xs in let h : next_number (suc k) xs ≡ k + suc (length xs) = omega (arith, e) in h

pub ended_count : (rows : ℕ) (xs : List Stretch) → length (ended_rows rows xs) ≡ length xs
ended_count rows [] = refl
ended_count rows (x ∷ xs) = ap suc (ended_count 0 xs)

-- ---- what is to be done

two_more : (n : ℕ) → n + 2 ≡ suc (suc n)
two_more n = omega arith

module _ (n : Coder) (p : List ℕ) where
  cut_from : (r : RunsSoFar) (k rank : ℕ) (xs : List Stretch) (m : ℕ) (codes : List ℕ)
      → nexts_at n r p rank (closed_outputs n.options n.type k xs ((Codes m, codes_piece n.options codes) ∷ [])) ≡ deed_nexts n (cut_deeds n p rank r.base r.eof r.begun xs codes)
  cut_from r k rank [] m codes = refl
  cut_from r k rank (x ∷ xs) m codes =
      ap (λ z. next_at n r (Codes k) (under p rank, codes_piece n.options x.0) ∷ next_at n (behind r (Codes k) (codes_piece n.options x.0)) (Values k) (under p (suc rank), plain_piece n.type x.1) ∷ z)
      (cut_from (behind (behind r (Codes k) (codes_piece n.options x.0)) (Values k) (plain_piece n.type x.1)) (suc k) (suc (suc rank)) xs m codes
      ∙ ap (λ z. deed_nexts n (cut_deeds n p z (suc (suc r.base)) (next (next r.eof)) false xs codes)) (sym (two_more rank)))

  ended_from : (r : RunsSoFar) (k rank : ℕ) (xs : List Stretch) (m : ℕ) (codes : List ℕ) (ds : List CellData)
      → nexts_at n r p rank (closed_outputs n.options n.type k xs ((Codes m, codes_piece n.options codes) ∷ (Values m, plain_piece n.type ds) ∷ []))
      ≡ deed_nexts n (ended_deeds n p rank r.base r.eof r.begun (xs ++ ((codes, ds) ∷ [])))
  ended_from r k rank [] m codes ds = refl
  ended_from r k rank (x ∷ xs) m codes ds =
      ap (λ z. next_at n r (Codes k) (under p rank, codes_piece n.options x.0) ∷ next_at n (behind r (Codes k) (codes_piece n.options x.0)) (Values k) (under p (suc rank), plain_piece n.type x.1) ∷ z)
      (ended_from (behind (behind r (Codes k) (codes_piece n.options x.0)) (Values k) (plain_piece n.type x.1)) (suc k) (suc (suc rank)) xs m codes ds
      ∙ ap (λ z. deed_nexts n (ended_deeds n p z (suc (suc r.base)) (next (next r.eof)) false (xs ++ ((codes, ds) ∷ [])))) (sym (two_more rank)))

  pub cut_nexts : (r : RunsSoFar) (k : ℕ) (cut : Cut) → nexts_at n r p 0 (cut_outputs n.options n.type k cut false) ≡ deed_nexts n (cut_deeds n p 0 r.base r.eof r.begun cut.closed cut.codes)
  cut_nexts r k cut = cut_from r k 0 cut.closed (next_number k cut.closed) cut.codes

  pub last_nexts : (r : RunsSoFar) (k : ℕ) (cut : Cut)
      → nexts_at n r p 0 (cut_outputs n.options n.type k cut true) ≡ deed_nexts n (ended_deeds n p 0 r.base r.eof r.begun (cut.closed ++ ((cut.codes, cut.distinct) ∷ [])))
  last_nexts r k cut = ended_from r k 0 cut.closed (next_number k cut.closed) cut.codes cut.distinct

-- ---- how far the runs come

-- behind stretches that end, and the codes of the run that goes on
abbrev pub come_to : RunsSoFar → List Stretch → List ℕ → RunsSoFar
come_to r xs codes = record { base = base_after r.base xs; eof = eof_after r.eof xs; begun = true; distinct = r.distinct; rows = open_rows r.rows xs codes; ended = r.ended ++ ended_rows r.rows xs }

-- and behind all of them, once the last one ends too
abbrev pub end_at : RunsSoFar → List Stretch → List ℕ → RunsSoFar
end_at r xs codes = record {
  base = suc (suc (base_after r.base xs));
  eof = next (next (eof_after r.eof xs));
  begun = false;
  distinct = r.distinct;
  rows = 0;
  ended = (r.ended ++ ended_rows r.rows xs) ++ (open_rows r.rows xs codes ∷ []);
}

module _ (o : DictOptions) (t : Ty) where
  abbrev one_ended : RunsSoFar → ℕ → Stretch → RunsSoFar
  one_ended r k x = behind (behind r (Codes k) (codes_piece o x.0)) (Values k) (plain_piece t x.1)

  -- the rows so far, by what is in the codes
  ended_rows_are : (r : RunsSoFar) (k : ℕ) (x : Stretch) (xs : List Stretch) → (one_ended r k x).ended ++ ended_rows 0 xs ≡ r.ended ++ ended_rows r.rows (x ∷ xs)
  ended_rows_are r k x xs =
      append_assoc r.ended ((r.rows + length (cells (codes_piece o x.0))) ∷ []) (ended_rows 0 xs) ∙ ap (λ z. r.ended ++ ((r.rows + z) ∷ ended_rows 0 xs)) (codes_length o x.0)

  come_from : (r : RunsSoFar) (k : ℕ) (xs : List Stretch) (m : ℕ) (codes : List ℕ) → behind_all r (closed_outputs o t k xs ((Codes m, codes_piece o codes) ∷ [])) ≡ come_to r xs codes
  come_from r k [] m codes = λ j. record { base = r.base; eof = r.eof; begun = true; distinct = r.distinct; rows = r.rows + codes_length o codes j; ended = sym (append-nil r.ended) j }
  come_from r k (x ∷ xs) m codes =
      come_from (one_ended r k x) (suc k) xs m codes
      ∙ ap (λ z. record { base = base_after (suc (suc r.base)) xs; eof = eof_after (next (next r.eof)) xs; begun = true; distinct = r.distinct; rows = open_rows 0 xs codes; ended = z }) (ended_rows_are r k x xs)

  end_from : (r : RunsSoFar) (k : ℕ) (xs : List Stretch) (m : ℕ) (codes : List ℕ) (ds : List CellData)
      → behind_all r (closed_outputs o t k xs ((Codes m, codes_piece o codes) ∷ (Values m, plain_piece t ds) ∷ [])) ≡ end_at r xs codes
  end_from r k [] m codes ds = λ j. record {
    base = suc (suc r.base);
    eof = next (next r.eof);
    begun = false;
    distinct = r.distinct;
    rows = 0;
    ended = sym (append-nil r.ended) j ++ ((r.rows + codes_length o codes j) ∷ []);
  }
  end_from r k (x ∷ xs) m codes ds =
      end_from (one_ended r k x) (suc k) xs m codes ds
      ∙ ap (λ z. record { base = suc (suc (base_after (suc (suc r.base)) xs)); eof = next (next (eof_after (next (next r.eof)) xs)); begun = false; distinct = r.distinct; rows = 0; ended = z ++ (open_rows 0 xs codes ∷ []) })
      (ended_rows_are r k x xs)

  pub cut_behind : (r : RunsSoFar) (k : ℕ) (cut : Cut) → behind_all r (cut_outputs o t k cut false) ≡ come_to r cut.closed cut.codes
  cut_behind r k cut = come_from r k cut.closed (next_number k cut.closed) cut.codes

  pub last_behind : (r : RunsSoFar) (k : ℕ) (cut : Cut) → behind_all r (cut_outputs o t k cut true) ≡ end_at r cut.closed cut.codes
  last_behind r k cut = end_from r k cut.closed (next_number k cut.closed) cut.codes cut.distinct

-- the rows of all runs, where the last one ends too
pub rows_end : (rows : ℕ) (xs : List Stretch) (codes : List ℕ) (ds : List CellData) → ended_rows rows (xs ++ ((codes, ds) ∷ [])) ≡ ended_rows rows xs ++ (open_rows rows xs codes ∷ [])
rows_end rows [] codes ds = refl
rows_end rows (x ∷ xs) codes ds = ap (λ z. (rows + length x.0) ∷ z) (rows_end 0 xs codes ds)

-- ---- pointers go on

rest_at : (b : Bool) (e : Eof) → (if b then next (next e) else e).last ≤ (next (next e)).last
rest_at true e = (let h : (e.last + 1) + 1 ≤ (e.last + 1) + 1 = omega arith in h)
rest_at false e = (let h : e.last ≤ (e.last + 1) + 1 = omega arith in h)

-- values end a run that has begun
one_later : (r : RunsSoFar) (x : Place) (c : ChunkData) → may_follow r.begun x ≡ true → (rest_eof r).last ≤ (rest_eof (behind r x c)).last
one_later r (Codes k) c h = rest_at r.begun r.eof
one_later r (Values k) c h = subst (λ b. (if b then next (next r.eof) else r.eof).last ≤ (next (next r.eof)).last) (sym h) (rest_at true r.eof)
one_later r Child c h = absurd (true≢false (sym h))
one_later r (Column k) c h = absurd (true≢false (sym h))

pub begun_is : (r : RunsSoFar) (x : Place) (c : ChunkData) → may_follow r.begun x ≡ true → (behind r x c).begun ≡ is_codes x
begun_is r (Codes k) c h = refl
begun_is r (Values k) c h = refl
begun_is r Child c h = absurd (true≢false (sym h))
begun_is r (Column k) c h = absurd (true≢false (sym h))

pub all_later : (r : RunsSoFar) (xs : List Output) → are_runs r.begun xs ≡ true → (rest_eof r).last ≤ (rest_eof (behind_all r xs)).last
all_later r [] h = (let k : (rest_eof r).last ≤ (rest_eof r).last = omega arith in k)
all_later r (x ∷ xs) h =
    let a = and_parts (may_follow r.begun x.0) (are_runs (is_codes x.0) xs) h in
    let b : are_runs (behind r x.0 x.1).begun xs ≡ true = ap (λ z. are_runs z xs) (begun_is r x.0 x.1 a.0) ∙ a.1 in
    let c : (rest_eof r).last ≤ (rest_eof (behind r x.0 x.1)).last = one_later r x.0 x.1 a.0 in
    let d : (rest_eof (behind r x.0 x.1)).last ≤ (rest_eof (behind_all r (x ∷ xs))).last = all_later (behind r x.0 x.1) xs b in
    omega (arith, c, d)

-- rows of the run that goes on
pub rows_behind : (r : RunsSoFar) (x : Place) (c : ChunkData) → (behind r x c).rows ≤ r.rows + rows_of x c
rows_behind r (Codes k) c = (let h : r.rows + length (cells c) ≤ r.rows + length (cells c) = omega arith in h)
rows_behind r (Values k) c = (let h : 0 ≤ r.rows + 0 = omega arith in h)
rows_behind r Child c = (let h : r.rows ≤ r.rows + 0 = omega arith in h)
rows_behind r (Column k) c = (let h : r.rows ≤ r.rows + 0 = omega arith in h)
