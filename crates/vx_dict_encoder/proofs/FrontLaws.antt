-- Fronts give their rows, join, and cut rows into runs.
use Rattle.std.proofs.Common.{◌≡◌, ℕ, zero, suc, ◌+◌, ◌<◌, ◌⊎◌, Bool, true, false, List, [], ◌∷◌, ◌++◌, length, drop, refl, sym, ap, ap₂, ◌∙◌, subst, ⊎_elim, arith, append_assoc, length-append}
use Rattle.std.specs.Prelude.{if◌then◌else◌, nat_lt}
use Rattle.std.proofs.lemmas.Bool.{cases_Bool, and_from, and_parts}
use Rattle.std.proofs.lemmas.Bool.Decides.{nat_tests}
use Rattle.std.proofs.lemmas.List.{append-nil}
use Rattle.vx_model.specs.Words.{all_by}
use Rattle.vx_model.specs.Ty.{Ty}
use Rattle.vx_model.specs.CellData.{CellData, fits}
use Rattle.vx_model.specs.ChunkData.{is_dict_type, cell_at}
use Rattle.vx_rules.specs.Runs.{DictOptions, Cut, behind, stretches, same_cell, has_cell, with_cell, place_in, cells_fit}
use Rattle.vx_rules.proofs.RunLaws.{Is, place_is, self_same}
use Rattle.vx_compressor_spec.proofs.Dictionaries.{has_itself}
use Rattle.vx_dict_encoder.specs.Front.{front}
use Rattle.vx_dict_encoder.specs.Statements.{FrontHolds, FrontsGiveRows, FrontJoins, FrontsJoin, FrontsCutRuns, FrontsBegin}
use Rattle.vx_dict_encoder.proofs.Fronts.{front_goes_on, front_ends}

-- ---- places

at_front : (ds more : List CellData) (n : ℕ) → n < length ds → cell_at (ds ++ more) n ≡ cell_at ds n
at_front [] more n h = absurd (omega arith)
at_front (d ∷ ds) more zero h = refl
at_front (d ∷ ds) more (suc n) h = at_front ds more n (omega arith)

below : (n k : ℕ) → n < k → nat_lt n k ≡ true
below n k l = grind (arith, nat_tests)

-- the cells so far stay in front
with_more : (ds : List CellData) (c : CellData) → (more : List CellData) × (with_cell ds c ≡ ds ++ more)
with_more ds c = go (has_cell c ds)
  where
    go : (b : Bool) → (more : List CellData) × ((if b then ds else ds ++ (c ∷ [])) ≡ ds ++ more)
    go true = ([], sym (append-nil ds))
    go false = (c ∷ [], refl)

-- ---- rows and codes

-- one more row before the others
one_more : (o : DictOptions) (t : Ty) (ds : List CellData) (c : CellData) (cs : List CellData) (codes : List ℕ) (es : List CellData) → same_cell c c ≡ true
    → FrontHolds o t (with_cell ds c) cs codes es → FrontHolds o t ds (c ∷ cs) (place_in c (with_cell ds c) ∷ codes) es
one_more o t ds c cs codes es s h =
    let one = with_more ds c in
    let more = h.kept in
    let is : Is (with_cell ds c) (place_in c (with_cell ds c)) c = place_is c (with_cell ds c) (has_itself c ds s) in
    let place : place_in c (with_cell ds c) < length (with_cell ds c) = is.0 in
    let long : length es ≡ length (with_cell ds c) + length more.0 = ap length more.1 ∙ length-append (with_cell ds c) more.0 in
    record {
      kept = (one.0 ++ more.0, more.1 ∙ ap (λ (z : List CellData). z ++ more.0) one.1 ∙ append_assoc ds one.0 more.0);
      fits = h.fits;
      longest = h.longest;
      within = and_from (nat_lt (place_in c (with_cell ds c)) (length es)) _ (below (place_in c (with_cell ds c)) (length es) (omega arith)) h.within;
      rows = ap₂ (λ (x : CellData) (xs : List CellData). x ∷ xs)
          (ap (λ (z : List CellData). cell_at z (place_in c (with_cell ds c))) more.1 ∙ at_front (with_cell ds c) more.0 (place_in c (with_cell ds c)) place ∙ is.1)
          h.rows;
    }

-- no row
none_yet : (o : DictOptions) (t : Ty) (ds rows : List CellData) → cells_fit o t ds ≡ true → ((c : CellData) (later : List CellData) → rows ≡ c ∷ later → cells_fit o t (with_cell ds c) ≡ false)
    → FrontHolds o t ds rows [] ds
none_yet o t ds rows h l = record { kept = ([], sym (append-nil ds)); fits = h; longest = l; within = refl; rows = refl }

pub fronts_give_rows : FrontsGiveRows
fronts_give_rows o t ds [] d h f = none_yet o t ds [] h (λ c later e. cc)
fronts_give_rows o t ds (c ∷ cs) d h f =
    ⊎_elim
    (λ (y : cells_fit o t (with_cell ds c) ≡ true).
    subst (λ (p : List ℕ × List CellData). FrontHolds o t ds (c ∷ cs) p.0 p.1) (sym (front_goes_on o t ds c cs y))
    (one_more o t ds c cs (front o t (with_cell ds c) cs).0 (front o t (with_cell ds c) cs).1 (self_same t c d (and_parts (fits t c) _ f).0)
    (fronts_give_rows o t (with_cell ds c) cs d y (and_parts (fits t c) _ f).1)))
    (λ (n : cells_fit o t (with_cell ds c) ≡ false).
    subst (λ (p : List ℕ × List CellData). FrontHolds o t ds (c ∷ cs) p.0 p.1) (sym (front_ends o t ds c cs n))
    (none_yet o t ds (c ∷ cs) h (λ x later e. let same : c ≡ x = cc in subst (λ (z : CellData). cells_fit o t (with_cell ds z) ≡ false) same n)))
    (cases_Bool (cells_fit o t (with_cell ds c)))

-- ---- rows in several batches

joins_more : (o : DictOptions) (t : Ty) (n : ℕ) (c : CellData) (cs second : List CellData) (p q : List ℕ × List CellData) → FrontJoins o t cs second p q → FrontJoins o t (c ∷ cs) second (n ∷ p.0, p.1) (n ∷ q.0, q.1)
joins_more o t n c cs second p q h = record {
  whole = λ e. ap (λ (z : List ℕ × List CellData). let r : List ℕ × List CellData = (n ∷ z.0, z.1) in r) (h.whole e);
  part = λ x later e. ap (λ (z : List ℕ × List CellData). let r : List ℕ × List CellData = (n ∷ z.0, z.1) in r) (h.part x later e);
}

pub fronts_join : FrontsJoin
fronts_join o t ds [] second = record { whole = λ e. refl; part = λ c later e. cc }
fronts_join o t ds (c ∷ cs) second =
    ⊎_elim
    (λ (y : cells_fit o t (with_cell ds c) ≡ true).
    subst (λ (p : List ℕ × List CellData). FrontJoins o t (c ∷ cs) second p (front o t ds (c ∷ cs ++ second))) (sym (front_goes_on o t ds c cs y))
    (subst (λ (q : List ℕ × List CellData). FrontJoins o t (c ∷ cs) second (place_in c (with_cell ds c) ∷ (front o t (with_cell ds c) cs).0, (front o t (with_cell ds c) cs).1) q)
    (sym (front_goes_on o t ds c (cs ++ second) y))
    (joins_more o t (place_in c (with_cell ds c)) c cs second (front o t (with_cell ds c) cs) (front o t (with_cell ds c) (cs ++ second)) (fronts_join o t (with_cell ds c) cs second))))
    (λ (n : cells_fit o t (with_cell ds c) ≡ false).
    subst (λ (p : List ℕ × List CellData). FrontJoins o t (c ∷ cs) second p (front o t ds (c ∷ cs ++ second))) (sym (front_ends o t ds c cs n))
    (record { whole = λ e. cc; part = λ x later e. front_ends o t ds c (cs ++ second) n }))
    (cases_Bool (cells_fit o t (with_cell ds c)))

-- ---- fronts and runs

-- the same, with codes before those of the rows
record CutsBehind (o : DictOptions) (t : Ty) (rows : List CellData) (before codes : List ℕ) (es : List CellData) (cut : Cut) : Type 0 where
  whole : drop (length codes) rows ≡ [] → cut ≡ record { closed = []; codes = before ++ codes; distinct = es }
  part : (c : CellData) (later : List CellData) → drop (length codes) rows ≡ c ∷ later → cut ≡ behind (before ++ codes) es (stretches o t [] [] (c ∷ later))

cuts_more : (o : DictOptions) (t : Ty) (n : ℕ) (c : CellData) (cs : List CellData) (before codes : List ℕ) (es : List CellData) (cut : Cut) → CutsBehind o t cs (before ++ n ∷ []) codes es cut
    → CutsBehind o t (c ∷ cs) before (n ∷ codes) es cut
cuts_more o t n c cs before codes es cut h = record {
  whole = λ e. h.whole e ∙ ap (λ (ns : List ℕ). let r : Cut = record { closed = []; codes = ns; distinct = es } in r) (append_assoc before (n ∷ []) codes);
  part = λ x later e. h.part x later e ∙ ap (λ (ns : List ℕ). behind ns es (stretches o t [] [] (x ∷ later))) (append_assoc before (n ∷ []) codes);
}

-- the first row of the next run
begins : (o : DictOptions) (t : Ty) (c : CellData) (cs : List CellData) → same_cell c c ≡ true → stretches o t (c ∷ []) (0 ∷ []) cs ≡ stretches o t [] [] (c ∷ cs)
begins o t c cs s = ap (λ (b : Bool). stretches o t (c ∷ []) ((if b then 0 else suc zero) ∷ []) cs) (sym s)

cuts_behind : (o : DictOptions) (t : Ty) → is_dict_type t ≡ true → (ds rows : List CellData) (before : List ℕ) → all_by (fits t) rows ≡ true
    → CutsBehind o t rows before (front o t ds rows).0 (front o t ds rows).1 (stretches o t ds before rows)
cuts_behind o t d ds [] before f = record {
  whole = λ e. ap (λ (ns : List ℕ). let r : Cut = record { closed = []; codes = ns; distinct = ds } in r) (sym (append-nil before));
  part = λ c later e. cc;
}
cuts_behind o t d ds (c ∷ cs) before f =
    ⊎_elim
    (λ (y : cells_fit o t (with_cell ds c) ≡ true).
    subst (λ (p : List ℕ × List CellData). CutsBehind o t (c ∷ cs) before p.0 p.1 (stretches o t ds before (c ∷ cs))) (sym (front_goes_on o t ds c cs y))
    (subst (λ (b : Bool). CutsBehind o t (c ∷ cs) before (place_in c (with_cell ds c) ∷ (front o t (with_cell ds c) cs).0) (front o t (with_cell ds c) cs).1 (if b then goes_on else ends_here)) (sym y)
    (cuts_more o t (place_in c (with_cell ds c)) c cs before (front o t (with_cell ds c) cs).0 (front o t (with_cell ds c) cs).1 goes_on
    (cuts_behind o t d (with_cell ds c) cs (before ++ place_in c (with_cell ds c) ∷ []) (and_parts (fits t c) _ f).1))))
    (λ (n : cells_fit o t (with_cell ds c) ≡ false).
    subst (λ (p : List ℕ × List CellData). CutsBehind o t (c ∷ cs) before p.0 p.1 (stretches o t ds before (c ∷ cs))) (sym (front_ends o t ds c cs n))
    (subst (λ (b : Bool). CutsBehind o t (c ∷ cs) before [] ds (if b then goes_on else ends_here)) (sym n) (record {
      whole = λ e. cc;
      part = λ x later e.
          ap₂ (λ (ns : List ℕ) (z : Cut). behind ns ds z) (sym (append-nil before)) (begins o t c cs (self_same t c d (and_parts (fits t c) _ f).0))
          ∙ ap (λ (z : List CellData). behind (before ++ []) ds (stretches o t [] [] z)) e;
    })))
    (cases_Bool (cells_fit o t (with_cell ds c)))
  where
    goes_on : Cut
    goes_on = stretches o t (with_cell ds c) (before ++ place_in c (with_cell ds c) ∷ []) cs

    ends_here : Cut
    ends_here = behind before ds (stretches o t (c ∷ []) (0 ∷ []) cs)

pub fronts_cut_runs : FrontsCutRuns
fronts_cut_runs o t ds rows d f = let h = cuts_behind o t d ds rows [] f in record { whole = h.whole; part = h.part }

pub fronts_begin : FrontsBegin
fronts_begin o t c rows = subst (λ (p : List ℕ × List CellData). 0 < length p.0) (sym (front_goes_on o t [] c rows refl)) (omega arith)
