-- Steps of the encoder, a row at a time.
use Rattle.std.proofs.Common.{◌≡◌, ℕ, zero, suc, ◌+◌, ◌<◌, ◌≤◌, Bool, true, false, List, [], ◌∷◌, ◌++◌, length, drop, get_or, refl, sym, ap, ap₂, ◌∙◌, arith}
use Rattle.std.proofs.lemmas.List.{drop_all}
use Rattle.std.proofs.lemmas.Bool.{and_parts}
use Rattle.vx_model.specs.Words.{all_by}
use Rattle.vx_model.specs.Ty.{Ty}
use Rattle.vx_model.specs.CellData.{CellData, null_cell, fits}
use Rattle.vx_model.specs.ChunkData.{is_dict_type}
use Rattle.vx_rules.specs.Runs.{DictOptions, stretches, same_cell, has_cell, place_in, cells_fit}
use Rattle.vx_runs.specs.Cutting.{is_code_of, ClosedFit, Running, Standing}
use Rattle.vx_rules.proofs.RunLaws.{self_same}
use Rattle.vx_runs.proofs.Steps.{row_known, row_new, row_ends, next_row}
use Rattle.vx_runs.proofs.Fitting.{CutFits, stretches_fit}
use Rattle.vx_dict_encoder.specs.Front.{first_of, first_run, front}
use Rattle.vx_dict_encoder.specs.Coding.{GoesOn, Ends}

-- ---- one row

pub known_goes_on : (o : DictOptions) (t : Ty) (ds : List CellData) (c : CellData) (k : ℕ) → true ≡ has_cell c ds → k ≡ place_in c ds → cells_fit o t ds ≡ true → GoesOn o t ds c ds k
known_goes_on o t ds c k h e f codes more = ap (λ (n : ℕ). stretches o t ds (codes ++ n ∷ []) more) e ∙ row_known o t ds codes c more (sym h) f

pub new_goes_on : (o : DictOptions) (t : Ty) (ds es : List CellData) (c d : CellData) (k : ℕ) → false ≡ has_cell c ds → es ≡ ds ++ d ∷ [] → d ≡ c → k ≡ length ds → same_cell c c ≡ true → cells_fit o t (ds ++ c ∷ []) ≡ true
    → GoesOn o t ds c es k
new_goes_on o t ds es c d k h e w n s f codes more =
    ap₂ (λ (z : List CellData) (m : ℕ). stretches o t z (codes ++ m ∷ []) more) (e ∙ ap (λ (x : CellData). ds ++ x ∷ []) w) n ∙ row_new o t ds codes c more (sym h) s f

pub full_ends : (o : DictOptions) (t : Ty) (ds : List CellData) (c : CellData) → false ≡ has_cell c ds → cells_fit o t (ds ++ c ∷ []) ≡ false → Ends o t ds c
full_ends o t ds c h f codes more = ap first_run (sym (row_ends o t ds codes c more (sym h) f))

pub ruleset row_rules = (known_goes_on, new_goes_on, full_ends)

-- ---- the cells from a place on

all_at : (f : CellData → Bool) (cs : List CellData) (i : ℕ) (c : CellData) → i < length cs → c ≡ get_or cs i null_cell → all_by f cs ≡ true → f c ≡ true
all_at f [] i c l e h = absurd (omega arith)
all_at f (d ∷ cs) zero c l e h = ap f e ∙ (and_parts (f d) _ h).0
all_at f (d ∷ cs) (suc i) c l e h = all_at f cs i c (omega arith) e (and_parts (f d) _ h).1

pub plain_at : (t : Ty) (cs : List CellData) (i : ℕ) (c : CellData) → i < length cs → c ≡ get_or cs i null_cell → is_dict_type t ≡ true → all_by (fits t) cs ≡ true → same_cell c c ≡ true
plain_at t cs i c l e d f = self_same t c d (all_at (fits t) cs i c l e f)

pub front_more : (o : DictOptions) (t : Ty) (cs : List CellData) (i : ℕ) (c : CellData) (ds es : List CellData) (codes : List ℕ) (k : ℕ) (target : List ℕ × List CellData) → i < length cs → c ≡ get_or cs i null_cell → GoesOn o t ds c es k
    → first_run (stretches o t ds codes (drop i cs)) ≡ target → first_run (stretches o t es (codes ++ k ∷ []) (drop (i + 1) cs)) ≡ target
front_more o t cs i c ds es codes k target l e g h =
    ap first_run (g codes (drop (i + 1) cs) ∙ ap (stretches o t ds codes) (sym (next_row cs i c l e))) ∙ h

front_stops : (o : DictOptions) (t : Ty) (cs : List CellData) (i : ℕ) (c : CellData) (ds : List CellData) (codes : List ℕ) (target : List ℕ × List CellData) → i < length cs → c ≡ get_or cs i null_cell → Ends o t ds c
    → first_run (stretches o t ds codes (drop i cs)) ≡ target → (codes, ds) ≡ target
front_stops o t cs i c ds codes target l e g h = sym (g codes (drop (i + 1) cs)) ∙ ap (λ (z : List CellData). first_run (stretches o t ds codes z)) (sym (next_row cs i c l e)) ∙ h

pub stop_codes : (o : DictOptions) (t : Ty) (cs : List CellData) (i : ℕ) (c : CellData) (ds : List CellData) (codes : List ℕ) (target : List ℕ × List CellData) → i < length cs → c ≡ get_or cs i null_cell → Ends o t ds c
    → first_run (stretches o t ds codes (drop i cs)) ≡ target → codes ≡ target.0
stop_codes o t cs i c ds codes target l e g h = ap (λ (z : List ℕ × List CellData). z.0) (front_stops o t cs i c ds codes target l e g h)

pub stop_distinct : (o : DictOptions) (t : Ty) (cs : List CellData) (i : ℕ) (c : CellData) (ds es : List CellData) (codes : List ℕ) (target : List ℕ × List CellData) → i < length cs → c ≡ get_or cs i null_cell → Ends o t ds c
    → es ≡ ds → first_run (stretches o t ds codes (drop i cs)) ≡ target → es ≡ target.1
stop_distinct o t cs i c ds es codes target l e g w h = w ∙ ap (λ (z : List ℕ × List CellData). z.1) (front_stops o t cs i c ds codes target l e g h)

-- no row is left
pub end_codes : (o : DictOptions) (t : Ty) (cs : List CellData) (i : ℕ) (ds : List CellData) (codes : List ℕ) (target : List ℕ × List CellData) → length cs ≤ i
    → first_run (stretches o t ds codes (drop i cs)) ≡ target → codes ≡ target.0
end_codes o t cs i ds codes target l h =
    ap (λ (z : List ℕ × List CellData). z.0) (ap (λ (z : List CellData). first_run (stretches o t ds codes z)) (sym (drop_all i cs l)) ∙ h)

pub end_distinct : (o : DictOptions) (t : Ty) (cs : List CellData) (i : ℕ) (ds : List CellData) (codes : List ℕ) (target : List ℕ × List CellData) → length cs ≤ i
    → first_run (stretches o t ds codes (drop i cs)) ≡ target → ds ≡ target.1
end_distinct o t cs i ds codes target l h =
    ap (λ (z : List ℕ × List CellData). z.1) (ap (λ (z : List CellData). first_run (stretches o t ds codes z)) (sym (drop_all i cs l)) ∙ h)

pub ruleset front_rules = (plain_at, front_more, stop_codes, stop_distinct, end_codes, end_distinct)

-- ---- what makes chunks

pub record FrontFits (o : DictOptions) (t : Ty) (p : List ℕ × List CellData) : Type 0 where
  pub codes : all_by (is_code_of o) p.0 ≡ true
  pub distinct : all_by (fits t) p.1 ≡ true

first_fits : (o : DictOptions) (t : Ty) (closed : List (List ℕ × List CellData)) (codes : List ℕ) (ds : List CellData) → ClosedFit o t closed → all_by (is_code_of o) codes ≡ true → all_by (fits t) ds ≡ true
    → FrontFits o t (first_of closed (codes, ds))
first_fits o t [] codes ds f a b = record { codes = a; distinct = b }
first_fits o t (x ∷ xs) codes ds f a b = record { codes = f.0; distinct = f.1 }

pub front_fits : (o : DictOptions) (t : Ty) (ds rows : List CellData) → is_dict_type t ≡ true → all_by (fits t) ds ≡ true → all_by (fits t) rows ≡ true → FrontFits o t (front o t ds rows)
front_fits o t ds rows d a b =
    let h : CutFits o t (stretches o t ds [] rows) = stretches_fit o t d ds [] rows a refl b in
    first_fits o t (stretches o t ds [] rows).closed (stretches o t ds [] rows).codes (stretches o t ds [] rows).distinct h.closed h.codes h.distinct

-- ---- a chunk, whose cells these are

pub fit_chunk : (t : Ty) (cs rows : List CellData) → cs ≡ rows → all_by (fits t) rows ≡ true → all_by (fits t) cs ≡ true
fit_chunk t cs rows e f = ap (all_by (fits t)) e ∙ f

pub codes_chunk : (o : DictOptions) (t : Ty) (ds cs rows : List CellData) (codes : List ℕ) → cs ≡ rows → codes ≡ (front o t ds cs).0 → codes ≡ (front o t ds rows).0
codes_chunk o t ds cs rows codes e h = h ∙ ap (λ (z : List CellData). (front o t ds z).0) e

pub distinct_chunk : (o : DictOptions) (t : Ty) (ds cs rows es : List CellData) → cs ≡ rows → es ≡ (front o t ds cs).1 → es ≡ (front o t ds rows).1
distinct_chunk o t ds cs rows es e h = h ∙ ap (λ (z : List CellData). (front o t ds z).1) e

pub codes_coded : (o : DictOptions) (t : Ty) (ds cs : List CellData) (cost : ℕ) (codes : List ℕ) → Standing o t ds cost → all_by (fits t) cs ≡ true → codes ≡ (front o t ds cs).0 → all_by (is_code_of o) codes ≡ true
codes_coded o t ds cs cost codes s f e = ap (all_by (is_code_of o)) e ∙ (front_fits o t ds cs s.dict s.fit f).codes

pub front_stands : (o : DictOptions) (t : Ty) (ds cs es : List CellData) (old new : ℕ) → Standing o t ds old → all_by (fits t) cs ≡ true → es ≡ (front o t ds cs).1 → Running o t es new → Standing o t es new
front_stands o t ds cs es old new s f e r = record { dict = s.dict; fit = ap (all_by (fits t)) e ∙ (front_fits o t ds cs s.dict s.fit f).distinct; running = r }

pub ruleset chunk_rules = (fit_chunk, codes_chunk, distinct_chunk, codes_coded, front_stands)
