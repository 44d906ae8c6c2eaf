-- Steps of printing rows some at a time.
use Rattle.std.proofs.Common.{◌≡◌, ℕ, zero, suc, ◌+◌, ◌-◌, ◌<◌, ◌≤◌, List, [], ◌∷◌, ◌++◌, length, get_or, take, drop, min, Option, Some, None, refl, sym, ap, subst, ◌∙◌, arith, append_assoc}
use Rattle.std.proofs.lemmas.List.{append-nil, take-append-drop, take_all, take_more, drop_more, length-append, length-take}
use Rattle.std.proofs.Math.Seq.{take-add}
use Rattle.std.specs.Prelude.{codes, Result, Ok, Err, OnErr}
use Rattle.std.specs.Io.KnownBytes.{Appends}
use Rattle.vx_model.specs.Words.{joined_by}
use Rattle.vx_model.specs.ValueData.{ValueData}
use Rattle.vx_chunk_cells.specs.Window.{window}
use Rattle.vx_read_chunk.specs.declared.held.HeldPart.{HeldPart}
use Rattle.vx_read_chunk.specs.Held.{part_rows}
use Rattle.vx_report.specs.RowText.{row_text, row_lines}
use Rattle.vx_run.specs.Running.{AppendsFront}
use Rattle.vx_run.proofs.RunSteps.{appends_more, appends_none}

-- what holds holds of an error too
pub on_err : {T E P : Type 0} (r : Result T E) → P → OnErr r P
on_err (Ok x) p = tt
on_err (Err e) p = p

-- ---- fronts of bytes

take_past : {X : Type 0} (xs ys : List X) (n : ℕ) → take (length xs + n) (xs ++ ys) ≡ xs ++ take n ys
take_past [] ys n = let same : 0 + n ≡ n = omega arith in ap (λ m. take m ys) same
take_past (x ∷ xs) ys n =
    let same : suc (length xs) + n ≡ suc (length xs + n) = omega arith in
    ap (λ m. take m (x ∷ (xs ++ ys))) same ∙ ap (λ r. x ∷ r) (take_past xs ys n)

take_short : {X : Type 0} (xs ys : List X) (n : ℕ) → take (min n (length xs)) (xs ++ ys) ≡ take n xs
take_short [] ys zero = let none : min 0 0 ≡ 0 = omega arith in ap (λ m. take m ys) none
take_short [] ys (suc n) = let none : min (suc n) 0 ≡ 0 = omega arith in ap (λ m. take m ys) none
take_short (x ∷ xs) ys zero = let none : min 0 (suc (length xs)) ≡ 0 = omega arith in ap (λ m. take m (x ∷ (xs ++ ys))) none
take_short (x ∷ xs) ys (suc n) =
    let same : min (suc n) (suc (length xs)) ≡ suc (min n (length xs)) = omega arith in
    ap (λ m. take m (x ∷ (xs ++ ys))) same ∙ ap (λ r. x ∷ r) (take_short xs ys n)

-- bytes that were written are a front of more
pub front_so_far : (a b : Option (List ℕ)) (xs ys all : List ℕ) → Appends a b xs → all ≡ xs ++ ys → AppendsFront a b all
front_so_far a b xs ys all wrote is =
    let same : take (length xs + 0) all ≡ xs = ap (take (length xs + 0)) is ∙ (take_past xs ys 0 ∙ append-nil xs) in
    record { count = length xs + 0; wrote = subst (Appends a b) (sym same) wrote }

-- a front of the next bytes, behind those that were written, is a front of all
pub front_then : (a b c : Option (List ℕ)) (xs ys zs all : List ℕ) → Appends a b xs → AppendsFront b c ys → all ≡ xs ++ (ys ++ zs) → AppendsFront a c all
front_then a b c xs ys zs all wrote front is =
    let n : ℕ = min front.count (length ys) in
    let same : take (length xs + n) all ≡ xs ++ take front.count ys = ap (take (length xs + n)) is ∙ (take_past xs (ys ++ zs) n ∙ ap (λ r. xs ++ r) (take_short ys zs front.count)) in
    record { count = length xs + n; wrote = subst (Appends a c) (sym same) (appends_more a b c xs (take front.count ys) wrote front.wrote) }

-- a front of the first bytes is a front of all
pub front_first : (a b : Option (List ℕ)) (xs ys : List ℕ) → AppendsFront a b xs → AppendsFront a b (xs ++ ys)
front_first a b xs ys front = front_then a a b [] xs ys (xs ++ ys) (appends_none a) front refl

pub front_next : (a b c : Option (List ℕ)) (xs ys : List ℕ) → Appends a b xs → AppendsFront b c ys → AppendsFront a c (xs ++ ys)
front_next a b c xs ys wrote front = front_then a b c xs ys [] (xs ++ ys) wrote front (ap (λ r. xs ++ r) (sym (append-nil ys)))

-- ---- lines of rows

pub lines_both : (vs ws : List ValueData) → row_lines (vs ++ ws) ≡ row_lines vs ++ row_lines ws
lines_both [] ws = refl
lines_both (v ∷ vs) ws = rw (lines_both vs ws) (sym (append_assoc (row_text v) (codes "\n" ++ row_lines vs) (row_lines ws)))

-- the first rows, the next ones, and the rest
pub lines_at : (vs : List ValueData) (at n : ℕ) → row_lines vs ≡ row_lines (take at vs) ++ (row_lines (window at (at + n) vs) ++ row_lines (drop n (drop at vs)))
lines_at vs at n =
    let many : at + n - at ≡ n = omega arith in
    rw many (
    ap row_lines (sym (take-append-drop at vs)) ∙ lines_both (take at vs) (drop at vs)
    ∙ ap (λ r. row_lines (take at vs) ++ r) (ap row_lines (sym (take-append-drop n (drop at vs))) ∙ lines_both (take n (drop at vs)) (drop n (drop at vs)))
    )

pub lines_from : (vs : List ValueData) (at : ℕ) → row_lines vs ≡ row_lines (take at vs) ++ row_lines (drop at vs)
lines_from vs at = ap row_lines (sym (take-append-drop at vs)) ∙ lines_both (take at vs) (drop at vs)

pub lines_more : (vs : List ValueData) (at n : ℕ) → row_lines (take at vs) ++ row_lines (window at (at + n) vs) ≡ row_lines (take (at + n) vs)
lines_more vs at n =
    let many : at + n - at ≡ n = omega arith in
    rw many (sym (lines_both (take at vs) (take n (drop at vs))) ∙ ap row_lines (sym (take-add at n vs)))

-- ---- parts of rows

parts_both : (ps qs : List HeldPart) → joined_by part_rows (ps ++ qs) ≡ joined_by part_rows ps ++ joined_by part_rows qs
parts_both [] qs = refl
parts_both (p ∷ ps) qs = ap (λ r. part_rows p ++ r) (parts_both ps qs) ∙ sym (append_assoc (part_rows p) (joined_by part_rows ps) (joined_by part_rows qs))

-- the first parts, the next one, and the rest
pub parts_at : (ps : List HeldPart) (i : ℕ) (p : HeldPart) → i < length ps → p ≡ get_or ps i p
    → row_lines (joined_by part_rows ps) ≡ row_lines (joined_by part_rows (take i ps)) ++ (row_lines (part_rows p) ++ row_lines (joined_by part_rows (drop (i + 1) ps)))
parts_at ps i p less is =
    let rest : drop i ps ≡ p ∷ drop (i + 1) ps = drop_more ps i p less ∙ ap (λ q. q ∷ drop (i + 1) ps) (sym is) in
    ap (λ qs. row_lines (joined_by part_rows qs)) (sym (take-append-drop i ps))
    ∙ ap row_lines (parts_both (take i ps) (drop i ps))
    ∙ lines_both (joined_by part_rows (take i ps)) (joined_by part_rows (drop i ps))
    ∙ ap (λ qs. row_lines (joined_by part_rows (take i ps)) ++ row_lines (joined_by part_rows qs)) rest
    ∙ ap (λ r. row_lines (joined_by part_rows (take i ps)) ++ r) (lines_both (part_rows p) (joined_by part_rows (drop (i + 1) ps)))

pub parts_more : (ps : List HeldPart) (i : ℕ) (p : HeldPart) → i < length ps → p ≡ get_or ps i p
    → row_lines (joined_by part_rows (take i ps)) ++ row_lines (part_rows p) ≡ row_lines (joined_by part_rows (take (i + 1) ps))
parts_more ps i p less is =
    sym (lines_both (joined_by part_rows (take i ps)) (part_rows p))
    ∙ ap row_lines (ap (λ r. joined_by part_rows (take i ps) ++ r) (sym (append-nil (part_rows p))) ∙ sym (parts_both (take i ps) (p ∷ [])))
    ∙ ap (λ qs. row_lines (joined_by part_rows qs)) (sym (take_more ps i p less ∙ ap (λ q. take i ps ++ q ∷ []) (sym is)))

pub ruleset bare_rules = (append-nil)

pub ruleset print_rules = (append-nil, take_all)
