-- The cutter gives the codes and values of each run.
use Rattle.std.proofs.Common.{◌≡◌, ℕ, zero, suc, ◌+◌, ◌*◌, ◌<◌, Bool, true, false, List, [], ◌∷◌, ◌++◌, length, refl, sym, ap, ap₂, ◌∙◌, subst, arith, append_assoc, length-append, eq-eqb}
use Rattle.std.specs.Prelude.{if◌then◌else◌, ◌==◌, nat_lt, get_or}
use Rattle.std.proofs.lemmas.List.{append-nil}
use Rattle.std.proofs.lemmas.Bool.{true≢false}
use Rattle.std.proofs.lemmas.Bool.Decides.{nat_tests}
use Rattle.vx_model.specs.Ty.{Ty}
use Rattle.vx_model.specs.CellData.{CellData}
use Rattle.vx_model.specs.ChunkData.{plain_piece}
use Rattle.vx_path.specs.Path.{under}
use Rattle.vx_rules.specs.Stream.{Chunk}
use Rattle.vx_rules.specs.Runs.{DictOptions, Cut, cut_at, codes_piece, Run, ended_runs, next_codes, next_rank, open_run, runs_from, runs}
use Rattle.vx_react.specs.declared.place.Place.{Place}
use Rattle.vx_react.specs.declared.place.Place.TheVariants.{Child, Column, Codes, Values}
use Rattle.vx_react.specs.Reactor.{Output, placed, state_after, reactions, same_place, sent_to}
use Rattle.vx_react.specs.Cutter.{Cutting, next_number, cut_by, closed_outputs, open_outputs, cut_outputs, cutter, no_run}
use Rattle.vx_react.specs.Statements.{has_chunk, is_run_place, RunsReact, CutsAreCounted, RunsAreNumbered}
use Rattle.vx_react.proofs.Reacting.{sent_appends}

-- ---- runs by number

-- the codes and the values of run j, the first having number n
abbrev codes_at : ℕ → ℕ → List Run → List Chunk
codes_at j n [] = []
codes_at j n (r ∷ rs) = if j == n then r.codes else codes_at j (suc n) rs

abbrev values_at : ℕ → ℕ → List Run → List Chunk
values_at j n [] = []
values_at j n (r ∷ rs) = if j == n then r.values else values_at j (suc n) rs

-- it stands at the place that is its number less n
codes_get : (j n k : ℕ) (rs : List Run) → j ≡ n + k → codes_at j n rs ≡ (get_or rs k no_run).codes
codes_get j n k [] e = refl
codes_get j n zero (r ∷ rs) e =
    let here : j ≡ n = omega arith in
    subst (λ b. (if b then r.codes else codes_at j (suc n) rs) ≡ r.codes) (sym (eq-eqb j n here)) refl
codes_get j n (suc k) (r ∷ rs) e =
    let above : n < j = omega arith in
    let other : (j == n) ≡ false = grind (arith, nat_tests) in
    subst (λ b. (if b then r.codes else codes_at j (suc n) rs) ≡ (get_or rs k no_run).codes) (sym other) (codes_get j (suc n) k rs (omega arith))

values_get : (j n k : ℕ) (rs : List Run) → j ≡ n + k → values_at j n rs ≡ (get_or rs k no_run).values
values_get j n k [] e = refl
values_get j n zero (r ∷ rs) e =
    let here : j ≡ n = omega arith in
    subst (λ b. (if b then r.values else values_at j (suc n) rs) ≡ r.values) (sym (eq-eqb j n here)) refl
values_get j n (suc k) (r ∷ rs) e =
    let above : n < j = omega arith in
    let other : (j == n) ≡ false = grind (arith, nat_tests) in
    subst (λ b. (if b then r.values else values_at j (suc n) rs) ≡ (get_or rs k no_run).values) (sym other) (values_get j (suc n) k rs (omega arith))

abbrev Closed : Type 0
Closed = List (List ℕ × List CellData)

abbrev only : Bool → List Chunk → List Chunk
only b cs = if b then cs else []

no_codes : (j n : ℕ) (rs : List Run) → j < n → codes_at j n rs ≡ []
no_codes j n [] l = refl
no_codes j n (r ∷ rs) l = let e : (j == n) ≡ false = grind (arith, nat_tests) in
    subst (λ b. (if b then r.codes else codes_at j (suc n) rs) ≡ []) (sym e) (no_codes j (suc n) rs (omega arith))

no_values : (j n : ℕ) (rs : List Run) → j < n → values_at j n rs ≡ []
no_values j n [] l = refl
no_values j n (r ∷ rs) l = let e : (j == n) ≡ false = grind (arith, nat_tests) in
    subst (λ b. (if b then r.values else values_at j (suc n) rs) ≡ []) (sym e) (no_values j (suc n) rs (omega arith))

module _ (o : DictOptions) (t : Ty) (p : List ℕ) (j : ℕ) where
  -- what closed stretches send, then what comes behind, gives the codes of the closed runs and those behind
  closed_codes : (n r : ℕ) (cur : List Chunk) (closed : Closed) (codes : List ℕ) (more : List Output) (T : List Chunk) (rest : List Run)
      → ((k : ℕ) → k ≡ next_rank r closed → only (j == next_number n closed) (next_codes o p r cur closed codes) ++ (sent_to (Codes j) (placed p (suc k) more) ++ T) ≡ codes_at j (next_number n closed) rest)
      → only (j == n) cur ++ (sent_to (Codes j) (placed p r (closed_outputs o t n closed ((Codes (next_number n closed), codes_piece o codes) ∷ more))) ++ T)
      ≡ codes_at j n (ended_runs o t p r cur closed ++ rest)
  closed_codes n r cur [] codes more T rest h = go (j == n) (h r refl)
    where
      go : (b : Bool) → only b (cur ++ ((under p r, codes_piece o codes) ∷ [])) ++ (sent_to (Codes j) (placed p (suc r) more) ++ T) ≡ codes_at j n rest
          → only b cur ++ ((if b then (under p r, codes_piece o codes) ∷ sent_to (Codes j) (placed p (suc r) more) else sent_to (Codes j) (placed p (suc r) more)) ++ T) ≡ codes_at j n rest
      go true e = sym (append_assoc cur ((under p r, codes_piece o codes) ∷ []) (sent_to (Codes j) (placed p (suc r) more) ++ T)) ∙ e
      go false e = e
  closed_codes n r cur (x ∷ xs) codes more T rest h =
      let two : suc (suc r) ≡ r + 2 = omega arith in
      let later : only (j == suc n) [] ++ (sent_to (Codes j) (placed p (r + 2) (closed_outputs o t (suc n) xs ((Codes (next_number (suc n) xs), codes_piece o codes) ∷ more))) ++ T)
      ≡ codes_at j (suc n) (ended_runs o t p (r + 2) [] xs ++ rest) = closed_codes (suc n) (r + 2) [] xs codes more T rest h in
      subst (λ q. only (j == n) cur ++ ((if j == n then (under p r, codes_piece o x.0) ∷ sent_to (Codes j) (placed p q after) else sent_to (Codes j) (placed p q after)) ++ T) ≡ codes_at j n (ended_runs o t p r cur (x ∷ xs) ++ rest))
      (sym two) (go (j == n) refl (nothing (j == suc n) (sent_to (Codes j) (placed p (r + 2) after) ++ T) later))
    where
      after : List Output
      after = closed_outputs o t (suc n) xs ((Codes (next_number (suc n) xs), codes_piece o codes) ∷ more)

      nothing : (b : Bool) (z : List Chunk) → only b [] ++ z ≡ codes_at j (suc n) (ended_runs o t p (r + 2) [] xs ++ rest) → z ≡ codes_at j (suc n) (ended_runs o t p (r + 2) [] xs ++ rest)
      nothing true z e = e
      nothing false z e = e

      go : (b : Bool) → (j == n) ≡ b → sent_to (Codes j) (placed p (r + 2) after) ++ T ≡ codes_at j (suc n) (ended_runs o t p (r + 2) [] xs ++ rest)
          → only b cur ++ ((if b then (under p r, codes_piece o x.0) ∷ sent_to (Codes j) (placed p (r + 2) after) else sent_to (Codes j) (placed p (r + 2) after)) ++ T)
          ≡ (if b then cur ++ ((under p r, codes_piece o x.0) ∷ []) else codes_at j (suc n) (ended_runs o t p (r + 2) [] xs ++ rest))
      go true same e =
          let l : j < suc n = grind (arith, nat_tests) in
          ap (λ (z : List Chunk). cur ++ ((under p r, codes_piece o x.0) ∷ z)) (e ∙ no_codes j (suc n) (ended_runs o t p (r + 2) [] xs ++ rest) l)
      go false same e = e

  closed_values : (n r : ℕ) (cur : List Chunk) (closed : Closed) (c : Output) (more : List Output) (T : List Chunk) (rest : List Run)
      → ((k : ℕ) → k ≡ next_rank r closed → sent_to (Values j) (placed p k (c ∷ more)) ++ T ≡ values_at j (next_number n closed) rest)
      → sent_to (Values j) (placed p r (closed_outputs o t n closed (c ∷ more))) ++ T ≡ values_at j n (ended_runs o t p r cur closed ++ rest)
  closed_values n r cur [] c more T rest h = h r refl
  closed_values n r cur (x ∷ xs) c more T rest h =
      let two : suc (suc r) ≡ r + 2 = omega arith in
      let later : sent_to (Values j) (placed p (r + 2) (closed_outputs o t (suc n) xs (c ∷ more))) ++ T ≡ values_at j (suc n) (ended_runs o t p (r + 2) [] xs ++ rest) = closed_values (suc n) (r + 2) [] xs c more T rest h in
      subst (λ q. (if j == n then (under p (suc r), plain_piece t x.1) ∷ sent_to (Values j) (placed p q after) else sent_to (Values j) (placed p q after)) ++ T ≡ values_at j n (ended_runs o t p r cur (x ∷ xs) ++ rest))
      (sym two) (go (j == n) refl later)
    where
      after : List Output
      after = closed_outputs o t (suc n) xs (c ∷ more)

      go : (b : Bool) → (j == n) ≡ b → sent_to (Values j) (placed p (r + 2) after) ++ T ≡ values_at j (suc n) (ended_runs o t p (r + 2) [] xs ++ rest)
          → (if b then (under p (suc r), plain_piece t x.1) ∷ sent_to (Values j) (placed p (r + 2) after) else sent_to (Values j) (placed p (r + 2) after)) ++ T
          ≡ (if b then (under p (suc r), plain_piece t x.1) ∷ [] else values_at j (suc n) (ended_runs o t p (r + 2) [] xs ++ rest))
      go true same e =
          let l : j < suc n = grind (arith, nat_tests) in
          ap (λ (z : List Chunk). (under p (suc r), plain_piece t x.1) ∷ z) (e ∙ no_values j (suc n) (ended_runs o t p (r + 2) [] xs ++ rest) l)
      go false same e = e

-- the last run of an ended stream, put behind the closed ones
ended_last : (o : DictOptions) (t : Ty) (p : List ℕ) (r : ℕ) (cur : List Chunk) (closed : Closed) (codes : List ℕ) (ds : List CellData)
    → ended_runs o t p r cur (closed ++ ((codes, ds) ∷ []))
    ≡ ended_runs o t p r cur closed ++ (record { codes = next_codes o p r cur closed codes; values = (under p (suc (next_rank r closed)), plain_piece t ds) ∷ []; closed = true } ∷ [])
ended_last o t p r cur [] codes ds = refl
ended_last o t p r cur (x ∷ xs) codes ds = ap₂ (λ (y : Run) (z : List Run). y ∷ z) refl (ended_last o t p (r + 2) [] xs codes ds)

module _ (o : DictOptions) (t : Ty) (j : ℕ) where
  abbrev from : ℕ → List CellData → Cutting
  from n ds = record { number = n; distinct = ds }

  codes_from : (n : ℕ) (ds : List CellData) (cur : List Chunk) (c : Chunk) (cs : List Chunk) (ended : Bool)
      → only (j == n) cur ++ sent_to (Codes j) (reactions (cutter o t) (from n ds) (c ∷ cs) ended) ≡ codes_at j n (runs_from o t ds cur (c ∷ cs) ended)
  codes_from n ds cur c [] false = still cur
    where
      still : (cur : List Chunk) → only (j == n) cur ++ [] ≡ codes_at j n (open_run cur)
      still [] = append-nil (only (j == n) []) ∙ none (j == n)
        where
          none : (b : Bool) → only b [] ≡ []
          none true = refl
          none false = refl
      still (x ∷ xs) = append-nil (only (j == n) (x ∷ xs))
  codes_from n ds cur c [] true =
      let cut : Cut = cut_at o t ds c in
      let last : Run = record { codes = next_codes o c.0 0 cur cut.closed cut.codes; values = (under c.0 (suc (next_rank 0 cut.closed)), plain_piece t cut.distinct) ∷ []; closed = true } in
      ap (λ z. only (j == n) cur ++ z) (sym (append-nil (sent_to (Codes j) (placed c.0 0 (cut_outputs o t n cut true)))))
      ∙ closed_codes o t c.0 j n 0 cur cut.closed cut.codes ((Values (next_number n cut.closed), plain_piece t cut.distinct) ∷ []) [] (last ∷ []) (λ k e. append-nil (only (j == next_number n cut.closed) (next_codes o c.0 0 cur cut.closed cut.codes)))
      ∙ ap (codes_at j n) (sym (ended_last o t c.0 0 cur cut.closed cut.codes cut.distinct))
  codes_from n ds cur c (d ∷ cs) ended =
      let cut : Cut = cut_at o t ds c in
      let next : Cutting = record { number = next_number n cut.closed; distinct = cut.distinct } in
      let T : List Chunk = sent_to (Codes j) (reactions (cutter o t) next (d ∷ cs) ended) in
      ap (λ z. only (j == n) cur ++ z) (sent_appends (Codes j) (placed c.0 0 (cut_outputs o t n cut false)) (reactions (cutter o t) next (d ∷ cs) ended))
      ∙ closed_codes o t c.0 j n 0 cur cut.closed cut.codes [] T (runs_from o t cut.distinct (next_codes o c.0 0 cur cut.closed cut.codes) (d ∷ cs) ended)
      (λ k e. codes_from (next_number n cut.closed) cut.distinct (next_codes o c.0 0 cur cut.closed cut.codes) d cs ended)

  values_from : (n : ℕ) (ds : List CellData) (cur : List Chunk) (c : Chunk) (cs : List Chunk) (ended : Bool)
      → sent_to (Values j) (reactions (cutter o t) (from n ds) (c ∷ cs) ended) ≡ values_at j n (runs_from o t ds cur (c ∷ cs) ended)
  values_from n ds cur c [] false = still cur
    where
      none : List Chunk
      none = []

      same : (b : Bool) → none ≡ (if b then none else none)
      same true = refl
      same false = refl

      still : (cur : List Chunk) → none ≡ values_at j n (open_run cur)
      still [] = refl
      still (x ∷ xs) = same (j == n)
  values_from n ds cur c [] true =
      let cut : Cut = cut_at o t ds c in
      let last : Run = record { codes = next_codes o c.0 0 cur cut.closed cut.codes; values = (under c.0 (suc (next_rank 0 cut.closed)), plain_piece t cut.distinct) ∷ []; closed = true } in
      sym (append-nil (sent_to (Values j) (placed c.0 0 (cut_outputs o t n cut true))))
      ∙ closed_values o t c.0 j n 0 cur cut.closed (Codes (next_number n cut.closed), codes_piece o cut.codes) ((Values (next_number n cut.closed), plain_piece t cut.distinct) ∷ []) [] (last ∷ [])
      (λ k e. subst (λ q. (if j == next_number n cut.closed then (under c.0 (suc q), plain_piece t cut.distinct) ∷ [] else []) ++ [] ≡ values_at j (next_number n cut.closed) (last ∷ [])) (sym e) (append-nil (values_at j (next_number n cut.closed) (last ∷ []))))
      ∙ ap (values_at j n) (sym (ended_last o t c.0 0 cur cut.closed cut.codes cut.distinct))
  values_from n ds cur c (d ∷ cs) ended =
      let cut : Cut = cut_at o t ds c in
      let next : Cutting = record { number = next_number n cut.closed; distinct = cut.distinct } in
      let T : List Chunk = sent_to (Values j) (reactions (cutter o t) next (d ∷ cs) ended) in
      sent_appends (Values j) (placed c.0 0 (cut_outputs o t n cut false)) (reactions (cutter o t) next (d ∷ cs) ended)
      ∙ closed_values o t c.0 j n 0 cur cut.closed (Codes (next_number n cut.closed), codes_piece o cut.codes) [] T (runs_from o t cut.distinct (next_codes o c.0 0 cur cut.closed cut.codes) (d ∷ cs) ended)
      (λ k e. values_from (next_number n cut.closed) cut.distinct (next_codes o c.0 0 cur cut.closed cut.codes) d cs ended)

codes_whole : (o : DictOptions) (t : Ty) (items : List Chunk) (ended : Bool) (j : ℕ)
    → sent_to (Codes j) (reactions (cutter o t) (cutter o t).start items ended) ≡ codes_at j 0 (runs o t items ended)
codes_whole o t [] ended j = refl
codes_whole o t (c ∷ cs) ended j = start (j == 0) (codes_from o t j 0 [] [] c cs ended)
  where
    start : {z w : List Chunk} (b : Bool) → only b [] ++ z ≡ w → z ≡ w
    start true e = e
    start false e = e

values_whole : (o : DictOptions) (t : Ty) (items : List Chunk) (ended : Bool) (j : ℕ)
    → sent_to (Values j) (reactions (cutter o t) (cutter o t).start items ended) ≡ values_at j 0 (runs o t items ended)
values_whole o t [] ended j = refl
values_whole o t (c ∷ cs) ended j = values_from o t j 0 [] [] c cs ended

-- ---- which runs are there, and which have ended

abbrev Told : List Run → Type 0
Told [] = Unit {0}
Told (r ∷ rs) = (has_chunk r.codes ≡ true) × (r.closed ≡ has_chunk r.values) × Told rs

told_append : (rs qs : List Run) → Told rs → Told qs → Told (rs ++ qs)
told_append [] qs h k = k
told_append (r ∷ rs) qs h k = (h.0, h.1, told_append rs qs h.2 k)

one_more : (cur : List Chunk) (c : Chunk) → has_chunk (cur ++ (c ∷ [])) ≡ true
one_more [] c = refl
one_more (x ∷ cur) c = refl

ended_told : (o : DictOptions) (t : Ty) (p : List ℕ) (r : ℕ) (cur : List Chunk) (closed : Closed) → Told (ended_runs o t p r cur closed)
ended_told o t p r cur [] = tt
ended_told o t p r cur (x ∷ xs) = (one_more cur (under p r, codes_piece o x.0), refl, ended_told o t p (r + 2) [] xs)

open_told : (cur : List Chunk) → Told (open_run cur)
open_told [] = tt
open_told (c ∷ cs) = (refl, refl, tt)

runs_told : (o : DictOptions) (t : Ty) (ds : List CellData) (cur items : List Chunk) (ended : Bool) → Told (runs_from o t ds cur items ended)
runs_told o t ds cur [] ended = tt
runs_told o t ds cur (c ∷ []) true = let cut : Cut = cut_at o t ds c in ended_told o t c.0 0 cur (cut.closed ++ ((cut.codes, cut.distinct) ∷ []))
runs_told o t ds cur (c ∷ []) false = open_told cur
runs_told o t ds cur (c ∷ d ∷ cs) ended =
    let cut : Cut = cut_at o t ds c in
    let next : List Chunk = next_codes o c.0 0 cur cut.closed cut.codes in
    told_append (ended_runs o t c.0 0 cur cut.closed) (runs_from o t cut.distinct next (d ∷ cs) ended) (ended_told o t c.0 0 cur cut.closed) (runs_told o t cut.distinct next (d ∷ cs) ended)

lt_suc : (a b : ℕ) → nat_lt (suc a) (suc b) ≡ nat_lt a b
lt_suc a b = grind (arith, nat_tests)

begun_told : (k : ℕ) (rs : List Run) → Told rs → nat_lt k (length rs) ≡ has_chunk (get_or rs k no_run).codes
begun_told k [] h = let past : nat_lt k 0 ≡ false = grind (arith, nat_tests) in past
begun_told zero (r ∷ rs) h = let there : nat_lt 0 (suc (length rs)) ≡ true = grind (arith, nat_tests) in there ∙ sym h.0
begun_told (suc k) (r ∷ rs) h = lt_suc k (length rs) ∙ begun_told k rs h.2

closed_told : (k : ℕ) (rs : List Run) → Told rs → (get_or rs k no_run).closed ≡ has_chunk (get_or rs k no_run).values
closed_told k [] h = refl
closed_told zero (r ∷ rs) h = h.1
closed_told (suc k) (r ∷ rs) h = closed_told k rs h.2

codes_sent : (o : DictOptions) (t : Ty) (items : List Chunk) (ended : Bool) (j : ℕ)
    → sent_to (Codes j) (reactions (cutter o t) (cutter o t).start items ended) ≡ (get_or (runs o t items ended) j no_run).codes
codes_sent o t items ended j = codes_whole o t items ended j ∙ codes_get j 0 j (runs o t items ended) (omega arith)

values_sent : (o : DictOptions) (t : Ty) (items : List Chunk) (ended : Bool) (j : ℕ)
    → sent_to (Values j) (reactions (cutter o t) (cutter o t).start items ended) ≡ (get_or (runs o t items ended) j no_run).values
values_sent o t items ended j = values_whole o t items ended j ∙ values_get j 0 j (runs o t items ended) (omega arith)

-- ---- nothing to other places

no_codes_place : (p : Place) (n : ℕ) → is_run_place p ≡ false → same_place p (Codes n) ≡ false
no_codes_place Child n h = refl
no_codes_place (Column k) n h = refl
no_codes_place (Codes k) n h = absurd (true≢false h)
no_codes_place (Values k) n h = refl

no_values_place : (p : Place) (n : ℕ) → is_run_place p ≡ false → same_place p (Values n) ≡ false
no_values_place Child n h = refl
no_values_place (Column k) n h = refl
no_values_place (Codes k) n h = refl
no_values_place (Values k) n h = absurd (true≢false h)

module _ (o : DictOptions) (t : Ty) (p : Place) (h : is_run_place p ≡ false) where
  codes_elsewhere : (q : List ℕ) (r n : ℕ) (codes : List ℕ) (more : List Output) → sent_to p (placed q r ((Codes n, codes_piece o codes) ∷ more)) ≡ sent_to p (placed q (suc r) more)
  codes_elsewhere q r n codes more =
      ap (λ (b : Bool). if b then (under q r, codes_piece o codes) ∷ sent_to p (placed q (suc r) more) else sent_to p (placed q (suc r) more)) (no_codes_place p n h)

  values_elsewhere : (q : List ℕ) (r n : ℕ) (ds : List CellData) (more : List Output) → sent_to p (placed q r ((Values n, plain_piece t ds) ∷ more)) ≡ sent_to p (placed q (suc r) more)
  values_elsewhere q r n ds more =
      ap (λ (b : Bool). if b then (under q r, plain_piece t ds) ∷ sent_to p (placed q (suc r) more) else sent_to p (placed q (suc r) more)) (no_values_place p n h)

  open_elsewhere : (q : List ℕ) (r n : ℕ) (codes : List ℕ) (ds : List CellData) (last : Bool) → sent_to p (placed q r (open_outputs o t n codes ds last)) ≡ []
  open_elsewhere q r n codes ds true = codes_elsewhere q r n codes ((Values n, plain_piece t ds) ∷ []) ∙ values_elsewhere q (suc r) n ds []
  open_elsewhere q r n codes ds false = codes_elsewhere q r n codes []

  closed_elsewhere : (q : List ℕ) (r n m : ℕ) (closed : Closed) (codes : List ℕ) (ds : List CellData) (last : Bool)
      → sent_to p (placed q r (closed_outputs o t n closed (open_outputs o t m codes ds last))) ≡ []
  closed_elsewhere q r n m [] codes ds last = open_elsewhere q r m codes ds last
  closed_elsewhere q r n m (x ∷ xs) codes ds last =
      let more : List Output = closed_outputs o t (suc n) xs (open_outputs o t m codes ds last) in
      codes_elsewhere q r n x.0 ((Values n, plain_piece t x.1) ∷ more) ∙ values_elsewhere q (suc r) n x.1 more ∙ closed_elsewhere q (suc (suc r)) (suc n) m xs codes ds last

  cut_elsewhere : (q : List ℕ) (n : ℕ) (cut : Cut) (last : Bool) → sent_to p (placed q 0 (cut_outputs o t n cut last)) ≡ []
  cut_elsewhere q n cut last = closed_elsewhere q 0 n (next_number n cut.closed) cut.closed cut.codes cut.distinct last

  runs_elsewhere : (s : Cutting) (items : List Chunk) (ended : Bool) → sent_to p (reactions (cutter o t) s items ended) ≡ []
  runs_elsewhere s [] ended = refl
  runs_elsewhere s (c ∷ []) false = refl
  runs_elsewhere s (c ∷ []) true = cut_elsewhere c.0 s.number (cut_by o t s c.1) true
  runs_elsewhere s (c ∷ d ∷ cs) ended =
      sent_appends p (placed c.0 0 (cut_outputs o t s.number (cut_by o t s c.1) false)) (reactions (cutter o t) ((cutter o t).holds s c.1) (d ∷ cs) ended)
      ∙ ap₂ (λ (y z : List Chunk). y ++ z) (cut_elsewhere c.0 s.number (cut_by o t s c.1) false) (runs_elsewhere ((cutter o t).holds s c.1) (d ∷ cs) ended)

pub runs_react : RunsReact
runs_react o t items ended = record {
  each = λ j. record {
    codes = codes_sent o t items ended j;
    values = values_sent o t items ended j;
    begun = begun_told j (runs o t items ended) (runs_told o t [] [] items ended) ∙ sym (ap has_chunk (codes_sent o t items ended j));
    closed = closed_told j (runs o t items ended) (runs_told o t [] [] items ended) ∙ sym (ap has_chunk (values_sent o t items ended j));
  };
  elsewhere = λ p h. runs_elsewhere o t p h (cutter o t).start items ended;
}

-- ---- counts

closed_count : (o : DictOptions) (t : Ty) (n : ℕ) (closed : Closed) (more : List Output) → length (closed_outputs o t n closed more) ≡ 2 * length closed + length more
closed_count o t n [] more = omega arith
closed_count o t n (x ∷ xs) more = let rest : length (closed_outputs o t (suc n) xs more) ≡ 2 * length xs + length more = closed_count o t (suc n) xs more in omega arith

number_count : (n : ℕ) (closed : Closed) → next_number n closed ≡ n + length closed
number_count n [] = omega arith
number_count n (x ∷ xs) = let rest : next_number (suc n) xs ≡ suc n + length xs = number_count (suc n) xs in omega arith

pub cuts_are_counted : CutsAreCounted
cuts_are_counted o t n cut = record {
  going_on = closed_count o t n cut.closed (open_outputs o t (next_number n cut.closed) cut.codes cut.distinct false);
  at_end = let both : length (cut_outputs o t n cut true) ≡ 2 * length cut.closed + 2 = closed_count o t n cut.closed (open_outputs o t (next_number n cut.closed) cut.codes cut.distinct true) in omega arith;
  number = number_count n cut.closed;
}

-- ---- numbers

ended_count : (o : DictOptions) (t : Ty) (p : List ℕ) (r : ℕ) (cur : List Chunk) (closed : Closed) → length (ended_runs o t p r cur closed) ≡ length closed
ended_count o t p r cur [] = refl
ended_count o t p r cur (x ∷ xs) = ap suc (ended_count o t p (r + 2) [] xs)

next_begun : (o : DictOptions) (p : List ℕ) (r : ℕ) (cur : List Chunk) (closed : Closed) (codes : List ℕ) → has_chunk (next_codes o p r cur closed codes) ≡ true
next_begun o p r cur [] codes = one_more cur (under p r, codes_piece o codes)
next_begun o p r cur (x ∷ xs) codes = next_begun o p (r + 2) [] xs codes

open_count : (cur : List Chunk) → has_chunk cur ≡ true → length (open_run cur) ≡ 1
open_count [] h = absurd (true≢false (sym h))
open_count (c ∷ cs) h = refl

runs_count : (o : DictOptions) (t : Ty) (s : Cutting) (cur : List Chunk) (c : Chunk) (cs : List Chunk) (newest : Chunk)
    → length (runs_from o t s.distinct cur (c ∷ cs ++ (newest ∷ [])) false) + s.number ≡ suc (state_after (cutter o t) s (c ∷ cs)).number
runs_count o t s cur c [] newest =
    let cut : Cut = cut_at o t s.distinct c in
    let next : List Chunk = next_codes o c.0 0 cur cut.closed cut.codes in
    let both : length (ended_runs o t c.0 0 cur cut.closed ++ open_run next) ≡ length (ended_runs o t c.0 0 cur cut.closed) + length (open_run next) = length-append (ended_runs o t c.0 0 cur cut.closed) (open_run next) in
    let ended : length (ended_runs o t c.0 0 cur cut.closed) ≡ length cut.closed = ended_count o t c.0 0 cur cut.closed in
    let one : length (open_run next) ≡ 1 = open_count next (next_begun o c.0 0 cur cut.closed cut.codes) in
    let number : next_number s.number cut.closed ≡ s.number + length cut.closed = number_count s.number cut.closed in
    let whole : length (ended_runs o t c.0 0 cur cut.closed ++ open_run next) + s.number ≡ suc (next_number s.number cut.closed) = omega arith in
    whole
runs_count o t s cur c (d ∷ cs) newest =
    let cut : Cut = cut_at o t s.distinct c in
    let next : List Chunk = next_codes o c.0 0 cur cut.closed cut.codes in
    let later : List Run = runs_from o t cut.distinct next (d ∷ cs ++ (newest ∷ [])) false in
    let both : length (ended_runs o t c.0 0 cur cut.closed ++ later) ≡ length (ended_runs o t c.0 0 cur cut.closed) + length later = length-append (ended_runs o t c.0 0 cur cut.closed) later in
    let ended : length (ended_runs o t c.0 0 cur cut.closed) ≡ length cut.closed = ended_count o t c.0 0 cur cut.closed in
    let number : next_number s.number cut.closed ≡ s.number + length cut.closed = number_count s.number cut.closed in
    let rest : length later + next_number s.number cut.closed ≡ suc (state_after (cutter o t) ((cutter o t).holds s c.1) (d ∷ cs)).number = runs_count o t ((cutter o t).holds s c.1) next d cs newest in
    let whole : length (ended_runs o t c.0 0 cur cut.closed ++ later) + s.number ≡ length later + next_number s.number cut.closed = omega arith in
    whole ∙ rest

pub runs_are_numbered : RunsAreNumbered
runs_are_numbered o t c cs newest =
    let zero_more : length (runs o t (c ∷ cs ++ (newest ∷ [])) false) ≡ length (runs o t (c ∷ cs ++ (newest ∷ [])) false) + 0 = omega arith in
    zero_more ∙ runs_count o t (cutter o t).start [] c cs newest
