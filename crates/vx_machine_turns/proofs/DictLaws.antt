-- A dictionary node's task and its children are its plan: the fallback's, or a pair a run.
use Rattle.std.proofs.Common.{◌≡◌, ℕ, suc, ◌+◌, ◌*◌, ◌≤◌, ◌<◌, ◌⊎◌, inl, inr, ⊎_elim, nat_eq, Bool, true, false, List, [], ◌∷◌, ◌++◌, length, Option, Some, None, refl, sym, ap, ap₂, ◌∙◌, subst, arith, append_assoc, length-append, map}
use Rattle.std.specs.Prelude.{if◌then◌else◌}
use Rattle.std.proofs.lemmas.Bool.Decides.{nat_tests}
use Rattle.std.proofs.lemmas.List.{append-nil, length-map}
use Rattle.vx_model.specs.Ty.{Ty}
use Rattle.vx_model.specs.Words.{tail}
use Rattle.vx_model.specs.CellData.{CellData}
use Rattle.vx_model.specs.ChunkData.{plain_piece}
use Rattle.vx_path.specs.Lists.{In}
use Rattle.vx_path.specs.Path.{Eof, under, inside, next}
use Rattle.vx_rules.specs.Columns.{offset_cell}
use Rattle.vx_rules.specs.Runs.{DictOptions, Run, codes_piece, ended_runs, next_codes, open_run, cut_at, runs_from}
use Rattle.vx_tasks.specs.Task.Kind.{Join}
use Rattle.vx_plan.specs.PlanData.{Setting, Item, What, rows_in, totals, row_total}
use Rattle.vx_plan.specs.DictNode.{made_counts}
use Rattle.vx_machine_turns.specs.Locals.{DictNode, RunsSoFar, runs_local}
use Rattle.vx_machine_turns.specs.Acts.{Act, does, gifts, shut, births, wrote, told, first_refusal, shape_in, numbers_in, indices_in, raised_in, lowered_in, runs_of, or_else}
use Rattle.vx_machine_turns.specs.Starts.{start_fault}
use Rattle.vx_machine_turns.specs.Dict.{Stretch, run_seeds, codes_put, ended_puts, cut_puts, base_after, eof_after, ended_rows, open_rows, next_cut, after_cut, last_stretches, runs_kept}
use Rattle.vx_machine_turns.specs.Scripts.{script, filled, with_holds}
use Rattle.vx_machine_turns.specs.Duties.{Duty, duty_of, seeds, Given}
use Rattle.vx_machine_turns.proofs.DutyLaws.{first_start, top, given_on, zero_more}

-- ---- what a run is still to get

-- these codes before those of the first run
abbrev pub prefix : List Item → List Run → List Run
prefix cs [] = open_run cs
prefix cs (r ∷ rs) = record { codes = cs ++ r.codes; values = r.values; closed = r.closed } ∷ rs

abbrev ended_pieces : DictOptions → Ty → List CellData → Item → List Stretch
ended_pieces o t ds j = (cut_at o t ds j).closed ++ (((cut_at o t ds j).codes, (cut_at o t ds j).distinct) ∷ [])

-- the runs that are to come, where the newest chunk isn't cut yet; `begun` tells that the first has codes already
abbrev pub to_come : DictOptions → Ty → Bool → List CellData → Item → List Item → Bool → List Run
to_come o t begun ds j [] true = ended_runs o t j.0 0 [] (ended_pieces o t ds j)
to_come o t true ds j [] false = record { codes = []; values = []; closed = false } ∷ []
to_come o t false ds j [] false = []
to_come o t begun ds j (i ∷ is) ended =
    ended_runs o t j.0 0 [] (cut_at o t ds j).closed
    ++ prefix (next_codes o j.0 0 [] (cut_at o t ds j).closed (cut_at o t ds j).codes) (to_come o t true (cut_at o t ds j).distinct i is ended)

-- a list with a last element isn't empty
abbrev pub Some_runs : List Run → Type 0
Some_runs [] = ⊥
Some_runs (r ∷ rs) = Unit {0}

some_append : (rs qs : List Run) → Some_runs qs → Some_runs (rs ++ qs)
some_append [] qs h = h
some_append (r ∷ rs) qs h = tt

some_prefix : (cs : List Item) (rs : List Run) → Some_runs rs → Some_runs (prefix cs rs)
some_prefix cs [] h = absurd h
some_prefix cs (r ∷ rs) h = tt

some_ended : (o : DictOptions) (t : Ty) (p : List ℕ) (r : ℕ) (cur : List Item) (xs : List Stretch) (x : Stretch) → Some_runs (ended_runs o t p r cur (xs ++ (x ∷ [])))
some_ended o t p r cur [] x = tt
some_ended o t p r cur (y ∷ xs) x = tt

pub some_come : (o : DictOptions) (t : Ty) (ds : List CellData) (j : Item) (items : List Item) (ended : Bool) → Some_runs (to_come o t true ds j items ended)
some_come o t ds j [] true = some_ended o t j.0 0 [] (cut_at o t ds j).closed ((cut_at o t ds j).codes, (cut_at o t ds j).distinct)
some_come o t ds j [] false = tt
some_come o t ds j (i ∷ is) ended = some_append (ended_runs o t j.0 0 [] (cut_at o t ds j).closed) (prefix (next_codes o j.0 0 [] (cut_at o t ds j).closed (cut_at o t ds j).codes) (to_come o t true (cut_at o t ds j).distinct i is ended))
    (some_prefix (next_codes o j.0 0 [] (cut_at o t ds j).closed (cut_at o t ds j).codes) (to_come o t true (cut_at o t ds j).distinct i is ended) (some_come o t (cut_at o t ds j).distinct i is ended))

prefix_twice : (as' bs : List Item) (rs : List Run) → Some_runs rs → prefix as' (prefix bs rs) ≡ prefix (as' ++ bs) rs
prefix_twice as' bs [] h = absurd h
prefix_twice as' bs (r ∷ rs) h = ap (λ z. record { codes = z; values = r.values; closed = r.closed } ∷ rs) (sym (append_assoc as' bs r.codes))

prefix_ended : (o : DictOptions) (t : Ty) (p : List ℕ) (r : ℕ) (cur : List Item) (xs : List Stretch) (x : Stretch) → ended_runs o t p r cur (xs ++ (x ∷ [])) ≡ prefix cur (ended_runs o t p r [] (xs ++ (x ∷ [])))
prefix_ended o t p r cur [] x = refl
prefix_ended o t p r cur (y ∷ xs) x = refl

-- of runs that have codes already
come_next : (o : DictOptions) (t : Ty) (ds : List CellData) (i : Item) (is : List Item) (ended : Bool)
    → ((c : Item) (cs : List Item) → runs_from o t ds (c ∷ cs) (i ∷ is) ended ≡ prefix (c ∷ cs) (to_come o t true ds i is ended))
    → (p : List ℕ) (r : ℕ) (xs : List Stretch) (codes : List ℕ) → runs_from o t ds (next_codes o p r [] xs codes) (i ∷ is) ended ≡ prefix (next_codes o p r [] xs codes) (to_come o t true ds i is ended)
come_next o t ds i is ended ih p r [] codes = ih (under p r, codes_piece o codes) []
come_next o t ds i is ended ih p r (x ∷ xs) codes = come_next o t ds i is ended ih p (r + 2) xs codes

come_is : (o : DictOptions) (t : Ty) (ds : List CellData) (j : Item) (items : List Item) (ended : Bool) (c : Item) (cs : List Item) → runs_from o t ds (c ∷ cs) (j ∷ items) ended ≡ prefix (c ∷ cs) (to_come o t true ds j items ended)
come_is o t ds j [] true c cs = prefix_ended o t j.0 0 (c ∷ cs) (cut_at o t ds j).closed ((cut_at o t ds j).codes, (cut_at o t ds j).distinct)
come_is o t ds j [] false c cs = ap (λ z. record { codes = c ∷ z; values = []; closed = false } ∷ []) (sym (append-nil cs))
come_is o t ds j (i ∷ is) ended c cs = go (cut_at o t ds j).closed (cut_at o t ds j).codes (cut_at o t ds j).distinct (come_is o t (cut_at o t ds j).distinct i is ended)
  where
    go : (xs : List Stretch) (codes : List ℕ) (es : List CellData) → ((c : Item) (cs : List Item) → runs_from o t es (c ∷ cs) (i ∷ is) ended ≡ prefix (c ∷ cs) (to_come o t true es i is ended))
        → ended_runs o t j.0 0 (c ∷ cs) xs ++ runs_from o t es (next_codes o j.0 0 (c ∷ cs) xs codes) (i ∷ is) ended
        ≡ prefix (c ∷ cs) (ended_runs o t j.0 0 [] xs ++ prefix (next_codes o j.0 0 [] xs codes) (to_come o t true es i is ended))
    go [] codes es ih = ih c (cs ++ ((under j.0 0, codes_piece o codes) ∷ []))
        ∙ sym (prefix_twice (c ∷ cs) ((under j.0 0, codes_piece o codes) ∷ []) (to_come o t true es i is ended) (some_come o t es i is ended))
    go (x ∷ xs) codes es ih =
        ap (λ z. record { codes = (c ∷ cs) ++ ((under j.0 0, codes_piece o x.0) ∷ []); values = (under j.0 1, plain_piece t x.1) ∷ []; closed = true } ∷ (ended_runs o t j.0 2 [] xs ++ z))
        (come_next o t es i is ended ih j.0 2 xs codes)

-- and of those that have none
pub first_come : (o : DictOptions) (t : Ty) (ds : List CellData) (j : Item) (items : List Item) (ended : Bool) → runs_from o t ds [] (j ∷ items) ended ≡ to_come o t false ds j items ended
first_come o t ds j [] true = refl
first_come o t ds j [] false = refl
first_come o t ds j (i ∷ is) ended =
    ap (λ z. ended_runs o t j.0 0 [] (cut_at o t ds j).closed ++ z)
    (come_next o t (cut_at o t ds j).distinct i is ended (come_is o t (cut_at o t ds j).distinct i is ended) j.0 0 (cut_at o t ds j).closed (cut_at o t ds j).codes)

-- ---- the children of the runs, the first of which has number base

abbrev pub run_duties : Setting → DictNode → ℕ → Eof → List Run → List Duty
run_duties s n base e [] = []
run_duties s n base e (r ∷ rs) =
    duty_of s n.codes n.mark (under n.name base) r.codes r.closed (inside e) ∷ duty_of s n.values n.mark (under n.name (suc base)) r.values r.closed (inside (next e))
    ∷ run_duties s n (suc (suc base)) (next (next e)) rs

abbrev Some_stretches : List Stretch → Type 0
Some_stretches [] = ⊥
Some_stretches (x ∷ xs) = Unit {0}

some_last : (xs : List Stretch) (x : Stretch) → Some_stretches (xs ++ (x ∷ []))
some_last [] x = tt
some_last (y ∷ xs) x = tt

abbrev pub later_runs : List Run → List Run
later_runs [] = []
later_runs (r ∷ rs) = rs

-- a number behind another one, itself, and one before it
other_one : (base k : ℕ) → base < k → nat_eq base k ≡ false
other_one base k l = grind (arith, nat_tests)

same_one : (base : ℕ) → nat_eq base base ≡ true
same_one base = grind (arith, nat_tests)

later_one : (base k : ℕ) → k < base → nat_eq base k ≡ false
later_one base k l = grind (arith, nat_tests)

pub base_grows : (base : ℕ) (xs : List Stretch) → base ≤ base_after base xs
base_grows base [] = omega arith
base_grows base (x ∷ xs) = let h : suc (suc base) ≤ base_after (suc (suc base)) xs = base_grows (suc (suc base)) xs in omega (arith, h)

module _ (s : Setting) (n : DictNode) where
  abbrev pub S : RunsSoFar → Item → ℕ → List Item → Bool → List Act
  S r j rows items ended = script s (runs_local n r j rows) items ended

  -- the puts of a cut, in front of `rest`, and those of the last one with the join
  abbrev pub cut : List (List ℕ) → List ℕ → ℕ → ℕ → Eof → Bool → List Stretch → List ℕ → List Act → List Act
  cut keep p rank base e begun xs codes rest = filled keep (cut_puts s n p rank base e begun xs codes) ++ rest

  abbrev pub close : List ℕ → ℕ → ℕ → Eof → Bool → List Stretch → List Act
  close p rank base e begun xs = filled [] (ended_puts s n p rank base e begun xs ++ (does Join ∷ []))

  -- a child before number base gets nothing of them
  pub cut_passes : (keep : List (List ℕ)) (p : List ℕ) (rank base : ℕ) (e : Eof) (begun : Bool) (xs : List Stretch) (codes : List ℕ) (rest : List Act) (k : ℕ) → k < base
      → (gifts k (cut keep p rank base e begun xs codes rest) ≡ gifts k rest) × (shut k (cut keep p rank base e begun xs codes rest) ≡ shut k rest)
  cut_passes keep p rank base e begun [] codes rest k l = let z : nat_eq base k ≡ false = later_one base k l in (rw z refl, refl)
  cut_passes keep p rank base e begun (x ∷ xs) codes rest k l =
      let z : nat_eq base k ≡ false = later_one base k l in
      let y : nat_eq (suc base) k ≡ false = later_one (suc base) k (omega (arith, l)) in
      let q = cut_passes keep p (rank + 2) (suc (suc base)) (next (next e)) false xs codes rest k (omega (arith, l)) in
      (rw (z, y) q.0, rw (z, y) q.1)

  pub close_passes : (p : List ℕ) (rank base : ℕ) (e : Eof) (begun : Bool) (xs : List Stretch) (k : ℕ) → k < base → (gifts k (close p rank base e begun xs) ≡ []) × (shut k (close p rank base e begun xs) ≡ false)
  close_passes p rank base e begun [] k l = (refl, refl)
  close_passes p rank base e begun (x ∷ xs) k l =
      let z : nat_eq base k ≡ false = later_one base k l in
      let y : nat_eq (suc base) k ≡ false = later_one (suc base) k (omega (arith, l)) in
      let q = close_passes p (rank + 2) (suc (suc base)) (next (next e)) false xs k (omega (arith, l)) in
      (rw (z, y) q.0, rw (z, y) q.1)

  pub early : (r : RunsSoFar) (j : Item) (rows : ℕ) (items : List Item) (ended : Bool) (k : ℕ) → k < r.base → (gifts k (S r j rows items ended) ≡ []) × (shut k (S r j rows items ended) ≡ false)
  early r j rows [] true k l = close_passes j.0 0 r.base r.eof r.begun (last_stretches n r j) k l
  early r j rows [] false k l = (refl, refl)
  early r j rows (i ∷ is) ended k l =
      let xs : List Stretch = (next_cut n r j).closed in
      let b : r.base ≤ base_after r.base xs = base_grows r.base xs in
      let q = cut_passes (runs_kept (after_cut n r j) i) j.0 0 r.base r.eof r.begun xs (next_cut n r j).codes (S (after_cut n r j) i (rows + rows_in i.1) is ended) k l in
      let h = early (after_cut n r j) i (rows + rows_in i.1) is ended k (omega (arith, b, l)) in
      (q.0 ∙ h.0, q.1 ∙ h.1)

  -- ---- the streams of the runs

  -- of the first run, its codes and its values, and of the later ones
  abbrev pub run_given : List Act → ℕ → Eof → List Run → Type 0
  run_given acts base e rs = Given acts base (run_duties s n base e rs)

  -- the runs of a cut, where these come later
  abbrev cut_runs : List ℕ → ℕ → List Stretch → List ℕ → List Run → List Run
  cut_runs p rank xs codes later = ended_runs n.options n.type p rank [] xs ++ prefix (next_codes n.options p rank [] xs codes) later

  cut_given : (keep : List (List ℕ)) (p : List ℕ) (rank base : ℕ) (e : Eof) (begun : Bool) (xs : List Stretch) (codes : List ℕ) (rest : List Act) (later : List Run) → Some_runs later
      → ((k : ℕ) → k < base_after base xs → (gifts k rest ≡ []) × (shut k rest ≡ false)) → run_given rest (base_after base xs) (eof_after e xs) later
      → run_given (cut keep p rank base e begun xs codes rest) base e (cut_runs p rank xs codes later)
  cut_given keep p rank base e begun [] codes rest [] some h g = absurd some
  cut_given keep p rank base e begun [] codes rest (q ∷ qs) some h (a, b, (c, d, r)) =
      let z : nat_eq base base ≡ true = same_one base in
      let y : nat_eq base (suc base) ≡ false = other_one base (suc base) (omega arith) in (
        rw z (ap (λ x. (under p rank, codes_piece n.options codes) ∷ x) a),
        b,
        (
          rw y c,
          d,
          given_on (with_holds keep (codes_put s n p rank base e begun codes)) rest (suc (suc base)) (run_duties s n (suc (suc base)) (next (next e)) qs)
              (λ k l. let w : nat_eq base k ≡ false = other_one base k (omega (arith, l)) in (rw w refl, refl)) r,
        ),
      )
  cut_given keep p rank base e begun (x ∷ xs) codes rest later some h g =
      let whole : List Act = cut keep p rank base e begun (x ∷ xs) codes rest in
      let deeper : List Act = cut keep p (rank + 2) (suc (suc base)) (next (next e)) false xs codes rest in
      let ih = cut_given keep p (rank + 2) (suc (suc base)) (next (next e)) false xs codes rest later some h g in
      let grows : suc (suc base) ≤ base_after (suc (suc base)) xs = base_grows (suc (suc base)) xs in
      let first = cut_passes keep p (rank + 2) (suc (suc base)) (next (next e)) false xs codes rest base (omega arith) in
      let second = cut_passes keep p (rank + 2) (suc (suc base)) (next (next e)) false xs codes rest (suc base) (omega arith) in
      let none = h base (omega (arith, grows)) in
      let none2 = h (suc base) (omega (arith, grows)) in
      let z : nat_eq base base ≡ true = same_one base in
      let y : nat_eq base (suc base) ≡ false = other_one base (suc base) (omega arith) in
      let v : nat_eq (suc base) base ≡ false = later_one (suc base) base (omega arith) in
      let u : nat_eq (suc base) (suc base) ≡ true = same_one (suc base) in (
        rw (z, v) (ap (λ t. (under p rank, codes_piece n.options x.0) ∷ t) (first.0 ∙ none.0)),
        rw z refl,
        (
          rw (y, u) (ap (λ t. (under p (suc rank), plain_piece n.type x.1) ∷ t) (second.0 ∙ none2.0)),
          rw (y, u) refl,
          given_on (top whole) (top (tail whole) ∷ deeper) (suc (suc base))
              (run_duties s n (suc (suc base)) (next (next e)) (cut_runs p (rank + 2) xs codes later))
              (λ k l. let w : nat_eq base k ≡ false = other_one base k (omega (arith, l)) in (rw w refl, refl))
              (given_on (top (tail whole)) deeper (suc (suc base))
              (run_duties s n (suc (suc base)) (next (next e)) (cut_runs p (rank + 2) xs codes later))
              (λ k l. let w : nat_eq base k ≡ false = other_one base k (omega (arith, l)) in let w2 : nat_eq (suc base) k ≡ false = other_one (suc base) k (omega (arith, l)) in (rw w2 refl, rw (w, w2) refl)) ih),
        ),
      )

  close_given : (p : List ℕ) (rank base : ℕ) (e : Eof) (begun : Bool) (xs : List Stretch) → run_given (close p rank base e begun xs) base e (ended_runs n.options n.type p rank [] xs)
  close_given p rank base e begun [] = tt
  close_given p rank base e begun (x ∷ xs) =
      let whole : List Act = close p rank base e begun (x ∷ xs) in
      let deeper : List Act = close p (rank + 2) (suc (suc base)) (next (next e)) false xs in
      let ih = close_given p (rank + 2) (suc (suc base)) (next (next e)) false xs in
      let first = close_passes p (rank + 2) (suc (suc base)) (next (next e)) false xs base (omega arith) in
      let second = close_passes p (rank + 2) (suc (suc base)) (next (next e)) false xs (suc base) (omega arith) in
      let z : nat_eq base base ≡ true = same_one base in
      let y : nat_eq base (suc base) ≡ false = other_one base (suc base) (omega arith) in
      let v : nat_eq (suc base) base ≡ false = later_one (suc base) base (omega arith) in
      let u : nat_eq (suc base) (suc base) ≡ true = same_one (suc base) in (
        rw (z, v) (ap (λ t. (under p rank, codes_piece n.options x.0) ∷ t) first.0),
        rw z refl,
        (
          rw (y, u) (ap (λ t. (under p (suc rank), plain_piece n.type x.1) ∷ t) second.0),
          rw (y, u) refl,
          given_on (top whole) (top (tail whole) ∷ deeper) (suc (suc base))
              (run_duties s n (suc (suc base)) (next (next e)) (ended_runs n.options n.type p (rank + 2) [] xs))
              (λ k l. let w : nat_eq base k ≡ false = other_one base k (omega (arith, l)) in (rw w refl, refl))
              (given_on (top (tail whole)) deeper (suc (suc base)) (run_duties s n (suc (suc base)) (next (next e)) (ended_runs n.options n.type p (rank + 2) [] xs))
              (λ k l. let w : nat_eq base k ≡ false = other_one base k (omega (arith, l)) in let w2 : nat_eq (suc base) k ≡ false = other_one (suc base) k (omega (arith, l)) in (rw w2 refl, rw (w, w2) refl)) ih),
        ),
      )

  -- ---- who is started, and what that refuses: the children of the first run, unless it has begun, and those of the later ones

  abbrev own_start : Option What
  own_start = or_else (start_fault s n.codes n.mark) (start_fault s n.values n.mark)

  abbrev pub later_duties : ℕ → Eof → List Run → List Duty
  later_duties base e rs = run_duties s n (suc (suc base)) (next (next e)) (later_runs rs)

  seeds_split : (base : ℕ) (e : Eof) (rs : List Run) → Some_runs rs → run_seeds n base e ++ seeds (later_duties base e rs) ≡ seeds (run_duties s n base e rs)
  seeds_split base e [] h = absurd h
  seeds_split base e (r ∷ rs) h = refl

  start_split : (base : ℕ) (e : Eof) (rs : List Run) → Some_runs rs → told own_start (told (first_start (later_duties base e rs)) []) ≡ told (first_start (run_duties s n base e rs)) []
  start_split base e [] h = absurd h
  start_split base e (r ∷ rs) h = go (start_fault s n.codes n.mark) (start_fault s n.values n.mark) (first_start (run_duties s n (suc (suc base)) (next (next e)) rs))
    where
      go : (a b c : Option What) → told (or_else a b) (told c []) ≡ told (or_else a (or_else b c)) []
      go (Some a) b c = refl
      go None (Some b) c = refl
      go None None c = refl

  record Born (acts : List Act) (begun : Bool) (base : ℕ) (e : Eof) (rs : List Run) : Type 0 where
    seeds_are : births acts ≡ (if begun then [] else run_seeds n base e) ++ seeds (later_duties base e rs)
    flags : first_refusal acts ≡ told (if begun then None else own_start) (told (first_start (later_duties base e rs)) [])

  cut_born : (keep : List (List ℕ)) (p : List ℕ) (rank base : ℕ) (e : Eof) (begun : Bool) (xs : List Stretch) (codes : List ℕ) (rest : List Act) (later : List Run) → Some_runs later
      → Born rest true (base_after base xs) (eof_after e xs) later → Born (cut keep p rank base e begun xs codes rest) begun base e (cut_runs p rank xs codes later)
  cut_born keep p rank base e begun [] codes rest [] some h = absurd some
  cut_born keep p rank base e begun [] codes rest (q ∷ qs) some h = record {
    seeds_are = ap (λ z. (if begun then [] else run_seeds n base e) ++ z) h.seeds_are;
    flags = ap (λ z. told (if begun then None else own_start) z) h.flags;
  }
  cut_born keep p rank base e begun (x ∷ xs) codes rest later some h =
      let ih = cut_born keep p (rank + 2) (suc (suc base)) (next (next e)) false xs codes rest later some h in
      let deeper : List Run = cut_runs p (rank + 2) xs codes later in
      let there : Some_runs deeper = some_append (ended_runs n.options n.type p (rank + 2) [] xs) (prefix (next_codes n.options p (rank + 2) [] xs codes) later) (some_prefix (next_codes n.options p (rank + 2) [] xs codes) later some) in
      record {
        seeds_are = ap (λ z. (if begun then [] else run_seeds n base e) ++ z) (ih.seeds_are ∙ seeds_split (suc (suc base)) (next (next e)) deeper there);
        flags = ap (λ z. told (if begun then None else own_start) z) (ih.flags ∙ start_split (suc (suc base)) (next (next e)) deeper there);
      }

  close_born : (p : List ℕ) (rank base : ℕ) (e : Eof) (begun : Bool) (xs : List Stretch) → Some_stretches xs → Born (close p rank base e begun xs) begun base e (ended_runs n.options n.type p rank [] xs)
  close_born p rank base e begun [] some = absurd some
  close_born p rank base e begun (x ∷ []) some = record { seeds_are = refl; flags = refl }
  close_born p rank base e begun (x ∷ y ∷ xs) some =
      let ih = close_born p (rank + 2) (suc (suc base)) (next (next e)) false (y ∷ xs) tt in
      let deeper : List Run = ended_runs n.options n.type p (rank + 2) [] (y ∷ xs) in
      record {
        seeds_are = ap (λ z. (if begun then [] else run_seeds n base e) ++ z) (ih.seeds_are ∙ seeds_split (suc (suc base)) (next (next e)) deeper tt);
        flags = ap (λ z. told (if begun then None else own_start) z) (ih.flags ∙ start_split (suc (suc base)) (next (next e)) deeper tt);
      }

  -- ---- what else they tell: nothing

  record Adds (acts rest : List Act) : Type 0 where
    silent : wrote acts ≡ wrote rest
    numbers : numbers_in acts ≡ numbers_in rest
    indices : indices_in acts ≡ indices_in rest
    shape : shape_in acts ≡ shape_in rest
    raises : raised_in acts ≡ raised_in rest
    lowers : lowered_in acts ≡ lowered_in rest

  cut_adds : (keep : List (List ℕ)) (p : List ℕ) (rank base : ℕ) (e : Eof) (begun : Bool) (xs : List Stretch) (codes : List ℕ) (rest : List Act) → Adds (cut keep p rank base e begun xs codes rest) rest
  cut_adds keep p rank base e begun [] codes rest = record { silent = refl; numbers = refl; indices = refl; shape = refl; raises = zero_more refl; lowers = zero_more refl }
  cut_adds keep p rank base e begun (x ∷ xs) codes rest =
      let h = cut_adds keep p (rank + 2) (suc (suc base)) (next (next e)) false xs codes rest in
      record { silent = h.silent; numbers = h.numbers; indices = h.indices; shape = h.shape; raises = zero_more (zero_more h.raises); lowers = zero_more (zero_more h.lowers) }

  close_adds : (p : List ℕ) (rank base : ℕ) (e : Eof) (begun : Bool) (xs : List Stretch) → Adds (close p rank base e begun xs) []
  close_adds p rank base e begun [] = record { silent = refl; numbers = refl; indices = refl; shape = refl; raises = refl; lowers = refl }
  close_adds p rank base e begun (x ∷ xs) =
      let h = close_adds p (rank + 2) (suc (suc base)) (next (next e)) false xs in
      record { silent = h.silent; numbers = h.numbers; indices = h.indices; shape = h.shape; raises = zero_more (zero_more h.raises); lowers = zero_more (zero_more h.lowers) }

  -- ---- the whole script

  -- the rows of runs, the first of which has some already
  abbrev pub run_rows : ℕ → List Run → List ℕ
  run_rows rows [] = []
  run_rows rows (x ∷ xs) = (rows + row_total x.codes) ∷ run_rows 0 xs

  abbrev pub come : RunsSoFar → Item → List Item → Bool → List Run
  come r j items ended = to_come n.options n.type r.begun r.distinct j items ended

  pub record Facts (acts : List Act) (r : RunsSoFar) (j : Item) (rows : ℕ) (items : List Item) (ended : Bool) : Type 0 where
    pub given : run_given acts r.base r.eof (come r j items ended)
    pub seeds_are : births acts ≡ (if r.begun then seeds (later_duties r.base r.eof (come r j items ended)) else seeds (run_duties s n r.base r.eof (come r j items ended)))
    pub flags : first_refusal acts ≡ told (if r.begun then first_start (later_duties r.base r.eof (come r j items ended)) else first_start (run_duties s n r.base r.eof (come r j items ended))) []
    pub silent : wrote acts ≡ []
    pub numbers : numbers_in acts ≡ totals rows_in rows items
    pub moves : (x : ℕ) → In x (indices_in acts) → (x ≤ r.eof.last + 2 * length (come r j items ended)) ⊎ In x (made_counts n.options n.type r.distinct (j ∷ items) ended)
    pub shape : ended ≡ true → shape_in acts ≡ Some (runs_of n.type (rows + row_total items) (r.ended ++ run_rows r.rows (come r j items ended)))
    pub raises : raised_in acts ≡ 0
    pub lowers : lowered_in acts ≡ 0

  -- of a run that has begun, and of one that hasn't
  born_seeds : (acts : List Act) (begun : Bool) (base : ℕ) (e : Eof) (rs : List Run) → Some_runs rs → Born acts begun base e rs → births acts ≡ (if begun then seeds (later_duties base e rs) else seeds (run_duties s n base e rs))
  born_seeds acts true base e rs some h = h.seeds_are
  born_seeds acts false base e rs some h = h.seeds_are ∙ seeds_split base e rs some

  born_flags : (acts : List Act) (begun : Bool) (base : ℕ) (e : Eof) (rs : List Run) → Some_runs rs → Born acts begun base e rs → first_refusal acts ≡ told (if begun then first_start (later_duties base e rs) else first_start (run_duties s n base e rs)) []
  born_flags acts true base e rs some h = h.flags
  born_flags acts false base e rs some h = h.flags ∙ start_split base e rs some

  -- ---- rows and numbers of runs

  piece_rows : (path : List ℕ) (codes : List ℕ) → row_total ((path, codes_piece n.options codes) ∷ []) ≡ length codes
  piece_rows path codes = let h : length (map offset_cell codes) ≡ length codes = length-map codes offset_cell in omega (arith, h)

  ended_rows_are : (p : List ℕ) (rank rows : ℕ) (xs : List Stretch) → run_rows rows (ended_runs n.options n.type p rank [] xs) ≡ ended_rows rows xs
  ended_rows_are p rank rows [] = refl
  ended_rows_are p rank rows (x ∷ xs) = ap₂ (λ y z. (rows + y) ∷ z) (piece_rows (under p rank) x.0) (ended_rows_are p (rank + 2) 0 xs)

  cut_rows_are : (p : List ℕ) (rank rows : ℕ) (xs : List Stretch) (codes : List ℕ) (later : List Run) → Some_runs later → run_rows rows (cut_runs p rank xs codes later) ≡ ended_rows rows xs ++ run_rows (open_rows rows xs codes) later
  cut_rows_are p rank rows [] codes [] some = absurd some
  cut_rows_are p rank rows [] codes (q ∷ qs) some =
      let h : length (map offset_cell codes) ≡ length codes = length-map codes offset_cell in
      ap (λ z. z ∷ run_rows 0 qs) (omega (arith, h))
  cut_rows_are p rank rows (x ∷ xs) codes later some = ap₂ (λ y z. (rows + y) ∷ z) (piece_rows (under p rank) x.0) (cut_rows_are p (rank + 2) 0 xs codes later some)

  ended_count : (p : List ℕ) (rank : ℕ) (xs : List Stretch) → length (ended_runs n.options n.type p rank [] xs) ≡ length xs
  ended_count p rank [] = refl
  ended_count p rank (x ∷ xs) = ap (λ z. suc z) (ended_count p (rank + 2) xs)

  cut_count : (p : List ℕ) (rank : ℕ) (xs : List Stretch) (codes : List ℕ) (later : List Run) → Some_runs later → length (cut_runs p rank xs codes later) ≡ length xs + length later
  cut_count p rank [] codes [] some = absurd some
  cut_count p rank [] codes (q ∷ qs) some = omega arith
  cut_count p rank (x ∷ xs) codes later some = let h : length (cut_runs p (rank + 2) xs codes later) ≡ length xs + length later = cut_count p (rank + 2) xs codes later some in omega (arith, h)

  eof_rises : (e : Eof) (xs : List Stretch) → (eof_after e xs).last ≡ e.last + 2 * length xs
  eof_rises e [] = omega arith
  eof_rises e (x ∷ xs) = let h : (eof_after (next (next e)) xs).last ≡ ((e.last + 1) + 1) + 2 * length xs = eof_rises (next (next e)) xs in omega (arith, h)

  -- ---- its facts

  open_facts : (r : RunsSoFar) (j : Item) (rows : ℕ) → Facts [] r j rows [] false
  open_facts r j rows = record {
    given = given r.begun;
    seeds_are = seeds_are r.begun;
    flags = flags r.begun;
    silent = refl;
    numbers = refl;
    moves = λ x i. absurd i;
    shape = λ q. cc;
    raises = refl;
    lowers = refl;
  }
    where
      given : (b : Bool) → run_given [] r.base r.eof (to_come n.options n.type b r.distinct j [] false)
      given true = (refl, refl, (refl, refl, tt))
      given false = tt

      seeds_are : (b : Bool) → [] ≡ (if b then seeds (later_duties r.base r.eof (to_come n.options n.type b r.distinct j [] false)) else seeds (run_duties s n r.base r.eof (to_come n.options n.type b r.distinct j [] false)))
      seeds_are true = refl
      seeds_are false = refl

      flags : (b : Bool) → [] ≡ told (if b then first_start (later_duties r.base r.eof (to_come n.options n.type b r.distinct j [] false)) else first_start (run_duties s n r.base r.eof (to_come n.options n.type b r.distinct j [] false))) []
      flags true = refl
      flags false = refl

  last_facts : (r : RunsSoFar) (j : Item) (rows : ℕ) → Facts (S r j rows [] true) r j rows [] true
  last_facts r j rows =
      let xs : List Stretch = (next_cut n r j).closed in
      let x : Stretch = ((next_cut n r j).codes, (next_cut n r j).distinct) in
      let rs : List Run = ended_runs n.options n.type j.0 0 [] (xs ++ (x ∷ [])) in
      let acts : List Act = close j.0 0 r.base r.eof r.begun (xs ++ (x ∷ [])) in
      let some : Some_runs rs = some_ended n.options n.type j.0 0 [] xs x in
      let b : Born acts r.begun r.base r.eof rs = close_born j.0 0 r.base r.eof r.begun (xs ++ (x ∷ [])) (some_last xs x) in
      let q : Adds acts [] = close_adds j.0 0 r.base r.eof r.begun (xs ++ (x ∷ [])) in
      let up : (eof_after r.eof xs).last ≡ r.eof.last + 2 * length xs = eof_rises r.eof xs in
      let count : length rs ≡ length (xs ++ (x ∷ [])) = ended_count j.0 0 (xs ++ (x ∷ [])) in
      let more : length (xs ++ (x ∷ [])) ≡ length xs + 1 = length-append xs (x ∷ []) in
      record {
        given = given_on (top (S r j rows [] true)) acts r.base (run_duties s n r.base r.eof rs) (λ k l. (refl, refl)) (close_given j.0 0 r.base r.eof r.begun (xs ++ (x ∷ [])));
        seeds_are = born_seeds acts r.begun r.base r.eof rs some b;
        flags = born_flags acts r.begun r.base r.eof rs some b;
        silent = q.silent;
        numbers = q.numbers;
        moves = λ y i. moved (length xs) (length rs) (eof_after r.eof xs).last up count more y (subst (λ z. In y ((((eof_after r.eof xs).last + 1) + 1) ∷ (2 * suc (length xs)) ∷ z)) q.indices i);
        shape = λ e. ap₂ (λ y z. Some (runs_of n.type y (r.ended ++ z))) (omega arith) (sym (ended_rows_are j.0 0 r.rows (xs ++ (x ∷ []))));
        raises = zero_more q.raises;
        lowers = zero_more q.lowers;
      }
    where
      moved : (c all top : ℕ) → top ≡ r.eof.last + 2 * c → all ≡ length ((next_cut n r j).closed ++ (((next_cut n r j).codes, (next_cut n r j).distinct) ∷ []))
          → length ((next_cut n r j).closed ++ (((next_cut n r j).codes, (next_cut n r j).distinct) ∷ [])) ≡ c + 1
          → (y : ℕ) → In y (((top + 1) + 1) ∷ (2 * suc c) ∷ []) → (y ≤ r.eof.last + 2 * all) ⊎ In y ((2 * suc c) ∷ [])
      moved c all top up count more y (inl q) = inl (omega (arith, q, up, count, more))
      moved c all top up count more y (inr (inl q)) = inr (inl q)
      moved c all top up count more y (inr (inr q)) = absurd q

  step : (r : RunsSoFar) (j : Item) (rows : ℕ) (i : Item) (is : List Item) (ended : Bool) → Facts (S (after_cut n r j) i (rows + rows_in i.1) is ended) (after_cut n r j) i (rows + rows_in i.1) is ended → Facts (S r j rows (i ∷ is) ended) r j rows (i ∷ is) ended
  step r j rows i is ended h =
      let xs : List Stretch = (next_cut n r j).closed in
      let codes : List ℕ = (next_cut n r j).codes in
      let keep : List (List ℕ) = runs_kept (after_cut n r j) i in
      let rest : List Act = S (after_cut n r j) i (rows + rows_in i.1) is ended in
      let later : List Run = come (after_cut n r j) i is ended in
      let some : Some_runs later = some_come n.options n.type (next_cut n r j).distinct i is ended in
      let rs : List Run = cut_runs j.0 0 xs codes later in
      let there : Some_runs rs = some_append (ended_runs n.options n.type j.0 0 [] xs) (prefix (next_codes n.options j.0 0 [] xs codes) later) (some_prefix (next_codes n.options j.0 0 [] xs codes) later some) in
      let acts : List Act = cut keep j.0 0 r.base r.eof r.begun xs codes rest in
      let b : Born acts r.begun r.base r.eof rs = cut_born keep j.0 0 r.base r.eof r.begun xs codes rest later some (record { seeds_are = h.seeds_are; flags = h.flags }) in
      let q : Adds acts rest = cut_adds keep j.0 0 r.base r.eof r.begun xs codes rest in
      let g = cut_given keep j.0 0 r.base r.eof r.begun xs codes rest later some (λ k l. early (after_cut n r j) i (rows + rows_in i.1) is ended k l) h.given in
      let up : (eof_after r.eof xs).last ≡ r.eof.last + 2 * length xs = eof_rises r.eof xs in
      let count : length rs ≡ length xs + length later = cut_count j.0 0 xs codes later some in
      let least : 1 ≤ length later = at_least later some in
      record {
        given = given_on (top (S r j rows (i ∷ is) ended)) acts r.base (run_duties s n r.base r.eof rs) (λ k l. (refl, refl)) g;
        seeds_are = born_seeds acts r.begun r.base r.eof rs there b;
        flags = born_flags acts r.begun r.base r.eof rs there b;
        silent = q.silent ∙ h.silent;
        numbers = ap (λ z. (rows + rows_in i.1) ∷ z) (q.numbers ∙ h.numbers);
        moves = λ y k. moved (length xs) (length rs) (length later) (eof_after r.eof xs).last (indices_in rest) up count least h.moves y
            (subst (λ z. In y ((((eof_after r.eof xs).last + 1) + 1) ∷ (2 * length xs + 1) ∷ z)) q.indices k);
        shape = λ e. q.shape ∙ h.shape e ∙ ap₂ (λ y z. Some (runs_of n.type y z)) (omega arith)
            (append_assoc r.ended (ended_rows r.rows xs) (run_rows (open_rows r.rows xs codes) later) ∙ ap (λ z. r.ended ++ z) (sym (cut_rows_are j.0 0 r.rows xs codes later some)));
        raises = zero_more (q.raises ∙ h.raises);
        lowers = zero_more (q.lowers ∙ h.lowers);
      }
    where
      at_least : (rs : List Run) → Some_runs rs → 1 ≤ length rs
      at_least [] h = absurd h
      at_least (r ∷ rs) h = omega arith

      moved : (c all left top : ℕ) (ns : List ℕ) → top ≡ r.eof.last + 2 * c → all ≡ c + left → 1 ≤ left
          → ((y : ℕ) → In y ns → (y ≤ top + 2 * left) ⊎ In y (made_counts n.options n.type (next_cut n r j).distinct (i ∷ is) ended))
          → (y : ℕ) → In y (((top + 1) + 1) ∷ (2 * c + 1) ∷ ns) → (y ≤ r.eof.last + 2 * all) ⊎ In y ((2 * c + 1) ∷ made_counts n.options n.type (next_cut n r j).distinct (i ∷ is) ended)
      moved c all left top ns up count least f y (inl q) = inl (omega (arith, q, up, count, least))
      moved c all left top ns up count least f y (inr (inl q)) = inr (inl q)
      moved c all left top ns up count least f y (inr (inr k)) = ⊎_elim (λ l. inl (omega (arith, l, up, count))) (λ l. inr (inr l)) (f y k)

  pub facts : (items : List Item) (r : RunsSoFar) (j : Item) (rows : ℕ) (ended : Bool) → Facts (S r j rows items ended) r j rows items ended
  facts [] r j rows true = last_facts r j rows
  facts [] r j rows false = open_facts r j rows
  facts (i ∷ is) r j rows ended = step r j rows i is ended (facts is (after_cut n r j) i (rows + rows_in i.1) ended)
