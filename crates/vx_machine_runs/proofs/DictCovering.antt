-- Each number of a dictionary node's plan is at most one that its tasks count.
use Rattle.std.proofs.Common.{◌≡◌, ◌+◌, ◌*◌, ◌≤◌, ◌∷◌, ◌++◌, ◌∙◌, ℕ, suc, inl, inr, ⊎_elim, Bool, true, false, List, length, refl, sym, ap, subst, arith, append_assoc, length-append, []}
use Rattle.std.specs.Prelude.{if◌then◌else◌}
use Rattle.vx_model.specs.Ty.{Ty}
use Rattle.vx_path.specs.Lists.{In}
use Rattle.vx_path.specs.Path.{Eof, under, inside, next}
use Rattle.vx_path.proofs.Lists.{in_left, in_right, in_cases}
use Rattle.vx_rules.specs.Runs.{DictOptions, Run, ended_runs, next_codes, runs}
use Rattle.vx_plan.specs.PlanData.{Setting, Item, Node, rows_in, row_totals}
use Rattle.vx_plan.specs.ChunkedNode.{all_numbers}
use Rattle.vx_plan.specs.DictNode.{is_dictionary, made_counts, dict_numbers, run_plans, runs_node, dict_node}
use Rattle.vx_machine_turns.specs.Forms.{Form, dict_form, form_type}
use Rattle.vx_machine_turns.specs.Locals.{DictNode, RunsSoFar, dict_local, runs_local}
use Rattle.vx_machine_turns.specs.Acts.{Act, numbers_in, indices_in}
use Rattle.vx_machine_turns.specs.Dict.{Stretch, cut_puts, eof_after, rest_eof, next_cut, after_cut, runs_kept, fallback_first, runs_first}
use Rattle.vx_machine_turns.specs.Scripts.{script, filled, block_of}
use Rattle.vx_machine_turns.specs.Fuels.{Fuel, spent, fuel, Enough}
use Rattle.vx_machine_turns.specs.Duties.{duty_of}
use Rattle.vx_machine_turns.specs.Planned.{AtMost}
use Rattle.vx_machine_turns.proofs.DictLaws.{Some_runs, some_come, prefix, to_come, first_come, run_duties}
use Rattle.vx_machine_turns.proofs.DictNodes.{Falls, empty_falls, falls, run_flat, cuts}
use Rattle.vx_machine_runs.proofs.Covers.{all_counted, Covers, most_in, AllCovered, parent_covers}
use Rattle.vx_machine_runs.proofs.GroupCovering.{pass_covers}

-- ---- how far the pointers come

module _ (s : Setting) (n : DictNode) where
  abbrev come : RunsSoFar → Item → List Item → Bool → List Run
  come r j items ended = to_come n.options n.type r.begun r.distinct j items ended

  abbrev acts_of : RunsSoFar → Item → ℕ → List Item → Bool → List Act
  acts_of r j rows items ended = script s (runs_local n r j rows) items ended

  -- the puts move none
  cut_quiet : (keep : List (List ℕ)) (p : List ℕ) (rank base : ℕ) (e : Eof) (begun : Bool) (xs : List Stretch) (codes : List ℕ) (rest : List Act)
      → indices_in (filled keep (cut_puts s n p rank base e begun xs codes) ++ rest) ≡ indices_in rest
  cut_quiet keep p rank base e begun [] codes rest = refl
  cut_quiet keep p rank base e begun (x ∷ xs) codes rest = cut_quiet keep p (rank + 2) (suc (suc base)) (next (next e)) false xs codes rest

  ended_count : (p : List ℕ) (rank : ℕ) (xs : List Stretch) → length (ended_runs n.options n.type p rank [] xs) ≡ length xs
  ended_count p rank [] = refl
  ended_count p rank (x ∷ xs) = ap (λ z. suc z) (ended_count p (rank + 2) xs)

  cut_count : (p : List ℕ) (rank : ℕ) (xs : List Stretch) (codes : List ℕ) (later : List Run) → Some_runs later
      → length (ended_runs n.options n.type p rank [] xs ++ prefix (next_codes n.options p rank [] xs codes) later) ≡ length xs + length later
  cut_count p rank xs codes [] some = absurd some
  cut_count p rank xs codes (q ∷ qs) some =
      length-append (ended_runs n.options n.type p rank [] xs) (prefix (next_codes n.options p rank [] xs codes) (q ∷ qs)) ∙ ap (λ z. z + suc (length qs)) (ended_count p rank xs)

  eof_rises : (e : Eof) (xs : List Stretch) → (eof_after e xs).last ≡ e.last + 2 * length xs
  eof_rises e [] = omega arith
  eof_rises e (x ∷ xs) = let h : (eof_after (next (next e)) xs).last ≡ ((e.last + 1) + 1) + 2 * length xs = eof_rises (next (next e)) xs in omega (arith, h)

  -- behind the last run's eof paths
  come_far : (items : List Item) (r : RunsSoFar) (j : Item) (rows : ℕ) (ended : Bool) → AtMost (r.eof.last + 2 * length (come r j items ended)) ((rest_eof r).last ∷ indices_in (acts_of r j rows items ended))
  come_far [] r j rows false = waits r.begun
    where
      waits : (b : Bool) → AtMost (r.eof.last + 2 * length (to_come n.options n.type b r.distinct j [] false)) ((if b then next (next r.eof) else r.eof).last ∷ [])
      waits true = ((r.eof.last + 1) + 1, inl refl, omega arith)
      waits false = (r.eof.last, inl refl, omega arith)
  come_far [] r j rows true =
      let xs : List Stretch = (next_cut n r j).closed in
      let all : List Stretch = xs ++ (((next_cut n r j).codes, (next_cut n r j).distinct) ∷ []) in
      let up : (eof_after r.eof xs).last ≡ r.eof.last + 2 * length xs = eof_rises r.eof xs in
      let count : length (ended_runs n.options n.type j.0 0 [] all) ≡ length all = ended_count j.0 0 all in
      let more : length all ≡ length xs + 1 = length-append xs (((next_cut n r j).codes, (next_cut n r j).distinct) ∷ []) in
      let l : r.eof.last + 2 * length (ended_runs n.options n.type j.0 0 [] all) ≤ ((eof_after r.eof xs).last + 1) + 1 = omega (arith, up, count, more) in
      (((eof_after r.eof xs).last + 1) + 1, inr (inl refl), l)
  come_far (i ∷ is) r j rows ended =
      let xs : List Stretch = (next_cut n r j).closed in
      let codes : List ℕ = (next_cut n r j).codes in
      let later : List Run = come (after_cut n r j) i is ended in
      let rest : List Act = acts_of (after_cut n r j) i (rows + rows_in i.1) is ended in
      let up : (eof_after r.eof xs).last ≡ r.eof.last + 2 * length xs = eof_rises r.eof xs in
      let count : length (come r j (i ∷ is) ended) ≡ length xs + length later = cut_count j.0 0 xs codes later (some_come n.options n.type (next_cut n r j).distinct i is ended) in
      let h = come_far is (after_cut n r j) i (rows + rows_in i.1) ended in
      let l : (eof_after r.eof xs).last + 2 * length later ≤ h.0 = h.2 in (
        h.0,
        inr (⊎_elim (λ a. inl a) (λ a. inr (inr (subst (λ z. In h.0 z) (sym (cut_quiet (runs_kept (after_cut n r j) i) j.0 0 r.base r.eof r.begun xs codes rest)) a))) h.1),
        omega (arith, up, count, l),
      )

  -- below the chunks' paths
  made_told : (x : ℕ) (items : List Item) (r : RunsSoFar) (j : Item) (rows : ℕ) (ended : Bool) → In x (made_counts n.options n.type r.distinct (j ∷ items) ended) → In x (indices_in (acts_of r j rows items ended))
  made_told x [] r j rows true (inl q) = inr (inl q)
  made_told x [] r j rows true (inr k) = absurd k
  made_told x [] r j rows false k = absurd k
  made_told x (i ∷ is) r j rows ended (inl q) = inr (inl q)
  made_told x (i ∷ is) r j rows ended (inr k) =
      inr (inr (subst (λ z. In x z)
      (sym (cut_quiet (runs_kept (after_cut n r j) i) j.0 0 r.base r.eof r.begun (next_cut n r j).closed (next_cut n r j).codes (acts_of (after_cut n r j) i (rows + rows_in i.1) is ended)))
      (made_told x is (after_cut n r j) i (rows + rows_in i.1) ended k)))

  -- ---- the whole script of one that cuts runs

  abbrev fresh : RunsSoFar
  fresh = record { base = 0; eof = n.eof; begun = false; distinct = []; rows = 0; ended = [] }

  from_runs : (x : ℕ) (i : Item) (is : List Item) (ended : Bool) → is_dictionary (s.image n.options.probe i.1) ≡ true → In x (indices_in (acts_of fresh i (0 + rows_in i.1) is ended))
      → In x (indices_in (script s (dict_local n) (i ∷ is) ended))
  from_runs x i is ended e k =
      subst (λ b. In x (indices_in (block_of (if b then runs_first n i else fallback_first s n i) ++ script s (if b then runs_first n i else fallback_first s n i).after is ended))) (sym e) k

  own_told : (i : Item) (is : List Item) (ended : Bool) → is_dictionary (s.image n.options.probe i.1) ≡ true → (x : ℕ) → In x (dict_numbers n.options n.type (i ∷ is) ended n.eof)
      → AtMost x (n.eof.last ∷ ((numbers_in (script s (dict_local n) (i ∷ is) ended) ++ indices_in (script s (dict_local n) (i ∷ is) ended)) ++ []))
  own_told i is ended e x k = ⊎_elim row (⊎_elim pointer made) (in_cases x (row_totals (i ∷ is)) ((n.eof.last + 2 * length (runs n.options n.type (i ∷ is) ended)) ∷ made_counts n.options n.type [] (i ∷ is) ended) k)
    where
      rows : List ℕ
      rows = numbers_in (script s (dict_local n) (i ∷ is) ended)

      moves : List ℕ
      moves = indices_in (script s (dict_local n) (i ∷ is) ended)

      row : In x (row_totals (i ∷ is)) → AtMost x (n.eof.last ∷ ((rows ++ moves) ++ []))
      row a = most_in x n.eof.last ((rows ++ moves) ++ []) (in_left x (rows ++ moves) [] (in_left x rows moves (subst (λ z. In x z) (sym (cuts s n i is ended e).numbers) a)))

      pointer : x ≡ n.eof.last + 2 * length (runs n.options n.type (i ∷ is) ended) → AtMost x (n.eof.last ∷ ((rows ++ moves) ++ []))
      pointer q =
          let h = come_far is fresh i (0 + rows_in i.1) ended in
          let count : length (runs n.options n.type (i ∷ is) ended) ≡ length (come fresh i is ended) = ap length (first_come n.options n.type [] i is ended) in
          let l : n.eof.last + 2 * length (come fresh i is ended) ≤ h.0 = h.2 in
          (h.0, ⊎_elim (λ a. inl a) (λ a. inr (in_left h.0 (rows ++ moves) [] (in_right h.0 rows moves (from_runs h.0 i is ended e a)))) h.1, omega (arith, q, count, l))

      made : In x (made_counts n.options n.type [] (i ∷ is) ended) → AtMost x (n.eof.last ∷ ((rows ++ moves) ++ []))
      made a = most_in x n.eof.last ((rows ++ moves) ++ []) (in_left x (rows ++ moves) [] (in_right x rows moves (from_runs x i is ended e (made_told x is fresh i (0 + rows_in i.1) ended a))))

-- ---- codes and values

flat_numbers : (t : Ty) (ck vk : Node) (m : Bool) (rs : List Run) (e : Eof) → all_numbers (run_plans t ck vk m rs e) ≡ all_numbers (run_flat ck vk m rs e)
flat_numbers t ck vk m [] e = refl
flat_numbers t ck vk m (r ∷ rs) e =
    ap (λ z. ((ck m r.codes r.closed (inside e)).numbers ++ (vk m r.values r.closed (inside (next e))).numbers) ++ z) (flat_numbers t ck vk m rs (next (next e)))
    ∙ append_assoc (ck m r.codes r.closed (inside e)).numbers (vk m r.values r.closed (inside (next e))).numbers (all_numbers (run_flat ck vk m rs (next (next e))))

runs_covered : (s : Setting) (g : Ty → Fuel) (n : DictNode) (ck vk : Node) → Covers s ck n.codes → Covers s vk n.values → Enough (g (form_type n.codes)) n.codes → Enough (g (form_type n.values)) n.values
    → (base : ℕ) (e : Eof) (rs : List Run) → AllCovered s g (run_duties s n base e rs) (run_flat ck vk n.mark rs e)
runs_covered s g n ck vk h i x y base e [] = tt
runs_covered s g n ck vk h i x y base e (r ∷ rs) = (
  (λ k l. h.covers n.mark (under n.name base) r.codes r.closed (inside e) (g (form_type n.codes)) x k l),
  ((λ k l. i.covers n.mark (under n.name (suc base)) r.values r.closed (inside (next e)) (g (form_type n.values)) y k l), runs_covered s g n ck vk h i x y (suc (suc base)) (next (next e)) rs),
)

pub dict_covers : (s : Setting) (o : DictOptions) (t : Ty) (ck vk fk : Node) (c v f : Form) → Covers s ck c → Covers s vk v → Covers s fk f → Covers s (dict_node s o t ck vk fk) (dict_form o t c v f)
dict_covers s o t ck vk fk c v f hc hv hf = record { covers = go }
  where
    back : (n : DictNode) (g : Ty → Fuel) (items : List Item) (ended : Bool) → Covers s fk n.fallback → Enough (g (form_type n.fallback)) n.fallback → Falls s n (script s (dict_local n) items ended) items ended
        → (x : ℕ) → In x (fk n.mark items ended n.eof).numbers → AtMost x (n.eof.last ∷ all_counted s (fuel g) (duty_of s (dict_form n.options n.type n.codes n.values n.fallback) n.mark n.name items ended n.eof))
    back n g items ended h enough a x k =
        pass_covers s g (duty_of s (dict_form n.options n.type n.codes n.values n.fallback) n.mark n.name items ended n.eof) (duty_of s n.fallback n.mark (under n.name 0) items ended n.eof) [] (fk n.mark items ended n.eof) n.eof.last
        a.born (a.given, a.closes, tt) (λ y j. absurd j) (λ y j. h.covers n.mark (under n.name 0) items ended n.eof (g (form_type n.fallback)) enough y j) x k

    go : (m : Bool) (name : List ℕ) (items : List Item) (ended : Bool) (e : Eof) (d : Fuel) → Enough d (dict_form o t c v f) → (x : ℕ) → In x (dict_node s o t ck vk fk m items ended e).numbers
        → AtMost x (e.last ∷ all_counted s d (duty_of s (dict_form o t c v f) m name items ended e))
    go m name items ended e spent enough x k = absurd enough
    go m name [] true e (fuel g) enough x k =
        let n : DictNode = record { name = name; mark = m; options = o; type = t; codes = c; values = v; fallback = f; eof = e } in back n g [] true hf enough.2 (empty_falls s n) x k
    go m name [] false e (fuel g) enough x k = absurd k
    go m name (y ∷ ys) ended e (fuel g) enough x k = at (is_dictionary (s.image o.probe y.1)) refl k
      where
        at : (b : Bool) → is_dictionary (s.image o.probe y.1) ≡ b → In x (if b then runs_node o t ck vk m (y ∷ ys) ended e else fk m (y ∷ ys) ended e).numbers
            → AtMost x (e.last ∷ all_counted s (fuel g) (duty_of s (dict_form o t c v f) m name (y ∷ ys) ended e))
        at true q k =
            let n : DictNode = record { name = name; mark = m; options = o; type = t; codes = c; values = v; fallback = f; eof = e } in
            let rs : List Run = runs o t (y ∷ ys) ended in
            let w = cuts s n y ys ended q in
            parent_covers s g (duty_of s (dict_form o t c v f) m name (y ∷ ys) ended e) (run_duties s n 0 e rs) (runs_node o t ck vk m (y ∷ ys) ended e) (run_flat ck vk m rs e) (dict_numbers o t (y ∷ ys) ended e) e.last w.seeds_are w.given
            (ap (λ z. dict_numbers o t (y ∷ ys) ended e ++ z) (flat_numbers t ck vk m rs e)) (own_told s n y ys ended q) (runs_covered s g n ck vk hc hv enough.0 enough.1 0 e rs) x k
        at false q k =
            let n : DictNode = record { name = name; mark = m; options = o; type = t; codes = c; values = v; fallback = f; eof = e } in back n g (y ∷ ys) ended hf enough.2 (falls s n y ys ended q) x k
