-- A dictionary node is its plan: the fallback's, or a pair a run.
use Rattle.std.proofs.Common.{◌≡◌, ℕ, suc, ◌+◌, ◌*◌, ◌≤◌, ◌⊎◌, inr, ⊎_elim, Bool, true, false, List, [], ◌∷◌, ◌++◌, length, Option, Some, None, refl, sym, ap, ap₂, ◌∙◌, subst, arith, append_assoc}
use Rattle.std.specs.Prelude.{if◌then◌else◌}
use Rattle.std.proofs.lemmas.List.{append-nil}
use Rattle.vx_model.specs.Ty.{Ty}
use Rattle.vx_model.specs.Words.{tail}
use Rattle.vx_layout_spec.specs.LayoutTree.{gathered, dict_layout}
use Rattle.vx_path.specs.Lists.{In}
use Rattle.vx_path.proofs.Lists.{in_left}
use Rattle.vx_path.specs.Path.{Eof, under, inside, next}
use Rattle.vx_model.specs.CellData.{CellData}
use Rattle.vx_rules.specs.Runs.{DictOptions, Run, ended_runs, next_codes, cut_at, runs}
use Rattle.vx_plan.specs.PlanData.{Setting, Item, Plan, Node, What, rows_in, row_total, row_totals}
use Rattle.vx_plan.specs.ChunkedNode.{all_pairs, all_faults, all_layouts, all_numbers, all_reserved}
use Rattle.vx_plan.specs.DictNode.{is_dictionary, made_counts, dict_numbers, run_plans, runs_node, dict_node}
use Rattle.vx_machine_turns.specs.Forms.{Form, dict_form, form_type}
use Rattle.vx_machine_turns.specs.Locals.{DictNode, RunsSoFar, dict_local, fallback_local}
use Rattle.vx_machine_turns.specs.Acts.{Act, gifts, shut, births, wrote, told, first_refusal, shape_in, numbers_in, indices_in, raised_in, lowered_in, runs_of, passes, or_else}
use Rattle.vx_machine_turns.specs.Starts.{start_fault}
use Rattle.vx_machine_turns.specs.Dict.{Stretch, fallback_seed, fallback_first, runs_first}
use Rattle.vx_machine_turns.specs.Scripts.{script, block_of}
use Rattle.vx_machine_turns.specs.Fuels.{Fuel, spent, fuel, Enough}
use Rattle.vx_machine_turns.specs.Readings.{run_layouts, shaped}
use Rattle.vx_machine_turns.specs.Duties.{Duty, duty_of, seeds, Given}
use Rattle.vx_machine_turns.specs.Planned.{Meets, Fair}
use Rattle.vx_machine_turns.proofs.DutyLaws.{AllMeet, Parent, spread, first_start, first_any, AllEnded, top, given_on, zero_more, unraised, told_one, told_nil, none_some, most_right, most_here, most_later}
use Rattle.vx_machine_turns.proofs.DictLaws.{Some_runs, some_come, prefix, to_come, first_come, run_duties, facts, run_rows}

-- ---- the fallback

module _ (s : Setting) (n : DictNode) where
  pub record Falls (acts : List Act) (items : List Item) (ended : Bool) : Type 0 where
    pub born : births acts ≡ fallback_seed n ∷ []
    pub given : gifts 0 acts ≡ items
    pub closes : shut 0 acts ≡ ended
    pub flags : first_refusal acts ≡ told (start_fault s n.fallback n.mark) []
    pub silent : wrote acts ≡ []
    pub numbers : numbers_in acts ≡ []
    pub indices : indices_in acts ≡ []
    pub shape : ended ≡ true → shape_in acts ≡ Some passes
    pub raises : raised_in acts ≡ 0
    pub lowers : lowered_in acts ≡ 0

  -- once it is started
  record Hands (acts : List Act) (items : List Item) (ended : Bool) : Type 0 where
    born : births acts ≡ []
    given : gifts 0 acts ≡ items
    closes : shut 0 acts ≡ ended
    calm : first_refusal acts ≡ []
    silent : wrote acts ≡ []
    numbers : numbers_in acts ≡ []
    indices : indices_in acts ≡ []
    shape : ended ≡ true → shape_in acts ≡ Some passes
    raises : raised_in acts ≡ 0
    lowers : lowered_in acts ≡ 0

  hands : (items : List Item) (ended : Bool) → Hands (script s fallback_local items ended) items ended
  hands [] true = record { born = refl; given = refl; closes = refl; calm = refl; silent = refl; numbers = refl; indices = refl; shape = λ q. refl; raises = refl; lowers = refl }
  hands [] false = record { born = refl; given = refl; closes = refl; calm = refl; silent = refl; numbers = refl; indices = refl; shape = λ q. cc; raises = refl; lowers = refl }
  hands (i ∷ is) ended =
      let h = hands is ended in
      record {
        born = h.born;
        given = ap (λ z. i ∷ z) h.given;
        closes = h.closes;
        calm = h.calm;
        silent = h.silent;
        numbers = h.numbers;
        indices = h.indices;
        shape = h.shape;
        raises = zero_more (zero_more h.raises);
        lowers = zero_more (zero_more h.lowers);
      }

  pub empty_falls : Falls (script s (dict_local n) [] true) [] true
  empty_falls = record { born = refl; given = refl; closes = refl; flags = refl; silent = refl; numbers = refl; indices = refl; shape = λ q. refl; raises = refl; lowers = refl }

  first_falls : (i : Item) (is : List Item) (ended : Bool) → Falls (block_of (fallback_first s n i) ++ script s fallback_local is ended) (i ∷ is) ended
  first_falls i is ended =
      let h = hands is ended in
      record {
        born = ap (λ z. fallback_seed n ∷ z) h.born;
        given = ap (λ z. i ∷ z) h.given;
        closes = h.closes;
        flags = ap (λ z. told (start_fault s n.fallback n.mark) z) h.calm;
        silent = h.silent;
        numbers = h.numbers;
        indices = h.indices;
        shape = h.shape;
        raises = zero_more (zero_more (zero_more h.raises));
        lowers = zero_more (zero_more (zero_more h.lowers));
      }

  pub falls : (i : Item) (is : List Item) (ended : Bool) → is_dictionary (s.image n.options.probe i.1) ≡ false → Falls (script s (dict_local n) (i ∷ is) ended) (i ∷ is) ended
  falls i is ended e = subst (λ b. Falls (block_of (if b then runs_first n i else fallback_first s n i) ++ script s (if b then runs_first n i else fallback_first s n i).after is ended) (i ∷ is) ended) (sym e) (first_falls i is ended)

-- ---- runs

-- the plans of the runs' codes and values, one after the other
abbrev pub run_flat : Node → Node → Bool → List Run → Eof → List Plan
run_flat ck vk m [] e = []
run_flat ck vk m (r ∷ rs) e = ck m r.codes r.closed (inside e) ∷ vk m r.values r.closed (inside (next e)) ∷ run_flat ck vk m rs (next (next e))

module _ (t : Ty) (ck vk : Node) (m : Bool) where
  flat_pairs : (rs : List Run) (e : Eof) → all_pairs (run_plans t ck vk m rs e) ≡ all_pairs (run_flat ck vk m rs e)
  flat_pairs [] e = refl
  flat_pairs (r ∷ rs) e =
      ap (λ z. ((ck m r.codes r.closed (inside e)).pairs ++ (vk m r.values r.closed (inside (next e))).pairs) ++ z) (flat_pairs rs (next (next e)))
      ∙ append_assoc (ck m r.codes r.closed (inside e)).pairs (vk m r.values r.closed (inside (next e))).pairs (all_pairs (run_flat ck vk m rs (next (next e))))

  flat_faults : (rs : List Run) (e : Eof) → all_faults (run_plans t ck vk m rs e) ≡ all_faults (run_flat ck vk m rs e)
  flat_faults [] e = refl
  flat_faults (r ∷ rs) e =
      ap (λ z. ((ck m r.codes r.closed (inside e)).faults ++ (vk m r.values r.closed (inside (next e))).faults) ++ z) (flat_faults rs (next (next e)))
      ∙ append_assoc (ck m r.codes r.closed (inside e)).faults (vk m r.values r.closed (inside (next e))).faults (all_faults (run_flat ck vk m rs (next (next e))))

  flat_numbers : (rs : List Run) (e : Eof) → all_numbers (run_plans t ck vk m rs e) ≡ all_numbers (run_flat ck vk m rs e)
  flat_numbers [] e = refl
  flat_numbers (r ∷ rs) e =
      ap (λ z. ((ck m r.codes r.closed (inside e)).numbers ++ (vk m r.values r.closed (inside (next e))).numbers) ++ z) (flat_numbers rs (next (next e)))
      ∙ append_assoc (ck m r.codes r.closed (inside e)).numbers (vk m r.values r.closed (inside (next e))).numbers (all_numbers (run_flat ck vk m rs (next (next e))))

  flat_reserved : (rs : List Run) (e : Eof) → all_reserved (run_plans t ck vk m rs e) ≡ all_reserved (run_flat ck vk m rs e)
  flat_reserved [] e = refl
  flat_reserved (r ∷ rs) e =
      let h : all_reserved (run_plans t ck vk m rs (next (next e))) ≡ all_reserved (run_flat ck vk m rs (next (next e))) = flat_reserved rs (next (next e)) in omega (arith, h)

  flat_layouts : (s : Setting) (n : DictNode) (rs : List Run) (e : Eof) → run_layouts t (run_rows s n 0 rs) (all_layouts (run_flat ck vk m rs e)) ≡ all_layouts (run_plans t ck vk m rs e)
  flat_layouts s n [] e = refl
  flat_layouts s n (r ∷ rs) e =
      let z : 0 + row_total r.codes ≡ row_total r.codes = omega arith in
      ap₂ (λ x y. dict_layout t x (vk m r.values r.closed (inside (next e))).layout (ck m r.codes r.closed (inside e)).layout ∷ y) z (flat_layouts s n rs (next (next e)))

-- the runs of a stream that has ended are closed
abbrev pub AllClosed : List Run → Type 0
AllClosed [] = Unit {0}
AllClosed (r ∷ rs) = (r.closed ≡ true) × AllClosed rs

closed_append : (rs qs : List Run) → AllClosed rs → AllClosed qs → AllClosed (rs ++ qs)
closed_append [] qs h g = g
closed_append (r ∷ rs) qs h g = (h.0, closed_append rs qs h.1 g)

ended_closed : (o : DictOptions) (t : Ty) (p : List ℕ) (r : ℕ) (cur : List Item) (xs : List Stretch) → AllClosed (ended_runs o t p r cur xs)
ended_closed o t p r cur [] = tt
ended_closed o t p r cur (x ∷ xs) = (refl, ended_closed o t p (r + 2) [] xs)

come_closed : (o : DictOptions) (t : Ty) (begun : Bool) (ds : List CellData) (j : Item) (items : List Item) → AllClosed (to_come o t begun ds j items true)
come_closed o t begun ds j [] = ended_closed o t j.0 0 [] ((cut_at o t ds j).closed ++ (((cut_at o t ds j).codes, (cut_at o t ds j).distinct) ∷ []))
come_closed o t begun ds j (i ∷ is) =
    closed_append (ended_runs o t j.0 0 [] (cut_at o t ds j).closed) (prefix (next_codes o j.0 0 [] (cut_at o t ds j).closed (cut_at o t ds j).codes) (to_come o t true (cut_at o t ds j).distinct i is true))
    (ended_closed o t j.0 0 [] (cut_at o t ds j).closed)
    (go (to_come o t true (cut_at o t ds j).distinct i is true) (some_come o t (cut_at o t ds j).distinct i is true) (come_closed o t true (cut_at o t ds j).distinct i is))
  where
    go : (rs : List Run) → Some_runs rs → AllClosed rs → AllClosed (prefix (next_codes o j.0 0 [] (cut_at o t ds j).closed (cut_at o t ds j).codes) rs)
    go [] some h = absurd some
    go (r ∷ rs) some h = h

pub duties_ended : (s : Setting) (n : DictNode) (base : ℕ) (e : Eof) (rs : List Run) → AllClosed rs → AllEnded (run_duties s n base e rs)
duties_ended s n base e [] h = tt
duties_ended s n base e (r ∷ rs) h = (h.0, (h.0, duties_ended s n (suc (suc base)) (next (next e)) rs h.1))

runs_meet : (s : Setting) (g : Ty → Fuel) (n : DictNode) (ck vk : Node) → Fair s ck n.codes → Fair s vk n.values → Enough (g (form_type n.codes)) n.codes → Enough (g (form_type n.values)) n.values → (base : ℕ) (e : Eof) (rs : List Run)
    → AllMeet s g (run_duties s n base e rs) (run_flat ck vk n.mark rs e)
runs_meet s g n ck vk h i x y base e [] = tt
runs_meet s g n ck vk h i x y base e (r ∷ rs) = (
  h.fair n.mark (under n.name base) r.codes r.closed (inside e) (g (form_type n.codes)) x,
  (
    i.fair n.mark (under n.name (suc base)) r.values r.closed (inside (next e)) (g (form_type n.values)) y,
    runs_meet s g n ck vk h i x y (suc (suc base)) (next (next e)) rs,
  ),
)

module _ (s : Setting) (n : DictNode) (i : Item) (is : List Item) (ended : Bool) where
  -- of the whole script, with these runs
  pub record Cuts (acts : List Act) (rs : List Run) : Type 0 where
    pub seeds_are : births acts ≡ seeds (run_duties s n 0 n.eof rs)
    pub given : Given acts 0 (run_duties s n 0 n.eof rs)
    pub flags : first_refusal acts ≡ told (first_start (run_duties s n 0 n.eof rs)) []
    pub silent : wrote acts ≡ []
    pub numbers : numbers_in acts ≡ row_totals (i ∷ is)
    pub moves : (x : ℕ) → In x (indices_in acts) → (x ≤ n.eof.last + 2 * length rs) ⊎ In x (made_counts n.options n.type [] (i ∷ is) ended)
    pub shape : ended ≡ true → shape_in acts ≡ Some (runs_of n.type (row_total (i ∷ is)) (run_rows s n 0 rs))
    pub raises : raised_in acts ≡ 0
    pub lowers : lowered_in acts ≡ 0

  abbrev fresh : RunsSoFar
  fresh = record { base = 0; eof = n.eof; begun = false; distinct = []; rows = 0; ended = [] }

  first_cuts : Cuts (block_of (runs_first n i) ++ script s (runs_first n i).after is ended) (to_come n.options n.type false [] i is ended)
  first_cuts =
      let h = facts s n is fresh i (0 + rows_in i.1) ended in
      let whole : List Act = block_of (runs_first n i) ++ script s (runs_first n i).after is ended in
      record {
        seeds_are = h.seeds_are;
        given = given_on (top whole) (tail whole) 0 (run_duties s n 0 n.eof (to_come n.options n.type false [] i is ended)) (λ k l. (refl, refl))
            (given_on (top (tail whole)) (tail (tail whole)) 0 (run_duties s n 0 n.eof (to_come n.options n.type false [] i is ended)) (λ k l. (refl, refl)) h.given);
        flags = h.flags;
        silent = h.silent;
        numbers = ap (λ z. (0 + rows_in i.1) ∷ z) h.numbers;
        moves = h.moves;
        shape = λ e. h.shape e ∙ ap (λ z. Some (runs_of n.type z (run_rows s n 0 (to_come n.options n.type false [] i is ended)))) (omega arith);
        raises = zero_more (zero_more h.raises);
        lowers = zero_more (zero_more h.lowers);
      }

  pub cuts : is_dictionary (s.image n.options.probe i.1) ≡ true → Cuts (script s (dict_local n) (i ∷ is) ended) (runs n.options n.type (i ∷ is) ended)
  cuts e = subst (λ b. Cuts (block_of (if b then runs_first n i else fallback_first s n i) ++ script s (if b then runs_first n i else fallback_first s n i).after is ended) (runs n.options n.type (i ∷ is) ended)) (sym e)
      (subst (λ z. Cuts (block_of (runs_first n i) ++ script s (runs_first n i).after is ended) z) (sym (first_come n.options n.type [] i is ended)) first_cuts)

  pub all_closed : ended ≡ true → AllClosed (runs n.options n.type (i ∷ is) ended)
  all_closed e = subst AllClosed (sym (first_come n.options n.type [] i is ended)) (subst (λ b. AllClosed (to_come n.options n.type false [] i is b)) (sym e) (come_closed n.options n.type false [] i is))

  runs_parent : (ck vk : Node) → is_dictionary (s.image n.options.probe i.1) ≡ true
      → Parent s (duty_of s (dict_form n.options n.type n.codes n.values n.fallback) n.mark n.name (i ∷ is) ended n.eof) (run_duties s n 0 n.eof (runs n.options n.type (i ∷ is) ended))
      (runs_node n.options n.type ck vk n.mark (i ∷ is) ended n.eof) (run_flat ck vk n.mark (runs n.options n.type (i ∷ is) ended) n.eof) [] (dict_numbers n.options n.type (i ∷ is) ended n.eof)
  runs_parent ck vk e =
      let rs : List Run = runs n.options n.type (i ∷ is) ended in
      let cs : List Duty = run_duties s n 0 n.eof rs in
      let h : Cuts (script s (dict_local n) (i ∷ is) ended) rs = cuts e in
      let top : ℕ = n.eof.last + 2 * length rs in
      let made : List ℕ = made_counts n.options n.type [] (i ∷ is) ended in
      record {
        seeds_are = h.seeds_are;
        given_are = h.given;
        silent = h.silent;
        pairs = flat_pairs n.type ck vk n.mark rs n.eof;
        faults = flat_faults n.type ck vk n.mark rs n.eof;
        numbers = ap (λ z. dict_numbers n.options n.type (i ∷ is) ended n.eof ++ z) (flat_numbers n.type ck vk n.mark rs n.eof);
        reserved = flat_reserved n.type ck vk n.mark rs n.eof ∙ unraised h.raises;
        flagged = λ w q. inr (first_any w cs (told_one w (first_start cs) (subst (λ z. In w z) h.flags q)));
        unflagged = λ q x. (refl, told_nil (first_start cs) (sym h.flags ∙ q));
        starts = λ w q. absurd (none_some w q);
        ends = λ q. duties_ended s n 0 n.eof rs (all_closed q);
        shapes = λ q. ap (λ z. shaped z (all_layouts (run_flat ck vk n.mark rs n.eof))) (h.shape q) ∙ ap (λ z. gathered n.type (row_total (i ∷ is)) z ∷ []) (flat_layouts n.type ck vk n.mark s n rs n.eof);
        counts = λ x q. in_left x (row_totals (i ∷ is)) (top ∷ made) (subst (λ z. In x z) h.numbers q);
        moves = λ x q. most_right x (row_totals (i ∷ is)) (top ∷ made) (⊎_elim (λ l. most_here x top made l) (λ l. most_later x top made (x, l, omega arith)) (h.moves x q));
        places = λ x q. absurd q;
        lowers = λ q. h.lowers ∙ sym h.raises;
      }

fallback_parent : (s : Setting) (n : DictNode) (f : Node) (items : List Item) (ended : Bool) → Falls s n (script s (dict_local n) items ended) items ended
    → Parent s (duty_of s (dict_form n.options n.type n.codes n.values n.fallback) n.mark n.name items ended n.eof) (duty_of s n.fallback n.mark (under n.name 0) items ended n.eof ∷ [])
    (f n.mark items ended n.eof) (f n.mark items ended n.eof ∷ []) [] []
fallback_parent s n f items ended h =
    let p : Plan = f n.mark items ended n.eof in
    let cs : List Duty = duty_of s n.fallback n.mark (under n.name 0) items ended n.eof ∷ [] in
    let flags : first_refusal (script s (dict_local n) items ended) ≡ told (first_start cs) [] = h.flags ∙ more (start_fault s n.fallback n.mark) in
    record {
      seeds_are = h.born;
      given_are = (h.given, h.closes, tt);
      silent = h.silent;
      pairs = sym (append-nil p.pairs);
      faults = sym (append-nil p.faults);
      numbers = sym (append-nil p.numbers);
      reserved = plus_none p.reserved ∙ unraised h.raises;
      flagged = λ w q. inr (first_any w cs (told_one w (first_start cs) (subst (λ z. In w z) flags q)));
      unflagged = λ q x. (refl, told_nil (first_start cs) (sym flags ∙ q));
      starts = λ w q. absurd (none_some w q);
      ends = λ q. (q, tt);
      shapes = λ q. ap (λ z. shaped z (p.layout ∷ [])) (h.shape q);
      counts = λ x q. absurd (subst (λ z. In x z) h.numbers q);
      moves = λ x q. absurd (subst (λ z. In x z) h.indices q);
      places = λ x q. absurd q;
      lowers = λ q. h.lowers ∙ sym h.raises;
    }
  where
    plus_none : (x : ℕ) → x ≡ x + 0
    plus_none x = omega arith

    more : (x : Option What) → told x [] ≡ told (or_else x None) []
    more None = refl
    more (Some w) = refl

-- an open stream without a chunk: nothing is done
nothing_parent : (s : Setting) (o : DictOptions) (t : Ty) (c v f : Form) (ck vk fk : Node) (m : Bool) (name : List ℕ) (e : Eof)
    → Parent s (duty_of s (dict_form o t c v f) m name [] false e) [] (dict_node s o t ck vk fk m [] false e) [] [] []
nothing_parent s o t c v f ck vk fk m name e = record {
  seeds_are = refl;
  given_are = tt;
  silent = refl;
  pairs = refl;
  faults = refl;
  numbers = refl;
  reserved = refl;
  flagged = λ w q. absurd q;
  unflagged = λ q x. (refl, refl);
  starts = λ w q. absurd (none_some w q);
  ends = λ q. tt;
  shapes = λ q. cc;
  counts = λ x q. absurd q;
  moves = λ x q. absurd q;
  places = λ x q. absurd q;
  lowers = λ q. refl;
}

pub dict_fair : (s : Setting) (o : DictOptions) (t : Ty) (ck vk fk : Node) (c v f : Form) → Fair s ck c → Fair s vk v → Fair s fk f → Fair s (dict_node s o t ck vk fk) (dict_form o t c v f)
dict_fair s o t ck vk fk c v f h i j = record { fair = go }
  where
    falls_meet : (n : DictNode) (g : Ty → Fuel) (items : List Item) (ended : Bool) → Fair s fk n.fallback → Enough (g (form_type n.fallback)) n.fallback → Falls s n (script s (dict_local n) items ended) items ended
        → Meets s (fuel g) (duty_of s (dict_form n.options n.type n.codes n.values n.fallback) n.mark n.name items ended n.eof) (fk n.mark items ended n.eof)
    falls_meet n g items ended j enough a =
        spread s g (duty_of s (dict_form n.options n.type n.codes n.values n.fallback) n.mark n.name items ended n.eof) (duty_of s n.fallback n.mark (under n.name 0) items ended n.eof ∷ [])
        (fk n.mark items ended n.eof) (fk n.mark items ended n.eof ∷ []) [] [] (fallback_parent s n fk items ended a) (j.fair n.mark (under n.name 0) items ended n.eof (g (form_type n.fallback)) enough, tt)

    go : (m : Bool) (name : List ℕ) (items : List Item) (ended : Bool) (e : Eof) (d : Fuel) → Enough d (dict_form o t c v f) → Meets s d (duty_of s (dict_form o t c v f) m name items ended e) (dict_node s o t ck vk fk m items ended e)
    go m name items ended e spent enough = absurd enough
    go m name [] true e (fuel g) enough =
        let n : DictNode = record { name = name; mark = m; options = o; type = t; codes = c; values = v; fallback = f; eof = e } in falls_meet n g [] true j enough.2 (empty_falls s n)
    go m name [] false e (fuel g) enough =
        spread s g (duty_of s (dict_form o t c v f) m name [] false e) [] (dict_node s o t ck vk fk m [] false e) [] [] [] (nothing_parent s o t c v f ck vk fk m name e) tt
    go m name (x ∷ xs) ended e (fuel g) enough = at (is_dictionary (s.image o.probe x.1)) refl
      where
        at : (b : Bool) → is_dictionary (s.image o.probe x.1) ≡ b
            → Meets s (fuel g) (duty_of s (dict_form o t c v f) m name (x ∷ xs) ended e) (if b then runs_node o t ck vk m (x ∷ xs) ended e else fk m (x ∷ xs) ended e)
        at true q =
            let n : DictNode = record { name = name; mark = m; options = o; type = t; codes = c; values = v; fallback = f; eof = e } in
            let rs : List Run = runs o t (x ∷ xs) ended in
            spread s g (duty_of s (dict_form o t c v f) m name (x ∷ xs) ended e) (run_duties s n 0 e rs) (runs_node o t ck vk m (x ∷ xs) ended e) (run_flat ck vk m rs e) [] (dict_numbers o t (x ∷ xs) ended e)
            (runs_parent s n x xs ended ck vk q) (runs_meet s g n ck vk h i enough.0 enough.1 0 e rs)
        at false q =
            let n : DictNode = record { name = name; mark = m; options = o; type = t; codes = c; values = v; fallback = f; eof = e } in
            falls_meet n g (x ∷ xs) ended j enough.2 (falls s n x xs ended q)
