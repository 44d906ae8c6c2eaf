-- A list's task and its columns are its plan; where its stream ends without a chunk it refuses, and its columns stay open.
use Rattle.std.proofs.Common.{◌≡◌, ℕ, suc, ◌+◌, ◌≤◌, ◌<◌, ◌⊎◌, inl, inr, ⊎_elim, Bool, true, false, List, [], ◌∷◌, ◌++◌, length, Option, Some, None, refl, sym, ap, ◌∙◌, subst, arith}
use Rattle.std.proofs.lemmas.Bool.{true≢false}
use Rattle.vx_model.specs.Ty.{Ty, list}
use Rattle.vx_path.specs.Lists.{In}
use Rattle.vx_path.proofs.Lists.{in_left, in_right}
use Rattle.vx_path.specs.Path.{Eof}
use Rattle.vx_layout_spec.specs.LayoutTree.{list_layout}
use Rattle.vx_rules.specs.Columns.{Split, list_splits, list_columns}
use Rattle.vx_plan.specs.PlanData.{Setting, Item, Pair, Node, What, empty_list, at_end, Fault, fault, rows_in, totals, row_total, row_totals}
use Rattle.vx_plan.specs.ChunkedNode.{all_layouts}
use Rattle.vx_plan.specs.ColumnNodes.{Column, elements_in, list_writers, column_numbers, list_numbers, list_plans, list_columns_plan, no_lists_plan, list_node}
use Rattle.vx_plan.specs.Valid.{Has}
use Rattle.vx_machine_turns.specs.Forms.{Form, list_form, form_type, Writer}
use Rattle.vx_machine_turns.specs.Locals.{ListNode, list_local}
use Rattle.vx_machine_turns.specs.Acts.{Act, gifts, shut, births, wrote, first_refusal, shape_in, numbers_in, indices_in, raised_in, lowered_in, list_of, or_else}
use Rattle.vx_machine_turns.specs.Starts.{start_fault, list_columns_of, local_of}
use Rattle.vx_machine_turns.specs.Columns.{column_seeds, column_puts}
use Rattle.vx_machine_turns.specs.Turns.{firsts, start_indices}
use Rattle.vx_machine_turns.specs.Scripts.{script}
use Rattle.vx_machine_turns.specs.Fuels.{Fuel, spent, fuel, Enough}
use Rattle.vx_machine_turns.specs.Readings.{shaped, pair_reading, fault_reading, number_reading, index_reading, start_reading, raise_reading, lower_reading}
use Rattle.vx_machine_turns.specs.Duties.{Duty, duty_of, seeds, duty_script, below, Given}
use Rattle.vx_machine_turns.specs.Planned.{AtMost, Meets, Fair}
use Rattle.vx_machine_turns.proofs.DutyLaws.{Parent, unread_same, spread, first_start, first_any, still, zero_more, unraised, has_here, cons_nil, most_right, most_later, most_here}
use Rattle.vx_machine_turns.proofs.ColumnLaws.{column_duties, puts_add, gifts_filled, gifts_append, all_puts, ends_last, columns_given, column_seeds_are, columns_ended, AllFair, columns_meet, same_length, one_fair}

-- what is counted at each item: rows, offsets, elements
abbrev told_counts : ℕ → ℕ → List Item → List ℕ
told_counts from rows [] = []
told_counts from rows (i ∷ is) = (rows + rows_in i.1) ∷ suc (rows + rows_in i.1) ∷ (from + elements_in i.1) ∷ told_counts (from + elements_in i.1) (rows + rows_in i.1) is

-- offsets are one more than rows, as they are from 1 on
counts_cases : (from rows more : ℕ) → suc rows ≡ more → (items : List Item) (x : ℕ) → In x (told_counts from rows items)
    → In x (totals rows_in more items) ⊎ (In x (totals elements_in from items) ⊎ In x (totals rows_in rows items))
counts_cases from rows more q [] x h = absurd h
counts_cases from rows more q (i ∷ is) x (inl e) = inr (inr (inl e))
counts_cases from rows more q (i ∷ is) x (inr (inl e)) = inl (inl (omega (arith, e, q)))
counts_cases from rows more q (i ∷ is) x (inr (inr (inl e))) = inr (inl (inl e))
counts_cases from rows more q (i ∷ is) x (inr (inr (inr h))) =
    ⊎_elim (λ a. inl (inr a)) (λ b. ⊎_elim (λ a. inr (inl (inr a))) (λ a. inr (inr (inr a))) b)
    (counts_cases (from + elements_in i.1) (rows + rows_in i.1) (more + rows_in i.1) (omega (arith, q)) is x h)

module _ (s : Setting) (n : ListNode) where
  abbrev pub S : Bool → ℕ → ℕ → List Item → Bool → List Act
  S first from rows items ended = script s (list_local n first from rows) items ended

  -- of a stream of which some chunk came, or that is open
  record Facts (acts : List Act) (items : List Item) (ended first : Bool) (from rows : ℕ) : Type 0 where
    silent : wrote acts ≡ []
    calm : first_refusal acts ≡ []
    born : births acts ≡ []
    numbers : numbers_in acts ≡ told_counts from rows items
    indices : (x : ℕ) → In x (indices_in acts) → x ≡ length n.writers
    raises : raised_in acts ≡ 0
    lowers : lowered_in acts ≡ 0
    closes : (k : ℕ) → k < length n.writers → shut k acts ≡ ended
    gives : (k : ℕ) → gifts k acts ≡ gifts k (all_puts n.writers 0 (list_splits n.elements n.nullable first from items))
    shape : ended ≡ true → shape_in acts ≡ Some (list_of (list n.elements n.nullable) (rows + row_total items))

  step : (first : Bool) (from rows : ℕ) (i : Item) (is : List Item) (ended : Bool)
      → Facts (S false (from + elements_in i.1) (rows + rows_in i.1) is ended) is ended false (from + elements_in i.1) (rows + rows_in i.1)
      → Facts (S first from rows (i ∷ is) ended) (i ∷ is) ended first from rows
  step first from rows i is ended h =
      let rest : List Act = S false (from + elements_in i.1) (rows + rows_in i.1) is ended in
      let puts : List Act = column_puts 0 i.0 (list_columns n.elements n.nullable first from i.1) n.writers in
      let q = puts_add [] 0 i.0 (list_columns n.elements n.nullable first from i.1) n.writers rest in
      record {
        silent = q.silent ∙ h.silent;
        calm = q.calm ∙ h.calm;
        born = q.born ∙ h.born;
        numbers = ap (λ z. (rows + rows_in i.1) ∷ suc (rows + rows_in i.1) ∷ (from + elements_in i.1) ∷ z) (q.numbers ∙ h.numbers);
        indices = λ x k. ⊎_elim (λ e. e) (λ e. h.indices x (subst (λ z. In x z) q.indices e)) k;
        raises = zero_more (q.raises ∙ h.raises);
        lowers = zero_more (q.lowers ∙ h.lowers);
        closes = λ k l. q.closes k ∙ h.closes k l;
        gives = λ k. gifts_filled [] puts rest k ∙ ap (λ z. gifts k puts ++ z) (h.gives k)
            ∙ sym (gifts_append puts (all_puts n.writers 0 (list_splits n.elements n.nullable false (from + elements_in i.1) is)) k);
        shape = λ x. q.shape ∙ h.shape x ∙ ap (λ z. Some (list_of (list n.elements n.nullable) z)) (omega arith);
      }

  later_facts : (from rows : ℕ) (items : List Item) (ended : Bool) → Facts (S false from rows items ended) items ended false from rows
  later_facts from rows [] true =
      let h = ends_last n.writers in
      record {
        silent = h.silent;
        calm = h.calm;
        born = h.born;
        numbers = h.numbers;
        indices = λ x i. absurd (subst (λ z. In x z) h.indices i);
        raises = zero_more h.raises;
        lowers = zero_more h.lowers;
        closes = λ k l. h.closes k l;
        gives = λ k. h.gives k;
        shape = λ q. ap (λ z. Some (list_of (list n.elements n.nullable) z)) (omega arith);
      }
  later_facts from rows [] false = record { silent = refl; calm = refl; born = refl; numbers = refl; indices = λ x i. absurd i; raises = refl; lowers = refl; closes = λ k l. refl; gives = λ k. refl; shape = λ q. cc }
  later_facts from rows (i ∷ is) ended = step false from rows i is ended (later_facts (from + elements_in i.1) (rows + rows_in i.1) is ended)

  -- from the start
  facts : (items : List Item) (ended : Bool) → (items ≡ [] → ended ≡ true → ⊥) → Facts (S true 0 0 items ended) items ended true 0 0
  facts [] true b = absurd (b refl refl)
  facts [] false b = record { silent = refl; calm = refl; born = refl; numbers = refl; indices = λ x i. absurd i; raises = refl; lowers = refl; closes = λ k l. refl; gives = λ k. refl; shape = λ q. cc }
  facts (i ∷ is) ended b = step true 0 0 i is ended (later_facts (0 + elements_in i.1) (0 + rows_in i.1) is ended)

columns_start : (s : Setting) (t : Ty) (n m : Bool) (es os v : Form) (name : List ℕ) (xs : List Split) (ended : Bool) (e : Eof)
    → first_start (column_duties s (list_columns_of n m es os v) name 0 xs ended e) ≡ start_fault s (list_form t n es os v) m
columns_start s t true m es os v name xs ended e = go (start_fault s es m) (start_fault s os m) (start_fault s v m)
  where
    go : (a b c : Option What) → or_else a (or_else b (or_else c None)) ≡ or_else a (or_else b c)
    go (Some a) b c = refl
    go None (Some b) c = refl
    go None None (Some c) = refl
    go None None None = refl
columns_start s t false m es os v name xs ended e = refl

-- the streams of its columns
pub list_streams : (s : Setting) (t : Ty) (n m : Bool) (a b c : Form) (name : List ℕ) (items : List Item) (ended : Bool) (e : Eof) → (items ≡ [] → ended ≡ true → ⊥)
    → (column_seeds name 0 (list_columns_of n m a b c) e ++ births (script s (local_of (list_form t n a b c) m name e) items ended) ≡ seeds (column_duties s (list_columns_of n m a b c) name 0 (list_splits t n true 0 items) ended e))
    × Given (script s (local_of (list_form t n a b c) m name e) items ended) 0 (column_duties s (list_columns_of n m a b c) name 0 (list_splits t n true 0 items) ended e)
list_streams s t n m a b c name items ended e begun =
    let ws : List Writer = list_columns_of n m a b c in
    let node : ListNode = record { name = name; elements = t; nullable = n; writers = ws; eof = e } in
    let h : Facts s node (S s node true 0 0 items ended) items ended true 0 0 = facts s node items ended begun in
    let xs : List Split = list_splits t n true 0 items in
    (ap (λ z. column_seeds name 0 ws e ++ z) h.born ∙ column_seeds_are s ws name 0 xs ended e, columns_given s (S s node true 0 0 items ended) ended name (length ws) h.closes ws 0 xs e (omega arith) (λ k l. h.gives k))

list_parent : (s : Setting) (t : Ty) (n m : Bool) (es os v : Node) (a b c : Form) (name : List ℕ) (items : List Item) (ended : Bool) (e : Eof) → (items ≡ [] → ended ≡ true → ⊥)
    → length (list_columns_of n m a b c) ≡ length (list_writers n m es os v)
    → Parent s (duty_of s (list_form t n a b c) m name items ended e) (column_duties s (list_columns_of n m a b c) name 0 (list_splits t n true 0 items) ended e) (list_columns_plan t n es os v m items ended e)
    (list_plans t n es os v m items ended e) [] (list_numbers items (list_writers n m es os v) e)
list_parent s t n m es os v a b c name items ended e begun same =
    let ws : List Writer = list_columns_of n m a b c in
    let node : ListNode = record { name = name; elements = t; nullable = n; writers = ws; eof = e } in
    let h : Facts s node (S s node true 0 0 items ended) items ended true 0 0 = facts s node items ended begun in
    let xs : List Split = list_splits t n true 0 items in
    let ks : List Column = list_writers n m es os v in
    record {
      seeds_are = (list_streams s t n m a b c name items ended e begun).0;
      given_are = (list_streams s t n m a b c name items ended e begun).1;
      silent = h.silent;
      pairs = refl;
      faults = refl;
      numbers = refl;
      reserved = unraised h.raises;
      flagged = λ w i. absurd (subst (λ z. In w z) h.calm i);
      unflagged = λ q r. (refl, columns_start s t n m a b c name xs ended e ∙ r);
      starts = λ w q. inr (first_any w (column_duties s ws name 0 xs ended e) (columns_start s t n m a b c name xs ended e ∙ q));
      ends = λ q. columns_ended s ws name 0 xs ended e q;
      shapes = λ q. ap (λ z. shaped z (all_layouts (list_plans t n es os v m items ended e))) (h.shape q)
          ∙ ap (λ z. list_layout (list t n) z (all_layouts (list_plans t n es os v m items ended e)) ∷ []) (omega arith);
      counts = λ x i. among x (counts_cases 0 0 1 refl items x (subst (λ z. In x z) h.numbers i));
      moves = λ x i. behind x (most_right x (row_totals items) (length ks ∷ (e.last + length ks) ∷ [])
          (most_here x (length ks) ((e.last + length ks) ∷ []) (let q : x ≡ length ws = h.indices x i in omega (arith, q, same))));
      places = λ x i. behind x (most_right x (row_totals items) (length ks ∷ (e.last + length ks) ∷ [])
          (most_later x (length ks) ((e.last + length ks) ∷ []) (most_here x (e.last + length ks) [] (at_start_index x i))));
      lowers = λ q. h.lowers ∙ sym h.raises;
    }
  where
    at_start_index : (x : ℕ) → In x ((e.last + length (list_columns_of n m a b c)) ∷ []) → x ≤ e.last + length (list_writers n m es os v)
    at_start_index x (inl q) = omega (arith, q, same)
    at_start_index x (inr q) = absurd q

    behind : (x : ℕ) → AtMost x (column_numbers items (list_writers n m es os v) e) → AtMost x (list_numbers items (list_writers n m es os v) e)
    behind x h = most_right x (totals rows_in 1 items) (totals elements_in 0 items ++ column_numbers items (list_writers n m es os v) e)
        (most_right x (totals elements_in 0 items) (column_numbers items (list_writers n m es os v) e) h)

    among : (x : ℕ) → In x (totals rows_in 1 items) ⊎ (In x (totals elements_in 0 items) ⊎ In x (totals rows_in 0 items)) → In x (list_numbers items (list_writers n m es os v) e)
    among x (inl i) = in_left x (totals rows_in 1 items) (totals elements_in 0 items ++ column_numbers items (list_writers n m es os v) e) i
    among x (inr (inl i)) = in_right x (totals rows_in 1 items) (totals elements_in 0 items ++ column_numbers items (list_writers n m es os v) e)
        (in_left x (totals elements_in 0 items) (column_numbers items (list_writers n m es os v) e) i)
    among x (inr (inr i)) = in_right x (totals rows_in 1 items) (totals elements_in 0 items ++ column_numbers items (list_writers n m es os v) e)
        (in_right x (totals elements_in 0 items) (column_numbers items (list_writers n m es os v) e)
        (in_left x (row_totals items) (length (list_writers n m es os v) ∷ (e.last + length (list_writers n m es os v)) ∷ []) i))

columns_fair : (s : Setting) (g : Ty → Fuel) (n m : Bool) (es os v : Node) (a b c : Form) → Fair s es a → Fair s os b → Fair s v c → Enough (g (form_type a)) a → Enough (g (form_type b)) b → Enough (g (form_type c)) c
    → AllFair s g (list_writers n m es os v) (list_columns_of n m a b c)
columns_fair s g true m es os v a b c h i j x y z =
    one_fair s g es a h x m (os m ∷ v m ∷ []) ((m, b) ∷ (m, c) ∷ []) (one_fair s g os b i y m (v m ∷ []) ((m, c) ∷ []) (one_fair s g v c j z m [] [] tt))
columns_fair s g false m es os v a b c h i j x y z = one_fair s g es a h x m (os m ∷ []) ((m, b) ∷ []) (one_fair s g os b i y m [] [] tt)

pub list_fair : (s : Setting) (t : Ty) (n : Bool) (es os v : Node) (a b c : Form) → Fair s es a → Fair s os b → Fair s v c → Fair s (list_node t n es os v) (list_form t n a b c)
list_fair s t n es os v a b c h i j = record { fair = go }
  where
    columns : (m : Bool) (name : List ℕ) (items : List Item) (ended : Bool) (e : Eof) (d : Fuel) → Enough d (list_form t n a b c) → (items ≡ [] → ended ≡ true → ⊥)
        → Meets s d (duty_of s (list_form t n a b c) m name items ended e) (list_columns_plan t n es os v m items ended e)
    columns m name items ended e spent enough k = absurd enough
    columns m name items ended e (fuel g) enough k =
        let ws : List Writer = list_columns_of n m a b c in
        let fair : AllFair s g (list_writers n m es os v) ws = columns_fair s g n m es os v a b c h i j enough.0 enough.1 enough.2 in
        spread s g (duty_of s (list_form t n a b c) m name items ended e) (column_duties s ws name 0 (list_splits t n true 0 items) ended e) (list_columns_plan t n es os v m items ended e)
        (list_plans t n es os v m items ended e) [] (list_numbers items (list_writers n m es os v) e) (list_parent s t n m es os v a b c name items ended e k (same_length s g (list_writers n m es os v) ws fair))
        (columns_meet s g (list_writers n m es os v) ws fair name 0 (list_splits t n true 0 items) ended e)

    -- below one that refuses an empty stream nothing is done
    empty : (m : Bool) (name : List ℕ) (e : Eof) (d : Fuel) → Meets s d (duty_of s (list_form t n a b c) m name [] false e) (list_columns_plan t n es os v m [] false e)
        → Meets s d (duty_of s (list_form t n a b c) m name [] true e) (no_lists_plan t n es os v m e)
    empty m name e d open_meets =
        let c0 : Duty = duty_of s (list_form t n a b c) m name [] true e in
        let own : Fault = fault empty_list at_end in
        let later : List Fault = (list_columns_plan t n es os v m [] false e).faults in
        record {
          pairs = still (List Pair) s pair_reading (λ q. refl) d 0 (firsts c0.seed ++ []) (duty_script s c0) (λ k. (refl, refl));
          cause = λ w i. ⊎_elim (λ q. has_here w own later q) (λ q. absurd (subst (λ z. In w z) (still (List What) s fault_reading (λ q. refl) d 0 (firsts c0.seed ++ []) (duty_script s c0) (λ k. (refl, refl))) q)) i;
          clean = λ q r. absurd (cons_nil empty_list (below s fault_reading d c0) q);
          begins = λ w q. let x : Has w later = open_meets.begins w q in (x.0, inr x.1, x.2);
          layout = λ q r. absurd (cons_nil own later r);
          numbers = λ x i. absurd (subst (λ z. In x z) (still (List ℕ) s number_reading (λ q. refl) d 0 (firsts c0.seed ++ []) (duty_script s c0) (λ k. (refl, refl))) i);
          indices = λ x i. absurd (subst (λ z. In x z) (still (List ℕ) s index_reading (λ q. refl) d 0 (firsts c0.seed ++ []) (duty_script s c0) (λ k. (refl, refl))) i);
          starts = λ x i. open_meets.starts x (subst (λ z. In x (start_indices c0.seed.local ++ z)) (unread_same s start_reading d 0 (firsts c0.seed ++ []) (duty_script s c0) [] (λ k l. (refl, refl))) i);
          raises = ap (λ y. 0 + y) (still ℕ s raise_reading (λ q. refl) d 0 (firsts c0.seed ++ []) (duty_script s c0) (λ k. (refl, refl)));
          lowers = λ h. ap (λ y. 0 + y) (still ℕ s lower_reading (λ q. refl) d 0 (firsts c0.seed ++ []) (duty_script s c0) (λ k. (refl, refl)));
        }

    go : (m : Bool) (name : List ℕ) (items : List Item) (ended : Bool) (e : Eof) (d : Fuel) → Enough d (list_form t n a b c) → Meets s d (duty_of s (list_form t n a b c) m name items ended e) (list_node t n es os v m items ended e)
    go m name [] true e d enough = empty m name e d (columns m name [] false e d enough (λ x r. absurd (true≢false (sym r))))
    go m name [] false e d enough = columns m name [] false e d enough (λ q r. absurd (true≢false (sym r)))
    go m name (x ∷ xs) ended e d enough = columns m name (x ∷ xs) ended e d enough (λ q r. absurd (cons_nil x xs q))
