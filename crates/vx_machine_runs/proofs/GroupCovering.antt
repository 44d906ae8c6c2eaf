-- Each number of a regrouping node's plan is at most one that its tasks count.
use Rattle.std.proofs.Common.{◌≡◌, ◌+◌, ◌⊎◌, ◌∷◌, ◌++◌, ◌∙◌, ℕ, inl, inr, ⊎_elim, Bool, true, false, List, refl, sym, ap, subst, arith, append_assoc, append-nil, Option, Some, None, []}
use Rattle.vx_model.specs.Ty.{Ty}
use Rattle.vx_model.specs.CellData.{CellData}
use Rattle.vx_model.specs.ChunkData.{ChunkData, held}
use Rattle.vx_model.specs.Words.{total_by}
use Rattle.vx_path.specs.Lists.{In}
use Rattle.vx_path.specs.Path.{Eof, under}
use Rattle.vx_path.proofs.Lists.{in_left, in_right, in_cases}
use Rattle.vx_rules.specs.Flushes.{flushes}
use Rattle.vx_strategy_spec.specs.StrategyData.{Grouping, by_blocks, by_bytes, into_one}
use Rattle.vx_tasks.specs.Task.Kind.{Take, TakeEnd}
use Rattle.vx_plan.specs.PlanData.{Setting, Item, Node, Plan, rows_in, totals, row_totals}
use Rattle.vx_plan.specs.GroupNode.{counted_at, left_count, rest_count, held_sizes, group_numbers, grouped_stream, grouped_node}
use Rattle.vx_machine_turns.specs.Forms.{Form, grouped_form, form_type}
use Rattle.vx_machine_turns.specs.Locals.{GroupedNode, Local, blocks_local, bytes_local, collect_local}
use Rattle.vx_machine_turns.specs.Acts.{Act, Turn, births, numbers_in, indices_in}
use Rattle.vx_machine_turns.specs.Collected.{collected_so_far}
use Rattle.vx_machine_turns.specs.Grouped.{Grouper, block_grouper, byte_grouper, group_turn, group_end, group_ends}
use Rattle.vx_machine_turns.specs.Turns.{turn, firsts, kept, start_indices}
use Rattle.vx_machine_turns.specs.Scripts.{as_kind, with_holds, all_uses, filled, block_of, last_block, script}
use Rattle.vx_machine_turns.specs.Fuels.{Fuel, spent, fuel, Enough}
use Rattle.vx_machine_turns.specs.Duties.{Duty, duty_of, duty_script, below, Given, grown}
use Rattle.vx_machine_turns.specs.Planned.{AtMost}
use Rattle.vx_machine_turns.proofs.DutyLaws.{below_is}
use Rattle.vx_machine_turns.proofs.GroupedLaws.{blocks_stream, bytes_stream}
use Rattle.vx_machine_turns.proofs.CollectedLaws.{collect_stream}
use Rattle.vx_machine_view.proofs.Words.{numbers_in-append}
use Rattle.vx_machine_runs.proofs.Covers.{counted_by, count_reading, all_counted, Covers, most_over, most_in}

-- ---- what acts count

abbrev told : List Act → List ℕ
told acts = numbers_in acts ++ indices_in acts

indices_in-append : (xs ys : List Act) → indices_in (xs ++ ys) ≡ indices_in xs ++ indices_in ys
indices_in-append [] ys = refl
indices_in-append (a ∷ xs) ys = ap (λ z. a.indices ++ z) (indices_in-append xs ys) ∙ sym (append_assoc a.indices (indices_in xs) (indices_in ys))

told_in : (n : ℕ) (xs ys : List Act) → In n (told xs) ⊎ In n (told ys) → In n (told (xs ++ ys))
told_in n xs ys h = subst (λ z. In n z) (sym (ap (λ z. z ++ indices_in (xs ++ ys)) (numbers_in-append xs ys) ∙ ap (λ z. (numbers_in xs ++ numbers_in ys) ++ z) (indices_in-append xs ys))) (by h)
  where
    number : In n (numbers_in xs ++ numbers_in ys) → In n ((numbers_in xs ++ numbers_in ys) ++ (indices_in xs ++ indices_in ys))
    number i = in_left n (numbers_in xs ++ numbers_in ys) (indices_in xs ++ indices_in ys) i

    index : In n (indices_in xs ++ indices_in ys) → In n ((numbers_in xs ++ numbers_in ys) ++ (indices_in xs ++ indices_in ys))
    index i = in_right n (numbers_in xs ++ numbers_in ys) (indices_in xs ++ indices_in ys) i

    by : In n (told xs) ⊎ In n (told ys) → In n ((numbers_in xs ++ numbers_in ys) ++ (indices_in xs ++ indices_in ys))
    by (inl i) = ⊎_elim (λ a. number (in_left n (numbers_in xs) (numbers_in ys) a)) (λ a. index (in_left n (indices_in xs) (indices_in ys) a)) (in_cases n (numbers_in xs) (indices_in xs) i)
    by (inr i) = ⊎_elim (λ a. number (in_right n (numbers_in xs) (numbers_in ys) a)) (λ a. index (in_right n (indices_in xs) (indices_in ys) a)) (in_cases n (numbers_in ys) (indices_in ys) i)

-- what the first of a block counts
first_told : (n : ℕ) (a : Act) (acts : List Act) → In n a.numbers ⊎ In n a.indices → In n (told (a ∷ acts))
first_told n a acts (inl i) = in_left n (a.numbers ++ numbers_in acts) (a.indices ++ indices_in acts) (in_left n a.numbers (numbers_in acts) i)
first_told n a acts (inr i) = in_right n (a.numbers ++ numbers_in acts) (a.indices ++ indices_in acts) (in_left n a.indices (indices_in acts) i)

-- so of a turn, and of the end
block_told : (n : ℕ) (u : Turn) → In n u.first.numbers ⊎ In n u.first.indices → In n (told (block_of u))
block_told n u h = first_told n (with_holds (all_uses u.more ++ kept u.after) (as_kind Take u.first)) (filled (kept u.after) u.more) h

end_told : (n : ℕ) (a : Act) (acts : List Act) → In n a.numbers ⊎ In n a.indices → In n (told (filled [] (as_kind TakeEnd a ∷ acts)))
end_told n a acts h = first_told n (with_holds (all_uses acts ++ []) (as_kind TakeEnd a)) (filled [] acts) h

-- ---- a rule

abbrev with_newest : Option Item → List Item → List Item
with_newest None items = items
with_newest (Some j) items = j ∷ items

-- what is held once the newest chunk is acted on
abbrev state : {S : Type 0} → Grouper S → S → Option Item → S
state g x None = x
state g x (Some j) = g.rule.holds x j.1

abbrev sizes : {S : Type 0} → Grouper S → S → List Item → List ℕ
sizes g x [] = []
sizes g x (c ∷ cs) = g.taken x c.1 ++ sizes g (g.rule.holds x c.1) cs

abbrev acted : {S : Type 0} → Grouper S → S → List Item → Bool → List ℕ
acted g x items ended = counted_at (λ y c. left_count g.rule y c ++ g.acted y c) (λ y c. rest_count g.rule y c ++ g.acted y c) g.rule x items ended

module _ (S : Type 0) (s : Setting) (g : Grouper S) (l : S → Option Item → ℕ → Local)
    (turns : (x : S) (j : Option Item) (rows : ℕ) (i : Item) → turn s (l x j rows) i ≡ group_turn g l x j rows i)
    (ends : (x : S) (j : Option Item) (rows : ℕ) → last_block s (l x j rows) ≡ filled [] (as_kind TakeEnd (group_end g x j) ∷ group_ends g x j)) where
  -- at the next chunk: of its block, and behind it
  at_chunk : (n : ℕ) (x : S) (j : Option Item) (rows : ℕ) (i : Item) (is : List Item) (ended : Bool)
      → In n (told (block_of (group_turn g l x j rows i))) ⊎ In n (told (script s (l (state g x j) (Some i) (rows + rows_in i.1)) is ended)) → In n (told (script s (l x j rows) (i ∷ is) ended))
  at_chunk n x None rows i is ended h =
      subst (λ u. In n (told (block_of u ++ script s u.after is ended))) (sym (turns x None rows i))
      (told_in n (block_of (group_turn g l x None rows i)) (script s (l x (Some i) (rows + rows_in i.1)) is ended) h)
  at_chunk n x (Some p) rows i is ended h =
      subst (λ u. In n (told (block_of u ++ script s u.after is ended))) (sym (turns x (Some p) rows i))
      (told_in n (block_of (group_turn g l x (Some p) rows i)) (script s (l (g.rule.holds x p.1) (Some i) (rows + rows_in i.1)) is ended) h)

  rows_told : (n : ℕ) (items : List Item) (x : S) (j : Option Item) (rows : ℕ) (ended : Bool) → In n (totals rows_in rows items) → In n (told (script s (l x j rows) items ended))
  rows_told n [] x j rows ended h = absurd h
  rows_told n (i ∷ is) x None rows ended (inl e) = at_chunk n x None rows i is ended (inl (block_told n (group_turn g l x None rows i) (inl (inl e))))
  rows_told n (i ∷ is) x (Some p) rows ended (inl e) = at_chunk n x (Some p) rows i is ended (inl (block_told n (group_turn g l x (Some p) rows i) (inl (inl e))))
  rows_told n (i ∷ is) x j rows ended (inr k) = at_chunk n x j rows i is ended (inr (rows_told n is (state g x j) (Some i) (rows + rows_in i.1) ended k))

  sizes_told : (n : ℕ) (items : List Item) (x : S) (j : Option Item) (rows : ℕ) (ended : Bool) → In n (sizes g (state g x j) items) → In n (told (script s (l x j rows) items ended))
  sizes_told n [] x j rows ended h = absurd h
  sizes_told n (i ∷ is) x j rows ended h =
      ⊎_elim (here j) (λ k. at_chunk n x j rows i is ended (inr (sizes_told n is (state g x j) (Some i) (rows + rows_in i.1) ended k)))
      (in_cases n (g.taken (state g x j) i.1) (sizes g (g.rule.holds (state g x j) i.1) is) h)
    where
      here : (j : Option Item) → In n (g.taken (state g x j) i.1) → In n (told (script s (l x j rows) (i ∷ is) ended))
      here None k = at_chunk n x None rows i is ended (inl (block_told n (group_turn g l x None rows i) (inl (inr k))))
      here (Some p) k = at_chunk n x (Some p) rows i is ended (inl (block_told n (group_turn g l x (Some p) rows i) (inl (inr (in_left n (g.taken (g.rule.holds x p.1) i.1) (g.acted x p.1) k)))))

  acted_told : (n : ℕ) (items : List Item) (x : S) (j : Option Item) (rows : ℕ) (ended : Bool) → In n (acted g x (with_newest j items) ended) → In n (told (script s (l x j rows) items ended))
  acted_told n [] x None rows ended h = absurd h
  acted_told n [] x (Some p) rows false h = absurd h
  acted_told n [] x (Some p) rows true h =
      subst (λ z. In n (told z)) (sym (ends x (Some p) rows)) (end_told n (group_end g x (Some p)) (group_ends g x (Some p)) (last_first (in_cases n (rest_count g.rule x p.1) (g.acted x p.1) h)))
    where
      last_first : In n (rest_count g.rule x p.1) ⊎ In n (g.acted x p.1) → In n (g.acted x p.1) ⊎ In n (rest_count g.rule x p.1)
      last_first (inl a) = inr a
      last_first (inr a) = inl a
  acted_told n (i ∷ is) x None rows ended h = at_chunk n x None rows i is ended (inr (acted_told n is x (Some i) (rows + rows_in i.1) ended h))
  acted_told n (i ∷ is) x (Some p) rows ended h =
      ⊎_elim (λ a. at_chunk n x (Some p) rows i is ended (inl (block_told n (group_turn g l x (Some p) rows i) (here (in_cases n (left_count g.rule x p.1) (g.acted x p.1) a))))) (λ a. at_chunk n x (Some p) rows i is ended (inr (acted_told n is (g.rule.holds x p.1) (Some i) (rows + rows_in i.1) ended a)))
      (in_cases n (left_count g.rule x p.1 ++ g.acted x p.1) (acted g (g.rule.holds x p.1) (i ∷ is) ended) h)
    where
      here : In n (left_count g.rule x p.1) ⊎ In n (g.acted x p.1) → In n ((rows + rows_in i.1) ∷ (g.taken (g.rule.holds x p.1) i.1 ++ g.acted x p.1)) ⊎ In n (left_count g.rule x p.1)
      here (inl b) = inr b
      here (inr b) = inl (inr (in_right n (g.taken (g.rule.holds x p.1) i.1) (g.acted x p.1) b))

-- ---- an only child, which gets the eof path itself

pub pass_covers : (s : Setting) (g : Ty → Fuel) (c kid : Duty) (own : List ℕ) (p : Plan) (last : ℕ) → firsts c.seed ++ births (duty_script s c) ≡ kid.seed ∷ [] → Given (duty_script s c) 0 (kid ∷ [])
    → ((n : ℕ) → In n own → In n (told (duty_script s c))) → ((n : ℕ) → In n p.numbers → AtMost n (last ∷ all_counted s (g kid.seed.type) kid))
    → (n : ℕ) → In n (own ++ p.numbers) → AtMost n (last ∷ all_counted s (fuel g) c)
pass_covers s g c kid own p last e q h k n i =
    let mine : List ℕ = counted_by c.seed (duty_script s c) in
    let kids : List ℕ = below s count_reading (fuel g) c in
    let theirs : List ℕ = all_counted s (g kid.seed.type) kid in
    let is : kids ≡ grown s count_reading g (kid ∷ []) = below_is s count_reading g c (kid ∷ []) e q in
    ⊎_elim (λ a. most_in n last (mine ++ kids) (in_left n mine kids (in_left n (told (duty_script s c)) (start_indices c.seed.local) (h n a))))
    (λ a. most_over n last last theirs (mine ++ kids) (omega arith)
    (λ m z. in_right m mine kids (subst (λ y. In m y) (sym (is ∙ sym (append_assoc (counted_by kid.seed (duty_script s kid)) (below s count_reading (g kid.seed.type) kid) []) ∙ append-nil theirs)) z)) (k n a))
    (in_cases n own p.numbers i)

all_sizes : (size : ℕ) (items : List Item) (x : List ChunkData) → sizes (byte_grouper size) x items ≡ held_sizes size x items
all_sizes size [] x = refl
all_sizes size (i ∷ is) x = ap (λ z. held i.1 ∷ total_by held (x ++ (i.1 ∷ [])) ∷ z) (all_sizes size is ((flushes size).holds x i.1))

-- a collection counts its rows alone
collected_told : (s : Setting) (n : GroupedNode) (k : ℕ) (items : List Item) (x : Option (List ℕ × List ChunkData)) (rows : ℕ) (ended : Bool) → In k (totals rows_in rows items) → In k (told (script s (collect_local n x rows) items ended))
collected_told s n k [] x rows ended h = absurd h
collected_told s n k (i ∷ is) x rows ended (inl e) = told_in k (block_of (turn s (collect_local n x rows) i)) (script s (turn s (collect_local n x rows) i).after is ended) (inl (block_told k (turn s (collect_local n x rows) i) (inl (inl e))))
collected_told s n k (i ∷ is) x rows ended (inr h) =
    told_in k (block_of (turn s (collect_local n x rows) i)) (script s (turn s (collect_local n x rows) i).after is ended)
    (inr (collected_told s n k is (Some (i.0, collected_so_far x ++ (i.1 ∷ []))) (rows + rows_in i.1) ended h))

pub group_covers : (s : Setting) (r : Grouping) (t : Ty) (k : Node) (f : Form) → Covers s k f → Covers s (grouped_node r t k) (grouped_form r t f)
group_covers s r t k f h = record { covers = λ m name items ended e d enough n i. go r m name items ended e d enough n i }
  where
    go : (r : Grouping) (m : Bool) (name : List ℕ) (items : List Item) (ended : Bool) (e : Eof) (d : Fuel) → Enough d (grouped_form r t f) → (n : ℕ) → In n (grouped_node r t k m items ended e).numbers
        → AtMost n (e.last ∷ all_counted s d (duty_of s (grouped_form r t f) m name items ended e))
    go r m name items ended e spent enough n i = absurd enough
    go (by_blocks o) m name items ended e (fuel g) enough n i =
        let b : GroupedNode = record { name = name; mark = m; type = t; child = f; eof = e } in
        let q = blocks_stream s o b items ended in
        pass_covers s g (duty_of s (grouped_form (by_blocks o) t f) m name items ended e) (duty_of s f m (under name 0) (grouped_stream (by_blocks o) t items ended) ended e)
        (row_totals items ++ group_numbers (by_blocks o) t items ended) (k m (grouped_stream (by_blocks o) t items ended) ended e) e.last
        (ap (λ z. (duty_of s f m (under name 0) (grouped_stream (by_blocks o) t items ended) ended e).seed ∷ z) q.0) (q.1, q.2, tt)
        (λ y j. ⊎_elim (λ a. rows_told (List CellData) s (block_grouper o t) (blocks_local o b) (λ x j rows i. refl) (λ x j rows. refl) y items [] None 0 ended a)
        (λ a. acted_told (List CellData) s (block_grouper o t) (blocks_local o b) (λ x j rows i. refl) (λ x j rows. refl) y items [] None 0 ended a)
        (in_cases y (row_totals items) (group_numbers (by_blocks o) t items ended) j))
        (λ y j. h.covers m (under name 0) (grouped_stream (by_blocks o) t items ended) ended e (g (form_type f)) enough y j) n i
    go (by_bytes size) m name items ended e (fuel g) enough n i =
        let b : GroupedNode = record { name = name; mark = m; type = t; child = f; eof = e } in
        let q = bytes_stream s size b items ended in
        let cut : List ℕ = counted_at (left_count (flushes size)) (rest_count (flushes size)) (flushes size) [] items ended in
        pass_covers s g (duty_of s (grouped_form (by_bytes size) t f) m name items ended e) (duty_of s f m (under name 0) (grouped_stream (by_bytes size) t items ended) ended e)
        (row_totals items ++ group_numbers (by_bytes size) t items ended) (k m (grouped_stream (by_bytes size) t items ended) ended e) e.last
        (ap (λ z. (duty_of s f m (under name 0) (grouped_stream (by_bytes size) t items ended) ended e).seed ∷ z) q.0) (q.1, q.2, tt)
        (λ y j. ⊎_elim (λ a. rows_told (List ChunkData) s (byte_grouper size) (bytes_local size b) (λ x j rows i. refl) (λ x j rows. refl) y items [] None 0 ended a)
        (λ a. ⊎_elim (λ v. sizes_told (List ChunkData) s (byte_grouper size) (bytes_local size b) (λ x j rows i. refl) (λ x j rows. refl) y items [] None 0 ended (subst (λ z. In y z) (sym (all_sizes size items [])) v))
        (λ v. acted_told (List ChunkData) s (byte_grouper size) (bytes_local size b) (λ x j rows i. refl) (λ x j rows. refl) y items [] None 0 ended v) (in_cases y (held_sizes size [] items) cut a))
        (in_cases y (row_totals items) (group_numbers (by_bytes size) t items ended) j))
        (λ y j. h.covers m (under name 0) (grouped_stream (by_bytes size) t items ended) ended e (g (form_type f)) enough y j) n i
    go into_one m name items ended e (fuel g) enough n i =
        let b : GroupedNode = record { name = name; mark = m; type = t; child = f; eof = e } in
        let q = collect_stream s b items ended in
        pass_covers s g (duty_of s (grouped_form into_one t f) m name items ended e) (duty_of s f m (under name 0) (grouped_stream into_one t items ended) ended e)
        (row_totals items ++ []) (k m (grouped_stream into_one t items ended) ended e) e.last
        (ap (λ z. (duty_of s f m (under name 0) (grouped_stream into_one t items ended) ended e).seed ∷ z) q.0) (q.1, q.2, tt)
        (λ y j. ⊎_elim (λ a. collected_told s b y items None 0 ended a) (λ a. absurd a) (in_cases y (row_totals items) [] j))
        (λ y j. h.covers m (under name 0) (grouped_stream into_one t items ended) ended e (g (form_type f)) enough y j) n i
