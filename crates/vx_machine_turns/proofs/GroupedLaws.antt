-- A regrouping's task and its child are the child's plan on the regrouped stream: one induction over any rule.
use Rattle.std.proofs.Common.{◌≡◌, ℕ, suc, ◌+◌, ◌⊎◌, inl, inr, ⊎_elim, Bool, true, false, List, [], ◌∷◌, ◌++◌, Option, Some, None, refl, sym, ap, ◌∙◌, subst, arith}
use Rattle.std.specs.Prelude.{if◌then◌else◌, nat_le}
use Rattle.std.proofs.lemmas.List.{append-nil}
use Rattle.vx_model.specs.Ty.{Ty}
use Rattle.vx_model.specs.Words.{total_by}
use Rattle.vx_model.specs.CellData.{CellData}
use Rattle.vx_model.specs.ChunkData.{ChunkData, held}
use Rattle.vx_path.specs.Lists.{In}
use Rattle.vx_path.proofs.Lists.{in_left, in_right, in_cases}
use Rattle.vx_path.specs.Path.{Eof, under}
use Rattle.vx_rules.specs.Regroup.{ranked, regrouped}
use Rattle.vx_rules.specs.Blocks.{BlockOptions, blocks}
use Rattle.vx_rules.specs.Flushes.{flushed, still_held, is_full, flushes}
use Rattle.vx_tasks.specs.Task.Kind.{TakeEnd}
use Rattle.vx_strategy_spec.specs.StrategyData.{by_blocks, by_bytes}
use Rattle.vx_plan.specs.PlanData.{Setting, Item, Node, summed, rows_in, totals, row_totals}
use Rattle.vx_plan.specs.GroupNode.{counted_at, left_count, rest_count, held_sizes, group_numbers, grouped_stream, grouped_node}
use Rattle.vx_machine_turns.specs.Forms.{Form, grouped_form, form_type}
use Rattle.vx_machine_turns.specs.Locals.{Local, GroupedNode, blocks_local, bytes_local}
use Rattle.vx_machine_turns.specs.Acts.{Act, gifts, shut, births, wrote, first_refusal, shape_in, numbers_in, indices_in, raised_in, lowered_in, close_queues, passes}
use Rattle.vx_machine_turns.specs.Grouped.{Grouper, block_grouper, byte_grouper, weighed_puts, group_turn, group_end, group_ends}
use Rattle.vx_machine_turns.specs.Turns.{turn, kept}
use Rattle.vx_machine_turns.specs.Scripts.{script, block_of, last_block, filled, as_kind}
use Rattle.vx_machine_turns.specs.Fuels.{Fuel, spent, fuel, Enough}
use Rattle.vx_machine_turns.specs.Duties.{duty_of}
use Rattle.vx_machine_turns.specs.Planned.{Meets, Fair}
use Rattle.vx_machine_turns.proofs.DutyLaws.{pass, zero_more}

-- in front of `rest`, actions that put these items and do nothing else
record Puts (w : ChunkData → ℕ) (xs : List Item) (acts rest : List Act) : Type 0 where
  silent : wrote acts ≡ wrote rest
  calm : first_refusal acts ≡ first_refusal rest
  born : births acts ≡ births rest
  numbers : numbers_in acts ≡ numbers_in rest
  indices : indices_in acts ≡ indices_in rest
  shape : shape_in acts ≡ shape_in rest
  closes : shut 0 acts ≡ shut 0 rest
  gives : gifts 0 acts ≡ xs ++ gifts 0 rest
  raises : raised_in acts ≡ raised_in rest
  lowers : lowered_in acts ≡ summed w xs + lowered_in rest

puts_none : (w : ChunkData → ℕ) (rest : List Act) → Puts w [] rest rest
puts_none w rest = record { silent = refl; calm = refl; born = refl; numbers = refl; indices = refl; shape = refl; closes = refl; gives = refl; raises = refl; lowers = omega arith }

puts_before : (w : ChunkData → ℕ) (keep : List (List ℕ)) (xs : List Item) (rest : List Act) → Puts w xs (filled keep (weighed_puts w xs) ++ rest) rest
puts_before w keep [] rest = puts_none w rest
puts_before w keep (x ∷ xs) rest =
    let h : Puts w xs (filled keep (weighed_puts w xs) ++ rest) rest = puts_before w keep xs rest in
    let l : lowered_in (filled keep (weighed_puts w xs) ++ rest) ≡ summed w xs + lowered_in rest = h.lowers in
    record { silent = h.silent; calm = h.calm; born = h.born; numbers = h.numbers; indices = h.indices; shape = h.shape; closes = h.closes; gives = ap (λ z. x ∷ z) h.gives; raises = zero_more h.raises; lowers = omega (arith, l) }

puts_within : (w : ChunkData → ℕ) (keep : List (List ℕ)) (xs : List Item) (acts : List Act) → Puts w xs (filled keep (weighed_puts w xs ++ acts)) (filled keep acts)
puts_within w keep [] acts = puts_none w (filled keep acts)
puts_within w keep (x ∷ xs) acts =
    let h : Puts w xs (filled keep (weighed_puts w xs ++ acts)) (filled keep acts) = puts_within w keep xs acts in
    let l : lowered_in (filled keep (weighed_puts w xs ++ acts)) ≡ summed w xs + lowered_in (filled keep acts) = h.lowers in
    record { silent = h.silent; calm = h.calm; born = h.born; numbers = h.numbers; indices = h.indices; shape = h.shape; closes = h.closes; gives = ap (λ z. x ∷ z) h.gives; raises = zero_more h.raises; lowers = omega (arith, l) }

ranked_weight : (w : ChunkData → ℕ) (p : List ℕ) (r : ℕ) (cs : List ChunkData) → summed w (ranked p r cs) ≡ total_by w cs
ranked_weight w p r [] = refl
ranked_weight w p r (c ∷ cs) = ap (λ z. w c + z) (ranked_weight w p (suc r) cs)

-- the newest chunk before the items to come
abbrev with_newest : Option Item → List Item → List Item
with_newest None items = items
with_newest (Some j) items = j ∷ items

-- what is told of the chunks that are taken, and of those that are acted on
abbrev sizes : {S : Type 0} → Grouper S → S → List Item → List ℕ
sizes g x [] = []
sizes g x (c ∷ cs) = g.taken x c.1 ++ sizes g (g.rule.holds x c.1) cs

abbrev acted : {S : Type 0} → Grouper S → S → List Item → Bool → List ℕ
acted g x items ended = counted_at (λ y c. left_count g.rule y c ++ g.acted y c) (λ y c. rest_count g.rule y c ++ g.acted y c) g.rule x items ended

-- what is held once the newest chunk is acted on
abbrev state : {S : Type 0} → Grouper S → S → Option Item → S
state g x None = x
state g x (Some j) = g.rule.holds x j.1

-- `load` is what a chunk that is held counts in the tracker
module _ (S : Type 0) (s : Setting) (g : Grouper S) (load : S → ℕ) (l : S → Option Item → ℕ → Local)
    (turns : (x : S) (j : Option Item) (rows : ℕ) (i : Item) → turn s (l x j rows) i ≡ group_turn g l x j rows i)
    (ends : (x : S) (j : Option Item) (rows : ℕ) → last_block s (l x j rows) ≡ filled [] (as_kind TakeEnd (group_end g x j) ∷ group_ends g x j))
    (stays : (x : S) (c : ChunkData) → total_by g.weight (g.rule.leaves x c) + load (g.rule.holds x c) ≡ load x + g.weight c)
    (leaves : (x : S) (c : ChunkData) → total_by g.weight (g.rule.rest x c) ≡ load x + g.weight c) where
  record Facts (acts : List Act) (x : S) (j : Option Item) (rows : ℕ) (items : List Item) (ended : Bool) : Type 0 where
    born : births acts ≡ []
    given : gifts 0 acts ≡ regrouped g.rule x (with_newest j items) ended
    closes : shut 0 acts ≡ ended
    silent : wrote acts ≡ []
    calm : first_refusal acts ≡ []
    shape : ended ≡ true → shape_in acts ≡ Some passes
    counts : (y : ℕ) → In y (numbers_in acts) → In y (totals rows_in rows items) ⊎ (In y (sizes g (state g x j) items) ⊎ In y (acted g x (with_newest j items) ended))
    moves : (y : ℕ) → In y (indices_in acts) → In y (acted g x (with_newest j items) ended)
    raises : raised_in acts ≡ summed g.weight items
    lowers : ended ≡ true → lowered_in acts ≡ load x + summed g.weight (with_newest j items)

  -- the end, where a chunk is still held
  at_end : (x : S) (j : Item) (rows : ℕ) → Facts (filled [] (as_kind TakeEnd (group_end g x (Some j)) ∷ group_ends g x (Some j))) x (Some j) rows [] true
  at_end x j rows =
      let q : Puts g.weight (ranked j.0 0 (g.rule.rest x j.1)) (filled [] (group_ends g x (Some j))) (filled [] (close_queues (0 ∷ []) ∷ [])) = puts_within g.weight [] (ranked j.0 0 (g.rule.rest x j.1)) (close_queues (0 ∷ []) ∷ []) in
      let a : lowered_in (filled [] (group_ends g x (Some j))) ≡ summed g.weight (ranked j.0 0 (g.rule.rest x j.1)) + 0 = q.lowers in
      let b : summed g.weight (ranked j.0 0 (g.rule.rest x j.1)) ≡ total_by g.weight (g.rule.rest x j.1) = ranked_weight g.weight j.0 0 (g.rule.rest x j.1) in
      let c : total_by g.weight (g.rule.rest x j.1) ≡ load x + g.weight j.1 = leaves x j.1 in
      record {
        born = q.born;
        given = q.gives ∙ append-nil (ranked j.0 0 (g.rule.rest x j.1));
        closes = q.closes;
        silent = q.silent;
        calm = q.calm;
        shape = λ e. refl;
        counts = λ y i. inr (inr (in_right y (rest_count g.rule x j.1) (g.acted x j.1) (subst (λ z. In y z) (ap (λ z. g.acted x j.1 ++ z) q.numbers ∙ append-nil (g.acted x j.1)) i)));
        moves = λ y i. in_left y (rest_count g.rule x j.1) (g.acted x j.1) (subst (λ z. In y z) (ap (λ z. rest_count g.rule x j.1 ++ z) q.indices ∙ append-nil (rest_count g.rule x j.1)) i);
        raises = zero_more q.raises;
        lowers = λ e. omega (arith, a, b, c);
      }

  -- a first chunk is taken
  first : (x : S) (rows : ℕ) (i : Item) (is : List Item) (ended : Bool) → Facts (script s (l x (Some i) (rows + rows_in i.1)) is ended) x (Some i) (rows + rows_in i.1) is ended
      → Facts (block_of (group_turn g l x None rows i) ++ script s (l x (Some i) (rows + rows_in i.1)) is ended) x None rows (i ∷ is) ended
  first x rows i is ended a =
      let rest : List Act = script s (l x (Some i) (rows + rows_in i.1)) is ended in
      record {
        born = a.born;
        given = a.given;
        closes = a.closes;
        silent = a.silent;
        calm = a.calm;
        shape = a.shape;
        counts = λ y k. ⊎_elim (λ q. inl (inl q)) (λ k. ⊎_elim (λ q. inr (inl (in_left y (g.taken x i.1) (sizes g (g.rule.holds x i.1) is) q)))
            (λ q. ⊎_elim (λ q. inl (inr q)) (λ q. ⊎_elim (λ q. inr (inl (in_right y (g.taken x i.1) (sizes g (g.rule.holds x i.1) is) q))) (λ q. inr (inr q)) q) (a.counts y q))
            (in_cases y (g.taken x i.1) (numbers_in rest) k)) k;
        moves = a.moves;
        raises = ap (λ z. g.weight i.1 + z) a.raises;
        lowers = λ e. zero_more (a.lowers e);
      }

  -- a further one, so that the newest is acted on
  further : (x : S) (j : Item) (rows : ℕ) (i : Item) (is : List Item) (ended : Bool) → Facts (script s (l (g.rule.holds x j.1) (Some i) (rows + rows_in i.1)) is ended) (g.rule.holds x j.1) (Some i) (rows + rows_in i.1) is ended
      → Facts (block_of (group_turn g l x (Some j) rows i) ++ script s (l (g.rule.holds x j.1) (Some i) (rows + rows_in i.1)) is ended) x (Some j) rows (i ∷ is) ended
  further x j rows i is ended a =
      let y0 : S = g.rule.holds x j.1 in
      let rest : List Act = script s (l y0 (Some i) (rows + rows_in i.1)) is ended in
      let keep : List (List ℕ) = kept (l y0 (Some i) (rows + rows_in i.1)) in
      let out : List Item = ranked j.0 0 (g.rule.leaves x j.1) in
      let q : Puts g.weight out (filled keep (weighed_puts g.weight out) ++ rest) rest = puts_before g.weight keep out rest in
      let b : lowered_in (filled keep (weighed_puts g.weight out) ++ rest) ≡ summed g.weight out + lowered_in rest = q.lowers in
      let c : summed g.weight out ≡ total_by g.weight (g.rule.leaves x j.1) = ranked_weight g.weight j.0 0 (g.rule.leaves x j.1) in
      let d : total_by g.weight (g.rule.leaves x j.1) + load y0 ≡ load x + g.weight j.1 = stays x j.1 in
      record {
        born = q.born ∙ a.born;
        given = q.gives ∙ ap (λ z. out ++ z) a.given;
        closes = q.closes ∙ a.closes;
        silent = q.silent ∙ a.silent;
        calm = q.calm ∙ a.calm;
        shape = λ e. q.shape ∙ a.shape e;
        counts = λ y k. ⊎_elim (λ e. inl (inl e)) (λ k. counted y (in_cases y (g.taken y0 i.1 ++ g.acted x j.1) (numbers_in rest) (subst (λ z. In y ((g.taken y0 i.1 ++ g.acted x j.1) ++ z)) q.numbers k))) k;
        moves = λ y k. moved y (in_cases y (left_count g.rule x j.1) (indices_in rest) (subst (λ z. In y (left_count g.rule x j.1 ++ z)) q.indices k));
        raises = ap (λ z. g.weight i.1 + z) (q.raises ∙ a.raises);
        lowers = λ e. let f : lowered_in rest ≡ load y0 + (g.weight i.1 + summed g.weight is) = a.lowers e in omega (arith, b, c, d, f);
      }
    where
      counted : (y : ℕ) → In y (g.taken (g.rule.holds x j.1) i.1 ++ g.acted x j.1) ⊎ In y (numbers_in (script s (l (g.rule.holds x j.1) (Some i) (rows + rows_in i.1)) is ended))
          → In y (totals rows_in rows (i ∷ is)) ⊎ (In y (sizes g (g.rule.holds x j.1) (i ∷ is)) ⊎ In y (acted g x (j ∷ i ∷ is) ended))
      counted y (inl k) = ⊎_elim (λ b. inr (inl (in_left y (g.taken (g.rule.holds x j.1) i.1) (sizes g (g.rule.holds (g.rule.holds x j.1) i.1) is) b)))
          (λ b. inr (inr (in_left y (left_count g.rule x j.1 ++ g.acted x j.1) (acted g (g.rule.holds x j.1) (i ∷ is) ended) (in_right y (left_count g.rule x j.1) (g.acted x j.1) b)))) (in_cases y (g.taken (g.rule.holds x j.1) i.1) (g.acted x j.1) k)
      counted y (inr k) = ⊎_elim (λ b. inl (inr b)) (λ b. ⊎_elim (λ b. inr (inl (in_right y (g.taken (g.rule.holds x j.1) i.1) (sizes g (g.rule.holds (g.rule.holds x j.1) i.1) is) b)))
          (λ b. inr (inr (in_right y (left_count g.rule x j.1 ++ g.acted x j.1) (acted g (g.rule.holds x j.1) (i ∷ is) ended) b))) b) (a.counts y k)

      moved : (y : ℕ) → In y (left_count g.rule x j.1) ⊎ In y (indices_in (script s (l (g.rule.holds x j.1) (Some i) (rows + rows_in i.1)) is ended)) → In y (acted g x (j ∷ i ∷ is) ended)
      moved y (inl k) = in_left y (left_count g.rule x j.1 ++ g.acted x j.1) (acted g (g.rule.holds x j.1) (i ∷ is) ended) (in_left y (left_count g.rule x j.1) (g.acted x j.1) k)
      moved y (inr k) = in_right y (left_count g.rule x j.1 ++ g.acted x j.1) (acted g (g.rule.holds x j.1) (i ∷ is) ended) (a.moves y k)

  -- before a chunk came nothing is held
  abbrev Fresh : S → Option Item → Type 0
  Fresh x None = load x ≡ 0
  Fresh x (Some j) = Unit {0}

  facts : (items : List Item) (x : S) (j : Option Item) (rows : ℕ) (ended : Bool) → Fresh x j → Facts (script s (l x j rows) items ended) x j rows items ended
  facts [] x None rows false z = record { born = refl; given = refl; closes = refl; silent = refl; calm = refl; shape = λ q. cc; counts = λ y i. absurd i; moves = λ y i. absurd i; raises = refl; lowers = λ q. cc }
  facts [] x (Some j) rows false z = record { born = refl; given = refl; closes = refl; silent = refl; calm = refl; shape = λ q. cc; counts = λ y i. absurd i; moves = λ y i. absurd i; raises = refl; lowers = λ q. cc }
  facts [] x None rows true z = subst (λ y. Facts y x None rows [] true) (sym (ends x None rows))
      (record { born = refl; given = refl; closes = refl; silent = refl; calm = refl; shape = λ q. refl; counts = λ y i. absurd i; moves = λ y i. absurd i; raises = refl; lowers = λ q. omega (arith, z) })
  facts [] x (Some j) rows true z = subst (λ z. Facts z x (Some j) rows [] true) (sym (ends x (Some j) rows)) (at_end x j rows)
  facts (i ∷ is) x None rows ended z = subst (λ u. Facts (block_of u ++ script s u.after is ended) x None rows (i ∷ is) ended) (sym (turns x None rows i)) (first x rows i is ended (facts is x (Some i) (rows + rows_in i.1) ended tt))
  facts (i ∷ is) x (Some j) rows ended z =
      subst (λ u. Facts (block_of u ++ script s u.after is ended) x (Some j) rows (i ∷ is) ended) (sym (turns x (Some j) rows i)) (further x j rows i is ended (facts is (g.rule.holds x j.1) (Some i) (rows + rows_in i.1) ended tt))

-- ---- by blocks: nothing is counted in the tracker

no_weight : (cs : List ChunkData) → total_by (λ c. 0) cs ≡ 0
no_weight [] = refl
no_weight (c ∷ cs) = zero_more (no_weight cs)

no_weights : (items : List Item) → summed (λ c. 0) items ≡ 0
no_weights [] = refl
no_weights (i ∷ is) = zero_more (no_weights is)

no_sizes : (o : BlockOptions) (t : Ty) (y : ℕ) (items : List Item) (x : List CellData) → In y (sizes (block_grouper o t) x items) → ⊥
no_sizes o t y [] x q = q
no_sizes o t y (i ∷ is) x q = no_sizes o t y is ((blocks o t).holds x i.1) q

blocks_stay : (o : BlockOptions) (t : Ty) (x : List CellData) (c : ChunkData) → total_by (λ c. 0) ((blocks o t).leaves x c) + 0 ≡ 0 + 0
blocks_stay o t x c = let z : total_by (λ c. 0) ((blocks o t).leaves x c) ≡ 0 = no_weight ((blocks o t).leaves x c) in omega (arith, z)

blocks_leave : (o : BlockOptions) (t : Ty) (x : List CellData) (c : ChunkData) → total_by (λ c. 0) ((blocks o t).rest x c) ≡ 0 + 0
blocks_leave o t x c = no_weight ((blocks o t).rest x c)

-- the child's stream
pub blocks_stream : (s : Setting) (o : BlockOptions) (n : GroupedNode) (items : List Item) (ended : Bool)
    → (births (script s (blocks_local o n [] None 0) items ended) ≡ []) × (gifts 0 (script s (blocks_local o n [] None 0) items ended) ≡ regrouped (blocks o n.type) [] items ended) × (shut 0 (script s (blocks_local o n [] None 0) items ended) ≡ ended)
blocks_stream s o n items ended =
    let a = facts (List CellData) s (block_grouper o n.type) (λ x. 0) (blocks_local o n) (λ x j rows i. refl) (λ x j rows. refl) (blocks_stay o n.type) (blocks_leave o n.type) items [] None 0 ended refl in (a.born, a.given, a.closes)

pub blocks_fair : (s : Setting) (o : BlockOptions) (t : Ty) (k : Node) (f : Form) → Fair s k f → Fair s (grouped_node (by_blocks o) t k) (grouped_form (by_blocks o) t f)
blocks_fair s o t k f h = record { fair = go }
  where
    go : (m : Bool) (name : List ℕ) (items : List Item) (ended : Bool) (e : Eof) (d : Fuel) → Enough d (grouped_form (by_blocks o) t f)
        → Meets s d (duty_of s (grouped_form (by_blocks o) t f) m name items ended e) (grouped_node (by_blocks o) t k m items ended e)
    go m name items ended e spent enough = absurd enough
    go m name items ended e (fuel g) enough =
        let n : GroupedNode = record { name = name; mark = m; type = t; child = f; eof = e } in
        let a = facts (List CellData) s (block_grouper o t) (λ x. 0) (blocks_local o n) (λ x j rows i. refl) (λ x j rows. refl) (blocks_stay o t) (blocks_leave o t) items [] None 0 ended refl in
        let raised : raised_in (script s (blocks_local o n [] None 0) items ended) ≡ 0 = a.raises ∙ no_weights items in
        pass s g (duty_of s (grouped_form (by_blocks o) t f) m name items ended e) (duty_of s f m (under name 0) (grouped_stream (by_blocks o) t items ended) ended e) (grouped_node (by_blocks o) t k m items ended e)
        (k m (grouped_stream (by_blocks o) t items ended) ended e) (row_totals items ++ group_numbers (by_blocks o) t items ended)
        (record {
          first = refl;
          born = a.born;
          given = a.given;
          closes = a.closes;
          silent = a.silent;
          calm = a.calm;
          shape = a.shape;
          counts = λ y i. ⊎_elim (λ q. in_left y (row_totals items) (group_numbers (by_blocks o) t items ended) q)
              (λ q. ⊎_elim (λ q. absurd (no_sizes o t y items [] q)) (λ q. in_right y (row_totals items) (group_numbers (by_blocks o) t items ended) q) q) (a.counts y i);
          moves = λ y i. (y, in_right y (row_totals items) (group_numbers (by_blocks o) t items ended) (a.moves y i), omega arith);
          places = λ y i. absurd i;
          lowers = λ q. a.lowers q ∙ zero_more (no_weights items) ∙ sym raised;
          start = refl;
          ends = λ x. x;
        })
        (h.fair m (under name 0) (grouped_stream (by_blocks o) t items ended) ended e (g (form_type f)) enough) refl refl refl (ap (λ z. z + (k m (grouped_stream (by_blocks o) t items ended) ended e).reserved) (sym raised)) refl

-- ---- by held bytes: what is held counts as many bytes

held_append : (ps qs : List ChunkData) → total_by held (ps ++ qs) ≡ total_by held ps + total_by held qs
held_append [] qs = omega arith
held_append (p ∷ ps) qs = let h : total_by held (ps ++ qs) ≡ total_by held ps + total_by held qs = held_append ps qs in omega (arith, h)

flushed_all : (size : ℕ) (ps : List ChunkData) → total_by held (flushed size ps) + total_by held (still_held size ps) ≡ total_by held ps
flushed_all size [] = refl
flushed_all size (p ∷ ps) = go (nat_le (total_by held (p ∷ ps)) size) (flushed_all size ps)
  where
    go : (b : Bool) → total_by held (flushed size ps) + total_by held (still_held size ps) ≡ total_by held ps
        → total_by held (if b then [] else p ∷ flushed size ps) + total_by held (if b then p ∷ ps else still_held size ps) ≡ held p + total_by held ps
    go true r = omega arith
    go false r = omega (arith, r)

with_one : (ps : List ChunkData) (c : ChunkData) → total_by held (ps ++ (c ∷ [])) ≡ total_by held ps + held c
with_one ps c = let h : total_by held (ps ++ (c ∷ [])) ≡ total_by held ps + (held c + 0) = held_append ps (c ∷ []) in omega (arith, h)

bytes_stay : (size : ℕ) (ps : List ChunkData) (c : ChunkData) → total_by held ((flushes size).leaves ps c) + total_by held ((flushes size).holds ps c) ≡ total_by held ps + held c
bytes_stay size ps c = go (is_full size (ps ++ (c ∷ []))) (flushed_all size (ps ++ (c ∷ []))) ∙ with_one ps c
  where
    go : (b : Bool) → total_by held (flushed size (ps ++ (c ∷ []))) + total_by held (still_held size (ps ++ (c ∷ []))) ≡ total_by held (ps ++ (c ∷ []))
        → total_by held (if b then flushed size (ps ++ (c ∷ [])) else []) + total_by held (if b then still_held size (ps ++ (c ∷ [])) else ps ++ (c ∷ [])) ≡ total_by held (ps ++ (c ∷ []))
    go true r = r
    go false r = omega arith

all_sizes : (size : ℕ) (items : List Item) (x : List ChunkData) → sizes (byte_grouper size) x items ≡ held_sizes size x items
all_sizes size [] x = refl
all_sizes size (i ∷ is) x = ap (λ z. held i.1 ∷ total_by held (x ++ (i.1 ∷ [])) ∷ z) (all_sizes size is ((flushes size).holds x i.1))

-- the child's stream
pub bytes_stream : (s : Setting) (size : ℕ) (n : GroupedNode) (items : List Item) (ended : Bool)
    → (births (script s (bytes_local size n [] None 0) items ended) ≡ []) × (gifts 0 (script s (bytes_local size n [] None 0) items ended) ≡ regrouped (flushes size) [] items ended) × (shut 0 (script s (bytes_local size n [] None 0) items ended) ≡ ended)
bytes_stream s size n items ended =
    let a = facts (List ChunkData) s (byte_grouper size) (λ x. total_by held x) (bytes_local size n) (λ x j rows i. refl) (λ x j rows. refl) (bytes_stay size) with_one items [] None 0 ended refl in (a.born, a.given, a.closes)

pub bytes_fair : (s : Setting) (size : ℕ) (t : Ty) (k : Node) (f : Form) → Fair s k f → Fair s (grouped_node (by_bytes size) t k) (grouped_form (by_bytes size) t f)
bytes_fair s size t k f h = record { fair = go }
  where
    go : (m : Bool) (name : List ℕ) (items : List Item) (ended : Bool) (e : Eof) (d : Fuel) → Enough d (grouped_form (by_bytes size) t f)
        → Meets s d (duty_of s (grouped_form (by_bytes size) t f) m name items ended e) (grouped_node (by_bytes size) t k m items ended e)
    go m name items ended e spent enough = absurd enough
    go m name items ended e (fuel g) enough =
        let n : GroupedNode = record { name = name; mark = m; type = t; child = f; eof = e } in
        let a = facts (List ChunkData) s (byte_grouper size) (λ x. total_by held x) (bytes_local size n) (λ x j rows i. refl) (λ x j rows. refl) (bytes_stay size) with_one items [] None 0 ended refl in
        let raised : raised_in (script s (bytes_local size n [] None 0) items ended) ≡ summed held items = a.raises in
        let cut : List ℕ = counted_at (left_count (flushes size)) (rest_count (flushes size)) (flushes size) [] items ended in
        pass s g (duty_of s (grouped_form (by_bytes size) t f) m name items ended e) (duty_of s f m (under name 0) (grouped_stream (by_bytes size) t items ended) ended e) (grouped_node (by_bytes size) t k m items ended e)
        (k m (grouped_stream (by_bytes size) t items ended) ended e) (row_totals items ++ group_numbers (by_bytes size) t items ended)
        (record {
          first = refl;
          born = a.born;
          given = a.given;
          closes = a.closes;
          silent = a.silent;
          calm = a.calm;
          shape = a.shape;
          counts = λ y i. ⊎_elim (λ q. in_left y (row_totals items) (group_numbers (by_bytes size) t items ended) q)
              (λ q. in_right y (row_totals items) (group_numbers (by_bytes size) t items ended)
              (⊎_elim (λ q. in_left y (held_sizes size [] items) cut (subst (λ z. In y z) (all_sizes size items []) q)) (λ q. in_right y (held_sizes size [] items) cut q) q)) (a.counts y i);
          moves = λ y i. (y, in_right y (row_totals items) (group_numbers (by_bytes size) t items ended) (in_right y (held_sizes size [] items) cut (a.moves y i)), omega arith);
          places = λ y i. absurd i;
          lowers = λ q. a.lowers q ∙ zero_more (sym raised);
          start = refl;
          ends = λ x. x;
        })
        (h.fair m (under name 0) (grouped_stream (by_bytes size) t items ended) ended e (g (form_type f)) enough) refl refl refl (ap (λ z. z + (k m (grouped_stream (by_bytes size) t items ended) ended e).reserved) (sym raised)) refl
