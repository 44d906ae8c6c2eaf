-- Children that have done all, on both sides.
use Rattle.std.proofs.Common.{◌≡◌, ◌+◌, ◌&&◌, ◌⊎◌, ◌∷◌, ◌++◌, ◌∙◌, ℕ, suc, Bool, true, false, List, map, refl, sym, ap, inl, inr, arith, Option, Some, None, []}
use Rattle.std.proofs.lemmas.List.{map-append}
use Rattle.vx_model.specs.Words.{total_by}
use Rattle.vx_model.specs.ChunkData.{ChunkData}
use Rattle.vx_model.specs.Ty.{Ty, struct}
use Rattle.vx_layout_spec.specs.LayoutTree.{LayoutData, row_count, renamed}
use Rattle.vx_rules.specs.Blocks.{block_len}
use Rattle.vx_plan.specs.PlanData.{Setting, Item, row_total, rows_in}
use Rattle.vx_plan.specs.FlatNode.{inlined}
use Rattle.vx_zone_spec.specs.ZoneTable.{Filled}
use Rattle.vx_path.specs.Path.{next}
use Rattle.vx_machine_turns.specs.Locals.{ZonedNode}
use Rattle.vx_machine_turns.specs.Zoned.{zoned_joins}
use Rattle.vx_machine_turns.specs.Acts.{Seed, Act, passes, does, close_queues, shape_in, gifts}
use Rattle.vx_machine_turns.specs.Grouped.{weighed_puts}
use Rattle.vx_machine_turns.specs.Locals.{DictNode, Local}
use Rattle.vx_machine_turns.specs.Readings.{shaped}
use Rattle.vx_machine_turns.specs.Scripts.{filled}
use Rattle.vx_machine_turns.specs.Fuels.{Fuel, less}
use Rattle.vx_machine_steps.specs.Tree.{Head, Tree, Leaf, Work}
use Rattle.vx_machine_steps.specs.Moves.{due, due_todo, due_more, holding, is_nil, all_paths, all_over, tree_moves, move_own, in_kids, in_rest}
use Rattle.vx_machine_state.specs.State.{Next, shut_kids, Mind, no_chunk, one_chunk, by_chunk, by_column, by_list, by_block, by_size, as_one, by_image, as_is, by_probe, asking, by_run, by_zone, ending, passing, Tasks, no_tasks, task_then}
use Rattle.vx_tasks.specs.Task.{Join}
use Rattle.vx_machine_state.specs.Coder.{coder_of}
use Rattle.vx_machine_state.specs.Coding.{Deed}
use Rattle.vx_machine_view.specs.Deeds.{deed_acts}
use Rattle.vx_machine_state.specs.Acts.{layout_in, layouts_in, hand_all}
use Rattle.vx_machine_state.specs.Moves.{is_empty, is_made, all_made}
use Rattle.vx_machine_state.specs.Done.{has_layout}
use Rattle.vx_machine_state.specs.Zoned.{Zones}
use Rattle.vx_machine_view.specs.Zoning.{zoner_of, zones_mind, zones_left, zones_shape}
use Rattle.vx_machine_view.specs.Shows.{Ends, Stage, waits_first, waits_end, appends, splits, gathers_all, hands, hands_lists, shuts, joins_columns, regroups_rows, regroups_chunks, collects, presses, pressed, lets_out, asks_first, probes, falls_back, cuts, last_cuts, passes_on, passed, records_zones, closes_zones, joins_data, joins_zones, Done, Shows, laid, rows_of, types_of, shape_rows, task_rows}
use Rattle.vx_machine_view.proofs.Words.{true_false, left_nil, right_nil, no_firsts, and_left, and_right}

-- ---- what hasn't done all, and what has its only child's layout

-- it is neither made nor over
pub record Busy (mind : Mind) (left : List Next) (todo : List Act) (over : Bool) : Type 0 where
  pub unmade : (b : Bool) → is_made mind left b ≡ false
  pub unlaid : (ks : Tasks) (b x : Bool) → (has_layout mind ks b && (is_empty left && x)) ≡ false
  pub goes_on : (x : Bool) → (is_nil todo && over && x) ≡ false

-- nothing is left to do, and its child's layout is its own
pub record Passed (mind : Mind) (left : List Next) (past todo : List Act) (over : Bool) (hs : Tree) : Type 0 where
  pub type : Ty
  pub one : types_of hs ≡ type ∷ []
  pub ends : Ends mind left past todo over passing [] [] passes

off_false : (b x : Bool) → (b && false && x) ≡ false
off_false true x = refl
off_false false x = refl

no_and : (b : Bool) → (b && false) ≡ false
no_and true = refl
no_and false = refl

on_busy : (over : Bool) (todo : List Act) → over ≡ false → (x : Bool) → (is_nil todo && over && x) ≡ false
on_busy over todo e x = ap (λ z. is_nil todo && z && x) e ∙ off_false (is_nil todo) x

ends_busy : (over : Bool) (todo : List Act) (a : Act) (acts : List Act) → todo ≡ a ∷ acts → (x : Bool) → (is_nil todo && over && x) ≡ false
ends_busy over todo a acts e x = ap (λ z. is_nil z && over && x) e

busy_by : (mind m : Mind) (left : List Next) (todo : List Act) (over : Bool) → mind ≡ m → ((b : Bool) → is_made m left b ≡ false) → ((ks : Tasks) (b : Bool) → has_layout m ks b ≡ false)
    → ((x : Bool) → (is_nil todo && over && x) ≡ false) → Busy mind left todo over
busy_by mind m left todo over e f g h = record {
  unmade = λ b. ap (λ z. is_made z left b) e ∙ f b;
  unlaid = λ ks b x. ap (λ z. has_layout z ks b && (is_empty left && x)) e ∙ ap (λ z. z && (is_empty left && x)) (g ks b);
  goes_on = h;
}

-- what is left to hand on, and to close, is something
outs_left : (weight : ChunkData → ℕ) (outs : List Item) → is_empty (hand_all weight outs ++ (shut_kids ∷ [])) ≡ false
outs_left weight [] = refl
outs_left weight (i ∷ outs) = refl

outs_todo : (weight : ChunkData → ℕ) (outs : List Item) → is_nil (filled [] (weighed_puts weight outs ++ (close_queues (0 ∷ []) ∷ []))) ≡ false
outs_todo weight [] = refl
outs_todo weight (i ∷ outs) = refl

-- with something left it isn't made
left_busy : (mind : Mind) (left : List Next) (todo : List Act) (over : Bool) (table : Option (List Filled)) (x : Next) (xs : List Next) (a : Act) (acts : List Act) → mind ≡ zones_mind table → left ≡ x ∷ xs → todo ≡ a ∷ acts
    → Busy mind left todo over
left_busy mind left todo over table x xs a acts e l t = record {
  unmade = λ b. ap (λ z. is_made z left b) e ∙ ap (λ z. is_made (zones_mind table) z b) l ∙ no_end table b;
  unlaid = λ ks b y. ap (λ z. has_layout mind ks b && (is_empty z && y)) l ∙ no_and (has_layout mind ks b);
  goes_on = ends_busy over todo a acts t;
}
  where
    no_end : (table : Option (List Filled)) (b : Bool) → is_made (zones_mind table) (x ∷ xs) b ≡ false
    no_end None b = refl
    no_end (Some cs) b = refl

data_busy : (s : Setting) (mind : Mind) (left : List Next) (past todo : List Act) (over : Bool) (n : ZonedNode) (z : Zones) (table : Option (List Filled))
    → Ends mind left past todo over (zones_mind table) (zones_left n z table) (filled [] (zoned_joins s n z.zones table)) (zones_shape n z.rows table) → Busy mind left todo over
data_busy s mind left past todo over n z None w = left_busy mind left todo over None _ _ _ _ w.mind_is w.left_is w.rest
data_busy s mind left past todo over n z (Some cs) w = left_busy mind left todo over (Some cs) _ _ _ _ w.mind_is w.left_is w.rest

deeds_todo : (s : Setting) (n : DictNode) (ds : List Deed) → is_nil (filled [] (deed_acts s n ds ++ (does Join ∷ []))) ≡ false
deeds_todo s n [] = refl
deeds_todo s n (x ∷ ds) = refl

pub stage_parts : (s : Setting) (d : Fuel) (mind : Mind) (left : List Next) (ks : Tasks) (q : Seed) (past todo : List Act) (l : Local) (over : Bool) (hs : Tree)
    → Stage s d mind left ks q past todo l over hs → Busy mind left todo over ⊎ Passed mind left past todo over hs
stage_parts s d mind left ks q past todo l over hs (waits_first o t k r) = inl (busy_by mind (no_chunk o t) left todo over r.mind_is (λ b. refl) (λ ks b. refl) (on_busy over todo r.on))
stage_parts s d mind left ks q past todo l over hs (waits_end o t x y k r) =
    inl (busy_by mind (one_chunk (record { id = x.0; bytes = y; tree = inlined s o x; rows = rows_in x.1; type = t })) left todo over r.mind_is (λ b. refl) (λ ks b. refl) (on_busy over todo r.on))
stage_parts s d mind left ks q past todo l over hs (appends y k r) = inl (busy_by mind ending left todo over r.mind_is (λ b. refl) (λ ks b. refl) (ends_busy over todo _ _ r.rest))
stage_parts s d mind left ks q past todo l over hs (splits n e a b c f g u r) =
    inl (busy_by mind (by_chunk n.mark n.type n.child e (rows_of hs)) left todo over r.mind_is (λ b. refl) (λ ks b. refl) (on_busy over todo r.on))
stage_parts s d mind left ks q past todo l over hs (gathers_all t u r) = inl (busy_by mind ending left todo over r.mind_is (λ b. refl) (λ ks b. refl) (ends_busy over todo _ _ r.rest))
stage_parts s d mind left ks q past todo l over hs (hands n rows j p xs ws t v r) =
    inl (busy_by mind (by_column (struct n.fields n.nullable) rows) left todo over r.mind_is (λ b. refl) (λ ks b. refl) (on_busy over todo r.on))
stage_parts s d mind left ks q past todo l over hs (hands_lists n first from rows j p xs ws t v r) =
    inl (busy_by mind (by_list n.elements n.nullable first from rows) left todo over r.mind_is (λ b. refl) (λ ks b. refl) (on_busy over todo r.on))
stage_parts s d mind left ks q past todo l over hs (shuts t rows c r) = inl (busy_by mind ending left todo over r.mind_is (λ b. refl) (λ ks b. refl) (ends_busy over todo _ _ r.rest))
stage_parts s d mind left ks q past todo l over hs (joins_columns t rows c r) = inl (busy_by mind ending left todo over r.mind_is (λ b. refl) (λ ks b. refl) (ends_busy over todo _ _ r.rest))
stage_parts s d mind left ks q past todo l over hs (regroups_rows o n x j rows outs tj nh r) =
    inl (busy_by mind (by_block (block_len o n.type) o.minimum n.type x j rows) left todo over r.mind_is (λ b. refl) (λ ks b. refl) (on_busy over todo r.on))
stage_parts s d mind left ks q past todo l over hs (regroups_chunks size n x j rows outs tx tj nh r) =
    inl (busy_by mind (by_size size x j rows) left todo over r.mind_is (λ b. refl) (λ ks b. refl) (on_busy over todo r.on))
stage_parts s d mind left ks q past todo l over hs (collects n x rows r) = inl (busy_by mind (as_one n.type x rows) left todo over r.mind_is (λ b. refl) (λ ks b. refl) (on_busy over todo r.on))
stage_parts s d mind left ks q past todo l over hs (presses n t i ti r) = inl (busy_by mind (by_image n.which) left todo over r.mind_is (λ b. refl) (λ ks b. refl) (on_busy over todo r.on))
stage_parts s d mind left ks q past todo l over hs (pressed n t outs r) = inl (busy_by mind (by_image n.which) left todo over r.mind_is (λ b. refl) (λ ks b. refl) (on_busy over todo r.on))
stage_parts s d mind left ks q past todo l over hs (lets_out n t outs r) = inl (busy_by mind as_is left todo over r.mind_is (λ b. refl) (λ ks b. refl) (on_busy over todo r.on))
stage_parts s d mind left ks q past todo l over hs (asks_first n k nk r) = inl (busy_by mind (by_probe (coder_of n) n.eof) left todo over r.mind_is (λ b. refl) (λ ks b. refl) (on_busy over todo r.on))
stage_parts s d mind left ks q past todo l over hs (probes n i k nk r) = inl (busy_by mind asking left todo over r.mind_is (λ b. refl) (λ ks b. refl) (on_busy over todo r.on))
stage_parts s d mind left ks q past todo l over hs (falls_back t outs r) = inl (busy_by mind as_is left todo over r.mind_is (λ b. refl) (λ ks b. refl) (on_busy over todo r.on))
stage_parts s d mind left ks q past todo l over hs (cuts n so_far i rows c ds k u r) = inl (busy_by mind (by_run (coder_of n) so_far i rows) left todo over r.mind_is (λ b. refl) (λ ks b. refl) (on_busy over todo r.on))
stage_parts s d mind left ks q past todo l over hs (last_cuts n rows ns c ds k u sum is go r) =
    inl (busy_by mind ending left todo over r.mind_is (λ b. refl) (λ ks b. refl) (λ x. ap (λ z. is_nil z && over && x) r.rest ∙ ap (λ z. z && over && x) (deeds_todo s n ds)))
stage_parts s d mind left ks q past todo l over hs (passes_on t weight outs one ty r) =
    let some : is_empty left ≡ false = ap is_empty r.left_is ∙ outs_left weight outs in
    inl (record {
      unmade = λ b. ap (λ z. is_made z left b) r.mind_is ∙ ap (λ z. z && b) some;
      unlaid = λ ks b x. ap (λ z. has_layout mind ks b && (z && x)) some ∙ no_and (has_layout mind ks b);
      goes_on = λ x. ap (λ z. is_nil z && over && x) r.rest ∙ ap (λ z. z && over && x) (outs_todo weight outs);
    })
stage_parts s d mind left ks q past todo l over hs (passed t one r) = inr (record { type = t; one = one; ends = r })
stage_parts s d mind left ks q past todo l over hs (records_zones n z outs iz one rw to r) =
    inl (busy_by mind (by_zone (zoner_of n) (next n.eof) z) left todo over r.mind_is (λ b. refl) (λ ks b. refl) (on_busy over todo r.on))
stage_parts s d mind left ks q past todo l over hs (closes_zones n z table iz one r) = inl (left_busy mind left todo over table _ _ _ _ r.mind_is r.left_is r.rest)
stage_parts s d mind left ks q past todo l over hs (joins_data n z table iz one r) = inl (data_busy s mind left past todo over n z table r)
stage_parts s d mind left ks q past todo l over hs (joins_zones n rows cs both r) = inl (busy_by mind ending left todo over r.mind_is (λ b. refl) (λ ks b. refl) (ends_busy over todo _ _ r.rest))

-- what is made, of those that haven't a layout of their own, has its child's
pub stage_made : (s : Setting) (d : Fuel) (mind : Mind) (left : List Next) (ks : Tasks) (q : Seed) (past todo : List Act) (l : Local) (over : Bool) (hs : Tree) (b : Bool)
    → Stage s d mind left ks q past todo l over hs → is_made mind left b ≡ true → (b ≡ true) × Passed mind left past todo over hs
stage_made s d mind left ks q past todo l over hs b st e = by (stage_parts s d mind left ks q past todo l over hs st)
  where
    by : Busy mind left todo over ⊎ Passed mind left past todo over hs → (b ≡ true) × Passed mind left past todo over hs
    by (inl w) = absurd (true_false (sym e ∙ w.unmade b))
    by (inr w) = (sym (ap (λ z. is_made z left b) w.ends.mind_is ∙ ap (λ z. is_empty z && b) w.ends.left_is) ∙ e, w)

-- it is made where all is over below it and nothing is left to do
pub stage_over : (s : Setting) (d : Fuel) (mind : Mind) (left : List Next) (ks : Tasks) (q : Seed) (past todo : List Act) (l : Local) (over : Bool) (hs : Tree) (b x : Bool)
    → Stage s d mind left ks q past todo l over hs → b ≡ x → is_made mind left b ≡ (is_nil todo && over && x)
stage_over s d mind left ks q past todo l over hs b x st e = by (stage_parts s d mind left ks q past todo l over hs st)
  where
    by : Busy mind left todo over ⊎ Passed mind left past todo over hs → is_made mind left b ≡ (is_nil todo && over && x)
    by (inl w) = w.unmade b ∙ sym (w.goes_on x)
    by (inr w) = ap (λ z. is_made z left b) w.ends.mind_is ∙ ap (λ z. is_empty z && b) w.ends.left_is ∙ e
        ∙ sym (ap (λ z. is_nil z && over && x) w.ends.rest ∙ ap (λ z. true && z && x) w.ends.off)

pub done_over : (number : List ℕ → ℕ) (mind : Mind) (left : List Next) (ks : Tasks) (past todo : List Act) (over : Bool) (hs : Tree) → Done number mind left ks past todo over hs
    → (is_nil todo && over && all_over hs) ≡ true
done_over number mind left ks past todo over hs w = ap (λ z. is_nil z && over && all_over hs) w.rest ∙ ap (λ z. true && z && all_over hs) w.off ∙ w.below

module _ (s : Setting) (number : List ℕ → ℕ) where
  pub made_is : (d : Fuel) (q : Seed) (j : ℕ) (cs : Tasks) (t : Tree) → Shows s number d q j cs t → all_made cs ≡ all_over t
  made_is d q j no_tasks Leaf w = refl
  made_is d q j no_tasks (Work h hs r) w = absurd w
  made_is d q j (task_then c ks more) Leaf w = absurd w
  made_is d q j (task_then c ks more) (Work h hs r) w = by w.1 (λ k. made_is (less d h.seed.type) h.seed 0 ks hs k) (made_is d q (suc j) more r w.2)
    where
      by : (Stage s (less d h.seed.type) c.mind c.todo ks h.seed h.past h.todo h.local h.over hs × Shows s number (less d h.seed.type) h.seed 0 ks hs)
          ⊎ Done number c.mind c.todo ks h.past h.todo h.over hs → (Shows s number (less d h.seed.type) h.seed 0 ks hs → all_made ks ≡ all_over hs) → all_made more ≡ all_over r
          → (is_made c.mind c.todo (all_made ks) && all_made more) ≡ ((is_nil h.todo && h.over && all_over hs) && all_over r)
      by (inl (st, k)) below others =
          ap (λ z. z && all_made more) (stage_over s (less d h.seed.type) c.mind c.todo ks h.seed h.past h.todo h.local h.over hs (all_made ks) (all_over hs) st (below k))
          ∙ ap (λ z. (is_nil h.todo && h.over && all_over hs) && z) others
      by (inr e) below others = ap (λ z. is_made z c.todo (all_made ks) && all_made more) e.mind_is ∙ others
          ∙ sym (ap (λ z. z && all_over r) (done_over number c.mind c.todo ks h.past h.todo h.over hs e))

  pub record AllLaid (cs : Tasks) (t : Tree) : Type 0 where
    pub layouts : layouts_in cs ≡ map (renamed number) (laid t)
    pub rows : total_by row_count (layouts_in cs) ≡ rows_of t

  row_sums : (xs ys : List (LayoutData ℕ)) → total_by row_count (xs ++ ys) ≡ total_by row_count xs + total_by row_count ys
  row_sums [] ys = let e : total_by row_count ys ≡ 0 + total_by row_count ys = omega arith in e
  row_sums (x ∷ xs) ys =
      let h : total_by row_count (xs ++ ys) ≡ total_by row_count xs + total_by row_count ys = row_sums xs ys in
      let e : row_count x + total_by row_count (xs ++ ys) ≡ (row_count x + total_by row_count xs) + total_by row_count ys = omega (arith, h) in e

  -- where nothing is held below any more
  pub laid_all : (d : Fuel) (q : Seed) (j : ℕ) (cs : Tasks) (t : Tree) → Shows s number d q j cs t → all_made cs ≡ true → all_paths t ≡ [] → AllLaid cs t
  laid_all d q j no_tasks Leaf w m free = record { layouts = refl; rows = refl }
  laid_all d q j no_tasks (Work h hs r) w m free = absurd w
  laid_all d q j (task_then c ks more) Leaf w m free = absurd w
  laid_all d q j (task_then c ks more) (Work h hs r) w m free =
      by w.1 (λ k b f. laid_all (less d h.seed.type) h.seed 0 ks hs k b f)
      (laid_all d q (suc j) more r w.2 (and_right (is_made c.mind c.todo (all_made ks)) (all_made more) m) (right_nil (map (λ x. x.0) h.inbox ++ (holding h ++ all_paths hs)) (all_paths r) free))
    where
      none_here : map (λ x. x.0) h.inbox ++ (holding h ++ all_paths hs) ≡ []
      none_here = left_nil (map (λ x. x.0) h.inbox ++ (holding h ++ all_paths hs)) (all_paths r) free

      none_below : all_paths hs ≡ []
      none_below = right_nil (holding h) (all_paths hs) (right_nil (map (λ x. x.0) h.inbox) (holding h ++ all_paths hs) none_here)

      none_in : row_total h.inbox ≡ 0
      none_in = ap row_total (no_firsts h.inbox (left_nil (map (λ x. x.0) h.inbox) (holding h ++ all_paths hs) none_here))

      sent : ℕ
      sent = row_total (gifts 0 h.todo) + rows_of hs

      by : (Stage s (less d h.seed.type) c.mind c.todo ks h.seed h.past h.todo h.local h.over hs × Shows s number (less d h.seed.type) h.seed 0 ks hs)
          ⊎ Done number c.mind c.todo ks h.past h.todo h.over hs
          → (Shows s number (less d h.seed.type) h.seed 0 ks hs → all_made ks ≡ true → all_paths hs ≡ [] → AllLaid ks hs) → AllLaid more r → AllLaid (task_then c ks more) (Work h hs r)
      by (inl (st, k)) deeper others =
          let x : (all_made ks ≡ true) × Passed c.mind c.todo h.past h.todo h.over hs =
          stage_made s (less d h.seed.type) c.mind c.todo ks h.seed h.past h.todo h.local h.over hs (all_made ks) st (and_left (is_made c.mind c.todo (all_made ks)) (all_made more) m) in
          let y : AllLaid ks hs = deeper k x.0 none_below in
          let a : total_by row_count (layouts_in ks ++ layouts_in more) ≡ total_by row_count (layouts_in ks) + total_by row_count (layouts_in more) = row_sums (layouts_in ks) (layouts_in more) in
          let b : task_rows h.over h.local h.past sent ≡ 0 + rows_of hs =
          ap (λ z. task_rows z h.local h.past sent) x.1.ends.off ∙ ap (λ z. shape_rows z sent) x.1.ends.shape_is ∙ ap (λ z. row_total (gifts 0 z) + rows_of hs) x.1.ends.rest in
          let c1 : total_by row_count (layouts_in ks) ≡ rows_of hs = y.rows in
          let c2 : total_by row_count (layouts_in more) ≡ rows_of r = others.rows in
          let c3 : row_total h.inbox ≡ 0 = none_in in
          let all : total_by row_count (layouts_in ks ++ layouts_in more) ≡ (task_rows h.over h.local h.past sent + row_total h.inbox) + rows_of r = omega (arith, a, b, c1, c2, c3) in
          record {
            layouts = ap (λ z. layout_in z (layouts_in ks) ++ layouts_in more) x.1.ends.mind_is
                ∙ ap (λ z. z ++ layouts_in more) y.layouts
                ∙ ap (λ z. map (renamed number) (shaped z (laid hs)) ++ layouts_in more) (sym x.1.ends.shape_is)
                ∙ ap (λ z. map (renamed number) (shaped (shape_in h.past) (laid hs)) ++ z) others.layouts
                ∙ sym (map-append (renamed number) (shaped (shape_in h.past) (laid hs)) (laid r));
            rows = ap (λ z. total_by row_count (layout_in z (layouts_in ks) ++ layouts_in more)) x.1.ends.mind_is ∙ all;
          }
      by (inr e) deeper others =
          let b : task_rows h.over h.local h.past sent ≡ row_count e.layout = ap (λ z. task_rows z h.local h.past sent) e.off ∙ sym (e.rows_are sent) in
          let c2 : total_by row_count (layouts_in more) ≡ rows_of r = others.rows in
          let c3 : row_total h.inbox ≡ 0 = none_in in
          let all : row_count e.layout + total_by row_count (layouts_in more) ≡ (task_rows h.over h.local h.past sent + row_total h.inbox) + rows_of r = omega (arith, b, c2, c3) in
          record {
            layouts = ap (λ z. layout_in z (layouts_in ks) ++ layouts_in more) e.mind_is ∙ ap (λ z. z ++ layouts_in more) (sym e.laid_is)
                ∙ ap (λ z. map (renamed number) (shaped (shape_in h.past) (laid hs)) ++ z) others.layouts
                ∙ sym (map-append (renamed number) (shaped (shape_in h.past) (laid hs)) (laid r));
            rows = ap (λ z. total_by row_count (layout_in z (layouts_in ks) ++ layouts_in more)) e.mind_is ∙ all;
          }

-- where all is over, nothing can be done

pub over_due : (s : Setting) (h : Head) → (is_nil h.todo ≡ true) → h.over ≡ true → due s h ≡ None
over_due s h n o = by h.todo refl n
  where
    by : (todo : List Act) → h.todo ≡ todo → is_nil todo ≡ true → due_todo s h todo ≡ None
    by [] e k = ap (λ z. due_more s h z h.inbox h.closed) o
    by (a ∷ todo) e k = cc

pub and_last : (a b c : Bool) → (a && b && c) ≡ true → (a ≡ true) × (b ≡ true) × (c ≡ true)
and_last true true true e = (refl, refl, refl)
and_last true true false e = absurd (true_false (sym e))
and_last true false c e = absurd (true_false (sym e))
and_last false b c e = absurd (true_false (sym e))

pub over_idle : (s : Setting) (all : List (List ℕ)) (d : Fuel) (t : Tree) → all_over t ≡ true → tree_moves s all d t ≡ []
over_idle s all d Leaf o = refl
over_idle s all d (Work h ks r) o =
    let k : (is_nil h.todo ≡ true) × (h.over ≡ true) × (all_over ks ≡ true) = and_last (is_nil h.todo) h.over (all_over ks) (and_left (is_nil h.todo && h.over && all_over ks) (all_over r) o) in
    ap (λ z. (move_own all d h ks r z ++ map (in_kids h r) (tree_moves s all (less d h.seed.type) ks)) ++ map (in_rest h ks) (tree_moves s all d r)) (over_due s h k.0 k.1)
    ∙ ap (λ z. map (in_kids h r) z ++ map (in_rest h ks) (tree_moves s all d r)) (over_idle s all (less d h.seed.type) ks k.2)
    ∙ ap (λ z. map (in_rest h ks) z) (over_idle s all d r (and_right (is_nil h.todo && h.over && all_over ks) (all_over r) o))
