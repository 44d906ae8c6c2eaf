-- What tasks can do is what the abstract ones can, on all levels.
use Rattle.std.proofs.Common.{◌≡◌, ◌+◌, ◌&&◌, ◌⊎◌, ◌∷◌, ◌++◌, ◌∙◌, ℕ, suc, Bool, true, false, cond, not, List, map, length, refl, sym, ap, subst, inl, inr, arith, get_or, Some, []}
use Rattle.vx_model.specs.ChunkData.{ChunkData, held}
use Rattle.vx_machine_state.specs.Images.{Careful}
use Rattle.vx_tasks.specs.Task.{Free, Join}
use Rattle.vx_tasks.specs.Task.Prompt.{Call}
use Rattle.vx_tasks.specs.Nodes.{numbers}
use Rattle.vx_model.specs.Ty.{Ty, struct}
use Rattle.vx_rules.specs.Blocks.{block_len}
use Rattle.vx_plan.specs.PlanData.{Setting, Item, row_total}
use Rattle.vx_machine_turns.specs.Forms.{Writer}
use Rattle.vx_machine_turns.specs.Locals.{Local, chunked_local, struct_local, list_local, blocks_local, bytes_local, collect_local, compressed_local, outlet_local, dict_local, fallback_local}
use Rattle.vx_machine_turns.specs.Acts.{Seed, Act, does, put_item, close_queues, gathers, gifts}
use Rattle.vx_machine_turns.specs.Grouped.{group_kept}
use Rattle.vx_machine_turns.specs.Collected.{collect_kept}
use Rattle.vx_machine_turns.specs.Columns.{column_puts}
use Rattle.vx_machine_turns.specs.Dict.{dict_turn}
use Rattle.vx_machine_turns.specs.Turns.{kept}
use Rattle.vx_machine_turns.specs.Scripts.{filled}
use Rattle.vx_machine_turns.specs.Fuels.{Fuel, less}
use Rattle.vx_machine_steps.specs.Tree.{Head, Tree, Leaf, Work}
use Rattle.vx_machine_steps.specs.Moves.{doing, due, due_todo, is_nil, all_paths, all_over, TreeMove, tree_moves, move_own}
use Rattle.vx_machine_steps.specs.Moves as abstract
use Rattle.vx_machine_steps.specs.Laws.{JoinsFree}
use Rattle.vx_machine_state.specs.State.{Next, press, probe, Mind, by_probe, asking, by_chunk, by_column, by_list, by_block, by_size, as_one, by_image, as_is, passing, Desk, Tasks, no_tasks, task_then}
use Rattle.vx_machine_state.specs.Coder.{coder_of}
use Rattle.vx_machine_state.specs.Acts.{count, do_act, puts}
use Rattle.vx_machine_state.specs.Moves.{Step, own_step, in_kids, in_rest, steps, may_act, may_take, is_over}
use Rattle.vx_machine_view.specs.Suited.{column_types, list_types}
use Rattle.vx_machine_state.specs.Typed.{AllTyped, EachTyped}
use Rattle.vx_machine_view.specs.Shows.{Alike, Hands, Groups, Calls, Counted, Stage, waits_first, waits_end, appends, splits, gathers_all, hands, hands_lists, shuts, joins_columns, regroups_rows, regroups_chunks, collects, presses, pressed, lets_out, asks_first, probes, falls_back, cuts, last_cuts, passes_on, passed, records_zones, closes_zones, joins_data, joins_zones, Done, Shows, rows_of, types_of, local_rows, task_rows}
use Rattle.vx_machine_view.specs.Steps.{AllPairs, Steady, SameStep, StepsShow}
use Rattle.vx_machine_view.proofs.Words.{carried, pairs_append, pairs_map}
use Rattle.vx_machine_view.proofs.Feeding.{none_counted, no_tree}
use Rattle.vx_machine_view.proofs.Joining.{over_due, over_idle}
use Rattle.vx_machine_view.proofs.Acting.{desk, Own, first_own, one_own, chunks_own}
use Rattle.vx_machine_view.proofs.Columns.{Going, put_own, struct_going, columns_own, lists_going, lists_own}
use Rattle.vx_machine_view.proofs.Folding.{append_own, gather_own, shut_own, join_own}
use Rattle.vx_machine_view.proofs.Grouping.{passes_own}
use Rattle.vx_machine_view.proofs.Pressing.{press_own, pressed_own, out_own, back_own}
use Rattle.vx_machine_view.proofs.Probing.{asks_own, probes_own}
use Rattle.vx_machine_view.proofs.Cutting.{cuts_own, last_own}
use Rattle.vx_machine_view.proofs.Regrouping.{blocks_own, buffer_own, collect_own}
use Rattle.vx_machine_view.proofs.Zoning.{zones_own, close_data, join_data, lay_own}

-- ---- a task by itself

no_length : {A : Type 0} (xs : List A) → length xs ≡ 0 → xs ≡ []
no_length [] e = refl
no_length (x ∷ xs) e = absurd (omega (arith, e))

own_moves : (s : Setting) (number : List ℕ → ℕ) (next : ℕ) (all : List (List ℕ)) (d : Fuel) (q0 : Seed) (j0 : ℕ) (q : Seed) (places : ℕ) (ks more : Tasks) (hs r : Tree) (past : List Act)
    → Careful s → places ≡ 1 + get_or q0.spare j0 0 → Shows s number d q0 (suc j0) more r → Shows s number (less d q.type) q 0 ks hs
    → (mind : Mind) (left : List Next) (todo : List Act) (l : Local) (over : Bool) (xs : List Item) (closed : Bool) → AllTyped q.type xs
    → (todo ≡ does Join ∷ [] → all_over hs ≡ true → all_paths hs ≡ [])
    → Stage s (less d q.type) mind left ks q past todo l over hs → Own s number next all d q0 j0 q places ks more hs r past mind left todo l over xs closed
own_moves s number next all d q0 j0 q places ks more hs r past law pl sm kids mind left todo l over xs closed ty free st = by st
  where
    -- a node with columns: it puts the next one, or it takes what is next
    on_columns : (m : Mind) (x : Local) (types : List Ty) (j : ℕ) (p : List ℕ) (ps : List ChunkData) (ws : List Writer) → Hands mind left past todo l over hs m x types j p ps ws
        → Going s number next all d q0 j0 q places ks more hs r past law pl sm kids m x types → ((u v : ℕ) → local_rows x u ≡ local_rows x v) → Own s number next all d q0 j0 q places ks more hs r past m [] [] x false xs closed
        → Own s number next all d q0 j0 q places ks more hs r past mind left todo l over xs closed
    on_columns m x types j p ps ws w going own idle = carried (λ m f a l o. Own s number next all d q0 j0 q places ks more hs r past m f a l o xs closed) w.mind_is w.left_is w.rest w.local_is w.on
        (go ps ws w.behind w.split w.typed w.same)
      where
        go : (ps : List ChunkData) (ws : List Writer) (behind : List Ty) → types ≡ w.before ++ behind → EachTyped behind ps → length ws ≡ length ps
            → Own s number next all d q0 j0 q places ks more hs r past m (puts j p ps) (filled [] (column_puts j p ps ws)) x false xs closed
        go [] ws behind sp tps same =
            subst (λ z. Own s number next all d q0 j0 q places ks more hs r past m [] (filled [] (column_puts j p [] z)) x false xs closed) (sym (no_length ws same)) idle
        go (c ∷ ps) [] behind sp tps same = absurd (omega (arith, same))
        go (c ∷ ps) (y ∷ ws) [] sp tps same = absurd tps
        go (c ∷ ps) (y ∷ ws) (t ∷ ts) sp tps same =
            put_own s number next all d q0 j0 q places ks more hs r past law pl sm kids m x types going own j p c ps y ws w.before t ts w.kids sp w.place tps.0 tps.1
            (let z : length ws ≡ length ps = omega (arith, same) in z) w.unshaped xs closed ty

    -- one without children
    childless : ks ≡ no_tasks → (m : Mind) (f : List Next) (a : List Act) (x : Local) (o : Bool)
        → ((z : Tasks) (y : Tree) → Own s number next all d q0 j0 q places z more y r past m f a x o xs closed → Own s number next all d q0 j0 q places z more y r past mind left todo l over xs closed)
        → Own s number next all d q0 j0 q places no_tasks more Leaf r past m f a x o xs closed → Own s number next all d q0 j0 q places ks more hs r past mind left todo l over xs closed
    childless nk m f a x o carry own =
        subst (λ z. Own s number next all d q0 j0 q places z more hs r past mind left todo l over xs closed) (sym nk)
        (subst (λ y. Own s number next all d q0 j0 q places no_tasks more y r past mind left todo l over xs closed) (sym (no_tree s number (less d q.type) q 0 ks hs nk kids)) (carry no_tasks Leaf own))

    by : Stage s (less d q.type) mind left ks q past todo l over hs → Own s number next all d q0 j0 q places ks more hs r past mind left todo l over xs closed
    by (waits_first o t nk w) = carried (λ m f a l o. Own s number next all d q0 j0 q places ks more hs r past m f a l o xs closed) w.mind_is w.idle w.rest w.local_is w.on
        (first_own s number next all d q0 j0 q places ks more hs r past law pl sm kids o t nk w.unshaped xs closed ty)
    by (waits_end o t i bytes nk w) = carried (λ m f a l o. Own s number next all d q0 j0 q places ks more hs r past m f a l o xs closed) w.mind_is w.idle w.rest w.local_is w.on
        (one_own s number next all d q0 j0 q places ks more hs r past law pl sm kids o t i bytes nk w.unshaped xs closed ty)
    by (appends x nk w) = carried (λ m f a z o. Own s number next all d q0 j0 q places ks more hs r past m f a z o xs closed) w.mind_is w.left_is w.rest refl w.off
        (append_own s number next all d q0 j0 q places ks more hs r past law pl sm kids x l nk w.shape_is xs closed ty)
    by (splits n e nm t sp b en u w) = carried (λ m f a l o. Own s number next all d q0 j0 q places ks more hs r past m f a l o xs closed) w.mind_is w.idle w.rest w.local_is w.on
        (chunks_own s number next all d q0 j0 q places ks more hs r past law pl sm kids n e nm t sp b en u w.unshaped xs closed ty)
    by (gathers_all t u w) = carried (λ m f a z o. Own s number next all d q0 j0 q places ks more hs r past m f a z o xs closed) w.mind_is w.left_is w.rest refl w.off
        (gather_own s number next all d q0 j0 q places ks more hs r past law pl sm kids t l w.shape_is (free w.rest) xs closed ty)
    by (hands n rows j p ps ws t v w) =
        on_columns (by_column (struct n.fields n.nullable) rows) (struct_local n rows) (column_types n.fields n.nullable) j p ps ws w
        (struct_going s number next all d q0 j0 q places ks more hs r past law pl sm kids n rows t v) (λ u v. refl)
        (columns_own s number next all d q0 j0 q places ks more hs r past law pl sm kids n rows t w.kids v w.unshaped xs closed ty)
    by (hands_lists n first from rows j p ps ws t v w) =
        on_columns (by_list n.elements n.nullable first from rows) (list_local n first from rows) (list_types n.elements n.nullable) j p ps ws w
        (lists_going s number next all d q0 j0 q places ks more hs r past law pl sm kids n first from rows t v) (λ u v. refl)
        (lists_own s number next all d q0 j0 q places ks more hs r past law pl sm kids n first from rows t w.kids v w.unshaped xs closed ty)
    by (shuts t rows c w) = carried (λ m f a z o. Own s number next all d q0 j0 q places ks more hs r past m f a z o xs closed) w.mind_is w.left_is w.rest refl w.off
        (shut_own s number next all d q0 j0 q places ks more hs r past law pl sm kids t rows l c w.shape_is xs closed ty)
    by (joins_columns t rows c w) = carried (λ m f a z o. Own s number next all d q0 j0 q places ks more hs r past m f a z o xs closed) w.mind_is w.left_is w.rest refl w.off
        (join_own s number next all d q0 j0 q places ks more hs r past law pl sm kids t rows l c w.shape_is (free w.rest) xs closed ty)
    by (regroups_rows o n x j rows outs tj nh w) = carried (λ m f a l o. Own s number next all d q0 j0 q places ks more hs r past m f a l o xs closed) w.mind_is w.left_is w.rest w.local_is w.on
        (blocks_own s number next all d q0 j0 q places ks more hs r past law pl sm kids o n x j rows outs tj nh w.type_is w.kids w.typed w.unshaped xs closed ty)
    by (regroups_chunks size n x j rows outs tx tj nh w) = carried (λ m f a l o. Own s number next all d q0 j0 q places ks more hs r past m f a l o xs closed) w.mind_is w.left_is w.rest w.local_is w.on
        (buffer_own s number next all d q0 j0 q places ks more hs r past law pl sm kids size n x j rows outs tx tj nh w.type_is w.kids w.typed w.unshaped xs closed ty)
    by (collects n x rows w) = carried (λ m f a l o. Own s number next all d q0 j0 q places ks more hs r past m f a l o xs closed) w.mind_is w.left_is w.rest w.local_is w.on
        (collect_own s number next all d q0 j0 q places ks more hs r past law pl sm kids n x rows w.type_is w.kids w.unshaped xs closed ty)
    by (presses n t i ti w) = carried (λ m f a l o. Own s number next all d q0 j0 q places ks more hs r past m f a l o xs closed) w.mind_is w.left_is w.rest w.local_is w.on
        (press_own s number next all d q0 j0 q places ks more hs r past law pl sm kids n t i ti w.type_is w.kids w.unshaped xs closed ty)
    by (pressed n t outs w) = carried (λ m f a l o. Own s number next all d q0 j0 q places ks more hs r past m f a l o xs closed) w.mind_is w.left_is w.rest w.local_is w.on
        (pressed_own s number next all d q0 j0 q places ks more hs r past law pl sm kids n t outs w.type_is w.kids w.typed w.unshaped xs closed ty)
    by (lets_out n t outs w) = carried (λ m f a l o. Own s number next all d q0 j0 q places ks more hs r past m f a l o xs closed) w.mind_is w.left_is w.rest w.local_is w.on
        (out_own s number next all d q0 j0 q places ks more hs r past law pl sm kids n t outs w.type_is w.kids w.typed w.unshaped xs closed ty)
    by (asks_first n k nk w) =
        childless nk (by_probe (coder_of n) n.eof) [] [] (dict_local n) false (λ z y. carried (λ m f a l o. Own s number next all d q0 j0 q places z more y r past m f a l o xs closed) w.mind_is w.idle w.rest w.local_is w.on)
        (asks_own s number next all d q0 j0 q places more r past law pl sm n k w.unshaped xs closed ty)
    by (probes n i k nk w) =
        childless nk asking (probe (coder_of n) n.eof i ∷ []) (filled (kept (dict_turn s n i).after) (dict_turn s n i).more) (dict_turn s n i).after false (λ z y. carried (λ m f a l o. Own s number next all d q0 j0 q places z more y r past m f a l o xs closed) w.mind_is w.left_is w.rest w.local_is w.on)
        (probes_own s number next all d q0 j0 q places more r past law pl sm n k i w.typed w.counted w.unshaped xs closed ty)
    by (falls_back t outs w) = carried (λ m f a l o. Own s number next all d q0 j0 q places ks more hs r past m f a l o xs closed) w.mind_is w.left_is w.rest w.local_is w.on
        (back_own s number next all d q0 j0 q places ks more hs r past law pl sm kids t outs w.type_is w.kids w.typed w.unshaped xs closed ty)
    by (cuts n so_far i rows c ds k u w) = carried (λ m f a l o. Own s number next all d q0 j0 q places ks more hs r past m f a l o xs closed) w.mind_is w.left_is w.rest w.local_is w.on
        (cuts_own s number next all d q0 j0 q places ks more hs r past law pl sm kids n k so_far i rows c ds u w.typed w.kids w.going w.cutting w.unshaped xs closed ty)
    by (last_cuts n rows ns c ds k u sum is go w) = carried (λ m f a z o. Own s number next all d q0 j0 q places ks more hs r past m f a z o xs closed) w.mind_is w.left_is w.rest refl w.off
        (last_own s number next all d q0 j0 q places ks more hs r past law pl sm kids n k rows ns c ds l u sum is go w.shape_is (λ e. free (w.rest ∙ e)) xs closed ty)
    by (passes_on t weight outs one to w) = carried (λ m f a z o. Own s number next all d q0 j0 q places ks more hs r past m f a z o xs closed) w.mind_is w.left_is w.rest refl w.off
        (passes_own s number next all d q0 j0 q places ks more hs r past law pl sm kids t weight outs l one to w.shape_is xs closed ty)
    by (passed t one w) = carried (λ m f a z o. Own s number next all d q0 j0 q places ks more hs r past m f a z o xs closed) w.mind_is w.left_is w.rest refl w.off (nothing_own xs)
      where
        nothing_own : (xs : List Item) → Own s number next all d q0 j0 q places ks more hs r past passing [] [] l true xs closed
        nothing_own [] = tt
        nothing_own (x ∷ xs) = tt
    by (records_zones n z outs iz one rw to w) = carried (λ m f a l o. Own s number next all d q0 j0 q places ks more hs r past m f a l o xs closed) w.mind_is w.left_is w.rest w.local_is w.on
        (zones_own s number next all d q0 j0 q places ks more hs r past law pl sm kids n z outs iz one rw to w.unshaped xs closed ty)
    by (closes_zones n z table iz one w) = carried (λ m f a z o. Own s number next all d q0 j0 q places ks more hs r past m f a z o xs closed) w.mind_is w.left_is w.rest refl w.off
        (close_data s number next all d q0 j0 q places ks more hs r past law pl sm kids n z table l iz one w.shape_is xs closed ty)
    by (joins_data n z table iz one w) = carried (λ m f a z o. Own s number next all d q0 j0 q places ks more hs r past m f a z o xs closed) w.mind_is w.left_is w.rest refl w.off
        (join_data s number next all d q0 j0 q places ks more hs r past law pl sm kids n z table l iz one w.shape_is xs closed ty)
    by (joins_zones n rows cs both w) = carried (λ m f a z o. Own s number next all d q0 j0 q places ks more hs r past m f a z o xs closed) w.mind_is w.left_is w.rest refl w.off
        (lay_own s number next all d q0 j0 q places ks more hs r past law pl sm kids n rows cs l both w.shape_is (free w.rest) xs closed ty)

-- ---- a task whose children have moved

hands_on : (mind : Mind) (left : List Next) (past todo : List Act) (l : Local) (over : Bool) (hs ts : Tree) (m : Mind) (x : Local) (types : List Ty) (j : ℕ) (p : List ℕ) (xs : List ChunkData) (ws : List Writer)
    → types_of ts ≡ types_of hs → Hands mind left past todo l over hs m x types j p xs ws → Hands mind left past todo l over ts m x types j p xs ws
hands_on mind left past todo l over hs ts m x types j p xs ws e w = record {
  mind_is = w.mind_is;
  local_is = w.local_is;
  left_is = w.left_is;
  rest = w.rest;
  on = w.on;
  unshaped = w.unshaped;
  kids = e ∙ w.kids;
  before = w.before;
  behind = w.behind;
  split = w.split;
  place = w.place;
  typed = w.typed;
  same = w.same;
}

groups_on : (mind : Mind) (left : List Next) (q : Seed) (past todo : List Act) (l : Local) (over : Bool) (hs ts : Tree) (m : Mind) (x : Local) (t : Ty) (weight : ChunkData → ℕ) (keep : List (List ℕ)) (outs : List Item)
    → types_of ts ≡ types_of hs → Groups mind left q past todo l over hs m x t weight keep outs → Groups mind left q past todo l over ts m x t weight keep outs
groups_on mind left q past todo l over hs ts m x t weight keep outs e w = record {
  mind_is = w.mind_is;
  local_is = w.local_is;
  left_is = w.left_is;
  rest = w.rest;
  on = w.on;
  unshaped = w.unshaped;
  type_is = w.type_is;
  kids = e ∙ w.kids;
  typed = w.typed;
}

calls_on : (mind : Mind) (left : List Next) (q : Seed) (past todo : List Act) (l : Local) (over : Bool) (hs ts : Tree) (m : Mind) (f : List Next) (acts : List Act) (x : Local) (t : Ty)
    → types_of ts ≡ types_of hs → Calls mind left q past todo l over hs m f acts x t → Calls mind left q past todo l over ts m f acts x t
calls_on mind left q past todo l over hs ts m f acts x t e w = record {
  mind_is = w.mind_is;
  local_is = w.local_is;
  left_is = w.left_is;
  rest = w.rest;
  on = w.on;
  unshaped = w.unshaped;
  type_is = w.type_is;
  kids = e ∙ w.kids;
}

stage_on : (s : Setting) (d : Fuel) (mind : Mind) (left : List Next) (ks kids : Tasks) (q : Seed) (past todo : List Act) (l : Local) (over : Bool) (hs ts : Tree)
    → Steady ks kids hs ts → Stage s d mind left ks q past todo l over hs → Stage s d mind left kids q past todo l over ts
stage_on s d mind left ks kids q past todo l over hs ts st (waits_first o t k w) = waits_first o t (none_counted kids (st.count_is ∙ ap count k)) w
stage_on s d mind left ks kids q past todo l over hs ts st (waits_end o t x b k w) = waits_end o t x b (none_counted kids (st.count_is ∙ ap count k)) w
stage_on s d mind left ks kids q past todo l over hs ts st (appends x k w) = appends x (none_counted kids (st.count_is ∙ ap count k)) w
stage_on s d mind left ks kids q past todo l over hs ts st (splits n e nm t sp b en u w) = splits n e nm t sp b en (subst (Counted past) (sym st.rows_are) u) (record {
  mind_is = w.mind_is ∙ ap (by_chunk n.mark n.type n.child e) (sym st.rows_are);
  local_is = w.local_is ∙ ap (λ z. chunked_local n z e (rows_of hs)) (sym st.count_is) ∙ ap (chunked_local n (count kids) e) (sym st.rows_are);
  idle = w.idle;
  rest = w.rest;
  on = w.on;
  unshaped = w.unshaped;
})
stage_on s d mind left ks kids q past todo l over hs ts st (gathers_all t u w) = gathers_all t (subst (Counted past) (sym st.rows_are) u) (record {
  mind_is = w.mind_is;
  left_is = w.left_is;
  rest = w.rest;
  off = w.off;
  shape_is = w.shape_is ∙ ap (λ z. Some (gathers t z)) (sym st.rows_are);
})
stage_on s d mind left ks kids q past todo l over hs ts st (hands n rows j p xs ws t v w) =
    hands n rows j p xs ws t v (hands_on mind left past todo l over hs ts (by_column (struct n.fields n.nullable) rows) (struct_local n rows) (column_types n.fields n.nullable) j p xs ws st.types_are w)
stage_on s d mind left ks kids q past todo l over hs ts st (hands_lists n first from rows j p xs ws t v w) =
    hands_lists n first from rows j p xs ws t v
    (hands_on mind left past todo l over hs ts (by_list n.elements n.nullable first from rows) (list_local n first from rows) (list_types n.elements n.nullable) j p xs ws st.types_are w)
stage_on s d mind left ks kids q past todo l over hs ts st (shuts t rows c w) = shuts t rows (c ∙ sym st.count_is) (record {
  mind_is = w.mind_is;
  left_is = w.left_is;
  rest = w.rest ∙ ap (λ z. close_queues (numbers 0 z) ∷ does Join ∷ []) (sym st.count_is);
  off = w.off;
  shape_is = w.shape_is;
})
stage_on s d mind left ks kids q past todo l over hs ts st (joins_columns t rows c w) = joins_columns t rows (c ∙ sym st.count_is) w
stage_on s d mind left ks kids q past todo l over hs ts st (regroups_rows o n x j rows outs tj nh w) =
    regroups_rows o n x j rows outs tj nh
    (groups_on mind left q past todo l over hs ts (by_block (block_len o n.type) o.minimum n.type x j rows) (blocks_local o n x j rows) n.type (λ p. 0) (group_kept j) outs st.types_are w)
stage_on s d mind left ks kids q past todo l over hs ts st (regroups_chunks size n x j rows outs tx tj nh w) =
    regroups_chunks size n x j rows outs tx tj nh (groups_on mind left q past todo l over hs ts (by_size size x j rows) (bytes_local size n x j rows) n.type held (group_kept j) outs st.types_are w)
stage_on s d mind left ks kids q past todo l over hs ts st (collects n x rows w) =
    collects n x rows (groups_on mind left q past todo l over hs ts (as_one n.type x rows) (collect_local n x rows) n.type (λ p. 0) (collect_kept x) [] st.types_are w)
stage_on s d mind left ks kids q past todo l over hs ts st (presses n t i ti w) =
    presses n t i ti
    (calls_on mind left q past todo l over hs ts (by_image n.which) (press n.which i ∷ []) (filled [] (does (Free Call) ∷ put_item 0 (i.0, s.image n.which i.1) ∷ [])) (compressed_local n) t st.types_are w)
stage_on s d mind left ks kids q past todo l over hs ts st (pressed n t outs w) =
    pressed n t outs (groups_on mind left q past todo l over hs ts (by_image n.which) (compressed_local n) t (λ p. 0) [] outs st.types_are w)
stage_on s d mind left ks kids q past todo l over hs ts st (lets_out n t outs w) =
    lets_out n t outs (groups_on mind left q past todo l over hs ts as_is (outlet_local n) t (λ p. 0) [] outs st.types_are w)
stage_on s d mind left ks kids q past todo l over hs ts st (asks_first n k nk w) = asks_first n k (none_counted kids (st.count_is ∙ ap count nk)) w
stage_on s d mind left ks kids q past todo l over hs ts st (probes n i k nk w) = probes n i k (none_counted kids (st.count_is ∙ ap count nk)) w
stage_on s d mind left ks kids q past todo l over hs ts st (falls_back t outs w) =
    falls_back t outs (groups_on mind left q past todo l over hs ts as_is fallback_local t (λ p. 0) [] outs st.types_are w)
stage_on s d mind left ks kids q past todo l over hs ts st (cuts n r i rows c ds k u w) = cuts n r i rows c ds k u (record {
  mind_is = w.mind_is;
  local_is = w.local_is;
  left_is = w.left_is;
  rest = w.rest;
  on = w.on;
  unshaped = w.unshaped;
  typed = w.typed;
  kids = st.types_are ∙ w.kids;
  going = w.going;
  cutting = w.cutting;
})
stage_on s d mind left ks kids q past todo l over hs ts st (last_cuts n rows ns c ds k u sum is go w) = last_cuts n rows ns c ds k u sum (st.types_are ∙ is) go w
stage_on s d mind left ks kids q past todo l over hs ts st (passes_on t weight outs one to w) = passes_on t weight outs (st.types_are ∙ one) to w
stage_on s d mind left ks kids q past todo l over hs ts st (passed t one w) = passed t (st.types_are ∙ one) w
stage_on s d mind left ks kids q past todo l over hs ts st (records_zones n z outs iz one rw to w) = records_zones n z outs iz (st.types_are ∙ one) (rw ∙ ap (λ v. row_total outs + v) (sym st.rows_are)) to w
stage_on s d mind left ks kids q past todo l over hs ts st (closes_zones n z table iz one w) = closes_zones n z table iz (st.types_are ∙ one) w
stage_on s d mind left ks kids q past todo l over hs ts st (joins_data n z table iz one w) = joins_data n z table iz (st.types_are ∙ one) w
stage_on s d mind left ks kids q past todo l over hs ts st (joins_zones n rows cs both w) = joins_zones n rows cs (st.types_are ∙ both) w

-- ---- all

none_left : {A B : Type 0} (P : A → B → Type 0) (xs : List A) (ys : List B) → xs ≡ [] → ys ≡ [] → AllPairs P xs ys
none_left P xs ys e f = subst (λ z. AllPairs P z ys) (sym e) (subst (AllPairs P []) (sym f) tt)

module _ (s : Setting) (number : List ℕ → ℕ) (next : ℕ) (all : List (List ℕ)) (law : Careful s) where
  own_pairs : (d : Fuel) (q : Seed) (j : ℕ) (c : Desk) (ks more : Tasks) (h : Head) (hs r : Tree) → JoinsFree s (Work h hs r) → Alike q j c h
      → Stage s (less d h.seed.type) c.mind c.todo ks h.seed h.past h.todo h.local h.over hs → Shows s number (less d h.seed.type) h.seed 0 ks hs → Shows s number d q (suc j) more r
      → AllPairs (SameStep s number next d q j (task_then c ks more) (Work h hs r)) (cond (may_act all c ks c.todo) (own_step c more (do_act s next c ks c.todo) ∷ []) []) (move_own all d h hs r (due s h))
  own_pairs d q j c ks more h hs r jf al st kids sm =
      subst (λ (z : Desk). AllPairs (SameStep s number next d q j (task_then z ks more) (Work h hs r)) (cond (may_act all z ks z.todo) (own_step z more (do_act s next z ks z.todo) ∷ []) []) (move_own all d h hs r (due s h)))
      (sym same_desk)
      (own_moves s number next all d q j h.seed c.places ks more hs r h.past law al.places sm kids c.mind c.todo h.todo h.local h.over h.inbox h.closed al.typed
      (λ e o. jf.0 (doing h (does Join) [] h.local h.over h.inbox) (ap (due_todo s h) e) refl o) st)
    where
      same_desk : c ≡ desk s number next all d q j h.seed c.places ks more hs r h.past c.mind c.todo h.inbox h.closed
      same_desk =
          ap (λ z. let k : Desk = record { name = z; mind = c.mind; todo = c.todo; inbox = c.inbox; places = c.places; closed = c.closed } in k) al.name
          ∙ ap (λ z. let k : Desk = record { name = h.seed.name; mind = c.mind; todo = c.todo; inbox = z; places = c.places; closed = c.closed } in k) al.inbox
          ∙ ap (λ z. let k : Desk = record { name = h.seed.name; mind = c.mind; todo = c.todo; inbox = h.inbox; places = c.places; closed = z } in k) al.closed

  -- a child's step
  from_kid : (d : Fuel) (q : Seed) (j : ℕ) (c : Desk) (ks more : Tasks) (h : Head) (hs r : Tree) → Alike q j c h
      → Stage s (less d h.seed.type) c.mind c.todo ks h.seed h.past h.todo h.local h.over hs → Shows s number d q (suc j) more r
      → (w : Step) (m : TreeMove) → SameStep s number next (less d h.seed.type) h.seed 0 ks hs w m
      → SameStep s number next d q j (task_then c ks more) (Work h hs r) (in_kids c more w) (abstract.in_kids h r m)
  from_kid d q j c ks more h hs r al st sm w m x = record {
    name = x.name;
    kind = x.kind;
    refusal = x.refusal;
    misfit = x.misfit;
    numbers = x.numbers;
    indices = x.indices;
    wrote = x.wrote;
    raises = x.raises;
    lowers = x.lowers;
    after = λ f n. let y : Shows s number (less d h.seed.type) h.seed 0 w.after m.after × Steady ks w.after hs m.after = x.after f n in (
      (al, inl (stage_on s (less d h.seed.type) c.mind c.todo ks w.after h.seed h.past h.todo h.local h.over hs m.after y.1 st, y.0), sm),
      record { count_is = refl; rows_are = ap (λ z. (task_rows h.over h.local h.past (row_total (gifts 0 h.todo) + z) + row_total h.inbox) + rows_of r) y.1.rows_are; types_are = refl },
    );
  }

  -- a later sibling's
  from_rest : (d : Fuel) (q : Seed) (j : ℕ) (c : Desk) (ks more : Tasks) (h : Head) (hs r : Tree) → Alike q j c h
      → (Stage s (less d h.seed.type) c.mind c.todo ks h.seed h.past h.todo h.local h.over hs × Shows s number (less d h.seed.type) h.seed 0 ks hs)
      ⊎ Done number c.mind c.todo ks h.past h.todo h.over hs
      → (w : Step) (m : TreeMove) → SameStep s number next d q (suc j) more r w m
      → SameStep s number next d q j (task_then c ks more) (Work h hs r) (in_rest c ks w) (abstract.in_rest h hs m)
  from_rest d q j c ks more h hs r al st w m x = record {
    name = x.name;
    kind = x.kind;
    refusal = x.refusal;
    misfit = x.misfit;
    numbers = x.numbers;
    indices = x.indices;
    wrote = x.wrote;
    raises = x.raises;
    lowers = x.lowers;
    after = λ f n. let y : Shows s number d q (suc j) w.after m.after × Steady more w.after r m.after = x.after f n in (
      (al, st, y.0),
      record {
        count_is = ap suc y.1.count_is;
        rows_are = ap (λ z. (task_rows h.over h.local h.past (row_total (gifts 0 h.todo) + rows_of hs) + row_total h.inbox) + z) y.1.rows_are;
        types_are = ap (λ z. h.seed.type ∷ z) y.1.types_are;
      },
    );
  }

  show_all : (d : Fuel) (q : Seed) (j : ℕ) (cs : Tasks) (t : Tree) → Shows s number d q j cs t → JoinsFree s t
      → AllPairs (SameStep s number next d q j cs t) (steps s all next cs) (tree_moves s all d t)
  show_all d q j no_tasks Leaf w jf = tt
  show_all d q j no_tasks (Work h hs r) w jf = absurd w
  show_all d q j (task_then c ks more) Leaf w jf = absurd w
  show_all d q j (task_then c ks more) (Work h hs r) w jf =
      by w.1 (λ k. show_all (less d h.seed.type) h.seed 0 ks hs k jf.1) (show_all d q (suc j) more r w.2 jf.2)
    where
      by : (Stage s (less d h.seed.type) c.mind c.todo ks h.seed h.past h.todo h.local h.over hs × Shows s number (less d h.seed.type) h.seed 0 ks hs)
          ⊎ Done number c.mind c.todo ks h.past h.todo h.over hs
          → (Shows s number (less d h.seed.type) h.seed 0 ks hs → AllPairs (SameStep s number next (less d h.seed.type) h.seed 0 ks hs) (steps s all next ks) (tree_moves s all (less d h.seed.type) hs))
          → AllPairs (SameStep s number next d q (suc j) more r) (steps s all next more) (tree_moves s all d r)
          → AllPairs (SameStep s number next d q j (task_then c ks more) (Work h hs r)) (steps s all next (task_then c ks more)) (tree_moves s all d (Work h hs r))
      by (inl (st, k)) below beside =
          pairs_append (SameStep s number next d q j (task_then c ks more) (Work h hs r))
          (cond (may_act all c ks c.todo) (own_step c more (do_act s next c ks c.todo) ∷ []) [] ++ map (in_kids c more) (steps s all next ks)) (map (in_rest c ks) (steps s all next more))
          (move_own all d h hs r (due s h) ++ map (abstract.in_kids h r) (tree_moves s all (less d h.seed.type) hs)) (map (abstract.in_rest h hs) (tree_moves s all d r))
          (pairs_append (SameStep s number next d q j (task_then c ks more) (Work h hs r))
          (cond (may_act all c ks c.todo) (own_step c more (do_act s next c ks c.todo) ∷ []) []) (map (in_kids c more) (steps s all next ks))
          (move_own all d h hs r (due s h)) (map (abstract.in_kids h r) (tree_moves s all (less d h.seed.type) hs))
          (own_pairs d q j c ks more h hs r jf w.0 st k w.2)
          (pairs_map (SameStep s number next (less d h.seed.type) h.seed 0 ks hs) (SameStep s number next d q j (task_then c ks more) (Work h hs r)) (in_kids c more) (abstract.in_kids h r)
          (from_kid d q j c ks more h hs r w.0 st w.2) (steps s all next ks) (tree_moves s all (less d h.seed.type) hs) (below k)))
          (pairs_map (SameStep s number next d q (suc j) more r) (SameStep s number next d q j (task_then c ks more) (Work h hs r)) (in_rest c ks) (abstract.in_rest h hs)
          (from_rest d q j c ks more h hs r w.0 (inl (st, k))) (steps s all next more) (tree_moves s all d r) beside)
      by (inr e) below beside =
          pairs_append (SameStep s number next d q j (task_then c ks more) (Work h hs r))
          (cond (may_act all c ks c.todo) (own_step c more (do_act s next c ks c.todo) ∷ []) [] ++ map (in_kids c more) (steps s all next ks)) (map (in_rest c ks) (steps s all next more))
          (move_own all d h hs r (due s h) ++ map (abstract.in_kids h r) (tree_moves s all (less d h.seed.type) hs)) (map (abstract.in_rest h hs) (tree_moves s all d r))
          (none_left (SameStep s number next d q j (task_then c ks more) (Work h hs r))
          (cond (may_act all c ks c.todo) (own_step c more (do_act s next c ks c.todo) ∷ []) [] ++ map (in_kids c more) (steps s all next ks))
          (move_own all d h hs r (due s h) ++ map (abstract.in_kids h r) (tree_moves s all (less d h.seed.type) hs))
          (ap (λ z. cond z (own_step c more (do_act s next c ks c.todo) ∷ []) [] ++ map (in_kids c more) (steps s all next ks)) not_now
          ∙ ap (λ z. map (in_kids c more) (steps s all next z)) e.no_kids)
          (ap (λ z. move_own all d h hs r z ++ map (abstract.in_kids h r) (tree_moves s all (less d h.seed.type) hs)) (over_due s h (ap is_nil e.rest) e.off)
          ∙ ap (map (abstract.in_kids h r)) (over_idle s all (less d h.seed.type) hs e.below)))
          (pairs_map (SameStep s number next d q (suc j) more r) (SameStep s number next d q j (task_then c ks more) (Work h hs r)) (in_rest c ks) (abstract.in_rest h hs)
          (from_rest d q j c ks more h hs r w.0 (inr e)) (steps s all next more) (tree_moves s all d r) beside)
        where
          taken_none : (xs : List Item) (b : Bool) → may_take c.mind xs b ≡ false
          taken_none [] b = ap (λ z. not (is_over z) && b) e.mind_is
          taken_none (x ∷ xs) b = ap (λ z. not (is_over z)) e.mind_is

          not_now : may_act all c ks c.todo ≡ false
          not_now = ap (may_act all c ks) e.idle ∙ taken_none c.inbox c.closed

pub steps_show : StepsShow
steps_show s number next all d q j cs t law w jf = show_all s number next all law d q j cs t w jf
