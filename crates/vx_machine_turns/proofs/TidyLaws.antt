-- Each script is tidy.
use Rattle.std.proofs.Common.{◌≡◌, ℕ, zero, suc, ◌+◌, ◌≤◌, ◌<◌, ◌||◌, nat_eq, Bool, true, false, List, [], ◌∷◌, ◌++◌, length, Option, Some, None, refl, sym, ap, ◌∙◌, subst, arith}
use Rattle.std.specs.Prelude.{if◌then◌else◌}
use Rattle.std.proofs.lemmas.Bool.{true≢false}
use Rattle.std.proofs.lemmas.Bool.Decides.{nat_tests}
use Rattle.vx_model.specs.Words.{tail}
use Rattle.vx_model.specs.CellData.{CellData}
use Rattle.vx_model.specs.ValueData.{ValueData}
use Rattle.vx_model.specs.ChunkData.{ChunkData, row_values}
use Rattle.vx_model.specs.Ty.{Ty}
use Rattle.vx_path.specs.Path.{Eof, under, next}
use Rattle.vx_rules.specs.Regroup.{ranked}
use Rattle.vx_rules.specs.Columns.{struct_columns, list_columns, head_piece}
use Rattle.vx_zone_spec.specs.Record.{zone_record}
use Rattle.vx_zone_spec.specs.ZoneTable.{Filled, kept_columns}
use Rattle.vx_tasks.specs.Task.{has}
use Rattle.vx_tasks.specs.Task.Kind.{TakeEnd, Join}
use Rattle.vx_tasks.specs.Nodes.{numbers}
use Rattle.vx_strategy_spec.specs.StrategyData.{FlatOptions, by_blocks, by_bytes, into_one}
use Rattle.vx_plan.specs.PlanData.{Setting, Item, rows_in}
use Rattle.vx_plan.specs.ColumnNodes.{elements_in}
use Rattle.vx_plan.specs.DictNode.{is_dictionary}
use Rattle.vx_plan.specs.FlatNode.{segment}
use Rattle.vx_machine_turns.specs.Forms.{Form, flat_form, chunked_form, grouped_form, compressed_form, dict_form, zoned_form, no_struct_form, struct_form, list_form, Writer}
use Rattle.vx_named_tasks.specs.Names.{Outset}
use Rattle.vx_machine_turns.specs.Locals.{Local, ChunkedNode, StructNode, ListNode, GroupedNode, CompressedNode, DictNode, ZonedNode, RunsSoFar, flat_empty, flat_full, flat_many, chunked_local, struct_local, list_local, blocks_local, bytes_local, collect_local, compressed_local, outlet_local, dict_local, fallback_local, runs_local, zoned_local, idle_local, source_local, outside_local}
use Rattle.vx_machine_turns.specs.Acts.{Act, does, put_all, close_queues, for_child, gifts, shut}
use Rattle.vx_machine_turns.specs.Flat.{flat_append}
use Rattle.vx_machine_turns.specs.Columns.{column_seeds, column_puts, column_ends}
use Rattle.vx_machine_turns.specs.Grouped.{Grouper, block_grouper, byte_grouper, weighed_puts, group_turn, group_end, group_ends}
use Rattle.vx_machine_turns.specs.Collected.{collected_so_far, collect_rest}
use Rattle.vx_machine_turns.specs.Zoned.{zone_columns, zoned_end, zoned_ends}
use Rattle.vx_machine_turns.specs.Dict.{Stretch, codes_put, values_put, ended_puts, cut_puts, base_after, next_cut, after_cut, last_stretches, runs_kept, runs_first, fallback_first}
use Rattle.vx_machine_turns.specs.Turns.{turn, kept}
use Rattle.vx_machine_turns.specs.Starts.{struct_columns_of, list_columns_of}
use Rattle.vx_machine_turns.specs.Scripts.{script, block_of, last_block, filled, as_kind, with_holds, all_uses}
use Rattle.vx_machine_turns.specs.Tidy.{Tidy, ScriptsAreTidy, FirstsAreStarted}
use Rattle.vx_machine_turns.proofs.DutyLaws.{top}
use Rattle.vx_machine_turns.proofs.ChunkedLaws as chunks
use Rattle.vx_machine_turns.proofs.DictLaws.{base_grows, cut, close, cut_passes, close_passes, early}

-- ---- one action in front of others

open_after : (a : Act) (acts : List Act) → a.shuts ≡ [] → (i : ℕ) → has i a.shuts ≡ true → gifts i acts ≡ []
open_after a acts e i h = absurd (true≢false (sym h ∙ ap (λ z. has i z) e))

none_more : (k : ℕ) (a : Act) (acts : List Act) → length a.starts ≡ 0 → Tidy k acts → Tidy (length a.starts + k) acts
none_more k a acts n t = let e : k ≡ length a.starts + k = omega (arith, n) in subst (λ z. Tidy z acts) e t

not_same : (c j k : ℕ) → c < k → k ≤ j → nat_eq c j ≡ false
not_same c j k l m = grind (arith, nat_tests)

is_same : (c j : ℕ) → nat_eq c j ≡ true → c ≡ j
is_same c j q = grind (arith, nat_tests)

equal_below : (j k : ℕ) → nat_eq j k ≡ true → k < suc j
equal_below j k q = grind (arith, nat_tests)

no_number : (k b c : ℕ) → b + c ≤ k → has k (numbers b c) ≡ false
no_number k b zero l = refl
no_number k b (suc c) l = let z : nat_eq b k ≡ false = not_same b k (suc b) (omega arith) (omega (arith, l)) in rw z (no_number k (suc b) c (omega (arith, l)))

still_act : (k : ℕ) (a : Act) (acts : List Act) → a.gives ≡ [] → a.shuts ≡ [] → length a.starts ≡ 0 → Tidy k acts → Tidy k (a ∷ acts)
still_act k a acts g c n t = ((λ i l. (ap (λ z. for_child i z) g, ap (λ z. has i z) c)), open_after a acts c, none_more k a acts n t)

put_act : (k c : ℕ) (i : Item) (a : Act) (acts : List Act) → a.gives ≡ (c, i) ∷ [] → a.shuts ≡ [] → length a.starts ≡ 0 → c < k → Tidy k acts → Tidy k (a ∷ acts)
put_act k c i a acts g d n l t = (
  (λ j m. let q : k ≤ j = omega (arith, n, m) in let z : nat_eq c j ≡ false = not_same c j k l q in (ap (λ y. for_child j y) g ∙ rw z refl, ap (λ y. has j y) d)),
  open_after a acts d,
  none_more k a acts n t,
)

-- the closing of child 0's queue, in front of actions that give it nothing
close_act : (k : ℕ) (a : Act) (acts : List Act) → a.gives ≡ [] → a.shuts ≡ 0 ∷ [] → length a.starts ≡ 0 → 0 < k → gifts 0 acts ≡ [] → Tidy k acts → Tidy k (a ∷ acts)
close_act k a acts g c n l none t = (
  (λ j m. let q : k ≤ j = omega (arith, n, m) in let z : nat_eq 0 j ≡ false = not_same 0 j k l q in (ap (λ y. for_child j y) g, ap (λ y. has j y) c ∙ rw z refl)),
  (λ j h. at j (nat_eq 0 j) refl (sym (ap (λ y. has j y) c) ∙ h)),
  none_more k a acts n t,
)
  where
    at : (j : ℕ) (b : Bool) → nat_eq 0 j ≡ b → (b || false) ≡ true → gifts j acts ≡ []
    at j true q h = let e : 0 ≡ j = is_same 0 j q in subst (λ z. gifts z acts ≡ []) e none
    at j false q h = absurd (true≢false (sym h))

starts_act : (a : Act) (acts : List Act) → a.gives ≡ [] → a.shuts ≡ [] → length a.starts ≡ 1 → Tidy 1 acts → Tidy 0 (a ∷ acts)
starts_act a acts g c l t = ((λ i m. (ap (λ z. for_child i z) g, ap (λ z. has i z) c)), open_after a acts c, (let e : 1 ≡ length a.starts + 0 = omega (arith, l) in subst (λ z. Tidy z acts) e t))

-- ---- the same of a list that has a first action

-- its first action does nothing to a child
pub still : (k : ℕ) (xs : List Act) → xs ≡ top xs ∷ tail xs → (top xs).gives ≡ [] → (top xs).shuts ≡ [] → length (top xs).starts ≡ 0 → Tidy k (tail xs) → Tidy k xs
still k xs e g c n t = subst (λ z. Tidy k z) (sym e) (still_act k (top xs) (tail xs) g c n t)

-- or gives child c something
pub put : (k c : ℕ) (i : Item) (xs : List Act) → xs ≡ top xs ∷ tail xs → (top xs).gives ≡ (c, i) ∷ [] → (top xs).shuts ≡ [] → length (top xs).starts ≡ 0 → c < k → Tidy k (tail xs) → Tidy k xs
put k c i xs e g d n l t = subst (λ z. Tidy k z) (sym e) (put_act k c i (top xs) (tail xs) g d n l t)

-- or closes the only child's queue
pub shuts : (k : ℕ) (xs : List Act) → xs ≡ top xs ∷ tail xs → (top xs).gives ≡ [] → (top xs).shuts ≡ 0 ∷ [] → length (top xs).starts ≡ 0 → 0 < k → gifts 0 (tail xs) ≡ [] → Tidy k (tail xs) → Tidy k xs
shuts k xs e g c n l none t = subst (λ z. Tidy k z) (sym e) (close_act k (top xs) (tail xs) g c n l none t)

-- or starts the first child
starts : (xs : List Act) → xs ≡ top xs ∷ tail xs → (top xs).gives ≡ [] → (top xs).shuts ≡ [] → length (top xs).starts ≡ 1 → Tidy 1 (tail xs) → Tidy 0 xs
starts xs e g c l t = subst (λ z. Tidy 0 z) (sym e) (starts_act (top xs) (tail xs) g c l t)

-- ---- flat

flat_append_tidy : (i : Item) (b : Option (List ℕ)) → Tidy 0 (filled [] (flat_append i b))
flat_append_tidy i None = tt
flat_append_tidy i (Some bytes) = still 0 (filled [] (flat_append i (Some bytes))) refl refl refl refl tt

module _ (s : Setting) where
  many_tidy : (items : List Item) (ended : Bool) → Tidy 0 (script s flat_many items ended)
  many_tidy [] true = still 0 (script s flat_many [] true) refl refl refl refl tt
  many_tidy [] false = tt
  many_tidy (i ∷ is) ended = still 0 (script s flat_many (i ∷ is) ended) refl refl refl refl (many_tidy is ended)

  full_tidy : (o : FlatOptions) (t : Ty) (j : Item) (b : Option (List ℕ)) (items : List Item) (ended : Bool) → Tidy 0 (script s (flat_full o t j b) items ended)
  full_tidy o t j b [] true = still 0 (script s (flat_full o t j b) [] true) refl refl refl refl (flat_append_tidy j b)
  full_tidy o t j b [] false = tt
  full_tidy o t j b (i ∷ is) ended = still 0 (script s (flat_full o t j b) (i ∷ is) ended) refl refl refl refl (many_tidy is ended)

  empty_tidy : (o : FlatOptions) (t : Ty) (items : List Item) (ended : Bool) → Tidy 0 (script s (flat_empty o t) items ended)
  empty_tidy o t [] true = still 0 (script s (flat_empty o t) [] true) refl refl refl refl tt
  empty_tidy o t [] false = tt
  empty_tidy o t (i ∷ is) ended = still 0 (script s (flat_empty o t) (i ∷ is) ended) refl refl refl refl (full_tidy o t i (segment s o i) is ended)

  -- ---- a task that does nothing with its items

  idle_tidy : (items : List Item) (ended : Bool) → Tidy 0 (script s idle_local items ended)
  idle_tidy [] true = still 0 (script s idle_local [] true) refl refl refl refl tt
  idle_tidy [] false = tt
  idle_tidy (i ∷ is) ended = still 0 (script s idle_local (i ∷ is) ended) refl refl refl refl (idle_tidy is ended)

  source_tidy : (f : Form) (m : Bool) (o : Outset) (items : List Item) (ended : Bool) → Tidy 1 (script s (source_local f m o) items ended)
  source_tidy f m o [] true = still 1 (script s (source_local f m o) [] true) refl refl refl refl tt
  source_tidy f m o [] false = tt
  source_tidy f m o (i ∷ is) ended = still 1 (script s (source_local f m o) (i ∷ is) ended) refl refl refl refl (source_tidy f m o is ended)

  outside_tidy : (items : List Item) (ended : Bool) → Tidy 1 (script s outside_local items ended)
  outside_tidy [] true = still 1 (script s outside_local [] true) refl refl refl refl tt
  outside_tidy [] false = tt
  outside_tidy (i ∷ is) ended = still 1 (script s outside_local (i ∷ is) ended) refl refl refl refl (outside_tidy is ended)

  -- ---- chunked

  chunked_tidy : (n : ChunkedNode) (j : ℕ) (e : Eof) (rows : ℕ) (items : List Item) (ended : Bool) → Tidy j (script s (chunked_local n j e rows) items ended)
  chunked_tidy n j e rows [] true = still j (script s (chunked_local n j e rows) [] true) refl refl refl refl (still j (tail (script s (chunked_local n j e rows) [] true)) refl refl refl refl tt)
  chunked_tidy n j e rows [] false = tt
  chunked_tidy n j e rows (i ∷ is) ended =
      let q : suc j ≡ 1 + j = omega arith in (
        (λ k m. let z : nat_eq j k ≡ false = not_same j k (suc j) (omega arith) (omega (arith, m)) in (rw z refl, rw z refl)),
        (λ k h. only k (nat_eq j k) refl h),
        subst (λ z. Tidy z (script s (chunked_local n (suc j) (next e) (rows + rows_in i.1)) is ended)) q (chunked_tidy n (suc j) (next e) (rows + rows_in i.1) is ended),
      )
    where
      only : (k : ℕ) (b : Bool) → nat_eq j k ≡ b → (b || false) ≡ true → gifts k (script s (chunked_local n (suc j) (next e) (rows + rows_in i.1)) is ended) ≡ []
      only k true q h = (chunks.early s n (suc j) (next e) (rows + rows_in i.1) is ended k (equal_below j k q)).0
      only k false q h = absurd (true≢false (sym h))

  -- ---- columns

  column_puts_tidy : (keep : List (List ℕ)) (c : ℕ) (p : List ℕ) (ps : List ChunkData) (ws : List Writer) (k : ℕ) (rest : List Act) → c + length ws ≤ k → Tidy k rest → Tidy k (filled keep (column_puts c p ps ws) ++ rest)
  column_puts_tidy keep c p ps [] k rest l t = t
  column_puts_tidy keep c p ps (w ∷ ws) k rest l t =
      put k c (under p c, head_piece ps) (filled keep (column_puts c p ps (w ∷ ws)) ++ rest) refl refl refl refl (omega (arith, l)) (column_puts_tidy keep (suc c) p (tail ps) ws k rest (omega (arith, l)) t)

  column_ends_tidy : (ws : List Writer) → Tidy (length ws) (filled [] (column_ends ws))
  column_ends_tidy [] = tt
  column_ends_tidy (w ∷ ws) = (
    (λ k m. (refl, no_number k 0 (length (w ∷ ws)) (omega (arith, m)))),
    (λ k h. refl),
    none_more (length (w ∷ ws)) (top (filled [] (column_ends (w ∷ ws)))) (tail (filled [] (column_ends (w ∷ ws)))) refl (still (length (w ∷ ws)) (tail (filled [] (column_ends (w ∷ ws)))) refl refl refl refl tt),
  )

  struct_tidy : (n : StructNode) (rows : ℕ) (items : List Item) (ended : Bool) → Tidy (length n.writers) (script s (struct_local n rows) items ended)
  struct_tidy n rows [] true = still (length n.writers) (script s (struct_local n rows) [] true) refl refl refl refl (column_ends_tidy n.writers)
  struct_tidy n rows [] false = tt
  struct_tidy n rows (i ∷ is) ended = still (length n.writers) (script s (struct_local n rows) (i ∷ is) ended) refl refl refl refl
      (column_puts_tidy [] 0 i.0 (struct_columns n.fields n.nullable i.1) n.writers (length n.writers) (script s (struct_local n (rows + rows_in i.1)) is ended) (omega arith) (struct_tidy n (rows + rows_in i.1) is ended))

  list_tidy : (n : ListNode) (first : Bool) (from rows : ℕ) (items : List Item) (ended : Bool) → Tidy (length n.writers) (script s (list_local n first from rows) items ended)
  list_tidy n true from rows [] true = still (length n.writers) (script s (list_local n true from rows) [] true) refl refl refl refl tt
  list_tidy n false from rows [] true = still (length n.writers) (script s (list_local n false from rows) [] true) refl refl refl refl (column_ends_tidy n.writers)
  list_tidy n first from rows [] false = tt
  list_tidy n first from rows (i ∷ is) ended =
      let rest : List Act = script s (list_local n false (from + elements_in i.1) (rows + rows_in i.1)) is ended in
      still (length n.writers) (script s (list_local n first from rows) (i ∷ is) ended) refl refl refl refl
      (column_puts_tidy [] 0 i.0 (list_columns n.elements n.nullable first from i.1) n.writers (length n.writers) rest (omega arith) (list_tidy n false (from + elements_in i.1) (rows + rows_in i.1) is ended))

  -- ---- one child

  weighed_tidy : (w : ChunkData → ℕ) (keep : List (List ℕ)) (xs : List Item) (rest : List Act) → Tidy 1 rest → Tidy 1 (filled keep (weighed_puts w xs) ++ rest)
  weighed_tidy w keep [] rest t = t
  weighed_tidy w keep (x ∷ xs) rest t = put 1 0 x (filled keep (weighed_puts w (x ∷ xs)) ++ rest) refl refl refl refl (omega arith) (weighed_tidy w keep xs rest t)

  weighed_end_tidy : (w : ChunkData → ℕ) (xs : List Item) → Tidy 1 (filled [] (weighed_puts w xs ++ (close_queues (0 ∷ []) ∷ [])))
  weighed_end_tidy w [] = shuts 1 (filled [] (close_queues (0 ∷ []) ∷ [])) refl refl refl refl (omega arith) refl tt
  weighed_end_tidy w (x ∷ xs) = put 1 0 x (filled [] (weighed_puts w (x ∷ xs) ++ (close_queues (0 ∷ []) ∷ []))) refl refl refl refl (omega arith) (weighed_end_tidy w xs)

  all_end_tidy : (xs : List Item) → Tidy 1 (filled [] (put_all xs ++ (close_queues (0 ∷ []) ∷ [])))
  all_end_tidy [] = shuts 1 (filled [] (close_queues (0 ∷ []) ∷ [])) refl refl refl refl (omega arith) refl tt
  all_end_tidy (x ∷ xs) = put 1 0 x (filled [] (put_all (x ∷ xs) ++ (close_queues (0 ∷ []) ∷ []))) refl refl refl refl (omega arith) (all_end_tidy xs)

  module _ (S : Type 0) (g : Grouper S) (l : S → Option Item → ℕ → Local)
      (turns : (x : S) (j : Option Item) (rows : ℕ) (i : Item) → turn s (l x j rows) i ≡ group_turn g l x j rows i)
      (ends : (x : S) (j : Option Item) (rows : ℕ) → last_block s (l x j rows) ≡ filled [] (as_kind TakeEnd (group_end g x j) ∷ group_ends g x j)) where
    group_block : (x : S) (j : Option Item) (rows : ℕ) (i : Item) (rest : List Act) → Tidy 1 rest → Tidy 1 (block_of (group_turn g l x j rows i) ++ rest)
    group_block x None rows i rest t = still 1 (block_of (group_turn g l x None rows i) ++ rest) refl refl refl refl t
    group_block x (Some j) rows i rest t =
        still 1 (block_of (group_turn g l x (Some j) rows i) ++ rest) refl refl refl refl
        (weighed_tidy g.weight (kept (l (g.rule.holds x j.1) (Some i) (rows + rows_in i.1))) (ranked j.0 0 (g.rule.leaves x j.1)) rest t)

    group_last : (x : S) (j : Option Item) → Tidy 1 (filled [] (as_kind TakeEnd (group_end g x j) ∷ group_ends g x j))
    group_last x None = still 1 (filled [] (as_kind TakeEnd (group_end g x None) ∷ group_ends g x None)) refl refl refl refl (weighed_end_tidy g.weight [])
    group_last x (Some j) = still 1 (filled [] (as_kind TakeEnd (group_end g x (Some j)) ∷ group_ends g x (Some j))) refl refl refl refl (weighed_end_tidy g.weight (ranked j.0 0 (g.rule.rest x j.1)))

    group_tidy : (items : List Item) (x : S) (j : Option Item) (rows : ℕ) (ended : Bool) → Tidy 1 (script s (l x j rows) items ended)
    group_tidy [] x j rows true = subst (λ z. Tidy 1 z) (sym (ends x j rows)) (group_last x j)
    group_tidy [] x j rows false = tt
    group_tidy (i ∷ is) x None rows ended = subst (λ u. Tidy 1 (block_of u ++ script s u.after is ended)) (sym (turns x None rows i))
        (group_block x None rows i (script s (l x (Some i) (rows + rows_in i.1)) is ended) (group_tidy is x (Some i) (rows + rows_in i.1) ended))
    group_tidy (i ∷ is) x (Some j) rows ended = subst (λ u. Tidy 1 (block_of u ++ script s u.after is ended)) (sym (turns x (Some j) rows i))
        (group_block x (Some j) rows i (script s (l (g.rule.holds x j.1) (Some i) (rows + rows_in i.1)) is ended) (group_tidy is (g.rule.holds x j.1) (Some i) (rows + rows_in i.1) ended))

  collect_tidy : (n : GroupedNode) (items : List Item) (x : Option (List ℕ × List ChunkData)) (rows : ℕ) (ended : Bool) → Tidy 1 (script s (collect_local n x rows) items ended)
  collect_tidy n [] x rows true = still 1 (script s (collect_local n x rows) [] true) refl refl refl refl (all_end_tidy (collect_rest n.type x))
  collect_tidy n [] x rows false = tt
  collect_tidy n (i ∷ is) x rows ended = still 1 (script s (collect_local n x rows) (i ∷ is) ended) refl refl refl refl (collect_tidy n is (Some (i.0, collected_so_far x ++ (i.1 ∷ []))) (rows + rows_in i.1) ended)

  compressed_tidy : (n : CompressedNode) (items : List Item) (ended : Bool) → Tidy 1 (script s (compressed_local n) items ended)
  compressed_tidy n [] true = still 1 (script s (compressed_local n) [] true) refl refl refl refl (shuts 1 (tail (script s (compressed_local n) [] true)) refl refl refl refl (omega arith) refl tt)
  compressed_tidy n [] false = tt
  compressed_tidy n (i ∷ is) ended =
      let xs : List Act = script s (compressed_local n) (i ∷ is) ended in
      still 1 xs refl refl refl refl (still 1 (tail xs) refl refl refl refl (put 1 0 (i.0, s.image n.which i.1) (tail (tail xs)) refl refl refl refl (omega arith) (compressed_tidy n is ended)))

  outlet_tidy : (n : CompressedNode) (items : List Item) (ended : Bool) → Tidy 1 (script s (outlet_local n) items ended)
  outlet_tidy n [] true = still 1 (script s (outlet_local n) [] true) refl refl refl refl (shuts 1 (tail (script s (outlet_local n) [] true)) refl refl refl refl (omega arith) refl tt)
  outlet_tidy n [] false = tt
  outlet_tidy n (i ∷ is) ended =
      let xs : List Act = script s (outlet_local n) (i ∷ is) ended in still 1 xs refl refl refl refl (put 1 0 i (tail xs) refl refl refl refl (omega arith) (outlet_tidy n is ended))

  fallback_tidy : (items : List Item) (ended : Bool) → Tidy 1 (script s fallback_local items ended)
  fallback_tidy [] true = still 1 (script s fallback_local [] true) refl refl refl refl (shuts 1 (tail (script s fallback_local [] true)) refl refl refl refl (omega arith) refl tt)
  fallback_tidy [] false = tt
  fallback_tidy (i ∷ is) ended =
      let xs : List Act = script s fallback_local (i ∷ is) ended in still 1 xs refl refl refl refl (put 1 0 i (tail xs) refl refl refl refl (omega arith) (fallback_tidy is ended))

  -- ---- zoned

  zoned_last : (n : ZonedNode) (zones rows : ℕ) (table : Option (List Filled)) → Tidy 1 (filled [] (as_kind TakeEnd (zoned_end n zones rows table) ∷ zoned_ends s n zones table))
  zoned_last n zones rows None =
      let xs : List Act = filled [] (as_kind TakeEnd (zoned_end n zones rows None) ∷ zoned_ends s n zones None) in
      still 1 xs refl refl refl refl (shuts 1 (tail xs) refl refl refl refl (omega arith) refl (still 1 (tail (tail xs)) refl refl refl refl tt))
  zoned_last n zones rows (Some cs) =
      let xs : List Act = filled [] (as_kind TakeEnd (zoned_end n zones rows (Some cs)) ∷ zoned_ends s n zones (Some cs)) in
      still 1 xs refl refl refl refl (shuts 1 (tail xs) refl refl refl refl (omega arith) refl (
        (λ j m. let z : nat_eq 1 j ≡ false = not_same 1 j 2 (omega arith) m in (rw z refl, rw z refl)),
        (λ j h. refl),
        still 2 (tail (tail (tail xs))) refl refl refl refl tt,
      ))

  zoned_tidy : (n : ZonedNode) (records : List (List ValueData)) (last zones rows : ℕ) (items : List Item) (ended : Bool) → Tidy 1 (script s (zoned_local n records last zones rows) items ended)
  zoned_tidy n records last zones rows [] true = zoned_last n zones rows (kept_columns (zone_columns n) records)
  zoned_tidy n records last zones rows [] false = tt
  zoned_tidy n records last zones rows (i ∷ is) ended =
      let after : List (List ValueData) = records ++ (zone_record s.hash n.type (row_values i.1) (zone_columns n) ∷ []) in
      let xs : List Act = script s (zoned_local n records last zones rows) (i ∷ is) ended in
      still 1 xs refl refl refl refl (put 1 0 i (tail xs) refl refl refl refl (omega arith) (zoned_tidy n after (rows_in i.1) (suc zones) (rows + rows_in i.1) is ended))

  -- ---- dictionaries

  -- the children that are started, where the run with this first child has begun or not
  abbrev kids : Bool → ℕ → ℕ
  kids begun base = if begun then 2 + base else base

  codes_tidy : (n : DictNode) (keep : List (List ℕ)) (p : List ℕ) (rank base : ℕ) (e : Eof) (begun : Bool) (codes : List ℕ) (rest : List Act) → Tidy (2 + base) rest → Tidy (kids begun base) (with_holds keep (codes_put s n p rank base e begun codes) ∷ rest)
  codes_tidy n keep p rank base e true codes rest t = (
    (λ j m. let z : nat_eq base j ≡ false = not_same base j (2 + base) (omega arith) (omega (arith, m)) in (rw z refl, refl)),
    (λ j h. absurd (true≢false (sym h))),
    none_more (2 + base) (with_holds keep (codes_put s n p rank base e true codes)) rest refl t,
  )
  codes_tidy n keep p rank base e false codes rest t = (
    (λ j m. let z : nat_eq base j ≡ false = not_same base j (2 + base) (omega arith) (omega (arith, m)) in (rw z refl, refl)),
    (λ j h. absurd (true≢false (sym h))),
    t,
  )

  values_tidy : (n : DictNode) (keep : List (List ℕ)) (p : List ℕ) (rank base : ℕ) (distinct : List CellData) (rest : List Act) → ((k : ℕ) → k < suc (suc base) → gifts k rest ≡ []) → Tidy (suc (suc base)) rest
      → Tidy (2 + base) (with_holds keep (values_put n p rank base distinct) ∷ rest)
  values_tidy n keep p rank base distinct rest none t = (
    (λ j m. let y : nat_eq base j ≡ false = not_same base j (2 + base) (omega arith) (omega (arith, m)) in let z : nat_eq (suc base) j ≡ false = not_same (suc base) j (2 + base) (omega arith) (omega (arith, m)) in (rw z refl, rw (y, z) refl)),
    (λ j h. none j (two j (nat_eq base j) (nat_eq (suc base) j) refl refl h)),
    (let e : suc (suc base) ≡ 0 + (2 + base) = omega arith in subst (λ z. Tidy z rest) e t),
  )
    where
      two : (j : ℕ) (a b : Bool) → nat_eq base j ≡ a → nat_eq (suc base) j ≡ b → (a || (b || false)) ≡ true → j < suc (suc base)
      two j true b q r h = let z : j < suc base = equal_below base j q in omega (arith, z)
      two j false true q r h = equal_below (suc base) j r
      two j false false q r h = absurd (true≢false (sym h))

  cut_tidy : (n : DictNode) (keep : List (List ℕ)) (p : List ℕ) (rank base : ℕ) (e : Eof) (begun : Bool) (xs : List Stretch) (codes : List ℕ) (rest : List Act)
      → ((k : ℕ) → k < base_after base xs → (gifts k rest ≡ []) × (shut k rest ≡ false)) → Tidy (2 + base_after base xs) rest → Tidy (kids begun base) (cut s n keep p rank base e begun xs codes rest)
  cut_tidy n keep p rank base e begun [] codes rest h t = codes_tidy n keep p rank base e begun codes rest t
  cut_tidy n keep p rank base e begun (x ∷ xs) codes rest h t =
      let acts : List Act = cut_puts s n p rank base e begun (x ∷ xs) codes in
      let all : List Act = cut s n keep p rank base e begun (x ∷ xs) codes rest in
      let deeper : List Act = cut s n keep p (rank + 2) (suc (suc base)) (next (next e)) false xs codes rest in
      let grows : suc (suc base) ≤ base_after (suc (suc base)) xs = base_grows (suc (suc base)) xs in
      codes_tidy n (all_uses (tail acts) ++ keep) p rank base e begun x.0 (tail all) (values_tidy n (all_uses (tail (tail acts)) ++ keep) p (suc rank) base x.1 deeper
      (λ k l. (cut_passes s n keep p (rank + 2) (suc (suc base)) (next (next e)) false xs codes rest k l).0 ∙ (h k (omega (arith, l, grows))).0)
      (cut_tidy n keep p (rank + 2) (suc (suc base)) (next (next e)) false xs codes rest h t))

  close_tidy : (n : DictNode) (p : List ℕ) (rank base : ℕ) (e : Eof) (begun : Bool) (xs : List Stretch) → Tidy (kids begun base) (close s n p rank base e begun xs)
  close_tidy n p rank base e begun [] = still (kids begun base) (close s n p rank base e begun []) refl refl refl refl tt
  close_tidy n p rank base e begun (x ∷ xs) =
      let acts : List Act = ended_puts s n p rank base e begun (x ∷ xs) ++ (does Join ∷ []) in
      codes_tidy n (all_uses (tail acts) ++ []) p rank base e begun x.0 (tail (close s n p rank base e begun (x ∷ xs))) (values_tidy n (all_uses (tail (tail acts)) ++ []) p (suc rank) base x.1 (close s n p (rank + 2) (suc (suc base)) (next (next e)) false xs)
      (λ k l. (close_passes s n p (rank + 2) (suc (suc base)) (next (next e)) false xs k l).0) (close_tidy n p (rank + 2) (suc (suc base)) (next (next e)) false xs))

  runs_tidy : (n : DictNode) (r : RunsSoFar) (j : Item) (rows : ℕ) (items : List Item) (ended : Bool) → Tidy (kids r.begun r.base) (script s (runs_local n r j rows) items ended)
  runs_tidy n r j rows [] true = still (kids r.begun r.base) (script s (runs_local n r j rows) [] true) refl refl refl refl (close_tidy n j.0 0 r.base r.eof r.begun (last_stretches n r j))
  runs_tidy n r j rows [] false = tt
  runs_tidy n r j rows (i ∷ is) ended =
      let rest : List Act = script s (runs_local n (after_cut n r j) i (rows + rows_in i.1)) is ended in
      still (kids r.begun r.base) (script s (runs_local n r j rows) (i ∷ is) ended) refl refl refl refl
      (cut_tidy n (runs_kept (after_cut n r j) i) j.0 0 r.base r.eof r.begun (next_cut n r j).closed (next_cut n r j).codes rest
      (λ k l. early s n (after_cut n r j) i (rows + rows_in i.1) is ended k l) (runs_tidy n (after_cut n r j) i (rows + rows_in i.1) is ended))

  dict_tidy : (n : DictNode) (items : List Item) (ended : Bool) → Tidy 0 (script s (dict_local n) items ended)
  dict_tidy n [] true = starts (script s (dict_local n) [] true) refl refl refl refl (shuts 1 (tail (script s (dict_local n) [] true)) refl refl refl refl (omega arith) refl tt)
  dict_tidy n [] false = tt
  dict_tidy n (i ∷ is) ended = go (is_dictionary (s.image n.options.probe i.1))
    where
      cutting : Tidy 0 (block_of (runs_first n i) ++ script s (runs_first n i).after is ended)
      cutting =
          let xs : List Act = block_of (runs_first n i) ++ script s (runs_first n i).after is ended in
          still 0 xs refl refl refl refl (still 0 (tail xs) refl refl refl refl (runs_tidy n (record { base = 0; eof = n.eof; begun = false; distinct = []; rows = 0; ended = [] }) i (0 + rows_in i.1) is ended))

      falling : Tidy 0 (block_of (fallback_first s n i) ++ script s fallback_local is ended)
      falling =
          let xs : List Act = block_of (fallback_first s n i) ++ script s fallback_local is ended in
          still 0 xs refl refl refl refl (starts (tail xs) refl refl refl refl (put 1 0 i (tail (tail xs)) refl refl refl refl (omega arith) (fallback_tidy is ended)))

      go : (b : Bool) → Tidy 0 (block_of (if b then runs_first n i else fallback_first s n i) ++ script s (if b then runs_first n i else fallback_first s n i).after is ended)
      go true = cutting
      go false = falling

pub scripts_are_tidy : ScriptsAreTidy
scripts_are_tidy s (flat_empty o t) items ended = empty_tidy s o t items ended
scripts_are_tidy s (flat_full o t j b) items ended = full_tidy s o t j b items ended
scripts_are_tidy s flat_many items ended = many_tidy s items ended
scripts_are_tidy s (chunked_local n j e rows) items ended = chunked_tidy s n j e rows items ended
scripts_are_tidy s (struct_local n rows) items ended = struct_tidy s n rows items ended
scripts_are_tidy s (list_local n first from rows) items ended = list_tidy s n first from rows items ended
scripts_are_tidy s (blocks_local o n x j rows) items ended = group_tidy s (List CellData) (block_grouper o n.type) (blocks_local o n) (λ x j rows i. refl) (λ x j rows. refl) items x j rows ended
scripts_are_tidy s (bytes_local size n x j rows) items ended = group_tidy s (List ChunkData) (byte_grouper size) (bytes_local size n) (λ x j rows i. refl) (λ x j rows. refl) items x j rows ended
scripts_are_tidy s (collect_local n x rows) items ended = collect_tidy s n items x rows ended
scripts_are_tidy s (compressed_local n) items ended = compressed_tidy s n items ended
scripts_are_tidy s (outlet_local n) items ended = outlet_tidy s n items ended
scripts_are_tidy s (dict_local n) items ended = dict_tidy s n items ended
scripts_are_tidy s fallback_local items ended = fallback_tidy s items ended
scripts_are_tidy s (runs_local n r j rows) items ended = runs_tidy s n r j rows items ended
scripts_are_tidy s (zoned_local n records last zones rows) items ended = zoned_tidy s n records last zones rows items ended
scripts_are_tidy s idle_local items ended = idle_tidy s items ended
scripts_are_tidy s (source_local f m o) items ended = source_tidy s f m o items ended
scripts_are_tidy s outside_local items ended = outside_tidy s items ended

columns_count : (name : List ℕ) (c : ℕ) (ws : List Writer) (e : Eof) → length (column_seeds name c ws e) ≡ length ws
columns_count name c [] e = refl
columns_count name c (w ∷ ws) e = ap (λ z. suc z) (columns_count name (suc c) ws (next e))

pub firsts_are_started : FirstsAreStarted
firsts_are_started (flat_form o t) m name e = refl
firsts_are_started (chunked_form t k) m name e = refl
firsts_are_started (grouped_form (by_blocks o) t k) m name e = refl
firsts_are_started (grouped_form (by_bytes size) t k) m name e = refl
firsts_are_started (grouped_form into_one t k) m name e = refl
firsts_are_started (compressed_form which room t k) m name e = refl
firsts_are_started (dict_form o t c v f) m name e = refl
firsts_are_started (zoned_form o t k stats) true name e = firsts_are_started k true name e
firsts_are_started (zoned_form o t k stats) false name e = refl
firsts_are_started (no_struct_form t) m name e = refl
firsts_are_started (struct_form fs n (Some a) v ks) m name e = refl
firsts_are_started (struct_form fs n None v ks) m name e = columns_count name 0 (struct_columns_of n m v ks) e
firsts_are_started (list_form t n es os v) m name e = columns_count name 0 (list_columns_of n m es os v) e
