-- What tasks have reserved in the tracker, step by step.
use Rattle.std.proofs.Common.{◌≡◌, ◌+◌, ◌&&◌, ◌||◌, ◌==◌, ◌⊎◌, ◌∷◌, ◌++◌, ◌∙◌, ℕ, zero, suc, Bool, true, false, cond, List, map, length, refl, sym, ap, subst, inl, inr, arith, append-nil, Option, Some, None, []}
use Rattle.std.specs.Prelude.{if◌then◌else◌, nat_le}
use Rattle.vx_model.specs.Words.{total_by}
use Rattle.vx_model.specs.Ty.{Ty, list, struct}
use Rattle.vx_model.specs.ChunkData.{ChunkData, held}
use Rattle.vx_path.specs.Lists.{In}
use Rattle.vx_path.proofs.Lists.{in_cases, from_map}
use Rattle.vx_path.specs.Path.{Eof, under, inside, next, root_eof}
use Rattle.vx_rules.specs.Blocks.{block_len}
use Rattle.vx_rules.specs.Flushes.{flushed, still_held, is_full, flushes}
use Rattle.vx_rules.specs.Regroup.{ranked}
use Rattle.vx_rules.specs.Columns.{list_columns}
use Rattle.vx_strategy_spec.specs.StrategyData.{by_blocks, by_bytes, into_one}
use Rattle.vx_plan.specs.PlanData.{Setting, Item}
use Rattle.vx_plan.specs.FlatNode.{segment, inlined}
use Rattle.vx_plan.specs.DictNode.{is_dictionary}
use Rattle.vx_tasks.specs.Task.{Kind, Free, TakeEnd}
use Rattle.vx_tasks.specs.Task.Prompt.{Call}
use Rattle.vx_tasks.specs.Runs.{first_batch}
use Rattle.vx_named_tasks.specs.Names.{Names, onward, Outset, root_outset}
use Rattle.vx_machine_turns.specs.Forms.{Form, Forms, flat_form, chunked_form, grouped_form, compressed_form, dict_form, zoned_form, no_struct_form, struct_form, list_form, no_forms, form_then}
use Rattle.vx_machine_turns.specs.Grouped.{block_grouper}
use Rattle.vx_machine_turns.specs.Collected.{collect_rest}
use Rattle.vx_zone_spec.specs.ZoneTable.{Filled, kept_columns}
use Rattle.vx_machine_turns.specs.Locals.{ZonedNode, Local}
use Rattle.vx_machine_turns.specs.Acts.{Seed, Act}
use Rattle.vx_machine_turns.specs.Source.{seed_at, source_seed}
use Rattle.vx_machine_turns.specs.Fuels.{Fuel, less}
use Rattle.vx_machine_steps.specs.Tree.{Tree, Leaf, Work}
use Rattle.vx_machine_promises.specs.Write.{Answer, unasked, came, over}
use Rattle.vx_machine_state.specs.Zoned.{Zoner, Zones, table_item}
use Rattle.vx_machine_view.specs.Zoning.{zoner_of, put_each, zones_mind, zones_left}
use Rattle.vx_machine_state.specs.State.{Fold, fold_runs, Next, put, hand_on, press, probe, open_run, end_run, append, shut_kids, join_kids, start_table, leave_kid, Mind, no_chunk, one_chunk, by_chunk, by_column, by_list, by_block, by_size, as_one, by_image, as_is, by_probe, asking, by_run, by_zone, ending, passing, made, Desk, Tasks, no_tasks, task_then}
use Rattle.vx_machine_state.specs.Coder.{Coder, coder_of}
use Rattle.vx_machine_state.specs.Coding.{Deed, puts_codes, puts_values, run_rows, deeds_at, last_deeds, deed_nexts}
use Rattle.vx_machine_state.specs.Start.{first_mind, first_kids, field_tasks, started_task}
use Rattle.vx_machine_state.specs.Acts.{count, add, give, shut_at, end_at, fall_back, probed, run_tasks, shut_all, Did, column_count, columns_in, puts, stored, of_length, hand_all, take_chunk, end_columns, end_lists, end_zones, take_end, do_take, do_act}
use Rattle.vx_machine_state.specs.Moves.{is_empty, all_made, Step, may_act, own_step, in_kids, in_rest, steps}
use Rattle.vx_machine_state.specs.Done.{no_more, is_alone, has_layout, is_done}
use Rattle.vx_machine_view.specs.Machine.{Phase, reading, giving, closing, finished, has_closed, WholeStep, may_source, source_step, in_root}
use Rattle.vx_machine_view.specs.Shows.{NoneHeld, Stage, waits_first, waits_end, appends, splits, gathers_all, hands, hands_lists, shuts, joins_columns, regroups_rows, regroups_chunks, collects, presses, pressed, lets_out, asks_first, probes, falls_back, cuts, last_cuts, passes_on, passed, records_zones, closes_zones, joins_data, joins_zones, Done, Shows, types_of}
use Rattle.vx_machine_view.specs.Whole.{form_of, root_depth}
use Rattle.vx_machine_state.specs.Reserved.{next_reserved, mind_reserved, reserved_by}
use Rattle.vx_machine_view.specs.Reserved.{StepsReserve, StartReservesAt, WholeReservesAt, FinishReserves}
use Rattle.vx_machine_view.proofs.Words.{and_left, and_right}
use Rattle.vx_machine_view.proofs.Feeding.{count_types}
use Rattle.vx_machine_view.proofs.Joining.{Passed, stage_made}

-- ---- lists of tasks

give_reserved : (j : ℕ) (i : Item) (cs : Tasks) → reserved_by (give j i cs) ≡ reserved_by cs
give_reserved j i no_tasks = refl
give_reserved zero i (task_then c ks r) = refl
give_reserved (suc j) i (task_then c ks r) = ap (λ z. ((next_reserved c.todo + mind_reserved c.mind) + reserved_by ks) + z) (give_reserved j i r)

shut_reserved : (cs : Tasks) → reserved_by (shut_all cs) ≡ reserved_by cs
shut_reserved no_tasks = refl
shut_reserved (task_then c ks r) = ap (λ z. ((next_reserved c.todo + mind_reserved c.mind) + reserved_by ks) + z) (shut_reserved r)

add_reserved : (cs new : Tasks) → reserved_by (add cs new) ≡ reserved_by cs + reserved_by new
add_reserved no_tasks new = let e : reserved_by new ≡ 0 + reserved_by new = omega arith in e
add_reserved (task_then c ks r) new =
    let h : reserved_by (add r new) ≡ reserved_by r + reserved_by new = add_reserved r new in
    let own : ℕ = (next_reserved c.todo + mind_reserved c.mind) + reserved_by ks in
    let e : own + reserved_by (add r new) ≡ (own + reserved_by r) + reserved_by new = omega (arith, h) in e

shut_at_reserved : (j : ℕ) (cs : Tasks) → reserved_by (shut_at j cs) ≡ reserved_by cs
shut_at_reserved j no_tasks = refl
shut_at_reserved zero (task_then c ks r) = refl
shut_at_reserved (suc j) (task_then c ks r) = ap (λ z. ((next_reserved c.todo + mind_reserved c.mind) + reserved_by ks) + z) (shut_at_reserved j r)

end_at_reserved : (j : ℕ) (i : Item) (cs : Tasks) → reserved_by (end_at j i cs) ≡ reserved_by cs
end_at_reserved j i cs = shut_at_reserved (suc j) (give (suc j) i (shut_at j cs)) ∙ give_reserved (suc j) i (shut_at j cs) ∙ shut_at_reserved j cs

-- ---- what is left to do

-- codes and values that are to be put have reserved nothing
deeds_reserved : (n : Coder) (ds : List Deed) (more : List Next) → next_reserved (deed_nexts n ds ++ more) ≡ next_reserved more
deeds_reserved n [] more = refl
deeds_reserved n (puts_codes j e true i ∷ ds) more = deeds_reserved n ds more
deeds_reserved n (puts_codes j e false i ∷ ds) more = deeds_reserved n ds more
deeds_reserved n (puts_values j i ∷ ds) more = deeds_reserved n ds more

puts_reserved : (j : ℕ) (p : List ℕ) (xs : List ChunkData) → next_reserved (puts j p xs) ≡ 0
puts_reserved j p [] = refl
puts_reserved j p (x ∷ xs) = puts_reserved (suc j) p xs

hands_reserved : (weight : ChunkData → ℕ) (p : List ℕ) (k : ℕ) (ps : List ChunkData) → next_reserved (hand_all weight (ranked p k ps)) ≡ total_by weight ps
hands_reserved weight p k [] = refl
hands_reserved weight p k (c ∷ ps) = ap (λ z. weight c + z) (hands_reserved weight p (suc k) ps)

ends_reserved : (weight : ChunkData → ℕ) (outs : List Item) → next_reserved (hand_all weight outs ++ (shut_kids ∷ [])) ≡ next_reserved (hand_all weight outs)
ends_reserved weight [] = refl
ends_reserved weight (i ∷ outs) = ap (λ z. weight i.1 + z) (ends_reserved weight outs)

none_reserved : (outs : List Item) → next_reserved (hand_all (λ p. 0) outs) ≡ 0
none_reserved [] = refl
none_reserved (i ∷ outs) = let h : next_reserved (hand_all (λ p. 0) outs) ≡ 0 = none_reserved outs in let e : 0 + next_reserved (hand_all (λ p. 0) outs) ≡ 0 = omega (arith, h) in e

-- ---- a buffer

held_append : (ps qs : List ChunkData) → total_by held (ps ++ qs) ≡ total_by held ps + total_by held qs
held_append [] qs = let e : total_by held qs ≡ 0 + total_by held qs = omega arith in e
held_append (p ∷ ps) qs =
    let h : total_by held (ps ++ qs) ≡ total_by held ps + total_by held qs = held_append ps qs in
    let e : held p + total_by held (ps ++ qs) ≡ (held p + total_by held ps) + total_by held qs = omega (arith, h) in e

with_one : (ps : List ChunkData) (c : ChunkData) → total_by held (ps ++ (c ∷ [])) ≡ total_by held ps + held c
with_one ps c = let h : total_by held (ps ++ (c ∷ [])) ≡ total_by held ps + (held c + 0) = held_append ps (c ∷ []) in omega (arith, h)

flushed_all : (size : ℕ) (ps : List ChunkData) → total_by held (flushed size ps) + total_by held (still_held size ps) ≡ total_by held ps
flushed_all size [] = refl
flushed_all size (p ∷ ps) = go (nat_le (total_by held (p ∷ ps)) size) (flushed_all size ps)
  where
    go : (b : Bool) → total_by held (flushed size ps) + total_by held (still_held size ps) ≡ total_by held ps
        → total_by held (if b then [] else p ∷ flushed size ps) + total_by held (if b then p ∷ ps else still_held size ps) ≡ held p + total_by held ps
    go true h = let e : 0 + (held p + total_by held ps) ≡ held p + total_by held ps = omega arith in e
    go false h = let e : (held p + total_by held (flushed size ps)) + total_by held (still_held size ps) ≡ held p + total_by held ps = omega (arith, h) in e

leaves_held : (size : ℕ) (ps : List ChunkData) (c : ChunkData) → total_by held ((flushes size).leaves ps c) + total_by held ((flushes size).holds ps c) ≡ total_by held ps + held c
leaves_held size ps c = go (is_full size (ps ++ (c ∷ []))) (flushed_all size (ps ++ (c ∷ []))) ∙ with_one ps c
  where
    go : (b : Bool) → total_by held (flushed size (ps ++ (c ∷ []))) + total_by held (still_held size (ps ++ (c ∷ []))) ≡ total_by held (ps ++ (c ∷ []))
        → total_by held (if b then flushed size (ps ++ (c ∷ [])) else []) + total_by held (if b then still_held size (ps ++ (c ∷ [])) else ps ++ (c ∷ [])) ≡ total_by held (ps ++ (c ∷ []))
    go true h = h
    go false h = let e : 0 + total_by held (ps ++ (c ∷ [])) ≡ total_by held (ps ++ (c ∷ [])) = omega arith in e

-- ---- what is started

one_none : (a b c : ℕ) → a ≡ 0 → b ≡ 0 → c ≡ 0 → ((0 + a) + b) + c ≡ 0
one_none a b c e f g = omega (arith, e, f, g)

first_reserved : (f : Form) (m : Bool) (e : Eof) → mind_reserved (first_mind f m e) ≡ 0
first_reserved (flat_form o t) m e = refl
first_reserved (chunked_form t k) m e = refl
first_reserved (grouped_form (by_blocks o) t k) m e = refl
first_reserved (grouped_form (by_bytes size) t k) m e = refl
first_reserved (grouped_form into_one t k) m e = refl
first_reserved (compressed_form which room t k) m e = refl
first_reserved (dict_form o t c v f) m e = refl
first_reserved (zoned_form o t k stats) true e = first_reserved k true e
first_reserved (zoned_form o t k stats) false e = refl
first_reserved (no_struct_form t) m e = refl
first_reserved (struct_form fs n name v ks) m e = refl
first_reserved (list_form t n es os v) m e = refl

mutual
  kids_reserved : (f : Form) (m : Bool) (at : List ℕ) (e : Eof) → reserved_by (first_kids f m at e) ≡ 0
  kids_reserved (flat_form o t) m at e = refl
  kids_reserved (chunked_form t k) m at e = refl
  kids_reserved (grouped_form g t k) m at e = one_none (mind_reserved (first_mind k m e)) (reserved_by (first_kids k m (under at 0) e)) 0 (first_reserved k m e) (kids_reserved k m (under at 0) e) refl
  kids_reserved (compressed_form which room t k) m at e =
      one_none 0 (((0 + mind_reserved (first_mind k m e)) + reserved_by (first_kids k m (under at 1) e)) + 0) 0 refl
      (one_none (mind_reserved (first_mind k m e)) (reserved_by (first_kids k m (under at 1) e)) 0 (first_reserved k m e) (kids_reserved k m (under at 1) e) refl) refl
  kids_reserved (dict_form o t c v f) m at e = refl
  kids_reserved (zoned_form o t k stats) true at e = kids_reserved k true at e
  kids_reserved (zoned_form o t k stats) false at e =
      one_none (mind_reserved (first_mind k false (inside e))) (reserved_by (first_kids k false (under at 0) (inside e))) 0 (first_reserved k false (inside e)) (kids_reserved k false (under at 0) (inside e)) refl
  kids_reserved (no_struct_form t) m at e = refl
  kids_reserved (struct_form fs true name v ks) m at e =
      one_none (mind_reserved (first_mind v m (inside e))) (reserved_by (first_kids v m (under at 0) (inside e))) (reserved_by (field_tasks ks (m || true) at 1 (next e)))
      (first_reserved v m (inside e)) (kids_reserved v m (under at 0) (inside e)) (fields_reserved ks (m || true) at 1 (next e))
  kids_reserved (struct_form fs false name v ks) m at e = fields_reserved ks (m || false) at 0 e
  kids_reserved (list_form t true es os v) m at e =
      one_none (mind_reserved (first_mind es m (inside e))) (reserved_by (first_kids es m (under at 0) (inside e))) _ (first_reserved es m (inside e)) (kids_reserved es m (under at 0) (inside e))
      (one_none (mind_reserved (first_mind os m (inside (next e)))) (reserved_by (first_kids os m (under at 1) (inside (next e)))) _ (first_reserved os m (inside (next e))) (kids_reserved os m (under at 1) (inside (next e)))
      (one_none (mind_reserved (first_mind v m (inside (next (next e))))) (reserved_by (first_kids v m (under at 2) (inside (next (next e))))) 0 (first_reserved v m (inside (next (next e)))) (kids_reserved v m (under at 2) (inside (next (next e)))) refl))
  kids_reserved (list_form t false es os v) m at e =
      one_none (mind_reserved (first_mind es m (inside e))) (reserved_by (first_kids es m (under at 0) (inside e))) _ (first_reserved es m (inside e)) (kids_reserved es m (under at 0) (inside e))
      (one_none (mind_reserved (first_mind os m (inside (next e)))) (reserved_by (first_kids os m (under at 1) (inside (next e)))) 0 (first_reserved os m (inside (next e))) (kids_reserved os m (under at 1) (inside (next e))) refl)

  fields_reserved : (ks : Forms) (m : Bool) (at : List ℕ) (c : ℕ) (e : Eof) → reserved_by (field_tasks ks m at c e) ≡ 0
  fields_reserved no_forms m at c e = refl
  fields_reserved (form_then k ks) m at c e =
      one_none (mind_reserved (first_mind k m (inside e))) (reserved_by (first_kids k m (under at c) (inside e))) (reserved_by (field_tasks ks m at (suc c) (next e)))
      (first_reserved k m (inside e)) (kids_reserved k m (under at c) (inside e)) (fields_reserved ks m at (suc c) (next e))

started_reserved : (f : Form) (m : Bool) (name : List ℕ) (e : Eof) (xs : List Item) (closed : Bool) → reserved_by (started_task f m name e xs closed) ≡ 0
started_reserved f m name e xs closed = one_none (mind_reserved (first_mind f m e)) (reserved_by (first_kids f m name e)) 0 (first_reserved f m e) (kids_reserved f m name e) refl

-- ---- an act of a task

-- what is reserved after it, and what is taken, is what was, and what is added
abbrev Even : Mind → List Next → Tasks → Did → Type 0
Even mind todo ks w = ((next_reserved w.desk.todo + mind_reserved w.desk.mind) + reserved_by w.kids) + w.lowers ≡ ((next_reserved todo + mind_reserved mind) + reserved_by ks) + w.raises

-- the fallback is started
back_even : (s : Setting) (kind : Kind) (n : Coder) (e : Eof) (mind : Mind) (todo : List Next) (c : Desk) (ks : Tasks) (inbox : List Item) (before : Mind) (left : List Next) (k : ℕ) → next_reserved todo + mind_reserved mind ≡ k
    → next_reserved left + mind_reserved before ≡ k → Even before left ks (fall_back s kind n e mind todo c ks inbox)
back_even s kind n e mind todo c ks inbox before left k a b =
    let h : reserved_by (add ks (started_task n.fallback n.mark (under c.name (count ks)) e [] false)) ≡ reserved_by ks + reserved_by (started_task n.fallback n.mark (under c.name (count ks)) e [] false) = add_reserved ks (started_task n.fallback n.mark (under c.name (count ks)) e [] false) in
    let z : reserved_by (started_task n.fallback n.mark (under c.name (count ks)) e [] false) ≡ 0 = started_reserved n.fallback n.mark (under c.name (count ks)) e [] false in
    let v : ((next_reserved todo + mind_reserved mind) + reserved_by (add ks (started_task n.fallback n.mark (under c.name (count ks)) e [] false))) + 0 ≡ ((next_reserved left + mind_reserved before) + reserved_by ks) + 0 = omega (arith, h, z, a, b) in v

probed_even : (s : Setting) (b : Bool) (n : Coder) (e : Eof) (i : Item) (todo : List Next) (c : Desk) (ks : Tasks) → mind_reserved c.mind ≡ 0 → Even c.mind (probe n e i ∷ todo) ks (probed s b n e i todo c ks)
probed_even s true n e i todo c ks f = ap (λ z. ((next_reserved todo + z) + reserved_by ks) + 0) (sym f)
probed_even s false n e i todo c ks f =
    back_even s (Free Call) n e as_is (hand_on 0 i ∷ todo) c ks c.inbox c.mind (probe n e i ∷ todo) (next_reserved todo) (let z : (0 + next_reserved todo) + 0 ≡ next_reserved todo = omega arith in z)
    (let z : next_reserved todo + mind_reserved c.mind ≡ next_reserved todo = omega (arith, f) in z)

run_reserved : (n : Coder) (at : List ℕ) (j : ℕ) (e : Eof) (i : Item) → reserved_by (run_tasks n at j e i) ≡ 0
run_reserved n at j e i =
    one_none (mind_reserved (first_mind n.codes n.mark (inside e))) (reserved_by (first_kids n.codes n.mark (under at j) (inside e))) _ (first_reserved n.codes n.mark (inside e)) (kids_reserved n.codes n.mark (under at j) (inside e))
    (one_none (mind_reserved (first_mind n.values n.mark (inside (next e)))) (reserved_by (first_kids n.values n.mark (under at (suc j)) (inside (next e)))) 0 (first_reserved n.values n.mark (inside (next e))) (kids_reserved n.values n.mark (under at (suc j)) (inside (next e))) refl)

stored_reserved : (t : Ty) (i : Item) (tree x : Option (List ℕ)) → mind_reserved (stored t i tree x) ≡ 0
stored_reserved t i tree None = refl
stored_reserved t i tree (Some bytes) = refl

chunk_even : (s : Setting) (c : Desk) (ks : Tasks) (i : Item) (xs : List Item) (mind : Mind) → Even mind [] ks (take_chunk s c ks i xs mind)
chunk_even s c ks i xs (no_chunk o t) = ap (λ z. ((0 + z) + reserved_by ks) + 0) (stored_reserved t i (inlined s o i) (segment s o i))
chunk_even s c ks i xs (one_chunk x) = refl
chunk_even s c ks i xs (by_chunk m t f e rows) =
    ap (λ z. (0 + z) + 0) (add_reserved ks (started_task f m (under c.name (count ks)) (inside e) (i ∷ []) true))
    ∙ (let h : reserved_by (started_task f m (under c.name (count ks)) (inside e) (i ∷ []) true) ≡ 0 = started_reserved f m (under c.name (count ks)) (inside e) (i ∷ []) true in
    let z : (0 + (reserved_by ks + reserved_by (started_task f m (under c.name (count ks)) (inside e) (i ∷ []) true))) + 0 ≡ (0 + reserved_by ks) + 0 = omega (arith, h) in z)
chunk_even s c ks i xs (by_column t rows) = ap (λ z. ((z + 0) + reserved_by ks) + 0) (puts_reserved 0 i.0 (columns_in t i.1))
chunk_even s c ks i xs (by_list t n first from rows) = ap (λ z. ((z + 0) + reserved_by ks) + 0) (puts_reserved 0 i.0 (list_columns t n first from i.1))
chunk_even s c ks i xs (by_block len minimum t x None rows) = refl
chunk_even s c ks i xs (by_block len minimum t x (Some j) rows) = ap (λ z. ((z + 0) + reserved_by ks) + 0) (none_reserved (ranked j.0 0 ((block_grouper (of_length len minimum) t).rule.leaves x j.1)))
chunk_even s c ks i xs (by_size size x None rows) =
    let e : ((0 + (total_by held x + held i.1)) + reserved_by ks) + 0 ≡ ((0 + (total_by held x + 0)) + reserved_by ks) + held i.1 = omega arith in e
chunk_even s c ks i xs (by_size size x (Some j) rows) =
    let out : ℕ = next_reserved (hand_all held (ranked j.0 0 ((flushes size).leaves x j.1))) in
    let h : out ≡ total_by held ((flushes size).leaves x j.1) = hands_reserved held j.0 0 ((flushes size).leaves x j.1) in
    let k : total_by held ((flushes size).leaves x j.1) + total_by held ((flushes size).holds x j.1) ≡ total_by held x + held j.1 = leaves_held size x j.1 in
    let e : ((out + (total_by held ((flushes size).holds x j.1) + held i.1)) + reserved_by ks) + 0 ≡ ((0 + (total_by held x + held j.1)) + reserved_by ks) + held i.1 = omega (arith, h, k) in e
chunk_even s c ks i xs (as_one t x rows) = refl
chunk_even s c ks i xs (by_zone g e z) = refl
chunk_even s c ks i xs (by_image which) = refl
chunk_even s c ks i xs as_is = refl
chunk_even s c ks i xs (by_probe n e) = refl
chunk_even s c ks i xs asking = refl
chunk_even s c ks i xs (by_run n r j rows) =
    ap (λ z. ((z + 0) + reserved_by ks) + 0) (ap next_reserved (sym (append-nil (deed_nexts n (deeds_at n r j)))) ∙ deeds_reserved n (deeds_at n r j) [])
chunk_even s c ks i xs ending = refl
chunk_even s c ks i xs passing = refl
chunk_even s c ks i xs (made l) = refl

-- a buffer holds nothing before a chunk came
abbrev Begun : Mind → Type 0
Begun (by_size size x j rows) = NoneHeld x j
Begun (no_chunk o t) = Unit {0}
Begun (one_chunk x) = Unit {0}
Begun (by_chunk m t f e rows) = Unit {0}
Begun (by_column t rows) = Unit {0}
Begun (by_list t n first from rows) = Unit {0}
Begun (by_block len minimum t x j rows) = Unit {0}
Begun (as_one t x rows) = Unit {0}
Begun (by_zone g e z) = Unit {0}
Begun (by_image which) = Unit {0}
Begun as_is = Unit {0}
Begun (by_probe n e) = Unit {0}
Begun asking = Unit {0}
Begun (by_run n r j rows) = Unit {0}
Begun ending = Unit {0}
Begun passing = Unit {0}
Begun (made l) = Unit {0}

columns_even : (b : Bool) (t : Ty) (rows : ℕ) (c : Desk) (ks : Tasks) → Even (by_column t rows) [] ks (end_columns b t rows c ks)
columns_even true t rows c ks = refl
columns_even false t rows c ks = refl

lists_even : (first : Bool) (t : Ty) (n b : Bool) (from rows : ℕ) (c : Desk) (ks : Tasks) → Even (by_list t n b from rows) [] ks (end_lists first (list t n) rows c ks)
lists_even true t n b from rows c ks = refl
lists_even false t n b from rows c ks = refl

zones_even : (table : Option (List Filled)) (g : Zoner) (e : Eof) (z : Zones) (c : Desk) (ks : Tasks) → Even (by_zone g e z) [] ks (end_zones table g e z c ks)
zones_even None g e z c ks = refl
zones_even (Some cs) g e z c ks = refl

end_even : (s : Setting) (c : Desk) (ks : Tasks) (mind : Mind) → Begun mind → Even mind [] ks (take_end s c ks mind)
end_even s c ks (no_chunk o t) b = refl
end_even s c ks (one_chunk x) b = refl
end_even s c ks (by_chunk m t f e rows) b = refl
end_even s c ks (by_column t rows) b = columns_even ((count ks == 0) && (0 == column_count t)) t rows c ks
end_even s c ks (by_list t n first from rows) b = lists_even first t n first from rows c ks
end_even s c ks (by_block len minimum t x None rows) b = refl
end_even s c ks (by_block len minimum t x (Some j) rows) b =
    ap (λ z. ((z + 0) + reserved_by ks) + 0) (ends_reserved (λ p. 0) (ranked j.0 0 ((block_grouper (of_length len minimum) t).rule.rest x j.1)) ∙ none_reserved (ranked j.0 0 ((block_grouper (of_length len minimum) t).rule.rest x j.1)))
end_even s c ks (by_size size x None rows) b =
    let h : total_by held x ≡ 0 = ap (total_by held) b in
    let e : ((0 + 0) + reserved_by ks) + 0 ≡ ((0 + (total_by held x + 0)) + reserved_by ks) + 0 = omega (arith, h) in e
end_even s c ks (by_size size x (Some j) rows) b =
    let out : ℕ = next_reserved (hand_all held (ranked j.0 0 (x ++ (j.1 ∷ []))) ++ (shut_kids ∷ [])) in
    let h : out ≡ total_by held (x ++ (j.1 ∷ [])) = ends_reserved held (ranked j.0 0 (x ++ (j.1 ∷ []))) ∙ hands_reserved held j.0 0 (x ++ (j.1 ∷ [])) in
    let k : total_by held (x ++ (j.1 ∷ [])) ≡ total_by held x + held j.1 = with_one x j.1 in
    let e : ((out + 0) + reserved_by ks) + 0 ≡ ((0 + (total_by held x + held j.1)) + reserved_by ks) + 0 = omega (arith, h, k) in e
end_even s c ks (as_one t x rows) b = ap (λ z. ((z + 0) + reserved_by ks) + 0) (ends_reserved (λ p. 0) (collect_rest t x) ∙ none_reserved (collect_rest t x))
end_even s c ks (by_zone g e z) b = zones_even (kept_columns g.columns z.records) g e z c ks
end_even s c ks (by_image which) b = refl
end_even s c ks as_is b = refl
end_even s c ks (by_probe n e) b = back_even s TakeEnd n e passing (shut_kids ∷ []) c ks [] (by_probe n e) [] 0 refl refl
end_even s c ks asking b = refl
end_even s c ks (by_run n r j rows) b = ap (λ z. ((z + 0) + reserved_by ks) + 0) (deeds_reserved n (last_deeds n r j) (join_kids (fold_runs n.type (run_rows n r j)) ∷ []))
end_even s c ks ending b = refl
end_even s c ks passing b = refl
end_even s c ks (made l) b = refl

-- what must hold of a task for its next act
abbrev Fine : Mind → List Next → Type 0
Fine mind [] = Begun mind
Fine mind (put j i ∷ todo) = Unit {0}
Fine mind (hand_on n i ∷ todo) = Unit {0}
Fine mind (press which i ∷ todo) = Unit {0}
Fine mind (probe n e i ∷ todo) = mind_reserved mind ≡ 0
Fine mind (open_run n j e i ∷ todo) = Unit {0}
Fine mind (end_run j i ∷ todo) = Unit {0}
Fine mind (append x ∷ todo) = mind_reserved mind ≡ 0
Fine mind (shut_kids ∷ todo) = Unit {0}
Fine mind (join_kids f ∷ todo) = mind_reserved mind ≡ 0
Fine mind (start_table f e p ∷ todo) = Unit {0}
Fine mind (leave_kid e ∷ todo) = Unit {0}

act_even : (s : Setting) (all : List (List ℕ)) (number : ℕ) (c : Desk) (ks : Tasks) (todo : List Next) → Fine c.mind todo → (all_made ks ≡ true → reserved_by ks ≡ 0) → may_act all c ks todo ≡ true
    → Even c.mind todo ks (do_act s number c ks todo)
act_even s all number c ks [] f k m = by c.inbox
  where
    by : (xs : List Item) → Even c.mind [] ks (do_take s c ks xs)
    by [] = end_even s c ks c.mind f
    by (i ∷ xs) = chunk_even s c ks i xs c.mind
act_even s all number c ks (put j i ∷ todo) f k m = ap (λ z. ((next_reserved todo + mind_reserved c.mind) + z) + 0) (give_reserved j i ks)
act_even s all number c ks (hand_on n i ∷ todo) f k m =
    let h : reserved_by (give 0 i ks) ≡ reserved_by ks = give_reserved 0 i ks in
    let e : ((next_reserved todo + mind_reserved c.mind) + reserved_by (give 0 i ks)) + n ≡ (((n + next_reserved todo) + mind_reserved c.mind) + reserved_by ks) + 0 = omega (arith, h) in e
act_even s all next c ks (press which i ∷ todo) f k m =
    let e : (((0 + next_reserved todo) + mind_reserved c.mind) + reserved_by ks) + 0 ≡ ((next_reserved todo + mind_reserved c.mind) + reserved_by ks) + 0 = omega arith in e
act_even s all next c ks (probe n e i ∷ todo) f k m = probed_even s (is_dictionary (s.image n.options.probe i.1)) n e i todo c ks f
act_even s all next c ks (open_run n j e i ∷ todo) f k m =
    let h : reserved_by (add ks (run_tasks n c.name j e i)) ≡ reserved_by ks + reserved_by (run_tasks n c.name j e i) = add_reserved ks (run_tasks n c.name j e i) in
    let z : reserved_by (run_tasks n c.name j e i) ≡ 0 = run_reserved n c.name j e i in
    let e : ((next_reserved todo + mind_reserved c.mind) + reserved_by (add ks (run_tasks n c.name j e i))) + 0 ≡ ((next_reserved todo + mind_reserved c.mind) + reserved_by ks) + 0 = omega (arith, h, z) in e
act_even s all next c ks (end_run j i ∷ todo) f k m = ap (λ z. ((next_reserved todo + mind_reserved c.mind) + z) + 0) (end_at_reserved j i ks)
act_even s all number c ks (append x ∷ todo) f k m = ap (λ z. ((next_reserved todo + z) + reserved_by ks) + 0) (sym f)
act_even s all number c ks (shut_kids ∷ todo) f k m = ap (λ z. ((next_reserved todo + mind_reserved c.mind) + z) + 0) (shut_reserved ks)
act_even s all number c ks (join_kids f ∷ todo) o k m =
    ap (λ z. ((next_reserved todo + z) + 0) + 0) (sym o) ∙ ap (λ z. ((next_reserved todo + mind_reserved c.mind) + z) + 0) (sym (k (and_left (all_made ks) _ m)))
act_even s all number c ks (start_table f e p ∷ todo) o k m =
    let new : Tasks = started_task f false (under c.name 1) (next e) (table_item e p ∷ []) true in
    let h : reserved_by (add ks new) ≡ reserved_by ks + reserved_by new = add_reserved ks new in
    let x : reserved_by new ≡ 0 = started_reserved f false (under c.name 1) (next e) (table_item e p ∷ []) true in
    let z : ((next_reserved todo + mind_reserved c.mind) + reserved_by (add ks new)) + 0 ≡ ((next_reserved todo + mind_reserved c.mind) + reserved_by ks) + 0 = omega (arith, h, x) in z
act_even s all number c ks (leave_kid e ∷ todo) f k m = refl

-- ---- tasks that show a state

carry : {mind m : Mind} {left f : List Next} → mind ≡ m → left ≡ f → Fine m f → Fine mind left
carry {mind} {m} {left} {f} e k w = subst (λ z. Fine z left) (sym e) (subst (λ z. Fine m z) (sym k) w)

puts_fine : (m : Mind) → Begun m → (j : ℕ) (p : List ℕ) (xs : List ChunkData) → Fine m (puts j p xs)
puts_fine m b j p [] = b
puts_fine m b j p (x ∷ xs) = tt

hands_fine : (m : Mind) → Begun m → (weight : ChunkData → ℕ) (outs : List Item) → Fine m (hand_all weight outs)
hands_fine m b weight [] = b
hands_fine m b weight (i ∷ outs) = tt

each_fine : (m : Mind) → Begun m → (outs : List Item) → Fine m (put_each outs)
each_fine m b [] = b
each_fine m b (i ∷ outs) = tt

data_fine : (m : Mind) (n : ZonedNode) (z : Zones) (table : Option (List Filled)) → Fine m (zones_left n z table)
data_fine m n z None = tt
data_fine m n z (Some cs) = tt

ends_fine : (m : Mind) (weight : ChunkData → ℕ) (outs : List Item) → Fine m (hand_all weight outs ++ (shut_kids ∷ []))
ends_fine m weight [] = tt
ends_fine m weight (i ∷ outs) = tt

deeds_fine : (m : Mind) → Begun m → (n : Coder) (ds : List Deed) → Fine m (deed_nexts n ds)
deeds_fine m b n [] = b
deeds_fine m b n (puts_codes j e true i ∷ ds) = tt
deeds_fine m b n (puts_codes j e false i ∷ ds) = tt
deeds_fine m b n (puts_values j i ∷ ds) = tt

lasts_fine : (n : Coder) (ds : List Deed) (f : Fold) → Fine ending (deed_nexts n ds ++ (join_kids f ∷ []))
lasts_fine n [] f = refl
lasts_fine n (puts_codes j e true i ∷ ds) f = tt
lasts_fine n (puts_codes j e false i ∷ ds) f = tt
lasts_fine n (puts_values j i ∷ ds) f = tt

stage_fine : (s : Setting) (d : Fuel) (mind : Mind) (left : List Next) (ks : Tasks) (q : Seed) (past todo : List Act) (l : Local) (off : Bool) (hs : Tree)
    → Stage s d mind left ks q past todo l off hs → Fine mind left
stage_fine s d mind left ks q past todo l off hs (waits_first o t k w) = carry w.mind_is w.idle tt
stage_fine s d mind left ks q past todo l off hs (waits_end o t x b k w) = carry w.mind_is w.idle tt
stage_fine s d mind left ks q past todo l off hs (appends x k w) = carry w.mind_is w.left_is refl
stage_fine s d mind left ks q past todo l off hs (splits n e nm t sp b en u w) = carry w.mind_is w.idle tt
stage_fine s d mind left ks q past todo l off hs (gathers_all t u w) = carry w.mind_is w.left_is refl
stage_fine s d mind left ks q past todo l off hs (hands n rows j p xs ws t v w) = carry w.mind_is w.left_is (puts_fine (by_column (struct n.fields n.nullable) rows) tt j p xs)
stage_fine s d mind left ks q past todo l off hs (hands_lists n first from rows j p xs ws t v w) = carry w.mind_is w.left_is (puts_fine (by_list n.elements n.nullable first from rows) tt j p xs)
stage_fine s d mind left ks q past todo l off hs (shuts t rows k w) = carry w.mind_is w.left_is tt
stage_fine s d mind left ks q past todo l off hs (joins_columns t rows k w) = carry w.mind_is w.left_is refl
stage_fine s d mind left ks q past todo l off hs (regroups_rows o n x j rows outs tj nh w) = carry w.mind_is w.left_is (hands_fine (by_block (block_len o n.type) o.minimum n.type x j rows) tt (λ p. 0) outs)
stage_fine s d mind left ks q past todo l off hs (regroups_chunks size n x j rows outs tx tj nh w) = carry w.mind_is w.left_is (hands_fine (by_size size x j rows) nh held outs)
stage_fine s d mind left ks q past todo l off hs (collects n x rows w) = carry w.mind_is w.left_is tt
stage_fine s d mind left ks q past todo l off hs (presses n t i ti w) = carry w.mind_is w.left_is tt
stage_fine s d mind left ks q past todo l off hs (pressed n t outs w) = carry w.mind_is w.left_is (hands_fine (by_image n.which) tt (λ p. 0) outs)
stage_fine s d mind left ks q past todo l off hs (lets_out n t outs w) = carry w.mind_is w.left_is (hands_fine as_is tt (λ p. 0) outs)
stage_fine s d mind left ks q past todo l off hs (asks_first n k nk w) = carry w.mind_is w.idle tt
stage_fine s d mind left ks q past todo l off hs (probes n i k nk w) = carry w.mind_is w.left_is refl
stage_fine s d mind left ks q past todo l off hs (falls_back t outs w) = carry w.mind_is w.left_is (hands_fine as_is tt (λ p. 0) outs)
stage_fine s d mind left ks q past todo l off hs (cuts n r i rows c ds k u w) = carry w.mind_is w.left_is (deeds_fine (by_run (coder_of n) r i rows) tt (coder_of n) ds)
stage_fine s d mind left ks q past todo l off hs (last_cuts n rows ns c ds k u sum is go w) = carry w.mind_is w.left_is (lasts_fine (coder_of n) ds (fold_runs n.type ns))
stage_fine s d mind left ks q past todo l off hs (passes_on t weight outs one to w) = carry w.mind_is w.left_is (ends_fine passing weight outs)
stage_fine s d mind left ks q past todo l off hs (passed t one w) = carry w.mind_is w.left_is tt
stage_fine s d mind left ks q past todo l off hs (records_zones n z outs iz one rw to w) = carry w.mind_is w.left_is (each_fine (by_zone (zoner_of n) (next n.eof) z) tt outs)
stage_fine s d mind left ks q past todo l off hs (closes_zones n z table iz one w) = carry w.mind_is w.left_is tt
stage_fine s d mind left ks q past todo l off hs (joins_data n z table iz one w) = carry w.mind_is w.left_is (data_fine (zones_mind table) n z table)
stage_fine s d mind left ks q past todo l off hs (joins_zones n rows cs both w) = carry w.mind_is w.left_is refl

module _ (s : Setting) (number : List ℕ → ℕ) where
  -- those that have done all have nothing
  made_reserved : (d : Fuel) (q : Seed) (j : ℕ) (cs : Tasks) (t : Tree) → Shows s number d q j cs t → all_made cs ≡ true → reserved_by cs ≡ 0
  made_reserved d q j no_tasks t w m = refl
  made_reserved d q j (task_then c ks more) Leaf w m = absurd w
  made_reserved d q j (task_then c ks more) (Work h hs r) w m =
      by w.1 (λ k b. made_reserved (less d h.seed.type) h.seed 0 ks hs k b) (made_reserved d q (suc j) more r w.2 (and_right _ (all_made more) m))
    where
      sum : (a b c d : ℕ) → a ≡ 0 → b ≡ 0 → c ≡ 0 → d ≡ 0 → ((a + b) + c) + d ≡ 0
      sum a b c d e f g h = omega (arith, e, f, g, h)

      by : (Stage s (less d h.seed.type) c.mind c.todo ks h.seed h.past h.todo h.local h.over hs × Shows s number (less d h.seed.type) h.seed 0 ks hs)
          ⊎ Done number c.mind c.todo ks h.past h.todo h.over hs → (Shows s number (less d h.seed.type) h.seed 0 ks hs → all_made ks ≡ true → reserved_by ks ≡ 0) → reserved_by more ≡ 0
          → ((next_reserved c.todo + mind_reserved c.mind) + reserved_by ks) + reserved_by more ≡ 0
      by (inl (st, k)) deeper others =
          let x : (all_made ks ≡ true) × Passed c.mind c.todo h.past h.todo h.over hs =
          stage_made s (less d h.seed.type) c.mind c.todo ks h.seed h.past h.todo h.local h.over hs (all_made ks) st (and_left _ (all_made more) m) in
          sum (next_reserved c.todo) (mind_reserved c.mind) (reserved_by ks) (reserved_by more) (ap next_reserved x.1.ends.left_is) (ap mind_reserved x.1.ends.mind_is) (deeper k x.0) others
      by (inr e) deeper others =
          sum (next_reserved c.todo) (mind_reserved c.mind) (reserved_by ks) (reserved_by more) (ap next_reserved e.idle) (ap mind_reserved e.mind_is) (ap reserved_by e.no_kids) others

  module _ (next : ℕ) (all : List (List ℕ)) where
    reserve : (d : Fuel) (q : Seed) (j : ℕ) (cs : Tasks) (t : Tree) (w : Step) → Shows s number d q j cs t → In w (steps s all next cs) → reserved_by w.after + w.lowers ≡ reserved_by cs + w.raises
    reserve d q j no_tasks t w sh i = absurd i
    reserve d q j (task_then c ks more) Leaf w sh i = absurd sh
    reserve d q j (task_then c ks more) (Work h hs r) w sh i =
        all_of (in_cases w (cond (may_act all c ks c.todo) (own_step c more (do_act s next c ks c.todo) ∷ []) [] ++ map (in_kids c more) (steps s all next ks)) (map (in_rest c ks) (steps s all next more)) i)
        (λ k x y. reserve (less d h.seed.type) h.seed 0 ks hs x k y) (λ x y. reserve d q (suc j) more r x sh.2 y)
      where
        -- it stands beside what doesn't change
        before : (n a b lo ra : ℕ) → a + lo ≡ b + ra → (n + a) + lo ≡ (n + b) + ra
        before n a b lo ra e = omega (arith, e)

        behind : (n a b lo ra : ℕ) → a + lo ≡ b + ra → (a + n) + lo ≡ (b + n) + ra
        behind n a b lo ra e = omega (arith, e)

        own_even : (Stage s (less d h.seed.type) c.mind c.todo ks h.seed h.past h.todo h.local h.over hs × Shows s number (less d h.seed.type) h.seed 0 ks hs)
            ⊎ Done number c.mind c.todo ks h.past h.todo h.over hs → may_act all c ks c.todo ≡ true → Even c.mind c.todo ks (do_act s next c ks c.todo)
        own_even (inl (st, k)) m =
            act_even s all next c ks c.todo (stage_fine s (less d h.seed.type) c.mind c.todo ks h.seed h.past h.todo h.local h.over hs st) (made_reserved (less d h.seed.type) h.seed 0 ks hs k) m
        own_even (inr e) m = act_even s all next c ks c.todo (carry e.mind_is e.idle tt) (λ b. ap reserved_by e.no_kids) m

        of_own : (b : Bool) → may_act all c ks c.todo ≡ b → In w (cond b (own_step c more (do_act s next c ks c.todo) ∷ []) [])
            → reserved_by w.after + w.lowers ≡ reserved_by (task_then c ks more) + w.raises
        of_own true m (inl e) =
            let x : Did = do_act s next c ks c.todo in
            subst (λ (z : Step). reserved_by z.after + z.lowers ≡ reserved_by (task_then c ks more) + z.raises) (sym e)
            (behind (reserved_by more) ((next_reserved x.desk.todo + mind_reserved x.desk.mind) + reserved_by x.kids) ((next_reserved c.todo + mind_reserved c.mind) + reserved_by ks) x.lowers x.raises (own_even sh.1 m))
        of_own true m (inr k) = absurd k
        of_own false m k = absurd k

        of_kid : (x : Step) × In x (steps s all next ks) × (w ≡ in_kids c more x)
            → (Stage s (less d h.seed.type) c.mind c.todo ks h.seed h.past h.todo h.local h.over hs × Shows s number (less d h.seed.type) h.seed 0 ks hs)
            ⊎ Done number c.mind c.todo ks h.past h.todo h.over hs
            → (Shows s number (less d h.seed.type) h.seed 0 ks hs → (x : Step) → In x (steps s all next ks) → reserved_by x.after + x.lowers ≡ reserved_by ks + x.raises)
            → reserved_by w.after + w.lowers ≡ reserved_by (task_then c ks more) + w.raises
        of_kid (x, y, e) (inl (st, v)) deeper =
            subst (λ (z : Step). reserved_by z.after + z.lowers ≡ reserved_by (task_then c ks more) + z.raises) (sym e)
            (behind (reserved_by more) ((next_reserved c.todo + mind_reserved c.mind) + reserved_by x.after) ((next_reserved c.todo + mind_reserved c.mind) + reserved_by ks) x.lowers x.raises
            (before (next_reserved c.todo + mind_reserved c.mind) (reserved_by x.after) (reserved_by ks) x.lowers x.raises (deeper v x y)))
        of_kid (x, y, e) (inr f) deeper = absurd (subst (λ z. In x (steps s all next z)) f.no_kids y)

        of_rest : (x : Step) × In x (steps s all next more) × (w ≡ in_rest c ks x) → ((x : Step) → In x (steps s all next more) → reserved_by x.after + x.lowers ≡ reserved_by more + x.raises)
            → reserved_by w.after + w.lowers ≡ reserved_by (task_then c ks more) + w.raises
        of_rest (x, y, e) others =
            subst (λ (z : Step). reserved_by z.after + z.lowers ≡ reserved_by (task_then c ks more) + z.raises) (sym e)
            (before ((next_reserved c.todo + mind_reserved c.mind) + reserved_by ks) (reserved_by x.after) (reserved_by more) x.lowers x.raises (others x y))

        of_front : In w (cond (may_act all c ks c.todo) (own_step c more (do_act s next c ks c.todo) ∷ []) []) ⊎ In w (map (in_kids c more) (steps s all next ks))
            → (Shows s number (less d h.seed.type) h.seed 0 ks hs → (x : Step) → In x (steps s all next ks) → reserved_by x.after + x.lowers ≡ reserved_by ks + x.raises)
            → reserved_by w.after + w.lowers ≡ reserved_by (task_then c ks more) + w.raises
        of_front (inl a) deeper = of_own (may_act all c ks c.todo) refl a
        of_front (inr b) deeper = of_kid (from_map (in_kids c more) w (steps s all next ks) b) sh.1 deeper

        all_of : In w (cond (may_act all c ks c.todo) (own_step c more (do_act s next c ks c.todo) ∷ []) [] ++ map (in_kids c more) (steps s all next ks)) ⊎ In w (map (in_rest c ks) (steps s all next more))
            → (Shows s number (less d h.seed.type) h.seed 0 ks hs → (x : Step) → In x (steps s all next ks) → reserved_by x.after + x.lowers ≡ reserved_by ks + x.raises)
            → ((x : Step) → In x (steps s all next more) → reserved_by x.after + x.lowers ≡ reserved_by more + x.raises)
            → reserved_by w.after + w.lowers ≡ reserved_by (task_then c ks more) + w.raises
        all_of (inl a) deeper others =
            of_front (in_cases w (cond (may_act all c ks c.todo) (own_step c more (do_act s next c ks c.todo) ∷ []) []) (map (in_kids c more) (steps s all next ks)) a) deeper
        all_of (inr b) deeper others = of_rest (from_map (in_rest c ks) w (steps s all next more) b) others

pub steps_reserve : StepsReserve
steps_reserve s number next all d q j cs t w sh i = reserve s number next all d q j cs t w sh i

-- ---- the whole machine

pub start_reserves_at : (names : Names) (eof : Eof) → StartReservesAt names eof
start_reserves_at names eof f m = started_reserved f m _ _ [] false

pub start_reserves : StartReservesAt (onward first_batch) root_eof
start_reserves = start_reserves_at (onward first_batch) root_eof

source_even : (a : Answer) (p : Phase) (root : Tasks) → reserved_by (source_step a p root).after.root + (source_step a p root).lowers ≡ reserved_by root + (source_step a p root).raises
source_even unasked (reading ns) root = refl
source_even (came b) (reading ns) root = refl
source_even over (reading ns) root = refl
source_even a (giving ns i) root = ap (λ z. z + 0) (give_reserved 0 i root)
source_even a closing root = ap (λ z. z + 0) (shut_reserved root)
source_even a finished root = refl

pub whole_reserves_at : (o : Outset) → WholeReservesAt o
whole_reserves_at o g number next all a f m t w sh i = by (in_cases w (cond (may_source m.phase m.root) (source_step a m.phase m.root ∷ []) []) (map (in_root m.phase) (steps g.setting all next m.root)) i)
  where
    of_source : (b : Bool) → In w (cond b (source_step a m.phase m.root ∷ []) []) → reserved_by w.after.root + w.lowers ≡ reserved_by m.root + w.raises
    of_source true (inl e) = subst (λ (z : WholeStep). reserved_by z.after.root + z.lowers ≡ reserved_by m.root + z.raises) (sym e) (source_even a m.phase m.root)
    of_source true (inr k) = absurd k
    of_source false k = absurd k

    of_root : (x : Step) × In x (steps g.setting all next m.root) × (w ≡ in_root m.phase x) → reserved_by w.after.root + w.lowers ≡ reserved_by m.root + w.raises
    of_root (x, y, e) = subst (λ (z : WholeStep). reserved_by z.after.root + z.lowers ≡ reserved_by m.root + z.raises) (sym e)
        (reserve g.setting number next all (root_depth g) (seed_at (form_of g) g.mark o) 0 m.root sh.kids x sh.root y)

    by : In w (cond (may_source m.phase m.root) (source_step a m.phase m.root ∷ []) []) ⊎ In w (map (in_root m.phase) (steps g.setting all next m.root)) → reserved_by w.after.root + w.lowers ≡ reserved_by m.root + w.raises
    by (inl x) = of_source (may_source m.phase m.root) x
    by (inr x) = of_root (from_map (in_root m.phase) w (steps g.setting all next m.root) x)

pub whole_reserves : WholeReservesAt root_outset
whole_reserves = whole_reserves_at root_outset

-- ---- the end

no_tasks_more : (cs : Tasks) → no_more cs ≡ true → cs ≡ no_tasks
no_tasks_more no_tasks e = refl
no_tasks_more (task_then c ks r) e = cc

nothing_left : {A : Type 0} (xs : List A) → is_empty xs ≡ true → xs ≡ []
nothing_left [] e = refl
nothing_left (x ∷ xs) e = cc

done_reserved : (cs : Tasks) → is_done cs ≡ true → is_alone cs ≡ true → reserved_by cs ≡ 0
done_reserved no_tasks e k = refl
done_reserved (task_then c ks r) e k = by c.mind refl (λ a b. done_reserved ks a b)
  where
    no_true : false ≡ true → ⊥
    no_true x = cc

    idle : c.todo ≡ []
    idle = nothing_left c.todo (and_left (is_empty c.todo) (is_empty c.inbox) (and_right (has_layout c.mind ks (is_done ks)) (is_empty c.todo && is_empty c.inbox) e))

    there : (m : Mind) → c.mind ≡ m → has_layout m ks (is_done ks) ≡ true
    there m h = sym (ap (λ z. has_layout z ks (is_done ks)) h) ∙ and_left (has_layout c.mind ks (is_done ks)) (is_empty c.todo && is_empty c.inbox) e

    sum : (m : Mind) → c.mind ≡ m → mind_reserved m ≡ 0 → reserved_by ks ≡ 0 → ((next_reserved c.todo + mind_reserved c.mind) + reserved_by ks) + reserved_by r ≡ 0
    sum m h x y =
        let a : next_reserved c.todo ≡ 0 = ap next_reserved idle in
        let b : mind_reserved c.mind ≡ 0 = ap mind_reserved h ∙ x in
        let z : reserved_by r ≡ 0 = ap reserved_by (no_tasks_more r k) in omega (arith, a, b, y, z)

    by : (m : Mind) → c.mind ≡ m → (is_done ks ≡ true → is_alone ks ≡ true → reserved_by ks ≡ 0) → ((next_reserved c.todo + mind_reserved c.mind) + reserved_by ks) + reserved_by r ≡ 0
    by (made l) h deeper = sum (made l) h refl (ap reserved_by (no_tasks_more ks (there (made l) h)))
    by passing h deeper = sum passing h refl (deeper (and_right (is_alone ks) (is_done ks) (there passing h)) (and_left (is_alone ks) (is_done ks) (there passing h)))
    by (no_chunk o t) h deeper = absurd (no_true (there (no_chunk o t) h))
    by (one_chunk x) h deeper = absurd (no_true (there (one_chunk x) h))
    by (by_chunk m t f z rows) h deeper = absurd (no_true (there (by_chunk m t f z rows) h))
    by (by_column t rows) h deeper = absurd (no_true (there (by_column t rows) h))
    by (by_list t n first from rows) h deeper = absurd (no_true (there (by_list t n first from rows) h))
    by (by_block len minimum t x j rows) h deeper = absurd (no_true (there (by_block len minimum t x j rows) h))
    by (by_size size x j rows) h deeper = absurd (no_true (there (by_size size x j rows) h))
    by (as_one t x rows) h deeper = absurd (no_true (there (as_one t x rows) h))
    by (by_zone g z y) h deeper = absurd (no_true (there (by_zone g z y) h))
    by (by_image which) h deeper = absurd (no_true (there (by_image which) h))
    by as_is h deeper = absurd (no_true (there as_is h))
    by (by_probe n e) h deeper = absurd (no_true (there (by_probe n e) h))
    by asking h deeper = absurd (no_true (there asking h))
    by (by_run n v j rows) h deeper = absurd (no_true (there (by_run n v j rows) h))
    by ending h deeper = absurd (no_true (there ending h))

root_alone : (t : Ty) (cs : Tasks) (n : ℕ) → count cs ≡ n → n ≡ 1 → is_alone cs ≡ true
root_alone t no_tasks n e k = absurd (omega (arith, e, k))
root_alone t (task_then c ks no_tasks) n e k = refl
root_alone t (task_then c ks (task_then b ls r)) n e k = absurd (omega (arith, e, k))

pub finish_reserves : FinishReserves
finish_reserves g number f m t sh e =
    done_reserved m.root (and_right (has_closed m.phase) (is_done m.root) e)
    (root_alone g.type m.root (length (types_of sh.kids)) (count_types g.setting number (root_depth g) (source_seed (form_of g) g.mark) 0 m.root sh.kids sh.root) (ap length sh.one))
