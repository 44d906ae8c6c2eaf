-- What a task's own act changes below it.
use Rattle.std.proofs.Common.{◌≡◌, ℕ, suc, inl, ◌==◌, ◌&&◌, ◌+◌, Bool, true, false, List, [], ◌∷◌, Option, Some, None, refl, sym, ap, subst, arith}
use Rattle.vx_model.specs.Ty.{list}
use Rattle.vx_plan.specs.PlanData.{Setting, Item}
use Rattle.vx_plan.specs.DictNode.{is_dictionary}
use Rattle.vx_path.specs.Path.{Eof, under, inside, next}
use Rattle.vx_zone_spec.specs.ZoneTable.{Filled, kept_columns}
use Rattle.vx_machine_state.specs.Zoned.{table_item}
use Rattle.vx_machine_state.specs.Coder.{Coder}
use Rattle.vx_machine_state.specs.State.{Next, put, hand_on, press, probe, open_run, end_run, append, shut_kids, join_kids, start_table, leave_kid, Mind, no_chunk, one_chunk, by_chunk, by_column, by_list, by_block, by_size, as_one, by_image, as_is, by_probe, asking, by_run, by_zone, ending, passing, made, Desk, Tasks, no_tasks, task_then}
use Rattle.vx_machine_state.specs.Start.{started_task}
use Rattle.vx_machine_state.specs.Acts.{count, give, add, shut_at, end_at, column_count, probed, run_tasks, take_chunk, end_columns, end_lists, end_zones, take_end, do_take, do_act}
use Rattle.vx_kept.specs.Kept.{KnowsFrom, Knows, asked_of, ready_of, kids_of}
use Rattle.vx_kept.specs.Follow.{touched_by, Follows}
use Rattle.vx_kept.specs.declared.counts.Counts.{Counts}
use Rattle.vx_kept.specs.declared.counts.Touched.TheVariants.{Child, Both, Nothing}
use Rattle.vx_kept.proofs.Keeping.{add_leaves, give_leaves, shut_leaves, knows_more, there_within}

-- none, or one more
abbrev Grown : Tasks → Tasks → Type 0
Grown ks js = (new : Tasks) × (js ≡ add ks new)

add_none : (ks : Tasks) → ks ≡ add ks no_tasks
add_none no_tasks = refl
add_none (task_then c ks r) = ap (task_then c ks) (add_none r)

same : (ks : Tasks) → Grown ks ks
same ks = (no_tasks, add_none ks)

end_grown : (s : Setting) (c : Desk) (ks : Tasks) (m : Mind) → Grown ks (take_end s c ks m).kids
end_grown s c ks (no_chunk o t) = same ks
end_grown s c ks (one_chunk x) = same ks
end_grown s c ks (by_chunk m t f e rows) = same ks
end_grown s c ks (by_column t rows) = by ((count ks == 0) && (0 == column_count t))
  where
    by : (z : Bool) → Grown ks (end_columns z t rows c ks).kids
    by true = same ks
    by false = same ks
end_grown s c ks (by_list t n first from rows) = by first
  where
    by : (z : Bool) → Grown ks (end_lists z (list t n) rows c ks).kids
    by true = same ks
    by false = same ks
end_grown s c ks (by_block len minimum t x None rows) = same ks
end_grown s c ks (by_block len minimum t x (Some j) rows) = same ks
end_grown s c ks (by_size size x None rows) = same ks
end_grown s c ks (by_size size x (Some j) rows) = same ks
end_grown s c ks (as_one t x rows) = same ks
end_grown s c ks (by_image which) = same ks
end_grown s c ks as_is = same ks
end_grown s c ks (by_probe n e) = (started_task n.fallback n.mark (under c.name (count ks)) e [] false, refl)
end_grown s c ks asking = same ks
end_grown s c ks (by_run n r j rows) = same ks
end_grown s c ks (by_zone g e z) = by (kept_columns g.columns z.records)
  where
    by : (table : Option (List Filled)) → Grown ks (end_zones table g e z c ks).kids
    by None = same ks
    by (Some cs) = same ks
end_grown s c ks ending = same ks
end_grown s c ks passing = same ks
end_grown s c ks (made l) = same ks

chunk_grown : (s : Setting) (c : Desk) (ks : Tasks) (i : Item) (xs : List Item) (m : Mind) → Grown ks (take_chunk s c ks i xs m).kids
chunk_grown s c ks i xs (no_chunk o t) = same ks
chunk_grown s c ks i xs (one_chunk x) = same ks
chunk_grown s c ks i xs (by_chunk m t f e rows) = (started_task f m (under c.name (count ks)) (inside e) (i ∷ []) true, refl)
chunk_grown s c ks i xs (by_column t rows) = same ks
chunk_grown s c ks i xs (by_list t n first from rows) = same ks
chunk_grown s c ks i xs (by_block len minimum t x None rows) = same ks
chunk_grown s c ks i xs (by_block len minimum t x (Some j) rows) = same ks
chunk_grown s c ks i xs (by_size size x None rows) = same ks
chunk_grown s c ks i xs (by_size size x (Some j) rows) = same ks
chunk_grown s c ks i xs (as_one t x rows) = same ks
chunk_grown s c ks i xs (by_image which) = same ks
chunk_grown s c ks i xs as_is = same ks
chunk_grown s c ks i xs (by_probe n e) = same ks
chunk_grown s c ks i xs asking = same ks
chunk_grown s c ks i xs (by_run n r j rows) = same ks
chunk_grown s c ks i xs (by_zone g e z) = same ks
chunk_grown s c ks i xs ending = same ks
chunk_grown s c ks i xs passing = same ks
chunk_grown s c ks i xs (made l) = same ks

take_grown : (s : Setting) (c : Desk) (ks : Tasks) (inbox : List Item) → Grown ks (do_take s c ks inbox).kids
take_grown s c ks [] = end_grown s c ks c.mind
take_grown s c ks (i ∷ xs) = chunk_grown s c ks i xs c.mind

probe_grown : (s : Setting) (c : Desk) (ks : Tasks) (n : Coder) (e : Eof) (i : Item) (todo : List Next) (b : Bool) → Grown ks (probed s b n e i todo c ks).kids
probe_grown s c ks n e i todo true = same ks
probe_grown s c ks n e i todo false = (started_task n.fallback n.mark (under c.name (count ks)) e [] false, refl)

pub act_follows : (s : Setting) (number : ℕ) (c : Desk) (ks : Tasks) (todo : List Next) → Follows (touched_by todo) ks (do_act s number c ks todo).kids
act_follows s number c ks [] = take_grown s c ks c.inbox
act_follows s number c ks (put j i ∷ todo) = (i, refl)
act_follows s number c ks (hand_on n i ∷ todo) = (i, refl)
act_follows s number c ks (press which i ∷ todo) = same ks
act_follows s number c ks (probe n e i ∷ todo) = probe_grown s c ks n e i todo (is_dictionary (s.image n.options.probe i.1))
act_follows s number c ks (open_run n j e i ∷ todo) = (run_tasks n c.name j e i, refl)
act_follows s number c ks (end_run j i ∷ todo) = (i, refl)
act_follows s number c ks (append x ∷ todo) = same ks
act_follows s number c ks (shut_kids ∷ todo) = tt
act_follows s number c ks (join_kids f ∷ todo) = tt
act_follows s number c ks (start_table f e p ∷ todo) = (started_task f false (under c.name 1) (next e) (table_item e p ∷ []) true, refl)
act_follows s number c ks (leave_kid e ∷ todo) = same ks

-- so it is known
pub child_known : (x : Counts) (j : ℕ) (ks js : Tasks) → Follows (Child j) ks js → Knows x ks → KnowsFrom (j ∷ asked_of x) 0 (ready_of x) (kids_of x) js
child_known x j ks js f k =
    let e : 0 + j ≡ j = omega arith in
    subst (λ z. KnowsFrom (j ∷ asked_of x) 0 (ready_of x) (kids_of x) z) (sym f.1)
    (subst (λ z. KnowsFrom (z ∷ asked_of x) 0 (ready_of x) (kids_of x) (give j f.0 ks)) e (give_leaves j f.0 (asked_of x) 0 (ready_of x) (kids_of x) ks k))

-- of two: first the one's queue is closed, then the other's gets the item, and is closed
pub first_known : (x : Counts) (j : ℕ) (ks : Tasks) → Knows x ks → KnowsFrom (j ∷ asked_of x) 0 (ready_of x) (kids_of x) (shut_at j ks)
first_known x j ks k =
    let e : 0 + j ≡ j = omega arith in
    subst (λ z. KnowsFrom (z ∷ asked_of x) 0 (ready_of x) (kids_of x) (shut_at j ks)) e (shut_leaves j (asked_of x) 0 (ready_of x) (kids_of x) ks k)

pub second_known : (x : Counts) (j : ℕ) (ks js : Tasks) → Follows (Both j) ks js → Knows x (shut_at j ks) → KnowsFrom (suc j ∷ asked_of x) 0 (ready_of x) (kids_of x) js
second_known x j ks js f k =
    let e : 0 + suc j ≡ suc j = omega arith in
    let given : KnowsFrom ((0 + suc j) ∷ asked_of x) 0 (ready_of x) (kids_of x) (give (suc j) f.0 (shut_at j ks)) = give_leaves (suc j) f.0 (asked_of x) 0 (ready_of x) (kids_of x) (shut_at j ks) k in
    let twice = shut_leaves (suc j) ((0 + suc j) ∷ asked_of x) 0 (ready_of x) (kids_of x) (give (suc j) f.0 (shut_at j ks)) given in
    subst (λ z. KnowsFrom (suc j ∷ asked_of x) 0 (ready_of x) (kids_of x) z) (sym f.1)
    (subst (λ z. KnowsFrom (z ∷ asked_of x) 0 (ready_of x) (kids_of x) (end_at j f.0 ks)) e
    (knows_more ((0 + suc j) ∷ (0 + suc j) ∷ asked_of x) ((0 + suc j) ∷ asked_of x) 0 (ready_of x) (kids_of x) (end_at j f.0 ks) (there_within (0 + suc j) ((0 + suc j) ∷ asked_of x) (inl refl)) twice))

pub nothing_known : (x : Counts) (ks js : Tasks) → Follows Nothing ks js → Knows x ks → Knows x js
nothing_known x ks js f k = subst (λ z. Knows x z) (sym f.1) (add_leaves f.0 (asked_of x) 0 (ready_of x) (kids_of x) ks k)
