-- A step appends one pair at most, and then it isn't refused.
use Rattle.std.proofs.Common.{◌≡◌, ◌⊎◌, ◌&&◌, ◌==◌, ◌∷◌, ◌++◌, ℕ, Bool, true, false, cond, not, List, map, refl, sym, subst, inl, inr, Some, None, Option, []}
use Rattle.vx_model.specs.Ty.{Ty, list, ty_eq}
use Rattle.vx_model.specs.ChunkData.{piece_type}
use Rattle.vx_path.specs.Lists.{In}
use Rattle.vx_path.specs.Path.{Eof}
use Rattle.vx_path.proofs.Lists.{in_cases, from_map}
use Rattle.vx_zone_spec.specs.ZoneTable.{Filled, kept_columns}
use Rattle.vx_tasks.specs.Run.{nth}
use Rattle.vx_plan.specs.PlanData.{Setting, Item, Pair, What}
use Rattle.vx_plan.specs.DictNode.{is_dictionary}
use Rattle.vx_machine_turns.specs.Grouped.{Grouper, block_grouper, byte_grouper}
use Rattle.vx_machine_promises.specs.Write.{Answer, unasked, came, over}
use Rattle.vx_machine_state.specs.Zoned.{Zoner, Zones}
use Rattle.vx_machine_state.specs.Coder.{Coder}
use Rattle.vx_machine_state.specs.State.{Next, put, hand_on, press, probe, open_run, end_run, append, shut_kids, join_kids, start_table, leave_kid, Mind, no_chunk, one_chunk, by_chunk, by_column, by_list, by_block, by_size, as_one, by_zone, by_image, as_is, by_probe, asking, by_run, ending, passing, made, Desk, Tasks, no_tasks, task_then}
use Rattle.vx_machine_state.specs.Acts.{count, column_count, of_length, take_grouped, take_chunk, end_columns, end_lists, end_grouped, end_zones, probed, take_end, do_take, do_act}
use Rattle.vx_machine_state.specs.Moves.{Step, may_act, own_step, in_kids, in_rest, steps}
use Rattle.vx_machine_view.specs.Machine.{Phase, reading, giving, closing, finished, Machine, may_source, WholeStep, source_step, in_root, whole_steps}
use Rattle.vx_machine_runs.proofs.Misfits.{at_place}

abbrev pub Few : List Pair → Option What → Type 0
Few wrote refusal = (wrote ≡ []) ⊎ ((x : Pair) × (wrote ≡ x ∷ []) × (refusal ≡ None))

module _ (s : Setting) (next : ℕ) where
  columns_few : (b : Bool) (t : Ty) (rows : ℕ) (c : Desk) (ks : Tasks) → Few (end_columns b t rows c ks).wrote (end_columns b t rows c ks).refusal
  columns_few true t rows c ks = inl refl
  columns_few false t rows c ks = inl refl

  lists_few : (b : Bool) (t : Ty) (rows : ℕ) (c : Desk) (ks : Tasks) → Few (end_lists b t rows c ks).wrote (end_lists b t rows c ks).refusal
  lists_few true t rows c ks = inl refl
  lists_few false t rows c ks = inl refl

  grouped_end : {S : Type 0} (g : Grouper S) (x : S) (j : Option Item) (c : Desk) (ks : Tasks) → Few (end_grouped g x j c ks).wrote (end_grouped g x j c ks).refusal
  grouped_end g x None c ks = inl refl
  grouped_end g x (Some j) c ks = inl refl

  grouped_take : {S : Type 0} (g : Grouper S) (after : S → Option Item → ℕ → Mind) (b : Bool) (x : S) (j : Option Item) (rows : ℕ) (c : Desk) (ks : Tasks) (i : Item) (xs : List Item)
      → Few (take_grouped g after b x j rows c ks i xs).wrote (take_grouped g after b x j rows c ks i xs).refusal
  grouped_take g after b x None rows c ks i xs = inl refl
  grouped_take g after b x (Some j) rows c ks i xs = inl refl

  zones_few : (table : Option (List Filled)) (g : Zoner) (e : Eof) (z : Zones) (c : Desk) (ks : Tasks) → Few (end_zones table g e z c ks).wrote (end_zones table g e z c ks).refusal
  zones_few None g e z c ks = inl refl
  zones_few (Some cs) g e z c ks = inl refl

  probe_few : (b : Bool) (n : Coder) (e : Eof) (i : Item) (todo : List Next) (c : Desk) (ks : Tasks) → Few (probed s b n e i todo c ks).wrote (probed s b n e i todo c ks).refusal
  probe_few true n e i todo c ks = inl refl
  probe_few false n e i todo c ks = inl refl

  end_few : (c : Desk) (ks : Tasks) (mind : Mind) → Few (take_end s c ks mind).wrote (take_end s c ks mind).refusal
  end_few c ks (no_chunk o t) = inl refl
  end_few c ks (one_chunk x) = inl refl
  end_few c ks (by_chunk m t f e rows) = inl refl
  end_few c ks (by_column t rows) = columns_few ((count ks == 0) && (0 == column_count t)) t rows c ks
  end_few c ks (by_list t n first from rows) = lists_few first (list t n) rows c ks
  end_few c ks (by_block len minimum t x j rows) = grouped_end (block_grouper (of_length len minimum) t) x j c ks
  end_few c ks (by_size size x j rows) = grouped_end (byte_grouper size) x j c ks
  end_few c ks (as_one t x rows) = inl refl
  end_few c ks (by_zone g e z) = zones_few (kept_columns g.columns z.records) g e z c ks
  end_few c ks (by_image which) = inl refl
  end_few c ks as_is = inl refl
  end_few c ks (by_probe n e) = inl refl
  end_few c ks asking = inl refl
  end_few c ks (by_run n r j rows) = inl refl
  end_few c ks ending = inl refl
  end_few c ks passing = inl refl
  end_few c ks (made l) = inl refl

  take_few : (c : Desk) (ks : Tasks) (i : Item) (xs : List Item) (mind : Mind) → Few (take_chunk s c ks i xs mind).wrote (take_chunk s c ks i xs mind).refusal
  take_few c ks i xs (no_chunk o t) = inl refl
  take_few c ks i xs (one_chunk x) = inl refl
  take_few c ks i xs (by_chunk m t f e rows) = inl refl
  take_few c ks i xs (by_column t rows) = inl refl
  take_few c ks i xs (by_list t n first from rows) = inl refl
  take_few c ks i xs (by_block len minimum t x j rows) = grouped_take (block_grouper (of_length len minimum) t) (by_block len minimum t) (not (ty_eq (piece_type i.1) t)) x j rows c ks i xs
  take_few c ks i xs (by_size size x j rows) = grouped_take (byte_grouper size) (by_size size) false x j rows c ks i xs
  take_few c ks i xs (as_one t x rows) = inl refl
  take_few c ks i xs (by_zone g e z) = inl refl
  take_few c ks i xs (by_image which) = inl refl
  take_few c ks i xs as_is = inl refl
  take_few c ks i xs (by_probe n e) = inl refl
  take_few c ks i xs asking = inl refl
  take_few c ks i xs (by_run n r j rows) = inl refl
  take_few c ks i xs ending = inl refl
  take_few c ks i xs passing = inl refl
  take_few c ks i xs (made l) = inl refl

  taken_few : (c : Desk) (ks : Tasks) (xs : List Item) → Few (do_take s c ks xs).wrote (do_take s c ks xs).refusal
  taken_few c ks [] = end_few c ks c.mind
  taken_few c ks (i ∷ xs) = take_few c ks i xs c.mind

  act_few : (c : Desk) (ks : Tasks) (todo : List Next) → Few (do_act s next c ks todo).wrote (do_act s next c ks todo).refusal
  act_few c ks [] = taken_few c ks c.inbox
  act_few c ks (put j i ∷ todo) = inl refl
  act_few c ks (hand_on n i ∷ todo) = inl refl
  act_few c ks (press which i ∷ todo) = inl refl
  act_few c ks (probe n e i ∷ todo) = probe_few (is_dictionary (s.image n.options.probe i.1)) n e i todo c ks
  act_few c ks (open_run n j e i ∷ todo) = inl refl
  act_few c ks (end_run j i ∷ todo) = inl refl
  act_few c ks (append x ∷ todo) = inr ((x.id, x.bytes), refl, refl)
  act_few c ks (shut_kids ∷ todo) = inl refl
  act_few c ks (join_kids f ∷ todo) = inl refl
  act_few c ks (start_table f e p ∷ todo) = inl refl
  act_few c ks (leave_kid e ∷ todo) = inl refl

  steps_few : (all : List (List ℕ)) (cs : Tasks) (w : Step) → In w (steps s all next cs) → Few w.wrote w.refusal
  steps_few all no_tasks w i = absurd i
  steps_few all (task_then c ks r) w i =
      by (in_cases w (own ++ map (in_kids c r) (steps s all next ks)) (map (in_rest c ks) (steps s all next r)) i) (λ x j. steps_few all ks x j) (λ x j. steps_few all r x j)
    where
      own : List Step
      own = cond (may_act all c ks c.todo) (own_step c r (do_act s next c ks c.todo) ∷ []) []

      of_own : (b : Bool) → In w (cond b (own_step c r (do_act s next c ks c.todo) ∷ []) []) → Few w.wrote w.refusal
      of_own true (inl e) = subst (λ (z : Step). Few z.wrote z.refusal) (sym e) (act_few c ks c.todo)
      of_own true (inr x) = absurd x
      of_own false x = absurd x

      of_kid : (x : Step) × In x (steps s all next ks) × (w ≡ in_kids c r x) → ((x : Step) → In x (steps s all next ks) → Few x.wrote x.refusal) → Few w.wrote w.refusal
      of_kid (x, j, e) deeper = subst (λ (z : Step). Few z.wrote z.refusal) (sym e) (deeper x j)

      of_rest : (x : Step) × In x (steps s all next r) × (w ≡ in_rest c ks x) → ((x : Step) → In x (steps s all next r) → Few x.wrote x.refusal) → Few w.wrote w.refusal
      of_rest (x, j, e) others = subst (λ (z : Step). Few z.wrote z.refusal) (sym e) (others x j)

      of_front : In w own ⊎ In w (map (in_kids c r) (steps s all next ks)) → ((x : Step) → In x (steps s all next ks) → Few x.wrote x.refusal) → Few w.wrote w.refusal
      of_front (inl a) deeper = of_own (may_act all c ks c.todo) a
      of_front (inr b) deeper = of_kid (from_map (in_kids c r) w (steps s all next ks) b) deeper

      by : In w (own ++ map (in_kids c r) (steps s all next ks)) ⊎ In w (map (in_rest c ks) (steps s all next r)) → ((x : Step) → In x (steps s all next ks) → Few x.wrote x.refusal)
          → ((x : Step) → In x (steps s all next r) → Few x.wrote x.refusal) → Few w.wrote w.refusal
      by (inl a) deeper others = of_front (in_cases w own (map (in_kids c r) (steps s all next ks)) a) deeper
      by (inr b) deeper others = of_rest (from_map (in_rest c ks) w (steps s all next r) b) others

source_few : (a : Answer) (p : Phase) (root : Tasks) → Few (source_step a p root).wrote (source_step a p root).refusal
source_few unasked (reading ns) root = inl refl
source_few (came b) (reading ns) root = inl refl
source_few over (reading ns) root = inl refl
source_few a (giving ns i) root = inl refl
source_few a closing root = inl refl
source_few a finished root = inl refl

pub whole_few : (s : Setting) (all : List (List ℕ)) (number : ℕ) (a : Answer) (m : Machine) (k : ℕ) (w : WholeStep) → nth (whole_steps s all number a m) k ≡ Some w → Few w.wrote w.refusal
whole_few s all number a m k w at = by (at_place (may_source m.phase m.root) (source_step a m.phase m.root) (map (in_root m.phase) (steps s all number m.root)) k w at)
  where
    of_root : (y : Step) × In y (steps s all number m.root) × (w ≡ in_root m.phase y) → Few w.wrote w.refusal
    of_root (y, i, e) = subst (λ (z : WholeStep). Few z.wrote z.refusal) (sym e) (steps_few s number all m.root y i)

    by : ((k ≡ 0) × (source_step a m.phase m.root ≡ w)) ⊎ In w (map (in_root m.phase) (steps s all number m.root)) → Few w.wrote w.refusal
    by (inl (z, e)) = subst (λ (v : WholeStep). Few v.wrote v.refusal) e (source_few a m.phase m.root)
    by (inr i) = of_root (from_map (in_root m.phase) w (steps s all number m.root) i)
