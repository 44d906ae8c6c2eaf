-- The rows of layouts that are joined were counted before.
use Rattle.std.proofs.Common.{◌≡◌, ◌||◌, ◌&&◌, ◌==◌, ◌⊎◌, ◌∷◌, ◌++◌, ◌∙◌, ℕ, suc, Bool, true, false, cond, List, map, length, refl, sym, ap, subst, inl, inr, Option, Some, None, []}
use Rattle.vx_model.specs.Words.{total_by}
use Rattle.vx_model.specs.Ty.{Ty, list}
use Rattle.vx_model.specs.ChunkData.{ChunkData, held}
use Rattle.vx_layout_spec.specs.LayoutTree.{row_count}
use Rattle.vx_path.specs.Path.{Eof}
use Rattle.vx_plan.specs.DictNode.{is_dictionary}
use Rattle.vx_machine_turns.specs.Scripts.{filled}
use Rattle.vx_path.specs.Lists.{In}
use Rattle.vx_path.specs.Path.{Eof}
use Rattle.vx_path.proofs.Lists.{in_left, in_right, in_cases, from_map}
use Rattle.vx_tasks.specs.Task.{Join}
use Rattle.vx_plan.specs.PlanData.{Setting, Item}
use Rattle.vx_zone_spec.specs.ZoneTable.{Filled, kept_columns}
use Rattle.vx_machine_turns.specs.Locals.{ZonedNode, Local}
use Rattle.vx_machine_turns.specs.Acts.{Seed, Act, does, numbers_in, gifts, shut}
use Rattle.vx_machine_turns.specs.Readings.{number_reading}
use Rattle.vx_named_tasks.specs.Names.{Outset}
use Rattle.vx_machine_turns.specs.Source.{seed_at}
use Rattle.vx_machine_turns.specs.Fuels.{Fuel, less}
use Rattle.vx_machine_steps.specs.Tree.{Head, Tree, Leaf, Work, ahead, read}
use Rattle.vx_machine_steps.specs.Moves.{doing, due_todo, all_paths, all_over}
use Rattle.vx_machine_steps.specs.Laws.{JoinsFree}
use Rattle.vx_machine_promises.specs.Write.{Write, Future, Answer, unasked, came, over, depth}
use Rattle.vx_machine_state.specs.Zoned.{Zoner, Zones}
use Rattle.vx_machine_view.specs.Zoning.{put_each, zones_left}
use Rattle.vx_machine_state.specs.State.{fold_runs, Next, shut_kids, join_kids, Mind, no_chunk, one_chunk, by_chunk, by_column, by_list, by_block, by_size, as_one, by_image, as_is, by_probe, asking, by_run, by_zone, ending, passing, made, Desk, Tasks, no_tasks, task_then}
use Rattle.vx_machine_state.specs.Acts.{count, layouts_in, column_count, probed, take_chunk, end_columns, end_lists, end_zones, take_end, do_take, do_act, puts, hand_all}
use Rattle.vx_machine_state.specs.Coder.{Coder, coder_of}
use Rattle.vx_machine_state.specs.Coding.{Deed, puts_codes, puts_values, deed_nexts, runs_laid}
use Rattle.vx_machine_view.specs.Deeds.{deed_acts, run_types, Going}
use Rattle.vx_machine_state.specs.Moves.{Step, all_made, may_act, own_step, in_kids, in_rest, steps}
use Rattle.vx_machine_view.specs.Shows.{Counted, Stage, waits_first, waits_end, appends, splits, gathers_all, hands, hands_lists, shuts, joins_columns, regroups_rows, regroups_chunks, collects, presses, pressed, lets_out, asks_first, probes, falls_back, cuts, last_cuts, passes_on, passed, records_zones, closes_zones, joins_data, joins_zones, Done, Shows, types_of}
use Rattle.vx_machine_view.specs.Machine.{Phase, reading, giving, closing, finished, Machine, may_source, WholeStep, source_step, in_root, whole_steps}
use Rattle.vx_machine_view.specs.Whole.{form_of, phase_acts, source_from, root_depth, ShowsMachineAt}
use Rattle.vx_machine_view.proofs.Words.{and_left, numbers_in-append}
use Rattle.vx_machine_view.proofs.Feeding.{count_types}
use Rattle.vx_machine_view.proofs.Deeding.{types_length, runs_total}
use Rattle.vx_machine_view.proofs.Laying.{made_each}
use Rattle.vx_machine_view.proofs.Joining.{made_is, AllLaid, laid_all}

-- nothing is joined where an item or the end is taken

chunk_joins : (s : Setting) (c : Desk) (ks : Tasks) (i : Item) (xs : List Item) (mind : Mind) → (take_chunk s c ks i xs mind).joined ≡ []
chunk_joins s c ks i xs (no_chunk o t) = refl
chunk_joins s c ks i xs (one_chunk x) = refl
chunk_joins s c ks i xs (by_chunk m t f e rows) = refl
chunk_joins s c ks i xs (by_column t rows) = refl
chunk_joins s c ks i xs (by_list t n first from rows) = refl
chunk_joins s c ks i xs (by_block len minimum t x None rows) = refl
chunk_joins s c ks i xs (by_block len minimum t x (Some j) rows) = refl
chunk_joins s c ks i xs (by_size size x None rows) = refl
chunk_joins s c ks i xs (by_size size x (Some j) rows) = refl
chunk_joins s c ks i xs (as_one t x rows) = refl
chunk_joins s c ks i xs (by_zone g e z) = refl
chunk_joins s c ks i xs (by_image which) = refl
chunk_joins s c ks i xs as_is = refl
chunk_joins s c ks i xs (by_probe n e) = refl
chunk_joins s c ks i xs asking = refl
chunk_joins s c ks i xs (by_run n r j rows) = refl
chunk_joins s c ks i xs ending = refl
chunk_joins s c ks i xs passing = refl
chunk_joins s c ks i xs (made l) = refl

columns_join : (b : Bool) (t : Ty) (rows : ℕ) (c : Desk) (ks : Tasks) → (end_columns b t rows c ks).joined ≡ []
columns_join true t rows c ks = refl
columns_join false t rows c ks = refl

lists_join : (b : Bool) (t : Ty) (rows : ℕ) (c : Desk) (ks : Tasks) → (end_lists b t rows c ks).joined ≡ []
lists_join true t rows c ks = refl
lists_join false t rows c ks = refl

zones_join : (table : Option (List Filled)) (g : Zoner) (e : Eof) (z : Zones) (c : Desk) (ks : Tasks) → (end_zones table g e z c ks).joined ≡ []
zones_join None g e z c ks = refl
zones_join (Some cs) g e z c ks = refl

end_joins : (s : Setting) (c : Desk) (ks : Tasks) (mind : Mind) → (take_end s c ks mind).joined ≡ []
end_joins s c ks (no_chunk o t) = refl
end_joins s c ks (one_chunk x) = refl
end_joins s c ks (by_chunk m t f e rows) = refl
end_joins s c ks (by_column t rows) = columns_join ((count ks == 0) && (0 == column_count t)) t rows c ks
end_joins s c ks (by_list t n first from rows) = lists_join first (list t n) rows c ks
end_joins s c ks (by_block len minimum t x None rows) = refl
end_joins s c ks (by_block len minimum t x (Some j) rows) = refl
end_joins s c ks (by_size size x None rows) = refl
end_joins s c ks (by_size size x (Some j) rows) = refl
end_joins s c ks (as_one t x rows) = refl
end_joins s c ks (by_zone g e z) = zones_join (kept_columns g.columns z.records) g e z c ks
end_joins s c ks (by_image which) = refl
end_joins s c ks as_is = refl
end_joins s c ks (by_probe n e) = refl
end_joins s c ks asking = refl
end_joins s c ks (by_run n r j rows) = refl
end_joins s c ks ending = refl
end_joins s c ks passing = refl
end_joins s c ks (made l) = refl

take_joins : (s : Setting) (c : Desk) (ks : Tasks) (xs : List Item) → (do_take s c ks xs).joined ≡ []
take_joins s c ks [] = end_joins s c ks c.mind
take_joins s c ks (i ∷ xs) = chunk_joins s c ks i xs c.mind

probe_joins : (s : Setting) (b : Bool) (n : Coder) (e : Eof) (i : Item) (todo : List Next) (c : Desk) (ks : Tasks) → (probed s b n e i todo c ks).joined ≡ []
probe_joins s true n e i todo c ks = refl
probe_joins s false n e i todo c ks = refl

module _ (s : Setting) (number : List ℕ → ℕ) (next : ℕ) (all : List (List ℕ)) where
  pub idle_joins : (c : Desk) (ks : Tasks) → c.todo ≡ [] → (do_act s next c ks c.todo).joined ≡ []
  idle_joins c ks e = ap (λ z. (do_act s next c ks z).joined) e ∙ take_joins s c ks c.inbox

  puts_join : (c : Desk) (ks : Tasks) (j : ℕ) (p : List ℕ) (xs : List ChunkData) → (do_act s next c ks (puts j p xs)).joined ≡ []
  puts_join c ks j p [] = take_joins s c ks c.inbox
  puts_join c ks j p (x ∷ xs) = refl

  hands_join : (c : Desk) (ks : Tasks) (weight : ChunkData → ℕ) (outs : List Item) → (do_act s next c ks (hand_all weight outs)).joined ≡ []
  hands_join c ks weight [] = take_joins s c ks c.inbox
  hands_join c ks weight (i ∷ outs) = refl

  ends_join : (c : Desk) (ks : Tasks) (weight : ChunkData → ℕ) (outs : List Item) → (do_act s next c ks (hand_all weight outs ++ (shut_kids ∷ []))).joined ≡ []
  ends_join c ks weight [] = refl
  ends_join c ks weight (i ∷ outs) = refl

  each_joins : (c : Desk) (ks : Tasks) (outs : List Item) → (do_act s next c ks (put_each outs)).joined ≡ []
  each_joins c ks [] = take_joins s c ks c.inbox
  each_joins c ks (i ∷ outs) = refl

  data_joins : (c : Desk) (ks : Tasks) (n : ZonedNode) (z : Zones) (table : Option (List Filled)) → (do_act s next c ks (zones_left n z table)).joined ≡ []
  data_joins c ks n z None = refl
  data_joins c ks n z (Some cs) = refl

  deeds_join : (c : Desk) (ks : Tasks) (n : Coder) (ds : List Deed) → (do_act s next c ks (deed_nexts n ds)).joined ≡ []
  deeds_join c ks n [] = take_joins s c ks c.inbox
  deeds_join c ks n (puts_codes j e true i ∷ ds) = refl
  deeds_join c ks n (puts_codes j e false i ∷ ds) = refl
  deeds_join c ks n (puts_values j i ∷ ds) = refl

  nothing : (past : List Act) (ns : List ℕ) → ns ≡ [] → (n : ℕ) → In n ns → Counted past n
  nothing past ns e n i = absurd (subst (In n) e i)

  pub own_joins : (d : Fuel) (c : Desk) (ks : Tasks) (q : Seed) (past todo : List Act) (l : Local) (off : Bool) (hs : Tree) → Stage s d c.mind c.todo ks q past todo l off hs → Shows s number d q 0 ks hs
      → (todo ≡ does Join ∷ [] → all_over hs ≡ true → all_paths hs ≡ []) → may_act all c ks c.todo ≡ true → (n : ℕ) → In n (do_act s next c ks c.todo).joined → Counted past n
  own_joins d c ks q past todo l off hs (waits_first o t k w) sh free m = nothing past (do_act s next c ks c.todo).joined (idle_joins c ks w.idle)
  own_joins d c ks q past todo l off hs (waits_end o t x b k w) sh free m = nothing past (do_act s next c ks c.todo).joined (idle_joins c ks w.idle)
  own_joins d c ks q past todo l off hs (appends x k w) sh free m = nothing past (do_act s next c ks c.todo).joined (ap (λ z. (do_act s next c ks z).joined) w.left_is)
  own_joins d c ks q past todo l off hs (splits n e nm t sp b en u w) sh free m = nothing past (do_act s next c ks c.todo).joined (idle_joins c ks w.idle)
  own_joins d c ks q past todo l off hs (gathers_all t u w) sh free m = λ n i. by n (subst (In n) (ap (λ z. (do_act s next c ks z).joined) w.left_is) i)
    where
      made_all : all_made ks ≡ true
      made_all = and_left (all_made ks) true (sym (ap (may_act all c ks) w.left_is) ∙ m)

      there : AllLaid s number ks hs
      there = laid_all s number d q 0 ks hs sh made_all (free w.rest (sym (made_is s number d q 0 ks hs sh) ∙ made_all))

      by : (n : ℕ) → In n (total_by row_count (layouts_in ks) ∷ []) → Counted past n
      by n (inl e) = subst (Counted past) (sym (e ∙ there.rows)) u
      by n (inr i) = absurd i
  own_joins d c ks q past todo l off hs (hands n rows j p xs ws t v w) sh free m = nothing past (do_act s next c ks c.todo).joined (ap (λ z. (do_act s next c ks z).joined) w.left_is ∙ puts_join c ks j p xs)
  own_joins d c ks q past todo l off hs (hands_lists n first from rows j p xs ws t v w) sh free m =
      nothing past (do_act s next c ks c.todo).joined (ap (λ z. (do_act s next c ks z).joined) w.left_is ∙ puts_join c ks j p xs)
  own_joins d c ks q past todo l off hs (shuts t rows k w) sh free m = nothing past (do_act s next c ks c.todo).joined (ap (λ z. (do_act s next c ks z).joined) w.left_is)
  own_joins d c ks q past todo l off hs (joins_columns t rows k w) sh free m = nothing past (do_act s next c ks c.todo).joined (ap (λ z. (do_act s next c ks z).joined) w.left_is)
  own_joins d c ks q past todo l off hs (regroups_rows o n x j rows outs tj nh w) sh free m = nothing past (do_act s next c ks c.todo).joined (ap (λ z. (do_act s next c ks z).joined) w.left_is ∙ hands_join c ks (λ p. 0) outs)
  own_joins d c ks q past todo l off hs (regroups_chunks size n x j rows outs tx tj nh w) sh free m = nothing past (do_act s next c ks c.todo).joined (ap (λ z. (do_act s next c ks z).joined) w.left_is ∙ hands_join c ks held outs)
  own_joins d c ks q past todo l off hs (collects n x rows w) sh free m = nothing past (do_act s next c ks c.todo).joined (idle_joins c ks w.left_is)
  own_joins d c ks q past todo l off hs (presses n t i ti w) sh free m = nothing past (do_act s next c ks c.todo).joined (ap (λ z. (do_act s next c ks z).joined) w.left_is)
  own_joins d c ks q past todo l off hs (pressed n t outs w) sh free m = nothing past (do_act s next c ks c.todo).joined (ap (λ z. (do_act s next c ks z).joined) w.left_is ∙ hands_join c ks (λ p. 0) outs)
  own_joins d c ks q past todo l off hs (lets_out n t outs w) sh free m = nothing past (do_act s next c ks c.todo).joined (ap (λ z. (do_act s next c ks z).joined) w.left_is ∙ hands_join c ks (λ p. 0) outs)
  own_joins d c ks q past todo l off hs (asks_first n e nk w) sh free m = nothing past (do_act s next c ks c.todo).joined (idle_joins c ks w.idle)
  own_joins d c ks q past todo l off hs (probes n i e nk w) sh free m = nothing past (do_act s next c ks c.todo).joined (ap (λ z. (do_act s next c ks z).joined) w.left_is ∙ probe_joins s (is_dictionary (s.image n.options.probe i.1)) (coder_of n) n.eof i [] c ks)
  own_joins d c ks q past todo l off hs (falls_back t outs w) sh free m = nothing past (do_act s next c ks c.todo).joined (ap (λ z. (do_act s next c ks z).joined) w.left_is ∙ hands_join c ks (λ p. 0) outs)
  own_joins d c ks q past todo l off hs (cuts n r i rows e ds k u w) sh free m = nothing past (do_act s next c ks c.todo).joined (ap (λ z. (do_act s next c ks z).joined) w.left_is ∙ deeds_join c ks (coder_of n) ds)
  own_joins d c ks q past todo l off hs (last_cuts n rows ns e ds k u sum is go w) sh free m = by_last ds w.left_is w.rest is go
    where
      of_join : c.todo ≡ join_kids (fold_runs n.type ns) ∷ [] → todo ≡ does Join ∷ [] → types_of hs ≡ run_types n.options n.type (length ns) → (x : ℕ) → In x (do_act s next c ks c.todo).joined → Counted past x
      of_join left rest types x i = by x (subst (In x) (ap (λ z. (do_act s next c ks z).joined) left) i)
        where
          made_all : all_made ks ≡ true
          made_all = and_left (all_made ks) _ (sym (ap (may_act all c ks) left) ∙ m)

          total : total_by row_count (runs_laid n.type ns (layouts_in ks)) ≡ rows
          total = runs_total n.type ns (layouts_in ks) (made_each s number d q 0 ks hs sh made_all ∙ count_types s number d q 0 ks hs sh ∙ ap length types ∙ types_length n.options n.type (length ns)) ∙ sym sum

          by : (x : ℕ) → In x (total_by row_count (runs_laid n.type ns (layouts_in ks)) ∷ []) → Counted past x
          by x (inl e) = subst (Counted past) (sym (e ∙ total)) u
          by x (inr i) = absurd i

      by_last : (ds : List Deed) → c.todo ≡ deed_nexts (coder_of n) ds ++ (join_kids (fold_runs n.type ns) ∷ []) → todo ≡ filled [] (deed_acts s n ds ++ (does Join ∷ [])) → types_of hs ≡ run_types n.options n.type e → Going n e ds (length ns)
          → (x : ℕ) → In x (do_act s next c ks c.todo).joined → Counted past x
      by_last [] left rest types go = of_join left rest (types ∙ ap (run_types n.options n.type) go)
      by_last (puts_codes j v true i ∷ ds) left rest types go = nothing past (do_act s next c ks c.todo).joined (ap (λ z. (do_act s next c ks z).joined) left)
      by_last (puts_codes j v false i ∷ ds) left rest types go = nothing past (do_act s next c ks c.todo).joined (ap (λ z. (do_act s next c ks z).joined) left)
      by_last (puts_values j i ∷ ds) left rest types go = nothing past (do_act s next c ks c.todo).joined (ap (λ z. (do_act s next c ks z).joined) left)
  own_joins d c ks q past todo l off hs (passes_on t weight outs one to w) sh free m = nothing past (do_act s next c ks c.todo).joined (ap (λ z. (do_act s next c ks z).joined) w.left_is ∙ ends_join c ks weight outs)
  own_joins d c ks q past todo l off hs (passed t one w) sh free m = nothing past (do_act s next c ks c.todo).joined (idle_joins c ks w.left_is)
  own_joins d c ks q past todo l off hs (records_zones n z outs iz one rw to w) sh free m = nothing past (do_act s next c ks c.todo).joined (ap (λ v. (do_act s next c ks v).joined) w.left_is ∙ each_joins c ks outs)
  own_joins d c ks q past todo l off hs (closes_zones n z table iz one w) sh free m = nothing past (do_act s next c ks c.todo).joined (ap (λ v. (do_act s next c ks v).joined) w.left_is)
  own_joins d c ks q past todo l off hs (joins_data n z table iz one w) sh free m = nothing past (do_act s next c ks c.todo).joined (ap (λ v. (do_act s next c ks v).joined) w.left_is ∙ data_joins c ks n z table)
  own_joins d c ks q past todo l off hs (joins_zones n rows cs both w) sh free m = nothing past (do_act s next c ks c.todo).joined (ap (λ v. (do_act s next c ks v).joined) w.left_is)

  -- of all tasks: what is joined is none, or is among the numbers that are read off the state
  pub joins_counted : (d : Fuel) (q : Seed) (j : ℕ) (cs : Tasks) (t : Tree) (acts : List Act) → Shows s number d q j cs t → JoinsFree s t → (w : Step) → In w (steps s all next cs) → (n : ℕ) → In n w.joined
      → (n ≡ 0) ⊎ In n (read s number_reading d j acts t)
  joins_counted d q j no_tasks t acts sh jf w i n k = absurd i
  joins_counted d q j (task_then c ks more) Leaf acts sh jf w i n k = absurd sh
  joins_counted d q j (task_then c ks more) (Work h hs r) acts sh jf w i n k =
      all_of (in_cases w (cond (may_act all c ks c.todo) (own_step c more (do_act s next c ks c.todo) ∷ []) [] ++ map (in_kids c more) (steps s all next ks)) (map (in_rest c ks) (steps s all next more)) i)
      (λ v x y z. joins_counted (less d h.seed.type) h.seed 0 ks hs to_do v jf.1 x y n z)
      (λ x y z. joins_counted d q (suc j) more r acts sh.2 jf.2 x y n z)
    where
      to_do : List Act
      to_do = ahead s h (gifts j acts) (h.closed || shut j acts)

      own_list : List ℕ
      own_list = numbers_in (h.past ++ to_do)

      kid_list : List ℕ
      kid_list = read s number_reading (less d h.seed.type) 0 to_do hs

      rest_list : List ℕ
      rest_list = read s number_reading d (suc j) acts r

      lift_own : Counted h.past n → (n ≡ 0) ⊎ In n (own_list ++ (kid_list ++ rest_list))
      lift_own (inl e) = inl e
      lift_own (inr x) = inr (in_left n own_list (kid_list ++ rest_list) (subst (In n) (sym (numbers_in-append h.past to_do)) (in_left n (numbers_in h.past) (numbers_in to_do) x)))

      lift_kid : (n ≡ 0) ⊎ In n kid_list → (n ≡ 0) ⊎ In n (own_list ++ (kid_list ++ rest_list))
      lift_kid (inl e) = inl e
      lift_kid (inr x) = inr (in_right n own_list (kid_list ++ rest_list) (in_left n kid_list rest_list x))

      lift_rest : (n ≡ 0) ⊎ In n rest_list → (n ≡ 0) ⊎ In n (own_list ++ (kid_list ++ rest_list))
      lift_rest (inl e) = inl e
      lift_rest (inr x) = inr (in_right n own_list (kid_list ++ rest_list) (in_right n kid_list rest_list x))

      of_own : (b : Bool) → may_act all c ks c.todo ≡ b → In w (cond b (own_step c more (do_act s next c ks c.todo) ∷ []) [])
          → (Stage s (less d h.seed.type) c.mind c.todo ks h.seed h.past h.todo h.local h.over hs × Shows s number (less d h.seed.type) h.seed 0 ks hs)
          ⊎ Done number c.mind c.todo ks h.past h.todo h.over hs → Counted h.past n
      of_own true m (inl e) (inl (st, v)) = own_joins (less d h.seed.type) c ks h.seed h.past h.todo h.local h.over hs st v (λ e o. jf.0 (doing h (does Join) [] h.local h.over h.inbox) (ap (due_todo s h) e) refl o) m n (subst (λ (z : Step). In n z.joined) e k)
      of_own true m (inl e) (inr f) = nothing h.past (do_act s next c ks c.todo).joined (idle_joins c ks f.idle) n (subst (λ (z : Step). In n z.joined) e k)
      of_own true m (inr x) v = absurd x
      of_own false m x v = absurd x

      of_kid : (x : Step) × In x (steps s all next ks) × (w ≡ in_kids c more x)
          → (Stage s (less d h.seed.type) c.mind c.todo ks h.seed h.past h.todo h.local h.over hs × Shows s number (less d h.seed.type) h.seed 0 ks hs)
          ⊎ Done number c.mind c.todo ks h.past h.todo h.over hs
          → (Shows s number (less d h.seed.type) h.seed 0 ks hs → (v : Step) → In v (steps s all next ks) → In n v.joined → (n ≡ 0) ⊎ In n kid_list) → (n ≡ 0) ⊎ In n kid_list
      of_kid (x, y, e) (inl (st, v)) deeper = deeper v x y (subst (λ (z : Step). In n z.joined) e k)
      of_kid (x, y, e) (inr f) deeper = absurd (subst (λ z. In x (steps s all next z)) f.no_kids y)

      of_rest : (x : Step) × In x (steps s all next more) × (w ≡ in_rest c ks x) → ((v : Step) → In v (steps s all next more) → In n v.joined → (n ≡ 0) ⊎ In n rest_list) → (n ≡ 0) ⊎ In n rest_list
      of_rest (x, y, e) others = others x y (subst (λ (z : Step). In n z.joined) e k)

      of_front : In w (cond (may_act all c ks c.todo) (own_step c more (do_act s next c ks c.todo) ∷ []) []) ⊎ In w (map (in_kids c more) (steps s all next ks))
          → (Shows s number (less d h.seed.type) h.seed 0 ks hs → (v : Step) → In v (steps s all next ks) → In n v.joined → (n ≡ 0) ⊎ In n kid_list)
          → (n ≡ 0) ⊎ In n (own_list ++ (kid_list ++ rest_list))
      of_front (inl a) deeper = lift_own (of_own (may_act all c ks c.todo) refl a sh.1)
      of_front (inr b) deeper = lift_kid (of_kid (from_map (in_kids c more) w (steps s all next ks) b) sh.1 deeper)

      all_of : In w (cond (may_act all c ks c.todo) (own_step c more (do_act s next c ks c.todo) ∷ []) [] ++ map (in_kids c more) (steps s all next ks)) ⊎ In w (map (in_rest c ks) (steps s all next more))
          → (Shows s number (less d h.seed.type) h.seed 0 ks hs → (v : Step) → In v (steps s all next ks) → In n v.joined → (n ≡ 0) ⊎ In n kid_list)
          → ((v : Step) → In v (steps s all next more) → In n v.joined → (n ≡ 0) ⊎ In n rest_list) → (n ≡ 0) ⊎ In n (own_list ++ (kid_list ++ rest_list))
      all_of (inl a) deeper others =
          of_front (in_cases w (cond (may_act all c ks c.todo) (own_step c more (do_act s next c ks c.todo) ∷ []) []) (map (in_kids c more) (steps s all next ks)) a) deeper
      all_of (inr b) deeper others = lift_rest (of_rest (from_map (in_rest c ks) w (steps s all next more) b) others)

-- the source joins nothing
pub source_joins : (a : Answer) (p : Phase) (root : Tasks) → (source_step a p root).joined ≡ []
source_joins unasked (reading ns) root = refl
source_joins (came b) (reading ns) root = refl
source_joins over (reading ns) root = refl
source_joins a (giving ns i) root = refl
source_joins a closing root = refl
source_joins a finished root = refl

-- of the whole machine
pub whole_joins : (g : Write) (o : Outset) (number : List ℕ → ℕ) (next : ℕ) (all : List (List ℕ)) (a : Answer) (f : Future) (m : Machine) (t : Tree) (sh : ShowsMachineAt g o number m f t)
    → JoinsFree g.setting sh.kids
    → (w : WholeStep) → In w (whole_steps g.setting all next a m) → (n : ℕ) → In n w.joined → (n ≡ 0) ⊎ In n (read g.setting number_reading (depth g) 0 [] t)
whole_joins g o number next all a f m t sh jf w i n k =
    subst (λ z. (n ≡ 0) ⊎ In n (read g.setting number_reading (depth g) 0 [] z)) (sym sh.tree_is)
    (all_of (in_cases w (cond (may_source m.phase m.root) (source_step a m.phase m.root ∷ []) []) (map (in_root m.phase) (steps g.setting all next m.root)) i))
  where
    src : Head
    src = source_from g o sh.past (phase_acts m.phase f)

    to_do : List Act
    to_do = ahead g.setting src [] (src.closed || false)

    own_list : List ℕ
    own_list = numbers_in (sh.past ++ to_do)

    kid_list : List ℕ
    kid_list = read g.setting number_reading (root_depth g) 0 to_do sh.kids

    rest_list : List ℕ
    rest_list = read g.setting number_reading (depth g) 1 [] Leaf

    of_own : (b : Bool) → In w (cond b (source_step a m.phase m.root ∷ []) []) → ⊥
    of_own true (inl e) = subst (In n) (ap (λ (z : WholeStep). z.joined) e ∙ source_joins a m.phase m.root) k
    of_own true (inr x) = x
    of_own false x = x

    of_root : (x : Step) × In x (steps g.setting all next m.root) × (w ≡ in_root m.phase x) → (n ≡ 0) ⊎ In n kid_list
    of_root (x, y, e) = joins_counted g.setting number next all (root_depth g) (seed_at (form_of g) g.mark o) 0 m.root sh.kids to_do sh.root jf x y n (subst (λ (z : WholeStep). In n z.joined) e k)

    lift : (n ≡ 0) ⊎ In n kid_list → (n ≡ 0) ⊎ In n (own_list ++ (kid_list ++ rest_list))
    lift (inl e) = inl e
    lift (inr x) = inr (in_right n own_list (kid_list ++ rest_list) (in_left n kid_list rest_list x))

    all_of : In w (cond (may_source m.phase m.root) (source_step a m.phase m.root ∷ []) []) ⊎ In w (map (in_root m.phase) (steps g.setting all next m.root))
        → (n ≡ 0) ⊎ In n (own_list ++ (kid_list ++ rest_list))
    all_of (inl x) = absurd (of_own (may_source m.phase m.root) x)
    all_of (inr x) = lift (of_root (from_map (in_root m.phase) w (steps g.setting all next m.root) x))
