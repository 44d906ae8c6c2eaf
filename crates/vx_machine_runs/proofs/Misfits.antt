-- A chunk of another type comes of the source alone.
use Rattle.std.proofs.Common.{◌≡◌, ◌+◌, ◌&&◌, ◌==◌, ◌⊎◌, ◌∷◌, ◌++◌, ◌∙◌, ℕ, zero, suc, Bool, true, false, not, cond, List, map, length, refl, sym, ap, subst, inl, inr, Option, Some, None, []}
use Rattle.std.proofs.lemmas.Bool.{true≢false}
use Rattle.vx_named_tasks.specs.Names.{Names}
use Rattle.vx_model.specs.Ty.{Ty, list, struct}
use Rattle.vx_model.specs.CellData.{CellData}
use Rattle.vx_model.specs.ChunkData.{ChunkData, held}
use Rattle.vx_rules.specs.Blocks.{block_len}
use Rattle.vx_path.specs.Lists.{In}
use Rattle.vx_path.specs.Path.{Eof}
use Rattle.vx_path.specs.Path as path
use Rattle.vx_path.proofs.Lists.{in_cases, from_map}
use Rattle.vx_tasks.specs.Run.{nth}
use Rattle.vx_zone_spec.specs.ZoneTable.{Filled, kept_columns}
use Rattle.vx_plan.specs.PlanData.{Setting, Item, rows_in}
use Rattle.vx_plan.specs.DictNode.{is_dictionary}
use Rattle.vx_plan.specs.FlatNode.{inlined}
use Rattle.vx_plan.specs.Number.{number_of}
use Rattle.vx_machine_turns.specs.Acts.{Seed, Act}
use Rattle.vx_machine_turns.specs.Locals.{Local, RunsSoFar, ZonedNode}
use Rattle.vx_machine_turns.specs.Fuels.{Fuel, less}
use Rattle.vx_machine_turns.specs.Source.{source_seed}
use Rattle.vx_machine_steps.specs.Tree.{Tree, Leaf, Work}
use Rattle.vx_machine_promises.specs.Write.{Answer, unasked, came, over, planned}
use Rattle.vx_machine_promises.specs.Reached.{Reached}
use Rattle.vx_machine_state.specs.Zoned.{Zoner, Zones}
use Rattle.vx_machine_view.specs.Zoning.{zoner_of, put_each, zones_left}
use Rattle.vx_machine_state.specs.Coder.{Coder, coder_of}
use Rattle.vx_machine_state.specs.Coding.{Deed, puts_codes, puts_values, deed_nexts}
use Rattle.vx_machine_state.specs.State.{Fold, fold_runs, Next, shut_kids, join_kids, Mind, no_chunk, one_chunk, by_chunk, by_column, by_list, by_block, by_size, as_one, by_image, as_is, by_probe, asking, by_run, by_zone, ending, passing, made, Desk, Tasks, no_tasks, task_then}
use Rattle.vx_machine_state.specs.Acts.{count, column_count, probed, take_chunk, end_columns, end_lists, end_zones, take_end, do_take, do_act, puts, hand_all}
use Rattle.vx_machine_state.specs.Moves.{Step, may_act, own_step, in_kids, in_rest, steps}
use Rattle.vx_machine_state.specs.Typed.{AllTyped}
use Rattle.vx_machine_view.specs.Shows.{Stage, waits_first, waits_end, appends, splits, gathers_all, hands, hands_lists, shuts, joins_columns, regroups_rows, regroups_chunks, collects, presses, pressed, lets_out, asks_first, probes, falls_back, cuts, last_cuts, passes_on, passed, records_zones, closes_zones, joins_data, joins_zones, Done, Shows}
use Rattle.vx_machine_view.specs.Machine.{Phase, reading, giving, closing, finished, may_source, WholeStep, source_step, in_root, machine_ids}
use Rattle.vx_machine_view.specs.Whole.{form_of, root_depth}
use Rattle.vx_machine_view.specs.Underway.{Showing}
use Rattle.vx_machine_view.proofs.Words.{type_fits}
use Rattle.vx_machine_runs.specs.Runs.{tracked}
use Rattle.vx_machine_runs.specs.Steps.{MisfitIsRead}
use Rattle.vx_machine_runs.proofs.Counting.{nth_in}
use Rattle.vx_machine_runs.proofs.Ending.{none_later, open_none}

-- ---- a task's own act

columns_end : (b : Bool) (t : Ty) (rows : ℕ) (c : Desk) (ks : Tasks) → (end_columns b t rows c ks).misfit ≡ false
columns_end true t rows c ks = refl
columns_end false t rows c ks = refl

lists_end : (b : Bool) (t : Ty) (rows : ℕ) (c : Desk) (ks : Tasks) → (end_lists b t rows c ks).misfit ≡ false
lists_end true t rows c ks = refl
lists_end false t rows c ks = refl

zones_end : (table : Option (List Filled)) (g : Zoner) (e : Eof) (z : Zones) (c : Desk) (ks : Tasks) → (end_zones table g e z c ks).misfit ≡ false
zones_end None g e z c ks = refl
zones_end (Some cs) g e z c ks = refl

ends_fit : (s : Setting) (c : Desk) (ks : Tasks) (mind : Mind) → (take_end s c ks mind).misfit ≡ false
ends_fit s c ks (no_chunk o t) = refl
ends_fit s c ks (one_chunk x) = refl
ends_fit s c ks (by_chunk m t f e rows) = refl
ends_fit s c ks (by_column t rows) = columns_end ((count ks == 0) && (0 == column_count t)) t rows c ks
ends_fit s c ks (by_list t n first from rows) = lists_end first (list t n) rows c ks
ends_fit s c ks (by_block len minimum t x None rows) = refl
ends_fit s c ks (by_block len minimum t x (Some j) rows) = refl
ends_fit s c ks (by_size size x None rows) = refl
ends_fit s c ks (by_size size x (Some j) rows) = refl
ends_fit s c ks (as_one t x rows) = refl
ends_fit s c ks (by_image which) = refl
ends_fit s c ks as_is = refl
ends_fit s c ks (by_probe n e) = refl
ends_fit s c ks asking = refl
ends_fit s c ks (by_run n r j rows) = refl
ends_fit s c ks (by_zone g e z) = zones_end (kept_columns g.columns z.records) g e z c ks
ends_fit s c ks ending = refl
ends_fit s c ks passing = refl
ends_fit s c ks (made l) = refl

module _ (s : Setting) (number : List ℕ → ℕ) (next : ℕ) (all : List (List ℕ)) where
  -- each chunk in these queues is one that the mind takes
  abbrev Takes : Desk → Tasks → List Item → Mind → Type 0
  Takes c ks [] mind = Unit {0}
  Takes c ks (i ∷ xs) mind = (take_chunk s c ks i xs mind).misfit ≡ false

  take_fits : (c : Desk) (ks : Tasks) (xs : List Item) → Takes c ks xs c.mind → (do_take s c ks xs).misfit ≡ false
  take_fits c ks [] t = ends_fit s c ks c.mind
  take_fits c ks (i ∷ xs) t = t

  idle_fits : (c : Desk) (ks : Tasks) → c.todo ≡ [] → Takes c ks c.inbox c.mind → (do_act s next c ks c.todo).misfit ≡ false
  idle_fits c ks e t = ap (λ z. (do_act s next c ks z).misfit) e ∙ take_fits c ks c.inbox t

  -- in mind there is anything but columns
  takes_first : (c : Desk) (ks : Tasks) (xs : List Item) (mind : Mind) → ((i : Item) (xs : List Item) → (take_chunk s c ks i xs mind).misfit ≡ false) → c.mind ≡ mind → Takes c ks xs c.mind
  takes_first c ks [] mind h e = tt
  takes_first c ks (i ∷ xs) mind h e = ap (λ z. (take_chunk s c ks i xs z).misfit) e ∙ h i xs

  takes_columns : (c : Desk) (ks : Tasks) (xs : List Item) (t : Ty) (rows : ℕ) → c.mind ≡ by_column t rows → AllTyped t xs → Takes c ks xs c.mind
  takes_columns c ks [] t rows e ty = tt
  takes_columns c ks (i ∷ xs) t rows e ty = ap (λ z. (take_chunk s c ks i xs z).misfit) e ∙ ap not (type_fits t i.1 ty.0)

  takes_lists : (c : Desk) (ks : Tasks) (xs : List Item) (t : Ty) (n first : Bool) (from rows : ℕ) → c.mind ≡ by_list t n first from rows → AllTyped (list t n) xs → Takes c ks xs c.mind
  takes_lists c ks [] t n first from rows e ty = tt
  takes_lists c ks (i ∷ xs) t n first from rows e ty = ap (λ z. (take_chunk s c ks i xs z).misfit) e ∙ ap not (type_fits (list t n) i.1 ty.0)

  takes_blocks : (c : Desk) (ks : Tasks) (xs : List Item) (len minimum : ℕ) (t : Ty) (x : List CellData) (j : Option Item) (rows : ℕ) → c.mind ≡ by_block len minimum t x j rows → AllTyped t xs → Takes c ks xs c.mind
  takes_blocks c ks [] len minimum t x j rows e ty = tt
  takes_blocks c ks (i ∷ xs) len minimum t x None rows e ty = ap (λ z. (take_chunk s c ks i xs z).misfit) e ∙ ap not (type_fits t i.1 ty.0)
  takes_blocks c ks (i ∷ xs) len minimum t x (Some p) rows e ty = ap (λ z. (take_chunk s c ks i xs z).misfit) e ∙ ap not (type_fits t i.1 ty.0)

  takes_sizes : (c : Desk) (ks : Tasks) (xs : List Item) (size : ℕ) (x : List ChunkData) (j : Option Item) (rows : ℕ) → c.mind ≡ by_size size x j rows → Takes c ks xs c.mind
  takes_sizes c ks [] size x j rows e = tt
  takes_sizes c ks (i ∷ xs) size x None rows e = ap (λ z. (take_chunk s c ks i xs z).misfit) e
  takes_sizes c ks (i ∷ xs) size x (Some p) rows e = ap (λ z. (take_chunk s c ks i xs z).misfit) e

  takes_all : (c : Desk) (ks : Tasks) (xs : List Item) (t : Ty) (x : Option (List ℕ × List ChunkData)) (rows : ℕ) → c.mind ≡ as_one t x rows → AllTyped t xs → Takes c ks xs c.mind
  takes_all c ks [] t x rows e ty = tt
  takes_all c ks (i ∷ xs) t x rows e ty = ap (λ z. (take_chunk s c ks i xs z).misfit) e ∙ ap not (type_fits t i.1 ty.0)

  takes_probe : (c : Desk) (ks : Tasks) (xs : List Item) (n : Coder) (e : Eof) → c.mind ≡ by_probe n e → AllTyped n.type xs → Takes c ks xs c.mind
  takes_probe c ks [] n e q ty = tt
  takes_probe c ks (i ∷ xs) n e q ty = ap (λ z. (take_chunk s c ks i xs z).misfit) q ∙ ap not (type_fits n.type i.1 ty.0)

  takes_runs : (c : Desk) (ks : Tasks) (xs : List Item) (n : Coder) (r : RunsSoFar) (j : Item) (rows : ℕ) → c.mind ≡ by_run n r j rows → AllTyped n.type xs → Takes c ks xs c.mind
  takes_runs c ks [] n r j rows q ty = tt
  takes_runs c ks (i ∷ xs) n r j rows q ty = ap (λ z. (take_chunk s c ks i xs z).misfit) q ∙ ap not (type_fits n.type i.1 ty.0)

  probe_fits : (b : Bool) (n : Coder) (e : Eof) (i : Item) (todo : List Next) (c : Desk) (ks : Tasks) → (probed s b n e i todo c ks).misfit ≡ false
  probe_fits true n e i todo c ks = refl
  probe_fits false n e i todo c ks = refl

  deeds_fit : (c : Desk) (ks : Tasks) (n : Coder) (ds : List Deed) → Takes c ks c.inbox c.mind → (do_act s next c ks (deed_nexts n ds)).misfit ≡ false
  deeds_fit c ks n [] t = take_fits c ks c.inbox t
  deeds_fit c ks n (puts_codes j e true i ∷ ds) t = refl
  deeds_fit c ks n (puts_codes j e false i ∷ ds) t = refl
  deeds_fit c ks n (puts_values j i ∷ ds) t = refl

  last_fit : (c : Desk) (ks : Tasks) (n : Coder) (ds : List Deed) (f : Fold) → (do_act s next c ks (deed_nexts n ds ++ (join_kids f ∷ []))).misfit ≡ false
  last_fit c ks n [] f = refl
  last_fit c ks n (puts_codes j e true i ∷ ds) f = refl
  last_fit c ks n (puts_codes j e false i ∷ ds) f = refl
  last_fit c ks n (puts_values j i ∷ ds) f = refl

  takes_zones : (c : Desk) (ks : Tasks) (xs : List Item) (g : Zoner) (e : Eof) (z : Zones) → c.mind ≡ by_zone g e z → AllTyped g.type xs → Takes c ks xs c.mind
  takes_zones c ks [] g e z m ty = tt
  takes_zones c ks (i ∷ xs) g e z m ty = ap (λ v. (take_chunk s c ks i xs v).misfit) m ∙ ap not (type_fits g.type i.1 ty.0)

  each_fits : (c : Desk) (ks : Tasks) (outs : List Item) → Takes c ks c.inbox c.mind → (do_act s next c ks (put_each outs)).misfit ≡ false
  each_fits c ks [] t = take_fits c ks c.inbox t
  each_fits c ks (i ∷ outs) t = refl

  data_fits : (c : Desk) (ks : Tasks) (n : ZonedNode) (z : Zones) (table : Option (List Filled)) → (do_act s next c ks (zones_left n z table)).misfit ≡ false
  data_fits c ks n z None = refl
  data_fits c ks n z (Some cs) = refl

  hands_fit : (c : Desk) (ks : Tasks) (weight : ChunkData → ℕ) (outs : List Item) → Takes c ks c.inbox c.mind → (do_act s next c ks (hand_all weight outs)).misfit ≡ false
  hands_fit c ks weight [] t = take_fits c ks c.inbox t
  hands_fit c ks weight (i ∷ outs) t = refl

  passes_fit : (c : Desk) (ks : Tasks) (weight : ChunkData → ℕ) (outs : List Item) → (do_act s next c ks (hand_all weight outs ++ (shut_kids ∷ []))).misfit ≡ false
  passes_fit c ks weight [] = refl
  passes_fit c ks weight (i ∷ outs) = refl

  puts_fit : (c : Desk) (ks : Tasks) (j : ℕ) (p : List ℕ) (xs : List ChunkData) → Takes c ks c.inbox c.mind → (do_act s next c ks (puts j p xs)).misfit ≡ false
  puts_fit c ks j p [] t = take_fits c ks c.inbox t
  puts_fit c ks j p (x ∷ xs) t = refl

  own_fits : (d : Fuel) (c : Desk) (ks : Tasks) (q : Seed) (past todo : List Act) (l : Local) (off : Bool) (hs : Tree) → AllTyped q.type c.inbox → Stage s d c.mind c.todo ks q past todo l off hs
      → (do_act s next c ks c.todo).misfit ≡ false
  own_fits d c ks q past todo l off hs ty (waits_first o t k w) = idle_fits c ks w.idle (takes_first c ks c.inbox (no_chunk o t) (λ i xs. refl) w.mind_is)
  own_fits d c ks q past todo l off hs ty (waits_end o t x b k w) =
      idle_fits c ks w.idle (takes_first c ks c.inbox (one_chunk (record { id = x.0; bytes = b; tree = inlined s o x; rows = rows_in x.1; type = t })) (λ i xs. refl) w.mind_is)
  own_fits d c ks q past todo l off hs ty (appends x k w) = ap (λ z. (do_act s next c ks z).misfit) w.left_is
  own_fits d c ks q past todo l off hs ty (splits n e nm t sp b en u w) = idle_fits c ks w.idle (takes_first c ks c.inbox c.mind (λ i xs. ap (λ z. (take_chunk s c ks i xs z).misfit) w.mind_is) refl)
  own_fits d c ks q past todo l off hs ty (gathers_all t u w) = ap (λ z. (do_act s next c ks z).misfit) w.left_is
  own_fits d c ks q past todo l off hs ty (hands n rows j p xs ws t v w) =
      ap (λ z. (do_act s next c ks z).misfit) w.left_is
      ∙ puts_fit c ks j p xs (takes_columns c ks c.inbox (struct n.fields n.nullable) rows w.mind_is (subst (λ z. AllTyped z c.inbox) t ty))
  own_fits d c ks q past todo l off hs ty (hands_lists n first from rows j p xs ws t v w) =
      ap (λ z. (do_act s next c ks z).misfit) w.left_is
      ∙ puts_fit c ks j p xs (takes_lists c ks c.inbox n.elements n.nullable first from rows w.mind_is (subst (λ z. AllTyped z c.inbox) t ty))
  own_fits d c ks q past todo l off hs ty (shuts t rows k w) = ap (λ z. (do_act s next c ks z).misfit) w.left_is
  own_fits d c ks q past todo l off hs ty (joins_columns t rows k w) = ap (λ z. (do_act s next c ks z).misfit) w.left_is
  own_fits d c ks q past todo l off hs ty (regroups_rows o n x j rows outs tj nh w) =
      ap (λ z. (do_act s next c ks z).misfit) w.left_is
      ∙ hands_fit c ks (λ p. 0) outs (takes_blocks c ks c.inbox (block_len o n.type) o.minimum n.type x j rows w.mind_is (subst (λ z. AllTyped z c.inbox) w.type_is ty))
  own_fits d c ks q past todo l off hs ty (regroups_chunks size n x j rows outs tx tj nh w) =
      ap (λ z. (do_act s next c ks z).misfit) w.left_is ∙ hands_fit c ks held outs (takes_sizes c ks c.inbox size x j rows w.mind_is)
  own_fits d c ks q past todo l off hs ty (collects n x rows w) = idle_fits c ks w.left_is (takes_all c ks c.inbox n.type x rows w.mind_is (subst (λ z. AllTyped z c.inbox) w.type_is ty))
  own_fits d c ks q past todo l off hs ty (presses n t i ti w) = ap (λ z. (do_act s next c ks z).misfit) w.left_is
  own_fits d c ks q past todo l off hs ty (pressed n t outs w) =
      ap (λ z. (do_act s next c ks z).misfit) w.left_is ∙ hands_fit c ks (λ p. 0) outs (takes_first c ks c.inbox (by_image n.which) (λ i xs. refl) w.mind_is)
  own_fits d c ks q past todo l off hs ty (lets_out n t outs w) =
      ap (λ z. (do_act s next c ks z).misfit) w.left_is ∙ hands_fit c ks (λ p. 0) outs (takes_first c ks c.inbox as_is (λ i xs. refl) w.mind_is)
  own_fits d c ks q past todo l off hs ty (asks_first n k nk w) = idle_fits c ks w.idle (takes_probe c ks c.inbox (coder_of n) n.eof w.mind_is (subst (λ z. AllTyped z c.inbox) k.type_is ty))
  own_fits d c ks q past todo l off hs ty (probes n i k nk w) = ap (λ z. (do_act s next c ks z).misfit) w.left_is ∙ probe_fits (is_dictionary (s.image n.options.probe i.1)) (coder_of n) n.eof i [] c ks
  own_fits d c ks q past todo l off hs ty (falls_back t outs w) =
      ap (λ z. (do_act s next c ks z).misfit) w.left_is ∙ hands_fit c ks (λ p. 0) outs (takes_first c ks c.inbox as_is (λ i xs. refl) w.mind_is)
  own_fits d c ks q past todo l off hs ty (cuts n r i rows x ds k at w) =
      ap (λ z. (do_act s next c ks z).misfit) w.left_is ∙ deeds_fit c ks (coder_of n) ds (takes_runs c ks c.inbox (coder_of n) r i rows w.mind_is (subst (λ z. AllTyped z c.inbox) k.type_is ty))
  own_fits d c ks q past todo l off hs ty (last_cuts n rows ns x ds k at sum kinds going w) =
      ap (λ z. (do_act s next c ks z).misfit) w.left_is ∙ last_fit c ks (coder_of n) ds (fold_runs n.type ns)
  own_fits d c ks q past todo l off hs ty (passes_on t weight outs one to w) = ap (λ z. (do_act s next c ks z).misfit) w.left_is ∙ passes_fit c ks weight outs
  own_fits d c ks q past todo l off hs ty (passed t one w) = idle_fits c ks w.left_is (takes_first c ks c.inbox passing (λ i xs. refl) w.mind_is)
  own_fits d c ks q past todo l off hs ty (records_zones n z outs iz one rw to w) =
      ap (λ v. (do_act s next c ks v).misfit) w.left_is ∙ each_fits c ks outs (takes_zones c ks c.inbox (zoner_of n) (path.next n.eof) z w.mind_is (subst (λ v. AllTyped v c.inbox) iz.type_is ty))
  own_fits d c ks q past todo l off hs ty (closes_zones n z table iz one w) = ap (λ v. (do_act s next c ks v).misfit) w.left_is
  own_fits d c ks q past todo l off hs ty (joins_data n z table iz one w) = ap (λ v. (do_act s next c ks v).misfit) w.left_is ∙ data_fits c ks n z table
  own_fits d c ks q past todo l off hs ty (joins_zones n rows cs both w) = ap (λ v. (do_act s next c ks v).misfit) w.left_is

  -- ---- of all tasks

  pub steps_fit : (d : Fuel) (q : Seed) (j : ℕ) (cs : Tasks) (t : Tree) → Shows s number d q j cs t → (w : Step) → In w (steps s all next cs) → w.misfit ≡ false
  steps_fit d q j no_tasks t sh w i = absurd i
  steps_fit d q j (task_then c ks more) Leaf sh w i = absurd sh
  steps_fit d q j (task_then c ks more) (Work h hs r) sh w i =
      all_of (in_cases w (cond (may_act all c ks c.todo) (own_step c more (do_act s next c ks c.todo) ∷ []) [] ++ map (in_kids c more) (steps s all next ks)) (map (in_rest c ks) (steps s all next more)) i)
      (λ v x y. steps_fit (less d h.seed.type) h.seed 0 ks hs v x y)
      (λ x y. steps_fit d q (suc j) more r sh.2 x y)
    where
      typed : AllTyped h.seed.type c.inbox
      typed = subst (AllTyped h.seed.type) (sym sh.0.inbox) sh.0.typed

      of_own : (b : Bool) → In w (cond b (own_step c more (do_act s next c ks c.todo) ∷ []) [])
          → (Stage s (less d h.seed.type) c.mind c.todo ks h.seed h.past h.todo h.local h.over hs × Shows s number (less d h.seed.type) h.seed 0 ks hs)
          ⊎ Done number c.mind c.todo ks h.past h.todo h.over hs → w.misfit ≡ false
      of_own true (inl e) (inl (st, v)) = ap (λ (z : Step). z.misfit) e ∙ own_fits (less d h.seed.type) c ks h.seed h.past h.todo h.local h.over hs typed st
      of_own true (inl e) (inr f) = ap (λ (z : Step). z.misfit) e ∙ idle_fits c ks f.idle (takes_first c ks c.inbox (made f.layout) (λ i xs. refl) f.mind_is)
      of_own true (inr x) v = absurd x
      of_own false x v = absurd x

      of_kid : (x : Step) × In x (steps s all next ks) × (w ≡ in_kids c more x)
          → (Stage s (less d h.seed.type) c.mind c.todo ks h.seed h.past h.todo h.local h.over hs × Shows s number (less d h.seed.type) h.seed 0 ks hs)
          ⊎ Done number c.mind c.todo ks h.past h.todo h.over hs
          → (Shows s number (less d h.seed.type) h.seed 0 ks hs → (v : Step) → In v (steps s all next ks) → v.misfit ≡ false) → w.misfit ≡ false
      of_kid (x, y, e) (inl (st, v)) deeper = ap (λ (z : Step). z.misfit) e ∙ deeper v x y
      of_kid (x, y, e) (inr f) deeper = absurd (subst (λ z. In x (steps s all next z)) f.no_kids y)

      of_rest : (x : Step) × In x (steps s all next more) × (w ≡ in_rest c ks x) → ((v : Step) → In v (steps s all next more) → v.misfit ≡ false) → w.misfit ≡ false
      of_rest (x, y, e) others = ap (λ (z : Step). z.misfit) e ∙ others x y

      of_front : In w (cond (may_act all c ks c.todo) (own_step c more (do_act s next c ks c.todo) ∷ []) []) ⊎ In w (map (in_kids c more) (steps s all next ks))
          → (Shows s number (less d h.seed.type) h.seed 0 ks hs → (v : Step) → In v (steps s all next ks) → v.misfit ≡ false) → w.misfit ≡ false
      of_front (inl a) deeper = of_own (may_act all c ks c.todo) a sh.1
      of_front (inr b) deeper = of_kid (from_map (in_kids c more) w (steps s all next ks) b) sh.1 deeper

      all_of : In w (cond (may_act all c ks c.todo) (own_step c more (do_act s next c ks c.todo) ∷ []) [] ++ map (in_kids c more) (steps s all next ks)) ⊎ In w (map (in_rest c ks) (steps s all next more))
          → (Shows s number (less d h.seed.type) h.seed 0 ks hs → (v : Step) → In v (steps s all next ks) → v.misfit ≡ false)
          → ((v : Step) → In v (steps s all next more) → v.misfit ≡ false) → w.misfit ≡ false
      all_of (inl a) deeper others =
          of_front (in_cases w (cond (may_act all c ks c.todo) (own_step c more (do_act s next c ks c.todo) ∷ []) []) (map (in_kids c more) (steps s all next ks)) a) deeper
      all_of (inr b) deeper others = of_rest (from_map (in_rest c ks) w (steps s all next more) b) others

-- ---- the whole machine

pub source_misfit : (a : Answer) (p : Phase) (root : Tasks) → (source_step a p root).misfit ≡ true → (ns : Names) × (p ≡ reading ns) × (a ≡ unasked)
source_misfit unasked (reading e) root h = (e, refl, refl)
source_misfit (came b) (reading e) root h = absurd (true≢false (sym h))
source_misfit over (reading e) root h = absurd (true≢false (sym h))
source_misfit a (giving e i) root h = absurd (true≢false (sym h))
source_misfit a closing root h = absurd (true≢false (sym h))
source_misfit a finished root h = absurd (true≢false (sym h))

-- the step is the source's, in the first place, or one of the others
pub at_place : (b : Bool) (own : WholeStep) (rest : List WholeStep) (k : ℕ) (w : WholeStep) → nth (cond b (own ∷ []) [] ++ rest) k ≡ Some w → ((k ≡ 0) × (own ≡ w)) ⊎ In w rest
at_place true own rest zero w e = let h : own ≡ w = cc in inl (refl, h)
at_place true own rest (suc k) w e = inr (nth_in rest k w e)
at_place false own rest k w e = inr (nth_in rest k w e)

pub misfit_is_read : MisfitIsRead
misfit_is_read g first seen x a k w u at mis = on (u (none_later x.heard) (open_none x.heard))
  where
    Read : Type 0
    Read = (ns : Names) × (x.machine.phase ≡ reading ns) × (k ≡ 0) × (a ≡ unasked)

    on : (r : Reached g x.taken (none_later x.heard) seen x.history (tracked g x)) × Showing g first x.taken x.machine (none_later x.heard) r.tree → Read
    on (r, shown) = by (at_place (may_source x.machine.phase x.machine.root) (source_step a x.machine.phase x.machine.root)
        (map (in_root x.machine.phase) (steps g.setting (machine_ids x.machine) (first + length x.history) x.machine.root)) k w at)
      where
        of_source : (ns : Names) × (x.machine.phase ≡ reading ns) × (a ≡ unasked) → k ≡ 0 → Read
        of_source (e, p, q) z = (e, p, z, q)

        of_root : (y : Step) × In y (steps g.setting (machine_ids x.machine) (first + length x.history) x.machine.root) × (w ≡ in_root x.machine.phase y) → Read
        of_root (y, i, e) = absurd (true≢false (sym mis ∙ ap (λ (z : WholeStep). z.misfit) e
            ∙ steps_fit g.setting (number_of (planned g x.taken (none_later x.heard)).pairs first) (first + length x.history) (machine_ids x.machine) (root_depth g) (source_seed (form_of g) g.mark) 0
            x.machine.root shown.kids shown.root y i))

        by : ((k ≡ 0) × (source_step a x.machine.phase x.machine.root ≡ w))
            ⊎ In w (map (in_root x.machine.phase) (steps g.setting (machine_ids x.machine) (first + length x.history) x.machine.root)) → Read
        by (inl (z, e)) = of_source (source_misfit a x.machine.phase x.machine.root (ap (λ (v : WholeStep). v.misfit) e ∙ mis)) z
        by (inr i) = of_root (from_map (in_root x.machine.phase) w (steps g.setting (machine_ids x.machine) (first + length x.history) x.machine.root) i)
