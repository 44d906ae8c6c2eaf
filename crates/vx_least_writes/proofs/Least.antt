-- Acts write at the least path.
use Rattle.std.proofs.Common.{◌≡◌, ℕ, zero, suc, ◌++◌, ◌&&◌, ◌==◌, Bool, true, false, List, [], ◌∷◌, map, Option, Some, None, refl, sym, subst, cond}
use Rattle.std.specs.Prelude.{not}
use Rattle.vx_model.specs.Ty.{Ty, list, ty_eq}
use Rattle.vx_model.specs.ChunkData.{piece_type}
use Rattle.vx_path.specs.Path.{Eof}
use Rattle.vx_tasks.specs.Run.{nth}
use Rattle.vx_zone_spec.specs.ZoneTable.{Filled, kept_columns}
use Rattle.vx_plan.specs.PlanData.{Setting, Item, Pair}
use Rattle.vx_plan.specs.DictNode.{is_dictionary}
use Rattle.vx_machine_turns.specs.Grouped.{Grouper, block_grouper, byte_grouper}
use Rattle.vx_machine_state.specs.Coder.{Coder}
use Rattle.vx_machine_state.specs.Zoned.{Zoner, Zones}
use Rattle.vx_machine_promises.specs.Write.{Answer, unasked, came, over}
use Rattle.vx_machine_state.specs.State.{Next, put, hand_on, press, probe, open_run, end_run, append, shut_kids, join_kids, start_table, leave_kid, Mind, no_chunk, one_chunk, by_chunk, by_column, by_list, by_block, by_size, as_one, by_image, as_is, by_probe, asking, by_run, by_zone, ending, passing, made, Desk, Tasks, no_tasks, task_then}
use Rattle.vx_machine_state.specs.Acts.{of_length, do_take, do_act, probed, take_chunk, take_end, take_grouped, end_grouped, end_zones, end_columns, end_lists, count, column_count}
use Rattle.vx_machine_state.specs.Moves.{may_act, Step, own_step, in_kids, in_rest, steps}
use Rattle.vx_machine_view.specs.Machine.{Phase, reading, giving, closing, finished, WholeStep, source_step, may_source, in_root, whole_steps}
use Rattle.vx_least_writes.specs.LeastWrites.{WritesLeast, StepsWriteLeast}

-- ---- what an act writes

by_probing : (s : Setting) (b : Bool) (n : Coder) (e : Eof) (i : Item) (todo : List Next) (c : Desk) (ks : Tasks) → (probed s b n e i todo c ks).wrote ≡ []
by_probing s true n e i todo c ks = refl
by_probing s false n e i todo c ks = refl

by_groups : {S : Type 0} (g : Grouper S) (after : S → Option Item → ℕ → Mind) (misfit : Bool) (x : S) (j : Option Item) (rows : ℕ) (c : Desk) (ks : Tasks) (i : Item) (xs : List Item)
    → (take_grouped g after misfit x j rows c ks i xs).wrote ≡ []
by_groups g after misfit x None rows c ks i xs = refl
by_groups g after misfit x (Some j) rows c ks i xs = refl

take_writes : (s : Setting) (c : Desk) (ks : Tasks) (i : Item) (xs : List Item) (m : Mind) → (take_chunk s c ks i xs m).wrote ≡ []
take_writes s c ks i xs (no_chunk o t) = refl
take_writes s c ks i xs (one_chunk x) = refl
take_writes s c ks i xs (by_chunk m t f e rows) = refl
take_writes s c ks i xs (by_column t rows) = refl
take_writes s c ks i xs (by_list t n first from rows) = refl
take_writes s c ks i xs (by_block len minimum t x j rows) =
    by_groups (block_grouper (of_length len minimum) t) (by_block len minimum t) (not (ty_eq (piece_type i.1) t)) x j rows c ks i xs
take_writes s c ks i xs (by_size size x j rows) = by_groups (byte_grouper size) (by_size size) false x j rows c ks i xs
take_writes s c ks i xs (as_one t x rows) = refl
take_writes s c ks i xs (by_zone g e z) = refl
take_writes s c ks i xs (by_image which) = refl
take_writes s c ks i xs as_is = refl
take_writes s c ks i xs (by_probe n e) = refl
take_writes s c ks i xs asking = refl
take_writes s c ks i xs (by_run n r j rows) = refl
take_writes s c ks i xs ending = refl
take_writes s c ks i xs passing = refl
take_writes s c ks i xs (made l) = refl

ends_columns : (b : Bool) (t : Ty) (rows : ℕ) (c : Desk) (ks : Tasks) → (end_columns b t rows c ks).wrote ≡ []
ends_columns true t rows c ks = refl
ends_columns false t rows c ks = refl

ends_lists : (b : Bool) (t : Ty) (rows : ℕ) (c : Desk) (ks : Tasks) → (end_lists b t rows c ks).wrote ≡ []
ends_lists true t rows c ks = refl
ends_lists false t rows c ks = refl

ends_groups : {S : Type 0} (g : Grouper S) (x : S) (j : Option Item) (c : Desk) (ks : Tasks) → (end_grouped g x j c ks).wrote ≡ []
ends_groups g x None c ks = refl
ends_groups g x (Some j) c ks = refl

ends_zones : (o : Option (List Filled)) (g : Zoner) (e : Eof) (z : Zones) (c : Desk) (ks : Tasks) → (end_zones o g e z c ks).wrote ≡ []
ends_zones None g e z c ks = refl
ends_zones (Some cs) g e z c ks = refl

end_writes : (s : Setting) (c : Desk) (ks : Tasks) (m : Mind) → (take_end s c ks m).wrote ≡ []
end_writes s c ks (no_chunk o t) = refl
end_writes s c ks (one_chunk x) = refl
end_writes s c ks (by_chunk m t f e rows) = refl
end_writes s c ks (by_column t rows) = ends_columns ((count ks == 0) && (0 == column_count t)) t rows c ks
end_writes s c ks (by_list t n first from rows) = ends_lists first (list t n) rows c ks
end_writes s c ks (by_block len minimum t x j rows) = ends_groups (block_grouper (of_length len minimum) t) x j c ks
end_writes s c ks (by_size size x j rows) = ends_groups (byte_grouper size) x j c ks
end_writes s c ks (as_one t x rows) = refl
end_writes s c ks (by_zone g e z) = ends_zones (kept_columns g.columns z.records) g e z c ks
end_writes s c ks (by_image which) = refl
end_writes s c ks as_is = refl
end_writes s c ks (by_probe n e) = refl
end_writes s c ks asking = refl
end_writes s c ks (by_run n r j rows) = refl
end_writes s c ks ending = refl
end_writes s c ks passing = refl
end_writes s c ks (made l) = refl

none_least : (all : List (List ℕ)) (ps : List Pair) → ps ≡ [] → WritesLeast all ps
none_least all ps e = subst (WritesLeast all) (sym e) tt

-- what a task that may act writes
act_writes : (s : Setting) (all : List (List ℕ)) (number : ℕ) (c : Desk) (ks : Tasks) (todo : List Next) → may_act all c ks todo ≡ true → WritesLeast all (do_act s number c ks todo).wrote
act_writes s all number c ks [] h = takes c.inbox
  where
    takes : (inbox : List Item) → WritesLeast all (do_take s c ks inbox).wrote
    takes [] = none_least all (take_end s c ks c.mind).wrote (end_writes s c ks c.mind)
    takes (i ∷ xs) = none_least all (take_chunk s c ks i xs c.mind).wrote (take_writes s c ks i xs c.mind)
act_writes s all number c ks (put j i ∷ todo) h = tt
act_writes s all number c ks (hand_on n i ∷ todo) h = tt
act_writes s all number c ks (press which i ∷ todo) h = tt
act_writes s all number c ks (probe n e i ∷ todo) h =
    none_least all (probed s (is_dictionary (s.image n.options.probe i.1)) n e i todo c ks).wrote (by_probing s (is_dictionary (s.image n.options.probe i.1)) n e i todo c ks)
act_writes s all number c ks (open_run n j e i ∷ todo) h = tt
act_writes s all number c ks (end_run j i ∷ todo) h = tt
act_writes s all number c ks (append x ∷ todo) h = h
act_writes s all number c ks (shut_kids ∷ todo) h = tt
act_writes s all number c ks (join_kids f ∷ todo) h = tt
act_writes s all number c ks (start_table f e p ∷ todo) h = tt
act_writes s all number c ks (leave_kid e ∷ todo) h = tt

-- ---- of all that are ready

abbrev AllWrite : List (List ℕ) → List Step → Type 0
AllWrite all [] = Unit {0}
AllWrite all (w ∷ ws) = WritesLeast all w.wrote × AllWrite all ws

both_write : (all : List (List ℕ)) (us ws : List Step) → AllWrite all us → AllWrite all ws → AllWrite all (us ++ ws)
both_write all [] ws g h = h
both_write all (u ∷ us) ws g h = (g.0, both_write all us ws g.1 h)

kids_write : (all : List (List ℕ)) (c : Desk) (r : Tasks) (ws : List Step) → AllWrite all ws → AllWrite all (map (in_kids c r) ws)
kids_write all c r [] h = tt
kids_write all c r (w ∷ ws) h = (h.0, kids_write all c r ws h.1)

rest_writes : (all : List (List ℕ)) (c : Desk) (ks : Tasks) (ws : List Step) → AllWrite all ws → AllWrite all (map (in_rest c ks) ws)
rest_writes all c ks [] h = tt
rest_writes all c ks (w ∷ ws) h = (h.0, rest_writes all c ks ws h.1)

own_writes : (all : List (List ℕ)) (b : Bool) (w : Step) → (b ≡ true → WritesLeast all w.wrote) → AllWrite all (cond b (w ∷ []) [])
own_writes all true w h = (h refl, tt)
own_writes all false w h = tt

steps_write : (s : Setting) (all : List (List ℕ)) (number : ℕ) (ts : Tasks) → AllWrite all (steps s all number ts)
steps_write s all number no_tasks = tt
steps_write s all number (task_then c ks r) =
    both_write all (cond (may_act all c ks c.todo) (own_step c r (do_act s number c ks c.todo) ∷ []) [] ++ map (in_kids c r) (steps s all number ks)) (map (in_rest c ks) (steps s all number r))
    (both_write all (cond (may_act all c ks c.todo) (own_step c r (do_act s number c ks c.todo) ∷ []) []) (map (in_kids c r) (steps s all number ks))
    (own_writes all (may_act all c ks c.todo) (own_step c r (do_act s number c ks c.todo)) (act_writes s all number c ks c.todo))
    (kids_write all c r (steps s all number ks) (steps_write s all number ks)))
    (rest_writes all c ks (steps s all number r) (steps_write s all number r))

-- ---- with the source

abbrev WholeWrite : List (List ℕ) → List WholeStep → Type 0
WholeWrite all [] = Unit {0}
WholeWrite all (w ∷ ws) = WritesLeast all w.wrote × WholeWrite all ws

root_writes : (all : List (List ℕ)) (p : Phase) (ws : List Step) → AllWrite all ws → WholeWrite all (map (in_root p) ws)
root_writes all p [] h = tt
root_writes all p (w ∷ ws) h = (h.0, root_writes all p ws h.1)

source_writes : (a : Answer) (p : Phase) (root : Tasks) → (source_step a p root).wrote ≡ []
source_writes unasked (reading e) root = refl
source_writes (came b) (reading e) root = refl
source_writes over (reading e) root = refl
source_writes a (giving e i) root = refl
source_writes a closing root = refl
source_writes a finished root = refl

behind_source : (all : List (List ℕ)) (b : Bool) (w : WholeStep) (ws : List WholeStep) → w.wrote ≡ [] → WholeWrite all ws → WholeWrite all (cond b (w ∷ []) [] ++ ws)
behind_source all true w ws e h = (none_least all w.wrote e, h)
behind_source all false w ws e h = h

pick_writes : (all : List (List ℕ)) (ws : List WholeStep) (k : ℕ) (w : WholeStep) → WholeWrite all ws → nth ws k ≡ Some w → WritesLeast all w.wrote
pick_writes all [] k w h e = cc
pick_writes all (v ∷ ws) zero w h e = let same : v ≡ w = cc in subst (λ (z : WholeStep). WritesLeast all z.wrote) same h.0
pick_writes all (v ∷ ws) (suc k) w h e = pick_writes all ws k w h.1 e

pub steps_write_least : StepsWriteLeast
steps_write_least s all number a m k w e =
    pick_writes all (whole_steps s all number a m) k w
    (behind_source all (may_source m.phase m.root) (source_step a m.phase m.root) (map (in_root m.phase) (steps s all number m.root)) (source_writes a m.phase m.root)
    (root_writes all m.phase (steps s all number m.root) (steps_write s all number m.root)))
    e
