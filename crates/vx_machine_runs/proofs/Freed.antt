-- The number of the next segment is told by appends alone.
use Rattle.std.proofs.Common.{◌≡◌, ◌∷◌, ◌++◌, ◌∙◌, ℕ, cond, List, map, refl, sym, ap, Some, []}
use Rattle.vx_plan.specs.PlanData.{Setting}
use Rattle.vx_machine_promises.specs.Write.{Answer}
use Rattle.vx_machine_state.specs.State.{Next, put, hand_on, press, probe, open_run, end_run, append, shut_kids, join_kids, start_table, leave_kid, Desk, Tasks, no_tasks, task_then}
use Rattle.vx_machine_state.specs.Acts.{do_act}
use Rattle.vx_machine_state.specs.Moves.{Step, may_act, own_step, in_kids, in_rest, steps}
use Rattle.vx_machine_view.specs.Machine.{Machine, may_source, WholeStep, source_step, in_root, whole_steps}
use Rattle.vx_machine_view.specs.Steps.{AllPairs}
use Rattle.vx_machine_view.proofs.Words.{pairs_append, pairs_map, pairs_nth}
use Rattle.vx_machine_view.proofs.Acting.{one_pair}
use Rattle.vx_machine_runs.specs.Runs.{NumberIsFree}

act_free : (s : Setting) (n number : ℕ) (c : Desk) (ks : Tasks) (todo : List Next) → (do_act s n c ks todo).wrote ≡ [] → do_act s n c ks todo ≡ do_act s number c ks todo
act_free s n number c ks [] e = refl
act_free s n number c ks (put j i ∷ todo) e = refl
act_free s n number c ks (hand_on w i ∷ todo) e = refl
act_free s n number c ks (press which i ∷ todo) e = refl
act_free s n number c ks (probe a b i ∷ todo) e = refl
act_free s n number c ks (open_run a j b i ∷ todo) e = refl
act_free s n number c ks (end_run j i ∷ todo) e = refl
act_free s n number c ks (append x ∷ todo) e = cc
act_free s n number c ks (shut_kids ∷ todo) e = refl
act_free s n number c ks (join_kids f ∷ todo) e = refl
act_free s n number c ks (start_table f z p ∷ todo) e = refl
act_free s n number c ks (leave_kid z ∷ todo) e = refl

abbrev Free : Step → Step → Type 0
Free w v = w.wrote ≡ [] → w ≡ v

abbrev WholeFree : WholeStep → WholeStep → Type 0
WholeFree w v = w.wrote ≡ [] → w ≡ v

steps_free : (s : Setting) (all : List (List ℕ)) (n number : ℕ) (cs : Tasks) → AllPairs Free (steps s all n cs) (steps s all number cs)
steps_free s all n number no_tasks = tt
steps_free s all n number (task_then c ks r) =
    let own : ℕ → List Step = λ i. cond (may_act all c ks c.todo) (own_step c r (do_act s i c ks c.todo) ∷ []) [] in
    let a : AllPairs Free (own n) (own number) = one_pair Free (own_step c r (do_act s n c ks c.todo)) (own_step c r (do_act s number c ks c.todo)) (may_act all c ks c.todo) (may_act all c ks c.todo) refl
    (λ m e. ap (own_step c r) (act_free s n number c ks c.todo e)) in
    let b : AllPairs Free (map (in_kids c r) (steps s all n ks)) (map (in_kids c r) (steps s all number ks))
    = pairs_map Free Free (in_kids c r) (in_kids c r) (λ w v h e. ap (in_kids c r) (h e)) (steps s all n ks) (steps s all number ks) (steps_free s all n number ks) in
    let d : AllPairs Free (map (in_rest c ks) (steps s all n r)) (map (in_rest c ks) (steps s all number r))
    = pairs_map Free Free (in_rest c ks) (in_rest c ks) (λ w v h e. ap (in_rest c ks) (h e)) (steps s all n r) (steps s all number r) (steps_free s all n number r) in
    pairs_append Free (own n ++ map (in_kids c r) (steps s all n ks)) (map (in_rest c ks) (steps s all n r)) (own number ++ map (in_kids c r) (steps s all number ks)) (map (in_rest c ks) (steps s all number r))
    (pairs_append Free (own n) (map (in_kids c r) (steps s all n ks)) (own number) (map (in_kids c r) (steps s all number ks)) a b) d

whole_free : (s : Setting) (all : List (List ℕ)) (n number : ℕ) (a : Answer) (m : Machine) → AllPairs WholeFree (whole_steps s all n a m) (whole_steps s all number a m)
whole_free s all n number a m =
    pairs_append WholeFree (cond (may_source m.phase m.root) (source_step a m.phase m.root ∷ []) []) (map (in_root m.phase) (steps s all n m.root))
    (cond (may_source m.phase m.root) (source_step a m.phase m.root ∷ []) []) (map (in_root m.phase) (steps s all number m.root))
    (one_pair WholeFree (source_step a m.phase m.root) (source_step a m.phase m.root) (may_source m.phase m.root) (may_source m.phase m.root) refl (λ t e. refl))
    (pairs_map Free WholeFree (in_root m.phase) (in_root m.phase) (λ w v h e. ap (in_root m.phase) (h e)) (steps s all n m.root) (steps s all number m.root) (steps_free s all n number m.root))

pub number_is_free : NumberIsFree
number_is_free s all n number a m k w e at =
    let p = pairs_nth WholeFree (whole_steps s all n a m) (whole_steps s all number a m) k w (whole_free s all n number a m) at in
    p.1 ∙ ap (λ z. Some z) (sym (p.2 e))
