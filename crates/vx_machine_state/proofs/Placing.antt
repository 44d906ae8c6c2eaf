-- Where a task's steps stand among all.
use Rattle.std.proofs.Common.{◌≡◌, ◌+◌, ◌<◌, ◌∷◌, ◌++◌, ◌∙◌, ℕ, zero, suc, Bool, true, false, cond, List, map, length, refl, ap, arith, length-append, option_map, []}
use Rattle.vx_tasks.specs.Run.{nth}
use Rattle.vx_machine_state.specs.State.{no_tasks, task_then}
use Rattle.vx_machine_state.specs.Acts.{do_act}
use Rattle.vx_machine_state.specs.Moves.{Step, may_act, own_step, in_kids, in_rest, steps}
use Rattle.vx_machine_state.specs.Places.{one_if, ready_in, StepsAreReady, OwnPlace, KidPlace, RestPlace}

nth_left : {A : Type 0} (xs ys : List A) (k : ℕ) → k < length xs → nth (xs ++ ys) k ≡ nth xs k
nth_left [] ys k l = absurd (omega (arith, l))
nth_left (x ∷ xs) ys zero l = refl
nth_left (x ∷ xs) ys (suc k) l = nth_left xs ys k (omega (arith, l))

pub nth_right : {A : Type 0} (xs ys : List A) (n k : ℕ) → n ≡ length xs + k → nth (xs ++ ys) n ≡ nth ys k
nth_right [] ys n k e = let h : n ≡ k = omega (arith, e) in ap (nth ys) h
nth_right (x ∷ xs) ys zero k e = absurd (omega (arith, e))
nth_right (x ∷ xs) ys (suc n) k e = nth_right xs ys n k (omega (arith, e))

pub nth_map : {A B : Type 0} (f : A → B) (xs : List A) (k : ℕ) → nth (map f xs) k ≡ option_map f (nth xs k)
nth_map f [] k = refl
nth_map f (x ∷ xs) zero = refl
nth_map f (x ∷ xs) (suc k) = nth_map f xs k

pub map_length : {A B : Type 0} (f : A → B) (xs : List A) → length (map f xs) ≡ length xs
map_length f [] = refl
map_length f (x ∷ xs) = ap suc (map_length f xs)

pub cond_length : {A : Type 0} (b : Bool) (x : A) → length (cond b (x ∷ []) []) ≡ one_if b
cond_length true x = refl
cond_length false x = refl

pub steps_are_ready : StepsAreReady
steps_are_ready s all number no_tasks = refl
steps_are_ready s all number (task_then c ks r) =
    let own : List Step = cond (may_act all c ks c.todo) (own_step c r (do_act s number c ks c.todo) ∷ []) [] in
    let below : List Step = map (in_kids c r) (steps s all number ks) in
    let beside : List Step = map (in_rest c ks) (steps s all number r) in
    let a : length ((own ++ below) ++ beside) ≡ length (own ++ below) + length beside = length-append (own ++ below) beside in
    let b : length (own ++ below) ≡ length own + length below = length-append own below in
    let o : length own ≡ one_if (may_act all c ks c.todo) = cond_length (may_act all c ks c.todo) (own_step c r (do_act s number c ks c.todo)) in
    let k : length below ≡ ready_in all ks = map_length (in_kids c r) (steps s all number ks) ∙ steps_are_ready s all number ks in
    let m : length beside ≡ ready_in all r = map_length (in_rest c ks) (steps s all number r) ∙ steps_are_ready s all number r in
    omega (arith, a, b, o, k, m)

pub own_place : OwnPlace
own_place s all number c ks r m =
    ap (λ z. nth ((cond z (own_step c r (do_act s number c ks c.todo) ∷ []) [] ++ map (in_kids c r) (steps s all number ks)) ++ map (in_rest c ks) (steps s all number r)) 0) m

pub kid_place : KidPlace
kid_place s all number c ks r k l =
    let own : List Step = cond (may_act all c ks c.todo) (own_step c r (do_act s number c ks c.todo) ∷ []) [] in
    let below : List Step = map (in_kids c r) (steps s all number ks) in
    let o : length own ≡ one_if (may_act all c ks c.todo) = cond_length (may_act all c ks c.todo) (own_step c r (do_act s number c ks c.todo)) in
    let n : length below ≡ ready_in all ks = map_length (in_kids c r) (steps s all number ks) ∙ steps_are_ready s all number ks in
    let b : length (own ++ below) ≡ length own + length below = length-append own below in
    nth_left (own ++ below) (map (in_rest c ks) (steps s all number r)) (one_if (may_act all c ks c.todo) + k) (omega (arith, o, n, b, l))
    ∙ nth_right own below (one_if (may_act all c ks c.todo) + k) k (omega (arith, o)) ∙ nth_map (in_kids c r) (steps s all number ks) k

pub rest_place : RestPlace
rest_place s all number c ks r k =
    let own : List Step = cond (may_act all c ks c.todo) (own_step c r (do_act s number c ks c.todo) ∷ []) [] in
    let below : List Step = map (in_kids c r) (steps s all number ks) in
    let o : length own ≡ one_if (may_act all c ks c.todo) = cond_length (may_act all c ks c.todo) (own_step c r (do_act s number c ks c.todo)) in
    let n : length below ≡ ready_in all ks = map_length (in_kids c r) (steps s all number ks) ∙ steps_are_ready s all number ks in
    let b : length (own ++ below) ≡ length own + length below = length-append own below in
    nth_right (own ++ below) (map (in_rest c ks) (steps s all number r)) ((one_if (may_act all c ks c.todo) + ready_in all ks) + k) k (omega (arith, o, n, b))
    ∙ nth_map (in_rest c ks) (steps s all number r) k
