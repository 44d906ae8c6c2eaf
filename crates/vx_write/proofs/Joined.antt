-- The rows of layouts that a step joins were counted before, so they fit where all that was counted does.
use Rattle.std.proofs.Common.{◌≡◌, ◌+◌, ◌⊎◌, ◌^◌, ◌<◌, ◌∷◌, ◌++◌, ◌∙◌, ℕ, suc, Bool, true, false, cond, List, map, length, refl, sym, ap, subst, inl, inr, arith, Some, None, []}
use Rattle.vx_path.specs.Lists.{In}
use Rattle.vx_path.specs.Path.{root_eof}
use Rattle.vx_path.proofs.Lists.{in_left, in_right, in_cases, from_map}
use Rattle.vx_tasks.specs.Task.{Join}
use Rattle.vx_tasks.specs.Run.{Note, nth}
use Rattle.vx_plan.specs.PlanData.{Setting}
use Rattle.vx_plan.specs.Number.{number_of}
use Rattle.vx_plan.specs.SourcePlan.{start_fault}
use Rattle.vx_machine_turns.specs.Acts.{Seed, does, numbers_in, indices_in}
use Rattle.vx_machine_turns.specs.Turns.{start_indices}
use Rattle.vx_machine_turns.specs.Fuels.{Fuel, less}
use Rattle.vx_machine_turns.specs.Source.{source_seed}
use Rattle.vx_machine_steps.specs.Tree.{Tree, Leaf, Work}
use Rattle.vx_machine_steps.specs.Moves.{doing, due_todo}
use Rattle.vx_machine_steps.specs.Laws.{JoinsFree}
use Rattle.vx_machine_promises.specs.Write.{Write, Future, Answer, planned}
use Rattle.vx_machine_promises.specs.Reached.{Reached}
use Rattle.vx_machine_promises.specs.Promises.{StartIsReached, StepIsReached}
use Rattle.vx_machine_state.specs.Images.{Careful}
use Rattle.vx_machine_state.specs.State.{Tasks, no_tasks, task_then}
use Rattle.vx_machine_state.specs.Acts.{do_act}
use Rattle.vx_machine_state.specs.Moves.{Step, may_act, own_step, in_kids, in_rest, steps}
use Rattle.vx_machine_view.specs.Shows.{Counted, Stage, Done, Shows}
use Rattle.vx_machine_view.specs.Machine.{Machine, may_source, WholeStep, source_step, in_root, whole_steps, machine_ids}
use Rattle.vx_machine_state.specs.Start.{first_indices}
use Rattle.vx_machine_view.specs.Whole.{ShowsMachine, form_of, root_depth}
use Rattle.vx_machine_view.specs.Underway.{Showing, ready_steps}
use Rattle.vx_machine_view.proofs.Wholes.{free_below}
use Rattle.vx_machine_runs.specs.Runs.{Stand, outset, Led, PickedBy, tracked}
use Rattle.vx_machine_runs.specs.Numbers.{AllBelow, CountsBelow}
use Rattle.vx_machine_runs.proofs.Counting.{nth_in}
use Rattle.vx_machine_runs.proofs.Covers.{counted_by}
use Rattle.vx_machine_runs.proofs.Doing.{did}
use Rattle.vx_machine_runs.proofs.Ending.{none_later, open_none}
use Rattle.vx_machine_runs.proofs.Reaching.{leads}
use Rattle.vx_machine_runs.proofs.Bounding.{run_bounded}
use Rattle.vx_machine_view.proofs.Counting.{own_joins, idle_joins, source_joins}

module _ (s : Setting) (number : List ℕ → ℕ) (next : ℕ) (all : List (List ℕ)) where
  -- none, or one of the numbers that the tasks have counted by now
  joins_did : (d : Fuel) (q : Seed) (j : ℕ) (cs : Tasks) (t : Tree) → Shows s number d q j cs t → JoinsFree s t → (w : Step) → In w (steps s all next cs) → (n : ℕ) → In n w.joined → (n ≡ 0) ⊎ In n (did t)
  joins_did d q j no_tasks t sh jf w i n k = absurd i
  joins_did d q j (task_then c ks more) Leaf sh jf w i n k = absurd sh
  joins_did d q j (task_then c ks more) (Work h hs r) sh jf w i n k =
      all_of (in_cases w (cond (may_act all c ks c.todo) (own_step c more (do_act s next c ks c.todo) ∷ []) [] ++ map (in_kids c more) (steps s all next ks)) (map (in_rest c ks) (steps s all next more)) i)
      (λ v x y z. joins_did (less d h.seed.type) h.seed 0 ks hs v jf.1 x y n z)
      (λ x y z. joins_did d q (suc j) more r sh.2 jf.2 x y n z)
    where
      own : List ℕ
      own = counted_by h.seed h.past

      Then : Type 0
      Then = (n ≡ 0) ⊎ In n (own ++ (did hs ++ did r))

      lift_own : Counted h.past n → Then
      lift_own (inl e) = inl e
      lift_own (inr x) = inr (in_left n own (did hs ++ did r) (in_left n (numbers_in h.past ++ indices_in h.past) (start_indices h.seed.local) (in_left n (numbers_in h.past) (indices_in h.past) x)))

      lift_kid : (n ≡ 0) ⊎ In n (did hs) → Then
      lift_kid (inl e) = inl e
      lift_kid (inr x) = inr (in_right n own (did hs ++ did r) (in_left n (did hs) (did r) x))

      lift_rest : (n ≡ 0) ⊎ In n (did r) → Then
      lift_rest (inl e) = inl e
      lift_rest (inr x) = inr (in_right n own (did hs ++ did r) (in_right n (did hs) (did r) x))

      Shown : Type 0
      Shown = (Stage s (less d h.seed.type) c.mind c.todo ks h.seed h.past h.todo h.local h.over hs × Shows s number (less d h.seed.type) h.seed 0 ks hs) ⊎ Done number c.mind c.todo ks h.past h.todo h.over hs

      of_own : (b : Bool) → may_act all c ks c.todo ≡ b → In w (cond b (own_step c more (do_act s next c ks c.todo) ∷ []) []) → Shown → Counted h.past n
      of_own true m (inl e) (inl (st, v)) =
          own_joins s number next all (less d h.seed.type) c ks h.seed h.past h.todo h.local h.over hs st v (λ e o. jf.0 (doing h (does Join) [] h.local h.over h.inbox) (ap (due_todo s h) e) refl o) m n
          (subst (λ (z : Step). In n z.joined) e k)
      of_own true m (inl e) (inr f) = absurd (subst (In n) (idle_joins s number next all c ks f.idle) (subst (λ (z : Step). In n z.joined) e k))
      of_own true m (inr x) v = absurd x
      of_own false m x v = absurd x

      of_kid : (x : Step) × In x (steps s all next ks) × (w ≡ in_kids c more x) → Shown
          → (Shows s number (less d h.seed.type) h.seed 0 ks hs → (v : Step) → In v (steps s all next ks) → In n v.joined → (n ≡ 0) ⊎ In n (did hs)) → (n ≡ 0) ⊎ In n (did hs)
      of_kid (x, y, e) (inl (st, v)) deeper = deeper v x y (subst (λ (z : Step). In n z.joined) e k)
      of_kid (x, y, e) (inr f) deeper = absurd (subst (λ z. In x (steps s all next z)) f.no_kids y)

      of_rest : (x : Step) × In x (steps s all next more) × (w ≡ in_rest c ks x) → ((v : Step) → In v (steps s all next more) → In n v.joined → (n ≡ 0) ⊎ In n (did r)) → (n ≡ 0) ⊎ In n (did r)
      of_rest (x, y, e) others = others x y (subst (λ (z : Step). In n z.joined) e k)

      of_front : In w (cond (may_act all c ks c.todo) (own_step c more (do_act s next c ks c.todo) ∷ []) []) ⊎ In w (map (in_kids c more) (steps s all next ks))
          → (Shows s number (less d h.seed.type) h.seed 0 ks hs → (v : Step) → In v (steps s all next ks) → In n v.joined → (n ≡ 0) ⊎ In n (did hs)) → Then
      of_front (inl a) deeper = lift_own (of_own (may_act all c ks c.todo) refl a sh.1)
      of_front (inr b) deeper = lift_kid (of_kid (from_map (in_kids c more) w (steps s all next ks) b) sh.1 deeper)

      all_of : In w (cond (may_act all c ks c.todo) (own_step c more (do_act s next c ks c.todo) ∷ []) [] ++ map (in_kids c more) (steps s all next ks)) ⊎ In w (map (in_rest c ks) (steps s all next more))
          → (Shows s number (less d h.seed.type) h.seed 0 ks hs → (v : Step) → In v (steps s all next ks) → In n v.joined → (n ≡ 0) ⊎ In n (did hs))
          → ((v : Step) → In v (steps s all next more) → In n v.joined → (n ≡ 0) ⊎ In n (did r)) → Then
      all_of (inl a) deeper others =
          of_front (in_cases w (cond (may_act all c ks c.todo) (own_step c more (do_act s next c ks c.todo) ∷ []) []) (map (in_kids c more) (steps s all next ks)) a) deeper
      all_of (inr b) deeper others = lift_rest (of_rest (from_map (in_rest c ks) w (steps s all next more) b) others)

-- of the whole machine
whole_did : (g : Write) (number : List ℕ → ℕ) (next : ℕ) (all : List (List ℕ)) (a : Answer) (f : Future) (m : Machine) (t : Tree) (sh : ShowsMachine g number m f t) → JoinsFree g.setting sh.kids
    → (w : WholeStep) → In w (whole_steps g.setting all next a m) → (n : ℕ) → In n w.joined → (n ≡ 0) ⊎ In n (did t)
whole_did g number next all a f m t sh jf w i n k =
    subst (λ z. (n ≡ 0) ⊎ In n (did z)) (sym sh.tree_is) (all_of (in_cases w (cond (may_source m.phase m.root) (source_step a m.phase m.root ∷ []) []) (map (in_root m.phase) (steps g.setting all next m.root)) i))
  where
    own : List ℕ
    own = counted_by (source_seed (form_of g) g.mark) sh.past

    of_own : (b : Bool) → In w (cond b (source_step a m.phase m.root ∷ []) []) → ⊥
    of_own true (inl e) = subst (In n) (ap (λ (z : WholeStep). z.joined) e ∙ source_joins a m.phase m.root) k
    of_own true (inr x) = x
    of_own false x = x

    of_root : (x : Step) × In x (steps g.setting all next m.root) × (w ≡ in_root m.phase x) → (n ≡ 0) ⊎ In n (did sh.kids)
    of_root (x, y, e) = joins_did g.setting number next all (root_depth g) (source_seed (form_of g) g.mark) 0 m.root sh.kids sh.root jf x y n (subst (λ (z : WholeStep). In n z.joined) e k)

    lift : (n ≡ 0) ⊎ In n (did sh.kids) → (n ≡ 0) ⊎ In n (own ++ (did sh.kids ++ []))
    lift (inl e) = inl e
    lift (inr x) = inr (in_right n own (did sh.kids ++ []) (in_left n (did sh.kids) [] x))

    all_of : In w (cond (may_source m.phase m.root) (source_step a m.phase m.root ∷ []) []) ⊎ In w (map (in_root m.phase) (steps g.setting all next m.root)) → (n ≡ 0) ⊎ In n (own ++ (did sh.kids ++ []))
    all_of (inl x) = absurd (of_own (may_source m.phase m.root) x)
    all_of (inr x) = lift (of_root (from_map (in_root m.phase) w (steps g.setting all next m.root) x))

-- in a run by the schedule, in which all that was counted fits 64 bits, so do the rows that are joined next
pub joins_fit : StartIsReached → StepIsReached → (g : Write) (first : ℕ) (ns : List Note) (y : Stand) → Careful g.setting → start_fault g.setting g.way g.type g.mark ≡ None
    → AllBelow (2 ^ 64) (first_indices (form_of g) g.mark root_eof) → PickedBy g.schedule ns → (l : Led g first (outset g) ns y) → CountsBelow (2 ^ 64) g first (outset g) ns y l
    → (told : Answer) (k : ℕ) (w : WholeStep) → nth (ready_steps g first y.history told y.machine) k ≡ Some w → (n : ℕ) → In n w.joined → n < 2 ^ 64
joins_fit began reached g first ns y law s starts p l c told k w at n i = on (run_bounded began reached (2 ^ 64) g first ns y law s starts p l c (none_later y.heard) (open_none y.heard))
  where
    on : (r : Reached g y.taken (none_later y.heard) ns y.history (tracked g y)) × (Showing g first y.taken y.machine (none_later y.heard) r.tree × AllBelow (2 ^ 64) (did r.tree)) → n < 2 ^ 64
    on (r, (shown, below)) = by (whole_did g (number_of (planned g y.taken (none_later y.heard)).pairs first) (first + length y.history) (machine_ids y.machine) told (none_later y.heard) y.machine r.tree shown
        (free_below g y.machine (none_later y.heard) shown.past shown.kids r.tree shown.tree_is (leads g y.taken (none_later y.heard) ns y.history (tracked g y) r).2) w (nth_in (ready_steps g first y.history told y.machine) k w at) n i)
      where
        by : (n ≡ 0) ⊎ In n (did r.tree) → n < 2 ^ 64
        by (inl e) = omega (arith, e)
        by (inr x) = below n x
