-- Where all that is active is held, the active paths are those that the machine in plain data holds.
use Rattle.std.proofs.Common.{◌≡◌, ℕ, zero, suc, ◌+◌, ◌≤◌, ◌||◌, Bool, true, false, cond, List, [], ◌∷◌, ◌++◌, map, Option, Some, None, refl, sym, ap, subst, ◌∙◌, arith, inl, inr, ⊎_elim}
use Rattle.std.proofs.lemmas.Bool.{cases_Bool, true≢false}
use Rattle.std.specs.FinMap as fin
use Rattle.std.specs.List.{list_any}
use Rattle.std.specs.Ordering.{eq_by_cmp}
use Rattle.vx_path.specs.Lists.{In}
use Rattle.vx_path.specs.Path.{eof_path, next}
use Rattle.vx_sequence.specs.Universe.{path_cmp, Active}
use Rattle.vx_sequence.proofs.Sets.{same_refl, same_true}
use Rattle.vx_plan.specs.PlanData.{Setting}
use Rattle.vx_regroup.specs.declared.regroup.Regroup.{Regroup}
use Rattle.vx_regroup.specs.declared.regroup.Regroup.TheVariants.{Repartition, Buffered, Collect}
use Rattle.vx_machine_ids.specs.Stock.{Stock, held, both, same, one, some_stock, ids_stock}
use Rattle.vx_machine_ids.specs.Balance.{active_at, Exact, Moved}
use Rattle.vx_machine_turns.specs.Dict.{rest_eof}
use Rattle.vx_machine_promises.specs.Write.{Answer}
use Rattle.vx_machine_state.specs.State.{Tasks, no_tasks}
use Rattle.vx_machine_view.specs.Machine as whole
use Rattle.vx_machine_view.proofs.Sounding.{least_agrees}
use Rattle.vx_machine_node.specs.declared.item.Item.{Item}
use Rattle.vx_machine_node.specs.declared.item.Due.{Due}
use Rattle.vx_machine_node.specs.declared.item.Due.TheVariants.{Put, HandOn, Append, Close, Join, Table, Leave, Press, Ask, OpenRun, EndRun}
use Rattle.vx_machine_node.specs.declared.node.Local.{Local}
use Rattle.vx_machine_node.specs.declared.node.Local.TheVariants.{Empty, Full, Chunked, Columns, Lists, Grouped, Over, Passing, Made, Zoned, Pressing, AsIs, Probe, Asking, Runs}
use Rattle.vx_named_tasks.specs.Names as plain
use Rattle.vx_machine.specs.declared.names.Names.{Names}
use Rattle.vx_machine.specs.declared.names.Names.TheVariants.{Onward, Handed}
use Rattle.vx_machine.specs.Names.{names_stock, names_of}
use Rattle.vx_machine.specs.declared.source.Phase.{Phase}
use Rattle.vx_machine.specs.declared.source.Phase.TheVariants.{Reading, Giving, Closing, Finished}
use Rattle.vx_machine.specs.declared.machine.Machine.{Machine}
use Rattle.vx_machine_task.specs.declared.task.Task.{Task, out-Task}
use Rattle.vx_machine_task.specs.Sizes.{task_count, count_of_all}
use Rattle.vx_machine.specs.Source.{phase_stock}
use Rattle.vx_machine_node.specs.Regrouped.{mind_in}
use Rattle.vx_machine_node.specs.Stocks.{item_stock, items_stock, dues_stock, local_stock}
use Rattle.vx_machine_task.specs.Stocks.{head_stock, task_stock, tasks_stock}
use Rattle.vx_machine.specs.Whole.{machine_stock}
use Rattle.vx_machine_node.specs.RunPaths.{eof_at}
use Rattle.vx_machine_node.specs.View.{items_of, todo_of, mind_of, runs_in}
use Rattle.vx_machine_task.specs.View.{task_row, row}
use Rattle.vx_machine.specs.View.{phase_of, machine_of}
use Rattle.vx_machine_nodes.proofs.RunSteps.{rest_is}
use Rattle.vx_machine_task.proofs.TaskParts.{task_count_out, task_stock_out}
use Rattle.vx_machine_task.proofs.ViewParts.{row_out}

-- ---- how often a path is in a list

abbrev count : List ℕ → List (List ℕ) → ℕ
count p [] = 0
count p (q ∷ qs) = one (same p q) + count p qs

count_both : (p : List ℕ) (xs ys : List (List ℕ)) → count p (xs ++ ys) ≡ count p xs + count p ys
count_both p [] ys = omega arith
count_both p (x ∷ xs) ys = let e : count p (xs ++ ys) ≡ count p xs + count p ys = count_both p xs ys in omega (arith, e)

in_counted : (p : List ℕ) (qs : List (List ℕ)) → In p qs → 1 ≤ count p qs
in_counted p [] i = absurd i
in_counted p (q ∷ qs) (inl e) = let h : one (same p q) ≡ 1 = ap one (subst (λ r. same p r ≡ true) e (same_refl p)) in omega (arith, h)
in_counted p (q ∷ qs) (inr i) = let h : 1 ≤ count p qs = in_counted p qs i in omega (arith, h)

counted_in : (p : List ℕ) (qs : List (List ℕ)) → 1 ≤ count p qs → In p qs
counted_in p [] h = absurd (omega (arith, h))
counted_in p (q ∷ qs) h = ⊎_elim
    (λ t. inl (same_true p q t))
    (λ f. inr (counted_in p qs (let o : one (same p q) ≡ 0 = ap one f in omega (arith, o, h))))
    (cases_Bool (same p q))

pub any_in : (p : List ℕ) (qs : List (List ℕ)) → list_any (eq_by_cmp path_cmp p) qs ≡ true → In p qs
any_in p [] h = absurd (true≢false (sym h))
any_in p (q ∷ qs) h = ⊎_elim
    (λ t. inl (same_true p q t))
    (λ f. inr (any_in p qs (ap (λ b. b || list_any (eq_by_cmp path_cmp p) qs) (sym f) ∙ h)))
    (cases_Bool (same p q))

or_true : (b : Bool) → (b || true) ≡ true
or_true true = refl
or_true false = refl

pub in_any : (p : List ℕ) (qs : List (List ℕ)) → In p qs → list_any (eq_by_cmp path_cmp p) qs ≡ true
in_any p [] i = absurd i
in_any p (q ∷ qs) (inl e) = ap (λ b. b || list_any (eq_by_cmp path_cmp p) qs) (subst (λ r. same p r ≡ true) e (same_refl p))
in_any p (q ∷ qs) (inr i) = ap (λ b. same p q || b) (in_any p qs i) ∙ or_true (same p q)

-- ---- by parts

items_held : (p : List ℕ) (xs : List Item) → count p (map (λ i. i.0) (items_of xs)) ≡ held (items_stock xs) p
items_held p [] = refl
items_held p (x ∷ xs) = let e : count p (map (λ i. i.0) (items_of xs)) ≡ held (items_stock xs) p = items_held p xs in omega (arith, e)

dues_held : (p : List ℕ) (ds : List Due) → count p (whole.next_ids (todo_of ds)) ≡ held (dues_stock ds) p
dues_held p [] = refl
dues_held p (Put c i ∷ ds) = let e : count p (whole.next_ids (todo_of ds)) ≡ held (dues_stock ds) p = dues_held p ds in omega (arith, e)
dues_held p (HandOn i r ∷ ds) = let e : count p (whole.next_ids (todo_of ds)) ≡ held (dues_stock ds) p = dues_held p ds in omega (arith, e)
dues_held p (Press which i ∷ ds) = let e : count p (whole.next_ids (todo_of ds)) ≡ held (dues_stock ds) p = dues_held p ds in omega (arith, e)
dues_held p (Append x ∷ ds) = let e : count p (whole.next_ids (todo_of ds)) ≡ held (dues_stock ds) p = dues_held p ds in omega (arith, e)
dues_held p (Close ∷ ds) = let e : count p (whole.next_ids (todo_of ds)) ≡ held (dues_stock ds) p = dues_held p ds in omega (arith, e)
dues_held p (Join f ∷ ds) = let e : count p (whole.next_ids (todo_of ds)) ≡ held (dues_stock ds) p = dues_held p ds in omega (arith, e)
dues_held p (Table t ∷ ds) = let e : count p (whole.next_ids (todo_of ds)) ≡ held (dues_stock ds) p = dues_held p ds in omega (arith, e)
dues_held p (Leave e ∷ ds) = let h : count p (whole.next_ids (todo_of ds)) ≡ held (dues_stock ds) p = dues_held p ds in omega (arith, h)
dues_held p (Ask q ∷ ds) = let e : count p (whole.next_ids (todo_of ds)) ≡ held (dues_stock ds) p = dues_held p ds in omega (arith, e)
dues_held p (OpenRun r i ∷ ds) =
    let e : count p (whole.next_ids (todo_of ds)) ≡ held (dues_stock ds) p = dues_held p ds in
    let a : one (same p (eof_path (eof_at r.codes))) ≡ one (same p r.codes) = ap (λ q. one (same p q)) (sym r.first) in
    let b : one (same p (eof_path (next (eof_at r.codes)))) ≡ one (same p r.values) = ap (λ q. one (same p q)) (sym r.second) in
    omega (arith, e, a, b)
dues_held p (EndRun c i ∷ ds) = let e : count p (whole.next_ids (todo_of ds)) ≡ held (dues_stock ds) p = dues_held p ds in omega (arith, e)

-- of a node that regroups
newest_held : (p : List ℕ) (r : Regroup) (j : Option Item) (rows : ℕ) → count p (whole.mind_ids (mind_in r j rows)) ≡ held (some_stock item_stock j) p
newest_held p (Repartition h) None rows = refl
newest_held p (Repartition h) (Some j) rows = omega arith
newest_held p (Buffered h) None rows = refl
newest_held p (Buffered h) (Some j) rows = omega arith
newest_held p (Collect h) None rows = refl
newest_held p (Collect h) (Some j) rows = omega arith

mind_held : (p : List ℕ) (l : Local) → count p (whole.mind_ids (mind_of l)) ≡ held (local_stock l) p
mind_held p (Empty n) = refl
mind_held p (Full x) = omega arith
mind_held p (Chunked n e rows) = omega arith
mind_held p (Columns n rows) = refl
mind_held p (Lists n rows) = refl
mind_held p (Grouped n) = newest_held p n.rule n.newest n.rows
mind_held p (Zoned n) = omega arith
mind_held p (Pressing which) = refl
mind_held p AsIs = refl
mind_held p (Probe n e) = omega arith
mind_held p Asking = refl
mind_held p (Runs r) =
    let e : one (same p (eof_path (rest_eof (runs_in r.runs r.cutter.distinct)))) ≡ one (same p (eof_path r.runs.pointer)) = ap (λ d. one (same p (eof_path d))) (rest_is r.runs r.cutter.distinct) in
    omega (arith, e)
mind_held p Over = refl
mind_held p Passing = refl
mind_held p (Made l) = refl

ids_held : (p : List ℕ) (ids : List (List ℕ)) → count p ids ≡ held (ids_stock ids) p
ids_held p [] = refl
ids_held p (q ∷ ids) = let e : count p ids ≡ held (ids_stock ids) p = ids_held p ids in omega (arith, e)

names_held : (p : List ℕ) (ns : Names) → count p (plain.held_names (names_of ns)) ≡ held (names_stock ns) p
names_held p (Onward e) = omega arith
names_held p (Handed ids) = ids_held p ids.items

phase_held : (p : List ℕ) (x : Phase) → count p (whole.phase_ids (phase_of x)) ≡ held (phase_stock x) p
phase_held p (Reading ns) = names_held p ns
phase_held p (Giving ns i) = let e : count p (plain.held_names (names_of ns)) ≡ held (names_stock ns) p = names_held p ns in omega (arith, e)
phase_held p Closing = refl
phase_held p Finished = refl

-- ---- tasks

abbrev Held : List ℕ → Task → Type 0
Held p t = (r : Tasks) → count p (whole.held_by (task_row t r)) ≡ held (task_stock t) p + count p (whole.held_by r)

kids_by : (p : List ℕ) (n : ℕ) → ((t : Task) → task_count t ≤ n → Held p t) → (ts : List Task) → count_of_all ts ≤ n → count p (whole.held_by (row ts)) ≡ held (tasks_stock ts) p
kids_by p n each [] l = refl
kids_by p n each (t ∷ ts) l =
    let a : count p (whole.held_by (task_row t (row ts))) ≡ held (task_stock t) p + count p (whole.held_by (row ts)) = each t (omega (arith, l)) (row ts) in
    let b : count p (whole.held_by (row ts)) ≡ held (tasks_stock ts) p = kids_by p n each ts (omega (arith, l)) in
    omega (arith, a, b)

upto : (p : List ℕ) (n : ℕ) (t : Task) → task_count t ≤ n → Held p t
upto p zero t l = λ r. absurd (omega (arith, task_count_out t, l))
upto p (suc n) t l = λ r.
    let h = (out-Task t).head in
    let ks = (out-Task t).kids.items in
    let inbox : List (List ℕ) = map (λ i. i.0) (items_of h.inbox.items) in
    let todo : List (List ℕ) = whole.next_ids (todo_of h.todo.items) in
    let mind : List (List ℕ) = whole.mind_ids (mind_of h.local) in
    let below : List (List ℕ) = whole.held_by (row ks) in
    let m : task_count t ≡ 1 + count_of_all ks = task_count_out t in
    let i : count p inbox ≡ held (items_stock h.inbox.items) p = items_held p h.inbox.items in
    let d : count p todo ≡ held (dues_stock h.todo.items) p = dues_held p h.todo.items in
    let o : count p mind ≡ held (local_stock h.local) p = mind_held p h.local in
    let k : count p below ≡ held (tasks_stock ks) p = kids_by p n (upto p n) ks (omega (arith, m, l)) in
    let e : count p (whole.held_by (task_row t r)) ≡ count p ((inbox ++ ((todo ++ mind) ++ below)) ++ whole.held_by r) = ap (λ z. count p (whole.held_by z)) (row_out t r) in
    let a : count p ((inbox ++ ((todo ++ mind) ++ below)) ++ whole.held_by r) ≡ count p (inbox ++ ((todo ++ mind) ++ below)) + count p (whole.held_by r) = count_both p (inbox ++ ((todo ++ mind) ++ below)) (whole.held_by r) in
    let b : count p (inbox ++ ((todo ++ mind) ++ below)) ≡ count p inbox + count p ((todo ++ mind) ++ below) = count_both p inbox ((todo ++ mind) ++ below) in
    let c : count p ((todo ++ mind) ++ below) ≡ count p (todo ++ mind) + count p below = count_both p (todo ++ mind) below in
    let f : count p (todo ++ mind) ≡ count p todo + count p mind = count_both p todo mind in
    let s : held (task_stock t) p ≡ held (both (head_stock h) (tasks_stock ks)) p = ap (λ (z : Stock). held z p) (task_stock_out t) in
    omega (arith, i, d, o, k, e, a, b, c, f, s)

task_held : (p : List ℕ) (t : Task) → Held p t
task_held p t = upto p (task_count t) t (omega arith)

-- ---- the whole machine

machine_held : (p : List ℕ) (m : Machine) → count p (whole.machine_ids (machine_of m)) ≡ held (machine_stock m) p
machine_held p m =
    let root : Tasks = (machine_of m).root in
    let a : count p (whole.phase_ids (phase_of m.phase) ++ whole.held_by root) ≡ count p (whole.phase_ids (phase_of m.phase)) + count p (whole.held_by root) = count_both p (whole.phase_ids (phase_of m.phase)) (whole.held_by root) in
    let b : count p (whole.phase_ids (phase_of m.phase)) ≡ held (phase_stock m.phase) p = phase_held p m.phase in
    let c : count p (whole.held_by root) ≡ held (task_stock m.root) p + 0 = task_held p m.root no_tasks in
    omega (arith, a, b, c)

-- what is active in all is what it holds
module _ (u : Active) (m : Machine) (exact : Exact u (machine_stock m)) where
  pub active_held : (p : List ℕ) → In p (fin.keys u) → In p (whole.machine_ids (machine_of m))
  active_held p i =
      let a : active_at u p ≡ 1 = ap one (fin.contains_key-keys u p ∙ in_any p (fin.keys u) i) in
      let b : active_at u p ≡ held (machine_stock m) p = exact p in
      let c : count p (whole.machine_ids (machine_of m)) ≡ held (machine_stock m) p = machine_held p m in
      counted_in p (whole.machine_ids (machine_of m)) (omega (arith, a, b, c))

  pub held_active : (p : List ℕ) → In p (whole.machine_ids (machine_of m)) → In p (fin.keys u)
  held_active p i =
      let a : 1 ≤ count p (whole.machine_ids (machine_of m)) = in_counted p (whole.machine_ids (machine_of m)) i in
      let b : active_at u p ≡ held (machine_stock m) p = exact p in
      let c : count p (whole.machine_ids (machine_of m)) ≡ held (machine_stock m) p = machine_held p m in
      ⊎_elim
      (λ t. any_in p (fin.keys u) (sym (fin.contains_key-keys u p) ∙ t))
      (λ f. let z : active_at u p ≡ 0 = ap one f in absurd (omega (arith, a, b, c, z)))
      (cases_Bool (fin.contains_key u p))

  pub is_held : (p : List ℕ) → fin.contains_key u p ≡ true → In p (whole.machine_ids (machine_of m))
  is_held p t = active_held p (any_in p (fin.keys u) (sym (fin.contains_key-keys u p) ∙ t))

  pub is_active : (p : List ℕ) → In p (whole.machine_ids (machine_of m)) → fin.contains_key u p ≡ true
  is_active p i = fin.contains_key-keys u p ∙ in_any p (fin.keys u) (held_active p i)

  -- so the steps are the same
  pub held_steps : (s : Setting) (number : ℕ) (a : Answer) → whole.whole_steps s (fin.keys u) number a (machine_of m) ≡ whole.whole_steps s (whole.machine_ids (machine_of m)) number a (machine_of m)
  held_steps s number a =
      ap (λ z. cond (whole.may_source (machine_of m).phase (machine_of m).root) (whole.source_step a (machine_of m).phase (machine_of m).root ∷ []) [] ++ map (whole.in_root (machine_of m).phase) z)
      (least_agrees s (fin.keys u) (whole.machine_ids (machine_of m)) number (machine_of m).root active_held held_active)

-- it stays so
pub exact_then : (u v : Active) (s t : Stock) → Exact u s → Moved u v s t → Exact v t
exact_then u v s t e m = λ p. omega (arith, e p, m.balance p)
