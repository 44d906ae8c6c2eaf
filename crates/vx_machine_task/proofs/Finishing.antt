-- A task that has done all holds nothing, and has reserved nothing.
use Rattle.std.proofs.Common.{◌≡◌, ℕ, zero, suc, ◌+◌, ◌≤◌, ◌&&◌, ◌==◌, true, false, List, [], ◌∷◌, ◌++◌, map, length, length-append, inl, inr, ⊎_elim, ◌⊎◌, refl, ap, sym, ◌∙◌, arith}
use Rattle.std.proofs.lemmas.Bool.{and_parts, true≢false, eqb-true}
use Rattle.std.specs.VecDeque.{deque_len}
use Rattle.vx_layout_tree.specs.declared.layout.Layout.{Layout}
use Rattle.vx_machine_ids.specs.Stock.{Stock, none, both, all_stock}
use Rattle.vx_machine_node.specs.Ledger.{dues_reserved, local_reserved}
use Rattle.vx_machine_task.specs.Ledger.{task_reserved, tasks_reserved}
use Rattle.vx_machine_task.specs.Sizes.{task_count, count_of_all}
use Rattle.vx_machine_node.specs.Stocks.{local_stock, dues_stock, items_stock}
use Rattle.vx_machine_task.specs.Stocks.{task_stock, tasks_stock}
use Rattle.vx_machine_task.specs.Ready.{no_others, has_layout, is_done}
use Rattle.vx_machine_node.specs.declared.node.Local.{Local}
use Rattle.vx_machine_node.specs.declared.node.Local.TheVariants.{Empty, Full, Chunked, Columns, Lists, Grouped, Over, Passing, Made, Zoned, Pressing, AsIs, Probe, Asking, Runs}
use Rattle.vx_machine_task.specs.declared.task.Task.{Task, out-Task}
use Rattle.vx_machine_task.proofs.TaskParts.{task_stock_out, task_count_out}
use Rattle.vx_machine_node.proofs.ListParts.{none_is}
use Rattle.vx_machine_task.proofs.Readiness.{done_out}
use Rattle.vx_machine_task.proofs.ReservedSteps.{task_reserved_out}

-- the parts of a task that has done all
pub record DoneParts (t : Task) : Type 0 where
  pub there : has_layout (out-Task t).head.local (map is_done (out-Task t).kids.items) ≡ true
  pub idle : deque_len (out-Task t).head.todo ≡ 0
  pub empty : deque_len (out-Task t).head.inbox ≡ 0

pub done_parts : (t : Task) → is_done t ≡ true → DoneParts t
done_parts t h =
    let l = (out-Task t).head in
    let a = and_parts (has_layout l.local (map is_done (out-Task t).kids.items)) (deque_len l.todo == 0 && deque_len l.inbox == 0) (sym (done_out t) ∙ h) in
    let b = and_parts (deque_len l.todo == 0) (deque_len l.inbox == 0) a.1 in
    record { there = a.0; idle = eqb-true (deque_len l.todo) 0 b.0; empty = eqb-true (deque_len l.inbox) 0 b.1 }

none_others : (ts : List Task) → no_others (map is_done ts) ≡ true → ts ≡ []
none_others [] h = refl
none_others (t ∷ ts) h = absurd (true≢false (sym h))

-- it has its layout and no children, or its only child has done all
pub there_cases : (l : Local) (ts : List Task) → has_layout l (map is_done ts) ≡ true → ((x : Layout) × (l ≡ Made x) × (ts ≡ [])) ⊎ ((k : Task) × (l ≡ Passing) × (ts ≡ k ∷ []) × (is_done k ≡ true))
there_cases (Made x) ts h = inl (x, refl, none_others ts h)
there_cases Passing [] h = absurd (true≢false (sym h))
there_cases Passing (k ∷ ts) h = let a = and_parts (no_others (map is_done ts)) (is_done k) h in inr (k, refl, ap (λ z. k ∷ z) (none_others ts a.0), a.1)
there_cases (Empty n) ts h = absurd (true≢false (sym h))
there_cases (Full s) ts h = absurd (true≢false (sym h))
there_cases (Chunked n eof rows) ts h = absurd (true≢false (sym h))
there_cases (Columns n rows) ts h = absurd (true≢false (sym h))
there_cases (Lists n rows) ts h = absurd (true≢false (sym h))
there_cases (Grouped n) ts h = absurd (true≢false (sym h))
there_cases (Zoned n) ts h = absurd (true≢false (sym h))
there_cases (Pressing which) ts h = absurd (true≢false (sym h))
there_cases AsIs ts h = absurd (true≢false (sym h))
there_cases (Probe n eof) ts h = absurd (true≢false (sym h))
there_cases Asking ts h = absurd (true≢false (sym h))
there_cases (Runs r) ts h = absurd (true≢false (sym h))
there_cases Over ts h = absurd (true≢false (sym h))

nothing_of : {A : Type 0} (f : A → Stock) (xs : List A) → length xs ≡ 0 → all_stock f xs ≡ none
nothing_of f xs h = ap (all_stock f) (none_is xs h)

none_upto : (n : ℕ) (t : Task) → task_count t ≤ n → is_done t ≡ true → (task_stock t ≡ none) × (task_reserved t ≡ 0)
none_upto zero t m h = absurd (omega (arith, m, task_count_out t))
none_upto (suc n) t m h =
    let d : DoneParts t = done_parts t h in
    let l = (out-Task t).head in
    let ks = (out-Task t).kids.items in
    let c : task_count t ≡ 1 + count_of_all ks = task_count_out t in
    let b : dues_stock l.todo.items ≡ none = nothing_of _ l.todo.items (sym l.todo.ok.0 ∙ d.idle) in
    let e : items_stock l.inbox.items ≡ none = nothing_of _ l.inbox.items (sym l.inbox.ok.0 ∙ d.empty) in
    let r : dues_reserved l.todo.items ≡ 0 = ap dues_reserved (none_is l.todo.items (sym l.todo.ok.0 ∙ d.idle)) in
    let own : task_reserved t ≡ (dues_reserved l.todo.items + local_reserved l.local) + tasks_reserved ks = task_reserved_out t in
    ⊎_elim
    (λ z.
    let a : local_stock l.local ≡ none = ap local_stock z.1 in
    let k : tasks_stock ks ≡ none = ap tasks_stock z.2 in
    let f : local_reserved l.local ≡ 0 = ap local_reserved z.1 in
    let g : tasks_reserved ks ≡ 0 = ap tasks_reserved z.2 in
    (task_stock_out t ∙ (λ i. both (both (a i) (both (b i) (e i))) (k i)), omega (arith, own, r, f, g)))
    (λ z.
    let s : count_of_all ks ≡ task_count z.0 + 0 = ap count_of_all z.2 in
    let w = none_upto n z.0 (omega (arith, m, c, s)) z.3 in
    let a : local_stock l.local ≡ none = ap local_stock z.1 in
    let k : tasks_stock ks ≡ none = ap tasks_stock z.2 ∙ ap (λ x. both x none) w.0 in
    let f : local_reserved l.local ≡ 0 = ap local_reserved z.1 in
    let g : tasks_reserved ks ≡ task_reserved z.0 + 0 = ap tasks_reserved z.2 in
    (task_stock_out t ∙ (λ i. both (both (a i) (both (b i) (e i))) (k i)), omega (arith, own, r, f, g, w.1)))
    (there_cases l.local ks d.there)

pub done_none : (t : Task) → is_done t ≡ true → task_stock t ≡ none
done_none t h = (none_upto (task_count t) t (omega arith) h).0

pub done_unreserved : (t : Task) → is_done t ≡ true → task_reserved t ≡ 0
done_unreserved t h = (none_upto (task_count t) t (omega arith) h).1

-- ---- its only child

made_passing : (x : Layout) → Made x ≡ Passing → ⊥
made_passing x e = cc

last_alone : (xs : List Task) (k j : Task) → xs ++ (k ∷ []) ≡ j ∷ [] → (xs ≡ []) × (k ≡ j)
last_alone [] k j e = (refl, cc)
last_alone (x ∷ xs) k j e = absurd (omega (arith, ap length e, length-append xs (k ∷ [])))

-- the last child is the only one, and has done all
pub only_child : (t k : Task) (xs : List Task) → is_done t ≡ true → (out-Task t).head.local ≡ Passing → (out-Task t).kids.items ≡ xs ++ (k ∷ [])
    → (xs ≡ []) × (is_done k ≡ true) × ((out-Task t).kids.items ≡ k ∷ [])
only_child t k xs h l e =
    ⊎_elim
    (λ z. absurd (made_passing z.0 (sym z.1 ∙ l)))
    (λ z.
    let a = last_alone xs k z.0 (sym e ∙ z.2) in
    (a.0, ap is_done a.1 ∙ z.3, e ∙ ap (λ ys. ys ++ (k ∷ [])) a.0))
    (there_cases (out-Task t).head.local (out-Task t).kids.items (done_parts t h).there)
