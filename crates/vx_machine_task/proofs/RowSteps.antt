-- Children in plain data: a put on one's queue, the closing of all queues, and the layouts of those that have done all.
use Rattle.std.proofs.Common.{◌≡◌, ℕ, zero, suc, ◌+◌, ◌<◌, List, [], ◌∷◌, ◌++◌, length, get_or, set, map, reverse, refl, sym, ap, ◌∙◌, arith, append_assoc, append-nil}
use Rattle.std.proofs.lemmas.List.{reverse-append}
use Rattle.vx_layout_spec.specs.LayoutTree.{LayoutData}
use Rattle.vx_layout_tree.specs.declared.layout.Layout.{Layout}
use Rattle.vx_layout_tree.specs.LayoutView.{layout_data}
use Rattle.vx_plan.specs.PlanData.{Item as Piece}
use Rattle.vx_machine_state.specs.State.{Tasks, no_tasks, task_then}
use Rattle.vx_machine_state.specs.Acts.{count, with_item, give, shut_desk, shut_all, shut_at, layout_in, layouts_in}
use Rattle.vx_machine_task.specs.declared.task.Task.{Task, out-Task}
use Rattle.vx_machine_node.specs.declared.node.Local.TheVariants.{Passing, Made}
use Rattle.vx_machine_node.specs.View.{mind_of}
use Rattle.vx_machine_task.specs.View.{desk_of, task_row, row}
use Rattle.vx_machine_task.proofs.ViewParts.{row_out, count_row}
use Rattle.vx_machine_node.proofs.ListParts.{none_is}

-- ---- a put

pub put_row : (ts : List Task) (n : ℕ) (x y : Task) (i : Piece) → n < length ts → get_or ts n x ≡ x
    → ((r : Tasks) → task_row y r ≡ task_then (with_item (desk_of (out-Task x).head) i) (row (out-Task x).kids.items) r)
    → row (set ts n y) ≡ give n i (row ts)
put_row [] n x y i h e f = absurd (omega (arith, h))
put_row (t ∷ ts) zero x y i h e f =
    f (row ts) ∙ ap (give zero i) (sym (row_out x (row ts))) ∙ ap (λ z. give zero i (task_row z (row ts))) (sym e)
put_row (t ∷ ts) (suc n) x y i h e f =
    ap (task_row t) (put_row ts n x y i (omega (arith, h)) e f)
    ∙ row_out t (give n i (row ts))
    ∙ ap (give (suc n) i) (sym (row_out t (row ts)))

-- ---- all queues closed, one after the other

-- the first n
abbrev pub shut_first : ℕ → Tasks → Tasks
shut_first zero r = r
shut_first (suc n) no_tasks = no_tasks
shut_first (suc n) (task_then c ks r) = task_then (shut_desk c) ks (shut_first n r)

shut_next : (n : ℕ) (r : Tasks) → shut_at n (shut_first n r) ≡ shut_first (suc n) r
shut_next zero no_tasks = refl
shut_next zero (task_then c ks r) = refl
shut_next (suc n) no_tasks = refl
shut_next (suc n) (task_then c ks r) = ap (task_then (shut_desk c) ks) (shut_next n r)

shut_end : (n : ℕ) (r : Tasks) → count r ≡ n → shut_first n r ≡ shut_all r
shut_end zero no_tasks h = refl
shut_end zero (task_then c ks r) h = absurd (omega (arith, h))
shut_end (suc n) no_tasks h = refl
shut_end (suc n) (task_then c ks r) h = ap (task_then (shut_desk c) ks) (shut_end n r (omega (arith, h)))

shut_row : (ts : List Task) (n : ℕ) (x y : Task) → n < length ts → get_or ts n x ≡ x
    → ((r : Tasks) → task_row y r ≡ task_then (shut_desk (desk_of (out-Task x).head)) (row (out-Task x).kids.items) r)
    → row (set ts n y) ≡ shut_at n (row ts)
shut_row [] n x y h e f = absurd (omega (arith, h))
shut_row (t ∷ ts) zero x y h e f =
    f (row ts) ∙ ap (shut_at zero) (sym (row_out x (row ts))) ∙ ap (λ z. shut_at zero (task_row z (row ts))) (sym e)
shut_row (t ∷ ts) (suc n) x y h e f =
    ap (task_row t) (shut_row ts n x y (omega (arith, h)) e f)
    ∙ row_out t (shut_at n (row ts))
    ∙ ap (shut_at (suc n)) (sym (row_out t (row ts)))

pub shut_more : (ts all : List Task) (n : ℕ) (x y : Task) → n < length ts → get_or ts n x ≡ x
    → ((r : Tasks) → task_row y r ≡ task_then (shut_desk (desk_of (out-Task x).head)) (row (out-Task x).kids.items) r)
    → row ts ≡ shut_first n (row all) → row (set ts n y) ≡ shut_first (n + 1) (row all)
shut_more ts all n x y h e f is =
    let k : suc n ≡ n + 1 = omega arith in
    shut_row ts n x y h e f ∙ ap (shut_at n) is ∙ shut_next n (row all) ∙ ap (λ m. shut_first m (row all)) k

pub shut_done : (ts all : List Task) (n : ℕ) → length all ≡ n → row ts ≡ shut_first n (row all) → row ts ≡ shut_all (row all)
shut_done ts all n h is = is ∙ shut_end n (row all) (count_row all ∙ h)

-- ---- layouts, from the last one on

-- a task's own, or its children's
abbrev own_layouts : Task → List (LayoutData ℕ)
own_layouts t = layout_in (mind_of (out-Task t).head.local) (layouts_in (row (out-Task t).kids.items))

layouts_own : (t : Task) → layouts_in (task_row t no_tasks) ≡ own_layouts t
layouts_own t = ap layouts_in (row_out t no_tasks) ∙ append-nil (own_layouts t)

layouts_first : (t : Task) (r : Tasks) → layouts_in (task_row t r) ≡ layouts_in (task_row t no_tasks) ++ layouts_in r
layouts_first t r = ap layouts_in (row_out t r) ∙ ap (λ z. z ++ layouts_in r) (sym (layouts_own t))

layouts_push : (ts : List Task) (t : Task) → layouts_in (row (ts ++ (t ∷ []))) ≡ layouts_in (row ts) ++ layouts_in (task_row t no_tasks)
layouts_push [] t = refl
layouts_push (x ∷ ts) t =
    layouts_first x (row (ts ++ (t ∷ [])))
    ∙ ap (λ z. layouts_in (task_row x no_tasks) ++ z) (layouts_push ts t)
    ∙ sym (append_assoc (layouts_in (task_row x no_tasks)) (layouts_in (row ts)) (layouts_in (task_row t no_tasks)))
    ∙ ap (λ z. z ++ layouts_in (task_row t no_tasks)) (sym (layouts_first x (row ts)))

back_push : (ls : List Layout) (m : Layout) → map layout_data (reverse (ls ++ (m ∷ []))) ≡ layout_data m ∷ map layout_data (reverse ls)
back_push ls m = ap (map layout_data) (reverse-append ls (m ∷ []))

-- those of the last child were added
pub layouts_more : (init : List (LayoutData ℕ)) (all xs : List Task) (k : Task) (ls more : List Layout) → all ≡ xs ++ (k ∷ [])
    → map layout_data (reverse more) ≡ layouts_in (task_row k no_tasks) ++ map layout_data (reverse ls)
    → layouts_in (row all) ++ map layout_data (reverse ls) ≡ init → layouts_in (row xs) ++ map layout_data (reverse more) ≡ init
layouts_more init all xs k ls more a is h =
    ap (λ z. layouts_in (row xs) ++ z) is
    ∙ sym (append_assoc (layouts_in (row xs)) (layouts_in (task_row k no_tasks)) (map layout_data (reverse ls)))
    ∙ ap (λ z. z ++ map layout_data (reverse ls)) (sym (layouts_push xs k))
    ∙ ap (λ z. layouts_in (row z) ++ map layout_data (reverse ls)) (sym a)
    ∙ h

-- behind the first one
pub layouts_end : (init : List (LayoutData ℕ)) (ts : List Task) (ls : List Layout) → length ts ≡ 0
    → layouts_in (row ts) ++ map layout_data (reverse ls) ≡ init → map layout_data (reverse ls) ≡ init
layouts_end init ts ls n h = ap (λ z. layouts_in (row z) ++ map layout_data (reverse ls)) (sym (none_is ts n)) ∙ h

-- all that were added to none
pub layouts_back : (ks : List Task) (none ls back : List Layout) → none ≡ [] → back ≡ reverse ls → map layout_data (reverse ls) ≡ layouts_in (row ks) ++ map layout_data (reverse none)
    → map layout_data back ≡ layouts_in (row ks)
layouts_back ks none ls back n b h =
    ap (map layout_data) b ∙ h ∙ ap (λ z. layouts_in (row ks) ++ map layout_data (reverse z)) n ∙ append-nil (layouts_in (row ks))

-- a task's own layout was added
pub layouts_made : (t : Task) (x : Layout) (ls more : List Layout) → (out-Task t).head.local ≡ Made x → more ≡ ls ++ (x ∷ [])
    → map layout_data (reverse more) ≡ layouts_in (task_row t no_tasks) ++ map layout_data (reverse ls)
layouts_made t x ls more e b =
    ap (λ z. map layout_data (reverse z)) b ∙ back_push ls x
    ∙ ap (λ z. z ++ map layout_data (reverse ls)) (sym (layouts_own t ∙ ap (λ l. layout_in (mind_of l) (layouts_in (row (out-Task t).kids.items))) e))

-- it has its children's
pub layouts_passed : (t : Task) → (out-Task t).head.local ≡ Passing → layouts_in (task_row t no_tasks) ≡ layouts_in (row (out-Task t).kids.items)
layouts_passed t e = layouts_own t ∙ ap (λ l. layout_in (mind_of l) (layouts_in (row (out-Task t).kids.items))) e
