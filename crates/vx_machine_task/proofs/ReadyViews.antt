-- Which tasks are ready, and how many, and when one has done all: as tasks in plain data tell it.
use Rattle.std.proofs.Common.{◌≡◌, ℕ, zero, suc, ◌+◌, ◌-◌, ◌*◌, ◌<◌, ◌≤◌, ◌&&◌, ◌||◌, ◌==◌, not, nat_lt, Bool, true, false, List, [], ◌∷◌, ◌++◌, map, length, Option, refl, sym, ap, ◌∙◌, arith}
use Rattle.std.specs.Prelude.{if◌then◌else◌}
use Rattle.std.specs.Arc.{arc_value}
use Rattle.std.specs.FinMap as fin
use Rattle.std.specs.VecDeque.{deque_len}
use Rattle.std.proofs.lemmas.Bool.{true≢false}
use Rattle.std.proofs.lemmas.Bool.Decides.{nat_tests}
use Rattle.std.proofs.lemmas.List.{length-map}
use Rattle.vx_model.specs.Ty.{Ty, boolean, primitive, utf8, binary, list, struct, extension, is_struct, is_list, nullable}
use Rattle.vx_model.specs.TyView.{ty}
use Rattle.vx_sequence.specs.Universe.{Active}
use Rattle.vx_layout_tree.specs.declared.layout.Layout.{Layout}
use Rattle.vx_layout_tree.specs.LayoutView.{layout_data}
use Rattle.vx_layout_shape.specs.Shape.{struct_children}
use Rattle.vx_machine_ids.specs.Stock.{one}
use Rattle.vx_regroup.specs.declared.regroup.Regroup.{Regroup}
use Rattle.vx_regroup.specs.declared.regroup.Regroup.TheVariants.{Repartition, Buffered, Collect}
use Rattle.vx_machine_state.specs.State.{Next, Tasks, no_tasks}
use Rattle.vx_machine_state.specs.Acts.{count, column_count, layout_in, layouts_in}
use Rattle.vx_machine_state.specs.Moves as moves
use Rattle.vx_machine_state.specs.Done as whole
use Rattle.vx_machine_state.specs.Places as places
use Rattle.vx_machine_node.specs.declared.item.Item.{Item}
use Rattle.vx_machine_node.specs.declared.item.Due.{Due}
use Rattle.vx_machine_node.specs.declared.item.Due.TheVariants.{Put, HandOn, Append, Close, Join, Table, Leave, Press, Ask, OpenRun, EndRun}
use Rattle.vx_machine_node.specs.declared.node.Local.{Local}
use Rattle.vx_machine_node.specs.declared.node.Local.TheVariants.{Empty, Full, Chunked, Columns, Lists, Grouped, Over, Passing, Made, Zoned, Pressing, AsIs, Probe, Asking, Runs}
use Rattle.vx_machine_node.specs.declared.node.Shape.{Shape}
use Rattle.vx_machine_node.specs.declared.node.Shape.TheVariants as shapes
use Rattle.vx_machine_task.specs.declared.task.Head.{Head}
use Rattle.vx_machine_task.specs.declared.task.Task.{Task, out-Task}
use Rattle.vx_machine_task.specs.Ready.{made_of, no_others, has_layout, kid_of, kids_of, may_now, may_due, may_todo, room_at, all_made, can_join, is_made, is_over, ready_in, ready_among, counted, is_done}
use Rattle.vx_machine_task.specs.Sizes.{task_count, count_of_all}
use Rattle.vx_machine_node.specs.View.{item_of, items_of, fold_of, next_of, todo_of, mind_of}
use Rattle.vx_machine_task.specs.View.{desk_of, task_row, row}
use Rattle.vx_machine_task.proofs.TaskParts.{task_count_out}
use Rattle.vx_machine_task.proofs.ViewParts.{row_out, count_row}
use Rattle.vx_machine_node.specs.Regrouped.{mind_in}
use Rattle.vx_machine_task.proofs.Readiness.{ready_in_out, made_out, done_out}

-- ---- whether a task may act

-- a node that regroups has no layout of its own, and takes more

mind_unmade : (r : Regroup) (j : Option Item) (rows : ℕ) (left : List Next) (b : Bool) → false ≡ moves.is_made (mind_in r j rows) left b
mind_unmade (Repartition h) j rows left b = refl
mind_unmade (Buffered h) j rows left b = refl
mind_unmade (Collect h) j rows left b = refl

mind_open : (r : Regroup) (j : Option Item) (rows : ℕ) → false ≡ moves.is_over (mind_in r j rows)
mind_open (Repartition h) j rows = refl
mind_open (Buffered h) j rows = refl
mind_open (Collect h) j rows = refl

some_there : (k : ℕ) → (suc k == 0) ≡ false
some_there k = grind (arith, nat_tests)

empty_by : {A B : Type 0} (f : A → B) (n : ℕ) (xs : List A) → n ≡ length xs → (n == 0) ≡ moves.is_empty (map f xs)
empty_by f n [] e = ap (λ k. k == 0) e
empty_by f n (x ∷ xs) e = ap (λ k. k == 0) e ∙ some_there (length xs)

made_view : (l : Local) (n : ℕ) (ds : List Due) (b c : Bool) → n ≡ length ds → b ≡ c → is_made l (n == 0) b ≡ moves.is_made (mind_of l) (todo_of ds) c
made_view (Made x) n ds b c e h = refl
made_view (Empty k) n ds b c e h = refl
made_view (Full s) n ds b c e h = refl
made_view (Chunked k eof rows) n ds b c e h = refl
made_view (Columns k rows) n ds b c e h = refl
made_view (Lists k rows) n ds b c e h = refl
made_view (Zoned k) n ds b c e h = refl
made_view (Pressing which) n ds b c e h = refl
made_view AsIs n ds b c e h = refl
made_view (Probe k eof) n ds b c e h = refl
made_view Asking n ds b c e h = refl
made_view (Runs r) n ds b c e h = refl
made_view (Grouped k) n ds b c e h = mind_unmade k.rule k.newest k.rows (todo_of ds) c
made_view Over n ds b c e h = refl
made_view Passing n ds b c e h = λ i. empty_by next_of n ds e i && h i

over_view : (l : Local) → is_over l ≡ moves.is_over (mind_of l)
over_view (Made x) = refl
over_view (Empty n) = refl
over_view (Full s) = refl
over_view (Chunked n eof rows) = refl
over_view (Columns n rows) = refl
over_view (Lists n rows) = refl
over_view (Zoned n) = refl
over_view (Pressing which) = refl
over_view AsIs = refl
over_view (Probe n eof) = refl
over_view Asking = refl
over_view (Runs r) = refl
over_view (Grouped n) = mind_open n.rule n.newest n.rows
over_view Over = refl
over_view Passing = refl

pub room_view : (i : ℕ) (ks : List Task) → room_at i (kids_of ks) ≡ moves.has_room i (row ks)
room_view zero [] = refl
room_view (suc i) [] = refl
room_view zero (x ∷ xs) =
    ap (λ n. nat_lt n (out-Task x).head.places) ((out-Task x).head.inbox.ok.0 ∙ sym (length-map (out-Task x).head.inbox.items item_of))
    ∙ sym (ap (moves.has_room zero) (row_out x (row xs)))
room_view (suc i) (x ∷ xs) = room_view i xs ∙ sym (ap (moves.has_room (suc i)) (row_out x (row xs)))

all_upto : (n : ℕ) (ks : List Task) → count_of_all ks ≤ n → all_made (kids_of ks) ≡ moves.all_made (row ks)
all_upto n [] h = refl
all_upto zero (x ∷ xs) h = absurd (omega (arith, h, task_count_out x))
all_upto (suc n) (x ∷ xs) h =
    let c : task_count x ≡ 1 + count_of_all (out-Task x).kids.items = task_count_out x in
    let hd = (out-Task x).head in
    let below : all_made (kids_of (out-Task x).kids.items) ≡ moves.all_made (row (out-Task x).kids.items) = all_upto n (out-Task x).kids.items (omega (arith, h, c)) in
    let own : made_of x ≡ moves.is_made (mind_of hd.local) (todo_of hd.todo.items) (moves.all_made (row (out-Task x).kids.items)) =
    made_out x ∙ made_view hd.local (deque_len hd.todo) hd.todo.items _ _ hd.todo.ok.0 below in
    (λ i. own i && all_upto n xs (omega (arith, h, c)) i) ∙ sym (ap moves.all_made (row_out x (row xs)))

pub all_view : (ks : List Task) → all_made (kids_of ks) ≡ moves.all_made (row ks)
all_view ks = all_upto (count_of_all ks) ks (omega arith)

columns_view : (t : Ty) (n : ℕ) → is_struct t ≡ true → (n == struct_children t) ≡ (n == column_count t)
columns_view (struct fs b) n h = refl
columns_view (boolean b) n h = absurd (true≢false (sym h))
columns_view (primitive p b) n h = absurd (true≢false (sym h))
columns_view (utf8 b) n h = absurd (true≢false (sym h))
columns_view (binary b) n h = absurd (true≢false (sym h))
columns_view (list t b) n h = absurd (true≢false (sym h))
columns_view (extension tag t) n h = absurd (true≢false (sym h))

-- of a list the columns are counted by its validity
pub lists_count : (t : Ty) → is_list t ≡ true → (if nullable t then 3 else 2) ≡ column_count t
lists_count (list t b) h = refl
lists_count (boolean b) h = absurd (true≢false (sym h))
lists_count (primitive p b) h = absurd (true≢false (sym h))
lists_count (utf8 b) h = absurd (true≢false (sym h))
lists_count (binary b) h = absurd (true≢false (sym h))
lists_count (struct fs b) h = absurd (true≢false (sym h))
lists_count (extension tag t) h = absurd (true≢false (sym h))

fold_view : (f : Shape) (ks : List Task) → can_join f (length (kids_of ks)) ≡ moves.can_fold (fold_of f) (count (row ks))
fold_view (shapes.Chunks t) ks = refl
fold_view (shapes.Columns n rows) ks =
    ap (λ k. k == struct_children (ty (arc_value n.dtype))) (length-map ks kid_of ∙ sym (count_row ks)) ∙ columns_view (ty (arc_value n.dtype)) (count (row ks)) n.structs
fold_view (shapes.Lists n rows) ks = ap (λ k. k == column_count (ty (arc_value n.dtype))) (length-map ks kid_of ∙ sym (count_row ks))
fold_view (shapes.Zones z) ks = ap (λ k. k == 2) (length-map ks kid_of ∙ sym (count_row ks))
fold_view (shapes.Runs n rows) ks = ap (λ k. k == 2 * length rows.items) (length-map ks kid_of ∙ sym (count_row ks))

due_view : (u : Active) (d : Due) (ks : List Task) → may_due u d (kids_of ks) ≡ moves.may_next (fin.keys u) (row ks) (next_of d)
due_view u (Put c i) ks = room_view c ks
due_view u (HandOn i r) ks = room_view 0 ks
due_view u (Append s) ks = refl
due_view u Close ks = refl
due_view u (Join f) ks = λ i. all_view ks i && fold_view f ks i
due_view u (Table t) ks = all_view ks
due_view u (Leave e) ks = all_view ks
due_view u (Press which i) ks = refl
due_view u (Ask p) ks = refl
due_view u (OpenRun r i) ks = refl
due_view u (EndRun c i) ks = room_view (suc c) ks

and_true : (b : Bool) → (b && true) ≡ b
and_true true = refl
and_true false = refl

take_view : (l : Local) (n : ℕ) (xs : List Item) (c : Bool) → n ≡ length xs → (not (is_over l) && (not (n == 0) || c)) ≡ moves.may_take (mind_of l) (items_of xs) c
take_view l n [] c e = ap (λ k. not (is_over l) && (not (k == 0) || c)) e ∙ ap (λ b. not b && c) (over_view l)
take_view l n (x ∷ xs) c e =
    ap (λ k. not (is_over l) && (not (k == 0) || c)) e ∙ ap (λ b. not (is_over l) && (not b || c)) (some_there (length xs)) ∙ and_true (not (is_over l)) ∙ ap not (over_view l)

todo_view : (u : Active) (h : Head) (ks : List Task) (ds : List Due) → may_todo u h (kids_of ks) ds ≡ moves.may_act (fin.keys u) (desk_of h) (row ks) (todo_of ds)
todo_view u h ks [] = take_view h.local (deque_len h.inbox) h.inbox.items h.closed h.inbox.ok.0
todo_view u h ks (d ∷ ds) = due_view u d ks

pub may_view : (u : Active) (h : Head) (ks : List Task) → may_now u h (kids_of ks) ≡ moves.may_act (fin.keys u) (desk_of h) (row ks) (todo_of h.todo.items)
may_view u h ks = todo_view u h ks h.todo.items

-- ---- how many are ready

pub one_same : (b : Bool) → one b ≡ places.one_if b
one_same true = refl
one_same false = refl

-- of a task with any others behind it
abbrev Agrees : Active → Task → Type 0
Agrees u x = (r : Tasks) → places.ready_in (fin.keys u) (task_row x r) ≡ ready_in u x + places.ready_in (fin.keys u) r

kids_by : (u : Active) (n : ℕ) → ((x : Task) → task_count x ≤ n → Agrees u x) → (ts : List Task) → count_of_all ts ≤ n → places.ready_in (fin.keys u) (row ts) ≡ ready_among u ts
kids_by u n each [] l = refl
kids_by u n each (x ∷ xs) l = each x (omega (arith, l)) (row xs) ∙ ap (λ k. ready_in u x + k) (kids_by u n each xs (omega (arith, l)))

upto : (u : Active) (n : ℕ) (x : Task) → task_count x ≤ n → Agrees u x
upto u zero x l = λ r. absurd (omega (arith, task_count_out x, l))
upto u (suc n) x l = λ r.
    let h = (out-Task x).head in
    let ks = (out-Task x).kids.items in
    let m : task_count x ≡ 1 + count_of_all ks = task_count_out x in
    let k : places.ready_in (fin.keys u) (row ks) ≡ ready_among u ks = kids_by u n (upto u n) ks (omega (arith, m, l)) in
    let o : places.one_if (moves.may_act (fin.keys u) (desk_of h) (row ks) (todo_of h.todo.items)) ≡ one (may_now u h (kids_of ks)) = ap places.one_if (sym (may_view u h ks)) ∙ sym (one_same (may_now u h (kids_of ks))) in
    let e : ready_in u x ≡ one (may_now u h (kids_of ks)) + ready_among u ks = ready_in_out u x in
    let a : places.ready_in (fin.keys u) (task_row x r) ≡ (places.one_if (moves.may_act (fin.keys u) (desk_of h) (row ks) (todo_of h.todo.items)) + places.ready_in (fin.keys u) (row ks)) + places.ready_in (fin.keys u) r
    = ap (places.ready_in (fin.keys u)) (row_out x r) in
    omega (arith, k, o, e, a)

pub task_ready : (u : Active) (x : Task) → places.ready_in (fin.keys u) (task_row x no_tasks) ≡ ready_in u x
task_ready u x = let e : places.ready_in (fin.keys u) (task_row x no_tasks) ≡ ready_in u x + 0 = upto u (task_count x) x (omega arith) no_tasks in omega (arith, e)

pub kids_ready : (u : Active) (ts : List Task) → places.ready_in (fin.keys u) (row ts) ≡ ready_among u ts
kids_ready u ts = kids_by u (count_of_all ts) (upto u (count_of_all ts)) ts (omega arith)

-- a task's own step comes first, its children's behind it
pub none_before : (b : Bool) (n k : ℕ) → n ≡ one b → k < n → k ≡ 0
none_before true n k e h = omega (arith, e, h)
none_before false n k e h = omega (arith, e, h)

pub behind_own : (u : Active) (t : Task) (k n : ℕ) → n ≡ one (may_now u (out-Task t).head (kids_of (out-Task t).kids.items)) → n ≤ k → k < counted (ready_in u t)
    → (k ≡ places.one_if (moves.may_act (fin.keys u) (desk_of (out-Task t).head) (row (out-Task t).kids.items) (todo_of (out-Task t).head.todo.items)) + (k - n))
    × (k - n < places.ready_in (fin.keys u) (row (out-Task t).kids.items))
behind_own u t k n x l h =
    let hd = (out-Task t).head in
    let ks = (out-Task t).kids.items in
    let o : places.one_if (moves.may_act (fin.keys u) (desk_of hd) (row ks) (todo_of hd.todo.items)) ≡ one (may_now u hd (kids_of ks)) = ap places.one_if (sym (may_view u hd ks)) ∙ sym (one_same (may_now u hd (kids_of ks))) in
    let r : places.ready_in (fin.keys u) (row ks) ≡ ready_among u ks = kids_ready u ks in
    let e : ready_in u t ≡ one (may_now u hd (kids_of ks)) + ready_among u ks = ready_in_out u t in
    (omega (arith, o, x, l), omega (arith, o, x, l, h, r, e))

-- ---- a task that has done all

left_view : (n m : ℕ) (ds : List Due) (is : List Item) → n ≡ length ds → m ≡ length is → (n == 0 && m == 0) ≡ (moves.is_empty (todo_of ds) && moves.is_empty (items_of is))
left_view n m ds is a b = λ i. empty_by next_of n ds a i && empty_by item_of m is b i

mind_undone : (r : Regroup) (j : Option Item) (rows : ℕ) (ks : Tasks) (b : Bool) → false ≡ whole.has_layout (mind_in r j rows) ks b
mind_undone (Repartition h) j rows ks b = refl
mind_undone (Buffered h) j rows ks b = refl
mind_undone (Collect h) j rows ks b = refl

alone_view : (ts : List Task) → no_others (map is_done ts) ≡ whole.no_more (row ts)
alone_view [] = refl
alone_view (x ∷ xs) = sym (ap whole.no_more (row_out x (row xs)))

there_view : (l : Local) (ts : List Task) → ((x : Task) (xs : List Task) → ts ≡ x ∷ xs → is_done x ≡ whole.is_done (row ts)) → has_layout l (map is_done ts) ≡ whole.has_layout (mind_of l) (row ts) (whole.is_done (row ts))
there_view (Made x) ts h = alone_view ts
there_view (Empty n) ts h = refl
there_view (Full s) ts h = refl
there_view (Chunked n eof rows) ts h = refl
there_view (Columns n rows) ts h = refl
there_view (Lists n rows) ts h = refl
there_view (Zoned n) ts h = refl
there_view (Pressing which) ts h = refl
there_view AsIs ts h = refl
there_view (Probe n eof) ts h = refl
there_view Asking ts h = refl
there_view (Runs r) ts h = refl
there_view (Grouped n) ts h = mind_undone n.rule n.newest n.rows (row ts) (whole.is_done (row ts))
there_view Over ts h = refl
there_view Passing [] h = refl
there_view Passing (x ∷ xs) h =
    (λ i. alone_view xs i && h x xs refl i) ∙ ap (λ b. b && whole.is_done (row (x ∷ xs))) (sym (ap whole.is_alone (row_out x (row xs))))

done_upto : (n : ℕ) (t : Task) (r : Tasks) → task_count t ≤ n → is_done t ≡ whole.is_done (task_row t r)
done_upto zero t r h = absurd (omega (arith, h, task_count_out t))
done_upto (suc n) t r h =
    let hd = (out-Task t).head in
    let ks = (out-Task t).kids.items in
    let c : task_count t ≡ 1 + count_of_all ks = task_count_out t in
    let first : (x : Task) (xs : List Task) → ks ≡ x ∷ xs → is_done x ≡ whole.is_done (row ks) = λ x xs e.
    let s : count_of_all ks ≡ task_count x + count_of_all xs = ap count_of_all e in
    done_upto n x (row xs) (omega (arith, h, c, s)) ∙ ap (λ (z : List Task). whole.is_done (row z)) (sym e) in
    done_out t ∙ (λ i. there_view hd.local ks first i && left_view (deque_len hd.todo) (deque_len hd.inbox) hd.todo.items hd.inbox.items hd.todo.ok.0 hd.inbox.ok.0 i)
    ∙ sym (ap whole.is_done (row_out t r))

pub done_view : (t : Task) → is_done t ≡ whole.is_done (task_row t no_tasks)
done_view t = done_upto (task_count t) t no_tasks (omega arith)

-- and one that has its only child's
pub passed_view : (t k : Task) (x : Layout) → (out-Task t).head.local ≡ Passing → (out-Task t).kids.items ≡ k ∷ [] → layouts_in (task_row k no_tasks) ≡ layout_data x ∷ [] → layouts_in (task_row t no_tasks) ≡ layout_data x ∷ []
passed_view t k x e a h =
    ap layouts_in (row_out t no_tasks) ∙ ap (λ l. layout_in (mind_of l) (layouts_in (row (out-Task t).kids.items)) ++ []) e
    ∙ ap (λ (ks : List Task). layouts_in (row ks) ++ []) a ∙ ap (λ z. z ++ []) h
