-- Counts of what is ready, and walks over children.
use Rattle.std.proofs.Common.{◌≡◌, ◌↔◌, ℕ, zero, suc, ◌+◌, ◌-◌, ◌^◌, ◌<◌, ◌≤◌, ◌&&◌, ◌||◌, ◌==◌, min, Bool, true, false, List, [], ◌∷◌, ◌++◌, map, length, take, drop, get_or, refl, sym, ap, subst, ◌∙◌, arith, ⊎_elim}
use Rattle.std.proofs.lemmas.Bool.{cases_Bool, and_parts, true≢false}
use Rattle.std.specs.FinMap as fin
use Rattle.std.specs.List.{list_any}
use Rattle.std.specs.VecDeque.{deque_len}
use Rattle.std.specs.Ordering.{eq_by_cmp}
use Rattle.vx_path.specs.Path.{is_least, path_le}
use Rattle.vx_model.specs.Words.{total_by}
use Rattle.vx_sequence.specs.Universe.{path_cmp, Active, IsLeast}
use Rattle.vx_sequence.proofs.Sets.{same_refl, same_true}
use Rattle.vx_machine_ids.specs.Stock.{one, both}
use Rattle.vx_machine_ids.specs.Balance.{Owned}
use Rattle.vx_machine_ids.proofs.MoveLaws.{owned_left, owned_right}
use Rattle.vx_machine_ids.proofs.Lists.{first_owned}
use Rattle.vx_machine_node.specs.Stocks.{local_stock, dues_stock, due_stock, items_stock}
use Rattle.vx_machine_task.specs.Stocks.{head_stock}
use Rattle.vx_machine_task.specs.Ready.{Kid, Seen, kid_of, kids_of, seen, seen_step, may_now, may_due, may_take, may_todo, least_at, room_at, room_in, all_made, all_true, is_made, made_step, made_of, has_layout, done_step, is_done, ready_in, ready_among, counted}
use Rattle.vx_machine_task.specs.Sizes.{task_count, count_of_all}
use Rattle.vx_layout_tree.specs.declared.layout.Layout.{Layout}
use Rattle.vx_machine_node.specs.declared.item.Due.{Due}
use Rattle.vx_machine_node.specs.declared.node.Local.{Local}
use Rattle.vx_machine_node.specs.declared.node.Local.TheVariants.{Empty, Full, Chunked, Columns, Lists, Grouped, Over, Passing, Made, Zoned, Pressing, AsIs, Probe, Asking, Runs}
use Rattle.vx_machine_task.specs.declared.task.Head.{Head}
use Rattle.vx_machine_task.specs.declared.task.Task.{Task, out-Task}
use Rattle.vx_machine_task.specs.declared.task.Task.TheFolds.{fold_out-Task}
use Rattle.vx_machine_task.proofs.TaskParts.{task_count_out}
use Rattle.vx_machine_node.proofs.ListParts.{none_is}

-- ---- by the parts of a task

made_all : (ts : List Task) → all_true (map made_of ts) ≡ all_made (kids_of ts)
made_all [] = refl
made_all (t ∷ ts) = ap (λ b. made_of t && b) (made_all ts)

pub made_out : (t : Task) → made_of t ≡ is_made (out-Task t).head.local (deque_len (out-Task t).head.todo == 0) (all_made (kids_of (out-Task t).kids.items))
made_out t = fold_out-Task Bool made_step t ∙ ap (is_made (out-Task t).head.local (deque_len (out-Task t).head.todo == 0)) (made_all (out-Task t).kids.items)

pub done_out : (t : Task) → is_done t ≡ (has_layout (out-Task t).head.local (map is_done (out-Task t).kids.items) && (deque_len (out-Task t).head.todo == 0 && deque_len (out-Task t).head.inbox == 0))
done_out t = fold_out-Task Bool done_step t

kids_upto : (u : Active) (n : ℕ) (ts : List Task) → count_of_all ts ≤ n → map (λ (s : Seen). s.kid) (map (seen u) ts) ≡ kids_of ts
kids_upto u n [] h = refl
kids_upto u zero (t ∷ ts) h = absurd (omega (arith, h, task_count_out t))
kids_upto u (suc n) (t ∷ ts) h =
    let c : task_count t ≡ 1 + count_of_all (out-Task t).kids.items = task_count_out t in
    let hd = (out-Task t).head in
    let below : map (λ (s : Seen). s.kid) (map (seen u) (out-Task t).kids.items) ≡ kids_of (out-Task t).kids.items = kids_upto u n (out-Task t).kids.items (omega (arith, h, c)) in
    let made : is_made hd.local (deque_len hd.todo == 0) (all_made (map (λ (s : Seen). s.kid) (map (seen u) (out-Task t).kids.items))) ≡ made_of t =
    ap (λ ks. is_made hd.local (deque_len hd.todo == 0) (all_made ks)) below ∙ sym (made_out t) in
    let own : (seen u t).kid ≡ kid_of t = ap (λ (s : Seen). s.kid) (fold_out-Task Seen (seen_step u) t) ∙ (λ i. record { made = made i; room = room_in hd }) in
    λ i. own i ∷ kids_upto u n ts (omega (arith, h, c)) i

kids_seen : (u : Active) (ts : List Task) → map (λ (s : Seen). s.kid) (map (seen u) ts) ≡ kids_of ts
kids_seen u ts = kids_upto u (count_of_all ts) ts (omega arith)

total_seen : (u : Active) (ts : List Task) → total_by (λ (s : Seen). s.ready) (map (seen u) ts) ≡ ready_among u ts
total_seen u [] = refl
total_seen u (t ∷ ts) = ap (λ n. ready_in u t + n) (total_seen u ts)

pub ready_in_out : (u : Active) (t : Task) → ready_in u t ≡ one (may_now u (out-Task t).head (kids_of (out-Task t).kids.items)) + ready_among u (out-Task t).kids.items
ready_in_out u t = ap (λ (s : Seen). s.ready) (fold_out-Task Seen (seen_step u) t)
    ∙ (λ i. one (may_now u (out-Task t).head (kids_seen u (out-Task t).kids.items i)) + total_seen u (out-Task t).kids.items i)

-- ---- sums that stop at 64 bits

-- a place below a count of one or none
pub one_true : (b : Bool) (k : ℕ) → k < one b → b ≡ true
one_true true k h = refl
one_true false k h = absurd (omega (arith, h))

-- ---- walks

drop_first : {A : Type 0} (xs : List A) (i : ℕ) (x : A) → i < length xs → x ≡ get_or xs i x → drop i xs ≡ x ∷ drop (suc i) xs
drop_first [] i x h e = absurd (omega (arith, h))
drop_first (y ∷ ys) zero x h e = ap (λ z. z ∷ ys) (sym e)
drop_first (y ∷ ys) (suc i) x h e = drop_first ys i x (omega (arith, h)) e

pub drop_is : {A : Type 0} (xs : List A) (i : ℕ) (x : A) → i < length xs → x ≡ get_or xs i x → drop i xs ≡ x ∷ drop (i + 1) xs
drop_is xs i x h e = let n : suc i ≡ i + 1 = omega arith in drop_first xs i x h e ∙ ap (λ k. x ∷ drop k xs) n

pub drop_end : {A : Type 0} (xs : List A) (i : ℕ) → length xs ≤ i → drop i xs ≡ []
drop_end [] zero h = refl
drop_end [] (suc i) h = refl
drop_end (y ∷ ys) zero h = absurd (omega (arith, h))
drop_end (y ∷ ys) (suc i) h = drop_end ys i (omega (arith, h))

pub get_same : {A : Type 0} (xs : List A) (i : ℕ) (x d : A) → i < length xs → x ≡ get_or xs i x → get_or xs i d ≡ x
get_same [] i x d h e = absurd (omega (arith, h))
get_same (y ∷ ys) zero x d h e = sym e
get_same (y ∷ ys) (suc i) x d h e = get_same ys i x d (omega (arith, h)) e

pub front_is : {A : Type 0} (xs : List A) (x : A) → 0 < length xs → x ≡ get_or xs 0 x → xs ≡ x ∷ drop 1 xs
front_is xs x h e = drop_is xs 0 x h e

and_false : (b : Bool) → (b && false) ≡ false
and_false true = refl
and_false false = refl

made_last : (xs : List Task) (i : ℕ) (x : Task) → i < length xs → x ≡ get_or xs i x → made_of x ≡ true → all_made (kids_of (take (suc i) xs)) ≡ all_made (kids_of (take i xs))
made_last [] i x h e m = absurd (omega (arith, h))
made_last (y ∷ ys) zero x h e m = ap (λ b. b && true) (ap made_of (sym e) ∙ m)
made_last (y ∷ ys) (suc i) x h e m = ap (λ b. (kid_of y).made && b) (made_last ys i x (omega (arith, h)) e m)

last_not : (xs : List Task) (i : ℕ) (x : Task) → i < length xs → x ≡ get_or xs i x → made_of x ≡ false → all_made (kids_of (take (suc i) xs)) ≡ false
last_not [] i x h e m = absurd (omega (arith, h))
last_not (y ∷ ys) zero x h e m = ap (λ b. b && true) (ap made_of (sym e) ∙ m)
last_not (y ∷ ys) (suc i) x h e m = ap (λ b. (kid_of y).made && b) (last_not ys i x (omega (arith, h)) e m) ∙ and_false (kid_of y).made

-- all of the first have their layouts, but for the last of them
pub made_down : (xs : List Task) (n : ℕ) (x : Task) → 0 < n → n ≤ length xs → x ≡ get_or xs (n - 1) x → made_of x ≡ true
    → all_made (kids_of (take (n - 1) xs)) ≡ all_made (kids_of (take n xs))
made_down xs n x o l e m = let k : suc (n - 1) ≡ n = omega (arith, o) in sym (made_last xs (n - 1) x (omega (arith, o, l)) e m) ∙ ap (λ j. all_made (kids_of (take j xs))) k

pub made_down_not : (xs : List Task) (n : ℕ) (x : Task) → 0 < n → n ≤ length xs → x ≡ get_or xs (n - 1) x → made_of x ≡ false
    → all_made (kids_of (take n xs)) ≡ false
made_down_not xs n x o l e m = let k : suc (n - 1) ≡ n = omega (arith, o) in ap (λ j. all_made (kids_of (take j xs))) (sym k) ∙ last_not xs (n - 1) x (omega (arith, o, l)) e m

front_made : (xs : List Task) (k : Task) → all_made (kids_of (xs ++ (k ∷ []))) ≡ true → all_made (kids_of xs) ≡ true
front_made [] k h = refl
front_made (x ∷ xs) k h =
    let p = and_parts (kid_of x).made (all_made (kids_of (xs ++ (k ∷ [])))) h in
    ap (λ b. b && all_made (kids_of xs)) p.0 ∙ front_made xs k p.1

-- without the last
pub made_front : (all xs : List Task) (k : Task) → all ≡ xs ++ (k ∷ []) → all_made (kids_of all) ≡ true → all_made (kids_of xs) ≡ true
made_front all xs k is h = front_made xs k (subst (λ z. all_made (kids_of z) ≡ true) is h)

last_made : (xs : List Task) (k : Task) → all_made (kids_of (xs ++ (k ∷ []))) ≡ true → made_of k ≡ true
last_made [] k h = (and_parts (made_of k) true h).0
last_made (x ∷ xs) k h = last_made xs k (and_parts (kid_of x).made (all_made (kids_of (xs ++ (k ∷ [])))) h).1

-- and the last
pub made_popped : (all xs : List Task) (k : Task) → all ≡ xs ++ (k ∷ []) → all_made (kids_of all) ≡ true → made_of k ≡ true
made_popped all xs k is h = last_made xs k (subst (λ z. all_made (kids_of z) ≡ true) is h)

-- one that has done all has its layout, or its children's
made_cases : (l : Local) (b c : Bool) → is_made l b c ≡ true → ((x : Layout) → l ≡ Made x → ⊥) → (l ≡ Passing → ⊥) → ⊥
made_cases (Made x) b c h m p = m x refl
made_cases Passing b c h m p = p refl
made_cases (Empty n) b c h m p = true≢false (sym h)
made_cases (Full s) b c h m p = true≢false (sym h)
made_cases (Chunked n eof rows) b c h m p = true≢false (sym h)
made_cases (Columns n rows) b c h m p = true≢false (sym h)
made_cases (Lists n rows) b c h m p = true≢false (sym h)
made_cases (Grouped n) b c h m p = true≢false (sym h)
made_cases (Zoned n) b c h m p = true≢false (sym h)
made_cases (Pressing which) b c h m p = true≢false (sym h)
made_cases AsIs b c h m p = true≢false (sym h)
made_cases (Probe n eof) b c h m p = true≢false (sym h)
made_cases Asking b c h m p = true≢false (sym h)
made_cases (Runs r) b c h m p = true≢false (sym h)
made_cases Over b c h m p = true≢false (sym h)

pub not_made : (t : Task) → made_of t ≡ true → ((x : Layout) → (out-Task t).head.local ≡ Made x → ⊥) → ((out-Task t).head.local ≡ Passing → ⊥) → ⊥
not_made t h m p = made_cases (out-Task t).head.local (deque_len (out-Task t).head.todo == 0) (all_made (kids_of (out-Task t).kids.items)) (sym (made_out t) ∙ h) m p

-- and does, where they have done all
pub made_passing : (t : Task) (b : Bool) → (out-Task t).head.local ≡ Passing → (deque_len (out-Task t).head.todo == 0) ≡ true → b ≡ all_made (kids_of (out-Task t).kids.items) → b ≡ made_of t
made_passing t b e h k = k ∙ sym (made_out t ∙ (λ j. is_made (e j) (h j) (all_made (kids_of (out-Task t).kids.items))))

pub made_kids : (t : Task) → made_of t ≡ true → (out-Task t).head.local ≡ Passing → all_made (kids_of (out-Task t).kids.items) ≡ true
made_kids t h e =
    let idle : Bool = deque_len (out-Task t).head.todo == 0 in
    let below : Bool = all_made (kids_of (out-Task t).kids.items) in
    (and_parts idle below (sym (ap (λ l. is_made l idle below) e) ∙ sym (made_out t) ∙ h)).1

pub among_more : (u : Active) (xs : List Task) (i : ℕ) (x : Task) → i < length xs → x ≡ get_or xs i x
    → ready_among u (drop i xs) ≡ ready_in u x + ready_among u (drop (i + 1) xs)
among_more u xs i x h e = ap (ready_among u) (drop_is xs i x h e)

-- those up to one
among_upto : (u : Active) (xs : List Task) (i : ℕ) (x : Task) → i < length xs → x ≡ get_or xs i x → ready_among u (take (suc i) xs) ≡ ready_among u (take i xs) + ready_in u x
among_upto u [] i x h e = absurd (omega (arith, h))
among_upto u (y ∷ ys) zero x h e = let a : ready_in u x ≡ ready_in u y = ap (ready_in u) e in omega (arith, a)
among_upto u (y ∷ ys) (suc i) x h e = let a : ready_among u (take (suc i) ys) ≡ ready_among u (take i ys) + ready_in u x = among_upto u ys i x (omega (arith, h)) e in omega (arith, a)

pub among_next : (u : Active) (xs : List Task) (i : ℕ) (x : Task) → i < length xs → x ≡ get_or xs i x → ready_among u (take (i + 1) xs) ≡ ready_among u (take i xs) + ready_in u x
among_next u xs i x h e = let n : suc i ≡ i + 1 = omega arith in sym (ap (λ k. ready_among u (take k xs)) n) ∙ among_upto u xs i x h e

-- ---- rooms

pub room_here : (xs : List Task) (i : ℕ) (x : Task) → i < length xs → x ≡ get_or xs i x → room_at i (kids_of xs) ≡ (kid_of x).room
room_here [] i x h e = absurd (omega (arith, h))
room_here (y ∷ ys) zero x h e = ap (λ z. (kid_of z).room) (sym e)
room_here (y ∷ ys) (suc i) x h e = room_here ys i x (omega (arith, h)) e

pub room_none : (xs : List Task) (i : ℕ) → length xs ≤ i → room_at i (kids_of xs) ≡ false
room_none [] zero h = refl
room_none [] (suc i) h = refl
room_none (y ∷ ys) zero h = absurd (omega (arith, h))
room_none (y ∷ ys) (suc i) h = room_none ys i (omega (arith, h))

pub room_within : (xs : List Task) (i : ℕ) → room_at i (kids_of xs) ≡ true → i < length xs
room_within [] zero h = absurd (true≢false (sym h))
room_within [] (suc i) h = absurd (true≢false (sym h))
room_within (y ∷ ys) zero h = omega arith
room_within (y ∷ ys) (suc i) h = omega (arith, room_within ys i h)

-- ---- the least path

within : (p : List ℕ) (qs : List (List ℕ)) → is_least p qs ≡ true → (q : List ℕ) → list_any (eq_by_cmp path_cmp q) qs ≡ true → path_le p q ≡ true
within p [] h q a = absurd (true≢false (sym a))
within p (r ∷ rs) h q a = ⊎_elim
    (λ t. subst (λ x. path_le p x ≡ true) (sym (same_true q r t)) (first (path_le p r) (is_least p rs) h))
    (λ f. within p rs (second (path_le p r) (is_least p rs) h) q (rest (eq_by_cmp path_cmp q r) (list_any (eq_by_cmp path_cmp q) rs) f a))
    (cases_Bool (eq_by_cmp path_cmp q r))
  where
    first : (b c : Bool) → (b && c) ≡ true → b ≡ true
    first true c h = refl
    first false c h = absurd (true≢false (sym h))

    second : (b c : Bool) → (b && c) ≡ true → c ≡ true
    second true c h = h
    second false c h = absurd (true≢false (sym h))

    rest : (b c : Bool) → b ≡ false → (b || c) ≡ true → c ≡ true
    rest true c f h = absurd (true≢false f)
    rest false c f h = h

each : (p : List ℕ) (qs : List (List ℕ)) → ((q : List ℕ) → list_any (eq_by_cmp path_cmp q) qs ≡ true → path_le p q ≡ true) → is_least p qs ≡ true
each p [] f = refl
each p (r ∷ rs) f = both_true (path_le p r) (is_least p rs)
    (f r (ap (λ b. b || list_any (eq_by_cmp path_cmp r) rs) (same_refl r)))
    (each p rs (λ q a. f q (more (eq_by_cmp path_cmp q r) (list_any (eq_by_cmp path_cmp q) rs) a)))
  where
    both_true : (b c : Bool) → b ≡ true → c ≡ true → (b && c) ≡ true
    both_true true c h k = k
    both_true false c h k = absurd (true≢false (sym h))

    more : (b c : Bool) → c ≡ true → (b || c) ≡ true
    more true c h = refl
    more false c h = h

pub least_means : (u : Active) (p : List ℕ) → least_at u p ≡ true → IsLeast u p
least_means u p h = λ q a. within p (fin.keys u) h q (sym (fin.contains_key-keys u q) ∙ a)

pub means_least : (u : Active) (p : List ℕ) → IsLeast u p → least_at u p ≡ true
means_least u p l = each p (fin.keys u) (λ q a. l q (fin.contains_key-keys u q ∙ a))

pub least_is : (u : Active) (p : List ℕ) (b : Bool) → ((b ≡ true) ↔ IsLeast u p) → b ≡ least_at u p
least_is u p true w = sym (means_least u p (w.0 refl))
least_is u p false w = ⊎_elim (λ t. absurd (true≢false (sym (w.1 (least_means u p t))))) (λ f. sym f) (cases_Bool (least_at u p))

-- ---- the next act

pub may_first : (u : Active) (h : Head) (ks : List Kid) (d : Due) → 0 < length h.todo.items → d ≡ get_or h.todo.items 0 d → may_now u h ks ≡ may_due u d ks
may_first u h ks d l e = ap (may_todo u h ks) (front_is h.todo.items d l e)

pub may_none : (u : Active) (h : Head) (ks : List Kid) → length h.todo.items ≡ 0 → may_now u h ks ≡ may_take h
may_none u h ks e = ap (may_todo u h ks) (none_is h.todo.items e)

pub first_due_owned : (u : Active) (h : Head) (d : Due) → 0 < length h.todo.items → d ≡ get_or h.todo.items 0 d → Owned u (head_stock h) → Owned u (due_stock d)
first_due_owned u h d l e o =
    first_owned due_stock u h.todo.items (drop 1 h.todo.items) d (front_is h.todo.items d l e)
    (owned_left u (dues_stock h.todo.items) (items_stock h.inbox.items) (owned_right u (local_stock h.local) (both (dues_stock h.todo.items) (items_stock h.inbox.items)) o))
