-- A child that one action of its parent starts, feeds and closes.
use Rattle.std.proofs.Common.{take-append-drop, ◌||◌, ◌≡◌, ℕ, zero, suc, ◌+◌, ◌≤◌, Bool, true, false, List, [], ◌∷◌, ◌++◌, length, take, drop, refl, sym, ap, ◌∙◌, subst, inl, inr, ⊎_elim, arith}
use Rattle.vx_path.specs.Lists.{In}
use Rattle.vx_path.proofs.Lists.{in_right}
use Rattle.vx_tasks.specs.Task.{Task, Action, Kind, Forest, past, given, to_child, sent, started, closed, taken, holds, items, closes, has, starts_in, shuts_in, refuses_in, takes_of, takes_in, appends_in, holds_after, holds_in, is_still, is_late, next_kind, any_kind, ever_held}
use Rattle.vx_tasks.specs.Task as task
use Rattle.vx_tasks.specs.Task.Kind.{Free, Take, TakeEnd, Put, Append, Join}
use Rattle.vx_tasks.specs.Task.Forest.{Bare, Node}
use Rattle.vx_tasks.specs.Rules.{Covers}
use Rattle.vx_tasks.proofs.Scripts.{given_rest, no_true, or_true, or_false, nil_left, items_are, given-append, starts_in-append, shuts_in-append}
use Rattle.vx_tasks.proofs.Fit.{Feeds}

-- A place in a list: n actions are done before the one at it, or it is.
pub data Cut (pre : List Action) (x : Action) (post : List Action) (n : ℕ) : Type 0 where
  before : n ≤ length pre → take n (pre ++ (x ∷ post)) ≡ take n pre → Cut pre x post n
  behind : (k : ℕ) → n ≡ suc (length pre + k) → take n (pre ++ (x ∷ post)) ≡ pre ++ (x ∷ take k post) → drop n (pre ++ (x ∷ post)) ≡ drop k post → Cut pre x post n

pub cut_at : (pre : List Action) (x : Action) (post : List Action) (n : ℕ) → Cut pre x post n
cut_at [] x post zero = before (omega arith) refl
cut_at [] x post (suc n) = behind n (omega arith) refl refl
cut_at (a ∷ pre) x post zero = before (omega arith) refl
cut_at (a ∷ pre) x post (suc n) = more (cut_at pre x post n)
  where
    more : Cut pre x post n → Cut (a ∷ pre) x post (suc n)
    more (before l t) = before (omega arith) (ap (λ y. a ∷ y) t)
    more (behind k e t d) = behind k (omega arith) (ap (λ y. a ∷ y) t) d

-- the actions neither start child j, nor give it anything, nor close its queue
pub record Untouched (j : ℕ) (xs : List Action) : Type 0 where
  pub starts : starts_in j xs ≡ false
  pub gives : given j xs ≡ []
  pub shuts : shuts_in j xs ≡ false

pub untouched-append : (j : ℕ) (xs ys : List Action) → Untouched j xs → Untouched j ys → Untouched j (xs ++ ys)
untouched-append j xs ys a b = record {
  starts = starts_in-append j xs ys ∙ ap (λ c. c || starts_in j ys) a.starts ∙ b.starts;
  gives = given-append j xs ys ∙ ap (λ l. l ++ given j ys) a.gives ∙ b.gives;
  shuts = shuts_in-append j xs ys ∙ ap (λ c. c || shuts_in j ys) a.shuts ∙ b.shuts;
}

front_false : (a b : Bool) → (a || b) ≡ false → a ≡ false
front_false a b h = (or_false a b h).0

pub untouched_part : (j : ℕ) (xs : List Action) (n : ℕ) → Untouched j xs → Untouched j (take n xs)
untouched_part j xs n u = record {
  starts = front_false (starts_in j (take n xs)) (starts_in j (drop n xs)) (sym (starts_in-append j (take n xs) (drop n xs)) ∙ ap (starts_in j) (take-append-drop n xs) ∙ u.starts);
  gives = nil_left (given j (take n xs)) (given j (drop n xs)) (sym (given-append j (take n xs) (drop n xs)) ∙ ap (given j) (take-append-drop n xs) ∙ u.gives);
  shuts = front_false (shuts_in j (take n xs)) (shuts_in j (drop n xs)) (sym (shuts_in-append j (take n xs) (drop n xs)) ∙ ap (shuts_in j) (take-append-drop n xs) ∙ u.shuts);
}

-- A child that one action, x, starts, gives its one item, and closes.
module _ (cut : Bool) (ps : List (List ℕ)) (t : Task) (j : ℕ) (p : List ℕ) (ceof : List ℕ) (pre : List Action) (x : Action) (post : List Action)
    (script_is : t.script ≡ pre ++ (x ∷ post)) (late_start : has j t.first ≡ false) (earlier : Untouched j pre) (later : Untouched j post)
    (starts_it : has j x.starts ≡ true) (gives_it : to_child j x.gives ≡ p ∷ []) (shuts_it : has j x.shuts ≡ true)
    (item_covered : (n : ℕ) → n ≤ length pre → Covers ps t n p) (eof_covered : (n : ℕ) → n ≤ length pre → Covers ps t n ceof) where
  has_started : (n k : ℕ) → take n t.script ≡ pre ++ (x ∷ take k post) → started t j n ≡ true
  has_started n k w =
      or_true (has j t.first) (starts_in j (past t n)) (inr (ap (starts_in j) w ∙ starts_in-append j pre (x ∷ take k post)
      ∙ or_true (starts_in j pre) (starts_in j (x ∷ take k post)) (inr (or_true (has j x.starts) (starts_in j (take k post)) (inl starts_it)))))

  born_items : items j t ≡ p ∷ []
  born_items = ap (given j) script_is ∙ given-append j pre (x ∷ post) ∙ ap (λ y. y ++ (to_child j x.gives ++ given j post)) earlier.gives
      ∙ ap (λ y. y ++ given j post) gives_it ∙ ap (λ y. p ∷ y) later.gives

  born_closes : closes j t ≡ true
  born_closes = ap (shuts_in j) script_is ∙ shuts_in-append j pre (x ∷ post)
      ∙ or_true (shuts_in j pre) (shuts_in j (x ∷ post)) (inr (or_true (has j x.shuts) (shuts_in j post) (inl shuts_it)))

  -- not started yet: the action isn't done
  not_yet : (n : ℕ) → started t j n ≡ false → (n ≤ length pre) × (take n t.script ≡ take n pre)
  not_yet n h = at (cut_at pre x post n)
    where
      at : Cut pre x post n → (n ≤ length pre) × (take n t.script ≡ take n pre)
      at (before l w) = (l, ap (take n) script_is ∙ w)
      at (behind k e w d) = absurd (no_true h (has_started n k (ap (take n) script_is ∙ w)))

  born_unsent : (n : ℕ) (y : List ℕ) → In y (given j (task.next t n)) → Covers ps t n y
  born_unsent n y i = at (cut_at pre x post n)
    where
      at : Cut pre x post n → Covers ps t n y
      at (before l w) =
          let z : In y (p ∷ []) = subst (λ l. In y l) born_items
          (rw (items_are t j n) (in_right y (sent t j n) (given j (task.next t n)) i)) in
          ⊎_elim (λ e. subst (λ v. Covers ps t n v) (sym e) (item_covered n l)) (λ v. absurd v) z
      at (behind k e w d) =
          let z : In y [] = subst (λ l. In y l) (ap (λ v. given j (drop n v)) script_is ∙ ap (given j) d ∙ given_rest j post k later.gives) i in absurd z

  born_shut_last : (n : ℕ) → closed t j n ≡ true → given j (task.next t n) ≡ []
  born_shut_last n c = at (cut_at pre x post n)
    where
      at : Cut pre x post n → given j (task.next t n) ≡ []
      at (before l w) = absurd (no_true (untouched_part j pre n earlier).shuts (sym (ap (shuts_in j) (ap (take n) script_is ∙ w)) ∙ c))
      at (behind k e w d) = ap (λ v. given j (drop n v)) script_is ∙ ap (given j) d ∙ given_rest j post k later.gives

  -- where it is started, it is closed
  has_closed : (n : ℕ) → started t j n ≡ true → closed t j n ≡ true
  has_closed n g = at (cut_at pre x post n)
    where
      at : Cut pre x post n → closed t j n ≡ true
      at (before l w) =
          let z : (has j t.first || starts_in j (take n pre)) ≡ true = sym (ap (λ s. has j t.first || starts_in j s) (ap (take n) script_is ∙ w)) ∙ g in
          absurd (no_true (untouched_part j pre n earlier).starts (sym (ap (λ b. b || starts_in j (take n pre)) late_start) ∙ z))
      at (behind k e w d) = ap (shuts_in j) (ap (take n) script_is ∙ w) ∙ shuts_in-append j pre (x ∷ take k post)
          ∙ or_true (shuts_in j pre) (shuts_in j (x ∷ take k post)) (inr (or_true (has j x.shuts) (shuts_in j (take k post)) (inl shuts_it)))

  pub born_feeds : Feeds cut ps t j (p ∷ []) true ceof
  born_feeds = record {
    items_are = born_items;
    closes_are = born_closes;
    begun = or_true (has j t.first) (starts_in j t.script) (inr (ap (starts_in j) script_is ∙ starts_in-append j pre (x ∷ post)
        ∙ or_true (starts_in j pre) (starts_in j (x ∷ post)) (inr (or_true (has j x.starts) (starts_in j post) (inl starts_it)))));
    closed_first = λ n s g c. has_closed n g;
    shut_last = born_shut_last;
    started_first = λ n h. ap (given j) (not_yet n h).1 ∙ (untouched_part j pre n earlier).gives;
    open_refuses = λ c h. absurd (no_true h born_closes);
    open_moves = λ h. absurd (no_true h born_closes);
    unsent = born_unsent;
    unborn = λ n h. eof_covered n (not_yet n h).0;
  }
