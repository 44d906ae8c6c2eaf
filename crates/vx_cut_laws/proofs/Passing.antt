-- How a task of a state that a run reaches stands in the cut tree.
use Rattle.std.proofs.Common.{◌≡◌, ℕ, suc, ◌+◌, ◌-◌, ◌≤◌, ◌⊎◌, ◌||◌, not, Bool, true, false, List, [], ◌∷◌, ◌++◌, length, take, drop, refl, sym, ap, ◌∙◌, subst, inl, inr, ⊎_elim, arith, length-append, append_assoc}
use Rattle.std.proofs.lemmas.Bool.{cases_Bool}
use Rattle.vx_path.specs.Lists.{In}
use Rattle.vx_tasks.specs.Task.{Action, Kind, Task, Forest, next, past, sent, started, closed, taken, holds, items, closes, given, has, starts_in, shuts_in, refuses_in, takes_in, takes_of, any_kind, next_kind, holds_after}
use Rattle.vx_tasks.specs.Task.Kind.{Free, Take, TakeEnd, Put, Append, Join}
use Rattle.vx_tasks.specs.Task.Forest.{Bare, Node}
use Rattle.vx_tasks.specs.State.{Counts, top, below, beside, queue}
use Rattle.vx_tasks.specs.State.Counts.{Zeros, Count}
use Rattle.vx_tasks.specs.Queues.{is_take, is_end, Queued, AllQueued}
use Rattle.vx_tasks.specs.Run.{any_there, can, Move, moves, outside, all_held, Leads}
use Rattle.vx_tasks.specs.Rules.{Fits, Rules}
use Rattle.vx_tasks.proofs.Scripts.{no_true, or_true, or_false, or_parts, script_is, past_suc, given-append, starts_in-append, shuts_in-append, refuses_in-append, any_kind-append}
use Rattle.vx_tasks.proofs.Steps.{Where, here, under, aside, which}
use Rattle.vx_cut_laws.specs.Cut.{known, to_refusal, before_refusal, known_of, made_of, cut_task}
use Rattle.vx_cut_laws.proofs.Lists.{Done, known_done, to_refusal_done, before_refusal_done, take_kept, drop_kept}

-- A task p that has done n actions, and q, which is p cut to what can be done.
pub record Follows (made : List Action) (q p : Task) (n : ℕ) : Type 0 where
  pub rest : List Action
  pub made_is : made ≡ past p n ++ rest
  pub past_is : past q n ≡ past p n
  pub first_is : q.first ≡ p.first
  pub held_is : q.held ≡ p.held
  pub spare_is : q.spare ≡ p.spare

-- what its child with number j has done is done on the stream that it is made
abbrev pub Passed : List Action → ℕ → Task → ℕ → Type 0
Passed made j t m = Done (length (given j made)) (shuts_in j made) (past t m)

abbrev pub AllPassed : List Action → ℕ → Forest → Counts → Type 0
AllPassed made j Bare s = Unit {0}
AllPassed made j (Node t kids rest) s = Passed made j t (top s) × AllPassed (made_of made j t) 0 kids (below s) × AllPassed made (suc j) rest (beside s)

-- what of its script is left in behind what it has done
abbrev pub left_in : List Action → ℕ → Task → ℕ → List Action
left_in made j t m = known (length (given j made) - taken t m) (shuts_in j made) (next t m)

known_is : (made : List Action) (j : ℕ) (t : Task) (m : ℕ) → Passed made j t m → known_of made j t ≡ past t m ++ left_in made j t m
known_is made j t m d = ap (known (length (given j made)) (shuts_in j made)) (script_is t m) ∙ known_done (length (given j made)) (shuts_in j made) (past t m) (next t m) d

script_cut : (made : List Action) (j : ℕ) (t : Task) (m : ℕ) → Passed made j t m → (cut_task made j t).script ≡ past t m ++ to_refusal (left_in made j t m)
script_cut made j t m d = ap to_refusal (known_is made j t m d) ∙ to_refusal_done (past t m) (left_in made j t m) d.clean

none_left : (made : List Action) (j : ℕ) (t : Task) (m : ℕ) → next t m ≡ [] → to_refusal (left_in made j t m) ≡ []
none_left made j t m e = ap (λ z. to_refusal (known (length (given j made) - taken t m) (shuts_in j made) z)) e

pub past_cut : (made : List Action) (j : ℕ) (t : Task) (m : ℕ) → Passed made j t m → past (cut_task made j t) m ≡ past t m
past_cut made j t m d = ap (take m) (script_cut made j t m d) ∙ take_kept m t.script (to_refusal (left_in made j t m)) (none_left made j t m)

pub next_cut : (made : List Action) (j : ℕ) (t : Task) (m : ℕ) → Passed made j t m → next (cut_task made j t) m ≡ to_refusal (left_in made j t m)
next_cut made j t m d = ap (drop m) (script_cut made j t m d) ∙ drop_kept m t.script (to_refusal (left_in made j t m)) (none_left made j t m)

pub follows_down : (made : List Action) (j : ℕ) (t : Task) (m : ℕ) → Passed made j t m → Follows (made_of made j t) (cut_task made j t) t m
follows_down made j t m d = record {
  rest = before_refusal (left_in made j t m);
  made_is = ap before_refusal (known_is made j t m d) ∙ before_refusal_done (past t m) (left_in made j t m) d.clean;
  past_is = past_cut made j t m d;
  first_is = refl;
  held_is = refl;
  spare_is = refl;
}

-- What p has done is part of what it can do.

module _ (made : List Action) (q p : Task) (n : ℕ) (fol : Follows made q p n) where
  pub sent_same : (j : ℕ) → sent q j n ≡ sent p j n
  sent_same j = ap (given j) fol.past_is

  pub closed_same : (j : ℕ) → closed q j n ≡ closed p j n
  closed_same j = ap (shuts_in j) fol.past_is

  pub started_same : (j : ℕ) → started q j n ≡ started p j n
  started_same j = ap (λ z. has j z || starts_in j (past q n)) fol.first_is ∙ ap (λ z. has j p.first || starts_in j z) fol.past_is

  pub sent_part : (j : ℕ) → length (sent p j n) ≤ length (given j made)
  sent_part j = rw (fol.made_is, given-append j (past p n) fol.rest, length-append (given j (past p n)) (given j fol.rest)) (omega arith)

  pub shut_part : (j : ℕ) → closed p j n ≡ true → shuts_in j made ≡ true
  shut_part j e = ap (shuts_in j) fol.made_is ∙ shuts_in-append j (past p n) fol.rest ∙ or_true (shuts_in j (past p n)) (shuts_in j fol.rest) (inl e)

  pub started_part : (j : ℕ) → started p j n ≡ true → (has j p.first || starts_in j made) ≡ true
  started_part j e = or_true (has j p.first) (starts_in j made) (⊎_elim (λ a. inl a)
      (λ a. inr (ap (starts_in j) fol.made_is ∙ starts_in-append j (past p n) fol.rest ∙ or_true (starts_in j (past p n)) (starts_in j fol.rest) (inl a)))
      (or_parts (has j p.first) (starts_in j (past p n)) e))

-- Nothing is done at the start.

nothing_done : (k : ℕ) (ended : Bool) (t : Task) → Done k ended (past t 0)
nothing_done k ended t = record { clean = refl; known_is = omega arith; told = λ e. absurd (no_true refl e) }

pub at_start : (made : List Action) (j : ℕ) (f : Forest) → AllPassed made j f Zeros
at_start made j Bare = tt
at_start made j (Node t kids rest) = (nothing_done (length (given j made)) (shuts_in j made) t, at_start (made_of made j t) 0 kids, at_start made (suc j) rest)

-- A move that doesn't refuse: what is done then is still done on the stream that is made.

module _ (made : List Action) (q p : Task) (n j : ℕ) (t : Task) (kids : Forest) (s : Counts) (fol : Follows made q p n) (d : Passed made j t (top s)) where
  -- the child's next action, where it may be done
  step : (all : List (List ℕ)) (a : Action) (todo : List Action) → next t (top s) ≡ a ∷ todo → a.refuses ≡ false → Queued p n j t (top s)
      → can all (queue p n j t (top s)) (closed p j n) t (top s) kids (below s) a.kind ≡ true → taken t (suc (top s)) ≤ length (sent p j n) → Passed made j t (suc (top s))
  step all a todo e r qd c l =
      let w : past t (suc (top s)) ≡ past t (top s) ++ (a ∷ []) = past_suc t.script (top s) a todo e in
      record {
        clean = ap refuses_in w ∙ refuses_in-append (past t (top s)) (a ∷ []) ∙ ap (λ z. z || (a.refuses || false)) d.clean ∙ ap (λ z. z || false) r;
        known_is = let x : length (sent p j n) ≤ length (given j made) = sent_part made q p n fol j in omega (arith, l, x);
        told = λ h. ⊎_elim (λ x. d.told x) (λ x. at_end a.kind refl (⊎_elim (λ y. y) (λ y. absurd (no_true refl y)) (or_parts (is_end a.kind) false x)))
            (or_parts (any_kind is_end (past t (top s))) (any_kind is_end (a ∷ [])) (sym (any_kind-append is_end (past t (top s)) (a ∷ [])) ∙ sym (ap (any_kind is_end) w) ∙ h));
      }
    where
      open_end : (xs : List (List ℕ)) (b : Bool) → xs ≡ [] → (any_there xs || b) ≡ true → b ≡ true
      open_end [] b e h = h
      open_end (x ∷ xs) b e h = cc

      at_end : (k : Kind) → a.kind ≡ k → is_end k ≡ true → shuts_in j made ≡ true
      at_end (Free w) g h = absurd (no_true refl h)
      at_end Take g h = absurd (no_true refl h)
      at_end TakeEnd g h = shut_part made q p n fol j (open_end (queue p n j t (top s)) (closed p j n)
          (qd.last (ap (next_kind is_end) e ∙ ap is_end g))
          (sym (ap (can all (queue p n j t (top s)) (closed p j n) t (top s) kids (below s)) g) ∙ c))
      at_end (Put x) g h = absurd (no_true refl h)
      at_end (Append x) g h = absurd (no_true refl h)
      at_end Join g h = absurd (no_true refl h)

pub move_passed : (all : List (List ℕ)) (made : List Action) (q p : Task) (n j : ℕ) (f : Forest) (s : Counts) (m : Move) → Follows made q p n → In m (moves all p n j f s)
    → m.action.refuses ≡ false → AllQueued p n j f s → AllQueued p n j f m.after → AllPassed made j f s → AllPassed made j f m.after
move_passed all made q p n j Bare s m fol i r qs ps d = tt
move_passed all made q p n j (Node t kids rest) s m fol i r (on, off, more) (on_then, off_then, more_then) (d, inner, outer) =
    by (which all p n j t kids rest s m i)
    (λ x k w g qs ps. move_passed all (made_of made j t) (cut_task made j t) t (top s) 0 kids (below s) x (follows_down made j t (top s) d) k w qs ps inner)
    (λ x k w ps. move_passed all made q p n (suc j) rest (beside s) x fol k w more ps outer)
  where
    by : Where all p n j t kids rest s m
        → ((x : Move) → In x (moves all t (top s) 0 kids (below s)) → x.action.refuses ≡ false → started p j n ≡ true → AllQueued t (top s) 0 kids (below s) → AllQueued t (top s) 0 kids x.after → AllPassed (made_of made j t) 0 kids x.after)
        → ((x : Move) → In x (moves all p n (suc j) rest (beside s)) → x.action.refuses ≡ false → AllQueued p n (suc j) rest x.after → AllPassed made (suc j) rest x.after)
        → AllPassed made j (Node t kids rest) m.after
    by (here g o) down over =
        let l : taken t (suc (top s)) ≤ length (sent p j n) = subst (λ z. taken t (top z) ≤ length (sent p j n)) o.after_is (on_then g).0.fewer in
        rw o.after_is (step made q p n j t kids s fol d all m.action o.todo o.next_is r (on g).0 o.allowed l, inner, outer)
    by (under g x k e) down over =
        let u : AllQueued t (top s) 0 kids x.after = at_under e g in
        rw e (d, down x k (sym (ap (λ z. z.action.refuses) e) ∙ r) g (on g).1 u, outer)
      where
        at_under : m ≡ record { name = x.name; action = x.action; after = Count (top s) x.after (beside s) } → started p j n ≡ true → AllQueued t (top s) 0 kids x.after
        at_under w g = subst (λ z. AllQueued t (top z.after) 0 kids (below z.after)) w (on_then g).1
    by (aside x k e) down over =
        let u : AllQueued p n (suc j) rest x.after = subst (λ z. AllQueued p n (suc j) rest (beside z.after)) e more_then in
        rw e (d, inner, over x k (sym (ap (λ z. z.action.refuses) e) ∙ r) u)

-- So along runs.

pub outside_follows : Follows outside.script outside outside 1
outside_follows = record { rest = []; made_is = refl; past_is = refl; first_is = refl; held_is = refl; spare_is = refl }
