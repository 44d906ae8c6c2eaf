-- Struct and List keep the rules, where their columns do.
use Rattle.std.proofs.Common.{◌≡◌, ℕ, zero, suc, ◌+◌, ◌<◌, ◌≤◌, ◌⊎◌, Bool, true, false, cond, not, nat_eq, ◌||◌, List, [], ◌∷◌, ◌++◌, length, take, drop, refl, sym, ap, ◌∙◌, subst, inl, inr, ⊎_elim, arith, append_assoc, append-nil, zero-add, one-add}
use Rattle.std.proofs.lemmas.Bool.{cases_Bool}
use Rattle.std.proofs.lemmas.Bool.Decides.{nat_tests}
use Rattle.vx_path.specs.Lists.{In}
use Rattle.vx_path.specs.Path.{begins, under, Eof, eof_path, inside, next, Region}
use Rattle.vx_path.proofs.Lists.{in_left, in_right, in_cases, from_map}
use Rattle.vx_path.proofs.Path.{path_le-refl, begins_le, begins-under, region_next, region_inside, region_from}
use Rattle.vx_tasks.specs.Task.{is_late, Task, Action, Kind, Forest, past, given, to_child, sent, started, closed, taken, holds, items, closes, has, starts_in, shuts_in, refuses_in, takes_of, takes_in, appends_in, holds_after, holds_in, is_still, is_late, next_kind, any_kind, ever_held}
use Rattle.vx_tasks.specs.Task as task
use Rattle.vx_tasks.specs.Task.Kind.{Free, Take, TakeEnd, Put, Append, Join}
use Rattle.vx_tasks.specs.Task.Forest.{Bare, Node}
use Rattle.vx_tasks.specs.Rules.{Apart, AllHeld, Rules, AtLeast, Covers, InOrder, Rises, names}
use Rattle.vx_tasks.specs.Nodes.{acts, refusal, closing, once_ended, numbers, column_paths, column_puts, column_takes, column_stream, columns_script, columns_task, columns_end}
use Rattle.vx_tasks.specs.Good.{Good, ColumnKids}
use Rattle.vx_tasks.proofs.Scripts.{given_rest, closes_some_time, no_true, or_true, given-append, shuts_in-append, any_kind-append, takes_in-append, appends_in-append, holds_after-append, holds_in-append, all_whole}
use Rattle.vx_tasks.proofs.Fit.{front_open, Feeds, child_rules, child_order, body_reads, body_shuts, no_append_keeps, join_apart, no_join_apart, held_where, NamedFrom, more_named, more_rises, alone_named, alone_rises}
use Rattle.vx_tasks.proofs.Leaves.{mute_reads}
use Rattle.vx_tasks.proofs.Chunks.{same_test, other_test}

-- the end of the script
abbrev last_part : ℕ → Bool → List Action
last_part w ended = once_ended ended (acts TakeEnd [] ∷ closing (numbers 0 w) ∷ acts Join [] ∷ [])

-- One chunk's puts.

puts_later : (c : ℕ) (p : List ℕ) (b k : ℕ) → c < b → given c (column_puts p b k) ≡ []
puts_later c p b zero h = refl
puts_later c p b (suc k) h = rw (other_test c b h) (puts_later c p (suc b) k (omega arith))

puts_one : (c : ℕ) (p : List ℕ) (b k : ℕ) → b ≤ c → c < b + k → given c (column_puts p b k) ≡ under p c ∷ []
puts_one c p b zero l h = absurd (omega arith)
puts_one c p b (suc k) l h = ⊎_elim
    (λ e. subst (λ y. cond (nat_eq y c) (under p y ∷ []) [] ++ given c (column_puts p (suc y) k) ≡ under p c ∷ []) (sym e)
    (rw (same_test c) (ap (λ y. under p c ∷ y) (puts_later c p (suc c) k (omega arith)))))
    (λ g. rw (higher b g) (puts_one c p (suc b) k g (omega arith)))
    (cases b l)
  where
    cases : (b : ℕ) → b ≤ c → (b ≡ c) ⊎ (suc b ≤ c)
    cases b l = grind arith

    higher : (b : ℕ) → suc b ≤ c → nat_eq b c ≡ false
    higher b g = grind (arith, nat_tests)

puts_paths : (c : ℕ) (p : List ℕ) (b k : ℕ) (x : List ℕ) → In x (given c (column_puts p b k)) → In x (column_paths p b k)
puts_paths c p b zero x i = i
puts_paths c p b (suc k) x i = at (cases_Bool (nat_eq b c)) (λ h. puts_paths c p (suc b) k x h)
  where
    at : (nat_eq b c ≡ true) ⊎ (nat_eq b c ≡ false) → (In x (given c (column_puts p (suc b) k)) → In x (column_paths p (suc b) k)) → In x (column_paths p b (suc k))
    at (inl t) rest =
        let z : In x (under p b ∷ given c (column_puts p (suc b) k)) = rw t at i in ⊎_elim (λ e. inl e) (λ h. inr (rest h)) z
    at (inr f) rest = let z : In x (given c (column_puts p (suc b) k)) = rw f at i in inr (rest z)

puts_move : (p : List ℕ) (b k : ℕ) → any_kind is_still (column_puts p b k) ≡ false
puts_move p b zero = refl
puts_move p b (suc k) = puts_move p (suc b) k

puts_mute : (p : List ℕ) (b k : ℕ) → appends_in (column_puts p b k) ≡ []
puts_mute p b zero = refl
puts_mute p b (suc k) = puts_mute p (suc b) k

puts_open : (c : ℕ) (p : List ℕ) (b k : ℕ) → shuts_in c (column_puts p b k) ≡ false
puts_open c p b zero = refl
puts_open c p b (suc k) = puts_open c p (suc b) k

puts_take : (p : List ℕ) (b k : ℕ) → takes_in (column_puts p b k) ≡ 0
puts_take p b zero = refl
puts_take p b (suc k) = omega (arith, puts_take p (suc b) k)

paths_from : (p : List ℕ) (b k : ℕ) (x : List ℕ) → In x (column_paths p b k) → begins p x ≡ true
paths_from p b zero x i = absurd i
paths_from p b (suc k) x i = ⊎_elim (λ e. rw e (begins-under p b)) (λ h. paths_from p (suc b) k x h) i

puts_hold : (p : List ℕ) (b k : ℕ) (x : List ℕ) → In x (holds_in (column_puts p b k)) → begins p x ≡ true
puts_hold p b zero x i = absurd i
puts_hold p b (suc k) x i = ⊎_elim (λ a. paths_from p (suc b) k x a) (λ h. puts_hold p (suc b) k x h)
    (in_cases x (column_paths p (suc b) k) (holds_in (column_puts p (suc b) k)) i)

-- All chunks.

takes_stream : (c w : ℕ) (ps : List (List ℕ)) → c < w → given c (column_takes w ps) ≡ column_stream c ps
takes_stream c w [] h = refl
takes_stream c w (p ∷ ps) h =
    given-append c (column_puts p 0 w) (column_takes w ps)
    ∙ ap (λ y. y ++ given c (column_takes w ps)) (puts_one c p 0 w (omega arith) (omega arith)) ∙ ap (λ y. under p c ∷ y) (takes_stream c w ps h)

takes_move : (w : ℕ) (ps : List (List ℕ)) → any_kind is_still (column_takes w ps) ≡ false
takes_move w [] = refl
takes_move w (p ∷ ps) = any_kind-append is_still (column_puts p 0 w) (column_takes w ps) ∙ ap (λ b. b || any_kind is_still (column_takes w ps)) (puts_move p 0 w) ∙ takes_move w ps

puts_early : (p : List ℕ) (b k : ℕ) → any_kind is_late (column_puts p b k) ≡ false
puts_early p b zero = refl
puts_early p b (suc k) = puts_early p (suc b) k

takes_early : (w : ℕ) (ps : List (List ℕ)) → any_kind is_late (column_takes w ps) ≡ false
takes_early w [] = refl
takes_early w (p ∷ ps) = any_kind-append is_late (column_puts p 0 w) (column_takes w ps) ∙ ap (λ b. b || any_kind is_late (column_takes w ps)) (puts_early p 0 w) ∙ takes_early w ps

takes_mute : (w : ℕ) (ps : List (List ℕ)) → appends_in (column_takes w ps) ≡ []
takes_mute w [] = refl
takes_mute w (p ∷ ps) = appends_in-append (column_puts p 0 w) (column_takes w ps) ∙ ap (λ b. b ++ appends_in (column_takes w ps)) (puts_mute p 0 w) ∙ takes_mute w ps

takes_open : (c w : ℕ) (ps : List (List ℕ)) → shuts_in c (column_takes w ps) ≡ false
takes_open c w [] = refl
takes_open c w (p ∷ ps) = shuts_in-append c (column_puts p 0 w) (column_takes w ps) ∙ ap (λ b. b || shuts_in c (column_takes w ps)) (puts_open c p 0 w) ∙ takes_open c w ps

takes_all : (w : ℕ) (ps : List (List ℕ)) → takes_in (column_takes w ps) ≡ length ps
takes_all w [] = refl
takes_all w (p ∷ ps) =
    let h : takes_in (column_puts p 0 w ++ column_takes w ps) ≡ takes_in (column_puts p 0 w) + takes_in (column_takes w ps) = takes_in-append (column_puts p 0 w) (column_takes w ps) in
    omega (arith, h, puts_take p 0 w, takes_all w ps)

takes_hold : (w : ℕ) (ps : List (List ℕ)) (x : List ℕ) → In x (holds_in (column_takes w ps)) → (q : List ℕ) × In q ps × (begins q x ≡ true)
takes_hold w [] x i = absurd i
takes_hold w (p ∷ ps) x i = ⊎_elim
    (λ a. (p, inl refl, paths_from p 0 w x a))
    (λ b. ⊎_elim (λ c. (p, inl refl, puts_hold p 0 w x c)) (λ c. more (takes_hold w ps x c))
    (in_cases x (holds_in (column_puts p 0 w)) (holds_in (column_takes w ps)) (let z : In x (holds_in (column_puts p 0 w) ++ holds_in (column_takes w ps)) = rw (holds_in-append (column_puts p 0 w) (column_takes w ps)) at b in z)))
    (in_cases x (column_paths p 0 w) (holds_in (column_puts p 0 w ++ column_takes w ps)) i)
  where
    more : (q : List ℕ) × In q ps × (begins q x ≡ true) → (q : List ℕ) × In q (p ∷ ps) × (begins q x ≡ true)
    more (q, i, h) = (q, inr i, h)

-- What is still to be given is held, or stands under a chunk that is still to be taken.

abbrev Known : List Action → List (List ℕ) → ℕ → List (List ℕ) → ℕ → List ℕ → Type 0
Known todo h c ps n x = In x (given c (drop n todo)) → AtLeast (holds_after h (take n todo) ++ drop (takes_in (take n todo)) ps) x

block_known : (c : ℕ) (p : List ℕ) (ps : List (List ℕ)) (rest : List Action) (x : List ℕ) → ((h : List (List ℕ)) (n : ℕ) → Known rest h c ps n x)
    → (b k n : ℕ) → Known (column_puts p b k ++ rest) (column_paths p b k) c ps n x
block_known c p ps rest x known b zero n i = known [] n i
block_known c p ps rest x known b (suc k) zero i = ⊎_elim
    (λ a. (x, in_left x (column_paths p b (suc k)) ps (puts_paths c p b (suc k) x a), path_le-refl x))
    (λ a. known (column_paths p b (suc k)) 0 a)
    (in_cases x (given c (column_puts p b (suc k))) (given c rest)
    (let z : In x (given c (column_puts p b (suc k)) ++ given c rest) = rw (given-append c (column_puts p b (suc k)) rest) at i in z))
block_known c p ps rest x known b (suc k) (suc n) i =
    rw zero-add (block_known c p ps rest x known (suc b) k n i)

takes_known : (c w : ℕ) (ps : List (List ℕ)) (tail : List Action) (x : List ℕ) → c < w → given c tail ≡ [] → (h : List (List ℕ)) (n : ℕ) → Known (column_takes w ps ++ tail) h c ps n x
takes_known c w [] tail x l z h n i = let y : In x [] = rw (given_rest c tail n z) at i in absurd y
takes_known c w (p ∷ ps) tail x l z h zero i =
    at (from_map (λ q. under q c) x (p ∷ ps) (let y : In x (column_stream c (p ∷ ps)) = subst (λ s. In x s)
    (given-append c (column_takes w (p ∷ ps)) tail ∙ ap (λ s. given c (column_takes w (p ∷ ps)) ++ s) z ∙ append-nil (given c (column_takes w (p ∷ ps)))
    ∙ takes_stream c w (p ∷ ps) l) i in y))
  where
    at : (q : List ℕ) × In q (p ∷ ps) × (x ≡ under q c) → AtLeast (h ++ (p ∷ ps)) x
    at (q, i, e) = (q, in_right q h (p ∷ ps) i, rw e (begins_le q (under q c) (begins-under q c)))
takes_known c w (p ∷ ps) tail x l z h (suc n) i =
    let assoc : (column_puts p 0 w ++ column_takes w ps) ++ tail ≡ column_puts p 0 w ++ (column_takes w ps ++ tail) = append_assoc (column_puts p 0 w) (column_takes w ps) tail in
    rw one-add (subst (λ s. AtLeast (holds_after (column_paths p 0 w) (take n s) ++ drop (takes_in (take n s)) ps) x) (sym assoc)
    (block_known c p ps (column_takes w ps ++ tail) x (λ h n. takes_known c w ps tail x l z h n) 0 w n (subst (λ s. In x (given c (drop n s))) assoc i)))

-- The numbers of the columns.

has_number : (c b k : ℕ) → b ≤ c → c < b + k → has c (numbers b k) ≡ true
has_number c b zero l h = absurd (omega arith)
has_number c b (suc k) l h = ⊎_elim
    (λ e. or_true (nat_eq b c) (has c (numbers (suc b) k)) (inl (rw e (same_test b))))
    (λ g. or_true (nat_eq b c) (has c (numbers (suc b) k)) (inr (has_number c (suc b) k g (omega arith)))) (cases b l)
  where
    cases : (b : ℕ) → b ≤ c → (c ≡ b) ⊎ (suc b ≤ c)
    cases b l = grind arith

last_gives : (c w : ℕ) (ended : Bool) → given c (last_part w ended) ≡ []
last_gives c w true = refl
last_gives c w false = refl

-- The columns' streams.

module _ (t : Task) (w : ℕ) (ps : List (List ℕ)) (ended : Bool) (script_is : t.script ≡ column_takes w ps ++ last_part w ended)
    (first_is : t.first ≡ numbers 0 w) (held_is : t.held ≡ []) where
  body : List Action
  body = column_takes w ps ++ once_ended ended (acts TakeEnd [] ∷ closing (numbers 0 w) ∷ [])

  body_moves : any_kind is_still body ≡ false
  unfolding body
  body_moves = any_kind-append is_still (column_takes w ps) (once_ended ended (acts TakeEnd [] ∷ closing (numbers 0 w) ∷ []))
      ∙ ap (λ b. b || any_kind is_still (once_ended ended (acts TakeEnd [] ∷ closing (numbers 0 w) ∷ []))) (takes_move w ps) ∙ at ended
    where
      at : (ended : Bool) → any_kind is_still (once_ended ended (acts TakeEnd [] ∷ closing (numbers 0 w) ∷ [])) ≡ false
      at true = refl
      at false = refl

  split : t.script ≡ body ++ once_ended ended (acts Join [] ∷ [])
  unfolding body
  split = script_is ∙ at ended
    where
      at : (ended : Bool) → column_takes w ps ++ last_part w ended
          ≡ (column_takes w ps ++ once_ended ended (acts TakeEnd [] ∷ closing (numbers 0 w) ∷ [])) ++ once_ended ended (acts Join [] ∷ [])
      at true = sym (append_assoc (column_takes w ps) (acts TakeEnd [] ∷ closing (numbers 0 w) ∷ []) (acts Join [] ∷ []))
      at false = sym (append-nil (column_takes w ps ++ []))

  all_takes : takes_in t.script ≡ length ps
  all_takes =
      let h : takes_in t.script ≡ takes_in (column_takes w ps) + takes_in (last_part w ended) = ap takes_in script_is ∙ takes_in-append (column_takes w ps) (last_part w ended) in
      omega (arith, takes_all w ps, at ended)
    where
      at : (ended : Bool) → takes_in (last_part w ended) ≡ 0
      at true = refl
      at false = refl

  shuts : (c : ℕ) (js : List Action) → shuts_in c (column_takes w ps ++ js) ≡ shuts_in c js
  shuts c js = shuts_in-append c (column_takes w ps) js ∙ ap (λ b. b || shuts_in c js) (takes_open c w ps)

  body_closes : (c : ℕ) → c < w → ended ≡ true → shuts_in c body ≡ true
  unfolding body
  body_closes c l e = shuts c (once_ended ended (acts TakeEnd [] ∷ closing (numbers 0 w) ∷ [])) ∙ rw e (or_true (has c (numbers 0 w)) false (inl (has_number c 0 w (omega arith) (omega arith))))

  column_closes : (c : ℕ) → c < w → closes c t ≡ ended
  column_closes c l = ap (shuts_in c) script_is ∙ shuts c (last_part w ended) ∙ at ended
    where
      at : (ended : Bool) → shuts_in c (last_part w ended) ≡ ended
      at true = or_true (has c (numbers 0 w)) false (inl (has_number c 0 w (omega arith) (omega arith)))
      at false = refl

  always_started : (c n : ℕ) → c < w → started t c n ≡ true
  always_started c n l = or_true (has c t.first) (starts_in c (past t n)) (inl (ap (has c) first_is ∙ has_number c 0 w (omega arith) (omega arith)))

  column_fed : (c : ℕ) (ceof : List ℕ) → c < w → Feeds (not ended) ps t c (column_stream c ps) ended ceof
  column_fed c ceof l = record {
    items_are = ap (given c) script_is ∙ given-append c (column_takes w ps) (last_part w ended) ∙ ap (λ y. given c (column_takes w ps) ++ y) (last_gives c w ended)
        ∙ append-nil (given c (column_takes w ps)) ∙ takes_stream c w ps l;
    closes_are = column_closes c l;
    begun = or_true (has c t.first) (starts_in c t.script) (inl (ap (has c) first_is ∙ has_number c 0 w (omega arith) (omega arith)));
    closed_first = λ n s g h. body_shuts t body (once_ended ended (acts Join [] ∷ [])) c n split body_moves (body_closes c l (sym (column_closes c l) ∙ h)) s;
    shut_last = λ n h. front_open t (column_takes w ps) (last_part w ended) c n script_is (takes_open c w ps) (last_gives c w ended) h;
    started_first = λ n h. absurd (no_true h (always_started c n l));
    open_refuses = λ h g. absurd (no_true (sym (column_closes c l) ∙ g) (ended_is ended h));
    open_moves = λ g. ap (any_kind is_still) split ∙ any_kind-append is_still body (once_ended ended (acts Join [] ∷ []))
        ∙ ap (λ b. b || any_kind is_still (once_ended ended (acts Join [] ∷ []))) body_moves ∙ open_still ended (sym (column_closes c l) ∙ g);
    unsent = λ n x i. known n x i;
    unborn = λ n h. absurd (no_true h (always_started c n l));
  }
    where
      ended_is : (b : Bool) → not b ≡ false → b ≡ true
      ended_is true h = refl
      ended_is false h = cc

      open_still : (b : Bool) → b ≡ false → any_kind is_still (once_ended b (acts Join [] ∷ [])) ≡ false
      open_still true h = cc
      open_still false h = refl

      known : (n : ℕ) (x : List ℕ) → In x (given c (task.next t n)) → Covers ps t n x
      known n x i = subst (λ s. AtLeast (holds_after t.held (take n s) ++ drop (takes_in (take n s)) ps) x) (sym script_is)
          (takes_known c w ps (last_part w ended) x l (last_gives c w ended) t.held n (subst (λ s. In x (given c (drop n s))) script_is i))

-- The children, from column c on.

column_rules : (cut : Bool) (t : Task) (name : List ℕ) (w : ℕ) (ps : List (List ℕ)) (cend : Bool)
    → ((c : ℕ) (ceof : List ℕ) → c < w → Feeds cut ps t c (column_stream c ps) cend ceof)
    → (c k : ℕ) (e : Eof) (kids : Forest) → c + k ≡ w → ColumnKids name c k ps cend e kids → Rules cut t c kids × InOrder ps t c kids
column_rules cut t name w ps cend feed c zero e Bare h k = (tt, tt)
column_rules cut t name w ps cend feed c zero e (Node d kids rest) h k = absurd k
column_rules cut t name w ps cend feed c (suc m) e Bare h k = absurd k
column_rules cut t name w ps cend feed c (suc m) e (Node d kids rest) h (g, k) =
    let r : Rules cut t (suc c) rest × InOrder ps t (suc c) rest = column_rules cut t name w ps cend feed (suc c) m (next e) rest (omega arith) k in
    let f : Feeds cut ps t c (column_stream c ps) cend (eof_path (inside e)) = feed c (eof_path (inside e)) (omega arith) in (
      child_rules cut ps t c (under name c) (column_stream c ps) cend (inside e) d kids f g rest r.0,
      child_order cut ps t c (under name c) (column_stream c ps) cend (inside e) d kids f g rest r.1,
    )

column_region : (name : List ℕ) (c k : ℕ) (ps : List (List ℕ)) (cend : Bool) (e : Eof) (kids : Forest) → ColumnKids name c k ps cend e kids → AllHeld (Region ps e) kids
column_region name c zero ps cend e Bare k = tt
column_region name c zero ps cend e (Node d kids rest) k = absurd k
column_region name c (suc m) ps cend e Bare k = absurd k
column_region name c (suc m) ps cend e (Node d kids rest) (g, k) =
    let a : AllHeld (Region ps e) (Node d kids Bare) = held_where (Region (column_stream c ps) (inside e)) (Region ps e) (Node d kids Bare)
    (λ x h. region_inside ps e x (region_from (column_stream c ps) ps (inside e) x (λ p i. at p (from_map (λ q. under q c) p ps i)) h)) g.region in
    (a.0, a.1, held_where (Region ps (next e)) (Region ps e) rest (λ x h. region_next ps e x h) (column_region name (suc c) m ps cend (next e) rest k))
  where
    at : (p : List ℕ) → (q : List ℕ) × In q ps × (p ≡ under q c) → (q : List ℕ) × In q ps × (begins q p ≡ true)
    at p (q, i, h) = (q, i, rw h (begins-under q c))

column_names : (name : List ℕ) (c k : ℕ) (ps : List (List ℕ)) (cend : Bool) (e : Eof) (kids : Forest) → ColumnKids name c k ps cend e kids
    → NamedFrom name c (names kids) × Rises (names kids)
column_names name c zero ps cend e Bare k = (λ y i. absurd i, tt)
column_names name c zero ps cend e (Node d kids rest) k = absurd k
column_names name c (suc m) ps cend e Bare k = absurd k
column_names name c (suc m) ps cend e (Node d kids rest) (g, k) =
    let r : NamedFrom name (suc c) (names rest) × Rises (names rest) = column_names name (suc c) m ps cend (next e) rest k in
    (more_named name c (column_stream c ps) cend (inside e) d kids rest g r.0, more_rises name c (column_stream c ps) cend (inside e) d kids rest g r.0 r.1)

-- Struct and List, where the stream doesn't end without a chunk.

full_good : (name : List ℕ) (e : Eof) (list : Bool) (w : ℕ) (ps : List (List ℕ)) (ended : Bool) (kids : Forest)
    → columns_script list w ps ended ≡ column_takes w ps ++ last_part w ended → ColumnKids name 0 w ps ended e kids
    → Good name ps ended e (columns_task name e list w ps ended) kids
unfolding body
full_good name e list w ps ended kids script k = record {
  eof_is = refl;
  reads = mute_reads ps ended t mute (omega (arith, all_takes t w ps ended script refl refl))
      (λ n h. body_reads t (column_takes w ps) (last_part w ended) (length ps) n script (takes_early w ps) (omega (arith, takes_all w ps)) h)
      (λ r. omega (arith, all_takes t w ps ended script refl refl))
      (λ c r. ap (holds_after []) (all_whole t ∙ script) ∙ holds_after-append [] (column_takes w ps) (last_part w ended)
      ∙ last_holds ended c (holds_after [] (column_takes w ps)));
  keeps = no_append_keeps t mute;
  apart = apart;
  rules = both.0;
  order = both.1;
  region = (
    λ x i. at_held x (takes_hold w ps x (only_takes x ended (rw (script, holds_in-append (column_takes w ps) (last_part w ended)) at i))),
    column_region name 0 w ps ended e kids k,
    tt,
  );
  named = alone_named t kids (column_names name 0 w ps ended e kids k).0;
  rises = alone_rises t kids (column_names name 0 w ps ended e kids k).0 (column_names name 0 w ps ended e kids k).1;
}
  where
    t : Task
    t = columns_task name e list w ps ended

    tail : List Action
    tail = once_ended ended (acts Join [] ∷ [])

    the_body : List Action
    the_body = body t w ps ended script refl refl

    both : Rules (not ended) t 0 kids × InOrder ps t 0 kids
    both = column_rules (not ended) t name w ps ended (column_fed t w ps ended script refl refl) 0 w e kids (omega arith) k

    last_mute : (ended : Bool) → appends_in (last_part w ended) ≡ []
    last_mute true = refl
    last_mute false = refl

    mute : appends_in t.script ≡ []
    mute = ap appends_in script ∙ appends_in-append (column_takes w ps) (last_part w ended) ∙ ap (λ y. y ++ appends_in (last_part w ended)) (takes_mute w ps) ∙ last_mute ended

    last_holds : (b : Bool) → b ≡ true → (h : List (List ℕ)) → holds_after h (last_part w b) ≡ []
    last_holds true c h = refl
    last_holds false c h = cc

    only_takes : (x : List ℕ) (b : Bool) → In x (holds_in (column_takes w ps) ++ holds_in (last_part w b)) → In x (holds_in (column_takes w ps))
    only_takes x true i = rw (append-nil (holds_in (column_takes w ps))) at i
    only_takes x false i = rw (append-nil (holds_in (column_takes w ps))) at i

    at_held : (x : List ℕ) → (q : List ℕ) × In q ps × (begins q x ≡ true) → Region ps e x
    at_held x (q, i, h) = inl (q, i, h)

    apart : Apart t kids
    apart = by_end ended refl
      where
        by_end : (b : Bool) → ended ≡ b → Apart t kids
        by_end true c = join_apart t kids the_body (acts Join []) (split t w ps ended script refl refl ∙ ap (λ b. the_body ++ once_ended b (acts Join [] ∷ [])) c) (body_moves t w ps ended script refl refl)
            (holds_after-append [] (column_takes w ps) (once_ended ended (acts TakeEnd [] ∷ closing (numbers 0 w) ∷ []))
            ∙ ap (λ b. holds_after (holds_after [] (column_takes w ps)) (once_ended b (acts TakeEnd [] ∷ closing (numbers 0 w) ∷ []))) c)
        by_end false c = no_join_apart t kids (ap (any_kind is_still) (split t w ps ended script refl refl) ∙ any_kind-append is_still the_body tail
            ∙ ap (λ b. b || any_kind is_still tail) (body_moves t w ps ended script refl refl) ∙ ap (λ b. any_kind is_still (once_ended b (acts Join [] ∷ []))) c)

-- A list whose stream ends without a chunk refuses.

refused_fed : (t : Task) (w : ℕ) → t.script ≡ refusal TakeEnd ∷ [] → t.first ≡ numbers 0 w → (c : ℕ) (ceof : List ℕ) → c < w → Feeds false [] t c [] false ceof
refused_fed t w script_is first_is c ceof l = record {
  items_are = ap (given c) script_is;
  closes_are = open_queue;
  begun = or_true (has c t.first) (starts_in c t.script) (inl (ap (has c) first_is ∙ has_number c 0 w (omega arith) (omega arith)));
  closed_first = λ n s g h. absurd (no_true open_queue h);
  shut_last = λ n h. absurd (no_true open_queue (closes_some_time t c n h));
  started_first = λ n h. absurd (no_true h (on n));
  open_refuses = λ h g. ap refuses_in script_is;
  open_moves = λ g. ap (any_kind is_still) script_is;
  unsent = λ n x i. let z : In x [] = subst (λ y. In x y) (ap (λ s. given c (drop n s)) script_is ∙ given_rest c (refusal TakeEnd ∷ []) n refl) i in absurd z;
  unborn = λ n h. absurd (no_true h (on n));
}
  where
    open_queue : closes c t ≡ false
    open_queue = ap (shuts_in c) script_is

    on : (n : ℕ) → started t c n ≡ true
    on n = or_true (has c t.first) (starts_in c (past t n)) (inl (ap (has c) first_is ∙ has_number c 0 w (omega arith) (omega arith)))

refused_good : (name : List ℕ) (e : Eof) (w : ℕ) (kids : Forest) → ColumnKids name 0 w [] false e kids → Good name [] true e (columns_task name e true w [] true) kids
refused_good name e w kids k = record {
  eof_is = refl;
  reads = mute_reads [] true t refl (omega arith) (λ n h. omega arith) (λ r. cc) (λ r h. cc);
  keeps = no_append_keeps t refl;
  apart = no_join_apart t kids refl;
  rules = both.0;
  order = both.1;
  region = (λ x i. absurd i, column_region name 0 w [] false e kids k, tt);
  named = alone_named t kids (column_names name 0 w [] false e kids k).0;
  rises = alone_rises t kids (column_names name 0 w [] false e kids k).0 (column_names name 0 w [] false e kids k).1;
}
  where
    t : Task
    t = columns_task name e true w [] true

    both : Rules false t 0 kids × InOrder [] t 0 kids
    both = column_rules false t name w [] false (refused_fed t w refl refl) 0 w e kids (omega arith) k

pub columns_good : (name : List ℕ) (e : Eof) (list : Bool) (w : ℕ) (ps : List (List ℕ)) (ended : Bool) (kids : Forest)
    → ColumnKids name 0 w ps (columns_end list ps ended) e kids → Good name ps ended e (columns_task name e list w ps ended) kids
columns_good name e true w [] true kids k = refused_good name e w kids k
columns_good name e true w [] false kids k = full_good name e true w [] false kids refl k
columns_good name e true w (p ∷ ps) ended kids k = full_good name e true w (p ∷ ps) ended kids refl k
columns_good name e false w ps ended kids k = full_good name e false w ps ended kids refl k
