-- A node with children that are good is good: what every node's proof takes.
use Rattle.std.proofs.Common.{◌≡◌, ℕ, zero, suc, ◌≤◌, ◌⊎◌, Bool, true, false, cond, not, nat_eq, nat_lt, ◌||◌, List, [], ◌∷◌, ◌++◌, take, drop, refl, sym, ap, ◌∙◌, inl, inr, ⊎_elim, arith, append-nil}
use Rattle.std.proofs.lemmas.Bool.Decides.{nat_tests}
use Rattle.vx_path.specs.Lists.{In}
use Rattle.vx_path.specs.Path.{path_le, path_lt, begins, under, Eof, eof_path, Region}
use Rattle.vx_path.proofs.Lists.{in_cases}
use Rattle.vx_path.proofs.Path.{begins_le, begins-refl, begins-trans, begins-under, region_least, under_lt, under_apart, apart_lt, lt_le_trans}
use Rattle.vx_tasks.specs.Task.{Task, Action, Kind, Forest, past, given, sent, started, closed, taken, holds, items, closes, has, starts_in, shuts_in, refuses_in, takes_in, appends_of, appends_in, holds_after, is_still, is_late, next_kind, any_kind, ever_held}
use Rattle.vx_tasks.specs.Task as task
use Rattle.vx_tasks.specs.Task.Kind.{Free, Take, TakeEnd, Put, Append, Join}
use Rattle.vx_tasks.specs.Task.Forest.{Bare, Node}
use Rattle.vx_tasks.specs.Rules.{Fits, Keeps, AllHeld, AllBelow, Apart, Rules, AtLeast, Covers, appends, Ordered, InOrder, Rises, names}
use Rattle.vx_tasks.specs.Good.{Good}
use Rattle.vx_tasks.proofs.Scripts.{given_rest, no_true, or_true, or_false, script_is, held_ever, kind_some_time, appends_in-append, takes_in-append, shuts_in-append}
use Rattle.vx_tasks.proofs.Names.{rises_join}

-- How a task p, whose own stream has the paths ps, feeds a child j with a stream cps.
pub record Feeds (cut : Bool) (ps : List (List ℕ)) (p : Task) (j : ℕ) (cps : List (List ℕ)) (cend : Bool) (ceof : List ℕ) : Type 0 where
  pub items_are : items j p ≡ cps
  pub closes_are : closes j p ≡ cend
  pub begun : (has j p.first || starts_in j p.script) ≡ true
  pub closed_first : (n : ℕ) → next_kind is_still (task.next p n) ≡ true → started p j n ≡ true → closes j p ≡ true → closed p j n ≡ true
  pub shut_last : (n : ℕ) → closed p j n ≡ true → given j (task.next p n) ≡ []
  pub started_first : (n : ℕ) → started p j n ≡ false → sent p j n ≡ []
  pub open_refuses : cut ≡ false → closes j p ≡ false → refuses_in p.script ≡ true
  pub open_moves : closes j p ≡ false → any_kind is_still p.script ≡ false
  pub unsent : (n : ℕ) (x : List ℕ) → In x (given j (task.next p n)) → Covers ps p n x
  pub unborn : (n : ℕ) → started p j n ≡ false → Covers ps p n ceof

-- What is appended is held before.

find_append : (xs : List Action) (x : List ℕ) → In x (appends_in xs) → (n : ℕ) × (a : Action) × (todo : List Action) × (drop n xs ≡ a ∷ todo) × (a.kind ≡ Append x)
find_append [] x i = absurd i
find_append (a ∷ xs) x i = ⊎_elim (λ l. (0, a, xs, refl, is_append a.kind x l)) (λ r. later (find_append xs x r)) (in_cases x (appends_of a.kind) (appends_in xs) i)
  where
    is_append : (k : Kind) (x : List ℕ) → In x (appends_of k) → k ≡ Append x
    is_append (Free w) x i = absurd i
    is_append Take x i = absurd i
    is_append TakeEnd x i = absurd i
    is_append (Put c) x i = absurd i
    is_append (Append q) x i = ⊎_elim (λ e. ap Append (sym e)) (λ y. absurd y) i
    is_append Join x i = absurd i

    later : (n : ℕ) × (b : Action) × (todo : List Action) × (drop n xs ≡ b ∷ todo) × (b.kind ≡ Append x)
        → (n : ℕ) × (b : Action) × (todo : List Action) × (drop n (a ∷ xs) ≡ b ∷ todo) × (b.kind ≡ Append x)
    later (n, b, todo, e, k) = (suc n, b, todo, e, k)

own_held : (t : Task) → Keeps t → (x : List ℕ) → In x (appends_in t.script) → In x (ever_held t)
own_held t keeps x i = at (find_append t.script x i)
  where
    at : (n : ℕ) × (a : Action) × (todo : List Action) × (drop n t.script ≡ a ∷ todo) × (a.kind ≡ Append x) → In x (ever_held t)
    at (n, a, todo, e, k) = held_ever t n x (rw (keeps n x a todo e k) (inl refl))

appends_held : (P : List ℕ → Type 0) (cut : Bool) (p : Task) (j : ℕ) (f : Forest) → Rules cut p j f → AllHeld P f → (x : List ℕ) → In x (appends f) → P x
appends_held P cut p j Bare rules held x i = absurd i
appends_held P cut p j (Node t kids rest) (fit, keeps, apart, lower, later) (own, inner, outer) x i = ⊎_elim
    (λ a. own x (own_held t keeps x a))
    (λ b. ⊎_elim
    (λ c. appends_held P (not (closes j p)) t 0 kids lower inner x c)
    (λ c. appends_held P cut p (suc j) rest later outer x c) (in_cases x (appends kids) (appends rest) b))
    (in_cases x (appends_in t.script) (appends kids ++ appends rest) i)

-- The two sides of a stream make a fit.

module _ (cut : Bool) (ps : List (List ℕ)) (p : Task) (j : ℕ) (name : List ℕ) (cps : List (List ℕ)) (cend : Bool) (e : Eof) (t : Task) (kids : Forest)
    (f : Feeds cut ps p j cps cend (eof_path e)) (g : Good name cps cend e t kids) where
  fits : Fits cut p j t
  fits = record {
    begun = f.begun;
    reads_all = λ r. rw f.items_are (g.reads.reads_all r);
    reads_first = λ n h. rw f.items_are (g.reads.reads_first n h);
    closed_first = f.closed_first;
    shut_last = f.shut_last;
    enough = rw f.items_are g.reads.enough;
    started_first = f.started_first;
    open_refuses = f.open_refuses;
    open_moves = f.open_moves;
    at_end = λ c r. g.reads.at_end (sym f.closes_are ∙ c) r;
  }

  in_region : (x : List ℕ) → In x (appends (Node t kids Bare)) → Region cps e x
  in_region x i = ⊎_elim
      (λ a. g.region.0 x (own_held t g.keeps x a))
      (λ b. appends_held (Region cps e) (not cend) t 0 kids g.rules g.region.1 x (let h : In x (appends kids) = rw (append-nil (appends kids)) at b in h))
      (in_cases x (appends_in t.script) (appends kids ++ []) i)

  ordered : Ordered ps p j t kids
  ordered = record {
    own = λ n x i. rw f.items_are (g.reads.own n x i);
    unsent = f.unsent;
    unborn = λ n h. rw g.eof_is (f.unborn n h);
    inside = λ x i. rw (g.eof_is, f.items_are) (from_region x (region_least cps e x (in_region x i)));
  }
    where
      from_region : (x : List ℕ) → ((q : List ℕ) × In q cps × (path_le q x ≡ true)) ⊎ (path_le (eof_path e) x ≡ true) → AtLeast (eof_path e ∷ cps) x
      from_region x (inl (q, i, h)) = (q, inr i, h)
      from_region x (inr h) = (eof_path e, inl refl, h)

  pub child_rules : (rest : Forest) → Rules cut p (suc j) rest → Rules cut p j (Node t kids rest)
  child_rules rest r = (fits, g.keeps, g.apart, rw f.closes_are g.rules, r)

  pub child_order : (rest : Forest) → InOrder ps p (suc j) rest → InOrder ps p j (Node t kids rest)
  child_order rest r = (ordered, rw f.items_are g.order, r)

-- A script in two parts, where the first, the body, has no action of a kind that passes a test.

pub late : (test : Kind → Bool) (body tail : List Action) (n : ℕ) → any_kind test body ≡ false → next_kind test (drop n (body ++ tail)) ≡ true
    → (k : ℕ) × (drop n (body ++ tail) ≡ drop k tail) × (take n (body ++ tail) ≡ body ++ take k tail)
late test [] tail n h s = (n, refl, refl)
late test (a ∷ body) tail zero h s = absurd (no_true h (or_true (test a.kind) (any_kind test body) (inl s)))
late test (a ∷ body) tail (suc n) h s = more (late test body tail n (or_later (test a.kind) (any_kind test body) h) s)
  where
    or_later : (a b : Bool) → (a || b) ≡ false → b ≡ false
    or_later true b h = cc
    or_later false b h = h

    more : (k : ℕ) × (drop n (body ++ tail) ≡ drop k tail) × (take n (body ++ tail) ≡ body ++ take k tail)
        → (k : ℕ) × (drop n (body ++ tail) ≡ drop k tail) × (a ∷ take n (body ++ tail) ≡ a ∷ (body ++ take k tail))
    more (k, d, t) = (k, d, ap (λ x. a ∷ x) t)

-- where it sees the end, appends or joins, a body of takes is done
pub body_reads : (t : Task) (body tail : List Action) (m n : ℕ) → t.script ≡ body ++ tail → any_kind is_late body ≡ false → m ≤ takes_in body
    → next_kind is_late (task.next t n) ≡ true → m ≤ taken t n
body_reads t body tail m n e h l s = at (late is_late body tail n h (sym (ap (λ x. next_kind is_late (drop n x)) e) ∙ s))
  where
    at : (k : ℕ) × (drop n (body ++ tail) ≡ drop k tail) × (take n (body ++ tail) ≡ body ++ take k tail) → m ≤ taken t n
    at (k, d, w) = rw (e, w, takes_in-append body (take k tail)) (omega arith)

-- where it appends or joins, a body with the closing is done
pub body_shuts : (p : Task) (body tail : List Action) (j n : ℕ) → p.script ≡ body ++ tail → any_kind is_still body ≡ false → shuts_in j body ≡ true
    → next_kind is_still (task.next p n) ≡ true → closed p j n ≡ true
body_shuts p body tail j n e h c s = at (late is_still body tail n h (sym (ap (λ x. next_kind is_still (drop n x)) e) ∙ s))
  where
    at : (k : ℕ) × (drop n (body ++ tail) ≡ drop k tail) × (take n (body ++ tail) ≡ body ++ take k tail) → closed p j n ≡ true
    at (k, d, w) = rw (e, w) (shuts_in-append j body (take k tail) ∙ or_true (shuts_in j body) (shuts_in j (take k tail)) (inl c))

-- where the queue is closed, a front of the script before the closing is done
pub front_open : (p : Task) (front rest : List Action) (j n : ℕ) → p.script ≡ front ++ rest → shuts_in j front ≡ false → given j rest ≡ []
    → closed p j n ≡ true → given j (task.next p n) ≡ []
front_open p front rest j n e h g c =
    ap (λ s. given j (drop n s)) e ∙ at front rest n h g (sym (ap (λ s. shuts_in j (take n s)) e) ∙ c)
  where
    at : (front rest : List Action) (n : ℕ) → shuts_in j front ≡ false → given j rest ≡ [] → shuts_in j (take n (front ++ rest)) ≡ true → given j (drop n (front ++ rest)) ≡ []
    at [] rest n h g c = given_rest j rest n g
    at (a ∷ front) rest zero h g c = cc
    at (a ∷ front) rest (suc n) h g c =
        let o : (has j a.shuts ≡ false) × (shuts_in j front ≡ false) = or_false (has j a.shuts) (shuts_in j front) h in
        at front rest n o.1 g (sym (ap (λ b. b || shuts_in j (take n (front ++ rest))) o.0) ∙ c)

-- a task that appends nothing

todo_none : (t : Task) (n : ℕ) → appends_in t.script ≡ [] → appends_in (task.next t n) ≡ []
todo_none t n h = right_nil (appends_in (past t n)) (appends_in (task.next t n)) (sym (ap appends_in (script_is t n) ∙ appends_in-append (past t n) (task.next t n)) ∙ h)
  where
    right_nil : (xs ys : List (List ℕ)) → xs ++ ys ≡ [] → ys ≡ []
    right_nil [] ys e = e
    right_nil (x ∷ xs) ys e = cc

pub no_append_keeps : (t : Task) → appends_in t.script ≡ [] → Keeps t
no_append_keeps t h n q a todo e k =
    let z : appends_in (a ∷ todo) ≡ [] = sym (ap appends_in e) ∙ todo_none t n h in
    let y : (q ∷ []) ++ appends_in todo ≡ [] = sym (ap (λ x. appends_of x ++ appends_in todo) k) ∙ z in cc

pub no_append_own : (t : Task) (ps : List (List ℕ)) → appends_in t.script ≡ [] → (n : ℕ) (x : List ℕ) → In x (appends_in (task.next t n)) → Covers ps t n x
no_append_own t ps h n x i = let z : In x [] = rw (todo_none t n h) at i in absurd z

-- a task that holds nothing where it joins is apart from its children
pub join_apart : (t : Task) (kids : Forest) (body : List Action) (j : Action) → t.script ≡ body ++ (j ∷ []) → any_kind is_still body ≡ false
    → holds_after t.held body ≡ [] → Apart t kids
join_apart t kids body j e h z n a todo w k m i =
    at (late is_still body (j ∷ []) n h (sym (ap (λ x. next_kind is_still (drop n x)) e) ∙ ap (next_kind is_still) w ∙ ap is_still k))
  where
    at : (k : ℕ) × (drop n (body ++ (j ∷ [])) ≡ drop k (j ∷ [])) × (take n (body ++ (j ∷ [])) ≡ body ++ take k (j ∷ [])) → AllBelow m t n 0 kids
    at (zero, d, v) =
        let s : holds t n ≡ [] = ap (holds_after t.held) (ap (take n) e ∙ v ∙ append-nil body) ∙ z in
        let y : In m [] = rw s at i in absurd y
    at (suc k, d, v) =
        let s : a ∷ todo ≡ drop k [] = sym w ∙ ap (drop n) e ∙ d in absurd (none k s)
      where
        none : (k : ℕ) → a ∷ todo ≡ drop k [] → ⊥
        none zero s = cc
        none (suc k) s = cc

-- a task that never joins
pub no_join_apart : (t : Task) (kids : Forest) → any_kind is_still t.script ≡ false → Apart t kids
no_join_apart t kids h n a todo w k m i = absurd (no_true h (kind_some_time is_still t n (ap (next_kind is_still) w ∙ ap is_still k)))

-- Regions and names of children.

pub held_where : (P Q : List ℕ → Type 0) (f : Forest) → ((x : List ℕ) → P x → Q x) → AllHeld P f → AllHeld Q f
held_where P Q Bare h a = tt
held_where P Q (Node t kids rest) h (own, inner, outer) = (λ x i. h x (own x i), held_where P Q kids h inner, held_where P Q rest h outer)

-- each of the names begins with that of a child from j on
abbrev pub NamedFrom : List ℕ → ℕ → List (List ℕ) → Type 0
NamedFrom name j ys = (y : List ℕ) → In y ys → (i : ℕ) × (j ≤ i) × (begins (under name i) y ≡ true)

pub under_above : (p : List ℕ) (i : ℕ) → path_lt p (under p i) ≡ true
under_above [] i = refl
under_above (k ∷ p) i = more k (path_le (under p i) p) (under_above p i)
  where
    more : (k : ℕ) (b : Bool) → not b ≡ true → not (cond (nat_eq k k) b (nat_lt k k)) ≡ true
    more k b h = grind (arith, nat_tests)

pub name_above : (name : List ℕ) (j : ℕ) (ys : List (List ℕ)) → NamedFrom name j ys → (y : List ℕ) → In y ys → path_lt name y ≡ true
name_above name j ys h y i = at (h y i)
  where
    at : (k : ℕ) × (j ≤ k) × (begins (under name k) y ≡ true) → path_lt name y ≡ true
    at (k, l, b) = lt_le_trans name (under name k) y (under_above name k) (begins_le (under name k) y b)

pub named_below : (name : List ℕ) (j : ℕ) (ys : List (List ℕ)) → NamedFrom name j ys → (y : List ℕ) → In y ys → begins name y ≡ true
named_below name j ys h y i = at (h y i)
  where
    at : (k : ℕ) × (j ≤ k) × (begins (under name k) y ≡ true) → begins name y ≡ true
    at (k, l, b) = begins-trans name (under name k) y (begins-under name k) b

-- a child before further ones
pub more_named : (name : List ℕ) (j : ℕ) (ps : List (List ℕ)) (ended : Bool) (e : Eof) (t : Task) (kids rest : Forest)
    → Good (under name j) ps ended e t kids → NamedFrom name (suc j) (names rest) → NamedFrom name j (names (Node t kids rest))
more_named name j ps ended e t kids rest g h y i = ⊎_elim
    (λ a. (j, omega arith, g.named y a))
    (λ b. at (h y b)) (in_cases y (t.name ∷ names kids) (names rest) i)
  where
    at : (k : ℕ) × (suc j ≤ k) × (begins (under name k) y ≡ true) → (k : ℕ) × (j ≤ k) × (begins (under name k) y ≡ true)
    at (k, l, b) = (k, omega arith, b)

pub more_rises : (name : List ℕ) (j : ℕ) (ps : List (List ℕ)) (ended : Bool) (e : Eof) (t : Task) (kids rest : Forest)
    → Good (under name j) ps ended e t kids → NamedFrom name (suc j) (names rest) → Rises (names rest) → Rises (names (Node t kids rest))
more_rises name j ps ended e t kids rest g h r =
    rises_join (t.name ∷ names kids) (names rest) g.rises r
    (λ x y i k. at x y (g.named x i) (h y k))
  where
    at : (x y : List ℕ) → begins (under name j) x ≡ true → (k : ℕ) × (suc j ≤ k) × (begins (under name k) y ≡ true) → path_lt x y ≡ true
    at x y a (k, l, b) = apart_lt (under name j) (under name k) x y (under_lt name j k (omega arith)) (under_apart name j k (omega arith)) a b

-- a task with such children
pub alone_named : (t : Task) (kids : Forest) → NamedFrom t.name 0 (names kids) → (y : List ℕ) → In y (t.name ∷ names kids) → begins t.name y ≡ true
alone_named t kids h y i = ⊎_elim (λ e. rw e (begins-refl t.name)) (λ a. named_below t.name 0 (names kids) h y a) i

pub alone_rises : (t : Task) (kids : Forest) → NamedFrom t.name 0 (names kids) → Rises (names kids) → Rises (t.name ∷ names kids)
alone_rises t kids h r = (λ y i. name_above t.name 0 (names kids) h y i, r)
