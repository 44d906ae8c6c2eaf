-- A source with named batches on top of a good root makes a tree that keeps the rules.
use Rattle.std.proofs.Common.{◌≡◌, ℕ, zero, suc, ◌+◌, ◌<◌, ◌≤◌, nat_eq, Bool, true, false, not, List, [], ◌∷◌, ◌++◌, length, take, drop, refl, sym, ap, ◌∙◌, subst, inl, inr, ⊎_elim, arith, append-nil}
use Rattle.std.proofs.lemmas.Bool.Decides.{nat_tests}
use Rattle.vx_path.specs.Lists.{In}
use Rattle.vx_path.specs.Path.{path_le, path_lt, meets, Scattered, Before, Eof, eof_path, next, inside, under, raised, root_eof}
use Rattle.vx_path.proofs.Lists.{in_left}
use Rattle.vx_path.proofs.Path.{path_le-refl, path_le-trans, under_le, under_apart, apart_lt}
use Rattle.vx_tasks.specs.Task.{takes_in, Action, Task, Forest, given, taken, holds, shuts_in, refuses_in, appends_in, holds_after, is_still, any_kind}
use Rattle.vx_tasks.specs.Task.Prompt.{Batch}
use Rattle.vx_tasks.specs.Task.Kind.{Free}
use Rattle.vx_tasks.specs.Task.Forest.{Bare, Node}
use Rattle.vx_tasks.specs.Run.{outside}
use Rattle.vx_tasks.specs.Rules.{Fits, AtLeast, Covers, Ordered, KeepsRules, KeepsOrder, Rises, names}
use Rattle.vx_tasks.specs.Nodes.{acts, puts, source_script, batch_paths}
use Rattle.vx_tasks.specs.Good.{Good}
use Rattle.vx_tasks.proofs.Scripts.{given_rest, no_true, kind_some_time, all_whole}
use Rattle.vx_tasks.proofs.Fit.{Feeds, child_rules, child_order, no_append_keeps, no_append_own, no_join_apart}
use Rattle.vx_named_tasks.specs.Names.{Names, onward, handed, next_name, later_names, held_names, CanName, paths_from, named_script, named_source, named_machine, column_names}
use Rattle.vx_named_tasks.specs.Statements.{NamedSourcesKeep, OnwardIsSource, RootBegins, ColumnBegins}

-- What the source does.

gives_batches : (ns : Names) (n : ℕ) (fits : Bool) → given 0 (named_script ns n fits) ≡ paths_from ns n
gives_batches ns zero true = refl
gives_batches ns zero false = refl
gives_batches ns (suc n) fits = ap (λ y. next_name ns ∷ y) (gives_batches (later_names ns) n fits)

closes_queue : (ns : Names) (n : ℕ) (fits : Bool) → shuts_in 0 (named_script ns n fits) ≡ fits
closes_queue ns zero true = refl
closes_queue ns zero false = refl
closes_queue ns (suc n) fits = closes_queue (later_names ns) n fits

source_refuses : (ns : Names) (n : ℕ) (fits : Bool) → refuses_in (named_script ns n fits) ≡ not fits
source_refuses ns zero true = refl
source_refuses ns zero false = refl
source_refuses ns (suc n) fits = source_refuses (later_names ns) n fits

source_moves : (ns : Names) (n : ℕ) (fits : Bool) → any_kind is_still (named_script ns n fits) ≡ false
source_moves ns zero true = refl
source_moves ns zero false = refl
source_moves ns (suc n) fits = source_moves (later_names ns) n fits

source_mute : (ns : Names) (n : ℕ) (fits : Bool) → appends_in (named_script ns n fits) ≡ []
source_mute ns zero true = refl
source_mute ns zero false = refl
source_mute ns (suc n) fits = source_mute (later_names ns) n fits

source_end : (h : List (List ℕ)) (ns : Names) (n : ℕ) → holds_after h (named_script ns n true) ≡ []
source_end h ns zero = refl
source_end h ns (suc n) = source_end (held_names (later_names ns)) (later_names ns) n

takes_none : (ns : Names) (n : ℕ) (fits : Bool) → takes_in (named_script ns n fits) ≡ 0
takes_none ns zero true = refl
takes_none ns zero false = refl
takes_none ns (suc n) fits = omega (arith, takes_none (later_names ns) n fits)

-- What it holds covers the paths that it is still to give.

can_later : (ns : Names) (n : ℕ) → CanName ns (suc n) → CanName (later_names ns) n
can_later (onward e) n h = tt
can_later (handed []) n h = absurd (omega (arith, h))
can_later (handed (p ∷ ps)) n h = omega (arith, h)

above : (here : Eof) (n : ℕ) (x : List ℕ) → In x (paths_from (onward here) n) → path_le (eof_path here) x ≡ true
above here zero x i = absurd i
above here (suc n) x i = ⊎_elim (λ e. rw e (path_le-refl (eof_path here)))
    (λ h. path_le-trans (eof_path here) (eof_path (next here)) x (under_le here.stem here.last (here.last + 1) (omega arith)) (above (next here) n x h)) i

among : (ps : List (List ℕ)) (n : ℕ) (x : List ℕ) → n ≤ length ps → In x (paths_from (handed ps) n) → In x ps
among ps zero x h i = absurd i
among [] (suc n) x h i = absurd (omega (arith, h))
among (p ∷ ps) (suc n) x h i = ⊎_elim (λ e. inl e) (λ j. inr (among ps n x (omega (arith, h)) j)) i

covered : (ns : Names) (n : ℕ) (x : List ℕ) → CanName ns n → In x (paths_from ns n) → AtLeast (held_names ns) x
covered (onward e) n x h i = (eof_path e, inl refl, above e n x i)
covered (handed ps) n x h i = (x, among ps n x h i, path_le-refl x)

first_covered : (ns : Names) (n : ℕ) (x : List ℕ) → CanName ns (suc n) → In x (paths_from ns (suc n)) → AtLeast (next_name ns ∷ held_names (later_names ns)) x
first_covered ns n x h i = ⊎_elim
    (λ e. (next_name ns, inl refl, rw e (path_le-refl (next_name ns))))
    (λ j. let r : AtLeast (held_names (later_names ns)) x = covered (later_names ns) n x (can_later ns n h) j in (r.0, inr r.1, r.2)) i

source_covers : (fits : Bool) (n : ℕ) (ns : Names) (k : ℕ) (h : List (List ℕ)) (x : List ℕ) → CanName ns n → ((y : List ℕ) → In y (paths_from ns n) → AtLeast h y)
    → In x (given 0 (drop k (named_script ns n fits))) → AtLeast (holds_after h (take k (named_script ns n fits))) x
source_covers fits zero ns k h x c u i =
    let z : In x [] = rw (given_rest 0 (named_script ns zero fits) k (gives_batches ns zero fits)) at i in absurd z
source_covers fits (suc n) ns zero h x c u i = u x (subst (λ y. In x y) (gives_batches ns (suc n) fits) i)
source_covers fits (suc n) ns (suc zero) h x c u i = first_covered ns n x c (subst (λ y. In x y) (gives_batches ns (suc n) fits) i)
source_covers fits (suc n) ns (suc (suc k)) h x c u i =
    source_covers fits n (later_names ns) k (held_names (later_names ns)) x (can_later ns n c) (λ y j. covered (later_names ns) n y (can_later ns n c) j) i

-- The source feeds the root.

root_fed : (ns : Names) (n : ℕ) (fits : Bool) (ceof : List ℕ) → CanName ns n → Feeds false [] (named_source ns n fits) 0 (paths_from ns n) fits ceof
root_fed ns n fits ceof c = record {
  items_are = gives_batches ns n fits;
  closes_are = closes_queue ns n fits;
  begun = refl;
  closed_first = λ k s g h. absurd (no_true (source_moves ns n fits) (kind_some_time is_still (named_source ns n fits) k s));
  shut_last = λ k h. source_shut k n ns h;
  started_first = λ k h. cc;
  open_refuses = λ h g. source_refuses ns n fits ∙ ap not (sym (closes_queue ns n fits) ∙ g);
  open_moves = λ g. source_moves ns n fits;
  unsent = λ k x i. at k x (source_covers fits n ns k (held_names ns) x c (λ y j. covered ns n y c j) i);
  unborn = λ k h. cc;
}
  where
    source_shut : (k n : ℕ) (ns : Names) → shuts_in 0 (take k (named_script ns n fits)) ≡ true → given 0 (drop k (named_script ns n fits)) ≡ []
    source_shut k zero ns h = given_rest 0 (named_script ns zero fits) k (gives_batches ns zero fits)
    source_shut zero (suc n) ns h = cc
    source_shut (suc zero) (suc n) ns h = cc
    source_shut (suc (suc k)) (suc n) ns h = source_shut k n (later_names ns) h

    at : (k : ℕ) (x : List ℕ) → AtLeast (holds (named_source ns n fits) k) x → Covers [] (named_source ns n fits) k x
    at k x (y, i, h) = (y, in_left y (holds (named_source ns n fits) k) (drop (taken (named_source ns n fits) k) []) i, h)

source_fits : (ns : Names) (n : ℕ) (fits : Bool) → Fits false outside 0 (named_source ns n fits)
source_fits ns n fits = record {
  begun = refl;
  enough = omega (arith, takes_none ns n fits);
  shut_last = λ k h. given_rest 0 outside.script k refl;
  reads_all = λ r. omega arith;
  reads_first = λ k h. omega arith;
  closed_first = λ k s g h. absurd (no_true refl (kind_some_time is_still outside k s));
  started_first = λ k h. cc;
  open_refuses = λ c h. cc;
  open_moves = λ h. cc;
  at_end = λ c r. ap (holds_after (held_names ns)) (all_whole (named_source ns n fits)) ∙ at fits (sym (source_refuses ns n fits) ∙ r);
}
  where
    at : (b : Bool) → not b ≡ false → holds_after (held_names ns) (named_script ns n b) ≡ []
    at true h = source_end (held_names ns) ns n
    at false h = cc

source_ordered : (ns : Names) (n : ℕ) (fits : Bool) (kids : Forest) → Ordered [] outside 0 (named_source ns n fits) kids
source_ordered ns n fits kids = record {
  own = λ k x i. no_append_own (named_source ns n fits) [] (source_mute ns n fits) k x i;
  unsent = λ k x i. let z : In x [] = rw (given_rest 0 outside.script k refl) at i in absurd z;
  unborn = λ k h. cc;
  inside = λ x i. ([], inl refl, refl);
}

-- The whole.

rules : (ns : Names) (n : ℕ) (fits : Bool) (e : Eof) (root : Task) (kids : Forest) → CanName ns n → Good (1 ∷ []) (paths_from ns n) fits e root kids
    → KeepsRules (named_machine ns n fits root kids)
rules ns n fits e root kids c g = (
  source_fits ns n fits,
  no_append_keeps (named_source ns n fits) (source_mute ns n fits),
  no_join_apart (named_source ns n fits) (Node root kids Bare) (source_moves ns n fits),
  child_rules false [] (named_source ns n fits) 0 (1 ∷ []) (paths_from ns n) fits e root kids (root_fed ns n fits (eof_path e) c) g Bare tt,
  tt,
)

order : (ns : Names) (n : ℕ) (fits : Bool) (e : Eof) (root : Task) (kids : Forest) → CanName ns n → Good (1 ∷ []) (paths_from ns n) fits e root kids
    → KeepsOrder (named_machine ns n fits root kids)
order ns n fits e root kids c g = (
  source_ordered ns n fits (Node root kids Bare),
  child_order false [] (named_source ns n fits) 0 (1 ∷ []) (paths_from ns n) fits e root kids (root_fed ns n fits (eof_path e) c) g Bare tt,
  tt,
)

named : (ns : Names) (n : ℕ) (fits : Bool) (e : Eof) (root : Task) (kids : Forest) → Good (1 ∷ []) (paths_from ns n) fits e root kids
    → Rises (names (named_machine ns n fits root kids))
named ns n fits e root kids g =
    subst (λ y. Rises ((0 ∷ []) ∷ root.name ∷ y)) (sym (append-nil (names kids ++ []) ∙ append-nil (names kids)))
    (λ y i. apart_lt (0 ∷ []) (1 ∷ []) (0 ∷ []) y refl refl refl (g.named y i), g.rises)

pub named_sources_keep : NamedSourcesKeep
named_sources_keep ns n fits e root kids c g = (rules ns n fits e root kids c g, order ns n fits e root kids c g, named ns n fits e root kids g)

-- ---- a pointer

onward_paths : (here : Eof) (n : ℕ) → paths_from (onward here) n ≡ batch_paths here n
onward_paths here zero = refl
onward_paths here (suc n) = ap (λ z. eof_path here ∷ z) (onward_paths (next here) n)

onward_script : (here : Eof) (n : ℕ) (fits : Bool) → named_script (onward here) n fits ≡ source_script here n fits
onward_script here zero true = refl
onward_script here zero false = refl
onward_script here (suc n) fits =
    ap (λ z. acts (Free Batch) (eof_path here ∷ eof_path (next here) ∷ []) ∷ puts 0 (eof_path here) (eof_path (next here) ∷ []) ∷ z) (onward_script (next here) n fits)

abbrev source_with : Eof → List Action → Task
source_with here xs = record { name = 0 ∷ []; script = xs; first = 0 ∷ []; held = eof_path here ∷ []; spare = []; eof = [] }

pub onward_is_source : OnwardIsSource
onward_is_source here n fits root kids = (onward_paths here n, ap (λ z. Node (source_with here z) (Node root kids Bare) Bare) (onward_script here n fits))

-- ---- the root

root_path : (i n : ℕ) (p : List ℕ) → In p (paths_from (onward (record { stem = 0 ∷ []; last = i })) n) → (j : ℕ) × (i ≤ j) × (p ≡ under (0 ∷ []) j)
root_path i zero p h = absurd h
root_path i (suc n) p h = ⊎_elim (λ e. (i, omega arith, e))
    (λ t. let r : (j : ℕ) × (i + 1 ≤ j) × (p ≡ under (0 ∷ []) j) = root_path (i + 1) n p t in (r.0, (let l : i + 1 ≤ r.0 = r.1 in omega (arith, l)), r.2)) h

root_scattered : (i n : ℕ) → Scattered (paths_from (onward (record { stem = 0 ∷ []; last = i })) n)
root_scattered i zero = tt
root_scattered i (suc n) = (
  λ q h. let r : (j : ℕ) × (i + 1 ≤ j) × (q ≡ under (0 ∷ []) j) = root_path (i + 1) n q h in
      let l : i + 1 ≤ r.0 = r.1 in
      subst (λ z. meets (0 ∷ i ∷ []) z ≡ false) (sym r.2) (under_apart (0 ∷ []) i r.0 (omega (arith, l))),
  root_scattered (i + 1) n,
)

below_root : (j n : ℕ) → (path_lt (0 ∷ j ∷ []) ((1 + n) ∷ []) ≡ true) × (meets (0 ∷ j ∷ []) ((1 + n) ∷ []) ≡ false)
below_root j n = (grind (arith, nat_tests), grind (arith, nat_tests))

pub root_begins : RootBegins
root_begins n = record {
  can = tt;
  apart = root_scattered 0 n;
  before = λ p h k. let r : (j : ℕ) × (0 ≤ j) × (p ≡ under (0 ∷ []) j) = root_path 0 n p h in
      subst (λ z. (path_lt z (raised root_eof k) ≡ true) × (meets z (raised root_eof k) ≡ false)) (sym r.2) (below_root r.0 k);
}

-- ---- a column

column_path : (c i n : ℕ) (p : List ℕ) → In p (column_names c i n) → (j : ℕ) × (i ≤ j) × (p ≡ 0 ∷ j ∷ c ∷ [])
column_path c i zero p h = absurd h
column_path c i (suc n) p h = ⊎_elim (λ e. (i, omega arith, e))
    (λ t. let r : (j : ℕ) × (suc i ≤ j) × (p ≡ 0 ∷ j ∷ c ∷ []) = column_path c (suc i) n p t in (r.0, (let l : suc i ≤ r.0 = r.1 in omega (arith, l)), r.2)) h

other_batch : (c i j : ℕ) → i < j → meets (0 ∷ i ∷ c ∷ []) (0 ∷ j ∷ c ∷ []) ≡ false
other_batch c i j l =
    let a : nat_eq i j ≡ false = grind (arith, nat_tests) in
    let b : nat_eq j i ≡ false = grind (arith, nat_tests) in
    rw (a, b) refl

column_scattered : (c i n : ℕ) → Scattered (column_names c i n)
column_scattered c i zero = tt
column_scattered c i (suc n) = (
  λ q h. let r : (j : ℕ) × (suc i ≤ j) × (q ≡ 0 ∷ j ∷ c ∷ []) = column_path c (suc i) n q h in
      let l : suc i ≤ r.0 = r.1 in
      subst (λ z. meets (0 ∷ i ∷ c ∷ []) z ≡ false) (sym r.2) (other_batch c i r.0 (omega (arith, l))),
  column_scattered c (suc i) n,
)

column_paths : (c i n : ℕ) → paths_from (handed (column_names c i n)) n ≡ column_names c i n
column_paths c i zero = refl
column_paths c i (suc n) = ap (λ z. (0 ∷ i ∷ c ∷ []) ∷ z) (column_paths c (suc i) n)

column_count : (c i n : ℕ) → length (column_names c i n) ≡ n
column_count c i zero = refl
column_count c i (suc n) = ap suc (column_count c (suc i) n)

below_column : (c j k : ℕ) → (path_lt (0 ∷ j ∷ c ∷ []) ((1 + c) ∷ (0 + k) ∷ []) ≡ true) × (meets (0 ∷ j ∷ c ∷ []) ((1 + c) ∷ (0 + k) ∷ []) ≡ false)
below_column c j k = (grind (arith, nat_tests), grind (arith, nat_tests))

pub column_begins : ColumnBegins
column_begins c n = record {
  can = omega (arith, column_count c 0 n);
  apart = subst (λ z. Scattered z) (sym (column_paths c 0 n)) (column_scattered c 0 n);
  before = subst (λ z. Before z (inside (record { stem = []; last = 1 + c }))) (sym (column_paths c 0 n))
      (λ p h k. let r : (j : ℕ) × (0 ≤ j) × (p ≡ 0 ∷ j ∷ c ∷ []) = column_path c 0 n p h in
      subst (λ z. (path_lt z (raised (inside (record { stem = []; last = 1 + c })) k) ≡ true) × (meets z (raised (inside (record { stem = []; last = 1 + c })) k) ≡ false)) (sym r.2) (below_column c r.0 k));
}
