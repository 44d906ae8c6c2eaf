-- The nodes without children, Flat and Struct without columns, keep the rules.
use Rattle.std.proofs.Common.{drop, take, ◌≡◌, ℕ, zero, suc, ◌≤◌, Bool, true, false, List, [], ◌∷◌, ◌++◌, length, refl, sym, ap, ◌∙◌, subst, inl, ⊎_elim, arith}
use Rattle.vx_path.specs.Lists.{In}
use Rattle.vx_path.specs.Path.{path_le, begins, Eof, eof_path, Region}
use Rattle.vx_path.proofs.Lists.{in_left}
use Rattle.vx_path.proofs.Path.{path_le-refl, begins-refl}
use Rattle.vx_tasks.specs.Task.{Task, Action, Kind, Forest, taken, holds, refuses_in, takes_in, appends_in, holds_after, holds_in, is_still, is_late, next_kind, any_kind, ever_held}
use Rattle.vx_tasks.specs.Task as task
use Rattle.vx_tasks.specs.Task.Kind.{Free, Take, TakeEnd, Put, Append, Join}
use Rattle.vx_tasks.specs.Task.Forest.{Bare, Node}
use Rattle.vx_tasks.specs.Rules.{Keeps, Covers}
use Rattle.vx_tasks.specs.Nodes.{acts, flat_task, rows_script, rows_task}
use Rattle.vx_tasks.specs.Good.{Reads, Good}
use Rattle.vx_tasks.proofs.Scripts.{no_true, drop_nil, kind_some_time, all_whole}
use Rattle.vx_tasks.proofs.Fit.{body_reads, no_append_keeps, no_append_own}

first_kind : List Action → Kind
first_kind [] = Join
first_kind (a ∷ todo) = a.kind

-- a task that appends nothing
pub mute_reads : (ps : List (List ℕ)) (ended : Bool) (t : Task) → appends_in t.script ≡ [] → takes_in t.script ≤ length ps
    → ((n : ℕ) → next_kind is_late (task.next t n) ≡ true → length ps ≤ taken t n)
    → (refuses_in t.script ≡ false → length ps ≤ takes_in t.script)
    → (ended ≡ true → refuses_in t.script ≡ false → holds t (length t.script) ≡ []) → Reads ps ended t
mute_reads ps ended t a e s r h = record { reads_all = r; enough = e; reads_first = s; at_end = h; own = no_append_own t ps a }

-- a task that never comes behind its last item
pub never_late : (m : ℕ) (t : Task) → any_kind is_late t.script ≡ false → (n : ℕ) → next_kind is_late (task.next t n) ≡ true → m ≤ taken t n
never_late m t h n k = absurd (no_true h (kind_some_time is_late t n k))

-- a task without children
leaf : (name : List ℕ) (ps : List (List ℕ)) (ended : Bool) (e : Eof) (t : Task) → t.name ≡ name → t.eof ≡ eof_path e → Reads ps ended t → Keeps t
    → ((x : List ℕ) → In x (ever_held t) → Region ps e x) → Good name ps ended e t Bare
leaf name ps ended e t n f reads keeps region = record {
  eof_is = f;
  reads = reads;
  keeps = keeps;
  apart = λ n a todo w k m i. tt;
  rules = tt;
  order = tt;
  region = (region, tt, tt);
  named = λ y i. ⊎_elim (λ z. subst (λ x. begins name x ≡ true) (sym (z ∙ n)) (begins-refl name)) (λ z. absurd z) i;
  rises = (λ y i. absurd i, tt);
}

-- Flat with its one chunk, to the end.
module _ (name : List ℕ) (e : Eof) (p : List ℕ) where
  whole : Task
  whole = flat_task name e false (p ∷ []) true

  stream_covers : (hold : List (List ℕ)) (rest : List (List ℕ)) (x : List ℕ) → In x (p ∷ []) → In p hold → (y : List ℕ) × In y (hold ++ rest) × (path_le y x ≡ true)
  stream_covers hold rest x i h = (p, in_left p hold rest h, ⊎_elim (λ z. rw z (path_le-refl p)) (λ z. absurd z) i)

  whole_own : (n : ℕ) (x : List ℕ) → In x (appends_in (task.next whole n)) → Covers (p ∷ []) whole n x
  unfolding whole
  whole_own zero x i = stream_covers (p ∷ []) [] x i (inl refl)
  whole_own (suc zero) x i = stream_covers (p ∷ []) [] x i (inl refl)
  whole_own (suc (suc zero)) x i = stream_covers (p ∷ []) [] x i (inl refl)
  whole_own (suc (suc (suc n))) x i = let z : In x [] = rw (drop_nil {A = Action} n) at i in absurd z

  whole_keeps : Keeps whole
  unfolding whole first_kind
  whole_keeps zero q a todo w k = let h : Take ≡ Append q = ap (λ l. first_kind l) w ∙ k in cc
  whole_keeps (suc zero) q a todo w k = let h : TakeEnd ≡ Append q = ap (λ l. first_kind l) w ∙ k in cc
  whole_keeps (suc (suc zero)) q a todo w k = let h : Append p ≡ Append q = ap (λ l. first_kind l) w ∙ k in let z : p ≡ q = cc in ap (λ y. y ∷ []) z
  whole_keeps (suc (suc (suc n))) q a todo w k = let z : [] ≡ a ∷ todo = sym (drop_nil n) ∙ w in cc

  in_ones : (x : List ℕ) → In x (p ∷ p ∷ []) → Region (p ∷ []) e x
  in_ones x i = ⊎_elim (λ z. inl (p, inl refl, rw z (begins-refl p)))
      (λ i. ⊎_elim (λ z. inl (p, inl refl, rw z (begins-refl p))) (λ z. absurd z) i) i

  whole_good : Good name (p ∷ []) true e whole Bare
  unfolding whole
  whole_good = leaf name (p ∷ []) true e whole refl refl
      (record {
        reads_all = λ r. omega arith;
        enough = omega arith;
        reads_first = λ n h. body_reads whole (acts Take (p ∷ []) ∷ []) (acts TakeEnd (p ∷ []) ∷ acts (Append p) [] ∷ []) 1 n refl refl (omega arith) h;
        at_end = λ r h. refl;
        own = whole_own;
      })
      whole_keeps in_ones

-- Flat, whatever comes.
pub flat_good : (name : List ℕ) (e : Eof) (bad : Bool) (ps : List (List ℕ)) (ended : Bool) → Good name ps ended e (flat_task name e bad ps ended) Bare
unfolding whole
flat_good name e bad [] true = leaf name [] true e (flat_task name e bad [] true) refl refl
    (mute_reads [] true (flat_task name e bad [] true) refl (omega arith) (λ n h. omega arith) (λ r. omega arith) (λ r h. refl)) (no_append_keeps (flat_task name e bad [] true) refl) (λ x i. absurd i)
flat_good name e bad [] false = leaf name [] false e (flat_task name e bad [] false) refl refl
    (mute_reads [] false (flat_task name e bad [] false) refl (omega arith) (λ n h. omega arith) (λ r. omega arith) (λ r h. refl)) (no_append_keeps (flat_task name e bad [] false) refl) (λ x i. absurd i)
flat_good name e true (p ∷ ps) ended = leaf name (p ∷ ps) ended e (flat_task name e true (p ∷ ps) ended) refl refl
    (mute_reads (p ∷ ps) ended (flat_task name e true (p ∷ ps) ended) refl (omega arith) (never_late (length (p ∷ ps)) (flat_task name e true (p ∷ ps) ended) refl) (λ r. cc) (λ r h. cc))
    (no_append_keeps (flat_task name e true (p ∷ ps) ended) refl) (λ x i. absurd i)
flat_good name e false (p ∷ []) true = whole_good name e p
flat_good name e false (p ∷ []) false = leaf name (p ∷ []) false e (flat_task name e false (p ∷ []) false) refl refl
    (mute_reads (p ∷ []) false (flat_task name e false (p ∷ []) false) refl (omega arith) (never_late 1 (flat_task name e false (p ∷ []) false) refl) (λ r. omega arith) (λ r h. cc))
    (no_append_keeps (flat_task name e false (p ∷ []) false) refl) (λ x i. in_ones name e p x (⊎_elim (λ z. inl z) (λ z. absurd z) i))
flat_good name e false (p ∷ q ∷ ps) ended = leaf name (p ∷ q ∷ ps) ended e (flat_task name e false (p ∷ q ∷ ps) ended) refl refl
    (mute_reads (p ∷ q ∷ ps) ended (flat_task name e false (p ∷ q ∷ ps) ended) refl (omega arith) (never_late (length (p ∷ q ∷ ps)) (flat_task name e false (p ∷ q ∷ ps) ended) refl) (λ r. cc) (λ r h. cc))
    (no_append_keeps (flat_task name e false (p ∷ q ∷ ps) ended) refl)
    (λ x i. ⊎_elim (λ z. inl (p, inl refl, rw z (begins-refl p))) (λ z. absurd z) i)

-- Struct without columns.

rows_mute : (ps : List (List ℕ)) (ended : Bool) → appends_in (rows_script ps ended) ≡ []
rows_mute [] true = refl
rows_mute [] false = refl
rows_mute (p ∷ ps) ended = rows_mute ps ended

rows_first : (ps : List (List ℕ)) (ended : Bool) (n : ℕ) → next_kind is_late (drop n (rows_script ps ended)) ≡ true → length ps ≤ takes_in (take n (rows_script ps ended))
rows_first [] ended n h = omega arith
rows_first (p ∷ ps) ended zero h = cc
rows_first (p ∷ ps) ended (suc n) h = omega (arith, rows_first ps ended n h)

rows_takes : (ps : List (List ℕ)) (ended : Bool) → takes_in (rows_script ps ended) ≡ length ps
rows_takes [] true = refl
rows_takes [] false = refl
rows_takes (p ∷ ps) ended = omega (arith, rows_takes ps ended)

rows_end : (h : List (List ℕ)) (ps : List (List ℕ)) (ended : Bool) → h ≡ [] → holds_after h (rows_script ps ended) ≡ []
rows_end h [] true z = refl
rows_end h [] false z = z
rows_end h (p ∷ ps) ended z = rows_end [] ps ended refl

rows_none : (ps : List (List ℕ)) (ended : Bool) → holds_in (rows_script ps ended) ≡ []
rows_none [] true = refl
rows_none [] false = refl
rows_none (p ∷ ps) ended = rows_none ps ended

pub rows_good : (name : List ℕ) (e : Eof) (ps : List (List ℕ)) (ended : Bool) → Good name ps ended e (rows_task name e ps ended) Bare
rows_good name e ps ended = leaf name ps ended e (rows_task name e ps ended) refl refl
    (mute_reads ps ended (rows_task name e ps ended) (rows_mute ps ended) (omega (arith, rows_takes ps ended)) (rows_first ps ended)
    (λ r. omega (arith, rows_takes ps ended))
    (λ r h. ap (holds_after []) (all_whole (rows_task name e ps ended)) ∙ rows_end [] ps ended refl))
    (no_append_keeps (rows_task name e ps ended) (rows_mute ps ended))
    (λ x i. let z : In x [] = rw (rows_none ps ended) at i in absurd z)
