-- A source on top of a good root makes a tree that keeps the rules.
use Rattle.std.proofs.Common.{◌≡◌, ℕ, zero, suc, ◌+◌, Bool, true, false, not, List, [], ◌∷◌, ◌++◌, take, drop, refl, sym, ap, ◌∙◌, subst, inl, ⊎_elim, arith, append-nil}
use Rattle.vx_path.specs.Lists.{In}
use Rattle.vx_path.specs.Path.{path_le, Eof, eof_path, next}
use Rattle.vx_path.proofs.Lists.{in_left}
use Rattle.vx_path.proofs.Path.{path_le-refl, path_le-trans, under_le, apart_lt}
use Rattle.vx_tasks.specs.Task.{takes_in, Task, Forest, given, taken, holds, shuts_in, refuses_in, appends_in, holds_after, is_still, any_kind}
use Rattle.vx_tasks.specs.Task.Forest.{Bare, Node}
use Rattle.vx_tasks.specs.Run.{outside}
use Rattle.vx_tasks.specs.Rules.{Fits, AtLeast, Covers, Ordered, KeepsRules, KeepsOrder, Rises, names}
use Rattle.vx_tasks.specs.Nodes.{source_script, source_task, batch_paths, machine}
use Rattle.vx_tasks.specs.Good.{Good}
use Rattle.vx_tasks.proofs.Scripts.{given_rest, no_true, kind_some_time, all_whole}
use Rattle.vx_tasks.proofs.Fit.{Feeds, child_rules, child_order, no_append_keeps, no_append_own, no_join_apart}

-- What the source does.

gives_batches : (here : Eof) (n : ℕ) (fits : Bool) → given 0 (source_script here n fits) ≡ batch_paths here n
gives_batches here zero true = refl
gives_batches here zero false = refl
gives_batches here (suc n) fits = ap (λ y. eof_path here ∷ y) (gives_batches (next here) n fits)

closes_queue : (here : Eof) (n : ℕ) (fits : Bool) → shuts_in 0 (source_script here n fits) ≡ fits
closes_queue here zero true = refl
closes_queue here zero false = refl
closes_queue here (suc n) fits = closes_queue (next here) n fits

source_refuses : (here : Eof) (n : ℕ) (fits : Bool) → refuses_in (source_script here n fits) ≡ not fits
source_refuses here zero true = refl
source_refuses here zero false = refl
source_refuses here (suc n) fits = source_refuses (next here) n fits

source_moves : (here : Eof) (n : ℕ) (fits : Bool) → any_kind is_still (source_script here n fits) ≡ false
source_moves here zero true = refl
source_moves here zero false = refl
source_moves here (suc n) fits = source_moves (next here) n fits

source_mute : (here : Eof) (n : ℕ) (fits : Bool) → appends_in (source_script here n fits) ≡ []
source_mute here zero true = refl
source_mute here zero false = refl
source_mute here (suc n) fits = source_mute (next here) n fits

source_end : (h : List (List ℕ)) (here : Eof) (n : ℕ) → holds_after h (source_script here n true) ≡ []
source_end h here zero = refl
source_end h here (suc n) = source_end (eof_path (next here) ∷ []) (next here) n

takes_none : (here : Eof) (n : ℕ) (fits : Bool) → takes_in (source_script here n fits) ≡ 0
takes_none here zero true = refl
takes_none here zero false = refl
takes_none here (suc n) fits = omega (arith, takes_none (next here) n fits)

eof_le_next : (e : Eof) → path_le (eof_path e) (eof_path (next e)) ≡ true
eof_le_next e = under_le e.stem e.last (e.last + 1) (omega arith)

batch_above : (here : Eof) (n : ℕ) (x : List ℕ) → In x (batch_paths here n) → path_le (eof_path here) x ≡ true
batch_above here zero x i = absurd i
batch_above here (suc n) x i = ⊎_elim (λ e. rw e (path_le-refl (eof_path here)))
    (λ h. path_le-trans (eof_path here) (eof_path (next here)) x (eof_le_next here) (batch_above (next here) n x h)) i

source_covers : (fits : Bool) (n : ℕ) (here : Eof) (k : ℕ) (h : List (List ℕ)) (x : List ℕ) → In (eof_path here) h
    → In x (given 0 (drop k (source_script here n fits))) → AtLeast (holds_after h (take k (source_script here n fits))) x
source_covers fits zero here k h x u i =
    let z : In x [] = rw (given_rest 0 (source_script here zero fits) k (gives_batches here zero fits)) at i in absurd z
source_covers fits (suc n) here zero h x u i =
    (eof_path here, u, batch_above here (suc n) x (let z : In x (batch_paths here (suc n)) = subst (λ y. In x y) (gives_batches here (suc n) fits) i in z))
source_covers fits (suc n) here (suc zero) h x u i =
    (eof_path here, inl refl, batch_above here (suc n) x (let z : In x (batch_paths here (suc n)) = subst (λ y. In x y) (gives_batches here (suc n) fits) i in z))
source_covers fits (suc n) here (suc (suc k)) h x u i = source_covers fits n (next here) k (eof_path (next here) ∷ []) x (inl refl) i

-- The source feeds the root.

root_fed : (here : Eof) (n : ℕ) (fits : Bool) (ceof : List ℕ) → Feeds false [] (source_task here n fits) 0 (batch_paths here n) fits ceof
root_fed here n fits ceof = record {
  items_are = gives_batches here n fits;
  closes_are = closes_queue here n fits;
  begun = refl;
  closed_first = λ k s g h. absurd (no_true (source_moves here n fits) (kind_some_time is_still (source_task here n fits) k s));
  shut_last = λ k h. source_shut k n here h;
  started_first = λ k h. cc;
  open_refuses = λ h g. source_refuses here n fits ∙ ap not (sym (closes_queue here n fits) ∙ g);
  open_moves = λ g. source_moves here n fits;
  unsent = λ k x i. at k x (source_covers fits n here k (eof_path here ∷ []) x (inl refl) i);
  unborn = λ k h. cc;
}
  where
    source_shut : (k n : ℕ) (here : Eof) → shuts_in 0 (take k (source_script here n fits)) ≡ true → given 0 (drop k (source_script here n fits)) ≡ []
    source_shut k zero here h = given_rest 0 (source_script here zero fits) k (gives_batches here zero fits)
    source_shut zero (suc n) here h = cc
    source_shut (suc zero) (suc n) here h = cc
    source_shut (suc (suc k)) (suc n) here h = source_shut k n (next here) h

    at : (k : ℕ) (x : List ℕ) → AtLeast (holds (source_task here n fits) k) x → Covers [] (source_task here n fits) k x
    at k x (y, i, h) = (y, in_left y (holds (source_task here n fits) k) (drop (taken (source_task here n fits) k) []) i, h)

source_fits : (here : Eof) (n : ℕ) (fits : Bool) → Fits false outside 0 (source_task here n fits)
source_fits here n fits = record {
  begun = refl;
  enough = omega (arith, takes_none here n fits);
  shut_last = λ k h. given_rest 0 outside.script k refl;
  reads_all = λ r. omega arith;
  reads_first = λ k h. omega arith;
  closed_first = λ k s g h. absurd (no_true refl (kind_some_time is_still outside k s));
  started_first = λ k h. cc;
  open_refuses = λ c h. cc;
  open_moves = λ h. cc;
  at_end = λ c r. ap (holds_after (eof_path here ∷ [])) (all_whole (source_task here n fits)) ∙ at fits (sym (source_refuses here n fits) ∙ r);
}
  where
    at : (b : Bool) → not b ≡ false → holds_after (eof_path here ∷ []) (source_script here n b) ≡ []
    at true h = source_end (eof_path here ∷ []) here n
    at false h = cc

source_ordered : (here : Eof) (n : ℕ) (fits : Bool) (kids : Forest) → Ordered [] outside 0 (source_task here n fits) kids
source_ordered here n fits kids = record {
  own = λ k x i. no_append_own (source_task here n fits) [] (source_mute here n fits) k x i;
  unsent = λ k x i. let z : In x [] = rw (given_rest 0 outside.script k refl) at i in absurd z;
  unborn = λ k h. cc;
  inside = λ x i. ([], inl refl, refl);
}

-- The whole.

pub machine_rules : (here : Eof) (n : ℕ) (fits : Bool) (e : Eof) (root : Task) (kids : Forest) → Good (1 ∷ []) (batch_paths here n) fits e root kids
    → KeepsRules (machine here n fits root kids)
machine_rules here n fits e root kids g = (
  source_fits here n fits,
  no_append_keeps (source_task here n fits) (source_mute here n fits),
  no_join_apart (source_task here n fits) (Node root kids Bare) (source_moves here n fits),
  child_rules false [] (source_task here n fits) 0 (1 ∷ []) (batch_paths here n) fits e root kids (root_fed here n fits (eof_path e)) g Bare tt,
  tt,
)

pub machine_order : (here : Eof) (n : ℕ) (fits : Bool) (e : Eof) (root : Task) (kids : Forest) → Good (1 ∷ []) (batch_paths here n) fits e root kids
    → KeepsOrder (machine here n fits root kids)
machine_order here n fits e root kids g = (
  source_ordered here n fits (Node root kids Bare),
  child_order false [] (source_task here n fits) 0 (1 ∷ []) (batch_paths here n) fits e root kids (root_fed here n fits (eof_path e)) g Bare tt,
  tt,
)

pub machine_named : (here : Eof) (n : ℕ) (fits : Bool) (e : Eof) (root : Task) (kids : Forest) → Good (1 ∷ []) (batch_paths here n) fits e root kids
    → Rises (names (machine here n fits root kids))
machine_named here n fits e root kids g =
    subst (λ y. Rises ((0 ∷ []) ∷ root.name ∷ y)) (sym (append-nil (names kids ++ []) ∙ append-nil (names kids)))
    (λ y i. apart_lt (0 ∷ []) (1 ∷ []) (0 ∷ []) y refl refl refl (g.named y i), g.rises)
