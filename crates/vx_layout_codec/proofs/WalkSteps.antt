-- Steps of the walks over the nodes of a layout.
use Rattle.std.proofs.Common.{◌≡◌, ℕ, zero, suc, ◌+◌, ◌<◌, List, [], ◌∷◌, ◌++◌, length, drop, Option, Some, None, Result, Ok, Err, refl, sym, ◌∙◌, ◌≤◌, ap, arith}
use Rattle.std.proofs.lemmas.List.{map_push, take_more, drop_all, append-nil}
use Rattle.vx_layout_spec.specs.Refusal.{Refusal}
use Rattle.vx_layout_spec.specs.LayoutTree.{LayoutData, layout, lays_of, layout_kind, kind_id, children_of}
use Rattle.vx_layout_bytes.specs.Node.{Node, Nodes, node, no_nodes, first, nodes_of}
use Rattle.vx_layout_bytes.proofs.Nodes.{raw_is}
use Rattle.vx_layout_tree.specs.Children.{answered, child_in}
use Rattle.vx_layout_tree.specs.LayDepth.{depth, depths}
use Rattle.vx_layout_tree.specs.Views.{Fails}
use Rattle.vx_layout_tree.proofs.KidSteps.{fails_by}
use Rattle.vx_layout_tree.specs.declared.error.LayoutError.{LayoutError}
use Rattle.vx_layout_codec_spec.specs.Permitted.{Checked, and_checked, refusal_in, listed, permitted, all_permitted, built, all_built}
use Rattle.vx_layout_codec_spec.specs.NodeOf.{own_in, node_in, nodes_in}
use Rattle.vx_layout_codec_spec.specs.Bytes.{unless_refused}
use Rattle.vx_layout_build.specs.ChildView.{child_lay}
use Rattle.vx_layout_build.specs.declared.child.LayoutChild.{LayoutChild}
use Rattle.vx_layout_codec_spec.proofs.ParsedBack.{lays_back}
use Rattle.vx_layout_walk_laws.proofs.Walks.{answered_same, kind_refused, kind_built, built_is, drop_built, drop_refused, depth_is, child_falls}
use Rattle.vx_layout_codec.specs.Views.{children_answer, kept}
use Rattle.vx_layout_codec.proofs.FitSteps.{below_more}

-- ---- a layout that can be built, and one that can't

permitted_from : (ids : List (List ℕ)) (x : LayoutData ℕ) → refusal_in (layout_kind x) ≡ None
    → permitted ids x ≡ and_checked (listed ids (kind_id (layout_kind x))) (all_permitted ids (lays_of (children_of x)))
permitted_from ids (layout k t n names ls) is = rw (is, lays_back ls) refl

skipped_from : (ids : List (List ℕ)) (x : LayoutData ℕ) (r : Refusal) → refusal_in (layout_kind x) ≡ Some r → permitted ids x ≡ Ok tt
skipped_from ids (layout k t n names ls) r is = rw is refl

pub permitted_is : (ids : List (List ℕ)) (x : LayoutData ℕ) → answered x ≡ Ok x
    → permitted ids x ≡ and_checked (listed ids (kind_id (layout_kind x))) (all_permitted ids (lays_of (children_of x)))
permitted_is ids x is = permitted_from ids x (kind_built x is)

-- ---- the children one by one

pub drop_permitted : (ids : List (List ℕ)) (ls : List (LayoutData ℕ)) (i : ℕ) (l : LayoutData ℕ) → i < length ls → children_answer (child_in ls i) ≡ Some l
    → all_permitted ids (lays_of (drop i ls)) ≡ and_checked (permitted ids l) (all_permitted ids (lays_of (drop (i + 1) ls)))
drop_permitted ids [] i l lt is = absurd (omega (arith, lt))
drop_permitted ids (x ∷ ls) zero l lt is = permitted_one ids x ls l (answered x) refl is
  where
    permitted_one : (ids : List (List ℕ)) (x : LayoutData ℕ) (ls : List (LayoutData ℕ)) (l : LayoutData ℕ) (a : Result (LayoutData ℕ) Refusal) → answered x ≡ a → children_answer a ≡ Some l
        → and_checked (permitted ids x) (all_permitted ids (lays_of ls)) ≡ and_checked (permitted ids l) (all_permitted ids (lays_of ls))
    permitted_one ids x ls l (Ok m) at is = let same : m ≡ l = cc is in rw (answered_same x m at, same) refl
    permitted_one ids x ls l (Err r) at is = cc is
drop_permitted ids (x ∷ ls) (suc i) l lt is = let e : suc i + 1 ≡ suc (i + 1) = omega arith in rw e (drop_permitted ids ls i l (omega (arith, lt)) is)

pub drop_skipped : (ids : List (List ℕ)) (ls : List (LayoutData ℕ)) (i : ℕ) → i < length ls → children_answer (child_in ls i) ≡ None
    → all_permitted ids (lays_of (drop i ls)) ≡ all_permitted ids (lays_of (drop (i + 1) ls))
drop_skipped ids [] i lt is = absurd (omega (arith, lt))
drop_skipped ids (x ∷ ls) zero lt is = skipped_one ids x ls (answered x) refl is
  where
    skipped_one : (ids : List (List ℕ)) (x : LayoutData ℕ) (ls : List (LayoutData ℕ)) (a : Result (LayoutData ℕ) Refusal) → answered x ≡ a → children_answer a ≡ None
        → and_checked (permitted ids x) (all_permitted ids (lays_of ls)) ≡ all_permitted ids (lays_of ls)
    skipped_one ids x ls (Ok m) at is = cc is
    skipped_one ids x ls (Err r) at is = rw (skipped_from ids x r (kind_refused x r at)) refl
drop_skipped ids (x ∷ ls) (suc i) lt is = let e : suc i + 1 ≡ suc (i + 1) = omega arith in rw e (drop_skipped ids ls i (omega (arith, lt)) is)

pub drop_nodes : (ids : List (List ℕ)) (ls : List (LayoutData ℕ)) (i : ℕ) (l : LayoutData ℕ) → i < length ls → child_in ls i ≡ Ok l
    → nodes_in ids (lays_of (drop i ls)) ≡ first (node_in ids l) (nodes_in ids (lays_of (drop (i + 1) ls)))
drop_nodes ids [] i l lt is = absurd (omega (arith, lt))
drop_nodes ids (x ∷ ls) zero l lt is = rw (answered_same x l is) refl
drop_nodes ids (x ∷ ls) (suc i) l lt is = let e : suc i + 1 ≡ suc (i + 1) = omega arith in rw e (drop_nodes ids ls i l (omega (arith, lt)) is)

-- ---- nodes before others

abbrev pub onto : List Node → Nodes → Nodes
onto [] others = others
onto (n ∷ ns) others = first n (onto ns others)

pub onto_none : (ns : List Node) → onto ns no_nodes ≡ nodes_of ns
onto_none [] = refl
onto_none (n ∷ ns) = ap (λ r. first n r) (onto_none ns)

pub onto_push : (ns : List Node) (n : Node) (others : Nodes) → onto (ns ++ (n ∷ [])) others ≡ onto ns (first n others)
onto_push [] n others = refl
onto_push (m ∷ ns) n others = ap (λ r. first m r) (onto_push ns n others)

pub node_is : (ids : List (List ℕ)) (l : LayoutData ℕ) → node_in ids l ≡ node (own_in ids l) (nodes_in ids (lays_of (children_of l)))
node_is ids (layout k t n names ls) = rw (lays_back ls) refl

pub told_falls : (ls : List (LayoutData ℕ)) (i : ℕ) (l : LayoutData ℕ) → children_answer (child_in ls i) ≡ Some l → depth l < depths (lays_of ls)
told_falls ls i l is = falls_by ls i l (child_in ls i) refl is
  where
    falls_by : (ls : List (LayoutData ℕ)) (i : ℕ) (l : LayoutData ℕ) (a : Result (LayoutData ℕ) Refusal) → child_in ls i ≡ a → children_answer a ≡ Some l → depth l < depths (lays_of ls)
    falls_by ls i l (Ok m) at is = let same : m ≡ l = cc is in child_falls ls i l (rw (← same) at)
    falls_by ls i l (Err r) at is = cc is

-- ---- the walk over ids

pub own_fails : (ids : List (List ℕ)) (l : LayoutData ℕ) (id : List ℕ) (e : LayoutError) → answered l ≡ Ok l → id ≡ kind_id (layout_kind l) → Fails e (listed ids id) → Fails e (permitted ids l)
own_fails ids l id e b same h = fails_by e (listed ids id) (permitted ids l) (λ r is. rw (permitted_is ids l b, ← same, is) refl) h

pub own_listed : (ids : List (List ℕ)) (l : LayoutData ℕ) (id : List ℕ) (u : Unit {0}) → answered l ≡ Ok l → id ≡ kind_id (layout_kind l) → listed ids id ≡ Ok u → permitted ids l ≡ all_permitted ids (lays_of (children_of l))
own_listed ids l id u b same h = rw (permitted_is ids l b, ← same, h) refl

pub below_unlisted : (ids : List (List ℕ)) (l : LayoutData ℕ) (i : ℕ) (e : LayoutError) (m : LayoutData ℕ) → i < length (children_of l) → permitted ids l ≡ all_permitted ids (lays_of (drop i (children_of l)))
    → children_answer (child_in (children_of l) i) ≡ Some m → Fails e (permitted ids m) → Fails e (permitted ids l)
below_unlisted ids l i e m lt so at h = fails_by e (permitted ids m) (permitted ids l) (λ r is. rw (so, drop_permitted ids (children_of l) i m lt at, is) refl) h

pub next_listed : (ids : List (List ℕ)) (l : LayoutData ℕ) (i : ℕ) (m : LayoutData ℕ) (u : Unit {0}) → i < length (children_of l) → permitted ids l ≡ all_permitted ids (lays_of (drop i (children_of l)))
    → children_answer (child_in (children_of l) i) ≡ Some m → permitted ids m ≡ Ok u → permitted ids l ≡ all_permitted ids (lays_of (drop (i + 1) (children_of l)))
next_listed ids l i m u lt so at is = rw (so, drop_permitted ids (children_of l) i m lt at, is) refl

pub next_skipped : (ids : List (List ℕ)) (l : LayoutData ℕ) (i : ℕ) → i < length (children_of l) → permitted ids l ≡ all_permitted ids (lays_of (drop i (children_of l)))
    → children_answer (child_in (children_of l) i) ≡ None → permitted ids l ≡ all_permitted ids (lays_of (drop (i + 1) (children_of l)))
next_skipped ids l i lt so at = rw (so, drop_skipped ids (children_of l) i lt at) refl

-- ---- the walk that makes nodes

pub child_fails : (l : LayoutData ℕ) (i : ℕ) (e : LayoutError) (n : Node) → i < length (children_of l) → built l ≡ all_built (lays_of (drop i (children_of l)))
    → Fails e (child_in (children_of l) i) → Fails e (unless_refused (built l) n)
child_fails l i e n lt so h = fails_by e (child_in (children_of l) i) (unless_refused (built l) n) (λ r is. rw (so, drop_refused (children_of l) i r lt is) refl) h

refused_there : {A : Type 0} (b : Checked) (x : A) (r : Refusal) → unless_refused b x ≡ Err r → b ≡ Err r
refused_there (Ok u) x r e = absurd (cc e)
refused_there (Err q) x r e = cc e

built_there : {A : Type 0} (b : Checked) (x y : A) → unless_refused b x ≡ Ok y → (b ≡ Ok tt) × (x ≡ y)
built_there (Ok u) x y e = (refl, cc e)
built_there (Err q) x y e = absurd (cc e)

pub below_fails : (l : LayoutData ℕ) (i : ℕ) (e : LayoutError) (m : LayoutData ℕ) (n k : Node) → i < length (children_of l) → built l ≡ all_built (lays_of (drop i (children_of l)))
    → child_in (children_of l) i ≡ Ok m → Fails e (unless_refused (built m) k) → Fails e (unless_refused (built l) n)
below_fails l i e m n k lt so at h =
    fails_by e (unless_refused (built m) k) (unless_refused (built l) n) (λ r is. rw (so, drop_built (children_of l) i m lt at, refused_there (built m) k r is) refl) h

pub next_built : (l : LayoutData ℕ) (i : ℕ) (m : LayoutData ℕ) (k made : Node) → i < length (children_of l) → built l ≡ all_built (lays_of (drop i (children_of l)))
    → child_in (children_of l) i ≡ Ok m → unless_refused (built m) k ≡ Ok made → built l ≡ all_built (lays_of (drop (i + 1) (children_of l)))
next_built l i m k made lt so at is = rw (so, drop_built (children_of l) i m lt at, (built_there (built m) k made is).0) refl

pub next_node : (ids : List (List ℕ)) (l : LayoutData ℕ) (i : ℕ) (m : LayoutData ℕ) (before after : List Node) (made : Node) (all : Nodes) → i < length (children_of l)
    → child_in (children_of l) i ≡ Ok m → unless_refused (built m) (node_in ids m) ≡ Ok made → after ≡ before ++ (made ∷ [])
    → onto before (nodes_in ids (lays_of (drop i (children_of l)))) ≡ all → onto after (nodes_in ids (lays_of (drop (i + 1) (children_of l)))) ≡ all
next_node ids l i m before after made all lt at is more so =
    rw (more, onto_push before made (nodes_in ids (lays_of (drop (i + 1) (children_of l)))), ← (built_there (built m) (node_in ids m) made is).1, ← drop_nodes ids (children_of l) i m lt at) so

pub child_some : (c : Option LayoutChild) (d : LayoutChild) (a : Option (LayoutData ℕ)) (m : LayoutData ℕ) → c ≡ Some d → kept c ≡ a → m ≡ child_lay d → a ≡ Some m
child_some c d a m is so same = rw (← so, is, same) refl

pub child_none : (c : Option LayoutChild) (a : Option (LayoutData ℕ)) → c ≡ None → kept c ≡ a → a ≡ None
child_none c a is so = rw (← so, is) refl

pub ruleset walk_rules = (permitted_is, drop_permitted, drop_skipped, told_falls, depth_is)

pub whole_node : (ids : List (List ℕ)) (l : LayoutData ℕ) (i : ℕ) (made : List Node) (n : Node) → length (children_of l) ≤ i → built l ≡ all_built (lays_of (drop i (children_of l)))
    → onto made (nodes_in ids (lays_of (drop i (children_of l)))) ≡ nodes_in ids (lays_of (children_of l)) → n ≡ node (own_in ids l) (nodes_of made)
    → unless_refused (built l) (node_in ids l) ≡ Ok n
whole_node ids l i made n le so all is =
    let none : drop i (children_of l) ≡ [] = drop_all i (children_of l) le in
    let b : built l ≡ Ok tt = rw (so, none) refl in
    let ns : nodes_of made ≡ nodes_in ids (lays_of (children_of l)) = sym (onto_none made) ∙ ends none all in
    rw (b, is, ns, node_is ids l) refl
  where
    ends : drop i (children_of l) ≡ [] → onto made (nodes_in ids (lays_of (drop i (children_of l)))) ≡ nodes_in ids (lays_of (children_of l))
        → onto made no_nodes ≡ nodes_in ids (lays_of (children_of l))
    ends none all = rw (← all, none) refl

pub ruleset node_rules = (built_is, drop_built, drop_refused, drop_nodes, node_is, onto_none, onto_push, map_push, child_falls, depth_is)

pub ruleset own_rules = (raw_is)

pub ruleset number_rules = (map_push, take_more, below_more)
