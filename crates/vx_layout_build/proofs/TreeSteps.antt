-- Walks over a tree.
use Rattle.std.proofs.Common.{◌≡◌, ◌≢◌, ℕ, ◌+◌, ◌<◌, ◌++◌, true, false, List, [], ◌∷◌, length, map, Option, Some, None, Result, Ok, Err, refl, sym, ◌∙◌, ap, arith}
use Rattle.std.specs.Prelude.{option_map}
use Rattle.std.proofs.lemmas.List.{append-nil, append_assoc, map_push}
use Rattle.vx_layout_spec.specs.Refusal.{Refusal}
use Rattle.vx_layout_spec.specs.LayoutTree.{LayoutData, LayoutList, layout, no_layouts, child, lays_in, children_of}
use Rattle.vx_session.specs.Made.{◌>>=◌}
use Rattle.vx_layout_tree.specs.declared.error.LayoutError.{LayoutError}
use Rattle.vx_layout_tree.specs.declared.error.LayoutError.TheVariants as errors
use Rattle.vx_layout_build.specs.declared.child.LayoutChild.{LayoutChild}
use Rattle.vx_layout_build.specs.ChildView.{child_lay}
use Rattle.vx_layout_tree.specs.Children.{answered}
use Rattle.vx_layout_tree.proofs.Answered.{made_is, refused_is}
use Rattle.vx_layout_build.specs.PreOrder.{some_refused, pre_order, each_pre_order, below, all_pre_order, stacked, rooted}
use Rattle.vx_layout_build.specs.Present.{all_answered}
use Rattle.vx_layout_tree.specs.Views.{Fails}

pub root_rest : (ls : List (LayoutData ℕ)) → ls ++ [] ≡ ls
root_rest ls = append-nil ls

pub ruleset root_rules = (root_rest)

-- ---- a layout, and all below it

pub pre_order_is : (l : LayoutData ℕ) → pre_order l ≡ l ∷ below l
pre_order_is (layout k t n names ls) = refl

-- ---- the children together

abbrev AllMade : LayoutList ℕ → List (LayoutData ℕ) → Type 0
AllMade ls cs = (some_refused ls ≡ false) × (all_pre_order cs ≡ each_pre_order ls)

made_by : (a : Result (LayoutData ℕ) Refusal) (b : Result (List (LayoutData ℕ)) Refusal) (l : LayoutData ℕ) (ls : LayoutList ℕ) (cs : List (LayoutData ℕ)) → answered l ≡ a
    → ((os : List (LayoutData ℕ)) → b ≡ Ok os → AllMade ls os) → (a >>= λ c. b >>= λ others. Ok (c ∷ others)) ≡ Ok cs → AllMade (child l ls) cs
made_by (Ok c) (Ok os) l ls cs at others is =
    let e : c ∷ os ≡ cs = cc is in
    let m = made_is l c at in
    let o = others os refl in
    (rw (m.1, o.0) refl, rw (← e, m.0, o.1) refl)
made_by (Ok c) (Err r) l ls cs at others is = cc is
made_by (Err r) b l ls cs at others is = cc is

all_made : (ls : LayoutList ℕ) (cs : List (LayoutData ℕ)) → all_answered (lays_in ls) ≡ Ok cs → AllMade ls cs
all_made no_layouts cs is = let e : [] ≡ cs = cc is in (refl, rw (← e) refl)
all_made (child l ls) cs is = made_by (answered l) (all_answered (lays_in ls)) l ls cs refl (λ os o. all_made ls os o) is

refused_by : (a : Result (LayoutData ℕ) Refusal) (b : Result (List (LayoutData ℕ)) Refusal) (l : LayoutData ℕ) (ls : LayoutList ℕ) (r : Refusal) → answered l ≡ a
    → ((x : Refusal) → b ≡ Err x → some_refused ls ≡ true) → (a >>= λ c. b >>= λ others. Ok (c ∷ others)) ≡ Err r → some_refused (child l ls) ≡ true
refused_by (Ok c) (Ok os) l ls r at others is = cc is
refused_by (Ok c) (Err x) l ls r at others is = rw ((made_is l c at).1, others x refl) refl
refused_by (Err x) b l ls r at others is = rw (refused_is l x at) refl

some_fail : (ls : LayoutList ℕ) (r : Refusal) → all_answered (lays_in ls) ≡ Err r → some_refused ls ≡ true
some_fail no_layouts r is = cc is
some_fail (child l ls) r is = refused_by (answered l) (all_answered (lays_in ls)) l ls r refl (λ x o. some_fail ls x o) is

pub below_made : (l : LayoutData ℕ) (cs : List (LayoutData ℕ)) → all_answered (children_of l) ≡ Ok cs → all_pre_order cs ≡ below l
below_made (layout k t n names ls) cs is = let m = all_made ls cs is in rw m.0 m.1

pub below_refused : (l : LayoutData ℕ) (r : Refusal) → all_answered (children_of l) ≡ Err r → below l ≡ []
below_refused (layout k t n names ls) r is = rw (some_fail ls r is) refl

pub below_fails : (e : LayoutError) (l : LayoutData ℕ) → e ≢ errors.OutOfMemory → Fails e (all_answered (children_of l)) → below l ≡ []
below_fails (errors.Grammar a) l other h = below_refused l _ h
below_fails (errors.TooDeep a) l other h = below_refused l _ h
below_fails (errors.TooManyNodes a) l other h = below_refused l _ h
below_fails (errors.UnknownIndex a) l other h = below_refused l _ h
below_fails (errors.Unregistered a) l other h = below_refused l _ h
below_fails (errors.NotPermitted a) l other h = below_refused l _ h
below_fails (errors.ChildCount a b) l other h = below_refused l _ h
below_fails (errors.ChildType a b) l other h = below_refused l _ h
below_fails (errors.RowCount a b) l other h = below_refused l _ h
below_fails (errors.SegmentCount a) l other h = below_refused l _ h
below_fails (errors.Metadata a) l other h = below_refused l _ h
below_fails (errors.UnknownAggregate a) l other h = below_refused l _ h
below_fails (errors.SlotRange a b) l other h = below_refused l _ h
below_fails (errors.FieldNotFound a) l other h = below_refused l _ h
below_fails errors.NotAList l other h = below_refused l _ h
below_fails errors.NotAStruct l other h = below_refused l _ h
below_fails errors.OutOfMemory l other h = absurd (other refl)

pub ruleset below_rules = (below_made, below_fails)

-- ---- the stack

pub stacked_push : (ls : List (LayoutData ℕ)) (l : LayoutData ℕ) → stacked (ls ++ l ∷ []) ≡ pre_order l ++ stacked ls
stacked_push [] l = sym (append-nil (pre_order l))
stacked_push (x ∷ ls) l = ap (λ r. r ++ pre_order x) (stacked_push ls l) ∙ append_assoc (pre_order l) (stacked ls) (pre_order x)

pub all_push : (ls : List (LayoutData ℕ)) (l : LayoutData ℕ) → all_pre_order (ls ++ l ∷ []) ≡ all_pre_order ls ++ pre_order l
all_push [] l = append-nil (pre_order l)
all_push (x ∷ ls) l = ap (λ r. pre_order x ++ r) (all_push ls l) ∙ sym (append_assoc (pre_order x) (all_pre_order ls) (pre_order l))

-- the last of them is moved onto the stack
pub moved : (cs stack : List LayoutChild) (c d : LayoutChild) (rest : List (LayoutData ℕ)) → child_lay d ≡ child_lay c → all_pre_order (map child_lay (cs ++ c ∷ [])) ++ stacked (map child_lay stack) ≡ rest
    → all_pre_order (map child_lay cs) ++ stacked (map child_lay (stack ++ d ∷ [])) ≡ rest
moved cs stack c d rest same so_far =
    rw (map_push child_lay stack d, stacked_push (map child_lay stack) (child_lay d), same, ← append_assoc (all_pre_order (map child_lay cs)) (pre_order (child_lay c)) (stacked (map child_lay stack)), ← all_push (map child_lay cs) (child_lay c), ← map_push child_lay cs c)
    so_far

pub ruleset push_rules = (moved)

-- ---- a step

pub no_root : (o : Option LayoutChild) (ls : List (LayoutData ℕ)) → o ≡ None → rooted (option_map child_lay o) ++ ls ≡ ls
no_root o ls is = rw is refl

pub root_first : (o : Option LayoutChild) (c : LayoutChild) (ls : List (LayoutData ℕ)) → o ≡ Some c → rooted (option_map child_lay o) ++ ls ≡ pre_order (child_lay c) ++ ls
root_first o c ls is = rw is refl

-- the last on the stack is the first
pub top_first : (cs ds : List LayoutChild) (c : LayoutChild) → cs ≡ ds ++ c ∷ [] → stacked (map child_lay cs) ≡ pre_order (child_lay c) ++ stacked (map child_lay ds)
top_first cs ds c is = rw (is, map_push child_lay ds c) (stacked_push (map child_lay ds) (child_lay c))

pub ruleset first_rules = (no_root, root_first, top_first)

-- the node is given, and what is below it is left
pub given : (all stack rest : List (LayoutData ℕ)) (x y : LayoutData ℕ) → all ≡ pre_order x ++ stack → y ≡ x → rest ≡ below x ++ stack → all ≡ y ∷ rest
given all stack rest x y is same left = rw (is, same, left, pre_order_is x) refl

pub some_left : (all stack : List (LayoutData ℕ)) (x : LayoutData ℕ) → all ≡ pre_order x ++ stack → 0 < length all
some_left all stack x is = rw (is, pre_order_is x) (omega arith)

pub ruleset next_rules = (no_root, given, some_left)
