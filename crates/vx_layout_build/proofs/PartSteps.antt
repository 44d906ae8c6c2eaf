-- Children taken out one by one, and checks of parts.
use Rattle.std.proofs.Common.{◌≡◌, ℕ, zero, suc, ◌+◌, ◌<◌, ◌≤◌, ◌++◌, Bool, true, false, List, [], ◌∷◌, length, get_or, drop, map, Ok, Err, refl, ◌∙◌, ap, arith, length-append}
use Rattle.std.specs.Prelude.{◌==◌}
use Rattle.std.proofs.lemmas.List.{length-map}
use Rattle.std.proofs.lemmas.Bool.Decides.{nat_tests}
use Rattle.vx_layout_spec.specs.Refusal.{child_count}
use Rattle.vx_layout_bytes.specs.declared.view.NodeView.{NodeView}
use Rattle.vx_layout_bytes.specs.declared.view.NodeViews.{NodeViews}
use Rattle.vx_layout_bytes.specs.Node.{nodes_of, own_of}
use Rattle.vx_layout_bytes.specs.Values.{depth, depths}
use Rattle.vx_layout_bytes.specs.There.{node_there}
use Rattle.vx_layout_bytes.specs.Views.{seen_node, seen_nodes, nth_node}
use Rattle.vx_session.specs.Scope.{Scope}
use Rattle.vx_session.specs.Made.{◌>>=◌, ChildData, rows_at, has_children, has_rows, all_have_rows}
use Rattle.vx_session.specs.Builder.{kids, kid_of, builder}
use Rattle.vx_layout_tree.specs.declared.layout.Layout.{Layout}
use Rattle.vx_layout_tree.specs.LayoutView.{layout_data}
use Rattle.vx_layout_tree.specs.KidsView.{owned_kid, owned_kids}
use Rattle.vx_layout_tree.proofs.KidSteps.{length-owned, length-kids}

-- ---- from the end

pub last_two : {T : Type 0} (xs ys zs : List T) (a b : T) → length xs ≡ 2 → xs ≡ ys ++ b ∷ [] → ys ≡ zs ++ a ∷ [] → xs ≡ a ∷ b ∷ []
last_two xs ys [] a b l e f = e ∙ ap (λ r. r ++ b ∷ []) f
last_two xs ys (z ∷ zs) a b l e f = absurd (omega (arith, l, ap length e, ap length f, length-append ys (b ∷ []), length-append zs (a ∷ [])))

pub last_three : {T : Type 0} (xs ys zs us : List T) (a b c : T) → length xs ≡ 3 → xs ≡ ys ++ c ∷ [] → ys ≡ zs ++ b ∷ [] → zs ≡ us ++ a ∷ [] → xs ≡ a ∷ b ∷ c ∷ []
last_three xs ys zs us a b c l e f g =
    let two : length ys ≡ 2 = omega (arith, l, ap length e, length-append ys (c ∷ [])) in
    e ∙ ap (λ r. r ++ c ∷ []) (last_two ys zs us a b two f g)

pub ruleset pop_rules = (last_two, last_three)

-- ---- two and three

pub owned_two : (ls : List Layout) (a b : Layout) → ls ≡ a ∷ b ∷ [] → owned_kids (map layout_data ls) ≡ owned_kid (layout_data a) ∷ owned_kid (layout_data b) ∷ []
owned_two ls a b is = rw is refl

pub owned_three : (ls : List Layout) (a b c : Layout) → ls ≡ a ∷ b ∷ c ∷ [] → owned_kids (map layout_data ls) ≡ owned_kid (layout_data a) ∷ owned_kid (layout_data b) ∷ owned_kid (layout_data c) ∷ []
owned_three ls a b c is = rw is refl

two_are : (s : Scope) (bytes ps : List ℕ) → length ps ≡ 2
    → kids s (nodes_of (map (node_there bytes) ps)) ≡ kid_of s (own_of (node_there bytes (get_or ps 0 0))) (builder s (node_there bytes (get_or ps 0 0))) ∷ kid_of s (own_of (node_there bytes (get_or ps 1 0))) (builder s (node_there bytes (get_or ps 1 0))) ∷ []
two_are s bytes [] e = absurd (omega (arith, e))
two_are s bytes (p ∷ []) e = absurd (omega (arith, e))
two_are s bytes (p ∷ q ∷ []) e = refl
two_are s bytes (p ∷ q ∷ r ∷ ps) e = absurd (omega (arith, e))

three_are : (s : Scope) (bytes ps : List ℕ) → length ps ≡ 3
    → kids s (nodes_of (map (node_there bytes) ps)) ≡ kid_of s (own_of (node_there bytes (get_or ps 0 0))) (builder s (node_there bytes (get_or ps 0 0))) ∷ kid_of s (own_of (node_there bytes (get_or ps 1 0))) (builder s (node_there bytes (get_or ps 1 0))) ∷ kid_of s (own_of (node_there bytes (get_or ps 2 0))) (builder s (node_there bytes (get_or ps 2 0))) ∷ []
three_are s bytes [] e = absurd (omega (arith, e))
three_are s bytes (p ∷ []) e = absurd (omega (arith, e))
three_are s bytes (p ∷ q ∷ []) e = absurd (omega (arith, e))
three_are s bytes (p ∷ q ∷ r ∷ []) e = refl
three_are s bytes (p ∷ q ∷ r ∷ u ∷ ps) e = absurd (omega (arith, e))

pub viewed_two : (s : Scope) (v : NodeViews) (a b : NodeView) → length v.places.items ≡ 2 → seen_node a ≡ nth_node v 0 → seen_node b ≡ nth_node v 1
    → kids s (nodes_of (seen_nodes v)) ≡ kid_of s (own_of (seen_node a)) (builder s (seen_node a)) ∷ kid_of s (own_of (seen_node b)) (builder s (seen_node b)) ∷ []
viewed_two s v a b e x y = rw (x, y) (two_are s v.bytes v.places.items e)

pub viewed_three : (s : Scope) (v : NodeViews) (a b c : NodeView) → length v.places.items ≡ 3 → seen_node a ≡ nth_node v 0 → seen_node b ≡ nth_node v 1 → seen_node c ≡ nth_node v 2
    → kids s (nodes_of (seen_nodes v)) ≡ kid_of s (own_of (seen_node a)) (builder s (seen_node a)) ∷ kid_of s (own_of (seen_node b)) (builder s (seen_node b)) ∷ kid_of s (own_of (seen_node c)) (builder s (seen_node c)) ∷ []
viewed_three s v a b c e x y z = rw (x, y, z) (three_are s v.bytes v.places.items e)

nth_deep : (bytes ps : List ℕ) (i : ℕ) → i < length ps → depth (node_there bytes (get_or ps i 0)) ≤ depths (nodes_of (map (node_there bytes) ps))
nth_deep bytes [] i lt = absurd (omega (arith, lt))
nth_deep bytes (p ∷ ps) zero lt = omega arith
nth_deep bytes (p ∷ ps) (suc i) lt = omega (arith, nth_deep bytes ps i (omega (arith, lt)))

pub deep_at : (v : NodeViews) (a : NodeView) (i : ℕ) → i < length v.places.items → seen_node a ≡ nth_node v i → depth (seen_node a) ≤ depths (nodes_of (seen_nodes v))
deep_at v a i lt x = rw x (nth_deep v.bytes v.places.items i lt)

other_count : (b : Bool) (has n : ℕ) → ((has == n) ≡ b) → (has ≡ n → ⊥) → (has == n) ≡ false
other_count true has n e h = absurd (h (grind (arith, nat_tests, e)))
other_count false has n e h = e

pub miscounted : (ks : List ChildData) (has n : ℕ) → has ≡ length ks → (length ks ≡ n → ⊥) → has_children n ks ≡ Err (child_count has n)
miscounted ks has n e h = rw (other_count (length ks == n) (length ks) n refl h, e) refl

pub ruleset two_rules = (owned_two, viewed_two, deep_at, miscounted, length-owned, length-kids, length-map)

pub ruleset three_rules = (owned_three, viewed_three, deep_at, miscounted, length-owned, length-kids, length-map)

-- ---- checks

pub counted : (ks : List ChildData) (n : ℕ) → length ks ≡ n → has_children n ks ≡ Ok tt
counted ks n e = go (length ks == n) refl
  where
    go : (b : Bool) → (length ks == n) ≡ b → has_children n ks ≡ Ok tt
    go true is = rw is refl
    go false is = absurd (grind (arith, nat_tests, is, e))

pub drop_kids : (ks : List ChildData) (n i : ℕ) → i < length ks → all_have_rows n (drop i ks) ≡ (has_rows (rows_at ks i) n >>= λ ok. all_have_rows n (drop (i + 1) ks))
drop_kids [] n i lt = absurd (omega (arith, lt))
drop_kids (k ∷ ks) n zero lt = refl
drop_kids (k ∷ ks) n (suc i) lt = let e : suc i + 1 ≡ suc (i + 1) = omega arith in rw e (drop_kids ks n i (omega (arith, lt)))

pub drop_none : (ks : List ChildData) (n i : ℕ) → length ks ≤ i → all_have_rows n (drop i ks) ≡ Ok tt
drop_none [] n zero le = refl
drop_none [] n (suc i) le = refl
drop_none (k ∷ ks) n zero le = absurd (omega (arith, le))
drop_none (k ∷ ks) n (suc i) le = drop_none ks n i (omega (arith, le))

pub ruleset check_rules = (drop_kids, drop_none)

pub count_is : (ks : List ChildData) (n : ℕ) → has_children n ks ≡ Ok tt → length ks ≡ n
count_is ks n e = go (length ks == n) refl
  where
    go : (b : Bool) → (length ks == n) ≡ b → length ks ≡ n
    go true is = grind (arith, nat_tests, is)
    go false is = let h : has_children n ks ≡ Err (child_count (length ks) n) = rw is refl in absurd (cc (h, e))
