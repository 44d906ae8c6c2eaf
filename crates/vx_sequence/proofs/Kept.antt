-- What putting an entry into the list, and taking one out, does to the paths that it stands for.
use Rattle.std.proofs.Common.{◌≡◌, ℕ, Bool, true, false, cond, List, [], ◌∷◌, ◌++◌, Option, Some, None, refl, sym, ap, ◌∙◌}
use Rattle.std.proofs.lemmas.Bool.{true≢false}
use Rattle.std.specs.FinMap as fin
use Rattle.std.specs.FinMap.{find, from_entries, get-from_entries}
use Rattle.std.specs.Cmp.Lexicographic.{nat_list_cmp_total}
use Rattle.vx_sequence.specs.Universe.{path_cmp}
use Rattle.vx_sequence.proofs.Sets.{same, same_true, same_refl, other_way, same_active}

abbrev Pair : Type 0
Pair = List ℕ × Bool

-- no path stands twice
abbrev pub AreDistinct : List (List ℕ × Bool) → Type 0
AreDistinct [] = Unit {0}
AreDistinct (e ∷ es) = (find path_cmp e.0 es ≡ None) × AreDistinct es

none_parts : (b : Bool) (x : Bool) (o : Option Bool) → cond b (Some x) o ≡ None → (b ≡ false) × (o ≡ None)
none_parts true x o h = cc
none_parts false x o h = (refl, h)

none_from : (b : Bool) (x : Bool) (o : Option Bool) → b ≡ false → o ≡ None → cond b (Some x) o ≡ None
none_from b x o f n = rw f n

swap_tests : (a b : Bool) (x y z : Option Bool) → (a ≡ true → b ≡ true → ⊥) → cond a x (cond b y z) ≡ cond b y (cond a x z)
swap_tests true true x y z f = absurd (f refl refl)
swap_tests true false x y z f = refl
swap_tests false b x y z f = refl

test_twice : (b : Bool) (x z : Option Bool) → (b ≡ true → z ≡ None) → z ≡ cond b None (cond b x z)
test_twice true x z f = f refl
test_twice false x z f = refl

-- an entry in the middle of a list is found where its path is asked for
pub find_middle : (front back : List Pair) (e : Pair) (q : List ℕ) → find path_cmp e.0 front ≡ None
    → find path_cmp q (front ++ (e ∷ back)) ≡ cond (same q e.0) (Some e.1) (find path_cmp q (front ++ back))
find_middle [] back e q n = refl
find_middle (d ∷ front) back e q n =
    let parts : (same e.0 d.0 ≡ false) × (find path_cmp e.0 front ≡ None) = none_parts (same e.0 d.0) d.1 (find path_cmp e.0 front) n in
    ap (cond (same q d.0) (Some d.1)) (find_middle front back e q parts.1)
    ∙ swap_tests (same q d.0) (same q e.0) (Some d.1) (Some e.1) (find path_cmp q (front ++ back))
    (λ a b. true≢false (sym (same_refl e.0) ∙ ap (λ r. same e.0 r) (sym (same_true q e.0 b) ∙ same_true q d.0 a) ∙ parts.0))

pub none_left : (front back : List Pair) (q : List ℕ) → find path_cmp q (front ++ back) ≡ None → find path_cmp q front ≡ None
none_left [] back q n = refl
none_left (d ∷ front) back q n =
    let parts : (same q d.0 ≡ false) × (find path_cmp q (front ++ back) ≡ None) = none_parts (same q d.0) d.1 (find path_cmp q (front ++ back)) n in
    none_from (same q d.0) d.1 (find path_cmp q front) parts.0 (none_left front back q parts.1)

none_rest : (front back : List Pair) (e : Pair) (q : List ℕ) → find path_cmp q (front ++ (e ∷ back)) ≡ None
    → (same q e.0 ≡ false) × (find path_cmp q (front ++ back) ≡ None)
none_rest [] back e q n = none_parts (same q e.0) e.1 (find path_cmp q back) n
none_rest (d ∷ front) back e q n =
    let parts : (same q d.0 ≡ false) × (find path_cmp q (front ++ (e ∷ back)) ≡ None) =
    none_parts (same q d.0) d.1 (find path_cmp q (front ++ (e ∷ back))) n in
    let rest : (same q e.0 ≡ false) × (find path_cmp q (front ++ back) ≡ None) = none_rest front back e q parts.1 in
    (rest.0, none_from (same q d.0) d.1 (find path_cmp q (front ++ back)) parts.0 rest.1)

pub distinct_without : (front back : List Pair) (e : Pair) → AreDistinct (front ++ (e ∷ back))
    → (find path_cmp e.0 (front ++ back) ≡ None) × AreDistinct (front ++ back)
distinct_without [] back e d = d
distinct_without (c ∷ front) back e d =
    let rest : (find path_cmp e.0 (front ++ back) ≡ None) × AreDistinct (front ++ back) = distinct_without front back e d.1 in
    let apart : (same c.0 e.0 ≡ false) × (find path_cmp c.0 (front ++ back) ≡ None) = none_rest front back e c.0 d.0 in
    (none_from (same e.0 c.0) c.1 (find path_cmp e.0 (front ++ back)) (other_way c.0 e.0 apart.0) rest.0, (apart.1, rest.1))

pub get_of : (es : List Pair) (q : List ℕ) → fin.get (from_entries {R = path_cmp} es) q ≡ find path_cmp q es
get_of es q = get-from_entries nat_list_cmp_total es q

-- an entry of a new path is one path more
pub active_with : (front back : List Pair) (e : Pair) → find path_cmp e.0 (front ++ back) ≡ None
    → from_entries {R = path_cmp} (front ++ (e ∷ back)) ≡ fin.insert (from_entries (front ++ back)) e.0 e.1
active_with front back e n = same_active (from_entries (front ++ (e ∷ back))) (fin.insert (from_entries (front ++ back)) e.0 e.1) (λ q.
    get_of (front ++ (e ∷ back)) q ∙ find_middle front back e q (none_left front back e.0 n)
    ∙ sym (fin.get-insert nat_list_cmp_total (from_entries (front ++ back)) e.0 e.1 q
    ∙ ap (cond (same q e.0) (Some e.1)) (get_of (front ++ back) q)))

-- without the entry there is one path less
pub active_without : (front back : List Pair) (e : Pair) → AreDistinct (front ++ (e ∷ back))
    → from_entries {R = path_cmp} (front ++ back) ≡ fin.remove (from_entries (front ++ (e ∷ back))) e.0
active_without front back e d =
    let n : find path_cmp e.0 (front ++ back) ≡ None = (distinct_without front back e d).0 in
    same_active (from_entries (front ++ back)) (fin.remove (from_entries (front ++ (e ∷ back))) e.0) (λ q.
    get_of (front ++ back) q
    ∙ test_twice (same q e.0) (Some e.1) (find path_cmp q (front ++ back)) (λ s. ap (λ r. find path_cmp r (front ++ back)) (same_true q e.0 s) ∙ n)
    ∙ sym (fin.get-remove nat_list_cmp_total (from_entries (front ++ (e ∷ back))) e.0 q
    ∙ ap (cond (same q e.0) None) (get_of (front ++ (e ∷ back)) q ∙ find_middle front back e q (none_left front back e.0 n))))
