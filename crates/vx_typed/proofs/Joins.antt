-- Columns behind others.
use Rattle.std.proofs.Common.{◌≡◌, ℕ, zero, suc, ◌+◌, ◌-◌, ◌<◌, ◌≤◌, ◌&&◌, Bool, true, false, List, [], ◌∷◌, ◌++◌, length, get_or, drop, take, refl, sym, ap, ap₂, ◌∙◌, arith}
use Rattle.std.specs.Prelude.{if◌then◌else◌, replicate}
use Rattle.std.proofs.lemmas.List.{drop_more, drop_all, nil_from_length}
use Rattle.vx_model.specs.Words.{all_by, head_or, tail}
use Rattle.vx_model.specs.CellData.{CellData, null_cell}
use Rattle.vx_typed.specs.Typed.{typed_cells, exact_flags, joined_flags, needed_flags}

-- ---- flags

exact_nil : (n : ℕ) → exact_flags n [] ≡ replicate n true
exact_nil zero = refl
exact_nil (suc n) = ap (λ (r : List Bool). true ∷ r) (exact_nil n)

exact_is : (n : ℕ) (bs : List Bool) → exact_flags n bs ≡ take n bs ++ replicate (n - length bs) true
exact_is zero bs = let e : 0 ≡ 0 - length bs = omega arith in ap (λ (k : ℕ). replicate k true) e
exact_is (suc n) [] = let e : suc n ≡ suc n - 0 = omega arith in ap (λ (r : List Bool). true ∷ r) (exact_nil n) ∙ ap (λ (k : ℕ). replicate k true) e
exact_is (suc n) (b ∷ bs) = let e : n - length bs ≡ suc n - suc (length bs) = omega arith in ap (λ (r : List Bool). b ∷ r) (exact_is n bs ∙ ap (λ (k : ℕ). take n bs ++ replicate k true) e)

exact_length : (n : ℕ) (bs : List Bool) → length (exact_flags n bs) ≡ n
exact_length zero bs = refl
exact_length (suc n) bs = ap suc (exact_length n (tail bs))

joined_some : (n m : ℕ) (bs cs : List Bool) → (length bs ≡ 0 → length cs ≡ 0 → ⊥) → exact_flags n bs ++ exact_flags m cs ≡ joined_flags n bs m cs
joined_some n m [] [] some = absurd (some refl refl)
joined_some n m [] (c ∷ cs) some = refl
joined_some n m (b ∷ bs) cs some = refl

exact_front : (n m : ℕ) (fs cs : List Bool) → length fs ≡ n → exact_flags (n + m) (fs ++ cs) ≡ fs ++ exact_flags m cs
exact_front zero m [] cs e = let z : 0 + m ≡ m = omega arith in ap (λ (k : ℕ). exact_flags k cs) z
exact_front zero m (f ∷ fs) cs e = absurd (omega (arith, e))
exact_front (suc n) m [] cs e = absurd (omega (arith, e))
exact_front (suc n) m (f ∷ fs) cs e =
    let z : suc n + m ≡ suc (n + m) = omega arith in
    ap (λ (k : ℕ). exact_flags k (f ∷ fs ++ cs)) z ∙ ap (λ (r : List Bool). f ∷ r) (exact_front n m fs cs (omega (arith, e)))

-- what resizing leaves, first to the rows and then to all
pub resized : (n m : ℕ) (bs cs vs ws : List Bool) → vs ≡ (take n bs ++ replicate (n - length bs) true) ++ cs → ws ≡ take (n + m) vs ++ replicate ((n + m) - length vs) true
    → (length bs ≡ 0 → length cs ≡ 0 → ⊥) → ws ≡ joined_flags n bs m cs
resized n m bs cs vs ws e f some =
    f ∙ sym (exact_is (n + m) vs)
    ∙ ap (exact_flags (n + m)) (e ∙ ap (λ (r : List Bool). r ++ cs) (sym (exact_is n bs)))
    ∙ exact_front n m (exact_flags n bs) cs (exact_length n bs) ∙ joined_some n m bs cs some

pub drop_set : (bs : List Bool) (i : ℕ) (b : Bool) → i < length bs → b ≡ get_or bs i b → all_by (λ (x : Bool). x) (drop i bs) ≡ (b && all_by (λ (x : Bool). x) (drop (i + 1) bs))
drop_set bs i b lt is = rw (drop_more bs i b lt, ← is) refl

pub set_ends : (bs : List Bool) (i : ℕ) → length bs ≤ i → all_by (λ (x : Bool). x) (drop i bs) ≡ true
set_ends bs i le = rw (drop_all i bs le) refl

pub ruleset set_rules = (drop_set, set_ends)

pub ruleset flag_rules = (resized, nil_from_length)

-- ---- values under flags

all_append : {X : Type 0} (f : X → CellData) (xs ys : List X) → typed_cells f (xs ++ ys) [] ≡ typed_cells f xs [] ++ typed_cells f ys []
all_append f [] ys = refl
all_append f (x ∷ xs) ys = ap (λ (r : List CellData). f x ∷ r) (all_append f xs ys)

flags_append : {X : Type 0} (f : X → CellData) (xs ys : List X) (bs cs : List Bool) → length bs ≡ length xs → typed_cells f (xs ++ ys) (bs ++ cs) ≡ typed_cells f xs bs ++ typed_cells f ys cs
flags_append f [] ys [] cs e = refl
flags_append f [] ys (b ∷ bs) cs e = absurd (omega (arith, e))
flags_append f (x ∷ xs) ys [] cs e = absurd (omega (arith, e))
flags_append f (x ∷ xs) ys (b ∷ bs) cs e = ap (λ (r : List CellData). (if b then f x else null_cell) ∷ r) (flags_append f xs ys bs cs (omega (arith, e)))

typed_exact : {X : Type 0} (f : X → CellData) (xs : List X) (bs : List Bool) → typed_cells f xs (exact_flags (length xs) bs) ≡ typed_cells f xs bs
typed_exact f [] bs = refl
typed_exact f (x ∷ xs) bs = ap (λ (r : List CellData). (if head_or true bs then f x else null_cell) ∷ r) (typed_exact f xs (tail bs))

exact_joined : {X : Type 0} (f : X → CellData) (xs ys : List X) (bs cs : List Bool) → typed_cells f (xs ++ ys) (exact_flags (length xs) bs ++ exact_flags (length ys) cs) ≡ typed_cells f xs bs ++ typed_cells f ys cs
exact_joined f xs ys bs cs =
    flags_append f xs ys (exact_flags (length xs) bs) (exact_flags (length ys) cs) (exact_length (length xs) bs)
    ∙ ap₂ (λ (a b : List CellData). a ++ b) (typed_exact f xs bs) (typed_exact f ys cs)

typed_joined : {X : Type 0} (f : X → CellData) (xs ys : List X) (bs cs : List Bool) → typed_cells f (xs ++ ys) (joined_flags (length xs) bs (length ys) cs) ≡ typed_cells f xs bs ++ typed_cells f ys cs
typed_joined f xs ys [] [] = all_append f xs ys
typed_joined f xs ys [] (c ∷ cs) = exact_joined f xs ys [] (c ∷ cs)
typed_joined f xs ys (b ∷ bs) cs = exact_joined f xs ys (b ∷ bs) cs

-- of n values with flags `bs`, and of m more
pub joined_cells : {X : Type 0} (f : X → CellData) (xs ys zs : List X) (bs cs ds : List Bool) (n m : ℕ) (first second : List CellData)
    → zs ≡ xs ++ ys → ds ≡ joined_flags n bs m cs → n ≡ length xs → m ≡ length ys → typed_cells f xs bs ≡ first → typed_cells f ys cs ≡ second → typed_cells f zs ds ≡ first ++ second
joined_cells f xs ys zs bs cs ds n m first second values flags long more one two =
    ap₂ (typed_cells f) values (flags ∙ ap₂ (λ (a b : ℕ). joined_flags a bs b cs) long more) ∙ typed_joined f xs ys bs cs ∙ ap₂ (λ (a b : List CellData). a ++ b) one two

none_needed : {X : Type 0} (f : X → CellData) (xs : List X) (bs : List Bool) → all_by (λ (b : Bool). b) bs ≡ true → typed_cells f xs bs ≡ typed_cells f xs []
none_needed f [] bs h = refl
none_needed f (x ∷ xs) [] h = refl
none_needed f (x ∷ xs) (true ∷ bs) h = ap (λ (r : List CellData). f x ∷ r) (none_needed f xs bs h)
none_needed f (x ∷ xs) (false ∷ bs) h = absurd (cc)

pub typed_needed : {X : Type 0} (f : X → CellData) (xs : List X) (bs : List Bool) → typed_cells f xs (needed_flags bs) ≡ typed_cells f xs bs
typed_needed f xs bs = by (all_by (λ (b : Bool). b) bs) refl
  where
    by : (t : Bool) → all_by (λ (b : Bool). b) bs ≡ t → typed_cells f xs (if t then [] else bs) ≡ typed_cells f xs bs
    by true h = sym (none_needed f xs bs h)
    by false h = refl

pub ruleset made_rules = (typed_needed)

pub ruleset leaf_rules = (joined_cells)
