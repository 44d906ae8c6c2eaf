-- What is cut of a list of actions of which some are done.
use Rattle.std.proofs.Common.{◌≡◌, ℕ, zero, suc, ◌+◌, ◌-◌, ◌≤◌, ◌⊎◌, ◌||◌, Bool, true, false, cond, not, nat_eq, List, [], ◌∷◌, ◌++◌, length, take, drop, refl, sym, ap, ◌∙◌, inl, inr, ⊎_elim, arith}
use Rattle.std.proofs.lemmas.Bool.{cases_Bool}
use Rattle.std.proofs.lemmas.Bool.Decides.{nat_tests}
use Rattle.vx_tasks.specs.Task.{Action, Kind, takes_of, takes_in, refuses_in, any_kind}
use Rattle.vx_tasks.specs.Task.Kind.{Free, Take, TakeEnd, Put, Append, Join}
use Rattle.vx_tasks.specs.Queues.{is_end}
use Rattle.vx_tasks.proofs.Scripts.{no_true, or_true, or_false}
use Rattle.vx_cut_laws.specs.Cut.{reads_past, known, to_refusal, before_refusal}

-- Actions that are done: none refuses, they take no more than is known, and the end only where it is.
pub record Done (k : ℕ) (ended : Bool) (xs : List Action) : Type 0 where
  pub clean : refuses_in xs ≡ false
  pub known_is : takes_in xs ≤ k
  pub told : any_kind is_end xs ≡ true → ended ≡ true

reads_not : (kind : Kind) (k : ℕ) (ended : Bool) (n : ℕ) → takes_of kind + n ≤ k → (is_end kind ≡ true → ended ≡ true) → reads_past kind k ended ≡ false
reads_not (Free w) k ended n l h = refl
reads_not Take k ended n l h = grind (arith, nat_tests)
reads_not TakeEnd k ended n l h = ap not (h refl)
reads_not (Put c) k ended n l h = refl
reads_not (Append q) k ended n l h = refl
reads_not Join k ended n l h = refl

minus_sum : (k a b : ℕ) → (k - a) - b ≡ k - (a + b)
minus_sum k a b = omega arith

minus_zero : (k : ℕ) → k - 0 ≡ k
minus_zero k = omega arith

-- what is done is known
pub known_done : (k : ℕ) (ended : Bool) (xs ys : List Action) → Done k ended xs → known k ended (xs ++ ys) ≡ xs ++ known (k - takes_in xs) ended ys
known_done k ended [] ys d = ap (λ z. known z ended ys) (sym (minus_zero k))
known_done k ended (a ∷ xs) ys d =
    let r : reads_past a.kind k ended ≡ false = reads_not a.kind k ended (takes_in xs) d.known_is (λ e. d.told (or_true (is_end a.kind) (any_kind is_end xs) (inl e))) in
    let l : takes_of a.kind + takes_in xs ≤ k = d.known_is in
    let h : known (k - takes_of a.kind) ended (xs ++ ys) ≡ xs ++ known ((k - takes_of a.kind) - takes_in xs) ended ys =
    known_done (k - takes_of a.kind) ended xs ys (record {
      clean = (or_false a.refuses (refuses_in xs) d.clean).1;
      known_is = omega (arith, l);
      told = λ e. d.told (or_true (is_end a.kind) (any_kind is_end xs) (inr e));
    }) in
    rw r (ap (λ z. a ∷ z) (h ∙ ap (λ z. xs ++ known z ended ys) (minus_sum k (takes_of a.kind) (takes_in xs))))

pub to_refusal_done : (xs ys : List Action) → refuses_in xs ≡ false → to_refusal (xs ++ ys) ≡ xs ++ to_refusal ys
to_refusal_done [] ys c = refl
to_refusal_done (a ∷ xs) ys c =
    let z : (a.refuses ≡ false) × (refuses_in xs ≡ false) = or_false a.refuses (refuses_in xs) c in
    ap (λ b. a ∷ cond b [] (to_refusal (xs ++ ys))) z.0 ∙ ap (λ y. a ∷ y) (to_refusal_done xs ys z.1)

pub before_refusal_done : (xs ys : List Action) → refuses_in xs ≡ false → before_refusal (xs ++ ys) ≡ xs ++ before_refusal ys
before_refusal_done [] ys c = refl
before_refusal_done (a ∷ xs) ys c =
    let z : (a.refuses ≡ false) × (refuses_in xs ≡ false) = or_false a.refuses (refuses_in xs) c in
    ap (λ b. cond b [] (a ∷ before_refusal (xs ++ ys))) z.0 ∙ ap (λ y. a ∷ y) (before_refusal_done xs ys z.1)

-- Of a list whose first n are kept, and whose others are changed.

pub take_kept : {A : Type 0} (n : ℕ) (xs ys : List A) → (drop n xs ≡ [] → ys ≡ []) → take n (take n xs ++ ys) ≡ take n xs
take_kept zero xs ys h = refl
take_kept (suc n) [] ys h = ap (take (suc n)) (h refl)
take_kept (suc n) (x ∷ xs) ys h = ap (λ z. x ∷ z) (take_kept n xs ys h)

pub drop_kept : {A : Type 0} (n : ℕ) (xs ys : List A) → (drop n xs ≡ [] → ys ≡ []) → drop n (take n xs ++ ys) ≡ ys
drop_kept zero xs ys h = refl
drop_kept (suc n) [] ys h = ap (drop (suc n)) (h refl) ∙ sym (h refl)
drop_kept (suc n) (x ∷ xs) ys h = drop_kept n xs ys h

-- Lengths.

known_shorter : (k : ℕ) (ended : Bool) (xs : List Action) → length (known k ended xs) ≤ length xs
known_shorter k ended [] = omega arith
known_shorter k ended (a ∷ xs) = by (reads_past a.kind k ended) (known_shorter (k - takes_of a.kind) ended xs)
  where
    by : (b : Bool) → length (known (k - takes_of a.kind) ended xs) ≤ length xs → length (cond b [] (a ∷ known (k - takes_of a.kind) ended xs)) ≤ suc (length xs)
    by true l = omega arith
    by false l = omega arith

to_refusal_shorter : (xs : List Action) → length (to_refusal xs) ≤ length xs
to_refusal_shorter [] = omega arith
to_refusal_shorter (a ∷ xs) = by a.refuses (to_refusal_shorter xs)
  where
    by : (b : Bool) → length (to_refusal xs) ≤ length xs → suc (length (cond b [] (to_refusal xs))) ≤ suc (length xs)
    by true l = omega arith
    by false l = omega arith

pub cut_shorter : (k : ℕ) (ended : Bool) (xs : List Action) → length (to_refusal (known k ended xs)) ≤ length xs
cut_shorter k ended xs =
    let a : length (to_refusal (known k ended xs)) ≤ length (known k ended xs) = to_refusal_shorter (known k ended xs) in
    let b : length (known k ended xs) ≤ length xs = known_shorter k ended xs in
    omega arith

-- Where nothing is to be cut.

pub known_all : (k : ℕ) (ended : Bool) (xs : List Action) → takes_in xs ≤ k → ended ≡ true → known k ended xs ≡ xs
known_all k ended [] l e = refl
known_all k ended (a ∷ xs) l e =
    let r : reads_past a.kind k ended ≡ false = reads_not a.kind k ended (takes_in xs) l (λ q. e) in
    rw r (ap (λ z. a ∷ z) (known_all (k - takes_of a.kind) ended xs (omega (arith, l)) e))

pub to_refusal_all : (xs : List Action) → refuses_in xs ≡ false → to_refusal xs ≡ xs
to_refusal_all [] c = refl
to_refusal_all (a ∷ xs) c =
    let z : (a.refuses ≡ false) × (refuses_in xs ≡ false) = or_false a.refuses (refuses_in xs) c in
    ap (λ b. a ∷ cond b [] (to_refusal xs)) z.0 ∙ ap (λ y. a ∷ y) (to_refusal_all xs z.1)

pub before_refusal_all : (xs : List Action) → refuses_in xs ≡ false → before_refusal xs ≡ xs
before_refusal_all [] c = refl
before_refusal_all (a ∷ xs) c =
    let z : (a.refuses ≡ false) × (refuses_in xs ≡ false) = or_false a.refuses (refuses_in xs) c in
    ap (λ b. cond b [] (a ∷ before_refusal xs)) z.0 ∙ ap (λ y. a ∷ y) (before_refusal_all xs z.1)
