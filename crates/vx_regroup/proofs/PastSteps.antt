-- Numbers that are too large.
use Rattle.std.proofs.Common.{◌≡◌, ℕ, ◌-◌, ◌<◌, ◌≤◌, ◌^◌, Bool, true, false, List, [], ◌∷◌, ◌++◌, refl, sym, ap, subst, arith}
use Rattle.std.specs.Prelude.{min, nat_lt, if◌then◌else◌, Some}
use Rattle.std.proofs.lemmas.Bool.Decides.{nat_tests}
use Rattle.vx_model.specs.Ty.{Ty, ty_eq}
use Rattle.vx_model.specs.TyLaws.{ty_eq_decides}
use Rattle.vx_model.specs.ChunkData.{ChunkData, piece_type}
use Rattle.vx_layout_spec.proofs.CellsFit.{all_append}
use Rattle.vx_chunk.specs.Conditions.{are_of_type, IsFarPast}
use Rattle.vx_chunk.specs.declared.error.ChunkError.{ChunkError}
use Rattle.vx_chunk.specs.declared.error.ChunkError.TheVariants.{TooLarge, OutOfMemory}
use Rattle.vx_regroup.specs.Refusals.{first_past, IsTold, Refuses}

pub below : (n : ℕ) → n < 2 ^ 64 → nat_lt n (2 ^ 64) ≡ true
below n h = grind (arith, nat_tests)

pub above : (n : ℕ) → 2 ^ 64 ≤ n → nat_lt n (2 ^ 64) ≡ false
above n h = grind (arith, nat_tests)

-- a number that fits is passed over
pub past_later : (n : ℕ) (ns : List ℕ) → n < 2 ^ 64 → first_past (n ∷ ns) ≡ first_past ns
past_later n ns h = ap (λ (b : Bool). if b then first_past ns else Some n) (below n h)

pub past_here : (n : ℕ) (ns : List ℕ) → 2 ^ 64 ≤ n → first_past (n ∷ ns) ≡ Some n
past_here n ns h = ap (λ (b : Bool). if b then first_past ns else Some n) (above n h)

-- and the first that doesn't is told
pub told_here : (n : ℕ) (ns : List ℕ) (m : ℕ) → 2 ^ 64 ≤ n → m ≡ min n (2 ^ 128 - 1) → Refuses (first_past (n ∷ ns)) (TooLarge m)
told_here n ns m h e = subst (λ z. IsTold z m) (sym (past_here n ns h)) e

pub ruleset past_rules = (past_later, told_here)

-- a number that is told is the first of any
pub far_here : (n : ℕ) (ns : List ℕ) (e : ChunkError) → IsFarPast n e → Refuses (first_past (n ∷ ns)) e
far_here n ns (TooLarge m) h = told_here n ns m h.0 h.1
far_here n ns OutOfMemory h = tt

pub later_refuses : (n : ℕ) (ns : List ℕ) (e : ChunkError) → n < 2 ^ 64 → Refuses (first_past ns) e → Refuses (first_past (n ∷ ns)) e
later_refuses n ns e h r = subst (λ o. Refuses o e) (sym (past_later n ns h)) r

pub ruleset weigh_rules = (past_later, far_here, later_refuses)

-- ---- chunks of a type

same_type : (t u : Ty) → u ≡ t → ty_eq u t ≡ true
same_type t u e = (ty_eq_decides u t).1 e

pub one_of_type : (t : Ty) (p : ChunkData) → piece_type p ≡ t → are_of_type t (p ∷ []) ≡ true
one_of_type t p e = let s : ty_eq (piece_type p) t ≡ true = same_type t (piece_type p) e in rw s refl

pub more_of_type : (t : Ty) (ps : List ChunkData) (p : ChunkData) → are_of_type t ps ≡ true → piece_type p ≡ t → are_of_type t (ps ++ (p ∷ [])) ≡ true
more_of_type t ps p h e = all_append (λ q. ty_eq (piece_type q) t) ps (p ∷ []) h (one_of_type t p e)

pub ruleset type_rules = (more_of_type)
