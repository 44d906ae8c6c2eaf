-- The rows of zones.
use Rattle.std.proofs.Common.{◌≡◌, ℕ, zero, suc, ◌+◌, ◌-◌, ◌*◌, ◌<◌, ◌≤◌, ◌^◌, min, Bool, true, false, List, [], ◌∷◌, ◌++◌, length, take, drop, Option, Some, None, refl, sym, ap, ◌∙◌, subst, inl, inr, arith, length-take, length-drop}
use Rattle.std.specs.Prelude.{if◌then◌else◌, nat_lt, nat_le}
use Rattle.std.proofs.lemmas.List.{drop-drop, take-append-drop}
use Rattle.std.proofs.lemmas.Bool.Decides.{nat_tests}
use Rattle.std.proofs.Math.Nat.{mul-suc, suc-mul, mul-le-mul_left, mul_comm}
use Rattle.vx_model.specs.Ty.{Ty}
use Rattle.vx_model.specs.ValueData.{ValueData}
use Rattle.vx_path.specs.Lists.{In}
use Rattle.vx_zone_spec.specs.Pruning.{Predicate, says, falsified}
use Rattle.vx_zone_spec.specs.ZoneMap.{ZoneMap, zone_rows, zones_fit, record_of, skips_from, skips}
use Rattle.vx_zone_spec.specs.Statements.{AllValues}
use Rattle.vx_plan.specs.Number.{element}
use Rattle.vx_plan.specs.ZonesHold.{zones_of, IsZoneCount}
use Rattle.vx_prune_laws.specs.Pruned.{zone_at, unskipped, is_true, matching}
use Rattle.vx_prune_laws.proofs.TableRows.{AllZones}

-- ---- zones

length-zones_of : (n zone_len : ℕ) (vs : List ValueData) → length (zones_of n zone_len vs) ≡ n
length-zones_of zero zone_len vs = refl
length-zones_of (suc n) zone_len vs = ap suc (length-zones_of n zone_len (drop zone_len vs))

pub zone_zero : (zone_len : ℕ) (vs : List ValueData) → zone_at zone_len vs 0 ≡ take zone_len vs
zone_zero zone_len vs = ap (λ n. take zone_len (drop n vs)) (none zone_len)
  where
    none : (n : ℕ) → n * 0 ≡ 0
    none n = omega arith

pub zone_suc : (zone_len : ℕ) (vs : List ValueData) (z : ℕ) → zone_at zone_len vs (suc z) ≡ zone_at zone_len (drop zone_len vs) z
zone_suc zone_len vs z =
    ap (take zone_len) (ap (λ n. drop n vs) (mul-suc zone_len z ∙ swapped (zone_len * z) zone_len) ∙ sym (drop-drop (zone_len * z) zone_len vs))
  where
    swapped : (a b : ℕ) → a + b ≡ b + a
    swapped a b = omega arith

-- the rows of zone z are as many as are left, at most the zone length
length_zone : (zone_len : ℕ) (vs : List ValueData) (z : ℕ) → length (zone_at zone_len vs z) ≡ min zone_len (length vs - zone_len * z)
length_zone zone_len vs z = length-take zone_len (drop (zone_len * z) vs) ∙ ap (min zone_len) (length-drop (zone_len * z) vs)

values_take : (t : Ty) (n : ℕ) (vs : List ValueData) → AllValues t vs → AllValues t (take n vs)
values_take t zero vs h = tt
values_take t (suc n) [] h = tt
values_take t (suc n) (v ∷ vs) h = (h.0, values_take t n vs h.1)

values_drop : (t : Ty) (n : ℕ) (vs : List ValueData) → AllValues t vs → AllValues t (drop n vs)
values_drop t zero vs h = h
values_drop t (suc n) [] h = tt
values_drop t (suc n) (v ∷ vs) h = values_drop t n vs h.1

pub zone_values_of : (t : Ty) (zone_len : ℕ) (vs : List ValueData) (z : ℕ) → AllValues t vs → AllValues t (zone_at zone_len vs z)
zone_values_of t zone_len vs z h = values_take t zone_len (drop (zone_len * z) vs) (values_drop t (zone_len * z) vs h)

pub zones_values : (t : Ty) (n zone_len : ℕ) (vs : List ValueData) → AllValues t vs → AllZones t (zones_of n zone_len vs)
zones_values t zero zone_len vs h = tt
zones_values t (suc n) zone_len vs h = (values_take t zone_len vs h, zones_values t n zone_len (drop zone_len vs) (values_drop t zone_len vs h))

pub zones_length : (n zone_len : ℕ) (vs : List ValueData) → length (zones_of n zone_len vs) ≡ n
zones_length = length-zones_of

-- ---- which rows a zone map counts

-- of all zones each but the last has the zone length, and the last the rest
counted : (zone_len rows count z : ℕ) → IsZoneCount rows zone_len count → z < count → (b : Bool) → nat_lt (suc z) count ≡ b → (if b then zone_len else rows - zone_len * z) ≡ min zone_len (rows - zone_len * z)
counted zone_len rows count z c l true e =
    let more : suc (suc z) ≤ count = below e in
    let k : zone_len * suc (suc z) ≤ zone_len * count = mul-le-mul_left zone_len more in
    let a : zone_len * suc (suc z) ≡ zone_len * suc z + zone_len = mul-suc zone_len (suc z) in
    let b : zone_len * suc z ≡ zone_len * z + zone_len = mul-suc zone_len z in
    let d : zone_len * count ≡ count * zone_len = mul_comm zone_len count in
    let f : count * zone_len < rows + zone_len = c.1 in
    omega arith
  where
    below : nat_lt (suc z) count ≡ true → suc (suc z) ≤ count
    below e = grind (arith, nat_tests)
counted zone_len rows count z c l false e =
    let last : count ≡ suc z = ends e in
    let a : count * zone_len ≡ zone_len * suc z = ap (λ n. n * zone_len) last ∙ mul_comm (suc z) zone_len in
    let b : zone_len * suc z ≡ zone_len * z + zone_len = mul-suc zone_len z in
    let f : rows ≤ count * zone_len = c.0 in
    omega arith
  where
    ends : nat_lt (suc z) count ≡ false → count ≡ suc z
    ends e = grind (arith, nat_tests)

pub rows_counted : (m : ZoneMap) (vs : List ValueData) → m.row_count ≡ length vs → IsZoneCount m.row_count m.zone_len (length m.zones) → (z : ℕ) → z < length m.zones
    → zone_rows m z ≡ length (zone_at m.zone_len vs z)
rows_counted m vs e c z l =
    counted m.zone_len m.row_count (length m.zones) z c l (nat_lt (suc z) (length m.zones)) refl
    ∙ ap (λ n. min m.zone_len (n - m.zone_len * z)) e ∙ sym (length_zone m.zone_len vs z)

-- all zones but the last lie within the rows
pub counts_fit : (zone_len rows count : ℕ) → IsZoneCount rows zone_len count → zones_fit zone_len rows count ≡ true
counts_fit zone_len rows zero c = refl
counts_fit zone_len rows (suc n) c =
    let a : suc n * zone_len ≡ zone_len * suc n = mul_comm (suc n) zone_len in
    let b : zone_len * suc n ≡ zone_len * n + zone_len = mul-suc zone_len n in
    let f : suc n * zone_len < rows + zone_len = c.1 in
    capped (zone_len * n) (omega arith)
  where
    capped : (k : ℕ) → k ≤ rows → nat_le (min k (2 ^ 64 - 1)) rows ≡ true
    capped k l = grind (arith, nat_tests)

-- ---- which zones are skipped

-- a flag is that of the row at its place
pub skip_at : (hash : List ℕ → ℕ) (m : ZoneMap) (p : Predicate) (k : ℕ) (rows : List ValueData) (z : ℕ) (b : Bool) → element (skips_from hash m p k rows) z ≡ Some b
    → (row : ValueData) × (element rows z ≡ Some row) × (falsified hash m.column p (record_of m row) (zone_rows m (k + z)) ≡ b)
skip_at hash m p k [] z b e = absurd cc
skip_at hash m p k (row ∷ rows) zero b e =
    let here : k + 0 ≡ k = omega arith in
    let same : falsified hash m.column p (record_of m row) (zone_rows m k) ≡ b = cc in
    (row, refl, ap (λ n. falsified hash m.column p (record_of m row) (zone_rows m n)) here ∙ same)
skip_at hash m p k (row ∷ rows) (suc z) b e =
    let r : (x : ValueData) × (element rows z ≡ Some x) × (falsified hash m.column p (record_of m x) (zone_rows m (suc k + z)) ≡ b) = skip_at hash m p (suc k) rows z b e in
    let next : k + suc z ≡ suc k + z = omega arith in
    (r.0, r.1, ap (λ n. falsified hash m.column p (record_of m r.0) (zone_rows m n)) next ∙ r.2)

pub element_below : {A : Type 0} (xs : List A) (z : ℕ) (x : A) → element xs z ≡ Some x → z < length xs
element_below [] z x e = absurd cc
element_below (y ∷ ys) zero x e = omega arith
element_below (y ∷ ys) (suc z) x e = let l : z < length ys = element_below ys z x e in omega arith

-- ---- no row is lost

matching-append : (p : Predicate) (vs ws : List ValueData) → matching p (vs ++ ws) ≡ matching p vs ++ matching p ws
matching-append p [] ws = refl
matching-append p (v ∷ vs) ws = go (is_true (says p v)) (matching-append p vs ws)
  where
    go : (b : Bool) → matching p (vs ++ ws) ≡ matching p vs ++ matching p ws
        → (if b then v ∷ matching p (vs ++ ws) else matching p (vs ++ ws)) ≡ (if b then v ∷ matching p vs else matching p vs) ++ matching p ws
    go true r = ap (λ z. v ∷ z) r
    go false r = r

is_true_of : (o : Option Bool) → is_true o ≡ true → o ≡ Some true
is_true_of (Some true) e = refl
is_true_of (Some false) e = cc
is_true_of None e = cc

none_match : (p : Predicate) (vs : List ValueData) → ((v : ValueData) → In v vs → says p v ≡ Some true → ⊥) → matching p vs ≡ []
none_match p [] h = refl
none_match p (v ∷ vs) h = go (is_true (says p v)) refl (none_match p vs (λ w i. h w (inr i)))
  where
    go : (b : Bool) → is_true (says p v) ≡ b → matching p vs ≡ [] → (if b then v ∷ matching p vs else matching p vs) ≡ []
    go true e r = absurd (h v (inl refl) (is_true_of (says p v) e))
    go false e r = r

-- The zones being all zones of the rows, and no row of a skipped one matching.
pub none_lost : (p : Predicate) (zone_len : ℕ) (skips : List Bool) (vs : List ValueData) → length vs ≤ length skips * zone_len
    → ((z : ℕ) → element skips z ≡ Some true → (v : ValueData) → In v (zone_at zone_len vs z) → says p v ≡ Some true → ⊥)
    → matching p (unskipped zone_len skips vs) ≡ matching p vs
none_lost p zone_len [] [] l h = refl
none_lost p zone_len [] (v ∷ vs) l h = absurd (omega arith)
none_lost p zone_len (b ∷ skips) vs l h =
    let a : length (drop zone_len vs) ≡ length vs - zone_len = length-drop zone_len vs in
    let m : suc (length skips) * zone_len ≡ length skips * zone_len + zone_len = suc-mul (length skips) zone_len in
    go b (λ e. h 0 (ap Some e)) (none_lost p zone_len skips (drop zone_len vs) (omega arith) (λ z e v i. h (suc z) e v (subst (In v) (sym (zone_suc zone_len vs z)) i)))
  where
    whole : matching p (take zone_len vs) ++ matching p (drop zone_len vs) ≡ matching p vs
    whole = sym (matching-append p (take zone_len vs) (drop zone_len vs)) ∙ ap (matching p) (take-append-drop zone_len vs)

    go : (b : Bool) → (b ≡ true → (v : ValueData) → In v (zone_at zone_len vs 0) → says p v ≡ Some true → ⊥)
        → matching p (unskipped zone_len skips (drop zone_len vs)) ≡ matching p (drop zone_len vs)
        → matching p (if b then unskipped zone_len skips (drop zone_len vs) else take zone_len vs ++ unskipped zone_len skips (drop zone_len vs)) ≡ matching p vs
    go true k rest = rest ∙ ap (λ r. r ++ matching p (drop zone_len vs)) (sym (none_match p (take zone_len vs) (λ v i. k refl v (subst (In v) (sym (zone_zero zone_len vs)) i)))) ∙ whole
    go false k rest = matching-append p (take zone_len vs) (unskipped zone_len skips (drop zone_len vs)) ∙ ap (λ r. matching p (take zone_len vs) ++ r) rest ∙ whole
