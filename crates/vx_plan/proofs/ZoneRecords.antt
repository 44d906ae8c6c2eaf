-- The records of zones are of the rows of the zones.
use Rattle.std.proofs.Common.{◌≡◌, ℕ, zero, suc, ◌+◌, ◌*◌, ◌<◌, ◌≤◌, Bool, true, false, List, [], ◌∷◌, ◌++◌, length, take, drop, refl, sym, ap, ap₂, ◌∙◌, arith}
use Rattle.std.specs.Prelude.{if◌then◌else◌, nat_lt}
use Rattle.std.proofs.lemmas.List.{append-nil, length-map}
use Rattle.std.proofs.lemmas.Bool.Decides.{nat_tests}
use Rattle.std.proofs.Math.Nat.{suc-mul}
use Rattle.vx_model.specs.Ty.{Ty}
use Rattle.vx_model.specs.ValueData.{value}
use Rattle.vx_model.specs.ChunkData.{cells, row_values}
use Rattle.vx_aggregate_spec.specs.Aggregate.{Column}
use Rattle.vx_zone_spec.specs.Record.{zone_record}
use Rattle.vx_plan.specs.PlanData.{Setting, Item, Fault, stream_values, row_total}
use Rattle.vx_plan.specs.ZonedNode.{recorded, is_no_zone, cut_fault, cut_faults, zone_faults, zone_records}
use Rattle.vx_plan.specs.ZonesHold.{zones_of, records_of, IsZoneCount}
use Rattle.vx_plan.specs.Statements.{RecordsAreOfZones}

take_front : {A : Type 0} (front back : List A) (n : ℕ) → length front ≡ n → take n (front ++ back) ≡ front
take_front [] back zero e = refl
take_front [] back (suc n) e = absurd (omega arith)
take_front (x ∷ front) back zero e = absurd (omega arith)
take_front (x ∷ front) back (suc n) e = ap (λ z. x ∷ z) (take_front front back n (omega arith))

drop_front : {A : Type 0} (front back : List A) (n : ℕ) → length front ≡ n → drop n (front ++ back) ≡ back
drop_front [] back zero e = refl
drop_front [] back (suc n) e = absurd (omega arith)
drop_front (x ∷ front) back zero e = absurd (omega arith)
drop_front (x ∷ front) back (suc n) e = drop_front front back n (omega arith)

take_all : {A : Type 0} (xs : List A) (n : ℕ) → length xs ≤ n → take n xs ≡ xs
take_all [] zero l = refl
take_all [] (suc n) l = refl
take_all (x ∷ xs) zero l = absurd (omega arith)
take_all (x ∷ xs) (suc n) l = ap (λ z. x ∷ z) (take_all xs n (omega arith))

-- a chunk that is a zone has at most the zone's rows, and as many where another follows
few : (zone n : ℕ) → is_no_zone zone n ≡ false → n ≤ zone
few zone n h = grind (arith, nat_tests)

whole_zone : (zone n : ℕ) → is_no_zone zone n ≡ false → nat_lt n zone ≡ false → n ≡ zone
whole_zone zone n h g = grind (arith, nat_tests)

some_rows : (zone n : ℕ) → is_no_zone zone n ≡ false → 0 < n
some_rows zone n h = grind (arith, nat_tests)

-- what a stream without this fault tells of its first chunk
no_fault : (b : Bool) (n : ℕ) (path : List ℕ) (fs : List Fault) → (if b then cut_fault n path else fs) ≡ [] → (b ≡ false) × (fs ≡ [])
no_fault true n path fs h = cc
no_fault false n path fs h = (refl, h)

pub one_right : (zone : ℕ) (c : Item) → cut_faults zone (c ∷ []) ≡ [] → is_no_zone zone (length (cells c.1)) ≡ false
one_right zone c h = (no_fault (is_no_zone zone (length (cells c.1))) (length (cells c.1)) c.0 [] h).0

pub record Right (zone : ℕ) (c d : Item) (cs : List Item) : Type 0 where
  pub some : is_no_zone zone (length (cells c.1)) ≡ false
  pub full : nat_lt (length (cells c.1)) zone ≡ false
  pub others : cut_faults zone (d ∷ cs) ≡ []

pub more_right : (zone : ℕ) (c d : Item) (cs : List Item) → cut_faults zone (c ∷ d ∷ cs) ≡ [] → Right zone c d cs
more_right zone c d cs h =
    let rest : List Fault = if nat_lt (length (cells c.1)) zone then cut_fault (length (cells c.1)) d.0 else cut_faults zone (d ∷ cs) in
    let a : (is_no_zone zone (length (cells c.1)) ≡ false) × (rest ≡ []) = no_fault (is_no_zone zone (length (cells c.1))) (length (cells c.1)) c.0 rest h in
    let b : (nat_lt (length (cells c.1)) zone ≡ false) × (cut_faults zone (d ∷ cs) ≡ []) = no_fault (nat_lt (length (cells c.1)) zone) (length (cells c.1)) d.0 (cut_faults zone (d ∷ cs)) a.1 in
    record { some = a.0; full = b.0; others = b.1 }

pub zones_right : (s : Setting) (t : Ty) (columns : List Column) (zone : ℕ) (items : List Item) → cut_faults zone items ≡ []
    → zone_records s t columns items ≡ records_of s t columns (zones_of (length items) zone (stream_values items))
zones_right s t columns zone [] h = refl
zones_right s t columns zone (c ∷ []) h =
    let w : is_no_zone zone (length (cells c.1)) ≡ false = one_right zone c h in
    let l : length (row_values c.1 ++ []) ≡ length (cells c.1) = ap length (append-nil (row_values c.1)) ∙ length-map (cells c.1) value in
    let k : length (cells c.1) ≤ zone = few zone (length (cells c.1)) w in
    ap (λ vs. zone_record s.hash t vs columns ∷ []) (sym (take_all (row_values c.1 ++ []) zone (omega arith) ∙ append-nil (row_values c.1)))
zones_right s t columns zone (c ∷ d ∷ cs) h =
    let w : Right zone c d cs = more_right zone c d cs h in
    let l : length (row_values c.1) ≡ zone = length-map (cells c.1) value ∙ whole_zone zone (length (cells c.1)) w.some w.full in
    ap₂ (λ vs rest. zone_record s.hash t vs columns ∷ rest) (sym (take_front (row_values c.1) (stream_values (d ∷ cs)) zone l))
    (zones_right s t columns zone (d ∷ cs) w.others ∙ ap (λ vs. records_of s t columns (zones_of (length (d ∷ cs)) zone vs)) (sym (drop_front (row_values c.1) (stream_values (d ∷ cs)) zone l)))

-- a chunk a zone
pub zones_count : (zone : ℕ) (c : Item) (cs : List Item) → cut_faults zone (c ∷ cs) ≡ [] → IsZoneCount (row_total (c ∷ cs)) zone (length (c ∷ cs))
zones_count zone c [] h =
    let w : is_no_zone zone (length (cells c.1)) ≡ false = one_right zone c h in
    let k : length (cells c.1) ≤ zone = few zone (length (cells c.1)) w in
    let p : 0 < length (cells c.1) = some_rows zone (length (cells c.1)) w in
    (omega arith, omega arith)
zones_count zone c (d ∷ cs) h =
    let w : Right zone c d cs = more_right zone c d cs h in
    let l : length (cells c.1) ≡ zone = whole_zone zone (length (cells c.1)) w.some w.full in
    let r : IsZoneCount (row_total (d ∷ cs)) zone (length (d ∷ cs)) = zones_count zone d cs w.others in
    let m : length (c ∷ d ∷ cs) * zone ≡ length (d ∷ cs) * zone + zone = suc-mul (length (d ∷ cs)) zone in
    (let a : row_total (d ∷ cs) ≤ length (d ∷ cs) * zone = r.0 in omega arith, let b : length (d ∷ cs) * zone < row_total (d ∷ cs) + zone = r.1 in omega arith)

pub records_are_of_zones : RecordsAreOfZones
records_are_of_zones s o t items some h = go (recorded o t) some h
  where
    go : (columns : List Column) → 0 < length columns → zone_faults o.zone_len columns items ≡ []
        → zone_records s t columns items ≡ records_of s t columns (zones_of (length items) o.zone_len (stream_values items))
    go [] n h = absurd (omega arith)
    go (a ∷ columns) n h = zones_right s t (a ∷ columns) o.zone_len items h
