-- The guard of zones against a zoned node's turn and against the plan.
use Rattle.std.proofs.Common.{◌≡◌, ℕ, Bool, true, false, List, [], ◌∷◌, length, Some, None, refl, sym, ap, ◌∙◌, arith}
use Rattle.std.specs.Prelude.{if◌then◌else◌, nat_lt}
use Rattle.std.proofs.lemmas.Bool.Decides.{nat_tests}
use Rattle.vx_model.specs.Ty.{Ty}
use Rattle.vx_model.specs.ValueData.{ValueData}
use Rattle.vx_model.specs.ChunkData.{cells}
use Rattle.vx_aggregate_spec.specs.Aggregate.{Column}
use Rattle.vx_zone_spec.specs.ZoneTable.{kept_columns}
use Rattle.vx_plan.specs.PlanData.{Setting, Item, zone_cut, rows_in}
use Rattle.vx_plan.specs.SourcePlan.{first_what}
use Rattle.vx_plan.specs.ZonedNode.{recorded, is_no_zone, cut_fault, cut_faults, zone_faults, zone_records}
use Rattle.vx_machine_turns.specs.Acts.{or_else}
use Rattle.vx_turn_laws.specs.Guard.{Guard, first_refused, told_zones}
use Rattle.vx_turn_laws.specs.Statements.{ZonedTurnsGuard, GuardsArePlanned}

pub zoned_turns_guard : ZonedTurnsGuard
zoned_turns_guard s n records last zones rows i = record { refuses = refl; holds = refl; gives = refl }

abbrev guarding : Ty → ℕ → List Column → ℕ → Guard
guarding t zone columns last = record { typed = t; zone_len = zone; columns = columns; last = last }

-- ---- what is refused first

unrecorded : (t : Ty) (zone last : ℕ) (items : List Item) → first_refused (guarding t zone [] last) items ≡ None
unrecorded t zone last [] = refl
unrecorded t zone last (i ∷ is) = unrecorded t zone (rows_in i.1) is

-- behind a chunk that isn't shorter
cut_first : (t : Ty) (zone : ℕ) (a : Column) (columns : List Column) (last : ℕ) (items : List Item) → nat_lt last zone ≡ false
    → first_refused (guarding t zone (a ∷ columns) last) items ≡ first_what (cut_faults zone items)
cut_first t zone a columns last [] h = refl
cut_first t zone a columns last (c ∷ []) h = rw h (go (is_no_zone zone (length (cells c.1))))
  where
    go : (b : Bool) → or_else (if b then Some (zone_cut (length (cells c.1))) else None) None ≡ first_what (if b then cut_fault (length (cells c.1)) c.0 else [])
    go true = refl
    go false = refl
cut_first t zone a columns last (c ∷ d ∷ cs) h = rw h (go (is_no_zone zone (length (cells c.1))) (nat_lt (length (cells c.1)) zone) refl (cut_first t zone a columns (length (cells c.1)) (d ∷ cs)))
  where
    go : (b x : Bool) → nat_lt (length (cells c.1)) zone ≡ x
        → (nat_lt (length (cells c.1)) zone ≡ false → first_refused (guarding t zone (a ∷ columns) (length (cells c.1))) (d ∷ cs) ≡ first_what (cut_faults zone (d ∷ cs)))
        → or_else (if b then Some (zone_cut (length (cells c.1))) else None) (first_refused (guarding t zone (a ∷ columns) (length (cells c.1))) (d ∷ cs))
        ≡ first_what (if b then cut_fault (length (cells c.1)) c.0 else if x then cut_fault (length (cells c.1)) d.0 else cut_faults zone (d ∷ cs))
    go true x q ih = refl
    go false false q ih = ih q
    go false true q ih = rw q refl

same_not_less : (z : ℕ) → nat_lt z z ≡ false
same_not_less z = grind (arith, nat_tests)

refuses_first : (t : Ty) (zone : ℕ) (columns : List Column) (items : List Item) → first_refused (guarding t zone columns zone) items ≡ first_what (zone_faults zone columns items)
refuses_first t zone [] items = unrecorded t zone zone items
refuses_first t zone (a ∷ columns) items = cut_first t zone a columns zone items (same_not_less zone)

-- ---- what is recorded

untold : (hash : List ℕ → ℕ) (t : Ty) (zone last : ℕ) (items : List Item) → told_zones hash (guarding t zone [] last) items ≡ []
untold hash t zone last [] = refl
untold hash t zone last (i ∷ is) = untold hash t zone (rows_in i.1) is

no_columns : (records : List (List ValueData)) → kept_columns [] records ≡ None
no_columns [] = refl
no_columns (r ∷ records) = refl

told_all : (s : Setting) (t : Ty) (zone : ℕ) (a : Column) (columns : List Column) (last : ℕ) (items : List Item)
    → told_zones s.hash (guarding t zone (a ∷ columns) last) items ≡ zone_records s t (a ∷ columns) items
told_all s t zone a columns last [] = refl
told_all s t zone a columns last (i ∷ is) = cc (told_all s t zone a columns (rows_in i.1) is)

records_kept : (s : Setting) (t : Ty) (zone : ℕ) (columns : List Column) (items : List Item)
    → kept_columns columns (told_zones s.hash (guarding t zone columns zone) items) ≡ kept_columns columns (zone_records s t columns items)
records_kept s t zone [] items = no_columns (told_zones s.hash (guarding t zone [] zone) items) ∙ sym (no_columns (zone_records s t [] items))
records_kept s t zone (a ∷ columns) items = ap (λ z. kept_columns (a ∷ columns) z) (told_all s t zone a columns zone items)

pub guards_are_planned : GuardsArePlanned
guards_are_planned s o t items = record {
  refuses = refuses_first t o.zone_len (recorded o t) items;
  table = records_kept s t o.zone_len (recorded o t) items;
}
