-- The start, against the plan of its batches.
use Rattle.std.proofs.Common.{◌≡◌, ℕ, ◌+◌, Bool, true, false, List, [], ◌++◌, length, None, refl, sym, ap, ◌∙◌, subst, arith, append-nil}
use Rattle.std.specs.Prelude.{if◌then◌else◌, Some}
use Rattle.std.proofs.lemmas.Bool.{true≢false}
use Rattle.vx_layout_spec.specs.LayoutTree.{LayoutData}
use Rattle.vx_model.specs.Ty.{Ty}
use Rattle.vx_model.specs.ChunkData.{ChunkData}
use Rattle.vx_path.specs.Lists.{In}
use Rattle.vx_path.specs.Path.{Scattered, Before}
use Rattle.vx_tasks.specs.Rules.{KeepsRules, KeepsOrder, Rises, names}
use Rattle.vx_named_tasks.specs.Names.{Outset, root_outset, CanBegin}
use Rattle.vx_named_tasks.proofs.NamedLaws.{root_begins}
use Rattle.vx_strategy_spec.specs.StrategyData.{StrategyData}
use Rattle.vx_strategy_spec.specs.Walk.{walk}
use Rattle.vx_plan.specs.PlanData.{Setting, places}
use Rattle.vx_plan.proofs.Spots.{Apart}
use Rattle.vx_plan.proofs.SourceLaws.{plan_placed}
use Rattle.vx_machine_turns.specs.Forms.{form_nodes}
use Rattle.vx_machine_turns.specs.Acts.{passes, wrote, first_refusal, shape_in, numbers_in, indices_in, raised_in, lowered_in}
use Rattle.vx_machine_turns.specs.Fuels.{Fuel, fuel, fuel_of, whole_fuel}
use Rattle.vx_machine_turns.specs.Readings.{Reading, shaped, pair_reading, fault_reading, layout_reading, number_reading, index_reading, start_reading, raise_reading, lower_reading}
use Rattle.vx_machine_turns.specs.Plain.{script_reading}
use Rattle.vx_machine_turns.specs.Source.{named_acts, named_items, seed_at, stream_plan}
use Rattle.vx_machine_turns.specs.Whole.{below_source, Silent, MeetsAll}
use Rattle.vx_machine_turns.proofs.Fueled.{fuel_is_enough}
use Rattle.vx_machine_turns.proofs.StartLaws.{start_faults_agree}
use Rattle.vx_machine_turns.proofs.WholeLaws.{source_is_silent, machine_is_planned, machine_is_good, places_are, root_is_source}
use Rattle.vx_machine_steps.specs.Tree.{read}
use Rattle.vx_machine_steps.specs.Laws.{OneEach}
use Rattle.vx_machine_steps.specs.StartPlanned.{started_at, forest_at, IsPlannedAt, StartAtIsPlanned, StartIsPlanned}
use Rattle.vx_machine_steps.proofs.Start.{start_at_reads}
use Rattle.vx_machine_steps.proofs.Sorted.{scattered_is_one}
use Rattle.vx_machine_steps.proofs.Standing.{start_stands}

-- the fuel below the source
abbrev root_fuel : StrategyData → Ty → Fuel
root_fuel w t = fuel (λ u. fuel_of (walk form_nodes w t))

module _ (s : Setting) (w : StrategyData) (t : Ty) (m : Bool) (o : Outset) (bs : List ChunkData) (fits : Bool) (b : CanBegin o (length bs)) where
  -- what is read off the start: the source's acts, the root's, and what is below it
  reads : {F : Type 0} (v : Reading F) → read s v (whole_fuel (walk form_nodes w t)) 0 [] (started_at w t m o bs fits)
      ≡ v.make (seed_at (walk form_nodes w t) m o) (named_acts o.names bs fits) (below_source s v (root_fuel w t) (walk form_nodes w t) m o bs fits) v.none
  reads v = start_at_reads v s (whole_fuel (walk form_nodes w t)) (walk form_nodes w t) m o bs fits

  meets : MeetsAll s (root_fuel w t) (walk form_nodes w t) m o bs fits (stream_plan s w t m o bs fits)
  meets = machine_is_planned s w t m o bs fits (root_fuel w t) (fuel_is_enough w t).1

  silent : Silent (named_acts o.names bs fits) fits
  silent = (source_is_silent o.names bs fits).0

  good : KeepsRules (forest_at s w t m o bs fits) × KeepsOrder (forest_at s w t m o bs fits) × Rises (names (forest_at s w t m o bs fits))
  good = subst (λ z. KeepsRules z × KeepsOrder z × Rises (names z)) (sym (reads script_reading)) (machine_is_good s w t m o bs fits (root_fuel w t) (fuel_is_enough w t).1 b)

  -- a list that is joined along the tree: the source's part is empty
  joins : {A : Type 0} (own below : List A) → own ≡ [] → own ++ (below ++ []) ≡ below
  joins own below e = rw e (append-nil below)

  adds : (own below : ℕ) → own ≡ 0 → own + (below + 0) ≡ below
  adds own below e = omega (arith, e)

  pairs_are : read s pair_reading (whole_fuel (walk form_nodes w t)) 0 [] (started_at w t m o bs fits) ≡ (stream_plan s w t m o bs fits).pairs
  pairs_are = reads pair_reading
      ∙ joins (wrote (named_acts o.names bs fits)) (below_source s pair_reading (root_fuel w t) (walk form_nodes w t) m o bs fits) silent.mute ∙ meets.pairs

  faults_are : read s fault_reading (whole_fuel (walk form_nodes w t)) 0 [] (started_at w t m o bs fits)
      ≡ below_source s fault_reading (root_fuel w t) (walk form_nodes w t) m o bs fits
  faults_are = reads fault_reading ∙ joins (first_refusal (named_acts o.names bs fits)) (below_source s fault_reading (root_fuel w t) (walk form_nodes w t) m o bs fits) silent.clean

  numbers_are : read s number_reading (whole_fuel (walk form_nodes w t)) 0 [] (started_at w t m o bs fits)
      ≡ below_source s number_reading (root_fuel w t) (walk form_nodes w t) m o bs fits
  numbers_are = reads number_reading ∙ joins (numbers_in (named_acts o.names bs fits)) (below_source s number_reading (root_fuel w t) (walk form_nodes w t) m o bs fits) silent.uncounted

  starts_are : read s start_reading (whole_fuel (walk form_nodes w t)) 0 [] (started_at w t m o bs fits)
      ≡ below_source s start_reading (root_fuel w t) (walk form_nodes w t) m o bs fits
  starts_are = reads start_reading ∙ joins [] (below_source s start_reading (root_fuel w t) (walk form_nodes w t) m o bs fits) refl

  indices_are : read s index_reading (whole_fuel (walk form_nodes w t)) 0 [] (started_at w t m o bs fits)
      ≡ indices_in (named_acts o.names bs fits) ++ below_source s index_reading (root_fuel w t) (walk form_nodes w t) m o bs fits
  indices_are = reads index_reading ∙ ap (λ z. indices_in (named_acts o.names bs fits) ++ z) (append-nil (below_source s index_reading (root_fuel w t) (walk form_nodes w t) m o bs fits))

  hands_on : (own : List (LayoutData (List ℕ))) → fits ≡ true → shaped (shape_in (named_acts o.names bs fits)) own ≡ own
  hands_on own e = ap (λ z. shaped z own) silent.passing ∙ by fits e
    where
      by : (c : Bool) → c ≡ true → shaped (if c then Some passes else None) own ≡ own
      by true e = refl
      by false e = absurd (true≢false (sym e))

  apart : Apart (places (named_items o.names bs)) o.eof
  apart = record {
    scattered = subst (λ z. Scattered z) (sym (places_are o.names bs)) b.apart;
    off = λ p i j. (subst (λ z. Before z o.eof) (sym (places_are o.names bs)) b.before p i j).1;
  }

  planned : IsPlannedAt s w t m o bs fits (stream_plan s w t m o bs fits)
  planned = record {
    stands = (start_stands s (whole_fuel (walk form_nodes w t)) (walk form_nodes w t) m o bs fits good.0).0;
    order = good.1;
    rises = good.2;
    zeros = (start_stands s (whole_fuel (walk form_nodes w t)) (walk form_nodes w t) m o bs fits good.0).1;
    pairs = pairs_are;
    one = subst OneEach (sym pairs_are) (scattered_is_one (stream_plan s w t m o bs fits).pairs
        ((plan_placed s w t).placed m (named_items o.names bs) fits o.eof apart).scattered);
    cause = λ x i. meets.cause x (subst (λ z. In x z) faults_are i);
    clean = λ e n. meets.clean (sym faults_are ∙ e) (start_faults_agree s w t m ∙ n);
    layout = λ e n. reads layout_reading
        ∙ append-nil (shaped (shape_in (named_acts o.names bs fits)) (below_source s layout_reading (root_fuel w t) (walk form_nodes w t) m o bs fits))
        ∙ hands_on (below_source s layout_reading (root_fuel w t) (walk form_nodes w t) m o bs fits) e ∙ meets.layout e n;
    numbers = λ n i. meets.numbers n (subst (λ z. In n z) numbers_are i);
    indices = λ n i. meets.indices n (subst (λ z. In n z) indices_are i);
    starts = λ n i. meets.starts n (subst (λ z. In n z) starts_are i);
    raises = reads raise_reading ∙ adds (raised_in (named_acts o.names bs fits)) (below_source s raise_reading (root_fuel w t) (walk form_nodes w t) m o bs fits) silent.unraised ∙ meets.raises;
    lowers = λ e. reads lower_reading ∙ adds (lowered_in (named_acts o.names bs fits)) (below_source s lower_reading (root_fuel w t) (walk form_nodes w t) m o bs fits) silent.unlowered ∙ meets.lowers e;
  }

pub start_at_is_planned : StartAtIsPlanned
start_at_is_planned s w t m o bs fits b = planned s w t m o bs fits b

pub start_is_planned : StartIsPlanned
start_is_planned s w t m bs fits = subst (λ p. IsPlannedAt s w t m root_outset bs fits p) (root_is_source s w t m bs fits) (planned s w t m root_outset bs fits (root_begins (length bs)))
