-- What a move refuses and counts, against the plan.
use Rattle.std.proofs.Common.{◌≡◌, ◌+◌, ◌≤◌, ◌∷◌, ◌++◌, ◌∙◌, ℕ, true, List, length, refl, sym, ap, subst, arith, append-nil, []}
use Rattle.vx_model.specs.Ty.{Ty, ty_eq}
use Rattle.vx_model.specs.TyLaws.{ty_eq_decides}
use Rattle.vx_model.specs.ChunkData.{ChunkData, piece_type}
use Rattle.vx_path.specs.Lists.{In}
use Rattle.vx_tasks.specs.Run.{Note}
use Rattle.vx_plan.specs.PlanData.{Pair, Plan}
use Rattle.vx_plan.specs.SourcePlan.{source_plan, of_schema}
use Rattle.vx_plan.specs.Valid.{OfSchema}
use Rattle.vx_machine_turns.specs.Acts.{raised_in, lowered_in}
use Rattle.vx_machine_turns.specs.Readings.{fault_reading, number_reading, index_reading, start_reading, raise_reading}
use Rattle.vx_machine_turns.specs.Forms.{form_nodes}
use Rattle.vx_machine_turns.proofs.WholeLaws.{root_is_source}
use Rattle.vx_strategy_spec.specs.Walk.{walk}
use Rattle.vx_named_tasks.specs.Names.{Outset, root_outset, CanBegin}
use Rattle.vx_named_tasks.proofs.NamedLaws.{root_begins}
use Rattle.vx_machine_steps.specs.Tree.{read}
use Rattle.vx_machine_steps.specs.Moves.{TreeMove, all_paths}
use Rattle.vx_machine_steps.specs.Runs.{acts_of, done}
use Rattle.vx_machine_steps.specs.Stands.{Stands}
use Rattle.vx_machine_steps.specs.StartPlanned.{IsPlannedAt}
use Rattle.vx_machine_steps.proofs.Births.{births_within, start_opens}
use Rattle.vx_machine_steps.proofs.Laws.{move_reads}
use Rattle.vx_machine_steps.proofs.Listed.{list_numbers, list_indices, refusals_within}
use Rattle.vx_machine_steps.proofs.StartPlanned.{start_at_is_planned, start_is_planned}
use Rattle.vx_machine_steps.proofs.Summed.{move_raised, sum_raised, raised_start}
use Rattle.vx_machine_promises.specs.Write.{Write, Future, depth, begin_at, planned_at}
use Rattle.vx_machine_promises.specs.Reached.{ReachedAt, moves_at}
use Rattle.vx_machine_promises.specs.Promises.{RefusesBy, RefusalsHaveCauseAt, RefusalsHaveCause, CountedBy, MovesAreCountedAt, MovesAreCounted, StartIsCountedAt, StartIsCounted, TakenIsPlanned}
use Rattle.vx_machine_promises.proofs.Standing.{at_start_at, runs_at, leads_at, reads_at}

module _ (g : Write) (o : Outset) (taken : List ChunkData) (f : Future) (seen : List Note) (history : List Pair) (tracker : ℕ) (r : ReachedAt g o taken f seen history tracker)
    (can : CanBegin o (length (taken ++ f.later))) where
  start : IsPlannedAt g.setting g.way g.type g.mark o (taken ++ f.later) f.fits (planned_at g o taken f)
  start = at_start_at g o taken f seen history tracker r can

  stands : Stands g.setting (depth g) r.tree
  stands = (leads_at g o taken f seen history tracker r can).2

  refuses_by : RefusesBy g (planned_at g o taken f) r.tree
  refuses_by m w i e = start.cause w (subst (λ z. In w z) (reads_at g o taken f seen history tracker r can fault_reading) (refusals_within g.setting (depth g) r.tree m w stands i e))

  module _ (m : TreeMove) (i : In m (moves_at g r.tree)) where
    -- what it would raise is part of what all raise
    fits_in : raised_in (acts_of r.moves) + m.act.raises ≤ (planned_at g o taken f).reserved
    fits_in =
        let a : done raised_in r.tree ≡ done raised_in (begin_at g o taken f) + raised_in (acts_of r.moves) =
        sum_raised.grows g.setting (depth g) (begin_at g o taken f) r.tree r.moves (runs_at g o taken f seen history tracker r can) in
        let b : done raised_in (begin_at g o taken f) ≡ 0 = raised_start (depth g) (walk form_nodes g.way g.type) g.mark o (taken ++ f.later) f.fits in
        let c : done raised_in m.after ≡ done raised_in r.tree + m.act.raises = move_raised g.setting (all_paths r.tree) (depth g) r.tree m i in
        let d : done raised_in m.after ≤ read g.setting raise_reading (depth g) 0 [] m.after = sum_raised.within g.setting (depth g) m.after in
        let e : read g.setting raise_reading (depth g) 0 [] m.after ≡ (planned_at g o taken f).reserved = move_reads g.setting raise_reading (depth g) r.tree m stands i
        ∙ reads_at g o taken f seen history tracker r can raise_reading ∙ start.raises in
        omega (arith, a, b, c, d, e)

    counted_by : CountedBy g (planned_at g o taken f) tracker m
    counted_by = record {
      numbers = λ n k. start.numbers n (subst (λ z. In n z) (reads_at g o taken f seen history tracker r can number_reading) (list_numbers g.setting (depth g) r.tree m stands i n k));
      indices = λ n k. start.indices n (subst (λ z. In n z) (reads_at g o taken f seen history tracker r can index_reading) (list_indices g.setting (depth g) r.tree m stands i n k));
      births = λ n k. start.starts n (subst (λ z. In n z) (reads_at g o taken f seen history tracker r can start_reading) (births_within g.setting (depth g) r.tree m stands i n k));
      tracked = let b : tracker + lowered_in (acts_of r.moves) ≡ g.tracker + raised_in (acts_of r.moves) = r.tracked in omega (arith, fits_in, b);
    }

pub refusals_have_cause_at : (o : Outset) → RefusalsHaveCauseAt o
refusals_have_cause_at o g taken f seen history tracker r can m w i e = refuses_by g o taken f seen history tracker r can m w i e

pub moves_are_counted_at : (o : Outset) → MovesAreCountedAt o
moves_are_counted_at o g taken f seen history tracker r can m i = counted_by g o taken f seen history tracker r can m i

pub start_is_counted_at : (o : Outset) → StartIsCountedAt o
start_is_counted_at o g f n can i = (start_at_is_planned g.setting g.way g.type g.mark o f.later f.fits can).starts n
    (start_opens g.setting (depth g) (walk form_nodes g.way g.type) g.mark o f.later f.fits n i)

-- ---- a whole write

pub refusals_have_cause : RefusalsHaveCause
refusals_have_cause g taken f seen history tracker r =
    subst (λ (p : Plan). RefusesBy g p r.tree) (root_is_source g.setting g.way g.type g.mark (taken ++ f.later) f.fits)
    (refusals_have_cause_at root_outset g taken f seen history tracker r (root_begins (length (taken ++ f.later))))

pub counted : MovesAreCounted
counted g taken f seen history tracker r m i =
    subst (λ (p : Plan). CountedBy g p tracker m) (root_is_source g.setting g.way g.type g.mark (taken ++ f.later) f.fits)
    (moves_are_counted_at root_outset g taken f seen history tracker r (root_begins (length (taken ++ f.later))) m i)

pub moves_are_counted : MovesAreCounted
moves_are_counted = counted

pub start_is_counted : StartIsCounted
start_is_counted g f n i = (start_is_planned g.setting g.way g.type g.mark f.later f.fits).starts n
    (start_opens g.setting (depth g) (walk form_nodes g.way g.type) g.mark root_outset f.later f.fits n i)

-- the batches taken are all of the type

all_of_schema : (t : Ty) (bs : List ChunkData) → OfSchema t bs → of_schema t bs ≡ bs
all_of_schema t [] h = refl
all_of_schema t (b ∷ bs) (e, h) = let k : ty_eq (piece_type b) t ≡ true = (ty_eq_decides (piece_type b) t).1 e in rw k (ap (λ z. b ∷ z) (all_of_schema t bs h))

pub taken_is_planned : TakenIsPlanned
taken_is_planned g taken heard h = ap (λ z. source_plan g.setting g.way g.type g.mark z heard) (append-nil taken ∙ sym (all_of_schema g.type taken h))
