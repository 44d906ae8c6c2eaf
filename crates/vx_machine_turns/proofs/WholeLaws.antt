-- The source on its batches, the root on what it gives, and all below.
use Rattle.std.proofs.Common.{◌≡◌, ℕ, suc, ◌+◌, ◌≤◌, inl, inr, ⊎_elim, Bool, true, false, not, List, [], ◌∷◌, ◌++◌, length, refl, sym, ap, ap₂, ◌∙◌, subst, arith}
use Rattle.std.proofs.lemmas.List.{append-nil}
use Rattle.vx_model.specs.Ty.{Ty}
use Rattle.vx_model.specs.Words.{tail}
use Rattle.vx_model.specs.ChunkData.{ChunkData}
use Rattle.vx_path.specs.Lists.{In}
use Rattle.vx_path.proofs.Lists.{in_cases, in_left, in_right}
use Rattle.vx_path.specs.Path.{Eof, next, root_eof, Before}
use Rattle.vx_tasks.specs.Task.{Action, Task, Forest}
use Rattle.vx_tasks.specs.Task.Prompt.{Batch}
use Rattle.vx_tasks.specs.Task.Kind.{Free}
use Rattle.vx_tasks.specs.Task.Forest.{Bare, Node}
use Rattle.vx_tasks.specs.Rules.{KeepsRules, KeepsOrder, Rises, names}
use Rattle.vx_tasks.specs.Nodes.{acts, puts}
use Rattle.vx_tasks.specs.Good.{Good}
use Rattle.vx_named_tasks.specs.Names.{Names, onward, handed, next_name, later_names, held_names, names_reach, paths_from, named_script, named_source, named_machine, Outset}
use Rattle.vx_named_tasks.proofs.NamedLaws.{named_sources_keep}
use Rattle.vx_strategy_spec.specs.Walk.{walk}
use Rattle.vx_plan.specs.PlanData.{Setting, Item, Plan, places}
use Rattle.vx_plan.specs.SourcePlan.{plan, batch_items}
use Rattle.vx_machine_turns.specs.Forms.{Form, form_nodes, form_type}
use Rattle.vx_machine_turns.specs.Acts.{close_queues, wrote, first_refusal, any_refuses, gifts, shut, shape_in, numbers_in, indices_in, raised_in, lowered_in}
use Rattle.vx_machine_turns.specs.Source.{named_acts, named_items, seed_at, reaching}
use Rattle.vx_machine_turns.specs.Fuels.{Fuel, spent, fuel}
use Rattle.vx_machine_turns.specs.Readings.{Reading, pair_reading, fault_reading, layout_reading, number_reading, index_reading, start_reading, raise_reading, lower_reading, shaped}
use Rattle.vx_machine_turns.specs.Turns.{start_indices}
use Rattle.vx_machine_turns.specs.Plain.{plain, task_of, script_reading}
use Rattle.vx_machine_turns.specs.Duties.{Duty, duty_of, duty_script, below}
use Rattle.vx_machine_turns.specs.Planned.{AtMost, Meets}
use Rattle.vx_machine_turns.specs.Whole.{below_source, Silent, SourceIsSilent, SourceIsTidy, MeetsAll, MachineIsPlanned, MachineIsGood, RootIsSource}
use Rattle.vx_machine_turns.proofs.DutyLaws.{row_is}
use Rattle.vx_machine_turns.proofs.Planned.{tasks_are_planned}
use Rattle.vx_machine_turns.proofs.TidyLaws.{still, put, shuts}
use Rattle.vx_machine_turns.proofs.Goods.{tasks_are_good}

-- ---- the source by itself

source_silent : (ns : Names) (bs : List ChunkData) (fits : Bool) → Silent (named_acts ns bs fits) fits
source_silent ns [] true = record { unborn = refl; mute = refl; clean = refl; passing = refl; uncounted = refl; unraised = refl; unlowered = refl }
source_silent ns [] false = record { unborn = refl; mute = refl; clean = refl; passing = refl; uncounted = refl; unraised = refl; unlowered = refl }
source_silent ns (b ∷ bs) fits = let h : Silent (named_acts (later_names ns) bs fits) fits = source_silent (later_names ns) bs fits in
    record { unborn = h.unborn; mute = h.mute; clean = h.clean; passing = h.passing; uncounted = h.uncounted; unraised = omega (arith, h.unraised); unlowered = omega (arith, h.unlowered) }

source_refuses : (ns : Names) (bs : List ChunkData) (fits : Bool) → any_refuses (named_acts ns bs fits) ≡ not fits
source_refuses ns [] true = refl
source_refuses ns [] false = refl
source_refuses ns (b ∷ bs) fits = source_refuses (later_names ns) bs fits

pub source_is_silent : SourceIsSilent
source_is_silent ns bs fits = (source_silent ns bs fits, source_refuses ns bs fits)

pub gives_batches : (ns : Names) (bs : List ChunkData) (fits : Bool) → gifts 0 (named_acts ns bs fits) ≡ named_items ns bs
gives_batches ns [] true = refl
gives_batches ns [] false = refl
gives_batches ns (b ∷ bs) fits = ap (λ (z : List Item). (next_name ns, b) ∷ z) (gives_batches (later_names ns) bs fits)

pub closes_root : (ns : Names) (bs : List ChunkData) (fits : Bool) → shut 0 (named_acts ns bs fits) ≡ fits
closes_root ns [] true = refl
closes_root ns [] false = refl
closes_root ns (b ∷ bs) fits = closes_root (later_names ns) bs fits

-- ids count nothing; a pointer comes as far as there are batches
no_index : (ps : List (List ℕ)) (bs : List ChunkData) (fits : Bool) (n : ℕ) → In n (indices_in (named_acts (handed ps) bs fits)) → ⊥
no_index ps [] true n i = i
no_index ps [] false n i = i
no_index [] (b ∷ bs) fits n i = no_index [] bs fits n i
no_index (p ∷ ps) (b ∷ bs) fits n i = no_index ps bs fits n i

pointer_comes : (here : Eof) (bs : List ChunkData) (fits : Bool) (n : ℕ) → In n (indices_in (named_acts (onward here) bs fits)) → n ≤ here.last + length bs
pointer_comes here [] true n i = absurd i
pointer_comes here [] false n i = absurd i
pointer_comes here (b ∷ bs) fits n (inl e) = omega (arith, e)
pointer_comes here (b ∷ bs) fits n (inr i) = let h : n ≤ (here.last + 1) + length bs = pointer_comes (next here) bs fits n i in omega (arith, h)

pub source_reaches : (ns : Names) (bs : List ChunkData) (fits : Bool) (n : ℕ) → In n (indices_in (named_acts ns bs fits)) → AtMost n (names_reach ns (length bs))
source_reaches (onward e) bs fits n i = (e.last + length bs, inl refl, pointer_comes e bs fits n i)
source_reaches (handed ps) bs fits n i = absurd (no_index ps bs fits n i)

-- at most one of the first numbers, or of the others
pub most_first : (n : ℕ) (ns ms : List ℕ) → AtMost n ns → AtMost n (ns ++ ms)
most_first n ns ms a = (a.0, in_left a.0 ns ms a.1, a.2)

pub most_second : (n : ℕ) (ns ms : List ℕ) → AtMost n ms → AtMost n (ns ++ ms)
most_second n ns ms a = (a.0, in_right a.0 ns ms a.1, a.2)

-- ---- the root and all below it

abbrev duty_at : Setting → Form → Bool → Outset → List ChunkData → Bool → Duty
duty_at s f m o bs fits = duty_of s f m (1 ∷ []) (named_items o.names bs) fits o.eof

module _ (s : Setting) (f : Form) (m : Bool) (o : Outset) (bs : List ChunkData) (fits : Bool) where
  one : {F : Type 0} (v : Reading F) (g : Ty → Fuel) → below_source s v (fuel g) f m o bs fits
      ≡ v.make (duty_at s f m o bs fits).seed (duty_script s (duty_at s f m o bs fits)) (below s v (g (form_type f)) (duty_at s f m o bs fits)) v.none
  one v g = row_is s v g 0 (named_acts o.names bs fits) (duty_at s f m o bs fits ∷ []) (gives_batches o.names bs fits, closes_root o.names bs fits, tt)

  behind : {A : Type 0} (xs ys : List A) → xs ++ (ys ++ []) ≡ xs ++ ys
  behind xs ys = ap (λ z. xs ++ z) (append-nil ys)

  meets_all : (g : Ty → Fuel) (p : Plan) → Meets s (g (form_type f)) (duty_at s f m o bs fits) p → MeetsAll s (fuel g) f m o bs fits (reaching (names_reach o.names (length bs)) p)
  meets_all g p h =
      let c : Duty = (duty_at s f m o bs fits) in
      let reach : List ℕ = names_reach o.names (length bs) in
      let faults : below_source s fault_reading (fuel g) f m o bs fits ≡ first_refusal (duty_script s c) ++ below s fault_reading (g (form_type f)) c
      = one fault_reading g ∙ behind (first_refusal (duty_script s c)) (below s fault_reading (g (form_type f)) c) in
      let numbers : below_source s number_reading (fuel g) f m o bs fits ≡ numbers_in (duty_script s c) ++ below s number_reading (g (form_type f)) c
      = one number_reading g ∙ behind (numbers_in (duty_script s c)) (below s number_reading (g (form_type f)) c) in
      let indices : below_source s index_reading (fuel g) f m o bs fits ≡ indices_in (duty_script s c) ++ below s index_reading (g (form_type f)) c
      = one index_reading g ∙ behind (indices_in (duty_script s c)) (below s index_reading (g (form_type f)) c) in
      let starts : below_source s start_reading (fuel g) f m o bs fits ≡ start_indices c.seed.local ++ below s start_reading (g (form_type f)) c
      = one start_reading g ∙ behind (start_indices c.seed.local) (below s start_reading (g (form_type f)) c) in
      record {
        pairs = one pair_reading g ∙ behind (wrote (duty_script s c)) (below s pair_reading (g (form_type f)) c) ∙ h.pairs;
        cause = λ w i. h.cause w (subst (λ z. In w z) faults i);
        clean = λ x y. h.clean (sym faults ∙ x) y;
        begins = h.begins;
        layout = λ x y. one layout_reading g ∙ append-nil (shaped (shape_in (duty_script s c)) (below s layout_reading (g (form_type f)) c)) ∙ h.layout x y;
        numbers = λ k i. in_right k reach p.numbers (h.numbers k (subst (λ z. In k z) numbers i));
        indices = λ k i. ⊎_elim (λ a. most_first k reach p.numbers (source_reaches o.names bs fits k a))
            (λ a. most_second k reach p.numbers (h.indices k (subst (λ z. In k z) indices a)))
            (in_cases k (indices_in (named_acts o.names bs fits)) (below_source s index_reading (fuel g) f m o bs fits) i);
        starts = λ k i. most_second k reach p.numbers (h.starts k (subst (λ z. In k z) starts i));
        raises = one raise_reading g ∙ no_rest (raised_in (duty_script s c)) (below s raise_reading (g (form_type f)) c) ∙ h.raises;
        lowers = λ x. one lower_reading g ∙ no_rest (lowered_in (duty_script s c)) (below s lower_reading (g (form_type f)) c) ∙ h.lowers x;
      }
    where
      no_rest : (a b : ℕ) → a + (b + 0) ≡ a + b
      no_rest a b = omega arith

pub machine_is_planned : MachineIsPlanned
machine_is_planned s w t m o bs fits spent h = absurd h
machine_is_planned s w t m o bs fits (fuel g) h =
    meets_all s (walk form_nodes w t) m o bs fits g (plan s w t m (named_items o.names bs) fits o.eof)
    ((tasks_are_planned s w t).fair m (1 ∷ []) (named_items o.names bs) fits o.eof (g (form_type (walk form_nodes w t))) h)

-- ---- the rules

pub script_is : (k : ℕ) (ns : Names) (bs : List ChunkData) (fits : Bool) → plain k (named_acts ns bs fits) ≡ named_script ns (length bs) fits
script_is k ns [] true = refl
script_is k ns [] false = refl
script_is k ns (b ∷ bs) fits =
    ap (λ z. acts (Free Batch) (next_name ns ∷ held_names (later_names ns)) ∷ puts 0 (next_name ns) (held_names (later_names ns)) ∷ z) (script_is (0 + (0 + k)) (later_names ns) bs fits)

abbrev source_with : Outset → List Action → Task
source_with o xs = record { name = 0 ∷ []; script = xs; first = 0 ∷ []; held = held_names o.names; spare = []; eof = [] }

pub task_is : (f : Form) (m : Bool) (o : Outset) (bs : List ChunkData) (fits : Bool) → task_of (seed_at f m o) (named_acts o.names bs fits) ≡ named_source o.names (length bs) fits
task_is f m o bs fits = ap (λ z. source_with o z) (script_is 1 o.names bs fits)

pub places_are : (ns : Names) (bs : List ChunkData) → places (named_items ns bs) ≡ paths_from ns (length bs)
places_are ns [] = refl
places_are ns (b ∷ bs) = ap (λ z. next_name ns ∷ z) (places_are (later_names ns) bs)

abbrev Keeping : Forest → Type 0
Keeping x = KeepsRules x × KeepsOrder x × Rises (names x)

pub machine_is_good : MachineIsGood
machine_is_good s w t m o bs fits spent h b = absurd h
machine_is_good s w t m o bs fits (fuel g) h b =
    let f : Form = walk form_nodes w t in
    let c : Duty = duty_of s f m (1 ∷ []) (named_items o.names bs) fits o.eof in
    let before : Before (places (named_items o.names bs)) o.eof = subst (λ z. Before z o.eof) (sym (places_are o.names bs)) b.before in
    let good : Good (1 ∷ []) (places (named_items o.names bs)) fits o.eof (task_of c.seed (duty_script s c)) (below s script_reading (g (form_type f)) c)
    = tasks_are_good s w t m (1 ∷ []) (named_items o.names bs) fits o.eof (g (form_type f)) h before in
    let keeping : Keeping (named_machine o.names (length bs) fits (task_of c.seed (duty_script s c)) (below s script_reading (g (form_type f)) c))
    = named_sources_keep o.names (length bs) fits o.eof (task_of c.seed (duty_script s c)) (below s script_reading (g (form_type f)) c) b.can
    (subst (λ z. Good (1 ∷ []) z fits o.eof (task_of c.seed (duty_script s c)) (below s script_reading (g (form_type f)) c)) (places_are o.names bs) good) in
    subst (λ z. Keeping (Node (task_of (seed_at f m o) (named_acts o.names bs fits)) z Bare)) (sym (one s f m o bs fits script_reading g))
    (subst (λ z. Keeping (Node z (Node (task_of c.seed (duty_script s c)) (below s script_reading (g (form_type f)) c) Bare) Bare)) (sym (task_is f m o bs fits)) keeping)

-- ---- the root

root_items : (i : ℕ) (bs : List ChunkData) → named_items (onward (record { stem = 0 ∷ []; last = i })) bs ≡ batch_items i bs
root_items i [] = refl
root_items i (b ∷ bs) =
    let e : i + 1 ≡ suc i = omega arith in
    ap (λ (z : List Item). (0 ∷ i ∷ [], b) ∷ z) (root_items (i + 1) bs ∙ ap (λ n. batch_items n bs) e)

pub root_is_source : RootIsSource
root_is_source s w t m bs ended =
    let e : 0 + length bs ≡ length bs = omega arith in
    ap₂ (λ (n : ℕ) (z : List Item). reaching (n ∷ []) (plan s w t m z ended root_eof)) e (root_items 0 bs)

-- ---- tidy

pub source_is_tidy : SourceIsTidy
source_is_tidy ns [] true = still 1 (named_acts ns [] true) refl refl refl refl (shuts 1 (close_queues (0 ∷ []) ∷ []) refl refl refl refl (omega arith) refl tt)
source_is_tidy ns [] false = still 1 (named_acts ns [] false) refl refl refl refl tt
source_is_tidy ns (b ∷ bs) fits =
    still 1 (named_acts ns (b ∷ bs) fits) refl refl refl refl (put 1 0 (next_name ns, b) (tail (named_acts ns (b ∷ bs) fits)) refl refl refl refl (omega arith) (source_is_tidy (later_names ns) bs fits))
