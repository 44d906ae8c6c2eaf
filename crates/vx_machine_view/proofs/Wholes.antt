-- The whole machine: its start, and its steps.
use Rattle.std.proofs.Common.{◌≡◌, ◌+◌, ◌<◌, ◌||◌, ◌∷◌, ◌++◌, ◌∙◌, ℕ, zero, suc, Bool, true, false, not, cond, nat_eq, List, map, length, refl, sym, ap, subst, arith, append-nil, Some, None, []}
use Rattle.std.proofs.lemmas.Bool.Decides.{nat_tests}
use Rattle.vx_model.specs.ChunkData.{ChunkData}
use Rattle.vx_path.specs.Path.{Eof, root_eof}
use Rattle.vx_named_tasks.specs.Names.{Names, onward, next_name, later_names, held_names, names_index, Outset, root_outset}
use Rattle.vx_machine_state.specs.Images.{Careful}
use Rattle.vx_tasks.specs.Task.{Free, Put, Batch, End, Close}
use Rattle.vx_tasks.specs.Run.{nth}
use Rattle.vx_tasks.specs.Runs.{first_batch}
use Rattle.vx_plan.specs.PlanData.{Item}
use Rattle.vx_machine_turns.specs.Acts.{Seed, Act, does, put_item, close_queues, passes, born, shape_in}
use Rattle.vx_machine_turns.specs.Source.{named_acts, seed_at, kept_at}
use Rattle.vx_machine_turns.specs.Turns.{firsts}
use Rattle.vx_machine_turns.specs.Fuels.{fuel_of}
use Rattle.vx_machine_turns.proofs.Fueled.{fuel_is_enough}
use Rattle.vx_machine_turns.proofs.StartLaws.{start_faults_agree}
use Rattle.vx_machine_steps.specs.Tree.{Tree, Leaf, Work, quiet, sprout, feed}
use Rattle.vx_machine_steps.specs.Moves.{due, held_after, holding, may, is_full, TreeMove, move_own, tree_moves}
use Rattle.vx_machine_steps.specs.Moves as abstract
use Rattle.vx_machine_steps.specs.Laws.{JoinsFree}
use Rattle.vx_machine_steps.specs.Stands.{Stands}
use Rattle.vx_machine_steps.proofs.Laws.{joins_are_free}
use Rattle.vx_machine_promises.specs.Write.{Write, Future, Open, Answer, unasked, came, over, depth, before, heard_by}
use Rattle.vx_machine_state.specs.State.{Tasks}
use Rattle.vx_machine_state.specs.Acts.{count, give, shut_all}
use Rattle.vx_machine_state.specs.Moves.{has_room, Step, steps}
use Rattle.vx_machine_state.specs.Typed.{Typed}
use Rattle.vx_machine_view.specs.Shows.{Shows, types_of}
use Rattle.vx_machine_view.specs.Steps.{AllPairs, Steady, SameStep}
use Rattle.vx_machine_view.specs.Machine.{Phase, reading, giving, closing, finished, Machine, may_source, WholeStep, source_did, read_batch, source_step, in_root, whole_steps, phase_ids}
use Rattle.vx_machine_view.specs.Whole.{form_of, phase_acts, PhaseTyped, PhaseShape, source_from, source_at, root_depth, ShowsMachineAt, outset_from, StartShowsAt, Asks, SameWholeAt, StepShowsAt, ReadyShowsAt}
use Rattle.vx_machine_view.proofs.Words.{true_false, no_cons, pairs_append, pairs_map, pairs_length, pairs_nth, same_some, shape_last, shape_kept}
use Rattle.vx_machine_view.proofs.Feeding.{opened_none, Leaves, feed_none, feed_types, count_types, room_is, given, shut_shows}
use Rattle.vx_machine_view.proofs.Beginning.{task_begun}
use Rattle.vx_machine_view.proofs.Suiting.{forms_are_suited}
use Rattle.vx_machine_view.proofs.Acting.{one_pair}
use Rattle.vx_machine_view.proofs.Moving.{steps_show}

asked : {b : ChunkData} → came b ≡ unasked → ⊥
asked e = cc

told : over ≡ unasked → ⊥
told e = cc

abbrev has_asked : Phase → Bool
has_asked (reading ns) = true
has_asked (giving ns i) = false
has_asked closing = false
has_asked finished = false

-- ---- the start

pub start_shows_at : (names : Names) (eof : Eof) → StartShowsAt names eof
start_shows_at names eof g number f n = record {
  past = [];
  kids = sprout (root_depth g) quiet 0 (firsts (seed_at (form_of g) g.mark (outset_from names eof)));
  tree_is = refl;
  root = task_begun g.setting number (λ u. fuel_of (form_of g)) (seed_at (form_of g) g.mark (outset_from names eof)) 0 (form_of g) g.mark (1 ∷ []) eof [] false refl tt
      (forms_are_suited g.way g.type) (start_faults_agree g.setting g.way g.type g.mark ∙ n) (fuel_is_enough g.way g.type).1;
  one = ap (λ z. z ∷ []) (fuel_is_enough g.way g.type).0;
  typed = tt;
  shape = refl;
  held = refl;
}

-- of a whole write
pub start_shows : StartShowsAt (onward first_batch) root_eof
start_shows = start_shows_at (onward first_batch) root_eof

-- ---- the source's own step

held_last : (h : List (List ℕ)) (past : List Act) (a : Act) → held_after h (past ++ (a ∷ [])) ≡ a.holds
held_last h [] a = refl
held_last h (b ∷ past) a = held_last b.holds past a

module _ (g : Write) (o : Outset) (number : List ℕ → ℕ) (next_number : ℕ) (all : List (List ℕ)) (past : List Act) (kids : Tree) where
  abbrev seed : Seed
  seed = seed_at (form_of g) g.mark o

  -- what the source does with what it has left
  abbrev moved : Act → List Act → TreeMove
  moved a todo = record {
    name = 0 ∷ [];
    act = a;
    before = born past + length (firsts seed);
    room = root_depth g;
    after = Work (source_from g o (past ++ (a ∷ [])) todo) (feed (root_depth g) a 0 kids) Leaf;
  }

  abbrev batch_act : Names → Act
  batch_act ns = record (does (Free Batch)) { holds = next_name ns ∷ held_names (later_names ns); indices = names_index ns }

  abbrev end_act : Act
  end_act = record (does (Free End)) { shape = Some passes }

  abbrev misfit_act : Act
  misfit_act = record (does (Free Batch)) { misfit = true }

  still : (a : Act) → Leaves a 0 → (cs : Tasks) → Shows g.setting number (root_depth g) seed 0 cs kids → Shows g.setting number (root_depth g) seed 0 cs (feed (root_depth g) a 0 kids)
  still a l cs w = subst (Shows g.setting number (root_depth g) seed 0 cs) (sym (feed_none (root_depth g) a 0 kids l)) w

  -- the machine after the source's act
  source_then : (f : Future) (p : Phase) (cs : Tasks) (a : Act) → Shows g.setting number (root_depth g) seed 0 cs (feed (root_depth g) a 0 kids)
      → types_of (feed (root_depth g) a 0 kids) ≡ g.type ∷ [] → PhaseTyped g.type p → PhaseShape (past ++ (a ∷ [])) p → a.holds ≡ phase_ids p
      → ShowsMachineAt g o number (record { phase = p; root = cs }) f (Work (source_from g o (past ++ (a ∷ [])) (phase_acts p f)) (feed (root_depth g) a 0 kids) Leaf)
  source_then f p cs a w one ty sh h = record {
    past = past ++ (a ∷ []);
    kids = feed (root_depth g) a 0 kids;
    tree_is = refl;
    root = w;
    one = one;
    typed = ty;
    shape = sh;
    held = held_last (kept_at o) past a ∙ h;
  }

  -- a batch of the type
  batch_step : (ns : Names) (b : ChunkData) (f : Future) (cs : Tasks) → Shows g.setting number (root_depth g) seed 0 cs kids → types_of kids ≡ g.type ∷ [] → shape_in past ≡ None → Typed g.type b
      → SameWholeAt g o number next_number f (read_batch (came b) ns cs)
      (moved (batch_act ns) (phase_acts (giving (later_names ns) (next_name ns, b)) f))
  batch_step ns b f cs w one un ty =
      let a : Act = batch_act ns in
      let none : Leaves a 0 = record { gives = λ i k. refl; shuts = λ i k. refl; starts = refl } in record {
        name = refl;
        kind = refl;
        refusal = refl;
        misfit = refl;
        numbers = refl;
        indices = sym (append-nil (names_index ns)) ∙ ap (λ z. names_index ns ++ z) (sym (opened_none (root_depth g)));
        wrote = refl;
        raises = refl;
        lowers = refl;
        after = λ n y. source_then f (giving (later_names ns) (next_name ns, b)) cs a (still a none cs w) (feed_types (root_depth g) a 0 kids refl ∙ one) ty (shape_last past a un) refl;
      }

  -- the end
  end_step : (ns : Names) (f : Future) (cs : Tasks) → Shows g.setting number (root_depth g) seed 0 cs kids → types_of kids ≡ g.type ∷ [] → shape_in past ≡ None
      → SameWholeAt g o number next_number f (source_did (Free End) closing cs) (moved end_act (phase_acts closing f))
  end_step ns f cs w one un =
      let a : Act = end_act in
      let none : Leaves a 0 = record { gives = λ i k. refl; shuts = λ i k. refl; starts = refl } in record {
        name = refl;
        kind = refl;
        refusal = refl;
        misfit = refl;
        numbers = refl;
        indices = sym (opened_none (root_depth g));
        wrote = refl;
        raises = refl;
        lowers = refl;
        after = λ n y. source_then f closing cs a (still a none cs w) (feed_types (root_depth g) a 0 kids refl ∙ one) tt (shape_last past a un) refl;
      }

  -- a batch of another type
  misfit_step : (ns : Names) (f : Future) (cs : Tasks) → SameWholeAt g o number next_number f (read_batch unasked ns cs) (moved misfit_act [])
  misfit_step ns f cs = record { name = refl; kind = refl; refusal = refl; misfit = refl; numbers = refl; indices = sym (opened_none (root_depth g)); wrote = refl; raises = refl; lowers = refl; after = λ n y. absurd (true_false n) }

  put_step : (ns : Names) (i : Item) (f : Future) (cs : Tasks) → Shows g.setting number (root_depth g) seed 0 cs kids → types_of kids ≡ g.type ∷ [] → shape_in past ≡ None → Typed g.type i.1
      → SameWholeAt g o number next_number f (source_did (Put 0) (reading ns) (give 0 i cs)) (moved (record (put_item 0 i) { holds = held_names ns }) (phase_acts (reading ns) f))
  put_step ns i f cs w one un ty =
      let a : Act = record (put_item 0 i) { holds = held_names ns } in record {
        name = refl;
        kind = refl;
        refusal = refl;
        misfit = refl;
        numbers = refl;
        indices = sym (opened_none (root_depth g));
        wrote = refl;
        raises = refl;
        lowers = refl;
        after = λ n y. source_then f (reading ns) (give 0 i cs) a
            (given g.setting number (root_depth g) seed 0 0 0 a i g.type [] [] cs kids w one refl ty refl refl refl refl) (feed_types (root_depth g) a 0 kids refl ∙ one) tt (shape_last past a un) refl;
      }

  close_step : (f : Future) (cs : Tasks) → Shows g.setting number (root_depth g) seed 0 cs kids → types_of kids ≡ g.type ∷ [] → shape_in past ≡ Some passes
      → SameWholeAt g o number next_number f (source_did (Free Close) finished (shut_all cs)) (moved (close_queues (0 ∷ [])) (phase_acts finished f))
  close_step f cs w one sh =
      let a : Act = close_queues (0 ∷ []) in
      let c : count cs ≡ 1 = count_types g.setting number (root_depth g) seed 0 cs kids w ∙ ap length one in record {
        name = refl;
        kind = refl;
        refusal = refl;
        misfit = refl;
        numbers = refl;
        indices = sym (opened_none (root_depth g));
        wrote = refl;
        raises = refl;
        lowers = refl;
        after = λ n y. source_then f finished (shut_all cs) a
            (shut_shows g.setting number (root_depth g) seed 0 a cs kids w (λ i. refl) (λ i x z. ap (λ v. v || false) (first i (count cs) c z)) refl)
            (feed_types (root_depth g) a 0 kids refl ∙ one) tt (shape_kept past a passes sh) refl;
      }
    where
      first : (i n : ℕ) → n ≡ 1 → i < 0 + n → nat_eq 0 i ≡ true
      first i n e l = grind (arith, nat_tests)

  -- ---- a step of the root or of one below it

  root_step : (p : Phase) (f : Future) (cs : Tasks) → types_of kids ≡ g.type ∷ [] → PhaseTyped g.type p → PhaseShape past p → holding (source_from g o past (phase_acts p f)) ≡ phase_ids p
      → (w : Step) (m : TreeMove) → SameStep g.setting number next_number (root_depth g) seed 0 cs kids w m
      → SameWholeAt g o number next_number f (in_root p w) (abstract.in_kids (source_from g o past (phase_acts p f)) Leaf m)
  root_step p f cs one ty sh h w m x = record {
    name = x.name;
    kind = x.kind;
    refusal = x.refusal;
    misfit = x.misfit;
    numbers = x.numbers;
    indices = x.indices;
    wrote = x.wrote;
    raises = x.raises;
    lowers = x.lowers;
    after = λ n y. let z : Shows g.setting number (root_depth g) seed 0 w.after m.after × Steady cs w.after kids m.after = x.after n y in record {
      past = past;
      kids = m.after;
      tree_is = refl;
      root = z.0;
      one = z.1.types_are ∙ one;
      typed = ty;
      shape = sh;
      held = h;
    };
  }

  root_steps : (p : Phase) (f : Future) (cs : Tasks) → Careful g.setting → Shows g.setting number (root_depth g) seed 0 cs kids → JoinsFree g.setting kids
      → types_of kids ≡ g.type ∷ [] → PhaseTyped g.type p → PhaseShape past p → holding (source_from g o past (phase_acts p f)) ≡ phase_ids p
      → AllPairs (SameWholeAt g o number next_number f) (map (in_root p) (steps g.setting all next_number cs))
      (map (abstract.in_kids (source_from g o past (phase_acts p f)) Leaf) (tree_moves g.setting all (root_depth g) kids))
  root_steps p f cs law w jf one ty sh h =
      pairs_map (SameStep g.setting number next_number (root_depth g) seed 0 cs kids) (SameWholeAt g o number next_number f) (in_root p) (abstract.in_kids (source_from g o past (phase_acts p f)) Leaf)
      (root_step p f cs one ty sh h) (steps g.setting all next_number cs) (tree_moves g.setting all (root_depth g) kids)
      (steps_show g.setting number next_number all (root_depth g) seed 0 cs kids law w jf)

  -- ---- all of them

  abbrev state : Phase → Future → Tree
  state p f = Work (source_from g o past (phase_acts p f)) kids Leaf

  abbrev below : Phase → Future → List TreeMove
  below p f = map (abstract.in_kids (source_from g o past (phase_acts p f)) Leaf) (tree_moves g.setting all (root_depth g) kids)

  -- where the source isn't asked: its own step is this one, or none
  all_steps : (p : Phase) (f : Future) (cs : Tasks) (a : Answer) → Careful g.setting → Shows g.setting number (root_depth g) seed 0 cs kids → JoinsFree g.setting kids
      → types_of kids ≡ g.type ∷ [] → PhaseTyped g.type p → PhaseShape past p → holding (source_from g o past (phase_acts p f)) ≡ phase_ids p
      → AllPairs (SameWholeAt g o number next_number f) (cond (may_source p cs) (source_step a p cs ∷ []) [])
      (move_own all (depth g) (source_from g o past (phase_acts p f)) kids Leaf (due g.setting (source_from g o past (phase_acts p f))))
      → AllPairs (SameWholeAt g o number next_number f) (whole_steps g.setting all next_number a (record { phase = p; root = cs })) (tree_moves g.setting all (depth g) (state p f))
  all_steps p f cs a law w jf one ty sh h own =
      subst (AllPairs (SameWholeAt g o number next_number f) (whole_steps g.setting all next_number a (record { phase = p; root = cs })))
      (sym (append-nil (move_own all (depth g) (source_from g o past (phase_acts p f)) kids Leaf (due g.setting (source_from g o past (phase_acts p f))) ++ below p f)))
      (pairs_append (SameWholeAt g o number next_number f) (cond (may_source p cs) (source_step a p cs ∷ []) []) (map (in_root p) (steps g.setting all next_number cs))
      (move_own all (depth g) (source_from g o past (phase_acts p f)) kids Leaf (due g.setting (source_from g o past (phase_acts p f)))) (below p f)
      own (root_steps p f cs law w jf one ty sh h))

  unasked_own : (p : Phase) (f : Future) (cs : Tasks) (a : Answer) → has_asked p ≡ false → Shows g.setting number (root_depth g) seed 0 cs kids → types_of kids ≡ g.type ∷ [] → PhaseTyped g.type p
      → PhaseShape past p → AllPairs (SameWholeAt g o number next_number f) (cond (may_source p cs) (source_step a p cs ∷ []) [])
      (move_own all (depth g) (source_from g o past (phase_acts p f)) kids Leaf (due g.setting (source_from g o past (phase_acts p f))))
  unasked_own (reading ns) f cs a k w one ty sh = absurd (true_false k)
  unasked_own (giving ns i) f cs a k w one ty sh = one_pair (SameWholeAt g o number next_number f) (source_did (Put 0) (reading ns) (give 0 i cs))
      (moved (record (put_item 0 i) { holds = held_names ns }) (phase_acts (reading ns) f)) (has_room 0 cs) (not (is_full seed 0 kids 0))
      (room_is g.setting number (root_depth g) seed 0 0 0 cs kids w (let l : length (types_of kids) ≡ 1 = ap length one in omega (arith, l)) refl)
      (λ z. put_step ns i f cs w one sh ty)
  unasked_own closing f cs a k w one ty sh = (close_step f cs w one sh, tt)
  unasked_own finished f cs a k w one ty sh = tt

  -- where it reads, it can
  reading_own : (ns : Names) (bs : List ChunkData) (fits : Bool)
      → (m : TreeMove) × (move_own all (depth g) (source_from g o past (named_acts ns bs fits)) kids Leaf (due g.setting (source_from g o past (named_acts ns bs fits))) ≡ m ∷ [])
  reading_own ns [] true = (moved end_act (close_queues (0 ∷ []) ∷ []), refl)
  reading_own ns [] false = (moved misfit_act [], refl)
  reading_own ns (b ∷ bs) fits = (moved (batch_act ns) (record (put_item 0 (next_name ns, b)) { holds = held_names (later_names ns) } ∷ named_acts (later_names ns) bs fits), refl)

  -- so a further step is one of the root
  later_step : (ns : Names) (f : Future) (cs : Tasks) (k : ℕ) (w : WholeStep) → Careful g.setting → Shows g.setting number (root_depth g) seed 0 cs kids → JoinsFree g.setting kids
      → types_of kids ≡ g.type ∷ [] → shape_in past ≡ None → holding (source_from g o past (phase_acts (reading ns) f)) ≡ phase_ids (reading ns)
      → nth (map (in_root (reading ns)) (steps g.setting all next_number cs)) k ≡ Some w
      → (v : TreeMove) × (nth (tree_moves g.setting all (depth g) (state (reading ns) f)) (suc k) ≡ Some v) × SameWholeAt g o number next_number f w v
  later_step ns f cs k w law sh jf one un h n =
      let x : (v : TreeMove) × (nth (below (reading ns) f) k ≡ Some v) × SameWholeAt g o number next_number f w v =
      pairs_nth (SameWholeAt g o number next_number f) (map (in_root (reading ns)) (steps g.setting all next_number cs)) (below (reading ns) f) k w
      (root_steps (reading ns) f cs law sh jf one tt un h) n in
      let only : (m : TreeMove) × (move_own all (depth g) (source_from g o past (named_acts ns f.later f.fits)) kids Leaf (due g.setting (source_from g o past (named_acts ns f.later f.fits))) ≡ m ∷ []) =
      reading_own ns f.later f.fits in (
        x.0,
        ap (λ z. nth ((z ++ below (reading ns) f) ++ []) (suc k)) only.1 ∙ ap (λ z. nth z k) (append-nil (below (reading ns) f)) ∙ x.1,
        x.2,
      )

  first_came : (ns : Names) (b : ChunkData) (f : Future) (cs : Tasks) (w : WholeStep) → Shows g.setting number (root_depth g) seed 0 cs kids → types_of kids ≡ g.type ∷ [] → shape_in past ≡ None → Typed g.type b
      → read_batch (came b) ns cs ≡ w
      → (v : TreeMove) × (nth (tree_moves g.setting all (depth g) (state (reading ns) (before (came b) f))) 0 ≡ Some v) × SameWholeAt g o number next_number f w v
  first_came ns b f cs w sh one un ty q = (
    moved (batch_act ns) (phase_acts (giving (later_names ns) (next_name ns, b)) f),
    refl,
    subst (λ z. SameWholeAt g o number next_number f z (moved (batch_act ns) (phase_acts (giving (later_names ns) (next_name ns, b)) f))) q (batch_step ns b f cs sh one un ty),
  )

  first_over : (ns : Names) (bs : List ChunkData) (fits : Bool) (f : Future) (cs : Tasks) (w : WholeStep) → bs ≡ [] → fits ≡ true → Shows g.setting number (root_depth g) seed 0 cs kids → types_of kids ≡ g.type ∷ []
      → shape_in past ≡ None → source_did (Free End) closing cs ≡ w
      → (v : TreeMove) × (nth (tree_moves g.setting all (depth g) (Work (source_from g o past (named_acts ns bs fits)) kids Leaf)) 0 ≡ Some v) × SameWholeAt g o number next_number f w v
  first_over ns [] true f cs w x y sh one un q = (moved end_act (phase_acts closing f), refl, subst (λ z. SameWholeAt g o number next_number f z (moved end_act (phase_acts closing f))) q (end_step ns f cs sh one un))
  first_over ns [] false f cs w x y sh one un q = absurd (true_false (sym y))
  first_over ns (b ∷ bs) fits f cs w x y sh one un q = absurd (no_cons b bs x)

  first_misfit : (ns : Names) (bs : List ChunkData) (fits : Bool) (f : Future) (cs : Tasks) (w : WholeStep) → bs ≡ [] → fits ≡ false → read_batch unasked ns cs ≡ w
      → (v : TreeMove) × (nth (tree_moves g.setting all (depth g) (Work (source_from g o past (named_acts ns bs fits)) kids Leaf)) 0 ≡ Some v) × SameWholeAt g o number next_number f w v
  first_misfit ns [] false f cs w x y q = (moved misfit_act [], refl, subst (λ z. SameWholeAt g o number next_number f z (moved misfit_act [])) q (misfit_step ns f cs))
  first_misfit ns [] true f cs w x y q = absurd (true_false y)
  first_misfit ns (b ∷ bs) fits f cs w x y q = absurd (no_cons b bs x)

  -- the step at each place
  step_at : (p : Phase) (cs : Tasks) (heard : Bool) (a : Answer) (f : Future) (k : ℕ) (w : WholeStep) → Careful g.setting → JoinsFree g.setting kids → Open (heard_by heard a) f
      → Shows g.setting number (root_depth g) seed 0 cs kids → types_of kids ≡ g.type ∷ [] → PhaseTyped g.type p → PhaseShape past p → holding (source_from g o past (phase_acts p (before a f))) ≡ phase_ids p
      → nth (whole_steps g.setting all next_number a (record { phase = p; root = cs })) k ≡ Some w → Asks g.type f p k a
      → (v : TreeMove) × (nth (tree_moves g.setting all (depth g) (state p (before a f))) k ≡ Some v) × SameWholeAt g o number next_number f w v
  step_at (reading ns) cs heard unasked f zero w law jf may sh one ty un h n q = first_misfit ns f.later f.fits f cs w q.0 q.1 (same_some _ _ n)
  step_at (reading ns) cs heard (came b) f zero w law jf may sh one ty un h n q = first_came ns b f cs w sh one un q (same_some _ _ n)
  step_at (reading ns) cs heard over f zero w law jf may sh one ty un h n q = first_over ns f.later f.fits f cs w (may refl).0 (may refl).1 sh one un (same_some _ _ n)
  step_at (reading ns) cs heard unasked f (suc k) w law jf may sh one ty un h n q = later_step ns f cs k w law sh jf one un h n
  step_at (reading ns) cs heard (came b) f (suc k) w law jf may sh one ty un h n q = absurd (asked q)
  step_at (reading ns) cs heard over f (suc k) w law jf may sh one ty un h n q = absurd (told q)
  step_at (giving ns i) cs heard unasked f k w law jf may sh one ty un h n q =
      pairs_nth (SameWholeAt g o number next_number f) (whole_steps g.setting all next_number unasked (record { phase = giving ns i; root = cs })) (tree_moves g.setting all (depth g) (state (giving ns i) f)) k w
      (all_steps (giving ns i) f cs unasked law sh jf one ty un h (unasked_own (giving ns i) f cs unasked refl sh one ty un)) n
  step_at (giving ns i) cs heard (came b) f k w law jf may sh one ty un h n q = absurd (asked q)
  step_at (giving ns i) cs heard over f k w law jf may sh one ty un h n q = absurd (told q)
  step_at closing cs heard unasked f k w law jf may sh one ty un h n q =
      pairs_nth (SameWholeAt g o number next_number f) (whole_steps g.setting all next_number unasked (record { phase = closing; root = cs })) (tree_moves g.setting all (depth g) (state closing f)) k w
      (all_steps closing f cs unasked law sh jf one ty un h (unasked_own closing f cs unasked refl sh one ty un)) n
  step_at closing cs heard (came b) f k w law jf may sh one ty un h n q = absurd (asked q)
  step_at closing cs heard over f k w law jf may sh one ty un h n q = absurd (told q)
  step_at finished cs heard unasked f k w law jf may sh one ty un h n q =
      pairs_nth (SameWholeAt g o number next_number f) (whole_steps g.setting all next_number unasked (record { phase = finished; root = cs })) (tree_moves g.setting all (depth g) (state finished f)) k w
      (all_steps finished f cs unasked law sh jf one ty un h (unasked_own finished f cs unasked refl sh one ty un)) n
  step_at finished cs heard (came b) f k w law jf may sh one ty un h n q = absurd (asked q)
  step_at finished cs heard over f k w law jf may sh one ty un h n q = absurd (told q)

  -- as many
  as_many : (p : Phase) (f : Future) (cs : Tasks) (a : Answer) → Careful g.setting → Shows g.setting number (root_depth g) seed 0 cs kids → JoinsFree g.setting kids
      → types_of kids ≡ g.type ∷ [] → PhaseTyped g.type p → PhaseShape past p → holding (source_from g o past (phase_acts p f)) ≡ phase_ids p
      → length (whole_steps g.setting all next_number a (record { phase = p; root = cs })) ≡ length (tree_moves g.setting all (depth g) (state p f))
  as_many (reading ns) f cs a law w jf one ty sh h =
      let only : (m : TreeMove) × (move_own all (depth g) (source_from g o past (named_acts ns f.later f.fits)) kids Leaf (due g.setting (source_from g o past (named_acts ns f.later f.fits))) ≡ m ∷ []) =
      reading_own ns f.later f.fits in
      ap suc (pairs_length (SameWholeAt g o number next_number f) (map (in_root (reading ns)) (steps g.setting all next_number cs)) (below (reading ns) f) (root_steps (reading ns) f cs law w jf one tt sh h))
      ∙ sym (ap (λ z. length ((z ++ below (reading ns) f) ++ [])) only.1 ∙ ap (λ z. suc (length z)) (append-nil (below (reading ns) f)))
  as_many (giving ns i) f cs a law w jf one ty sh h = pairs_length (SameWholeAt g o number next_number f) (whole_steps g.setting all next_number a (record { phase = giving ns i; root = cs }))
      (tree_moves g.setting all (depth g) (state (giving ns i) f)) (all_steps (giving ns i) f cs a law w jf one ty sh h (unasked_own (giving ns i) f cs a refl w one ty sh))
  as_many closing f cs a law w jf one ty sh h = pairs_length (SameWholeAt g o number next_number f) (whole_steps g.setting all next_number a (record { phase = closing; root = cs }))
      (tree_moves g.setting all (depth g) (state closing f)) (all_steps closing f cs a law w jf one ty sh h (unasked_own closing f cs a refl w one ty sh))
  as_many finished f cs a law w jf one ty sh h = pairs_length (SameWholeAt g o number next_number f) (whole_steps g.setting all next_number a (record { phase = finished; root = cs }))
      (tree_moves g.setting all (depth g) (state finished f)) (all_steps finished f cs a law w jf one ty sh h (unasked_own finished f cs a refl w one ty sh))

pub free_below_at : (g : Write) (o : Outset) (m : Machine) (f : Future) (past : List Act) (kids t : Tree) → t ≡ Work (source_from g o past (phase_acts m.phase f)) kids Leaf → Stands g.setting (depth g) t → JoinsFree g.setting kids
free_below_at g o m f past kids t e st = (subst (JoinsFree g.setting) e (joins_are_free g.setting (depth g) t st)).1

pub step_shows_at : (o : Outset) → StepShowsAt o
step_shows_at o g number next all heard a f m t k w law st may sh n q =
    subst (λ z. (v : TreeMove) × (nth (tree_moves g.setting all (depth g) z) k ≡ Some v) × SameWholeAt g o number next f w v) (sym sh.tree_is)
    (step_at g o number next all sh.past sh.kids m.phase m.root heard a f k w law (free_below_at g o m (before a f) sh.past sh.kids t sh.tree_is st) may sh.root sh.one sh.typed sh.shape sh.held n q)

pub ready_shows_at : (o : Outset) → ReadyShowsAt o
ready_shows_at o g number next all a f m t law st sh =
    as_many g o number next all sh.past sh.kids m.phase f m.root a law sh.root (free_below_at g o m f sh.past sh.kids t sh.tree_is st) sh.one sh.typed sh.shape sh.held
    ∙ ap (λ z. length (tree_moves g.setting all (depth g) z)) (sym sh.tree_is)

-- in a whole write

pub free_below : (g : Write) (m : Machine) (f : Future) (past : List Act) (kids t : Tree) → t ≡ Work (source_at g past (phase_acts m.phase f)) kids Leaf → Stands g.setting (depth g) t → JoinsFree g.setting kids
free_below g m f past kids t e st = free_below_at g root_outset m f past kids t e st

pub step_shows : StepShowsAt root_outset
step_shows = step_shows_at root_outset

pub ready_shows : ReadyShowsAt root_outset
ready_shows = ready_shows_at root_outset
