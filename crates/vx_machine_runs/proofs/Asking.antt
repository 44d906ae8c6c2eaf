-- What the source told in a run.
use Rattle.std.proofs.Common.{◌≡◌, ◌+◌, ◌&&◌, ◌==◌, ◌⊎◌, ◌∷◌, ◌++◌, ◌∙◌, ℕ, zero, suc, Bool, true, false, if◌then◌else◌, cond, List, map, length, refl, sym, ap, subst, inl, inr, arith, Option, Some, None, length-append, []}
use Rattle.std.proofs.lemmas.Bool.{true≢false}
use Rattle.vx_model.specs.Words.{total_by}
use Rattle.vx_model.specs.Ty.{Ty, list, ty_eq}
use Rattle.vx_model.specs.TyLaws.{ty_eq_decides}
use Rattle.vx_model.specs.ChunkData.{ChunkData, piece_type}
use Rattle.vx_path.specs.Lists.{In}
use Rattle.vx_path.specs.Path.{Eof}
use Rattle.vx_path.proofs.Lists.{in_cases, from_map}
use Rattle.vx_tasks.specs.Task.{Kind}
use Rattle.vx_tasks.specs.Run.{Note, nth}
use Rattle.vx_zone_spec.specs.ZoneTable.{Filled, kept_columns}
use Rattle.vx_plan.specs.PlanData.{Setting, Item}
use Rattle.vx_plan.specs.DictNode.{is_dictionary}
use Rattle.vx_plan.specs.SourcePlan.{of_schema}
use Rattle.vx_layout_spec.specs.Real.{Of}
use Rattle.vx_plan.specs.Valid.{OfSchema, AllOf}
use Rattle.vx_machine_promises.specs.Write.{Write, Answer, unasked, came, over, taken_by, heard_by}
use Rattle.vx_machine_state.specs.Zoned.{Zoner, Zones}
use Rattle.vx_machine_state.specs.State.{Next, put, hand_on, press, probe, open_run, end_run, append, shut_kids, join_kids, start_table, leave_kid, Mind, no_chunk, one_chunk, by_chunk, by_column, by_list, by_block, by_size, as_one, by_image, as_is, by_probe, asking, by_run, by_zone, ending, passing, made, Desk, Tasks, no_tasks, task_then}
use Rattle.vx_machine_state.specs.Acts.{count, column_count, probed, take_chunk, end_columns, end_lists, end_zones, take_end, do_take, do_act}
use Rattle.vx_machine_state.specs.Moves.{has_room, Step, may_act, own_step, in_kids, in_rest, steps}
use Rattle.vx_machine_view.specs.Machine.{Phase, reading, giving, closing, finished, Machine, may_source, WholeStep, source_step, in_root, whole_steps, machine_ids}
use Rattle.vx_machine_view.proofs.Words.{typed_is}
use Rattle.vx_machine_runs.specs.Runs.{Stand, outset, Asking, TypedAnswer, BeforeEnd, Chosen, Done, Led}
use Rattle.vx_machine_runs.specs.Answers.{AskedBeforeEnd, batch_read, end_read, AnswersAreNoted, TakenAreTyped, WholeAnswer, ToldWhole, TakenAreWhole}
use Rattle.vx_machine_runs.proofs.Counting.{nth_in}
use Rattle.vx_machine_runs.proofs.Misfits.{at_place}
use Rattle.vx_machine_runs.proofs.Stepping.{some_same}

-- ---- no task but the source reads

abbrev Quiet : Kind → Type 0
Quiet k = (batch_read k ≡ 0) × (end_read k ≡ 0)

module _ (s : Setting) (next : ℕ) where
  columns_quiet : (b : Bool) (t : Ty) (rows : ℕ) (c : Desk) (ks : Tasks) → Quiet (end_columns b t rows c ks).kind
  columns_quiet true t rows c ks = (refl, refl)
  columns_quiet false t rows c ks = (refl, refl)

  lists_quiet : (b : Bool) (t : Ty) (rows : ℕ) (c : Desk) (ks : Tasks) → Quiet (end_lists b t rows c ks).kind
  lists_quiet true t rows c ks = (refl, refl)
  lists_quiet false t rows c ks = (refl, refl)

  zones_quiet : (table : Option (List Filled)) (g : Zoner) (e : Eof) (z : Zones) (c : Desk) (ks : Tasks) → Quiet (end_zones table g e z c ks).kind
  zones_quiet None g e z c ks = (refl, refl)
  zones_quiet (Some cs) g e z c ks = (refl, refl)

  end_quiet : (c : Desk) (ks : Tasks) (mind : Mind) → Quiet (take_end s c ks mind).kind
  end_quiet c ks (no_chunk o t) = (refl, refl)
  end_quiet c ks (one_chunk x) = (refl, refl)
  end_quiet c ks (by_chunk m t f e rows) = (refl, refl)
  end_quiet c ks (by_column t rows) = columns_quiet ((count ks == 0) && (0 == column_count t)) t rows c ks
  end_quiet c ks (by_list t n first from rows) = lists_quiet first (list t n) rows c ks
  end_quiet c ks (by_block len minimum t x None rows) = (refl, refl)
  end_quiet c ks (by_block len minimum t x (Some j) rows) = (refl, refl)
  end_quiet c ks (by_size size x None rows) = (refl, refl)
  end_quiet c ks (by_size size x (Some j) rows) = (refl, refl)
  end_quiet c ks (as_one t x rows) = (refl, refl)
  end_quiet c ks (by_image which) = (refl, refl)
  end_quiet c ks as_is = (refl, refl)
  end_quiet c ks (by_probe n e) = (refl, refl)
  end_quiet c ks asking = (refl, refl)
  end_quiet c ks (by_run n r j rows) = (refl, refl)
  end_quiet c ks (by_zone g e z) = zones_quiet (kept_columns g.columns z.records) g e z c ks
  end_quiet c ks ending = (refl, refl)
  end_quiet c ks passing = (refl, refl)
  end_quiet c ks (made l) = (refl, refl)

  take_quiet : (c : Desk) (ks : Tasks) (i : Item) (xs : List Item) (mind : Mind) → Quiet (take_chunk s c ks i xs mind).kind
  take_quiet c ks i xs (no_chunk o t) = (refl, refl)
  take_quiet c ks i xs (one_chunk x) = (refl, refl)
  take_quiet c ks i xs (by_chunk m t f e rows) = (refl, refl)
  take_quiet c ks i xs (by_column t rows) = (refl, refl)
  take_quiet c ks i xs (by_list t n first from rows) = (refl, refl)
  take_quiet c ks i xs (by_block len minimum t x None rows) = (refl, refl)
  take_quiet c ks i xs (by_block len minimum t x (Some j) rows) = (refl, refl)
  take_quiet c ks i xs (by_size size x None rows) = (refl, refl)
  take_quiet c ks i xs (by_size size x (Some j) rows) = (refl, refl)
  take_quiet c ks i xs (as_one t x rows) = (refl, refl)
  take_quiet c ks i xs (by_image which) = (refl, refl)
  take_quiet c ks i xs as_is = (refl, refl)
  take_quiet c ks i xs (by_probe n e) = (refl, refl)
  take_quiet c ks i xs asking = (refl, refl)
  take_quiet c ks i xs (by_run n r j rows) = (refl, refl)
  take_quiet c ks i xs (by_zone g e z) = (refl, refl)
  take_quiet c ks i xs ending = (refl, refl)
  take_quiet c ks i xs passing = (refl, refl)
  take_quiet c ks i xs (made l) = (refl, refl)

  taken_quiet : (c : Desk) (ks : Tasks) (xs : List Item) → Quiet (do_take s c ks xs).kind
  taken_quiet c ks [] = end_quiet c ks c.mind
  taken_quiet c ks (i ∷ xs) = take_quiet c ks i xs c.mind

  act_quiet : (c : Desk) (ks : Tasks) (todo : List Next) → Quiet (do_act s next c ks todo).kind
  act_quiet c ks [] = taken_quiet c ks c.inbox
  act_quiet c ks (put j i ∷ todo) = (refl, refl)
  act_quiet c ks (hand_on n i ∷ todo) = (refl, refl)
  act_quiet c ks (press which i ∷ todo) = (refl, refl)
  act_quiet c ks (probe n e i ∷ todo) = by (is_dictionary (s.image n.options.probe i.1))
    where
      by : (b : Bool) → Quiet (probed s b n e i todo c ks).kind
      by true = (refl, refl)
      by false = (refl, refl)
  act_quiet c ks (open_run n j e i ∷ todo) = (refl, refl)
  act_quiet c ks (end_run j i ∷ todo) = (refl, refl)
  act_quiet c ks (append x ∷ todo) = (refl, refl)
  act_quiet c ks (shut_kids ∷ todo) = (refl, refl)
  act_quiet c ks (join_kids f ∷ todo) = (refl, refl)
  act_quiet c ks (start_table f e p ∷ todo) = (refl, refl)
  act_quiet c ks (leave_kid e ∷ todo) = (refl, refl)

  steps_quiet : (all : List (List ℕ)) (cs : Tasks) (w : Step) → In w (steps s all next cs) → Quiet w.kind
  steps_quiet all no_tasks w i = absurd i
  steps_quiet all (task_then c ks r) w i =
      by (in_cases w (own ++ map (in_kids c r) (steps s all next ks)) (map (in_rest c ks) (steps s all next r)) i) (λ x j. steps_quiet all ks x j) (λ x j. steps_quiet all r x j)
    where
      own : List Step
      own = cond (may_act all c ks c.todo) (own_step c r (do_act s next c ks c.todo) ∷ []) []

      of_own : (b : Bool) → In w (cond b (own_step c r (do_act s next c ks c.todo) ∷ []) []) → Quiet w.kind
      of_own true (inl e) = subst (λ (z : Step). Quiet z.kind) (sym e) (act_quiet c ks c.todo)
      of_own true (inr x) = absurd x
      of_own false x = absurd x

      of_kid : (x : Step) × In x (steps s all next ks) × (w ≡ in_kids c r x) → ((x : Step) → In x (steps s all next ks) → Quiet x.kind) → Quiet w.kind
      of_kid (x, j, e) deeper = subst (λ (z : Step). Quiet z.kind) (sym e) (deeper x j)

      of_rest : (x : Step) × In x (steps s all next r) × (w ≡ in_rest c ks x) → ((x : Step) → In x (steps s all next r) → Quiet x.kind) → Quiet w.kind
      of_rest (x, j, e) others = subst (λ (z : Step). Quiet z.kind) (sym e) (others x j)

      of_front : In w own ⊎ In w (map (in_kids c r) (steps s all next ks)) → ((x : Step) → In x (steps s all next ks) → Quiet x.kind) → Quiet w.kind
      of_front (inl a) deeper = of_own (may_act all c ks c.todo) a
      of_front (inr b) deeper = of_kid (from_map (in_kids c r) w (steps s all next ks) b) deeper

      by : In w (own ++ map (in_kids c r) (steps s all next ks)) ⊎ In w (map (in_rest c ks) (steps s all next r)) → ((x : Step) → In x (steps s all next ks) → Quiet x.kind)
          → ((x : Step) → In x (steps s all next r) → Quiet x.kind) → Quiet w.kind
      by (inl a) deeper others = of_front (in_cases w own (map (in_kids c r) (steps s all next ks)) a) deeper
      by (inr b) deeper others = of_rest (from_map (in_rest c ks) w (steps s all next r) b) others

-- ---- what a step is, by what the source told in it

-- the end was read
abbrev pub is_past : Phase → Bool
is_past (reading e) = false
is_past (giving e i) = false
is_past closing = true
is_past finished = true

abbrev pub Tells : Answer → Phase → WholeStep → Type 0
Tells unasked p w = Quiet w.kind × (is_past p ≡ true → is_past w.after.phase ≡ true)
Tells (came b) p w = (batch_read w.kind ≡ 1) × (end_read w.kind ≡ 0)
Tells over p w = (batch_read w.kind ≡ 0) × (end_read w.kind ≡ 1) × (is_past p ≡ false) × (is_past w.after.phase ≡ true)

module _ (root : Tasks) (rest : List WholeStep) (w : WholeStep) (fit : w.misfit ≡ false) where
  abbrev At : Answer → Phase → ℕ → Type 0
  At told p k = nth (cond (may_source p root) (source_step told p root ∷ []) [] ++ rest) k ≡ Some w

  abbrev Others : Phase → Type 0
  Others p = (v : WholeStep) → In v rest → Quiet v.kind × (v.after.phase ≡ p)

  among : (p : Phase) → Others p → In w rest → Tells unasked p w
  among p others i = let h = others w i in ((h.0.0, h.0.1), λ e. ap is_past h.1 ∙ e)

  tells : (p : Phase) (k : ℕ) (told : Answer) → Asking p k told → At told p k → Others p → Tells told p w
  tells (reading e) zero unasked a at others = absurd (true≢false (ap (λ (z : WholeStep). z.misfit) (some_same (source_step unasked (reading e) root) w at) ∙ fit))
  tells (reading e) zero (came b) a at others = subst (Tells (came b) (reading e)) (some_same (source_step (came b) (reading e) root) w at) (refl, refl)
  tells (reading e) zero over a at others = subst (Tells over (reading e)) (some_same (source_step over (reading e) root) w at) (refl, refl, refl, refl)
  tells (reading e) (suc k) told a at others = subst (λ z. Tells z (reading e) w) (sym a) (among (reading e) others (nth_in rest k w at))
  tells (giving e i) k told a at others = subst (λ z. Tells z (giving e i) w) (sym a) (by (at_place (has_room 0 root) (source_step told (giving e i) root) rest k w at))
    where
      by : ((k ≡ 0) × (source_step told (giving e i) root ≡ w)) ⊎ In w rest → Tells unasked (giving e i) w
      by (inl (z, q)) = subst (Tells unasked (giving e i)) q ((refl, refl), λ h. absurd (true≢false (sym h)))
      by (inr j) = among (giving e i) others j
  tells closing k told a at others = subst (λ z. Tells z closing w) (sym a) (by (at_place true (source_step told closing root) rest k w at))
    where
      by : ((k ≡ 0) × (source_step told closing root ≡ w)) ⊎ In w rest → Tells unasked closing w
      by (inl (z, q)) = subst (Tells unasked closing) q ((refl, refl), λ h. refl)
      by (inr j) = among closing others j
  tells finished k told a at others = subst (λ z. Tells z finished w) (sym a) (among finished others (nth_in rest k w at))

-- whatever number the next segment has
pub step_tells : (s : Setting) (number : ℕ) (m : Machine) (told : Answer) (k : ℕ) (w : WholeStep) → nth (whole_steps s (machine_ids m) number told m) k ≡ Some w → Asking m.phase k told → w.misfit ≡ false
    → Tells told m.phase w
step_tells s number m told k w place asks fits = tells m.root rest w fits m.phase k told asks place others
  where
    rest : List WholeStep
    rest = map (in_root m.phase) (steps s (machine_ids m) number m.root)

    others : (v : WholeStep) → In v rest → Quiet v.kind × (v.after.phase ≡ m.phase)
    others v i = by (from_map (in_root m.phase) v (steps s (machine_ids m) number m.root) i)
      where
        by : (y : Step) × In y (steps s (machine_ids m) number m.root) × (v ≡ in_root m.phase y) → Quiet v.kind × (v.after.phase ≡ m.phase)
        by (y, j, e) = (subst (λ (z : WholeStep). Quiet z.kind) (sym e) (steps_quiet s number (machine_ids m) m.root y j), ap (λ (z : WholeStep). z.after.phase) e)

chosen_tells : (g : Write) (first : ℕ) (x : Stand) (told : Answer) (k : ℕ) (w : WholeStep) → Chosen g first x told k w → Tells told x.machine.phase w
chosen_tells g first x told k w c = step_tells g.setting (first + length x.history) x.machine told k w c.place c.asks c.fits

-- ---- runs

abbrev flag : Bool → ℕ
flag b = if b then 1 else 0

-- where the end is told, it was read
abbrev Past : Stand → Type 0
Past x = x.heard ≡ true → is_past x.machine.phase ≡ true

abbrev stepped : Stand → Answer → WholeStep → Stand
stepped x told w = record { machine = w.after; taken = taken_by x.taken told; heard = heard_by x.heard told; history = x.history ++ w.wrote }

abbrev Counts : Kind → Stand → Stand → Type 0
Counts k x y = (batch_read k + length x.taken ≡ length y.taken) × (end_read k + flag x.heard ≡ flag y.heard) × Past y

step_counts : (x : Stand) (told : Answer) (w : WholeStep) → BeforeEnd x.heard told → Tells told x.machine.phase w → Past x → Counts w.kind x (stepped x told w)
step_counts x unasked w once t p = (ap (λ z. z + length x.taken) t.0.0 ∙ zero_more (length x.taken), ap (λ z. z + flag x.heard) t.0.1 ∙ zero_more (flag x.heard), λ h. t.1 (p h))
  where
    zero_more : (n : ℕ) → 0 + n ≡ n
    zero_more n = omega arith
step_counts x (came b) w once t p = (
  ap (λ z. z + length x.taken) t.0 ∙ one_more (length x.taken) ∙ sym (length-append x.taken (b ∷ [])),
  ap (λ z. z + flag x.heard) t.1 ∙ zero_more (flag x.heard),
  λ h. absurd (true≢false (sym h ∙ once)),
)
  where
    zero_more : (n : ℕ) → 0 + n ≡ n
    zero_more n = omega arith

    one_more : (n : ℕ) → 1 + n ≡ n + 1
    one_more n = omega arith
step_counts x over w once t p = (ap (λ z. z + length x.taken) t.0 ∙ zero_more (length x.taken), ap (λ z. z + flag x.heard) t.1 ∙ by x.heard refl, λ h. t.3)
  where
    zero_more : (n : ℕ) → 0 + n ≡ n
    zero_more n = omega arith

    by : (b : Bool) → x.heard ≡ b → 1 + flag x.heard ≡ 1
    by true e = absurd (true≢false (sym (p e) ∙ t.2))
    by false e = ap (λ z. 1 + flag z) e

done_counts : (g : Write) (first : ℕ) (x y : Stand) (n : Note) → Done g first x y n → Past x → Counts n.kind x y
done_counts g first x y n d p = subst (λ z. Counts n.kind x z) (sym d.left) (subst (λ z. Counts z x (stepped x d.told d.step)) (sym (ap (λ (z : Note). z.kind) d.note))
    (step_counts x d.told d.step d.chosen.once (chosen_tells g first x d.told n.picked d.step d.chosen) p))

led_counts : (g : Write) (first : ℕ) (ns : List Note) (x y : Stand) → Led g first x ns y → Past x
    → (total_by (λ n. batch_read n.kind) ns + length x.taken ≡ length y.taken) × (total_by (λ n. end_read n.kind) ns + flag x.heard ≡ flag y.heard) × Past y
led_counts g first [] x y l p = subst (λ z. (0 + length x.taken ≡ length z.taken) × (0 + flag x.heard ≡ flag z.heard) × Past z) l (zero_more (length x.taken), zero_more (flag x.heard), p)
  where
    zero_more : (n : ℕ) → 0 + n ≡ n
    zero_more n = omega arith
led_counts g first (n ∷ ns) x y l p =
    let h : Counts n.kind x l.0 = done_counts g first x l.0 n l.1 p in
    let r : (total_by (λ n. batch_read n.kind) ns + length l.0.taken ≡ length y.taken) × (total_by (λ n. end_read n.kind) ns + flag l.0.heard ≡ flag y.heard) × Past y = led_counts g first ns l.0 y l.2 h.2 in (
      (let a = h.0 in let b = r.0 in omega (arith, a, b)),
      (let a = h.1 in let b = r.1 in omega (arith, a, b)),
      r.2,
    )

from_start : (g : Write) (first : ℕ) (ns : List Note) (x : Stand) → Led g first (outset g) ns x
    → (total_by (λ n. batch_read n.kind) ns + 0 ≡ length x.taken) × (total_by (λ n. end_read n.kind) ns + 0 ≡ flag x.heard) × Past x
from_start g first ns x l = led_counts g first ns (outset g) x l (λ h. absurd (true≢false (sym h)))

pub answers_are_noted : AnswersAreNoted
answers_are_noted g first ns x l =
    let h = from_start g first ns x l in
    (sym (no_more (total_by (λ n. batch_read n.kind) ns)) ∙ h.0, sym (no_more (total_by (λ n. end_read n.kind) ns)) ∙ h.1)
  where
    no_more : (n : ℕ) → n + 0 ≡ n
    no_more n = omega arith

-- it is asked only where it reads
pub before_end : (heard : Bool) (told : Answer) (p : Phase) (k : ℕ) → (heard ≡ true → is_past p ≡ true) → Asking p k told → BeforeEnd heard told
before_end heard told p k past asks = by told p k past asks
  where
    no_batch : (b : ChunkData) → came b ≡ unasked → ⊥
    no_batch b e = cc

    no_end : over ≡ unasked → ⊥
    no_end e = cc

    open_still : (b : Bool) → (b ≡ true → false ≡ true) → b ≡ false
    open_still false h = refl
    open_still true h = absurd (true≢false (sym (h refl)))

    by : (told : Answer) (p : Phase) (k : ℕ) → (heard ≡ true → is_past p ≡ true) → Asking p k told → BeforeEnd heard told
    by unasked p k h a = tt
    by (came b) (reading here) zero h a = open_still heard h
    by (came b) (reading here) (suc k) h a = absurd (no_batch b a)
    by (came b) (giving here i) k h a = absurd (no_batch b a)
    by (came b) closing k h a = absurd (no_batch b a)
    by (came b) finished k h a = absurd (no_batch b a)
    by over (reading here) zero h a = open_still heard h
    by over (reading here) (suc k) h a = absurd (no_end a)
    by over (giving here i) k h a = absurd (no_end a)
    by over closing k h a = absurd (no_end a)
    by over finished k h a = absurd (no_end a)

pub asked_before_end : AskedBeforeEnd
asked_before_end g first ns x told k l a = before_end x.heard told x.machine.phase k (from_start g first ns x l).2 a

-- ---- the batches taken

more_of_schema : (t : Ty) (bs : List ChunkData) (b : ChunkData) → OfSchema t bs → piece_type b ≡ t → OfSchema t (bs ++ (b ∷ []))
more_of_schema t [] b h e = (e, tt)
more_of_schema t (c ∷ bs) b h e = (h.0, more_of_schema t bs b h.1 e)

pub answer_of_schema : (t : Ty) (bs : List ChunkData) (told : Answer) → OfSchema t bs → TypedAnswer t told → OfSchema t (taken_by bs told)
answer_of_schema t bs unasked h ty = h
answer_of_schema t bs (came b) h ty = more_of_schema t bs b h (typed_is t b ty)
answer_of_schema t bs over h ty = h

led_of_schema : (g : Write) (first : ℕ) (ns : List Note) (x y : Stand) → Led g first x ns y → OfSchema g.type x.taken → OfSchema g.type y.taken
led_of_schema g first [] x y l h = subst (λ (z : Stand). OfSchema g.type z.taken) l h
led_of_schema g first (n ∷ ns) x y l h =
    let d : Done g first x l.0 n = l.1 in
    led_of_schema g first ns l.0 y l.2 (subst (λ (z : Stand). OfSchema g.type z.taken) (sym d.left) (answer_of_schema g.type x.taken d.told h d.chosen.typed))

pub all_of_schema : (t : Ty) (bs : List ChunkData) → OfSchema t bs → of_schema t bs ≡ bs
all_of_schema t [] h = refl
all_of_schema t (b ∷ bs) (e, h) = let k : ty_eq (piece_type b) t ≡ true = (ty_eq_decides (piece_type b) t).1 e in rw k (ap (λ z. b ∷ z) (all_of_schema t bs h))

-- one of another type is left out
none_behind : (t : Ty) (bs : List ChunkData) (b : ChunkData) → OfSchema t bs → (piece_type b ≡ t → ⊥) → of_schema t (bs ++ (b ∷ [])) ≡ bs
none_behind t [] b h differs = by (ty_eq (piece_type b) t) refl
  where
    by : (x : Bool) → ty_eq (piece_type b) t ≡ x → (if ty_eq (piece_type b) t then b ∷ [] else []) ≡ []
    by true e = absurd (differs ((ty_eq_decides (piece_type b) t).0 e))
    by false e = rw e refl
none_behind t (c ∷ bs) b (e, h) differs = let k : ty_eq (piece_type c) t ≡ true = (ty_eq_decides (piece_type c) t).1 e in rw k (ap (λ z. c ∷ z) (none_behind t bs b h differs))

pub taken_are_typed : TakenAreTyped
taken_are_typed g first ns x l =
    let h : OfSchema g.type x.taken = led_of_schema g first ns (outset g) x l tt in
    record { typed = h; all = all_of_schema g.type x.taken h; without = λ b differs. none_behind g.type x.taken b h differs }

more_whole : (t : Ty) (bs : List ChunkData) (b : ChunkData) → AllOf t bs → Of t b → AllOf t (bs ++ (b ∷ []))
more_whole t [] b h o = (o, tt)
more_whole t (c ∷ bs) b h o = (h.0, more_whole t bs b h.1 o)

answer_whole : (t : Ty) (bs : List ChunkData) (told : Answer) → AllOf t bs → WholeAnswer t told → AllOf t (taken_by bs told)
answer_whole t bs unasked h o = h
answer_whole t bs (came b) h o = more_whole t bs b h o
answer_whole t bs over h o = h

led_whole : (g : Write) (first : ℕ) (ns : List Note) (x y : Stand) (l : Led g first x ns y) → ToldWhole g first x ns y l → AllOf g.type x.taken → AllOf g.type y.taken
led_whole g first [] x y l o h = subst (λ (z : Stand). AllOf g.type z.taken) l h
led_whole g first (n ∷ ns) x y l o h =
    led_whole g first ns l.0 y l.2 o.1 (subst (λ (z : Stand). AllOf g.type z.taken) (sym l.1.left) (answer_whole g.type x.taken l.1.told h o.0))

pub taken_are_whole : TakenAreWhole
taken_are_whole g first ns x l o = led_whole g first ns (outset g) x l o tt
