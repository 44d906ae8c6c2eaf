-- Tasks without children are good: flat nodes, nodes that do nothing; and a list that refuses an empty stream.
use Rattle.std.proofs.Common.{◌≡◌, ℕ, zero, suc, ◌+◌, inl, ⊎_elim, Bool, true, false, ◌||◌, List, [], ◌∷◌, ◌++◌, length, Option, Some, None, refl, sym, ap, ◌∙◌, subst, arith}
use Rattle.std.specs.Prelude.{is_some}
use Rattle.std.proofs.lemmas.Bool.{true≢false}
use Rattle.vx_model.specs.Ty.{Ty, Tys, struct}
use Rattle.vx_path.specs.Lists.{In}
use Rattle.vx_path.proofs.Lists.{in_left}
use Rattle.vx_path.specs.Path.{path_le, begins, under, Eof, eof_path, inside, next}
use Rattle.vx_path.proofs.Path.{path_le-refl, begins-refl}
use Rattle.vx_tasks.specs.Task.{Kind, Action, Task, Forest, any_kind, is_still, appends_in, next_kind, is_late}
use Rattle.vx_tasks.specs.Task as task
use Rattle.vx_tasks.specs.Task.Kind.{Take, TakeEnd, Append, Join}
use Rattle.vx_tasks.specs.Task.Forest.{Bare, Node}
use Rattle.vx_tasks.specs.Rules.{Keeps, Covers}
use Rattle.vx_tasks.specs.Nodes.{acts}
use Rattle.vx_tasks.specs.Good.{Good, ColumnKids}
use Rattle.vx_tasks.specs.Walks.{From, Walks, Drives}
use Rattle.vx_tasks.proofs.Scripts.{drop_nil}
use Rattle.vx_tasks.proofs.Fit.{body_reads}
use Rattle.vx_tasks.proofs.Leaves as leaves
use Rattle.vx_tasks.proofs.Columns as columns
use Rattle.vx_tasks.proofs.Many.{many_good}
use Rattle.vx_strategy_spec.specs.StrategyData.{FlatOptions}
use Rattle.vx_plan.specs.PlanData.{Setting, Item, places}
use Rattle.vx_plan.specs.FlatNode.{segment}
use Rattle.vx_machine_turns.specs.Forms.{Form, Forms, flat_form, no_struct_form, struct_form, list_form, form_type, Writer}
use Rattle.vx_machine_turns.specs.Locals.{flat_empty, flat_full, flat_many, idle_local}
use Rattle.vx_machine_turns.specs.Acts.{Seed, Act, births, gifts, shut}
use Rattle.vx_machine_turns.specs.Flat.{forbidden, flat_kept}
use Rattle.vx_machine_turns.specs.Starts.{seed_of, local_of, list_columns_of}
use Rattle.vx_machine_turns.specs.Columns.{column_seeds}
use Rattle.vx_machine_turns.specs.Turns.{firsts}
use Rattle.vx_machine_turns.specs.Scripts.{script}
use Rattle.vx_machine_turns.specs.Fuels.{Fuel, fuel}
use Rattle.vx_machine_turns.specs.Readings.{row_of, unread}
use Rattle.vx_machine_turns.specs.Plain.{plain, task_of, script_reading}
use Rattle.vx_machine_turns.specs.Duties.{duty_of}
use Rattle.vx_machine_turns.proofs.DutyLaws.{below_none}
use Rattle.vx_machine_turns.proofs.TidyLaws.{scripts_are_tidy}
use Rattle.vx_machine_turns.proofs.FlatLaws.{flat_births}
use Rattle.vx_machine_turns.proofs.StructLaws.{idle_acts}
use Rattle.vx_machine_turns.proofs.GoodLaws.{node_good}
use Rattle.vx_machine_turns.proofs.JoinLaws.{script_last, script_joins}
use Rattle.vx_machine_turns.proofs.GoodNodes.{IsGood, IsGoodAt, WritersGood}

-- ---- nodes that do nothing

idle_task_good : (s : Setting) (t : Ty) (spare : List ℕ) (name : List ℕ) (items : List Item) (ended : Bool) (e : Eof)
    → Good name (places items) ended e (task_of (record { type = t; name = name; spare = spare; eof = eof_path e; local = idle_local }) (script s idle_local items ended)) Bare
idle_task_good s t spare name items ended e = node_good s (record { type = t; name = name; spare = spare; eof = eof_path e; local = idle_local }) [] items ended e Bare (record {
  eof_is = refl;
  at = tt;
  tidy = scripts_are_tidy s idle_local items ended;
  seeds_are = (idle_acts s items ended).born;
  given_are = tt;
  last = script_last e s items idle_local ended 0 tt tt;
  ends = tt;
  held = λ x i. absurd i;
  placed = tt;
  joins = script_joins e s Bare items idle_local ended 0 [] tt tt;
}) tt

pub no_struct_good : (s : Setting) (t : Ty) → IsGood s (no_struct_form t)
no_struct_good s t m name items ended e d enough b =
    subst (λ z. Good name (places items) ended e (task_of (seed_of (no_struct_form t) m name e) (script s idle_local items ended)) z)
    (sym (below_none s script_reading d (duty_of s (no_struct_form t) m name items ended e) (idle_acts s items ended).born)) (idle_task_good s t [] name items ended e)

pub repeated_good : (s : Setting) (fs : Tys) (n : Bool) (a : List ℕ) (v : Form) (ks : Forms) → IsGood s (struct_form fs n (Some a) v ks)
repeated_good s fs n a v ks m name items ended e d enough b =
    subst (λ z. Good name (places items) ended e (task_of (seed_of (struct_form fs n (Some a) v ks) m name e) (script s idle_local items ended)) z)
    (sym (below_none s script_reading d (duty_of s (struct_form fs n (Some a) v ks) m name items ended e) (idle_acts s items ended).born)) (idle_task_good s (struct fs n) [] name items ended e)

-- ---- flat

-- a task that appends nothing and has no child
walked : (ps : List (List ℕ)) (ended : Bool) (e : Eof) (t : Task) → Drives ps ended e t → Good t.name ps ended e t Bare
walked ps ended e t d = many_good ps ended e t d [] Bare (λ n a todo w k m i. tt) tt tt

first_kind : List Action → Kind
first_kind [] = Join
first_kind (a ∷ todo) = a.kind

-- one chunk, to the end; its take may refuse
module _ (name : List ℕ) (e : Eof) (p : List ℕ) (bad : Bool) where
  abbrev takes_one : Action
  takes_one = record { kind = Take; starts = []; gives = []; shuts = []; holds = p ∷ []; refuses = bad }

  abbrev whole : Task
  whole = record { name = name; script = takes_one ∷ acts TakeEnd (p ∷ []) ∷ acts (Append p) [] ∷ []; first = []; held = []; spare = []; eof = eof_path e }

  stream_covers : (hold : List (List ℕ)) (rest : List (List ℕ)) (x : List ℕ) → In x (p ∷ []) → In p hold → (y : List ℕ) × In y (hold ++ rest) × (path_le y x ≡ true)
  stream_covers hold rest x i h = (p, in_left p hold rest h, ⊎_elim (λ z. rw z (path_le-refl p)) (λ z. absurd z) i)

  whole_own : (n : ℕ) (x : List ℕ) → In x (appends_in (task.next whole n)) → Covers (p ∷ []) whole n x
  whole_own zero x i = stream_covers (p ∷ []) [] x i (inl refl)
  whole_own (suc zero) x i = stream_covers (p ∷ []) [] x i (inl refl)
  whole_own (suc (suc zero)) x i = stream_covers (p ∷ []) [] x i (inl refl)
  whole_own (suc (suc (suc n))) x i = let z : In x [] = rw (drop_nil {A = Action} n) at i in absurd z

  whole_keeps : Keeps whole
  unfolding first_kind
  whole_keeps zero q a todo w k = let h : Take ≡ Append q = ap (λ l. first_kind l) w ∙ k in cc
  whole_keeps (suc zero) q a todo w k = let h : TakeEnd ≡ Append q = ap (λ l. first_kind l) w ∙ k in cc
  whole_keeps (suc (suc zero)) q a todo w k = let h : Append p ≡ Append q = ap (λ l. first_kind l) w ∙ k in let z : p ≡ q = cc in ap (λ y. y ∷ []) z
  whole_keeps (suc (suc (suc n))) q a todo w k = let z : [] ≡ a ∷ todo = sym (drop_nil n) ∙ w in cc

  whole_good : Good name (p ∷ []) true e whole Bare
  whole_good = record {
    eof_is = refl;
    reads = record {
      reads_all = λ r. omega arith;
      enough = omega arith;
      reads_first = λ n h. body_reads whole (takes_one ∷ []) (acts TakeEnd (p ∷ []) ∷ acts (Append p) [] ∷ []) 1 n refl refl (omega arith) h;
      at_end = λ r h. refl;
      own = whole_own;
    };
    keeps = whole_keeps;
    apart = λ n a todo w k m i. tt;
    rules = tt;
    order = tt;
    region = ((λ x i. ⊎_elim (λ z. inl (p, inl refl, rw z (begins-refl p))) (λ i. ⊎_elim (λ z. inl (p, inl refl, rw z (begins-refl p))) (λ z. absurd z) i) i), tt, tt);
    named = λ y i. ⊎_elim (λ z. subst (λ x. begins name x ≡ true) (sym z) (begins-refl name)) (λ z. absurd z) i;
    rises = ((λ y i. absurd i), tt);
  }

module _ (s : Setting) (o : FlatOptions) (t : Ty) (e : Eof) where
  many_walk : (items : List Item) (ended : Bool) (k : ℕ) → Walks e ended [] (places items) (plain k (script s flat_many items ended))
  many_walk [] true k = (record { holds = λ x i. absurd i; enough = omega arith; late = λ r. refl; mute = refl }, (refl, λ z. refl))
  many_walk [] false k = (refl, λ z. refl)
  many_walk (i ∷ is) ended k = (record { holds = λ x i. absurd i; enough = omega arith; late = λ r. cc; mute = refl }, many_walk is ended (0 + k))

  many_still : (items : List Item) (k : ℕ) → any_kind is_still (plain k (script s flat_many items false)) ≡ false
  many_still [] k = refl
  many_still (i ∷ is) k = many_still is (0 + k)

  kept_from : (i : Item) (b : Option (List ℕ)) (x : List ℕ) → In x (flat_kept i b) → From e (i.0 ∷ []) x
  kept_from i None x m = absurd m
  kept_from i (Some bytes) x m = (x, m, inl (begins-refl x))

  -- the task of a first chunk with this segment
  abbrev one_task : List ℕ → Item → Option (List ℕ) → List Item → Bool → Task
  one_task name i b is ended = record {
    name = name;
    script = record { kind = Take; starts = []; gives = []; shuts = []; holds = flat_kept i b; refuses = false || is_some (forbidden (s.codec.refused s.encodings i.1)) } ∷ plain 0 (script s (flat_full o t i b) is ended);
    first = [];
    held = [];
    spare = [];
    eof = eof_path e;
  }

  one_good : (name : List ℕ) (i : Item) (b : Option (List ℕ)) (is : List Item) (ended : Bool) → Good name (i.0 ∷ places is) ended e (one_task name i b is ended) Bare
  one_good name i None [] true = walked (i.0 ∷ []) true e (one_task name i None [] true) (record {
    eof_is = refl;
    held_in = λ x m. absurd m;
    walks = (record { holds = λ x m. absurd m; enough = omega arith; late = λ r. cc; mute = refl }, (record { holds = λ x m. absurd m; enough = omega arith; late = λ r. refl; mute = refl }, (refl, λ z. refl)));
    quiet = λ z. cc;
  })
  one_good name i (Some bytes) [] true = whole_good name e i.0 (false || is_some (forbidden (s.codec.refused s.encodings i.1)))
  one_good name i b [] false = walked (i.0 ∷ []) false e (one_task name i b [] false) (record {
    eof_is = refl;
    held_in = λ x m. absurd m;
    walks = (record { holds = λ x m. kept_from i b x m; enough = omega arith; late = λ r. cc; mute = refl }, (refl, λ z. absurd (true≢false (sym z))));
    quiet = λ z. refl;
  })
  one_good name i b (j ∷ is) ended = walked (i.0 ∷ j.0 ∷ places is) ended e (one_task name i b (j ∷ is) ended) (record {
    eof_is = refl;
    held_in = λ x m. absurd m;
    walks = (
      record { holds = λ x m. kept_from i b x m; enough = omega arith; late = λ r. cc; mute = refl },
      (record { holds = λ x m. absurd m; enough = omega arith; late = λ r. cc; mute = refl }, many_walk is ended (0 + 0)),
    );
    quiet = λ z. subst (λ b. any_kind is_still (plain (0 + 0) (script s flat_many is b)) ≡ false) (sym z) (many_still is (0 + 0));
  })

pub flat_good : (s : Setting) (o : FlatOptions) (t : Ty) → IsGood s (flat_form o t)
flat_good s o t m name items ended e d enough b = subst (λ z. Good name (places items) ended e (task_of (seed_of (flat_form o t) m name e) (script s (flat_empty o t) items ended)) z)
    (sym (below_none s script_reading d (duty_of s (flat_form o t) m name items ended e) (flat_births s o t items ended))) (go items ended)
  where
    go : (items : List Item) (ended : Bool) → Good name (places items) ended e (task_of (seed_of (flat_form o t) m name e) (script s (flat_empty o t) items ended)) Bare
    go [] true = leaves.flat_good name e false [] true
    go [] false = leaves.flat_good name e false [] false
    go (i ∷ is) ended = one_good s o t e name i (segment s o i) is ended

-- ---- a list whose stream ends without a chunk: its columns' streams stay open

module _ (s : Setting) (g : Ty → Fuel) (name : List ℕ) (acts : List Act) (quiet : (j : ℕ) → (gifts j acts ≡ []) × (shut j acts ≡ false)) where
  open_kids : (ws : List Writer) (c : ℕ) (e : Eof) → WritersGood s g ws
      → ColumnKids name c (length (column_seeds name c ws e)) [] false e (row_of s script_reading (λ q. unread s script_reading (g q.type) 0) c (column_seeds name c ws e ++ []) acts)
  open_kids [] c e h = tt
  open_kids (w ∷ ws) c e h =
      let q : Seed = seed_of w.1 w.0 (under name c) (inside e) in (
        subst (λ z. Good (under name c) [] false (inside e) (task_of q (script s q.local z (shut c acts))) (unread s script_reading (g q.type) 0 (firsts q ++ births (script s q.local z (shut c acts))) (script s q.local z (shut c acts)))) (sym (quiet c).0)
            (subst (λ z. Good (under name c) [] false (inside e) (task_of q (script s q.local [] z)) (unread s script_reading (g q.type) 0 (firsts q ++ births (script s q.local [] z)) (script s q.local [] z))) (sym (quiet c).1)
            (h.0.0 w.0 (under name c) [] false (inside e) (g (form_type w.1)) h.0.1 (λ p i. absurd i))),
        open_kids ws (suc c) (next e) h.1,
      )

pub empty_list_good : (s : Setting) (t : Ty) (n m : Bool) (a b c : Form) (name : List ℕ) (e : Eof) (g : Ty → Fuel) → WritersGood s g (list_columns_of n m a b c) → IsGoodAt s (list_form t n a b c) m name [] true e (fuel g)
empty_list_good s t n m a b c name e g h =
    let ws : List Writer = list_columns_of n m a b c in
    columns.columns_good name e true (length (column_seeds name 0 ws e)) [] true
    (row_of s script_reading (λ q. unread s script_reading (g q.type) 0) 0 (column_seeds name 0 ws e ++ []) (script s (local_of (list_form t n a b c) m name e) [] true))
    (open_kids s g name (script s (local_of (list_form t n a b c) m name e) [] true) (λ j. (refl, refl)) ws 0 e h)
