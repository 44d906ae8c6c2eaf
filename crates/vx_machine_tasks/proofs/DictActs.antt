-- What a dictionary node's task does with its children, against the same in plain data.
use Rattle.std.proofs.Common.{◌≡◌, ℕ, zero, suc, ◌+◌, ◌<◌, Bool, true, false, List, [], ◌∷◌, ◌++◌, length, map, get_or, set, Option, Some, None, refl, sym, ap, subst, ◌∙◌, inr, arith}
use Rattle.std.proofs.lemmas.Bool.{true≢false}
use Rattle.std.proofs.lemmas.List.{length-set, map_push}
use Rattle.vx_model.specs.ChunkData.{ChunkData}
use Rattle.vx_layout_spec.specs.Real.{Whole}
use Rattle.vx_path.specs.Path.{Eof, under, inside, next}
use Rattle.vx_path.proofs.Lists.{in_left, in_right}
use Rattle.vx_order.specs.Outlet.{Outlet}
use Rattle.vx_order.specs.Answers.{IsPast, IsShared}
use Rattle.vx_sequence.specs.Universe.{Active}
use Rattle.vx_machine_ids.specs.Stock.{Stock, none, both}
use Rattle.vx_machine_ids.specs.Balance.{Owned, Moved}
use Rattle.vx_machine_ids.proofs.Stocks.{stock_is, both_swap, both_assoc}
use Rattle.vx_machine_ids.proofs.Lists.{set_same}
use Rattle.vx_machine_ids.proofs.MoveLaws.{moved_none, moved_then, moved_beside, moved_drop, moved_as, owned_as, owned_left, owned_right, owned_now}
use Rattle.vx_plan.specs.DictNode.{is_dictionary}
use Rattle.vx_plan.specs.PlanData.{Setting, What, Item as Piece, rows_in}
use Rattle.vx_machine_turns.specs.Acts.{or_else}
use Rattle.vx_machine_turns.specs.Forms.{Form}
use Rattle.vx_machine_turns.specs.Starts.{start_fault}
use Rattle.vx_machine_state.specs.Coder.{Coder}
use Rattle.vx_machine_state.specs.Coding.{no_runs}
use Rattle.vx_machine_state.specs.Images.{images_of}
use Rattle.vx_machine_state.specs.State.{Next, hand_on, probe, open_run, shut_kids, Mind, as_is, by_probe, by_run, passing, Tasks, no_tasks, task_then}
use Rattle.vx_machine_state.specs.Start.{first_indices, started_task}
use Rattle.vx_machine_state.specs.Acts.{count, add, give, end_at, shut_desk, shut_at, probed, take_end}
use Rattle.vx_write_answer.specs.declared.error.WriteError.{WriteError}
use Rattle.vx_write_answer.specs.declared.error.WriteError.TheVariants.{CompressFault}
use Rattle.vx_write_answer.specs.declared.step.ActionKind.TheVariants as actions
use Rattle.vx_machine_node.specs.declared.dict_node.DictNode.{DictNode}
use Rattle.vx_machine_node.specs.declared.item.Due.{Due}
use Rattle.vx_machine_node.specs.declared.item.Due.TheVariants.{Close}
use Rattle.vx_machine_node.specs.declared.node.Local.{Local}
use Rattle.vx_machine_node.specs.declared.node.Local.TheVariants.{Grouped}
use Rattle.vx_machine_nodes.specs.Acting.{bare, acted, ActDone, ActRefused, Took, Ended, TakeRefused, is_probe}
use Rattle.vx_machine_nodes.specs.Calls.{CalledTimes, PressStops}
use Rattle.vx_machine_node.specs.Causes.{MayCome}
use Rattle.vx_machine_node.specs.Context.{Allowed}
use Rattle.vx_machine_node.specs.Ledger.{local_reserved}
use Rattle.vx_machine_node.specs.Outcome.{AllFit, none_past}
use Rattle.vx_machine_node.specs.View.{coder_in, next_of, todo_of}
use Rattle.vx_machine_node.proofs.Fitting.{none_fit, both_fit}
use Rattle.vx_machine_nodes.proofs.PressSteps.{image_is}
use Rattle.vx_machine_nodes.proofs.RefusalSteps.{any_past}
use Rattle.vx_machine_task.specs.declared.task.Task.{Task, out-Task}
use Rattle.vx_machine_task.specs.Ledger.{task_reserved, tasks_reserved}
use Rattle.vx_machine_task.specs.Ready.{kid_of, kids_of, room_at}
use Rattle.vx_machine_children.specs.Starting.{IsAllowed, KidStarted, StartRefused, FormRefused}
use Rattle.vx_machine_task.specs.Stocks.{task_stock, tasks_stock}
use Rattle.vx_machine_task.specs.View.{desk_of, task_row, row}
use Rattle.vx_machine_children.proofs.DictStarts.{fault_why}
use Rattle.vx_machine_task.proofs.PaidSteps.{at_same}
use Rattle.vx_machine_children.proofs.StartShows.{refused_as}
use Rattle.vx_machine_task.proofs.ViewParts.{add_add, count_row, row_out}

-- ---- a run is opened

some_first : (o p : Option What) (w : What) → o ≡ Some w → or_else o p ≡ Some w
some_first o p w h = ap (λ z. or_else z p) h

one_up : (n : ℕ) → n + 1 ≡ suc n
one_up n = omega arith

-- of a node, that both calls borrow
module _ (s : Setting) (name : List ℕ) (n : ℕ) (mind : Mind) (d : DictNode) (child : ℕ) (e : Eof) (i : Piece) (a : Allowed) (q : s.allowed ≡ a) (ks js : List Task) (o : Outlet) where
  abbrev c : Coder
  c = coder_in d

  pub opened : (ms : List Task) (u : Outlet) (left : List Next) (d1 : DictNode) → d1 ≡ d → KidStarted a (coder_in d1).codes d1.marked (under name child) (inside e) (i ∷ []) ks js
      → (d2 : DictNode) → d2 ≡ d → (b : Allowed) → b ≡ a → KidStarted b (coder_in d2).values d2.marked (under name (child + 1)) (inside (next e)) [] js ms → u ≡ o
      → ActDone (acted s name n mind (row ks) (open_run c child e i)) o n u mind left left (row ms) actions.Put
  opened ms u left d1 x h1 d2 y b z k1 f =
      let h : KidStarted a c.codes c.mark (under name child) (inside e) (i ∷ []) ks js = subst (λ m. KidStarted a (coder_in m).codes m.marked (under name child) (inside e) (i ∷ []) ks js) x h1 in
      let k : KidStarted a c.values c.mark (under name (child + 1)) (inside (next e)) [] js ms =
      subst (λ m. KidStarted a (coder_in m).values m.marked (under name (child + 1)) (inside (next e)) [] js ms) y (subst (λ m. KidStarted m (coder_in d2).values d2.marked (under name (child + 1)) (inside (next e)) [] js ms) z k1) in
      record {
        unrefused = ap (λ z. or_else z (start_fault s c.values c.mark)) (h.allowed s q) ∙ k.allowed s q;
        fits = refl;
        counted = both_fit (first_indices c.codes c.mark (inside e)) (first_indices c.values c.mark (inside (next e))) h.counted k.counted;
        todo_is = refl;
        mind_is = refl;
        kids_are =
            let codes : Tasks = started_task c.codes c.mark (under name child) (inside e) (i ∷ []) false in
            k.tasks ∙ ap (λ z. add z (started_task c.values c.mark (under name (child + 1)) (inside (next e)) [] false)) h.tasks
            ∙ add_add (row ks) codes (started_task c.values c.mark (under name (child + 1)) (inside (next e)) [] false)
            ∙ ap (λ z. add (row ks) (add codes (started_task c.values c.mark (under name z) (inside (next e)) [] false))) (one_up child);
        kind = refl;
        outlet = f;
      }

  -- codes don't start
  pub codes_why : (x : WriteError) (d1 : DictNode) → d1 ≡ d → FormRefused a (coder_in d1).codes d1.marked (inside e) x → ActRefused (acted s name n mind (row ks) (open_run c child e i)) o x
  codes_why x d1 y h1 =
      let is : List ℕ = first_indices c.codes c.mark (inside e) in
      let js : List ℕ = first_indices c.values c.mark (inside (next e)) in
      let h : FormRefused a c.codes c.mark (inside e) x = subst (λ m. FormRefused a (coder_in m).codes m.marked (inside e) x) y h1 in
      fault_why s a (λ z. or_else (start_fault z c.codes c.mark) (start_fault z c.values c.mark)) [] (is ++ js) (IsPast o) (IsShared o) x q
      (refused_as a a (λ z. start_fault z c.codes c.mark) (λ z. or_else (start_fault z c.codes c.mark) (start_fault z c.values c.mark)) is (is ++ js) x
      (λ z w b k. some_first (start_fault z c.codes c.mark) (start_fault z c.values c.mark) w (k z b)) (λ p. (p.0, in_left p.0 is js p.1, p.2)) h)

  -- values don't
  pub values_why : (x : WriteError) (d1 : DictNode) → d1 ≡ d → KidStarted a (coder_in d1).codes d1.marked (under name child) (inside e) (i ∷ []) ks js
      → (d2 : DictNode) → d2 ≡ d → (b : Allowed) → b ≡ a → FormRefused b (coder_in d2).values d2.marked (inside (next e)) x → ActRefused (acted s name n mind (row ks) (open_run c child e i)) o x
  values_why x d1 y g1 d2 v b t h1 =
      let is : List ℕ = first_indices c.codes c.mark (inside e) in
      let js : List ℕ = first_indices c.values c.mark (inside (next e)) in
      let none : (z : Setting) → z.allowed ≡ a → start_fault z c.codes c.mark ≡ None = subst (λ m. (z : Setting) → z.allowed ≡ a → start_fault z (coder_in m).codes m.marked ≡ None) y g1.allowed in
      let h : FormRefused a c.values c.mark (inside (next e)) x = subst (λ m. FormRefused a (coder_in m).values m.marked (inside (next e)) x) v (subst (λ m. FormRefused m (coder_in d2).values d2.marked (inside (next e)) x) t h1) in
      fault_why s a (λ z. or_else (start_fault z c.codes c.mark) (start_fault z c.values c.mark)) [] (is ++ js) (IsPast o) (IsShared o) x q
      (refused_as a a (λ z. start_fault z c.values c.mark) (λ z. or_else (start_fault z c.codes c.mark) (start_fault z c.values c.mark)) js (is ++ js) x
      (λ z w b k. ap (λ y. or_else y (start_fault z c.values c.mark)) (none z b) ∙ k z b) (λ p. (p.0, in_right p.0 is js p.1, p.2)) h)

-- ---- by the image of the first chunk

module _ (s : Setting) (name : List ℕ) (mind : Mind) (c : Coder) (e : Eof) (i : Piece) (ks : Tasks) where
  pub coded_took : (b : Bool) (m : Mind) (todo : List Next) → b ≡ true → m ≡ by_run c (no_runs e) i (0 + rows_in i.1) → Took (probed s b c e i [] (bare name mind) ks) m todo todo ks
  coded_took b m todo is h = subst (λ z. Took (probed s z c e i [] (bare name mind) ks) m todo todo ks) (sym is)
      (record { unrefused = refl; fits = refl; counted = none_fit; mind_is = h; todo_is = refl; kids_are = refl })

  pub fell_took : (b : Bool) (m : Mind) (todo before : List Next) (kids : Tasks) → b ≡ false → start_fault s c.fallback c.mark ≡ None → AllFit (first_indices c.fallback c.mark e)
      → kids ≡ add ks (started_task c.fallback c.mark (under name (count ks)) e [] false) → m ≡ as_is → todo ≡ hand_on 0 i ∷ before → Took (probed s b c e i [] (bare name mind) ks) m todo before kids
  fell_took b m todo before kids is a f k h t = subst (λ z. Took (probed s z c e i [] (bare name mind) ks) m todo before kids) (sym is)
      (record { unrefused = a; fits = refl; counted = f; mind_is = h; todo_is = t; kids_are = k })

  pub fell_why : (b : Bool) (a : Allowed) (x : WriteError) → b ≡ false → s.allowed ≡ a → FormRefused a c.fallback c.mark e x → TakeRefused (probed s b c e i [] (bare name mind) ks) x
  fell_why b a x is q h = subst (λ z. TakeRefused (probed s z c e i [] (bare name mind) ks) x) (sym is)
      (fault_why s a (λ z. start_fault z c.fallback c.mark) [] (first_indices c.fallback c.mark e) none_past ⊥ x q h)

  module _ (n : ℕ) (b : Bool) (o : Outlet) (is : is_dictionary (s.image c.options.probe i.1) ≡ b) where
    pub asked : (m : Mind) (todo left : List Next) (kids : Tasks) (u : Outlet) → u ≡ o → Took (probed s b c e i [] (bare name mind) ks) m todo left kids
        → ActDone (acted s name n mind ks (probe c e i)) o n u m todo left kids actions.Call
    asked m todo left kids u f t = subst (λ z. ActDone (probed s z c e i [] (bare name mind) ks) o n u m todo left kids actions.Call) (sym is) (by b t)
      where
        by : (b : Bool) → Took (probed s b c e i [] (bare name mind) ks) m todo left kids → ActDone (probed s b c e i [] (bare name mind) ks) o n u m todo left kids actions.Call
        by true t = record { unrefused = t.unrefused; fits = t.fits; counted = t.counted; todo_is = t.todo_is; mind_is = t.mind_is; kids_are = t.kids_are; kind = refl; outlet = f }
        by false t = record { unrefused = t.unrefused; fits = t.fits; counted = t.counted; todo_is = t.todo_is; mind_is = t.mind_is; kids_are = t.kids_are; kind = refl; outlet = f }

    pub asked_why : (x : WriteError) → TakeRefused (probed s b c e i [] (bare name mind) ks) x → ActRefused (acted s name n mind ks (probe c e i)) o x
    asked_why x t = subst (λ z. ActRefused (probed s z c e i [] (bare name mind) ks) o x) (sym is) (by b t)
      where
        by : (b : Bool) → TakeRefused (probed s b c e i [] (bare name mind) ks) x → ActRefused (probed s b c e i [] (bare name mind) ks) o x
        by true t = any_past None false [] [] [] (IsPast o) (IsShared o) [] x t
        by false t = any_past (start_fault s c.fallback c.mark) false [] (first_indices c.fallback c.mark e) [] (IsPast o) (IsShared o) [] x t

-- the image of a whole chunk, which the compressor gave
pub coded_is : (s : Setting) (image : ℕ → ChunkData → ChunkData) (d e : DictNode) (p c : ChunkData) (b : Bool) → s.image ≡ images_of image → Whole p → d ≡ e → c ≡ image d.probe p → b ≡ is_dictionary c → is_dictionary (s.image e.probe p) ≡ b
coded_is s image d e p c b q w x h g =
    ap (λ f. is_dictionary (f e.probe p)) q ∙ ap is_dictionary (image_is image e.probe p w ∙ ap (λ n. image n.probe p) (sym x) ∙ sym h) ∙ sym g

-- ---- the end, where no chunk came

module _ (s : Setting) (name : List ℕ) (c : Coder) (e : Eof) (ks : Tasks) (l : Mind) (is : l ≡ by_probe c e) where
  pub probe_ended : (m : Mind) (todo before : List Next) → start_fault s c.fallback c.mark ≡ None → AllFit (first_indices c.fallback c.mark e) → m ≡ passing → todo ≡ before ++ (shut_kids ∷ [])
      → Ended (take_end s (bare name l) ks l) m todo before
  probe_ended m todo before a f h t = subst (λ z. Ended (take_end s (bare name z) ks z) m todo before) (sym is) (record { unrefused = a; fits = refl; counted = f; mind_is = h; todo_is = t })

  pub probe_kids : (kids : Tasks) → kids ≡ add ks (started_task c.fallback c.mark (under name (count ks)) e [] false) → kids ≡ (take_end s (bare name l) ks l).kids
  probe_kids kids h = h ∙ ap (λ z. (take_end s (bare name z) ks z).kids) (sym is)

  pub probe_why : (a : Allowed) (x : WriteError) → s.allowed ≡ a → FormRefused a c.fallback c.mark e x → TakeRefused (take_end s (bare name l) ks l) x
  probe_why a x q h = subst (λ z. TakeRefused (take_end s (bare name z) ks z) x) (sym is) (fault_why s a (λ z. start_fault z c.fallback c.mark) [] (first_indices c.fallback c.mark e) none_past ⊥ x q h)

-- the fallback's name is by how many children there are
pub by_count : (f : Form) (m : Bool) (at : List ℕ) (e : Eof) (ks more : List Task) → row more ≡ add (row ks) (started_task f m (under at (length ks)) e [] false) → row more ≡ add (row ks) (started_task f m (under at (count (row ks))) e [] false)
by_count f m at e ks more h = h ∙ ap (λ n. add (row ks) (started_task f m (under at n) e [] false)) (sym (count_row ks))

-- ---- a queue is closed

pub shut_row : (ts : List Task) (n : ℕ) (x y : Task) → n < length ts → get_or ts n x ≡ x → ((r : Tasks) → task_row y r ≡ task_then (shut_desk (desk_of (out-Task x).head)) (row (out-Task x).kids.items) r) → row (set ts n y) ≡ shut_at n (row ts)
shut_row [] n x y h e f = absurd (omega (arith, h))
shut_row (t ∷ ts) zero x y h e f = f (row ts) ∙ ap (shut_at zero) (sym (row_out x (row ts))) ∙ ap (λ z. shut_at zero (task_row z (row ts))) (sym e)
shut_row (t ∷ ts) (suc n) x y h e f =
    ap (task_row t) (shut_row ts n x y (omega (arith, h)) e f) ∙ row_out t (shut_at n (row ts)) ∙ ap (shut_at (suc n)) (sym (row_out t (row ts)))

-- others have the room that they had
pub room_beside : (ts : List Task) (n : ℕ) (y : Task) → room_at (n + 1) (kids_of (set ts n y)) ≡ room_at (n + 1) (kids_of ts)
room_beside ts n y = ap (λ k. room_at k (kids_of (set ts n y))) (one_up n) ∙ next_to ts n ∙ ap (λ k. room_at k (kids_of ts)) (sym (one_up n))
  where
    next_to : (ts : List Task) (n : ℕ) → room_at (suc n) (kids_of (set ts n y)) ≡ room_at (suc n) (kids_of ts)
    next_to [] n = refl
    next_to (t ∷ ts) zero = refl
    next_to (t ∷ ts) (suc n) = next_to ts n

pub ended_row : (n : ℕ) (i : Piece) (a b c d : Tasks) → b ≡ shut_at n a → c ≡ give (n + 1) i b → d ≡ shut_at (n + 1) c → d ≡ end_at n i a
ended_row n i a b c d x y z =
    z ∙ ap (shut_at (n + 1)) (y ∙ ap (give (n + 1) i) x) ∙ ap (λ k. shut_at k (give k i (shut_at n a))) (one_up n)

-- ---- as many children

count_give : (j : ℕ) (i : Piece) (ks : Tasks) → count (give j i ks) ≡ count ks
count_give j i no_tasks = refl
count_give zero i (task_then c ks r) = refl
count_give (suc j) i (task_then c ks r) = ap suc (count_give j i r)

-- the next one is there still
pub still_within : (ks js : List Task) (n : ℕ) (y : Task) (i : Piece) → row js ≡ give (n + 1) i (row (set ks n y)) → n + 1 < length ks → n + 1 < length js
still_within ks js n y i h l =
    let e : length js ≡ length (set ks n y) = sym (count_row js) ∙ ap count h ∙ count_give (n + 1) i (row (set ks n y)) ∙ count_row (set ks n y) in
    omega (arith, e, length-set ks n y, l)

-- ---- ids of a run, and of the first chunk

module _ (u v w : Active) (t c d i : Stock) (o : Owned u (both t (both (both c d) i))) where
  run_apart : both t (both (both c d) i) ≡ both (both t (both c i)) d
  run_apart = stock_is (both t (both (both c d) i)) (both (both t (both c i)) d) (λ p. omega arith) (λ p. omega arith)

  pub codes_owned : Owned u (both t (both c i))
  codes_owned = owned_left u (both t (both c i)) d (owned_as u (both t (both (both c d) i)) (both (both t (both c i)) d) run_apart o)

  module _ (k : Stock) (m : Moved u v (both t (both c i)) k) where
    codes_beside : Moved u v (both t (both (both c d) i)) (both k d)
    codes_beside = moved_as u v (both (both t (both c i)) d) (both t (both (both c d) i)) (both k d) (both k d) (sym run_apart) refl
        (moved_beside u v (both t (both c i)) k d (owned_as u (both t (both (both c d) i)) (both (both t (both c i)) d) run_apart o) m)

    pub values_owned : Owned v (both k d)
    values_owned = owned_now u v (both t (both (both c d) i)) (both k d) o codes_beside

    pub run_moved : (l : Stock) → Moved v w (both k d) l → Moved u w (both t (both (both c d) i)) l
    run_moved l n = moved_then u v w (both t (both (both c d) i)) (both k d) l codes_beside n

    -- the values' id is given up
    pub run_lost : Moved v w d none → Moved u w (both t (both (both c d) i)) k
    run_lost n = run_moved k (moved_drop v w k d values_owned n)

-- the first chunk's pointer goes to the fallback
module _ (u v : Active) (l t k e i f : Stock) (o : Owned u (both (both (both l t) k) (both e i))) where
  chunk_is : both (both (both l t) k) (both e i) ≡ both (both k e) (both (both l t) i)
  chunk_is = stock_is (both (both (both l t) k) (both e i)) (both (both k e) (both (both l t) i)) (λ p. omega arith) (λ p. omega arith)

  chunk_held : Owned u (both (both k e) (both (both l t) i))
  chunk_held = owned_as u (both (both (both l t) k) (both e i)) (both (both k e) (both (both l t) i)) chunk_is o

  pub fell_owned : Owned u (both k e)
  fell_owned = owned_left u (both k e) (both (both l t) i) chunk_held

  module _ (a : Moved u v (both k e) f) where
    fell : Moved u v (both (both (both l t) k) (both e i)) (both f (both (both l t) i))
    fell = moved_as u v (both (both k e) (both (both l t) i)) (both (both (both l t) k) (both e i)) (both f (both (both l t) i)) (both f (both (both l t) i)) (sym chunk_is) refl
        (moved_beside u v (both k e) f (both (both l t) i) chunk_held a)

    fell_held : Owned v (both f (both (both l t) i))
    fell_held = owned_now u v (both (both (both l t) k) (both e i)) (both f (both (both l t) i)) o fell

    pub fell_item : Owned v i
    fell_item = owned_right v (both l t) i (owned_right v f (both (both l t) i) fell_held)

    mind_is : both f (both (both l t) i) ≡ both (both l none) (both f (both t i))
    mind_is = stock_is (both f (both (both l t) i)) (both (both l none) (both f (both t i))) (λ p. omega arith) (λ p. omega arith)

    mind_held : Owned v (both (both l none) (both f (both t i)))
    mind_held = owned_as v (both f (both (both l t) i)) (both (both l none) (both f (both t i))) mind_is fell_held

    pub fell_mind : Owned v (both l none)
    fell_mind = owned_left v (both l none) (both f (both t i)) mind_held

    -- its id goes to what is handed on, and what was in mind is given up
    pub fell_moved : (w : Active) (s m : Stock) → s ≡ both i t → Moved v w (both l none) m → Moved u w (both (both (both l t) k) (both e i)) (both (both m s) f)
    fell_moved w s m is b =
        moved_then u v w (both (both (both l t) k) (both e i)) (both f (both (both l t) i)) (both (both m s) f) fell
        (moved_as v w (both (both l none) (both f (both t i))) (both f (both (both l t) i)) (both m (both f (both t i))) (both (both m s) f) (sym mind_is)
        (stock_is (both m (both f (both t i))) (both (both m (both i t)) f) (λ p. omega arith) (λ p. omega arith) ∙ ap (λ z. both (both m z) f) (sym is))
        (moved_beside v w (both l none) m (both f (both t i)) mind_held b))

    -- refused, it is given up
    pub fell_lost : (w : Active) (s : Stock) → s ≡ t → Moved v w i none → Moved u w (both (both (both l t) k) (both e i)) (both (both l s) f)
    fell_lost w s is b =
        moved_then u v w (both (both (both l t) k) (both e i)) (both f (both (both l t) i)) (both (both l s) f) fell
        (moved_as v w (both (both f (both l t)) i) (both f (both (both l t) i)) (both f (both l t)) (both (both l s) f) (both_assoc f (both l t) i)
        (both_swap f (both l t) ∙ ap (λ z. both (both l z) f) (sym is))
        (moved_drop v w (both f (both l t)) i (owned_as v (both f (both (both l t) i)) (both (both f (both l t)) i) (sym (both_assoc f (both l t) i)) fell_held) b))

-- runs are in mind in the chunk's place
module _ (u v : Active) (l t k p : Stock) (o : Owned u (both (both (both l t) k) p)) where
  pub probe_owned : Owned u p
  probe_owned = owned_right u (both (both l t) k) p o

  -- all that came with it is given up
  pub probe_lost : (s : Stock) → s ≡ t → Moved u v p none → Moved u v (both (both (both l t) k) p) (both (both l s) k)
  probe_lost s is m =
      moved_as u v (both (both (both l t) k) p) (both (both (both l t) k) p) (both (both l t) k) (both (both l s) k) refl (ap (λ z. both (both l z) k) (sym is))
      (moved_drop u v (both (both l t) k) p o m)

  module _ (r : Stock) (a : Moved u v p r) where
    cut : Moved u v (both (both (both l t) k) p) (both (both l r) (both t k))
    cut = moved_as u v (both p (both (both l t) k)) (both (both (both l t) k) p) (both r (both (both l t) k)) (both (both l r) (both t k)) (both_swap p (both (both l t) k))
        (stock_is (both r (both (both l t) k)) (both (both l r) (both t k)) (λ q. omega arith) (λ q. omega arith))
        (moved_beside u v p r (both (both l t) k) (owned_as u (both (both (both l t) k) p) (both p (both (both l t) k)) (both_swap (both (both l t) k) p) o) a)

    cut_held : Owned v (both (both l r) (both t k))
    cut_held = owned_now u v (both (both (both l t) k) p) (both (both l r) (both t k)) o cut

    pub runs_owned : Owned v (both l r)
    runs_owned = owned_left v (both l r) (both t k) cut_held

    pub runs_moved : (w : Active) (m : Stock) → Moved v w (both l r) m → Moved u w (both (both (both l t) k) p) (both (both m t) k)
    runs_moved w m b =
        moved_then u v w (both (both (both l t) k) p) (both (both l r) (both t k)) (both (both m t) k) cut
        (moved_as v w (both (both l r) (both t k)) (both (both l r) (both t k)) (both m (both t k)) (both (both m t) k) refl (sym (both_assoc m t k))
        (moved_beside v w (both l r) m (both t k) cut_held b))

-- no chunk came
module _ (u v : Active) (l e t k f : Stock) (is : l ≡ e) (o : Owned u (both (both l t) k)) where
  end_is : both (both l t) k ≡ both (both k e) t
  end_is = ap (λ z. both (both z t) k) is ∙ stock_is (both (both e t) k) (both (both k e) t) (λ p. omega arith) (λ p. omega arith)

  end_held : Owned u (both (both k e) t)
  end_held = owned_as u (both (both l t) k) (both (both k e) t) end_is o

  pub end_owned : Owned u (both k e)
  end_owned = owned_left u (both k e) t end_held

  pub end_moved : (m d : Stock) → m ≡ none → d ≡ t → Moved u v (both k e) f → Moved u v (both (both l t) k) (both (both m d) f)
  end_moved m d x y h =
      moved_as u v (both (both k e) t) (both (both l t) k) (both f t) (both (both m d) f) (sym end_is)
      (stock_is (both f t) (both (both none t) f) (λ p. omega arith) (λ p. omega arith) ∙ (λ j. both (both (sym x j) (sym y j)) f))
      (moved_beside u v (both k e) f t end_held h)

-- nothing was done
pub end_stays : (u : Active) (l t k s : Stock) → s ≡ t → Owned u (both (both l t) k) → Moved u u (both (both l t) k) (both (both l s) k)
end_stays u l t k s is o = moved_as u u (both (both l t) k) (both (both l t) k) (both (both l t) k) (both (both l s) k) refl (ap (λ z. both (both l z) k) (sym is)) (moved_none u (both (both l t) k) o)

pub close_due : (xs ys zs : List Due) → ys ≡ xs → zs ≡ ys ++ (Close ∷ []) → todo_of zs ≡ todo_of xs ++ (shut_kids ∷ [])
close_due xs ys zs a b = ap todo_of (b ∙ ap (λ z. z ++ (Close ∷ [])) a) ∙ map_push next_of xs Close

-- what waits for a first chunk has reserved nothing
pub probe_free : (l : Local) → is_probe l ≡ true → local_reserved l ≡ 0
probe_free (Grouped n) h = absurd (true≢false (sym h))
probe_free l h = refl

-- ---- a call of the compressor

-- it was called without a fault; then another error came
pub called_stops : (before now : ℕ) (may may_then must must_then : ℕ → Type 0) (e : WriteError) → MayCome e → CalledTimes before now may may_then must must_then 1 → PressStops before now may may_then must must_then e
called_stops before now may may_then must must_then CompressFault h c = absurd h
called_stops before now may may_then must must_then e h c = inr c

-- ---- queues are closed

-- of one, and then of another
module _ (ks js : List Task) (n : ℕ) (x y : Task) (m : ℕ) (a b : Task) (in_ks : n < length ks) (at_ks : get_or ks n x ≡ x) (in_js : m < length js) (at_js : get_or js m a ≡ a) where
  pub shut_moved : (u v : Active) (t : Stock) → task_stock y ≡ task_stock x → task_stock b ≡ task_stock a → Moved u v (both (tasks_stock (set ks n y)) t) (tasks_stock js)
      → Moved u v (both (tasks_stock ks) t) (tasks_stock (set js m b))
  shut_moved u v t s p h = moved_as u v (both (tasks_stock (set ks n y)) t) (both (tasks_stock ks) t) (tasks_stock js) (tasks_stock (set js m b))
      (ap (λ z. both z t) (set_same task_stock ks n x y in_ks at_ks s)) (sym (set_same task_stock js m a b in_js at_js p)) h

  pub shut_reserved : task_reserved y ≡ task_reserved x → task_reserved b ≡ task_reserved a → tasks_reserved js ≡ tasks_reserved (set ks n y) → tasks_reserved (set js m b) ≡ tasks_reserved ks
  shut_reserved s p h = at_same js m a b in_js at_js p ∙ h ∙ at_same ks n x y in_ks at_ks s
