-- The end of the whole machine, and what it holds.
use Rattle.std.proofs.Common.{◌≡◌, ◌&&◌, ◌||◌, ◌⊎◌, ◌∷◌, ◌++◌, ◌∙◌, ℕ, suc, Bool, true, false, List, map, length, refl, sym, ap, subst, inl, inr, ⊎_elim, arith, append-nil, Some, []}
use Rattle.vx_layout_spec.specs.LayoutTree.{renamed}
use Rattle.vx_model.specs.ChunkData.{ChunkData}
use Rattle.vx_model.specs.Ty.{Ty}
use Rattle.vx_named_tasks.specs.Names.{Names, Outset, root_outset}
use Rattle.vx_plan.specs.PlanData.{Setting}
use Rattle.vx_machine_turns.specs.Acts.{Seed, Act, shape_in, passes}
use Rattle.vx_machine_turns.specs.Source.{named_acts, seed_at}
use Rattle.vx_machine_turns.specs.Readings.{shaped, unread, layout_reading}
use Rattle.vx_machine_turns.specs.Fuels.{Fuel, spent, fuel, less}
use Rattle.vx_machine_steps.specs.Tree.{Tree, Leaf, Work, ahead, further, read}
use Rattle.vx_machine_steps.specs.Moves.{is_nil, all_over, all_paths, holding, tree_moves}
use Rattle.vx_machine_steps.specs.Stands.{Stands, KidsHold}
use Rattle.vx_machine_steps.proofs.Laws.{end_is_free}
use Rattle.vx_machine_promises.specs.Write.{Write, Future, depth}
use Rattle.vx_machine_state.specs.State.{Tasks, no_tasks, task_then}
use Rattle.vx_machine_state.specs.Acts.{count}
use Rattle.vx_machine_state.specs.Moves.{is_empty}
use Rattle.vx_machine_view.specs.Shows.{Stage, Done, Shows, laid, types_of}
use Rattle.vx_machine_state.specs.Done.{no_more, is_alone, has_layout, is_done}
use Rattle.vx_machine_view.specs.Machine.{Phase, reading, giving, closing, finished, Machine, has_closed, held_by, phase_ids, machine_ids}
use Rattle.vx_machine_view.specs.Whole.{SameHeld, ShowsMachineAt, ShowsMachine, form_of, phase_acts, PhaseShape, source_from, root_depth, HeldShowsAt, FinishShowsAt, LayoutShowsAt}
use Rattle.vx_machine_view.proofs.Words.{no_cons, left_nil, right_nil, no_firsts, and_left, and_right}
use Rattle.vx_machine_view.proofs.Feeding.{count_types}
use Rattle.vx_machine_view.proofs.Joining.{Busy, Passed, stage_parts, done_over, and_last, made_is, AllLaid, laid_all}
use Rattle.vx_machine_view.proofs.Agreeing.{same_held, both_held, moves_least}
use Rattle.vx_machine_view.proofs.Holding.{held_is}

-- ---- what is held

pub held_shows_at : (o : Outset) → HeldShowsAt o
held_shows_at o g number f m t st w =
    subst (SameHeld (machine_ids m)) (sym (append-nil (holding (source_from g o w.past (phase_acts m.phase f)) ++ all_paths w.kids)) ∙ ap all_paths (sym w.tree_is))
    (both_held (phase_ids m.phase) (holding (source_from g o w.past (phase_acts m.phase f))) (held_by m.root) (all_paths w.kids) (same_held (sym w.held))
    (held_is g.setting number (root_depth g) (seed_at (form_of g) g.mark o) 0 m.root w.kids w.root (subst KidsHold w.tree_is st.holds).0))

-- so the same can be done
pub moves_shows_at : (g : Write) (o : Outset) (number : List ℕ → ℕ) (f : Future) (m : Machine) (t : Tree) → Stands g.setting (depth g) t → ShowsMachineAt g o number m f t
    → tree_moves g.setting (machine_ids m) (depth g) t ≡ tree_moves g.setting (all_paths t) (depth g) t
moves_shows_at g o number f m t st w = moves_least g.setting (machine_ids m) (all_paths t) (depth g) t (held_shows_at o g number f m t st w)

-- in a whole write

pub held_shows : HeldShowsAt root_outset
held_shows = held_shows_at root_outset

pub moves_shows : (g : Write) (number : List ℕ → ℕ) (f : Future) (m : Machine) (t : Tree) → Stands g.setting (depth g) t → ShowsMachine g number m f t
    → tree_moves g.setting (machine_ids m) (depth g) t ≡ tree_moves g.setting (all_paths t) (depth g) t
moves_shows g number f m t st w = moves_shows_at g root_outset number f m t st w

-- ---- the end

no_acts : (ns : Names) (bs : List ChunkData) (fits : Bool) → is_nil (named_acts ns bs fits) ≡ false
no_acts ns [] true = refl
no_acts ns [] false = refl
no_acts ns (b ∷ bs) fits = refl

-- whether the source has done all
phase_over : (p : Phase) (f : Future) → is_nil (phase_acts p f) ≡ has_closed p
phase_over (reading ns) f = no_acts ns f.later f.fits
phase_over (giving ns i) f = refl
phase_over closing f = refl
phase_over finished f = refl

and_yes : (b : Bool) → (b && true) ≡ b
and_yes true = refl
and_yes false = refl

and_no : (b : Bool) → (b && false) ≡ false
and_no true = refl
and_no false = refl

whole_over : (p : Phase) (f : Future) (b : Bool) → ((is_nil (phase_acts p f) && true && b) && true) ≡ (has_closed p && b)
whole_over p f b = and_yes (is_nil (phase_acts p f) && true && b) ∙ by (is_nil (phase_acts p f)) (has_closed p) (phase_over p f)
  where
    by : (x y : Bool) → x ≡ y → (x && true && b) ≡ (y && b)
    by true true e = refl
    by false false e = refl
    by true false e = cc
    by false true e = cc

one_alone : (cs : Tasks) → count cs ≡ 1 → is_alone cs ≡ true
one_alone no_tasks e = absurd (omega (arith, e))
one_alone (task_then c ks no_tasks) e = refl
one_alone (task_then c ks (task_then b ls r)) e = absurd (omega (arith, e))

module _ (s : Setting) (number : List ℕ → ℕ) where
  -- the root, which stands alone, or the only child of one that has its layout
  root_done : (d : Fuel) (q : Seed) (t : Ty) (cs : Tasks) (ts : Tree) → types_of ts ≡ t ∷ [] → Shows s number d q 0 cs ts → (all_over ts ≡ true → all_paths ts ≡ []) → is_done cs ≡ all_over ts
  root_done d q t no_tasks Leaf one w free = absurd (no_cons t [] (sym one))
  root_done d q t no_tasks (Work h hs r) one w free = absurd w
  root_done d q t (task_then c ks more) Leaf one w free = absurd w
  root_done d q t (task_then c ks more) (Work h hs (Work k ls r)) one w free = absurd (omega (arith, ap length one))
  root_done d q t (task_then c ks more) (Work h hs Leaf) one w free = by w.1 (λ u o k f. root_done (less d h.seed.type) h.seed u ks hs o k f)
    where
      -- where all is over
      front : all_over (Work h hs Leaf) ≡ true → map (λ x. x.0) h.inbox ++ (holding h ++ all_paths hs) ≡ []
      front o = left_nil (map (λ x. x.0) h.inbox ++ (holding h ++ all_paths hs)) [] (free o)

      empty : all_over (Work h hs Leaf) ≡ true → c.inbox ≡ []
      empty o = w.0.inbox ∙ no_firsts h.inbox (left_nil (map (λ x. x.0) h.inbox) (holding h ++ all_paths hs) (front o))

      below : all_over (Work h hs Leaf) ≡ true → all_paths hs ≡ []
      below o = right_nil (holding h) (all_paths hs) (right_nil (map (λ x. x.0) h.inbox) (holding h ++ all_paths hs) (front o))

      now : Passed c.mind c.todo h.past h.todo h.over hs → all_over (Work h hs Leaf) ≡ all_over hs
      now x = ap (λ z. (is_nil z && h.over && all_over hs) && true) x.ends.rest ∙ ap (λ z. (true && z && all_over hs) && true) x.ends.off ∙ and_yes (all_over hs)

      of_child : (x : Passed c.mind c.todo h.past h.todo h.over hs) → Shows s number (less d h.seed.type) h.seed 0 ks hs → is_done ks ≡ all_over hs → (b : Bool) → all_over hs ≡ b
          → ((is_alone ks && is_done ks) && is_empty c.inbox) ≡ b
      of_child x k e true o =
          ap (λ z. (z && is_done ks) && is_empty c.inbox) (one_alone ks (count_types s number (less d h.seed.type) h.seed 0 ks hs k ∙ ap length x.one))
          ∙ ap (λ z. z && is_empty c.inbox) (e ∙ o) ∙ ap is_empty (empty (now x ∙ o))
      of_child x k e false o = ap (λ z. (is_alone ks && z) && is_empty c.inbox) (e ∙ o) ∙ ap (λ z. z && is_empty c.inbox) (and_no (is_alone ks))

      by_child : Passed c.mind c.todo h.past h.todo h.over hs → Shows s number (less d h.seed.type) h.seed 0 ks hs
          → ((u : Ty) → types_of hs ≡ u ∷ [] → Shows s number (less d h.seed.type) h.seed 0 ks hs → (all_over hs ≡ true → all_paths hs ≡ []) → is_done ks ≡ all_over hs)
          → (has_layout c.mind ks (is_done ks) && (is_empty c.todo && is_empty c.inbox)) ≡ ((is_nil h.todo && h.over && all_over hs) && true)
      by_child x k deeper =
          ap (λ z. has_layout z ks (is_done ks) && (is_empty c.todo && is_empty c.inbox)) x.ends.mind_is
          ∙ ap (λ z. (is_alone ks && is_done ks) && (is_empty z && is_empty c.inbox)) x.ends.left_is
          ∙ of_child x k (deeper x.type x.one k (λ o. below (now x ∙ o))) (all_over hs) refl ∙ sym (now x)

      by : (Stage s (less d h.seed.type) c.mind c.todo ks h.seed h.past h.todo h.local h.over hs × Shows s number (less d h.seed.type) h.seed 0 ks hs)
          ⊎ Done number c.mind c.todo ks h.past h.todo h.over hs
          → ((u : Ty) → types_of hs ≡ u ∷ [] → Shows s number (less d h.seed.type) h.seed 0 ks hs → (all_over hs ≡ true → all_paths hs ≡ []) → is_done ks ≡ all_over hs)
          → (has_layout c.mind ks (is_done ks) && (is_empty c.todo && is_empty c.inbox)) ≡ ((is_nil h.todo && h.over && all_over hs) && true)
      by (inl (st, k)) deeper =
          ⊎_elim (λ (b : Busy c.mind c.todo h.todo h.over). b.unlaid ks (is_done ks) (is_empty c.inbox) ∙ sym (ap (λ z. z && true) (b.goes_on (all_over hs))))
          (λ (x : Passed c.mind c.todo h.past h.todo h.over hs). by_child x k deeper)
          (stage_parts s (less d h.seed.type) c.mind c.todo ks h.seed h.past h.todo h.local h.over hs st)
      by (inr e) deeper =
          let over : ((is_nil h.todo && h.over && all_over hs) && true) ≡ true = ap (λ z. z && true) (done_over number c.mind c.todo ks h.past h.todo h.over hs e) in
          ap (λ z. has_layout z ks (is_done ks) && (is_empty c.todo && is_empty c.inbox)) e.mind_is
          ∙ ap (λ z. no_more ks && (is_empty z && is_empty c.inbox)) e.idle
          ∙ ap (λ z. no_more z && is_empty c.inbox) e.no_kids ∙ ap is_empty (empty over) ∙ sym over

pub finish_shows_at : (o : Outset) → FinishShowsAt o
finish_shows_at o g number f m t st w = by m.phase refl ∙ sym (ap all_over w.tree_is ∙ whole_over m.phase f (all_over w.kids))
  where
    open_root : (p : Phase) → m.phase ≡ p → has_closed p ≡ true → all_over w.kids ≡ true → all_paths w.kids ≡ []
    open_root p e c below =
        let over : all_over t ≡ true = ap all_over w.tree_is ∙ whole_over m.phase f (all_over w.kids) ∙ ap (λ z. has_closed z && all_over w.kids) e ∙ ap (λ z. z && all_over w.kids) c ∙ below in
        let none : all_paths t ≡ [] = end_is_free g.setting (depth g) t st over in
        right_nil (holding (source_from g o w.past (phase_acts m.phase f))) (all_paths w.kids)
        (left_nil (holding (source_from g o w.past (phase_acts m.phase f)) ++ all_paths w.kids) [] (sym (ap all_paths w.tree_is) ∙ none))

    by : (p : Phase) → m.phase ≡ p → (has_closed m.phase && is_done m.root) ≡ (has_closed m.phase && all_over w.kids)
    by (reading ns) q = ap (λ z. has_closed z && is_done m.root) q ∙ sym (ap (λ z. has_closed z && all_over w.kids) q)
    by (giving ns i) q = ap (λ z. has_closed z && is_done m.root) q ∙ sym (ap (λ z. has_closed z && all_over w.kids) q)
    by closing q = ap (λ z. has_closed z && is_done m.root) q ∙ sym (ap (λ z. has_closed z && all_over w.kids) q)
    by finished q = ap (λ z. has_closed m.phase && z)
        (root_done g.setting number (root_depth g) (seed_at (form_of g) g.mark o) g.type m.root w.kids w.one w.root (open_root finished q refl))

pub finish_shows : FinishShowsAt root_outset
finish_shows = finish_shows_at root_outset

-- ---- the layout

unread_nil : (s : Setting) (d : Fuel) (j : ℕ) (acts : List Act) → unread s layout_reading d j [] acts ≡ []
unread_nil s spent j acts = refl
unread_nil s (fuel g) j acts = refl

no_todo : (todo : List Act) → is_nil todo ≡ true → todo ≡ []
no_todo [] e = refl
no_todo (a ∷ todo) e = cc

-- where all is over, what is read off is what is laid
read_laid : (s : Setting) (d : Fuel) (j : ℕ) (t : Tree) → all_over t ≡ true → read s layout_reading d j [] t ≡ laid t
read_laid s d j Leaf o = unread_nil s d j []
read_laid s d j (Work h ks r) o =
    let k : (is_nil h.todo ≡ true) × (h.over ≡ true) × (all_over ks ≡ true) = and_last (is_nil h.todo) h.over (all_over ks) (and_left (is_nil h.todo && h.over && all_over ks) (all_over r) o) in
    let e : ahead s h [] (h.closed || false) ≡ [] =
    ap (λ z. z ++ further s h.over h.local (h.inbox ++ []) (h.closed || false)) (no_todo h.todo k.0) ∙ ap (λ z. further s z h.local (h.inbox ++ []) (h.closed || false)) k.1 in
    ap (λ z. shaped (shape_in (h.past ++ z)) (read s layout_reading (less d h.seed.type) 0 z ks) ++ read s layout_reading d (suc j) [] r) e
    ∙ ap (λ z. shaped (shape_in z) (read s layout_reading (less d h.seed.type) 0 [] ks) ++ read s layout_reading d (suc j) [] r) (append-nil h.past)
    ∙ ap (λ z. shaped (shape_in h.past) z ++ read s layout_reading d (suc j) [] r) (read_laid s (less d h.seed.type) 0 ks k.2)
    ∙ ap (λ z. shaped (shape_in h.past) (laid ks) ++ z) (read_laid s d (suc j) r (and_right (is_nil h.todo && h.over && all_over ks) (all_over r) o))

pub layout_shows_at : (o : Outset) → LayoutShowsAt o
layout_shows_at o g number f m t st w over =
    let k : (has_closed m.phase && all_over w.kids) ≡ true = sym (whole_over m.phase f (all_over w.kids)) ∙ sym (ap all_over w.tree_is) ∙ over in
    let made_all : all_over w.kids ≡ true = and_right (has_closed m.phase) (all_over w.kids) k in
    let none : all_paths w.kids ≡ [] = right_nil (holding (source_from g o w.past (phase_acts m.phase f))) (all_paths w.kids)
    (left_nil (holding (source_from g o w.past (phase_acts m.phase f)) ++ all_paths w.kids) [] (sym (ap all_paths w.tree_is) ∙ end_is_free g.setting (depth g) t st over)) in
    let there : AllLaid g.setting number m.root w.kids = laid_all g.setting number (root_depth g) (seed_at (form_of g) g.mark o) 0 m.root w.kids w.root
    (made_is g.setting number (root_depth g) (seed_at (form_of g) g.mark o) 0 m.root w.kids w.root ∙ made_all) none in
    there.layouts
    ∙ ap (map (renamed number)) (sym (append-nil (laid w.kids)) ∙ ap (λ z. shaped z (laid w.kids) ++ []) (sym (ended m.phase w.shape (and_left (has_closed m.phase) (all_over w.kids) k)))
    ∙ ap laid (sym w.tree_is) ∙ sym (read_laid g.setting (depth g) 0 t over))
  where
    ended : (p : Phase) → PhaseShape w.past p → has_closed p ≡ true → shape_in w.past ≡ Some passes
    ended (reading ns) h c = cc
    ended (giving ns i) h c = cc
    ended closing h c = h
    ended finished h c = h

pub layout_shows : LayoutShowsAt root_outset
layout_shows = layout_shows_at root_outset
