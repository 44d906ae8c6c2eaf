-- The laws of the whole machine.
use Rattle.std.proofs.Common.{◌≡◌, ◌≤◌, ◌||◌, ◌∷◌, ◌++◌, ◌∙◌, ℕ, zero, suc, Bool, true, false, not, nat_eq, List, map, refl, sym, ap, subst, arith, Some, []}
use Rattle.vx_path.specs.Lists.{In}
use Rattle.vx_path.proofs.Lists.{in_map}
use Rattle.vx_tasks.specs.Task.{given, next, past, sent, started, closed, closes}
use Rattle.vx_tasks.specs.State.{left, left_started}
use Rattle.vx_tasks.specs.Rules.{Rules, KeepsRules}
use Rattle.vx_tasks.specs.Run.{moves, outside, Leads}
use Rattle.vx_tasks.proofs.Scripts.{no_true}
use Rattle.vx_plan.specs.PlanData.{Setting}
use Rattle.vx_machine_turns.specs.Acts.{Seed, Act, gifts, shut, refuses, any_refuses}
use Rattle.vx_machine_turns.specs.Fuels.{Fuel, spent, fuel, less}
use Rattle.vx_machine_turns.specs.Turns.{firsts}
use Rattle.vx_machine_turns.specs.Readings.{Reading}
use Rattle.vx_machine_turns.specs.Plain.{task_of, script_reading}
use Rattle.vx_machine_turns.specs.Source.{outside_seed}
use Rattle.vx_machine_steps.specs.Laws.{MovesAgree, HeldAgrees, MoveKeeps, RunsLead, ReadingStays, JoinsFree, JoinsAreFree, EndIsFree, OverIsDone}
use Rattle.vx_machine_steps.specs.Moves.{Due, due, all_paths, all_over, TreeMove, tree_moves, machine_moves, view}
use Rattle.vx_machine_steps.specs.Stands.{Neat, AllNeat, Linked, Clean, closing, Stands}
use Rattle.vx_machine_steps.specs.Tree.{Tree, Leaf, Work, ahead, read, forest, counts, sprout_row, quiet, sprout, feed}
use Rattle.vx_machine_steps.proofs.Agree.{held_is}
use Rattle.vx_machine_steps.proofs.Holding.{kids_hold}
use Rattle.vx_machine_steps.proofs.Joins.{AllShut, join_is, joined, over_left, started_fewer}
use Rattle.vx_machine_steps.proofs.Kept.{ends_of, kept_by}
use Rattle.vx_machine_steps.proofs.Moves.{join_shut, agree}
use Rattle.vx_machine_steps.proofs.Places.{Where, here, under, aside, which}
use Rattle.vx_machine_steps.proofs.Seen.{steps_of, due_ahead, due_same}

-- What stands above all.

pub outside_neat : Neat (task_of outside_seed (closing ∷ []))
outside_neat = record { unborn = none; shut_last = last }
  where
    none_of : (b : Bool) → (b || false || (false || false)) ≡ false → (b || false || false) ≡ false
    none_of true e = e
    none_of false e = refl

    none : (n j : ℕ) → started (task_of outside_seed (closing ∷ [])) j n ≡ false → (sent (task_of outside_seed (closing ∷ [])) j n ≡ []) × (closed (task_of outside_seed (closing ∷ [])) j n ≡ false)
    none zero j h = (refl, refl)
    none (suc zero) j h = (refl, none_of (nat_eq 0 j) h)
    none (suc (suc n)) j h = (refl, none_of (nat_eq 0 j) h)

    last : (n j : ℕ) → closed (task_of outside_seed (closing ∷ [])) j n ≡ true → given j (next (task_of outside_seed (closing ∷ [])) n) ≡ []
    last zero j h = refl
    last (suc zero) j h = refl
    last (suc (suc n)) j h = refl

outside_shut : AllShut false outside_seed (closing ∷ []) []
outside_shut i c fits st = by (nat_eq 0 i) st
  where
    by : (b : Bool) → (b || false || (false || false)) ≡ true → (b || false || false) ≡ true
    by true e = e
    by false e = absurd (no_true refl e)

-- Nothing that is done refuses.

pub sprout_clean : (d : Fuel) (j : ℕ) (a : Act) (qs : List Seed) → Clean (sprout d a j qs)
sprout_clean spent j a qs = tt
sprout_clean (fuel g) j a qs = along j qs (λ q fs. sprout_clean (g q.type) 0 quiet fs)
  where
    along : (j : ℕ) (qs : List Seed) → ((q : Seed) (fs : List Seed) → Clean (sprout (g q.type) quiet 0 fs)) → Clean (sprout_row (λ q. sprout (g q.type) quiet 0) a j qs)
    along j [] deep = tt
    along j (q ∷ qs) deep = (refl, deep q (firsts q), along (suc j) qs deep)

fed_clean : (d : Fuel) (j : ℕ) (a : Act) (ks : Tree) → Clean ks → Clean (feed d a j ks)
fed_clean d j a Leaf c = sprout_clean d j a a.starts
fed_clean d j a (Work h ks r) (c, ck, cr) = (c, ck, fed_clean d (suc j) a r cr)

refused_more : (past : List Act) (a : Act) → any_refuses past ≡ false → refuses a ≡ false → any_refuses (past ++ (a ∷ [])) ≡ false
refused_more [] a p r = rw r refl
refused_more (b ∷ past) a p r = by (refuses b) p (λ h. refused_more past a h r)
  where
    by : (x : Bool) → (x || any_refuses past) ≡ false → (any_refuses past ≡ false → any_refuses (past ++ (a ∷ [])) ≡ false) → (x || any_refuses (past ++ (a ∷ []))) ≡ false
    by true e f = absurd (no_true e refl)
    by false e f = f e

clean_kept : (s : Setting) (all : List (List ℕ)) (d : Fuel) (t : Tree) (m : TreeMove) → In m (tree_moves s all d t) → refuses m.act ≡ false → Clean t → Clean m.after
clean_kept s all d Leaf m i r c = absurd i
clean_kept s all d (Work h ks r) m i f (c, ck, cr) =
    by (which s all d h ks r m i) (λ x y e. clean_kept s all (less d h.seed.type) ks x y e ck) (λ x y e. clean_kept s all d r x y e cr)
  where
    after_own : (g : Due) → due s h ≡ Some g → refuses g.act ≡ false → Clean (Work g.head (feed (less d h.seed.type) g.act 0 ks) r)
    after_own g w e =
        let p : g.head.past ≡ h.past ++ (g.act ∷ []) = (due_same s h g (steps_of s h g w)).2 in
        (rw p (refused_more h.past g.act c e), fed_clean (less d h.seed.type) 0 g.act ks ck, cr)

    by : Where s all d h ks r m → ((x : TreeMove) → In x (tree_moves s all (less d h.seed.type) ks) → refuses x.act ≡ false → Clean x.after)
        → ((x : TreeMove) → In x (tree_moves s all d r) → refuses x.act ≡ false → Clean x.after) → Clean m.after
    by (here o) down over = subst Clean (sym o.after_is) (after_own o.due_now o.due_is (sym (ap refuses o.act_is) ∙ f))
    by (under x y e) down over = rw e (c, down x y (sym (ap (λ z. refuses z.act) e) ∙ f), cr)
    by (aside x y e) down over = rw e (c, ck, over x y (sym (ap (λ z. refuses z.act) e) ∙ f))

-- The machine and the theory.

pub held_agrees : HeldAgrees
held_agrees s d t st = held_is s d outside_seed (closing ∷ []) [] 0 t st.linked

pub moves_agree : MovesAgree
moves_agree s d t st =
    ap (λ z. moves z outside 1 0 (forest s d t) (counts t)) (held_agrees s d t st)
    ∙ agree s (all_paths t) d false outside_seed (closing ∷ []) [] 0 t st.rules outside_neat st.neat st.linked st.clean

-- a move keeps what is read off a state
pub move_reads : {F : Type 0} (s : Setting) (v : Reading F) (d : Fuel) (t : Tree) (m : TreeMove) → Stands s d t → In m (machine_moves s d t) → read s v d 0 [] m.after ≡ read s v d 0 [] t
move_reads s v d t m st i = (kept_by s v (all_paths t) d outside_seed (closing ∷ []) [] 0 t m i outside_neat st.neat st.linked).same

pub move_keeps : MoveKeeps
move_keeps s d t m st i f =
    let e : forest s d m.after ≡ forest s d t = move_reads s script_reading d t m st i in (
      e,
      record {
        rules = subst KeepsRules (sym e) st.rules;
        neat = subst AllNeat (sym e) st.neat;
        linked = (kept_by s script_reading (all_paths t) d outside_seed (closing ∷ []) [] 0 t m i outside_neat st.neat st.linked).linked;
        clean = clean_kept s (all_paths t) d t m i f st.clean;
        holds = kids_hold s (all_paths t) d t m i st.holds;
      },
    )

pub runs_lead : RunsLead
runs_lead s d t e [] st w = (ap counts w, ap (forest s d) (sym w), subst (Stands s d) w st)
runs_lead s d t e (m ∷ ms) st (i, f, more) =
    let k : (forest s d m.after ≡ forest s d t) × Stands s d m.after = move_keeps s d t m st i f in
    let l : Leads (forest s d m.after) (counts m.after) (map view ms) (counts e) × (forest s d e ≡ forest s d m.after) × Stands s d e = runs_lead s d m.after e ms k.1 more in (
      (subst (λ z. In (view m) z) (sym (moves_agree s d t st)) (in_map view m (machine_moves s d t) i), f, subst (λ z. Leads z (counts m.after) (map view ms) (counts e)) k.0 l.0),
      l.1 ∙ k.0,
      l.2,
    )

pub runs_read : {F : Type 0} (v : Reading F) → ReadingStays v
runs_read v s d t e [] st w = ap (read s v d 0 []) (sym w)
runs_read v s d t e (m ∷ ms) st (i, f, more) = runs_read v s d m.after e ms (move_keeps s d t m st i f).1 more ∙ move_reads s v d t m st i

-- Joins and the end.

joins_free : (s : Setting) (d : Fuel) (cut : Bool) (ps : Seed) (pp acts : List Act) (j : ℕ) (t : Tree) → Rules cut (task_of ps (pp ++ acts)) j (read s script_reading d j acts t)
    → Neat (task_of ps (pp ++ acts)) → AllNeat (read s script_reading d j acts t) → Linked d ps pp j t → Clean t → JoinsFree s t
joins_free s d cut ps pp acts j Leaf rules neat nts k cl = tt
joins_free s d cut ps pp acts j (Work h ks r) (fits, keeps, apart, deeper, others) neat (own, nkids, nrest) (k, deep, more) (cl, clk, clr) = (
  λ g e is over. joined s (less d h.seed.type) cut_below h.seed h.past A 0 ks deeper own nkids deep clk
      (subst (λ z. AllShut cut_below h.seed h.past z) (sym (due_ahead s h g (gifts j acts) (h.closed || shut j acts) (steps_of s h g e) (ends_of ps pp acts j h neat k.shut_is)))
      (join_shut cut_below h.seed h.past g.act (ahead s g.head (gifts j acts) (h.closed || shut j acts)) is)) over,
  joins_free s (less d h.seed.type) cut_below h.seed h.past A 0 ks deeper own nkids deep clk,
  joins_free s d cut ps pp acts (suc j) r others neat nrest more clr,
)
  where
    A : List Act
    A = ahead s h (gifts j acts) (h.closed || shut j acts)

    cut_below : Bool
    cut_below = not (closes j (task_of ps (pp ++ acts)))

pub joins_are_free : JoinsAreFree
joins_are_free s d t st = joins_free s d false outside_seed (closing ∷ []) [] 0 t st.rules outside_neat st.neat st.linked st.clean

pub end_is_free : EndIsFree
end_is_free s d t st over = joined s d false outside_seed (closing ∷ []) [] 0 t st.rules outside_neat st.neat st.linked st.clean outside_shut over

pub over_is_done : OverIsDone
over_is_done s d t st = (there, back)
  where
    there : all_over t ≡ true → left (forest s d t) (counts t) ≡ 0
    there over = over_left s d false outside_seed (closing ∷ []) [] 0 t refl st.rules outside_neat st.neat st.linked st.clean outside_shut over

    none : left (forest s d t) (counts t) ≡ 0 → left_started outside 1 0 (forest s d t) (counts t) ≡ 0
    none e = let l : left_started outside 1 0 (forest s d t) (counts t) ≤ left (forest s d t) (counts t) = started_fewer outside 1 0 (forest s d t) (counts t) in omega arith

    zero_is : (n : ℕ) → n ≡ 0 → nat_eq n 0 ≡ true
    zero_is n e = rw e refl

    back : left (forest s d t) (counts t) ≡ 0 → all_over t ≡ true
    back e = sym (join_is s d false outside_seed (closing ∷ []) [] 0 t st.rules outside_neat st.neat st.linked st.clean outside_shut)
        ∙ zero_is (left_started outside 1 0 (forest s d t) (counts t)) (none e)
