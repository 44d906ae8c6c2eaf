-- A move keeps the links, and what is read off a state.
use Rattle.std.proofs.Common.{◌≡◌, ◌+◌, ◌≤◌, ◌<◌, ◌⊎◌, ◌||◌, ◌∷◌, ◌++◌, ◌∙◌, ℕ, suc, false, List, length, refl, sym, ap, subst, inl, inr, arith, append_assoc, length-append, [], ⊎_elim}
use Rattle.vx_path.specs.Lists.{In}
use Rattle.vx_tasks.specs.Task.{Kind, Free, Take, TakeEnd, Put, Append, Join, has, given, takes_of, next, past, sent, closed}
use Rattle.vx_tasks.specs.State.{below, beside}
use Rattle.vx_tasks.proofs.Scripts.{nil_right, map_nil, or_false}
use Rattle.vx_plan.specs.PlanData.{Setting}
use Rattle.vx_machine_turns.specs.Acts.{Seed, Act, for_child, gifts, shut, born, takes}
use Rattle.vx_machine_turns.specs.Fuels.{Fuel, spent, fuel, less}
use Rattle.vx_machine_turns.specs.Turns.{turn, more_at_end, firsts, kept}
use Rattle.vx_machine_turns.specs.Scripts.{filled, is_taking, Calm}
use Rattle.vx_machine_turns.specs.Readings.{Reading}
use Rattle.vx_machine_turns.specs.Plain.{task_of, script_reading}
use Rattle.vx_machine_turns.specs.Tidy.{Spares}
use Rattle.vx_machine_turns.proofs.CalmLaws.{calm_turn, calm_end}
use Rattle.vx_machine_steps.specs.Moves.{take_first, end_first, Due, TreeMove, tree_moves}
use Rattle.vx_machine_steps.specs.Stands.{Neat, AllNeat, LinkedHead, Linked}
use Rattle.vx_machine_steps.specs.Tree.{Head, Tree, Leaf, Work, ahead, read, sprout_row, quiet, sprout, feed}
use Rattle.vx_machine_steps.proofs.Places.{Where, here, under, aside, which}
use Rattle.vx_machine_steps.proofs.Plain.{gifts_more, shut_more, born_more, takes_more, given-plain, next_is, sent_is, closed_is, not_started}
use Rattle.vx_machine_steps.proofs.Seen.{rows, Steps, of_block, of_item, of_end, steps_of, Ends, due_ahead, due_same, own_read}

pub calm_takes : (k : Kind) → is_taking k ≡ false → takes_of k ≡ 0
calm_takes (Free w) e = refl
calm_takes Take e = absurd (grind arith)
calm_takes TakeEnd e = refl
calm_takes (Put c) e = refl
calm_takes (Append q) e = refl
calm_takes Join e = refl

-- What the rule on scripts gives.

pub ends_of : (ps : Seed) (pp acts : List Act) (j : ℕ) (h : Head) → Neat (task_of ps (pp ++ acts)) → h.closed ≡ shut j pp → Ends h (gifts j acts) (h.closed || shut j acts)
ends_of ps pp acts j h neat e c =
    let g : given j (next (task_of ps (pp ++ acts)) (length pp)) ≡ [] = neat.shut_last (length pp) j (closed_is ps pp acts j ∙ sym e ∙ c) in (
      map_nil (λ x. x.0) (gifts j acts) (sym (given-plain j (born pp + length (firsts ps)) acts) ∙ sym (ap (given j) (next_is ps pp acts)) ∙ g),
      rw c refl,
    )

-- nothing is given to children that aren't started
abbrev pub Unborn : Seed → List Act → Type 0
Unborn q past = (i : ℕ) → length (firsts q) + born past ≤ i → (gifts i past ≡ []) × (shut i past ≡ false)

pub unborn_of : (q : Seed) (past acts : List Act) → Neat (task_of q (past ++ acts)) → Unborn q past
unborn_of q past acts neat i l =
    let u : (sent (task_of q (past ++ acts)) i (length past) ≡ []) × (closed (task_of q (past ++ acts)) i (length past) ≡ false) =
    neat.unborn (length past) i (not_started q past acts i l) in
    (map_nil (λ x. x.0) (gifts i past) (sym (sent_is q past acts i) ∙ u.0), sym (closed_is q past acts i) ∙ u.1)

pub spares_of : (q : Seed) (past acts : List Act) (a : Act) → Neat (task_of q (past ++ (a ∷ acts))) → Spares a (length (firsts q) + born past + length a.starts)
spares_of q past acts a neat i l =
    let again : Neat (task_of q ((past ++ (a ∷ [])) ++ acts)) = subst (λ z. Neat (task_of q z)) (sym (append_assoc past (a ∷ []) acts)) neat in
    let b : born (past ++ (a ∷ [])) ≡ born past + length a.starts = born_more past a in
    let u : (gifts i (past ++ (a ∷ [])) ≡ []) × (shut i (past ++ (a ∷ [])) ≡ false) = unborn_of q (past ++ (a ∷ [])) acts again i (omega arith) in (
      nil_right (gifts i past) (for_child i a.gives) (sym (gifts_more i past a) ∙ u.0),
      (or_false (shut i past) (has i a.shuts) (sym (shut_more i past a) ∙ u.1)).1,
    )

pub rows_are : (d : Fuel) (ps : Seed) (pp : List Act) (j : ℕ) (t : Tree) → Linked d ps pp j t → (d ≡ spent) ⊎ (rows j t ≡ length (firsts ps) + born pp)
rows_are d ps pp j Leaf k = k
rows_are d ps pp j (Work h ks r) k = rows_are d ps pp (suc j) r k.2

-- The links of new children.

pub sprout_linked : (d : Fuel) (j : ℕ) (ps : Seed) (pp : List Act) (a : Act) (qs : List Seed) → j + length qs ≡ length (firsts ps) + born pp
    → ((i : ℕ) → j ≤ i → (gifts i pp ≡ for_child i a.gives) × (shut i pp ≡ has i a.shuts)) → Linked d ps pp j (sprout d a j qs)
sprout_linked spent j ps pp a qs e h = inl refl
sprout_linked (fuel g) j ps pp a qs e h = along j qs e h (λ q. sprout_linked (g q.type) 0 q [] quiet (firsts q) (omega arith) (λ i l. (refl, refl)))
  where
    along : (j : ℕ) (qs : List Seed) → j + length qs ≡ length (firsts ps) + born pp
        → ((i : ℕ) → j ≤ i → (gifts i pp ≡ for_child i a.gives) × (shut i pp ≡ has i a.shuts))
        → ((q : Seed) → Linked (g q.type) q [] 0 (sprout (g q.type) quiet 0 (firsts q))) → Linked (fuel g) ps pp j (sprout_row (λ q. sprout (g q.type) quiet 0) a j qs)
    along j [] e h deep = inr (omega arith)
    along j (q ∷ qs) e h deep = (
      record { begun = omega arith; taken = []; split = (h j (omega arith)).0; count = refl; shut_is = sym (h j (omega arith)).1; calm = tt },
      deep q,
      along (suc j) qs (omega arith) (λ i l. h i (omega arith)) deep,
    )

pub fed_linked : (d : Fuel) (j : ℕ) (ps : Seed) (pp : List Act) (a : Act) (ks : Tree) → Unborn ps pp → Linked d ps pp j ks → Linked d ps (pp ++ (a ∷ [])) j (feed d a j ks)
fed_linked d j ps pp a Leaf u (inl e) = rw e (inl refl)
fed_linked d j ps pp a Leaf u (inr e) =
    let b : born (pp ++ (a ∷ [])) ≡ born pp + length a.starts = born_more pp a in
    sprout_linked d j ps (pp ++ (a ∷ [])) a a.starts (omega arith)
    (λ i l.
    let g : gifts i pp ≡ [] = (u i (omega arith)).0 in
    let f : shut i pp ≡ false = (u i (omega arith)).1 in
    (gifts_more i pp a ∙ ap (λ z. z ++ for_child i a.gives) g, shut_more i pp a ∙ ap (λ z. z || has i a.shuts) f))
fed_linked d j ps pp a (Work h ks r) u (k, below, more) = (
  record {
    begun = (let b : born (pp ++ (a ∷ [])) ≡ born pp + length a.starts = born_more pp a in let l : j < length (firsts ps) + born pp = k.begun in omega arith);
    taken = k.taken;
    split = gifts_more j pp a ∙ ap (λ z. z ++ for_child j a.gives) k.split ∙ append_assoc k.taken h.inbox (for_child j a.gives);
    count = k.count;
    shut_is = ap (λ z. z || has j a.shuts) k.shut_is ∙ sym (shut_more j pp a);
    calm = k.calm;
  },
  below,
  fed_linked d (suc j) ps pp a r u more,
)

filled_calm : (keep : List (List ℕ)) (bs : List Act) → Calm bs → Calm (filled keep bs)
filled_calm keep [] c = tt
filled_calm keep (a ∷ bs) c = (c.0, filled_calm keep bs c.1)

-- The link of a head after its move.
pub own_linked : (s : Setting) (ps : Seed) (pp : List Act) (j : ℕ) (h : Head) (g : Due) → Steps s h g → LinkedHead ps pp j h → LinkedHead ps pp j g.head
own_linked s ps pp j h g (of_block a bs t w) k =
    let c : Calm (a ∷ bs) = subst Calm t k.calm in
    let z : takes_of a.kind ≡ 0 = calm_takes a.kind c.0 in
    let m : takes (h.past ++ (a ∷ [])) ≡ takes h.past + takes_of a.kind = takes_more h.past a in
    let n : takes h.past ≡ length k.taken = k.count in
    rw w (record { begun = k.begun; taken = k.taken; split = k.split; count = omega arith; shut_is = k.shut_is; calm = c.1 })
own_linked s ps pp j h g (of_item x xs t o i w) k =
    let m : takes (h.past ++ (take_first s h.local x ∷ [])) ≡ takes h.past + 1 = takes_more h.past (take_first s h.local x) in
    let n : takes h.past ≡ length k.taken = k.count in
    let l : length (k.taken ++ (x ∷ [])) ≡ length k.taken + 1 = length-append k.taken (x ∷ []) in
    rw w (record {
      begun = k.begun;
      taken = k.taken ++ (x ∷ []);
      split = k.split ∙ ap (λ z. k.taken ++ z) i ∙ sym (append_assoc k.taken (x ∷ []) xs);
      count = omega arith;
      shut_is = k.shut_is;
      calm = filled_calm (kept (turn s h.local x).after) (turn s h.local x).more (calm_turn s h.local x);
    })
own_linked s ps pp j h g (of_end t o i q w) k =
    let m : takes (h.past ++ (end_first s h.local ∷ [])) ≡ takes h.past + 0 = takes_more h.past (end_first s h.local) in
    let n : takes h.past ≡ length k.taken = k.count in
    rw w (record {
      begun = k.begun;
      taken = k.taken;
      split = k.split ∙ ap (λ z. k.taken ++ z) i;
      count = omega arith;
      shut_is = k.shut_is;
      calm = filled_calm [] (more_at_end s h.local) (calm_end s h.local);
    })

-- A move keeps what is read off a state, and the links.
pub record KeptBy (s : Setting) (F : Type 0) (v : Reading F) (d : Fuel) (ps : Seed) (pp acts : List Act) (j : ℕ) (t : Tree) (u : Tree) : Type 0 where
  pub same : read s v d j acts u ≡ read s v d j acts t
  pub linked : Linked d ps pp j u

pub kept_by : {F : Type 0} (s : Setting) (v : Reading F) (all : List (List ℕ)) (d : Fuel) (ps : Seed) (pp acts : List Act) (j : ℕ) (t : Tree) (m : TreeMove) → In m (tree_moves s all d t)
    → Neat (task_of ps (pp ++ acts)) → AllNeat (read s script_reading d j acts t) → Linked d ps pp j t → KeptBy s F v d ps pp acts j t m.after
kept_by s v all d ps pp acts j Leaf m i neat more k = absurd i
kept_by {F} s v all d ps pp acts j (Work h ks r) m i neat (own, deeper, others) (k, below, beside) =
    by (which s all d h ks r m i)
    (λ x y. kept_by s v all (less d h.seed.type) h.seed h.past (ahead s h (gifts j acts) (h.closed || shut j acts)) 0 ks x y own deeper below)
    (λ x y. kept_by s v all d ps pp acts (suc j) r x y neat others beside)
  where
    A : List Act
    A = ahead s h (gifts j acts) (h.closed || shut j acts)

    ends : Ends h (gifts j acts) (h.closed || shut j acts)
    ends = ends_of ps pp acts j h neat k.shut_is

    room : (g : Due) → Steps s h g → (less d h.seed.type ≡ spent) ⊎ Spares g.act (rows 0 ks + length g.act.starts)
    room g st = ⊎_elim (λ e. inl e)
        (λ e. inr (subst (λ z. Spares g.act (z + length g.act.starts)) (sym e)
        (spares_of h.seed h.past (ahead s g.head (gifts j acts) (h.closed || shut j acts)) g.act
        (subst (λ z. Neat (task_of h.seed (h.past ++ z))) (due_ahead s h g (gifts j acts) (h.closed || shut j acts) st ends) own))))
        (rows_are (less d h.seed.type) h.seed h.past 0 ks below)

    after_own : (g : Due) → Steps s h g → KeptBy s F v d ps pp acts j (Work h ks r) (Work g.head (feed (less d h.seed.type) g.act 0 ks) r)
    after_own g st =
        let q : g.head.seed ≡ h.seed = (due_same s h g st).1 in
        let p : g.head.past ≡ h.past ++ (g.act ∷ []) = (due_same s h g st).2 in
        record {
          same = sym (own_read s v d j acts h g ks r st ends (room g st));
          linked = (
            own_linked s ps pp j h g st k,
            rw (q, p) (fed_linked (less d h.seed.type) 0 h.seed h.past g.act ks (unborn_of h.seed h.past A own) below),
            beside,
          );
        }

    by : Where s all d h ks r m
        → ((x : TreeMove) → In x (tree_moves s all (less d h.seed.type) ks) → KeptBy s F v (less d h.seed.type) h.seed h.past A 0 ks x.after)
        → ((x : TreeMove) → In x (tree_moves s all d r) → KeptBy s F v d ps pp acts (suc j) r x.after) → KeptBy s F v d ps pp acts j (Work h ks r) m.after
    by (here o) down over = subst (λ z. KeptBy s F v d ps pp acts j (Work h ks r) z) (sym o.after_is) (after_own o.due_now (steps_of s h o.due_now o.due_is))
    by (under x y e) down over = rw e (record {
      same = ap (λ z. v.make h.seed (h.past ++ A) z (read s v d (suc j) acts r)) (down x y).same;
      linked = (k, (down x y).linked, beside);
    })
    by (aside x y e) down over = rw e (record {
      same = ap (λ z. v.make h.seed (h.past ++ A) (read s v (less d h.seed.type) 0 A ks) z) (over x y).same;
      linked = (k, below, (over x y).linked);
    })
