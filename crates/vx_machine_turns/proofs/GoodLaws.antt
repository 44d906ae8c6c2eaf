-- A task whose turns go on from what it knows is good, where its children are.
use Rattle.std.proofs.Common.{◌≡◌, ℕ, zero, suc, ◌+◌, ◌≤◌, ◌<◌, ◌⊎◌, inl, inr, ⊎_elim, Bool, true, false, cond, nat_eq, nat_lt, ◌||◌, List, [], ◌∷◌, ◌++◌, map, take, drop, length, refl, sym, ap, ap₂, ◌∙◌, subst, arith, append_assoc, length-append}
use Rattle.std.proofs.lemmas.Bool.{true≢false}
use Rattle.std.proofs.lemmas.Bool.Decides.{nat_tests}
use Rattle.std.proofs.lemmas.List.{append-nil}
use Rattle.vx_path.specs.Lists.{In}
use Rattle.vx_path.proofs.Lists.{in_left, in_right, in_cases}
use Rattle.vx_path.proofs.Path.{begins-refl}
use Rattle.vx_path.specs.Path.{Eof, eof_path, raised, Region}
use Rattle.vx_tasks.specs.Task.{Kind, Forest, has, to_child, given, starts_in, shuts_in, takes_of, appends_of, is_still, is_late, any_kind}
use Rattle.vx_tasks.specs.Task.Kind.{Free, Take, TakeEnd, Put, Append, Join}
use Rattle.vx_tasks.specs.Nodes.{numbers}
use Rattle.vx_tasks.specs.Good.{Good}
use Rattle.vx_tasks.specs.Walks.{From, known, Walks, Lives, Drives}
use Rattle.vx_tasks.specs.Many.{AllKids, AllGood}
use Rattle.vx_tasks.specs.Many as many
use Rattle.vx_tasks.specs.Joins.{Joins}
use Rattle.vx_tasks.proofs.Many.{many_good}
use Rattle.vx_tasks.proofs.Joins.{joins_apart}
use Rattle.vx_plan.specs.PlanData.{Setting, Item, places}
use Rattle.vx_plan.proofs.PlanLists.{nil_left, nil_right}
use Rattle.vx_machine_turns.specs.Locals.{Local}
use Rattle.vx_machine_turns.specs.Acts.{Seed, Act, for_child, gifts, shut, births, born}
use Rattle.vx_machine_turns.specs.Turns.{turn, first_at_end, more_at_end, kept, firsts}
use Rattle.vx_machine_turns.specs.Scripts.{all_uses, filled, script, is_taking, Calm}
use Rattle.vx_machine_turns.specs.Plain.{gift, plain, task_of}
use Rattle.vx_machine_turns.specs.Duties.{Duty, seeds, Given}
use Rattle.vx_machine_turns.specs.Tidy.{Tidy}
use Rattle.vx_machine_turns.specs.Paths.{At, Draws, AllDraw, is_soft, AllSoft, AllMute, Goes, Ends}
use Rattle.vx_machine_turns.proofs.CalmLaws.{calm_end}
use Rattle.vx_machine_turns.proofs.PathLaws.{turns_go}

-- ---- kinds

-- actions that take and append nothing, and before the end aren't late
abbrev Quiet : Bool → List Act → Type 0
Quiet late [] = Unit {0}
Quiet late (a ∷ acts) = (takes_of a.kind ≡ 0) × (appends_of a.kind ≡ []) × (late ≡ false → is_late a.kind ≡ false) × Quiet late acts

soft_kind : (k : Kind) → is_soft k ≡ true → (takes_of k ≡ 0) × (appends_of k ≡ []) × (is_late k ≡ false) × (is_still k ≡ false)
soft_kind (Free w) h = (refl, refl, refl, refl)
soft_kind Take h = absurd (true≢false (sym h))
soft_kind TakeEnd h = absurd (true≢false (sym h))
soft_kind (Put c) h = (refl, refl, refl, refl)
soft_kind (Append q) h = absurd (true≢false (sym h))
soft_kind Join h = absurd (true≢false (sym h))

takes_none : (k : Kind) → is_taking k ≡ false → takes_of k ≡ 0
takes_none (Free w) h = refl
takes_none Take h = absurd (true≢false h)
takes_none TakeEnd h = absurd (true≢false h)
takes_none (Put c) h = refl
takes_none (Append q) h = refl
takes_none Join h = refl

soft_quiet : (acts : List Act) → AllSoft acts → Quiet false acts
soft_quiet [] h = tt
soft_quiet (a ∷ acts) h = let k = soft_kind a.kind h.0 in (k.0, k.1, (λ q. k.2), soft_quiet acts h.1)

mute_quiet : (acts : List Act) → Calm acts → AllMute acts → Quiet true acts
mute_quiet [] c h = tt
mute_quiet (a ∷ acts) c h = (takes_none a.kind c.0, h.0, (λ q. absurd (true≢false q)), mute_quiet acts c.1 h.1)

-- ---- the walk

none_taken : (k : Kind) (ps : List (List ℕ)) → takes_of k ≡ 0 → drop (takes_of k) ps ≡ ps
none_taken k ps h = ap (λ n. drop n ps) h

from_more : (e : Eof) (ys zs : List (List ℕ)) (x : List ℕ) → From e ys x → From e (ys ++ zs) x
from_more e ys zs x (y, i, g) = (y, in_left y ys zs i, g)

module _ (e : Eof) (ended late : Bool) (keep ps : List (List ℕ)) (rest : List Act) where
  -- the actions behind the first of a block
  more_walk : (acts : List Act) → Quiet late acts → (late ≡ true → ps ≡ []) → ((k : ℕ) → Walks e ended keep ps (plain k rest)) → (k : ℕ) → Walks e ended (all_uses acts ++ keep) ps (plain k (filled keep acts ++ rest))
  more_walk [] q z w k = w k
  more_walk (a ∷ acts) (t, m, l, q) z w k = (
    record {
      holds = λ x i. from_more e ((a.uses ++ all_uses acts) ++ keep) (take (takes_of a.kind) ps) x
          (x, subst (λ s. In x s) (sym (append_assoc a.uses (all_uses acts) keep)) (in_right x a.uses (all_uses acts ++ keep) i), inl (begins-refl x));
      enough = let h : takes_of a.kind ≡ 0 = t in omega (arith, h);
      late = λ h. at late (λ r. l r) z h;
      mute = m;
    },
    subst (λ s. Walks e ended (all_uses acts ++ keep) s (plain (length a.starts + k) (filled keep acts ++ rest))) (sym (none_taken a.kind ps t)) (more_walk acts q z w (length a.starts + k)),
  )
    where
      at : (b : Bool) → (b ≡ false → is_late a.kind ≡ false) → (b ≡ true → ps ≡ []) → is_late a.kind ≡ true → ps ≡ []
      at true f g h = g refl
      at false f g h = absurd (true≢false (sym h ∙ f refl))

module _ (e : Eof) (s : Setting) where
  script_walk : (items : List Item) (l : Local) (ended : Bool) → At e l → (k : ℕ) → Walks e ended (kept l) (places items) (plain k (script s l items ended))
  script_walk [] l false a k = (refl, λ h. absurd (true≢false (sym h)))
  script_walk [] l true a k =
      let h : Ends e s l = (turns_go e s l a).1 in
      let more : List Act = more_at_end s l in (
        record {
          holds = λ x i. ⊎_elim (λ m. from_more e (kept l) [] x (h.holds x m)) (λ m. absurd m) (in_cases x (all_uses more) [] i);
          enough = omega arith;
          late = λ r. refl;
          mute = refl;
        },
        subst (λ z. Walks e true (all_uses more ++ []) [] (plain (length (first_at_end s l).starts + k) z)) (append-nil (filled [] more))
            (more_walk e true true [] [] [] more (mute_quiet more (calm_end s l) h.mute) (λ r. refl) (λ k. (refl, λ r. refl)) (length (first_at_end s l).starts + k)),
      )
  script_walk (i ∷ is) l ended a k =
      let h : Goes e s l i = (turns_go e s l a).0 i in
      let more : List Act = (turn s l i).more in (
        record { holds = λ x m. h.holds x m; enough = omega arith; late = λ r. cc; mute = refl },
        more_walk e ended false (kept (turn s l i).after) (places is) (script s (turn s l i).after is ended) more (soft_quiet more h.soft) (λ r. absurd (true≢false (sym r)))
            (script_walk is (turn s l i).after ended h.stays) (length (turn s l i).first.starts + k),
      )

-- ---- what is given and started

abbrev Flows : Eof → List (List ℕ) → List (List ℕ) → List Act → Type 0
Flows e h ps [] = Unit {0}
Flows e h ps (a ∷ acts) = Draws e (known a.kind h ps) a × Flows e a.holds (drop (takes_of a.kind) ps) acts

draws_more : (e : Eof) (ys zs : List (List ℕ)) (a : Act) → ((x : List ℕ) → In x ys → In x zs) → Draws e ys a → Draws e zs a
draws_more e ys zs a f d = ((λ g m. let h = d.0 g m in (h.0, f h.0 h.1, h.2)), (λ q m. let h = d.1 q m in (h.0, f h.0 h.1, h.2)))

module _ (e : Eof) (late : Bool) (keep ps : List (List ℕ)) (rest : List Act) where
  more_flows : (acts : List Act) → Quiet late acts → AllDraw e acts → Flows e keep ps rest → Flows e (all_uses acts ++ keep) ps (filled keep acts ++ rest)
  more_flows [] q d f = f
  more_flows (a ∷ acts) (t, m, l, q) (d, ds) f = (
    draws_more e a.uses (known a.kind ((a.uses ++ all_uses acts) ++ keep) ps) a
        (λ x i. in_left x ((a.uses ++ all_uses acts) ++ keep) (take (takes_of a.kind) ps) (in_left x (a.uses ++ all_uses acts) keep (in_left x a.uses (all_uses acts) i))) d,
    subst (λ z. Flows e (all_uses acts ++ keep) z (filled keep acts ++ rest)) (sym (none_taken a.kind ps t)) (more_flows acts q ds f),
  )

module _ (e : Eof) (s : Setting) where
  script_flows : (items : List Item) (l : Local) (ended : Bool) → At e l → Flows e (kept l) (places items) (script s l items ended)
  script_flows [] l false a = tt
  script_flows [] l true a =
      let h : Ends e s l = (turns_go e s l a).1 in
      let more : List Act = more_at_end s l in (
        draws_more e (kept l) (kept l ++ []) (first_at_end s l) (λ x i. in_left x (kept l) [] i) h.first,
        subst (λ z. Flows e (all_uses more ++ []) [] z) (append-nil (filled [] more)) (more_flows e true [] [] [] more (mute_quiet more (calm_end s l) h.mute) h.later tt),
      )
  script_flows (i ∷ is) l ended a =
      let h : Goes e s l i = (turns_go e s l a).0 i in
      let more : List Act = (turn s l i).more in (
        h.first,
        more_flows e false (kept (turn s l i).after) (places is) (script s (turn s l i).after is ended) more (soft_quiet more h.soft) h.later (script_flows is (turn s l i).after ended h.stays),
      )

-- ---- actions that wait for others come last

-- where an action appends or joins, it and those behind it close no queue of a child that is started
abbrev pub StillLast : ℕ → List Act → Type 0
StillLast k [] = Unit {0}
StillLast k (a ∷ acts) = (is_still a.kind ≡ true → (j : ℕ) → j < k → shut j (a ∷ acts) ≡ false) × StillLast (length a.starts + k) acts

-- none of them waits so
abbrev pub NoneStill : List Act → Type 0
NoneStill [] = Unit {0}
NoneStill (a ∷ acts) = (is_still a.kind ≡ false) × NoneStill acts

pub soft_still : (keep : List (List ℕ)) (acts rest : List Act) (k : ℕ) → AllSoft acts → ((k : ℕ) → StillLast k rest) → StillLast k (filled keep acts ++ rest)
soft_still keep [] rest k h r = r k
soft_still keep (a ∷ acts) rest k h r = ((λ q. absurd (true≢false (sym q ∙ (soft_kind a.kind h.0).3))), soft_still keep acts rest (length a.starts + k) h.1 r)

soft_none : (keep : List (List ℕ)) (acts rest : List Act) → AllSoft acts → NoneStill rest → NoneStill (filled keep acts ++ rest)
soft_none keep [] rest h r = r
soft_none keep (a ∷ acts) rest h r = ((soft_kind a.kind h.0).3, soft_none keep acts rest h.1 r)

pub none_kinds : (k : ℕ) (acts : List Act) → NoneStill acts → any_kind is_still (plain k acts) ≡ false
none_kinds k [] h = refl
none_kinds k (a ∷ acts) h = ap (λ b. b || any_kind is_still (plain (length a.starts + k) acts)) h.0 ∙ none_kinds (length a.starts + k) acts h.1

open_none : (e : Eof) (s : Setting) (items : List Item) (l : Local) → At e l → NoneStill (script s l items false)
open_none e s [] l a = tt
open_none e s (i ∷ is) l a =
    let h : Goes e s l i = (turns_go e s l a).0 i in
    (refl, soft_none (kept (turn s l i).after) (turn s l i).more (script s (turn s l i).after is false) h.soft (open_none e s is (turn s l i).after h.stays))

-- ---- plain scripts

gift_paths : (j : ℕ) (gs : List (ℕ × Item)) → to_child j (map gift gs) ≡ places (for_child j gs)
gift_paths j [] = refl
gift_paths j (g ∷ gs) = go (nat_eq g.0 j) (gift_paths j gs)
  where
    go : (b : Bool) → to_child j (map gift gs) ≡ places (for_child j gs) → cond b (g.1.0 ∷ to_child j (map gift gs)) (to_child j (map gift gs)) ≡ places (cond b (g.1 ∷ for_child j gs) (for_child j gs))
    go true h = ap (λ z. g.1.0 ∷ z) h
    go false h = h

places_append : (xs ys : List Item) → places (xs ++ ys) ≡ places xs ++ places ys
places_append [] ys = refl
places_append (x ∷ xs) ys = ap (λ z. x.0 ∷ z) (places_append xs ys)

plain_given : (j k : ℕ) (acts : List Act) → given j (plain k acts) ≡ places (gifts j acts)
plain_given j k [] = refl
plain_given j k (a ∷ acts) = ap₂ (λ x y. x ++ y) (gift_paths j a.gives) (plain_given j (length a.starts + k) acts) ∙ sym (places_append (for_child j a.gives) (gifts j acts))

plain_shut : (j k : ℕ) (acts : List Act) → shuts_in j (plain k acts) ≡ shut j acts
plain_shut j k [] = refl
plain_shut j k (a ∷ acts) = ap (λ z. has j a.shuts || z) (plain_shut j (length a.starts + k) acts)

in_gift : (j : ℕ) (gs : List (ℕ × Item)) (x : List ℕ) → In x (to_child j (map gift gs)) → (g : ℕ × Item) × In g gs × (x ≡ g.1.0)
in_gift j [] x i = absurd i
in_gift j (g ∷ gs) x i = go (in_gift j gs x) (nat_eq g.0 j) i
  where
    go : (In x (to_child j (map gift gs)) → (h : ℕ × Item) × In h gs × (x ≡ h.1.0)) → (b : Bool) → In x (cond b (g.1.0 ∷ to_child j (map gift gs)) (to_child j (map gift gs))) → (h : ℕ × Item) × In h (g ∷ gs) × (x ≡ h.1.0)
    go ih true (inl q) = (g, inl refl, q)
    go ih true (inr m) = let h = ih m in (h.0, inr h.1, h.2)
    go ih false m = let h = ih m in (h.0, inr h.1, h.2)

-- ---- who is started when

has_numbers : (j k n : ℕ) → (nat_lt j k || has j (numbers k n)) ≡ nat_lt j (n + k)
has_numbers j k zero = none (nat_lt j k) ∙ ap (λ z. nat_lt j z) (let h : k ≡ 0 + k = omega arith in h)
  where
    none : (b : Bool) → (b || false) ≡ b
    none true = refl
    none false = refl
has_numbers j k (suc n) =
    step (nat_lt j k) (nat_eq k j) (has j (numbers (suc k) n)) (nat_lt j (suc k)) (next_number j k) ∙ has_numbers j (suc k) n ∙ ap (λ z. nat_lt j z) (let h : n + suc k ≡ suc n + k = omega arith in h)
  where
    next_number : (j k : ℕ) → (nat_lt j k || nat_eq k j) ≡ nat_lt j (suc k)
    next_number j k = grind (arith, nat_tests)

    step : (a b c d : Bool) → (a || b) ≡ d → (a || (b || c)) ≡ (d || c)
    step true b c d h = ap (λ z. z || c) h
    step false b c d h = ap (λ z. z || c) h

-- each of these, from number k on, is no child j or has this eof path
abbrev BornIn : ℕ → ℕ → List Seed → List ℕ → Type 0
BornIn j k [] ceof = Unit {0}
BornIn j k (q ∷ qs) ceof = (k ≡ j → q.eof ≡ ceof) × BornIn j (suc k) qs ceof

born_left : (j k : ℕ) (xs ys : List Seed) (ceof : List ℕ) → BornIn j k (xs ++ ys) ceof → BornIn j k xs ceof
born_left j k [] ys ceof h = tt
born_left j k (x ∷ xs) ys ceof h = (h.0, born_left j (suc k) xs ys ceof h.1)

born_right : (j k : ℕ) (xs ys : List Seed) (ceof : List ℕ) → BornIn j k (xs ++ ys) ceof → BornIn j (length xs + k) ys ceof
born_right j k [] ys ceof h = let e : k ≡ 0 + k = omega arith in subst (λ z. BornIn j z ys ceof) e h
born_right j k (x ∷ xs) ys ceof h = let e : length xs + suc k ≡ suc (length xs) + k = omega arith in subst (λ z. BornIn j z ys ceof) e (born_right j (suc k) xs ys ceof h.1)

born_there : (j k : ℕ) (qs : List Seed) (ceof : List ℕ) → BornIn j k qs ceof → has j (numbers k (length qs)) ≡ true → (q : Seed) × In q qs × (q.eof ≡ ceof)
born_there j k [] ceof h b = absurd (true≢false (sym b))
born_there j k (q ∷ qs) ceof h b = go (born_there j (suc k) qs ceof h.1) (nat_eq k j) refl b
  where
    is_it : nat_eq k j ≡ true → k ≡ j
    is_it h = grind (arith, nat_tests)

    go : (has j (numbers (suc k) (length qs)) ≡ true → (w : Seed) × In w qs × (w.eof ≡ ceof)) → (b : Bool) → nat_eq k j ≡ b → (b || has j (numbers (suc k) (length qs))) ≡ true → (w : Seed) × In w (q ∷ qs) × (w.eof ≡ ceof)
    go ih true z m = (q, inl refl, h.0 (is_it z))
    go ih false z m = let w = ih m in (w.0, inr w.1, w.2)

born_beyond : (j k : ℕ) (qs : List Seed) (ceof : List ℕ) → j < k → BornIn j k qs ceof
born_beyond j k [] ceof l = tt
born_beyond j k (q ∷ qs) ceof l = ((λ z. absurd (omega (arith, l, z))), born_beyond j (suc k) qs ceof (omega (arith, l)))

born_at : (front : List Seed) (q : Seed) (rest : List Seed) (j k : ℕ) → k + length front ≡ j → BornIn j k (front ++ (q ∷ rest)) q.eof
born_at [] q rest j k l = ((λ z. refl), born_beyond j (suc k) rest q.eof (omega (arith, l)))
born_at (f ∷ fs) q rest j k l = ((λ z. absurd (omega (arith, l, z))), born_at fs q rest j (suc k) (omega (arith, l)))

-- ---- a child

or_assoc : (a b c : Bool) → (a || (b || c)) ≡ true → ((a || b) || c) ≡ true
or_assoc true b c h = refl
or_assoc false b c h = h

module _ (e : Eof) (j : ℕ) (ceof : List ℕ) where
  lives_of : (acts : List Act) (k : ℕ) (h ps : List (List ℕ)) (sh : Bool) → Flows e h ps acts → Tidy k acts → StillLast k acts → ((sh || shut j acts) ≡ true) ⊎ NoneStill acts → (sh ≡ true → gifts j acts ≡ [])
      → BornIn j k (births acts) ceof → Lives e j ceof (nat_lt j k) sh h ps (plain k acts)
  lives_of [] k h ps sh f t l total c b = tt
  lives_of (a ∷ acts) k h ps sh f t l total c b = (
    record {
      gives = λ x i. let g = in_gift j a.gives x i in subst (λ z. From e (known a.kind h ps) z) (sym g.2) (f.0.0 g.0 g.1);
      born = λ o s. let q = born_there j k a.starts ceof (born_left j k a.starts (births acts) ceof b) s in subst (λ z. From e (known a.kind h ps) z) q.2 (f.0.1 q.0 q.1);
      early = λ o. gift_paths j a.gives ∙ ap (λ z. places z) (t.0 j (beyond (sym (has_numbers j k (length a.starts)) ∙ o))).0;
      late = λ o. gift_paths j a.gives ∙ ap (λ z. places z) (nil_left (for_child j a.gives) (gifts j acts) (c o));
      still = λ o s. closed total s (l.0 s j (before o));
    },
    subst (λ z. Lives e j ceof z (sh || has j a.shuts) a.holds (drop (takes_of a.kind) ps) (plain (length a.starts + k) acts)) (sym (has_numbers j k (length a.starts)))
        (lives_of acts (length a.starts + k) a.holds (drop (takes_of a.kind) ps) (sh || has j a.shuts) f.1 t.2 l.1 (later total) (after_shut sh c) (born_right j k a.starts (births acts) ceof b)),
  )
    where
      beyond : nat_lt j (length a.starts + k) ≡ false → length a.starts + k ≤ j
      beyond h = grind (arith, nat_tests)

      before : nat_lt j k ≡ true → j < k
      before h = grind (arith, nat_tests)

      closed : ((sh || shut j (a ∷ acts)) ≡ true) ⊎ NoneStill (a ∷ acts) → is_still a.kind ≡ true → shut j (a ∷ acts) ≡ false → sh ≡ true
      closed (inl q) s n = only sh (shut j (a ∷ acts)) q n
        where
          only : (x y : Bool) → (x || y) ≡ true → y ≡ false → x ≡ true
          only true y q n = refl
          only false y q n = absurd (true≢false (sym q ∙ n))
      closed (inr n) s z = absurd (true≢false (sym s ∙ n.0))

      later : ((sh || shut j (a ∷ acts)) ≡ true) ⊎ NoneStill (a ∷ acts) → (((sh || has j a.shuts) || shut j acts) ≡ true) ⊎ NoneStill acts
      later (inl q) = inl (or_assoc sh (has j a.shuts) (shut j acts) q)
      later (inr n) = inr n.1

      after_shut : (x : Bool) → (x ≡ true → gifts j (a ∷ acts) ≡ []) → (x || has j a.shuts) ≡ true → gifts j acts ≡ []
      after_shut true c h = nil_right (for_child j a.gives) (gifts j acts) (c refl)
      after_shut false c h = t.1 j h

-- ---- the node

abbrev pub many_duties : List Duty → List many.Duty
many_duties [] = []
many_duties (c ∷ cs) = record { items = places c.items; ended = c.ended; eof = c.eof } ∷ many_duties cs

-- each duty's eof path is that of its seed, and lies in the node's region
abbrev pub AllPlaced : List (List ℕ) → Eof → List Duty → Type 0
AllPlaced ps e [] = Unit {0}
AllPlaced ps e (c ∷ cs) = (c.seed.eof ≡ eof_path c.eof) × ((i : ℕ) → Region ps e (raised c.eof i)) × AllPlaced ps e cs

abbrev pub OnceEnded : Bool → List Duty → Type 0
OnceEnded ended [] = Unit {0}
OnceEnded ended (c ∷ cs) = (ended ≡ true → c.ended ≡ true) × OnceEnded ended cs

first_numbers : (j k : ℕ) → has j (numbers 0 k) ≡ nat_lt j k
first_numbers j k = none (nat_lt j 0) (has j (numbers 0 k)) (none_below j) ∙ has_numbers j 0 k ∙ ap (λ z. nat_lt j z) (let h : k + 0 ≡ k = omega arith in h)
  where
    none_below : (j : ℕ) → nat_lt j 0 ≡ false
    none_below j = grind (arith, nat_tests)

    none : (a b : Bool) → a ≡ false → b ≡ (a || b)
    none true b h = absurd (true≢false h)
    none false b h = refl

plain_starts : (j k : ℕ) (acts : List Act) → (nat_lt j k || starts_in j (plain k acts)) ≡ nat_lt j (born acts + k)
plain_starts j k [] = none (nat_lt j k) ∙ ap (λ z. nat_lt j z) (let h : k ≡ 0 + k = omega arith in h)
  where
    none : (b : Bool) → (b || false) ≡ b
    none true = refl
    none false = refl
plain_starts j k (a ∷ acts) =
    step (nat_lt j k) (has j (numbers k (length a.starts))) (starts_in j (plain (length a.starts + k) acts)) (nat_lt j (length a.starts + k)) (has_numbers j k (length a.starts))
    ∙ plain_starts j (length a.starts + k) acts ∙ ap (λ z. nat_lt j z) (let h : born acts + (length a.starts + k) ≡ (length a.starts + born acts) + k = omega arith in h)
  where
    step : (a b c d : Bool) → (a || b) ≡ d → (a || (b || c)) ≡ (d || c)
    step true b c d h = ap (λ z. z || c) h
    step false b c d h = ap (λ z. z || c) h

births_count : (acts : List Act) → length (births acts) ≡ born acts
births_count [] = refl
births_count (a ∷ acts) = length-append a.starts (births acts) ∙ ap (λ z. length a.starts + z) (births_count acts)

pub record Grows (s : Setting) (q : Seed) (cs : List Duty) (items : List Item) (ended : Bool) (e : Eof) (kids : Forest) : Type 0 where
  pub eof_is : q.eof ≡ eof_path e
  pub at : At e q.local
  pub tidy : Tidy (length (firsts q)) (script s q.local items ended)
  pub seeds_are : firsts q ++ births (script s q.local items ended) ≡ seeds cs
  pub given_are : Given (script s q.local items ended) 0 cs
  pub last : StillLast (length (firsts q)) (script s q.local items ended)
  pub ends : OnceEnded ended cs
  pub held : (x : List ℕ) → In x (kept q.local) → Region (places items) e x
  pub placed : AllPlaced (places items) e cs
  pub joins : Joins kids (numbers 0 (length (firsts q))) (kept q.local) (plain (length (firsts q)) (script s q.local items ended))

module _ (s : Setting) (q : Seed) (cs : List Duty) (items : List Item) (ended : Bool) (e : Eof) (kids : Forest) (g : Grows s q cs items ended e kids) where
  abbrev acts : List Act
  acts = script s q.local items ended

  abbrev k0 : ℕ
  k0 = length (firsts q)

  still_or : (j : ℕ) (c : Duty) → shut j acts ≡ c.ended → (ended ≡ true → c.ended ≡ true) → ((false || shut j acts) ≡ true) ⊎ NoneStill acts
  still_or j c h f = go ended refl
    where
      go : (b : Bool) → ended ≡ b → ((false || shut j acts) ≡ true) ⊎ NoneStill acts
      go true z = inl (h ∙ f z)
      go false z = inr (subst (λ b. NoneStill (script s q.local items b)) (sym z) (open_none e s items q.local g.at))

  kids_of : (after : List Duty) (front : List Seed) (j : ℕ) → length front ≡ j → seeds cs ≡ front ++ seeds after → Given acts j after → OnceEnded ended after → AllPlaced (places items) e after
      → AllKids (places items) ended e (task_of q acts) j (many_duties after)
  kids_of [] front j l z a b p = tt
  kids_of (c ∷ after) front j l z (x, y, a) (u, b) (v, w, p) = (
    record {
      items_are = plain_given j k0 acts ∙ ap (λ y. places y) x;
      closes_are = plain_shut j k0 acts ∙ y;
      open_is = λ o. open_too ended c.ended u o;
      begun = ap (λ b. b || starts_in j (plain k0 acts)) (first_numbers j k0) ∙ plain_starts j k0 acts ∙ in_time;
      lives = subst (λ b. Lives e j (eof_path c.eof) b false (kept q.local) (places items) (plain k0 acts)) (sym (first_numbers j k0))
          (lives_of e j (eof_path c.eof) acts k0 (kept q.local) (places items) false (script_flows e s items q.local ended g.at) g.tidy g.last (still_or j c y u) (λ r. absurd (true≢false (sym r)))
          (let h : k0 + 0 ≡ k0 = omega arith in subst (λ r. BornIn j r (births acts) (eof_path c.eof)) h (born_right j 0 (firsts q) (births acts) (eof_path c.eof)
          (subst (λ r. BornIn j 0 r (eof_path c.eof)) (sym (g.seeds_are ∙ z)) (subst (λ r. BornIn j 0 (front ++ (c.seed ∷ seeds after)) r) v (born_at front c.seed (seeds after) j 0 (omega (arith, l))))))));
      eof_in = w;
    },
    kids_of after (front ++ (c.seed ∷ [])) (suc j) (let h : length (front ++ (c.seed ∷ [])) ≡ length front + 1 = length-append front (c.seed ∷ []) in omega (arith, h, l))
        (z ∙ sym (append_assoc front (c.seed ∷ []) (seeds after))) a b p,
  )
    where
      open_too : (a b : Bool) → (a ≡ true → b ≡ true) → b ≡ false → a ≡ false
      open_too true b f o = absurd (true≢false (sym (f refl) ∙ o))
      open_too false b f o = refl

      below_it : (i n : ℕ) → i < n → nat_lt i n ≡ true
      below_it i n h = grind (arith, nat_tests)

      in_time : nat_lt j (born acts + k0) ≡ true
      in_time =
          let a : length (firsts q ++ births acts) ≡ k0 + length (births acts) = length-append (firsts q) (births acts) in
          let b : length (births acts) ≡ born acts = births_count acts in
          let d : length (front ++ (c.seed ∷ seeds after)) ≡ length front + suc (length (seeds after)) = length-append front (c.seed ∷ seeds after) in
          let r : length (firsts q ++ births acts) ≡ length (front ++ (c.seed ∷ seeds after)) = ap (λ y. length y) (g.seeds_are ∙ z) in
          below_it j (born acts + k0) (omega (arith, a, b, d, r, l))

  pub node_drives : Drives (places items) ended e (task_of q acts)
  node_drives = record {
    eof_is = g.eof_is;
    held_in = g.held;
    walks = script_walk e s items q.local ended g.at k0;
    quiet = λ z. none_kinds k0 acts (subst (λ b. NoneStill (script s q.local items b)) (sym z) (open_none e s items q.local g.at));
  }

  pub node_kids : AllKids (places items) ended e (task_of q acts) 0 (many_duties cs)
  node_kids = kids_of cs [] 0 refl refl g.given_are g.ends g.placed

  pub node_good : AllGood q.name 0 (many_duties cs) kids → Good q.name (places items) ended e (task_of q acts) kids
  node_good all = many_good (places items) ended e (task_of q acts) node_drives (many_duties cs) kids (joins_apart (task_of q acts) kids g.joins) node_kids all
