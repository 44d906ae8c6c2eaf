-- Chunked keeps the rules, where its children do.
use Rattle.std.proofs.Common.{◌≡◌, ℕ, zero, suc, ◌+◌, ◌<◌, ◌≤◌, ◌⊎◌, Bool, true, false, cond, not, nat_eq, ◌||◌, List, [], ◌∷◌, ◌++◌, length, take, drop, refl, sym, ap, ◌∙◌, subst, inl, inr, ⊎_elim, arith, append_assoc, length-append}
use Rattle.std.proofs.lemmas.Bool.Decides.{nat_tests}
use Rattle.vx_path.specs.Lists.{In}
use Rattle.vx_path.specs.Path.{path_le, begins, under, Eof, raised, eof_path, inside, next, Region}
use Rattle.vx_path.proofs.Lists.{in_left, in_right}
use Rattle.vx_path.proofs.Path.{path_le-refl, path_le-trans, begins-refl, begins_le, begins-under, under_le, raised-next, raised-zero, region_next, region_inside, region_more}
use Rattle.vx_tasks.specs.Task.{is_late, Task, Action, Forest, past, taken, holds, has, takes_in, appends_in, holds_after, holds_in, is_still, any_kind}
use Rattle.vx_tasks.specs.Task.Kind.{Take, TakeEnd, Join}
use Rattle.vx_tasks.specs.Task.Forest.{Bare, Node}
use Rattle.vx_tasks.specs.Rules.{Apart, AllHeld, Rules, AtLeast, InOrder, Rises, names}
use Rattle.vx_tasks.specs.Nodes.{acts, once_ended, chunk_takes, chunked_task}
use Rattle.vx_tasks.specs.Good.{Reads, Good, ChunkKids}
use Rattle.vx_tasks.proofs.Scripts.{any_kind-append, takes_in-append, holds_after-append, all_whole}
use Rattle.vx_tasks.proofs.Fit.{Feeds, child_rules, child_order, body_reads, no_append_keeps, join_apart, no_join_apart, held_where, NamedFrom, more_named, more_rises, alone_named, alone_rises}
use Rattle.vx_tasks.proofs.Leaves.{mute_reads, never_late}
use Rattle.vx_tasks.proofs.Born.{Untouched, untouched-append, born_feeds}

-- What the takes of chunks do.

-- the end of a Chunked node's script
abbrev last_part : Bool → List Action
last_part ended = once_ended ended (acts TakeEnd [] ∷ acts Join [] ∷ [])

pub same_test : (j : ℕ) → nat_eq j j ≡ true
same_test j = grind (arith, nat_tests)

pub other_test : (i j : ℕ) → i < j → nat_eq j i ≡ false
other_test i j h = grind (arith, nat_tests)

-- the take of one more chunk
abbrev one_take : ℕ → List ℕ → Eof → Action
one_take j p e = record { kind = Take; starts = j ∷ []; gives = (j, p) ∷ []; shuts = j ∷ []; holds = eof_path (next e) ∷ []; refuses = false }

not_touched : (i j : ℕ) (p : List ℕ) (e : Eof) → nat_eq j i ≡ false → Untouched i (one_take j p e ∷ [])
not_touched i j p e h = record {
  starts = ap (λ b. b || false || false) h;
  gives = ap (λ b. cond b (p ∷ []) [] ++ []) h;
  shuts = ap (λ b. b || false || false) h;
}

-- they don't touch the children before j
later_untouched : (i j : ℕ) (ps : List (List ℕ)) (e : Eof) (ended : Bool) → i < j → Untouched i (chunk_takes j ps e ++ last_part ended)
later_untouched i j [] e true h = record { starts = refl; gives = refl; shuts = refl }
later_untouched i j [] e false h = record { starts = refl; gives = refl; shuts = refl }
later_untouched i j (p ∷ ps) e ended h =
    untouched-append i (one_take j p e ∷ []) (chunk_takes (suc j) ps (next e) ++ last_part ended) (not_touched i j p e (other_test i j h))
    (later_untouched i (suc j) ps (next e) ended (omega arith))

takes_length : (j : ℕ) (ps : List (List ℕ)) (e : Eof) → takes_in (chunk_takes j ps e) ≡ length ps
takes_length j [] e = refl
takes_length j (p ∷ ps) e = omega (arith, takes_length (suc j) ps (next e))

takes_move : (j : ℕ) (ps : List (List ℕ)) (e : Eof) → any_kind is_still (chunk_takes j ps e) ≡ false
takes_move j [] e = refl
takes_move j (p ∷ ps) e = takes_move (suc j) ps (next e)

takes_early : (j : ℕ) (ps : List (List ℕ)) (e : Eof) → any_kind is_late (chunk_takes j ps e) ≡ false
takes_early j [] e = refl
takes_early j (p ∷ ps) e = takes_early (suc j) ps (next e)

takes_mute : (j : ℕ) (ps : List (List ℕ)) (e : Eof) (ended : Bool) → appends_in (chunk_takes j ps e ++ last_part ended) ≡ []
takes_mute j [] e true = refl
takes_mute j [] e false = refl
takes_mute j (p ∷ ps) e ended = takes_mute (suc j) ps (next e) ended

-- all that is held is e, e + 1, ..
takes_hold : (j : ℕ) (ps : List (List ℕ)) (e : Eof) (ended : Bool) (x : List ℕ) → In x (holds_in (chunk_takes j ps e ++ last_part ended)) → (i : ℕ) × (x ≡ raised e i)
takes_hold j [] e true x i = absurd i
takes_hold j [] e false x i = absurd i
takes_hold j (p ∷ ps) e ended x i = ⊎_elim
    (λ a. (1, a ∙ sym (raised-zero (next e)) ∙ raised-next e 0))
    (λ b. at (takes_hold (suc j) ps (next e) ended x b)) i
  where
    at : (i : ℕ) × (x ≡ raised (next e) i) → (i : ℕ) × (x ≡ raised e i)
    at (i, h) = (i + 1, h ∙ raised-next e i)

in_drop_at : (n : ℕ) (front : List (List ℕ)) (p : List ℕ) (back : List (List ℕ)) → n ≤ length front → In p (drop n (front ++ (p ∷ back)))
in_drop_at zero front p back h = in_right p front (p ∷ back) (inl refl)
in_drop_at (suc n) [] p back h = absurd (omega arith)
in_drop_at (suc n) (q ∷ front) p back h = in_drop_at n front p back (omega arith)

takes_part : (xs : List Action) (n : ℕ) → takes_in (take n xs) ≤ takes_in xs
takes_part [] zero = omega arith
takes_part [] (suc n) = omega arith
takes_part (a ∷ xs) zero = omega arith
takes_part (a ∷ xs) (suc n) = omega (arith, takes_part xs n)

take_front : (pre post : List Action) (n : ℕ) → n ≤ length pre → take n (pre ++ post) ≡ take n pre
take_front pre post zero h = refl
take_front [] post (suc n) h = absurd (omega arith)
take_front (a ∷ pre) post (suc n) h = ap (λ y. a ∷ y) (take_front pre post n (omega arith))

take_one_more : (pre : List Action) (x : Action) (post : List Action) → take (suc (length pre)) (pre ++ (x ∷ post)) ≡ pre ++ (x ∷ [])
take_one_more [] x post = refl
take_one_more (a ∷ pre) x post = ap (λ y. a ∷ y) (take_one_more pre x post)

eof_le_inside : (e : Eof) → path_le (eof_path e) (eof_path (inside e)) ≡ true
eof_le_inside e = begins_le (eof_path e) (eof_path (inside e)) (begins-under (eof_path e) 0)

eof_le_next : (e : Eof) → path_le (eof_path e) (eof_path (next e)) ≡ true
eof_le_next e = under_le e.stem e.last (e.last + 1) (omega arith)

at_least_more : (hs ds : List (List ℕ)) (x y : List ℕ) → AtLeast hs x → path_le x y ≡ true → AtLeast (hs ++ ds) y
at_least_more hs ds x y (z, i, h) k = (z, in_left z hs ds i, path_le-trans z x y h k)

-- The children from number j on, where the actions `pre` are those before, which took the paths `front`.
pub record Upto (t : Task) (all front : List (List ℕ)) (j : ℕ) (pre : List Action) (ps : List (List ℕ)) (ended : Bool) (e : Eof) : Type 0 where
  pub script_is : t.script ≡ pre ++ (chunk_takes j ps e ++ last_part ended)
  pub none_first : t.first ≡ []
  pub stream_is : all ≡ front ++ ps
  pub took : takes_in pre ≡ length front
  pub untouched : (i : ℕ) → j ≤ i → Untouched i pre
  pub eof_covered : (n : ℕ) → n ≤ length pre → AtLeast (holds t n) (eof_path e)

module _ (t : Task) (all front : List (List ℕ)) (j : ℕ) (pre : List Action) (p : List ℕ) (ps : List (List ℕ)) (ended : Bool) (e : Eof)
    (u : Upto t all front j pre (p ∷ ps) ended e) where
  child_fed : Feeds (not ended) all t j (p ∷ []) true (eof_path (inside e))
  child_fed = born_feeds (not ended) all t j p (eof_path (inside e)) pre (one_take j p e) (chunk_takes (suc j) ps (next e) ++ last_part ended)
      u.script_is (ap (has j) u.none_first) (u.untouched j (omega arith)) (later_untouched j (suc j) ps (next e) ended (omega arith))
      (ap (λ b. b || false) (same_test j)) (ap (λ b. cond b (p ∷ []) []) (same_test j)) (ap (λ b. b || false) (same_test j))
      (λ n h. (
        p,
        in_right p (holds t n) (drop (taken t n) all)
            (let l : taken t n ≤ length front = few n h in subst (λ y. In p (drop (taken t n) y)) (sym u.stream_is) (in_drop_at (taken t n) front p ps l)),
        path_le-refl p,
      ))
      (λ n h. at_least_more (holds t n) (drop (taken t n) all) (eof_path e) (eof_path (inside e)) (u.eof_covered n h) (eof_le_inside e))
    where
      few : (n : ℕ) → n ≤ length pre → taken t n ≤ length front
      few n h =
          let w : past t n ≡ take n pre = ap (take n) u.script_is ∙ take_front pre (chunk_takes j (p ∷ ps) e ++ last_part ended) n h in
          rw w (omega (arith, takes_part pre n, u.took))

  next_upto : Upto t all (front ++ (p ∷ [])) (suc j) (pre ++ (one_take j p e ∷ [])) ps ended (next e)
  next_upto = record {
    script_is = u.script_is ∙ sym (append_assoc pre (one_take j p e ∷ []) (chunk_takes (suc j) ps (next e) ++ last_part ended));
    none_first = u.none_first;
    stream_is = u.stream_is ∙ sym (append_assoc front (p ∷ []) ps);
    took = takes_in-append pre (one_take j p e ∷ []) ∙ ap (λ n. n + 1) u.took ∙ sym (length-append front (p ∷ []));
    untouched = λ i h. untouched-append i pre (one_take j p e ∷ []) (u.untouched i (omega arith)) (not_touched i j p e (not_that i h));
    eof_covered = λ n h. ⊎_elim
        (λ l. at_next n (u.eof_covered n l))
        (λ l. rw (last n l) (eof_path (next e), inl refl, path_le-refl (eof_path (next e))))
        (cases n (length pre) (let z : n ≤ length pre + 1 = rw (length-append pre (one_take j p e ∷ [])) at h in z));
  }
    where
      not_that : (i : ℕ) → suc j ≤ i → nat_eq j i ≡ false
      not_that i h = grind (arith, nat_tests)

      cases : (n m : ℕ) → n ≤ m + 1 → (n ≤ m) ⊎ (n ≡ suc m)
      cases n m h = grind arith

      at_next : (n : ℕ) → AtLeast (holds t n) (eof_path e) → AtLeast (holds t n) (eof_path (next e))
      at_next n (z, i, k) = (z, i, path_le-trans z (eof_path e) (eof_path (next e)) k (eof_le_next e))

      last : (n : ℕ) → n ≡ suc (length pre) → holds t n ≡ eof_path (next e) ∷ []
      last n l = ap (holds_after t.held) (ap (λ m. take m t.script) l ∙ ap (take (suc (length pre))) u.script_is
          ∙ take_one_more pre (one_take j p e) (chunk_takes (suc j) ps (next e) ++ last_part ended))
          ∙ holds_after-append t.held pre (one_take j p e ∷ [])

chunk_rules : (t : Task) (name : List ℕ) (all front : List (List ℕ)) (j : ℕ) (pre : List Action) (ps : List (List ℕ)) (ended : Bool) (e : Eof) (kids : Forest)
    → Upto t all front j pre ps ended e → ChunkKids name j ps e kids → Rules (not ended) t j kids × InOrder all t j kids
chunk_rules t name all front j pre [] ended e Bare u k = (tt, tt)
chunk_rules t name all front j pre [] ended e (Node c kids rest) u k = absurd k
chunk_rules t name all front j pre (p ∷ ps) ended e Bare u k = absurd k
chunk_rules t name all front j pre (p ∷ ps) ended e (Node c kids rest) u (g, k) =
    let r : Rules (not ended) t (suc j) rest × InOrder all t (suc j) rest =
    chunk_rules t name all (front ++ (p ∷ [])) (suc j) (pre ++ (one_take j p e ∷ [])) ps ended (next e) rest (next_upto t all front j pre p ps ended e u) k in (
      child_rules (not ended) all t j (under name j) (p ∷ []) true (inside e) c kids (child_fed t all front j pre p ps ended e u) g rest r.0,
      child_order (not ended) all t j (under name j) (p ∷ []) true (inside e) c kids (child_fed t all front j pre p ps ended e u) g rest r.1,
    )

-- Regions and names of the children.

chunk_region : (name : List ℕ) (j : ℕ) (ps : List (List ℕ)) (e : Eof) (kids : Forest) → ChunkKids name j ps e kids → AllHeld (Region ps e) kids
chunk_region name j [] e Bare k = tt
chunk_region name j [] e (Node c kids rest) k = absurd k
chunk_region name j (p ∷ ps) e Bare k = absurd k
chunk_region name j (p ∷ ps) e (Node c kids rest) (g, k) =
    let a : AllHeld (Region (p ∷ ps) e) (Node c kids Bare) = held_where (Region (p ∷ []) (inside e)) (Region (p ∷ ps) e) (Node c kids Bare)
    (λ x h. region_more (p ∷ []) (p ∷ ps) e x (λ q i. ⊎_elim (λ z. inl z) (λ z. absurd z) i) (region_inside (p ∷ []) e x h)) g.region in (
      a.0,
      a.1,
      held_where (Region ps (next e)) (Region (p ∷ ps) e) rest
          (λ x h. region_more ps (p ∷ ps) e x (λ q i. inr i) (region_next ps e x h)) (chunk_region name (suc j) ps (next e) rest k),
    )

chunk_names : (name : List ℕ) (j : ℕ) (ps : List (List ℕ)) (e : Eof) (kids : Forest) → ChunkKids name j ps e kids → NamedFrom name j (names kids) × Rises (names kids)
chunk_names name j [] e Bare k = (λ y i. absurd i, tt)
chunk_names name j [] e (Node c kids rest) k = absurd k
chunk_names name j (p ∷ ps) e Bare k = absurd k
chunk_names name j (p ∷ ps) e (Node c kids rest) (g, k) =
    let r : NamedFrom name (suc j) (names rest) × Rises (names rest) = chunk_names name (suc j) ps (next e) rest k in
    (more_named name j (p ∷ []) true (inside e) c kids rest g r.0, more_rises name j (p ∷ []) true (inside e) c kids rest g r.0 r.1)

-- Chunked.

pub chunked_good : (name : List ℕ) (e : Eof) (ps : List (List ℕ)) (ended : Bool) (kids : Forest) → ChunkKids name 0 ps e kids
    → Good name ps ended e (chunked_task name e false ps ended) kids
chunked_good name e ps ended kids k = record {
  eof_is = refl;
  reads = reads ended;
  keeps = no_append_keeps (t ended) (takes_mute 0 ps e ended);
  apart = apart ended;
  rules = both.0;
  order = both.1;
  region = (
    λ x i. ⊎_elim (λ z. held_at x (0, z ∙ sym (raised-zero e))) (λ a. held_at x (takes_hold 0 ps e ended x a)) i,
    chunk_region name 0 ps e kids k,
    tt,
  );
  named = alone_named (t ended) kids (chunk_names name 0 ps e kids k).0;
  rises = alone_rises (t ended) kids (chunk_names name 0 ps e kids k).0 (chunk_names name 0 ps e kids k).1;
}
  where
    t : Bool → Task
    t ended = chunked_task name e false ps ended

    held_at : (x : List ℕ) → (i : ℕ) × (x ≡ raised e i) → Region ps e x
    held_at x (i, h) = inr (i, rw h (begins-refl (raised e i)))

    both : Rules (not ended) (t ended) 0 kids × InOrder ps (t ended) 0 kids
    both = chunk_rules (t ended) name ps [] 0 [] ps ended e kids
        (record {
          script_is = refl;
          none_first = refl;
          stream_is = refl;
          took = refl;
          untouched = λ i h. record { starts = refl; gives = refl; shuts = refl };
          eof_covered = λ n h. at_zero n (let z : n ≡ 0 = omega arith in z);
        }) k
      where
        at_zero : (n : ℕ) → n ≡ 0 → AtLeast (holds (t ended) n) (eof_path e)
        at_zero n z = rw z (eof_path e, inl refl, path_le-refl (eof_path e))

    body : List Action
    body = chunk_takes 0 ps e ++ (acts TakeEnd [] ∷ [])

    split : (t true).script ≡ body ++ (acts Join [] ∷ [])
    split = sym (append_assoc (chunk_takes 0 ps e) (acts TakeEnd [] ∷ []) (acts Join [] ∷ []))

    body_moves : any_kind is_still body ≡ false
    body_moves = any_kind-append is_still (chunk_takes 0 ps e) (acts TakeEnd [] ∷ []) ∙ ap (λ b. b || false) (takes_move 0 ps e)

    open_moves : any_kind is_still (t false).script ≡ false
    open_moves = any_kind-append is_still (chunk_takes 0 ps e) [] ∙ ap (λ b. b || false) (takes_move 0 ps e)

    last_takes : (ended : Bool) → takes_in (last_part ended) ≡ 0
    last_takes true = refl
    last_takes false = refl

    all_takes : (ended : Bool) → takes_in (t ended).script ≡ length ps
    all_takes ended =
        let h : takes_in (t ended).script ≡ takes_in (chunk_takes 0 ps e) + takes_in (last_part ended) = takes_in-append (chunk_takes 0 ps e) (last_part ended) in
        omega (arith, takes_length 0 ps e, last_takes ended)

    holds_end : (ended : Bool) → ended ≡ true → holds (t ended) (length (t ended).script) ≡ []
    holds_end true c = ap (holds_after (eof_path e ∷ [])) (all_whole (t true)) ∙ holds_after-append (eof_path e ∷ []) (chunk_takes 0 ps e) (last_part true)
    holds_end false c = cc

    reads : (ended : Bool) → Reads ps ended (t ended)
    reads ended = mute_reads ps ended (t ended) (takes_mute 0 ps e ended) (omega (arith, all_takes ended))
        (λ n h. body_reads (t ended) (chunk_takes 0 ps e) (last_part ended) (length ps) n refl (takes_early 0 ps e) (omega (arith, takes_length 0 ps e)) h)
        (λ r. omega (arith, all_takes ended)) (λ c r. holds_end ended c)

    apart : (ended : Bool) → Apart (t ended) kids
    apart true = join_apart (t true) kids body (acts Join []) split body_moves (holds_after-append (eof_path e ∷ []) (chunk_takes 0 ps e) (acts TakeEnd [] ∷ []))
    apart false = no_join_apart (t false) kids open_moves

-- where its first child would refuse to start
pub barred_good : (name : List ℕ) (e : Eof) (p : List ℕ) (ps : List (List ℕ)) (ended : Bool) → Good name (p ∷ ps) ended e (chunked_task name e true (p ∷ ps) ended) Bare
barred_good name e p ps ended = record {
  eof_is = refl;
  reads = mute_reads (p ∷ ps) ended t refl (omega arith) (never_late (length (p ∷ ps)) t refl) (λ r. cc) (λ r h. cc);
  keeps = no_append_keeps t refl;
  apart = no_join_apart t Bare refl;
  rules = tt;
  order = tt;
  region = (λ x i. ⊎_elim (λ z. inr (0, subst (λ y. begins (raised e 0) y ≡ true) (sym (z ∙ sym (raised-zero e))) (begins-refl (raised e 0)))) (λ a. absurd a) i, tt, tt);
  named = alone_named t Bare (λ y i. absurd i);
  rises = alone_rises t Bare (λ y i. absurd i) tt;
}
  where
    t : Task
    t = chunked_task name e true (p ∷ ps) ended
