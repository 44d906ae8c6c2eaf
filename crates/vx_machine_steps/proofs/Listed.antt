-- What a move lists is among what is read off the state.
use Rattle.std.proofs.Common.{◌≡◌, ◌||◌, ◌∷◌, ◌++◌, ◌∙◌, ℕ, suc, false, List, refl, sym, ap, subst, inl, append_assoc, Option, Some, None, is_some, []}
use Rattle.vx_path.specs.Lists.{In}
use Rattle.vx_path.proofs.Lists.{in_left, in_right}
use Rattle.vx_tasks.specs.Task.{past}
use Rattle.vx_tasks.specs.State.{beside}
use Rattle.vx_tasks.proofs.Scripts.{no_true, or_false}
use Rattle.vx_plan.specs.PlanData.{Setting, What}
use Rattle.vx_machine_turns.specs.Acts.{Seed, Act, gifts, shut, refuses, any_refuses, told, first_refusal, written_by, wrote, numbers_in, indices_in}
use Rattle.vx_machine_turns.specs.Fuels.{Fuel, less}
use Rattle.vx_machine_turns.specs.Readings.{Reading, pair_reading, number_reading, index_reading}
use Rattle.vx_machine_turns.specs.Plain.{task_of, script_reading}
use Rattle.vx_machine_turns.specs.Source.{outside_seed}
use Rattle.vx_machine_steps.specs.Laws.{Lists, RefusalsWithin}
use Rattle.vx_machine_steps.specs.Moves.{Due, all_paths, TreeMove, tree_moves}
use Rattle.vx_machine_steps.specs.Stands.{Neat, AllNeat, Linked, Clean, closing}
use Rattle.vx_machine_steps.specs.Tree.{Tree, Leaf, Work, ahead, read}
use Rattle.vx_machine_steps.proofs.Kept.{ends_of}
use Rattle.vx_machine_steps.proofs.Laws.{outside_neat}
use Rattle.vx_machine_steps.proofs.Places.{Where, here, under, aside, which}
use Rattle.vx_machine_steps.proofs.Seen.{Steps, steps_of, due_ahead}

-- a reading that joins what each task's acts list
abbrev pub gathers : {A : Type 0} → (Seed → List Act → List A) → Reading (List A)
gathers list = record { none = []; make = λ q acts kids rest. list q acts ++ (kids ++ rest) }

-- what an act lists is listed of a task that does it, where nothing before it refuses
abbrev pub Finds : {A : Type 0} → (Act → List A) → (Seed → List Act → List A) → Type 0
Finds {A} own list = (q : Seed) (past : List Act) (a : Act) (later : List Act) → any_refuses past ≡ false → (x : A) → In x (own a) → In x (list q (past ++ (a ∷ later)))

pub listed : {A : Type 0} (s : Setting) (own : Act → List A) (list : Seed → List Act → List A) (all : List (List ℕ)) (d : Fuel) (ps : Seed) (pp acts : List Act) (j : ℕ) (t : Tree) (m : TreeMove)
    → Finds own list → In m (tree_moves s all d t) → Neat (task_of ps (pp ++ acts)) → AllNeat (read s script_reading d j acts t) → Linked d ps pp j t → Clean t
    → (x : A) → In x (own m.act) → In x (read s (gathers list) d j acts t)
listed s own list all d ps pp acts j Leaf m find i neat nts k cl x w = absurd i
listed {A} s own list all d ps pp acts j (Work h ks r) m find i neat (nown, nkids, nrest) (k, deep, beside) (cl, clk, clr) x w =
    by (which s all d h ks r m i)
    (λ y z v. listed s own list all (less d h.seed.type) h.seed h.past to_do 0 ks y find z nown nkids deep clk x v)
    (λ y z v. listed s own list all d ps pp acts (suc j) r y find z neat nrest beside clr x v)
  where
    to_do : List Act
    to_do = ahead s h (gifts j acts) (h.closed || shut j acts)

    below : List A
    below = read s (gathers list) (less d h.seed.type) 0 to_do ks

    others : List A
    others = read s (gathers list) d (suc j) acts r

    at_own : (g : Due) → Steps s h g → In x (own g.act) → In x (list h.seed (h.past ++ to_do) ++ (below ++ others))
    at_own g st v = in_left x (list h.seed (h.past ++ to_do)) (below ++ others)
        (subst (λ z. In x (list h.seed (h.past ++ z))) (sym (due_ahead s h g (gifts j acts) (h.closed || shut j acts) st (ends_of ps pp acts j h neat k.shut_is)))
        (find h.seed h.past g.act (ahead s g.head (gifts j acts) (h.closed || shut j acts)) cl x v))

    by : Where s all d h ks r m → ((y : TreeMove) → In y (tree_moves s all (less d h.seed.type) ks) → In x (own y.act) → In x below)
        → ((y : TreeMove) → In y (tree_moves s all d r) → In x (own y.act) → In x others) → In x (list h.seed (h.past ++ to_do) ++ (below ++ others))
    by (here o) down over = at_own o.due_now (steps_of s h o.due_now o.due_is) (subst (λ z. In x (own z)) o.act_is w)
    by (under y z e) down over = in_right x (list h.seed (h.past ++ to_do)) (below ++ others) (in_left x below others (down y z (subst (λ v. In x (own v.act)) e w)))
    by (aside y z e) down over = in_right x (list h.seed (h.past ++ to_do)) (below ++ others) (in_right x below others (over y z (subst (λ v. In x (own v.act)) e w)))

-- of the whole machine
pub lists : {A : Type 0} (own : Act → List A) (list : Seed → List Act → List A) → Finds own list → Lists own (gathers list)
lists own list find s d t m st i x w =
    listed s own list (all_paths t) d outside_seed (closing ∷ []) [] 0 t m find i outside_neat st.neat st.linked st.clean x w

-- The words that are joined act by act.

pub finds_joined : {A : Type 0} (own : Act → List A) (list : List Act → List A) → ((xs ys : List Act) → list (xs ++ ys) ≡ list xs ++ list ys)
    → ((a : Act) (later : List Act) → list (a ∷ later) ≡ own a ++ list later) → Finds own (λ q acts. list acts)
finds_joined own list joins first q past a later c x i = subst (λ z. In x z) (sym (joins past (a ∷ later)))
    (in_right x (list past) (list (a ∷ later)) (subst (λ z. In x z) (sym (first a later)) (in_left x (own a) (list later) i)))

pub wrote-append : (xs ys : List Act) → wrote (xs ++ ys) ≡ wrote xs ++ wrote ys
wrote-append [] ys = refl
wrote-append (a ∷ xs) ys = ap (λ z. written_by a.kind a.bytes ++ z) (wrote-append xs ys) ∙ sym (append_assoc (written_by a.kind a.bytes) (wrote xs) (wrote ys))

numbers_in-append : (xs ys : List Act) → numbers_in (xs ++ ys) ≡ numbers_in xs ++ numbers_in ys
numbers_in-append [] ys = refl
numbers_in-append (a ∷ xs) ys = ap (λ z. a.numbers ++ z) (numbers_in-append xs ys) ∙ sym (append_assoc a.numbers (numbers_in xs) (numbers_in ys))

indices_in-append : (xs ys : List Act) → indices_in (xs ++ ys) ≡ indices_in xs ++ indices_in ys
indices_in-append [] ys = refl
indices_in-append (a ∷ xs) ys = ap (λ z. a.indices ++ z) (indices_in-append xs ys) ∙ sym (append_assoc a.indices (indices_in xs) (indices_in ys))

pub list_pairs : Lists (λ a. written_by a.kind a.bytes) pair_reading
list_pairs = lists (λ a. written_by a.kind a.bytes) (λ q acts. wrote acts) (finds_joined (λ a. written_by a.kind a.bytes) wrote wrote-append (λ a later. refl))

pub list_numbers : Lists (λ a. a.numbers) number_reading
list_numbers = lists (λ a. a.numbers) (λ q acts. numbers_in acts) (finds_joined (λ a. a.numbers) numbers_in numbers_in-append (λ a later. refl))

pub list_indices : Lists (λ a. a.indices) index_reading
list_indices = lists (λ a. a.indices) (λ q acts. indices_in acts) (finds_joined (λ a. a.indices) indices_in indices_in-append (λ a later. refl))

-- The first refusal of a task.

told_in : (o : Option What) (later : List What) (w : What) → In w (told o []) → In w (told o later)
told_in (Some v) later w i = i
told_in None later w i = absurd i

pub no_refusal : (a : Act) (later : List What) → refuses a ≡ false → told a.refusal later ≡ later
no_refusal a later e = by a.refusal (or_false a.misfit (is_some a.refusal) e).1
  where
    by : (o : Option What) → is_some o ≡ false → told o later ≡ later
    by None e = refl
    by (Some v) e = absurd (no_true e refl)

finds_refusal : Finds (λ a. told a.refusal []) (λ q acts. first_refusal acts)
finds_refusal q [] a later c w i = told_in a.refusal (first_refusal later) w i
finds_refusal q (b ∷ past) a later c w i =
    let p : (refuses b ≡ false) × (any_refuses past ≡ false) = or_false (refuses b) (any_refuses past) c in
    subst (λ z. In w z) (sym (no_refusal b (first_refusal (past ++ (a ∷ later))) p.0)) (finds_refusal q past a later p.1 w i)

pub refusals_within : RefusalsWithin
refusals_within s d t m w st i e =
    lists (λ a. told a.refusal []) (λ q acts. first_refusal acts) finds_refusal s d t m st i w (subst (λ z. In w (told z [])) (sym e) (inl refl))
