-- What is read off the tasks of several duties, against several plans.
use Rattle.std.proofs.Common.{◌≡◌, ℕ, suc, ◌+◌, ◌≤◌, ◌⊎◌, inl, inr, ⊎_elim, ◌||◌, true, false, List, [], ◌∷◌, ◌++◌, Option, Some, None, refl, sym, ap, ◌∙◌, subst, arith, append_assoc}
use Rattle.std.proofs.lemmas.List.{append-nil}
use Rattle.vx_model.specs.Ty.{Ty}
use Rattle.vx_path.specs.Lists.{In}
use Rattle.vx_path.proofs.Lists.{in_left, in_right, in_cases}
use Rattle.vx_plan.specs.PlanData.{Setting, Plan, What, Fault}
use Rattle.vx_plan.specs.ChunkedNode.{all_pairs, all_faults, all_layouts, all_numbers, all_reserved}
use Rattle.vx_plan.specs.Valid.{Has}
use Rattle.vx_plan.proofs.PlanLists.{nil_left, nil_right, nil_both}
use Rattle.vx_tasks.specs.Task.{has}
use Rattle.vx_tasks.specs.Task.Kind.{Join}
use Rattle.vx_machine_turns.specs.Acts.{Seed, Act, does, for_child, gifts, shut, births, wrote, told, first_refusal, shape_in, numbers_in, indices_in, raised_in, lowered_in, passes, or_else}
use Rattle.vx_machine_turns.specs.Turns.{firsts, start_indices}
use Rattle.vx_machine_turns.specs.Scripts.{script}
use Rattle.vx_machine_turns.specs.Fuels.{Fuel, spent, fuel}
use Rattle.vx_machine_turns.specs.Readings.{Reading, row_of, unread, pair_reading, fault_reading, layout_reading, number_reading, index_reading, start_reading, raise_reading, lower_reading, shaped}
use Rattle.vx_machine_turns.specs.Duties.{Duty, seeds, duty_script, below, Given, grown}
use Rattle.vx_machine_turns.specs.Planned.{AtMost, Meets}

pub row_is : {F : Type 0} (s : Setting) (v : Reading F) (g : Ty → Fuel) (j : ℕ) (acts : List Act) (cs : List Duty) → Given acts j cs
    → row_of s v (λ q. unread s v (g q.type) 0) j (seeds cs) acts ≡ grown s v g cs
row_is s v g j acts [] h = refl
row_is s v g j acts (c ∷ cs) (e, f, h) =
    ap (λ z. v.make c.seed (script s c.seed.local z (shut j acts)) (unread s v (g c.seed.type) 0 (firsts c.seed ++ births (script s c.seed.local z (shut j acts))) (script s c.seed.local z (shut j acts))) (row_of s v (λ q. unread s v (g q.type) 0) (suc j) (seeds cs) acts)) e
    ∙ ap (λ z. v.make c.seed (script s c.seed.local c.items z) (unread s v (g c.seed.type) 0 (firsts c.seed ++ births (script s c.seed.local c.items z)) (script s c.seed.local c.items z)) (row_of s v (λ q. unread s v (g q.type) 0) (suc j) (seeds cs) acts)) f
    ∙ ap (λ z. v.make c.seed (duty_script s c) (below s v (g c.seed.type) c) z) (row_is s v g (suc j) acts cs h)

-- children that aren't started are read by what is given to them alone
pub row_same : {F : Type 0} (s : Setting) (v : Reading F) (deeper : Seed → List Seed → List Act → F) (j : ℕ) (qs : List Seed) (xs ys : List Act)
    → ((i : ℕ) → j ≤ i → (gifts i xs ≡ gifts i ys) × (shut i xs ≡ shut i ys)) → row_of s v deeper j qs xs ≡ row_of s v deeper j qs ys
row_same s v deeper j [] xs ys h = refl
row_same s v deeper j (q ∷ qs) xs ys h =
    let e : gifts j xs ≡ gifts j ys = (h j (omega arith)).0 in
    let f : shut j xs ≡ shut j ys = (h j (omega arith)).1 in
    let g : row_of s v deeper (suc j) qs xs ≡ row_of s v deeper (suc j) qs ys = row_same s v deeper (suc j) qs xs ys (λ i l. h i (omega arith)) in
    ap (λ z. v.make q (script s q.local z (shut j xs)) (deeper q (firsts q ++ births (script s q.local z (shut j xs))) (script s q.local z (shut j xs))) (row_of s v deeper (suc j) qs xs)) e
    ∙ ap (λ z. v.make q (script s q.local (gifts j ys) z) (deeper q (firsts q ++ births (script s q.local (gifts j ys) z)) (script s q.local (gifts j ys) z)) (row_of s v deeper (suc j) qs xs)) f
    ∙ ap (λ z. v.make q (script s q.local (gifts j ys) (shut j ys)) (deeper q (firsts q ++ births (script s q.local (gifts j ys) (shut j ys))) (script s q.local (gifts j ys) (shut j ys))) z) g

pub unread_same : {F : Type 0} (s : Setting) (v : Reading F) (d : Fuel) (j : ℕ) (qs : List Seed) (xs ys : List Act)
    → ((i : ℕ) → j ≤ i → (gifts i xs ≡ gifts i ys) × (shut i xs ≡ shut i ys)) → unread s v d j qs xs ≡ unread s v d j qs ys
unread_same s v spent j qs xs ys h = refl
unread_same s v (fuel g) j qs xs ys h = row_same s v (λ q. unread s v (g q.type) 0) j qs xs ys h

-- what stands below a task is what its duties grow
pub below_is : {F : Type 0} (s : Setting) (v : Reading F) (g : Ty → Fuel) (c : Duty) (cs : List Duty) → firsts c.seed ++ births (duty_script s c) ≡ seeds cs → Given (duty_script s c) 0 cs
    → below s v (fuel g) c ≡ grown s v g cs
below_is s v g c cs e h = ap (λ z. row_of s v (λ q. unread s v (g q.type) 0) 0 z (duty_script s c)) e ∙ row_is s v g 0 (duty_script s c) cs h

pub below_none : {F : Type 0} (s : Setting) (v : Reading F) (d : Fuel) (c : Duty) → firsts c.seed ++ births (duty_script s c) ≡ [] → below s v d c ≡ v.none
below_none s v spent c e = refl
below_none s v (fuel g) c e = ap (λ z. row_of s v (λ q. unread s v (g q.type) 0) 0 z (duty_script s c)) e

-- ---- words on faults and numbers

pub zero_more : {x y : ℕ} → x ≡ y → 0 + x ≡ y
zero_more e = omega (arith, e)

pub unraised : {x r : ℕ} → x ≡ 0 → r ≡ x + r
unraised e = omega (arith, e)

pub has_here : (w : What) (f : Fault) (fs : List Fault) → w ≡ f.what → Has w (f ∷ fs)
has_here w f fs e = (f, inl refl, sym e)

pub has_left : (w : What) (fs gs : List Fault) → Has w fs → Has w (fs ++ gs)
has_left w fs gs h = (h.0, in_left h.0 fs gs h.1, h.2)

pub has_right : (w : What) (fs gs : List Fault) → Has w gs → Has w (fs ++ gs)
has_right w fs gs h = (h.0, in_right h.0 fs gs h.1, h.2)

pub most_left : (n : ℕ) (ms ns : List ℕ) → AtMost n ms → AtMost n (ms ++ ns)
most_left n ms ns h = (h.0, in_left h.0 ms ns h.1, h.2)

pub most_right : (n : ℕ) (ms ns : List ℕ) → AtMost n ns → AtMost n (ms ++ ns)
most_right n ms ns h = (h.0, in_right h.0 ms ns h.1, h.2)

pub most_here : (n m : ℕ) (ms : List ℕ) → n ≤ m → AtMost n (m ∷ ms)
most_here n m ms l = (m, inl refl, l)

pub most_later : (n m : ℕ) (ms : List ℕ) → AtMost n ms → AtMost n (m ∷ ms)
most_later n m ms h = (h.0, inr h.1, h.2)

pub told_one : (w : What) (x : Option What) → In w (told x []) → x ≡ Some w
told_one w None h = absurd h
told_one w (Some x) (inl e) = ap (λ z. Some z) (sym e)
told_one w (Some x) (inr h) = absurd h

pub told_nil : (x : Option What) → told x [] ≡ [] → x ≡ None
told_nil None h = refl
told_nil (Some x) h = cc

pub none_some : {A : Type 0} (w : A) → None ≡ Some w → ⊥
none_some w e = cc

pub some_none : {A : Type 0} (w : A) → Some w ≡ None → ⊥
some_none w e = cc

pub cons_nil : {A : Type 0} (x : A) (xs : List A) → x ∷ xs ≡ [] → ⊥
cons_nil x xs e = cc

pub some_same : {A : Type 0} (x y : A) → Some x ≡ Some y → x ≡ y
some_same x y e = cc

pub else_none : {A : Type 0} (x y : Option A) → or_else x y ≡ None → (x ≡ None) × (y ≡ None)
else_none None y e = (refl, e)
else_none (Some a) y e = cc

-- ---- several duties

abbrev pub AllMeet : Setting → (Ty → Fuel) → List Duty → List Plan → Type 0
AllMeet s g [] [] = Unit {0}
AllMeet s g [] (p ∷ ps) = ⊥
AllMeet s g (c ∷ cs) [] = ⊥
AllMeet s g (c ∷ cs) (p ∷ ps) = Meets s (g c.seed.type) c p × AllMeet s g cs ps

abbrev pub first_start : List Duty → Option What
first_start [] = None
first_start (c ∷ cs) = or_else c.start (first_start cs)

-- one of them refuses so at its start
abbrev pub AnyStart : What → List Duty → Type 0
AnyStart w [] = ⊥
AnyStart w (c ∷ cs) = (c.start ≡ Some w) ⊎ AnyStart w cs

abbrev pub AllEnded : List Duty → Type 0
AllEnded [] = Unit {0}
AllEnded (c ∷ cs) = (c.ended ≡ true) × AllEnded cs

pairs_are : (s : Setting) (g : Ty → Fuel) (cs : List Duty) (ps : List Plan) → AllMeet s g cs ps → grown s pair_reading g cs ≡ all_pairs ps
pairs_are s g [] [] h = refl
pairs_are s g [] (p ∷ ps) h = absurd h
pairs_are s g (c ∷ cs) [] h = absurd h
pairs_are s g (c ∷ cs) (p ∷ ps) (h, hs) =
    sym (append_assoc (wrote (duty_script s c)) (below s pair_reading (g c.seed.type) c) (grown s pair_reading g cs))
    ∙ ap (λ z. z ++ grown s pair_reading g cs) h.pairs ∙ ap (λ z. p.pairs ++ z) (pairs_are s g cs ps hs)

-- an element of what is read off several is one of the first's, or of the others'
split_in : {A : Type 0} (x : A) (own kids rest : List A) → In x (own ++ (kids ++ rest)) → In x (own ++ kids) ⊎ In x rest
split_in x own kids rest i = in_cases x (own ++ kids) rest (subst (λ z. In x z) (sym (append_assoc own kids rest)) i)

causes_are : (s : Setting) (g : Ty → Fuel) (cs : List Duty) (ps : List Plan) → AllMeet s g cs ps → (w : What) → In w (grown s fault_reading g cs) → Has w (all_faults ps)
causes_are s g [] [] h w i = absurd i
causes_are s g [] (p ∷ ps) h w i = absurd h
causes_are s g (c ∷ cs) [] h w i = absurd h
causes_are s g (c ∷ cs) (p ∷ ps) (h, hs) w i =
    ⊎_elim (λ a. has_left w p.faults (all_faults ps) (h.cause w a)) (λ a. has_right w p.faults (all_faults ps) (causes_are s g cs ps hs w a))
    (split_in w (first_refusal (duty_script s c)) (below s fault_reading (g c.seed.type) c) (grown s fault_reading g cs) i)

clean_are : (s : Setting) (g : Ty → Fuel) (cs : List Duty) (ps : List Plan) → AllMeet s g cs ps → grown s fault_reading g cs ≡ [] → first_start cs ≡ None → all_faults ps ≡ []
clean_are s g [] [] h e n = refl
clean_are s g [] (p ∷ ps) h e n = absurd h
clean_are s g (c ∷ cs) [] h e n = absurd h
clean_are s g (c ∷ cs) (p ∷ ps) (h, hs) e n =
    let own : List What = first_refusal (duty_script s c) in
    let kids : List What = below s fault_reading (g c.seed.type) c in
    let rest : List What = grown s fault_reading g cs in
    let z : (c.start ≡ None) × (first_start cs ≡ None) = else_none c.start (first_start cs) n in
    nil_both p.faults (all_faults ps)
    (h.clean (nil_both own kids (nil_left own (kids ++ rest) e) (nil_left kids rest (nil_right own (kids ++ rest) e))) z.0)
    (clean_are s g cs ps hs (nil_right kids rest (nil_right own (kids ++ rest) e)) z.1)

starts_are : (s : Setting) (g : Ty → Fuel) (cs : List Duty) (ps : List Plan) → AllMeet s g cs ps → (w : What) → AnyStart w cs → Has w (all_faults ps)
starts_are s g [] [] h w e = absurd e
starts_are s g [] (p ∷ ps) h w e = absurd h
starts_are s g (c ∷ cs) [] h w e = absurd h
starts_are s g (c ∷ cs) (p ∷ ps) (h, hs) w (inl e) = has_left w p.faults (all_faults ps) (h.begins w e)
starts_are s g (c ∷ cs) (p ∷ ps) (h, hs) w (inr e) = has_right w p.faults (all_faults ps) (starts_are s g cs ps hs w e)

layouts_are : (s : Setting) (g : Ty → Fuel) (cs : List Duty) (ps : List Plan) → AllMeet s g cs ps → AllEnded cs → all_faults ps ≡ [] → grown s layout_reading g cs ≡ all_layouts ps
layouts_are s g [] [] h a e = refl
layouts_are s g [] (p ∷ ps) h a e = absurd h
layouts_are s g (c ∷ cs) [] h a e = absurd h
layouts_are s g (c ∷ cs) (p ∷ ps) (h, hs) (a, b) e =
    ap (λ z. z ++ grown s layout_reading g cs) (h.layout a (nil_left p.faults (all_faults ps) e))
    ∙ ap (λ z. p.layout ∷ z) (layouts_are s g cs ps hs b (nil_right p.faults (all_faults ps) e))

numbers_are : (s : Setting) (g : Ty → Fuel) (cs : List Duty) (ps : List Plan) → AllMeet s g cs ps → (n : ℕ) → In n (grown s number_reading g cs) → In n (all_numbers ps)
numbers_are s g [] [] h n i = absurd i
numbers_are s g [] (p ∷ ps) h n i = absurd h
numbers_are s g (c ∷ cs) [] h n i = absurd h
numbers_are s g (c ∷ cs) (p ∷ ps) (h, hs) n i =
    ⊎_elim (λ a. in_left n p.numbers (all_numbers ps) (h.numbers n a)) (λ a. in_right n p.numbers (all_numbers ps) (numbers_are s g cs ps hs n a))
    (split_in n (numbers_in (duty_script s c)) (below s number_reading (g c.seed.type) c) (grown s number_reading g cs) i)

indices_are : (s : Setting) (g : Ty → Fuel) (cs : List Duty) (ps : List Plan) → AllMeet s g cs ps → (n : ℕ) → In n (grown s index_reading g cs) → AtMost n (all_numbers ps)
indices_are s g [] [] h n i = absurd i
indices_are s g [] (p ∷ ps) h n i = absurd h
indices_are s g (c ∷ cs) [] h n i = absurd h
indices_are s g (c ∷ cs) (p ∷ ps) (h, hs) n i =
    ⊎_elim (λ a. most_left n p.numbers (all_numbers ps) (h.indices n a)) (λ a. most_right n p.numbers (all_numbers ps) (indices_are s g cs ps hs n a))
    (split_in n (indices_in (duty_script s c)) (below s index_reading (g c.seed.type) c) (grown s index_reading g cs) i)

placed_are : (s : Setting) (g : Ty → Fuel) (cs : List Duty) (ps : List Plan) → AllMeet s g cs ps → (n : ℕ) → In n (grown s start_reading g cs) → AtMost n (all_numbers ps)
placed_are s g [] [] h n i = absurd i
placed_are s g [] (p ∷ ps) h n i = absurd h
placed_are s g (c ∷ cs) [] h n i = absurd h
placed_are s g (c ∷ cs) (p ∷ ps) (h, hs) n i =
    ⊎_elim (λ a. most_left n p.numbers (all_numbers ps) (h.starts n a)) (λ a. most_right n p.numbers (all_numbers ps) (placed_are s g cs ps hs n a))
    (split_in n (start_indices c.seed.local) (below s start_reading (g c.seed.type) c) (grown s start_reading g cs) i)

raises_are : (s : Setting) (g : Ty → Fuel) (cs : List Duty) (ps : List Plan) → AllMeet s g cs ps → grown s raise_reading g cs ≡ all_reserved ps
raises_are s g [] [] h = refl
raises_are s g [] (p ∷ ps) h = absurd h
raises_are s g (c ∷ cs) [] h = absurd h
raises_are s g (c ∷ cs) (p ∷ ps) (h, hs) =
    let a : raised_in (duty_script s c) + below s raise_reading (g c.seed.type) c ≡ p.reserved = h.raises in
    let b : grown s raise_reading g cs ≡ all_reserved ps = raises_are s g cs ps hs in omega (arith, a, b)

lowers_are : (s : Setting) (g : Ty → Fuel) (cs : List Duty) (ps : List Plan) → AllMeet s g cs ps → AllEnded cs → grown s lower_reading g cs ≡ all_reserved ps
lowers_are s g [] [] h q = refl
lowers_are s g [] (p ∷ ps) h q = absurd h
lowers_are s g (c ∷ cs) [] h q = absurd h
lowers_are s g (c ∷ cs) (p ∷ ps) (h, hs) (q, qs) =
    let a : lowered_in (duty_script s c) + below s lower_reading (g c.seed.type) c ≡ p.reserved = h.lowers q in
    let b : grown s lower_reading g cs ≡ all_reserved ps = lowers_are s g cs ps hs qs in omega (arith, a, b)

pub first_any : (w : What) (cs : List Duty) → first_start cs ≡ Some w → AnyStart w cs
first_any w [] e = absurd (none_some w e)
first_any w (c ∷ cs) e = by (first_any w cs) c.start refl e
  where
    by : (first_start cs ≡ Some w → AnyStart w cs) → (o : Option What) → c.start ≡ o → or_else o (first_start cs) ≡ Some w → (c.start ≡ Some w) ⊎ AnyStart w cs
    by ih None q f = inr (ih f)
    by ih (Some x) q f = inl (q ∙ f)

-- ---- a node that appends nothing itself, and whose plan is of its duties' plans: fs are its own faults, own its own numbers

pub record Parent (s : Setting) (c : Duty) (cs : List Duty) (p : Plan) (ps : List Plan) (fs : List Fault) (own : List ℕ) : Type 0 where
  pub seeds_are : firsts c.seed ++ births (duty_script s c) ≡ seeds cs
  pub given_are : Given (duty_script s c) 0 cs
  pub silent : wrote (duty_script s c) ≡ []
  pub pairs : p.pairs ≡ all_pairs ps
  pub faults : p.faults ≡ fs ++ all_faults ps
  pub numbers : p.numbers ≡ own ++ all_numbers ps
  pub reserved : p.reserved ≡ raised_in (duty_script s c) + all_reserved ps
  pub flagged : (w : What) → In w (first_refusal (duty_script s c)) → Has w fs ⊎ AnyStart w cs
  pub unflagged : first_refusal (duty_script s c) ≡ [] → c.start ≡ None → (fs ≡ []) × (first_start cs ≡ None)
  pub starts : (w : What) → c.start ≡ Some w → Has w fs ⊎ AnyStart w cs
  pub ends : c.ended ≡ true → AllEnded cs
  pub shapes : c.ended ≡ true → shaped (shape_in (duty_script s c)) (all_layouts ps) ≡ p.layout ∷ []
  pub counts : (n : ℕ) → In n (numbers_in (duty_script s c)) → In n own
  pub moves : (n : ℕ) → In n (indices_in (duty_script s c)) → AtMost n own
  pub places : (n : ℕ) → In n (start_indices c.seed.local) → AtMost n own
  pub lowers : c.ended ≡ true → lowered_in (duty_script s c) ≡ raised_in (duty_script s c)

pub spread : (s : Setting) (g : Ty → Fuel) (c : Duty) (cs : List Duty) (p : Plan) (ps : List Plan) (fs : List Fault) (own : List ℕ) → Parent s c cs p ps fs own → AllMeet s g cs ps → Meets s (fuel g) c p
spread s g c cs p ps fs own h all = record {
  pairs = ap (λ z. z ++ below s pair_reading (fuel g) c) h.silent ∙ under_it pair_reading ∙ pairs_are s g cs ps all ∙ sym h.pairs;
  cause = λ w i. subst (λ z. Has w z) (sym h.faults)
      (⊎_elim (λ a. told_here w (h.flagged w a)) (λ a. has_right w fs (all_faults ps) (causes_are s g cs ps all w (subst (λ z. In w z) (under_it fault_reading) a)))
      (in_cases w (first_refusal (duty_script s c)) (below s fault_reading (fuel g) c) i));
  clean = λ e q. let n : (fs ≡ []) × (first_start cs ≡ None) = h.unflagged (nil_left (first_refusal (duty_script s c)) (below s fault_reading (fuel g) c) e) q in
      h.faults ∙ nil_both fs (all_faults ps) n.0 (clean_are s g cs ps all (sym (under_it fault_reading) ∙ nil_right (first_refusal (duty_script s c)) (below s fault_reading (fuel g) c) e) n.1);
  begins = λ w q. subst (λ z. Has w z) (sym h.faults) (told_here w (h.starts w q));
  layout = λ e q. ap (λ z. shaped (shape_in (duty_script s c)) z) (under_it layout_reading ∙ layouts_are s g cs ps all (h.ends e) (nil_right fs (all_faults ps) (sym h.faults ∙ q))) ∙ h.shapes e;
  numbers = λ n i. subst (λ z. In n z) (sym h.numbers)
      (⊎_elim (λ a. in_left n own (all_numbers ps) (h.counts n a)) (λ a. in_right n own (all_numbers ps) (numbers_are s g cs ps all n (subst (λ z. In n z) (under_it number_reading) a)))
      (in_cases n (numbers_in (duty_script s c)) (below s number_reading (fuel g) c) i));
  indices = λ n i. subst (λ z. AtMost n z) (sym h.numbers)
      (⊎_elim (λ a. most_left n own (all_numbers ps) (h.moves n a)) (λ a. most_right n own (all_numbers ps) (indices_are s g cs ps all n (subst (λ z. In n z) (under_it index_reading) a)))
      (in_cases n (indices_in (duty_script s c)) (below s index_reading (fuel g) c) i));
  starts = λ n i. subst (λ z. AtMost n z) (sym h.numbers)
      (⊎_elim (λ a. most_left n own (all_numbers ps) (h.places n a)) (λ a. most_right n own (all_numbers ps) (placed_are s g cs ps all n (subst (λ z. In n z) (under_it start_reading) a)))
      (in_cases n (start_indices c.seed.local) (below s start_reading (fuel g) c) i));
  raises = ap (λ z. raised_in (duty_script s c) + z) (under_it raise_reading ∙ raises_are s g cs ps all) ∙ sym h.reserved;
  lowers = λ e. ap (λ z. z + below s lower_reading (fuel g) c) (h.lowers e) ∙ ap (λ z. raised_in (duty_script s c) + z) (under_it lower_reading ∙ lowers_are s g cs ps all (h.ends e)) ∙ sym h.reserved;
}
  where
    under_it : {F : Type 0} (v : Reading F) → below s v (fuel g) c ≡ grown s v g cs
    under_it v = below_is s v g c cs h.seeds_are h.given_are

    told_here : (w : What) → Has w fs ⊎ AnyStart w cs → Has w (fs ++ all_faults ps)
    told_here w (inl a) = has_left w fs (all_faults ps) a
    told_here w (inr a) = has_right w fs (all_faults ps) (starts_are s g cs ps all w a)

-- ---- a node whose only child, started with it, has its layout

pub record Passing (s : Setting) (c child : Duty) (own : List ℕ) : Type 0 where
  pub first : firsts c.seed ≡ child.seed ∷ []
  pub born : births (duty_script s c) ≡ []
  pub given : gifts 0 (duty_script s c) ≡ child.items
  pub closes : shut 0 (duty_script s c) ≡ child.ended
  pub silent : wrote (duty_script s c) ≡ []
  pub calm : first_refusal (duty_script s c) ≡ []
  pub shape : c.ended ≡ true → shape_in (duty_script s c) ≡ Some passes
  pub counts : (n : ℕ) → In n (numbers_in (duty_script s c)) → In n own
  pub moves : (n : ℕ) → In n (indices_in (duty_script s c)) → AtMost n own
  pub places : (n : ℕ) → In n (start_indices c.seed.local) → AtMost n own
  pub lowers : c.ended ≡ true → lowered_in (duty_script s c) ≡ raised_in (duty_script s c)
  pub start : c.start ≡ child.start
  pub ends : c.ended ≡ true → child.ended ≡ true

pub pass : (s : Setting) (g : Ty → Fuel) (c child : Duty) (p q : Plan) (own : List ℕ) → Passing s c child own → Meets s (g child.seed.type) child q
    → p.pairs ≡ q.pairs → p.faults ≡ q.faults → p.numbers ≡ own ++ q.numbers → p.reserved ≡ raised_in (duty_script s c) + q.reserved → p.layout ≡ q.layout → Meets s (fuel g) c p
pass s g c child p q own h meets a b d r l = spread s g c (child ∷ []) p (q ∷ []) [] own (record {
  seeds_are = ap (λ z. z ++ births (duty_script s c)) h.first ∙ ap (λ z. child.seed ∷ z) h.born;
  given_are = (h.given, h.closes, tt);
  silent = h.silent;
  pairs = a ∙ sym (append-nil q.pairs);
  faults = b ∙ sym (append-nil q.faults);
  numbers = d ∙ ap (λ z. own ++ z) (sym (append-nil q.numbers));
  reserved = omega (arith, r);
  flagged = λ w i. absurd (subst (λ z. In w z) h.calm i);
  unflagged = λ x y. (refl, ap (λ z. or_else z None) (sym h.start ∙ y));
  starts = λ w x. inr (inl (sym h.start ∙ x));
  ends = λ x. (h.ends x, tt);
  shapes = λ x. ap (λ z. shaped z (q.layout ∷ [])) (h.shape x) ∙ ap (λ z. z ∷ []) (sym l);
  counts = h.counts;
  moves = h.moves;
  places = h.places;
  lowers = h.lowers;
}) (meets, tt)

-- the first of a list of actions
abbrev pub top : List Act → Act
top [] = does Join
top (a ∷ acts) = a

-- an action that gives and shuts nothing from number j on
pub given_on : (a : Act) (acts : List Act) (j : ℕ) (cs : List Duty) → ((k : ℕ) → j ≤ k → (for_child k a.gives ≡ []) × (has k a.shuts ≡ false)) → Given acts j cs → Given (a ∷ acts) j cs
given_on a acts j [] h q = tt
given_on a acts j (c ∷ cs) h (e, f, r) =
    (ap (λ z. z ++ gifts j acts) (h j (omega arith)).0 ∙ e, ap (λ z. z || shut j acts) (h j (omega arith)).1 ∙ f, given_on a acts (suc j) cs (λ k l. h k (omega (arith, l))) r)

-- where nothing is given and nothing closed, nothing is read off the children
module _ (F : Type 0) (s : Setting) (v : Reading F) (quiet : (q : Seed) → v.make q [] v.none v.none ≡ v.none) where
  still_row : (g : Ty → Fuel) → ((u : Ty) (j : ℕ) (qs : List Seed) (acts : List Act) → ((k : ℕ) → (gifts k acts ≡ []) × (shut k acts ≡ false)) → unread s v (g u) j qs acts ≡ v.none)
      → (j : ℕ) (qs : List Seed) (acts : List Act) → ((k : ℕ) → (gifts k acts ≡ []) × (shut k acts ≡ false)) → row_of s v (λ q. unread s v (g q.type) 0) j qs acts ≡ v.none
  still_row g ih j [] acts h = refl
  still_row g ih j (q ∷ qs) acts h =
      ap (λ z. v.make q (script s q.local z (shut j acts)) (unread s v (g q.type) 0 (firsts q ++ births (script s q.local z (shut j acts))) (script s q.local z (shut j acts))) (row_of s v (λ q. unread s v (g q.type) 0) (suc j) qs acts)) (h j).0
      ∙ ap (λ z. v.make q (script s q.local [] z) (unread s v (g q.type) 0 (firsts q ++ births (script s q.local [] z)) (script s q.local [] z)) (row_of s v (λ q. unread s v (g q.type) 0) (suc j) qs acts)) (h j).1
      ∙ ap (λ z. v.make q [] z (row_of s v (λ q. unread s v (g q.type) 0) (suc j) qs acts)) (ih q.type 0 (firsts q ++ []) [] (λ k. (refl, refl)))
      ∙ ap (λ z. v.make q [] v.none z) (still_row g ih (suc j) qs acts h) ∙ quiet q

  pub still : (d : Fuel) (j : ℕ) (qs : List Seed) (acts : List Act) → ((k : ℕ) → (gifts k acts ≡ []) × (shut k acts ≡ false)) → unread s v d j qs acts ≡ v.none
  still spent j qs acts h = refl
  still (fuel g) j qs acts h = still_row g (λ u. still (g u)) j qs acts h
