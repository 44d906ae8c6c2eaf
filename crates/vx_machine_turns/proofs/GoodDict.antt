-- A dictionary node's tasks are good, where its children's are.
use Rattle.std.proofs.Common.{◌≡◌, ℕ, suc, ◌+◌, ◌⊎◌, inl, inr, ⊎_elim, Bool, true, false, List, [], ◌∷◌, ◌++◌, refl, sym, ◌∙◌, subst}
use Rattle.vx_model.specs.Ty.{Ty}
use Rattle.vx_model.specs.CellData.{CellData}
use Rattle.vx_path.specs.Lists.{In}
use Rattle.vx_path.specs.Path.{begins, under, raised, Eof, eof_path, inside, next, Region, Before}
use Rattle.vx_path.proofs.Path.{begins-refl, begins-under}
use Rattle.vx_rules.specs.Runs.{DictOptions, Run, ended_runs, next_codes, open_run, cut_at, runs}
use Rattle.vx_tasks.specs.Many.{AllGood}
use Rattle.vx_tasks.proofs.Befores.{before_from, before_next, before_inside}
use Rattle.vx_plan.specs.PlanData.{Setting, Item, places}
use Rattle.vx_plan.specs.DictNode.{is_dictionary}
use Rattle.vx_machine_turns.specs.Forms.{Form, dict_form, form_type}
use Rattle.vx_machine_turns.specs.Locals.{DictNode}
use Rattle.vx_machine_turns.specs.Dict.{Stretch}
use Rattle.vx_machine_turns.specs.Fuels.{Fuel, spent, fuel, Enough}
use Rattle.vx_machine_turns.specs.Plain.{script_reading}
use Rattle.vx_machine_turns.specs.Duties.{grown}
use Rattle.vx_machine_turns.specs.Paths.{shifted}
use Rattle.vx_machine_turns.proofs.DictLaws.{prefix, to_come, first_come, run_duties}
use Rattle.vx_machine_turns.proofs.DictNodes.{empty_falls, falls, cuts, AllClosed, all_closed}
use Rattle.vx_machine_turns.proofs.PathLaws.{shifted_none, shifted_more, shifted_path, twice_shifted}
use Rattle.vx_machine_turns.proofs.GoodLaws.{AllPlaced, OnceEnded, many_duties}
use Rattle.vx_machine_turns.proofs.GoodNodes.{IsGood, IsGoodAt, eof_region, bare_good}
use Rattle.vx_machine_turns.proofs.GoodMore.{GoesOn, only_good}

-- ---- the runs' paths go on from the chunks'

abbrev RunsOn : List (List ℕ) → List Run → Type 0
RunsOn qs [] = Unit {0}
RunsOn qs (r ∷ rs) = (GoesOn (places r.codes) qs × GoesOn (places r.values) qs) × RunsOn qs rs

on_append : (qs : List (List ℕ)) (rs us : List Run) → RunsOn qs rs → RunsOn qs us → RunsOn qs (rs ++ us)
on_append qs [] us h g = g
on_append qs (r ∷ rs) us h g = (h.0, on_append qs rs us h.1 g)

on_more : (p : List ℕ) (qs : List (List ℕ)) (rs : List Run) → RunsOn qs rs → RunsOn (p ∷ qs) rs
on_more p qs [] h = tt
on_more p qs (r ∷ rs) h = (((λ x i. let q = h.0.0 x i in (q.0, inr q.1, q.2)), (λ x i. let q = h.0.1 x i in (q.0, inr q.1, q.2))), on_more p qs rs h.1)

one_on : (p : List ℕ) (qs : List (List ℕ)) (j : ℕ) (x : List ℕ) → x ≡ under p j → (q : List ℕ) × In q (p ∷ qs) × (begins q x ≡ true)
one_on p qs j x z = (p, inl refl, subst (λ y. begins p y ≡ true) (sym z) (begins-under p j))

ended_on : (o : DictOptions) (t : Ty) (p : List ℕ) (qs : List (List ℕ)) (r : ℕ) (xs : List Stretch) → RunsOn (p ∷ qs) (ended_runs o t p r [] xs)
ended_on o t p qs r [] = tt
ended_on o t p qs r (x ∷ xs) =
    (((λ y i. ⊎_elim (λ z. one_on p qs r y z) (λ z. absurd z) i), (λ y i. ⊎_elim (λ z. one_on p qs (suc r) y z) (λ z. absurd z) i)), ended_on o t p qs (r + 2) xs)

next_on : (o : DictOptions) (p : List ℕ) (qs : List (List ℕ)) (r : ℕ) (xs : List Stretch) (codes : List ℕ) → GoesOn (places (next_codes o p r [] xs codes)) (p ∷ qs)
next_on o p qs r [] codes y i = ⊎_elim (λ z. one_on p qs r y z) (λ z. absurd z) i
next_on o p qs r (x ∷ xs) codes y i = next_on o p qs (r + 2) xs codes y i

places_cases : (xs ys : List Item) (p : List ℕ) → In p (places (xs ++ ys)) → In p (places xs) ⊎ In p (places ys)
places_cases [] ys p i = inr i
places_cases (x ∷ xs) ys p (inl q) = inl (inl q)
places_cases (x ∷ xs) ys p (inr i) = ⊎_elim (λ a. inl (inr a)) (λ a. inr a) (places_cases xs ys p i)

open_on : (qs : List (List ℕ)) (cs : List Item) → GoesOn (places cs) qs → RunsOn qs (open_run cs)
open_on qs [] h = tt
open_on qs (c ∷ cs) h = ((h, (λ x i. absurd i)), tt)

prefix_on : (qs : List (List ℕ)) (cs : List Item) (rs : List Run) → GoesOn (places cs) qs → RunsOn qs rs → RunsOn qs (prefix cs rs)
prefix_on qs cs [] h g = open_on qs cs h
prefix_on qs cs (r ∷ rs) h g = (((λ x i. ⊎_elim (λ a. h x a) (λ a. g.0.0 x a) (places_cases cs r.codes x i)), g.0.1), g.1)

come_on : (o : DictOptions) (t : Ty) (begun : Bool) (ds : List CellData) (j : Item) (items : List Item) (ended : Bool) → RunsOn (places (j ∷ items)) (to_come o t begun ds j items ended)
come_on o t begun ds j [] true = ended_on o t j.0 [] 0 ((cut_at o t ds j).closed ++ (((cut_at o t ds j).codes, (cut_at o t ds j).distinct) ∷ []))
come_on o t true ds j [] false = (((λ x i. absurd i), (λ x i. absurd i)), tt)
come_on o t false ds j [] false = tt
come_on o t begun ds j (i ∷ is) ended =
    let later : List Run = to_come o t true (cut_at o t ds j).distinct i is ended in
    let codes : List Item = next_codes o j.0 0 [] (cut_at o t ds j).closed (cut_at o t ds j).codes in
    on_append (places (j ∷ i ∷ is)) (ended_runs o t j.0 0 [] (cut_at o t ds j).closed) (prefix codes later) (ended_on o t j.0 (places (i ∷ is)) 0 (cut_at o t ds j).closed)
    (prefix_on (places (j ∷ i ∷ is)) codes later (next_on o j.0 (places (i ∷ is)) 0 (cut_at o t ds j).closed (cut_at o t ds j).codes) (on_more j.0 (places (i ∷ is)) later (come_on o t true (cut_at o t ds j).distinct i is ended)))

runs_on : (o : DictOptions) (t : Ty) (i : Item) (is : List Item) (ended : Bool) → RunsOn (places (i ∷ is)) (runs o t (i ∷ is) ended)
runs_on o t i is ended = subst (λ z. RunsOn (places (i ∷ is)) z) (sym (first_come o t [] i is ended)) (come_on o t false [] i is ended)

-- ---- their children

module _ (s : Setting) (n : DictNode) (g : Ty → Fuel) (h : IsGood s n.codes) (i : IsGood s n.values) (x : Enough (g (form_type n.codes)) n.codes) (y : Enough (g (form_type n.values)) n.values) (qs : List (List ℕ)) where
  runs_good : (base : ℕ) (q : Eof) (rs : List Run) → RunsOn qs rs → Before qs q → AllGood n.name base (many_duties (run_duties s n base q rs)) (grown s script_reading g (run_duties s n base q rs))
  runs_good base q [] on b = tt
  runs_good base q (r ∷ rs) on b = (
    h n.mark (under n.name base) r.codes r.closed (inside q) (g (form_type n.codes)) x (before_from (places r.codes) qs (inside q) on.0.0 (before_inside qs q b)),
    (
      i n.mark (under n.name (suc base)) r.values r.closed (inside (next q)) (g (form_type n.values)) y (before_from (places r.values) qs (inside (next q)) on.0.1 (before_inside qs (next q) (before_next qs q b))),
      runs_good (suc (suc base)) (next (next q)) rs on.1 (before_next qs (next q) (before_next qs q b)),
    ),
  )

runs_placed : (s : Setting) (n : DictNode) (ps : List (List ℕ)) (e : Eof) (base : ℕ) (q : Eof) (rs : List Run) → q ≡ shifted e base → AllPlaced ps e (run_duties s n base q rs)
runs_placed s n ps e base q [] h = tt
runs_placed s n ps e base q (r ∷ rs) h =
    (refl, (λ k. eof_region ps e q base k h), (refl, (λ k. eof_region ps e (next q) (suc base) k (shifted_more e q base (suc base) h refl)), runs_placed s n ps e (suc (suc base)) (next (next q)) rs (twice_shifted e q base h)))

runs_end : (s : Setting) (n : DictNode) (ended : Bool) (base : ℕ) (q : Eof) (rs : List Run) → (ended ≡ true → AllClosed rs) → OnceEnded ended (run_duties s n base q rs)
runs_end s n ended base q [] h = tt
runs_end s n ended base q (r ∷ rs) h = ((λ z. (h z).0), ((λ z. (h z).0), runs_end s n ended (suc (suc base)) (next (next q)) rs (λ z. (h z).1)))

own_eof : (ps : List (List ℕ)) (e : Eof) (x : List ℕ) → In x (eof_path e ∷ []) → Region ps e x
own_eof ps e x i = inr (0, ⊎_elim (λ z. subst (λ y. begins (raised e 0) y ≡ true) (sym (z ∙ shifted_path e e 0 (shifted_none e))) (begins-refl (raised e 0))) (λ z. absurd z) i)

-- ---- the node

pub dict_good : (s : Setting) (o : DictOptions) (t : Ty) (c v f : Form) → IsGood s c → IsGood s v → IsGood s f → IsGood s (dict_form o t c v f)
dict_good s o t c v f h i j m name items ended e spent enough b = absurd enough
dict_good s o t c v f h i j m name [] true e (fuel g) enough b =
    let n : DictNode = record { name = name; mark = m; options = o; type = t; codes = c; values = v; fallback = f; eof = e } in
    let a = empty_falls s n in
    only_good s (dict_form o t c v f) f m name [] [] true e g refl tt (λ x k. own_eof [] e x k) a.born a.given a.closes j enough.2 (λ p k. absurd k) b
dict_good s o t c v f h i j m name [] false e (fuel g) enough b =
    bare_good s (dict_form o t c v f) m name [] false e g [] refl tt (λ x k. own_eof [] e x k) (record { seeds_are = refl; given_are = tt; ends = tt; placed = tt }) tt
dict_good s o t c v f h i j m name (x ∷ xs) ended e (fuel g) enough b = go (is_dictionary (s.image o.probe x.1)) refl
  where
    go : (z : Bool) → is_dictionary (s.image o.probe x.1) ≡ z → IsGoodAt s (dict_form o t c v f) m name (x ∷ xs) ended e (fuel g)
    go true q =
        let n : DictNode = record { name = name; mark = m; options = o; type = t; codes = c; values = v; fallback = f; eof = e } in
        let rs : List Run = runs o t (x ∷ xs) ended in
        let a = cuts s n x xs ended q in
        bare_good s (dict_form o t c v f) m name (x ∷ xs) ended e g (run_duties s n 0 e rs) refl tt (λ y k. own_eof (places (x ∷ xs)) e y k)
        (record { seeds_are = a.seeds_are; given_are = a.given; ends = runs_end s n ended 0 e rs (λ z. all_closed s n x xs ended z); placed = runs_placed s n (places (x ∷ xs)) e 0 e rs (shifted_none e) })
        (runs_good s n g h i enough.0 enough.1 (places (x ∷ xs)) 0 e rs (runs_on o t x xs ended) b)
    go false q =
        let n : DictNode = record { name = name; mark = m; options = o; type = t; codes = c; values = v; fallback = f; eof = e } in
        let a = falls s n x xs ended q in
        only_good s (dict_form o t c v f) f m name (x ∷ xs) (x ∷ xs) ended e g refl tt (λ y k. own_eof (places (x ∷ xs)) e y k) a.born a.given a.closes j enough.2 (λ p k. (p, k, begins-refl p)) b
