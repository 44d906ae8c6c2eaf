-- The tasks of nodes with one child, of zoned and of dictionary nodes are good, where their children's are.
use Rattle.std.proofs.Common.{◌≡◌, ℕ, suc, ◌⊎◌, inl, inr, ⊎_elim, Bool, true, false, List, [], ◌∷◌, ◌++◌, refl, sym, ap, subst, arith}
use Rattle.vx_model.specs.Ty.{Ty}
use Rattle.vx_model.specs.ChunkData.{ChunkData}
use Rattle.vx_path.specs.Lists.{In}
use Rattle.vx_path.specs.Path.{begins, under, raised, Eof, Region, Before}
use Rattle.vx_path.proofs.Path.{begins-refl, begins-under, under_lt}
use Rattle.vx_rules.specs.Regroup.{Rule, ranked, regrouped}
use Rattle.vx_rules.specs.Blocks.{BlockOptions, blocks}
use Rattle.vx_rules.specs.Flushes.{flushes, collected, last_path}
use Rattle.vx_tasks.specs.Task.{Forest}
use Rattle.vx_tasks.specs.Good.{Good}
use Rattle.vx_tasks.proofs.Befores.{before_from}
use Rattle.vx_tasks.proofs.Passing.{passing_good}
use Rattle.vx_tasks.proofs.Fit.{under_above}
use Rattle.vx_strategy_spec.specs.StrategyData.{by_blocks, by_bytes, into_one}
use Rattle.vx_plan.specs.PlanData.{Setting, Item, places}
use Rattle.vx_plan.specs.GroupNode.{images}
use Rattle.vx_machine_turns.specs.Forms.{Form, grouped_form, compressed_form, form_type}
use Rattle.vx_machine_turns.specs.Locals.{GroupedNode, CompressedNode, compressed_local, outlet_local}
use Rattle.vx_machine_turns.specs.Acts.{births, gifts, shut}
use Rattle.vx_machine_turns.specs.Starts.{seed_of, local_of}
use Rattle.vx_machine_turns.specs.Compressed.{outlet_seed}
use Rattle.vx_machine_turns.specs.Turns.{firsts, kept}
use Rattle.vx_machine_turns.specs.Scripts.{script}
use Rattle.vx_machine_turns.specs.Fuels.{Fuel, spent, fuel, Through, Enough}
use Rattle.vx_machine_turns.specs.Plain.{task_of, script_reading}
use Rattle.vx_machine_turns.specs.Duties.{Duty, duty_of, seeds, duty_script, below, Given, grown}
use Rattle.vx_machine_turns.specs.Paths.{At}
use Rattle.vx_machine_turns.proofs.DutyLaws.{below_is}
use Rattle.vx_machine_turns.proofs.TidyLaws.{scripts_are_tidy}
use Rattle.vx_machine_turns.proofs.GroupedLaws.{blocks_stream, bytes_stream}
use Rattle.vx_machine_turns.proofs.CollectedLaws.{collect_stream}
use Rattle.vx_machine_turns.proofs.CompressedLaws.{node_facts, outlet_facts, outlet_duty}
use Rattle.vx_machine_turns.proofs.GoodLaws.{NoneStill, none_kinds, Grows, node_drives, node_kids}
use Rattle.vx_machine_turns.proofs.JoinLaws.{Bare as BareLocal, script_last, script_joins}
use Rattle.vx_machine_turns.proofs.GoodNodes.{IsGood, bare_good}

-- ---- streams whose paths go on from those of another

abbrev pub GoesOn : List (List ℕ) → List (List ℕ) → Type 0
GoesOn ps qs = (p : List ℕ) → In p ps → (q : List ℕ) × In q qs × (begins q p ≡ true)

on_later : (p : List ℕ) (qs : List (List ℕ)) (x : List ℕ) → (q : List ℕ) × In q qs × (begins q x ≡ true) → (q : List ℕ) × In q (p ∷ qs) × (begins q x ≡ true)
on_later p qs x h = (h.0, inr h.1, h.2)

places_in : (xs ys : List Item) (p : List ℕ) → In p (places (xs ++ ys)) → In p (places xs) ⊎ In p (places ys)
places_in [] ys p i = inr i
places_in (x ∷ xs) ys p (inl q) = inl (inl q)
places_in (x ∷ xs) ys p (inr i) = ⊎_elim (λ a. inl (inr a)) (λ a. inr a) (places_in xs ys p i)

ranked_on : (p : List ℕ) (r : ℕ) (cs : List ChunkData) (x : List ℕ) → In x (places (ranked p r cs)) → begins p x ≡ true
ranked_on p r [] x i = absurd i
ranked_on p r (c ∷ cs) x (inl q) = subst (λ z. begins p z ≡ true) (sym q) (begins-under p r)
ranked_on p r (c ∷ cs) x (inr i) = ranked_on p (suc r) cs x i

regrouped_on : {S : Type 0} (r : Rule S) (s : S) (items : List Item) (ended : Bool) → GoesOn (places (regrouped r s items ended)) (places items)
regrouped_on r s [] ended p i = absurd i
regrouped_on r s (c ∷ []) true p i = (c.0, inl refl, ranked_on c.0 0 (r.rest s c.1) p i)
regrouped_on r s (c ∷ []) false p i = absurd i
regrouped_on r s (c ∷ d ∷ cs) ended p i =
    ⊎_elim (λ a. (c.0, inl refl, ranked_on c.0 0 (r.leaves s c.1) p a)) (λ a. on_later c.0 (places (d ∷ cs)) p (regrouped_on r (r.holds s c.1) (d ∷ cs) ended p a))
    (places_in (ranked c.0 0 (r.leaves s c.1)) (regrouped r (r.holds s c.1) (d ∷ cs) ended) p i)

last_in : (p : List ℕ) (cs : List Item) → In (last_path p cs) (p ∷ places cs)
last_in p [] = inl refl
last_in p (c ∷ cs) = inr (last_in c.0 cs)

collected_on : (t : Ty) (items : List Item) (ended : Bool) → GoesOn (places (collected t items ended)) (places items)
collected_on t [] ended p i = absurd i
collected_on t (c ∷ cs) false p i = absurd i
collected_on t (c ∷ cs) true p (inl q) = (last_path c.0 cs, last_in c.0 cs, subst (λ z. begins (last_path c.0 cs) z ≡ true) (sym q) (begins-refl (last_path c.0 cs)))
collected_on t (c ∷ cs) true p (inr i) = absurd i

images_are : (s : Setting) (which : ℕ) (items : List Item) → places (images s which items) ≡ places items
images_are s which [] = refl
images_are s which (i ∷ is) = ap (λ z. i.0 ∷ z) (images_are s which is)

-- a node's own eof path, handed on
same_region : (ps : List (List ℕ)) (e : Eof) (i : ℕ) → Region ps e (raised e i)
same_region ps e i = inr (i, begins-refl (raised e i))

-- ---- one child, with the node's own eof path

pub only_good : (s : Setting) (f k : Form) (m : Bool) (name : List ℕ) (items stream : List Item) (ended : Bool) (e : Eof) (g : Ty → Fuel) → At e (local_of f m name e) → BareLocal (local_of f m name e)
    → ((x : List ℕ) → In x (kept (local_of f m name e)) → Region (places items) e x)
    → firsts (seed_of f m name e) ++ births (script s (local_of f m name e) items ended) ≡ seed_of k m (under name 0) e ∷ [] → gifts 0 (script s (local_of f m name e) items ended) ≡ stream → shut 0 (script s (local_of f m name e) items ended) ≡ ended
    → IsGood s k → Enough (g (form_type k)) k → GoesOn (places stream) (places items) → Before (places items) e
    → Good name (places items) ended e (task_of (seed_of f m name e) (script s (local_of f m name e) items ended)) (below s script_reading (fuel g) (duty_of s f m name items ended e))
only_good s f k m name items stream ended e g at bare held seeds given closes h enough on b =
    bare_good s f m name items ended e g (duty_of s k m (under name 0) stream ended e ∷ []) at bare held
    (record { seeds_are = seeds; given_are = (given, closes, tt); ends = ((λ z. z), tt); placed = (refl, same_region (places items) e, tt) })
    (h m (under name 0) stream ended e (g (form_type k)) enough (before_from (places stream) (places items) e on b), tt)

pub blocks_good : (s : Setting) (o : BlockOptions) (t : Ty) (k : Form) → IsGood s k → IsGood s (grouped_form (by_blocks o) t k)
blocks_good s o t k h m name items ended e spent enough b = absurd enough
blocks_good s o t k h m name items ended e (fuel g) enough b =
    let n : GroupedNode = record { name = name; mark = m; type = t; child = k; eof = e } in
    let q = blocks_stream s o n items ended in
    only_good s (grouped_form (by_blocks o) t k) k m name items (regrouped (blocks o t) [] items ended) ended e g tt tt (λ x i. absurd i) (ap (λ z. seed_of k m (under name 0) e ∷ z) q.0) q.1 q.2 h enough (regrouped_on (blocks o t) [] items ended) b

pub bytes_good : (s : Setting) (size : ℕ) (t : Ty) (k : Form) → IsGood s k → IsGood s (grouped_form (by_bytes size) t k)
bytes_good s size t k h m name items ended e spent enough b = absurd enough
bytes_good s size t k h m name items ended e (fuel g) enough b =
    let n : GroupedNode = record { name = name; mark = m; type = t; child = k; eof = e } in
    let q = bytes_stream s size n items ended in
    only_good s (grouped_form (by_bytes size) t k) k m name items (regrouped (flushes size) [] items ended) ended e g tt tt (λ x i. absurd i) (ap (λ z. seed_of k m (under name 0) e ∷ z) q.0) q.1 q.2 h enough (regrouped_on (flushes size) [] items ended) b

pub collect_good : (s : Setting) (t : Ty) (k : Form) → IsGood s k → IsGood s (grouped_form into_one t k)
collect_good s t k h m name items ended e spent enough b = absurd enough
collect_good s t k h m name items ended e (fuel g) enough b =
    let n : GroupedNode = record { name = name; mark = m; type = t; child = k; eof = e } in
    let q = collect_stream s n items ended in
    only_good s (grouped_form into_one t k) k m name items (collected t items ended) ended e g tt tt (λ x i. absurd i) (ap (λ z. seed_of k m (under name 0) e ∷ z) q.0) q.1 q.2 h enough (collected_on t items ended) b

-- ---- compressing: the outlet's child is named beside it

node_still : (s : Setting) (n : CompressedNode) (items : List Item) (ended : Bool) → NoneStill (script s (compressed_local n) items ended)
node_still s n [] true = (refl, (refl, tt))
node_still s n [] false = tt
node_still s n (i ∷ is) ended = (refl, (refl, (refl, node_still s n is ended)))

outlet_still : (s : Setting) (n : CompressedNode) (items : List Item) (ended : Bool) → NoneStill (script s (outlet_local n) items ended)
outlet_still s n [] true = (refl, (refl, tt))
outlet_still s n [] false = tt
outlet_still s n (i ∷ is) ended = (refl, (refl, outlet_still s n is ended))

outlet_good : (s : Setting) (n : CompressedNode) (items : List Item) (ended : Bool) (d : Fuel) → IsGood s n.child → Through (λ d. Enough d n.child) (form_type n.child) d → Before (places items) n.eof
    → Good n.name (places items) ended n.eof (task_of (outlet_seed n) (script s (outlet_local n) items ended)) (below s script_reading d (outlet_duty s n items ended))
outlet_good s n items ended spent h enough b = absurd enough
outlet_good s n items ended (fuel g) h enough b =
    let a = outlet_facts s n items ended in
    let c : Duty = duty_of s n.child n.mark (under n.name 1) items ended n.eof in
    let seeds_are : firsts (outlet_seed n) ++ births (script s (outlet_local n) items ended) ≡ seeds (c ∷ []) = ap (λ z. c.seed ∷ z) a.born in
    let given_are : Given (script s (outlet_local n) items ended) 0 (c ∷ []) = (a.given, a.closes, tt) in
    let kids : Forest = grown s script_reading g (c ∷ []) in
    let grows : Grows s (outlet_seed n) (c ∷ []) items ended n.eof kids = record {
      eof_is = refl;
      at = tt;
      tidy = scripts_are_tidy s (outlet_local n) items ended;
      seeds_are = seeds_are;
      given_are = given_are;
      last = script_last n.eof s items (outlet_local n) ended 1 tt tt;
      ends = ((λ z. z), tt);
      held = λ x i. absurd i;
      placed = (refl, same_region (places items) n.eof, tt);
      joins = script_joins n.eof s kids items (outlet_local n) ended 1 (0 ∷ []) tt tt;
    } in
    subst (λ z. Good n.name (places items) ended n.eof (task_of (outlet_seed n) (script s (outlet_local n) items ended)) z) (sym (below_is s script_reading g (outlet_duty s n items ended) (c ∷ []) seeds_are given_are))
    (passing_good n.name (places items) ended n.eof (task_of (outlet_seed n) (script s (outlet_local n) items ended)) (under n.name 1) (places items) ended n.eof (task_of c.seed (duty_script s c)) (below s script_reading (g (form_type n.child)) c)
    (node_drives s (outlet_seed n) (c ∷ []) items ended n.eof kids grows) (none_kinds 1 (script s (outlet_local n) items ended) (outlet_still s n items ended)) (node_kids s (outlet_seed n) (c ∷ []) items ended n.eof kids grows).0
    (begins-under n.name 0) (begins-under n.name 1) (under_lt n.name 0 1 (omega arith)) (h n.mark (under n.name 1) items ended n.eof (g (form_type n.child)) enough b))

pub compressed_good : (s : Setting) (which room : ℕ) (t : Ty) (k : Form) → IsGood s k → IsGood s (compressed_form which room t k)
compressed_good s which room t k h m name items ended e spent enough b = absurd enough
compressed_good s which room t k h m name items ended e (fuel g) enough b =
    let n : CompressedNode = record { name = name; mark = m; which = which; room = room; child = k; eof = e } in
    let f : Form = compressed_form which room t k in
    let a = node_facts s n items ended in
    let c : Duty = outlet_duty s n (images s which items) ended in
    let seeds_are : firsts (seed_of f m name e) ++ births (script s (compressed_local n) items ended) ≡ seeds (c ∷ []) = ap (λ z. c.seed ∷ z) a.born in
    let given_are : Given (script s (compressed_local n) items ended) 0 (c ∷ []) = (a.given, a.closes, tt) in
    let kids : Forest = grown s script_reading g (c ∷ []) in
    let same : places (images s which items) ≡ places items = images_are s which items in
    let grows : Grows s (seed_of f m name e) (c ∷ []) items ended e kids = record {
      eof_is = refl;
      at = tt;
      tidy = scripts_are_tidy s (compressed_local n) items ended;
      seeds_are = seeds_are;
      given_are = given_are;
      last = script_last e s items (compressed_local n) ended 1 tt tt;
      ends = ((λ z. z), tt);
      held = λ x i. absurd i;
      placed = (refl, same_region (places items) e, tt);
      joins = script_joins e s kids items (compressed_local n) ended 1 (0 ∷ []) tt tt;
    } in
    subst (λ z. Good name (places items) ended e (task_of (seed_of f m name e) (script s (compressed_local n) items ended)) z) (sym (below_is s script_reading g (duty_of s f m name items ended e) (c ∷ []) seeds_are given_are))
    (passing_good name (places items) ended e (task_of (seed_of f m name e) (script s (compressed_local n) items ended)) name (places (images s which items)) ended e (task_of c.seed (duty_script s c)) (below s script_reading (g (form_type k)) c)
    (node_drives s (seed_of f m name e) (c ∷ []) items ended e kids grows) (none_kinds 1 (script s (compressed_local n) items ended) (node_still s n items ended)) (node_kids s (seed_of f m name e) (c ∷ []) items ended e kids grows).0
    (begins-refl name) (begins-refl name) (under_above name 0) (outlet_good s n (images s which items) ended (g (form_type k)) h enough (subst (λ z. Before z e) (sym same) b)))
