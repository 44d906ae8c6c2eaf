-- The tasks of each node are good, where its children's are: flat ones, chunked ones, columns.
use Rattle.std.proofs.Common.{◌≡◌, ℕ, suc, ◌+◌, inl, inr, ⊎_elim, Bool, true, false, List, [], ◌∷◌, ◌++◌, length, refl, sym, ap, ◌∙◌, subst}
use Rattle.vx_model.specs.Ty.{Ty, Tys}
use Rattle.vx_model.specs.ChunkData.{cells}
use Rattle.vx_layout_spec.specs.Parts.{all_elements}
use Rattle.vx_path.specs.Lists.{In}
use Rattle.vx_path.specs.Path.{begins, under, raised, Eof, inside, next, Region, Before}
use Rattle.vx_path.proofs.Path.{begins-refl, begins-under, begins-inside}
use Rattle.vx_rules.specs.Columns.{Split, column, other_columns, struct_splits, list_splits}
use Rattle.vx_tasks.specs.Nodes.{numbers}
use Rattle.vx_tasks.specs.Good.{Good}
use Rattle.vx_tasks.specs.Many.{AllGood}
use Rattle.vx_tasks.proofs.Befores.{before_from, before_part, before_next, before_inside, before_chunk}
use Rattle.vx_plan.specs.PlanData.{Setting, Item, places}
use Rattle.vx_machine_turns.specs.Forms.{Form, chunked_form, form_type, Writer}
use Rattle.vx_machine_turns.specs.Locals.{ChunkedNode}
use Rattle.vx_machine_turns.specs.Acts.{births}
use Rattle.vx_machine_turns.specs.Starts.{seed_of, local_of}
use Rattle.vx_machine_turns.specs.Turns.{firsts, kept}
use Rattle.vx_machine_turns.specs.Scripts.{script}
use Rattle.vx_machine_turns.specs.Fuels.{Fuel, spent, fuel, Enough}
use Rattle.vx_machine_turns.specs.Plain.{task_of, script_reading}
use Rattle.vx_machine_turns.specs.Duties.{Duty, duty_of, seeds, below, Given, grown}
use Rattle.vx_machine_turns.specs.Tidy.{Tidy}
use Rattle.vx_machine_turns.specs.Paths.{shifted, At}
use Rattle.vx_machine_turns.proofs.DutyLaws.{below_is}
use Rattle.vx_machine_turns.proofs.TidyLaws.{scripts_are_tidy, firsts_are_started}
use Rattle.vx_machine_turns.proofs.ChunkedLaws.{chunk_duties}
use Rattle.vx_machine_turns.proofs.ChunkedLaws as chunks
use Rattle.vx_machine_turns.proofs.ColumnLaws.{column_duties}
use Rattle.vx_machine_turns.proofs.PathLaws.{shifted_none, shifted_more, shifted_path}
use Rattle.vx_machine_turns.proofs.GoodLaws.{AllPlaced, OnceEnded, many_duties, node_good}
use Rattle.vx_machine_turns.proofs.JoinLaws.{Bare, script_last, script_joins}

-- a form's task and all below it, on a stream
abbrev pub IsGoodAt : Setting → Form → Bool → List ℕ → List Item → Bool → Eof → Fuel → Type 0
IsGoodAt s f m name items ended e d =
    Good name (places items) ended e (task_of (seed_of f m name e) (script s (local_of f m name e) items ended)) (below s script_reading d (duty_of s f m name items ended e))

-- on any one before the eof path
abbrev pub IsGood : Setting → Form → Type 0
IsGood s f = (m : Bool) (name : List ℕ) (items : List Item) (ended : Bool) (e : Eof) (d : Fuel) → Enough d f → Before (places items) e → IsGoodAt s f m name items ended e d

-- the region of a node has all that goes on from a later eof path of its own
pub eof_region : (ps : List (List ℕ)) (e q : Eof) (j i : ℕ) → q ≡ shifted e j → Region ps e (raised (inside q) i)
eof_region ps e q j i h = inr (j, subst (λ z. begins z (raised (inside q) i) ≡ true) (shifted_path e q j h) (begins-inside q i))

pub tidy_form : (s : Setting) (f : Form) (m : Bool) (name : List ℕ) (e : Eof) (items : List Item) (ended : Bool) → Tidy (length (firsts (seed_of f m name e))) (script s (local_of f m name e) items ended)
tidy_form s f m name e items ended = subst (λ k. Tidy k (script s (local_of f m name e) items ended)) (sym (firsts_are_started f m name e)) (scripts_are_tidy s (local_of f m name e) items ended)

-- what the streams of a node's children are, and where they stand
pub record Streams (s : Setting) (f : Form) (m : Bool) (name : List ℕ) (items : List Item) (ended : Bool) (e : Eof) (cs : List Duty) : Type 0 where
  pub seeds_are : firsts (seed_of f m name e) ++ births (script s (local_of f m name e) items ended) ≡ seeds cs
  pub given_are : Given (script s (local_of f m name e) items ended) 0 cs
  pub ends : OnceEnded ended cs
  pub placed : AllPlaced (places items) e cs

-- a node that isn't zoned and has several children
pub bare_good : (s : Setting) (f : Form) (m : Bool) (name : List ℕ) (items : List Item) (ended : Bool) (e : Eof) (g : Ty → Fuel) (cs : List Duty) → At e (local_of f m name e) → Bare (local_of f m name e)
    → ((x : List ℕ) → In x (kept (local_of f m name e)) → Region (places items) e x) → Streams s f m name items ended e cs → AllGood name 0 (many_duties cs) (grown s script_reading g cs)
    → Good name (places items) ended e (task_of (seed_of f m name e) (script s (local_of f m name e) items ended)) (below s script_reading (fuel g) (duty_of s f m name items ended e))
bare_good s f m name items ended e g cs at bare held h all =
    subst (λ z. Good name (places items) ended e (task_of (seed_of f m name e) (script s (local_of f m name e) items ended)) z) (sym (below_is s script_reading g (duty_of s f m name items ended e) cs h.seeds_are h.given_are))
    (node_good s (seed_of f m name e) cs items ended e (grown s script_reading g cs) (record {
      eof_is = refl;
      at = at;
      tidy = tidy_form s f m name e items ended;
      seeds_are = h.seeds_are;
      given_are = h.given_are;
      last = script_last e s items (local_of f m name e) ended (length (firsts (seed_of f m name e))) at bare;
      ends = h.ends;
      held = held;
      placed = h.placed;
      joins = script_joins e s (grown s script_reading g cs) items (local_of f m name e) ended (length (firsts (seed_of f m name e))) (numbers 0 (length (firsts (seed_of f m name e)))) at bare;
    }) all)

-- ---- chunked

module _ (s : Setting) (n : ChunkedNode) (h : IsGood s n.child) (g : Ty → Fuel) (enough : Enough (g (form_type n.child)) n.child) where
  chunks_good : (items : List Item) (j : ℕ) (e : Eof) → Before (places items) e → AllGood n.name j (many_duties (chunk_duties s n j items e)) (grown s script_reading g (chunk_duties s n j items e))
  chunks_good [] j e b = tt
  chunks_good (i ∷ is) j e b = (
    h n.mark (under n.name j) (i ∷ []) true (inside e) (g (form_type n.child)) enough (before_chunk i.0 (places is) e b),
    chunks_good is (suc j) (next e) (before_next (places is) e (before_part (places is) (i.0 ∷ places is) e (λ q m. inr m) b)),
  )

chunks_placed : (s : Setting) (n : ChunkedNode) (ps : List (List ℕ)) (e : Eof) (items : List Item) (j : ℕ) (q : Eof) → q ≡ shifted e j → AllPlaced ps e (chunk_duties s n j items q)
chunks_placed s n ps e [] j q h = tt
chunks_placed s n ps e (i ∷ is) j q h = (refl, (λ k. eof_region ps e q j k h), chunks_placed s n ps e is (suc j) (next q) (shifted_more e q j (suc j) h refl))

chunks_end : (s : Setting) (n : ChunkedNode) (ended : Bool) (items : List Item) (j : ℕ) (q : Eof) → OnceEnded ended (chunk_duties s n j items q)
chunks_end s n ended [] j q = tt
chunks_end s n ended (i ∷ is) j q = ((λ z. refl), chunks_end s n ended is (suc j) (next q))

pub chunked_good : (s : Setting) (t : Ty) (k : Form) → IsGood s k → IsGood s (chunked_form t k)
chunked_good s t k h m name items ended e spent enough b = absurd enough
chunked_good s t k h m name items ended e (fuel g) enough b =
    let n : ChunkedNode = record { name = name; mark = m; type = t; child = k } in
    bare_good s (chunked_form t k) m name items ended e g (chunk_duties s n 0 items e) (shifted_none e) tt
    (λ x i. inr (0, ⊎_elim (λ z. subst (λ y. begins (raised e 0) y ≡ true) (sym (z ∙ shifted_path e e 0 (shifted_none e))) (begins-refl (raised e 0))) (λ z. absurd z) i))
    (record {
      seeds_are = chunks.all_seeds s n 0 e 0 items ended;
      given_are = chunks.all_given s n 0 e 0 items ended;
      ends = chunks_end s n ended items 0 e;
      placed = chunks_placed s n (places items) e items 0 e (shifted_none e);
    })
    (chunks_good s n h g enough items 0 e b)

-- ---- columns

abbrev split_paths : List Split → List (List ℕ)
split_paths [] = []
split_paths (x ∷ xs) = x.0 ∷ split_paths xs

others_paths : (xs : List Split) → split_paths (other_columns xs) ≡ split_paths xs
others_paths [] = refl
others_paths (x ∷ xs) = ap (λ z. x.0 ∷ z) (others_paths xs)

column_on : (c : ℕ) (xs : List Split) (p : List ℕ) → In p (places (column c xs)) → (q : List ℕ) × In q (split_paths xs) × (begins q p ≡ true)
column_on c [] p i = absurd i
column_on c (x ∷ xs) p (inl z) = (x.0, inl refl, subst (λ y. begins x.0 y ≡ true) (sym z) (begins-under x.0 c))
column_on c (x ∷ xs) p (inr i) = let h = column_on c xs p i in (h.0, inr h.1, h.2)

abbrev pub WritersGood : Setting → (Ty → Fuel) → List Writer → Type 0
WritersGood s g [] = Unit {0}
WritersGood s g (w ∷ ws) = (IsGood s w.1 × Enough (g (form_type w.1)) w.1) × WritersGood s g ws

columns_good : (s : Setting) (g : Ty → Fuel) (ws : List Writer) (name : List ℕ) (c : ℕ) (xs : List Split) (ended : Bool) (e : Eof) → WritersGood s g ws → Before (split_paths xs) e
    → AllGood name c (many_duties (column_duties s ws name c xs ended e)) (grown s script_reading g (column_duties s ws name c xs ended e))
columns_good s g [] name c xs ended e h b = tt
columns_good s g (w ∷ ws) name c xs ended e h b = (
  h.0.0 w.0 (under name c) (column c xs) ended (inside e) (g (form_type w.1)) h.0.1 (before_from (places (column c xs)) (split_paths xs) (inside e) (λ p i. column_on c xs p i) (before_inside (split_paths xs) e b)),
  columns_good s g ws name (suc c) (other_columns xs) ended (next e) h.1 (subst (λ z. Before z (next e)) (sym (others_paths xs)) (before_next (split_paths xs) e b)),
)

columns_placed : (s : Setting) (ws : List Writer) (name : List ℕ) (ps : List (List ℕ)) (e : Eof) (c : ℕ) (xs : List Split) (ended : Bool) (q : Eof) → q ≡ shifted e c → AllPlaced ps e (column_duties s ws name c xs ended q)
columns_placed s [] name ps e c xs ended q h = tt
columns_placed s (w ∷ ws) name ps e c xs ended q h = (refl, (λ k. eof_region ps e q c k h), columns_placed s ws name ps e (suc c) (other_columns xs) ended (next q) (shifted_more e q c (suc c) h refl))

columns_end : (s : Setting) (ws : List Writer) (name : List ℕ) (c : ℕ) (xs : List Split) (ended : Bool) (q : Eof) → OnceEnded ended (column_duties s ws name c xs ended q)
columns_end s [] name c xs ended q = tt
columns_end s (w ∷ ws) name c xs ended q = ((λ z. z), columns_end s ws name (suc c) (other_columns xs) ended (next q))

pub struct_paths : (items : List Item) (fs : Tys) (n : Bool) → split_paths (struct_splits fs n items) ≡ places items
struct_paths [] fs n = refl
struct_paths (i ∷ is) fs n = ap (λ z. i.0 ∷ z) (struct_paths is fs n)

pub list_paths : (items : List Item) (t : Ty) (n first : Bool) (from : ℕ) → split_paths (list_splits t n first from items) ≡ places items
list_paths [] t n first from = refl
list_paths (i ∷ is) t n first from = ap (λ z. i.0 ∷ z) (list_paths is t n false (from + length (all_elements (cells i.1))))

-- a node with these columns, whose local keeps nothing
pub beside_good : (s : Setting) (f : Form) (m : Bool) (name : List ℕ) (items : List Item) (ended : Bool) (e : Eof) (g : Ty → Fuel) (ws : List Writer) (xs : List Split) → At e (local_of f m name e) → Bare (local_of f m name e) → kept (local_of f m name e) ≡ []
    → split_paths xs ≡ places items → firsts (seed_of f m name e) ++ births (script s (local_of f m name e) items ended) ≡ seeds (column_duties s ws name 0 xs ended e)
    → Given (script s (local_of f m name e) items ended) 0 (column_duties s ws name 0 xs ended e) → WritersGood s g ws → Before (places items) e
    → Good name (places items) ended e (task_of (seed_of f m name e) (script s (local_of f m name e) items ended)) (below s script_reading (fuel g) (duty_of s f m name items ended e))
beside_good s f m name items ended e g ws xs at bare keeps paths seeds given h b =
    bare_good s f m name items ended e g (column_duties s ws name 0 xs ended e) at bare (λ x i. absurd (subst (λ z. In x z) keeps i))
    (record { seeds_are = seeds; given_are = given; ends = columns_end s ws name 0 xs ended e; placed = columns_placed s ws name (places items) e 0 xs ended e (shifted_none e) })
    (columns_good s g ws name 0 xs ended e h (subst (λ z. Before z e) (sym paths) b))
