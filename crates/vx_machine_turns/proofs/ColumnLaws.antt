-- What a struct's and a list's columns get, and what they make of it.
use Rattle.std.proofs.Common.{◌≡◌, ℕ, zero, suc, ◌+◌, ◌≤◌, ◌<◌, ◌||◌, nat_eq, Bool, true, false, List, [], ◌∷◌, ◌++◌, length, refl, sym, ap, ◌∙◌, arith, append_assoc}
use Rattle.std.proofs.lemmas.Bool.Decides.{nat_tests}
use Rattle.vx_model.specs.Ty.{Ty}
use Rattle.vx_model.specs.Words.{tail}
use Rattle.vx_model.specs.ChunkData.{ChunkData}
use Rattle.vx_path.specs.Path.{Eof, under, inside, next}
use Rattle.vx_rules.specs.Columns.{Split, column, other_columns, head_piece}
use Rattle.vx_tasks.specs.Task.{has}
use Rattle.vx_tasks.specs.Nodes.{numbers}
use Rattle.vx_plan.specs.PlanData.{Setting, Item, Node}
use Rattle.vx_plan.specs.ColumnNodes.{Column, column_plans}
use Rattle.vx_machine_turns.specs.Forms.{Form, Writer, form_type}
use Rattle.vx_machine_turns.specs.Acts.{Act, for_child, gifts, shut, births, wrote, first_refusal, shape_in, numbers_in, indices_in, raised_in, lowered_in}
use Rattle.vx_machine_turns.specs.Starts.{seed_of}
use Rattle.vx_machine_turns.specs.Columns.{column_seeds, column_puts, column_ends}
use Rattle.vx_machine_turns.specs.Scripts.{filled}
use Rattle.vx_machine_turns.specs.Fuels.{Fuel, Enough}
use Rattle.vx_machine_turns.specs.Duties.{Duty, duty_of, seeds, Given}
use Rattle.vx_machine_turns.specs.Planned.{Meets, Fair}
use Rattle.vx_machine_turns.proofs.DutyLaws.{AllMeet, AllEnded, zero_more}

-- the children from column c on, with the eof path of the first
abbrev pub column_duties : Setting → List Writer → List ℕ → ℕ → List Split → Bool → Eof → List Duty
column_duties s [] name c xs ended e = []
column_duties s (w ∷ ws) name c xs ended e = duty_of s w.1 w.0 (under name c) (column c xs) ended (inside e) ∷ column_duties s ws name (suc c) (other_columns xs) ended (next e)

-- ---- the puts of one item

-- in front of `rest`, actions that give items and do nothing else
pub record Adds (acts rest : List Act) : Type 0 where
  pub silent : wrote acts ≡ wrote rest
  pub calm : first_refusal acts ≡ first_refusal rest
  pub born : births acts ≡ births rest
  pub numbers : numbers_in acts ≡ numbers_in rest
  pub indices : indices_in acts ≡ indices_in rest
  pub shape : shape_in acts ≡ shape_in rest
  pub raises : raised_in acts ≡ raised_in rest
  pub lowers : lowered_in acts ≡ lowered_in rest
  pub closes : (k : ℕ) → shut k acts ≡ shut k rest

pub puts_add : (keep : List (List ℕ)) (c : ℕ) (p : List ℕ) (ps : List ChunkData) (ws : List Writer) (rest : List Act) → Adds (filled keep (column_puts c p ps ws) ++ rest) rest
puts_add keep c p ps [] rest = record { silent = refl; calm = refl; born = refl; numbers = refl; indices = refl; shape = refl; raises = refl; lowers = refl; closes = λ k. refl }
puts_add keep c p ps (w ∷ ws) rest =
    let h : Adds (filled keep (column_puts (suc c) p (tail ps) ws) ++ rest) rest = puts_add keep (suc c) p (tail ps) ws rest in
    record { silent = h.silent; calm = h.calm; born = h.born; numbers = h.numbers; indices = h.indices; shape = h.shape; raises = zero_more h.raises; lowers = zero_more h.lowers; closes = λ k. h.closes k }

pub gifts_filled : (keep : List (List ℕ)) (acts rest : List Act) (k : ℕ) → gifts k (filled keep acts ++ rest) ≡ gifts k acts ++ gifts k rest
gifts_filled keep [] rest k = refl
gifts_filled keep (a ∷ acts) rest k = ap (λ z. for_child k a.gives ++ z) (gifts_filled keep acts rest k) ∙ sym (append_assoc (for_child k a.gives) (gifts k acts) (gifts k rest))

pub gifts_append : (acts rest : List Act) (k : ℕ) → gifts k (acts ++ rest) ≡ gifts k acts ++ gifts k rest
gifts_append [] rest k = refl
gifts_append (a ∷ acts) rest k = ap (λ z. for_child k a.gives ++ z) (gifts_append acts rest k) ∙ sym (append_assoc (for_child k a.gives) (gifts k acts) (gifts k rest))

-- the puts of all items, from column c on
abbrev pub all_puts : List Writer → ℕ → List Split → List Act
all_puts ws c [] = []
all_puts ws c (x ∷ xs) = column_puts c x.0 x.1 ws ++ all_puts ws c xs

puts_above : (c : ℕ) (p : List ℕ) (ps : List ChunkData) (ws : List Writer) (k : ℕ) → k < c → gifts k (column_puts c p ps ws) ≡ []
puts_above c p ps [] k l = refl
puts_above c p ps (w ∷ ws) k l = let z : nat_eq c k ≡ false = grind (arith, nat_tests) in rw z (puts_above (suc c) p (tail ps) ws k (omega (arith, l)))

-- column c gets its stream
puts_first : (w : Writer) (ws : List Writer) (c : ℕ) (xs : List Split) → gifts c (all_puts (w ∷ ws) c xs) ≡ column c xs
puts_first w ws c [] = refl
puts_first w ws c (x ∷ xs) =
    let z : nat_eq c c ≡ true = grind (arith, nat_tests) in
    rw z (ap (λ y. (under x.0 c, head_piece x.1) ∷ y)
    (gifts_append (column_puts (suc c) x.0 (tail x.1) ws) (all_puts (w ∷ ws) c xs) c
    ∙ ap (λ y. y ++ gifts c (all_puts (w ∷ ws) c xs)) (puts_above (suc c) x.0 (tail x.1) ws c (omega arith)) ∙ puts_first w ws c xs))

-- and a later one what the other columns' puts give it
puts_rest : (w : Writer) (ws : List Writer) (c : ℕ) (xs : List Split) (k : ℕ) → c < k → gifts k (all_puts (w ∷ ws) c xs) ≡ gifts k (all_puts ws (suc c) (other_columns xs))
puts_rest w ws c [] k l = refl
puts_rest w ws c (x ∷ xs) k l =
    let z : nat_eq c k ≡ false = grind (arith, nat_tests) in
    rw z (gifts_append (column_puts (suc c) x.0 (tail x.1) ws) (all_puts (w ∷ ws) c xs) k
    ∙ ap (λ y. gifts k (column_puts (suc c) x.0 (tail x.1) ws) ++ y) (puts_rest w ws c xs k l)
    ∙ sym (gifts_append (column_puts (suc c) x.0 (tail x.1) ws) (all_puts ws (suc c) (other_columns xs)) k))

-- ---- the end

has_number : (k b c : ℕ) → b ≤ k → k < b + c → has k (numbers b c) ≡ true
has_number k b zero l h = absurd (omega (arith, l, h))
has_number k b (suc c) l h = go (nat_eq b k) refl (λ q. has_number k (suc b) c q (omega (arith, h)))
  where
    go : (x : Bool) → nat_eq b k ≡ x → (suc b ≤ k → has k (numbers (suc b) c) ≡ true) → (x || has k (numbers (suc b) c)) ≡ true
    go true e r = refl
    go false e r = r (grind (arith, nat_tests))

-- what comes behind the end
pub record Last (acts : List Act) (count : ℕ) : Type 0 where
  pub silent : wrote acts ≡ []
  pub calm : first_refusal acts ≡ []
  pub born : births acts ≡ []
  pub numbers : numbers_in acts ≡ []
  pub indices : indices_in acts ≡ []
  pub raises : raised_in acts ≡ 0
  pub lowers : lowered_in acts ≡ 0
  pub gives : (k : ℕ) → gifts k acts ≡ []
  pub closes : (k : ℕ) → k < count → shut k acts ≡ true

pub ends_last : (ws : List Writer) → Last (filled [] (column_ends ws)) (length ws)
ends_last [] = record { silent = refl; calm = refl; born = refl; numbers = refl; indices = refl; raises = refl; lowers = refl; gives = λ k. refl; closes = λ k l. absurd (omega (arith, l)) }
ends_last (w ∷ ws) = record {
  silent = refl;
  calm = refl;
  born = refl;
  numbers = refl;
  indices = refl;
  raises = refl;
  lowers = refl;
  gives = λ k. refl;
  closes = λ k l. let h : has k (numbers 0 (length (w ∷ ws))) ≡ true = has_number k 0 (length (w ∷ ws)) (omega arith) (omega (arith, l)) in rw h refl;
}

-- ---- the duties

pub columns_given : (s : Setting) (acts : List Act) (ended : Bool) (name : List ℕ) (most : ℕ) → ((k : ℕ) → k < most → shut k acts ≡ ended) → (ws : List Writer) (c : ℕ) (xs : List Split) (e : Eof)
    → c + length ws ≡ most → ((k : ℕ) → c ≤ k → gifts k acts ≡ gifts k (all_puts ws c xs)) → Given acts c (column_duties s ws name c xs ended e)
columns_given s acts ended name most shuts [] c xs e l h = tt
columns_given s acts ended name most shuts (w ∷ ws) c xs e l h = (
  h c (omega arith) ∙ puts_first w ws c xs,
  shuts c (omega (arith, l)),
  columns_given s acts ended name most shuts ws (suc c) (other_columns xs) (next e) (omega (arith, l)) (λ k q. h k (omega (arith, q)) ∙ puts_rest w ws c xs k (omega (arith, q))),
)

pub column_seeds_are : (s : Setting) (ws : List Writer) (name : List ℕ) (c : ℕ) (xs : List Split) (ended : Bool) (e : Eof) → column_seeds name c ws e ++ [] ≡ seeds (column_duties s ws name c xs ended e)
column_seeds_are s [] name c xs ended e = refl
column_seeds_are s (w ∷ ws) name c xs ended e = ap (λ z. seed_of w.1 w.0 (under name c) (inside e) ∷ z) (column_seeds_are s ws name (suc c) (other_columns xs) ended (next e))

pub columns_ended : (s : Setting) (ws : List Writer) (name : List ℕ) (c : ℕ) (xs : List Split) (ended : Bool) (e : Eof) → ended ≡ true → AllEnded (column_duties s ws name c xs ended e)
columns_ended s [] name c xs ended e q = tt
columns_ended s (w ∷ ws) name c xs ended e q = (q, columns_ended s ws name (suc c) (other_columns xs) ended (next e) q)

-- ---- the columns' plans

abbrev pub AllFair : Setting → (Ty → Fuel) → List Column → List Writer → Type 0
AllFair s g [] [] = Unit {0}
AllFair s g [] (w ∷ ws) = ⊥
AllFair s g (k ∷ ks) [] = ⊥
AllFair s g (k ∷ ks) (w ∷ ws) =
    ((name : List ℕ) (items : List Item) (ended : Bool) (e : Eof) → Meets s (g (form_type w.1)) (duty_of s w.1 w.0 name items ended e) (k items ended e)) × AllFair s g ks ws

pub columns_meet : (s : Setting) (g : Ty → Fuel) (ks : List Column) (ws : List Writer) → AllFair s g ks ws → (name : List ℕ) (c : ℕ) (xs : List Split) (ended : Bool) (e : Eof)
    → AllMeet s g (column_duties s ws name c xs ended e) (column_plans ks c xs ended e)
columns_meet s g [] [] h name c xs ended e = tt
columns_meet s g [] (w ∷ ws) h name c xs ended e = absurd h
columns_meet s g (k ∷ ks) [] h name c xs ended e = absurd h
columns_meet s g (k ∷ ks) (w ∷ ws) (h, hs) name c xs ended e = (h (under name c) (column c xs) ended (inside e), columns_meet s g ks ws hs name (suc c) (other_columns xs) ended (next e))

pub same_length : (s : Setting) (g : Ty → Fuel) (ks : List Column) (ws : List Writer) → AllFair s g ks ws → length ws ≡ length ks
same_length s g [] [] h = refl
same_length s g [] (w ∷ ws) h = absurd h
same_length s g (k ∷ ks) [] h = absurd h
same_length s g (k ∷ ks) (w ∷ ws) (h, hs) = ap (λ z. suc z) (same_length s g ks ws hs)

pub one_fair : (s : Setting) (g : Ty → Fuel) (k : Node) (f : Form) → Fair s k f → Enough (g (form_type f)) f → (m : Bool) (ks : List Column) (ws : List Writer) → AllFair s g ks ws → AllFair s g (k m ∷ ks) ((m, f) ∷ ws)
one_fair s g k f h enough m ks ws r = ((λ name items ended e. h.fair m name items ended e (g (form_type f)) enough), r)
