-- What a task and all below it count, and what it means that this covers the numbers of a plan.
use Rattle.std.proofs.Common.{◌≡◌, ◌≤◌, ◌∷◌, ◌++◌, ℕ, inl, inr, ⊎_elim, Bool, List, refl, sym, subst, arith, append_assoc, []}
use Rattle.vx_model.specs.Ty.{Ty}
use Rattle.vx_path.specs.Lists.{In}
use Rattle.vx_path.specs.Path.{Eof}
use Rattle.vx_path.proofs.Lists.{in_left, in_right, in_cases}
use Rattle.vx_plan.specs.PlanData.{Setting, Item, Node, Plan}
use Rattle.vx_plan.specs.ChunkedNode.{all_numbers}
use Rattle.vx_machine_turns.specs.Forms.{Form}
use Rattle.vx_machine_turns.specs.Acts.{Seed, Act, births, numbers_in, indices_in}
use Rattle.vx_machine_turns.specs.Turns.{firsts, start_indices}
use Rattle.vx_machine_turns.specs.Fuels.{Fuel, fuel, Enough}
use Rattle.vx_machine_turns.specs.Readings.{Reading}
use Rattle.vx_machine_turns.specs.Duties.{Duty, duty_of, seeds, duty_script, below, Given, grown}
use Rattle.vx_machine_turns.specs.Planned.{AtMost}
use Rattle.vx_machine_turns.proofs.DutyLaws.{below_is}

-- what a task counts: in its acts, and where it is started
abbrev pub counted_by : Seed → List Act → List ℕ
counted_by q acts = (numbers_in acts ++ indices_in acts) ++ start_indices q.local

abbrev pub count_reading : Reading (List ℕ)
count_reading = record { none = []; make = λ q acts kids rest. counted_by q acts ++ (kids ++ rest) }

-- the task of a duty and all below it
abbrev pub all_counted : Setting → Fuel → Duty → List ℕ
all_counted s d c = counted_by c.seed (duty_script s c) ++ below s count_reading d c

-- each number of a node's plan is at most one of these, or the last index of the eof path that it is given
pub record Covers (s : Setting) (k : Node) (f : Form) : Type 0 where
  pub covers : (m : Bool) (name : List ℕ) (items : List Item) (ended : Bool) (e : Eof) (d : Fuel) → Enough d f → (n : ℕ) → In n (k m items ended e).numbers
      → AtMost n (e.last ∷ all_counted s d (duty_of s f m name items ended e))

pub most_over : (n a b : ℕ) (xs ys : List ℕ) → a ≤ b → ((k : ℕ) → In k xs → In k ys) → AtMost n (a ∷ xs) → AtMost n (b ∷ ys)
most_over n a b xs ys l h (m, inl e, k) = (b, inl refl, omega (arith, l, e, k))
most_over n a b xs ys l h (m, inr i, k) = (m, inr (h m i), k)

pub most_in : (n a : ℕ) (xs : List ℕ) → In n xs → AtMost n (a ∷ xs)
most_in n a xs i = (n, inr i, omega arith)

-- ---- several duties

abbrev pub AllCovered : Setting → (Ty → Fuel) → List Duty → List Plan → Type 0
AllCovered s g [] [] = Unit {0}
AllCovered s g [] (p ∷ ps) = ⊥
AllCovered s g (c ∷ cs) [] = ⊥
AllCovered s g (c ∷ cs) (p ∷ ps) = ((n : ℕ) → In n p.numbers → AtMost n (0 ∷ all_counted s (g c.seed.type) c)) × AllCovered s g cs ps

covered_all : (s : Setting) (g : Ty → Fuel) (cs : List Duty) (ps : List Plan) → AllCovered s g cs ps → (n : ℕ) → In n (all_numbers ps) → AtMost n (0 ∷ grown s count_reading g cs)
covered_all s g [] [] h n i = absurd i
covered_all s g [] (p ∷ ps) h n i = absurd h
covered_all s g (c ∷ cs) [] h n i = absurd h
covered_all s g (c ∷ cs) (p ∷ ps) (h, hs) n i =
    let own : List ℕ = counted_by c.seed (duty_script s c) in
    let kids : List ℕ = below s count_reading (g c.seed.type) c in
    let rest : List ℕ = grown s count_reading g cs in
    ⊎_elim (λ a. most_over n 0 0 (own ++ kids) (own ++ (kids ++ rest)) (omega arith) (λ k z. subst (λ y. In k y) (append_assoc own kids rest) (in_left k (own ++ kids) rest z)) (h n a))
    (λ a. most_over n 0 0 rest (own ++ (kids ++ rest)) (omega arith) (λ k z. in_right k own (kids ++ rest) (in_right k kids rest z)) (covered_all s g cs ps hs n a))
    (in_cases n p.numbers (all_numbers ps) i)

-- a node whose plan is of its duties' plans, with its own numbers
pub parent_covers : (s : Setting) (g : Ty → Fuel) (c : Duty) (cs : List Duty) (p : Plan) (ps : List Plan) (own : List ℕ) (last : ℕ) → firsts c.seed ++ births (duty_script s c) ≡ seeds cs
    → Given (duty_script s c) 0 cs → p.numbers ≡ own ++ all_numbers ps → ((n : ℕ) → In n own → AtMost n (last ∷ counted_by c.seed (duty_script s c))) → AllCovered s g cs ps
    → (n : ℕ) → In n p.numbers → AtMost n (last ∷ all_counted s (fuel g) c)
parent_covers s g c cs p ps own last e q is h all n i =
    let mine : List ℕ = counted_by c.seed (duty_script s c) in
    let kids : List ℕ = below s count_reading (fuel g) c in
    ⊎_elim (λ a. most_over n last last mine (mine ++ kids) (omega arith) (λ k z. in_left k mine kids z) (h n a))
    (λ a. most_over n 0 last (grown s count_reading g cs) (mine ++ kids) (omega arith)
    (λ k z. in_right k mine kids (subst (λ y. In k y) (sym (below_is s count_reading g c cs e q)) z)) (covered_all s g cs ps all n a))
    (in_cases n own (all_numbers ps) (subst (λ y. In n y) is i))
