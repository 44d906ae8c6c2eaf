-- A task whose script is tidy is neat.
use Rattle.std.proofs.Common.{◌≡◌, ◌+◌, ◌≤◌, ◌<◌, ◌⊎◌, ◌∷◌, ◌∙◌, ℕ, zero, suc, true, false, List, map, length, take, drop, refl, ap, inl, inr, arith, []}
use Rattle.vx_tasks.specs.Task.{has, to_child, given, starts_in, shuts_in}
use Rattle.vx_tasks.specs.Nodes.{numbers}
use Rattle.vx_tasks.proofs.Scripts.{or_parts, given_rest, no_true, or_false}
use Rattle.vx_machine_turns.specs.Acts.{Act}
use Rattle.vx_machine_turns.specs.Turns.{firsts}
use Rattle.vx_machine_turns.specs.Plain.{gift, plain}
use Rattle.vx_machine_turns.specs.Tidy.{Tidy}
use Rattle.vx_machine_steps.specs.Laws.{TidyIsNeat}
use Rattle.vx_machine_steps.proofs.Plain.{to_child-gifts, given-plain, has_number}

out_of : (j k n : ℕ) → k ≤ j → has j (numbers k n) ≡ false → k + n ≤ j
out_of j k n l h = by (cases j (k + n))
  where
    cases : (i m : ℕ) → (i < m) ⊎ (m ≤ i)
    cases i m = grind arith

    by : (j < k + n) ⊎ (k + n ≤ j) → k + n ≤ j
    by (inl u) = absurd (no_true h (has_number j k n l u))
    by (inr u) = u

late : (n k : ℕ) (acts : List Act) (j : ℕ) → Tidy k acts → k ≤ j → starts_in j (take n (plain k acts)) ≡ false
    → (given j (take n (plain k acts)) ≡ []) × (shuts_in j (take n (plain k acts)) ≡ false)
late zero k acts j t l h = (refl, refl)
late (suc n) k [] j t l h = (refl, refl)
late (suc n) k (a ∷ acts) j (sp, sh, t) l h =
    let p : (has j (numbers k (length a.starts)) ≡ false) × (starts_in j (take n (plain (length a.starts + k) acts)) ≡ false) =
    or_false (has j (numbers k (length a.starts))) (starts_in j (take n (plain (length a.starts + k) acts))) h in
    let o : k + length a.starts ≤ j = out_of j k (length a.starts) l p.0 in
    let q : (given j (take n (plain (length a.starts + k) acts)) ≡ []) × (shuts_in j (take n (plain (length a.starts + k) acts)) ≡ false) =
    late n (length a.starts + k) acts j t (omega arith) p.1 in
    let g : to_child j (map gift a.gives) ≡ [] = to_child-gifts j a.gives ∙ ap (map (λ x. x.0)) (sp j (omega arith)).0 in
    let c : has j a.shuts ≡ false = (sp j (omega arith)).1 in
    (rw (g, q.0) refl, rw (c, q.1) refl)

after_shut : (n k : ℕ) (acts : List Act) (j : ℕ) → Tidy k acts → shuts_in j (take n (plain k acts)) ≡ true → given j (drop n (plain k acts)) ≡ []
after_shut zero k acts j t h = absurd (no_true refl h)
after_shut (suc n) k [] j t h = refl
after_shut (suc n) k (a ∷ acts) j (sp, sh, t) h =
    by (or_parts (has j a.shuts) (shuts_in j (take n (plain (length a.starts + k) acts))) h) (λ q. after_shut n (length a.starts + k) acts j t q)
  where
    by : (has j a.shuts ≡ true) ⊎ (shuts_in j (take n (plain (length a.starts + k) acts)) ≡ true)
        → (shuts_in j (take n (plain (length a.starts + k) acts)) ≡ true → given j (drop n (plain (length a.starts + k) acts)) ≡ [])
        → given j (drop n (plain (length a.starts + k) acts)) ≡ []
    by (inl e) f = given_rest j (plain (length a.starts + k) acts) n (given-plain j (length a.starts + k) acts ∙ ap (map (λ x. x.0)) (sh j e))
    by (inr e) f = f e

pub tidy_is_neat : TidyIsNeat
tidy_is_neat q acts t = record {
  unborn = λ n j h.
      let p : (has j (numbers 0 (length (firsts q))) ≡ false) × (starts_in j (take n (plain (length (firsts q)) acts)) ≡ false) =
      or_false (has j (numbers 0 (length (firsts q)))) (starts_in j (take n (plain (length (firsts q)) acts))) h in
      let o : 0 + length (firsts q) ≤ j = out_of j 0 (length (firsts q)) (omega arith) p.0 in
      late n (length (firsts q)) acts j t (omega arith) p.1;
  shut_last = λ n j h. after_shut n (length (firsts q)) acts j t h;
}
