-- Where no script refuses, none is read off a state.
use Rattle.std.proofs.Common.{◌≡◌, ◌||◌, ◌∷◌, ◌++◌, ◌∙◌, ℕ, suc, false, List, refl, sym, length, []}
use Rattle.vx_tasks.specs.Rules.{NoneRefuses}
use Rattle.vx_tasks.proofs.Scripts.{or_false}
use Rattle.vx_plan.specs.PlanData.{Setting, What}
use Rattle.vx_plan.proofs.PlanLists.{nil_both}
use Rattle.vx_machine_turns.specs.Acts.{Seed, Act, gifts, shut, births, refuses, any_refuses, first_refusal}
use Rattle.vx_machine_turns.specs.Fuels.{Fuel, spent, fuel, less}
use Rattle.vx_machine_turns.specs.Turns.{firsts}
use Rattle.vx_machine_turns.specs.Scripts.{script}
use Rattle.vx_machine_turns.specs.Readings.{row_of, unread, fault_reading}
use Rattle.vx_machine_turns.specs.Plain.{script_reading}
use Rattle.vx_machine_steps.specs.Laws.{NoneRefused}
use Rattle.vx_machine_steps.specs.Tree.{Tree, Leaf, Work, ahead, read}
use Rattle.vx_machine_steps.proofs.Joins.{refuses-plain}
use Rattle.vx_machine_steps.proofs.Listed.{no_refusal}

no_first : (acts : List Act) → any_refuses acts ≡ false → first_refusal acts ≡ []
no_first [] e = refl
no_first (a ∷ acts) e =
    let p : (refuses a ≡ false) × (any_refuses acts ≡ false) = or_false (refuses a) (any_refuses acts) e in
    no_refusal a (first_refusal acts) p.0 ∙ no_first acts p.1

all_nil : (xs ys zs : List What) → xs ≡ [] → ys ≡ [] → zs ≡ [] → xs ++ (ys ++ zs) ≡ []
all_nil xs ys zs e f g = nil_both xs (ys ++ zs) e (nil_both ys zs f g)

unread_none : (s : Setting) (d : Fuel) (j : ℕ) (qs : List Seed) (acts : List Act) → NoneRefuses (unread s script_reading d j qs acts) → unread s fault_reading d j qs acts ≡ []
unread_none s spent j qs acts n = refl
unread_none s (fuel g) j qs acts n = along j qs n (λ q fs sc k. unread_none s (g q.type) 0 fs sc k)
  where
    along : (j : ℕ) (qs : List Seed) → NoneRefuses (row_of s script_reading (λ q. unread s script_reading (g q.type) 0) j qs acts)
        → ((q : Seed) (fs : List Seed) (sc : List Act) → NoneRefuses (unread s script_reading (g q.type) 0 fs sc) → unread s fault_reading (g q.type) 0 fs sc ≡ [])
        → row_of s fault_reading (λ q. unread s fault_reading (g q.type) 0) j qs acts ≡ []
    along j [] n deep = refl
    along j (q ∷ qs) (own, kids, rest) deep =
        let sc : List Act = script s q.local (gifts j acts) (shut j acts) in
        all_nil (first_refusal sc) (unread s fault_reading (g q.type) 0 (firsts q ++ births sc) sc) (row_of s fault_reading (λ q. unread s fault_reading (g q.type) 0) (suc j) qs acts)
        (no_first sc (sym (refuses-plain (length (firsts q)) sc) ∙ own)) (deep q (firsts q ++ births sc) sc kids) (along (suc j) qs rest deep)

read_none : (s : Setting) (d : Fuel) (j : ℕ) (acts : List Act) (t : Tree) → NoneRefuses (read s script_reading d j acts t) → read s fault_reading d j acts t ≡ []
read_none s d j acts Leaf n = unread_none s d j (births acts) acts n
read_none s d j acts (Work h ks r) (own, kids, rest) =
    let to_do : List Act = ahead s h (gifts j acts) (h.closed || shut j acts) in
    all_nil (first_refusal (h.past ++ to_do)) (read s fault_reading (less d h.seed.type) 0 to_do ks) (read s fault_reading d (suc j) acts r)
    (no_first (h.past ++ to_do) (sym (refuses-plain (length (firsts h.seed)) (h.past ++ to_do)) ∙ own))
    (read_none s (less d h.seed.type) 0 to_do ks kids) (read_none s d (suc j) acts r rest)

pub none_refused : NoneRefused
none_refused s d t n = read_none s d 0 [] t n
