-- Chunks that are to be handed on, from the last one on.
use Rattle.std.proofs.Common.{◌≡◌, ℕ, suc, ◌+◌, List, [], ◌∷◌, ◌++◌, length, Option, Some, None, option_to_list, vec_len, Vec, Global, refl, sym, ap, ◌∙◌, arith, append-nil}
use Rattle.vx_path.specs.Path.{under}
use Rattle.vx_model.specs.ChunkData.{ChunkData}
use Rattle.vx_rules.specs.Regroup.{ranked}
use Rattle.vx_machine_state.specs.State.{Next, hand_on}
use Rattle.vx_machine_state.specs.Acts.{hand_all}
use Rattle.vx_order.specs.Ids.{children}
use Rattle.vx_machine_node.specs.declared.item.Due.{Due}
use Rattle.vx_machine_node.specs.declared.item.Due.TheVariants.{HandOn}
use Rattle.vx_machine_node.specs.declared.item.Item.{Item}
use Rattle.vx_machine_node.specs.Ledger.{some_bytes, dues_reserved}
use Rattle.vx_machine_node.specs.Sizes.{sum_of}
use Rattle.vx_machine_node.specs.View.{todo_of}
use Rattle.vx_machine_node.proofs.GroupSizes.{sum_is}
use Rattle.vx_machine_node.proofs.ListParts.{none_is}
use Rattle.vx_machine_nodes.proofs.PutSteps.{same_last, last_child}

hands_push : (w : ChunkData → ℕ) (k : ℕ) (p : List ℕ) (xs : List ChunkData) (x : ChunkData) (ts : List Next) (n : ℕ) → k + length xs ≡ n
    → hand_all w (ranked p k (xs ++ (x ∷ []))) ++ ts ≡ hand_all w (ranked p k xs) ++ (hand_on (w x) (under p n, x) ∷ ts)
hands_push w k p [] x ts n e = let h : k ≡ n = omega (arith, e) in ap (λ m. hand_on (w x) (under p m, x) ∷ ts) h
hands_push w k p (y ∷ xs) x ts n e = ap (λ z. hand_on (w y) (under p k, y) ∷ z) (hands_push w (suc k) p xs x ts n (omega (arith, e)))

-- one less of the chunks, and its hand in front of what is left to do
pub hands_less : (w : ChunkData → ℕ) (p : List ℕ) (all xs : List ChunkData) (x : ChunkData) (b n : ℕ) (ts more whole : List Next) → all ≡ xs ++ (x ∷ []) → length xs ≡ n → b ≡ w x
    → more ≡ hand_on b (under p n, x) ∷ ts → hand_all w (ranked p 0 all) ++ ts ≡ whole → hand_all w (ranked p 0 xs) ++ more ≡ whole
hands_less w p all xs x b n ts more whole a e v m h =
    ap (λ z. hand_all w (ranked p 0 xs) ++ z) (m ∙ ap (λ k. hand_on k (under p n, x) ∷ ts) v)
    ∙ sym (hands_push w 0 p xs x ts n (omega (arith, e))) ∙ ap (λ z. hand_all w (ranked p 0 z) ++ ts) (sym a) ∙ h

pub hands_all : (w : ChunkData → ℕ) (p : List ℕ) (xs : List ChunkData) (ts whole : List Next) → length xs ≡ 0 → hand_all w (ranked p 0 xs) ++ ts ≡ whole → ts ≡ whole
hands_all w p xs ts whole n h = ap (λ z. hand_all w (ranked p 0 z) ++ ts) (sym (none_is xs n)) ∙ h

-- ---- the last one, with what is reserved for it

-- what is reserved is handed over
pub hand_balance : (old new : List ℕ) (r : Option ℕ) (dues all : List Due) (i : Item) → old ≡ new ++ option_to_list r → all ≡ HandOn i r ∷ dues → dues_reserved all + sum_of new ≡ dues_reserved dues + sum_of old
hand_balance old new None dues all i a b =
    let x : sum_of old ≡ sum_of new = ap sum_of (a ∙ append-nil new) in
    let y : dues_reserved all ≡ 0 + dues_reserved dues = ap dues_reserved b in
    omega (arith, x, y)
hand_balance old new (Some n) dues all i a b =
    let x : sum_of old ≡ sum_of new + n = sum_is old new n a in
    let y : dues_reserved all ≡ n + dues_reserved dues = ap dues_reserved b in
    omega (arith, x, y)

pub last_reserved : (old new rest : List ℕ) (r : Option ℕ) (n x : ℕ) → r ≡ Some x → old ≡ new ++ option_to_list r → old ≡ rest ++ (n ∷ []) → (new ≡ rest) × (some_bytes r ≡ n)
last_reserved old new rest r n x s a b =
    let q = same_last new rest x n (sym (a ∙ ap (λ z. new ++ option_to_list z) s) ∙ b) in
    (q.0, ap some_bytes s ∙ q.1)

-- where nothing is reserved
pub none_reserved : (old new : List ℕ) (r : Option ℕ) → old ≡ new ++ option_to_list r → old ≡ [] → (new ≡ []) × (some_bytes r ≡ 0)
none_reserved old [] None a b = (refl, refl)
none_reserved old [] (Some n) a b = absurd (cc (a, b))
none_reserved old (x ∷ new) r a b = absurd (cc (a, b))

pub hand_last : (p : List ℕ) (ids rest : Vec (List ℕ) Global) (id : List ℕ) (xs ys : List Due) (x : ChunkData) (r : Option ℕ) (n : ℕ) → ids.items ≡ rest.items ++ (id ∷ []) → vec_len rest + 1 ≡ vec_len ids
    → ids.items ≡ children p (vec_len ids) → ys ≡ HandOn (record { id = id; chunk = x }) r ∷ xs → some_bytes r ≡ n → todo_of ys ≡ hand_on n (under p (vec_len rest), x) ∷ todo_of xs
hand_last p ids rest id xs ys x r n a b c d e =
    let q = last_child p (vec_len ids) (vec_len rest) rest.items id b (sym a ∙ c) in
    ap todo_of d ∙ (λ j. hand_on (e j) (q.1 j, x) ∷ todo_of xs)
