-- Columns that are put on the queues of children, from the last one on.
use Rattle.std.proofs.Common.{◌≡◌, ◌+◌, ℕ, zero, suc, List, [], ◌∷◌, ◌++◌, length, vec_len, Vec, Global, refl, sym, ap, ◌∙◌, arith, length-append}
use Rattle.vx_path.specs.Path.{under}
use Rattle.vx_model.specs.ChunkData.{ChunkData}
use Rattle.vx_order.specs.Ids.{children}
use Rattle.vx_machine_state.specs.State.{Next, put}
use Rattle.vx_machine_state.specs.Acts.{puts}
use Rattle.vx_machine_node.specs.declared.item.Due.{Due}
use Rattle.vx_machine_node.specs.declared.item.Due.TheVariants.{Put}
use Rattle.vx_machine_node.specs.View.{todo_of}
use Rattle.vx_machine_node.proofs.ListParts.{none_is}

-- a list with a last element, in two ways
pub same_last : {A : Type 0} (xs ys : List A) (x y : A) → xs ++ (x ∷ []) ≡ ys ++ (y ∷ []) → (xs ≡ ys) × (x ≡ y)
same_last [] [] x y e = (refl, cc)
same_last [] (b ∷ ys) x y e = absurd (omega (arith, ap length e, length-append ys (y ∷ [])))
same_last (a ∷ xs) [] x y e = absurd (omega (arith, ap length e, length-append xs (x ∷ [])))
same_last (a ∷ xs) (b ∷ ys) x y e =
    let h : a ≡ b = cc in
    let t : xs ++ (x ∷ []) ≡ ys ++ (y ∷ []) = cc in
    let r = same_last xs ys x y t in
    ((λ j. h j ∷ r.0 j), r.1)

-- the last of the first children of a path
pub last_child : (p : List ℕ) (n m : ℕ) (rest : List (List ℕ)) (id : List ℕ) → m + 1 ≡ n → rest ++ (id ∷ []) ≡ children p n → (rest ≡ children p m) × (id ≡ under p m)
last_child p zero m rest id e h = absurd (omega (arith, e))
last_child p (suc n) m rest id e h =
    let k : n ≡ m = omega (arith, e) in
    let r = same_last rest (children p n) id (under p n) h in
    (r.0 ∙ ap (children p) k, r.1 ∙ ap (under p) k)

pub put_last : (p : List ℕ) (ids rest : Vec (List ℕ) Global) (id : List ℕ) (xs ys : List Due) (x : ChunkData) (child : ℕ) → ids.items ≡ rest.items ++ (id ∷ []) → vec_len rest + 1 ≡ vec_len ids
    → ids.items ≡ children p (vec_len ids) → ys ≡ Put child (record { id = id; chunk = x }) ∷ xs → child ≡ vec_len rest
    → (rest.items ≡ children p (vec_len rest)) × (todo_of ys ≡ put (vec_len rest) (under p (vec_len rest), x) ∷ todo_of xs)
put_last p ids rest id xs ys x child a b c d e =
    let r = last_child p (vec_len ids) (vec_len rest) rest.items id b (sym a ∙ c) in
    (r.0, ap todo_of d ∙ (λ j. put (e j) (r.1 j, x) ∷ todo_of xs))

puts_push : (k : ℕ) (p : List ℕ) (xs : List ChunkData) (x : ChunkData) (ts : List Next) (n : ℕ) → k + length xs ≡ n
    → puts k p (xs ++ (x ∷ [])) ++ ts ≡ puts k p xs ++ (put n (under p n, x) ∷ ts)
puts_push k p [] x ts n e = let h : k ≡ n = omega (arith, e) in ap (λ m. put m (under p m, x) ∷ ts) h
puts_push k p (y ∷ xs) x ts n e = ap (λ z. put k (under p k, y) ∷ z) (puts_push (suc k) p xs x ts n (omega (arith, e)))

-- one less of the columns, and its put in front of what is left to do
pub puts_less : (p : List ℕ) (all xs : List ChunkData) (x : ChunkData) (n : ℕ) (ts more whole : List Next) → all ≡ xs ++ (x ∷ []) → length xs ≡ n → more ≡ put n (under p n, x) ∷ ts
    → puts 0 p all ++ ts ≡ whole → puts 0 p xs ++ more ≡ whole
puts_less p all xs x n ts more whole a e b h =
    ap (λ z. puts 0 p xs ++ z) b ∙ sym (puts_push 0 p xs x ts n (omega (arith, e))) ∙ ap (λ z. puts 0 p z ++ ts) (sym a) ∙ h

pub puts_all : (p : List ℕ) (xs : List ChunkData) (ts whole : List Next) → length xs ≡ 0 → puts 0 p xs ++ ts ≡ whole → ts ≡ whole
puts_all p xs ts whole n h = ap (λ z. puts 0 p z ++ ts) (sym (none_is xs n)) ∙ h
