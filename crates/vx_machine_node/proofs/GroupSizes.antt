-- Sizes of what is held and of what leaves.
use Rattle.std.proofs.Common.{◌≡◌, ℕ, ◌+◌, Bool, List, [], ◌∷◌, ◌++◌, map, length, take, drop, Option, Some, None, refl, sym, ap, ◌∙◌, ⊎_elim, arith, append_assoc, append-nil, length-append}
use Rattle.std.specs.Prelude.{nat_le, if◌then◌else◌}
use Rattle.std.proofs.lemmas.Bool.{cases_Bool}
use Rattle.std.proofs.lemmas.List.{map-append, take-append-drop}
use Rattle.vx_model.specs.Words.{total_by}
use Rattle.vx_model.specs.ChunkData.{ChunkData, cells, held, pieces_of, joined_cells}
use Rattle.vx_rules.specs.Flushes.{flushed, still_held, is_full, flushes}
use Rattle.vx_regroup.specs.Rules.{row_count}
use Rattle.vx_machine_node.specs.Ledger.{some_bytes}
use Rattle.vx_machine_node.specs.Regrouped.{handed}
use Rattle.vx_machine_node.specs.Sizes.{sum_of}

-- ---- sums

pub sum_more : (xs ys : List ℕ) → sum_of (xs ++ ys) ≡ sum_of xs + sum_of ys
sum_more [] ys = omega arith
sum_more (x ∷ xs) ys = let r : sum_of (xs ++ ys) ≡ sum_of xs + sum_of ys = sum_more xs ys in omega (arith, r)

pub sum_push : (xs : List ℕ) (n : ℕ) → sum_of (xs ++ (n ∷ [])) ≡ sum_of xs + n
sum_push xs n = let r : sum_of (xs ++ (n ∷ [])) ≡ sum_of xs + (n + 0) = sum_more xs (n ∷ []) in omega (arith, r)

pub sum_is : (all xs : List ℕ) (n : ℕ) → all ≡ xs ++ (n ∷ []) → sum_of all ≡ sum_of xs + n
sum_is all xs n e = ap sum_of e ∙ sum_push xs n

-- with what is reserved now
pub sum_kept : (all xs : List ℕ) (r : Option ℕ) → all ≡ xs ++ handed r → sum_of all ≡ sum_of xs + some_bytes r
sum_kept all xs None e = ap sum_of (e ∙ append-nil xs) ∙ omega arith
sum_kept all xs (Some n) e = sum_is all xs n e

-- the first ones behind the others
pub sum_turned : (n : ℕ) (all : List ℕ) → sum_of (drop n all ++ take n all) ≡ sum_of all
sum_turned n all =
    let a : sum_of (drop n all ++ take n all) ≡ sum_of (drop n all) + sum_of (take n all) = sum_more (drop n all) (take n all) in
    let b : sum_of (take n all ++ drop n all) ≡ sum_of (take n all) + sum_of (drop n all) = sum_more (take n all) (drop n all) in
    let c : sum_of (take n all ++ drop n all) ≡ sum_of all = ap sum_of (take-append-drop n all) in
    omega (arith, a, b, c)

pub held_sum : (cs : List ChunkData) → total_by held cs ≡ sum_of (map held cs)
held_sum [] = refl
held_sum (c ∷ cs) = ap (λ n. held c + n) (held_sum cs)

pub held_push : (cs : List ChunkData) (c : ChunkData) → total_by held (cs ++ (c ∷ [])) ≡ sum_of (map held cs) + held c
held_push cs c = held_sum (cs ++ (c ∷ [])) ∙ ap sum_of (map-append held cs (c ∷ [])) ∙ sum_push (map held cs) (held c)

-- ---- what leaves and what stays

flushed_still : (size : ℕ) (ps : List ChunkData) → flushed size ps ++ still_held size ps ≡ ps
flushed_still size [] = refl
flushed_still size (p ∷ ps) = ⊎_elim
    (λ t. ap (λ (b : Bool). (if b then [] else p ∷ flushed size ps) ++ (if b then p ∷ ps else still_held size ps)) t)
    (λ f. ap (λ (b : Bool). (if b then [] else p ∷ flushed size ps) ++ (if b then p ∷ ps else still_held size ps)) f ∙ ap (λ z. p ∷ z) (flushed_still size ps))
    (cases_Bool (nat_le (total_by held (p ∷ ps)) size))

pub leaves_stays : (size : ℕ) (ps : List ChunkData) (c : ChunkData) → (flushes size).leaves ps c ++ (flushes size).holds ps c ≡ ps ++ (c ∷ [])
leaves_stays size ps c = ⊎_elim
    (λ t. ap (λ (b : Bool). (if b then flushed size (ps ++ (c ∷ [])) else []) ++ (if b then still_held size (ps ++ (c ∷ [])) else ps ++ (c ∷ []))) t ∙ flushed_still size (ps ++ (c ∷ [])))
    (λ f. ap (λ (b : Bool). (if b then flushed size (ps ++ (c ∷ [])) else []) ++ (if b then still_held size (ps ++ (c ∷ [])) else ps ++ (c ∷ []))) f)
    (cases_Bool (is_full size (ps ++ (c ∷ []))))

-- their sizes
pub sizes_apart : (size : ℕ) (ps : List ChunkData) (c : ChunkData) → map held (ps ++ (c ∷ [])) ≡ map held ((flushes size).leaves ps c) ++ map held ((flushes size).holds ps c)
sizes_apart size ps c = ap (map held) (sym (leaves_stays size ps c)) ∙ map-append held ((flushes size).leaves ps c) ((flushes size).holds ps c)

-- ---- rows

rows_joined : (ps : List ChunkData) (c : ChunkData) → joined_cells (pieces_of (ps ++ (c ∷ []))) ≡ joined_cells (pieces_of ps) ++ cells c
rows_joined [] c = append-nil (cells c)
rows_joined (p ∷ ps) c = ap (λ z. cells p ++ z) (rows_joined ps c) ∙ sym (append_assoc (cells p) (joined_cells (pieces_of ps)) (cells c))

pub rows_more : (ps : List ChunkData) (c : ChunkData) → row_count (ps ++ (c ∷ [])) ≡ row_count ps + length (cells c)
rows_more ps c = ap length (rows_joined ps c) ∙ length-append (joined_cells (pieces_of ps)) (cells c)
