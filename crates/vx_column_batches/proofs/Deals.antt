-- A batch's columns are put behind those of the batches before it.
use Rattle.std.proofs.Common.{◌≡◌, ℕ, zero, suc, ◌+◌, true, false, List, [], ◌∷◌, ◌++◌, map, length, take, drop, get_or, set, refl, sym, ap, ◌∙◌, arith}
use Rattle.std.proofs.lemmas.List.{map_push, map-append, take-append-drop, set-get_or, take_at}
use Rattle.std.proofs.lemmas.Bool.{true≢false}
use Rattle.std.specs.Global.{Vec}
use Rattle.vx_model.specs.Ty.{Ty, boolean, primitive, utf8, binary, list, struct, extension, is_struct}
use Rattle.vx_model.specs.ChunkData.{ChunkData, piece_type, is_sound}
use Rattle.vx_model.specs.Words.{tail}
use Rattle.vx_chunk.specs.declared.node.Chunk.{Chunk}
use Rattle.vx_rules.specs.Columns.{head_piece}
use Rattle.vx_react.proofs.Widths.{fields_count, columns_count}
use Rattle.vx_column_batches.specs.Beside.{columns_of, width_of, chunks_beside, dealt}

pub beside_push : (k : ℕ) (rows : List (List ChunkData)) (r : List ChunkData) → length r ≡ k → chunks_beside k (rows ++ (r ∷ [])) ≡ dealt (chunks_beside k rows) r
beside_push zero rows r h = refl
beside_push (suc k) rows [] h = absurd (omega (arith, h))
beside_push (suc k) rows (q ∷ qs) h =
    ap (λ c. c ∷ chunks_beside k (map tail (rows ++ ((q ∷ qs) ∷ [])))) (map_push head_piece rows (q ∷ qs))
    ∙ ap (λ zs. (map head_piece rows ++ (q ∷ [])) ∷ chunks_beside k zs) (map_push tail rows (q ∷ qs))
    ∙ ap (λ cs. (map head_piece rows ++ (q ∷ [])) ∷ cs) (beside_push k (map tail rows) qs (omega (arith, h)))

-- one empty list more
pub beside_more : (k : ℕ) → chunks_beside k [] ++ ([] ∷ []) ≡ chunks_beside (k + 1) []
beside_more zero = refl
beside_more (suc k) = let e : suc k + 1 ≡ suc (k + 1) = omega arith in rw e (ap (λ r. [] ∷ r) (beside_more k))

-- where no part is left
dealt_none : (cs : List (List ChunkData)) → dealt cs [] ≡ cs
dealt_none [] = refl
dealt_none (c ∷ cs) = refl

none_left : (cs : List (Vec Chunk)) (i : ℕ) → map (λ v. v.items) (take i cs) ++ dealt (map (λ v. v.items) (drop i cs)) [] ≡ map (λ v. v.items) cs
none_left cs i =
    ap (λ zs. map (λ v. v.items) (take i cs) ++ zs) (dealt_none (map (λ v. v.items) (drop i cs)))
    ∙ sym (map-append (λ v. v.items) (take i cs) (drop i cs)) ∙ ap (map (λ v. v.items)) (take-append-drop i cs)

pub deal_stopped : (cs before : List (Vec Chunk)) (i n : ℕ) (x : Vec Chunk) (ps : List ChunkData) (target : List (List ChunkData)) → length cs ≡ n → length ps ≡ 0
    → map (λ v. v.items) (take i cs) ++ dealt (map (λ v. v.items) (drop i cs)) ps ≡ target
    → map (λ v. v.items) (take n (set cs i (get_or cs i x) ++ drop (length (set cs i (get_or cs i x))) before)) ≡ target
deal_stopped cs before i n x [] target e z h = rw (set-get_or cs i x, take_at cs (drop (length cs) before) n e) (sym (none_left cs i) ∙ h)
deal_stopped cs before i n x (p ∷ ps) target e z h = absurd (omega (arith, z))

-- ---- as many as the type's columns

pub width_is : (t : Ty) (p : ChunkData) → is_struct t ≡ true → piece_type p ≡ t → is_sound p ≡ true → length (columns_of t p) ≡ width_of t
width_is (struct fs n) p k y h = columns_count fs n p (fields_count fs n p y h)
width_is (boolean n) p k y h = absurd (true≢false (sym k))
width_is (primitive q n) p k y h = absurd (true≢false (sym k))
width_is (utf8 n) p k y h = absurd (true≢false (sym k))
width_is (binary n) p k y h = absurd (true≢false (sym k))
width_is (list u n) p k y h = absurd (true≢false (sym k))
width_is (extension tag u) p k y h = absurd (true≢false (sym k))
