-- Buffering is a regrouping that holds less than twice its size; collecting keeps the rows.
use Rattle.std.proofs.Common.{◌≡◌, ℕ, zero, suc, ◌+◌, ◌-◌, ◌*◌, ◌<◌, ◌≤◌, ◌^◌, ◌⊎◌, ◌&&◌, Bool, true, false, cond, not, List, [], ◌∷◌, ◌++◌, map, length, refl, sym, ap, ap₂, ◌∙◌, subst, inl, inr, ⊎_elim, arith, append_assoc, length-append}
use Rattle.std.specs.Prelude.{if◌then◌else◌, nat_le, nat_lt, min}
use Rattle.std.proofs.lemmas.List.{append-nil}
use Rattle.std.proofs.lemmas.Bool.{cases_Bool, true≢false, and_from, and_parts}
use Rattle.std.proofs.lemmas.Bool.Decides.{nat_tests}
use Rattle.vx_model.specs.Words.{all_by, total_by}
use Rattle.vx_model.specs.Ty.{Ty, ty_eq}
use Rattle.vx_model.specs.TyLaws.{ty_eq_decides}
use Rattle.vx_model.specs.CellData.{CellData}
use Rattle.vx_model.specs.ChunkData.{ChunkData, ChunkList, plain_piece, constant_piece, dict_piece, chunked_piece, list_piece, struct_piece, extension_piece, no_pieces, part, pieces_of, pieces_in, piece_type, cells, joined_cells, held, is_sound, are_sound, are_parts, is_chunked}
use Rattle.vx_path.specs.Lists.{In}
use Rattle.vx_path.specs.Path.{begins, Scattered}
use Rattle.vx_path.proofs.Path.{begins-refl}
use Rattle.vx_layout_spec.specs.Real.{Of, Whole, is_real, are_real}
use Rattle.vx_rules.specs.Stream.{Chunk, chunk_paths, stream_cells, piece_cells, Chunks, PiecesOf}
use Rattle.vx_rules.specs.Regroup.{Rule}
use Rattle.vx_rules.specs.Flushes.{twice, flushed, still_held, is_full, flushes, concatenated, chunk_pieces, last_path, collected}
use Rattle.vx_layout_spec.specs.Parts.{parts_of, all_parts}
use Rattle.vx_rules.proofs.CellLaws.{below_test}
use Rattle.vx_rules.proofs.RegroupLaws.{Regroups, Onto, onto_none, piece_cells-append, pieces_append}

-- ---- buffering

flush_whole : (size : ℕ) (ps : List ChunkData) → flushed size ps ++ still_held size ps ≡ ps
flush_whole size [] = refl
flush_whole size (p ∷ ps) = go (nat_le (total_by held (p ∷ ps)) size) (flush_whole size ps)
  where
    go : (b : Bool) → flushed size ps ++ still_held size ps ≡ ps → (if b then [] else p ∷ flushed size ps) ++ (if b then p ∷ ps else still_held size ps) ≡ p ∷ ps
    go true h = refl
    go false h = ap (λ r. p ∷ r) h

pieces_left : (t : Ty) (xs ys : List ChunkData) → PiecesOf t (xs ++ ys) → PiecesOf t xs
pieces_left t [] ys h = tt
pieces_left t (x ∷ xs) ys h = (h.0, pieces_left t xs ys h.1)

pieces_right : (t : Ty) (xs ys : List ChunkData) → PiecesOf t (xs ++ ys) → PiecesOf t ys
pieces_right t [] ys h = h
pieces_right t (x ∷ xs) ys h = pieces_right t xs ys h.1

choice_whole : (size : ℕ) (ps : List ChunkData) (b : Bool) → (if b then flushed size ps else []) ++ (if b then still_held size ps else ps) ≡ ps
choice_whole size ps true = flush_whole size ps
choice_whole size ps false = refl

with_cells : (ps : List ChunkData) (c : ChunkData) → piece_cells (ps ++ (c ∷ [])) ≡ piece_cells ps ++ cells c
with_cells ps c = piece_cells-append ps (c ∷ []) ∙ ap (λ z. piece_cells ps ++ z) (append-nil (cells c))

flush_pieces : (size : ℕ) (t : Ty) (ps : List ChunkData) (c : ChunkData) → PiecesOf t ps → Of t c → PiecesOf t ((flushes size).leaves ps c ++ (flushes size).holds ps c)
flush_pieces size t ps c g o = subst (PiecesOf t) (sym (choice_whole size (ps ++ (c ∷ [])) (is_full size (ps ++ (c ∷ []))))) (pieces_append t ps (c ∷ []) g (o, tt))

pub flushes_regroup : (size : ℕ) (t : Ty) → Regroups t (flushes size) piece_cells (PiecesOf t)
flushes_regroup size t = record {
  none = refl;
  begins_good = tt;
  keeps = λ ps c. sym (with_cells ps c) ∙ ap piece_cells (sym (choice_whole size (ps ++ (c ∷ [])) (is_full size (ps ++ (c ∷ [])))))
      ∙ piece_cells-append ((flushes size).leaves ps c) ((flushes size).holds ps c);
  all = λ ps c. sym (with_cells ps c);
  leave = λ ps c g o lt. pieces_left t ((flushes size).leaves ps c) ((flushes size).holds ps c) (flush_pieces size t ps c g o);
  stay = λ ps c g o. pieces_right t ((flushes size).leaves ps c) ((flushes size).holds ps c) (flush_pieces size t ps c g o);
  close = λ ps c g o lt. pieces_append t ps (c ∷ []) g (o, tt);
}

held_at_most : (size : ℕ) (ps : List ChunkData) → total_by held (still_held size ps) ≤ size
held_at_most size [] = omega arith
held_at_most size (p ∷ ps) = ⊎_elim
    (λ (t : nat_le (total_by held (p ∷ ps)) size ≡ true). ap_le (sym (ap (λ b. total_by held (if b then p ∷ ps else still_held size ps)) t)) (le_of (total_by held (p ∷ ps)) size t))
    (λ (f : nat_le (total_by held (p ∷ ps)) size ≡ false). ap_le (sym (ap (λ b. total_by held (if b then p ∷ ps else still_held size ps)) f)) (held_at_most size ps))
    (cases_Bool (nat_le (total_by held (p ∷ ps)) size))
  where
    le_of : (a b : ℕ) → nat_le a b ≡ true → a ≤ b
    le_of a b h = grind (arith, nat_tests)

    ap_le : {a b : ℕ} → a ≡ b → a ≤ size → b ≤ size
    ap_le e h = rw (← e) h

-- a buffer of a size above 0 holds less than twice the size before each chunk
pub holds_less : (size : ℕ) (ps : List ChunkData) (c : ChunkData) → 0 < size → size < 2 ^ 64 - 1 → total_by held ((flushes size).holds ps c) < twice size
holds_less size ps c pos below = ⊎_elim
    (λ (t : is_full size (ps ++ (c ∷ [])) ≡ true).
    let h : total_by held (still_held size (ps ++ (c ∷ []))) ≤ size = held_at_most size (ps ++ (c ∷ [])) in
    subst (λ b. total_by held (if b then still_held size (ps ++ (c ∷ [])) else ps ++ (c ∷ [])) < twice size) (sym t) (omega arith))
    (λ (f : is_full size (ps ++ (c ∷ [])) ≡ false).
    subst (λ b. total_by held (if b then still_held size (ps ++ (c ∷ [])) else ps ++ (c ∷ [])) < twice size) (sym f) (lt_of (twice size) (total_by held (ps ++ (c ∷ []))) f))
    (cases_Bool (is_full size (ps ++ (c ∷ []))))
  where
    lt_of : (a b : ℕ) → nat_le a b ≡ false → b < a
    lt_of a b h = grind (arith, nat_tests)

-- ---- collecting

join_parts : (ps : List ChunkData) → joined_cells (pieces_of ps) ≡ piece_cells ps
join_parts [] = refl
join_parts (p ∷ ps) = ap (λ z. cells p ++ z) (join_parts ps)

joined_parts : (ps : ChunkList) → piece_cells (pieces_in ps) ≡ joined_cells ps
joined_parts no_pieces = refl
joined_parts (part p ps) = ap (λ z. cells p ++ z) (joined_parts ps)

parts_cells : (p : ChunkData) → piece_cells (parts_of p) ≡ cells p
parts_cells (plain_piece t cs) = append-nil cs
parts_cells (constant_piece t c n) = append-nil _
parts_cells (dict_piece codes values) = append-nil _
parts_cells (chunked_piece t ps) = joined_parts ps
parts_cells (list_piece t e offsets valid) = append-nil _
parts_cells (struct_piece t ps valid n) = append-nil _
parts_cells (extension_piece t p) = append-nil _

pub concatenated_cells : (t : Ty) (ps : List ChunkData) → cells (concatenated t ps) ≡ piece_cells ps
concatenated_cells t [] = refl
concatenated_cells t (p ∷ ps) =
    join_parts (parts_of p ++ all_parts ps) ∙ piece_cells-append (parts_of p) (all_parts ps)
    ∙ ap₂ (λ x y. x ++ y) (parts_cells p) (sym (join_parts (all_parts ps)) ∙ concatenated_cells t ps)

-- whole chunks of the type that aren't chunked
record Parts (t : Ty) (ps : List ChunkData) : Type 0 where
  sound : are_sound (pieces_of ps) ≡ true
  real : are_real (pieces_of ps) ≡ true
  parts : are_parts t ps ≡ true

parts_append : (t : Ty) (ps qs : List ChunkData) → Parts t ps → Parts t qs → Parts t (ps ++ qs)
parts_append t [] qs g h = h
parts_append t (p ∷ ps) qs g h =
    let r : Parts t (ps ++ qs) = parts_append t ps qs (record {
      sound = (and_parts (is_sound p) (are_sound (pieces_of ps)) g.sound).1;
      real = (and_parts (is_real p) (are_real (pieces_of ps)) g.real).1;
      parts = (and_parts (ty_eq (piece_type p) t && not (is_chunked p)) (are_parts t ps) g.parts).1;
    }) h in
    record {
      sound = and_from (is_sound p) (are_sound (pieces_of (ps ++ qs))) (and_parts (is_sound p) (are_sound (pieces_of ps)) g.sound).0 r.sound;
      real = and_from (is_real p) (are_real (pieces_of (ps ++ qs))) (and_parts (is_real p) (are_real (pieces_of ps)) g.real).0 r.real;
      parts = and_from (ty_eq (piece_type p) t && not (is_chunked p)) (are_parts t (ps ++ qs)) (and_parts (ty_eq (piece_type p) t && not (is_chunked p)) (are_parts t ps) g.parts).0 r.parts;
    }

pieces_of_in : (ps : ChunkList) → pieces_of (pieces_in ps) ≡ ps
pieces_of_in no_pieces = refl
pieces_of_in (part p ps) = ap (part p) (pieces_of_in ps)

one_part : (t : Ty) (p : ChunkData) → Of t p → is_chunked p ≡ false → Parts t (p ∷ [])
one_part t p o n = record {
  sound = and_from (is_sound p) true o.whole.sound refl;
  real = and_from (is_real p) true o.whole.real refl;
  parts = and_from (ty_eq (piece_type p) t && not (is_chunked p)) true
      (and_from (ty_eq (piece_type p) t) (not (is_chunked p)) ((ty_eq_decides (piece_type p) t).1 o.typed) (ap not n)) refl;
}

parts_are : (t : Ty) (p : ChunkData) → Of t p → Parts t (parts_of p)
parts_are t (plain_piece u cs) o = one_part t (plain_piece u cs) o refl
parts_are t (constant_piece u c n) o = one_part t (constant_piece u c n) o refl
parts_are t (dict_piece codes values) o = one_part t (dict_piece codes values) o refl
parts_are t (chunked_piece u ps) o =
    let s : is_sound (chunked_piece u ps) ≡ true = o.whole.sound in
    record {
      sound = ap are_sound (pieces_of_in ps) ∙ (and_parts (are_sound ps) _ s).0;
      real = ap are_real (pieces_of_in ps) ∙ o.whole.real;
      parts = subst (λ v. are_parts v (pieces_in ps) ≡ true) o.typed (and_parts (are_parts u (pieces_in ps)) _ (and_parts (are_sound ps) _ s).1).0;
    }
parts_are t (list_piece u e offsets valid) o = one_part t (list_piece u e offsets valid) o refl
parts_are t (struct_piece u ps valid n) o = one_part t (struct_piece u ps valid n) o refl
parts_are t (extension_piece u p) o = one_part t (extension_piece u p) o refl

all_parts_are : (t : Ty) (ps : List ChunkData) → PiecesOf t ps → Parts t (all_parts ps)
all_parts_are t [] h = record { sound = refl; real = refl; parts = refl }
all_parts_are t (p ∷ ps) h = parts_append t (parts_of p) (all_parts ps) (parts_are t p h.0) (all_parts_are t ps h.1)

pieces_in_of : (ps : List ChunkData) → pieces_in (pieces_of ps) ≡ ps
pieces_in_of [] = refl
pieces_in_of (p ∷ ps) = ap (λ z. p ∷ z) (pieces_in_of ps)

pub concatenated_of : (t : Ty) (ps : List ChunkData) → PiecesOf t ps → length (piece_cells ps) < 2 ^ 64 → Of t (concatenated t ps)
concatenated_of t ps h lt =
    let a : Parts t (all_parts ps) = all_parts_are t ps h in
    record {
      typed = refl;
      whole = record {
        sound = and_from (are_sound (pieces_of (all_parts ps))) _ a.sound
            (and_from (are_parts t (pieces_in (pieces_of (all_parts ps)))) _ (ap (are_parts t) (pieces_in_of (all_parts ps)) ∙ a.parts)
            (ap (λ z. nat_lt (length z) (2 ^ 64)) (concatenated_cells t ps) ∙ below_test (length (piece_cells ps)) lt));
        real = a.real;
      };
    }

chunk_pieces_of : (t : Ty) (cs : List Chunk) → Chunks t cs → PiecesOf t (chunk_pieces cs)
chunk_pieces_of t [] h = tt
chunk_pieces_of t (c ∷ cs) h = (h.0, chunk_pieces_of t cs h.1)

chunk_pieces_cells : (cs : List Chunk) → piece_cells (chunk_pieces cs) ≡ stream_cells cs
chunk_pieces_cells [] = refl
chunk_pieces_cells (c ∷ cs) = ap (λ z. cells c.1 ++ z) (chunk_pieces_cells cs)

pub collected_rows : (t : Ty) (cs : List Chunk) → stream_cells (collected t cs true) ≡ stream_cells cs
collected_rows t [] = refl
collected_rows t (c ∷ cs) = append-nil _ ∙ concatenated_cells t (chunk_pieces (c ∷ cs)) ∙ chunk_pieces_cells (c ∷ cs)

pub collected_of : (t : Ty) (cs : List Chunk) → Chunks t cs → length (stream_cells cs) < 2 ^ 64 → Chunks t (collected t cs true)
collected_of t [] h lt = tt
collected_of t (c ∷ cs) h lt = (
  concatenated_of t (chunk_pieces (c ∷ cs)) (chunk_pieces_of t (c ∷ cs) h)
      (let e : length (piece_cells (chunk_pieces (c ∷ cs))) ≡ length (stream_cells (c ∷ cs)) = ap length (chunk_pieces_cells (c ∷ cs)) in omega arith),
  tt,
)

last_in : (p : List ℕ) (cs : List Chunk) → In (last_path p cs) (p ∷ chunk_paths cs)
last_in p [] = inl refl
last_in p (c ∷ cs) = inr (last_in c.0 cs)

pub collected_onto : (t : Ty) (cs : List Chunk) (ended : Bool) → Onto (chunk_paths (collected t cs ended)) (chunk_paths cs)
collected_onto t [] ended = onto_none []
collected_onto t (c ∷ cs) false = onto_none (chunk_paths (c ∷ cs))
collected_onto t (c ∷ cs) true = record {
  scattered = λ s. (λ q h. absurd h, tt);
  from = λ p h. ⊎_elim (λ e. (last_path c.0 cs, last_in c.0 cs, subst (λ z. begins (last_path c.0 cs) z ≡ true) (sym e) (begins-refl (last_path c.0 cs)))) (λ n. absurd n) h;
}

pub collected_open : (t : Ty) (cs : List Chunk) → collected t cs false ≡ []
collected_open t [] = refl
collected_open t (c ∷ cs) = refl
