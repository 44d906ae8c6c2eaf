-- The laws of every regrouping.
use Rattle.std.proofs.Common.{◌≡◌, ℕ, zero, suc, ◌+◌, ◌<◌, ◌≤◌, ◌^◌, ◌⊎◌, Bool, true, false, List, [], ◌∷◌, ◌++◌, map, length, refl, sym, ap, ap₂, ◌∙◌, subst, inl, inr, ⊎_elim, arith, append_assoc, length-append}
use Rattle.std.proofs.lemmas.List.{append-nil}
use Rattle.vx_model.specs.Ty.{Ty}
use Rattle.vx_model.specs.CellData.{CellData}
use Rattle.vx_model.specs.ChunkData.{ChunkData, cells}
use Rattle.vx_path.specs.Lists.{In}
use Rattle.vx_path.specs.Path.{begins, meets, Scattered, under}
use Rattle.vx_path.proofs.Lists.{in_left, in_right, in_cases}
use Rattle.vx_path.proofs.Path.{begins-under, begins-refl, meets-sym, apart_begins, under_apart}
use Rattle.vx_layout_spec.specs.Real.{Of}
use Rattle.vx_rules.specs.Stream.{Chunk, chunk_paths, stream_cells, piece_cells, Chunks, PiecesOf}
use Rattle.vx_rules.specs.Regroup.{Rule, ranked, regrouped}

-- What makes a rule a regrouping: it loses no row and keeps their order, and makes whole chunks of whole ones.
-- `within` has the rows held, and `good` says that they are as they should be.
pub record Regroups {S : Type 0} (t : Ty) (r : Rule S) (within : S → List CellData) (good : S → Type 0) : Type 0 where
  pub none : within r.start ≡ []
  pub begins_good : good r.start
  pub keeps : (s : S) (c : ChunkData) → within s ++ cells c ≡ piece_cells (r.leaves s c) ++ within (r.holds s c)
  pub all : (s : S) (c : ChunkData) → within s ++ cells c ≡ piece_cells (r.rest s c)
  pub leave : (s : S) (c : ChunkData) → good s → Of t c → length (within s ++ cells c) < 2 ^ 64 → PiecesOf t (r.leaves s c)
  pub stay : (s : S) (c : ChunkData) → good s → Of t c → good (r.holds s c)
  pub close : (s : S) (c : ChunkData) → good s → Of t c → length (within s ++ cells c) < 2 ^ 64 → PiecesOf t (r.rest s c)

pub stream_cells-append : (xs ys : List Chunk) → stream_cells (xs ++ ys) ≡ stream_cells xs ++ stream_cells ys
stream_cells-append [] ys = refl
stream_cells-append (x ∷ xs) ys = ap (λ r. cells x.1 ++ r) (stream_cells-append xs ys) ∙ sym (append_assoc (cells x.1) (stream_cells xs) (stream_cells ys))

pub piece_cells-append : (xs ys : List ChunkData) → piece_cells (xs ++ ys) ≡ piece_cells xs ++ piece_cells ys
piece_cells-append [] ys = refl
piece_cells-append (x ∷ xs) ys = ap (λ r. cells x ++ r) (piece_cells-append xs ys) ∙ sym (append_assoc (cells x) (piece_cells xs) (piece_cells ys))

pub pieces_append : (t : Ty) (xs ys : List ChunkData) → PiecesOf t xs → PiecesOf t ys → PiecesOf t (xs ++ ys)
pieces_append t [] ys g h = h
pieces_append t (x ∷ xs) ys g h = (g.0, pieces_append t xs ys g.1 h)

pub chunks_append : (t : Ty) (xs ys : List Chunk) → Chunks t xs → Chunks t ys → Chunks t (xs ++ ys)
chunks_append t [] ys g h = h
chunks_append t (x ∷ xs) ys g h = (g.0, chunks_append t xs ys g.1 h)

pub chunk_paths-append : (xs ys : List Chunk) → chunk_paths (xs ++ ys) ≡ chunk_paths xs ++ chunk_paths ys
chunk_paths-append [] ys = refl
chunk_paths-append (x ∷ xs) ys = ap (λ r. x.0 ∷ r) (chunk_paths-append xs ys)

ranked_cells : (p : List ℕ) (r : ℕ) (cs : List ChunkData) → stream_cells (ranked p r cs) ≡ piece_cells cs
ranked_cells p r [] = refl
ranked_cells p r (c ∷ cs) = ap (λ z. cells c ++ z) (ranked_cells p (suc r) cs)

ranked_of : (t : Ty) (p : List ℕ) (r : ℕ) (cs : List ChunkData) → PiecesOf t cs → Chunks t (ranked p r cs)
ranked_of t p r [] h = tt
ranked_of t p r (c ∷ cs) h = (h.0, ranked_of t p (suc r) cs h.1)

-- ---- rows

module _ (S : Type 0) (t : Ty) (r : Rule S) (within : S → List CellData) (good : S → Type 0) (g : Regroups t r within good) where
  rows_from : (s : S) (c : Chunk) (cs : List Chunk) → stream_cells (regrouped r s (c ∷ cs) true) ≡ within s ++ stream_cells (c ∷ cs)
  rows_from s c [] = ranked_cells c.0 0 (r.rest s c.1) ∙ sym (g.all s c.1) ∙ ap (λ z. within s ++ z) (sym (append-nil (cells c.1)))
  rows_from s c (d ∷ cs) =
      stream_cells-append (ranked c.0 0 (r.leaves s c.1)) (regrouped r (r.holds s c.1) (d ∷ cs) true)
      ∙ ap₂ (λ x y. x ++ y) (ranked_cells c.0 0 (r.leaves s c.1)) (rows_from (r.holds s c.1) d cs)
      ∙ sym (append_assoc (piece_cells (r.leaves s c.1)) (within (r.holds s c.1)) (stream_cells (d ∷ cs)))
      ∙ ap (λ z. z ++ stream_cells (d ∷ cs)) (sym (g.keeps s c.1))
      ∙ append_assoc (within s) (cells c.1) (stream_cells (d ∷ cs))

  -- the rows of an ended stream are kept, in order
  pub regrouped_rows : (cs : List Chunk) → stream_cells (regrouped r r.start cs true) ≡ stream_cells cs
  regrouped_rows [] = refl
  regrouped_rows (c ∷ cs) = rows_from r.start c cs ∙ ap (λ z. z ++ stream_cells (c ∷ cs)) g.none

  of_from : (s : S) (cs : List Chunk) → good s → Chunks t cs → length (within s) + length (stream_cells cs) < 2 ^ 64 → Chunks t (regrouped r s cs true)
  of_from s [] ok of lt = tt
  of_from s (c ∷ []) ok of lt =
      let a : length (within s ++ cells c.1) ≡ length (within s) + length (cells c.1) = length-append (within s) (cells c.1) in
      let b : length (cells c.1 ++ []) ≡ length (cells c.1) = ap length (append-nil (cells c.1)) in
      ranked_of t c.0 0 (r.rest s c.1) (g.close s c.1 ok of.0 (omega arith))
  of_from s (c ∷ d ∷ cs) ok of lt =
      let a : length (within s ++ cells c.1) ≡ length (within s) + length (cells c.1) = length-append (within s) (cells c.1) in
      let b : length (cells c.1 ++ stream_cells (d ∷ cs)) ≡ length (cells c.1) + length (stream_cells (d ∷ cs)) = length-append (cells c.1) (stream_cells (d ∷ cs)) in
      let k : length (piece_cells (r.leaves s c.1) ++ within (r.holds s c.1)) ≡ length (piece_cells (r.leaves s c.1)) + length (within (r.holds s c.1)) = length-append (piece_cells (r.leaves s c.1)) (within (r.holds s c.1)) in
      let e : length (within s ++ cells c.1) ≡ length (piece_cells (r.leaves s c.1) ++ within (r.holds s c.1)) = ap length (g.keeps s c.1) in
      chunks_append t (ranked c.0 0 (r.leaves s c.1)) (regrouped r (r.holds s c.1) (d ∷ cs) true)
      (ranked_of t c.0 0 (r.leaves s c.1) (g.leave s c.1 ok of.0 (omega arith)))
      (of_from (r.holds s c.1) (d ∷ cs) (g.stay s c.1 ok of.0) of.1 (omega arith))

  -- whole chunks of the type stay so, where the rows are fewer than 2^64
  pub regrouped_of : (cs : List Chunk) → Chunks t cs → length (stream_cells cs) < 2 ^ 64 → Chunks t (regrouped r r.start cs true)
  regrouped_of cs of lt = of_from r.start cs g.begins_good of (let e : length (within r.start) ≡ 0 = ap length g.none in omega arith)

-- ---- prefixes

-- what an open stream gives is a beginning of what a longer one gives
pub regrouped_begins : {S : Type 0} (r : Rule S) (s : S) (xs ys : List Chunk) (ended : Bool)
    → (more : List Chunk) × (regrouped r s (xs ++ ys) ended ≡ regrouped r s xs false ++ more)
regrouped_begins r s [] ys ended = (regrouped r s ys ended, refl)
regrouped_begins r s (x ∷ []) ys ended = (regrouped r s (x ∷ ys) ended, refl)
regrouped_begins r s (x ∷ z ∷ xs) ys ended =
    let h : (more : List Chunk) × (regrouped r (r.holds s x.1) (z ∷ xs ++ ys) ended ≡ regrouped r (r.holds s x.1) (z ∷ xs) false ++ more) = regrouped_begins r (r.holds s x.1) (z ∷ xs) ys ended in
    (h.0, ap (λ w. ranked x.0 0 (r.leaves s x.1) ++ w) h.1 ∙ sym (append_assoc (ranked x.0 0 (r.leaves s x.1)) (regrouped r (r.holds s x.1) (z ∷ xs) false) h.0))

-- ---- paths

-- Paths that go on from those of a stream, and of which none is a prefix of another where that holds of the stream.
pub record Onto (ps qs : List (List ℕ)) : Type 0 where
  pub scattered : Scattered qs → Scattered ps
  pub from : (p : List ℕ) → In p ps → (q : List ℕ) × In q qs × (begins q p ≡ true)

ranked_path : (p : List ℕ) (r : ℕ) (cs : List ChunkData) (x : List ℕ) → In x (chunk_paths (ranked p r cs)) → (k : ℕ) × (r ≤ k) × (x ≡ under p k)
ranked_path p r [] x h = absurd h
ranked_path p r (c ∷ cs) x h = ⊎_elim (λ e. (r, omega arith, e))
    (λ i. let w : (k : ℕ) × (suc r ≤ k) × (x ≡ under p k) = ranked_path p (suc r) cs x i in (w.0, (let l : suc r ≤ w.0 = w.1 in omega arith), w.2)) h

ranked_scattered : (p : List ℕ) (r : ℕ) (cs : List ChunkData) → Scattered (chunk_paths (ranked p r cs))
ranked_scattered p r [] = tt
ranked_scattered p r (c ∷ cs) = (
  λ q h. let w : (k : ℕ) × (suc r ≤ k) × (q ≡ under p k) = ranked_path p (suc r) cs q h in
      let l : suc r ≤ w.0 = w.1 in
      subst (λ z. meets (under p r) z ≡ false) (sym w.2) (under_apart p r w.0 (omega arith)),
  ranked_scattered p (suc r) cs,
)

ranked_begins : (p : List ℕ) (r : ℕ) (cs : List ChunkData) (x : List ℕ) → In x (chunk_paths (ranked p r cs)) → begins p x ≡ true
ranked_begins p r cs x h =
    let w : (k : ℕ) × (r ≤ k) × (x ≡ under p k) = ranked_path p r cs x h in
    subst (λ z. begins p z ≡ true) (sym w.2) (begins-under p w.0)

pub scattered_both : (ps qs : List (List ℕ)) → Scattered ps → Scattered qs → ((p q : List ℕ) → In p ps → In q qs → meets p q ≡ false) → Scattered (ps ++ qs)
scattered_both [] qs f g h = g
scattered_both (p ∷ ps) qs f g h =
    (λ q i. ⊎_elim (λ l. f.0 q l) (λ r. h p q (inl refl) r) (in_cases q ps qs i), scattered_both ps qs f.1 g (λ a b i j. h a b (inr i) j))

pub apart_both : (p q x y : List ℕ) → meets p q ≡ false → begins p x ≡ true → begins q y ≡ true → meets x y ≡ false
apart_both p q x y m b c = meets-sym x y ∙ apart_begins q x y (meets-sym q x ∙ apart_begins p q x m b) c

-- paths below p, then paths onto others
onto_more : (p : List ℕ) (r : ℕ) (cs : List ChunkData) (ps qs : List (List ℕ)) → Onto ps qs → Onto (chunk_paths (ranked p r cs) ++ ps) (p ∷ qs)
onto_more p r cs ps qs o = record {
  scattered = λ s. scattered_both (chunk_paths (ranked p r cs)) ps (ranked_scattered p r cs) (o.scattered s.1)
      (λ a b i j. let w : (q : List ℕ) × In q qs × (begins q b ≡ true) = o.from b j in
      apart_both p w.0 a b (s.0 w.0 w.1) (ranked_begins p r cs a i) w.2);
  from = λ x h. ⊎_elim (λ i. (p, inl refl, ranked_begins p r cs x i))
      (λ j. let w : (q : List ℕ) × In q qs × (begins q x ≡ true) = o.from x j in (w.0, inr w.1, w.2)) (in_cases x (chunk_paths (ranked p r cs)) ps h);
}

pub onto_none : (qs : List (List ℕ)) → Onto [] qs
onto_none qs = record { scattered = λ s. tt; from = λ p h. absurd h }

pub regrouped_onto : {S : Type 0} (r : Rule S) (s : S) (cs : List Chunk) (ended : Bool) → Onto (chunk_paths (regrouped r s cs ended)) (chunk_paths cs)
regrouped_onto r s [] ended = onto_none []
regrouped_onto r s (c ∷ []) true =
    subst (λ z. Onto z (c.0 ∷ [])) (append-nil (chunk_paths (ranked c.0 0 (r.rest s c.1)))) (onto_more c.0 0 (r.rest s c.1) [] [] (onto_none []))
regrouped_onto r s (c ∷ []) false = onto_none (c.0 ∷ [])
regrouped_onto r s (c ∷ d ∷ cs) ended =
    subst (λ z. Onto z (chunk_paths (c ∷ d ∷ cs))) (sym (chunk_paths-append (ranked c.0 0 (r.leaves s c.1)) (regrouped r (r.holds s c.1) (d ∷ cs) ended)))
    (onto_more c.0 0 (r.leaves s c.1) (chunk_paths (regrouped r (r.holds s c.1) (d ∷ cs) ended)) (chunk_paths (d ∷ cs)) (regrouped_onto r (r.holds s c.1) (d ∷ cs) ended))
