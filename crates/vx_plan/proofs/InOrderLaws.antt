-- Chunking over flat, in closed form.
use Rattle.std.proofs.Common.{◌≡◌, ℕ, zero, suc, ◌+◌, ◌<◌, ◌≤◌, ◌^◌, bytes_eq, Bool, true, false, List, [], ◌∷◌, ◌++◌, map, length, Option, Some, None, refl, sym, ap, ap₂, ◌∙◌, subst, inl, inr, ⊎_elim, arith}
use Rattle.std.proofs.lemmas.List.{append-nil}
use Rattle.std.proofs.lemmas.Bool.{cases_Bool}
use Rattle.std.specs.Cmp.Lexicographic.{bytes_decides}
use Rattle.std.specs.Prelude.{if◌then◌else◌}
use Rattle.vx_model.specs.declared.encoding.EncodingId.{EncodingId}
use Rattle.vx_model.specs.Ty.{Ty}
use Rattle.vx_model.specs.ChunkData.{ChunkData, cells}
use Rattle.vx_path.specs.Lists.{In}
use Rattle.vx_path.specs.Path.{Eof, inside, next, path_le, root_eof}
use Rattle.vx_path.specs.Sort.{Ascends}
use Rattle.vx_path.proofs.Path.{under_le}
use Rattle.vx_path.proofs.Sort.{sort_by-ascending}
use Rattle.vx_path.proofs.Lists.{in_left, in_cases}
use Rattle.vx_layout_spec.specs.LayoutTree.{LayoutData, layout, chunked_kind, gathered, renamed, each_renamed, lays_of, child, flat_layout}
use Rattle.vx_plan.specs.PlanData.{Setting, Item, Pair, Plan, stored, rows_in, row_total, row_totals}
use Rattle.vx_strategy_spec.specs.StrategyData.{StrategyData, FlatOptions, flat, chunked, leaf}
use Rattle.vx_plan.specs.FlatNode.{segment, pair_at, refused_at, refusals, flat_of, inlined}
use Rattle.vx_plan.specs.ChunkedNode.{chunk_plans, chunked_numbers, all_pairs, all_faults, all_numbers, all_layouts}
use Rattle.vx_plan.specs.SourcePlan.{plan, source_plan, batch_items}
use Rattle.vx_plan.specs.Number.{path_of, sorted, place_of, number_of}
use Rattle.vx_plan.specs.InOrder.{batch_pairs, batch_refusals, batch_segments, batch_flats, batch_rows, there, ChunksInOrder}
use Rattle.vx_plan.specs.Valid.{Fit, IsPast}
use Rattle.vx_plan.proofs.PlanLists.{nil_left, nil_right, fit_left, fit_total, in_totals}

-- ---- a chunk alone

pub record Alone (s : Setting) (o : FlatOptions) (t : Ty) (i : Item) (p : Plan) : Type 0 where
  pub pairs : p.pairs ≡ pair_at i.0 (segment s o i)
  pub faults : p.faults ≡ refusals s i
  pub layout : p.layout ≡ flat_of s o t i

pub alone : (s : Setting) (o : FlatOptions) (w : StrategyData) (t : Ty) (m : Bool) (i : Item) (e : Eof) → leaf w ≡ Some o → Alone s o t i (plan s w t m (i ∷ []) true e)
alone s o (flat p) t m i e h = let same : o ≡ p = cc in rw same (record { pairs = refl; faults = refl; layout = refl })
alone s o (chunked w) t m i e h =
    let a : Alone s o t i (plan s w t m (i ∷ []) true (inside e)) = alone s o w t m i (inside e) h in
    record { pairs = append-nil _ ∙ a.pairs; faults = append-nil _ ∙ a.faults; layout = a.layout }
alone s o w t m i e h = cc

-- ---- all chunks

-- a flat layout a batch, named by the paths
flats_at : Setting → FlatOptions → Ty → ℕ → List ChunkData → List (LayoutData (List ℕ))
flats_at s o t i [] = []
flats_at s o t i (b ∷ bs) = flat_of s o t (0 ∷ i ∷ [], b) ∷ flats_at s o t (suc i) bs

module _ (s : Setting) (o : FlatOptions) (w : StrategyData) (t : Ty) (m : Bool) (h : leaf w ≡ Some o) where
  pairs_are : (i : ℕ) (bs : List ChunkData) (e : Eof) → all_pairs (chunk_plans (plan s w t) m (batch_items i bs) e) ≡ batch_pairs s o i bs
  pairs_are i [] e = refl
  pairs_are i (b ∷ bs) e = ap₂ (λ x y. x ++ y) (alone s o w t m (0 ∷ i ∷ [], b) (inside e) h).pairs (pairs_are (suc i) bs (next e))

  faults_are : (i : ℕ) (bs : List ChunkData) (e : Eof) → all_faults (chunk_plans (plan s w t) m (batch_items i bs) e) ≡ batch_refusals s i bs
  faults_are i [] e = refl
  faults_are i (b ∷ bs) e = ap₂ (λ x y. x ++ y) (alone s o w t m (0 ∷ i ∷ [], b) (inside e) h).faults (faults_are (suc i) bs (next e))

  layouts_are : (i : ℕ) (bs : List ChunkData) (e : Eof) → all_layouts (chunk_plans (plan s w t) m (batch_items i bs) e) ≡ flats_at s o t i bs
  unfolding flats_at
  layouts_are i [] e = refl
  layouts_are i (b ∷ bs) e = ap₂ (λ x y. x ∷ y) (alone s o w t m (0 ∷ i ∷ [], b) (inside e) h).layout (layouts_are (suc i) bs (next e))

rows_are : (i : ℕ) (bs : List ChunkData) → row_total (batch_items i bs) ≡ batch_rows bs
rows_are i [] = refl
rows_are i (b ∷ bs) = ap (λ n. length (cells b) + n) (rows_are (suc i) bs)

-- ---- the paths ascend

pair_path : (s : Setting) (o : FlatOptions) (i : ℕ) (bs : List ChunkData) (q : Pair) → In q (batch_pairs s o i bs) → (j : ℕ) × (i ≤ j) × (q.0 ≡ 0 ∷ j ∷ [])
pair_path s o i [] q h = absurd h
pair_path s o i (b ∷ bs) q h = ⊎_elim
    (λ a. one (segment s o (0 ∷ i ∷ [], b)) a)
    (λ t. let r : (j : ℕ) × (suc i ≤ j) × (q.0 ≡ 0 ∷ j ∷ []) = pair_path s o (suc i) bs q t in (r.0, (let k : suc i ≤ r.0 = r.1 in omega arith), r.2))
    (in_cases q (pair_at (0 ∷ i ∷ []) (segment s o (0 ∷ i ∷ [], b))) (batch_pairs s o (suc i) bs) h)
  where
    one : (x : Option (List ℕ)) → In q (pair_at (0 ∷ i ∷ []) x) → (j : ℕ) × (i ≤ j) × (q.0 ≡ 0 ∷ j ∷ [])
    one None a = absurd a
    one (Some bytes) (inl e) = (i, omega arith, ap path_of e)
    one (Some bytes) (inr e) = absurd e

pairs_ascend : (s : Setting) (o : FlatOptions) (i : ℕ) (bs : List ChunkData) → Ascends path_of (batch_pairs s o i bs)
pairs_ascend s o i [] = tt
pairs_ascend s o i (b ∷ bs) = go (segment s o (0 ∷ i ∷ [], b)) (pairs_ascend s o (suc i) bs)
  where
    go : (x : Option (List ℕ)) → Ascends path_of (batch_pairs s o (suc i) bs) → Ascends path_of (pair_at (0 ∷ i ∷ []) x ++ batch_pairs s o (suc i) bs)
    go None a = a
    go (Some bytes) a = (
      λ q k. let r : (j : ℕ) × (suc i ≤ j) × (q.0 ≡ 0 ∷ j ∷ []) = pair_path s o (suc i) bs q k in
          let le : suc i ≤ r.0 = r.1 in
          subst (λ z. path_le (0 ∷ i ∷ []) z ≡ true) (sym r.2) (under_le (0 ∷ []) i r.0 (omega arith)),
      a,
    )

sorted_are : (s : Setting) (o : FlatOptions) (i : ℕ) (bs : List ChunkData) → sorted (batch_pairs s o i bs) ≡ batch_pairs s o i bs
sorted_are s o i bs = sort_by-ascending path_of (batch_pairs s o i bs) (pairs_ascend s o i bs)

stored_are : (s : Setting) (o : FlatOptions) (i : ℕ) (bs : List ChunkData) → stored (batch_pairs s o i bs) ≡ batch_segments s o bs
stored_are s o i [] = refl
stored_are s o i (b ∷ bs) = go (segment s o (0 ∷ i ∷ [], b)) (stored_are s o (suc i) bs)
  where
    go : (x : Option (List ℕ)) → stored (batch_pairs s o (suc i) bs) ≡ batch_segments s o bs
        → stored (pair_at (0 ∷ i ∷ []) x ++ batch_pairs s o (suc i) bs) ≡ there x ++ batch_segments s o bs
    go None e = e
    go (Some bytes) e = ap (λ z. bytes ∷ z) e

-- ---- the numbers

no_refusal : (path : List ℕ) (r : Option EncodingId) → refused_at path r ≡ [] → r ≡ None
no_refusal path None e = refl
no_refusal path (Some id) e = cc

same_path : (i : ℕ) → bytes_eq (0 ∷ (i + 0) ∷ []) (0 ∷ i ∷ []) ≡ true
same_path i = (bytes_decides (0 ∷ (i + 0) ∷ []) (0 ∷ i ∷ [])).1 (ap (λ k. 0 ∷ k ∷ []) (let h : i + 0 ≡ i = omega arith in h))

second : List ℕ → ℕ
second (a ∷ b ∷ c) = b
second p = 0

other_path : (i j : ℕ) → bytes_eq (0 ∷ (i + suc j) ∷ []) (0 ∷ i ∷ []) ≡ false
unfolding second
other_path i j = ⊎_elim
    (λ t. let e : i + suc j ≡ i = ap second ((bytes_decides (0 ∷ (i + suc j) ∷ []) (0 ∷ i ∷ [])).0 t) in absurd (omega arith))
    (λ f. f) (cases_Bool (bytes_eq (0 ∷ (i + suc j) ∷ []) (0 ∷ i ∷ [])))

-- the j-th of batches that are all encoded is in the j-th place
places_are : (s : Setting) (o : FlatOptions) (i : ℕ) (bs : List ChunkData) → batch_refusals s i bs ≡ []
    → ((padding : Bool) (p : ChunkData) → s.codec.refused s.encodings p ≡ None → (b : List ℕ) × (s.codec.encode s.encodings padding p ≡ Some b))
    → (j : ℕ) → j < length bs → place_of (0 ∷ (i + j) ∷ []) (batch_pairs s o i bs) ≡ j
places_are s o i [] clean enc j lt = absurd (omega arith)
places_are s o i (b ∷ bs) clean enc j lt =
    let none : s.codec.refused s.encodings b ≡ None = no_refusal (0 ∷ i ∷ []) (s.codec.refused s.encodings b) (nil_left (refusals s (0 ∷ i ∷ [], b)) (batch_refusals s (suc i) bs) clean) in
    let x : (bytes : List ℕ) × (s.codec.encode s.encodings o.padding b ≡ Some bytes) = enc o.padding b none in
    go (segment s o (0 ∷ i ∷ [], b)) x.0 x.1 j lt (places_are s o (suc i) bs (nil_right (refusals s (0 ∷ i ∷ [], b)) (batch_refusals s (suc i) bs) clean) enc)
  where
    go : (r : Option (List ℕ)) (bytes : List ℕ) → r ≡ Some bytes → (j : ℕ) → j < suc (length bs)
        → ((k : ℕ) → k < length bs → place_of (0 ∷ (suc i + k) ∷ []) (batch_pairs s o (suc i) bs) ≡ k)
        → place_of (0 ∷ (i + j) ∷ []) (pair_at (0 ∷ i ∷ []) r ++ batch_pairs s o (suc i) bs) ≡ j
    go None bytes e j lt f = cc
    go (Some c) bytes e zero lt f = ap (λ z. if z then 0 else suc (place_of (0 ∷ (i + 0) ∷ []) (batch_pairs s o (suc i) bs))) (same_path i)
    go (Some c) bytes e (suc j) lt f =
        ap (λ z. if z then 0 else suc (place_of (0 ∷ (i + suc j) ∷ []) (batch_pairs s o (suc i) bs))) (other_path i j)
        ∙ ap suc (ap (λ z. place_of (0 ∷ z ∷ []) (batch_pairs s o (suc i) bs)) (let h : i + suc j ≡ suc i + j = omega arith in h) ∙ f j (omega arith))

renamed_flats : (s : Setting) (o : FlatOptions) (t : Ty) (f : List ℕ → ℕ) (i first : ℕ) (bs : List ChunkData)
    → ((j : ℕ) → j < length bs → f (0 ∷ (i + j) ∷ []) ≡ first + j) → map (renamed f) (flats_at s o t i bs) ≡ batch_flats s o t first bs
unfolding flats_at
renamed_flats s o t f i first [] h = refl
renamed_flats s o t f i first (b ∷ bs) h =
    ap₂ (λ x y. x ∷ y)
    (ap (λ z. flat_layout t (length (cells b)) s.encodings (inlined s o ([], b)) z)
    (ap (λ z. f (0 ∷ z ∷ [])) (let e : i ≡ i + 0 = omega arith in e) ∙ h 0 (omega arith) ∙ (let e : first + 0 ≡ first = omega arith in e)))
    (renamed_flats s o t f (suc i) (suc first) bs
    (λ j lt. ap (λ z. f (0 ∷ z ∷ [])) (let e : suc i + j ≡ i + suc j = omega arith in e) ∙ h (suc j) (omega arith) ∙ (let e : first + suc j ≡ suc first + j = omega arith in e)))

each_renamed-lays_of : (f : List ℕ → ℕ) (ls : List (LayoutData (List ℕ))) → each_renamed f (lays_of ls) ≡ lays_of (map (renamed f) ls)
each_renamed-lays_of f [] = refl
each_renamed-lays_of f (l ∷ ls) = ap (child (renamed f l)) (each_renamed-lays_of f ls)

pub renamed-gathered : (f : List ℕ → ℕ) (t : Ty) (n : ℕ) (ls : List (LayoutData (List ℕ))) → renamed f (gathered t n ls) ≡ gathered t n (map (renamed f) ls)
renamed-gathered f t n [] = refl
renamed-gathered f t n (l ∷ []) = refl
renamed-gathered f t n (l ∷ k ∷ ls) = ap (λ z. layout chunked_kind t n [] z) (each_renamed-lays_of f (l ∷ k ∷ ls))

rows_fit : (s : Setting) (w : StrategyData) (t : Ty) (m : Bool) (batches : List ChunkData) (ended : Bool) → Fit (source_plan s (chunked w) t m batches ended).numbers → batch_rows batches < 2 ^ 64
rows_fit s w t m batches ended f =
    subst (λ n. n < 2 ^ 64) (rows_are 0 batches)
    (fit_total (batch_items 0 batches) ((1 + length (batch_items 0 batches)) ∷ [])
    (fit_left (chunked_numbers (batch_items 0 batches) root_eof) (all_numbers (chunk_plans (plan s w t) m (batch_items 0 batches) root_eof)) f.1)).0

rows_past : (s : Setting) (w : StrategyData) (t : Ty) (m : Bool) (batches : List ChunkData) (ended : Bool) → 2 ^ 64 ≤ batch_rows batches → IsPast (batch_rows batches) (source_plan s (chunked w) t m batches ended).numbers
rows_past s w t m [] ended h = absurd (omega arith)
rows_past s w t m (b ∷ bs) ended h =
    let e : 0 + row_total ((0 ∷ 0 ∷ [], b) ∷ batch_items 1 bs) ≡ batch_rows (b ∷ bs) =
    (let r : row_total ((0 ∷ 0 ∷ [], b) ∷ batch_items 1 bs) ≡ batch_rows (b ∷ bs) = rows_are 0 (b ∷ bs) in omega arith) in
    let i : In (batch_rows (b ∷ bs)) (row_totals (batch_items 0 (b ∷ bs))) = subst (λ k. In k (row_totals (batch_items 0 (b ∷ bs)))) e (in_totals rows_in 0 (0 ∷ 0 ∷ [], b) (batch_items 1 bs)) in (
      h,
      inl (inr (in_left (batch_rows (b ∷ bs)) (chunked_numbers (batch_items 0 (b ∷ bs)) root_eof) (all_numbers (chunk_plans (plan s w t) m (batch_items 0 (b ∷ bs)) root_eof))
          (in_left (batch_rows (b ∷ bs)) (row_totals (batch_items 0 (b ∷ bs))) ((1 + length (batch_items 0 (b ∷ bs))) ∷ []) i))),
    )

pub chunks_in_order : ChunksInOrder
chunks_in_order s o w t m batches ended h =
    let ps : (source_plan s (chunked w) t m batches ended).pairs ≡ batch_pairs s o 0 batches = pairs_are s o w t m h 0 batches root_eof in
    record {
      pairs = ps;
      segments = ap (λ z. stored (sorted z)) ps ∙ ap stored (sorted_are s o 0 batches) ∙ stored_are s o 0 batches;
      sorted = ap sorted ps ∙ sorted_are s o 0 batches;
      faults = faults_are s o w t m h 0 batches root_eof;
      layout = λ clean enc first.
          ap (λ z. renamed (number_of (source_plan s (chunked w) t m batches ended).pairs first) z)
          (ap₂ (λ n ls. gathered t n ls) (rows_are 0 batches) (layouts_are s o w t m h 0 batches root_eof))
          ∙ renamed-gathered (number_of (source_plan s (chunked w) t m batches ended).pairs first) t (batch_rows batches) (flats_at s o t 0 batches)
          ∙ ap (λ ls. gathered t (batch_rows batches) ls)
          (renamed_flats s o t (number_of (source_plan s (chunked w) t m batches ended).pairs first) 0 first batches
          (λ j lt. ap (λ z. first + place_of (0 ∷ (0 + j) ∷ []) z) (ap sorted ps ∙ sorted_are s o 0 batches)
          ∙ ap (λ z. first + z) (places_are s o 0 batches clean enc j lt)));
      rows = rows_fit s w t m batches ended;
      past = rows_past s w t m batches ended;
    }
