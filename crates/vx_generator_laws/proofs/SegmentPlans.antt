-- Chunks that are stored one by one, held back in buffers before: nothing is refused where all encodings may be used.
use Rattle.std.proofs.Common.{◌≡◌, ℕ, ◌+◌, ◌*◌, ◌≤◌, Bool, true, false, List, [], ◌∷◌, ◌++◌, length, Option, Some, None, refl, sym, ap, ap₂, ◌∙◌, subst, arith, append_assoc}
use Rattle.std.specs.Prelude.{if◌then◌else◌, nat_le}
use Rattle.vx_model.specs.Words.{total_by}
use Rattle.vx_model.specs.Ty.{Ty}
use Rattle.vx_model.specs.ChunkData.{ChunkData, held}
use Rattle.vx_path.specs.Path.{Eof, inside, next}
use Rattle.vx_rules.specs.Regroup.{ranked, regrouped}
use Rattle.vx_rules.specs.Flushes.{flushed, still_held, is_full, flushes, chunk_pieces}
use Rattle.vx_strategy_spec.specs.StrategyData.{FlatOptions, by_bytes}
use Rattle.vx_plan.specs.PlanData.{Setting, Item, Plan, Node, row_totals}
use Rattle.vx_plan.specs.FlatNode.{flat_node, segment, pair_at, refused_at, length_of}
use Rattle.vx_plan.specs.ChunkedNode.{chunk_plans, chunked_node, chunked_numbers, all_numbers}
use Rattle.vx_plan.specs.GroupNode.{grouped_node, counted_at, left_count, rest_count, held_sizes, held_total}
use Rattle.vx_generator_laws.proofs.Sums.{total-append}
use Rattle.vx_generator_laws.proofs.RunSums.{in_all, chunk_pieces-append}
use Rattle.vx_generator_laws.proofs.BlockStreams.{ranked_pieces}
use Rattle.vx_generator_laws.proofs.Tame.{AtMost, most_append, most_up, Tame, AllTame, tame_none, tame_more, all_up, bytes_in, bulk, summed_all, pieces_few, pieces_length, some_bulk, held_bulk, rows_most}

-- ---- buffers keep the chunks, in order

flush_whole : (size : ℕ) (ps : List ChunkData) → flushed size ps ++ still_held size ps ≡ ps
flush_whole size [] = refl
flush_whole size (p ∷ ps) = go (nat_le (total_by held (p ∷ ps)) size) (flush_whole size ps)
  where
    go : (b : Bool) → flushed size ps ++ still_held size ps ≡ ps → (if b then [] else p ∷ flushed size ps) ++ (if b then p ∷ ps else still_held size ps) ≡ p ∷ ps
    go true h = refl
    go false h = ap (λ r. p ∷ r) h

leave_whole : (size : ℕ) (ps : List ChunkData) (c : ChunkData) → (flushes size).leaves ps c ++ (flushes size).holds ps c ≡ ps ++ (c ∷ [])
leave_whole size ps c = go (is_full size (ps ++ (c ∷ [])))
  where
    go : (b : Bool) → (if b then flushed size (ps ++ (c ∷ [])) else []) ++ (if b then still_held size (ps ++ (c ∷ [])) else ps ++ (c ∷ [])) ≡ ps ++ (c ∷ [])
    go true = flush_whole size (ps ++ (c ∷ []))
    go false = refl

flush_from : (size : ℕ) (ps : List ChunkData) (c : Item) (cs : List Item) → chunk_pieces (regrouped (flushes size) ps (c ∷ cs) true) ≡ ps ++ chunk_pieces (c ∷ cs)
flush_from size ps c [] = ranked_pieces c.0 0 (ps ++ (c.1 ∷ []))
flush_from size ps c (d ∷ cs) =
    let leaves : List ChunkData = (flushes size).leaves ps c.1 in
    let holds : List ChunkData = (flushes size).holds ps c.1 in
    chunk_pieces-append (ranked c.0 0 leaves) (regrouped (flushes size) holds (d ∷ cs) true)
    ∙ ap₂ (λ x y. x ++ y) (ranked_pieces c.0 0 leaves) (flush_from size holds d cs)
    ∙ sym (append_assoc leaves holds (chunk_pieces (d ∷ cs)))
    ∙ ap (λ z. z ++ chunk_pieces (d ∷ cs)) (leave_whole size ps c.1)
    ∙ append_assoc ps (c.1 ∷ []) (chunk_pieces (d ∷ cs))

flush_pieces : (size : ℕ) (items : List Item) → chunk_pieces (regrouped (flushes size) [] items true) ≡ chunk_pieces items
flush_pieces size [] = refl
flush_pieces size (c ∷ cs) = flush_from size [] c cs

leave_sums : (count : ChunkData → ℕ) (size : ℕ) (ps : List ChunkData) (c : ChunkData)
    → total_by count ((flushes size).leaves ps c) + total_by count ((flushes size).holds ps c) ≡ total_by count ps + count c
leave_sums count size ps c =
    let a : total_by count ((flushes size).leaves ps c ++ (flushes size).holds ps c) ≡ total_by count ((flushes size).leaves ps c) + total_by count ((flushes size).holds ps c) =
    total-append count ((flushes size).leaves ps c) ((flushes size).holds ps c) in
    let b : total_by count (ps ++ (c ∷ [])) ≡ total_by count ps + (count c + 0) = total-append count ps (c ∷ []) in
    let e : total_by count ((flushes size).leaves ps c ++ (flushes size).holds ps c) ≡ total_by count (ps ++ (c ∷ [])) = ap (total_by count) (leave_whole size ps c) in omega arith

module _ (s : Setting) (o : FlatOptions) (accepts : (p : ChunkData) → s.codec.refused s.encodings p ≡ None) where
  -- ---- one chunk

  pair_few : (path : List ℕ) (b : Option (List ℕ)) → length (pair_at path b) ≤ 1
  pair_few path None = omega arith
  pair_few path (Some b) = omega arith

  length_most : (n : ℕ) (b : Option (List ℕ)) → bytes_in b ≤ n → AtMost n (length_of b)
  length_most n None h = tt
  length_most n (Some b) h = (h, tt)

  pub flat_tame : (t : Ty) (m : Bool) (i : Item) (e : Eof) → Tame e.last 1 (bulk s o i.1) (flat_node s o t m (i ∷ []) true e)
  flat_tame t m i e = record {
    faultless = ap (refused_at i.0) (accepts i.1);
    pairs = pair_few i.0 (segment s o i);
    numbers = (omega arith, length_most (e.last + bulk s o i.1) (segment s o i) (let h : bytes_in (segment s o i) ≤ bulk s o i.1 = omega arith in omega arith));
    reserved = omega arith;
  }

  -- ---- chunk by chunk

  plans_tame : (t : Ty) (m : Bool) (items : List Item) (e : Eof) → AllTame (length (chunk_pieces items)) (in_all (bulk s o) items) (chunk_plans (flat_node s o t) m items e)
  plans_tame t m [] e = tame_none
  plans_tame t m (i ∷ is) e =
      all_up (1 + length (chunk_pieces is)) (bulk s o i.1 + in_all (bulk s o) is) (length (chunk_pieces (i ∷ is))) (in_all (bulk s o) (i ∷ is)) _ (omega arith) (omega arith)
      (tame_more 1 (bulk s o i.1) _ _ _ _ (flat_tame t m i (inside e)) (plans_tame t m is (next e)))

  chunked_tame : (t : Ty) (m : Bool) (items : List Item) (e : Eof)
      → Tame e.last (length (chunk_pieces items)) (in_all (bulk s o) items) (chunked_node t (flat_node s o t) m items true e)
  chunked_tame t m items e =
      let h : AllTame (length (chunk_pieces items)) (in_all (bulk s o) items) (chunk_plans (flat_node s o t) m items e) = plans_tame t m items e in
      let n : ℕ = e.last + in_all (bulk s o) items in
      let few : length (chunk_pieces items) ≤ in_all (bulk s o) items = pieces_few (bulk s o) (some_bulk s o) (chunk_pieces items) in
      let l : length (chunk_pieces items) ≡ length items = pieces_length items in
      record {
        faultless = h.faultless;
        pairs = h.pairs;
        numbers = most_append n (chunked_numbers items e) (all_numbers (chunk_plans (flat_node s o t) m items e))
            (most_append n (row_totals items) ((e.last + length items) ∷ []) (rows_most s o n items (omega arith)) (omega arith, tt))
            (most_up (in_all (bulk s o) items) n (all_numbers (chunk_plans (flat_node s o t) m items e)) (omega arith) h.numbers);
        reserved = h.reserved;
      }

  -- ---- with a buffer before

  held_most : (size n : ℕ) (ps : List ChunkData) (items : List Item) → total_by (bulk s o) ps + in_all (bulk s o) items ≤ n → AtMost n (held_sizes size ps items)
  held_most size n ps [] h = tt
  held_most size n ps (c ∷ cs) h =
      let a : total_by held (ps ++ (c.1 ∷ [])) ≤ total_by (bulk s o) (ps ++ (c.1 ∷ [])) = held_bulk s o (ps ++ (c.1 ∷ [])) in
      let b : total_by (bulk s o) (ps ++ (c.1 ∷ [])) ≡ total_by (bulk s o) ps + (bulk s o c.1 + 0) = total-append (bulk s o) ps (c.1 ∷ []) in
      let d : held c.1 ≤ bulk s o c.1 = omega arith in
      let k : total_by (bulk s o) ((flushes size).leaves ps c.1) + total_by (bulk s o) ((flushes size).holds ps c.1) ≡ total_by (bulk s o) ps + bulk s o c.1 = leave_sums (bulk s o) size ps c.1 in
      (omega arith, (omega arith, held_most size n ((flushes size).holds ps c.1) cs (omega arith)))

  counts_most : (size n : ℕ) (ps : List ChunkData) (items : List Item) → total_by (bulk s o) ps + in_all (bulk s o) items ≤ n
      → AtMost n (counted_at (left_count (flushes size)) (rest_count (flushes size)) (flushes size) ps items true)
  counts_most size n ps [] h = tt
  counts_most size n ps (c ∷ []) h =
      let a : length (ps ++ (c.1 ∷ [])) ≤ total_by (bulk s o) (ps ++ (c.1 ∷ [])) = pieces_few (bulk s o) (some_bulk s o) (ps ++ (c.1 ∷ [])) in
      let b : total_by (bulk s o) (ps ++ (c.1 ∷ [])) ≡ total_by (bulk s o) ps + (bulk s o c.1 + 0) = total-append (bulk s o) ps (c.1 ∷ []) in
      (omega arith, tt)
  counts_most size n ps (c ∷ d ∷ cs) h =
      let a : length ((flushes size).leaves ps c.1) ≤ total_by (bulk s o) ((flushes size).leaves ps c.1) = pieces_few (bulk s o) (some_bulk s o) ((flushes size).leaves ps c.1) in
      let k : total_by (bulk s o) ((flushes size).leaves ps c.1) + total_by (bulk s o) ((flushes size).holds ps c.1) ≡ total_by (bulk s o) ps + bulk s o c.1 = leave_sums (bulk s o) size ps c.1 in
      (omega arith, counts_most size n ((flushes size).holds ps c.1) (d ∷ cs) (omega arith))

  -- what is written of a stream by segments of its chunks
  abbrev pub segments_node : ℕ → Ty → Node
  segments_node size t = grouped_node (by_bytes size) t (chunked_node t (flat_node s o t))

  pub segments_tame : (size : ℕ) (t : Ty) (m : Bool) (items : List Item) (e : Eof)
      → Tame e.last (length (chunk_pieces items)) (2 * in_all (bulk s o) items) (segments_node size t m items true e)
  segments_tame size t m items e =
      let stream : List Item = regrouped (flushes size) [] items true in
      let p : Plan = chunked_node t (flat_node s o t) m stream true e in
      let h : Tame e.last (length (chunk_pieces items)) (in_all (bulk s o) items) p =
      subst (λ ps. Tame e.last (length ps) (total_by (bulk s o) ps) p) (flush_pieces size items) (chunked_tame t m stream e) in
      let n : ℕ = e.last + 2 * in_all (bulk s o) items in
      let counts : List ℕ = counted_at (left_count (flushes size)) (rest_count (flushes size)) (flushes size) [] items true in
      let r : p.reserved ≤ in_all (bulk s o) items = h.reserved in
      let g : held_total items ≡ in_all held items = summed_all held items in
      let k : in_all held items ≤ in_all (bulk s o) items = held_bulk s o (chunk_pieces items) in
      record {
        faultless = h.faultless;
        pairs = h.pairs;
        numbers = most_append n (row_totals items ++ (held_sizes size [] items ++ counts)) p.numbers
            (most_append n (row_totals items) (held_sizes size [] items ++ counts) (rows_most s o n items (omega arith))
            (most_append n (held_sizes size [] items) counts (held_most size n [] items (omega arith)) (counts_most size n [] items (omega arith))))
            (most_up (e.last + in_all (bulk s o) items) n p.numbers (omega arith) h.numbers);
        reserved = omega arith;
      }
