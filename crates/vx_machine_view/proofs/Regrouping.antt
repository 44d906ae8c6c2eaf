-- What a task can do that repartitions, buffers or collects.
use Rattle.std.proofs.Common.{◌≡◌, ◌+◌, ◌∷◌, ◌++◌, ◌∙◌, ℕ, suc, Bool, true, false, not, List, length, refl, sym, ap, subst, arith, get_or, append-nil, length-append, Option, Some, None, []}
use Rattle.std.specs.Prelude.{if◌then◌else◌, nat_le}
use Rattle.vx_model.specs.Words.{total_by}
use Rattle.vx_model.specs.Ty.{Ty}
use Rattle.vx_model.specs.CellData.{CellData}
use Rattle.vx_model.specs.ChunkData.{ChunkData, cells, held}
use Rattle.vx_machine_state.specs.Images.{Careful}
use Rattle.vx_rules.specs.Blocks.{BlockOptions, block_len, sizes_at, cut_off, left_over, last_block}
use Rattle.vx_rules.specs.Flushes.{flushed, still_held, is_full, flushes, concatenated}
use Rattle.vx_rules.specs.Stream.{piece_cells}
use Rattle.vx_rules.proofs.RegroupLaws.{piece_cells-append}
use Rattle.vx_rules.proofs.BlockLaws.{blocks_regroup}
use Rattle.vx_rules.proofs.FlushLaws.{flushes_regroup, concatenated_cells}
use Rattle.vx_plan.specs.PlanData.{Setting, Item, row_total, rows_in}
use Rattle.vx_machine_turns.specs.Locals.{GroupedNode, Local, blocks_local, bytes_local, collect_local}
use Rattle.vx_machine_turns.specs.Acts.{Seed, Act, passes, close_queues, shape_in}
use Rattle.vx_machine_turns.specs.Grouped.{block_grouper, byte_grouper, weighed_puts, group_kept}
use Rattle.vx_machine_turns.specs.Collected.{collected_so_far}
use Rattle.vx_machine_turns.specs.Scripts.{filled}
use Rattle.vx_machine_turns.specs.Fuels.{Fuel, less}
use Rattle.vx_machine_steps.specs.Tree.{Tree, feed}
use Rattle.vx_machine_steps.specs.Moves.{take_first, end_first, end_more}
use Rattle.vx_machine_state.specs.State.{Next, shut_kids, Mind, by_block, by_size, as_one, passing, Tasks}
use Rattle.vx_machine_state.specs.Acts.{hand_all}
use Rattle.vx_machine_state.specs.Typed.{Typed, AllTyped, ChunksTyped, NewestTyped}
use Rattle.vx_machine_view.specs.Shows.{NoneHeld, regroups_rows, regroups_chunks, collects, passes_on, Shows, rows_of, types_of, shape_rows}
use Rattle.vx_machine_view.proofs.Words.{shape_last, type_fits}
use Rattle.vx_machine_view.proofs.Feeding.{opened_none, Leaves, feed_none, feed_types}
use Rattle.vx_machine_view.proofs.Acting.{desk, head, Own, then_open, then_same, still}
use Rattle.vx_machine_view.proofs.Grouping.{put_own, take_own, end_own}

-- ---- chunks of the type

cut_typed : (t : Ty) (rows : List CellData) (ks : List ℕ) → ChunksTyped t (cut_off t rows ks)
cut_typed t rows [] = tt
cut_typed t rows (k ∷ ks) = (refl, cut_typed t _ ks)

last_typed : (t : Ty) (rows : List CellData) → ChunksTyped t (last_block t rows)
last_typed t [] = tt
last_typed t (c ∷ cs) = (refl, tt)

typed_append : (t : Ty) (ps qs : List ChunkData) → ChunksTyped t ps → ChunksTyped t qs → ChunksTyped t (ps ++ qs)
typed_append t [] qs h k = k
typed_append t (p ∷ ps) qs h k = (h.0, typed_append t ps qs h.1 k)

flush_typed : (size : ℕ) (t : Ty) (ps : List ChunkData) → ChunksTyped t ps → ChunksTyped t (flushed size ps) × ChunksTyped t (still_held size ps)
flush_typed size t [] h = (tt, tt)
flush_typed size t (p ∷ ps) h = go (nat_le (total_by held (p ∷ ps)) size) (flush_typed size t ps h.1)
  where
    go : (b : Bool) → ChunksTyped t (flushed size ps) × ChunksTyped t (still_held size ps) → ChunksTyped t (if b then [] else p ∷ flushed size ps) × ChunksTyped t (if b then p ∷ ps else still_held size ps)
    go true r = (tt, h)
    go false r = ((h.0, r.0), r.1)

buffer_typed : (size : ℕ) (t : Ty) (ps : List ChunkData) (c : ChunkData) → ChunksTyped t ps → Typed t c → ChunksTyped t ((flushes size).leaves ps c) × ChunksTyped t ((flushes size).holds ps c)
buffer_typed size t ps c h k = go (is_full size (ps ++ (c ∷ []))) (typed_append t ps (c ∷ []) h (k, tt))
  where
    go : (b : Bool) → ChunksTyped t (ps ++ (c ∷ []))
        → ChunksTyped t (if b then flushed size (ps ++ (c ∷ [])) else []) × ChunksTyped t (if b then still_held size (ps ++ (c ∷ [])) else ps ++ (c ∷ []))
    go true w = flush_typed size t (ps ++ (c ∷ [])) w
    go false w = (tt, w)

one_more : (ps : List ChunkData) (c : ChunkData) → length (piece_cells (ps ++ (c ∷ []))) ≡ length (piece_cells ps) + rows_in c
one_more ps c = ap length (piece_cells-append ps (c ∷ []) ∙ ap (λ z. piece_cells ps ++ z) (append-nil (cells c))) ∙ length-append (piece_cells ps) (cells c)

module _ (s : Setting) (number : List ℕ → ℕ) (segment_number : ℕ) (all : List (List ℕ)) (d : Fuel) (q0 : Seed) (j0 : ℕ) (q : Seed) (places : ℕ) (ks more : Tasks) (hs r : Tree) (past : List Act)
    (law : Careful s) (pl : places ≡ 1 + get_or q0.spare j0 0) (sm : Shows s number d q0 (suc j0) more r) (kids : Shows s number (less d q.type) q 0 ks hs) where
  -- ---- a repartition

  blocks_idle : (o : BlockOptions) (n : GroupedNode) (x : List CellData) (j : Option Item) (rows : ℕ) → NewestTyped n.type j → NoneHeld x j → q.type ≡ n.type → types_of hs ≡ n.type ∷ []
      → shape_in past ≡ None → (xs : List Item) (closed : Bool) → AllTyped q.type xs
      → Own s number segment_number all d q0 j0 q places ks more hs r past (by_block (block_len o n.type) o.minimum n.type x j rows) [] [] (blocks_local o n x j rows) false xs closed
  blocks_idle o n x j rows tj nh is_type one un [] false ty = tt
  blocks_idle o n x j rows tj nh is_type one un [] true ty =
      end_own s number segment_number all d q0 j0 q places ks more hs r past law pl sm kids (block_grouper o n.type) (by_block (block_len o n.type) o.minimum n.type) (blocks_local o n) n.type (λ rows. rows) (λ z. Unit {0}) NoneHeld (λ y p rows k. refl)
      (blocks_regroup o n.type).keeps (blocks_regroup o n.type).all (λ y e. e) (λ y p. tt) (λ y c w k. (cut_typed n.type (y ++ cells c) (sizes_at o n.type y c), tt))
      (λ y c w k. typed_append n.type _ _ (cut_typed n.type (y ++ cells c) (sizes_at o n.type y c)) (last_typed n.type (left_over (y ++ cells c) (sizes_at o n.type y c))))
      (λ left new done todo deep y p rows outs w tp np gr. regroups_rows o n y p rows outs tp np gr)
      x j rows tt tj nh one un
  blocks_idle o n x None rows tj nh is_type one un (i ∷ xs) closed ty =
      take_own s number segment_number all d q0 j0 q places ks more hs r past law pl sm kids (block_grouper o n.type) (by_block (block_len o n.type) o.minimum n.type) (blocks_local o n) n.type (λ rows. rows) (λ z. Unit {0}) NoneHeld (λ y p rows k. refl)
      (blocks_regroup o n.type).keeps (blocks_regroup o n.type).all (λ y e. e) (λ y p. tt) (λ y c w k. (cut_typed n.type (y ++ cells c) (sizes_at o n.type y c), tt))
      (λ y c w k. typed_append n.type _ _ (cut_typed n.type (y ++ cells c) (sizes_at o n.type y c)) (last_typed n.type (left_over (y ++ cells c) (sizes_at o n.type y c))))
      (λ left new done todo deep y p rows outs w tp np gr. regroups_rows o n y p rows outs tp np gr)
      x None rows _ i (ap not (type_fits n.type i.1 (subst (λ z. Typed z i.1) is_type ty.0))) tt tj nh is_type one un xs closed ty
  blocks_idle o n x (Some p) rows tj nh is_type one un (i ∷ xs) closed ty =
      take_own s number segment_number all d q0 j0 q places ks more hs r past law pl sm kids (block_grouper o n.type) (by_block (block_len o n.type) o.minimum n.type) (blocks_local o n) n.type (λ rows. rows) (λ z. Unit {0}) NoneHeld (λ y w rows k. refl)
      (blocks_regroup o n.type).keeps (blocks_regroup o n.type).all (λ y e. e) (λ y w. tt) (λ y c w k. (cut_typed n.type (y ++ cells c) (sizes_at o n.type y c), tt))
      (λ y c w k. typed_append n.type _ _ (cut_typed n.type (y ++ cells c) (sizes_at o n.type y c)) (last_typed n.type (left_over (y ++ cells c) (sizes_at o n.type y c))))
      (λ left new done todo deep y v rows outs w tp np gr. regroups_rows o n y v rows outs tp np gr)
      x (Some p) rows _ i (ap not (type_fits n.type i.1 (subst (λ z. Typed z i.1) is_type ty.0))) tt tj nh is_type one un xs closed ty

  pub blocks_own : (o : BlockOptions) (n : GroupedNode) (x : List CellData) (j : Option Item) (rows : ℕ) (outs : List Item) → NewestTyped n.type j → NoneHeld x j → q.type ≡ n.type → types_of hs ≡ n.type ∷ []
      → AllTyped n.type outs → shape_in past ≡ None → (xs : List Item) (closed : Bool) → AllTyped q.type xs
      → Own s number segment_number all d q0 j0 q places ks more hs r past (by_block (block_len o n.type) o.minimum n.type x j rows) (hand_all (λ p. 0) outs) (filled (group_kept j) (weighed_puts (λ p. 0) outs)) (blocks_local o n x j rows) false xs closed
  blocks_own o n x j rows [] tj nh is_type one to un xs closed ty = blocks_idle o n x j rows tj nh is_type one un xs closed ty
  blocks_own o n x j rows (i ∷ outs) tj nh is_type one to un xs closed ty =
      put_own s number segment_number all d q0 j0 q places ks more hs r past law pl sm kids (block_grouper o n.type) (by_block (block_len o n.type) o.minimum n.type) (blocks_local o n) n.type (λ rows. rows) (λ z. Unit {0}) NoneHeld (λ y p rows k. refl)
      (blocks_regroup o n.type).keeps (blocks_regroup o n.type).all (λ y e. e) (λ y p. tt) (λ y c w k. (cut_typed n.type (y ++ cells c) (sizes_at o n.type y c), tt))
      (λ y c w k. typed_append n.type _ _ (cut_typed n.type (y ++ cells c) (sizes_at o n.type y c)) (last_typed n.type (left_over (y ++ cells c) (sizes_at o n.type y c))))
      (λ left new done todo deep y p rows outs w tp np gr. regroups_rows o n y p rows outs tp np gr)
      x j rows i outs tt tj nh is_type one to un xs closed ty

  -- ---- a buffer

  buffer_idle : (size : ℕ) (n : GroupedNode) (x : List ChunkData) (j : Option Item) (rows : ℕ) → ChunksTyped n.type x → NewestTyped n.type j → NoneHeld x j → q.type ≡ n.type
      → types_of hs ≡ n.type ∷ [] → shape_in past ≡ None → (xs : List Item) (closed : Bool) → AllTyped q.type xs
      → Own s number segment_number all d q0 j0 q places ks more hs r past (by_size size x j rows) [] [] (bytes_local size n x j rows) false xs closed
  buffer_idle size n x j rows tx tj nh is_type one un [] false ty = tt
  buffer_idle size n x j rows tx tj nh is_type one un [] true ty =
      end_own s number segment_number all d q0 j0 q places ks more hs r past law pl sm kids (byte_grouper size) (by_size size) (bytes_local size n) n.type piece_cells (ChunksTyped n.type) NoneHeld (λ y p rows k. refl)
      (flushes_regroup size n.type).keeps (flushes_regroup size n.type).all (λ y e. ap piece_cells e) (λ y p. tt) (buffer_typed size n.type) (λ y c w k. typed_append n.type y (c ∷ []) w (k, tt))
      (λ left new done todo deep y p rows outs w tp np gr. regroups_chunks size n y p rows outs w tp np gr)
      x j rows tx tj nh one un
  buffer_idle size n x None rows tx tj nh is_type one un (i ∷ xs) closed ty =
      take_own s number segment_number all d q0 j0 q places ks more hs r past law pl sm kids (byte_grouper size) (by_size size) (bytes_local size n) n.type piece_cells (ChunksTyped n.type) NoneHeld (λ y p rows k. refl)
      (flushes_regroup size n.type).keeps (flushes_regroup size n.type).all (λ y e. ap piece_cells e) (λ y p. tt) (buffer_typed size n.type) (λ y c w k. typed_append n.type y (c ∷ []) w (k, tt))
      (λ left new done todo deep y p rows outs w tp np gr. regroups_chunks size n y p rows outs w tp np gr)
      x None rows false i refl tx tj nh is_type one un xs closed ty
  buffer_idle size n x (Some p) rows tx tj nh is_type one un (i ∷ xs) closed ty =
      take_own s number segment_number all d q0 j0 q places ks more hs r past law pl sm kids (byte_grouper size) (by_size size) (bytes_local size n) n.type piece_cells (ChunksTyped n.type) NoneHeld (λ y w rows k. refl)
      (flushes_regroup size n.type).keeps (flushes_regroup size n.type).all (λ y e. ap piece_cells e) (λ y w. tt) (buffer_typed size n.type) (λ y c w k. typed_append n.type y (c ∷ []) w (k, tt))
      (λ left new done todo deep y v rows outs w tp np gr. regroups_chunks size n y v rows outs w tp np gr)
      x (Some p) rows false i refl tx tj nh is_type one un xs closed ty

  pub buffer_own : (size : ℕ) (n : GroupedNode) (x : List ChunkData) (j : Option Item) (rows : ℕ) (outs : List Item) → ChunksTyped n.type x → NewestTyped n.type j → NoneHeld x j → q.type ≡ n.type
      → types_of hs ≡ n.type ∷ [] → AllTyped n.type outs → shape_in past ≡ None → (xs : List Item) (closed : Bool) → AllTyped q.type xs
      → Own s number segment_number all d q0 j0 q places ks more hs r past (by_size size x j rows) (hand_all held outs) (filled (group_kept j) (weighed_puts held outs)) (bytes_local size n x j rows) false xs closed
  buffer_own size n x j rows [] tx tj nh is_type one to un xs closed ty = buffer_idle size n x j rows tx tj nh is_type one un xs closed ty
  buffer_own size n x j rows (i ∷ outs) tx tj nh is_type one to un xs closed ty =
      put_own s number segment_number all d q0 j0 q places ks more hs r past law pl sm kids (byte_grouper size) (by_size size) (bytes_local size n) n.type piece_cells (ChunksTyped n.type) NoneHeld (λ y p rows k. refl)
      (flushes_regroup size n.type).keeps (flushes_regroup size n.type).all (λ y e. ap piece_cells e) (λ y p. tt) (buffer_typed size n.type) (λ y c w k. typed_append n.type y (c ∷ []) w (k, tt))
      (λ left new done todo deep y p rows outs w tp np gr. regroups_chunks size n y p rows outs w tp np gr)
      x j rows i outs tx tj nh is_type one to un xs closed ty

  -- ---- a collection

  collect_end : (n : GroupedNode) (x : Option (List ℕ × List ChunkData)) (rows : ℕ) → types_of hs ≡ n.type ∷ [] → shape_in past ≡ None
      → Own s number segment_number all d q0 j0 q places ks more hs r past (as_one n.type x rows) [] [] (collect_local n x rows) false [] true
  collect_end n None rows one un =
      let l : Local = collect_local n None rows in
      let a : Act = end_first s l in
      let none : Leaves a 0 = record { gives = λ k i. refl; shuts = λ k i. refl; starts = refl } in
      let sh : shape_in (past ++ (a ∷ [])) ≡ Some passes = shape_last past a un in
      let e1 : rows_of (feed (less d q.type) a 0 hs) ≡ rows_of hs = ap rows_of (feed_none (less d q.type) a 0 hs none) in (
        record {
          name = refl;
          kind = refl;
          refusal = refl;
          misfit = refl;
          numbers = refl;
          indices = sym (opened_none (less d q.type));
          wrote = refl;
          raises = refl;
          lowers = refl;
          after = λ f k. (
            then_open s number segment_number all d q0 j0 q places ks more hs r past passing (shut_kids ∷ []) ks a (close_queues (0 ∷ []) ∷ []) l true [] true pl sm tt
                (passes_on n.type (λ p. 0) [] (feed_types (less d q.type) a 0 hs refl ∙ one) tt (record { mind_is = refl; left_is = refl; rest = refl; off = refl; shape_is = sh }))
                (still s number segment_number all d q0 j0 q places ks more hs r past law pl sm kids a none),
            then_same s number segment_number all d q0 j0 q places ks more hs r past (desk s number segment_number all d q0 j0 q places ks more hs r past (as_one n.type None rows) [] [] true) passing (shut_kids ∷ []) ks (head s number segment_number all d q0 j0 q places ks more hs r past past [] l false [] true) a (close_queues (0 ∷ []) ∷ []) l true [] true
                (ap (λ z. shape_rows z (0 + rows_of (feed (less d q.type) a 0 hs)) + 0) sh ∙ (let e2 : (0 + rows_of (feed (less d q.type) a 0 hs)) + 0 ≡ (0 + (0 + rows_of hs)) + 0 = omega (arith, e1) in e2)) refl,
          );
        },
        tt,
      )
  collect_end n (Some x) rows one un =
      let l : Local = collect_local n (Some x) rows in
      let a : Act = end_first s l in
      let out : Item = (x.0, concatenated n.type x.1) in
      let left : List Next = hand_all (λ p. 0) (out ∷ []) ++ (shut_kids ∷ []) in
      let none : Leaves a 0 = record { gives = λ k i. refl; shuts = λ k i. refl; starts = refl } in
      let sh : shape_in (past ++ (a ∷ [])) ≡ Some passes = shape_last past a un in
      let sent : ℕ = (rows_in (concatenated n.type x.1) + 0) + rows_of (feed (less d q.type) a 0 hs) in
      let e1 : rows_of (feed (less d q.type) a 0 hs) ≡ rows_of hs = ap rows_of (feed_none (less d q.type) a 0 hs none) in
      let e2 : rows_in (concatenated n.type x.1) ≡ length (piece_cells x.1) = ap length (concatenated_cells n.type x.1) in (
        record {
          name = refl;
          kind = refl;
          refusal = refl;
          misfit = refl;
          numbers = refl;
          indices = sym (opened_none (less d q.type));
          wrote = refl;
          raises = refl;
          lowers = refl;
          after = λ f k. (
            then_open s number segment_number all d q0 j0 q places ks more hs r past passing left ks a (end_more s l) l true [] true pl sm tt
                (passes_on n.type (λ p. 0) (out ∷ []) (feed_types (less d q.type) a 0 hs refl ∙ one) (refl, tt) (record { mind_is = refl; left_is = refl; rest = refl; off = refl; shape_is = sh }))
                (still s number segment_number all d q0 j0 q places ks more hs r past law pl sm kids a none),
            then_same s number segment_number all d q0 j0 q places ks more hs r past (desk s number segment_number all d q0 j0 q places ks more hs r past (as_one n.type (Some x) rows) [] [] true) passing left ks (head s number segment_number all d q0 j0 q places ks more hs r past past [] l false [] true) a (end_more s l) l true [] true
                (ap (λ z. shape_rows z sent + 0) sh ∙ (let e3 : sent + 0 ≡ (length (piece_cells x.1) + (0 + rows_of hs)) + 0 = omega (arith, e1, e2) in e3)) refl,
          );
        },
        tt,
      )

  pub collect_own : (n : GroupedNode) (x : Option (List ℕ × List ChunkData)) (rows : ℕ) → q.type ≡ n.type → types_of hs ≡ n.type ∷ [] → shape_in past ≡ None
      → (xs : List Item) (closed : Bool) → AllTyped q.type xs → Own s number segment_number all d q0 j0 q places ks more hs r past (as_one n.type x rows) [] [] (collect_local n x rows) false xs closed
  collect_own n x rows is_type one un [] false ty = tt
  collect_own n x rows is_type one un [] true ty = collect_end n x rows one un
  collect_own n x rows is_type one un (i ∷ xs) closed ty =
      let l : Local = collect_local n x rows in
      let a : Act = take_first s l i in
      let y : Option (List ℕ × List ChunkData) = Some (i.0, collected_so_far x ++ (i.1 ∷ [])) in
      let m2 : Mind = as_one n.type y (rows + rows_in i.1) in
      let l2 : Local = collect_local n y (rows + rows_in i.1) in
      let none : Leaves a 0 = record { gives = λ k i. refl; shuts = λ k i. refl; starts = refl } in
      let e1 : rows_of (feed (less d q.type) a 0 hs) ≡ rows_of hs = ap rows_of (feed_none (less d q.type) a 0 hs none) in
      let e2 : length (piece_cells (collected_so_far x ++ (i.1 ∷ []))) ≡ length (piece_cells (collected_so_far x)) + rows_in i.1 = one_more (collected_so_far x) i.1 in (
        record {
          name = refl;
          kind = refl;
          refusal = refl;
          misfit = ap not (type_fits n.type i.1 (subst (λ z. Typed z i.1) is_type ty.0));
          numbers = refl;
          indices = sym (opened_none (less d q.type));
          wrote = refl;
          raises = refl;
          lowers = refl;
          after = λ f k. (
            then_open s number segment_number all d q0 j0 q places ks more hs r past m2 [] ks a [] l2 false xs closed pl sm ty.1
                (collects n y (rows + rows_in i.1) (record {
                  mind_is = refl;
                  local_is = refl;
                  left_is = refl;
                  rest = refl;
                  on = refl;
                  unshaped = shape_last past a un;
                  type_is = is_type;
                  kids = feed_types (less d q.type) a 0 hs refl ∙ one;
                  typed = tt;
                })) (still s number segment_number all d q0 j0 q places ks more hs r past law pl sm kids a none),
            then_same s number segment_number all d q0 j0 q places ks more hs r past (desk s number segment_number all d q0 j0 q places ks more hs r past (as_one n.type x rows) [] (i ∷ xs) closed) m2 [] ks (head s number segment_number all d q0 j0 q places ks more hs r past past [] l false (i ∷ xs) closed) a [] l2 false xs closed
                (let e3 : (length (piece_cells (collected_so_far x ++ (i.1 ∷ []))) + (0 + rows_of (feed (less d q.type) a 0 hs))) + row_total xs ≡ (length (piece_cells (collected_so_far x)) + (0 + rows_of hs)) + (rows_in i.1 + row_total xs) = omega (arith, e1, e2) in e3) refl,
          );
        },
        tt,
      )
