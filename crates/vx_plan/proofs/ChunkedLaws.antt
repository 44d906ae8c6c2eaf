-- The laws of a chunked node.
use Rattle.std.proofs.Common.{◌≡◌, ℕ, ◌+◌, ◌<◌, ◌^◌, Bool, true, false, List, [], ◌∷◌, ◌++◌, length, Option, refl, sym, ap, ap₂, ◌∙◌, subst, arith, length-append}
use Rattle.std.proofs.lemmas.List.{append-nil}
use Rattle.vx_model.specs.Ty.{Ty}
use Rattle.vx_model.specs.ValueData.{ValueData}
use Rattle.vx_model.specs.ChunkData.{row_values}
use Rattle.vx_path.specs.Path.{Eof, Region, inside, next}
use Rattle.vx_layout_spec.specs.LayoutTree.{gathered, layout_type}
use Rattle.vx_layout_spec.specs.Rows.{joined}
use Rattle.vx_plan.specs.PlanData.{Setting, Item, Pair, Plan, Node, paths, places, stream_values, rows_in, row_total}
use Rattle.vx_plan.specs.ChunkedNode.{chunked_node, chunked_numbers, chunk_plans, all_pairs, all_faults, all_numbers, all_layouts}
use Rattle.vx_plan.specs.Valid.{Fit}
use Rattle.vx_plan.specs.Statements.{Within}
use Rattle.vx_plan.proofs.PlanLists.{ItemsOf, Holds, Gives, gives_same, ReadAll, Grow, grow_none, grow_more, nil_left, nil_right, fit_left, fit_right, fit_both, fit_before, holds_left, holds_right, gathered_reads, length-stream_values, within, within_itself}
use Rattle.vx_plan.proofs.Spots.{Apart, Lies, lies_none, two_parts, apart_inside, apart_next, apart_left, apart_right}
use Rattle.vx_plan.proofs.FlatLaws.{Reads, Placed, Grows, Typed}

-- ---- rows

-- the rows of each chunk
abbrev pub each_values : List Item → List (List ValueData)
each_values [] = []
each_values (i ∷ is) = stream_values (i ∷ []) ∷ each_values is

pub joined-each_values : (items : List Item) → joined (each_values items) ≡ stream_values items
joined-each_values [] = refl
joined-each_values (i ∷ is) = ap₂ (λ a b. a ++ b) (append-nil (row_values i.1)) (joined-each_values is)

chunks_read : (admitted : Bool) (s : Setting) (t : Ty) (k : Node) → Reads admitted s t k → (m : Bool) (items : List Item) (e : Eof) → ItemsOf t items
    → all_faults (chunk_plans k m items e) ≡ [] → Fit (all_numbers (chunk_plans k m items e)) → (look : List ℕ → Option (List ℕ))
    → Holds look (all_pairs (chunk_plans k m items e)) → ReadAll admitted s look (all_layouts (chunk_plans k m items e)) (each_values items)
chunks_read admitted s t k r m [] e of clean fit look held = tt
chunks_read admitted s t k r m (i ∷ is) e of clean fit look held =
    let p : Plan = k m (i ∷ []) true (inside e) in
    let ps : List Plan = chunk_plans k m is (next e) in (
      r.reads m (i ∷ []) (inside e) (of.0, tt) (nil_left p.faults (all_faults ps) clean) (fit_left p.numbers (all_numbers ps) fit) look (holds_left look p.pairs (all_pairs ps) held),
      chunks_read admitted s t k r m is (next e) of.1 (nil_right p.faults (all_faults ps) clean) (fit_right p.numbers (all_numbers ps) fit) look (holds_right look p.pairs (all_pairs ps) held),
    )

pub chunked_reads : (admitted : Bool) (s : Setting) (t : Ty) (k : Node) → Reads admitted s t k → Reads admitted s t (chunked_node t k)
chunked_reads admitted s t k r = record { reads = go }
  where
    go : (m : Bool) (items : List Item) (e : Eof) → ItemsOf t items → (chunked_node t k m items true e).faults ≡ [] → Fit (chunked_node t k m items true e).numbers
        → (look : List ℕ → Option (List ℕ)) → Holds look (chunked_node t k m items true e).pairs
        → Gives admitted s look (chunked_node t k m items true e).layout (stream_values items)
    go m items e of clean fit look held =
        gives_same admitted s look (chunked_node t k m items true e).layout (joined (each_values items)) (stream_values items)
        (gathered_reads admitted s look t (row_total items) (all_layouts (chunk_plans k m items e)) (each_values items)
        (chunks_read admitted s t k r m items e of clean (fit_right (chunked_numbers items e) (all_numbers (chunk_plans k m items e)) fit) look held) (ap length (joined-each_values items) ∙ length-stream_values items))
        (joined-each_values items)

-- ---- paths

pub paths-append : (ps qs : List Pair) → paths (ps ++ qs) ≡ paths ps ++ paths qs
paths-append [] qs = refl
paths-append (p ∷ ps) qs = ap (λ r. p.0 ∷ r) (paths-append ps qs)

chunks_placed : (t : Ty) (k : Node) → Placed t k → (m : Bool) (items : List Item) (e : Eof) → Apart (places items) e
    → Lies (Region (places items) e) (paths (all_pairs (chunk_plans k m items e)))
chunks_placed t k c m [] e a = lies_none (Region [] e)
chunks_placed t k c m (i ∷ is) e a =
    subst (Lies (Region (places (i ∷ is)) e)) (sym (paths-append (k m (i ∷ []) true (inside e)).pairs (all_pairs (chunk_plans k m is (next e)))))
    (two_parts (i.0 ∷ []) (places is) e (paths (k m (i ∷ []) true (inside e)).pairs) (paths (all_pairs (chunk_plans k m is (next e)))) a
    (c.placed m (i ∷ []) true (inside e) (apart_inside (i.0 ∷ []) e (apart_left (i.0 ∷ []) (places is) e a)))
    (chunks_placed t k c m is (next e) (apart_next (places is) e (apart_right (i.0 ∷ []) (places is) e a))))

pub chunked_placed : (t : Ty) (k : Node) → Placed t k → Placed t (chunked_node t k)
chunked_placed t k c = record { placed = λ m items ended e a. chunks_placed t k c m items e a }

-- ---- prefixes

chunks_grow : (k : Node) (m : Bool) (xs ys : List Item) (e : Eof) → Grow (chunk_plans k m xs e) (chunk_plans k m (xs ++ ys) e)
chunks_grow k m [] ys e = grow_none (chunk_plans k m ys e)
chunks_grow k m (x ∷ xs) ys e =
    grow_more (k m (x ∷ []) true (inside e)) (k m (x ∷ []) true (inside e)) (chunk_plans k m xs (next e)) (chunk_plans k m (xs ++ ys) (next e))
    (within_itself (k m (x ∷ []) true (inside e))) (chunks_grow k m xs ys (next e))

chunked_before : (xs ys : List Item) (e : Eof) → Fit (chunked_numbers (xs ++ ys) e) → Fit (chunked_numbers xs e)
chunked_before xs ys e h =
    fit_before rows_in 0 xs ys ((e.last + length (xs ++ ys)) ∷ []) ((e.last + length xs) ∷ [])
    (λ f. ((let total : length (xs ++ ys) ≡ length xs + length ys = length-append xs ys in let a : e.last + length (xs ++ ys) < 2 ^ 64 = f.0 in omega arith), tt)) h

pub chunked_grows : (t : Ty) (k : Node) → Grows t (chunked_node t k)
chunked_grows t k = record { grows = go; quiet = λ m e. refl; still = λ m e. refl; steady = λ m d e. refl }
  where
    go : (m : Bool) (xs ys : List Item) (ended : Bool) (e : Eof) → Within (chunked_node t k m xs false e) (chunked_node t k m (xs ++ ys) ended e)
    go m xs ys ended e =
        let g : Grow (chunk_plans k m xs e) (chunk_plans k m (xs ++ ys) e) = chunks_grow k m xs ys e in
        within g.pairs g.faults
        (λ f h. fit_both (chunked_numbers xs e) (all_numbers (chunk_plans k m xs e))
        (chunked_before xs ys e (fit_left (chunked_numbers (xs ++ ys) e) (all_numbers (chunk_plans k m (xs ++ ys) e)) h))
        (g.fit f (fit_right (chunked_numbers (xs ++ ys) e) (all_numbers (chunk_plans k m (xs ++ ys) e)) h)))
        g.reserved

-- ---- type

chunks_typed : (t : Ty) (k : Node) → Typed t k → (m : Bool) (items : List Item) (n : ℕ) (e : Eof) → layout_type (gathered t n (all_layouts (chunk_plans k m items e))) ≡ t
chunks_typed t k c m [] n e = refl
chunks_typed t k c m (i ∷ []) n e = c.typed m (i ∷ []) true (inside e)
chunks_typed t k c m (i ∷ j ∷ is) n e = refl

pub chunked_typed : (t : Ty) (k : Node) → Typed t k → Typed t (chunked_node t k)
chunked_typed t k c = record { typed = λ m items ended e. chunks_typed t k c m items (row_total items) e }
