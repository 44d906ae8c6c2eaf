-- The laws of regrouping and compressing nodes.
use Rattle.std.proofs.Common.{◌≡◌, ℕ, ◌+◌, ◌<◌, ◌≤◌, ◌^◌, Bool, true, false, List, [], ◌∷◌, ◌++◌, map, length, Option, refl, sym, ap, ap₂, ◌∙◌, subst, arith, append_assoc}
use Rattle.vx_model.specs.Ty.{Ty}
use Rattle.vx_model.specs.ValueData.{value}
use Rattle.vx_model.specs.CellData.{CellData}
use Rattle.vx_model.specs.ChunkData.{ChunkData, held}
use Rattle.vx_path.specs.Lists.{In}
use Rattle.vx_path.specs.Path.{Eof, Region, begins, raised}
use Rattle.vx_path.proofs.Path.{region_from, begins-refl}
use Rattle.vx_rules.specs.Stream.{Chunks, stream_cells, chunk_paths}
use Rattle.vx_rules.specs.Regroup.{Rule}
use Rattle.vx_rules.specs.Blocks.{blocks}
use Rattle.vx_rules.specs.Flushes.{flushes, collected}
use Rattle.vx_rules.proofs.RegroupLaws.{Onto, regrouped_rows, regrouped_of, regrouped_begins, regrouped_onto}
use Rattle.vx_rules.proofs.BlockLaws.{Rows, blocks_regroup}
use Rattle.vx_rules.proofs.FlushLaws.{flushes_regroup, collected_rows, collected_of, collected_onto, collected_open}
use Rattle.vx_rules.specs.Stream.{piece_cells, PiecesOf}
use Rattle.vx_plan.specs.PlanData.{Setting, Item, Plan, Node, paths, places, stream_values, rows_in, row_totals}
use Rattle.vx_strategy_spec.specs.StrategyData.{Grouping, by_blocks, by_bytes, into_one}
use Rattle.vx_plan.specs.GroupNode.{with_numbers, grouped_stream, counted_at, left_count, rest_count, block_count, block_rest, held_sizes, group_numbers, held_total, group_reserved, grouped_node, images, compressed_node}
use Rattle.vx_plan.specs.Valid.{Fit, Keeps}
use Rattle.vx_plan.specs.Statements.{Within}
use Rattle.vx_plan.proofs.PlanLists.{ItemsOf, Holds, Gives, gives_same, fit_left, fit_right, fit_both, fit_before, fit_cells, stream_values_cells, within}
use Rattle.vx_plan.proofs.Spots.{Apart, Lies, apart_both}
use Rattle.vx_plan.proofs.FlatLaws.{Reads, Placed, Grows, Typed}

-- ---- the regrouped stream

kept_cells : (g : Grouping) (t : Ty) (items : List Item) → stream_cells (grouped_stream g t items true) ≡ stream_cells items
kept_cells (by_blocks o) t items = regrouped_rows (List CellData) t (blocks o t) (λ rows. rows) (Rows t) (blocks_regroup o t) items
kept_cells (by_bytes size) t items = regrouped_rows (List ChunkData) t (flushes size) piece_cells (PiecesOf t) (flushes_regroup size t) items
kept_cells into_one t items = collected_rows t items

kept_of : (g : Grouping) (t : Ty) (items : List Item) → Chunks t items → length (stream_cells items) < 2 ^ 64 → Chunks t (grouped_stream g t items true)
kept_of (by_blocks o) t items of lt = regrouped_of (List CellData) t (blocks o t) (λ rows. rows) (Rows t) (blocks_regroup o t) items of lt
kept_of (by_bytes size) t items of lt = regrouped_of (List ChunkData) t (flushes size) piece_cells (PiecesOf t) (flushes_regroup size t) items of lt
kept_of into_one t items of lt = collected_of t items of lt

grouped_onto : (g : Grouping) (t : Ty) (items : List Item) (ended : Bool) → Onto (chunk_paths (grouped_stream g t items ended)) (chunk_paths items)
grouped_onto (by_blocks o) t items ended = regrouped_onto (blocks o t) [] items ended
grouped_onto (by_bytes size) t items ended = regrouped_onto (flushes size) [] items ended
grouped_onto into_one t items ended = collected_onto t items ended

grouped_begins : (g : Grouping) (t : Ty) (xs ys : List Item) (ended : Bool) → (more : List Item) × (grouped_stream g t (xs ++ ys) ended ≡ grouped_stream g t xs false ++ more)
grouped_begins (by_blocks o) t xs ys ended = regrouped_begins (blocks o t) [] xs ys ended
grouped_begins (by_bytes size) t xs ys ended = regrouped_begins (flushes size) [] xs ys ended
grouped_begins into_one t xs ys ended = (collected t (xs ++ ys) ended, ap (λ z. z ++ collected t (xs ++ ys) ended) (sym (collected_open t xs)))

-- ---- rows

pub grouped_reads : (admitted : Bool) (s : Setting) (g : Grouping) (t : Ty) (k : Node) → Reads admitted s t k → Reads admitted s t (grouped_node g t k)
grouped_reads admitted s g t k r = record { reads = go }
  where
    go : (m : Bool) (items : List Item) (e : Eof) → ItemsOf t items → (grouped_node g t k m items true e).faults ≡ [] → Fit (grouped_node g t k m items true e).numbers
        → (look : List ℕ → Option (List ℕ)) → Holds look (grouped_node g t k m items true e).pairs
        → Gives admitted s look (grouped_node g t k m items true e).layout (stream_values items)
    go m items e of clean fit look held =
        let fits : (length (stream_cells items) < 2 ^ 64) × Fit (k m (grouped_stream g t items true) true e).numbers =
        fit_cells items (group_numbers g t items true) (k m (grouped_stream g t items true) true e).numbers fit in
        gives_same admitted s look (k m (grouped_stream g t items true) true e).layout (stream_values (grouped_stream g t items true)) (stream_values items)
        (r.reads m (grouped_stream g t items true) e (kept_of g t items of fits.0) clean fits.1 look held)
        (stream_values_cells (grouped_stream g t items true) ∙ ap (map value) (kept_cells g t items) ∙ sym (stream_values_cells items))

-- ---- paths

pub apart_onto : (ps qs : List (List ℕ)) (e : Eof) → Onto ps qs → Apart qs e → Apart ps e
apart_onto ps qs e o a = record {
  scattered = o.scattered a.scattered;
  off = λ p i j. let w : (q : List ℕ) × In q qs × (begins q p ≡ true) = o.from p i in
      apart_both w.0 (raised e j) p (raised e j) (a.off w.0 w.1 j) w.2 (begins-refl (raised e j));
}

pub lies_onto : (ps qs : List (List ℕ)) (e : Eof) (xs : List (List ℕ)) → Onto ps qs → Lies (Region ps e) xs → Lies (Region qs e) xs
lies_onto ps qs e xs o l = record { scattered = l.scattered; within = λ x i. region_from ps qs e x o.from (l.within x i) }

pub grouped_placed : (g : Grouping) (t : Ty) (k : Node) → Placed t k → Placed t (grouped_node g t k)
grouped_placed g t k c = record {
  placed = λ m items ended e a.
      lies_onto (chunk_paths (grouped_stream g t items ended)) (places items) e (paths (k m (grouped_stream g t items ended) ended e).pairs) (grouped_onto g t items ended)
      (c.placed m (grouped_stream g t items ended) ended e (apart_onto (chunk_paths (grouped_stream g t items ended)) (places items) e (grouped_onto g t items ended) a));
}

-- ---- prefixes

counted_begins : {S : Type 0} (f g : S → ChunkData → List ℕ) (r : Rule S) (s : S) (xs ys : List Item) (ended : Bool)
    → (more : List ℕ) × (counted_at f g r s (xs ++ ys) ended ≡ counted_at f g r s xs false ++ more)
counted_begins f g r s [] ys ended = (counted_at f g r s ys ended, refl)
counted_begins f g r s (x ∷ []) ys ended = (counted_at f g r s (x ∷ ys) ended, refl)
counted_begins f g r s (x ∷ z ∷ xs) ys ended =
    let h : (more : List ℕ) × (counted_at f g r (r.holds s x.1) (z ∷ xs ++ ys) ended ≡ counted_at f g r (r.holds s x.1) (z ∷ xs) false ++ more) = counted_begins f g r (r.holds s x.1) (z ∷ xs) ys ended in
    (h.0, ap (λ w. f s x.1 ++ w) h.1 ∙ sym (append_assoc (f s x.1) (counted_at f g r (r.holds s x.1) (z ∷ xs) false) h.0))

fit_counted : {S : Type 0} (f g : S → ChunkData → List ℕ) (r : Rule S) (s : S) (xs ys : List Item) (ended : Bool) → Fit (counted_at f g r s (xs ++ ys) ended) → Fit (counted_at f g r s xs false)
fit_counted f g r s xs ys ended h =
    let b : (more : List ℕ) × (counted_at f g r s (xs ++ ys) ended ≡ counted_at f g r s xs false ++ more) = counted_begins f g r s xs ys ended in
    fit_left (counted_at f g r s xs false) b.0 (subst Fit b.1 h)

fit_held : (size : ℕ) (ps : List ChunkData) (xs ys : List Item) → Fit (held_sizes size ps (xs ++ ys)) → Fit (held_sizes size ps xs)
fit_held size ps [] ys h = tt
fit_held size ps (x ∷ xs) ys h = (h.0, (h.1.0, fit_held size ((flushes size).holds ps x.1) xs ys h.1.1))

fit_group : (g : Grouping) (t : Ty) (xs ys : List Item) (ended : Bool) → Fit (group_numbers g t (xs ++ ys) ended) → Fit (group_numbers g t xs false)
fit_group (by_blocks o) t xs ys ended h = fit_counted (block_count o t) (block_rest o t) (blocks o t) [] xs ys ended h
fit_group (by_bytes size) t xs ys ended h =
    fit_both (held_sizes size [] xs) (counted_at (left_count (flushes size)) (rest_count (flushes size)) (flushes size) [] xs false)
    (fit_held size [] xs ys (fit_left (held_sizes size [] (xs ++ ys)) (counted_at (left_count (flushes size)) (rest_count (flushes size)) (flushes size) [] (xs ++ ys) ended) h))
    (fit_counted (left_count (flushes size)) (rest_count (flushes size)) (flushes size) [] xs ys ended
    (fit_right (held_sizes size [] (xs ++ ys)) (counted_at (left_count (flushes size)) (rest_count (flushes size)) (flushes size) [] (xs ++ ys) ended) h))
fit_group into_one t xs ys ended h = tt

pub with_within : (ns ms : List ℕ) (a b : ℕ) (p q : Plan) → (Fit ms → Fit ns) → a ≤ b → Within p q → Within (with_numbers ns a p) (with_numbers ms b q)
with_within ns ms a b p q f l h =
    within h.pairs h.faults (λ e g. fit_both ns p.numbers (f (fit_left ms q.numbers g)) (h.fit e (fit_right ms q.numbers g)))
    (let k : p.reserved ≤ q.reserved = h.reserved in omega arith)

held_more : (xs ys : List Item) → held_total xs ≤ held_total (xs ++ ys)
held_more [] ys = omega arith
held_more (x ∷ xs) ys = let l : held_total xs ≤ held_total (xs ++ ys) = held_more xs ys in omega arith

-- what is reserved of the first chunks is at most that of all
reserved_more : (g : Grouping) (xs ys : List Item) → group_reserved g xs ≤ group_reserved g (xs ++ ys)
reserved_more (by_blocks o) xs ys = omega arith
reserved_more (by_bytes size) xs ys = held_more xs ys
reserved_more into_one xs ys = omega arith

none_reserved : (g : Grouping) → group_reserved g [] ≡ 0
none_reserved (by_blocks o) = refl
none_reserved (by_bytes size) = refl
none_reserved into_one = refl

no_stream : (g : Grouping) (t : Ty) → grouped_stream g t [] false ≡ []
no_stream (by_blocks o) t = refl
no_stream (by_bytes size) t = refl
no_stream into_one t = refl

nothing : (n : ℕ) → n ≡ 0 → 0 + n ≡ 0
nothing n e = omega arith

pub grouped_grows : (g : Grouping) (t : Ty) (k : Node) → Grows t k → Grows t (grouped_node g t k)
grouped_grows g t k c = record {
  grows = λ m xs ys ended e.
      let b : (more : List Item) × (grouped_stream g t (xs ++ ys) ended ≡ grouped_stream g t xs false ++ more) = grouped_begins g t xs ys ended in
      with_within (row_totals xs ++ group_numbers g t xs false) (row_totals (xs ++ ys) ++ group_numbers g t (xs ++ ys) ended) (group_reserved g xs) (group_reserved g (xs ++ ys))
      (k m (grouped_stream g t xs false) false e) (k m (grouped_stream g t (xs ++ ys) ended) ended e)
      (fit_before rows_in 0 xs ys (group_numbers g t (xs ++ ys) ended) (group_numbers g t xs false) (fit_group g t xs ys ended))
      (reserved_more g xs ys)
      (subst (λ z. Within (k m (grouped_stream g t xs false) false e) (k m z ended e)) (sym b.1) (c.grows m (grouped_stream g t xs false) b.0 ended e));
  quiet = λ m e. ap (λ z. (k m z false e).pairs) (no_stream g t) ∙ c.quiet m e;
  still = λ m e. ap₂ (λ n z. n + (k m z false e).reserved) (none_reserved g) (no_stream g t) ∙ nothing (k m [] false e).reserved (c.still m e);
  steady = λ m d e. ap (λ z. (k m z false d).faults) (no_stream g t) ∙ c.steady m d e ∙ sym (ap (λ z. (k m z false e).faults) (no_stream g t));
}

pub grouped_typed : (g : Grouping) (t : Ty) (k : Node) → Typed t k → Typed t (grouped_node g t k)
grouped_typed g t k c = record { typed = λ m items ended e. c.typed m (grouped_stream g t items ended) ended e }

-- ---- images

images_of : (s : Setting) → Keeps s → (which : ℕ) (t : Ty) (items : List Item) → ItemsOf t items → ItemsOf t (images s which items)
images_of s keeps which t [] of = tt
images_of s keeps which t (c ∷ cs) of = (keeps.image_of which t c.1 of.0, images_of s keeps which t cs of.1)

images_values : (s : Setting) → Keeps s → (which : ℕ) (t : Ty) (items : List Item) → ItemsOf t items → stream_values (images s which items) ≡ stream_values items
images_values s keeps which t [] of = refl
images_values s keeps which t (c ∷ cs) of = ap₂ (λ x y. x ++ y) (keeps.image_rows which t c.1 of.0) (images_values s keeps which t cs of.1)

images_places : (s : Setting) (which : ℕ) (items : List Item) → chunk_paths (images s which items) ≡ chunk_paths items
images_places s which [] = refl
images_places s which (c ∷ cs) = ap (λ z. c.0 ∷ z) (images_places s which cs)

images-append : (s : Setting) (which : ℕ) (xs ys : List Item) → images s which (xs ++ ys) ≡ images s which xs ++ images s which ys
images-append s which [] ys = refl
images-append s which (x ∷ xs) ys = ap (λ (z : List Item). (x.0, s.image which x.1) ∷ z) (images-append s which xs ys)

pub compressed_reads : (admitted : Bool) (s : Setting) → Keeps s → (which room : ℕ) (t : Ty) (k : Node) → Reads admitted s t k → Reads admitted s t (compressed_node s which room t k)
compressed_reads admitted s keeps which room t k r = record {
  reads = λ m items e of clean fit look held.
      gives_same admitted s look (k m (images s which items) true e).layout (stream_values (images s which items)) (stream_values items)
      (r.reads m (images s which items) e (images_of s keeps which t items of) clean fit look held) (images_values s keeps which t items of);
}

pub compressed_placed : (s : Setting) (which room : ℕ) (t : Ty) (k : Node) → Placed t k → Placed t (compressed_node s which room t k)
compressed_placed s which room t k c = record {
  placed = λ m items ended e a.
      subst (λ z. Lies (Region z e) (paths (k m (images s which items) ended e).pairs)) (images_places s which items)
      (c.placed m (images s which items) ended e (subst (λ z. Apart z e) (sym (images_places s which items)) a));
}

pub compressed_grows : (s : Setting) (which room : ℕ) (t : Ty) (k : Node) → Grows t k → Grows t (compressed_node s which room t k)
compressed_grows s which room t k c = record {
  grows = λ m xs ys ended e. subst (λ z. Within (k m (images s which xs) false e) (k m z ended e)) (sym (images-append s which xs ys))
      (c.grows m (images s which xs) (images s which ys) ended e);
  quiet = λ m e. c.quiet m e;
  still = λ m e. c.still m e;
  steady = λ m d e. c.steady m d e;
}

pub compressed_typed : (s : Setting) (which room : ℕ) (t : Ty) (k : Node) → Typed t k → Typed t (compressed_node s which room t k)
compressed_typed s which room t k c = record { typed = λ m items ended e. c.typed m (images s which items) ended e }
