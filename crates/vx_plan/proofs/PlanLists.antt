-- Faults, numbers and pairs of several plans, joined.
use Rattle.std.proofs.Common.{◌≡◌, ℕ, ◌+◌, ◌<◌, ◌≤◌, ◌^◌, Bool, true, List, [], ◌∷◌, ◌++◌, map, length, Option, Some, refl, sym, ap, ◌∙◌, subst, inl, inr, ⊎_elim, arith, append_assoc, length-append, eq-eqb}
use Rattle.std.proofs.lemmas.List.{append-nil, length-map, map-append}
use Rattle.vx_model.specs.Ty.{Ty}
use Rattle.vx_model.specs.ValueData.{ValueData, value}
use Rattle.vx_model.specs.ChunkData.{ChunkData, cells, row_values}
use Rattle.vx_path.specs.Lists.{In}
use Rattle.vx_path.proofs.Lists.{in_left, in_right, in_cases}
use Rattle.vx_layout_spec.specs.LayoutTree.{LayoutData, lays_of, gathered}
use Rattle.vx_layout_spec.specs.Rows.{and_then, all_there, counted, joined, chunked_rows, rows, each_rows}
use Rattle.vx_rules.specs.Stream.{Chunks, stream_cells}
use Rattle.vx_plan.specs.PlanData.{Setting, Pair, Plan, Fault, Item, summed, totals, rows_in, row_total, row_totals, stream_values}
use Rattle.vx_plan.specs.ChunkedNode.{all_pairs, all_faults, all_numbers, all_reserved}
use Rattle.vx_plan.specs.Valid.{Fit}
use Rattle.vx_plan.specs.ZonesHold.{IsZoned, AllZoned, ZonesHold}
use Rattle.vx_plan.specs.Statements.{Within}

-- each chunk of a stream is a whole one of the type
abbrev pub ItemsOf : Ty → List Item → Type 0
ItemsOf t items = Chunks t items

-- each pair's path is looked up to its bytes
abbrev pub Holds : (List ℕ → Option (List ℕ)) → List Pair → Type 0
Holds look [] = Unit {0}
Holds look (p ∷ ps) = (look p.0 ≡ Some p.1) × Holds look ps

pub nil_left : {A : Type 0} (xs ys : List A) → xs ++ ys ≡ [] → xs ≡ []
nil_left [] ys e = refl
nil_left (x ∷ xs) ys e = cc

pub nil_right : {A : Type 0} (xs ys : List A) → xs ++ ys ≡ [] → ys ≡ []
nil_right [] ys e = e
nil_right (x ∷ xs) ys e = cc

pub nil_both : {A : Type 0} (xs ys : List A) → xs ≡ [] → ys ≡ [] → xs ++ ys ≡ []
nil_both xs ys e f = rw (e, f) refl

pub fit_left : (ms ns : List ℕ) → Fit (ms ++ ns) → Fit ms
fit_left [] ns h = tt
fit_left (m ∷ ms) ns h = (h.0, fit_left ms ns h.1)

pub fit_right : (ms ns : List ℕ) → Fit (ms ++ ns) → Fit ns
fit_right [] ns h = h
fit_right (m ∷ ms) ns h = fit_right ms ns h.1

pub fit_both : (ms ns : List ℕ) → Fit ms → Fit ns → Fit (ms ++ ns)
fit_both [] ns g h = h
fit_both (m ∷ ms) ns g h = (g.0, fit_both ms ns g.1 h)

-- totals fit where their last does
totals_last : (count : ChunkData → ℕ) (n : ℕ) (items : List Item) → n < 2 ^ 64 → Fit (totals count n items) → n + summed count items < 2 ^ 64
totals_last count n [] lt h = omega arith
totals_last count n (i ∷ is) lt h = let l : (n + count i.1) + summed count is < 2 ^ 64 = totals_last count (n + count i.1) is h.0 h.1 in omega arith

pub fit_totals : (count : ChunkData → ℕ) (n : ℕ) (items : List Item) → n + summed count items < 2 ^ 64 → Fit (totals count n items)
fit_totals count n [] lt = tt
fit_totals count n (i ∷ is) lt = (omega arith, fit_totals count (n + count i.1) is (omega arith))

pub fit_last : (count : ChunkData → ℕ) (n : ℕ) (items : List Item) (ns : List ℕ) → n < 2 ^ 64 → Fit (totals count n items ++ ns) → (n + summed count items < 2 ^ 64) × Fit ns
fit_last count n items ns lt h = (totals_last count n items lt (fit_left (totals count n items) ns h), fit_right (totals count n items) ns h)

pub fit_total : (items : List Item) (ns : List ℕ) → Fit (row_totals items ++ ns) → (row_total items < 2 ^ 64) × Fit ns
fit_total items ns h = let l : (0 + row_total items < 2 ^ 64) × Fit ns = fit_last rows_in 0 items ns (omega arith) h in ((let a : 0 + row_total items < 2 ^ 64 = l.0 in omega arith), l.1)

-- the total is the last of them
pub in_totals : (count : ChunkData → ℕ) (n : ℕ) (i : Item) (is : List Item) → In (n + summed count (i ∷ is)) (totals count n (i ∷ is))
in_totals count n i [] = inl (let e : n + (count i.1 + 0) ≡ n + count i.1 = omega arith in e)
in_totals count n i (j ∷ is) =
    let e : (n + count i.1) + summed count (j ∷ is) ≡ n + (count i.1 + summed count (j ∷ is)) = omega arith in
    inr (subst (λ k. In k (totals count (n + count i.1) (j ∷ is))) e (in_totals count (n + count i.1) j is))

-- the totals of the first chunks are the first totals
totals_before : (count : ChunkData → ℕ) (n : ℕ) (xs ys : List Item) → Fit (totals count n (xs ++ ys)) → Fit (totals count n xs)
totals_before count n [] ys h = tt
totals_before count n (x ∷ xs) ys h = (h.0, totals_before count (n + count x.1) xs ys h.1)

pub fit_before : (count : ChunkData → ℕ) (n : ℕ) (xs ys : List Item) (ms ns : List ℕ) → (Fit ms → Fit ns) → Fit (totals count n (xs ++ ys) ++ ms) → Fit (totals count n xs ++ ns)
fit_before count n xs ys ms ns f h =
    fit_both (totals count n xs) ns (totals_before count n xs ys (fit_left (totals count n (xs ++ ys)) ms h)) (f (fit_right (totals count n (xs ++ ys)) ms h))

pub holds_left : (look : List ℕ → Option (List ℕ)) (ps qs : List Pair) → Holds look (ps ++ qs) → Holds look ps
holds_left look [] qs h = tt
holds_left look (p ∷ ps) qs h = (h.0, holds_left look ps qs h.1)

pub holds_right : (look : List ℕ → Option (List ℕ)) (ps qs : List Pair) → Holds look (ps ++ qs) → Holds look qs
holds_right look [] qs h = h
holds_right look (p ∷ ps) qs h = holds_right look ps qs h.1

pub counted_same : (n : ℕ) (vs : List ValueData) → length vs ≡ n → counted n vs ≡ Some vs
counted_same n vs e = rw (eq-eqb (length vs) n e) refl

-- a layout gives as many rows as it counts
pub counted_count : (n : ℕ) (vs ws : List ValueData) → counted n vs ≡ Some ws → length ws ≡ n
counted_count n vs ws e = grind (arith)

pub joined-one : {A : Type 0} (xs : List A) → joined (xs ∷ []) ≡ xs
joined-one xs = append-nil xs

pub stream_values-one : (i : Item) → stream_values (i ∷ []) ≡ row_values i.1
stream_values-one i = append-nil (row_values i.1)

pub stream_values-append : (xs ys : List Item) → stream_values (xs ++ ys) ≡ stream_values xs ++ stream_values ys
stream_values-append [] ys = refl
stream_values-append (x ∷ xs) ys = ap (λ r. row_values x.1 ++ r) (stream_values-append xs ys) ∙ sym (append_assoc (row_values x.1) (stream_values xs) (stream_values ys))

pub length-stream_values : (items : List Item) → length (stream_values items) ≡ row_total items
length-stream_values [] = refl
length-stream_values (i ∷ is) =
    let h : length (stream_values is) ≡ row_total is = length-stream_values is in
    let g : length (row_values i.1 ++ stream_values is) ≡ length (row_values i.1) + length (stream_values is) = length-append (row_values i.1) (stream_values is) in
    let k : length (row_values i.1) ≡ length (cells i.1) = length-map (cells i.1) value in
    omega arith

-- A layout gives these rows, and what its zoned nodes promise holds where the strategy is admitted.
pub record Gives {A : Type 0} (admitted : Bool) (s : Setting) (look : A → Option (List ℕ)) (l : LayoutData A) (vs : List ValueData) : Type 0 where
  pub read : rows s.codec look l ≡ Some vs
  pub zones : admitted ≡ true → ZonesHold s look l

pub gives_same : {A : Type 0} (admitted : Bool) (s : Setting) (look : A → Option (List ℕ)) (l : LayoutData A) (vs ws : List ValueData) → Gives admitted s look l vs → vs ≡ ws → Gives admitted s look l ws
gives_same admitted s look l vs ws g e = record { read = g.read ∙ ap Some e; zones = g.zones }

-- Several layouts, each of which gives its rows.
abbrev pub ReadAll : {A : Type 0} → Bool → Setting → (A → Option (List ℕ)) → List (LayoutData A) → List (List ValueData) → Type 0
ReadAll admitted s look [] [] = Unit {0}
ReadAll admitted s look [] (v ∷ vs) = ⊥
ReadAll admitted s look (l ∷ ls) [] = ⊥
ReadAll admitted s look (l ∷ ls) (v ∷ vs) = Gives admitted s look l v × ReadAll admitted s look ls vs

pub all_there_read : {A : Type 0} (admitted : Bool) (s : Setting) (look : A → Option (List ℕ)) (ls : List (LayoutData A)) (vs : List (List ValueData))
    → ReadAll admitted s look ls vs → all_there (each_rows s.codec look (lays_of ls)) ≡ Some vs
all_there_read admitted s look [] [] h = refl
all_there_read admitted s look [] (v ∷ vs) h = absurd h
all_there_read admitted s look (l ∷ ls) [] h = absurd h
all_there_read admitted s look (l ∷ ls) (v ∷ vs) h =
    ap (λ r. all_there (r ∷ each_rows s.codec look (lays_of ls))) h.0.read
    ∙ ap (and_then (λ xs. Some (v ∷ xs))) (all_there_read admitted s look ls vs h.1)

pub all_zones : {A : Type 0} (admitted : Bool) (s : Setting) (look : A → Option (List ℕ)) (ls : List (LayoutData A)) (vs : List (List ValueData)) → ReadAll admitted s look ls vs → admitted ≡ true → AllZoned (IsZoned s look) (lays_of ls)
all_zones admitted s look [] [] h a = tt
all_zones admitted s look [] (v ∷ vs) h a = absurd h
all_zones admitted s look (l ∷ ls) [] h a = absurd h
all_zones admitted s look (l ∷ ls) (v ∷ vs) h a = (h.0.zones a, all_zones admitted s look ls vs h.1 a)

-- one layout is read itself, none or several joined
pub gathered_reads : {A : Type 0} (admitted : Bool) (s : Setting) (look : A → Option (List ℕ)) (t : Ty) (n : ℕ) (ls : List (LayoutData A)) (vs : List (List ValueData))
    → ReadAll admitted s look ls vs → length (joined vs) ≡ n → Gives admitted s look (gathered t n ls) (joined vs)
gathered_reads admitted s look t n [] [] h e = record { read = counted_same n [] e; zones = λ a. (tt, tt) }
gathered_reads admitted s look t n [] (v ∷ vs) h e = absurd h
gathered_reads admitted s look t n (l ∷ ls) [] h e = absurd h
gathered_reads admitted s look t n (l ∷ []) (v ∷ []) h e = gives_same admitted s look l v (v ++ []) h.0 (sym (append-nil v))
gathered_reads admitted s look t n (l ∷ []) (v ∷ w ∷ vs) h e = absurd h.1
gathered_reads admitted s look t n (l ∷ k ∷ ls) (v ∷ vs) h e = record {
  read = ap (λ r. and_then (counted n) (and_then chunked_rows r)) (all_there_read admitted s look (l ∷ k ∷ ls) (v ∷ vs) h)
      ∙ counted_same n (joined (v ∷ vs)) e;
  zones = λ a. (tt, all_zones admitted s look (l ∷ k ∷ ls) (v ∷ vs) h a);
}

-- each element of two joined lists is one of two others, joined
pub in_joined : {A : Type 0} (ps qs rs us : List A) → ((x : A) → In x ps → In x rs) → ((x : A) → In x qs → In x us) → (x : A) → In x (ps ++ qs) → In x (rs ++ us)
in_joined ps qs rs us f g x i = ⊎_elim (λ l. in_left x rs us (f x l)) (λ r. in_right x rs us (g x r)) (in_cases x ps qs i)

none_in : {A : Type 0} (xs ys : List A) → ((x : A) → In x xs → In x ys) → ys ≡ [] → xs ≡ []
none_in [] ys f e = refl
none_in (x ∷ xs) [] f e = absurd (f x (inl refl))
none_in (x ∷ xs) (y ∷ ys) f e = cc

-- where the first plan's faults are among the second's, it has none if the second has none
pub within : {p q : Plan} → ((x : Pair) → In x p.pairs → In x q.pairs) → ((f : Fault) → In f p.faults → In f q.faults) → (q.faults ≡ [] → Fit q.numbers → Fit p.numbers) → p.reserved ≤ q.reserved → Within p q
within {p = p} {q = q} pairs faults fit reserved = record { pairs = pairs; faults = faults; faultless = none_in p.faults q.faults faults; fit = fit; reserved = reserved }

-- What holds of the first plans holds of all, plan by plan.
pub record Grow (ps qs : List Plan) : Type 0 where
  pub pairs : (x : Pair) → In x (all_pairs ps) → In x (all_pairs qs)
  pub faults : (f : Fault) → In f (all_faults ps) → In f (all_faults qs)
  pub fit : all_faults qs ≡ [] → Fit (all_numbers qs) → Fit (all_numbers ps)
  pub reserved : all_reserved ps ≤ all_reserved qs

pub grow_none : (qs : List Plan) → Grow [] qs
grow_none qs = record { pairs = λ x h. absurd h; faults = λ f h. absurd h; fit = λ e h. tt; reserved = omega arith }

pub grow_more : (p q : Plan) (ps qs : List Plan) → Within p q → Grow ps qs → Grow (p ∷ ps) (q ∷ qs)
grow_more p q ps qs a b = record {
  pairs = in_joined p.pairs (all_pairs ps) q.pairs (all_pairs qs) a.pairs b.pairs;
  faults = in_joined p.faults (all_faults ps) q.faults (all_faults qs) a.faults b.faults;
  fit = λ e h. fit_both p.numbers (all_numbers ps)
      (a.fit (nil_left q.faults (all_faults qs) e) (fit_left q.numbers (all_numbers qs) h))
      (b.fit (nil_right q.faults (all_faults qs) e) (fit_right q.numbers (all_numbers qs) h));
  reserved = let l : p.reserved ≤ q.reserved = a.reserved in let r : all_reserved ps ≤ all_reserved qs = b.reserved in omega arith;
}

pub within_itself : (p : Plan) → Within p p
within_itself p = within (λ x h. h) (λ f h. h) (λ e h. h) (omega arith)

-- ---- rows and values of a stream by its cells

pub row_total_cells : (items : List Item) → row_total items ≡ length (stream_cells items)
row_total_cells [] = refl
row_total_cells (i ∷ is) = ap (λ n. length (cells i.1) + n) (row_total_cells is) ∙ sym (length-append (cells i.1) (stream_cells is))

-- what the numbers of a node tell of its cells, and those of its children
pub fit_cells : (items : List Item) (ns ms : List ℕ) → Fit ((row_totals items ++ ns) ++ ms) → (length (stream_cells items) < 2 ^ 64) × Fit ms
fit_cells items ns ms h =
    let a : row_total items < 2 ^ 64 = (fit_total items ns (fit_left (row_totals items ++ ns) ms h)).0 in
    let b : row_total items ≡ length (stream_cells items) = row_total_cells items in
    ((omega arith), fit_right (row_totals items ++ ns) ms h)

pub stream_values_cells : (items : List Item) → stream_values items ≡ map value (stream_cells items)
stream_values_cells [] = refl
stream_values_cells (i ∷ is) = ap (λ r. row_values i.1 ++ r) (stream_values_cells is) ∙ sym (map-append value (cells i.1) (stream_cells is))
