-- A layout that gives its rows counts them, and so does each part that they are read from.
use Rattle.std.proofs.Common.{◌≡◌, ℕ, zero, suc, ◌+◌, ◌<◌, ◌≤◌, List, [], ◌∷◌, length, map, Bool, true, false, Option, Some, None, Ok, Err, refl, sym, ap, subst, ◌∙◌, arith}
use Rattle.std.proofs.lemmas.List.{length-append, length-map}
use Rattle.std.proofs.lemmas.Bool.{eqb-true}
use Rattle.std.specs.Prelude.{◌==◌, ◌&&◌, IsSome, if◌then◌else◌}
use Rattle.vx_model.specs.Words.{all_by}
use Rattle.vx_model.specs.Ty.{Ty, nullable}
use Rattle.vx_model.specs.ValueData.{ValueData}
use Rattle.vx_layout_spec.specs.LayoutTree.{Kind, flat_kind, chunked_kind, struct_kind, list_kind, dict_kind, zoned_kind, unread_zoned_kind, stats_kind, foreign_kind, refused_kind, LayoutData, LayoutList, layout, no_layouts, child, lays_in, children_of, layout_kind, row_count}
use Rattle.vx_layout_spec.specs.Rows.{and_then, all_there, counted, joined, chunked_rows, kept_rows, under_validity, zipped, has_count, fields_rows, struct_rows, picked, dict_rows, data_rows, kind_rows, rows, each_rows}
use Rattle.vx_segment_reader.specs.Codec.{segment_codec}
use Rattle.vx_layout_spec.specs.Refusal.{Refusal, slot_range}
use Rattle.vx_layout_tree.specs.Children.{answered, child_in, kind_name, rows_at}
use Rattle.vx_layout_tree.specs.declared.kind.LayoutKind.{LayoutKind}
use Rattle.vx_layout_tree.specs.declared.kind.LayoutKind.TheVariants as kinds
use Rattle.vx_read.proofs.FaultLaws.{all_there_length}
use Rattle.vx_row_count.specs.Counting.{IsCount, HasChild, rows_of_child, rows_before}

-- ---- rows that are there are as many as they must be

some_is : {A : Type 0} (o : Option A) → IsSome o → (x : A) × (o ≡ Some x)
some_is None h = absurd (cc h)
some_is (Some x) h = (x, refl)

then_some : {A B : Type 0} (f : A → Option B) (o : Option A) (y : B) → and_then f o ≡ Some y → (x : A) × (o ≡ Some x) × (f x ≡ Some y)
then_some f None y e = absurd (let g : None ≡ Some y = e in cc)
then_some f (Some x) y e = (x, refl, e)

counted_is : (n : ℕ) (ws vs : List ValueData) → counted n ws ≡ Some vs → (ws ≡ vs) × (length ws ≡ n)
counted_is n ws vs = by_test (length ws == n) refl
  where
    by_test : (b : Bool) → (length ws == n) ≡ b → (if b then Some ws else None) ≡ Some vs → (ws ≡ vs) × (length ws ≡ n)
    by_test true t e = ((let f : Some ws ≡ Some vs = e in cc), eqb-true (length ws) n t)
    by_test false t e = absurd (let f : None ≡ Some vs = e in cc)

-- a kind with zones beside its data
abbrev pub IsZoned : LayoutKind → Type 0
IsZoned kinds.Zoned = Unit {0}
IsZoned kinds.LegacyStats = Unit {0}
IsZoned k = ⊥

-- a child that is there has a place
pub child_below : (ls : List (LayoutData ℕ)) (i : ℕ) → HasChild ls i → i < length ls
child_below [] i h = absurd (let f : Err (slot_range i 0) ≡ Ok h.0 = h.1 in cc)
child_below (l ∷ ls) zero h = omega arith
child_below (l ∷ ls) (suc i) h = omega (arith, child_below ls i h)

-- what holds of no layout that is refused holds of those alone that are answered as they are
module _ (P : LayoutData ℕ → Type 0) (never : (is_flat : Bool) (refusal : Refusal) (t : Ty) (n : ℕ) (names : List ℕ) (ls : LayoutList ℕ) → ¬ P (layout (refused_kind is_flat refusal) t n names ls)) where
  pub answers : (x : LayoutData ℕ) → P x → answered x ≡ Ok x
  answers (layout (flat_kind encodings tree) t n names ls) h = refl
  answers (layout chunked_kind t n names ls) h = refl
  answers (layout struct_kind t n names ls) h = refl
  answers (layout list_kind t n names ls) h = refl
  answers (layout (dict_kind all) t n names ls) h = refl
  answers (layout (zoned_kind m specs) t n names ls) h = refl
  answers (layout (unread_zoned_kind metadata) t n names ls) h = refl
  answers (layout (stats_kind m stats) t n names ls) h = refl
  answers (layout (foreign_kind id metadata) t n names ls) h = refl
  answers (layout (refused_kind is_flat refusal) t n names ls) h = absurd (never is_flat refusal t n names ls h)

module _ (look : ℕ → Option (List ℕ)) where
  -- the rows that a node's kind gives, and their number
  record Gives (k : Kind) (t : Ty) (n : ℕ) (names : List ℕ) (ls : LayoutList ℕ) (vs : List ValueData) : Type 0 where
    by_kind : kind_rows segment_codec look k t n names (each_rows segment_codec look ls) ≡ Some vs
    many : length vs ≡ n

  gives : (k : Kind) (t : Ty) (n : ℕ) (names : List ℕ) (ls : LayoutList ℕ) (vs : List ValueData) → rows segment_codec look (layout k t n names ls) ≡ Some vs → Gives k t n names ls vs
  gives k t n names ls vs e =
      let p = then_some (counted n) (kind_rows segment_codec look k t n names (each_rows segment_codec look ls)) vs e in
      let q = counted_is n p.0 vs p.2 in
      record { by_kind = p.1 ∙ ap Some q.0; many = rw (← q.0) q.1 }

  pub counts : (l : LayoutData ℕ) (vs : List ValueData) → rows segment_codec look l ≡ Some vs → length vs ≡ row_count l
  counts (layout k t n names ls) vs e = (gives k t n names ls vs e).many

  -- so the count is what the layout counts
  pub is_count : (l : LayoutData ℕ) (n : ℕ) → IsSome (rows segment_codec look l) → n ≡ row_count l → IsCount look l n
  is_count l n there e = let p = some_is (rows segment_codec look l) there in rw (p.1, e, ← counts l p.0 p.1) refl

  pub count_is : (l : LayoutData ℕ) (n : ℕ) → IsSome (rows segment_codec look l) → IsCount look l n → n ≡ row_count l
  count_is l n there e =
      let p = some_is (rows segment_codec look l) there in
      let f : Some (length p.0) ≡ Some n = rw p.1 at e in
      let same : length p.0 ≡ n = cc f in
      sym same ∙ counts l p.0 p.1

  pub whole : (l : LayoutData ℕ) (vs : List ValueData) → rows segment_codec look l ≡ Some vs → IsCount look l (length vs)
  whole l vs e = rw e refl

  -- ---- children

  built : (x : LayoutData ℕ) → IsSome (rows segment_codec look x) → answered x ≡ Ok x
  built x there = answers (λ l. IsSome (rows segment_codec look l)) (λ is_flat refusal t n names ls h. (let f : false ≡ true = h in cc)) x there

  -- a child whose rows are there is there, with these rows, as many as it counts
  pub record Child (ls : List (LayoutData ℕ)) (i : ℕ) : Type 0 where
    pub at : LayoutData ℕ
    pub is : child_in ls i ≡ Ok at
    pub there : IsSome (rows segment_codec look at)
    pub count : rows_at ls i ≡ row_count at

  pub child_of : (ls : List (LayoutData ℕ)) (i : ℕ) → IsSome (rows_of_child look ls i) → Child ls i
  child_of [] i there = absurd (cc there)
  child_of (l ∷ ls) zero there = record { at = l; is = built l there; there = there; count = refl }
  child_of (l ∷ ls) (suc i) there = let c = child_of ls i there in record { at = c.at; is = c.is; there = c.there; count = c.count }

  pub has_child : (ls : List (LayoutData ℕ)) (i : ℕ) → IsSome (rows_of_child look ls i) → HasChild ls i
  has_child ls i there = let c = child_of ls i there in (c.at, c.is)

  -- the first child's rows are there, and those of the others
  record First (o : Option (List ValueData)) (os : List (Option (List ValueData))) (parts : List (List ValueData)) : Type 0 where
    own : List ValueData
    others : List (List ValueData)
    is : o ≡ Some own
    are : all_there os ≡ Some others
    all : own ∷ others ≡ parts

  first : (o : Option (List ValueData)) (os : List (Option (List ValueData))) (parts : List (List ValueData)) → all_there (o ∷ os) ≡ Some parts → First o os parts
  first None os parts e = absurd (let g : None ≡ Some parts = e in cc)
  first (Some vs) os parts e =
      let q = then_some (λ xs. Some (vs ∷ xs)) (all_there os) parts e in
      let g : Some (vs ∷ q.0) ≡ Some parts = q.2 in
      record { own = vs; others = q.0; is = refl; are = q.1; all = (cc g) }

  pub at_child : (ls : List (LayoutData ℕ)) (i : ℕ) (x : LayoutData ℕ) → IsSome (rows_of_child look ls i) → child_in ls i ≡ Ok x → IsSome (rows segment_codec look x) × (rows_at ls i ≡ row_count x)
  at_child ls i x there is =
      let c = child_of ls i there in
      let same : c.at ≡ x = (let e : Ok c.at ≡ Ok x = sym c.is ∙ is in cc e) in
      (subst (λ y. IsSome (rows segment_codec look y)) same c.there, c.count ∙ ap row_count same)

  pub child_count : (ls : List (LayoutData ℕ)) (i : ℕ) (x y : LayoutData ℕ) (n : ℕ) → IsSome (rows_of_child look ls i) → child_in ls i ≡ Ok x → y ≡ x → IsCount look y n → n ≡ rows_at ls i
  child_count ls i x y n there is same counted =
      let c = at_child ls i x there is in
      count_is x n c.0 (rw same at counted) ∙ sym c.1

  -- all children's rows are there
  each_there : (ls : LayoutList ℕ) (parts : List (List ValueData)) (i : ℕ) → all_there (each_rows segment_codec look ls) ≡ Some parts → i < length (lays_in ls) → IsSome (rows_of_child look (lays_in ls) i)
  each_there no_layouts parts i e less = absurd (omega (arith, less))
  each_there (child l ls) parts zero e less = let f = first (rows segment_codec look l) (each_rows segment_codec look ls) parts e in rw f.is refl
  each_there (child l ls) parts (suc i) e less = let f = first (rows segment_codec look l) (each_rows segment_codec look ls) parts e in each_there ls f.others i f.are (omega (arith, less))

  -- ---- chunks: what is counted before a place, and of all

  all_rows : (ls : LayoutList ℕ) (parts : List (List ValueData)) → all_there (each_rows segment_codec look ls) ≡ Some parts → length (joined parts) ≡ rows_before (lays_in ls) (length (lays_in ls))
  all_rows no_layouts parts e = let f : Some [] ≡ Some parts = e in let none : [] ≡ parts = cc f in rw (← none) refl
  all_rows (child l ls) parts e =
      let f = first (rows segment_codec look l) (each_rows segment_codec look ls) parts e in
      rw (← f.all) (omega (arith, length-append f.own (joined f.others), counts l f.own f.is, all_rows ls f.others f.are))

  next_before : (ls : List (LayoutData ℕ)) (i : ℕ) → i < length ls → rows_before ls (suc i) ≡ rows_before ls i + rows_at ls i
  next_before [] i less = absurd (omega (arith, less))
  next_before (l ∷ ls) zero less = omega arith
  next_before (l ∷ ls) (suc i) less = omega (arith, next_before ls i (omega (arith, less)))

  pub before_next : (ls : List (LayoutData ℕ)) (i : ℕ) → i < length ls → rows_before ls (i + 1) ≡ rows_before ls i + rows_at ls i
  before_next ls i less = let e : i + 1 ≡ suc i = omega arith in rw e (next_before ls i less)

  pub before_less : (ls : List (LayoutData ℕ)) (i : ℕ) → rows_before ls i ≤ rows_before ls (length ls)
  before_less ls zero = omega arith
  before_less [] (suc i) = omega arith
  before_less (l ∷ ls) (suc i) = omega (arith, before_less ls i)

  -- what is counted up to a place is less than all
  pub before_all : (ls : List (LayoutData ℕ)) (i : ℕ) → i < length ls → rows_before ls i + rows_at ls i ≤ rows_before ls (length ls)
  before_all ls i less = rw (← before_next ls i less) (before_less ls (i + 1))

  -- a chunk's rows are there, and all chunks count the rows
  pub record Chunks (l : LayoutData ℕ) : Type 0 where
    pub each : (i : ℕ) → i < length (children_of l) → IsSome (rows_of_child look (children_of l) i)
    pub all : rows_before (children_of l) (length (children_of l)) ≡ row_count l

  pub chunks : (l : LayoutData ℕ) → IsSome (rows segment_codec look l) → kind_name (layout_kind l) ≡ kinds.Chunked → Chunks l
  chunks (layout chunked_kind t n names ls) there is =
      let p = some_is (rows segment_codec look (layout chunked_kind t n names ls)) there in
      let g = gives chunked_kind t n names ls p.0 p.1 in
      let q = then_some chunked_rows (all_there (each_rows segment_codec look ls)) p.0 g.by_kind in
      let f : Some (joined q.0) ≡ Some p.0 = q.2 in
      let same : joined q.0 ≡ p.0 = cc f in
      record { each = λ i less. each_there ls q.0 i q.1 less; all = sym (all_rows ls q.0 q.1) ∙ (ap length same ∙ g.many) }
  chunks (layout (flat_kind encodings tree) t n names ls) there is = absurd (let f : kinds.Flat ≡ kinds.Chunked = is in cc)
  chunks (layout struct_kind t n names ls) there is = absurd (let f : kinds.Struct ≡ kinds.Chunked = is in cc)
  chunks (layout list_kind t n names ls) there is = absurd (let f : kinds.List ≡ kinds.Chunked = is in cc)
  chunks (layout (dict_kind all) t n names ls) there is = absurd (let f : kinds.Dict ≡ kinds.Chunked = is in cc)
  chunks (layout (zoned_kind m specs) t n names ls) there is = absurd (let f : kinds.Zoned ≡ kinds.Chunked = is in cc)
  chunks (layout (unread_zoned_kind metadata) t n names ls) there is = absurd (let f : kinds.Zoned ≡ kinds.Chunked = is in cc)
  chunks (layout (stats_kind m stats) t n names ls) there is = absurd (let f : kinds.LegacyStats ≡ kinds.Chunked = is in cc)
  chunks (layout (foreign_kind id metadata) t n names ls) there is = absurd (let f : kinds.Foreign ≡ kinds.Chunked = is in cc)
  chunks (layout (refused_kind is_flat refusal) t n names ls) there is = absurd (let f : kinds.Foreign ≡ kinds.Chunked = is in cc)

  -- ---- columns: each has as many rows as the struct

  first_of_both : (a b : Bool) → (a && b) ≡ true → (a ≡ true) × (b ≡ true)
  first_of_both true true e = (refl, refl)
  first_of_both true false e = absurd (let f : false ≡ true = e in cc)
  first_of_both false b e = absurd (let f : false ≡ true = e in cc)

  when_some : {A : Type 0} (b : Bool) (x y : A) → (if b then Some x else None) ≡ Some y → b ≡ true
  when_some true x y e = refl
  when_some false x y e = absurd (let f : None ≡ Some y = e in cc)

  fields_count : (n : ℕ) (columns : List (List ValueData)) (vs : List ValueData) → fields_rows n columns ≡ Some vs → all_by (has_count n) columns ≡ true
  fields_count n columns vs e = when_some (all_by (has_count n) columns) (zipped n columns) vs e

  columns_count : (nul : Bool) (n : ℕ) (columns : List (List ValueData)) (vs : List ValueData) → struct_rows nul n columns ≡ Some vs → all_by (has_count n) columns ≡ true
  columns_count false n columns vs e = fields_count n columns vs e
  columns_count true n [] vs e = absurd (let f : None ≡ Some vs = e in cc)
  columns_count true n (flags ∷ columns) vs e =
      let q = then_some (under_validity n flags) (fields_rows n columns) vs e in
      let a : has_count n flags ≡ true = when_some (has_count n flags) (kept_rows flags q.0) vs q.2 in
      let b : all_by (has_count n) columns ≡ true = fields_count n columns q.0 q.1 in
      rw (a, b) refl

  -- where each of the parts has so many rows, so does each child
  each_counts : (n : ℕ) (ls : LayoutList ℕ) (parts : List (List ValueData)) (i : ℕ) → all_there (each_rows segment_codec look ls) ≡ Some parts → all_by (has_count n) parts ≡ true
      → i < length (lays_in ls) → rows_at (lays_in ls) i ≡ n
  each_counts n no_layouts parts i e many less = absurd (omega (arith, less))
  each_counts n (child l ls) parts zero e many less =
      let f = first (rows segment_codec look l) (each_rows segment_codec look ls) parts e in
      let both = first_of_both (has_count n f.own) (all_by (has_count n) f.others) (rw (← f.all) at many) in
      sym (counts l f.own f.is) ∙ eqb-true (length f.own) n both.0
  each_counts n (child l ls) parts (suc i) e many less =
      let f = first (rows segment_codec look l) (each_rows segment_codec look ls) parts e in
      let both = first_of_both (has_count n f.own) (all_by (has_count n) f.others) (rw (← f.all) at many) in
      each_counts n ls f.others i f.are both.1 (omega (arith, less))

  pub record Columns (l : LayoutData ℕ) : Type 0 where
    pub each : (i : ℕ) → i < length (children_of l) → IsSome (rows_of_child look (children_of l) i)
    pub count : (i : ℕ) → i < length (children_of l) → rows_at (children_of l) i ≡ row_count l

  pub columns : (l : LayoutData ℕ) → IsSome (rows segment_codec look l) → kind_name (layout_kind l) ≡ kinds.Struct → Columns l
  columns (layout struct_kind t n names ls) there is =
      let p = some_is (rows segment_codec look (layout struct_kind t n names ls)) there in
      let g = gives struct_kind t n names ls p.0 p.1 in
      let q = then_some (struct_rows (nullable t) n) (all_there (each_rows segment_codec look ls)) p.0 g.by_kind in
      record { each = λ i less. each_there ls q.0 i q.1 less; count = λ i less. each_counts n ls q.0 i q.1 (columns_count (nullable t) n q.0 p.0 q.2) less }
  columns (layout (flat_kind encodings tree) t n names ls) there is = absurd (let f : kinds.Flat ≡ kinds.Struct = is in cc)
  columns (layout chunked_kind t n names ls) there is = absurd (let f : kinds.Chunked ≡ kinds.Struct = is in cc)
  columns (layout list_kind t n names ls) there is = absurd (let f : kinds.List ≡ kinds.Struct = is in cc)
  columns (layout (dict_kind all) t n names ls) there is = absurd (let f : kinds.Dict ≡ kinds.Struct = is in cc)
  columns (layout (zoned_kind m specs) t n names ls) there is = absurd (let f : kinds.Zoned ≡ kinds.Struct = is in cc)
  columns (layout (unread_zoned_kind metadata) t n names ls) there is = absurd (let f : kinds.Zoned ≡ kinds.Struct = is in cc)
  columns (layout (stats_kind m stats) t n names ls) there is = absurd (let f : kinds.LegacyStats ≡ kinds.Struct = is in cc)
  columns (layout (foreign_kind id metadata) t n names ls) there is = absurd (let f : kinds.Foreign ≡ kinds.Struct = is in cc)
  columns (layout (refused_kind is_flat refusal) t n names ls) there is = absurd (let f : kinds.Foreign ≡ kinds.Struct = is in cc)

  -- ---- a dictionary: a code a row

  record Two (parts : List (List ValueData)) (n : ℕ) : Type 0 where
    values : List ValueData
    code : List ValueData
    are : parts ≡ values ∷ code ∷ []
    many : length code ≡ n

  two_parts : (parts : List (List ValueData)) (vs : List ValueData) → dict_rows parts ≡ Some vs → Two parts (length vs)
  two_parts [] vs e = absurd (let f : None ≡ Some vs = e in cc)
  two_parts (a ∷ []) vs e = absurd (let f : None ≡ Some vs = e in cc)
  two_parts (a ∷ b ∷ []) vs e = record { values = a; code = b; are = refl; many = sym (all_there_length (map (picked a) b) vs e ∙ length-map b (picked a)) }
  two_parts (a ∷ b ∷ c ∷ parts) vs e = absurd (let f : None ≡ Some vs = e in cc)

  pub record Coded (l : LayoutData ℕ) : Type 0 where
    pub values : IsSome (rows_of_child look (children_of l) 0)
    pub codes : IsSome (rows_of_child look (children_of l) 1)
    pub count : rows_at (children_of l) 1 ≡ row_count l

  coded_by : (n : ℕ) (all : Bool) (t : Ty) (names : List ℕ) (ls : LayoutList ℕ) (a b vs : List ValueData) → all_there (each_rows segment_codec look ls) ≡ Some (a ∷ b ∷ []) → length b ≡ length vs → length vs ≡ n
      → Coded (layout (dict_kind all) t n names ls)
  coded_by n all t names no_layouts a b vs e same many = absurd (let f : Some [] ≡ Some (a ∷ b ∷ []) = e in cc)
  coded_by n all t names (child l no_layouts) a b vs e same many =
      absurd (let f : suc (suc zero) ≡ suc zero = all_there_length (each_rows segment_codec look (child l no_layouts)) (a ∷ b ∷ []) e in omega (arith, f))
  coded_by n all t names (child l (child k ls)) a b vs e same many =
      let f = first (rows segment_codec look l) (each_rows segment_codec look (child k ls)) (a ∷ b ∷ []) e in
      let g = first (rows segment_codec look k) (each_rows segment_codec look ls) f.others f.are in
      let behind : f.others ≡ b ∷ [] = (let h : f.own ∷ f.others ≡ a ∷ b ∷ [] = f.all in cc h) in
      let own : g.own ≡ b = (let u : g.own ∷ g.others ≡ b ∷ [] = g.all ∙ behind in cc u) in
      record { values = rw f.is refl; codes = rw g.is refl; count = sym (counts k g.own g.is) ∙ (ap length own ∙ (same ∙ many)) }

  pub coded : (l : LayoutData ℕ) → IsSome (rows segment_codec look l) → kind_name (layout_kind l) ≡ kinds.Dict → Coded l
  coded (layout (dict_kind all) t n names ls) there is =
      let p = some_is (rows segment_codec look (layout (dict_kind all) t n names ls)) there in
      let g = gives (dict_kind all) t n names ls p.0 p.1 in
      let q = then_some dict_rows (all_there (each_rows segment_codec look ls)) p.0 g.by_kind in
      let two = two_parts q.0 p.0 q.2 in
      coded_by n all t names ls two.values two.code p.0 (q.1 ∙ ap Some two.are) two.many g.many
  coded (layout (flat_kind encodings tree) t n names ls) there is = absurd (let f : kinds.Flat ≡ kinds.Dict = is in cc)
  coded (layout chunked_kind t n names ls) there is = absurd (let f : kinds.Chunked ≡ kinds.Dict = is in cc)
  coded (layout struct_kind t n names ls) there is = absurd (let f : kinds.Struct ≡ kinds.Dict = is in cc)
  coded (layout list_kind t n names ls) there is = absurd (let f : kinds.List ≡ kinds.Dict = is in cc)
  coded (layout (zoned_kind m specs) t n names ls) there is = absurd (let f : kinds.Zoned ≡ kinds.Dict = is in cc)
  coded (layout (unread_zoned_kind metadata) t n names ls) there is = absurd (let f : kinds.Zoned ≡ kinds.Dict = is in cc)
  coded (layout (stats_kind m stats) t n names ls) there is = absurd (let f : kinds.LegacyStats ≡ kinds.Dict = is in cc)
  coded (layout (foreign_kind id metadata) t n names ls) there is = absurd (let f : kinds.Foreign ≡ kinds.Dict = is in cc)
  coded (layout (refused_kind is_flat refusal) t n names ls) there is = absurd (let f : kinds.Foreign ≡ kinds.Dict = is in cc)

  -- ---- zones: the data's rows

  pub record Data (l : LayoutData ℕ) : Type 0 where
    pub there : IsSome (rows_of_child look (children_of l) 0)
    pub count : rows_at (children_of l) 0 ≡ row_count l

  data_by : (k : Kind) (t : Ty) (n : ℕ) (names : List ℕ) (ls : LayoutList ℕ) (vs : List ValueData) → data_rows (each_rows segment_codec look ls) ≡ Some vs → length vs ≡ n → Data (layout k t n names ls)
  data_by k t n names no_layouts vs e many = absurd (let f : None ≡ Some vs = e in cc)
  data_by k t n names (child a no_layouts) vs e many = absurd (let f : None ≡ Some vs = e in cc)
  data_by k t n names (child a (child b no_layouts)) vs e many = record { there = rw e refl; count = sym (counts a vs e) ∙ many }
  data_by k t n names (child a (child b (child c ls))) vs e many = absurd (let f : None ≡ Some vs = e in cc)

  pub zones : (l : LayoutData ℕ) → IsSome (rows segment_codec look l) → IsZoned (kind_name (layout_kind l)) → Data l
  zones (layout (zoned_kind m specs) t n names ls) there is =
      let p = some_is (rows segment_codec look (layout (zoned_kind m specs) t n names ls)) there in
      let g = gives (zoned_kind m specs) t n names ls p.0 p.1 in data_by (zoned_kind m specs) t n names ls p.0 g.by_kind g.many
  zones (layout (unread_zoned_kind metadata) t n names ls) there is =
      let p = some_is (rows segment_codec look (layout (unread_zoned_kind metadata) t n names ls)) there in
      let g = gives (unread_zoned_kind metadata) t n names ls p.0 p.1 in data_by (unread_zoned_kind metadata) t n names ls p.0 g.by_kind g.many
  zones (layout (stats_kind m stats) t n names ls) there is =
      let p = some_is (rows segment_codec look (layout (stats_kind m stats) t n names ls)) there in
      let g = gives (stats_kind m stats) t n names ls p.0 p.1 in data_by (stats_kind m stats) t n names ls p.0 g.by_kind g.many
  zones (layout (flat_kind encodings tree) t n names ls) there is = absurd is
  zones (layout chunked_kind t n names ls) there is = absurd is
  zones (layout struct_kind t n names ls) there is = absurd is
  zones (layout list_kind t n names ls) there is = absurd is
  zones (layout (dict_kind all) t n names ls) there is = absurd is
  zones (layout (foreign_kind id metadata) t n names ls) there is = absurd is
  zones (layout (refused_kind is_flat refusal) t n names ls) there is = absurd is

pub ruleset count_rules = (before_next)
