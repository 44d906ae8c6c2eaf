-- The laws of the order of values.
use Rattle.std.proofs.Common.{◌≡◌, ◌⊎◌, ◌&&◌, ◌||◌, Bool, true, false, not, List, [], ◌∷◌, refl, sym, ap, ◌∙◌, subst, inl, inr, ⊎_elim, arith}
use Rattle.std.specs.Prelude.{if◌then◌else◌, int_lt, ℤ}
use Rattle.std.proofs.lemmas.Bool.{cases_Bool, true≢false, and_parts}
use Rattle.std.proofs.lemmas.Int.{ints}
use Rattle.vx_model.specs.ValueData.{ValueData, null_value, bool_value, int_value, text_value, bytes_value, list_value, struct_value}
use Rattle.vx_path.specs.Path.{path_le}
use Rattle.vx_path.proofs.Path.{path_le-refl, path_le-trans, path_le-total, path_le-antisym}
use Rattle.vx_zone_spec.specs.ValueOrder.{value_le, value_lt, value_same, greater, lesser, greatest, least}
use Rattle.vx_zone_spec.proofs.Sorts.{Sort, truths, numbers, texts, blobs, nested, has_sort, AllSort, Literal}

clash : (b : Bool) → not b ≡ true → b ≡ true → ⊥
clash true h e = true≢false (sym h)
clash false h e = true≢false (sym e)

double : (b : Bool) → not (not b) ≡ b
double true = refl
double false = refl

int_le_trans : (a b c : ℤ) → not (int_lt b a) ≡ true → not (int_lt c b) ≡ true → not (int_lt c a) ≡ true
int_le_trans a b c g h = grind (arith, ints)

int_le_refl : (a : ℤ) → not (int_lt a a) ≡ true
int_le_refl a = grind (arith, ints)

int_le_total : (a b : ℤ) → not (int_lt b a) ≡ false → not (int_lt a b) ≡ true
int_le_total a b h = grind (arith, ints)

int_same : (a b : ℤ) → not (int_lt b a) ≡ true → not (int_lt a b) ≡ true → a ≡ b
int_same a b g h = grind (arith, ints)

-- ---- values

pub lt_not_ge : (v w : ValueData) → value_lt v w ≡ true → value_le w v ≡ true → ⊥
lt_not_ge (bool_value true) (bool_value b) g h = true≢false (sym g)
lt_not_ge (bool_value false) (bool_value true) g h = true≢false (sym h)
lt_not_ge (bool_value false) (bool_value false) g h = true≢false (sym g)
lt_not_ge (int_value a) (int_value b) g h = clash (int_lt a b) h g
lt_not_ge (text_value a) (text_value b) g h = clash (path_le b a) g h
lt_not_ge (bytes_value a) (bytes_value b) g h = clash (path_le b a) g h
lt_not_ge v w g h = absurd (true≢false (sym g))

pub le_trans : (u v w : ValueData) → value_le u v ≡ true → value_le v w ≡ true → value_le u w ≡ true
le_trans (bool_value true) (bool_value true) (bool_value c) g h = h
le_trans (bool_value true) (bool_value false) (bool_value c) g h = absurd (true≢false (sym g))
le_trans (bool_value false) (bool_value b) (bool_value c) g h = refl
le_trans (int_value a) (int_value b) (int_value c) g h = int_le_trans a b c g h
le_trans (text_value a) (text_value b) (text_value c) g h = path_le-trans a b c g h
le_trans (bytes_value a) (bytes_value b) (bytes_value c) g h = path_le-trans a b c g h
le_trans u v w g h = cc

pub literal_refl : (s : Sort) (v : ValueData) → Literal s v → value_le v v ≡ true
literal_refl truths (bool_value true) l = refl
literal_refl truths (bool_value false) l = refl
literal_refl numbers (int_value n) l = int_le_refl n
literal_refl texts (text_value t) l = path_le-refl t
literal_refl blobs (bytes_value t) l = path_le-refl t
literal_refl s v l = absurd l

-- two values of one sort that can be compared
abbrev pub Pair : Sort → ValueData → ValueData → Type 0
Pair truths (bool_value a) (bool_value b) = Unit {0}
Pair numbers (int_value a) (int_value b) = Unit {0}
Pair texts (text_value a) (text_value b) = Unit {0}
Pair blobs (bytes_value a) (bytes_value b) = Unit {0}
Pair s v w = ⊥

pub pair_of : (s : Sort) (v w : ValueData) → Literal s v → Literal s w → Pair s v w
pair_of truths (bool_value a) (bool_value b) l k = tt
pair_of truths (bool_value a) null_value l k = absurd k
pair_of truths (bool_value a) (int_value b) l k = absurd k
pair_of truths (bool_value a) (text_value b) l k = absurd k
pair_of truths (bool_value a) (bytes_value b) l k = absurd k
pair_of truths (bool_value a) (list_value b) l k = absurd k
pair_of truths (bool_value a) (struct_value b) l k = absurd k
pair_of numbers (int_value a) (int_value b) l k = tt
pair_of numbers (int_value a) null_value l k = absurd k
pair_of numbers (int_value a) (bool_value b) l k = absurd k
pair_of numbers (int_value a) (text_value b) l k = absurd k
pair_of numbers (int_value a) (bytes_value b) l k = absurd k
pair_of numbers (int_value a) (list_value b) l k = absurd k
pair_of numbers (int_value a) (struct_value b) l k = absurd k
pair_of texts (text_value a) (text_value b) l k = tt
pair_of texts (text_value a) null_value l k = absurd k
pair_of texts (text_value a) (bool_value b) l k = absurd k
pair_of texts (text_value a) (int_value b) l k = absurd k
pair_of texts (text_value a) (bytes_value b) l k = absurd k
pair_of texts (text_value a) (list_value b) l k = absurd k
pair_of texts (text_value a) (struct_value b) l k = absurd k
pair_of blobs (bytes_value a) (bytes_value b) l k = tt
pair_of blobs (bytes_value a) null_value l k = absurd k
pair_of blobs (bytes_value a) (bool_value b) l k = absurd k
pair_of blobs (bytes_value a) (int_value b) l k = absurd k
pair_of blobs (bytes_value a) (text_value b) l k = absurd k
pair_of blobs (bytes_value a) (list_value b) l k = absurd k
pair_of blobs (bytes_value a) (struct_value b) l k = absurd k
pair_of s v w l k = absurd l

pub le_total : (s : Sort) (v w : ValueData) → Pair s v w → value_le v w ≡ false → value_le w v ≡ true
le_total truths (bool_value a) (bool_value true) p h = absurd (true≢false (sym (or_true (not a)) ∙ h))
  where
    or_true : (b : Bool) → (b || true) ≡ true
    or_true true = refl
    or_true false = refl
le_total truths (bool_value a) (bool_value false) p h = refl
le_total numbers (int_value a) (int_value b) p h = int_le_total a b h
le_total texts (text_value a) (text_value b) p h = ⊎_elim (λ t. absurd (true≢false (sym t ∙ h))) (λ t. t) (path_le-total a b)
le_total blobs (bytes_value a) (bytes_value b) p h = ⊎_elim (λ t. absurd (true≢false (sym t ∙ h))) (λ t. t) (path_le-total a b)
le_total s v w p h = absurd p

-- values that are the same are equal
pub same_equal : (v w : ValueData) → value_same v w ≡ true → v ≡ w
same_equal (bool_value true) (bool_value true) h = refl
same_equal (bool_value false) (bool_value false) h = refl
same_equal (int_value a) (int_value b) h = ap int_value (int_same a b (and_parts (not (int_lt b a)) (not (int_lt a b)) h).0 (and_parts (not (int_lt b a)) (not (int_lt a b)) h).1)
same_equal (text_value a) (text_value b) h = ap text_value (path_le-antisym a b (and_parts (path_le a b) (path_le b a) h).0 (and_parts (path_le a b) (path_le b a) h).1)
same_equal (bytes_value a) (bytes_value b) h = ap bytes_value (path_le-antisym a b (and_parts (path_le a b) (path_le b a) h).0 (and_parts (path_le a b) (path_le b a) h).1)
same_equal v w h = cc

-- ---- negated comparisons, of values of one sort

pub not_lt : (s : Sort) (v w : ValueData) → Pair s v w → not (value_lt w v) ≡ value_le v w
not_lt truths (bool_value true) (bool_value true) p = refl
not_lt truths (bool_value true) (bool_value false) p = refl
not_lt truths (bool_value false) (bool_value true) p = refl
not_lt truths (bool_value false) (bool_value false) p = refl
not_lt numbers (int_value a) (int_value b) p = refl
not_lt texts (text_value a) (text_value b) p = double (path_le a b)
not_lt blobs (bytes_value a) (bytes_value b) p = double (path_le a b)
not_lt s v w p = absurd p

pub not_le : (s : Sort) (v w : ValueData) → Pair s v w → not (value_le w v) ≡ value_lt v w
not_le truths (bool_value true) (bool_value true) p = refl
not_le truths (bool_value true) (bool_value false) p = refl
not_le truths (bool_value false) (bool_value true) p = refl
not_le truths (bool_value false) (bool_value false) p = refl
not_le numbers (int_value a) (int_value b) p = double (int_lt a b)
not_le texts (text_value a) (text_value b) p = refl
not_le blobs (bytes_value a) (bytes_value b) p = refl
not_le s v w p = absurd p

-- ---- the greatest and the least

greater_is : (s : Sort) (v w : ValueData) → Pair s v w → greater v w ≡ (if value_le v w then w else v)
greater_is truths (bool_value a) (bool_value b) p = refl
greater_is numbers (int_value a) (int_value b) p = refl
greater_is texts (text_value a) (text_value b) p = refl
greater_is blobs (bytes_value a) (bytes_value b) p = refl
greater_is s v w p = absurd p

lesser_is : (s : Sort) (v w : ValueData) → Pair s v w → lesser v w ≡ (if value_le v w then v else w)
lesser_is truths (bool_value a) (bool_value b) p = refl
lesser_is numbers (int_value a) (int_value b) p = refl
lesser_is texts (text_value a) (text_value b) p = refl
lesser_is blobs (bytes_value a) (bytes_value b) p = refl
lesser_is s v w p = absurd p

-- null, or a value that can be compared with others of the sort
pub data Cell : Sort → ValueData → Type 0 where
  nothing : {s : Sort} → Cell s null_value
  something : {s : Sort} {v : ValueData} → Literal s v → has_sort s v ≡ true → Cell s v

pub cell_of : (s : Sort) (v : ValueData) → (s ≡ nested → ⊥) → has_sort s v ≡ true → Cell s v
cell_of s null_value n h = nothing
cell_of truths (bool_value b) n h = something tt refl
cell_of numbers (int_value b) n h = something tt refl
cell_of texts (text_value b) n h = something tt h
cell_of blobs (bytes_value b) n h = something tt refl
cell_of nested v n h = absurd (n refl)
cell_of s v n h = absurd (true≢false (sym h))

greater_null : (v : ValueData) → greater v null_value ≡ v
greater_null null_value = refl
greater_null (bool_value b) = refl
greater_null (int_value b) = refl
greater_null (text_value b) = refl
greater_null (bytes_value b) = refl
greater_null (list_value b) = refl
greater_null (struct_value b) = refl

lesser_null : (v : ValueData) → lesser v null_value ≡ v
lesser_null null_value = refl
lesser_null (bool_value b) = refl
lesser_null (int_value b) = refl
lesser_null (text_value b) = refl
lesser_null (bytes_value b) = refl
lesser_null (list_value b) = refl
lesser_null (struct_value b) = refl

-- each value is null or at most g; or at least g
abbrev pub Under : ValueData → List ValueData → Type 0
Under g [] = Unit {0}
Under g (v ∷ vs) = ((v ≡ null_value) ⊎ (value_le v g ≡ true)) × Under g vs

abbrev pub Over : ValueData → List ValueData → Type 0
Over g [] = Unit {0}
Over g (v ∷ vs) = ((v ≡ null_value) ⊎ (value_le g v ≡ true)) × Over g vs

under_more : (g h : ValueData) (vs : List ValueData) → value_le g h ≡ true → Under g vs → Under h vs
under_more g h [] e u = tt
under_more g h (v ∷ vs) e u = (⊎_elim (λ n. inl n) (λ l. inr (le_trans v g h l e)) u.0, under_more g h vs e u.1)

over_more : (g h : ValueData) (vs : List ValueData) → value_le h g ≡ true → Over g vs → Over h vs
over_more g h [] e u = tt
over_more g h (v ∷ vs) e u = (⊎_elim (λ n. inl n) (λ l. inr (le_trans h g v e l)) u.0, over_more g h vs e u.1)

-- all null, or a greatest value
abbrev pub Top : Sort → List ValueData → ValueData → Type 0
Top s vs g = ((g ≡ null_value) × Under g vs) ⊎ (Literal s g × (has_sort s g ≡ true) × Under g vs)

abbrev pub Bottom : Sort → List ValueData → ValueData → Type 0
Bottom s vs g = ((g ≡ null_value) × Over g vs) ⊎ (Literal s g × (has_sort s g ≡ true) × Over g vs)

null_under : (g h : ValueData) (vs : List ValueData) → g ≡ null_value → Under g vs → Under h vs
null_under g h [] e u = tt
null_under g h (v ∷ vs) e u = (⊎_elim (λ n. inl n) (λ l. absurd (no_le v (subst (λ z. value_le v z ≡ true) e l))) u.0, null_under g h vs e u.1)
  where
    no_le : (w : ValueData) → value_le w null_value ≡ true → ⊥
    no_le null_value h = true≢false (sym h)
    no_le (bool_value b) h = true≢false (sym h)
    no_le (int_value b) h = true≢false (sym h)
    no_le (text_value b) h = true≢false (sym h)
    no_le (bytes_value b) h = true≢false (sym h)
    no_le (list_value b) h = true≢false (sym h)
    no_le (struct_value b) h = true≢false (sym h)

null_over : (g h : ValueData) (vs : List ValueData) → g ≡ null_value → Over g vs → Over h vs
null_over g h [] e u = tt
null_over g h (v ∷ vs) e u = (⊎_elim (λ n. inl n) (λ l. absurd (true≢false (sym (subst (λ z. value_le z v ≡ true) e l)))) u.0, null_over g h vs e u.1)

pub greatest_top : (s : Sort) → (s ≡ nested → ⊥) → (vs : List ValueData) → AllSort s vs → Top s vs (greatest vs)
greatest_top s n [] h = inl (refl, tt)
greatest_top s n (v ∷ vs) h = go v (greatest vs) (cell_of s v n h.0) (greatest_top s n vs h.1)
  where
    go : (v g : ValueData) → Cell s v → Top s vs g → Top s (v ∷ vs) (greater v g)
    go v g nothing (inl t) = inl (t.0, (inl refl, t.1))
    go v g nothing (inr t) = inr (t.0, t.1, (inl refl, t.2))
    go v g (something l k) (inl t) =
        subst (λ z. Top s (v ∷ vs) (greater v z)) (sym t.0) (subst (Top s (v ∷ vs)) (sym (greater_null v)) (inr (l, k, (inr (literal_refl s v l), null_under g v vs t.0 t.1))))
    go v g (something l k) (inr t) = subst (Top s (v ∷ vs)) (sym (greater_is s v g (pair_of s v g l t.0)))
        (⊎_elim
        (λ (e : value_le v g ≡ true). subst (λ b. Top s (v ∷ vs) (if b then g else v)) (sym e) (inr (t.0, t.1, (inr e, t.2))))
        (λ (e : value_le v g ≡ false). subst (λ b. Top s (v ∷ vs) (if b then g else v)) (sym e)
        (inr (l, k, (inr (literal_refl s v l), under_more g v vs (le_total s v g (pair_of s v g l t.0) e) t.2))))
        (cases_Bool (value_le v g)))

pub least_bottom : (s : Sort) → (s ≡ nested → ⊥) → (vs : List ValueData) → AllSort s vs → Bottom s vs (least vs)
least_bottom s n [] h = inl (refl, tt)
least_bottom s n (v ∷ vs) h = go v (least vs) (cell_of s v n h.0) (least_bottom s n vs h.1)
  where
    go : (v g : ValueData) → Cell s v → Bottom s vs g → Bottom s (v ∷ vs) (lesser v g)
    go v g nothing (inl t) = inl (t.0, (inl refl, t.1))
    go v g nothing (inr t) = inr (t.0, t.1, (inl refl, t.2))
    go v g (something l k) (inl t) =
        subst (λ z. Bottom s (v ∷ vs) (lesser v z)) (sym t.0) (subst (Bottom s (v ∷ vs)) (sym (lesser_null v)) (inr (l, k, (inr (literal_refl s v l), null_over g v vs t.0 t.1))))
    go v g (something l k) (inr t) = subst (Bottom s (v ∷ vs)) (sym (lesser_is s v g (pair_of s v g l t.0)))
        (⊎_elim
        (λ (e : value_le v g ≡ true). subst (λ b. Bottom s (v ∷ vs) (if b then v else g)) (sym e) (inr (l, k, (inr (literal_refl s v l), over_more g v vs e t.2))))
        (λ (e : value_le v g ≡ false). subst (λ b. Bottom s (v ∷ vs) (if b then v else g)) (sym e) (inr (t.0, t.1, (inr (le_total s v g (pair_of s v g l t.0) e), t.2))))
        (cases_Bool (value_le v g)))
