-- The definition of strategies reads the strategies within by itself.
use Rattle.std.proofs.Common.{◌≡◌, ℕ, zero, suc, ◌<◌, ◌≤◌, List, Option, Some, None, refl, ap, arith}
use Rattle.std.specs.Prelude.{option_map, option_and_then, codes}
use Rattle.serde_json.specs.Data.{Data, null, boolean, number, string, array, object, Items, no_items, item, depth, items_depth}
use Rattle.serde_json.specs.Find.{get, as_str}
use Rattle.vx_json.specs.Steps.{given}
use Rattle.vx_json.specs.Lists.{each}
use Rattle.vx_json.specs.Values.{all, at, both_at, or_null, two, both, both_of, pair, only_member}
use Rattle.vx_strategy_json.specs.Forms.{Reads, form, kind_of, repartition_of, buffered_of, compress_of, zoned_of, dict_form, list_of, struct_of, table_of, zoned_around, kind_of_wrap, wrap_of}
use Rattle.vx_strategy_json.specs.StrategyText.{strategy_in, strategy_of}
use Rattle.vx_strategy_json.proofs.Depths.{get_depth, only_depth, two_depth}

-- both read the same of what nests less than n levels
pub Same : {A : Type 0} → (Data → Option A) → (Data → Option A) → ℕ → Type 0
Same s t n = (e : Data) → depth e < n → s e ≡ t e

same : {A : Type 0} (s t : Data → Option A) (n : ℕ) (e : Data) → Same s t n → depth e < n → s e ≡ t e
unfolding Same
same s t n e h lt = h e lt

make_same : {A : Type 0} (s t : Data → Option A) (n : ℕ) → ((e : Data) → depth e < n → s e ≡ t e) → Same s t n
unfolding Same
make_same s t n h = h

at_is : {A : Type 0} (s t : Data → Option A) (o : Option Data) → ((e : Data) → o ≡ Some e → s e ≡ t e) → option_and_then s o ≡ option_and_then t o
at_is s t None h = refl
at_is s t (Some e) h = h e refl

at_same : {A : Type 0} (s t : Data → Option A) (k : List ℕ) (d : Data) → Same s t (depth d) → at s k d ≡ at t k d
unfolding at
at_same s t k d h = at_is s t (get k d) (λ e is. same s t (depth d) e h (get_depth k d e is))

both_same : {A : Type 0} (s t : Data → Option A) (k l : List ℕ) (d : Data) → Same s t (depth d) → both_at s k l d ≡ both_at t k l d
unfolding both_at
both_same s t k l d h = rw (at_same s t k d h, at_same s t l d h) refl

second_same : {A B : Type 0} (f : Data → Option A) (s t : Data → Option B) (o : Option (Data × Data)) → ((a e : Data) → o ≡ Some (a, e) → s e ≡ t e)
    → option_and_then (both_of f s) o ≡ option_and_then (both_of f t) o
second_same f s t None h = refl
second_same f s t (Some p) h = ap (given (option_map both (f p.0))) (h p.0 p.1 refl)

pair_same : {A B : Type 0} (f : Data → Option A) (s t : Data → Option B) (n : ℕ) → Same s t n → Same (pair f s) (pair f t) n
unfolding pair
pair_same f s t n h = make_same _ _ n (λ d lt. second_same f s t (two d) (λ a e is. let below : depth e < depth d = two_depth d a e is in same s t n e h (omega arith)))

each_same : {A : Type 0} (s t : Data → Option A) (n : ℕ) (ds : Items) → Same s t n → items_depth ds < n → each s ds ≡ each t ds
each_same s t n no_items h lt = refl
each_same s t n (item d ds) h lt = rw (same s t n d h (omega arith), each_same s t n ds h (omega arith)) refl

all_same_at : {A : Type 0} (s t : Data → Option A) (n : ℕ) (d : Data) → Same s t n → depth d < n → all s d ≡ all t d
unfolding all
all_same_at s t n null h lt = refl
all_same_at s t n (boolean b) h lt = refl
all_same_at s t n (number x) h lt = refl
all_same_at s t n (string x) h lt = refl
all_same_at s t n (array ds) h lt = each_same s t n ds h (omega arith)
all_same_at s t n (object ms) h lt = refl

all_same : {A : Type 0} (s t : Data → Option A) (n : ℕ) → Same s t n → Same (all s) (all t) n
all_same s t n h = make_same _ _ n (λ d lt. all_same_at s t n d h lt)

or_null_same_at : {A : Type 0} (s t : Data → Option A) (n : ℕ) (d : Data) → Same s t n → depth d < n → or_null s d ≡ or_null t d
unfolding or_null
or_null_same_at s t n null h lt = refl
or_null_same_at s t n (boolean b) h lt = ap (option_map Some) (same s t n (boolean b) h lt)
or_null_same_at s t n (number x) h lt = ap (option_map Some) (same s t n (number x) h lt)
or_null_same_at s t n (string x) h lt = ap (option_map Some) (same s t n (string x) h lt)
or_null_same_at s t n (array ds) h lt = ap (option_map Some) (same s t n (array ds) h lt)
or_null_same_at s t n (object ms) h lt = ap (option_map Some) (same s t n (object ms) h lt)

or_null_same : {A : Type 0} (s t : Data → Option A) (n : ℕ) → Same s t n → Same (or_null s) (or_null t) n
or_null_same s t n h = make_same _ _ n (λ d lt. or_null_same_at s t n d h lt)

-- ---- forms

repartition_same : (s t : Reads) (d : Data) → Same s t (depth d) → repartition_of s d ≡ repartition_of t d
unfolding repartition_of
repartition_same s t d h = rw (at_same s t (codes "child") d h) refl

buffered_same : (s t : Reads) (d : Data) → Same s t (depth d) → buffered_of s d ≡ buffered_of t d
unfolding buffered_of
buffered_same s t d h = rw (at_same s t (codes "child") d h) refl

compress_same : (s t : Reads) (d : Data) → Same s t (depth d) → compress_of s d ≡ compress_of t d
unfolding compress_of
compress_same s t d h = rw (at_same s t (codes "child") d h) refl

zoned_same : (s t : Reads) (d : Data) → Same s t (depth d) → zoned_of s d ≡ zoned_of t d
unfolding zoned_of
zoned_same s t d h = rw (both_same s t (codes "child") (codes "stats") d h) refl

dict_same : (s t : Reads) (d : Data) → Same s t (depth d) → dict_form s d ≡ dict_form t d
unfolding dict_form
dict_same s t d h = rw (both_same s t (codes "codes") (codes "values") d h, at_same s t (codes "fallback") d h) refl

list_same : (s t : Reads) (d : Data) → Same s t (depth d) → list_of s d ≡ list_of t d
unfolding list_of
list_same s t d h = rw (both_same s t (codes "elements") (codes "offsets") d h, both_same s t (codes "validity") (codes "fallback") d h) refl

struct_same : (s t : Reads) (d : Data) → Same s t (depth d) → struct_of s d ≡ struct_of t d
unfolding struct_of
struct_same s t d h =
    let fields = all_same (pair as_str s) (pair as_str t) (depth d) (pair_same as_str s t (depth d) h) in
    rw (both_same s t (codes "validity") (codes "default") d h, at_same (all (pair as_str s)) (all (pair as_str t)) (codes "fields") d fields) refl

around_same : (s t : Reads) (d : Data) → Same s t (depth d) → zoned_around s d ≡ zoned_around t d
unfolding zoned_around
around_same s t d h = rw (at_same s t (codes "stats") d h) refl

wrap_kind_same : (s t : Reads) (k : List ℕ) (d : Data) → Same s t (depth d) → kind_of_wrap s (k, d) ≡ kind_of_wrap t (k, d)
unfolding kind_of_wrap
wrap_kind_same s t k d h = rw (around_same s t d h) refl

only_same : {A : Type 0} (f g : List ℕ × Data → Option A) (o : Option (List ℕ × Data)) → ((k : List ℕ) (e : Data) → o ≡ Some (k, e) → f (k, e) ≡ g (k, e)) → option_and_then f o ≡ option_and_then g o
only_same f g None h = refl
only_same f g (Some p) h = h p.0 p.1 refl

less : (s t : Reads) (n m : ℕ) → m ≤ n → Same s t n → Same s t m
less s t n m below h = make_same s t m (λ e lt. same s t n e h (omega arith))

wrap_same : (s t : Reads) (n : ℕ) → Same s t n → Same (wrap_of s) (wrap_of t) n
unfolding wrap_of
wrap_same s t n h = make_same _ _ n (λ d lt. only_same (kind_of_wrap s) (kind_of_wrap t) (only_member d)
    (λ k e is. let below : depth e < depth d = only_depth d k e is in wrap_kind_same s t k e (less s t n (depth e) (omega arith) h)))

table_same : (s t : Reads) (d : Data) → Same s t (depth d) → table_of s d ≡ table_of t d
unfolding table_of
table_same s t d h =
    let overrides = all_same (pair (all as_str) s) (pair (all as_str) t) (depth d) (pair_same (all as_str) s t (depth d) h) in
    let wraps = or_null_same (all (wrap_of s)) (all (wrap_of t)) (depth d) (all_same (wrap_of s) (wrap_of t) (depth d) (wrap_same s t (depth d) h)) in
    rw (both_same s t (codes "validity") (codes "leaf") d h, at_same (all (pair (all as_str) s)) (all (pair (all as_str) t)) (codes "overrides") d overrides, at_same (or_null (all (wrap_of s))) (or_null (all (wrap_of t))) (codes "lists") d wraps) refl

kind_same : (s t : Reads) (k : List ℕ) (d : Data) → Same s t (suc (depth d)) → kind_of s (k, d) ≡ kind_of t (k, d)
unfolding kind_of
kind_same s t k d h =
    let within = less s t (suc (depth d)) (depth d) (omega arith) h in
    rw (same s t (suc (depth d)) d h (omega arith), struct_same s t d within, list_same s t d within, dict_same s t d within, zoned_same s t d within, repartition_same s t d within, buffered_same s t d within, compress_same s t d within, table_same s t d within) refl

pub form_same : (s t : Reads) (d : Data) → Same s t (depth d) → form s d ≡ form t d
unfolding form
form_same s t null h = refl
form_same s t (boolean b) h = refl
form_same s t (number x) h = refl
form_same s t (string x) h = refl
form_same s t (array ds) h = refl
form_same s t (object ms) h = only_same (kind_of s) (kind_of t) (only_member (object ms))
    (λ k e is. let below : depth e < depth (object ms) = only_depth (object ms) k e is in kind_same s t k e (less s t (depth (object ms)) (suc (depth e)) (omega arith) h))

-- ---- as deep as it goes

in_same : (n m : ℕ) (d : Data) → depth d < n → depth d < m → strategy_in n d ≡ strategy_in m d
unfolding strategy_in
in_same zero m d a b = absurd (omega arith)
in_same (suc n) zero d a b = absurd (omega arith)
in_same (suc n) (suc m) d a b = form_same (strategy_in n) (strategy_in m) d (make_same (strategy_in n) (strategy_in m) (depth d) (λ e lt. in_same n m e (omega arith) (omega arith)))

pub strategy_is : (d : Data) → strategy_of d ≡ form strategy_of d
unfolding strategy_of strategy_in
strategy_is d = form_same (strategy_in (depth d)) strategy_of d (make_same (strategy_in (depth d)) strategy_of (depth d) (λ e lt. in_same (depth d) (suc (depth e)) e lt (omega arith)))

pub ruleset strategy_rules = (strategy_is)
