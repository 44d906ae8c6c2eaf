-- Steps of the reader of chunks.
use Rattle.std.proofs.Common.{◌≡◌, ℕ, suc, ◌+◌, ◌<◌, ◌≤◌, ◌&&◌, Bool, true, false, List, [], ◌∷◌, ◌++◌, length, get_or, drop, map, Option, Some, None, nat_cmp, refl, sym, ap, ◌∙◌}
use Rattle.std.specs.Prelude.{if◌then◌else◌}
use Rattle.std.specs.Cmp.Lexicographic.{slice_cmp}
use Rattle.std.proofs.lemmas.Map.Text.{is_eq-slice_cmp}
use Rattle.std.proofs.lemmas.List.{drop_more, drop_all, append-nil, map_push, length-map}
use Rattle.serde_json.specs.Data.{Data, null, boolean as bool, number, string, array, object, Items, no_items, item, Members, no_members, member}
use Rattle.serde_json.specs.Find.{get_member, as_array, as_object}
use Rattle.serde_json.specs.View.{view, items_view}
use Rattle.serde_json.specs.declared.value.Value.{Value}
use Rattle.vx_model.specs.declared.dtype.StructField.{StructField}
use Rattle.vx_model.specs.Ty.{Ty, Tys, Named, tys_of}
use Rattle.vx_model.specs.TyView.{ty, field_ty}
use Rattle.vx_model.specs.ChunkData.{ChunkData, has_elements, piece_type, has_fields, has_storage}
use Rattle.vx_model.proofs.Views.{view_rules, field_ty_is}
use Rattle.vx_json.specs.Steps.{◌>>=◌}
use Rattle.vx_json.specs.Members.{array_in, object_in}
use Rattle.vx_json.specs.Lists.{each, first_and}
use Rattle.vx_chunk_json.specs.Chunks.{list_of, struct_of, extension_of, chunk_of, chunk_at, chunks_at, chunks_of, chunks_in, list_at, list_from, struct_at, struct_from, columns_at, columns_of, columns_in}
use Rattle.vx_json.specs.declared.error.JsonError.{JsonError}
use Rattle.vx_json.specs.declared.error.JsonError.TheVariants as errors
use Rattle.vx_json.specs.Views.{Fails}
use Rattle.vx_json.proofs.Parts.{part_rules}
use Rattle.vx_chunk_json.proofs.Objects.{at_first}
use Rattle.vx_json.proofs.Items.{with_front, regroup, each_goes_on, each_none, each_stops}
use Rattle.vx_chunk_json.proofs.Sizes.{get_size, item_size, array_size, object_size}

-- ---- what stands at a key

at_array : {A : Type 0} (f : Items → Option A) (g : Data → Option A) → ((d : Data) → g d ≡ (as_array d >>= f)) → (o : Option Data) → (o >>= g) ≡ ((o >>= as_array) >>= f)
at_array f g h None = refl
at_array f g h (Some d) = h d

at_object : {A : Type 0} (f : Members → Option A) (g : Data → Option A) → ((d : Data) → g d ≡ (as_object d >>= f)) → (o : Option Data) → (o >>= g) ≡ ((o >>= as_object) >>= f)
at_object f g h None = refl
at_object f g h (Some d) = h d

pub chunk_at_is : (t : Ty) (k : List ℕ) (ms : Members) → chunk_at t k ms ≡ (get_member k ms >>= chunk_of t)
chunk_at_is t k no_members = refl
chunk_at_is t k (member l d ms) = rw (← is_eq-slice_cmp k l) (at_first (chunk_of t) (slice_cmp nat_cmp k l) d (get_member k ms) (chunk_at t k ms) (chunk_at_is t k ms))

chunks_found : (t : Ty) (k : List ℕ) (ms : Members) → chunks_at t k ms ≡ (get_member k ms >>= chunks_of t)
chunks_found t k no_members = refl
chunks_found t k (member l d ms) = rw (← is_eq-slice_cmp k l) (at_first (chunks_of t) (slice_cmp nat_cmp k l) d (get_member k ms) (chunks_at t k ms) (chunks_found t k ms))

chunks_in_is : (t : Ty) (ds : Items) → chunks_in t ds ≡ each (chunk_of t) ds
chunks_in_is t no_items = refl
chunks_in_is t (item d ds) = rw (chunks_in_is t ds) refl

chunks_of_is : (t : Ty) (d : Data) → chunks_of t d ≡ (as_array d >>= each (chunk_of t))
chunks_of_is t null = refl
chunks_of_is t (bool b) = refl
chunks_of_is t (number x) = refl
chunks_of_is t (string s) = refl
chunks_of_is t (array ds) = chunks_in_is t ds
chunks_of_is t (object ms) = refl

pub chunks_at_is : (t : Ty) (k : List ℕ) (ms : Members) → chunks_at t k ms ≡ (array_in k ms >>= each (chunk_of t))
chunks_at_is t k ms = chunks_found t k ms ∙ at_array (each (chunk_of t)) (chunks_of t) (chunks_of_is t) (get_member k ms)

abbrev pub list_parts : Ty → Members → Option ChunkData
list_parts t ms = list_from t (object ms)

list_found : (t : Ty) (k : List ℕ) (ms : Members) → list_at t k ms ≡ (get_member k ms >>= list_from t)
list_found t k no_members = refl
list_found t k (member l d ms) = rw (← is_eq-slice_cmp k l) (at_first (list_from t) (slice_cmp nat_cmp k l) d (get_member k ms) (list_at t k ms) (list_found t k ms))

list_from_is : (t : Ty) (d : Data) → list_from t d ≡ (as_object d >>= list_parts t)
list_from_is t null = refl
list_from_is t (bool b) = refl
list_from_is t (number x) = refl
list_from_is t (string s) = refl
list_from_is t (array ds) = refl
list_from_is t (object ms) = refl

pub list_at_is : (t : Ty) (k : List ℕ) (ms : Members) → list_at t k ms ≡ (object_in k ms >>= list_parts t)
list_at_is t k ms = list_found t k ms ∙ at_object (list_parts t) (list_from t) (list_from_is t) (get_member k ms)

abbrev pub struct_parts : Ty → Members → Option ChunkData
struct_parts t ms = struct_from t (object ms)

struct_found : (t : Ty) (k : List ℕ) (ms : Members) → struct_at t k ms ≡ (get_member k ms >>= struct_from t)
struct_found t k no_members = refl
struct_found t k (member l d ms) = rw (← is_eq-slice_cmp k l) (at_first (struct_from t) (slice_cmp nat_cmp k l) d (get_member k ms) (struct_at t k ms) (struct_found t k ms))

struct_from_is : (t : Ty) (d : Data) → struct_from t d ≡ (as_object d >>= struct_parts t)
struct_from_is t null = refl
struct_from_is t (bool b) = refl
struct_from_is t (number x) = refl
struct_from_is t (string s) = refl
struct_from_is t (array ds) = refl
struct_from_is t (object ms) = refl

pub struct_at_is : (t : Ty) (k : List ℕ) (ms : Members) → struct_at t k ms ≡ (object_in k ms >>= struct_parts t)
struct_at_is t k ms = struct_found t k ms ∙ at_object (struct_parts t) (struct_from t) (struct_from_is t) (get_member k ms)

columns_found : (fs : Tys) (k : List ℕ) (ms : Members) → columns_at fs k ms ≡ (get_member k ms >>= columns_of fs)
columns_found fs k no_members = refl
columns_found fs k (member l d ms) = rw (← is_eq-slice_cmp k l) (at_first (columns_of fs) (slice_cmp nat_cmp k l) d (get_member k ms) (columns_at fs k ms) (columns_found fs k ms))

columns_of_is : (fs : Tys) (d : Data) → columns_of fs d ≡ (as_array d >>= columns_in fs)
columns_of_is fs null = refl
columns_of_is fs (bool b) = refl
columns_of_is fs (number x) = refl
columns_of_is fs (string s) = refl
columns_of_is fs (array ds) = refl
columns_of_is fs (object ms) = refl

pub columns_at_is : (fs : Tys) (k : List ℕ) (ms : Members) → columns_at fs k ms ≡ (array_in k ms >>= columns_in fs)
columns_at_is fs k ms = columns_found fs k ms ∙ at_array (columns_in fs) (columns_of fs) (columns_of_is fs) (get_member k ms)

-- ---- at a type of another kind

either_none : (b : Bool) (x : Option ChunkData) → x ≡ None → (if b then x else None) ≡ None
either_none true x h = h
either_none false x h = refl

list_of_none : (t : Ty) (elements : Option ChunkData) (offsets : Option (List ℕ)) (valid : Option (List Bool)) → ((e : Ty) → has_elements t e ≡ false) → list_of t elements offsets valid ≡ None
unfolding list_of
list_of_none t None offsets valid h = refl
list_of_none t (Some e) None valid h = refl
list_of_none t (Some e) (Some os) None h = refl
list_of_none t (Some e) (Some os) (Some vs) h = rw (h (piece_type e)) refl

no_list_in : (t : Ty) (o : Option Members) → ((e : Ty) → has_elements t e ≡ false) → (o >>= list_parts t) ≡ None
no_list_in t None h = refl
no_list_in t (Some ms) h = either_none _ _ (list_of_none t _ _ _ h)

pub no_list : (t : Ty) (k : List ℕ) (ms : Members) → ((e : Ty) → has_elements t e ≡ false) → list_at t k ms ≡ None
no_list t k ms h = list_at_is t k ms ∙ no_list_in t (object_in k ms) h

struct_of_none : (t : Ty) (fields : Option (List ChunkData)) (valid : Option (List Bool)) (rows : Option ℕ) → ((ps : List ChunkData) (n : ℕ) → has_fields t ps n ≡ false) → struct_of t fields valid rows ≡ None
unfolding struct_of
struct_of_none t None valid rows h = refl
struct_of_none t (Some ps) None rows h = refl
struct_of_none t (Some ps) (Some vs) None h = refl
struct_of_none t (Some ps) (Some vs) (Some n) h = rw (h ps n) refl

no_struct_in : (t : Ty) (o : Option Members) → ((ps : List ChunkData) (n : ℕ) → has_fields t ps n ≡ false) → (o >>= struct_parts t) ≡ None
no_struct_in t None h = refl
no_struct_in t (Some ms) h = either_none _ _ (struct_of_none t _ _ _ h)

pub no_struct : (t : Ty) (k : List ℕ) (ms : Members) → ((ps : List ChunkData) (n : ℕ) → has_fields t ps n ≡ false) → struct_at t k ms ≡ None
no_struct t k ms h = struct_at_is t k ms ∙ no_struct_in t (object_in k ms) h

pub no_storage : (t : Ty) (storage : Option ChunkData) → ((s : Ty) → has_storage t s ≡ false) → extension_of t storage ≡ None
unfolding extension_of
no_storage t None h = refl
no_storage t (Some p) h = rw (h (piece_type p)) refl

pub ruleset chunk_rules = (no_list, no_struct, no_storage, part_rules, view_rules, chunk_at_is, chunks_at_is, list_at_is, struct_at_is, columns_at_is, get_size, item_size, array_size, object_size)

pub ruleset list_rules = (map_push, append-nil, each_goes_on, each_stops, item_size)

-- ---- one chunk a field

abbrev pub rest_at : List StructField → List Value → ℕ → Option (List ChunkData)
rest_at fs vs i = columns_in (tys_of (map field_ty (drop i fs))) (items_view (drop i vs))

next_column : (fs : List StructField) (vs : List Value) (i : ℕ) (f : StructField) (v : Value) → i < length fs → i < length vs → v ≡ get_or vs i v
    → rest_at fs vs i ≡ first_and (chunk_of (ty (get_or fs i f).dtype) (view v)) (rest_at fs vs (i + 1))
next_column fs vs i f v lt more v-is = rw (drop_more fs i f lt, drop_more vs i v more, ← v-is, field_ty_is (get_or fs i f)) refl

pub columns_go_on : (fs : List StructField) (vs : List Value) (i : ℕ) (f : StructField) (v : Value) (front : List ChunkData) (p : ChunkData) (all : Option (List ChunkData)) → i < length fs → i < length vs → v ≡ get_or vs i v
    → chunk_of (ty (get_or fs i f).dtype) (view v) ≡ Some p → with_front front (rest_at fs vs i) ≡ all → with_front (front ++ p ∷ []) (rest_at fs vs (i + 1)) ≡ all
columns_go_on fs vs i f v front p all lt more v-is e so_far =
    let step : with_front front (rest_at fs vs i) ≡ with_front (front ++ p ∷ []) (rest_at fs vs (i + 1)) = rw (next_column fs vs i f v lt more v-is, e) (regroup front p (rest_at fs vs (i + 1))) in
    sym step ∙ so_far

columns_none : (fs : List StructField) (vs : List Value) (i : ℕ) (f : StructField) (v : Value) (front : List ChunkData) (all : Option (List ChunkData)) → i < length fs → i < length vs → v ≡ get_or vs i v
    → chunk_of (ty (get_or fs i f).dtype) (view v) ≡ None → with_front front (rest_at fs vs i) ≡ all → all ≡ None
unfolding first_and
columns_none fs vs i f v front all lt more v-is e so_far = sym so_far ∙ rw (next_column fs vs i f v lt more v-is, e) refl

-- a chunk that is refused
pub columns_stop : (error : JsonError) (fs : List StructField) (vs : List Value) (i : ℕ) (f : StructField) (v : Value) (front : List ChunkData) (all : Option (List ChunkData)) → i < length fs → i < length vs → v ≡ get_or vs i v
    → Fails error (chunk_of (ty (get_or fs i f).dtype) (view v)) → with_front front (rest_at fs vs i) ≡ all → Fails error all
columns_stop errors.Wrong fs vs i f v front all lt more v-is e so_far = columns_none fs vs i f v front all lt more v-is e so_far
columns_stop errors.OutOfMemory fs vs i f v front all lt more v-is e so_far = tt

none_after : (x : Option ChunkData) → first_and x None ≡ None
unfolding first_and
none_after None = refl
none_after (Some x) = refl

-- more or fewer chunks than fields
pub other_count : (fs : List Named) (vs : List Value) → (length fs ≡ length vs → ⊥) → columns_in (tys_of fs) (items_view vs) ≡ None
other_count [] [] h = absurd (h refl)
other_count [] (v ∷ vs) h = refl
other_count (f ∷ fs) [] h = refl
other_count (f ∷ fs) (v ∷ vs) h = rw (other_count fs vs (λ e. h (ap suc e))) (none_after (chunk_of f.1 (view v)))

pub ruleset column_rules = (append-nil, length-map, other_count, view_rules, item_size)
