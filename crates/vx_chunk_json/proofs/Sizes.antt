-- How large a value is: the measure of the readers, which go from a value to what is inside it.
use Rattle.std.proofs.Common.{◌≡◌, ℕ, zero, suc, ◌+◌, ◌<◌, List, [], ◌∷◌, length, get_or, Option, Some, None, Ordering, Less, Equal, Greater, nat_cmp, refl, ap, arith}
use Rattle.std.specs.Cmp.Lexicographic.{slice_cmp}
use Rattle.std.specs.Ordering.{match_ordering}
use Rattle.serde_json.specs.Data.{Data, null, boolean, number, string, array, object, Items, no_items, item, Members, no_members, member}
use Rattle.serde_json.specs.Find.{get_member, as_array, as_object}
use Rattle.serde_json.specs.View.{view, items_view}
use Rattle.serde_json.specs.declared.value.Value.{Value}
use Rattle.vx_json.specs.Steps.{◌>>=◌}
use Rattle.vx_json.specs.Members.{array_in, object_in}

abbrev mutual
  pub size : Data → ℕ
  size null = 0
  size (boolean b) = 0
  size (number n) = 0
  size (string s) = 0
  size (array ds) = suc (items_size ds)
  size (object ms) = suc (members_size ms)

  pub items_size : Items → ℕ
  items_size no_items = 0
  items_size (item d ds) = suc (size d + items_size ds)

  pub members_size : Members → ℕ
  members_size no_members = 0
  members_size (member k d ms) = suc (size d + members_size ms)

abbrev or_zero : Option Data → ℕ
or_zero None = 0
or_zero (Some d) = size d

same_size : (d e : Data) → Some d ≡ Some e → size d ≡ size e
same_size d e h = ap or_zero h

found_size : (o : Ordering) (rest : Option Data) (e d : Data) (n : ℕ) → (rest ≡ Some d → size d < n) → match_ordering o rest (Some e) rest ≡ Some d → size d < suc (size e + n)
found_size Less rest e d n later h = let l : size d < n = later h in omega arith
found_size Equal rest e d n later h = let same : size e ≡ size d = same_size e d h in omega arith
found_size Greater rest e d n later h = let l : size d < n = later h in omega arith

-- the value at a key
pub get_size : (k : List ℕ) (ms : Members) (d : Data) → get_member k ms ≡ Some d → size d < members_size ms
get_size k no_members d h = absurd (let e : None ≡ Some d = h in cc)
get_size k (member l e ms) d h = found_size (slice_cmp nat_cmp k l) (get_member k ms) e d (members_size ms) (get_size k ms d) h

-- an item
pub item_size : (vs : List Value) (i : ℕ) (v : Value) → i < length vs → v ≡ get_or vs i v → size (view v) < items_size (items_view vs)
item_size [] i v lt is = absurd (omega arith)
item_size (w ∷ vs) zero v lt is = rw is (omega arith)
item_size (w ∷ vs) (suc i) v lt is = let l : size (view v) < items_size (items_view vs) = item_size vs i v (omega arith) is in omega arith

-- ---- a list and an object at a key

abbrev or_none : Option Items → ℕ
or_none None = 0
or_none (Some ds) = items_size ds

abbrev or_empty : Option Members → ℕ
or_empty None = 0
or_empty (Some ms) = members_size ms

array_found : (o : Option Data) (n : ℕ) → ((d : Data) → o ≡ Some d → size d < n) → (ds : Items) → (o >>= as_array) ≡ Some ds → items_size ds < n
array_found None n h ds is = absurd (let e : None ≡ Some ds = is in cc)
array_found (Some null) n h ds is = absurd (let e : None ≡ Some ds = is in cc)
array_found (Some (boolean b)) n h ds is = absurd (let e : None ≡ Some ds = is in cc)
array_found (Some (number x)) n h ds is = absurd (let e : None ≡ Some ds = is in cc)
array_found (Some (string s)) n h ds is = absurd (let e : None ≡ Some ds = is in cc)
array_found (Some (array es)) n h ds is =
    let same : items_size es ≡ items_size ds = ap or_none is in
    let l : suc (items_size es) < n = h (array es) refl in
    omega arith
array_found (Some (object ms)) n h ds is = absurd (let e : None ≡ Some ds = is in cc)

object_found : (o : Option Data) (n : ℕ) → ((d : Data) → o ≡ Some d → size d < n) → (ms : Members) → (o >>= as_object) ≡ Some ms → members_size ms < n
object_found None n h ms is = absurd (let e : None ≡ Some ms = is in cc)
object_found (Some null) n h ms is = absurd (let e : None ≡ Some ms = is in cc)
object_found (Some (boolean b)) n h ms is = absurd (let e : None ≡ Some ms = is in cc)
object_found (Some (number x)) n h ms is = absurd (let e : None ≡ Some ms = is in cc)
object_found (Some (string s)) n h ms is = absurd (let e : None ≡ Some ms = is in cc)
object_found (Some (array ds)) n h ms is = absurd (let e : None ≡ Some ms = is in cc)
object_found (Some (object ns)) n h ms is =
    let same : members_size ns ≡ members_size ms = ap or_empty is in
    let l : suc (members_size ns) < n = h (object ns) refl in
    omega arith

pub array_size : (k : List ℕ) (ms : Members) (ds : Items) → array_in k ms ≡ Some ds → items_size ds < members_size ms
array_size k ms ds is = array_found (get_member k ms) (members_size ms) (get_size k ms) ds is

pub object_size : (k : List ℕ) (ms inner : Members) → object_in k ms ≡ Some inner → members_size inner < members_size ms
object_size k ms inner is = object_found (get_member k ms) (members_size ms) (get_size k ms) inner is
