-- Parts of JSON values.
use Rattle.std.specs.Prelude.{ℕ, ◌==◌, nat_lt, Bool, false, List, Option, Some, None, option_map, option_and_then}
use Rattle.serde_json.specs.Data.{Data, null, boolean, number, string, array, object, Items, no_items, item, Members, no_members, member}
use Rattle.serde_json.specs.Find.{get, as_number, as_u64, as_array, as_object}
use Rattle.serde_json.specs.Events.{members_len}
use Rattle.vx_json.specs.Steps.{given, when}
use Rattle.vx_json.specs.Lists.{each}

-- ---- numbers

-- a whole number below 2^64; one written with a fraction or an exponent is none
abbrev pub whole : Data → Option ℕ
whole d = option_and_then as_u64 (as_number d)

abbrev pub below : ℕ → ℕ → Option ℕ
below limit n = when (nat_lt n limit) (Some n)

-- a whole number below a limit
unfoldable pub whole_below : ℕ → Data → Option ℕ
whole_below limit d = option_and_then (below limit) (whole d)

-- null stands for nothing
unfoldable pub or_null : {A : Type 0} → (Data → Option A) → Data → Option (Option A)
or_null f null = Some None
or_null f (boolean b) = option_map Some (f (boolean b))
or_null f (number x) = option_map Some (f (number x))
or_null f (string s) = option_map Some (f (string s))
or_null f (array ds) = option_map Some (f (array ds))
or_null f (object ms) = option_map Some (f (object ms))

-- ---- lists

-- f of each item of an array, where each has one
unfoldable pub all : {A : Type 0} → (Data → Option A) → Data → Option (List A)
all f d = option_and_then (each f) (as_array d)

-- the items, where there are two
abbrev pub two_items : Items → Option (Data × Data)
two_items no_items = None
two_items (item d no_items) = None
two_items (item d (item e no_items)) = Some (d, e)
two_items (item d (item e (item h ds))) = None

unfoldable pub two : Data → Option (Data × Data)
two d = option_and_then two_items (as_array d)

abbrev pub both : {A B : Type 0} → A → B → A × B
both x y = (x, y)

abbrev pub both_of : {A B : Type 0} → (Data → Option A) → (Data → Option B) → Data × Data → Option (A × B)
both_of f g p = given (option_map both (f p.0)) (g p.1)

-- f of the first and g of the second of two items
unfoldable pub pair : {A B : Type 0} → (Data → Option A) → (Data → Option B) → Data → Option (A × B)
pair f g d = option_and_then (both_of f g) (two d)

-- ---- objects

-- an object of exactly so many members
unfoldable pub has_members : ℕ → Data → Bool
has_members n null = false
has_members n (boolean b) = false
has_members n (number x) = false
has_members n (string s) = false
has_members n (array ds) = false
has_members n (object ms) = members_len ms == n

-- the key and the value of an object that has one member
abbrev pub one_member : Members → Option (List ℕ × Data)
one_member no_members = None
one_member (member k d no_members) = Some (k, d)
one_member (member k d (member l e ms)) = None

unfoldable pub only_member : Data → Option (List ℕ × Data)
only_member d = option_and_then one_member (as_object d)

-- f of the value at a key
unfoldable pub at : {A : Type 0} → (Data → Option A) → List ℕ → Data → Option A
at f key d = option_and_then f (get key d)

-- f of the values at two keys
unfoldable pub both_at : {A : Type 0} → (Data → Option A) → List ℕ → List ℕ → Data → Option (A × A)
both_at f first second d = given (option_map both (at f first d)) (at f second d)
