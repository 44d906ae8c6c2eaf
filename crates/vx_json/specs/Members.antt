-- Objects by their keys. An object has each key once.
use Rattle.std.specs.Prelude.{ℕ, ◌+◌, ◌&&◌, ◌==◌, Bool, true, if◌then◌else◌, List, [], ◌∷◌, length, Option, is_some}
use Rattle.serde_json.specs.Data.{Items, Members}
use Rattle.serde_json.specs.Find.{get_member, as_str, as_array, as_object}
use Rattle.serde_json.specs.Events.{members_len}
use Rattle.vx_json.specs.Steps.{◌>>=◌}
use Rattle.vx_json.specs.Values.{whole}

-- the text, the list, the object at a key
abbrev pub text_in : List ℕ → Members → Option (List ℕ)
text_in k ms = get_member k ms >>= as_str

abbrev pub array_in : List ℕ → Members → Option Items
array_in k ms = get_member k ms >>= as_array

abbrev pub object_in : List ℕ → Members → Option Members
object_in k ms = get_member k ms >>= as_object

abbrev pub number_in : List ℕ → Members → Option ℕ
number_in k ms = get_member k ms >>= whole

abbrev pub have_keys : List (List ℕ) → Members → Bool
have_keys [] ms = true
have_keys (k ∷ ks) ms = is_some (get_member k ms) && have_keys ks ms

-- exactly these keys, which differ
abbrev pub has_keys : List (List ℕ) → Members → Bool
has_keys ks ms = (members_len ms == length ks) && have_keys ks ms

abbrev pub one_if : Bool → ℕ
one_if b = if b then 1 else 0

-- how many of the keys there are
abbrev pub count_of : List (List ℕ) → Members → ℕ
count_of [] ms = 0
count_of (k ∷ ks) ms = one_if (is_some (get_member k ms)) + count_of ks ms

-- no keys but these, which differ
unfoldable pub has_only : List (List ℕ) → Members → Bool
has_only ks ms = count_of ks ms == members_len ms
