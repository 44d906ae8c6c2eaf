-- Row values of a type, what of them is hashed, and the hashes of a column's values.
use Rattle.std.specs.Prelude.{ℕ, ◌&&◌, ◌||◌, Bool, true, false, not, if◌then◌else◌, List, [], ◌∷◌, ◌++◌, Option, Some, None}
use Rattle.std.specs.Option.{option_map, option_to_list}
use Rattle.vx_model.specs.declared.ptype.PType.{PType}
use Rattle.vx_model.specs.Numbers.{int_fits}
use Rattle.vx_model.specs.Words.{all_by}
use Rattle.vx_model.specs.Ty.{Ty, Tys, boolean, primitive, utf8, binary, list, struct, extension, no_fields, field, has_order}
use Rattle.vx_model.specs.ValueData.{ValueData, null_value, bool_value, int_value, text_value, bytes_value, list_value, struct_value, vals_in, is_null_value}
use Rattle.vx_model.specs.CellData.{int_bytes}
use Rattle.vx_bloom_spec.specs.Blocks.{Block}
use Rattle.vx_bloom_spec.specs.Filter.{inserted, may_contain}

-- ---- hashing

abbrev pub is_unsupported : Ty → ValueData → Bool
is_unsupported t v = not (is_null_value v) && not (has_order t)

abbrev pub bool_hashed : ValueData → Option (List ℕ)
bool_hashed (bool_value b) = Some ((if b then 1 else 0) ∷ [])
bool_hashed v = None

abbrev pub int_hashed : PType → ValueData → Option (List ℕ)
int_hashed p (int_value i) = Some (int_bytes p i)
int_hashed p v = None

abbrev pub text_hashed : ValueData → Option (List ℕ)
text_hashed (text_value s) = Some s
text_hashed v = None

abbrev pub bytes_hashed : ValueData → Option (List ℕ)
bytes_hashed (bytes_value s) = Some s
bytes_hashed v = None

abbrev pub none_hashed : ValueData → Option (List ℕ)
none_hashed v = None

-- the bytes that are hashed of a value: one byte of a boolean, an integer's own bytes, texts and bytes as they are,
-- of an extension its storage's; none of null
abbrev pub hashed_bytes : Ty → ValueData → Option (List ℕ)
hashed_bytes (boolean n) = bool_hashed
hashed_bytes (primitive p n) = int_hashed p
hashed_bytes (utf8 n) = text_hashed
hashed_bytes (binary n) = bytes_hashed
hashed_bytes (list t n) = none_hashed
hashed_bytes (struct fs n) = none_hashed
hashed_bytes (extension tag t) = hashed_bytes t

abbrev pub value_hash : (List ℕ → ℕ) → Ty → ValueData → Option ℕ
value_hash hash t v = option_map hash (hashed_bytes t v)

-- the hashes of the values that aren't null, in order
abbrev pub value_hashes : (List ℕ → ℕ) → Ty → List ValueData → List ℕ
value_hashes hash t [] = []
value_hashes hash t (v ∷ vs) = option_to_list (value_hash hash t v) ++ value_hashes hash t vs

-- a filter with more hashes, one after the other
abbrev pub all_inserted : List Block → List ℕ → List Block
all_inserted blocks [] = blocks
all_inserted blocks (hash ∷ hashes) = all_inserted (inserted blocks hash) hashes

-- null is never contained
abbrev pub may_contain_hash : List Block → Option ℕ → Bool
may_contain_hash blocks None = false
may_contain_hash blocks (Some hash) = may_contain blocks hash

-- one of the values can't be hashed
abbrev pub any_unsupported : Ty → List ValueData → Bool
any_unsupported t [] = false
any_unsupported t (v ∷ vs) = is_unsupported t v || any_unsupported t vs
