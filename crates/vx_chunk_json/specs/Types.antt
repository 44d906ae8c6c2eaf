-- The type that a JSON value says.
use Rattle.std.specs.Prelude.{ℕ, ◌||◌, Bool, true, false, if◌then◌else◌, List, [], ◌∷◌, ◌++◌, codes, bytes_eq, Option, Some, None}
use Rattle.serde_json.specs.Data.{Data, null, boolean as bool, number, string, array, object, Items, no_items, item, Members, no_members, member}
use Rattle.serde_json.specs.Find.{get_member, as_bool, as_str}
use Rattle.vx_model.specs.declared.ptype.PType.TheVariants.{U8, U16, U32, U64, I8, I16, I32, I64}
use Rattle.vx_model.specs.Ty.{Ty, boolean, primitive, utf8, binary, list, struct, extension, tys_of, Named}
use Rattle.vx_model.specs.Shown.{type_text}
use Rattle.vx_json.specs.Steps.{◌>>=◌}
use Rattle.vx_json.specs.Members.{has_keys, text_in}
use Rattle.vx_json.specs.Lists.{first_and}

-- the types without others below them
abbrev pub leaves : Bool → List Ty
leaves n = boolean n ∷ primitive U8 n ∷ primitive U16 n ∷ primitive U32 n ∷ primitive U64 n ∷ primitive I8 n ∷ primitive I16 n ∷ primitive I32 n ∷ primitive I64 n ∷ utf8 n ∷ binary n ∷ []

-- the one that is printed so
abbrev pub printed_so : List ℕ → List Ty → Option Ty
printed_so s [] = None
printed_so s (t ∷ ts) = if bytes_eq s (type_text t) then Some t else printed_so s ts

-- `bool` to `binary`, with `?` behind it where nullable
abbrev pub leaf_type : List ℕ → Option Ty
leaf_type s = printed_so s (leaves false ++ leaves true)

-- a key, and maybe `nullable`
abbrev pub is_kind : List ℕ → Members → Bool
is_kind k ms = has_keys (k ∷ []) ms || has_keys (k ∷ codes "nullable" ∷ []) ms

abbrev pub flag_or_false : Option Data → Option Bool
flag_or_false None = Some false
flag_or_false (Some d) = as_bool d

-- `nullable`, false where it isn't there
abbrev pub nullable_in : Members → Option Bool
nullable_in ms = flag_or_false (get_member (codes "nullable") ms)

unfoldable pub list_type : Option Ty → Option Bool → Option Ty
list_type element nullable = do
  t ← element
  n ← nullable
  Some (list t n)

unfoldable pub struct_type : Option (List Named) → Option Bool → Option Ty
struct_type fields nullable = do
  fs ← fields
  n ← nullable
  Some (struct (tys_of fs) n)

unfoldable pub extension_type : Option (List ℕ) → Option Ty → Option Ty
extension_type tag storage = do
  a ← tag
  t ← storage
  Some (extension a t)

unfoldable pub named_type : Option (List ℕ) → Option Ty → Option Named
named_type name dtype = do
  a ← name
  t ← dtype
  Some (a, t)

-- a text for a leaf type; {"list": TYPE}, {"struct": [["a", TYPE]]}, each maybe with "nullable"; {"ext": "tag", "storage": TYPE}
abbrev mutual
  pub type_of : Data → Option Ty
  type_of null = None
  type_of (bool b) = None
  type_of (number n) = None
  type_of (string s) = leaf_type s
  type_of (array ds) = None
  type_of (object ms) =
      if is_kind (codes "list") ms then list_type (type_at (codes "list") ms) (nullable_in ms)
      else if is_kind (codes "struct") ms then struct_type (fields_at (codes "struct") ms) (nullable_in ms)
      else if has_keys (codes "ext" ∷ codes "storage" ∷ []) ms then extension_type (text_in (codes "ext") ms) (type_at (codes "storage") ms)
      else None

  -- the type at a key
  pub type_at : List ℕ → Members → Option Ty
  type_at k no_members = None
  type_at k (member l d ms) = if bytes_eq k l then type_of d else type_at k ms

  -- the fields at a key
  pub fields_at : List ℕ → Members → Option (List Named)
  fields_at k no_members = None
  fields_at k (member l d ms) = if bytes_eq k l then fields_of d else fields_at k ms

  pub fields_of : Data → Option (List Named)
  fields_of null = None
  fields_of (bool b) = None
  fields_of (number n) = None
  fields_of (string s) = None
  fields_of (array ds) = fields_in ds
  fields_of (object ms) = None

  pub fields_in : Items → Option (List Named)
  fields_in no_items = Some []
  fields_in (item d ds) = first_and (field_of d) (fields_in ds)

  pub field_of : Data → Option Named
  field_of null = None
  field_of (bool b) = None
  field_of (number n) = None
  field_of (string s) = None
  field_of (array ds) = field_in ds
  field_of (object ms) = None

  -- a name and a type
  pub field_in : Items → Option Named
  field_in no_items = None
  field_in (item name no_items) = None
  field_in (item name (item d no_items)) = named_type (as_str name) (type_of d)
  field_in (item name (item d (item e ds))) = None
