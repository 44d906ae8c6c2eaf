-- What is told of the elements of a list type and of the fields of a struct type.
use Rattle.std.proofs.Common.{◌≡◌, true, Some, None}
use Rattle.vx_model.specs.Ty.{Ty, Tys, boolean, primitive, utf8, binary, list, struct, extension, is_list, list_item, is_struct, struct_tys}
use Rattle.vx_chunk_cells.specs.Parts.{element_type, struct_fields}

-- ---- a list's type is told

pub item_told : (t u : Ty) → Some u ≡ list_item t → u ≡ element_type t
item_told (list t n) u e = cc
item_told (boolean n) u e = cc
item_told (primitive p n) u e = cc
item_told (utf8 n) u e = cc
item_told (binary n) u e = cc
item_told (struct fs n) u e = cc
item_told (extension tag t) u e = cc

pub no_item_told : (t : Ty) → None ≡ list_item t → is_list t ≡ true → ⊥
no_item_told (list t n) e h = cc
no_item_told (boolean n) e h = cc
no_item_told (primitive p n) e h = cc
no_item_told (utf8 n) e h = cc
no_item_told (binary n) e h = cc
no_item_told (struct fs n) e h = cc
no_item_told (extension tag t) e h = cc

-- ---- a struct's fields are told

pub fields_told : (t : Ty) (fs : Tys) → Some fs ≡ struct_tys t → fs ≡ struct_fields t
fields_told (struct gs n) fs e = cc
fields_told (boolean n) fs e = cc
fields_told (primitive p n) fs e = cc
fields_told (utf8 n) fs e = cc
fields_told (binary n) fs e = cc
fields_told (list t n) fs e = cc
fields_told (extension tag t) fs e = cc

pub no_fields_told : (t : Ty) → None ≡ struct_tys t → is_struct t ≡ true → ⊥
no_fields_told (struct gs n) e h = cc
no_fields_told (boolean n) e h = cc
no_fields_told (primitive p n) e h = cc
no_fields_told (utf8 n) e h = cc
no_fields_told (binary n) e h = cc
no_fields_told (list t n) e h = cc
no_fields_told (extension tag t) e h = cc

pub ruleset item_rules = (item_told, no_item_told)

pub ruleset field_rules = (fields_told, no_fields_told)
