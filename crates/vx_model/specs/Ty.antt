-- Types of columns, as contracts see them.
use Rattle.std.specs.Prelude.{ℕ, ◌&&◌, ◌==◌, Bool, true, false, Option, Some, None, List, [], ◌∷◌, bytes_eq}
use mathlib.Core.Bool.{beq}
use Rattle.vx_model.specs.declared.ptype.PType.{PType}
use Rattle.vx_model.specs.Numbers.{ptype_number}

mutual
  pub data Ty : Type 0 where
    boolean : Bool → Ty
    primitive : PType → Bool → Ty
    utf8 : Bool → Ty
    binary : Bool → Ty
    list : Ty → Bool → Ty
    struct : Tys → Bool → Ty
    extension : List ℕ → Ty → Ty

  pub data Tys : Type 0 where
    no_fields : Tys
    field : List ℕ → Ty → Tys → Tys

abbrev pub Named : Type 0
Named = List ℕ × Ty

-- fields in order
abbrev pub tys_of : List Named → Tys
tys_of [] = no_fields
tys_of (f ∷ fs) = field f.0 f.1 (tys_of fs)

abbrev pub fields_in : Tys → List Named
fields_in no_fields = []
fields_in (field name t fs) = (name, t) ∷ fields_in fs

abbrev pub nullable : Ty → Bool
nullable (boolean n) = n
nullable (primitive p n) = n
nullable (utf8 n) = n
nullable (binary n) = n
nullable (list t n) = n
nullable (struct fs n) = n
nullable (extension tag t) = nullable t

abbrev pub as_nullable : Ty → Ty
as_nullable (boolean n) = boolean true
as_nullable (primitive p n) = primitive p true
as_nullable (utf8 n) = utf8 true
as_nullable (binary n) = binary true
as_nullable (list t n) = list t true
as_nullable (struct fs n) = struct fs true
as_nullable (extension tag t) = extension tag (as_nullable t)

-- of the type itself, not of an extension's storage
abbrev pub is_list : Ty → Bool
is_list (list t n) = true
is_list t = false

abbrev pub is_struct : Ty → Bool
is_struct (struct fs n) = true
is_struct t = false

-- the type of a list's elements
abbrev pub list_item : Ty → Option Ty
list_item (list t n) = Some t
list_item t = None

-- the fields of a struct
abbrev pub struct_tys : Ty → Option Tys
struct_tys (struct fs n) = Some fs
struct_tys t = None

-- the type that an extension is stored as
abbrev pub storage_of : Ty → Option Ty
storage_of (extension tag t) = Some t
storage_of t = None

-- the type below all extensions
abbrev pub storage_type : Ty → Ty
storage_type (extension tag t) = storage_type t
storage_type t = t

-- whether two types are the same
abbrev mutual
  pub ty_eq : Ty → Ty → Bool
  ty_eq (boolean m) (boolean n) = beq m n
  ty_eq (primitive p m) (primitive q n) = (ptype_number p == ptype_number q) && beq m n
  ty_eq (utf8 m) (utf8 n) = beq m n
  ty_eq (binary m) (binary n) = beq m n
  ty_eq (list s m) (list t n) = ty_eq s t && beq m n
  ty_eq (struct fs m) (struct gs n) = tys_eq fs gs && beq m n
  ty_eq (extension a s) (extension b t) = bytes_eq a b && ty_eq s t
  ty_eq s t = false

  pub tys_eq : Tys → Tys → Bool
  tys_eq no_fields no_fields = true
  tys_eq (field a s fs) (field b t gs) = (bytes_eq a b && ty_eq s t) && tys_eq fs gs
  tys_eq fs gs = false

-- values of the type are compared: seen through extensions it is no list and no struct
abbrev pub has_order : Ty → Bool
has_order (list t n) = false
has_order (struct fs n) = false
has_order (extension tag t) = has_order t
has_order t = true
