-- The text of a type.
use Rattle.std.specs.Prelude.{ℕ, Bool, true, false, if◌then◌else◌, List, [], ◌++◌, codes}
use Rattle.vx_model.specs.Numbers.{ptype_name}
use Rattle.vx_model.specs.Ty.{Ty, Tys, boolean, primitive, utf8, binary, list, struct, extension, no_fields, field}

-- a question mark where the type is nullable
abbrev pub null_mark : Bool → List ℕ
null_mark n = if n then codes "?" else []

-- a comma before each field but the first
abbrev pub comma : Bool → List ℕ
comma first = if first then [] else codes ", "

abbrev mutual
  pub type_text : Ty → List ℕ
  type_text (boolean n) = codes "bool" ++ null_mark n
  type_text (primitive p n) = ptype_name p ++ null_mark n
  type_text (utf8 n) = codes "utf8" ++ null_mark n
  type_text (binary n) = codes "binary" ++ null_mark n
  type_text (list t n) = codes "list(" ++ (type_text t ++ (codes ")" ++ null_mark n))
  type_text (struct fs n) = codes "{" ++ (fields_text true fs ++ (codes "}" ++ null_mark n))
  type_text (extension tag t) = codes "ext(" ++ (tag ++ (codes ", " ++ (type_text t ++ codes ")")))

  pub fields_text : Bool → Tys → List ℕ
  fields_text first no_fields = []
  fields_text first (field name t fs) = comma first ++ (name ++ (codes "=" ++ (type_text t ++ fields_text false fs)))
