-- What the type of a layout says of its children.
use Rattle.std.specs.Prelude.{ℕ, ◌+◌, Bool, true, false, if◌then◌else◌, List, [], length}
use Rattle.vx_model.specs.declared.ptype.PType.TheVariants.{U64}
use Rattle.vx_model.specs.Ty.{Ty, Named, primitive, struct, nullable, fields_in}

-- the fields of a struct
abbrev pub fields_of : Ty → List Named
fields_of (struct fs n) = fields_in fs
fields_of t = []

-- 1 where the type is nullable: the validity
abbrev pub validity_count : Ty → ℕ
validity_count t = if nullable t then 1 else 0

abbrev pub struct_children : Ty → ℕ
struct_children t = length (fields_of t) + validity_count t

abbrev pub is_primitive : Ty → Bool
is_primitive (primitive p n) = true
is_primitive t = false

-- what offsets and codes must be: the type that is told where they are no integers
abbrev pub integer_type : Ty
integer_type = primitive U64 false
