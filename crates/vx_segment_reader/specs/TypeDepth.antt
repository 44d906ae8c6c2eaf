-- How deep types nest.
use Rattle.std.specs.Prelude.{ℕ, suc, max}
use Rattle.vx_model.specs.Ty.{Ty, Tys, boolean, primitive, utf8, binary, list, struct, extension, no_fields, field}

abbrev mutual
  pub ty_depth : Ty → ℕ
  ty_depth (boolean n) = 0
  ty_depth (primitive p n) = 0
  ty_depth (utf8 n) = 0
  ty_depth (binary n) = 0
  ty_depth (list t n) = suc (ty_depth t)
  ty_depth (struct fs n) = suc (tys_depth fs)
  ty_depth (extension tag t) = suc (ty_depth t)

  pub tys_depth : Tys → ℕ
  tys_depth no_fields = 0
  tys_depth (field name t fs) = max (ty_depth t) (tys_depth fs)
