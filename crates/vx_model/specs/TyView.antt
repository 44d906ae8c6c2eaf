-- A `DType` as contracts see it.
use Rattle.std.specs.Prelude.{List}
use Rattle.vx_model.specs.declared.dtype.DType.{DType, fold-DType}
use Rattle.vx_model.specs.declared.dtype.ExtDType.{ExtDType, fold-ExtDType}
use Rattle.vx_model.specs.declared.dtype.StructField.{StructField, fold-StructField}
use Rattle.vx_model.specs.declared.dtype.DType.TheOpen.{DType-F, ExtDType-F, StructField-F, StructFields-F}
use Rattle.vx_model.specs.Numbers.{is_nullable}
use Rattle.vx_model.specs.Ty.{Ty, boolean, primitive, utf8, binary, list, struct, extension, Named, tys_of}

abbrev pub dtype_step : DType-F Ty Named Named (List Named) → Ty
dtype_step (DType-F.Bool n) = boolean (is_nullable n)
dtype_step (DType-F.Primitive p n) = primitive p (is_nullable n)
dtype_step (DType-F.Utf8 n) = utf8 (is_nullable n)
dtype_step (DType-F.Binary n) = binary (is_nullable n)
dtype_step (DType-F.List t n) = list t.value (is_nullable n)
dtype_step (DType-F.Struct fs n) = struct (tys_of fs) (is_nullable n)
dtype_step (DType-F.Extension e) = extension e.0 e.1

abbrev pub ext_step : ExtDType-F Ty Named Named (List Named) → Named
ext_step e = (e.tag, e.storage.value)

abbrev pub field_step : StructField-F Ty Named Named (List Named) → Named
field_step f = (f.name, f.dtype)

abbrev pub fields_step : StructFields-F Ty Named Named (List Named) → List Named
fields_step fs = fs.fields.items

abbrev pub ty : DType → Ty
ty = fold-DType Ty Named Named (List Named) dtype_step ext_step field_step fields_step

abbrev pub ext_ty : ExtDType → Named
ext_ty = fold-ExtDType Ty Named Named (List Named) dtype_step ext_step field_step fields_step

abbrev pub field_ty : StructField → Named
field_ty = fold-StructField Ty Named Named (List Named) dtype_step ext_step field_step fields_step
