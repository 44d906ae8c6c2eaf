-- A row of a column as the folds of a record read it.
use Rattle.std.specs.Prelude.{◌^◌, ◌-◌, List, map, ℤ, pos, negsuc}
use Rattle.std.specs.Prelude as std
use Rattle.vx_model.specs.Numbers.{is_between}
use Rattle.vx_model.specs.ValueData.{ValueData, null_value, bool_value, int_value, text_value, bytes_value, list_value, struct_value, no_values}
use Rattle.vx_zone_spec.specs.Record.{number_of_value}
use Rattle.vx_zone_record.specs.declared.scalar.Scalar.{Scalar}
use Rattle.vx_zone_record.specs.declared.scalar.Scalar.TheVariants.{Null, Bool, Int, Utf8, Binary, Nested}

abbrev pub scalar_value : Scalar → ValueData
scalar_value Null = null_value
scalar_value (Bool b) = bool_value b
scalar_value (Int n) = int_value n
scalar_value (Utf8 s) = text_value s.now
scalar_value (Binary s) = bytes_value s.now
scalar_value Nested = list_value no_values

-- lists and structs aren't looked into
abbrev pub shallow : ValueData → ValueData
shallow (list_value vs) = list_value no_values
shallow (struct_value vs) = list_value no_values
shallow v = v

-- rows that are seen as values, by these
abbrev pub shallow_rows : {R : Type 0} → (R → ValueData) → List R → List ValueData
shallow_rows seen rows = map (λ r. shallow (seen r)) rows

-- the number of a row of some type: it has 64 bits and a sign
abbrev pub is_small_number : ℤ → std.Bool
is_small_number n = is_between (negsuc (2 ^ 64 - 1)) (pos (2 ^ 64)) n

abbrev pub is_small : ValueData → std.Bool
is_small v = is_small_number (number_of_value v)
