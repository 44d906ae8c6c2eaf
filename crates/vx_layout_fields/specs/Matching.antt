-- The fields of a struct that masks mean.
use Rattle.std.specs.Prelude.{ℕ, Bool, if◌then◌else◌, List, [], ◌∷◌, length, map, bytes_eq, Option, Some, None, Result, Ok, Err}
use Rattle.std.specs.List.{list_any, position, range_with_len}
use Rattle.vx_model.specs.Ty.{Named}
use Rattle.vx_field_path.specs.declared.mask.FieldMask.{FieldMask}
use Rattle.vx_field_path.specs.declared.mask.FieldMask.TheVariants.{All, Prefix, Exact}
use Rattle.vx_field_path.specs.Masks.{below, takes_all}
use Rattle.vx_layout_spec.specs.Refusal.{Refusal, field_not_found}
use Rattle.vx_session.specs.Made.{◌>>=◌}

-- a mask as seen from a field, and the field's number
abbrev pub Match : Type 0
Match = FieldMask × ℕ

abbrev pub is_named : List ℕ → Named → Bool
is_named name field = bytes_eq field.0 name

abbrev pub matched : List ℕ → FieldMask → Option ℕ → Result (Option Match) Refusal
matched name m None = Err (field_not_found name)
matched name m (Some number) = Ok (Some (m, number))

-- A mask that starts at a name matches the first field of that name. No other mask matches one field.
abbrev pub match_of : List Named → FieldMask → Result (Option Match) Refusal
match_of fields All = Ok None
match_of fields (Prefix []) = Ok None
match_of fields (Prefix (a ∷ p)) = matched a (below p) (position (is_named a) fields)
match_of fields (Exact []) = Ok None
match_of fields (Exact (a ∷ p)) = matched a (Exact p) (position (is_named a) fields)

abbrev pub with_match : Option Match → List Match → List Match
with_match None others = others
with_match (Some one) others = one ∷ others

-- what each mask matches, in order of the masks, or the first refusal
abbrev pub each_match : List Named → List FieldMask → Result (List Match) Refusal
each_match fields [] = Ok []
each_match fields (m ∷ ms) = do
  one ← match_of fields m
  others ← each_match fields ms
  Ok (with_match one others)

abbrev pub all_of : ℕ → Match
all_of number = (All, number)

-- each field with all that is below it
abbrev pub every_field : List Named → List Match
every_field fields = map all_of (range_with_len 0 (length fields))

-- every field where a mask matches all, whatever the other masks are
abbrev pub matching : List Named → List FieldMask → Result (List Match) Refusal
matching fields ms = if list_any takes_all ms then Ok (every_field fields) else each_match fields ms
