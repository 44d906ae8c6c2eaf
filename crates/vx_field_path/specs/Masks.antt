-- Masks over the fields below a column.
use Rattle.std.specs.Prelude.{◌≡◌, ℕ, Bool, true, false, List, [], ◌∷◌, Option, Some, None, MatchOption}
use Rattle.vx_field_path.specs.Paths.{Names, is_root, first_name}
use Rattle.vx_field_path.specs.declared.mask.FieldMask.{FieldMask}
use Rattle.vx_field_path.specs.declared.mask.FieldMask.TheVariants.{All, Prefix, Exact}

-- all fields below the path, at the root all there are
abbrev pub below : Names → FieldMask
below [] = All
below (a ∷ p) = Prefix (a ∷ p)

-- whether every field matches
abbrev pub takes_all : FieldMask → Bool
takes_all All = true
takes_all (Prefix p) = is_root p
takes_all (Exact p) = false

abbrev pub starting : FieldMask → Option (List ℕ)
starting All = None
starting (Prefix p) = first_name p
starting (Exact p) = first_name p

-- the mask as seen from below its first name
abbrev pub mask_stepped : FieldMask → Option FieldMask
mask_stepped All = Some All
mask_stepped (Prefix []) = None
mask_stepped (Prefix (a ∷ p)) = Some (below p)
mask_stepped (Exact []) = None
mask_stepped (Exact (a ∷ p)) = Some (Exact p)
