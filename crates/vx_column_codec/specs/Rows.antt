-- Rows of leaves, one at a time.
use Rattle.std.specs.Prelude.{◌≡◌, ℕ, true, false, if◌then◌else◌, List, Option, Some, refl}
use Rattle.vx_model.specs.CellData.{CellData, null_cell}
use Rattle.vx_byte_reader.specs.Fields.{◌>>=◌, flag_at}
use Rattle.vx_cell_codec.specs.Reading.{valid_at, leaf_at, blob_at, text_at}
use Rattle.vx_strings.specs.declared.kind.StringKind.{StringKind}
use Rattle.vx_strings.specs.declared.kind.StringKind.TheVariants.{Utf8, Binary}

-- null where the flag is 0, else what stands behind it
abbrev pub flagged_at : (List ℕ → Option (CellData × List ℕ)) → List ℕ → Option (CellData × List ℕ)
flagged_at read bytes = flag_at bytes >>= λ v. if v.0 then read v.1 else Some (null_cell, v.1)

pub flagged_leaf : {A : Type 0} (make : A → CellData) (read : List ℕ → Option (A × List ℕ)) (bytes : List ℕ) → leaf_at true make read bytes ≡ flagged_at (leaf_at false make read) bytes
unfolding leaf_at valid_at
flagged_leaf make read bytes = refl

-- a text, or bytes
abbrev pub string_at : StringKind → List ℕ → Option (List ℕ × List ℕ)
string_at Utf8 = text_at
string_at Binary = blob_at
