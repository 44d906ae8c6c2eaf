-- Strings that are read from their bytes.
use Rattle.std.proofs.Common.{◌≡◌, ℕ, Bool, true, false, List, Some, None, refl, ap, ◌∙◌}
use Rattle.std.specs.Prelude.{if◌then◌else◌}
use Rattle.std.proofs.lemmas.List.{nil_from_length}
use Rattle.vx_model.specs.CellData.{null_cell}
use Rattle.vx_byte_reader.specs.Fields.{◌>>=◌, front_at}
use Rattle.vx_cell_codec.specs.Reading.{number_at, blob_at, text_at, valid_at, leaf_at, cell_at}
use Rattle.vx_strings.specs.declared.kind.StringKind.{StringKind}
use Rattle.vx_strings.specs.declared.kind.StringKind.TheVariants.{Utf8, Binary}
use Rattle.vx_strings.specs.StringCells.{string_cell, string_type, may_be}
use Rattle.vx_strings.proofs.StringSteps.{no_text, grown_none}
use Rattle.vx_column_codec.specs.Rows.{string_at}

-- a row is null where its flag says so, else the string behind the flag
pub row_of_flag : (kind : StringKind) (n : Bool) (bytes : List ℕ) → cell_at (string_type kind n) bytes ≡ (valid_at n bytes >>= λ v. if v.0 then (string_at kind v.1 >>= λ x. Some (string_cell kind x.0, x.1)) else Some (null_cell, v.1))
unfolding leaf_at
row_of_flag Utf8 n bytes = refl
row_of_flag Binary n bytes = refl

pub row_none : (kind : StringKind) (n : Bool) (bytes : List ℕ) → valid_at n bytes ≡ None → cell_at (string_type kind n) bytes ≡ None
row_none kind n bytes e = row_of_flag kind n bytes ∙ ap (λ o. o >>= λ v. if v.0 then (string_at kind v.1 >>= λ x. Some (string_cell kind x.0, x.1)) else Some (null_cell, v.1)) e

pub row_null : (kind : StringKind) (n : Bool) (bytes rest : List ℕ) → valid_at n bytes ≡ Some (false, rest) → cell_at (string_type kind n) bytes ≡ Some (null_cell, rest)
row_null kind n bytes rest e = row_of_flag kind n bytes ∙ ap (λ o. o >>= λ v. if v.0 then (string_at kind v.1 >>= λ x. Some (string_cell kind x.0, x.1)) else Some (null_cell, v.1)) e

pub row_bad : (kind : StringKind) (n : Bool) (bytes rest : List ℕ) → valid_at n bytes ≡ Some (true, rest) → string_at kind rest ≡ None → cell_at (string_type kind n) bytes ≡ None
row_bad kind n bytes rest e h =
    row_of_flag kind n bytes ∙ ap (λ o. o >>= λ v. if v.0 then (string_at kind v.1 >>= λ x. Some (string_cell kind x.0, x.1)) else Some (null_cell, v.1)) e
    ∙ ap (λ o. o >>= λ x. Some (string_cell kind x.0, x.1)) h

pub row_some : (kind : StringKind) (n : Bool) (bytes rest s after : List ℕ) → valid_at n bytes ≡ Some (true, rest) → string_at kind rest ≡ Some (s, after) → cell_at (string_type kind n) bytes ≡ Some (string_cell kind s, after)
row_some kind n bytes rest s after e h =
    row_of_flag kind n bytes ∙ ap (λ o. o >>= λ v. if v.0 then (string_at kind v.1 >>= λ x. Some (string_cell kind x.0, x.1)) else Some (null_cell, v.1)) e
    ∙ ap (λ o. o >>= λ x. Some (string_cell kind x.0, x.1)) h

-- ---- a string

pub string_short : (kind : StringKind) (bytes : List ℕ) → number_at bytes ≡ None → string_at kind bytes ≡ None
unfolding blob_at text_at
string_short Utf8 bytes e = rw e refl
string_short Binary bytes e = rw e refl

pub string_cut : (kind : StringKind) (bytes rest : List ℕ) (n : ℕ) → number_at bytes ≡ Some (n, rest) → front_at n rest ≡ None → string_at kind bytes ≡ None
unfolding blob_at text_at
string_cut Utf8 bytes rest n e h = rw (e, h) refl
string_cut Binary bytes rest n e h = rw (e, h) refl

pub string_found : (kind : StringKind) (bytes rest s after : List ℕ) (n : ℕ) → number_at bytes ≡ Some (n, rest) → front_at n rest ≡ Some (s, after) → may_be kind s ≡ true → string_at kind bytes ≡ Some (s, after)
unfolding blob_at text_at
string_found Utf8 bytes rest s after n e h fine = rw (e, h, fine) refl
string_found Binary bytes rest s after n e h fine = rw (e, h) refl

pub string_refused : (kind : StringKind) (bytes rest s after : List ℕ) (n : ℕ) → number_at bytes ≡ Some (n, rest) → front_at n rest ≡ Some (s, after) → may_be kind s ≡ false → string_at kind bytes ≡ None
unfolding blob_at text_at
string_refused Utf8 bytes rest s after n e h bad = rw (e, h, bad) refl
string_refused Binary bytes rest s after n e h bad = absurd (cc)

pub ruleset string_rules = (string_short, string_cut, string_found, string_refused)

pub ruleset row_rules = (row_none, row_null, row_bad, row_some, no_text)

pub ruleset take_rules = (grown_none)

pub ruleset fill_rules = (nil_from_length)
