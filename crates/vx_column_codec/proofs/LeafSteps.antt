-- Values that are read from their bytes.
use Rattle.std.proofs.Common.{◌≡◌, ℕ, ◌-◌, ◌+◌, ◌<◌, Bool, false, List, [], ◌∷◌, ◌++◌, length, Option, Some, None, refl, sym, ap, ◌∙◌, length-append}
use Rattle.std.specs.Prelude.{if◌then◌else◌, ℤ}
use Rattle.std.proofs.lemmas.List.{append-nil, nil_from_length}
use Rattle.vx_model.specs.declared.ptype.PType.{PType}
use Rattle.vx_model.specs.Numbers.{ptype_bytes}
use Rattle.vx_model.specs.Ty.{boolean, primitive}
use Rattle.vx_model.specs.CellData.{CellData, null_cell, bool_cell, int_cell}
use Rattle.vx_byte_reader.specs.Fields.{◌>>=◌, front_at, flag_at, many_at}
use Rattle.vx_byte_reader.proofs.FieldLoops.{with_front, many_goes_on}
use Rattle.vx_cell_codec.specs.Reading.{int_from, int_at, valid_at, leaf_at, cell_at}
use Rattle.vx_typed.specs.Typed.{typed_cells}
use Rattle.vx_typed.proofs.Steps.{typed_push}

-- an integer of the bytes in front, and its cell
abbrev read_int : PType → List ℕ × List ℕ → Option (ℤ × List ℕ)
read_int p f = Some (int_from p f.0, f.1)

abbrev as_int : ℤ × List ℕ → Option (CellData × List ℕ)
as_int x = Some (int_cell x.0, x.1)

abbrev in_front : PType → Option (List ℕ × List ℕ) → Option (CellData × List ℕ)
in_front p None = None
in_front p (Some f) = Some (int_cell (int_from p f.0), f.1)

int_of_front : (p : PType) (bytes : List ℕ) → cell_at (primitive p false) bytes ≡ in_front p (front_at (ptype_bytes p) bytes)
unfolding leaf_at valid_at int_at
int_of_front p bytes = by (front_at (ptype_bytes p) bytes)
  where
    by : (o : Option (List ℕ × List ℕ)) → ((o >>= read_int p) >>= as_int) ≡ in_front p o
    by None = refl
    by (Some f) = refl

pub int_none : (p : PType) (bytes : List ℕ) → front_at (ptype_bytes p) bytes ≡ None → cell_at (primitive p false) bytes ≡ None
int_none p bytes e = int_of_front p bytes ∙ ap (in_front p) e

pub int_some : (p : PType) (bytes front rest : List ℕ) (i : ℤ) → i ≡ int_from p front → Some (front, rest) ≡ front_at (ptype_bytes p) bytes → Some (int_cell i, rest) ≡ cell_at (primitive p false) bytes
int_some p bytes front rest i e h = ap (λ (j : ℤ). as_int (j, rest)) e ∙ ap (in_front p) h ∙ sym (int_of_front p bytes)

pub bool_of_flag : (bytes : List ℕ) → cell_at (boolean false) bytes ≡ (flag_at bytes >>= λ x. Some (bool_cell x.0, x.1))
unfolding leaf_at valid_at
bool_of_flag bytes = refl

-- one value more
pub all_push : {X : Type 0} (f : X → CellData) (xs : List X) (x : X) → typed_cells f (xs ++ x ∷ []) [] ≡ typed_cells f xs [] ++ f x ∷ []
all_push f [] x = refl
all_push f (y ∷ xs) x = ap (λ (r : List CellData). f y ∷ r) (all_push f xs x)

-- a row more is read
pub plain_more : {X : Type 0} (f : X → CellData) (read : List ℕ → Option (CellData × List ℕ)) (xs new : List X) (x : X) (rows i : ℕ) (bytes after : List ℕ) (total : Option (List CellData × List ℕ))
    → new ≡ xs ++ x ∷ [] → i < rows → Some (f x, after) ≡ read bytes → with_front (typed_cells f xs []) (many_at read (rows - i) bytes) ≡ total → with_front (typed_cells f new []) (many_at read (rows - (i + 1)) after) ≡ total
plain_more f read xs new x rows i bytes after total e lt h so_far =
    rw (e, all_push f xs x) (many_goes_on read (typed_cells f xs []) rows i bytes (f x) after total lt (sym h) so_far)

pub flagged_more : {X : Type 0} (f : X → CellData) (read : List ℕ → Option (CellData × List ℕ)) (xs new : List X) (x : X) (bs flags : List Bool) (b : Bool) (rows i : ℕ) (bytes after : List ℕ) (total : Option (List CellData × List ℕ))
    → new ≡ xs ++ x ∷ [] → flags ≡ bs ++ b ∷ [] → length bs ≡ length xs → i < rows → Some ((if b then f x else null_cell), after) ≡ read bytes
    → with_front (typed_cells f xs bs) (many_at read (rows - i) bytes) ≡ total → with_front (typed_cells f new flags) (many_at read (rows - (i + 1)) after) ≡ total
flagged_more f read xs new x bs flags b rows i bytes after total e g long lt h so_far =
    rw (e, g, typed_push f xs bs x b long) (many_goes_on read (typed_cells f xs bs) rows i bytes (if b then f x else null_cell) after total lt (sym h) so_far)

pub both_more : {X : Type 0} (xs new : List X) (x : X) (bs flags : List Bool) (b : Bool) → new ≡ xs ++ x ∷ [] → flags ≡ bs ++ b ∷ [] → length bs ≡ length xs → length flags ≡ length new
both_more xs new x bs flags b e g long = rw (e, g) (length-append bs (b ∷ []) ∙ ap (λ (n : ℕ). n + 1) long ∙ sym (length-append xs (x ∷ [])))

pub ruleset bool_rules = (bool_of_flag)

pub ruleset int_rules = (int_none, int_some)

pub ruleset fill_rules = (nil_from_length)
