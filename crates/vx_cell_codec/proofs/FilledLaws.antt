-- Cells that fill bytes are read from them, and nothing else is.
use Rattle.std.proofs.Common.{◌≡◌, ℕ, ◌<◌, ◌≤◌, Bool, true, false, cond, eqb, List, [], ◌∷◌, ◌++◌, length, map, Some, None, Result, Ok, Err, refl, sym, ap, subst, ◌∙◌, arith, IsTrue}
use Rattle.std.specs.Prelude.{ℤ, IfOk}
use Rattle.std.specs.Global.{Vec}
use Rattle.vx_model.specs.declared.cell.Cell.{Cell}
use Rattle.vx_model.specs.TreeView.{tree}
use Rattle.std.proofs.lemmas.Bool.{eqb-true}
use Rattle.std.proofs.lemmas.List.{append-nil, nil_from_length, length-append}
use Rattle.vx_model.specs.declared.ptype.PType.{PType}
use Rattle.vx_model.specs.declared.ptype.PType.TheVariants.{U8, U16, U32, U64, I8, I16, I32, I64}
use Rattle.vx_model.specs.Words.{joined_by, all_by}
use Rattle.vx_model.specs.Ty.{Ty, boolean, primitive, utf8, binary, list, struct, extension}
use Rattle.vx_model.specs.CellData.{CellData, null_cell, bool_cell, int_cell, text_cell, bytes_cell, list_cell, struct_cell, items, bit, flag_bytes, u64_bytes, int_bytes, fits, spelling}
use Rattle.vx_layout_spec.specs.Real.{is_real_cell}
use Rattle.vx_cell_codec.specs.declared.error.CellError.{CellError}
use Rattle.vx_cell_codec.specs.Reading.{cell_at, cells_at, only_cell_at}
use Rattle.vx_cell_codec.specs.Filled.{AreFilled}
use Rattle.vx_cell_codec.specs.Views.{Gives}
use Rattle.vx_byte_reader.specs.Fields.{many_at}
use Rattle.vx_byte_reader.proofs.FieldLaws.{IsBytes, bind_some, guard_some, both_true, halves}
use Rattle.vx_cell_codec.proofs.CellLaws.{reads_cell, rows_take, rows_again}

pub cells_take : (t : Ty) (rows : ℕ) (bytes : List ℕ) (cs : List CellData) → IsBytes bytes → cells_at t rows bytes ≡ Some cs → AreFilled t rows bytes cs
unfolding cells_at
cells_take t rows bytes cs is_bytes e =
    let a = bind_some (many_at (cell_at t) rows bytes) (λ cells. cond (eqb (length cells.1) 0) (Some cells.0) None) cs e in
    let g = guard_some (eqb (length a.0.1) 0) a.0.0 cs a.2 in
    let known = rows_take t rows bytes a.0 is_bytes a.1 in
    let nothing : a.0.1 ≡ [] = nil_from_length a.0.1 (eqb-true _ _ g.0) in
    let whole : bytes ≡ joined_by (spelling t) a.0.0 = known.0.parts ∙ ap (λ (r : List ℕ). joined_by (spelling t) a.0.0 ++ r) nothing ∙ append-nil (joined_by (spelling t) a.0.0) in
    subst (AreFilled t rows bytes) g.1 (record { spelled = whole; count = known.1; fit = known.2.fit; real = known.2.real })

pub cells_again : (t : Ty) (rows : ℕ) (bytes : List ℕ) (cs : List CellData) → AreFilled t rows bytes cs → cells_at t rows bytes ≡ Some cs
unfolding cells_at
cells_again t rows bytes cs filled =
    let text : List ℕ = joined_by (spelling t) cs in
    let read : many_at (cell_at t) (length cs) text ≡ Some (cs, []) = ap (many_at (cell_at t) (length cs)) (sym (append-nil text)) ∙ rows_again t cs [] (record { fit = filled.fit; real = filled.real }) in
    rw (filled.spelled, ← filled.count, read) refl

-- one cell
pub only_take : (t : Ty) (bytes : List ℕ) (c : CellData) → IsBytes bytes → only_cell_at t bytes ≡ Some c → AreFilled t 1 bytes (c ∷ [])
unfolding only_cell_at
only_take t bytes c is_bytes e =
    let a = bind_some (cell_at t bytes) (λ cell. cond (eqb (length cell.1) 0) (Some cell.0) None) c e in
    let g = guard_some (eqb (length a.0.1) 0) a.0.0 c a.2 in
    let known = (reads_cell t).takes bytes a.0.0 a.0.1 is_bytes a.1 in
    let nothing : a.0.1 ≡ [] = nil_from_length a.0.1 (eqb-true _ _ g.0) in
    let whole : bytes ≡ joined_by (spelling t) (a.0.0 ∷ []) = known.0.parts ∙ ap (λ (r : List ℕ). spelling t a.0.0 ++ r) nothing in
    subst (λ (d : CellData). AreFilled t 1 bytes (d ∷ [])) g.1 (record { spelled = whole; count = refl; fit = both_true (fits t a.0.0) true known.1.fit refl; real = both_true (is_real_cell a.0.0) true known.1.real refl })

pub only_again : (t : Ty) (bytes : List ℕ) (c : CellData) → AreFilled t 1 bytes (c ∷ []) → only_cell_at t bytes ≡ Some c
unfolding only_cell_at
only_again t bytes c filled =
    let fit = halves (fits t c) true filled.fit in
    let real = halves (is_real_cell c) true filled.real in
    rw (filled.spelled, (reads_cell t).again c [] (record { fit = fit.0; real = real.0 })) refl

-- ---- a cell takes a byte at least

behind : (a b : List ℕ) → 0 < length b → 0 < length (a ++ b)
behind a b some = omega (arith, length-append a b, some)

front : (a b : List ℕ) → 0 < length a → 0 < length (a ++ b)
front a b some = omega (arith, length-append a b, some)

null_some : (n : Bool) → IsTrue n → 0 < length (flag_bytes n false)
null_some true h = omega arith
null_some false h = absurd cc

int_some : (p : PType) (i : ℤ) → 0 < length (int_bytes p i)
int_some U8 i = omega arith
int_some U16 i = omega arith
int_some U32 i = omega arith
int_some U64 i = omega arith
int_some I8 i = omega arith
int_some I16 i = omega arith
int_some I32 i = omega arith
int_some I64 i = omega arith

number_some : (n : ℕ) (s : List ℕ) → 0 < length (u64_bytes n ++ s)
number_some n s = front (u64_bytes n) s (omega arith)

pub spelled_some : (t : Ty) (c : CellData) → IsTrue (fits t c) → 0 < length (spelling t c)
spelled_some (boolean n) null_cell h = null_some n h
spelled_some (boolean n) (bool_cell b) h = behind (flag_bytes n true) (bit b ∷ []) (omega arith)
spelled_some (boolean n) c h = absurd cc
spelled_some (primitive p n) null_cell h = null_some n h
spelled_some (primitive p n) (int_cell i) h = behind (flag_bytes n true) (int_bytes p i) (int_some p i)
spelled_some (primitive p n) c h = absurd cc
spelled_some (utf8 n) null_cell h = null_some n h
spelled_some (utf8 n) (text_cell s) h = behind (flag_bytes n true) (u64_bytes (length s) ++ s) (number_some (length s) s)
spelled_some (utf8 n) c h = absurd cc
spelled_some (binary n) null_cell h = null_some n h
spelled_some (binary n) (bytes_cell s) h = behind (flag_bytes n true) (u64_bytes (length s) ++ s) (number_some (length s) s)
spelled_some (binary n) c h = absurd cc
spelled_some (list t n) (list_cell valid cs) h = behind (flag_bytes n valid) (u64_bytes (length (items cs)) ++ joined_by (spelling t) (items cs)) (number_some (length (items cs)) (joined_by (spelling t) (items cs)))
spelled_some (list t n) c h = absurd cc
spelled_some (struct fs n) (struct_cell valid cs) h = omega arith
spelled_some (struct fs n) c h = absurd cc
spelled_some (extension tag t) c h = spelled_some t c h

few_cells : (t : Ty) (cs : List CellData) → IsTrue (all_by (fits t) cs) → length cs ≤ length (joined_by (spelling t) cs)
few_cells t [] h = omega arith
few_cells t (c ∷ cs) h =
    let parts = halves (fits t c) (all_by (fits t) cs) h in
    omega (arith, length-append (spelling t c) (joined_by (spelling t) cs), spelled_some t c parts.0, few_cells t cs parts.1)

pub rows_bounded : (t : Ty) (rows : ℕ) (bytes : List ℕ) (cs : List CellData) → AreFilled t rows bytes cs → rows ≤ length bytes
rows_bounded t rows bytes cs filled = rw (← filled.count, filled.spelled) (few_cells t cs filled.fit)

-- ---- what a reader that answers so says

abbrev cells_in : Vec Cell → List CellData
cells_in v = map tree v.items

pub is_found : (t : Ty) (rows : ℕ) (bytes : List ℕ) (r : Result (Vec Cell) CellError) → IsBytes bytes → Gives cells_in r (cells_at t rows bytes) → IfOk r (λ v. AreFilled t rows bytes (map tree v.items))
is_found t rows bytes (Ok v) is_bytes e = cells_take t rows bytes (map tree v.items) is_bytes e
is_found t rows bytes (Err e) is_bytes h = tt

pub is_bounded : (t : Ty) (rows : ℕ) (bytes : List ℕ) (r : Result (Vec Cell) CellError) → IsBytes bytes → Gives cells_in r (cells_at t rows bytes) → IfOk r (λ v. rows ≤ length bytes)
is_bounded t rows bytes (Ok v) is_bytes e = rows_bounded t rows bytes (map tree v.items) (cells_take t rows bytes (map tree v.items) is_bytes e)
is_bounded t rows bytes (Err e) is_bytes h = tt

pub is_found_one : (t : Ty) (bytes : List ℕ) (r : Result Cell CellError) → IsBytes bytes → Gives tree r (only_cell_at t bytes) → IfOk r (λ c. AreFilled t 1 bytes (tree c ∷ []))
is_found_one t bytes (Ok c) is_bytes e = only_take t bytes (tree c) is_bytes e
is_found_one t bytes (Err e) is_bytes h = tt
