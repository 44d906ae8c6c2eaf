-- Reading values one after the other, as a loop does.
use Rattle.std.proofs.Common.{◌≡◌, ℕ, ◌-◌, ◌+◌, ◌≤◌, ◌<◌, List, [], ◌∷◌, ◌++◌, length, get_or, drop, map, Option, Some, None, refl, sym, ap, ◌∙◌}
use Rattle.std.proofs.lemmas.List.{append-nil, drop_more, drop_all}
use Rattle.vx_model.specs.declared.dtype.StructField.{StructField}
use Rattle.vx_model.specs.Ty.{tys_of}
use Rattle.vx_model.specs.TyView.{ty, field_ty}
use Rattle.vx_model.specs.CellData.{CellData}
use Rattle.vx_model.proofs.Views.{field_ty_is}
use Rattle.vx_cell_codec.specs.declared.error.CellError.{CellError}
use Rattle.vx_cell_codec.specs.declared.error.CellError.TheVariants as errors
use Rattle.vx_byte_reader.specs.Fields.{many_at}
use Rattle.vx_byte_reader.proofs.FieldLoops.{with_front, regroup, many_stops}
use Rattle.vx_cell_codec.specs.Reading.{nothing_at, first_at, cell_at, fields_at}
use Rattle.vx_cell_codec.specs.Views.{Fails}

pub fails_with : {A B : Type 0} (e : CellError) (r : Option A) (total : Option B) → (r ≡ None → total ≡ None) → Fails e r → Fails e total
fails_with errors.NoCells r total carry h = carry h
fails_with errors.OutOfMemory r total carry h = tt

pub many_ends : {A : Type 0} (e : CellError) (read : List ℕ → Option (A × List ℕ)) (front : List A) (count i : ℕ) (bytes : List ℕ) (total : Option (List A × List ℕ)) → i < count → Fails e (read bytes)
    → with_front front (many_at read (count - i) bytes) ≡ total → Fails e total
many_ends e read front count i bytes total lt h so_far = fails_with e (read bytes) total (λ is. many_stops read front count i bytes total lt is so_far) h

-- ---- one cell a field

abbrev pub rest_at : List StructField → ℕ → List ℕ → Option (List CellData × List ℕ)
rest_at fs i = fields_at (tys_of (map field_ty (drop i fs)))

next_field : (fs : List StructField) (i : ℕ) (f : StructField) (bytes : List ℕ) → i < length fs → f ≡ get_or fs i f → rest_at fs i bytes ≡ first_at (cell_at (ty f.dtype)) (rest_at fs (i + 1)) bytes
next_field fs i f bytes lt is = rw (drop_more fs i f lt, ← is, field_ty_is f) refl

pub fields_go_on : (fs : List StructField) (front : List CellData) (i : ℕ) (f : StructField) (bytes : List ℕ) (c : CellData) (after : List ℕ) (total : Option (List CellData × List ℕ)) → i < length fs → f ≡ get_or fs i f → cell_at (ty f.dtype) bytes ≡ Some (c, after)
    → with_front front (rest_at fs i bytes) ≡ total → with_front (front ++ c ∷ []) (rest_at fs (i + 1) after) ≡ total
unfolding first_at
fields_go_on fs front i f bytes c after total lt is h so_far =
    let one : with_front front (rest_at fs i bytes) ≡ with_front (front ++ c ∷ []) (rest_at fs (i + 1) after) = rw (next_field fs i f bytes lt is, h) (regroup front c (rest_at fs (i + 1) after)) in
    sym one ∙ so_far

fields_stop : (fs : List StructField) (front : List CellData) (i : ℕ) (f : StructField) (bytes : List ℕ) (total : Option (List CellData × List ℕ)) → i < length fs → f ≡ get_or fs i f → cell_at (ty f.dtype) bytes ≡ None
    → with_front front (rest_at fs i bytes) ≡ total → total ≡ None
unfolding first_at
fields_stop fs front i f bytes total lt is h so_far =
    let one : with_front front (rest_at fs i bytes) ≡ None = rw (next_field fs i f bytes lt is, h) refl in
    sym so_far ∙ one

pub fields_end : (e : CellError) (fs : List StructField) (front : List CellData) (i : ℕ) (f : StructField) (bytes : List ℕ) (total : Option (List CellData × List ℕ)) → i < length fs → f ≡ get_or fs i f → Fails e (cell_at (ty f.dtype) bytes)
    → with_front front (rest_at fs i bytes) ≡ total → Fails e total
fields_end e fs front i f bytes total lt is h so_far = fails_with e (cell_at (ty f.dtype) bytes) total (λ none. fields_stop fs front i f bytes total lt is none so_far) h

pub fields_done : (fs : List StructField) (front : List CellData) (i : ℕ) (bytes : List ℕ) (total : Option (List CellData × List ℕ)) → length fs ≤ i → with_front front (rest_at fs i bytes) ≡ total → total ≡ Some (front, bytes)
unfolding nothing_at
fields_done fs front i bytes total le so_far =
    let one : with_front front (rest_at fs i bytes) ≡ Some (front, bytes) = rw (drop_all i fs le) (ap (λ (ns : List CellData). Some (ns, bytes)) (append-nil front)) in
    sym so_far ∙ one
