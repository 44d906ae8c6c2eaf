-- The columns of a chunk of lists.
use Rattle.std.proofs.Common.{◌≡◌, ℕ, ◌+◌, ◌-◌, ◌*◌, ◌<◌, ◌≤◌, ◌^◌, min, true, List, [], ◌∷◌, ◌++◌, length, refl, arith, rules, length-append}
use Rattle.std.proofs.lemmas.Bool.{and_parts}
use Rattle.vx_model.specs.declared.dtype.DType as dt
use Rattle.vx_model.specs.declared.ptype.PType.TheVariants.{U64}
use Rattle.vx_model.specs.declared.ptype.Nullability.TheVariants.{NonNullable}
use Rattle.vx_model.specs.TyView.{ty}
use Rattle.vx_model.specs.Words.{all_by}
use Rattle.vx_model.specs.CellData.{CellData, null_cell, bool_cell, int_cell, text_cell, bytes_cell, list_cell, struct_cell, items}
use Rattle.vx_model.specs.ChunkData.{ChunkData, piece_type, cells}
use Rattle.vx_layout_spec.specs.Parts.{elements_of, all_elements}
use Rattle.vx_layout_spec.specs.Real.{is_length, is_real_cell, are_real_cells, Whole}
use Rattle.vx_rules.specs.Columns.{offset_type}
use Rattle.vx_rules.proofs.CellLaws.{Fine, below, cells_fine}
use Rattle.vx_split.specs.Causes.{IsPast, Tells}
use Rattle.vx_split.specs.declared.error.SplitError.{SplitError}
use Rattle.vx_split.specs.declared.error.SplitError.TheVariants.{NotStruct, DuplicateField, TooLarge, OutOfMemory}

pub ty_offsets : ty (dt.Primitive U64 NonNullable) ≡ offset_type
ty_offsets = search (rules, dt.the_lemmas)

pub ruleset type_rules = (ty_offsets)

-- ---- the number that is told is exact

-- a list in memory has fewer than 2^64 elements
few_here : (c : CellData) → is_real_cell c ≡ true → length (elements_of c) ≤ 2 ^ 64 - 1
few_here (list_cell valid cs) h = let lt : length (items cs) < 2 ^ 64 = below (length (items cs)) (and_parts (are_real_cells cs) (is_length (length (items cs))) h).1 in omega arith
few_here (struct_cell valid cs) h = omega arith
few_here null_cell h = omega arith
few_here (bool_cell b) h = omega arith
few_here (int_cell i) h = omega arith
few_here (text_cell s) h = omega arith
few_here (bytes_cell s) h = omega arith

few_elements : (cs : List CellData) → all_by is_real_cell cs ≡ true → length (all_elements cs) ≤ length cs * (2 ^ 64 - 1)
few_elements [] h = omega arith
few_elements (c ∷ cs) h =
    let here : length (elements_of c) ≤ 2 ^ 64 - 1 = few_here c (and_parts (is_real_cell c) (all_by is_real_cell cs) h).0 in
    let rest : length (all_elements cs) ≤ length cs * (2 ^ 64 - 1) = few_elements cs (and_parts (is_real_cell c) (all_by is_real_cell cs) h).1 in
    let both : length (elements_of c ++ all_elements cs) ≡ length (elements_of c) + length (all_elements cs) = length-append (elements_of c) (all_elements cs) in
    omega arith

pub fits_u128 : (p : ChunkData) (base : ℕ) → base < 2 ^ 64 → Whole p → base + length (all_elements (cells p)) < 2 ^ 128
fits_u128 p base lt w =
    let f : Fine (piece_type p) (cells p) = cells_fine (piece_type p) p (record { typed = refl; whole = w }) in
    let few : length (all_elements (cells p)) ≤ length (cells p) * (2 ^ 64 - 1) = few_elements (cells p) f.real in
    let short : length (cells p) < 2 ^ 64 = f.short in
    omega arith

pub tells : (n : ℕ) (e : SplitError) → n < 2 ^ 128 → IsPast n e → Tells n e
tells n NotStruct lt h = h
tells n (DuplicateField name) lt h = h
tells n (TooLarge m) lt h = let capped : m ≡ min n (2 ^ 128 - 1) = h.1 in omega arith
tells n OutOfMemory lt h = tt
