-- Sizes and rows of chunks that are joined or cut.
use Rattle.std.proofs.Common.{◌≡◌, ℕ, ◌+◌, ◌≤◌, true, List, [], ◌∷◌, ◌++◌, length, map, refl, sym, ap, ◌∙◌, arith}
use Rattle.std.proofs.lemmas.List.{map-append, length-map}
use Rattle.std.proofs.lemmas.Bool.{and_parts}
use Rattle.vx_model.specs.Words.{joined_by, total_by}
use Rattle.vx_model.specs.Ty.{Ty, ty_eq}
use Rattle.vx_model.specs.CellData.{CellData, cell_size}
use Rattle.vx_model.specs.ValueData.{value}
use Rattle.vx_model.specs.ChunkData.{ChunkData, plain_piece, constant_piece, dict_piece, chunked_piece, list_piece, struct_piece, extension_piece, pieces_of, piece_type, cells, joined_cells, row_values, row_size, held, held_parts}
use Rattle.vx_chunk_cells.specs.Window.{window}
use Rattle.vx_chunk_cells.proofs.Windows.{window-map}
use Rattle.vx_chunk_cells.proofs.SizeSteps.{total-append}
use Rattle.vx_chunk.specs.Conditions.{are_of_type}
use Rattle.vx_layout_spec.specs.Parts.{parts_of, all_parts}
use Rattle.vx_chunk.proofs.SliceSteps.{pieces_of-pieces_in}
use Rattle.vx_chunk.proofs.ConcatSteps.{flat_cells}
use Rattle.vx_chunk.proofs.CellsFit.{of_type}
use Rattle.vx_chunk.proofs.SizeLaws.{joined_spans}

-- ---- sizes

held-append : (ps qs : List ChunkData) → held_parts (pieces_of (ps ++ qs)) ≡ held_parts (pieces_of ps) + held_parts (pieces_of qs)
held-append [] qs = omega arith
held-append (p ∷ ps) qs = let rest : held_parts (pieces_of (ps ++ qs)) ≡ held_parts (pieces_of ps) + held_parts (pieces_of qs) = held-append ps qs in omega arith

held_of_parts : (p : ChunkData) → held_parts (pieces_of (parts_of p)) ≡ held p
held_of_parts (chunked_piece t ps) = rw (pieces_of-pieces_in ps) refl
held_of_parts (plain_piece t cs) = omega arith
held_of_parts (constant_piece t c n) = omega arith
held_of_parts (dict_piece codes values) = omega arith
held_of_parts (list_piece t e offsets valid) = omega arith
held_of_parts (struct_piece t ps valid n) = omega arith
held_of_parts (extension_piece t p) = omega arith

pub held_sum : (ps : List ChunkData) → held_parts (pieces_of (all_parts ps)) ≡ total_by held ps
held_sum [] = refl
held_sum (p ∷ ps) =
    let first : held_parts (pieces_of (parts_of p)) ≡ held p = held_of_parts p in
    let rest : held_parts (pieces_of (all_parts ps)) ≡ total_by held ps = held_sum ps in
    held-append (parts_of p) (all_parts ps) ∙ omega arith

rows_of_type : (t : Ty) (ps : List ChunkData) → are_of_type t ps ≡ true → total_by (cell_size t) (joined_cells (pieces_of ps)) ≡ total_by row_size ps
rows_of_type t [] h = refl
rows_of_type t (p ∷ ps) h =
    let same : piece_type p ≡ t = of_type (piece_type p) t (and_parts (ty_eq (piece_type p) t) (are_of_type t ps) h).0 in
    let first : total_by (cell_size t) (cells p) ≡ row_size p = ap (λ u. total_by (cell_size u) (cells p)) (sym same) in
    let rest : total_by (cell_size t) (joined_cells (pieces_of ps)) ≡ total_by row_size ps = rows_of_type t ps (and_parts (ty_eq (piece_type p) t) (are_of_type t ps) h).1 in
    total-append (cell_size t) (cells p) (joined_cells (pieces_of ps)) ∙ omega arith

pub row_sum : (t : Ty) (ps : List ChunkData) → are_of_type t ps ≡ true → total_by (cell_size t) (joined_cells (pieces_of (all_parts ps))) ≡ total_by row_size ps
row_sum t ps h = ap (total_by (cell_size t)) (flat_cells ps) ∙ rows_of_type t ps h

pub slice_sum : (t : Ty) (cs : List CellData) (a b c : ℕ) → a ≤ b → b ≤ c → total_by (cell_size t) (window a b cs) + total_by (cell_size t) (window b c cs) ≡ total_by (cell_size t) (window a c cs)
slice_sum t cs a b c le more = sym (ap (total_by (cell_size t)) (joined_spans a b c cs le more) ∙ total-append (cell_size t) (window a b cs) (window b c cs))

-- ---- rows

pub rows_cut : (p c : ChunkData) (from to : ℕ) → cells c ≡ window from to (cells p) → row_values c ≡ window from to (row_values p)
rows_cut p c from to e = ap (map value) e ∙ sym (window-map value from to (cells p))

joined_rows : (ps : List ChunkData) → map value (joined_cells (pieces_of ps)) ≡ joined_by row_values ps
joined_rows [] = refl
joined_rows (p ∷ ps) = map-append value (cells p) (joined_cells (pieces_of ps)) ∙ ap (λ r. row_values p ++ r) (joined_rows ps)

pub rows_joined : (c : ChunkData) (ps : List ChunkData) → cells c ≡ joined_cells (pieces_of ps) → row_values c ≡ joined_by row_values ps
rows_joined c ps e = ap (map value) e ∙ joined_rows ps

pub rows_count : (p : ChunkData) → length (row_values p) ≡ length (cells p)
rows_count p = length-map (cells p) value
