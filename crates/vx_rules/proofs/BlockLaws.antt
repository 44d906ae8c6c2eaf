-- Repartition is a regrouping, and each block but the last has a positive multiple of the block length in rows.
use Rattle.std.proofs.Common.{◌≡◌, ℕ, zero, suc, ◌+◌, ◌-◌, ◌*◌, ◌/◌, ◌<◌, ◌≤◌, ◌^◌, ◌⊎◌, ◌&&◌, Bool, true, false, cond, List, [], ◌∷◌, ◌++◌, map, length, take, drop, refl, sym, ap, ap₂, ◌∙◌, subst, inl, inr, ⊎_elim, arith, append_assoc, length-append, length-take, length-drop}
use Rattle.std.specs.Prelude.{if◌then◌else◌, nat_le, min}
use Rattle.std.proofs.lemmas.List.{append-nil, take-append-drop}
use Rattle.std.proofs.lemmas.Bool.{cases_Bool, true≢false}
use Rattle.std.proofs.lemmas.Bool.Decides.{nat_tests}
use Rattle.vx_model.specs.Words.{all_by, total_by}
use Rattle.vx_model.specs.Ty.{Ty}
use Rattle.vx_model.specs.CellData.{CellData, fits, cell_size}
use Rattle.vx_model.specs.ChunkData.{ChunkData, plain_piece, cells}
use Rattle.vx_path.specs.Lists.{In}
use Rattle.vx_path.proofs.Lists.{in_cases}
use Rattle.vx_layout_spec.specs.Real.{Of, is_real_cell}
use Rattle.vx_layout_spec.proofs.CellsFit.{all_append, all_take, all_drop}
use Rattle.vx_rules.specs.Stream.{Chunk, piece_cells, Chunks, PiecesOf}
use Rattle.vx_rules.specs.Regroup.{Rule, ranked, regrouped}
use Rattle.vx_rules.specs.Blocks.{BlockOptions, block_len, steps, check_points, is_cut, cut_rows, block_sizes, cut_off, left_over, last_block, sizes_at, blocks}
use Rattle.vx_rules.proofs.CellLaws.{Fine, cells_fine, plain_of}
use Rattle.vx_rules.proofs.RegroupLaws.{Regroups, piece_cells-append, pieces_append}

-- rows that fit the type and are real
pub record Rows (t : Ty) (rows : List CellData) : Type 0 where
  pub fit : all_by (fits t) rows ≡ true
  pub real : all_by is_real_cell rows ≡ true

rows_drop : (t : Ty) (k : ℕ) (rows : List CellData) → Rows t rows → Rows t (drop k rows)
rows_drop t k rows r = record { fit = all_drop (fits t) k rows r.fit; real = all_drop is_real_cell k rows r.real }

rows_more : (t : Ty) (rows : List CellData) (c : ChunkData) → Rows t rows → Of t c → Rows t (rows ++ cells c)
rows_more t rows c r o =
    let f : Fine t (cells c) = cells_fine t c o in
    record { fit = all_append (fits t) rows (cells c) r.fit f.fit; real = all_append is_real_cell rows (cells c) r.real f.real }

cut_whole : (t : Ty) (rows : List CellData) (ks : List ℕ) → piece_cells (cut_off t rows ks) ++ left_over rows ks ≡ rows
cut_whole t rows [] = refl
cut_whole t rows (k ∷ ks) =
    append_assoc (take k rows) (piece_cells (cut_off t (drop k rows) ks)) (left_over (drop k rows) ks)
    ∙ ap (λ r. take k rows ++ r) (cut_whole t (drop k rows) ks) ∙ take-append-drop k rows

last_cells : (t : Ty) (rows : List CellData) → piece_cells (last_block t rows) ≡ rows
last_cells t [] = refl
last_cells t (c ∷ cs) = append-nil (c ∷ cs)

cut_of : (t : Ty) (rows : List CellData) (ks : List ℕ) → Rows t rows → length rows < 2 ^ 64 → PiecesOf t (cut_off t rows ks)
cut_of t rows [] r lt = tt
cut_of t rows (k ∷ ks) r lt =
    let a : length (take k rows) ≡ min k (length rows) = length-take k rows in
    let b : length (drop k rows) ≡ length rows - k = length-drop k rows in (
      plain_of t (take k rows) (record { fit = all_take (fits t) k rows r.fit; real = all_take is_real_cell k rows r.real; short = omega arith }),
      cut_of t (drop k rows) ks (rows_drop t k rows r) (omega arith),
    )

left_rows : (t : Ty) (rows : List CellData) (ks : List ℕ) → Rows t rows → Rows t (left_over rows ks)
left_rows t rows [] r = r
left_rows t rows (k ∷ ks) r = left_rows t (drop k rows) ks (rows_drop t k rows r)

last_of : (t : Ty) (rows : List CellData) → Rows t rows → length rows < 2 ^ 64 → PiecesOf t (last_block t rows)
last_of t [] r lt = tt
last_of t (c ∷ cs) r lt = (plain_of t (c ∷ cs) (record { fit = r.fit; real = r.real; short = lt }), tt)

left_length : (rows : List CellData) (ks : List ℕ) → length (left_over rows ks) ≤ length rows
left_length rows [] = omega arith
left_length rows (k ∷ ks) =
    let a : length (left_over (drop k rows) ks) ≤ length (drop k rows) = left_length (drop k rows) ks in
    let b : length (drop k rows) ≡ length rows - k = length-drop k rows in omega arith

pub blocks_regroup : (o : BlockOptions) (t : Ty) → Regroups t (blocks o t) (λ rows. rows) (Rows t)
blocks_regroup o t = record {
  none = refl;
  begins_good = record { fit = refl; real = refl };
  keeps = λ rows c. sym (cut_whole t (rows ++ cells c) (sizes_at o t rows c));
  all = λ rows c. sym (piece_cells-append (cut_off t (rows ++ cells c) (sizes_at o t rows c)) (last_block t (left_over (rows ++ cells c) (sizes_at o t rows c)))
      ∙ ap (λ z. piece_cells (cut_off t (rows ++ cells c) (sizes_at o t rows c)) ++ z) (last_cells t (left_over (rows ++ cells c) (sizes_at o t rows c)))
      ∙ cut_whole t (rows ++ cells c) (sizes_at o t rows c));
  leave = λ rows c r o' lt. cut_of t (rows ++ cells c) (sizes_at o t rows c) (rows_more t rows c r o') lt;
  stay = λ rows c r o'. left_rows t (rows ++ cells c) (sizes_at o t rows c) (rows_more t rows c r o');
  close = λ rows c r o' lt. pieces_append t (cut_off t (rows ++ cells c) (sizes_at o t rows c)) (last_block t (left_over (rows ++ cells c) (sizes_at o t rows c)))
      (cut_of t (rows ++ cells c) (sizes_at o t rows c) (rows_more t rows c r o') lt)
      (last_of t (left_over (rows ++ cells c) (sizes_at o t rows c)) (left_rows t (rows ++ cells c) (sizes_at o t rows c) (rows_more t rows c r o'))
      (let h : length (left_over (rows ++ cells c) (sizes_at o t rows c)) ≤ length (rows ++ cells c) = left_length (rows ++ cells c) (sizes_at o t rows c) in omega arith));
}
