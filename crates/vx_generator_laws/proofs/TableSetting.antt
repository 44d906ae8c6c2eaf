-- In the table's setting segments, images and zone tables take about the sizes of their rows.
use Rattle.std.proofs.Common.{◌≡◌, ℕ, suc, ◌+◌, ◌*◌, ◌≤◌, ◌&&◌, Bool, true, false, List, [], ◌∷◌, ◌++◌, map, length, refl, sym, ap, ◌∙◌, subst, inl, inr, arith}
use Rattle.std.specs.Prelude.{if◌then◌else◌, replicate, nat_le, ◌==◌}
use Rattle.std.proofs.lemmas.List.{length-map, length-replicate}
use Rattle.vx_model.specs.Words.{total_by, all_by, joined_by}
use Rattle.vx_model.specs.Numbers.{ptype_bytes}
use Rattle.vx_model.specs.Ty.{Ty, primitive}
use Rattle.vx_model.specs.CellData.{CellData, cell_size, spelling}
use Rattle.vx_model.specs.ChunkData.{ChunkData, plain_piece, constant_piece, pieces_of, cells, each_cells, held_parts, is_dict_type, is_sound}
use Rattle.vx_path.specs.Lists.{In}
use Rattle.vx_layout_spec.specs.Real.{is_real}
use Rattle.vx_rules.specs.Columns.{offset_cell}
use Rattle.vx_rules.specs.Runs.{has_cell, with_cell, distinct_from}
use Rattle.vx_rules.proofs.CellLaws.{length-struct_rows}
use Rattle.vx_compressor_spec.specs.TableImage.{tree_eq, distinct, codes_of, code_ptype, dictionary, small_image, chosen_image, coded_image, table_image}
use Rattle.vx_machine_state.specs.Images.{images_of}
use Rattle.vx_zone_spec.specs.ZoneTable.{Filled, state_cell, table_columns, table_piece}
use Rattle.vx_segment_writer.specs.Segment.{buffers_below, heads_below, encode}
use Rattle.vx_strategy_spec.specs.StrategyData.{FlatOptions}
use Rattle.vx_encodings.specs.AllEncodings.{all_encodings}
use Rattle.vx_generator_laws.specs.TableWrite.{table_setting}
use Rattle.vx_generator_laws.proofs.Sums.{total-append, total_most, total_same}
use Rattle.vx_generator_laws.proofs.Tame.{bytes_in, bulk}
use Rattle.vx_generator_laws.proofs.DictPlans.{Ample, mass}
use Rattle.vx_generator_laws.proofs.ZonePlans.{Narrow, SmallTables}
use Rattle.vx_generator_laws.proofs.SegmentSizes.{accepts, width_few, head_size, segment_few, cells_few, plain_few, constant_few, dict_few}

-- ---- images

module _ (o : FlatOptions) (t : Ty) (held_type : is_dict_type t ≡ true) where
  -- what is to be shown of an image of these cells
  abbrev Small : List CellData → ChunkData → Type 0
  Small cs q = bulk table_setting o q ≤ 100 * (1 + total_by (λ c. 1 + cell_size t c) cs)

  split_mass : (cs : List CellData) → total_by (λ c. 1 + cell_size t c) cs ≡ length cs + total_by (cell_size t) cs
  split_mass [] = omega arith
  split_mass (c ∷ cs) = let r : total_by (λ c. 1 + cell_size t c) cs ≡ length cs + total_by (cell_size t) cs = split_mass cs in omega arith

  plain_small : (cs : List CellData) → Small cs (plain_piece t cs)
  plain_small cs =
      let e : total_by (λ c. 1 + cell_size t c) cs ≡ length cs + total_by (cell_size t) cs = split_mass cs in
      let k : bytes_in (encode all_encodings o.padding (plain_piece t cs)) ≤ 44 + total_by (cell_size t) cs = plain_few all_encodings o.padding t held_type cs in omega arith

  constant_small : (c : CellData) (cs : List CellData) → Small (c ∷ cs) (constant_piece t c (length (c ∷ cs)))
  constant_small c cs =
      let e : total_by (λ c. 1 + cell_size t c) cs ≡ length cs + total_by (cell_size t) cs = split_mass cs in
      let l : length (replicate (length (c ∷ cs)) c) ≡ length (c ∷ cs) = length-replicate (length (c ∷ cs)) c in
      let k : bytes_in (encode all_encodings o.padding (constant_piece t c (length (c ∷ cs)))) ≤ 44 + cell_size t c = constant_few all_encodings o.padding t held_type c (length (c ∷ cs)) in omega arith

  distinct_few : (ds cs : List CellData) → total_by (cell_size t) (distinct_from ds cs) ≤ total_by (cell_size t) ds + total_by (cell_size t) cs
  distinct_few ds [] = omega arith
  distinct_few ds (c ∷ cs) =
      let r : total_by (cell_size t) (distinct_from (with_cell ds c) cs) ≤ total_by (cell_size t) (with_cell ds c) + total_by (cell_size t) cs = distinct_few (with_cell ds c) cs in
      let a : total_by (cell_size t) (with_cell ds c) ≤ total_by (cell_size t) ds + cell_size t c = go (has_cell c ds) in omega arith
    where
      go : (h : Bool) → total_by (cell_size t) (if h then ds else ds ++ (c ∷ [])) ≤ total_by (cell_size t) ds + cell_size t c
      go true = omega arith
      go false = let e : total_by (cell_size t) (ds ++ (c ∷ [])) ≡ total_by (cell_size t) ds + (cell_size t c + 0) = total-append (cell_size t) ds (c ∷ []) in omega arith

  codes_length : (ds cs : List CellData) → length (codes_of ds cs) ≡ length cs
  codes_length ds [] = refl
  codes_length ds (c ∷ cs) = ap (λ n. suc n) (codes_length ds cs)

  dictionary_small : (cs : List CellData) → Small cs (dictionary t cs)
  dictionary_small cs =
      let u : Ty = primitive (code_ptype (length (distinct cs))) false in
      let ns : List CellData = map offset_cell (codes_of (distinct cs) cs) in
      let e : total_by (λ c. 1 + cell_size t c) cs ≡ length cs + total_by (cell_size t) cs = split_mass cs in
      let n : length ns ≡ length cs = length-map (codes_of (distinct cs) cs) offset_cell ∙ codes_length (distinct cs) cs in
      let l : length (cells (dictionary t cs)) ≡ length ns = length-map ns _ in
      let w : ptype_bytes (code_ptype (length (distinct cs))) ≤ 8 = width_few (code_ptype (length (distinct cs))) in
      let a : total_by (cell_size u) ns ≤ total_by (λ c. 8) ns = total_most (cell_size u) (λ c. 8) (λ c. omega arith) ns in
      let b : total_by (λ c. 8) ns ≡ 8 * length ns = total_same 8 ns in
      let d : total_by (cell_size t) (distinct cs) ≤ 0 + total_by (cell_size t) cs = distinct_few [] cs in
      let k : bytes_in (encode all_encodings o.padding (dictionary t cs)) ≤ 99 + total_by (cell_size u) ns + total_by (cell_size t) (distinct cs) =
      dict_few all_encodings o.padding u t refl held_type ns (distinct cs) in omega arith

  coded_small : (cs : List CellData) → Small cs (coded_image t cs)
  coded_small cs = go (is_dict_type t)
    where
      go : (b : Bool) → Small cs (if b then dictionary t cs else plain_piece t cs)
      go true = dictionary_small cs
      go false = plain_small cs

  small_small : (cs : List CellData) → Small cs (small_image t cs)
  small_small cs = go (is_dict_type t && nat_le (2 * length (distinct cs)) (length cs))
    where
      go : (b : Bool) → Small cs (if b then dictionary t cs else plain_piece t cs)
      go true = dictionary_small cs
      go false = plain_small cs

  chosen_small : (cs : List CellData) → Small cs (chosen_image t cs)
  chosen_small [] = small_small []
  chosen_small (c ∷ cs) = go (all_by (tree_eq c) cs)
    where
      go : (b : Bool) → Small (c ∷ cs) (if b then constant_piece t c (length (c ∷ cs)) else small_image t (c ∷ cs))
      go true = constant_small c cs
      go false = small_small (c ∷ cs)

  table_image_small : (which : ℕ) (cs : List CellData) → Small cs (table_image which (plain_piece t cs))
  table_image_small which cs = go (which == 1) (which == 2)
    where
      go : (a b : Bool) → Small cs (if a then chosen_image t cs else if b then coded_image t cs else plain_piece t cs)
      go true b = chosen_small cs
      go false true = coded_small cs
      go false false = plain_small cs

  image_small : (which : ℕ) (cs : List CellData) → Small cs (images_of table_image which (plain_piece t cs))
  image_small which cs = go (is_sound (plain_piece t cs) && is_real (plain_piece t cs))
    where
      go : (b : Bool) → Small cs (if b then table_image which (plain_piece t cs) else plain_piece t cs)
      go true = table_image_small which cs
      go false = plain_small cs

pub table_ample : (o : FlatOptions) → Ample table_setting o
table_ample o = record {
  accepts = accepts;
  allows = refl;
  plain = λ t d cs. plain_few all_encodings o.padding t d cs;
  image = λ which t d p e. subst (λ q. bulk table_setting o (table_setting.image which q) ≤ 100 * mass t p) (sym e) (image_small o t d which (cells p));
}

-- ---- zone tables

module _ (zones : ℕ) where
  three : (k : ℕ) (cs : List Filled) → length cs ≤ 3 → total_by (λ c. k) cs ≤ 3 * k
  three k cs h = let e : total_by (λ c. k) cs ≡ k * length cs = total_same k cs in go cs h
    where
      go : (xs : List Filled) → length xs ≤ 3 → total_by (λ c. k) xs ≤ 3 * k
      go [] l = omega arith
      go (a ∷ []) l = omega arith
      go (a ∷ b ∷ []) l = omega arith
      go (a ∷ b ∷ c ∷ []) l = omega arith
      go (a ∷ b ∷ c ∷ d ∷ xs) l = absurd (omega arith)

  held_table : (cs : List Filled) → ((c : Filled) → In c cs → Narrow zones c) → held_parts (pieces_of (table_columns cs)) ≤ total_by (λ c. 81 * zones) cs
  held_table [] h = omega arith
  held_table (c ∷ cs) h =
      let a : total_by (cell_size c.state) (map state_cell c.values) ≤ 81 * zones = (h c (inl refl)).sizes in
      let r : held_parts (pieces_of (table_columns cs)) ≤ total_by (λ c. 81 * zones) cs = held_table cs (λ d i. h d (inr i)) in omega arith

  buffers_table : (cs : List Filled) → ((c : Filled) → In c cs → Narrow zones c) → total_by (λ b. 7 + length b) (buffers_below (pieces_of (table_columns cs))) ≤ total_by (λ c. 7 + 81 * zones) cs
  buffers_table [] h = omega arith
  buffers_table (c ∷ cs) h =
      let n : Narrow zones c = h c (inl refl) in
      let a : total_by (cell_size c.state) (map state_cell c.values) ≤ 81 * zones = n.sizes in
      let b : length (joined_by (spelling c.state) (map state_cell c.values)) ≤ total_by (cell_size c.state) (map state_cell c.values) = cells_few c.state (map state_cell c.values) n.kind in
      let r : total_by (λ b. 7 + length b) (buffers_below (pieces_of (table_columns cs))) ≤ total_by (λ c. 7 + 81 * zones) cs = buffers_table cs (λ d i. h d (inr i)) in omega arith

  heads_table : (cs : List Filled) → total_by head_size (heads_below all_encodings (pieces_of (table_columns cs))) ≡ total_by (λ c. 28) cs
  heads_table [] = refl
  heads_table (c ∷ cs) = let r : total_by head_size (heads_below all_encodings (pieces_of (table_columns cs))) ≡ total_by (λ c. 28) cs = heads_table cs in omega arith

  table_bulk : (o : FlatOptions) (cs : List Filled) → length cs ≤ 3 → ((c : Filled) → In c cs → Narrow zones c) → bulk table_setting o (table_piece cs zones) ≤ 200 + 500 * zones
  table_bulk o cs few h =
      let l : length (cells (table_piece cs zones)) ≡ zones = length-struct_rows zones (each_cells (pieces_of (table_columns cs))) [] in
      let a : held_parts (pieces_of (table_columns cs)) ≤ total_by (λ c. 81 * zones) cs = held_table cs h in
      let b : total_by (λ b. 7 + length b) (buffers_below (pieces_of (table_columns cs))) ≤ total_by (λ c. 7 + 81 * zones) cs = buffers_table cs h in
      let c : total_by head_size (heads_below all_encodings (pieces_of (table_columns cs))) ≡ total_by (λ c. 28) cs = heads_table cs in
      let d : total_by (λ (c : Filled). 81 * zones) cs ≤ 3 * (81 * zones) = three (81 * zones) cs few in
      let e : total_by (λ (c : Filled). 7 + 81 * zones) cs ≤ 3 * (7 + 81 * zones) = three (7 + 81 * zones) cs few in
      let f : total_by (λ (c : Filled). 28) cs ≤ 3 * 28 = three 28 cs few in
      let k : bytes_in (encode all_encodings o.padding (table_piece cs zones)) ≤ total_by (λ b. 7 + length b) (buffers_below (pieces_of (table_columns cs))) + (20 + 8 * 0 + total_by head_size (heads_below all_encodings (pieces_of (table_columns cs))) + 9) =
      segment_few all_encodings o.padding (table_piece cs zones) in omega arith

pub table_small : (o : FlatOptions) → SmallTables table_setting o
table_small o = record { table = λ cs zones few h. table_bulk zones o cs few h }
