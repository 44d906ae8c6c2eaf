-- The rows of a zone table, put together of its columns.
use Rattle.std.proofs.Common.{◌≡◌, ℕ, ◌&&◌, ◌||◌, Bool, true, false, List, [], ◌∷◌, length, map, refl, sym, ap, ap₂, ◌∙◌, subst}
use Rattle.std.proofs.lemmas.Bool.{true≢false, and_parts}
use Rattle.std.proofs.lemmas.List.{length-map}
use Rattle.vx_model.specs.Words.{all_by}
use Rattle.vx_model.specs.Ty.{Ty, Tys, struct, tys_of, is_struct}
use Rattle.vx_model.specs.CellData.{CellData, CellList, null_cell, bool_cell, int_cell, text_cell, bytes_cell, list_cell, struct_cell, items, fits, fields_fit, flag_fits}
use Rattle.vx_model.specs.ValueData.{struct_value, value, values_in, masked}
use Rattle.vx_model.specs.ChunkData.{ChunkData, piece_type, cells, row_values}
use Rattle.vx_layout_spec.specs.Real.{Of, Whole}
use Rattle.vx_layout_spec.specs.Rows.{zipped}
use Rattle.vx_layout_spec.specs.Parts.{field_pieces}
use Rattle.vx_chunk_cells.specs.Parts.{struct_fields}
use Rattle.vx_rules.proofs.CellLaws.{Fine, cells_fine}
use Rattle.vx_rules.proofs.ColumnCells.{each_cell, FieldsOf, fields_are, inner_value, column_values, zipped_fields}
use Rattle.vx_aggregate_spec.specs.Aggregate.{Aggregate, Column, held_aggregates}
use Rattle.vx_aggregate_spec.specs.Tables.{column_field, stats_table}
use Rattle.vx_aggregate.specs.AggregateView.{aggregate}
use Rattle.vx_aggregate.specs.declared.aggregate.AggregateFn.{AggregateFn}
use Rattle.vx_zone_spec.specs.ZoneMap.{names_of}
use Rattle.vx_zone_map.specs.declared.columns.ZoneColumn.{ZoneColumn}
use Rattle.vx_zone_map.specs.Columns.{column_cells, seen_values}

-- ---- the rows of structs that aren't nullable

valid_value : (v : Bool) (inner : CellList) → flag_fits v false ≡ true → struct_value (values_in inner) ≡ masked v (struct_value (values_in inner))
valid_value true inner h = refl
valid_value false inner h = absurd (true≢false (sym h))

inner_values : (fs : Tys) (cs : List CellData) → all_by (fits (struct fs false)) cs ≡ true → map inner_value cs ≡ map value cs
inner_values fs [] h = refl
inner_values fs (struct_cell v inner ∷ cs) h =
    let one : (flag_fits v false && fields_fit fs (items inner)) ≡ true = (and_parts (flag_fits v false && fields_fit fs (items inner)) (all_by (fits (struct fs false)) cs) h).0 in
    ap₂ (λ x y. x ∷ y) (valid_value v inner (and_parts (flag_fits v false) (fields_fit fs (items inner)) one).0)
    (inner_values fs cs (and_parts (flag_fits v false && fields_fit fs (items inner)) (all_by (fits (struct fs false)) cs) h).1)
inner_values fs (null_cell ∷ cs) h = absurd (true≢false (sym h))
inner_values fs (bool_cell b ∷ cs) h = absurd (true≢false (sym h))
inner_values fs (int_cell b ∷ cs) h = absurd (true≢false (sym h))
inner_values fs (text_cell b ∷ cs) h = absurd (true≢false (sym h))
inner_values fs (bytes_cell b ∷ cs) h = absurd (true≢false (sym h))
inner_values fs (list_cell v b ∷ cs) h = absurd (true≢false (sym h))

-- ---- the columns

seen_are : (columns : List ZoneColumn) → map seen_values columns ≡ column_values (map column_cells columns)
seen_are [] = refl
seen_are (c ∷ columns) = ap (λ vs. seen_values c ∷ vs) (seen_are columns)

each_are : (ps : List ChunkData) → map cells ps ≡ each_cell ps
each_are [] = refl
each_are (p ∷ ps) = ap (λ cs. cells p ∷ cs) (each_are ps)

fields_many : (columns : List Column) (ps : List ChunkData) (n : ℕ) → FieldsOf (tys_of (map column_field columns)) ps n → length columns ≡ length ps
fields_many [] [] n h = refl
fields_many [] (p ∷ ps) n h = absurd h
fields_many (c ∷ columns) [] n h = absurd h
fields_many (c ∷ columns) (p ∷ ps) n h = ap Rattle.std.proofs.Common.suc (fields_many columns ps n h.2)

names_many : (columns : List Column) → length (names_of columns) ≡ length columns
names_many [] = refl
names_many (c ∷ columns) = ap Rattle.std.proofs.Common.suc (names_many columns)

module _ (t : Ty) (aggregates : List Aggregate) (p : ChunkData) (typed : piece_type p ≡ stats_table t aggregates) where
  pub is_table : is_struct (piece_type p) ≡ true
  is_table = ap is_struct typed

  abbrev fs : Tys
  fs = tys_of (map column_field (held_aggregates aggregates t))

  pieces_are : (fields : List ChunkData) → fields ≡ field_pieces (struct_fields (piece_type p)) p → fields ≡ field_pieces fs p
  pieces_are fields f = f ∙ ap (λ (x : Tys). field_pieces x p) (ap struct_fields typed)

  pub as_many : Whole p → (fields : List ChunkData) (held : List AggregateFn) → fields ≡ field_pieces (struct_fields (piece_type p)) p → map aggregate held ≡ names_of (held_aggregates aggregates t)
      → length held ≡ length fields
  as_many w fields held f names =
      let o : Of (struct fs false) p = record { typed = typed; whole = w } in
      let many : length (held_aggregates aggregates t) ≡ length (field_pieces fs p) = fields_many (held_aggregates aggregates t) (field_pieces fs p) (length (cells p)) (fields_are fs false p o).0 in
      sym (length-map held aggregate) ∙ ap length names ∙ names_many (held_aggregates aggregates t) ∙ many ∙ ap length (sym (pieces_are fields f))

  pub rows_are : Whole p → (fields : List ChunkData) (columns : List ZoneColumn) → fields ≡ field_pieces (struct_fields (piece_type p)) p → map column_cells columns ≡ map cells fields
      → zipped (length (cells p)) (map seen_values columns) ≡ row_values p
  rows_are w fields columns f same =
      let o : Of (struct fs false) p = record { typed = typed; whole = w } in
      let fine : Fine (struct fs false) (cells p) = cells_fine (struct fs false) p o in
      ap (zipped (length (cells p)))
      (seen_are columns ∙ ap column_values (same ∙ ap (map cells) (pieces_are fields f) ∙ each_are (field_pieces fs p) ∙ (fields_are fs false p o).1))
      ∙ zipped_fields fs false (cells p) fine.fit
      ∙ inner_values fs (cells p) fine.fit

pub ruleset table_rules = (is_table)
