-- The parts of a table, a column at a time, and that they make a chunk.
use Rattle.std.proofs.Common.{◌≡◌, ℕ, ◌&&◌, Bool, true, false, List, [], ◌∷◌, ◌++◌, length, map, refl, sym, ap, ◌∙◌, append_assoc, append-nil}
use Rattle.std.specs.Prelude.{◌==◌}
use Rattle.std.proofs.lemmas.Bool.{and_parts, and_from}
use Rattle.std.proofs.lemmas.List.{map_push, map_more, length-map}
use Rattle.vx_model.specs.Words.{all_by}
use Rattle.vx_model.specs.Ty.{Ty, Named, field, struct, tys_of, ty_eq}
use Rattle.vx_model.specs.TyLaws.{ty_eq_decides}
use Rattle.vx_model.specs.ChunkData.{ChunkData, struct_piece, match_fields, pieces_of}
use Rattle.vx_model.proofs.Views.{view_rules}
use Rattle.vx_chunk.specs.Conditions.{makes_struct}
use Rattle.vx_zone_spec.specs.ZoneTable.{Filled, name_of, state_cell, table_fields, table_type, table_columns, table_piece}
use Rattle.vx_zone_table.specs.Parts.{column_fits, column_names, has_zones, are_whole}

names_are : (cs : List Filled) → tys_of (column_names cs) ≡ table_fields cs
names_are [] = refl
names_are (c ∷ cs) = ap (field (name_of c) c.state) (names_are cs)

zones_match : (n : ℕ) (cs : List Filled) → all_by (has_zones n) cs ≡ true → match_fields (table_fields cs) (table_columns cs) n ≡ true
zones_match n [] h = refl
zones_match n (c ∷ cs) h =
    and_from (ty_eq c.state c.state) _ ((ty_eq_decides c.state c.state).1 refl)
    (and_from (length (map state_cell c.values) == n) (match_fields (table_fields cs) (table_columns cs) n)
    (ap (λ (k : ℕ). k == n) (length-map c.values state_cell) ∙ (and_parts (length c.values == n) (all_by (has_zones n) cs) h).0)
    (zones_match n cs (and_parts (length c.values == n) (all_by (has_zones n) cs) h).1))

-- the type of the parts' fields
pub type_is : (cs : List Filled) (names : List Named) → names ≡ column_names cs → struct (tys_of names) false ≡ table_type cs
type_is cs names e = ap (λ (ns : List Named). struct (tys_of ns) false) e ∙ ap (λ fs. struct fs false) (names_are cs)

-- the parts make a struct chunk
pub makes_table : (cs : List Filled) (n : ℕ) (t : Ty) (ps : List ChunkData) (valid : List Bool) → are_whole n cs ≡ true → t ≡ table_type cs → ps ≡ table_columns cs → valid ≡ [] → makes_struct t ps valid n ≡ true
makes_table cs n t ps valid h e f g =
    ap (λ (u : Ty). makes_struct u ps valid n) e ∙ ap (λ (qs : List ChunkData). makes_struct (table_type cs) qs valid n) f ∙ ap (λ (bs : List Bool). makes_struct (table_type cs) (table_columns cs) bs n) g
    ∙ and_from (match_fields (table_fields cs) (table_columns cs) n) true (zones_match n cs (and_parts (all_by column_fits cs) (all_by (has_zones n) cs) h).1) refl

-- which is the table
pub table_is : (cs : List Filled) (n : ℕ) (t : Ty) (ps : List ChunkData) (valid : List Bool) → t ≡ table_type cs → ps ≡ table_columns cs → valid ≡ [] → struct_piece t (pieces_of ps) valid n ≡ table_piece cs n
table_is cs n t ps valid e f g =
    ap (λ (u : Ty). struct_piece u (pieces_of ps) valid n) e ∙ ap (λ (qs : List ChunkData). struct_piece (table_type cs) (pieces_of qs) valid n) f ∙ ap (λ (bs : List Bool). struct_piece (table_type cs) (pieces_of (table_columns cs)) bs n) g

pub fits_of : (n : ℕ) (cs : List Filled) → are_whole n cs ≡ true → all_by column_fits cs ≡ true
fits_of n cs h = (and_parts (all_by column_fits cs) (all_by (has_zones n) cs) h).0

pub first_fits : (c : Filled) (cs : List Filled) → all_by column_fits (c ∷ cs) ≡ true → column_fits c ≡ true
first_fits c cs h = (and_parts (column_fits c) (all_by column_fits cs) h).0

pub rest_fits : (c : Filled) (cs : List Filled) → all_by column_fits (c ∷ cs) ≡ true → all_by column_fits cs ≡ true
rest_fits c cs h = (and_parts (column_fits c) (all_by column_fits cs) h).1

pub ruleset table_rules = (fits_of)

pub ruleset part_rules = (first_fits, rest_fits, append_assoc, append-nil)

pub ruleset push_rules = (map_push, view_rules)
