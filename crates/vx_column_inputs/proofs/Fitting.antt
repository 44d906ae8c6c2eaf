-- The chunks of each column are of its type.
use Rattle.std.proofs.Common.{◌≡◌, ℕ, ◌||◌, ◌&&◌, ◌==◌, Bool, true, false, List, [], ◌∷◌, map, length, Some, refl, sym, ap, subst, ◌∙◌}
use Rattle.std.specs.Prelude.{All}
use Rattle.std.proofs.lemmas.Bool.{true≢false, and_parts}
use Rattle.std.proofs.lemmas.List.Elements.{All-nil, All-cons}
use Rattle.vx_model.specs.Words.{tail}
use Rattle.vx_model.specs.Ty.{Ty, Tys, boolean, primitive, utf8, binary, list, struct, extension, no_fields, field, fields_in, ty_eq}
use Rattle.vx_model.specs.TyLaws.{ty_eq_decides}
use Rattle.vx_model.specs.CellData.{CellData}
use Rattle.vx_model.specs.ChunkData.{ChunkData, plain_piece, constant_piece, dict_piece, chunked_piece, list_piece, struct_piece, extension_piece, piece_type, pieces_in, cells, match_fields, has_fields, is_sound, are_sound}
use Rattle.vx_layout_spec.specs.Parts.{others_of, plain_fields, field_pieces}
use Rattle.vx_rules.specs.Columns.{struct_columns, head_piece}
use Rattle.vx_strategy_spec.specs.StrategyData.{StrategyData, StrategyList, structured}
use Rattle.vx_plan.specs.Valid.{OfSchema, AllOf}
use Rattle.vx_column_plan.specs.Columns.{Column, field_columns, columns_by}
use Rattle.vx_column_ways.specs.Ways.{columns_in}
use Rattle.vx_column_batches.specs.Beside.{columns_of as split_of, width_of, chunks_beside}
use Rattle.vx_column_ways.specs.ColumnCount.{columns_of}
use Rattle.vx_column_inputs.specs.Prepared.{FitColumns}
use Rattle.vx_column_inputs.proofs.Widths.{none_some, width_counted}

-- so many chunks, of the fields' types
abbrev HaveTypes : Tys → List ChunkData → Type 0
HaveTypes no_fields [] = Unit {0}
HaveTypes no_fields (p ∷ ps) = ⊥
HaveTypes (field name t fs) [] = ⊥
HaveTypes (field name t fs) (p ∷ ps) = (piece_type p ≡ t) × HaveTypes fs ps

matched : (fs : Tys) (ps : List ChunkData) (n : ℕ) → match_fields fs ps n ≡ true → HaveTypes fs ps
matched no_fields [] n h = tt
matched no_fields (p ∷ ps) n h = absurd (true≢false (sym h))
matched (field name t fs) [] n h = absurd (true≢false (sym h))
matched (field name t fs) (p ∷ ps) n h =
    let parts = and_parts (ty_eq (piece_type p) t) ((length (cells p) == n) && match_fields fs ps n) h in
    ((ty_eq_decides (piece_type p) t).0 parts.0, matched fs ps n (and_parts (length (cells p) == n) (match_fields fs ps n) parts.1).1)

plain : (fs : Tys) (cs : List CellData) → HaveTypes fs (plain_fields fs cs)
plain no_fields cs = tt
plain (field name t fs) cs = (refl, plain fs (map others_of cs))

fields_typed : (fs : Tys) (m : Bool) (p : ChunkData) → piece_type p ≡ struct fs m → is_sound p ≡ true → HaveTypes fs (field_pieces fs p)
fields_typed fs m (struct_piece u ps valid n) is s =
    matched fs (pieces_in ps) n (subst (λ t. has_fields t (pieces_in ps) n ≡ true) is (and_parts (has_fields u (pieces_in ps) n) _ (and_parts (are_sound ps) _ s).1).0)
fields_typed fs m (plain_piece u cs) is s = plain fs cs
fields_typed fs m (constant_piece u c n) is s = plain fs (cells (constant_piece u c n))
fields_typed fs m (dict_piece codes values) is s = plain fs (cells (dict_piece codes values))
fields_typed fs m (chunked_piece u ps) is s = plain fs (cells (chunked_piece u ps))
fields_typed fs m (list_piece u e offsets valid) is s = plain fs (cells (list_piece u e offsets valid))
fields_typed fs m (extension_piece u p) is s = plain fs (cells (extension_piece u p))

-- ---- columns of batches

abbrev AllHave : Tys → List (List ChunkData) → Type 0
AllHave fs [] = Unit {0}
AllHave fs (r ∷ rows) = HaveTypes fs r × AllHave fs rows

firsts : (name : List ℕ) (t : Ty) (fs : Tys) (rows : List (List ChunkData)) → AllHave (field name t fs) rows → OfSchema t (map head_piece rows)
firsts name t fs [] h = tt
firsts name t fs ([] ∷ rows) h = absurd h.0
firsts name t fs ((p ∷ ps) ∷ rows) h = (h.0.0, firsts name t fs rows h.1)

others : (name : List ℕ) (t : Ty) (fs : Tys) (rows : List (List ChunkData)) → AllHave (field name t fs) rows → AllHave fs (map tail rows)
others name t fs [] h = tt
others name t fs ([] ∷ rows) h = absurd h.0
others name t fs ((p ∷ ps) ∷ rows) h = (h.0.1, others name t fs rows h.1)

fields_fit : (d : StrategyData) (ws : StrategyList) (m mark : Bool) (fs : Tys) (rows : List (List ChunkData)) → (m ≡ true → mark ≡ true) → AllHave fs rows
    → FitColumns m (field_columns d ws mark fs) (chunks_beside (length (fields_in fs)) rows)
fields_fit d ws m mark no_fields rows e h = tt
fields_fit d ws m mark (field name t fs) rows e h = (firsts name t fs rows h, e, fields_fit d ws m mark fs (map tail rows) e (others name t fs rows h))

-- ---- a nullable struct's validity stands before its fields

validities : (fs : Tys) (bs : List ChunkData) → OfSchema (boolean false) (map head_piece (map (struct_columns fs true) bs))
validities fs [] = tt
validities fs (b ∷ bs) = (refl, validities fs bs)

behind_validity : (fs : Tys) (bs : List ChunkData) → AllOf (struct fs true) bs → AllHave fs (map tail (map (struct_columns fs true) bs))
behind_validity fs [] h = tt
behind_validity fs (b ∷ bs) h = (fields_typed fs true b h.0.typed h.0.whole.sound, behind_validity fs bs h.1)

all_fields : (fs : Tys) (bs : List ChunkData) → AllOf (struct fs false) bs → AllHave fs (map (struct_columns fs false) bs)
all_fields fs [] h = tt
all_fields fs (b ∷ bs) h = (fields_typed fs false b h.0.typed h.0.whole.sound, all_fields fs bs h.1)

marked : (m n : Bool) → m ≡ true → (m || n) ≡ true
marked true n e = refl
marked false n e = absurd (true≢false (sym e))

by_fit : (v d : StrategyData) (ws : StrategyList) (m : Bool) (fs : Tys) (n : Bool) (bs : List ChunkData) → AllOf (struct fs n) bs
    → FitColumns m (columns_by v d ws m fs n) (chunks_beside (width_of (struct fs n)) (map (split_of (struct fs n)) bs))
by_fit v d ws m fs true bs h = (validities fs bs, (λ e. e), fields_fit d ws m (m || true) fs (map tail (map (struct_columns fs true) bs)) (marked m true) (behind_validity fs bs h))
by_fit v d ws m fs false bs h = fields_fit d ws m (m || false) fs (map (struct_columns fs false) bs) (marked m false) (all_fields fs bs h)

columns_fit : (v d : StrategyData) (ws : StrategyList) (t : Ty) (m : Bool) (k : ℕ) (bs : List ChunkData) → columns_of t ≡ Some k → AllOf t bs
    → FitColumns m (columns_in (structured v d ws) t m) (chunks_beside (width_of t) (map (split_of t) bs))
columns_fit v d ws (struct fs n) m k bs c h = by_fit v d ws m fs n bs h
columns_fit v d ws (boolean n) m k bs c h = absurd (none_some k c)
columns_fit v d ws (primitive p n) m k bs c h = absurd (none_some k c)
columns_fit v d ws (utf8 n) m k bs c h = absurd (none_some k c)
columns_fit v d ws (binary n) m k bs c h = absurd (none_some k c)
columns_fit v d ws (list t n) m k bs c h = absurd (none_some k c)
columns_fit v d ws (extension tag t) m k bs c h = absurd (none_some k c)

-- so are they of these ways and this split
pub ways_fit : (v d : StrategyData) (ws : StrategyList) (t : Ty) (m : Bool) (k : ℕ) (bs : List ChunkData) (cs : List Column) (ps : List (List ChunkData)) → columns_of t ≡ Some k → AllOf t bs
    → cs ≡ columns_in (structured v d ws) t m → ps ≡ chunks_beside k (map (split_of t) bs) → FitColumns m cs ps
ways_fit v d ws t m k bs cs ps c h e f =
    subst (λ z. FitColumns m z ps) (sym e) (subst (FitColumns m (columns_in (structured v d ws) t m)) (sym (f ∙ ap (λ w. chunks_beside w (map (split_of t) bs)) (width_counted t k c))) (columns_fit v d ws t m k bs c h))

-- ---- what the split asks

pub all_typed : (t : Ty) (bs : List ChunkData) → AllOf t bs → All (λ b. piece_type b ≡ t) bs
all_typed t [] h = All-nil (λ b. piece_type b ≡ t)
all_typed t (b ∷ bs) h = All-cons (λ b. piece_type b ≡ t) b bs h.0.typed (all_typed t bs h.1)
