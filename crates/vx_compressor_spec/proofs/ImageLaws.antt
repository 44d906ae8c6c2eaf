-- The table compressor's images keep the cells.
use Rattle.std.proofs.Common.{◌≡◌, ◌^◌, ◌&&◌, Bool, true, false, List, [], ◌∷◌, length, refl, sym, ap, ap₂, subst}
use Rattle.std.specs.Prelude.{if◌then◌else◌, ◌==◌, ◌*◌, nat_le, nat_lt, replicate}
use Rattle.std.proofs.lemmas.Bool.{and_from, and_parts}
use Rattle.vx_model.specs.Words.{all_by}
use Rattle.vx_model.specs.Ty.{Ty}
use Rattle.vx_model.specs.CellData.{CellData, fits}
use Rattle.vx_model.specs.ChunkData.{ChunkData, plain_piece, constant_piece, cells, is_dict_type}
use Rattle.vx_layout_spec.specs.Real.{is_real_cell}
use Rattle.vx_rules.proofs.CellLaws.{Fine, cells_fine, plain_of, below_test}
use Rattle.vx_compressor_spec.specs.TableImage.{tree_eq, distinct, dictionary, small_image, chosen_image, coded_image, table_image}
use Rattle.vx_compressor_spec.specs.Statements.{ImagesKeepCells}
use Rattle.vx_compressor_spec.proofs.Same.{tree_eq_true}
use Rattle.vx_compressor_spec.proofs.Dictionaries.{Same, dictionary_same}

plain_same : (t : Ty) (cs : List CellData) → Fine t cs → Same t cs (plain_piece t cs)
plain_same t cs f = record { whole = plain_of t cs f; cells = refl }

-- one cell so many times
repeated : (c : CellData) (cs : List CellData) → all_by (tree_eq c) cs ≡ true → replicate (length cs) c ≡ cs
repeated c [] h = refl
repeated c (d ∷ cs) h = ap₂ (λ x y. x ∷ y) (tree_eq_true c d (and_parts (tree_eq c d) _ h).0) (repeated c cs (and_parts (tree_eq c d) _ h).1)

constant_same : (t : Ty) (c : CellData) (cs : List CellData) → Fine t (c ∷ cs) → all_by (tree_eq c) cs ≡ true → Same t (c ∷ cs) (constant_piece t c (length (c ∷ cs)))
constant_same t c cs f h = record {
  whole = record {
    typed = refl;
    whole = record {
      sound = and_from (fits t c) (nat_lt (length (c ∷ cs)) (2 ^ 64)) (and_parts (fits t c) _ f.fit).0 (below_test (length (c ∷ cs)) f.short);
      real = (and_parts (is_real_cell c) _ f.real).0;
    };
  };
  cells = ap (λ z. c ∷ z) (repeated c cs h);
}

coded_same : (t : Ty) (cs : List CellData) → Fine t cs → Same t cs (coded_image t cs)
coded_same t cs f = go (is_dict_type t) refl
  where
    go : (b : Bool) → is_dict_type t ≡ b → Same t cs (if b then dictionary t cs else plain_piece t cs)
    go true e = dictionary_same t cs e f
    go false e = plain_same t cs f

small_same : (t : Ty) (cs : List CellData) → Fine t cs → Same t cs (small_image t cs)
small_same t cs f = go (is_dict_type t) (nat_le (2 * length (distinct cs)) (length cs)) refl
  where
    go : (a b : Bool) → is_dict_type t ≡ a → Same t cs (if a && b then dictionary t cs else plain_piece t cs)
    go true true e = dictionary_same t cs e f
    go true false e = plain_same t cs f
    go false b e = plain_same t cs f

chosen_same : (t : Ty) (cs : List CellData) → Fine t cs → Same t cs (chosen_image t cs)
chosen_same t [] f = small_same t [] f
chosen_same t (c ∷ cs) f = go (all_by (tree_eq c) cs) refl
  where
    go : (b : Bool) → all_by (tree_eq c) cs ≡ b → Same t (c ∷ cs) (if b then constant_piece t c (length (c ∷ cs)) else small_image t (c ∷ cs))
    go true e = constant_same t c cs f e
    go false e = small_same t (c ∷ cs) f

pub images_keep_cells : ImagesKeepCells
images_keep_cells which t p of =
    let s : Same t (cells p) (table_image which p) = subst (λ u. Same t (cells p) (at u)) (sym of.typed) (go (which == 1) (which == 2)) in
    record { whole = s.whole; cells = s.cells }
  where
    f : Fine t (cells p)
    f = cells_fine t p of

    at : Ty → ChunkData
    at u = if which == 1 then chosen_image u (cells p) else if which == 2 then coded_image u (cells p) else plain_piece u (cells p)

    go : (a b : Bool) → Same t (cells p) (if a then chosen_image t (cells p) else if b then coded_image t (cells p) else plain_piece t (cells p))
    go true b = chosen_same t (cells p) f
    go false true = coded_same t (cells p) f
    go false false = plain_same t (cells p) f
