-- Images, by what the code found.
use Rattle.std.proofs.Common.{◌≡◌, ℕ, zero, suc, ◌+◌, ◌*◌, ◌/◌, ◌<◌, ◌≤◌, ◌&&◌, Bool, true, false, List, [], ◌∷◌, map, length, get_or, Option, Some, None, Ok, Err, refl, sym, ap, ap₂, ◌∙◌, arith}
use Rattle.std.specs.Prelude.{Result, if◌then◌else◌, nat_le, nat_lt, replicate, MatchOption, IfOk}
use Rattle.std.specs.Cmp.{booleans_Decides}
use Rattle.std.specs.Cmp.Lexicographic.{bytes_decides}
use Rattle.std.proofs.lemmas.Bool.Decides.{nat_tests, Decides-int_eq}
use Rattle.std.proofs.lemmas.List.{length-replicate, length-map}
use Rattle.std.proofs.lemmas.Bool.{and_from, and_parts}
use Rattle.vx_model.specs.declared.encoding.EncodingId.{EncodingId}
use Rattle.vx_model.specs.declared.encoding.EncodingId.TheVariants.{Constant}
use Rattle.vx_model.specs.Words.{all_by}
use Rattle.vx_model.specs.Ty.{Ty}
use Rattle.vx_model.specs.CellData.{CellData, CellList, null_cell, bool_cell, int_cell, text_cell, bytes_cell, list_cell, struct_cell, no_cells, cell, fits}
use Rattle.vx_model.specs.ChunkData.{ChunkData, plain_piece, constant_piece, dict_piece, chunked_piece, list_piece, struct_piece, extension_piece, cells, piece_type, is_dict_type, is_sound}
use Rattle.vx_model.specs.declared.cell.Cell.{Cell}
use Rattle.vx_model.specs.TreeView.{tree}
use Rattle.vx_chunk.specs.Encoded.{encoding_of}
use Rattle.vx_chunk.proofs.CellsFit.{cells_fit}
use Rattle.vx_compressor_spec.specs.TableImage.{tree_eq, trees_eq, distinct, dictionary, small_image, chosen_image, coded_image, table_image}
use Rattle.vx_compressor_spec.proofs.Dictionaries.{distinct_few}
use Rattle.vx_table_compressor.specs.Images.{image_of, is_constant, constant_rows, are_alike}

-- ---- a constant

mutual
  tree_self : (c : CellData) → tree_eq c c ≡ true
  tree_self null_cell = refl
  tree_self (bool_cell b) = (booleans_Decides b b).1 refl
  tree_self (int_cell n) = (Decides-int_eq n n).1 refl
  tree_self (text_cell s) = (bytes_decides s s).1 refl
  tree_self (bytes_cell s) = (bytes_decides s s).1 refl
  tree_self (list_cell v cs) = and_from _ (trees_eq cs cs) ((booleans_Decides v v).1 refl) (trees_self cs)
  tree_self (struct_cell v cs) = and_from _ (trees_eq cs cs) ((booleans_Decides v v).1 refl) (trees_self cs)

  trees_self : (cs : CellList) → trees_eq cs cs ≡ true
  trees_self no_cells = refl
  trees_self (cell c cs) = and_from (tree_eq c c) (trees_eq cs cs) (tree_self c) (trees_self cs)

all_self : (c : CellData) (n : ℕ) → all_by (tree_eq c) (replicate n c) ≡ true
all_self c zero = refl
all_self c (suc n) = and_from (tree_eq c c) _ (tree_self c) (all_self c n)

constant_chosen : (t : Ty) (c : CellData) (n : ℕ) → 0 < n → constant_piece t c n ≡ chosen_image t (replicate n c)
constant_chosen t c zero l = absurd (omega arith)
constant_chosen t c (suc n) l =
    ap (λ (m : ℕ). constant_piece t c (suc m)) (sym (length-replicate n c))
    ∙ ap (λ (b : Bool). if b then constant_piece t c (suc (length (replicate n c))) else small_image t (c ∷ replicate n c)) (sym (all_self c n))

pub constant_stays : (p : ChunkData) → encoding_of p ≡ Constant → 0 < length (cells p) → p ≡ table_image 1 p
constant_stays (constant_piece t c n) e l = constant_chosen t c n (let k : length (replicate n c) ≡ n = length-replicate n c in omega arith)
constant_stays (plain_piece t cs) e l = cc
constant_stays (dict_piece codes values) e l = cc
constant_stays (chunked_piece t ps) e l = cc
constant_stays (list_piece t x offsets valid) e l = cc
constant_stays (struct_piece t ps valid n) e l = cc
constant_stays (extension_piece t p) e l = cc

-- the image of the rows is that of the chunk
pub image_is : (which : ℕ) (p : ChunkData) (t : Ty) (cs : List CellData) → t ≡ piece_type p → cs ≡ cells p → image_of which t cs ≡ table_image which p
image_is which p t cs e f = ap₂ (image_of which) e f

pub chunk_fit : (p : ChunkData) (t : Ty) (cs : List CellData) → is_sound p ≡ true → t ≡ piece_type p → cs ≡ cells p → all_by (fits t) cs ≡ true
chunk_fit p t cs s e f = ap₂ (λ (u : Ty) (z : List CellData). all_by (fits u) z) e f ∙ cells_fit p s

-- a constant is its own image under 1
pub own_constant : (which : ℕ) (p q : ChunkData) → which ≡ 1 → true ≡ constant_rows p → q ≡ p → q ≡ table_image which p
own_constant which p q w h e =
    e ∙ constant_stays p (constant_id (encoding_of p) (and_parts (is_constant (encoding_of p)) _ (sym h)).0) (some_rows (length (cells p)) (and_parts (is_constant (encoding_of p)) _ (sym h)).1)
    ∙ ap (λ (n : ℕ). table_image n p) (sym w)
  where
    constant_id : (i : EncodingId) → is_constant i ≡ true → i ≡ Constant
    constant_id Constant g = refl
    constant_id i g = cc

    some_rows : (n : ℕ) → nat_lt 0 n ≡ true → 0 < n
    some_rows n g = grind (arith, nat_tests)

pub is_constant_rows : (p : ChunkData) (i : EncodingId) (n : ℕ) → i ≡ encoding_of p → is_constant i ≡ true → n ≡ length (cells p) → nat_lt 0 n ≡ constant_rows p
is_constant_rows p i n e h l = ap (nat_lt 0) l ∙ ap (λ (b : Bool). b && nat_lt 0 (length (cells p))) (sym (sym (ap is_constant e) ∙ h))

pub not_constant_rows : (p : ChunkData) (i : EncodingId) → i ≡ encoding_of p → is_constant i ≡ false → false ≡ constant_rows p
not_constant_rows p i e h = ap (λ (b : Bool). b && nat_lt 0 (length (cells p))) (sym (sym (ap is_constant e) ∙ h))

pub ruleset constant_rules = (is_constant_rows, not_constant_rows)

pub ruleset chunk_rules = (image_is, own_constant)

-- ---- a constant, or few values

pub chosen_alike : (t : Ty) (cs : List CellData) (x : CellData) (n : ℕ) → are_alike cs ≡ true → x ≡ get_or cs 0 null_cell → n ≡ length cs → constant_piece t x n ≡ chosen_image t cs
chosen_alike t [] x n h e l = cc
chosen_alike t (c ∷ cs) x n h e l =
    ap₂ (constant_piece t) e l
    ∙ ap (λ (b : Bool). if b then constant_piece t c (length (c ∷ cs)) else small_image t (c ∷ cs)) (sym h)

pub alike_some : (cs : List CellData) → are_alike cs ≡ true → 0 < length cs
alike_some [] h = cc
alike_some (c ∷ cs) h = omega arith

pub first_fits : (t : Ty) (cs : List CellData) (x : CellData) → are_alike cs ≡ true → x ≡ get_or cs 0 null_cell → all_by (fits t) cs ≡ true → fits t x ≡ true
first_fits t [] x h e f = cc
first_fits t (c ∷ cs) x h e f = ap (fits t) e ∙ (and_parts (fits t c) _ f).0

pub chosen_small : (t : Ty) (cs : List CellData) → are_alike cs ≡ false → small_image t cs ≡ chosen_image t cs
chosen_small t [] h = refl
chosen_small t (c ∷ cs) h = ap (λ (b : Bool). if b then constant_piece t c (length (c ∷ cs)) else small_image t (c ∷ cs)) (sym h)

pub ruleset chosen_rules = (chosen_alike, alike_some, first_fits, chosen_small)

-- ---- a dictionary

small_none : (t : Ty) (cs : List CellData) (most : ℕ) → is_dict_type t ≡ true → most ≡ length cs / 2 → most < length (distinct cs) → small_image t cs ≡ plain_piece t cs
small_none t cs most d e l = ap₂ (λ (a b : Bool). if a && b then dictionary t cs else plain_piece t cs) d (test (length cs) (length (distinct cs)) most e l)
  where
    test : (n k m : ℕ) → m ≡ n / 2 → m < k → nat_le (2 * k) n ≡ false
    test n k m e l = grind (arith, nat_tests)

small_some : (t : Ty) (cs : List CellData) (most : ℕ) → is_dict_type t ≡ true → most ≡ length cs / 2 → length (distinct cs) ≤ most → small_image t cs ≡ dictionary t cs
small_some t cs most d e l = ap₂ (λ (a b : Bool). if a && b then dictionary t cs else plain_piece t cs) d (test (length cs) (length (distinct cs)) most e l)
  where
    test : (n k m : ℕ) → m ≡ n / 2 → k ≤ m → nat_le (2 * k) n ≡ true
    test n k m e l = grind (arith, nat_tests)

-- what the dictionary of so many values at most answers
abbrev pub Within : Ty → List CellData → ℕ → Option ChunkData → Type 0
Within t cs most r = MatchOption r (most < length (distinct cs)) (λ c. (length (distinct cs) ≤ most) × (c ≡ dictionary t cs))

small_of : (t : Ty) (cs : List CellData) (most : ℕ) (r : Option ChunkData) → is_dict_type t ≡ true → most ≡ length cs / 2 → Within t cs most r → MatchOption r (small_image t cs ≡ plain_piece t cs) (λ c. c ≡ small_image t cs)
small_of t cs most None d e h = small_none t cs most d e h
small_of t cs most (Some c) d e h = h.1 ∙ sym (small_some t cs most d e h.0)

pub small_is : {E : Type 0} (t : Ty) (cs : List CellData) (most : ℕ) (r : Result (Option ChunkData) E) → is_dict_type t ≡ true → most ≡ length cs / 2 → IfOk r (Within t cs most)
    → IfOk r (λ x. MatchOption x (small_image t cs ≡ plain_piece t cs) (λ c. c ≡ small_image t cs))
small_is t cs most (Ok r) d e h = small_of t cs most r d e h
small_is t cs most (Err x) d e h = tt

pub small_plain : (t : Ty) (cs : List CellData) → is_dict_type t ≡ false → small_image t cs ≡ plain_piece t cs
small_plain t cs d = ap (λ (a : Bool). if a && nat_le (2 * length (distinct cs)) (length cs) then dictionary t cs else plain_piece t cs) d

coded_of : (t : Ty) (cs : List CellData) (most : ℕ) (r : Option ChunkData) → is_dict_type t ≡ true → most ≡ length cs → Within t cs most r → MatchOption r (coded_image t cs ≡ plain_piece t cs) (λ c. c ≡ coded_image t cs)
coded_of t cs most None d e h =
    let few : length (distinct cs) ≤ 0 + length cs = distinct_few [] cs in
    let many : most < length (distinct cs) = h in
    absurd (omega arith)
coded_of t cs most (Some c) d e h = h.1 ∙ ap (λ (a : Bool). if a then dictionary t cs else plain_piece t cs) (sym d)

pub coded_is : {E : Type 0} (t : Ty) (cs : List CellData) (most : ℕ) (r : Result (Option ChunkData) E) → is_dict_type t ≡ true → most ≡ length cs → IfOk r (Within t cs most)
    → IfOk r (λ x. MatchOption x (coded_image t cs ≡ plain_piece t cs) (λ c. c ≡ coded_image t cs))
coded_is t cs most (Ok r) d e h = coded_of t cs most r d e h
coded_is t cs most (Err x) d e h = tt

pub coded_plain : (t : Ty) (cs : List CellData) → is_dict_type t ≡ false → coded_image t cs ≡ plain_piece t cs
coded_plain t cs d = ap (λ (a : Bool). if a then dictionary t cs else plain_piece t cs) d

pub ruleset small_rules = (small_is, small_plain)

pub ruleset coded_rules = (coded_is, coded_plain)
