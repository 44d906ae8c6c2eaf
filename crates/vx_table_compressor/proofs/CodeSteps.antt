-- Codes and values, a row at a time.
use Rattle.std.proofs.Common.{◌≡◌, ℕ, zero, suc, ◌+◌, ◌<◌, ◌≤◌, ◌^◌, ◌&&◌, Bool, true, false, List, [], ◌∷◌, ◌++◌, map, length, drop, get_or, Some, refl, sym, ap, ◌∙◌, subst, arith, append_assoc, length-append}
use Rattle.std.specs.Prelude.{if◌then◌else◌}
use Rattle.std.proofs.lemmas.List.{append-nil, drop_more, drop_all, map-append}
use Rattle.std.proofs.lemmas.Bool.{and_from, and_parts}
use Rattle.vx_model.specs.Words.{all_by}
use Rattle.vx_model.specs.Ty.{Ty, primitive}
use Rattle.vx_model.specs.CellData.{CellData, null_cell, fits}
use Rattle.vx_model.specs.ChunkData.{is_dict_type, is_code_type, plain_piece}
use Rattle.vx_model.specs.declared.cell.Cell.{Cell}
use Rattle.vx_model.specs.TreeView.{tree}
use Rattle.vx_chunk.specs.Conditions.{makes_dict}
use Rattle.vx_rules.specs.Columns.{offset_cell}
use Rattle.vx_rules.specs.Runs.{has_cell, with_cell, place_in, distinct_from}
use Rattle.vx_slots.proofs.Known.{known_some, known_still, known_new}
use Rattle.vx_compressor_spec.specs.TableImage.{distinct, codes_of, code_ptype}
use Rattle.vx_rules.proofs.RunLaws.{self_same, has_last}
use Rattle.vx_compressor_spec.proofs.Dictionaries.{has_more, has_with, has_itself, HaveAll, have_all, distinct_all, code_unsigned, code_type_is, codes_fit, codes_within}
use Rattle.vx_table_compressor.specs.Images.{is_plain}

-- ---- one cell

same_some : {X : Type 0} (a b : X) → Some a ≡ Some b → a ≡ b
same_some a b e = cc

pub with_known : (c : CellData) (ds : List CellData) → true ≡ has_cell c ds → ds ≡ with_cell ds c
with_known c ds h = ap (λ (b : Bool). if b then ds else ds ++ (c ∷ [])) h

pub with_new : (c d : CellData) (ds es : List CellData) → false ≡ has_cell c ds → es ≡ ds ++ d ∷ [] → d ≡ c → es ≡ with_cell ds c
with_new c d ds es h e s = e ∙ ap (λ (x : CellData). ds ++ (x ∷ [])) s ∙ ap (λ (b : Bool). if b then ds else ds ++ (c ∷ [])) h

-- a new cell has the last place
pub place_behind : (c d : CellData) (ds es : List CellData) (k : ℕ) → false ≡ has_cell c ds → is_plain c ≡ true → es ≡ ds ++ d ∷ [] → d ≡ c → k ≡ length ds → k ≡ place_in c es
place_behind c d ds es k h s e w n =
    n
    ∙ same_some (length ds) (place_in c (ds ++ c ∷ [])) (sym (known_new c c ds (sym h) s) ∙ known_some c (ds ++ c ∷ []) (has_last c ds s))
    ∙ ap (λ (x : CellData). place_in c (ds ++ x ∷ [])) (sym w)
    ∙ ap (place_in c) (sym e)

pub ruleset place_rules = (with_known, with_new, place_behind)

-- ---- places stay

place_with : (c d : CellData) (ds : List CellData) → has_cell c ds ≡ true → place_in c (with_cell ds d) ≡ place_in c ds
place_with c d ds h = go (has_cell d ds)
  where
    go : (b : Bool) → place_in c (if b then ds else ds ++ (d ∷ [])) ≡ place_in c ds
    go true = refl
    go false = same_some (place_in c (ds ++ d ∷ [])) (place_in c ds) (sym (known_some c (ds ++ d ∷ []) (has_more c d ds h)) ∙ known_still c d ds h)

place_stays : (c : CellData) (ds cs : List CellData) → has_cell c ds ≡ true → place_in c (distinct_from ds cs) ≡ place_in c ds
place_stays c ds [] h = refl
place_stays c ds (d ∷ cs) h = place_stays c (with_cell ds d) cs (has_with c d ds h) ∙ place_with c d ds h

longer : (ds cs : List CellData) → length ds ≤ length (distinct_from ds cs)
longer ds [] = omega arith
longer ds (c ∷ cs) =
    let a : length (with_cell ds c) ≤ length (distinct_from (with_cell ds c) cs) = longer (with_cell ds c) cs in
    let b : length ds ≤ length (with_cell ds c) = go (has_cell c ds) in
    omega arith
  where
    go : (b : Bool) → length ds ≤ length (if b then ds else ds ++ (c ∷ []))
    go true = omega arith
    go false = simp length-append (omega arith)

-- ---- the cells from a place on

all_at : (f : CellData → Bool) (cs : List CellData) (i : ℕ) (x : CellData) → i < length cs → x ≡ get_or cs i null_cell → all_by f cs ≡ true → f x ≡ true
all_at f [] i x l e h = absurd (omega arith)
all_at f (c ∷ cs) zero x l e h = ap f e ∙ (and_parts (f c) _ h).0
all_at f (c ∷ cs) (suc i) x l e h = all_at f cs i x (omega arith) e (and_parts (f c) _ h).1

pub plain_at : (cs : List CellData) (i : ℕ) (x : CellData) → i < length cs → x ≡ get_or cs i null_cell → all_by is_plain cs ≡ true → is_plain x ≡ true
plain_at cs i x l e h = all_at is_plain cs i x l e h

next_row : (cs : List CellData) (i : ℕ) (x : CellData) → i < length cs → x ≡ get_or cs i null_cell → drop i cs ≡ x ∷ drop (i + 1) cs
next_row cs i x l e = drop_more cs i null_cell l ∙ ap (λ (d : CellData). d ∷ drop (i + 1) cs) (sym e)

-- the values once all rows are looked at
pub values_more : (cs : List CellData) (i : ℕ) (x : CellData) (ds es all : List CellData) → i < length cs → x ≡ get_or cs i null_cell → es ≡ with_cell ds x → distinct_from ds (drop i cs) ≡ all
    → distinct_from es (drop (i + 1) cs) ≡ all
values_more cs i x ds es all l e w h = ap (λ (z : List CellData). distinct_from z (drop (i + 1) cs)) w ∙ ap (distinct_from ds) (sym (next_row cs i x l e)) ∙ h

-- the codes, with those of the rows still to come
pub codes_more : (cs : List CellData) (i : ℕ) (x : CellData) (code : Cell) (ds es all : List CellData) (codes now : List Cell) (k : ℕ) (target : List CellData) → i < length cs → x ≡ get_or cs i null_cell → is_plain x ≡ true
    → es ≡ with_cell ds x → distinct_from ds (drop i cs) ≡ all → k ≡ place_in x es → tree code ≡ offset_cell k → now ≡ codes ++ code ∷ []
    → map tree codes ++ map offset_cell (codes_of all (drop i cs)) ≡ target → map tree now ++ map offset_cell (codes_of all (drop (i + 1) cs)) ≡ target
codes_more cs i x code ds es all codes now k target l e s w d p is n h =
    let has : has_cell x es ≡ true = subst (λ (z : List CellData). has_cell x z ≡ true) (sym w) (has_itself x ds s) in
    let final : distinct_from es (drop (i + 1) cs) ≡ all = values_more cs i x ds es all l e w d in
    let place : place_in x all ≡ place_in x es = ap (place_in x) (sym final) ∙ place_stays x es (drop (i + 1) cs) has in
    let cell : tree code ≡ offset_cell (place_in x all) = is ∙ ap offset_cell (p ∙ sym place) in
    ap (λ (z : List Cell). map tree z ++ map offset_cell (codes_of all (drop (i + 1) cs))) n
    ∙ ap (λ (z : List CellData). z ++ map offset_cell (codes_of all (drop (i + 1) cs))) (map-append tree codes (code ∷ []))
    ∙ append_assoc (map tree codes) (tree code ∷ []) (map offset_cell (codes_of all (drop (i + 1) cs)))
    ∙ ap (λ (z : CellData). map tree codes ++ (z ∷ map offset_cell (codes_of all (drop (i + 1) cs)))) cell
    ∙ ap (λ (z : List CellData). map tree codes ++ map offset_cell (codes_of all z)) (sym (next_row cs i x l e))
    ∙ h

-- more values than at most so many
pub too_many : (cs : List CellData) (i : ℕ) (x : CellData) (ds es all : List CellData) (most n : ℕ) → i < length cs → x ≡ get_or cs i null_cell → es ≡ with_cell ds x → distinct_from ds (drop i cs) ≡ all
    → n ≡ length es → most < n → most < length all
too_many cs i x ds es all most n l e w d is m =
    let final : distinct_from es (drop (i + 1) cs) ≡ all = values_more cs i x ds es all l e w d in
    let long : length es ≤ length (distinct_from es (drop (i + 1) cs)) = longer es (drop (i + 1) cs) in
    let same : length (distinct_from es (drop (i + 1) cs)) ≡ length all = ap length final in
    omega arith

-- no row is left
pub values_end : (cs : List CellData) (i : ℕ) (ds all : List CellData) → length cs ≤ i → distinct_from ds (drop i cs) ≡ all → ds ≡ all
values_end cs i ds all l h = ap (λ (z : List CellData). distinct_from ds z) (sym (drop_all i cs l)) ∙ h

pub codes_end : (cs : List CellData) (i : ℕ) (all : List CellData) (codes : List Cell) (target : List CellData) → length cs ≤ i → map tree codes ++ map offset_cell (codes_of all (drop i cs)) ≡ target
    → map tree codes ≡ target
codes_end cs i all codes target l h =
    sym (append-nil (map tree codes)) ∙ ap (λ (z : List CellData). map tree codes ++ map offset_cell (codes_of all z)) (sym (drop_all i cs l)) ∙ h

pub ruleset code_rules = (plain_at, values_more, codes_more, too_many, values_end, codes_end)

-- ---- what makes a dictionary

pub all_plain : (t : Ty) (cs : List CellData) → is_dict_type t ≡ true → all_by (fits t) cs ≡ true → all_by is_plain cs ≡ true
all_plain t [] d f = refl
all_plain t (c ∷ cs) d f = and_from (is_plain c) _ (self_same t c d (and_parts (fits t c) _ f).0) (all_plain t cs d (and_parts (fits t c) _ f).1)

pub record Makes (t : Ty) (cs : List CellData) : Type 0 where
  pub codes : all_by (fits (primitive (code_ptype (length (distinct cs))) false)) (map offset_cell (codes_of (distinct cs) cs)) ≡ true
  pub values : all_by (fits t) (distinct cs) ≡ true
  pub dict : makes_dict (plain_piece (primitive (code_ptype (length (distinct cs))) false) (map offset_cell (codes_of (distinct cs) cs))) (plain_piece t (distinct cs)) ≡ true

pub makes : (t : Ty) (cs : List CellData) → is_dict_type t ≡ true → all_by (fits t) cs ≡ true → length (distinct cs) < 2 ^ 64 → Makes t cs
makes t cs d f l =
    let have : HaveAll (distinct cs) cs = have_all t d [] cs f in
    record {
      codes = codes_fit (length (distinct cs)) (distinct cs) cs refl l have;
      values = distinct_all (fits t) [] cs refl f;
      dict = and_from (is_code_type (primitive (code_ptype (length (distinct cs))) false) && is_dict_type t) _
          (and_from (is_code_type (primitive (code_ptype (length (distinct cs))) false)) (is_dict_type t) (code_type_is (code_ptype (length (distinct cs))) (code_unsigned (length (distinct cs)))) d)
          (codes_within (distinct cs) cs have);
    }

pub ruleset dictionary_rules = (all_plain)
