-- The dictionary of a chunk's cells has these cells.
use Rattle.std.proofs.Common.{◌≡◌, ℕ, suc, ◌+◌, ◌<◌, ◌≤◌, ◌^◌, ◌&&◌, ◌||◌, Bool, true, false, List, [], ◌∷◌, ◌++◌, map, length, refl, ap, ap₂, arith, length-append}
use Rattle.std.specs.Prelude.{if◌then◌else◌, nat_le, nat_lt, pos}
use Rattle.std.proofs.lemmas.Bool.Decides.{nat_tests}
use Rattle.std.proofs.lemmas.Bool.{and_from, and_parts}
use Rattle.vx_model.specs.declared.ptype.PType.{PType}
use Rattle.vx_model.specs.declared.ptype.PType.TheVariants.{U8, U16, U32, U64}
use Rattle.vx_model.specs.Numbers.{int_fits}
use Rattle.vx_model.specs.Words.{all_by}
use Rattle.vx_model.specs.Ty.{Ty, primitive}
use Rattle.vx_model.specs.CellData.{CellData, fits}
use Rattle.vx_model.specs.ChunkData.{ChunkData, plain_piece, cells, cell_at, picked, is_sound, is_code_type, is_dict_type, is_unsigned, is_code}
use Rattle.vx_layout_spec.specs.Real.{Of, is_real_cell}
use Rattle.vx_layout_spec.proofs.CellsFit.{all_append}
use Rattle.vx_rules.specs.Columns.{offset_cell}
use Rattle.vx_rules.specs.Runs.{same_cell, has_cell, with_cell, place_in, distinct_from}
use Rattle.vx_rules.proofs.CellLaws.{Fine, plain_of}
use Rattle.vx_rules.proofs.RunLaws.{Is, same_cell_true, self_same, place_is, has_last}
use Rattle.vx_compressor_spec.specs.TableImage.{distinct, codes_of, code_ptype, dictionary}

-- ---- the cell at its place

pub has_more : (c d : CellData) (ds : List CellData) → has_cell c ds ≡ true → has_cell c (ds ++ (d ∷ [])) ≡ true
has_more c d [] h = cc
has_more c d (e ∷ ds) h = go (same_cell e c) h (has_more c d ds)
  where
    go : (b : Bool) → (b || has_cell c ds) ≡ true → (has_cell c ds ≡ true → has_cell c (ds ++ (d ∷ [])) ≡ true) → (b || has_cell c (ds ++ (d ∷ []))) ≡ true
    go true h r = refl
    go false h r = r h

pub has_with : (c d : CellData) (ds : List CellData) → has_cell c ds ≡ true → has_cell c (with_cell ds d) ≡ true
has_with c d ds h = go (has_cell d ds)
  where
    go : (b : Bool) → has_cell c (if b then ds else ds ++ (d ∷ [])) ≡ true
    go true = h
    go false = has_more c d ds h

pub has_itself : (c : CellData) (ds : List CellData) → same_cell c c ≡ true → has_cell c (with_cell ds c) ≡ true
has_itself c ds s = go (has_cell c ds) refl
  where
    go : (b : Bool) → has_cell c ds ≡ b → has_cell c (if b then ds else ds ++ (c ∷ [])) ≡ true
    go true e = e
    go false e = has_last c ds s

-- a cell that is there stays
pub stays : (c : CellData) (ds cs : List CellData) → has_cell c ds ≡ true → has_cell c (distinct_from ds cs) ≡ true
stays c ds [] h = h
stays c ds (d ∷ cs) h = stays c (with_cell ds d) cs (has_with c d ds h)

-- ---- the distinct cells

abbrev pub HaveAll : List CellData → List CellData → Type 0
HaveAll ds [] = Unit {0}
HaveAll ds (c ∷ cs) = (has_cell c ds ≡ true) × HaveAll ds cs

pub have_all : (t : Ty) → is_dict_type t ≡ true → (ds cs : List CellData) → all_by (fits t) cs ≡ true → HaveAll (distinct_from ds cs) cs
have_all t d ds [] f = tt
have_all t d ds (c ∷ cs) f =
    (stays c (with_cell ds c) cs (has_itself c ds (self_same t c d (and_parts (fits t c) _ f).0)), have_all t d (with_cell ds c) cs (and_parts (fits t c) _ f).1)

with_all : (f : CellData → Bool) (ds : List CellData) (c : CellData) → all_by f ds ≡ true → f c ≡ true → all_by f (with_cell ds c) ≡ true
with_all f ds c h e = go (has_cell c ds)
  where
    go : (b : Bool) → all_by f (if b then ds else ds ++ (c ∷ [])) ≡ true
    go true = h
    go false = all_append f ds (c ∷ []) h (and_from (f c) true e refl)

pub distinct_all : (f : CellData → Bool) (ds cs : List CellData) → all_by f ds ≡ true → all_by f cs ≡ true → all_by f (distinct_from ds cs) ≡ true
distinct_all f ds [] h g = h
distinct_all f ds (c ∷ cs) h g = distinct_all f (with_cell ds c) cs (with_all f ds c h (and_parts (f c) _ g).0) (and_parts (f c) _ g).1

pub with_longer : (ds : List CellData) (c : CellData) → length (with_cell ds c) ≤ suc (length ds)
with_longer ds c = go (has_cell c ds)
  where
    go : (b : Bool) → length (if b then ds else ds ++ (c ∷ [])) ≤ suc (length ds)
    go true = omega arith
    go false = let e : length (ds ++ (c ∷ [])) ≡ length ds + 1 = length-append ds (c ∷ []) in omega arith

pub distinct_few : (ds cs : List CellData) → length (distinct_from ds cs) ≤ length ds + length cs
distinct_few ds [] = omega arith
distinct_few ds (c ∷ cs) =
    let a : length (distinct_from (with_cell ds c) cs) ≤ length (with_cell ds c) + length cs = distinct_few (with_cell ds c) cs in let b : length (with_cell ds c) ≤ suc (length ds) = with_longer ds c in omega arith

-- ---- the codes

codes_back : (ds cs : List CellData) → HaveAll ds cs → map (picked ds) (map offset_cell (codes_of ds cs)) ≡ cs
codes_back ds [] h = refl
codes_back ds (c ∷ cs) h = ap₂ (λ x y. x ∷ y) (place_is c ds h.0).1 (codes_back ds cs h.1)

pub length-codes_of : (ds cs : List CellData) → length (map offset_cell (codes_of ds cs)) ≡ length cs
length-codes_of ds [] = refl
length-codes_of ds (c ∷ cs) = ap suc (length-codes_of ds cs)

code_fits : (k n : ℕ) → n < k → k < 2 ^ 64 → int_fits (code_ptype k) (pos n) ≡ true
code_fits k n l m = go (nat_le k 256) (nat_le k 65536) (nat_le k (2 ^ 32)) refl refl refl
  where
    bytes : nat_le k 256 ≡ true → int_fits U8 (pos n) ≡ true
    bytes e = grind (arith, nat_tests)

    shorts : nat_le k 65536 ≡ true → int_fits U16 (pos n) ≡ true
    shorts e = grind (arith, nat_tests)

    words : nat_le k (2 ^ 32) ≡ true → int_fits U32 (pos n) ≡ true
    words e = grind (arith, nat_tests)

    longs : int_fits U64 (pos n) ≡ true
    longs = grind (arith, nat_tests)

    go : (a b c : Bool) → nat_le k 256 ≡ a → nat_le k 65536 ≡ b → nat_le k (2 ^ 32) ≡ c → int_fits (if a then U8 else if b then U16 else if c then U32 else U64) (pos n) ≡ true
    go true b c e f g = bytes e
    go false true c e f g = shorts f
    go false false true e f g = words g
    go false false false e f g = longs

pub code_unsigned : (k : ℕ) → is_unsigned (code_ptype k) ≡ true
code_unsigned k = go (nat_le k 256) (nat_le k 65536) (nat_le k (2 ^ 32))
  where
    go : (a b c : Bool) → is_unsigned (if a then U8 else if b then U16 else if c then U32 else U64) ≡ true
    go true b c = refl
    go false true c = refl
    go false false true = refl
    go false false false = refl

pub code_type_is : (p : PType) → is_unsigned p ≡ true → is_code_type (primitive p false) ≡ true
code_type_is p e = and_from (is_unsigned p) true e refl

below : (n k : ℕ) → n < k → nat_lt n k ≡ true
below n k l = grind (arith, nat_tests)

pub codes_fit : (k : ℕ) (ds cs : List CellData) → k ≡ length ds → k < 2 ^ 64 → HaveAll ds cs → all_by (fits (primitive (code_ptype k) false)) (map offset_cell (codes_of ds cs)) ≡ true
codes_fit k ds [] e m h = refl
codes_fit k ds (c ∷ cs) e m h =
    let l : place_in c ds < length ds = (place_is c ds h.0).0 in
    and_from (int_fits (code_ptype k) (pos (place_in c ds))) _ (code_fits k (place_in c ds) (omega arith) m) (codes_fit k ds cs e m h.1)

codes_real : (ds cs : List CellData) → all_by is_real_cell (map offset_cell (codes_of ds cs)) ≡ true
codes_real ds [] = refl
codes_real ds (c ∷ cs) = codes_real ds cs

pub codes_within : (ds cs : List CellData) → HaveAll ds cs → all_by (is_code (length ds)) (map offset_cell (codes_of ds cs)) ≡ true
codes_within ds [] h = refl
codes_within ds (c ∷ cs) h = and_from (nat_lt (place_in c ds) (length ds)) _ (below (place_in c ds) (length ds) (place_is c ds h.0).0) (codes_within ds cs h.1)

-- ---- the dictionary

pub record Same (t : Ty) (cs : List CellData) (p : ChunkData) : Type 0 where
  pub whole : Of t p
  pub cells : cells p ≡ cs

pub dictionary_same : (t : Ty) (cs : List CellData) → is_dict_type t ≡ true → Fine t cs → Same t cs (dictionary t cs)
dictionary_same t cs d f =
    let ds : List CellData = distinct cs in
    let have : HaveAll (distinct cs) cs = have_all t d [] cs f.fit in
    let few : length (distinct cs) ≤ 0 + length cs = distinct_few [] cs in
    let short : length cs < 2 ^ 64 = f.short in
    let many : length (map offset_cell (codes_of (distinct cs) cs)) ≡ length cs = length-codes_of (distinct cs) cs in
    let codes : Of (primitive (code_ptype (length (distinct cs))) false) (plain_piece (primitive (code_ptype (length (distinct cs))) false) (map offset_cell (codes_of (distinct cs) cs))) =
    plain_of (primitive (code_ptype (length (distinct cs))) false) (map offset_cell (codes_of (distinct cs) cs))
    (record { fit = codes_fit (length (distinct cs)) (distinct cs) cs refl (omega arith) have; real = codes_real (distinct cs) cs; short = omega arith }) in
    let values : Of t (plain_piece t (distinct cs)) =
    plain_of t (distinct cs) (record { fit = distinct_all (fits t) [] cs refl f.fit; real = distinct_all is_real_cell [] cs refl f.real; short = omega arith }) in
    record {
      whole = record {
        typed = refl;
        whole = record {
          sound =
              and_from (is_sound (plain_piece (primitive (code_ptype (length (distinct cs))) false) (map offset_cell (codes_of (distinct cs) cs))) && is_sound (plain_piece t (distinct cs))) _
              (and_from (is_sound (plain_piece (primitive (code_ptype (length (distinct cs))) false) (map offset_cell (codes_of (distinct cs) cs)))) _ codes.whole.sound values.whole.sound)
              (and_from (is_code_type (primitive (code_ptype (length (distinct cs))) false) && is_dict_type t) _
              (and_from (is_code_type (primitive (code_ptype (length (distinct cs))) false)) (is_dict_type t) (code_type_is (code_ptype (length (distinct cs))) (code_unsigned (length (distinct cs)))) d)
              (codes_within (distinct cs) cs have));
          real = and_from (all_by is_real_cell (map offset_cell (codes_of (distinct cs) cs))) _ codes.whole.real values.whole.real;
        };
      };
      cells = codes_back (distinct cs) cs have;
    }
