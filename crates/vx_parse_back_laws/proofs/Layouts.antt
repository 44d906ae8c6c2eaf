-- Layouts that are sound once their segments are numbered.
use Rattle.std.proofs.Common.{◌≡◌, ℕ, suc, ◌+◌, Bool, List, [], ◌∷◌, refl, sym, ◌∙◌, arith}
use Rattle.vx_model.specs.declared.ptype.PType.{PType}
use Rattle.vx_model.specs.declared.ptype.PType.TheVariants.{U64}
use Rattle.vx_model.specs.Words.{total_by}
use Rattle.vx_model.specs.Ty.{Ty, Tys, primitive, list, struct}
use Rattle.vx_layout_spec.specs.LayoutTree.{LayoutData, layout, lays_of, lays_in, layout_type, row_count, chunked_layout, gathered, struct_layout, list_layout, dict_layout, renamed, each_renamed}
use Rattle.vx_session.specs.Scope.{Scope}
use Rattle.vx_session.specs.Kinds.{struct_types, validity_types}
use Rattle.vx_layout_codec_spec.specs.Sound.{types_of, AreOf, HaveRows, Sound, AreSound}
use Rattle.vx_rules.specs.Columns.{offset_type}
use Rattle.vx_parse_back_laws.specs.Knowing.{KnowsLayout, KnowsAll}

-- in the scope, with the segments numbered so
module _ (s : Scope) (f : List ℕ → ℕ) where
  -- A layout of the type and of so many rows, which is sound.
  pub record Written (t : Ty) (n : ℕ) (l : LayoutData (List ℕ)) : Type 0 where
    pub typed : layout_type l ≡ t
    pub rows : row_count l ≡ n
    pub sound : KnowsLayout s (renamed f l) → Sound s (renamed f l)

  -- layouts with their segments numbered
  abbrev pub kids : List (LayoutData (List ℕ)) → List (LayoutData ℕ)
  kids ls = lays_in (each_renamed f (lays_of ls))

  same_type : (l : LayoutData (List ℕ)) → layout_type (renamed f l) ≡ layout_type l
  same_type (layout k t n names ls) = refl

  same_rows : (l : LayoutData (List ℕ)) → row_count (renamed f l) ≡ row_count l
  same_rows (layout k t n names ls) = refl

  pub has_type : (t : Ty) (n : ℕ) (l : LayoutData (List ℕ)) → Written t n l → layout_type (renamed f l) ≡ t
  has_type t n l h = same_type l ∙ h.typed

  pub has_rows : (t : Ty) (n : ℕ) (l : LayoutData (List ℕ)) → Written t n l → row_count (renamed f l) ≡ n
  has_rows t n l h = same_rows l ∙ h.rows

  -- ---- layouts of one type, whose rows make up the number

  abbrev pub Parts : Ty → ℕ → List (LayoutData (List ℕ)) → Type 0
  Parts t n [] = n ≡ 0
  Parts t n (l ∷ ls) = (a : ℕ) × (b : ℕ) × (n ≡ a + b) × Written t a l × Parts t b ls

  parts_types : (t : Ty) (n : ℕ) (ls : List (LayoutData (List ℕ))) → Parts t n ls → AreOf t (kids ls)
  parts_types t n [] h = tt
  parts_types t n (l ∷ ls) h = (has_type t h.0 l h.3, parts_types t h.1 ls h.4)

  parts_rows : (t : Ty) (n : ℕ) (ls : List (LayoutData (List ℕ))) → Parts t n ls → total_by row_count (kids ls) ≡ n
  parts_rows t n [] h = sym h
  parts_rows t n (l ∷ ls) h =
      let one : row_count (renamed f l) ≡ h.0 = has_rows t h.0 l h.3 in
      let others : total_by row_count (kids ls) ≡ h.1 = parts_rows t h.1 ls h.4 in
      let sum : n ≡ h.0 + h.1 = h.2 in
      omega arith

  parts_sound : (t : Ty) (n : ℕ) (ls : List (LayoutData (List ℕ))) → Parts t n ls → KnowsAll s (each_renamed f (lays_of ls)) → AreSound s (each_renamed f (lays_of ls))
  parts_sound t n [] h knows = tt
  parts_sound t n (l ∷ ls) h knows = (h.3.sound knows.0, parts_sound t h.1 ls h.4 knows.1)

  pub chunked_written : (t : Ty) (n : ℕ) (ls : List (LayoutData (List ℕ))) → Parts t n ls → Written t n (chunked_layout t n ls)
  chunked_written t n ls h = record {
    typed = refl;
    rows = refl;
    sound = λ knows. (record { known = knows.0; types = parts_types t n ls h; rows = parts_rows t n ls h }, parts_sound t n ls h knows.1);
  }

  -- one is itself, none or several are chunked
  pub gathered_written : (t : Ty) (n : ℕ) (ls : List (LayoutData (List ℕ))) → Parts t n ls → Written t n (gathered t n ls)
  gathered_written t n [] h = chunked_written t n [] h
  gathered_written t n (l ∷ []) h = record {
    typed = h.3.typed;
    rows = let one : row_count l ≡ h.0 = h.3.rows in let sum : n ≡ h.0 + h.1 = h.2 in let none : h.1 ≡ 0 = h.4 in omega arith;
    sound = h.3.sound;
  }
  gathered_written t n (l ∷ k ∷ ls) h = chunked_written t n (l ∷ k ∷ ls) h

  -- ---- layouts of these types, each of so many rows

  abbrev pub Beside : ℕ → List Ty → List (LayoutData (List ℕ)) → Type 0
  Beside n [] [] = Unit {0}
  Beside n [] (l ∷ ls) = ⊥
  Beside n (t ∷ ts) [] = ⊥
  Beside n (t ∷ ts) (l ∷ ls) = Written t n l × Beside n ts ls

  beside_types : (n : ℕ) (ts : List Ty) (ls : List (LayoutData (List ℕ))) → Beside n ts ls → types_of (kids ls) ≡ ts
  beside_types n [] [] h = refl
  beside_types n [] (l ∷ ls) h = absurd h
  beside_types n (t ∷ ts) [] h = absurd h
  beside_types n (t ∷ ts) (l ∷ ls) h =
      let one : layout_type (renamed f l) ≡ t = has_type t n l h.0 in
      let others : types_of (kids ls) ≡ ts = beside_types n ts ls h.1 in
      cc

  beside_rows : (n : ℕ) (ts : List Ty) (ls : List (LayoutData (List ℕ))) → Beside n ts ls → HaveRows n (kids ls)
  beside_rows n [] [] h = tt
  beside_rows n [] (l ∷ ls) h = absurd h
  beside_rows n (t ∷ ts) [] h = absurd h
  beside_rows n (t ∷ ts) (l ∷ ls) h = (has_rows t n l h.0, beside_rows n ts ls h.1)

  beside_sound : (n : ℕ) (ts : List Ty) (ls : List (LayoutData (List ℕ))) → Beside n ts ls → KnowsAll s (each_renamed f (lays_of ls)) → AreSound s (each_renamed f (lays_of ls))
  beside_sound n [] [] h knows = tt
  beside_sound n [] (l ∷ ls) h knows = absurd h
  beside_sound n (t ∷ ts) [] h knows = absurd h
  beside_sound n (t ∷ ts) (l ∷ ls) h knows = (h.0.sound knows.0, beside_sound n ts ls h.1 knows.1)

  pub struct_written : (fs : Tys) (null : Bool) (n : ℕ) (ls : List (LayoutData (List ℕ))) → Beside n (struct_types (struct fs null)) ls → Written (struct fs null) n (struct_layout (struct fs null) n ls)
  struct_written fs null n ls h = record {
    typed = refl;
    rows = refl;
    sound = λ knows. (
      record { known = knows.0; of_structs = refl; types = beside_types n (struct_types (struct fs null)) ls h; rows = beside_rows n (struct_types (struct fs null)) ls h },
      beside_sound n (struct_types (struct fs null)) ls h knows.1,
    );
  }

  -- an offset more than rows
  pub list_written : (t : Ty) (null : Bool) (n count : ℕ) (e o : LayoutData (List ℕ)) (vs : List (LayoutData (List ℕ))) → Written t count e → Written offset_type (suc n) o → Beside n (validity_types (list t null)) vs
      → Written (list t null) n (list_layout (list t null) n (e ∷ o ∷ vs))
  list_written t null n count e o vs elements offsets flags =
      let one : layout_type (renamed f e) ≡ t = has_type t count e elements in
      let two : layout_type (renamed f o) ≡ offset_type = has_type offset_type (suc n) o offsets in
      let others : types_of (kids vs) ≡ validity_types (list t null) = beside_types n (validity_types (list t null)) vs flags in
      let entries : row_count (renamed f o) ≡ suc n = has_rows offset_type (suc n) o offsets in
      record {
        typed = refl;
        rows = refl;
        sound = λ knows. (
          record {
            known = knows.0;
            of_lists = refl;
            elements = renamed f e;
            offsets = renamed f o;
            validity = kids vs;
            are = refl;
            integers = U64;
            types = cc;
            rows = omega arith;
            flags = beside_rows n (validity_types (list t null)) vs flags;
          },
          (elements.sound knows.1.0, (offsets.sound knows.1.1.0, beside_sound n (validity_types (list t null)) vs flags knows.1.1.1)),
        );
      }

  pub dict_written : (t : Ty) (n count : ℕ) (p : PType) (null : Bool) (values places : LayoutData (List ℕ)) → Written t count values → Written (primitive p null) n places → Written t n (dict_layout t n values places)
  dict_written t n count p null values places vs cs =
      let one : layout_type (renamed f values) ≡ t = has_type t count values vs in
      let two : layout_type (renamed f places) ≡ primitive p null = has_type (primitive p null) n places cs in
      record {
        typed = refl;
        rows = refl;
        sound = λ knows. (
          record { known = knows.0; values = renamed f values; places = renamed f places; are = refl; integers = p; nullable = null; types = cc; rows = has_rows (primitive p null) n places cs },
          (vs.sound knows.1.0, (cs.sound knows.1.1.0, tt)),
        );
      }
