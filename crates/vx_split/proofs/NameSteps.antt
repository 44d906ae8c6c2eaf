-- The names before a field, and as a set.
use Rattle.std.proofs.Common.{◌≡◌, ℕ, ◌+◌, ◌<◌, ◌||◌, not, bytes_eq, Bool, true, false, List, [], ◌∷◌, ◌++◌, length, get_or, take, drop, map, cond, Some, None, refl, sym, ◌∙◌, ap}
use Rattle.std.specs.declared.cmp.Ordering.{Ordering}
use Rattle.std.specs.Ordering.{nat_cmp}
use Rattle.std.specs.Cmp.Lexicographic.{slice_cmp}
use Rattle.std.specs.BTreeSet.{BTreeSet, contains, contains_by, Updates}
use denote.Ref.{Bor}
use Rattle.std.proofs.lemmas.List.{drop_more, drop_all, take_more}
use Rattle.std.proofs.lemmas.Map.Text.{is_eq-slice_cmp}
use Rattle.vx_model.specs.declared.dtype.StructField.{StructField}
use Rattle.vx_model.specs.Ty.{Ty, Tys, boolean, primitive, utf8, binary, list, struct, extension, tys_of, is_struct, struct_tys}
use Rattle.vx_model.specs.TyView.{field_ty}
use Rattle.vx_model.proofs.Views.{field_ty_is}
use Rattle.vx_strategy_spec.specs.Walk.{is_name, repeated}
use Rattle.vx_chunk_cells.proofs.TypeSteps.{fields_told}

abbrev pub names_of : List StructField → List (List ℕ)
names_of [] = []
names_of (f ∷ fs) = f.name ∷ names_of fs

names_push : (fs : List StructField) (f : StructField) → names_of (fs ++ f ∷ []) ≡ names_of fs ++ f.name ∷ []
names_push [] f = refl
names_push (x ∷ fs) f = ap (λ (r : List (List ℕ)). x.name ∷ r) (names_push fs f)

names_more : (fs : List StructField) (i : ℕ) (f : StructField) → i < length fs → f ≡ get_or fs i f → names_of (take (i + 1) fs) ≡ names_of (take i fs) ++ f.name ∷ []
names_more fs i f lt is = rw (take_more fs i f lt, ← is) (names_push (take i fs) f)

-- ---- the first repeated name

pub repeat_found : (fs : List StructField) (i : ℕ) (f : StructField) → i < length fs → f ≡ get_or fs i f → is_name f.name (names_of (take i fs)) ≡ true
    → repeated (names_of (take i fs)) (tys_of (map field_ty (drop i fs))) ≡ Some f.name
repeat_found fs i f lt is again = rw (drop_more fs i f lt, ← is, field_ty_is f, again) refl

pub one_more : (fs : List StructField) (i : ℕ) (f : StructField) → i < length fs → f ≡ get_or fs i f → is_name f.name (names_of (take i fs)) ≡ false
    → repeated (names_of (take i fs)) (tys_of (map field_ty (drop i fs))) ≡ repeated (names_of (take (i + 1) fs)) (tys_of (map field_ty (drop (i + 1) fs)))
one_more fs i f lt is new = rw (drop_more fs i f lt, ← is, field_ty_is f, new, names_more fs i f lt is) refl

-- ---- the names before, as a set

-- whether the set has the name
abbrev pub has : BTreeSet (Bor (List ℕ)) → List ℕ → Bool
has s name = contains_by (λ k. slice_cmp nat_cmp name k.now) s

abbrev pub text_cmp : Bor (List ℕ) → Bor (List ℕ) → Ordering
text_cmp x y = slice_cmp nat_cmp x.now y.now

-- with one name more
has_more : (s n : BTreeSet (Bor (List ℕ))) (k : Bor (List ℕ)) → Updates text_cmp s n k true → (name : List ℕ) → has n name ≡ (bytes_eq k.now name || has s name)
has_more s n k more name = more.0 (record { ref_ptr = (0, 0); now = name }) ∙ picked _ _ (has s name) (is_eq-slice_cmp k.now name)
  where
    picked : (a b c : Bool) → a ≡ b → cond a true c ≡ (b || c)
    picked true b c is = rw (← is) refl
    picked false b c is = rw (← is) refl

append_name : (names : List (List ℕ)) (name other : List ℕ) → is_name name (names ++ other ∷ []) ≡ (bytes_eq other name || is_name name names)
append_name [] name other = among (bytes_eq other name)
  where
    among : (a : Bool) → cond a true false ≡ (a || false)
    among true = refl
    among false = refl
append_name (x ∷ names) name other = rw (append_name names name other) (turned (bytes_eq x name) (bytes_eq other name) (is_name name names))
  where
    turned : (a b c : Bool) → cond a true (b || c) ≡ (b || cond a true c)
    turned true true c = refl
    turned true false c = refl
    turned false b c = refl

pub set_more : (fs : List StructField) (i : ℕ) (f : StructField) (s n : BTreeSet (Bor (List ℕ))) (k : Bor (List ℕ)) → i < length fs → f ≡ get_or fs i f → k.now ≡ f.name → Updates text_cmp s n k true
    → ((q : List ℕ) → has s q ≡ is_name q (names_of (take i fs))) → (q : List ℕ) → has n q ≡ is_name q (names_of (take (i + 1) fs))
set_more fs i f s n k lt is text more seen q = has_more s n k more q ∙ rw (names_more fs i f lt is, append_name (names_of (take i fs)) q f.name, text, seen q) refl

pub had : (s : BTreeSet (Bor (List ℕ))) (k : Bor (List ℕ)) (name : List ℕ) (added b : Bool) → k.now ≡ name → added ≡ not (contains text_cmp s k) → added ≡ not b → has s name ≡ b
had s k name added b text is was = rw (← text) (same (has s k.now) b (sym is ∙ was))
  where
    same : (a b : Bool) → not a ≡ not b → a ≡ b
    same true true h = refl
    same true false h = sym h
    same false true h = sym h
    same false false h = refl

pub ruleset name_rules = (drop_all)

-- ---- what is told of a type

pub struct_told : (t : Ty) (fs : Tys) → Some fs ≡ struct_tys t → is_struct t ≡ true
struct_told (struct gs n) fs e = refl
struct_told (boolean n) fs e = cc
struct_told (primitive p n) fs e = cc
struct_told (utf8 n) fs e = cc
struct_told (binary n) fs e = cc
struct_told (list t n) fs e = cc
struct_told (extension tag t) fs e = cc

pub no_struct_told : (t : Ty) → None ≡ struct_tys t → is_struct t ≡ false
no_struct_told (struct gs n) e = cc
no_struct_told (boolean n) e = refl
no_struct_told (primitive p n) e = refl
no_struct_told (utf8 n) e = refl
no_struct_told (binary n) e = refl
no_struct_told (list t n) e = refl
no_struct_told (extension tag t) e = refl

pub ruleset type_rules = (fields_told, struct_told, no_struct_told)
