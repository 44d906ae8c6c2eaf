-- Cells that are read are spelled so and are the type's, and what is the type's and spelled so is read.
use Rattle.std.proofs.Common.{◌≡◌, ℕ, ◌^◌, ◌<◌, Bool, true, false, cond, List, [], ◌∷◌, ◌++◌, length, Option, Some, None, refl, sym, ap, subst, ◌∙◌, append_assoc, IsTrue, inl, inr}
use Rattle.std.specs.Prelude.{◌&&◌, ℤ}
use mathlib.Core.Logic.{◌⊎◌}
use Rattle.std.proofs.lemmas.Bool.{lt-ltb, ltb-true}
use Rattle.vx_model.specs.declared.ptype.PType.{PType}
use Rattle.vx_model.specs.Words.{joined_by, all_by}
use Rattle.vx_model.specs.Numbers.{int_fits}
use Rattle.vx_model.specs.Ty.{Ty, Tys, boolean, primitive, utf8, binary, list, struct, extension, no_fields, field}
use Rattle.vx_model.specs.CellData.{CellData, CellList, null_cell, bool_cell, int_cell, text_cell, bytes_cell, list_cell, struct_cell, trees_of, items, bit, flag_bytes, u64_bytes, int_bytes, flag_fits, bool_fits, primitive_fits, text_fits, bytes_fits, list_fits, struct_fits, none_fit, first_fits, fits, fields_fit, bool_spelling, primitive_spelling, text_spelling, list_spelling, struct_spelling, nothing_spelled, first_spelled, spelling, fields_spelling}
use Rattle.vx_model.proofs.CellViews.{items_trees_of, trees_of_items}
use Rattle.vx_layout_spec.specs.Real.{is_length, is_real_cell, are_real_cells}
use Rattle.vx_byte_reader.specs.Fields.{◌>>=◌, flag_at, many_at}
use Rattle.vx_byte_reader.proofs.FieldLaws.{IsBytes, bind_some, guard_some, some_is, both_true, halves, Takes, Takes-then, Takes-none, Reads, bit_byte, Any, reads_flag, Each, many_takes, many_again}
use Rattle.vx_cell_codec.specs.Reading.{number_at, blob_at, text_at, int_at, valid_at, leaf_at, list_at, struct_at, nothing_at, first_at, cell_at, fields_at}
use Rattle.vx_cell_codec.proofs.FieldLaws.{Flagged, reads_valid, reads_number, blob_spelling, IsBlob, reads_blob, IsText, reads_text}
use Rattle.vx_cell_codec.proofs.IntLaws.{reads_int}

-- a cell that the test lets in and that can be in memory
pub record Good (test : CellData → Bool) (c : CellData) : Type 0 where
  pub fit : IsTrue (test c)
  pub real : IsTrue (is_real_cell c)

pub record Goods (test : List CellData → Bool) (cs : List CellData) : Type 0 where
  pub fit : IsTrue (test cs)
  pub real : IsTrue (all_by is_real_cell cs)

-- ---- leaves: a null, or a value behind a flag

record IsLeaf {A : Type 0} (n : Bool) (make : A → CellData) (spell : A → List ℕ) (Kind : A → Type 0) (whole : CellData → List ℕ) (fit : CellData → Bool) : Type 0 where
  present : (a : A) → whole (make a) ≡ flag_bytes n true ++ spell a
  absent : whole null_cell ≡ flag_bytes n false
  good : (a : A) → Kind a → Good fit (make a)
  null : n ≡ true → Good fit null_cell
  cases : (c : CellData) → Good fit c → ((n ≡ true) × (c ≡ null_cell)) ⊎ ((a : A) × (c ≡ make a) × Kind a)

flagged_false : (n : Bool) → Flagged n false → n ≡ true
flagged_false true h = refl
flagged_false false h = absurd cc

flagged_true : (n : Bool) → Flagged n true
flagged_true true = tt
flagged_true false = refl

reads_leaf : {A : Type 0} (n : Bool) (make : A → CellData) (read : List ℕ → Option (A × List ℕ)) (spell : A → List ℕ) (Kind : A → Type 0) (whole : CellData → List ℕ) (fit : CellData → Bool)
    → Reads read spell Kind → IsLeaf n make spell Kind whole fit → Reads (leaf_at n make read) whole (Good fit)
unfolding leaf_at
reads_leaf {A} n make read spell Kind whole fit reads leaf = record { takes = takes; again = again }
  where
    rest_takes : (bytes : List ℕ) (valid : Bool) (after : List ℕ) (x : CellData × List ℕ) → Takes bytes (flag_bytes n valid) after → Flagged n valid
        → cond valid (read after >>= λ y. Some (make y.0, y.1)) (Some (null_cell, after)) ≡ Some x → Takes bytes (whole x.0) x.1 × Good fit x.0
    rest_takes bytes true after x t flagged e =
        let b = bind_some (read after) (λ y. Some (make y.0, y.1)) x e in
        let u = reads.takes after b.0.0 b.0.1 t.rest_bytes b.1 in
        let both = Takes-then bytes (flag_bytes n true) after (spell b.0.0) b.0.1 t u.0 in
        let made : CellData × List ℕ = (make b.0.0, b.0.1) in
        subst (λ (y : CellData × List ℕ). Takes bytes (whole y.0) y.1 × Good fit y.0) (some_is made x b.2) (subst (λ (s : List ℕ). Takes bytes s b.0.1) (sym (leaf.present b.0.0)) both, leaf.good b.0.0 u.1)
    rest_takes bytes false after x t flagged e =
        let made : CellData × List ℕ = (null_cell, after) in
        subst (λ (y : CellData × List ℕ). Takes bytes (whole y.0) y.1 × Good fit y.0) (some_is made x e) (subst (λ (s : List ℕ). Takes bytes s after) (sym leaf.absent) t, leaf.null (flagged_false n flagged))

    takes : (bytes : List ℕ) (c : CellData) (rest : List ℕ) → IsBytes bytes → leaf_at n make read bytes ≡ Some (c, rest) → Takes bytes (whole c) rest × Good fit c
    takes bytes c rest fits e =
        let a = bind_some (valid_at n bytes) (λ valid. cond valid.0 (read valid.1 >>= λ y. Some (make y.0, y.1)) (Some (null_cell, valid.1))) (c, rest) e in
        let t = (reads_valid n).takes bytes a.0.0 a.0.1 fits a.1 in
        rest_takes bytes a.0.0 a.0.1 (c, rest) t.0 t.1 a.2

    null_again : (rest : List ℕ) → n ≡ true → leaf_at n make read (whole null_cell ++ rest) ≡ Some (null_cell, rest)
    null_again rest nullable =
        let flagged : Flagged n false = subst (λ (m : Bool). Flagged m false) (sym nullable) tt in
        ap (λ (s : List ℕ). leaf_at n make read (s ++ rest)) leaf.absent ∙ rw ((reads_valid n).again false rest flagged) refl

    value_again : (a : A) (rest : List ℕ) → Kind a → leaf_at n make read (whole (make a) ++ rest) ≡ Some (make a, rest)
    value_again a rest kind =
        ap (λ (s : List ℕ). leaf_at n make read (s ++ rest)) (leaf.present a) ∙ ap (leaf_at n make read) (append_assoc (flag_bytes n true) (spell a) rest) ∙ rw ((reads_valid n).again true (spell a ++ rest) (flagged_true n), reads.again a rest kind) refl

    again : (c : CellData) (rest : List ℕ) → Good fit c → leaf_at n make read (whole c ++ rest) ≡ Some (c, rest)
    again c rest good =
        elim (leaf.cases c good) [
          | inl p ↦ subst (λ (d : CellData). leaf_at n make read (whole d ++ rest) ≡ Some (d, rest)) (sym p.1) (null_again rest p.0)
          | inr q ↦ subst (λ (d : CellData). leaf_at n make read (whole d ++ rest) ≡ Some (d, rest)) (sym q.1) (value_again q.0 rest q.2)
        ]

bool_leaf : (n : Bool) → IsLeaf n bool_cell bit_byte Any (bool_spelling n) (bool_fits n)
bool_leaf n = record { present = λ a. refl; absent = refl; good = λ a kind. record { fit = refl; real = refl }; null = λ nullable. record { fit = nullable; real = refl }; cases = cases }
  where
    cases : (c : CellData) → Good (bool_fits n) c → ((n ≡ true) × (c ≡ null_cell)) ⊎ ((a : Bool) × (c ≡ bool_cell a) × Unit {0})
    cases null_cell good = inl (good.fit, refl)
    cases (bool_cell b) good = inr (b, refl, tt)
    cases c good = absurd (let h = good.fit in cc)

int_leaf : (p : PType) (n : Bool) → IsLeaf n int_cell (int_bytes p) (λ i. IsTrue (int_fits p i)) (primitive_spelling p n) (primitive_fits p n)
int_leaf p n = record { present = λ a. refl; absent = refl; good = λ a kind. record { fit = kind; real = refl }; null = λ nullable. record { fit = nullable; real = refl }; cases = cases }
  where
    cases : (c : CellData) → Good (primitive_fits p n) c → ((n ≡ true) × (c ≡ null_cell)) ⊎ ((a : ℤ) × (c ≡ int_cell a) × IsTrue (int_fits p a))
    cases null_cell good = inl (good.fit, refl)
    cases (int_cell i) good = inr (i, refl, good.fit)
    cases c good = absurd (let h = good.fit in cc)

text_leaf : (n : Bool) → IsLeaf n text_cell blob_spelling IsText (text_spelling n) (text_fits n)
text_leaf n = record { present = λ a. refl; absent = refl; good = λ a kind. record { fit = refl; real = both_true _ _ kind.utf8 kind.short }; null = λ nullable. record { fit = nullable; real = refl }; cases = cases }
  where
    cases : (c : CellData) → Good (text_fits n) c → ((n ≡ true) × (c ≡ null_cell)) ⊎ ((a : List ℕ) × (c ≡ text_cell a) × IsText a)
    cases null_cell good = inl (good.fit, refl)
    cases (text_cell s) good = let parts = halves _ (is_length (length s)) good.real in inr (s, refl, record { utf8 = parts.0; short = parts.1 })
    cases c good = absurd (let h = good.fit in cc)

bytes_leaf : (n : Bool) → IsLeaf n bytes_cell blob_spelling IsBlob (text_spelling n) (bytes_fits n)
bytes_leaf n = record { present = λ a. refl; absent = refl; good = λ a kind. record { fit = refl; real = both_true _ _ kind.bytes kind.short }; null = λ nullable. record { fit = nullable; real = refl }; cases = cases }
  where
    cases : (c : CellData) → Good (bytes_fits n) c → ((n ≡ true) × (c ≡ null_cell)) ⊎ ((a : List ℕ) × (c ≡ bytes_cell a) × IsBlob a)
    cases null_cell good = inl (good.fit, refl)
    cases (bytes_cell s) good = let parts = halves _ (is_length (length s)) good.real in inr (s, refl, record { bytes = parts.0; short = parts.1 })
    cases c good = absurd (let h = good.fit in cc)

-- ---- lists

all_good : (fit : CellData → Bool) (cs : List CellData) → Each (Good fit) cs → Goods (all_by fit) cs
all_good fit [] h = record { fit = refl; real = refl }
all_good fit (c ∷ cs) h =
    let rest = all_good fit cs h.1 in
    record { fit = both_true (fit c) (all_by fit cs) h.0.fit rest.fit; real = both_true (is_real_cell c) (all_by is_real_cell cs) h.0.real rest.real }

pub each_good : (fit : CellData → Bool) (cs : List CellData) → Goods (all_by fit) cs → Each (Good fit) cs
each_good fit [] h = tt
each_good fit (c ∷ cs) h =
    let fit_parts = halves (fit c) (all_by fit cs) h.fit in
    let real_parts = halves (is_real_cell c) (all_by is_real_cell cs) h.real in
    (record { fit = fit_parts.0; real = real_parts.0 }, each_good fit cs (record { fit = fit_parts.1; real = real_parts.1 }))

real_is : (cs : List CellData) → are_real_cells (trees_of cs) ≡ all_by is_real_cell cs
real_is [] = refl
real_is (c ∷ cs) = ap (λ (b : Bool). is_real_cell c && b) (real_is cs)

real_items : (cs : CellList) → are_real_cells cs ≡ all_by is_real_cell (items cs)
real_items cs = ap are_real_cells (sym (trees_of_items cs)) ∙ real_is (items cs)

flag_of : (n valid : Bool) → Flagged n valid → IsTrue (flag_fits valid n)
flag_of true true h = refl
flag_of true false h = refl
flag_of false valid h = rw h refl

flagged_of : (n valid : Bool) → IsTrue (flag_fits valid n) → Flagged n valid
flagged_of true valid h = tt
flagged_of false true h = refl
flagged_of false false h = h

abbrev as_list : Bool → List CellData → CellData
as_list valid cs = list_cell valid (trees_of cs)

list_good : (n valid : Bool) (fit : CellData → Bool) (cs : List CellData) → Flagged n valid → length cs < 2 ^ 64 → Each (Good fit) cs → Good (list_fits n fit) (as_list valid cs)
list_good n valid fit cs flagged short each =
    let goods = all_good fit cs each in
    let same : items (trees_of cs) ≡ cs = items_trees_of cs in
    record {
      fit = both_true (flag_fits valid n) (all_by fit (items (trees_of cs))) (flag_of n valid flagged) (rw same goods.fit);
      real = both_true (are_real_cells (trees_of cs)) (is_length (length (items (trees_of cs)))) (rw (real_is cs) goods.real) (rw same (lt-ltb (length cs) (2 ^ 64) short));
    }

reads_list : (n : Bool) (read : List ℕ → Option (CellData × List ℕ)) (spell : CellData → List ℕ) (fit : CellData → Bool) → Reads read spell (Good fit) → Reads (list_at n read) (list_spelling n spell) (Good (list_fits n fit))
unfolding list_at
reads_list n read spell fit reads = record { takes = takes; again = again }
  where
    takes : (bytes : List ℕ) (c : CellData) (rest : List ℕ) → IsBytes bytes → list_at n read bytes ≡ Some (c, rest) → Takes bytes (list_spelling n spell c) rest × Good (list_fits n fit) c
    takes bytes c rest fits e =
        let a = bind_some (valid_at n bytes) (λ valid. number_at valid.1 >>= λ count. many_at read count.0 count.1 >>= λ cells. Some (as_list valid.0 cells.0, cells.1)) (c, rest) e in
        let b = bind_some (number_at a.0.1) (λ count. many_at read count.0 count.1 >>= λ cells. Some (as_list a.0.0 cells.0, cells.1)) (c, rest) a.2 in
        let d = bind_some (many_at read b.0.0 b.0.1) (λ cells. Some (as_list a.0.0 cells.0, cells.1)) (c, rest) b.2 in
        let t0 = (reads_valid n).takes bytes a.0.0 a.0.1 fits a.1 in
        let t1 = reads_number.takes a.0.1 b.0.0 b.0.1 t0.0.rest_bytes b.1 in
        let t2 = many_takes read spell (Good fit) reads b.0.0 b.0.1 d.0 t1.0.rest_bytes d.1 in
        let cs : List CellData = d.0.0 in
        let e12 = Takes-then a.0.1 (u64_bytes b.0.0) b.0.1 (joined_by spell cs) d.0.1 t1.0 t2.0 in
        let e02 = Takes-then bytes (flag_bytes n a.0.0) a.0.1 (u64_bytes b.0.0 ++ joined_by spell cs) d.0.1 t0.0 e12 in
        let counted : Takes bytes (flag_bytes n a.0.0 ++ (u64_bytes (length cs) ++ joined_by spell cs)) d.0.1 = subst (λ (k : ℕ). Takes bytes (flag_bytes n a.0.0 ++ (u64_bytes k ++ joined_by spell cs)) d.0.1) (sym t2.1) e02 in
        let spelled : Takes bytes (list_spelling n spell (as_list a.0.0 cs)) d.0.1 = subst (λ (ds : List CellData). Takes bytes (flag_bytes n a.0.0 ++ (u64_bytes (length ds) ++ joined_by spell ds)) d.0.1) (sym (items_trees_of cs)) counted in
        let short : length cs < 2 ^ 64 = rw t2.1 t1.1 in
        let made : CellData × List ℕ = (as_list a.0.0 cs, d.0.1) in
        subst (λ (y : CellData × List ℕ). Takes bytes (list_spelling n spell y.0) y.1 × Good (list_fits n fit) y.0) (some_is made (c, rest) d.2) (spelled, list_good n a.0.0 fit cs t0.1 short t2.2)

    again : (c : CellData) (rest : List ℕ) → Good (list_fits n fit) c → list_at n read (list_spelling n spell c ++ rest) ≡ Some (c, rest)
    again (list_cell valid ts) rest good =
        let cs : List CellData = items ts in
        let fit_parts = halves (flag_fits valid n) (all_by fit cs) good.fit in
        let real_parts = halves (are_real_cells ts) (is_length (length cs)) good.real in
        let each = each_good fit cs (record { fit = fit_parts.1; real = rw (real_items ts) at real_parts.0 }) in
        let tail : List ℕ = joined_by spell cs in
        let regrouped : list_spelling n spell (list_cell valid ts) ++ rest ≡ flag_bytes n valid ++ (u64_bytes (length cs) ++ (tail ++ rest)) = append_assoc (flag_bytes n valid) (u64_bytes (length cs) ++ tail) rest ∙ ap (λ (x : List ℕ). flag_bytes n valid ++ x) (append_assoc (u64_bytes (length cs)) tail rest) in
        ap (list_at n read) regrouped ∙ rw ((reads_valid n).again valid (u64_bytes (length cs) ++ (tail ++ rest)) (flagged_of n valid fit_parts.0), reads_number.again (length cs) (tail ++ rest) (ltb-true (length cs) (2 ^ 64) real_parts.1), many_again read spell (Good fit) reads cs rest each) (ap (λ (us : CellList). Some (list_cell valid us, rest)) (trees_of_items ts))
    again c rest good = absurd (let h = good.fit in cc)

-- ---- structs

abbrev as_struct : Bool → List CellData → CellData
as_struct valid cs = struct_cell valid (trees_of cs)

struct_good : (n valid : Bool) (fit : List CellData → Bool) (cs : List CellData) → IsTrue (flag_fits valid n) → Goods fit cs → Good (struct_fits n fit) (as_struct valid cs)
struct_good n valid fit cs flag goods =
    record {
      fit = both_true (flag_fits valid n) (fit (items (trees_of cs))) flag (rw (items_trees_of cs) goods.fit);
      real = rw (real_is cs) goods.real;
    }

reads_struct : (n : Bool) (read : List ℕ → Option (List CellData × List ℕ)) (spell : List CellData → List ℕ) (fit : List CellData → Bool) → Reads read spell (Goods fit) → Reads (struct_at n read) (struct_spelling spell) (Good (struct_fits n fit))
unfolding struct_at
reads_struct n read spell fit reads = record { takes = takes; again = again }
  where
    takes : (bytes : List ℕ) (c : CellData) (rest : List ℕ) → IsBytes bytes → struct_at n read bytes ≡ Some (c, rest) → Takes bytes (struct_spelling spell c) rest × Good (struct_fits n fit) c
    takes bytes c rest fits e =
        let a = bind_some (flag_at bytes) (λ valid. read valid.1 >>= λ cells. cond (flag_fits valid.0 n) (Some (as_struct valid.0 cells.0, cells.1)) None) (c, rest) e in
        let b = bind_some (read a.0.1) (λ cells. cond (flag_fits a.0.0 n) (Some (as_struct a.0.0 cells.0, cells.1)) None) (c, rest) a.2 in
        let made : CellData × List ℕ = (as_struct a.0.0 b.0.0, b.0.1) in
        let g = guard_some (flag_fits a.0.0 n) made (c, rest) b.2 in
        let t0 = reads_flag.takes bytes a.0.0 a.0.1 fits a.1 in
        let t1 = reads.takes a.0.1 b.0.0 b.0.1 t0.0.rest_bytes b.1 in
        let both = Takes-then bytes (bit_byte a.0.0) a.0.1 (spell b.0.0) b.0.1 t0.0 t1.0 in
        let spelled : Takes bytes (struct_spelling spell made.0) b.0.1 = subst (λ (ds : List CellData). Takes bytes (bit a.0.0 ∷ spell ds) b.0.1) (sym (items_trees_of b.0.0)) both in
        subst (λ (y : CellData × List ℕ). Takes bytes (struct_spelling spell y.0) y.1 × Good (struct_fits n fit) y.0) g.1 (spelled, struct_good n a.0.0 fit b.0.0 g.0 t1.1)

    again : (c : CellData) (rest : List ℕ) → Good (struct_fits n fit) c → struct_at n read (struct_spelling spell c ++ rest) ≡ Some (c, rest)
    again (struct_cell valid ts) rest good =
        let cs : List CellData = items ts in
        let parts = halves (flag_fits valid n) (fit cs) good.fit in
        let goods : Goods fit cs = record { fit = parts.1; real = rw (real_items ts) at good.real } in
        rw (reads_flag.again valid (spell cs ++ rest) tt, reads.again cs rest goods, parts.0) (ap (λ (us : CellList). Some (struct_cell valid us, rest)) (trees_of_items ts))
    again c rest good = absurd (let h = good.fit in cc)

reads_nothing : Reads nothing_at nothing_spelled (Goods none_fit)
unfolding nothing_at
reads_nothing = record { takes = takes; again = again }
  where
    takes : (bytes : List ℕ) (cs : List CellData) (rest : List ℕ) → IsBytes bytes → nothing_at bytes ≡ Some (cs, rest) → Takes bytes (nothing_spelled cs) rest × Goods none_fit cs
    takes bytes cs rest fits e =
        let made : List CellData × List ℕ = ([], bytes) in
        subst (λ (y : List CellData × List ℕ). Takes bytes [] y.1 × Goods none_fit y.0) (some_is made (cs, rest) e) (Takes-none bytes fits, record { fit = refl; real = refl })

    again : (cs : List CellData) (rest : List ℕ) → Goods none_fit cs → nothing_at (nothing_spelled cs ++ rest) ≡ Some (cs, rest)
    again [] rest good = refl
    again (c ∷ cs) rest good = absurd (let h = good.fit in cc)

reads_first : (read : List ℕ → Option (CellData × List ℕ)) (spell : CellData → List ℕ) (fit : CellData → Bool) (others : List ℕ → Option (List CellData × List ℕ)) (spells : List CellData → List ℕ) (fit_others : List CellData → Bool)
    → Reads read spell (Good fit) → Reads others spells (Goods fit_others) → Reads (first_at read others) (first_spelled spell spells) (Goods (first_fits fit fit_others))
unfolding first_at
reads_first read spell fit others spells fit_others reads reads_others = record { takes = takes; again = again }
  where
    takes : (bytes : List ℕ) (cs : List CellData) (rest : List ℕ) → IsBytes bytes → first_at read others bytes ≡ Some (cs, rest) → Takes bytes (first_spelled spell spells cs) rest × Goods (first_fits fit fit_others) cs
    takes bytes cs rest fits e =
        let a = bind_some (read bytes) (λ first. others first.1 >>= λ more. Some (first.0 ∷ more.0, more.1)) (cs, rest) e in
        let b = bind_some (others a.0.1) (λ more. Some (a.0.0 ∷ more.0, more.1)) (cs, rest) a.2 in
        let t0 = reads.takes bytes a.0.0 a.0.1 fits a.1 in
        let t1 = reads_others.takes a.0.1 b.0.0 b.0.1 t0.0.rest_bytes b.1 in
        let both = Takes-then bytes (spell a.0.0) a.0.1 (spells b.0.0) b.0.1 t0.0 t1.0 in
        let made : List CellData × List ℕ = (a.0.0 ∷ b.0.0, b.0.1) in
        subst (λ (y : List CellData × List ℕ). Takes bytes (first_spelled spell spells y.0) y.1 × Goods (first_fits fit fit_others) y.0) (some_is made (cs, rest) b.2) (both, record { fit = both_true (fit a.0.0) (fit_others b.0.0) t0.1.fit t1.1.fit; real = both_true (is_real_cell a.0.0) (all_by is_real_cell b.0.0) t0.1.real t1.1.real })

    again : (cs : List CellData) (rest : List ℕ) → Goods (first_fits fit fit_others) cs → first_at read others (first_spelled spell spells cs ++ rest) ≡ Some (cs, rest)
    again [] rest good = absurd (let h = good.fit in cc)
    again (c ∷ cs) rest good =
        let fit_parts = halves (fit c) (fit_others cs) good.fit in
        let real_parts = halves (is_real_cell c) (all_by is_real_cell cs) good.real in
        ap (first_at read others) (append_assoc (spell c) (spells cs) rest) ∙ rw (reads.again c (spells cs ++ rest) (record { fit = fit_parts.0; real = real_parts.0 }), reads_others.again cs rest (record { fit = fit_parts.1; real = real_parts.1 })) refl

-- ---- every type

mutual
  pub reads_cell : (t : Ty) → Reads (cell_at t) (spelling t) (Good (fits t))
  reads_cell (boolean n) = reads_leaf n bool_cell flag_at bit_byte Any (bool_spelling n) (bool_fits n) reads_flag (bool_leaf n)
  reads_cell (primitive p n) = reads_leaf n int_cell (int_at p) (int_bytes p) (λ i. IsTrue (int_fits p i)) (primitive_spelling p n) (primitive_fits p n) (reads_int p) (int_leaf p n)
  reads_cell (utf8 n) = reads_leaf n text_cell text_at blob_spelling IsText (text_spelling n) (text_fits n) reads_text (text_leaf n)
  reads_cell (binary n) = reads_leaf n bytes_cell blob_at blob_spelling IsBlob (text_spelling n) (bytes_fits n) reads_blob (bytes_leaf n)
  reads_cell (list t n) = reads_list n (cell_at t) (spelling t) (fits t) (reads_cell t)
  reads_cell (struct fs n) = reads_struct n (fields_at fs) (fields_spelling fs) (fields_fit fs) (reads_fields fs)
  reads_cell (extension tag t) = reads_cell t

  pub reads_fields : (fs : Tys) → Reads (fields_at fs) (fields_spelling fs) (Goods (fields_fit fs))
  reads_fields no_fields = reads_nothing
  reads_fields (field name t fs) = reads_first (cell_at t) (spelling t) (fits t) (fields_at fs) (fields_spelling fs) (fields_fit fs) (reads_cell t) (reads_fields fs)

-- so many cells, all good
pub rows_take : (t : Ty) (n : ℕ) (bytes : List ℕ) (x : List CellData × List ℕ) → IsBytes bytes → many_at (cell_at t) n bytes ≡ Some x → Takes bytes (joined_by (spelling t) x.0) x.1 × (length x.0 ≡ n) × Goods (all_by (fits t)) x.0
rows_take t n bytes x is_bytes e =
    let known = many_takes (cell_at t) (spelling t) (Good (fits t)) (reads_cell t) n bytes x is_bytes e in
    (known.0, known.1, all_good (fits t) x.0 known.2)

pub rows_again : (t : Ty) (cs : List CellData) (rest : List ℕ) → Goods (all_by (fits t)) cs → many_at (cell_at t) (length cs) (joined_by (spelling t) cs ++ rest) ≡ Some (cs, rest)
rows_again t cs rest goods = many_again (cell_at t) (spelling t) (Good (fits t)) (reads_cell t) cs rest (each_good (fits t) cs goods)
