-- Offsets and flags that are read are spelled so, and what is spelled so is read.
use Rattle.std.proofs.Common.{◌≡◌, ℕ, zero, suc, ◌+◌, ◌<◌, ◌≤◌, ◌&&◌, Bool, true, cond, eqb, List, [], ◌∷◌, ◌++◌, length, get_or, drop, map, Option, Some, None, Result, Ok, Err, refl, sym, ap, subst, ◌∙◌, arith}
use Rattle.std.specs.Prelude.{IfOk, nat_le}
use Rattle.std.specs.Global.{Vec}
use Rattle.std.proofs.lemmas.Bool.{eqb-true}
use Rattle.std.proofs.lemmas.List.{append-nil, nil_from_length, drop_more}
use Rattle.vx_model.specs.Words.{joined_by}
use Rattle.vx_model.specs.CellData.{bit, u64_bytes}
use Rattle.vx_cell_codec.specs.declared.error.CellError.{CellError}
use Rattle.vx_byte_reader.specs.Fields.{flag_at, many_at}
use Rattle.vx_byte_reader.proofs.FieldLaws.{IsBytes, bind_some, guard_some, halves, bit_byte, Any, reads_flag, Each, many_takes, many_again}
use Rattle.vx_byte_reader.proofs.FieldLoops.{with_front}
use Rattle.vx_cell_codec.specs.Reading.{number_at}
use Rattle.vx_cell_codec.specs.Columns.{ascend, offsets_at, flags_at, AreOffsets, AreFlags}
use Rattle.vx_cell_codec.specs.Views.{Gives}
use Rattle.vx_cell_codec.proofs.FieldLaws.{IsNumber, reads_number}

-- ---- steps of the loops

pub first_of_many : {A : Type 0} (read : List ℕ → Option (A × List ℕ)) (n : ℕ) (bytes : List ℕ) (x : A) (after : List ℕ) → read bytes ≡ Some (x, after) → with_front (x ∷ []) (many_at read n after) ≡ many_at read (suc n) bytes
unfolding many_at
first_of_many read n bytes x after h = rw h refl

pub no_first : {A : Type 0} (read : List ℕ → Option (A × List ℕ)) (n : ℕ) (bytes : List ℕ) → read bytes ≡ None → many_at read (suc n) bytes ≡ None
unfolding many_at
no_first read n bytes h = rw h refl

pub drop_ascend : (os : List ℕ) (i : ℕ) → i + 1 < length os → ascend (drop i os) ≡ (nat_le (get_or os i 0) (get_or os (i + 1) 0) && ascend (drop (i + 1) os))
drop_ascend os i lt =
    let first : i < length os = omega arith in
    rw (drop_more os i 0 first, drop_more os (i + 1) 0 lt) refl

pub last_ascends : (os : List ℕ) (i : ℕ) → length os ≤ i + 1 → ascend (drop i os) ≡ true
last_ascends [] zero le = refl
last_ascends [] (suc i) le = refl
last_ascends (o ∷ []) zero le = refl
last_ascends (o ∷ p ∷ os) zero le = absurd (omega arith)
last_ascends (o ∷ os) (suc i) le = last_ascends os i (omega arith)

pub ruleset loop_rules = (first_of_many, no_first)

pub ruleset order_rules = (drop_ascend, last_ascends)

-- ---- laws

pub offsets_take : (rows : ℕ) (bytes os : List ℕ) → IsBytes bytes → offsets_at rows bytes ≡ Some os → AreOffsets rows bytes os
unfolding offsets_at
offsets_take rows bytes os fits e =
    let a = bind_some (many_at number_at (suc rows) bytes) (λ offsets. cond (eqb (length offsets.1) 0 && ascend offsets.0) (Some offsets.0) None) os e in
    let g = guard_some (eqb (length a.0.1) 0 && ascend a.0.0) a.0.0 os a.2 in
    let parts = halves (eqb (length a.0.1) 0) (ascend a.0.0) g.0 in
    let known = many_takes number_at u64_bytes IsNumber reads_number (suc rows) bytes a.0 fits a.1 in
    let nothing : a.0.1 ≡ [] = nil_from_length a.0.1 (eqb-true _ _ parts.0) in
    let whole : bytes ≡ joined_by u64_bytes a.0.0 = known.0.parts ∙ ap (λ (r : List ℕ). joined_by u64_bytes a.0.0 ++ r) nothing ∙ append-nil (joined_by u64_bytes a.0.0) in
    subst (AreOffsets rows bytes) g.1 (record { spelled = whole; count = known.1; ascending = parts.1; small = known.2 })

pub offsets_again : (rows : ℕ) (bytes os : List ℕ) → AreOffsets rows bytes os → offsets_at rows bytes ≡ Some os
unfolding offsets_at
offsets_again rows bytes os known =
    let text : List ℕ = joined_by u64_bytes os in
    let read : many_at number_at (length os) text ≡ Some (os, []) = ap (many_at number_at (length os)) (sym (append-nil text)) ∙ many_again number_at u64_bytes IsNumber reads_number os [] known.small in
    rw (known.spelled, ← known.count, read, known.ascending) refl

bits_are : (bs : List Bool) → joined_by bit_byte bs ≡ map bit bs
bits_are [] = refl
bits_are (b ∷ bs) = ap (λ (x : List ℕ). bit b ∷ x) (bits_are bs)

each_any : (bs : List Bool) → Each Any bs
each_any [] = tt
each_any (b ∷ bs) = (tt, each_any bs)

pub flags_take : (rows : ℕ) (bytes : List ℕ) (bs : List Bool) → IsBytes bytes → flags_at rows bytes ≡ Some bs → AreFlags rows bytes bs
unfolding flags_at
flags_take rows bytes bs fits e =
    let a = bind_some (many_at flag_at rows bytes) (λ flags. cond (eqb (length flags.1) 0) (Some flags.0) None) bs e in
    let g = guard_some (eqb (length a.0.1) 0) a.0.0 bs a.2 in
    let known = many_takes flag_at bit_byte Any reads_flag rows bytes a.0 fits a.1 in
    let nothing : a.0.1 ≡ [] = nil_from_length a.0.1 (eqb-true _ _ g.0) in
    let whole : bytes ≡ map bit a.0.0 = known.0.parts ∙ ap (λ (r : List ℕ). joined_by bit_byte a.0.0 ++ r) nothing ∙ append-nil (joined_by bit_byte a.0.0) ∙ bits_are a.0.0 in
    subst (AreFlags rows bytes) g.1 (record { spelled = whole; count = known.1 })

pub flags_again : (rows : ℕ) (bytes : List ℕ) (bs : List Bool) → AreFlags rows bytes bs → flags_at rows bytes ≡ Some bs
unfolding flags_at
flags_again rows bytes bs known =
    let read : many_at flag_at (length bs) (map bit bs) ≡ Some (bs, []) = ap (many_at flag_at (length bs)) (sym (bits_are bs) ∙ sym (append-nil (joined_by bit_byte bs))) ∙ many_again flag_at bit_byte Any reads_flag bs [] (each_any bs) in
    rw (known.spelled, ← known.count, read) refl

-- ---- what readers that answer so say

abbrev in_offsets : Vec ℕ → List ℕ
in_offsets v = v.items

abbrev in_flags : Vec Bool → List Bool
in_flags v = v.items

pub offsets_found : (rows : ℕ) (bytes : List ℕ) (r : Result (Vec ℕ) CellError) → IsBytes bytes → Gives in_offsets r (offsets_at rows bytes) → IfOk r (λ v. AreOffsets rows bytes v.items)
offsets_found rows bytes (Ok v) fits e = offsets_take rows bytes v.items fits e
offsets_found rows bytes (Err e) fits h = tt

pub flags_found : (rows : ℕ) (bytes : List ℕ) (r : Result (Vec Bool) CellError) → IsBytes bytes → Gives in_flags r (flags_at rows bytes) → IfOk r (λ v. AreFlags rows bytes v.items)
flags_found rows bytes (Ok v) fits e = flags_take rows bytes v.items fits e
flags_found rows bytes (Err e) fits h = tt
