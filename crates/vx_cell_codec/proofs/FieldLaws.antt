-- What is read is spelled so, and what is spelled so is read: flags, strings of bytes, texts.
use Rattle.std.proofs.Common.{◌≡◌, ℕ, ◌^◌, ◌<◌, Bool, true, false, cond, List, [], ◌∷◌, ◌++◌, length, Some, None, refl, sym, ap, subst, ◌∙◌, append_assoc, IsTrue}
use Rattle.std.specs.Str.{is_utf8}
use Rattle.std.proofs.lemmas.Bool.{ltb-true, lt-ltb}
use Rattle.vx_model.specs.Words.{all_by}
use Rattle.vx_model.specs.CellData.{flag_bytes, u64_bytes}
use Rattle.vx_layout_spec.specs.Real.{is_byte, is_length}
use Rattle.vx_byte_reader.specs.Fields.{front_at}
use Rattle.vx_byte_reader.proofs.FieldLaws.{IsBytes, IsBytes-rest, bind_some, guard_some, some_is, both_true, Takes, Takes-then, Takes-none, Reads, front_takes, front_again, reads_flag, reads_u64}
use Rattle.vx_cell_codec.specs.Reading.{number_at, blob_at, text_at, valid_at}

-- without a flag a cell is valid
abbrev pub Flagged : Bool → Bool → Type 0
Flagged true valid = Unit {0}
Flagged false valid = valid ≡ true

pub reads_valid : (n : Bool) → Reads (valid_at n) (flag_bytes n) (Flagged n)
unfolding valid_at
reads_valid true = record { takes = reads_flag.takes; again = reads_flag.again }
reads_valid false = record {
  takes = λ bytes b rest fits e. subst (λ (p : Bool × List ℕ). Takes bytes [] p.1 × (p.0 ≡ true)) (some_is (true, bytes) (b, rest) e) (Takes-none bytes fits, refl);
  again = λ b rest kind. ap (λ (v : Bool). Some (v, rest)) (sym kind);
}

abbrev pub IsNumber : ℕ → Type 0
IsNumber n = n < 2 ^ 64

pub reads_number : Reads number_at u64_bytes IsNumber
reads_number = reads_u64

-- ---- strings of bytes

abbrev pub blob_spelling : List ℕ → List ℕ
blob_spelling s = u64_bytes (length s) ++ s

each_byte : (s : List ℕ) → IsBytes s → IsTrue (all_by is_byte s)
each_byte [] fits = refl
each_byte (b ∷ s) fits = both_true (is_byte b) (all_by is_byte s) (lt-ltb b 256 (fits 0)) (each_byte s (IsBytes-rest b s fits))

-- lengths fit 64 bits
pub record IsBlob (s : List ℕ) : Type 0 where
  pub bytes : IsTrue (all_by is_byte s)
  pub short : IsTrue (is_length (length s))

blob_takes : (bytes s rest : List ℕ) → IsBytes bytes → blob_at bytes ≡ Some (s, rest) → Takes bytes (blob_spelling s) rest × IsBlob s
unfolding blob_at
blob_takes bytes s rest fits e =
    let a = bind_some (number_at bytes) (λ n. front_at n.0 n.1) (s, rest) e in
    let t = reads_number.takes bytes a.0.0 a.0.1 fits a.1 in
    let u = front_takes a.0.0 a.0.1 s rest t.0.rest_bytes a.2 in
    let both = Takes-then bytes (u64_bytes a.0.0) a.0.1 s rest t.0 u.0 in
    let short : length s < 2 ^ 64 = rw u.1 t.1 in
    (subst (λ (k : ℕ). Takes bytes (u64_bytes k ++ s) rest) (sym u.1) both, record { bytes = each_byte s u.2; short = lt-ltb (length s) (2 ^ 64) short })

blob_again : (s rest : List ℕ) → IsTrue (is_length (length s)) → blob_at (blob_spelling s ++ rest) ≡ Some (s, rest)
unfolding blob_at
blob_again s rest short =
    ap blob_at (append_assoc (u64_bytes (length s)) s rest) ∙ rw (reads_number.again (length s) (s ++ rest) (ltb-true (length s) (2 ^ 64) short)) (front_again (length s) s rest refl)

pub reads_blob : Reads blob_at blob_spelling IsBlob
reads_blob = record { takes = blob_takes; again = λ s rest kind. blob_again s rest kind.short }

pub record IsText (s : List ℕ) : Type 0 where
  pub utf8 : IsTrue (is_utf8 s)
  pub short : IsTrue (is_length (length s))

pub reads_text : Reads text_at blob_spelling IsText
unfolding text_at
reads_text = record { takes = takes; again = again }
  where
    takes : (bytes s rest : List ℕ) → IsBytes bytes → text_at bytes ≡ Some (s, rest) → Takes bytes (blob_spelling s) rest × IsText s
    takes bytes s rest fits e =
        let a = bind_some (blob_at bytes) (λ x. cond (is_utf8 x.0) (Some x) None) (s, rest) e in
        let g = guard_some (is_utf8 a.0.0) a.0 (s, rest) a.2 in
        let t = blob_takes bytes a.0.0 a.0.1 fits a.1 in
        subst (λ (p : List ℕ × List ℕ). Takes bytes (blob_spelling p.0) p.1 × IsText p.0) g.1 (t.0, record { utf8 = g.0; short = t.1.short })

    again : (s rest : List ℕ) → IsText s → text_at (blob_spelling s ++ rest) ≡ Some (s, rest)
    again s rest kind = rw (blob_again s rest kind.short, kind.utf8) refl
