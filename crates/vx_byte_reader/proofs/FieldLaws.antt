-- What is read is spelled so, and what is spelled so is read: flags, numbers, and many of one kind.
use Rattle.std.proofs.Common.{◌≡◌, ℕ, zero, suc, ◌+◌, ◌^◌, ◌<◌, ◌≤◌, Bool, true, false, cond, ltb, List, [], ◌∷◌, ◌++◌, length, get_or, take, drop, Option, Some, None, refl, sym, ap, subst, ◌∙◌, append_assoc, arith, inl, inr, IsTrue}
use Rattle.std.specs.Prelude.{◌&&◌}
use Rattle.std.specs.List.{AllByRecursion}
use Rattle.std.specs.Int.{Width, w8, w16, w32, w64, byte_len, from_le_bytes, to_le_bytes}
use Rattle.std.proofs.lemmas.Bool.{cases_lt, ltb-false, le-ltb}
use Rattle.std.proofs.lemmas.List.{take_at, drop_at, take-append-drop, length-append, length-take, get_or-drop, get_or-take, get_or_past}
use Rattle.std.proofs.lemmas.Nat.{le_bytes_2, le_bytes_4, le_bytes_8, from_le_bytes-to_le_bytes_2, from_le_bytes-to_le_bytes_4, from_le_bytes-to_le_bytes_8}
use Rattle.vx_model.specs.Words.{joined_by}
use Rattle.vx_model.specs.CellData.{bit}
use Rattle.vx_byte_reader.specs.Fields.{◌>>=◌, front_at, byte_at, flag_at, number_at, many_at}

abbrev pub IsBytes : List ℕ → Type 0
IsBytes bytes = (i : ℕ) → get_or bytes i 0 < 256

pub IsBytes-drop : (n : ℕ) (bytes : List ℕ) → IsBytes bytes → IsBytes (drop n bytes)
IsBytes-drop n bytes h i = rw get_or-drop (h (n + i))

pub IsBytes-take : (n : ℕ) (bytes : List ℕ) → IsBytes bytes → IsBytes (take n bytes)
IsBytes-take n bytes h i =
    elim (cases_lt i n) [
      | inl lt ↦ rw (get_or-take n bytes i 0 lt) (h i)
      | inr le ↦ rw (get_or_past (take n bytes) i 0 (omega (arith, length-take n bytes))) (omega arith)
    ]

pub IsBytes-rest : (b : ℕ) (bytes : List ℕ) → IsBytes (b ∷ bytes) → IsBytes bytes
IsBytes-rest b bytes h i = h (suc i)

-- the value of a step that gave one
pub bind_some : {A B : Type 0} (o : Option A) (f : A → Option B) (y : B) → (o >>= f) ≡ Some y → (x : A) × (o ≡ Some x) × (f x ≡ Some y)
bind_some (Some x) f y e = (x, refl, e)
bind_some None f y e = absurd cc

-- a test that was passed
pub guard_some : {A : Type 0} (b : Bool) (x y : A) → cond b (Some x) None ≡ Some y → (b ≡ true) × (x ≡ y)
guard_some true x y e = (refl, cc)
guard_some false x y e = absurd cc

pub guard_none : {A : Type 0} (b : Bool) (x y : A) → cond b None (Some x) ≡ Some y → (b ≡ false) × (x ≡ y)
guard_none true x y e = absurd cc
guard_none false x y e = (refl, cc)

abbrev pub given : {A : Type 0} → A → Option A
given x = Some x

pub some_is : {A : Type 0} (x y : A) → given x ≡ given y → x ≡ y
some_is x y e = cc

pub both_true : (a b : Bool) → IsTrue a → IsTrue b → IsTrue (a && b)
both_true true b h i = i
both_true false b h i = absurd cc

pub halves : (a b : Bool) → IsTrue (a && b) → IsTrue a × IsTrue b
halves true b h = (refl, h)
halves false b h = absurd cc

-- what a reader took from the front
pub record Takes (bytes text rest : List ℕ) : Type 0 where
  pub parts : bytes ≡ text ++ rest
  pub rest_bytes : IsBytes rest

pub Takes-then : (a x b y c : List ℕ) → Takes a x b → Takes b y c → Takes a (x ++ y) c
Takes-then a x b y c p q = record { parts = p.parts ∙ ap (λ (t : List ℕ). x ++ t) q.parts ∙ sym (append_assoc x y c); rest_bytes = q.rest_bytes }

pub Takes-none : (bytes : List ℕ) → IsBytes bytes → Takes bytes [] bytes
Takes-none bytes fits = record { parts = refl; rest_bytes = fits }

-- A reader is the reader of a spelling: what is read is spelled so and is of the kind, and what is of the kind and
-- spelled so is read.
pub record Reads {A : Type 0} (read : List ℕ → Option (A × List ℕ)) (spell : A → List ℕ) (Kind : A → Type 0) : Type 0 where
  pub takes : (bytes : List ℕ) (x : A) (rest : List ℕ) → IsBytes bytes → read bytes ≡ Some (x, rest) → Takes bytes (spell x) rest × Kind x
  pub again : (x : A) (rest : List ℕ) → Kind x → read (spell x ++ rest) ≡ Some (x, rest)

-- ---- the front

pub front_takes : (n : ℕ) (bytes s rest : List ℕ) → IsBytes bytes → front_at n bytes ≡ Some (s, rest) → Takes bytes s rest × (length s ≡ n) × IsBytes s
unfolding front_at
front_takes n bytes s rest fits e =
    let g = guard_none (ltb (length bytes) n) (take n bytes, drop n bytes) (s, rest) e in
    let long : n ≤ length bytes = ltb-false _ _ g.0 in
    let own : length (take n bytes) ≡ n = omega (arith, length-take n bytes) in
    let made : Takes bytes (take n bytes) (drop n bytes) = record { parts = sym (take-append-drop n bytes); rest_bytes = IsBytes-drop n bytes fits } in
    subst (λ (p : List ℕ × List ℕ). Takes bytes p.0 p.1 × (length p.0 ≡ n) × IsBytes p.0) g.1 (made, own, IsBytes-take n bytes fits)

pub front_again : (n : ℕ) (s rest : List ℕ) → length s ≡ n → front_at n (s ++ rest) ≡ Some (s, rest)
unfolding front_at
front_again n s rest len =
    let long : ltb (length (s ++ rest)) n ≡ false = le-ltb _ _ (omega (arith, length-append s rest, len)) in
    rw (long, take_at s rest n len, drop_at s rest n len) refl

-- ---- flags

abbrev pub bit_byte : Bool → List ℕ
bit_byte b = bit b ∷ []

flag_takes : (bytes : List ℕ) (b : Bool) (rest : List ℕ) → IsBytes bytes → flag_at bytes ≡ Some (b, rest) → Takes bytes (bit_byte b) rest
flag_takes [] b rest fits e = absurd cc
flag_takes (zero ∷ xs) b rest fits e =
    subst (λ (p : Bool × List ℕ). Takes (0 ∷ xs) (bit_byte p.0) p.1) (some_is (false, xs) (b, rest) e) (record { parts = refl; rest_bytes = IsBytes-rest 0 xs fits })
flag_takes (suc zero ∷ xs) b rest fits e =
    subst (λ (p : Bool × List ℕ). Takes (1 ∷ xs) (bit_byte p.0) p.1) (some_is (true, xs) (b, rest) e) (record { parts = refl; rest_bytes = IsBytes-rest 1 xs fits })
flag_takes (suc (suc x) ∷ xs) b rest fits e = absurd cc

flag_again : (b : Bool) (rest : List ℕ) → flag_at (bit_byte b ++ rest) ≡ Some (b, rest)
flag_again true rest = refl
flag_again false rest = refl

abbrev pub Any : {A : Type 0} → A → Type 0
Any x = Unit {0}

pub reads_flag : Reads flag_at bit_byte Any
reads_flag = record { takes = λ bytes b rest fits e. (flag_takes bytes b rest fits e, tt); again = λ b rest kind. flag_again b rest }

-- ---- bytes

abbrev pub one_byte : ℕ → List ℕ
one_byte b = b ∷ []

byte_takes : (bytes : List ℕ) (b : ℕ) (rest : List ℕ) → IsBytes bytes → byte_at bytes ≡ Some (b, rest) → Takes bytes (one_byte b) rest
byte_takes [] b rest fits e = absurd cc
byte_takes (x ∷ xs) b rest fits e =
    subst (λ (p : ℕ × List ℕ). Takes (x ∷ xs) (one_byte p.0) p.1) (some_is (x, xs) (b, rest) e) (record { parts = refl; rest_bytes = IsBytes-rest x xs fits })

pub reads_byte : Reads byte_at one_byte Any
reads_byte = record { takes = λ bytes b rest fits e. (byte_takes bytes b rest fits e, tt); again = λ b rest kind. refl }

-- ---- numbers

pub record IsWide (w : Width) (limit : ℕ) : Type 0 where
  pub len : (n : ℕ) → length (to_le_bytes w n) ≡ byte_len w
  pub back : (s : List ℕ) → length s ≡ byte_len w → IsBytes s → to_le_bytes w (from_le_bytes w s) ≡ s
  pub again : (n : ℕ) → n < limit → from_le_bytes w (to_le_bytes w n) ≡ n
  pub below : (s : List ℕ) → IsBytes s → from_le_bytes w s < limit

byte_back : (s : List ℕ) → length s ≡ 1 → IsBytes s → to_le_bytes w8 (from_le_bytes w8 s) ≡ s
byte_back [] e fits = absurd (omega (arith, e))
byte_back (b ∷ []) e fits = ap (λ (x : ℕ). x ∷ []) (omega (arith, fits 0))
byte_back (a ∷ b ∷ s) e fits = absurd (omega (arith, e))

byte_again : (n : ℕ) → n < 2 ^ 8 → from_le_bytes w8 (to_le_bytes w8 n) ≡ n
byte_again n lt = omega (arith, lt)

pub wide8 : IsWide w8 (2 ^ 8)
wide8 = record { len = λ n. refl; back = byte_back; again = byte_again; below = λ s fits. omega (arith, fits 0) }

pub wide16 : IsWide w16 (2 ^ 16)
wide16 = record {
  len = λ n. refl;
  back = λ s len fits. le_bytes_2 s _ len fits refl;
  again = λ n lt. from_le_bytes-to_le_bytes_2 n lt;
  below = λ s fits. omega (arith, fits 0, fits 1);
}

pub wide32 : IsWide w32 (2 ^ 32)
wide32 = record {
  len = λ n. refl;
  back = λ s len fits. le_bytes_4 s _ len fits refl;
  again = λ n lt. from_le_bytes-to_le_bytes_4 n lt;
  below = λ s fits. omega (arith, fits 0, fits 1, fits 2, fits 3);
}

pub wide64 : IsWide w64 (2 ^ 64)
wide64 = record {
  len = λ n. refl;
  back = λ s len fits. le_bytes_8 s _ len fits refl;
  again = λ n lt. from_le_bytes-to_le_bytes_8 n lt;
  below = λ s fits. omega (arith, fits 0, fits 1, fits 2, fits 3, fits 4, fits 5, fits 6, fits 7);
}

reads_wide : (w : Width) (limit : ℕ) → IsWide w limit → Reads (number_at w) (to_le_bytes w) (λ n. n < limit)
unfolding number_at
reads_wide w limit wide = record { takes = takes; again = again }
  where
    takes : (bytes : List ℕ) (n : ℕ) (rest : List ℕ) → IsBytes bytes → number_at w bytes ≡ Some (n, rest) → Takes bytes (to_le_bytes w n) rest × (n < limit)
    takes bytes n rest fits e =
        let a = bind_some (front_at (byte_len w) bytes) (λ front. Some (from_le_bytes w front.0, front.1)) (n, rest) e in
        let t = front_takes (byte_len w) bytes a.0.0 a.0.1 fits a.1 in
        let same : to_le_bytes w (from_le_bytes w a.0.0) ≡ a.0.0 = wide.back a.0.0 t.1 t.2 in
        subst (λ (p : ℕ × List ℕ). Takes bytes (to_le_bytes w p.0) p.1 × (p.0 < limit)) (some_is (from_le_bytes w a.0.0, a.0.1) (n, rest) a.2) (subst (λ (s : List ℕ). Takes bytes s a.0.1) (sym same) t.0, wide.below a.0.0 t.2)

    again : (n : ℕ) (rest : List ℕ) → n < limit → number_at w (to_le_bytes w n ++ rest) ≡ Some (n, rest)
    again n rest lt = rw (front_again (byte_len w) (to_le_bytes w n) rest (wide.len n)) (ap (λ (k : ℕ). Some (k, rest)) (wide.again n lt))

pub reads_u16 : Reads (number_at w16) (to_le_bytes w16) (λ n. n < 2 ^ 16)
reads_u16 = reads_wide w16 (2 ^ 16) wide16

pub reads_u32 : Reads (number_at w32) (to_le_bytes w32) (λ n. n < 2 ^ 32)
reads_u32 = reads_wide w32 (2 ^ 32) wide32

pub reads_u64 : Reads (number_at w64) (to_le_bytes w64) (λ n. n < 2 ^ 64)
reads_u64 = reads_wide w64 (2 ^ 64) wide64

-- ---- many of one kind

abbrev pub Each : {A : Type 0} → (A → Type 0) → List A → Type 0
Each Kind xs = AllByRecursion Kind xs

pub many_takes : {A : Type 0} (read : List ℕ → Option (A × List ℕ)) (spell : A → List ℕ) (Kind : A → Type 0) → Reads read spell Kind
    → (n : ℕ) (bytes : List ℕ) (x : List A × List ℕ) → IsBytes bytes → many_at read n bytes ≡ Some x → Takes bytes (joined_by spell x.0) x.1 × (length x.0 ≡ n) × Each Kind x.0
unfolding many_at
many_takes {A} read spell Kind reads zero bytes x fits e =
    subst (λ (y : List A × List ℕ). Takes bytes (joined_by spell y.0) y.1 × (length y.0 ≡ 0) × Each Kind y.0) (some_is ([], bytes) x e) (Takes-none bytes fits, refl, tt)
many_takes {A} read spell Kind reads (suc n) bytes x fits e =
    let a = bind_some (read bytes) (λ first. many_at read n first.1 >>= λ others. Some (first.0 ∷ others.0, others.1)) x e in
    let b = bind_some (many_at read n a.0.1) (λ others. Some (a.0.0 ∷ others.0, others.1)) x a.2 in
    let first = reads.takes bytes a.0.0 a.0.1 fits a.1 in
    let second = many_takes read spell Kind reads n a.0.1 b.0 first.0.rest_bytes b.1 in
    let both = Takes-then bytes (spell a.0.0) a.0.1 (joined_by spell b.0.0) b.0.1 first.0 second.0 in
    let made : List A × List ℕ = (a.0.0 ∷ b.0.0, b.0.1) in
    subst (λ (y : List A × List ℕ). Takes bytes (joined_by spell y.0) y.1 × (length y.0 ≡ suc n) × Each Kind y.0) (some_is made x b.2) (both, ap suc second.1, (first.1, second.2))

pub many_again : {A : Type 0} (read : List ℕ → Option (A × List ℕ)) (spell : A → List ℕ) (Kind : A → Type 0) → Reads read spell Kind
    → (xs : List A) (rest : List ℕ) → Each Kind xs → many_at read (length xs) (joined_by spell xs ++ rest) ≡ Some (xs, rest)
unfolding many_at
many_again read spell Kind reads [] rest kinds = refl
many_again read spell Kind reads (x ∷ xs) rest kinds =
    ap (many_at read (suc (length xs))) (append_assoc (spell x) (joined_by spell xs) rest) ∙ rw (reads.again x (joined_by spell xs ++ rest) kinds.0, many_again read spell Kind reads xs rest kinds.1) refl
