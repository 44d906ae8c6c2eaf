-- Texts in the order of their bytes are in the order of their characters, as far as bounds need it.
use Rattle.std.proofs.Common.{◌≡◌, ◌≢◌, ℕ, zero, suc, ◌+◌, ◌-◌, ◌*◌, ◌/◌, ◌%◌, ◌<◌, ◌≤◌, ◌⊎◌, ◌&&◌, Bool, true, false, cond, not, ltb, eqb, List, [], ◌∷◌, ◌++◌, length, take, Option, Some, None, refl, sym, ap, ap₂, ◌∙◌, subst, inl, inr, ⊎_elim, arith, append_assoc}
use Rattle.std.specs.Prelude.{if◌then◌else◌, nat_le, nat_lt, nat_eq}
use Rattle.std.specs.Char.{encode_utf8}
use Rattle.std.specs.Str.{encode_utf8_all}
use Rattle.std.proofs.lemmas.Bool.{cases_Bool, cases_lt, lt-ltb}
use Rattle.std.proofs.lemmas.Bool.Decides.{nat_tests}
use Rattle.std.proofs.lemmas.List.{take-append-drop}
use Rattle.std.proofs.lemmas.Str.{encodes-append}
use Rattle.vx_path.specs.Path.{path_le, path_lt}
use Rattle.vx_path.proofs.Path.{lt_le, begins_le, begins-append}
use Rattle.vx_zone_spec.specs.Bounds.{front_chars, byte_rises, char_rises, next_char, raised_before, raised_last}

-- ---- lists of bytes

lt_less : (i j : ℕ) (b : Bool) → j < i → not (cond (nat_eq i j) b (nat_lt i j)) ≡ true
lt_less i j b h = grind (arith, nat_tests)

lt_same : (i : ℕ) (b : Bool) → not b ≡ true → not (cond (nat_eq i i) b (nat_lt i i)) ≡ true
lt_same i b h = grind (arith, nat_tests)

-- below at the first byte, or the same there and below behind it
pub lt_at : (a b : ℕ) (p q : List ℕ) → (a < b) ⊎ ((a ≡ b) × (path_lt p q ≡ true)) → path_lt (a ∷ p) (b ∷ q) ≡ true
lt_at a b p q (inl h) = lt_less b a (path_le q p) h
lt_at a b p q (inr h) = subst (λ z. path_lt (a ∷ p) (z ∷ q) ≡ true) h.0 (lt_same a (path_le q p) h.1)

pub lt_behind : (p x y : List ℕ) → path_lt x y ≡ true → path_lt (p ++ x) (p ++ y) ≡ true
lt_behind [] x y h = h
lt_behind (a ∷ p) x y h = lt_same a (path_le (p ++ y) (p ++ x)) (lt_behind p x y h)

-- ---- a character and the next

ltb_true : (a b : ℕ) → a < b → ltb a b ≡ true
ltb_true a b h = lt-ltb a b h

ltb_false : (a b : ℕ) → b ≤ a → ltb a b ≡ false
ltb_false a b h = grind (arith, nat_tests)

pub one_byte : (c : ℕ) → c < 128 → encode_utf8 c ≡ c ∷ []
unfolding encode_utf8
one_byte c h = rw (ltb_true c 128 h) refl

pub two_bytes : (c : ℕ) → 128 ≤ c → c < 2048 → encode_utf8 c ≡ (192 + c / 64) ∷ (128 + c % 64) ∷ []
unfolding encode_utf8
two_bytes c l h = rw (ltb_false c 128 l, ltb_true c 2048 h) refl

pub three_bytes : (c : ℕ) → 2048 ≤ c → c < 65536 → encode_utf8 c ≡ (224 + c / 4096) ∷ (128 + c / 64 % 64) ∷ (128 + c % 64) ∷ []
unfolding encode_utf8
three_bytes c l h = rw (ltb_false c 128 (omega arith), ltb_false c 2048 l, ltb_true c 65536 h) refl

pub four_bytes : (c : ℕ) → 65536 ≤ c → encode_utf8 c ≡ (240 + c / 262144) ∷ (128 + c / 4096 % 64) ∷ (128 + c / 64 % 64) ∷ (128 + c % 64) ∷ []
unfolding encode_utf8
four_bytes c l = rw (ltb_false c 128 (omega arith), ltb_false c 2048 (omega arith), ltb_false c 65536 l) refl

-- the bytes of c, and then others, are below those of d, and then others
Below : ℕ → ℕ → Type 0
Below c d = (x y : List ℕ) → path_lt (encode_utf8 c ++ x) (encode_utf8 d ++ y) ≡ true

below_by : (c d : ℕ) (p q : List ℕ) → encode_utf8 c ≡ p → encode_utf8 d ≡ q → ((x y : List ℕ) → path_lt (p ++ x) (q ++ y) ≡ true) → Below c d
unfolding Below
below_by c d p q e f h x y = subst (λ z. path_lt (z ++ x) (encode_utf8 d ++ y) ≡ true) (sym e) (subst (λ z. path_lt (p ++ x) (z ++ y) ≡ true) (sym f) (h x y))

one_one : (c : ℕ) → suc c < 128 → Below c (suc c)
one_one c h = below_by c (suc c) (c ∷ []) (suc c ∷ []) (one_byte c (omega arith)) (one_byte (suc c) h) (λ x y. lt_at c (suc c) x y (inl (omega arith)))

one_two : Below 127 128
one_two = below_by 127 128 (127 ∷ []) (194 ∷ 128 ∷ []) (one_byte 127 (omega arith)) (two_bytes 128 (omega arith) (omega arith)) (λ x y. lt_at 127 194 x (128 ∷ y) (inl (omega arith)))

two_two : (c : ℕ) → 128 ≤ c → suc c < 2048 → Below c (suc c)
two_two c l h = below_by c (suc c) ((192 + c / 64) ∷ (128 + c % 64) ∷ []) ((192 + suc c / 64) ∷ (128 + suc c % 64) ∷ []) (two_bytes c l (omega arith)) (two_bytes (suc c) (omega arith) h)
    (λ x y. lt_at (192 + c / 64) (192 + suc c / 64) ((128 + c % 64) ∷ x) ((128 + suc c % 64) ∷ y)
    (elim (cases_lt (c % 64) 63) [
      | inl low ↦ inr (let e : 192 + c / 64 ≡ 192 + suc c / 64 = omega arith in e, lt_at (128 + c % 64) (128 + suc c % 64) x y (inl (omega arith)))
      | inr high ↦ inl (omega arith)
    ]))

two_three : Below 2047 2048
two_three = below_by 2047 2048 (223 ∷ 191 ∷ []) (224 ∷ 160 ∷ 128 ∷ []) (two_bytes 2047 (omega arith) (omega arith)) (three_bytes 2048 (omega arith) (omega arith)) (λ x y. lt_at 223 224 (191 ∷ x) (160 ∷ 128 ∷ y) (inl (omega arith)))

three_three : (c : ℕ) → 2048 ≤ c → suc c < 65536 → Below c (suc c)
three_three c l h = below_by c (suc c) ((224 + c / 4096) ∷ (128 + c / 64 % 64) ∷ (128 + c % 64) ∷ []) ((224 + suc c / 4096) ∷ (128 + suc c / 64 % 64) ∷ (128 + suc c % 64) ∷ [])
    (three_bytes c l (omega arith)) (three_bytes (suc c) (omega arith) h)
    (λ x y. lt_at (224 + c / 4096) (224 + suc c / 4096) ((128 + c / 64 % 64) ∷ (128 + c % 64) ∷ x) ((128 + suc c / 64 % 64) ∷ (128 + suc c % 64) ∷ y)
    (elim (cases_lt (c % 64) 63) [
      | inl low ↦
          inr (
            let e : 224 + c / 4096 ≡ 224 + suc c / 4096 = omega arith in e,
            lt_at (128 + c / 64 % 64) (128 + suc c / 64 % 64) ((128 + c % 64) ∷ x) ((128 + suc c % 64) ∷ y)
                (inr (let e : 128 + c / 64 % 64 ≡ 128 + suc c / 64 % 64 = omega arith in e, lt_at (128 + c % 64) (128 + suc c % 64) x y (inl (omega arith)))),
          )
      | inr high ↦ elim (cases_lt (c / 64 % 64) 63) [
        | inl low ↦
            inr (
              let e : 224 + c / 4096 ≡ 224 + suc c / 4096 = omega arith in e,
              lt_at (128 + c / 64 % 64) (128 + suc c / 64 % 64) ((128 + c % 64) ∷ x) ((128 + suc c % 64) ∷ y) (inl (omega arith)),
            )
        | inr higher ↦ inl (omega arith)
      ]
    ]))

three_four : Below 65535 65536
three_four = below_by 65535 65536 (239 ∷ 191 ∷ 191 ∷ []) (240 ∷ 144 ∷ 128 ∷ 128 ∷ []) (three_bytes 65535 (omega arith) (omega arith)) (four_bytes 65536 (omega arith))
    (λ x y. lt_at 239 240 (191 ∷ 191 ∷ x) (144 ∷ 128 ∷ 128 ∷ y) (inl (omega arith)))

surrogates : Below 55295 57344
surrogates = below_by 55295 57344 (237 ∷ 159 ∷ 191 ∷ []) (238 ∷ 128 ∷ 128 ∷ []) (three_bytes 55295 (omega arith) (omega arith)) (three_bytes 57344 (omega arith) (omega arith))
    (λ x y. lt_at 237 238 (159 ∷ 191 ∷ x) (128 ∷ 128 ∷ y) (inl (omega arith)))

four_four : (c : ℕ) → 65536 ≤ c → Below c (suc c)
four_four c l = below_by c (suc c) ((240 + c / 262144) ∷ (128 + c / 4096 % 64) ∷ (128 + c / 64 % 64) ∷ (128 + c % 64) ∷ []) ((240 + suc c / 262144) ∷ (128 + suc c / 4096 % 64) ∷ (128 + suc c / 64 % 64) ∷ (128 + suc c % 64) ∷ [])
    (four_bytes c l) (four_bytes (suc c) (omega arith))
    (λ x y. lt_at (240 + c / 262144) (240 + suc c / 262144) ((128 + c / 4096 % 64) ∷ (128 + c / 64 % 64) ∷ (128 + c % 64) ∷ x) ((128 + suc c / 4096 % 64) ∷ (128 + suc c / 64 % 64) ∷ (128 + suc c % 64) ∷ y)
    (elim (cases_lt (c % 64) 63) [
      | inl low ↦
          inr (
            let e : 240 + c / 262144 ≡ 240 + suc c / 262144 = omega arith in e,
            lt_at (128 + c / 4096 % 64) (128 + suc c / 4096 % 64) ((128 + c / 64 % 64) ∷ (128 + c % 64) ∷ x) ((128 + suc c / 64 % 64) ∷ (128 + suc c % 64) ∷ y)
                (inr (
                  let e : 128 + c / 4096 % 64 ≡ 128 + suc c / 4096 % 64 = omega arith in e,
                  lt_at (128 + c / 64 % 64) (128 + suc c / 64 % 64) ((128 + c % 64) ∷ x) ((128 + suc c % 64) ∷ y)
                      (inr (let e : 128 + c / 64 % 64 ≡ 128 + suc c / 64 % 64 = omega arith in e, lt_at (128 + c % 64) (128 + suc c % 64) x y (inl (omega arith)))),
                )),
          )
      | inr high ↦ elim (cases_lt (c / 64 % 64) 63) [
        | inl low ↦
            inr (
              let e : 240 + c / 262144 ≡ 240 + suc c / 262144 = omega arith in e,
              lt_at (128 + c / 4096 % 64) (128 + suc c / 4096 % 64) ((128 + c / 64 % 64) ∷ (128 + c % 64) ∷ x) ((128 + suc c / 64 % 64) ∷ (128 + suc c % 64) ∷ y)
                  (inr (
                    let e : 128 + c / 4096 % 64 ≡ 128 + suc c / 4096 % 64 = omega arith in e,
                    lt_at (128 + c / 64 % 64) (128 + suc c / 64 % 64) ((128 + c % 64) ∷ x) ((128 + suc c % 64) ∷ y) (inl (omega arith)),
                  )),
            )
        | inr higher ↦ elim (cases_lt (c / 4096 % 64) 63) [
          | inl low ↦
              inr (
                let e : 240 + c / 262144 ≡ 240 + suc c / 262144 = omega arith in e,
                lt_at (128 + c / 4096 % 64) (128 + suc c / 4096 % 64) ((128 + c / 64 % 64) ∷ (128 + c % 64) ∷ x) ((128 + suc c / 64 % 64) ∷ (128 + suc c % 64) ∷ y) (inl (omega arith)),
              )
          | inr highest ↦ inl (omega arith)
        ]
      ]
    ]))

pub plain_next : (c : ℕ) → c ≢ 55295 → next_char c ≡ suc c
plain_next c n = ⊎_elim (λ (t : nat_eq c 55295 ≡ true). absurd (n (same c t))) (λ (f : nat_eq c 55295 ≡ false). ap (λ b. if b then 57344 else suc c) f) (cases_Bool (nat_eq c 55295))
  where
    same : (k : ℕ) → nat_eq k 55295 ≡ true → k ≡ 55295
    same k t = grind (arith, nat_tests)

next_below : (c : ℕ) → (c ≡ 55295) ⊎ (c ≢ 55295) → Below c (next_char c)
next_below c (inl e) = subst (λ z. Below z (next_char z)) (sym e) surrogates
next_below c (inr n) = subst (Below c) (sym (plain_next c n))
    (elim (cases_lt (suc c) 128) [
      | inl a ↦ one_one c a
      | inr a ↦ elim (cases_lt (suc c) 129) [
        | inl b ↦ subst (λ z. Below z (suc z)) (let e : 127 ≡ c = omega arith in e) one_two
        | inr b ↦ elim (cases_lt (suc c) 2048) [
          | inl d ↦ two_two c (omega arith) d
          | inr d ↦ elim (cases_lt (suc c) 2049) [
            | inl f ↦ subst (λ z. Below z (suc z)) (let e : 2047 ≡ c = omega arith in e) two_three
            | inr f ↦ elim (cases_lt (suc c) 65536) [
              | inl g ↦ three_three c (omega arith) g
              | inr g ↦ elim (cases_lt (suc c) 65537) [
                | inl h ↦ subst (λ z. Below z (suc z)) (let e : 65535 ≡ c = omega arith in e) three_four
                | inr h ↦ four_four c (omega arith)
              ]
            ]
          ]
        ]
      ]
    ])

is_below : (c d : ℕ) → Below c d → (x y : List ℕ) → path_lt (encode_utf8 c ++ x) (encode_utf8 d ++ y) ≡ true
unfolding Below
is_below c d h x y = h x y

pub eq_or : (c : ℕ) → (c ≡ 55295) ⊎ (c ≢ 55295)
eq_or c = elim (cases_lt c 55295) [
  | inl l ↦ inr (λ e. absurd (omega arith))
  | inr h ↦ elim (cases_lt 55295 c) [
    | inl l ↦ inr (λ e. absurd (omega arith))
    | inr g ↦ inl (omega arith)
  ]
]

-- ---- raised lists are above all that go on from the unraised

raised_bytes : (p r tail : List ℕ) → raised_last byte_rises suc p ≡ Some r → path_lt (p ++ tail) r ≡ true
raised_bytes [] r tail e = cc
raised_bytes (x ∷ p) r tail e = go (raised_last byte_rises suc p) (λ ys f. raised_bytes p ys tail f) e
  where
    here : (b : Bool) → (if b then Some (suc x ∷ []) else None) ≡ Some r → path_lt (x ∷ p ++ tail) r ≡ true
    here false h = cc
    here true h = let same : suc x ∷ [] ≡ r = cc in subst (λ z. path_lt (x ∷ p ++ tail) z ≡ true) same (lt_at x (suc x) (p ++ tail) [] (inl (omega arith)))

    go : (o : Option (List ℕ)) → ((ys : List ℕ) → o ≡ Some ys → path_lt (p ++ tail) ys ≡ true) → raised_before byte_rises suc x o ≡ Some r → path_lt (x ∷ p ++ tail) r ≡ true
    go None f h = here (byte_rises x) h
    go (Some ys) f h = let same : x ∷ ys ≡ r = cc in subst (λ z. path_lt (x ∷ p ++ tail) z ≡ true) same (lt_at x x (p ++ tail) ys (inr (refl, f ys refl)))

raised_chars : (p r tail : List ℕ) → raised_last char_rises next_char p ≡ Some r → path_lt (encode_utf8_all (p ++ tail)) (encode_utf8_all r) ≡ true
raised_chars [] r tail e = cc
raised_chars (x ∷ p) r tail e = go (raised_last char_rises next_char p) (λ ys f. raised_chars p ys tail f) e
  where
    here : (b : Bool) → (if b then Some (next_char x ∷ []) else None) ≡ Some r → path_lt (encode_utf8_all (x ∷ p ++ tail)) (encode_utf8_all r) ≡ true
    here false h = cc
    here true h = let same : next_char x ∷ [] ≡ r = cc in
        subst (λ z. path_lt (encode_utf8_all (x ∷ p ++ tail)) (encode_utf8_all z) ≡ true) same (is_below x (next_char x) (next_below x (eq_or x)) (encode_utf8_all (p ++ tail)) [])

    go : (o : Option (List ℕ)) → ((ys : List ℕ) → o ≡ Some ys → path_lt (encode_utf8_all (p ++ tail)) (encode_utf8_all ys) ≡ true) → raised_before char_rises next_char x o ≡ Some r
        → path_lt (encode_utf8_all (x ∷ p ++ tail)) (encode_utf8_all r) ≡ true
    go None f h = here (char_rises x) h
    go (Some ys) f h = let same : x ∷ ys ≡ r = cc in
        subst (λ z. path_lt (encode_utf8_all (x ∷ p ++ tail)) (encode_utf8_all z) ≡ true) same (lt_behind (encode_utf8 x) (encode_utf8_all (p ++ tail)) (encode_utf8_all ys) (f ys refl))

-- the front of characters, and what follows it
front_whole : (n : ℕ) (cs : List ℕ) → (tail : List ℕ) × (cs ≡ front_chars n cs ++ tail)
front_whole n [] = ([], refl)
front_whole n (c ∷ cs) = go (nat_le (length (encode_utf8 c)) n) (front_whole (n - length (encode_utf8 c)) cs)
  where
    go : (b : Bool) → (tail : List ℕ) × (cs ≡ front_chars (n - length (encode_utf8 c)) cs ++ tail) → (tail : List ℕ) × (c ∷ cs ≡ (if b then c ∷ front_chars (n - length (encode_utf8 c)) cs else []) ++ tail)
    go true r = (r.0, ap (λ z. c ∷ z) r.1)
    go false r = (c ∷ cs, refl)

pub bytes_below : (n : ℕ) (s r : List ℕ) → raised_last byte_rises suc (take n s) ≡ Some r → path_le s r ≡ true
bytes_below n s r e = lt_le s r (subst (λ z. path_lt z r ≡ true) (take-append-drop n s) (raised_bytes (take n s) r (Rattle.std.proofs.Common.drop n s) e))

pub chars_below : (n : ℕ) (cs r : List ℕ) → raised_last char_rises next_char (front_chars n cs) ≡ Some r → path_le (encode_utf8_all cs) (encode_utf8_all r) ≡ true
chars_below n cs r e =
    let w : (tail : List ℕ) × (cs ≡ front_chars n cs ++ tail) = front_whole n cs in
    lt_le (encode_utf8_all cs) (encode_utf8_all r) (subst (λ z. path_lt (encode_utf8_all z) (encode_utf8_all r) ≡ true) (sym w.1) (raised_chars (front_chars n cs) r w.0 e))

pub front_below : (n : ℕ) (cs : List ℕ) → path_le (encode_utf8_all (front_chars n cs)) (encode_utf8_all cs) ≡ true
front_below n cs =
    let w : (tail : List ℕ) × (cs ≡ front_chars n cs ++ tail) = front_whole n cs in
    subst (λ z. path_le (encode_utf8_all (front_chars n cs)) (encode_utf8_all z) ≡ true) (sym w.1)
    (subst (λ z. path_le (encode_utf8_all (front_chars n cs)) z ≡ true) (sym (encodes-append (front_chars n cs) w.0))
    (begins_le (encode_utf8_all (front_chars n cs)) (encode_utf8_all (front_chars n cs) ++ encode_utf8_all w.0) (begins-append (encode_utf8_all (front_chars n cs)) (encode_utf8_all w.0))))

pub take_below : (n : ℕ) (s : List ℕ) → path_le (take n s) s ≡ true
take_below n s = subst (λ z. path_le (take n s) z ≡ true) (take-append-drop n s) (begins_le (take n s) (take n s ++ Rattle.std.proofs.Common.drop n s) (begins-append (take n s) (Rattle.std.proofs.Common.drop n s)))
