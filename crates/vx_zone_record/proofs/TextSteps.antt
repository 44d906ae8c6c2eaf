-- Fronts of texts, and their last characters.
use Rattle.std.proofs.Common.{◌≡◌, ◌≢◌, ℕ, ◌+◌, ◌-◌, ◌<◌, ◌≤◌, Bool, true, false, List, [], ◌∷◌, ◌++◌, length, take, drop, refl, sym, subst, ap, ◌∙◌, arith, Some, None, length-append, inl, inr}
use Rattle.std.specs.Prelude.{if◌then◌else◌, nat_le, encode_utf8, encode_utf8_all}
use Rattle.std.specs.Char.{len_utf8}
use Rattle.std.specs.Str.{chars, is_utf8, IsUtf8, IsCharBoundary}
use Rattle.std.proofs.lemmas.Bool.{cases_lt}
use Rattle.std.proofs.lemmas.Bool.Decides.{nat_tests}
use Rattle.std.proofs.lemmas.List.{take-append-drop, append-nil, take_at, drop_at, nil_from_length, length-take-le}
use Rattle.std.proofs.lemmas.Str.{IsUtf8-take, IsUtf8-drop, IsCharBoundary-past_char, IsCharBoundary-from_take, chars-append, chars_past_char, chars-nil, encodes-chars, length-encode, len_utf8_bounds, is_utf8-from_IsUtf8}
use Rattle.vx_zone_spec.specs.Bounds.{front_chars, char_rises, next_char, raised_last}
use Rattle.vx_zone_spec.proofs.TextOrder.{plain_next}
use Rattle.vx_zone_record.proofs.BoundSteps.{raised_stays, raised_here}

-- ---- the longest front

-- the next character has no room
abbrev Stuck : ℕ → List ℕ → Type 0
Stuck n [] = Unit {0}
Stuck n (e ∷ es) = n < length (encode_utf8 e)

fits_in : (a b : ℕ) → a ≤ b → nat_le a b ≡ true
fits_in a b h = grind (arith, nat_tests)

no_room : (a b : ℕ) → b < a → nat_le a b ≡ false
no_room a b h = grind (arith, nat_tests)

front_stops : (n : ℕ) (ds es : List ℕ) → length (encode_utf8_all ds) ≤ n → Stuck (n - length (encode_utf8_all ds)) es → front_chars n (ds ++ es) ≡ ds
front_stops n [] [] h s = refl
front_stops n [] (e ∷ es) h s =
    let far : n - 0 < length (encode_utf8 e) = s in
    ap (λ (b : Bool). if b then e ∷ front_chars (n - length (encode_utf8 e)) es else []) (no_room (length (encode_utf8 e)) n (omega arith))
front_stops n (d ∷ ds) es h s =
    let l : length (encode_utf8 d ++ encode_utf8_all ds) ≡ length (encode_utf8 d) + length (encode_utf8_all ds) = length-append (encode_utf8 d) (encode_utf8_all ds) in
    let k : n - length (encode_utf8 d ++ encode_utf8_all ds) ≡ (n - length (encode_utf8 d)) - length (encode_utf8_all ds) = omega arith in
    ap (λ (b : Bool). if b then d ∷ front_chars (n - length (encode_utf8 d)) (ds ++ es) else []) (fits_in (length (encode_utf8 d)) n (omega arith))
    ∙ ap (λ cs. d ∷ cs) (front_stops (n - length (encode_utf8 d)) ds es (omega arith) (subst (λ m. Stuck m es) k s))

-- the text up to a boundary, where no later one is near enough
pub front_is : (s front : List ℕ) (n k : ℕ) → IsUtf8 s → IsCharBoundary s k → k ≤ n → ((i : ℕ) → k < i → i ≤ n → ¬ IsCharBoundary s i) → front ≡ take k s → chars front ≡ front_chars n (chars s)
front_is s front n k u b le none e =
    ap chars e ∙ sym (ap (front_chars n) whole ∙ front_stops n (chars (take k s)) (chars (drop k s)) room (stuck (chars (drop k s)) refl))
  where
    before : IsUtf8 (take k s)
    before = IsUtf8-take s k u b

    behind : IsUtf8 (drop k s)
    behind = IsUtf8-drop s k u b

    whole : chars s ≡ chars (take k s) ++ chars (drop k s)
    whole = ap chars (sym (take-append-drop k s)) ∙ chars-append (take k s) (drop k s) before

    long : length (encode_utf8_all (chars (take k s))) ≡ k
    long = let l : length (take k s) ≡ k = length-take-le k s b.0 in ap length (encodes-chars (take k s) before) ∙ l

    room : length (encode_utf8_all (chars (take k s))) ≤ n
    room = let l : length (encode_utf8_all (chars (take k s))) ≡ k = long in omega arith

    stuck : (es : List ℕ) → chars (drop k s) ≡ es → Stuck (n - length (encode_utf8_all (chars (take k s)))) es
    stuck [] f = tt
    stuck (c ∷ es) f =
        let rest : drop k s ≡ encode_utf8 c ++ encode_utf8_all es = sym (encodes-chars (drop k s) behind) ∙ ap encode_utf8_all f in
        let next : IsCharBoundary s (k + len_utf8 c) = IsCharBoundary-past_char s (encode_utf8_all es) k c b.0 behind rest in
        let some : (1 ≤ len_utf8 c) × (len_utf8 c ≤ 4) = len_utf8_bounds c in
        let size : length (encode_utf8 c) ≡ len_utf8 c = length-encode c in
        let l : length (encode_utf8_all (chars (take k s))) ≡ k = long in
        elim (cases_lt n (k + len_utf8 c)) [ inl past ↦ omega arith | inr near ↦ absurd (none (k + len_utf8 c) (omega arith) near next) ]

-- ---- the last character

pub chars_push : (s xs : List ℕ) (c : ℕ) → IsUtf8 s → IsUtf8 xs → s ≡ xs ++ encode_utf8 c → chars s ≡ chars xs ++ c ∷ []
chars_push s xs c u v e =
    ap chars e ∙ chars_append_of xs (encode_utf8 c) v ∙ ap (λ cs. chars xs ++ cs) (chars_past_char (encode_utf8 c) [] c behind (sym (append-nil (encode_utf8 c))) ∙ ap (λ cs. c ∷ cs) chars-nil)
  where
    chars_append_of : (ys zs : List ℕ) → IsUtf8 ys → chars (ys ++ zs) ≡ chars ys ++ chars zs
    chars_append_of = chars-append

    front : take (length xs) s ≡ xs
    front = ap (take (length xs)) e ∙ take_at xs (encode_utf8 c) (length xs) refl

    seam : IsCharBoundary s (length xs)
    seam =
        let l : length s ≡ length xs + length (encode_utf8 c) = ap length e ∙ length-append xs (encode_utf8 c) in
        IsCharBoundary-from_take s (length xs) u (omega arith) (subst IsUtf8 (sym front) v)

    behind : IsUtf8 (encode_utf8 c)
    behind = subst IsUtf8 (ap (drop (length xs)) e ∙ drop_at xs (encode_utf8 c) (length xs) refl) (IsUtf8-drop s (length xs) u seam)

-- a step back over a character that can't be raised, and over one that can
pub char_stays : (s t xs : List ℕ) (c : ℕ) → IsUtf8 s → IsUtf8 xs → s ≡ xs ++ encode_utf8 c → c ≡ 1114111 → raised_last char_rises next_char (chars s) ≡ raised_last char_rises next_char (chars t)
    → raised_last char_rises next_char (chars xs) ≡ raised_last char_rises next_char (chars t)
char_stays s t xs c u v e m h =
    sym (raised_stays char_rises next_char (chars xs) c (ap char_rises m)) ∙ ap (raised_last char_rises next_char) (sym (chars_push s xs c u v e)) ∙ h

pub rises_is : (c : ℕ) → c ≢ 1114111 → char_rises c ≡ true
rises_is c h = grind (arith, nat_tests)

pub char_here : (s t xs : List ℕ) (c : ℕ) → IsUtf8 s → IsUtf8 xs → s ≡ xs ++ encode_utf8 c → c ≢ 1114111 → raised_last char_rises next_char (chars s) ≡ raised_last char_rises next_char (chars t)
    → raised_last char_rises next_char (chars t) ≡ Some (chars xs ++ next_char c ∷ [])
char_here s t xs c u v e n h = sym h ∙ ap (raised_last char_rises next_char) (chars_push s xs c u v e) ∙ raised_here char_rises next_char (chars xs) c (rises_is c n)

pub no_chars : (s t : List ℕ) → length s ≡ 0 → raised_last char_rises next_char (chars s) ≡ raised_last char_rises next_char (chars t) → raised_last char_rises next_char (chars t) ≡ None
no_chars s t e h = sym h ∙ ap (λ z. raised_last char_rises next_char (chars z)) (nil_from_length s e) ∙ ap (raised_last char_rises next_char) chars-nil

-- ---- the next character

-- behind the surrogates
pub next_gap : (c : ℕ) → c ≡ 55295 → next_char c ≡ 57344
next_gap c e = ap next_char e

pub ruleset next_rules = (plain_next, next_gap)

pub front_utf8 : (s front : List ℕ) (k : ℕ) → IsUtf8 s → IsCharBoundary s k → front ≡ take k s → is_utf8 front ≡ true
front_utf8 s front k u b e = ap is_utf8 e ∙ is_utf8-from_IsUtf8 (take k s) (IsUtf8-take s k u b)

pub shorter : (s xs : List ℕ) (c : ℕ) → s ≡ xs ++ encode_utf8 c → length xs < length s
shorter s xs c e =
    let l : length s ≡ length xs + length (encode_utf8 c) = ap length e ∙ length-append xs (encode_utf8 c) in
    let some : (1 ≤ len_utf8 c) × (len_utf8 c ≤ 4) = len_utf8_bounds c in
    let size : length (encode_utf8 c) ≡ len_utf8 c = length-encode c in
    omega arith

pub utf8_test : (s : List ℕ) → IsUtf8 s → is_utf8 s ≡ true
utf8_test s u = is_utf8-from_IsUtf8 s u

pub ruleset front_rules = (front_is, front_utf8)

pub ruleset rising_rules = (char_stays, char_here, no_chars, rises_is, shorter, utf8_test)
