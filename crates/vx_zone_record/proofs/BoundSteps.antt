-- Bounds of texts and bytes, by what the code finds.
use Rattle.std.proofs.Common.{◌≡◌, ℕ, suc, ◌+◌, ◌<◌, ◌≤◌, Bool, true, false, List, [], ◌∷◌, ◌++◌, length, get_or, take, refl, sym, ap, ◌∙◌, arith, Option, Some, None}
use Rattle.std.specs.Prelude.{if◌then◌else◌, nat_le, min, encode_utf8, encode_utf8_all}
use Rattle.std.specs.Str.{chars, is_utf8}
use Rattle.std.proofs.lemmas.Bool.Decides.{nat_tests}
use Rattle.std.proofs.lemmas.List.{take_more, take_all, append-nil}
use Rattle.std.proofs.lemmas.Str.{encodes-append, encodes-chars, IsUtf8-from_is_utf8}
use Rattle.vx_model.specs.declared.row_value.Value as values
use Rattle.vx_model.specs.TreeView.{val}
use Rattle.vx_model.specs.ValueData.{null_value, text_value, bytes_value}
use Rattle.vx_zone_spec.specs.Bounds.{front_chars, byte_rises, char_rises, next_char, raised_before, raised_last, bytes_or_null, text_or_null, upper_bound, lower_bound}
use Rattle.vx_zone_record.proofs.ScalarSteps.{val_text}

-- ---- the last of a list

pub raised_stays : (rises : ℕ → Bool) (up : ℕ → ℕ) (xs : List ℕ) (x : ℕ) → rises x ≡ false → raised_last rises up (xs ++ x ∷ []) ≡ raised_last rises up xs
raised_stays rises up [] x h = ap (λ (b : Bool). if b then Some (up x ∷ []) else None) h
raised_stays rises up (y ∷ ys) x h = ap (raised_before rises up y) (raised_stays rises up ys x h)

pub raised_here : (rises : ℕ → Bool) (up : ℕ → ℕ) (xs : List ℕ) (x : ℕ) → rises x ≡ true → raised_last rises up (xs ++ x ∷ []) ≡ Some (xs ++ up x ∷ [])
raised_here rises up [] x h = ap (λ (b : Bool). if b then Some (up x ∷ []) else None) h
raised_here rises up (y ∷ ys) x h = ap (raised_before rises up y) (raised_here rises up ys x h)

-- ---- bytes

full : (b : ℕ) → 255 ≤ b → byte_rises b ≡ false
full b h = grind (arith, nat_tests)

low : (b : ℕ) → b < 255 → byte_rises b ≡ true
low b h = grind (arith, nat_tests)

pub byte_stays : (xs : List ℕ) (i j : ℕ) → i < length xs → j ≡ i + 1 → 255 ≤ get_or xs i 0 → raised_last byte_rises suc (take i xs) ≡ raised_last byte_rises suc (take j xs)
byte_stays xs i j lt e h = rw (e, take_more xs i 0 lt) (sym (raised_stays byte_rises suc (take i xs) (get_or xs i 0) (full (get_or xs i 0) h)))

pub byte_here : (xs : List ℕ) (i j : ℕ) → i < length xs → j ≡ i + 1 → get_or xs i 0 < 255 → raised_last byte_rises suc (take j xs) ≡ Some (take i xs ++ suc (get_or xs i 0) ∷ [])
byte_here xs i j lt e h = rw (e, take_more xs i 0 lt) (raised_here byte_rises suc (take i xs) (get_or xs i 0) (low (get_or xs i 0) h))

-- ---- what the tests choose

at_most : (a b : ℕ) → a ≤ b → nat_le a b ≡ true
at_most a b h = grind (arith, nat_tests)

above : (a b : ℕ) → b < a → nat_le a b ≡ false
above a b h = grind (arith, nat_tests)

pub upper_short_bytes : (n : ℕ) (s : List ℕ) → length s ≤ n → upper_bound n (bytes_value s) ≡ bytes_value s
upper_short_bytes n s h = ap (λ (b : Bool). if b then bytes_value s else bytes_or_null (raised_last byte_rises suc (take n s))) (at_most (length s) n h)

pub upper_bytes_is : (n : ℕ) (s : List ℕ) (o : Option (List ℕ)) → n < length s → raised_last byte_rises suc (take n s) ≡ o → upper_bound n (bytes_value s) ≡ bytes_or_null o
upper_bytes_is n s o h e = ap (λ (b : Bool). if b then bytes_value s else bytes_or_null (raised_last byte_rises suc (take n s))) (above (length s) n h) ∙ ap bytes_or_null e

pub lower_bytes_is : (n k : ℕ) (s : List ℕ) → k ≡ min (length s) n → lower_bound n (bytes_value s) ≡ bytes_value (take k s)
lower_bytes_is n k s e = go (nat_le (length s) n) refl
  where
    go : (b : Bool) → nat_le (length s) n ≡ b → bytes_value (take n s) ≡ bytes_value (take k s)
    go true h = ap bytes_value (take_all n s (le (length s) n h) ∙ sym (take_all k s (short (length s) n k h e)))
      where
        le : (a b : ℕ) → nat_le a b ≡ true → a ≤ b
        le a b h = grind (arith, nat_tests)

        short : (a b c : ℕ) → nat_le a b ≡ true → c ≡ min a b → a ≤ c
        short a b c h e = grind (arith, nat_tests)
    go false h = ap (λ m. bytes_value (take m s)) (same (length s) n k h e)
      where
        same : (a b c : ℕ) → nat_le a b ≡ false → c ≡ min a b → b ≡ c
        same a b c h e = grind (arith, nat_tests)

pub upper_short_text : (n : ℕ) (s : List ℕ) → length s ≤ n → upper_bound n (text_value s) ≡ text_value s
upper_short_text n s h = ap (λ (b : Bool). if b then text_value s else text_or_null (raised_last char_rises next_char (front_chars n (chars s)))) (at_most (length s) n h)

upper_text_is : (n : ℕ) (s : List ℕ) (o : Option (List ℕ)) → n < length s → raised_last char_rises next_char (front_chars n (chars s)) ≡ o → upper_bound n (text_value s) ≡ text_or_null o
upper_text_is n s o h e = ap (λ (b : Bool). if b then text_value s else text_or_null (raised_last char_rises next_char (front_chars n (chars s)))) (above (length s) n h) ∙ ap text_or_null e

pub upper_text_none : (n : ℕ) (s front : List ℕ) → n < length s → chars front ≡ front_chars n (chars s) → raised_last char_rises next_char (chars front) ≡ None → upper_bound n (text_value s) ≡ null_value
upper_text_none n s front h f e = upper_text_is n s None h (ap (raised_last char_rises next_char) (sym f) ∙ e)

pub upper_text_some : (n : ℕ) (s front before : List ℕ) (c : ℕ) → n < length s → chars front ≡ front_chars n (chars s) → is_utf8 before ≡ true
    → raised_last char_rises next_char (chars front) ≡ Some (chars before ++ c ∷ []) → upper_bound n (text_value s) ≡ text_value (before ++ encode_utf8 c)
upper_text_some n s front before c h f u e =
    upper_text_is n s (Some (chars before ++ c ∷ [])) h (ap (raised_last char_rises next_char) (sym f) ∙ e)
    ∙ ap text_value (encodes-append (chars before) (c ∷ []) ∙ ap (λ b. b ++ (encode_utf8 c ++ [])) (encodes-chars before (IsUtf8-from_is_utf8 before u)) ∙ ap (λ t. before ++ t) (append-nil (encode_utf8 c)))

pub lower_short_text : (n : ℕ) (s : List ℕ) → length s ≤ n → lower_bound n (text_value s) ≡ text_value s
lower_short_text n s h = ap (λ (b : Bool). if b then text_value s else text_value (encode_utf8_all (front_chars n (chars s)))) (at_most (length s) n h)

pub lower_text_is : (n : ℕ) (s front : List ℕ) → n < length s → is_utf8 front ≡ true → chars front ≡ front_chars n (chars s) → lower_bound n (text_value s) ≡ text_value front
lower_text_is n s front h u f =
    ap (λ (b : Bool). if b then text_value s else text_value (encode_utf8_all (front_chars n (chars s)))) (above (length s) n h)
    ∙ ap (λ cs. text_value (encode_utf8_all cs)) (sym f) ∙ ap text_value (encodes-chars front (IsUtf8-from_is_utf8 front u))

-- ---- as the code has them

pub upper_text_given : (n : ℕ) (t s front before out : List ℕ) (c d : ℕ) → s ≡ t → n < length s → chars front ≡ front_chars n (chars s) → is_utf8 before ≡ true
    → raised_last char_rises next_char (chars front) ≡ Some (chars before ++ c ∷ []) → d ≡ c → out ≡ before ++ encode_utf8 d → val (values.Utf8 out) ≡ upper_bound n (text_value t)
upper_text_given n t s front before out c d is h f u e k o =
    val_text out ∙ ap text_value (o ∙ ap (λ (z : ℕ). before ++ encode_utf8 z) k) ∙ sym (upper_text_some n s front before c h f u e) ∙ ap (λ (z : List ℕ). upper_bound n (text_value z)) is

pub lower_text_given : (n : ℕ) (t s front out : List ℕ) → s ≡ t → n < length s → is_utf8 front ≡ true → chars front ≡ front_chars n (chars s) → out ≡ front → val (values.Utf8 out) ≡ lower_bound n (text_value t)
lower_text_given n t s front out is h u f o = val_text out ∙ ap text_value o ∙ sym (lower_text_is n s front h u f) ∙ ap (λ (z : List ℕ). lower_bound n (text_value z)) is

pub ruleset bound_rules = (byte_stays, byte_here, upper_short_bytes, upper_bytes_is, lower_bytes_is, upper_short_text, upper_text_none, upper_text_some, lower_short_text, lower_text_is)
