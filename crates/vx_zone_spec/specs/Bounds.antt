-- Bounds of texts and bytes, cut to a number of bytes.
use Rattle.std.specs.Prelude.{ℕ, suc, ◌-◌, ◌==◌, nat_lt, nat_le, Bool, not, if◌then◌else◌, List, [], ◌∷◌, length, take, Option, Some, None}
use Rattle.std.specs.Char.{encode_utf8}
use Rattle.std.specs.Str.{chars, encode_utf8_all}
use Rattle.vx_model.specs.ValueData.{ValueData, null_value, text_value, bytes_value}

-- the longest front of characters that take at most n bytes
abbrev pub front_chars : ℕ → List ℕ → List ℕ
front_chars n [] = []
front_chars n (c ∷ cs) = if nat_le (length (encode_utf8 c)) n then c ∷ front_chars (n - length (encode_utf8 c)) cs else []

-- a byte can be raised below 255, a character below U+10FFFF; past the surrogates
abbrev pub byte_rises : ℕ → Bool
byte_rises b = nat_lt b 255

abbrev pub char_rises : ℕ → Bool
char_rises c = not (c == 1114111)

abbrev pub next_char : ℕ → ℕ
next_char c = if c == 55295 then 57344 else suc c

-- the last that can be raised is raised, and what follows it is dropped; nothing where none can
abbrev pub raised_before : (ℕ → Bool) → (ℕ → ℕ) → ℕ → Option (List ℕ) → Option (List ℕ)
raised_before rises up x (Some xs) = Some (x ∷ xs)
raised_before rises up x None = if rises x then Some (up x ∷ []) else None

abbrev pub raised_last : (ℕ → Bool) → (ℕ → ℕ) → List ℕ → Option (List ℕ)
raised_last rises up [] = None
raised_last rises up (x ∷ xs) = raised_before rises up x (raised_last rises up xs)

abbrev pub bytes_or_null : Option (List ℕ) → ValueData
bytes_or_null None = null_value
bytes_or_null (Some s) = bytes_value s

abbrev pub text_or_null : Option (List ℕ) → ValueData
text_or_null None = null_value
text_or_null (Some cs) = text_value (encode_utf8_all cs)

-- at least the value, in about n bytes; null where there is no such bound
abbrev pub upper_bound : ℕ → ValueData → ValueData
upper_bound n (bytes_value s) = if nat_le (length s) n then bytes_value s else bytes_or_null (raised_last byte_rises suc (take n s))
upper_bound n (text_value s) = if nat_le (length s) n then text_value s else text_or_null (raised_last char_rises next_char (front_chars n (chars s)))
upper_bound n v = v

-- at most the value, in at most n bytes
abbrev pub lower_bound : ℕ → ValueData → ValueData
lower_bound n (bytes_value s) = bytes_value (take n s)
lower_bound n (text_value s) = if nat_le (length s) n then text_value s else text_value (encode_utf8_all (front_chars n (chars s)))
lower_bound n v = v
