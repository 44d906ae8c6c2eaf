-- A text that is UTF-8 passes the test of it.
use Rattle.std.proofs.Common.{◌≡◌, ℕ, true, List}
use Rattle.std.specs.Str.{IsUtf8, is_utf8}
use Rattle.std.proofs.lemmas.Str.{is_utf8-from_IsUtf8}

pub is_text : (s : List ℕ) → IsUtf8 s → is_utf8 s ≡ true
is_text s h = is_utf8-from_IsUtf8 s h

pub ruleset text_rules = (is_text)
