-- Texts among bytes.
use Rattle.std.proofs.Common.{◌≡◌, ℕ, Bool, true, false, List, Some, None, refl}
use Rattle.std.specs.Str.{IsUtf8, is_utf8}
use Rattle.std.proofs.lemmas.Str.{IsUtf8-from_is_utf8, is_utf8-from_IsUtf8}
use Rattle.vx_cell_codec.specs.Reading.{blob_at, text_at}

not_utf8 : (s : List ℕ) (b : Bool) → is_utf8 s ≡ b → (IsUtf8 s → ⊥) → b ≡ false
not_utf8 s true e h = absurd (h (IsUtf8-from_is_utf8 s e))
not_utf8 s false e h = refl

pub text_refused : (bytes s rest : List ℕ) → blob_at bytes ≡ Some (s, rest) → (IsUtf8 s → ⊥) → text_at bytes ≡ None
unfolding text_at
text_refused bytes s rest e h = rw (e, not_utf8 s (is_utf8 s) refl h) refl

pub text_read : (bytes s rest : List ℕ) → blob_at bytes ≡ Some (s, rest) → IsUtf8 s → text_at bytes ≡ Some (s, rest)
unfolding text_at
text_read bytes s rest e h = rw (e, is_utf8-from_IsUtf8 s h) refl
