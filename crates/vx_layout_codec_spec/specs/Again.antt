-- What bytes are built into is spelled as these bytes, and what is spelled is built again.
use Rattle.std.specs.Prelude.{◌≡◌, ℕ, true, List, Ok}
use Rattle.vx_model.specs.Ty.{Ty}
use Rattle.vx_layout_spec.specs.LayoutTree.{LayoutData, layout_type}
use Rattle.vx_layout_bytes.specs.Values.{AreBytes, IsWithin}
use Rattle.vx_session.specs.Ids.{are_distinct}
use Rattle.vx_session.specs.Scope.{Scope}
use Rattle.vx_layout_codec_spec.specs.Permitted.{built}
use Rattle.vx_layout_codec_spec.specs.NodeOf.{node_in}
use Rattle.vx_layout_codec_spec.specs.Bytes.{bytes_in}
use Rattle.vx_layout_codec_spec.specs.Parsed.{parsed}
use Rattle.vx_layout_codec_spec.specs.Sound.{Sound}

abbrev pub ParsedIsSpelled : Type 0
ParsedIsSpelled = (s : Scope) (t : Ty) (deep nodes : ℕ) (bytes : List ℕ) (l : LayoutData ℕ) → are_distinct s.ids ≡ true → AreBytes bytes
    → parsed s t deep nodes bytes ≡ Ok l → built l ≡ Ok tt → bytes_in s.ids l ≡ Ok bytes

-- In a scope that knows its kinds and its aggregates, and within limits.
abbrev pub SpelledIsParsed : Type 0
SpelledIsParsed = (s : Scope) (deep nodes : ℕ) (l : LayoutData ℕ) (bytes : List ℕ) → Sound s l → IsWithin deep nodes (node_in s.ids l) → bytes_in s.ids l ≡ Ok bytes
    → parsed s (layout_type l) deep nodes bytes ≡ Ok l
