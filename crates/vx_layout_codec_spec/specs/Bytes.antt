-- The bytes of a layout in a context.
use Rattle.std.specs.Prelude.{ℕ, List, Result, Ok, Err}
use Rattle.vx_layout_spec.specs.Refusal.{Refusal}
use Rattle.vx_layout_spec.specs.LayoutTree.{LayoutData}
use Rattle.vx_layout_bytes.specs.Spelled.{spelling}
use Rattle.vx_layout_codec_spec.specs.Permitted.{Checked, and_checked, permitted, built}
use Rattle.vx_layout_codec_spec.specs.NodeOf.{node_in}

abbrev pub unless_refused : {A : Type 0} → Checked → A → Result A Refusal
unless_refused (Ok u) x = Ok x
unless_refused (Err r) x = Err r

-- An id that the context doesn't list, anywhere, comes before a node that can't be built.
abbrev pub bytes_in : List (List ℕ) → LayoutData ℕ → Result (List ℕ) Refusal
bytes_in ids l = unless_refused (and_checked (permitted ids l) (built l)) (spelling (node_in ids l))
