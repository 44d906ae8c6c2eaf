-- The kinds of layouts that are built from bytes, by their ids.
use Rattle.std.specs.Prelude.{ℕ, ◌++◌, bytes_eq, Bool, true, false, if◌then◌else◌, List, [], ◌∷◌, codes, Option, Some, None, is_some}
use Rattle.vx_session.specs.declared.encoding.LayoutEncoding.{LayoutEncoding}
use Rattle.vx_session.specs.declared.encoding.LayoutEncoding.TheVariants as kinds

abbrev pub layout_id : LayoutEncoding → List ℕ
layout_id kinds.Flat = codes "vortex.flat"
layout_id kinds.Chunked = codes "vortex.chunked"
layout_id kinds.Struct = codes "vortex.struct"
layout_id kinds.List = codes "vortex.list"
layout_id kinds.Dict = codes "vortex.dict"
layout_id kinds.Zoned = codes "vortex.zoned"
layout_id kinds.LegacyStats = codes "vortex.stats"

abbrev pub all_encodings : List LayoutEncoding
all_encodings = kinds.Flat ∷ kinds.Chunked ∷ kinds.Struct ∷ kinds.List ∷ kinds.Dict ∷ kinds.Zoned ∷ kinds.LegacyStats ∷ []

abbrev pub is_flat : LayoutEncoding → Bool
is_flat kinds.Flat = true
is_flat kinds.Chunked = false
is_flat kinds.Struct = false
is_flat kinds.List = false
is_flat kinds.Dict = false
is_flat kinds.Zoned = false
is_flat kinds.LegacyStats = false

-- the kind that is registered under the id
abbrev pub kind_of : List ℕ → List LayoutEncoding → Option LayoutEncoding
kind_of id [] = None
kind_of id (k ∷ ks) = if bytes_eq (layout_id k) id then Some k else kind_of id ks

-- with the kind registered under its id
abbrev pub with_kind : LayoutEncoding → List LayoutEncoding → List LayoutEncoding
with_kind k ks = if is_some (kind_of (layout_id k) ks) then ks else ks ++ k ∷ []

abbrev pub with_kinds : List LayoutEncoding → List LayoutEncoding → List LayoutEncoding
with_kinds [] ks = ks
with_kinds (j ∷ js) ks = with_kinds js (with_kind j ks)
