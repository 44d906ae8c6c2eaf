-- Steps of the walk that tells that a chunk is whole.
use Rattle.std.proofs.Common.{◌≡◌, ℕ, ◌+◌, ◌<◌, ◌&&◌, List, length, get_or, drop, refl}
use Rattle.std.proofs.lemmas.List.{drop_more}
use Rattle.vx_model.specs.ChunkData.{ChunkData, pieces_of}
use Rattle.vx_layout_spec.specs.Real.{is_real, are_real}
use Rattle.vx_chunk.proofs.Depths.{depth_in}

-- chunks from place i on, at one more step
pub drop_real : (ps : List ChunkData) (i : ℕ) (p : ChunkData) → i < length ps → p ≡ get_or ps i p
    → are_real (pieces_of (drop i ps)) ≡ (is_real p && are_real (pieces_of (drop (i + 1) ps)))
drop_real ps i p lt is = rw (drop_more ps i p lt, ← is) refl

pub ruleset whole_rules = (drop_real, depth_in)
