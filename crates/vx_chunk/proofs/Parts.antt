-- Chunks that are sound, one by one.
use Rattle.std.proofs.Common.{◌≡◌, ℕ, ◌+◌, ◌<◌, ◌&&◌, List, length, get_or, drop, refl}
use Rattle.std.proofs.lemmas.List.{drop_more}
use Rattle.vx_model.specs.ChunkData.{ChunkData, pieces_of, is_sound, are_sound}

-- chunks from place i on, at one more step
pub drop_sound : (ps : List ChunkData) (i : ℕ) (p : ChunkData) → i < length ps → p ≡ get_or ps i p
    → are_sound (pieces_of (drop i ps)) ≡ (is_sound p && are_sound (pieces_of (drop (i + 1) ps)))
drop_sound ps i p lt is = rw (drop_more ps i p lt, ← is) refl

pub ruleset sound_rules = (drop_sound)
