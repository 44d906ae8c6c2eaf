-- A part is less deep than the parts are.
use Rattle.std.proofs.Common.{◌≡◌, ℕ, zero, suc, ◌+◌, ◌*◌, ◌<◌, ◌≤◌, List, [], ◌∷◌, length, get_or, arith}
use Rattle.vx_model.specs.ChunkData.{ChunkData, pieces_of}
use denote.Param.Weighed.{most}
use Rattle.vx_chunk.specs.declared.node.Chunk.TheDeep.{size-Chunk}
use Rattle.vx_chunk.specs.Depth.{depth, depths}

part_depth : (ps : List ChunkData) (i : ℕ) (d : ChunkData) → i < length ps → depth (get_or ps i d) + 1 ≤ depths (pieces_of ps)
part_depth [] i d lt = absurd (omega arith)
part_depth (p ∷ ps) zero d lt = omega arith
part_depth (p ∷ ps) (suc i) d lt = omega (arith, part_depth ps i d (omega arith))

pub depth_in : (ps : List ChunkData) (i : ℕ) (p : ChunkData) → p ≡ get_or ps i p → i < length ps → depth p + 1 ≤ depths (pieces_of ps)
depth_in ps i p is lt = rw is (part_depth ps i p lt)

pub ruleset depth_rules = (depth_in)

-- ---- chunks that are dropped

most_twice : (ps : List ChunkData) → most size-Chunk ps ≤ 2 * depths (pieces_of ps)
most_twice [] = omega arith
most_twice (p ∷ ps) = let rest : most size-Chunk ps ≤ 2 * depths (pieces_of ps) = most_twice ps in omega (arith, rest)

-- what is dropped of the parts is less than what is left of the drop of all
pub parts_fall : (ps : List ChunkData) (c : ChunkData) (t : ℕ) → depths (pieces_of ps) ≤ depth c → 2 * (depth c + 1) + 0 ≡ t → most size-Chunk ps < t
parts_fall ps c t le is = let twice : most size-Chunk ps ≤ 2 * depths (pieces_of ps) = most_twice ps in omega (arith, twice, le, is)
