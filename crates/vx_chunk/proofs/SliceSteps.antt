-- Slices, part by part.
use Rattle.std.proofs.Common.{◌≡◌, ◌-◌, List, refl, ap, ◌∙◌, append_assoc}
use Rattle.std.proofs.lemmas.List.{append-nil}
use Rattle.vx_model.specs.ChunkData.{ChunkData, ChunkList, pieces_of, pieces_in, no_pieces, part}
use Rattle.vx_chunk.proofs.Depths.{depth_in}
use Rattle.vx_chunk_cells.proofs.Windows.{window-map}

pub pieces_of-pieces_in : (ps : ChunkList) → pieces_of (pieces_in ps) ≡ ps
pieces_of-pieces_in no_pieces = refl
pieces_of-pieces_in (part p ps) = ap (part p) (pieces_of-pieces_in ps)

pub all_kept : (kept : List ChunkData) (ps : ChunkList) → kept ≡ pieces_in ps → pieces_of kept ≡ ps
all_kept kept ps e = ap pieces_of e ∙ pieces_of-pieces_in ps

pub ruleset slice_rules = (append_assoc, append-nil, window-map, depth_in)
