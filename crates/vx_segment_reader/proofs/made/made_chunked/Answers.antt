use Rattle.std.proofs.Common.{◌<◌, ◌^◌, length, refl, rules}
use Rattle.vx_model.specs.ChunkData.{joined_cells, pieces_of}
use Rattle.vx_segment_spec.proofs.PieceTypes.{not_rows}
use Rattle.vx_segment_reader.proofs.made.made_chunked.Goals as goal

pub chunked-requires : goal.chunked-requires
chunked-requires c = rw c.in_ok-clone.ensures.cases c.requires

pub returns-in_default : goal.returns-in_default
returns-in_default c =
    let small : c.args.rows < 2 ^ 64 = search rules in
    rw (not_rows (length (joined_cells (pieces_of c.args.parts.items))) c.args.rows small (λ few. absurd (let h = c.in_default.ensures.fits.1 few in cc))) refl
