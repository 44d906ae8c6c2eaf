use Rattle.std.proofs.Common.{◌≡◌, length}
use Rattle.std.proofs.lemmas.Result.{IfOk-weaker, IfErr-weaker}
use Rattle.vx_model.specs.TyView.{ty}
use Rattle.vx_model.specs.ChunkData.{ChunkData, chunked_piece, pieces_of, cells, joined_cells}
use Rattle.vx_chunk.specs.Conditions.{IsPast, IsTooLarge}
use Rattle.vx_chunk.proofs.ConcatSteps.{flat_typed, flat_cells, past_is_too_large}
use Rattle.vx_chunk.proofs.node.Chunk.concat.Goals as goal

pub chunked-requires : goal.chunked-requires
chunked-requires c = rw (c.in_ok-flat.ensures) (flat_typed (ty c.args.dtype) c.args.parts.items c.requires (rw c.deref.ensures.value at c.all_sound.ensures))

pub returns-clause-cells : goal.returns-clause-cells
returns-clause-cells c =
    IfOk-weaker c.chunked.result (λ (p : ChunkData). p ≡ chunked_piece (ty c.args.dtype) (pieces_of c.in_ok-flat.flat.items)) (λ (p : ChunkData). cells p ≡ joined_cells (pieces_of c.args.parts.items))
    (λ p e. rw (e, c.in_ok-flat.ensures) (flat_cells c.args.parts.items)) c.chunked.ensures.ok

pub returns-clause-refused : goal.returns-clause-refused
returns-clause-refused c =
    let n = length (joined_cells (pieces_of c.args.parts.items)) in
    IfErr-weaker c.chunked.result (IsPast n) (IsTooLarge n) (past_is_too_large n) (rw (c.in_ok-flat.ensures, flat_cells c.args.parts.items) at c.chunked.ensures.refused)
