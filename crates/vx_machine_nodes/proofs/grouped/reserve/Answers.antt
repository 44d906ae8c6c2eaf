use Rattle.std.proofs.Common.{◌+◌, [], ◌∷◌, false, refl, sym, subst, inl, inr}
use Rattle.vx_model.specs.ChunkData.{held}
use Rattle.vx_sink.specs.ContextView.{counted}
use Rattle.vx_regroup.specs.declared.regroup.Regroup.{Regroup}
use Rattle.vx_machine_nodes.specs.Acting.{ListRefused}
use Rattle.vx_machine_node.specs.Regrouped.{weight_in, taken_sizes}
use Rattle.vx_machine_nodes.proofs.GroupNumbers.{far_refuses}
use Rattle.vx_machine_node.proofs.LedgerSteps.{told_same}
use Rattle.vx_machine_nodes.proofs.RefusalSteps.{by_one}
use Rattle.vx_machine_nodes.proofs.grouped.reserve.Goals as goal

pub returns-in-Ok-reserve_buffered_bytes-clause-context : goal.returns-in-Ok-reserve_buffered_bytes-clause-context
returns-in-Ok-reserve_buffered_bytes-clause-context c =
    told_same c.args.ctx.now c.reserve_buffered_bytes.new.self c.reserve_buffered_bytes.ensures.listed c.reserve_buffered_bytes.ensures.allowed c.reserve_buffered_bytes.ensures.marked

pub returns-in-Err-clause-refused : goal.returns-in-Err-clause-refused
returns-in-Err-clause-refused c =
    subst (λ (r : Regroup). ListRefused false ((counted c.args.ctx.now + weight_in r c.args.chunk.now) ∷ taken_sizes r c.args.chunk.now) c.refusal.result) (sym c.in-Buffered.is)
    (by_one (held c.args.chunk.now) ((counted c.args.ctx.now + held c.args.chunk.now) ∷ held c.args.chunk.now ∷ []) c.refusal.result (inr (inl refl))
    (c.refusal.ensures.refused (held c.args.chunk.now ∷ []) (far_refuses (held c.args.chunk.now) c.in-Err.error c.in-Err.ensures.refused)))

pub returns-in-Err-clause-cause : goal.returns-in-Err-clause-cause
returns-in-Err-clause-cause c = c.refusal.ensures.cause (held c.args.chunk.now ∷ []) (far_refuses (held c.args.chunk.now) c.in-Err.error c.in-Err.ensures.refused)
