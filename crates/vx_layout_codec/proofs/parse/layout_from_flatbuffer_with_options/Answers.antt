use Rattle.vx_model.specs.TyView.{ty}
use Rattle.vx_session.specs.Views.{scope_in}
use Rattle.vx_layout_tree.specs.LayoutView.{layout_data}
use Rattle.vx_layout_tree.specs.Views.{Gives}
use Rattle.vx_layout_codec_spec.specs.Parsed.{parsed}
use Rattle.vx_layout_codec.proofs.AnswerSteps.{answer_again, answer_within, answer_only}
use Rattle.vx_layout_codec.proofs.parse.layout_from_flatbuffer_with_options.Goals as goal

pub returns-clause-within : goal.returns-clause-within
returns-clause-within c =
    let given : Gives layout_data c.read_in.result (parsed (scope_in c.args.layout_ctx.now c.args.ctx.now c.args.session.now c.args.allow_unknown) (ty c.args.dtype.now) c.args.limits.depth c.args.limits.nodes c.args.flatbuffer) = rw (← c.in_ok-scope.ensures) c.read_in.ensures.exact in
    answer_within (scope_in c.args.layout_ctx.now c.args.ctx.now c.args.session.now c.args.allow_unknown) (ty c.args.dtype.now) c.args.limits.depth c.args.limits.nodes c.args.flatbuffer c.read_in.result c.read_in.ensures.octets given

pub returns-clause-again : goal.returns-clause-again
returns-clause-again c =
    let given : Gives layout_data c.read_in.result (parsed (scope_in c.args.layout_ctx.now c.args.ctx.now c.args.session.now c.args.allow_unknown) (ty c.args.dtype.now) c.args.limits.depth c.args.limits.nodes c.args.flatbuffer) = rw (← c.in_ok-scope.ensures) c.read_in.ensures.exact in
    answer_again (scope_in c.args.layout_ctx.now c.args.ctx.now c.args.session.now c.args.allow_unknown) (ty c.args.dtype.now) c.args.limits.depth c.args.limits.nodes c.args.flatbuffer c.read_in.result c.ids.ensures.few c.read_in.ensures.octets given

pub returns-clause-only : goal.returns-clause-only
returns-clause-only c =
    let given : Gives layout_data c.read_in.result (parsed (scope_in c.args.layout_ctx.now c.args.ctx.now c.args.session.now c.args.allow_unknown) (ty c.args.dtype.now) c.args.limits.depth c.args.limits.nodes c.args.flatbuffer) = rw (← c.in_ok-scope.ensures) c.read_in.ensures.exact in
    answer_only (scope_in c.args.layout_ctx.now c.args.ctx.now c.args.session.now c.args.allow_unknown) (ty c.args.dtype.now) c.args.limits.depth c.args.limits.nodes c.args.flatbuffer c.read_in.result given
