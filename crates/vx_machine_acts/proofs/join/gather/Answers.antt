use Rattle.std.proofs.Common.{◌≡◌, length, sym, ◌∙◌}
use Rattle.vx_model.specs.TyView.{ty}
use Rattle.vx_machine_acts.proofs.JoinSteps.{gather_one, gather_many}
use Rattle.vx_machine_acts.proofs.join.gather.Goals as goal

pub returns-then-len-eq1-clause-layout : goal.returns-then-len-eq1-clause-layout
returns-then-len-eq1-clause-layout c =
    let h : length c.args.layouts.items ≡ 1 = sym c.args.layouts.ok.0 ∙ sym c.len.ensures ∙ c.if-len-eq1.true in
    gather_one (ty c.args.dtype.now) c.args.layouts.items c.pop.new.self.items c.in-Some.layout c.in-Some.ensures.items h

pub returns-clause-layout : goal.returns-clause-layout
returns-clause-layout c =
    gather_many (ty c.in-Ok.dtype) (ty c.args.dtype.now) c.args.layouts.items c.chunk_all.result c.in-Ok.ensures.cases
    (λ e. c.if-len-eq1.false (c.len.ensures ∙ c.args.layouts.ok.0 ∙ e)) c.chunk_all.ensures.layout
