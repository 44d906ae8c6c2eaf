-- What a context tells besides its count.
use Rattle.std.proofs.Common.{◌≡◌, ap}
use Rattle.vx_sink.specs.declared.context.LayoutWriterContext.{LayoutWriterContext}
use Rattle.vx_sink.specs.ContextView.{listed, allowed_in, is_marked}
use Rattle.vx_machine_node.specs.Ledger.{told_by}

pub told_same : (a b : LayoutWriterContext) → listed b ≡ listed a → allowed_in b ≡ allowed_in a → is_marked b ≡ is_marked a → told_by b ≡ told_by a
unfolding told_by
told_same a b l w m = λ j. (l j, (w j, m j))

pub told_listed : (a b : LayoutWriterContext) → told_by b ≡ told_by a → listed b ≡ listed a
unfolding told_by
told_listed a b e = ap (λ p. p.0) e

pub told_allowed : (a b : LayoutWriterContext) → told_by b ≡ told_by a → allowed_in b ≡ allowed_in a
unfolding told_by
told_allowed a b e = ap (λ p. p.1.0) e

pub told_marked : (a b : LayoutWriterContext) → told_by b ≡ told_by a → is_marked b ≡ is_marked a
unfolding told_by
told_marked a b e = ap (λ p. p.1.1) e
