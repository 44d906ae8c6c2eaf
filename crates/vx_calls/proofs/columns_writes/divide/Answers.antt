use Rattle.std.proofs.Common.{refl}
use Rattle.vx_write_columns.proofs.OneKind.{one_kind}
use Rattle.vx_calls.proofs.columns_writes.divide.Goals as goal

pub write_columns-written-requires-clause-kind : goal.write_columns-written-requires-clause-kind
write_columns-written-requires-clause-kind g c lifetimes outlive = one_kind (λ c. 0) 0 (λ c. refl) _
