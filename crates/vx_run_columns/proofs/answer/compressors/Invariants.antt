use Rattle.std.proofs.Common.{◌≡◌, ◌+◌, vec_len, All, IsTrue}
use Rattle.vx_fault.specs.Fails.{fails_at}
use Rattle.vx_run_columns.specs.Compressors.{FailsBy}
use Rattle.vx_run_columns.proofs.answer.compressors.Given as goal

abbrev pub invariant-loop-c : goal.invariant-loop-c
invariant-loop-c l = record {
  count : vec_len l.compressors ≡ l._c;
  fail : All (λ c. FailsBy l.fail c.fails.count (λ k. IsTrue (fails_at c.fails.list.items (c.fails.calls + k)))) l.compressors.items;
}
