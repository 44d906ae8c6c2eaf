use Rattle.std.proofs.Common.{◌≡◌, ◌++◌, take, drop, map}
use Rattle.vx_model.specs.Words.{head_or, tail}
use Rattle.vx_model.specs.ValueData.{null_value}
use Rattle.vx_read.specs.Parts.{rows_in, queued}
use Rattle.vx_read.proofs.structs.next_fields.Given as goal

abbrev pub invariant-loop-queue : goal.invariant-loop-queue
invariant-loop-queue l = record {
  fields : rows_in l.fields ++ map (head_or null_value) (map queued (drop l.queue-index l.queues)) ≡ map (head_or null_value) (map queued l.fn.queues);
  rest : map queued (take l.queue-index l.queues) ++ map tail (map queued (drop l.queue-index l.queues)) ≡ map tail (map queued l.fn.queues);
}
