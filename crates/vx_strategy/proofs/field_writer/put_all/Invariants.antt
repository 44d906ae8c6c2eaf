use Rattle.std.proofs.Common.{◌≡◌, map, length}
use Rattle.std.specs.Vec.Iter.{into_iter_items, into_iter_len}
use Rattle.vx_strategy.specs.FieldWays.{field_ways}
use Rattle.vx_strategy.specs.PairWays.{named_way, with_writers}
use Rattle.vx_strategy.proofs.field_writer.put_all.Given as goal

abbrev pub invariant-loop-name : goal.invariant-loop-name
invariant-loop-name l = record {
  same : with_writers (field_ways l.writers.items) (map named_way (into_iter_items l.name-iterator))
      ≡ with_writers (field_ways l.initial.writers.items) (map named_way (into_iter_items l.initial.name-iterator));
  left : into_iter_len l.name-iterator ≡ length (into_iter_items l.name-iterator);
}
