use Rattle.std.proofs.Common.{◌≡◌, ◌++◌, ◌-◌, take, drop, map}
use Rattle.vx_model.specs.TreeView.{val}
use Rattle.vx_read.specs.Parts.{queued}
use Rattle.vx_read.proofs.lists.next_elements.Given as goal

abbrev pub invariant-loop-i : goal.invariant-loop-i
invariant-loop-i l = record {
  taken : map val l.taken.items ++ take (l.count - l._i) (queued l.elements) ≡ take l.count (queued l.fn.elements);
  rest : drop (l.count - l._i) (queued l.elements) ≡ drop l.count (queued l.fn.elements);
}
