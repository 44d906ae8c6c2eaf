use Rattle.std.proofs.Common.{◌≡◌, drop, length, map}
use Rattle.vx_model.specs.TreeView.{val}
use Rattle.vx_layout_spec.specs.Rows.{all_there, picked}
use Rattle.vx_read.specs.Reading.{codes_fault}
use Rattle.vx_read.proofs.DictSteps.{before}
use Rattle.vx_read.proofs.dicts.picked.Given as goal

abbrev pub invariant-loop-code : goal.invariant-loop-code
invariant-loop-code l = record {
  rows : before (map val l.rows.items) (all_there (map (picked (map val l.values)) (map val (drop l.code-index l.codes)))) ≡ all_there (map (picked (map val l.values)) (map val l.codes));
  faults : codes_fault (length l.values) (map val (drop l.code-index l.codes)) ≡ codes_fault (length l.values) (map val l.codes);
}
