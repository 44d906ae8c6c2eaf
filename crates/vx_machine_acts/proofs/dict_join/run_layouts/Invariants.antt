use Rattle.std.proofs.Common.{◌≡◌, ◌++◌, map, reverse}
use Rattle.std.specs.Vec.Iter.{into_iter_items}
use Rattle.vx_model.specs.TyView.{ty}
use Rattle.vx_layout_tree.specs.LayoutView.{layout_data}
use Rattle.vx_machine_state.specs.Coding.{runs_laid}
use Rattle.vx_machine_acts.proofs.dict_join.run_layouts.Given as goal

abbrev pub invariant-runs : goal.invariant-runs
invariant-runs l = record {
  seen : map layout_data l.runs.items ++ runs_laid (ty l.dtype) (into_iter_items l.count-iterator) (map layout_data (reverse l.layouts.items)) ≡ runs_laid (ty l.dtype) l.fn.rows.items (map layout_data l.fn.layouts.items);
}
