-- The array trees of what was written.
use Rattle.std.proofs.Common.{◌≡◌, true}
use Rattle.vx_model.specs.Ty.{Ty}
use Rattle.vx_path.specs.Lists.{In}
use Rattle.vx_plan.specs.PlanData.{Setting, Plan}
use Rattle.vx_strategy_spec.specs.StrategyData.{StrategyData}
use Rattle.vx_strategy_spec.specs.Admitted.{is_admitted}
use Rattle.vx_plan.specs.Valid.{Keeps}
use Rattle.vx_path.specs.Path.{root_eof}
use Rattle.vx_plan.specs.SourcePlan.{plan, source_plan, batch_items}
use Rattle.vx_plan.specs.Number.{segments, number_of, segment_at}
use Rattle.vx_plan.proofs.Numbering.{numbers_hold}
use Rattle.vx_plan.proofs.SourceLaws.{paths_distinct, items_of}
use Rattle.vx_array_tree_laws.specs.Flats.{flats}
use Rattle.vx_array_tree_laws.specs.Statements.{Encodes, Good, ArrayTrees}
use Rattle.vx_array_tree_laws.proofs.FlatLists.{flats_renamed}
use Rattle.vx_array_tree_laws.proofs.NodeArrays.{Arrays, flat_arrays, chunked_arrays, grouped_arrays, compressed_arrays, dict_arrays, zoned_arrays}
use Rattle.vx_array_tree_laws.proofs.ColumnArrays.{not_struct_arrays, struct_arrays, list_arrays}
use Rattle.vx_array_tree_laws.proofs.Strategies.{of_flats}

plan_arrays : (s : Setting) → Encodes s → (w : StrategyData) (G : Type 0) → (G → Keeps s) → (G → is_admitted w ≡ true) → (t : Ty) → Arrays s (flats w) G t (plan s w t)
plan_arrays s encodes w G keeps ok t = of_flats s (is_admitted w) (λ o. In o (flats w)) (λ t k. Arrays s (flats w) G t k) (record {
  flat_case = λ o i t. flat_arrays s encodes (flats w) G o i t;
  chunked_case = λ t k h. chunked_arrays s (flats w) G t k h;
  grouped_case = λ g t k h. grouped_arrays s (flats w) G g t k h;
  compressed_case = λ which room t k h. compressed_arrays s (flats w) G keeps which room t k h;
  dict_case = λ o t is c v f x y z. dict_arrays s (flats w) G o t is c v f x y z;
  zoned_case = λ o a t k f h hs. zoned_arrays s (flats w) G o (λ g. a (ok g)) t k f h hs;
  not_struct_case = λ t. not_struct_arrays s (flats w) G t;
  struct_case = λ fs n dup v ks h hs. struct_arrays s (flats w) G fs n dup v ks h hs;
  list_case = λ t n e o v x y z. list_arrays s (flats w) G t n e o v x y z;
}) w (λ o i. i) (λ e. e) t

pub array_trees : ArrayTrees
array_trees s w t m batches first encodes clean =
    let p : Plan = source_plan s w t m batches true in
    flats_renamed s (flats w) (Good s w t m batches) (segment_at first (segments p)) (number_of p.pairs first) p.layout
    ((plan_arrays s encodes w (Good s w t m batches) (λ g. g.keeps) (λ g. g.admitted) t).arrays m (batch_items 0 batches) root_eof (λ g. items_of t 0 batches g.of_schema) clean (λ g. g.fit.1)
    (λ x. segment_at first (segments p) (number_of p.pairs first x)) (numbers_hold p first (paths_distinct s w t m batches true)))
