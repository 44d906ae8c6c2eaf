-- By one induction over the walk: what is read off a strategy's tasks is its plan.
use Rattle.std.proofs.Common.{false, sym}
use Rattle.std.proofs.lemmas.Bool.{true≢false}
use Rattle.vx_model.specs.Ty.{Ty}
use Rattle.vx_strategy_spec.specs.StrategyData.{Grouping, by_blocks, by_bytes, into_one}
use Rattle.vx_plan.specs.PlanData.{Setting, Node}
use Rattle.vx_plan.specs.GroupNode.{grouped_node}
use Rattle.vx_plan.specs.SourcePlan.{plan_nodes}
use Rattle.vx_plan.proofs.Relate.{Agree, relate}
use Rattle.vx_machine_turns.specs.Forms.{Form, grouped_form, form_nodes}
use Rattle.vx_machine_turns.specs.Planned.{Fair, TasksArePlanned}
use Rattle.vx_machine_turns.proofs.FlatLaws.{flat_fair}
use Rattle.vx_machine_turns.proofs.ChunkedLaws.{chunked_fair}
use Rattle.vx_machine_turns.proofs.StructLaws.{struct_fair, not_struct_fair}
use Rattle.vx_machine_turns.proofs.ListLaws.{list_fair}
use Rattle.vx_machine_turns.proofs.GroupedLaws.{blocks_fair, bytes_fair}
use Rattle.vx_machine_turns.proofs.CollectedLaws.{collected_fair}
use Rattle.vx_machine_turns.proofs.CompressedLaws.{compressed_fair}
use Rattle.vx_machine_turns.proofs.DictNodes.{dict_fair}
use Rattle.vx_machine_turns.proofs.ZonedLaws.{zoned_fair}

grouped_fair : (s : Setting) (g : Grouping) (t : Ty) (k : Node) (f : Form) → Fair s k f → Fair s (grouped_node g t k) (grouped_form g t f)
grouped_fair s (by_blocks o) t k f h = blocks_fair s o t k f h
grouped_fair s (by_bytes size) t k f h = bytes_fair s size t k f h
grouped_fair s into_one t k f h = collected_fair s t k f h

all_fair : (s : Setting) → Agree Node Form (plan_nodes s) form_nodes false (λ t k f. Fair s k f)
all_fair s = record {
  at_flat = λ o t. flat_fair s o t;
  at_chunked = λ t k l h. chunked_fair s t k l h;
  at_grouped = λ g r t k l h. grouped_fair s g t k l h;
  at_compressed = λ which room r t k l h. compressed_fair s which room t k l h;
  at_dict = λ o t is c v f d w g h i j. dict_fair s o t c v f d w g h i j;
  at_zoned = λ o r t k l f g h i. zoned_fair s o t k l f g h i;
  at_not_struct = λ t. not_struct_fair s t;
  at_struct = λ fs n dup v w ks ls h r. struct_fair s fs n dup v w ks ls h r;
  at_list = λ t n e o v f p w h i j. list_fair s t n e o v f p w h i j;
}

pub tasks_are_planned : TasksArePlanned
tasks_are_planned s w t = relate Node Form (plan_nodes s) form_nodes false (λ t k f. Fair s k f) (all_fair s) w (λ e. absurd (true≢false (sym e))) t
