-- A dictionary node cuts its stream into runs, each with codes and values of its own.
use Rattle.std.specs.Prelude.{ℕ, suc, ◌+◌, ◌*◌, Bool, true, false, if◌then◌else◌, List, [], ◌∷◌, ◌++◌, length}
use Rattle.vx_model.specs.Ty.{Ty}
use Rattle.vx_model.specs.CellData.{CellData}
use Rattle.vx_model.specs.ChunkData.{ChunkData, dict_piece}
use Rattle.vx_path.specs.Path.{Eof, inside, next}
use Rattle.vx_layout_spec.specs.LayoutTree.{dict_layout, gathered}
use Rattle.vx_rules.specs.Runs.{DictOptions, Run, runs, cut_at}
use Rattle.vx_plan.specs.PlanData.{Setting, Item, Plan, Node, row_total, row_totals}
use Rattle.vx_plan.specs.ChunkedNode.{whole, both_plans}

abbrev pub is_dictionary : ChunkData → Bool
is_dictionary (dict_piece codes values) = true
is_dictionary p = false

-- a run's codes inside e, its values inside e + 1, each ended where the run has
abbrev pub run_plan : Ty → Node → Node → Bool → Run → Eof → Plan
run_plan t ck vk m r e =
    both_plans (dict_layout t (row_total r.codes) (vk m r.values r.closed (inside (next e))).layout (ck m r.codes r.closed (inside e)).layout) []
    (ck m r.codes r.closed (inside e)) (vk m r.values r.closed (inside (next e)))

abbrev pub run_plans : Ty → Node → Node → Bool → List Run → Eof → List Plan
run_plans t ck vk m [] e = []
run_plans t ck vk m (r ∷ rs) e = run_plan t ck vk m r e ∷ run_plans t ck vk m rs (next (next e))

-- how many chunks are made at each chunk that is looked at: the index at which the pointer below its path then stands
abbrev pub made_counts : DictOptions → Ty → List CellData → List Item → Bool → List ℕ
made_counts o t ds [] ended = []
made_counts o t ds (c ∷ []) ended = if ended then (2 * suc (length (cut_at o t ds c).closed)) ∷ [] else []
made_counts o t ds (c ∷ d ∷ cs) ended = (2 * length (cut_at o t ds c).closed + 1) ∷ made_counts o t (cut_at o t ds c).distinct (d ∷ cs) ended

-- the rows, the pointer behind the last run's eof paths, and the indices below the chunks' paths
abbrev pub dict_numbers : DictOptions → Ty → List Item → Bool → Eof → List ℕ
dict_numbers o t items ended e = row_totals items ++ ((e.last + 2 * length (runs o t items ended)) ∷ made_counts o t [] items ended)

abbrev pub runs_node : DictOptions → Ty → Node → Node → Node
runs_node o t ck vk m items ended e = whole t (row_total items) (dict_numbers o t items ended e) (run_plans t ck vk m (runs o t items ended) e)

-- Nothing while open without a chunk. Where there is no chunk, or the first one's image isn't a dictionary, the fallback.
abbrev pub dict_node : Setting → DictOptions → Ty → Node → Node → Node → Node
dict_node s o t ck vk f m [] true e = f m [] true e
dict_node s o t ck vk f m [] false e = record { pairs = []; faults = []; layout = gathered t 0 []; numbers = []; reserved = 0 }
dict_node s o t ck vk f m (i ∷ is) ended e = if is_dictionary (s.image o.probe i.1) then runs_node o t ck vk m (i ∷ is) ended e else f m (i ∷ is) ended e
