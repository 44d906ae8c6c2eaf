-- What a dictionary node is about to do with its runs, against the abstract acts, and against the children that it has.
use Rattle.std.specs.Prelude.{◌≡◌, ℕ, zero, suc, ◌+◌, ◌*◌, true, false, if◌then◌else◌, List, [], ◌∷◌, map, length}
use Rattle.vx_model.specs.Words.{total_by}
use Rattle.vx_model.specs.Ty.{Ty}
use Rattle.vx_path.specs.Path.{eof_path, next}
use Rattle.vx_rules.specs.Runs.{DictOptions, code_type}
use Rattle.vx_plan.specs.PlanData.{Setting, Item, rows_in}
use Rattle.vx_machine_turns.specs.Forms.{dict_form}
use Rattle.vx_machine_turns.specs.Locals.{DictNode, RunsSoFar}
use Rattle.vx_machine_turns.specs.Acts.{Seed, Act, put_item, or_else}
use Rattle.vx_machine_turns.specs.Starts.{start_fault}
use Rattle.vx_machine_turns.specs.Dict.{run_seeds}
use Rattle.vx_machine_turns.specs.Fuels.{Fuel, Enough}
use Rattle.vx_machine_view.specs.Suited.{Suited}
use Rattle.vx_machine_state.specs.Typed.{Typed}
use Rattle.vx_machine_state.specs.Coding.{Deed, puts_codes, puts_values}

abbrev pub deed_act : Setting → DictNode → Deed → Act
deed_act s n (puts_codes j e true i) = put_item j i
deed_act s n (puts_codes j e false i) = record (put_item j i) {
  starts = run_seeds n j e;
  uses = i.0 ∷ eof_path e ∷ eof_path (next e) ∷ [];
  refusal = or_else (start_fault s n.codes n.mark) (start_fault s n.values n.mark);
}
deed_act s n (puts_values j i) = record (put_item (suc j) i) { shuts = j ∷ suc j ∷ [] }

abbrev pub deed_acts : Setting → DictNode → List Deed → List Act
deed_acts s n ds = map (deed_act s n) ds

-- codes and values of so many runs
abbrev pub run_types : DictOptions → Ty → ℕ → List Ty
run_types o t zero = []
run_types o t (suc k) = code_type o ∷ t ∷ run_types o t k

-- So many runs have children before these, and so many behind them; codes and values go to the last one's.
abbrev pub Going : DictNode → ℕ → List Deed → ℕ → Type 0
Going n k [] m = k ≡ m
Going n k (puts_codes j e true i ∷ ds) m = (j + 2 ≡ 2 * k) × Typed (code_type n.options) i.1 × Going n k ds m
Going n k (puts_codes j e false i ∷ ds) m = (j ≡ 2 * k) × Typed (code_type n.options) i.1 × Going n (suc k) ds m
Going n k (puts_values j i ∷ ds) m = (j + 2 ≡ 2 * k) × Typed n.type i.1 × Going n k ds m

-- how many runs have children
abbrev pub run_count : RunsSoFar → ℕ
run_count r = length r.ended + (if r.begun then 1 else 0)

abbrev pub summed : List ℕ → ℕ
summed ns = total_by (λ n. n) ns

-- The runs so far, before the newest chunk is cut: all rows are theirs, or its.
pub record Cutting (r : RunsSoFar) (i : Item) (rows : ℕ) : Type 0 where
  pub base_is : r.base ≡ 2 * length r.ended
  pub rows_are : rows ≡ summed r.ended + (r.rows + rows_in i.1)

-- what the node of a seed is, where its children can be started
pub record Coded (q : Seed) (d : Fuel) (n : DictNode) : Type 0 where
  pub name_is : n.name ≡ q.name
  pub type_is : q.type ≡ n.type
  pub spare : q.spare ≡ []
  pub suited : Suited (dict_form n.options n.type n.codes n.values n.fallback)
  pub enough : Enough d (dict_form n.options n.type n.codes n.values n.fallback)
