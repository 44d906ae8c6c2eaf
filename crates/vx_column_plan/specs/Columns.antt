-- The columns of a struct, each written by itself.
use Rattle.std.specs.Prelude.{◌≡◌, ℕ, suc, ◌+◌, ◌||◌, Bool, false, if◌then◌else◌, List, [], ◌∷◌, ◌++◌, length, sum_by, None}
use Rattle.vx_model.specs.Ty.{Ty, Tys, boolean, struct, no_fields, field}
use Rattle.vx_model.specs.ChunkData.{ChunkData}
use Rattle.vx_path.specs.Path.{Eof, inside, next, root_eof}
use Rattle.vx_layout_spec.specs.LayoutTree.{struct_layout}
use Rattle.vx_rules.specs.Columns.{Split, struct_splits, column, other_columns}
use Rattle.vx_strategy_spec.specs.StrategyData.{StrategyData, StrategyList, structured}
use Rattle.vx_strategy_spec.specs.Walk.{duplicate}
use Rattle.vx_strategy_spec.specs.Dispatch.{override, given_or}
use Rattle.vx_plan.specs.PlanData.{Setting, Plan, row_total, row_totals}
use Rattle.vx_plan.specs.ChunkedNode.{all_pairs, all_faults, all_layouts, all_numbers, all_reserved}
use Rattle.vx_plan.specs.SourcePlan.{plan, batch_items, source_plan}

-- a column's strategy, its type, and whether a nullable struct stands above it
pub record Column : Type 0 where
  pub way : StrategyData
  pub type : Ty
  pub mark : Bool

-- a field goes to its own writer, or else to the default
abbrev pub field_columns : StrategyData → StrategyList → Bool → Tys → List Column
field_columns d ws m no_fields = []
field_columns d ws m (field name t fs) = record { way = given_or (override name ws) d; type = t; mark = m } ∷ field_columns d ws m fs

-- validity where the struct is nullable, then the fields
abbrev pub columns_by : StrategyData → StrategyData → StrategyList → Bool → Tys → Bool → List Column
columns_by v d ws m fs n =
    if n then record { way = v; type = boolean false; mark = m } ∷ field_columns d ws (m || n) fs else field_columns d ws (m || n) fs

-- What each writes: column c of the chunk at p has the path p ++ [c], and the first eof path below e + c.
abbrev pub plans_of : Setting → List Column → ℕ → List Split → Bool → Eof → List Plan
plans_of s [] c xs ended e = []
plans_of s (k ∷ ks) c xs ended e =
    plan s k.way k.type k.mark (column c xs) ended (inside e) ∷ plans_of s ks (suc c) (other_columns xs) ended (next e)

-- what each writes of a source's batches
abbrev pub batch_plans : Setting → List Column → Tys → Bool → List ChunkData → Bool → List Plan
batch_plans s ks fs n bs ended = plans_of s ks 0 (struct_splits fs n (batch_items 0 bs)) ended root_eof

-- ---- laws

-- A struct's plan of these batches is that of so many columns beside each other.
pub record IsBeside (p : Plan) (t : Ty) (bs : List ChunkData) (count : ℕ) (ps : List Plan) : Type 0 where
  pub pairs : p.pairs ≡ all_pairs ps
  pub faults : p.faults ≡ all_faults ps
  pub layout : p.layout ≡ struct_layout t (row_total (batch_items 0 bs)) (all_layouts ps)
  pub numbers : p.numbers ≡ length bs ∷ ((row_totals (batch_items 0 bs) ++ (count ∷ (1 + count) ∷ [])) ++ all_numbers ps)
  pub reserved : p.reserved ≡ all_reserved ps
  pub count_is : count ≡ length ps
  -- as many pairs as the columns have
  pub sum : length p.pairs ≡ sum_by (λ q. length q.pairs) ps

-- where no two fields have one name
abbrev pub StructIsColumns : Type 0
StructIsColumns = (s : Setting) (v d : StrategyData) (ws : StrategyList) (m : Bool) (fs : Tys) (n : Bool) (bs : List ChunkData) (ended : Bool) → duplicate fs ≡ None
    → IsBeside (source_plan s (structured v d ws) (struct fs n) m bs ended) (struct fs n) bs (length (columns_by v d ws m fs n))
    (batch_plans s (columns_by v d ws m fs n) fs n bs ended)
