-- What columns write into a sink that they share, against the plan of them all.
use Rattle.std.specs.Prelude.{◌≡◌, ℕ, ◌+◌, Bool, true, if◌then◌else◌, bytes_eq, List, [], ◌∷◌, map, Some, None, IsTrue}
use Rattle.vx_model.specs.Ty.{Tys, struct}
use Rattle.vx_model.specs.ChunkData.{ChunkData}
use Rattle.vx_path.specs.Lists.{In}
use Rattle.vx_path.specs.Path.{Scattered}
use Rattle.vx_path.specs.Sort.{sort}
use Rattle.vx_layout_spec.specs.LayoutTree.{renamed, struct_layout}
use Rattle.vx_strategy_spec.specs.StrategyData.{StrategyData, StrategyList, structured}
use Rattle.vx_strategy_spec.specs.Walk.{duplicate}
use Rattle.vx_plan.specs.PlanData.{Setting, Pair, Plan, row_total}
use Rattle.vx_plan.specs.PlanData as plans
use Rattle.vx_plan.specs.ChunkedNode.{all_layouts}
use Rattle.vx_plan.specs.SourcePlan.{batch_items, source_plan}
use Rattle.vx_plan.specs.Number.{segments, number_of}
use Rattle.vx_plan.specs.Number as numbers
use Rattle.vx_order_answer.specs.declared.receipt.Receipt.{Receipt}
use Rattle.vx_seats.specs.History.{bytes_for, all_listed, ascends, paths, numbered, stored}
use Rattle.vx_seats.specs.History as seats
use Rattle.vx_column_plan.specs.Columns.{columns_by, batch_plans}

-- a plan's pairs, as those that columns may write
abbrev pub allowed_by : List Pair → List seats.Pair
allowed_by [] = []
allowed_by (x ∷ xs) = record { path = x.0; bytes = x.1 } ∷ allowed_by xs

-- the number that a history has at the path; where it has none, the next one
abbrev pub number_by : ℕ → List Receipt → List ℕ → ℕ
number_by next [] path = next
number_by next (r ∷ rs) path = if bytes_eq path r.path then r.number else number_by (next + 1) rs path

-- ---- laws

-- each pair of a column may be written, with its bytes
abbrev pub ColumnsAreAllowed : Type 0
ColumnsAreAllowed = (s : Setting) (v d : StrategyData) (ws : StrategyList) (m : Bool) (fs : Tys) (n : Bool) (bs : List ChunkData) (ended : Bool) (p : Plan) (x : Pair) → duplicate fs ≡ None
    → In p (batch_plans s (columns_by v d ws m fs n) fs n bs ended) → In x p.pairs
    → bytes_for (allowed_by (source_plan s (structured v d ws) (struct fs n) m bs ended).pairs) x.0 ≡ Some x.1

-- A history of all pairs: its segments are the plan's, and so are its numbers, by which the layout is numbered.
pub record IsWhole (p : Plan) (first : ℕ) (rs : List Receipt) : Type 0 where
  pub segments_are : stored (allowed_by p.pairs) rs ≡ segments p
  pub numbers_are : (path : List ℕ) → number_by first rs path ≡ number_of p.pairs first path
  pub layout_is : renamed (number_by first rs) p.layout ≡ numbers.numbered p first

abbrev pub WholeIsPlanned : Type 0
WholeIsPlanned = (p : Plan) (first : ℕ) (rs : List Receipt) → Scattered (plans.paths p.pairs)
    → paths rs ≡ sort (map (λ c. c.path) (allowed_by p.pairs)) → numbered first rs ≡ true → IsWhole p first rs

-- Then the struct's numbered layout is that of the columns', each numbered by the history.
abbrev pub ColumnsAreLaid : Type 0
ColumnsAreLaid = (s : Setting) (v d : StrategyData) (ws : StrategyList) (m : Bool) (fs : Tys) (n : Bool) (bs : List ChunkData) (first : ℕ) (rs : List Receipt) → duplicate fs ≡ None
    → paths rs ≡ sort (map (λ c. c.path) (allowed_by (source_plan s (structured v d ws) (struct fs n) m bs true).pairs)) → numbered first rs ≡ true
    → numbers.numbered (source_plan s (structured v d ws) (struct fs n) m bs true) first
    ≡ struct_layout (struct fs n) (row_total (batch_items 0 bs)) (map (renamed (number_by first rs)) (all_layouts (batch_plans s (columns_by v d ws m fs n) fs n bs true)))

-- these are segments of a plan, in ascending order of their paths
pub record AreSome (p : Plan) (stood : List (List ℕ)) : Type 0 where
  pub some : List Pair
  pub ascend : IsTrue (ascends (plans.paths some))
  pub within : (x : Pair) → In x some → In x p.pairs
  pub bytes : stood ≡ plans.stored some

-- whatever of the pairs was written
abbrev pub HistoryIsOfPlan : Type 0
HistoryIsOfPlan = (p : Plan) (rs : List Receipt) → ascends (paths rs) ≡ true → all_listed (allowed_by p.pairs) (paths rs) ≡ true → AreSome p (stored (allowed_by p.pairs) rs)
