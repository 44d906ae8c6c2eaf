-- What a worker's end comes to.
use Rattle.std.proofs.Common.{◌≡◌, ◌∙◌, ◌+◌, ◌∷◌, ℕ, List, [], length, ap, arith, Option, Result, Ok, Err}
use Rattle.std.proofs.lemmas.Result.{IfErr-weaker}
use Rattle.std.specs.Prelude.{IfOk, IfErr}
use Rattle.std.specs.Global.{Vec}
use Rattle.vx_model.specs.Ty.{Ty}
use Rattle.vx_model.specs.ChunkData.{ChunkData}
use Rattle.vx_layout_spec.specs.LayoutTree.{LayoutData}
use Rattle.vx_layout_tree.specs.declared.layout.Layout.{Layout}
use Rattle.vx_layout_tree.specs.LayoutView.{layout_data}
use Rattle.vx_layout_segment_laws.proofs.Places.{pairs_named_once}
use Rattle.vx_seats.specs.History as seats
use Rattle.vx_plan.specs.PlanData.{Plan}
use Rattle.vx_write_answer.specs.declared.error.WriteError.{WriteError}
use Rattle.vx_column_machine.specs.declared.column.ColumnMachine.{ColumnMachine}
use Rattle.vx_column_machine.specs.Course.{Course, plan_of}
use Rattle.vx_column_machine.specs.Causes.{IsDone}
use Rattle.vx_column_worker.specs.Jobs.{AtWork}
use Rattle.vx_column_worker.specs.Worked.{WorkerCause}

-- ---- all was written

module _ (p : Plan) (l : LayoutData ℕ) (at : List (List ℕ)) (d : IsDone p l at) where
  many : length at ≡ length p.pairs
  many = ap length d.paths_are ∙ (pairs_named_once p d.named).as_many

  -- and no more
  pub writes_are : (before now : ℕ) (first : List (List ℕ)) → first ≡ [] → now + length first ≡ before + length at → now ≡ before + length p.pairs
  writes_are before now first none counted = let z : length first ≡ 0 = ap length none in omega (arith, many, z, counted)

module _ {B : Type 0} (to_come : B → Option (List ChunkData)) (kind : B → Ty) (left : B → ℕ) (allowed : List seats.Pair) (image : ℕ → ChunkData → ChunkData) (c : ColumnMachine B) (x : Course) (w : AtWork to_come kind left allowed image x c)
    (r : Result (Layout × Vec (List ℕ)) WriteError) where
  pub done_all : (before now : ℕ) → c.paths.items ≡ [] → IfOk r (λ v. (y : Course) → AtWork to_come kind left allowed image y c → IsDone (plan_of y) (layout_data v.0) v.1.items)
      → IfOk r (λ v. now + length c.paths.items ≡ before + length v.1.items) → IfOk r (λ v. IsDone (plan_of x) (layout_data v.0) v.1.items × (now ≡ before + length (plan_of x).pairs))
  done_all before now none d n = by r d n
    where
      by : (o : Result (Layout × Vec (List ℕ)) WriteError) → IfOk o (λ v. (y : Course) → AtWork to_come kind left allowed image y c → IsDone (plan_of y) (layout_data v.0) v.1.items)
          → IfOk o (λ v. now + length c.paths.items ≡ before + length v.1.items) → IfOk o (λ v. IsDone (plan_of x) (layout_data v.0) v.1.items × (now ≡ before + length (plan_of x).pairs))
      by (Ok v) d n = (d x w, writes_are (plan_of x) (layout_data v.0) v.1.items (d x w) before now c.paths.items none n)
      by (Err e) d n = tt

  pub refused_all : (shared : ℕ → Type 0) → IfErr r (λ e. (y : Course) → AtWork to_come kind left allowed image y c → WorkerCause shared y e) → IfErr r (WorkerCause shared x)
  refused_all shared h = IfErr-weaker r (λ e. (y : Course) → AtWork to_come kind left allowed image y c → WorkerCause shared y e) (WorkerCause shared x) (λ e k. k x w) h
