-- A column's machine that is begun with a job that fits is at work.
use Rattle.std.proofs.Common.{◌≡◌, ◌≤◌, ◌∙◌, ℕ, List, length, refl, sym, ap, subst, arith, Option, Some, None}
use Rattle.vx_model.specs.declared.encoding.EncodingId.{EncodingId}
use Rattle.vx_model.specs.Distinct.{first_repeat}
use Rattle.vx_model.specs.Ty.{Ty}
use Rattle.vx_model.specs.TyView.{ty}
use Rattle.vx_model.specs.ChunkData.{ChunkData}
use Rattle.vx_layout_spec.specs.Codec.{Lawful}
use Rattle.vx_layout_spec.specs.Real.{Whole, SameRows}
use Rattle.vx_named_tasks.specs.Names.{handed, Outset, column_names, column_outset}
use Rattle.vx_named_tasks.proofs.NamedLaws.{column_begins}
use Rattle.vx_strategy_spec.specs.StrategyData.{StrategyData}
use Rattle.vx_sink.specs.ContextView.{is_marked, allowed_in, listed}
use Rattle.vx_seats.specs.History as seats
use Rattle.vx_segment_spec.specs.Codec.{segment_codec}
use Rattle.vx_plan.specs.Valid.{OfSchema}
use Rattle.vx_machine_state.specs.Images.{ImagesAreCareful}
use Rattle.vx_machine_node.specs.Context.{setting_of}
use Rattle.vx_machine_node.specs.Ledger.{told_by}
use Rattle.vx_column_machine.specs.declared.column.ColumnMachine.{ColumnMachine}
use Rattle.vx_column_machine.specs.Course.{Course, plan_of}
use Rattle.vx_column_machine.specs.Underway.{Underway, IsGiven}
use Rattle.vx_column_inputs.specs.declared.inputs.Input.{Input}
use Rattle.vx_column_worker.specs.Jobs.{JobFits, AllAllowed, AtWork, course_of}
use Rattle.vx_column_worker.proofs.Handed.{same_setting}

some_same : {A : Type 0} (a b : A) (o : Option A) → o ≡ Some a → o ≡ Some b → a ≡ b
some_same a b o p q = cc

handed_same : (ps qs : List (List ℕ)) → handed ps ≡ handed qs → ps ≡ qs
handed_same ps qs e = cc

-- ---- its ids

module _ (allowed : List seats.Pair) (image : ℕ → ChunkData → ChunkData) (k : ℕ) (i : Input) (part : Outset) (kind : Ty) (may_fail : ℕ → Type 0) (to_come : Option (List ChunkData)) (left : ℕ)
    (f : JobFits allowed image k i part kind may_fail to_come left) where
  -- there is one for each chunk that its source has left
  pub ids_enough : (ids : List (List ℕ)) (len : ℕ) → part.names ≡ handed ids → len ≡ length ids → left ≤ len
  ids_enough ids len names many =
      let n : ℕ = length f.chunks in
      let can : n ≤ length (column_names k 0 n) = (column_begins k n).can in
      let same : ids ≡ column_names k 0 n = handed_same ids (column_names k 0 n) (sym names ∙ ap (λ (o : Outset). o.names) f.part_is) in
      let all : length ids ≡ length (column_names k 0 n) = ap length same in
      omega (arith, f.left_is, can, all, many)

-- ---- its machine

module _ (allowed : List seats.Pair) (image : ℕ → ChunkData → ChunkData) (k : ℕ) (i : Input) (part : Outset) (kind : Ty) (may_fail : ℕ → Type 0) (to_come : Option (List ChunkData)) (left : ℕ)
    (f : JobFits allowed image k i part kind may_fail to_come left) (chunks : List ChunkData) (told : to_come ≡ Some chunks) where
  they_are : f.chunks ≡ chunks
  they_are = some_same f.chunks chunks to_come f.told told

  pub given : ImagesAreCareful → ((ids : List EncodingId) → first_repeat ids ≡ None → Lawful segment_codec ids) → first_repeat (listed i.ctx) ≡ None
      → ((which : ℕ) (p : ChunkData) → Whole p → SameRows p (image which p)) → (way : StrategyData) → way ≡ i.way.strategy.item
      → IsGiven (allowed_in i.ctx) way kind (is_marked i.ctx) k part to_come (course_of image k i chunks)
  given careful lawful distinct keeps way way_is = record {
    careful = careful (setting_of i.ctx image) image refl (lawful (listed i.ctx) distinct) keeps;
    allowed_is = refl;
    way_is = sym way_is;
    type_is = sym f.kind_is;
    mark_is = sym f.marked;
    number_is = refl;
    part_is = subst (λ (z : List ChunkData). part ≡ column_outset k (length z)) they_are f.part_is;
    told = told;
    typed = subst (λ z. OfSchema (ty i.way.dtype) z) they_are f.typed;
  }

  pub at_work : {B : Type 0} (comes : B → Option (List ChunkData)) (kinds : B → Ty) (lefts : B → ℕ) (c : ColumnMachine B) → told_by c.ctx ≡ told_by i.ctx → Underway comes kinds lefts (course_of image k i chunks) c
      → AtWork comes kinds lefts allowed image (course_of image k i chunks) c
  at_work comes kinds lefts c same under = record {
    set = same_setting i.ctx c.ctx image same;
    underway = under;
    all = subst (λ z. AllAllowed allowed (plan_of (course_of image k i z)).pairs) they_are f.all;
  }

  -- what `begin` tells
  pub begun : {B : Type 0} (comes : B → Option (List ChunkData)) (kinds : B → Ty) (lefts : B → ℕ) (c : ColumnMachine B) → ImagesAreCareful → ((ids : List EncodingId) → first_repeat ids ≡ None → Lawful segment_codec ids)
      → first_repeat (listed i.ctx) ≡ None → ((which : ℕ) (p : ChunkData) → Whole p → SameRows p (image which p)) → (way : StrategyData) → way ≡ i.way.strategy.item → told_by c.ctx ≡ told_by i.ctx
      → ((x : Course) → IsGiven (allowed_in i.ctx) way kind (is_marked i.ctx) k part to_come x → Underway comes kinds lefts x c) → AtWork comes kinds lefts allowed image (course_of image k i chunks) c
  begun comes kinds lefts c careful lawful distinct keeps way way_is same under =
      at_work comes kinds lefts c same (under (course_of image k i chunks) (given careful lawful distinct keeps way way_is))
