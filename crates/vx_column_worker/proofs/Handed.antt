-- A segment of a column's machine may be written, and the machine stands on.
use Rattle.std.proofs.Common.{◌≡◌, ◌∙◌, ◌+◌, ◌-◌, ◌∷◌, ◌++◌, [], ℕ, List, length, get_or, refl, sym, ap, subst, arith, Option, Some}
use Rattle.std.proofs.lemmas.List.{length-append}
use Rattle.std.proofs.lemmas.Option.{slice_get_read}
use Rattle.std.proofs.Math.Seq.{get_or-append_seam}
use Rattle.std.specs.Prelude.{slice_get}
use Rattle.std.specs.Global.{Vec}
use Rattle.vx_model.specs.Ty.{Ty}
use Rattle.vx_model.specs.ChunkData.{ChunkData}
use Rattle.vx_sink.specs.declared.context.LayoutWriterContext.{LayoutWriterContext}
use Rattle.vx_sink.specs.ContextView.{listed, allowed_in}
use Rattle.vx_seats.specs.History as seats
use Rattle.vx_setting.specs.Setting.{real}
use Rattle.vx_machine_state.specs.Images.{images_of}
use Rattle.vx_machine_node.specs.Context.{setting_of}
use Rattle.vx_machine_node.specs.Ledger.{told_by}
use Rattle.vx_machine_node.proofs.LedgerSteps.{told_listed, told_allowed}
use Rattle.vx_column_machine.specs.declared.column.ColumnMachine.{ColumnMachine}
use Rattle.vx_column_machine.specs.Course.{Course, plan_of}
use Rattle.vx_column_machine.specs.Underway.{Underway, IsSet, Wrote}
use Rattle.vx_column_worker.specs.Jobs.{AllAllowed, AtWork}
use Rattle.vx_column_worker.specs.Worked.{MayWrite}

-- ---- the segment

last_pushed : (xs : List (List ℕ)) (q : List ℕ) → slice_get (xs ++ (q ∷ [])) (length (xs ++ (q ∷ [])) - 1) ≡ Some q
last_pushed xs q =
    let n : length (xs ++ (q ∷ [])) ≡ length xs + 1 = length-append xs (q ∷ []) in
    let last : length (xs ++ (q ∷ [])) - 1 ≡ length xs = omega (arith, n) in
    slice_get_read (xs ++ (q ∷ [])) (length (xs ++ (q ∷ []))) (length (xs ++ (q ∷ [])) - 1) q refl (omega (arith, n))
    (sym (ap (λ i. get_or (xs ++ (q ∷ [])) i q) last ∙ get_or-append_seam xs q [] q))

module _ (x : Course) (before after : List (List ℕ)) (v : Vec ℕ) (w : Wrote x before after (Some v)) where
  pub may_write : (allowed : List seats.Pair) → AllAllowed allowed (plan_of x).pairs → MayWrite allowed after v.items
  may_write allowed all = record {
    path = w.0.0;
    last = subst (λ (z : List (List ℕ)). slice_get z (length z - 1) ≡ Some w.0.0) (sym w.2) (last_pushed before w.0.0);
    may = subst (λ z. seats.bytes_for allowed w.0.0 ≡ Some z) (sym w.3) (all w.0 w.1);
  }

  pub one_more : length after ≡ length before + 1
  one_more = ap length w.2 ∙ length-append before (w.0.0 ∷ [])

-- ---- where the machine stands

pub same_setting : (before after : LayoutWriterContext) (image : ℕ → ChunkData → ChunkData) → told_by after ≡ told_by before → setting_of after image ≡ setting_of before image
same_setting before after image same =
    ap (λ z. real z (allowed_in after) (images_of image)) (told_listed before after same) ∙ ap (λ z. real (listed before) z (images_of image)) (told_allowed before after same)

pub still_at_work : {B : Type 0} (to_come : B → Option (List ChunkData)) (kind : B → Ty) (left : B → ℕ) (allowed : List seats.Pair) (image : ℕ → ChunkData → ChunkData) (x : Course) (c d : ColumnMachine B) → told_by d.ctx ≡ told_by c.ctx
    → (IsSet image x c → Underway to_come kind left x c → Underway to_come kind left x d) → AtWork to_come kind left allowed image x c → AtWork to_come kind left allowed image x d
still_at_work to_come kind left allowed image x c d same on w = record {
  set = same_setting c.ctx d.ctx image same ∙ w.set;
  underway = on w.set w.underway;
  all = w.all;
}

-- with compressors of one kind
pub as_kind : {B : Type 0} (to_come : B → Option (List ChunkData)) (kind : B → Ty) (left : B → ℕ) (allowed : List seats.Pair) (image : ℕ → ℕ → ChunkData → ChunkData) (n k : ℕ) (x : Course) (c : ColumnMachine B) → n ≡ k
    → AtWork to_come kind left allowed (image n) x c → AtWork to_come kind left allowed (image k) x c
as_kind to_come kind left allowed image n k x c same w = subst (λ z. AtWork to_come kind left allowed (image z) x c) same w
