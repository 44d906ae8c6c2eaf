-- The layout of a write is sound in a scope that knows it, so its bytes are built into it.
use Rattle.std.proofs.Common.{◌≡◌, ℕ, true, List, Ok, refl, subst}
use Rattle.vx_model.specs.Ty.{Ty}
use Rattle.vx_layout_spec.specs.LayoutTree.{LayoutData}
use Rattle.vx_session.specs.Scope.{Scope}
use Rattle.vx_layout_codec_spec.specs.Parsed.{parsed}
use Rattle.vx_layout_codec_spec.proofs.ParsedBack.{the_law}
use Rattle.vx_plan.specs.PlanData.{Setting, Plan, row_total}
use Rattle.vx_strategy_spec.specs.StrategyData.{StrategyData}
use Rattle.vx_strategy_spec.specs.Admitted.{is_admitted}
use Rattle.vx_plan.specs.Valid.{Keeps}
use Rattle.vx_path.specs.Path.{root_eof}
use Rattle.vx_plan.specs.SourcePlan.{plan, source_plan, batch_items}
use Rattle.vx_plan.specs.Number.{number_of, numbered}
use Rattle.vx_plan.proofs.Relate.{induct}
use Rattle.vx_plan.proofs.SourceLaws.{items_of}
use Rattle.vx_parse_back_laws.specs.Statements.{WrittenIsParsed}
use Rattle.vx_parse_back_laws.proofs.Layouts.{Written, has_type}
use Rattle.vx_parse_back_laws.proofs.NodeLayouts.{Writes, flat_writes, chunked_writes, grouped_writes, compressed_writes, dict_writes, zoned_writes}
use Rattle.vx_parse_back_laws.proofs.ColumnLayouts.{not_struct_writes, struct_writes, list_writes}

plan_writes : (s : Scope) (f : List ℕ → ℕ) (st : Setting) → Keeps st → (w : StrategyData) → is_admitted w ≡ true → (t : Ty) → Writes s f st t (plan st w t)
plan_writes s f st keeps w ok t = induct st true (λ t k. Writes s f st t k) (record {
  flat_case = λ o t. flat_writes s f st o t;
  chunked_case = λ t k h. chunked_writes s f st t k h;
  grouped_case = λ g a t k h. grouped_writes s f st g t k h;
  compressed_case = λ which room a t k h. compressed_writes s f st keeps which room t k h;
  dict_case = λ o t is c v k x y z. dict_writes s f st o t is c v k x y z;
  zoned_case = λ o a t k g h hs. zoned_writes s f st o (a refl) t k g h hs;
  not_struct_case = λ t. not_struct_writes s f st t;
  struct_case = λ fs n dup v ks h hs. struct_writes s f st fs n dup v ks h hs;
  list_case = λ t n e o v x y z. list_writes s f st t n e o v x y z;
}) w (λ e. ok) t

pub written_is_parsed : WrittenIsParsed
written_is_parsed st s w t m batches first deep nodes bytes keeps ok of clean fit knows within is =
    let p : Plan = source_plan st w t m batches true in
    let l : LayoutData ℕ = numbered p first in
    let h : Written s (number_of p.pairs first) t (row_total (batch_items 0 batches)) p.layout =
    (plan_writes s (number_of p.pairs first) st keeps w ok t).written m (batch_items 0 batches) root_eof (items_of t 0 batches of) clean fit.1 in
    subst (λ u. parsed s u deep nodes bytes ≡ Ok l) (has_type s (number_of p.pairs first) t (row_total (batch_items 0 batches)) p.layout h)
    (the_law s deep nodes l bytes (h.sound knows) within is)
