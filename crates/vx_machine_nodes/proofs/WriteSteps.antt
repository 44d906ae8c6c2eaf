-- What a try to write tells of the sink.
use Rattle.std.proofs.Common.{◌≡◌, ℕ, List, Option, Ok, Err, refl, sym, ap, subst, ◌∙◌, inl, inr}
use Rattle.vx_model.specs.declared.encoding.EncodingId.{EncodingId}
use Rattle.vx_model.specs.Ty.{Ty}
use Rattle.vx_layout_spec.specs.LayoutTree.{flat_layout}
use Rattle.vx_layout_tree.specs.declared.flat.FlatLayout.{FlatLayout}
use Rattle.vx_layout_tree.specs.declared.layout.Layout.{Layout}
use Rattle.vx_layout_tree.specs.declared.layout.Layout.TheVariants as layouts
use Rattle.vx_layout_tree.specs.FlatView.{flat_lay}
use Rattle.vx_layout_tree.specs.LayoutView.{layout_data}
use Rattle.vx_order_answer.specs.declared.receipt.Receipt.{Receipt}
use Rattle.vx_order_answer.specs.declared.errors.OrderError.{OrderError}
use Rattle.vx_order_answer.specs.declared.errors.OrderError.TheVariants as order
use Rattle.vx_order.specs.Outlet.{Outlet, own, shared}
use Rattle.vx_order.specs.Answers.{Tried, Answers, After, Refuses}
use Rattle.vx_order.specs.declared.attempt.Attempt.TheVariants.{Written}
use Rattle.vx_sequence.specs.Universe.{Active}
use Rattle.vx_sequence.specs.declared.ids.SequenceId.{SequenceId}
use Rattle.vx_plan.specs.PlanData.{Setting}
use Rattle.vx_machine_state.specs.State.{append, Next, Mind, Tasks}
use Rattle.vx_write_answer.specs.declared.step.ActionKind.TheVariants as actions
use Rattle.vx_write_answer.specs.Causes.{of_order}
use Rattle.vx_machine_node.specs.declared.item.Stored.{Stored}
use Rattle.vx_machine_node.specs.declared.node.Local.{Local}
use Rattle.vx_machine_node.specs.declared.node.Local.TheVariants.{Made}
use Rattle.vx_machine_state.specs.State as view
use Rattle.vx_machine_nodes.specs.Acting.{IsAppended, AppendRefused, acted, ActDone}
use Rattle.vx_machine_node.specs.Outcome.{Kept}
use Rattle.vx_machine_node.specs.View.{stored_of, mind_of}
use Rattle.vx_machine_node.proofs.Fitting.{none_fit}

-- ---- the sink

pub written_told : (u : Active) (o v : Outlet) (id bytes : List ℕ) (r : Tried) (x : Receipt) → r ≡ Ok (Written x) → Answers u o id r → After o bytes r v → IsAppended o x.number (id, bytes) v
written_told u o v id bytes r x is a w =
    let b = subst (λ (z : Tried). Answers u o id z) is a in
    record { receipt = x; path_is = b.2; number_is = refl; told = b.1; written = subst (λ z. After o bytes z v) is w }

refused_kept : (o v : Outlet) (bytes : List ℕ) (e : SequenceId × OrderError) → After o bytes (Err e) v → Kept o v
refused_kept (own s) (own t) bytes e h = h
refused_kept (own s) (shared t) bytes e h = h
refused_kept (shared s) (own t) bytes e h = h
refused_kept (shared s) (shared t) bytes e h = (h.0, h.1, h.2, h.3, h.4)

-- behind a release of the id
pub then_kept : (o v w : Outlet) (bytes : List ℕ) (e : SequenceId × OrderError) → After o bytes (Err e) v → w ≡ v → Kept o w
then_kept o v w bytes e h is = subst (λ z. Kept o z) (sym is) (refused_kept o v bytes e h)

pub refused_why : (u : Active) (o : Outlet) (id bytes : List ℕ) (e : OrderError) → Refuses u o id e → AppendRefused o (id, bytes) (of_order e)
refused_why u o id bytes (order.TooLarge n) h = inr (inl (((id, bytes), inl refl), h.1))
refused_why u o id bytes order.SinkFault h = ((id, bytes), inl refl)
refused_why u o id bytes order.OutOfMemory h = tt
refused_why u o id bytes (order.Stopped by name) h = (((id, bytes), inl refl), h.1)

-- ---- the layout

pub flat_made : (f : FlatLayout) (t u : Ty) (rows : ℕ) (ids listed : List EncodingId) (tree : Option (List ℕ)) (number n : ℕ) → flat_lay f ≡ flat_layout t rows ids tree number → t ≡ u → ids ≡ listed
    → number ≡ n → layout_data (layouts.Flat f) ≡ flat_layout u rows listed tree n
unfolding layout_data
flat_made f t u rows ids listed tree number n h a b c = h ∙ (λ j. flat_layout (a j) rows (b j) tree (c j))

-- then it is in mind
pub appended_done : (ids : List EncodingId) (n : ℕ) (x : Stored) (l : Layout) (m : Local) (o v : Outlet) → IsAppended o n (x.id, x.segment.bytes.items) v
    → layout_data l ≡ flat_layout (stored_of x).type x.segment.rows ids x.segment.tree n → m ≡ Made l → (s : Setting) (name : List ℕ) (mind : Mind) (ks : Tasks) (left : List Next) → s.encodings ≡ ids
    → ActDone (acted s name n mind ks (append (stored_of x))) o n v (mind_of m) left left ks actions.Append
appended_done ids n x l m o v w g is s name mind ks left same = record {
  unrefused = refl;
  fits = refl;
  counted = none_fit;
  todo_is = refl;
  mind_is = ap mind_of is ∙ ap view.made g ∙ ap (λ z. view.made (flat_layout (stored_of x).type x.segment.rows z x.segment.tree n)) (sym same);
  kids_are = refl;
  kind = refl;
  outlet = w;
}

-- ---- what the sink is told

pub kept_self : (o : Outlet) → Kept o o
kept_self (own s) = (refl, refl, refl)
kept_self (shared s) = (refl, refl, refl, refl, refl)

pub kept_same : (o u : Outlet) → u ≡ o → Kept o u
kept_same o u e = subst (λ z. Kept o z) (sym e) (kept_self o)
