-- What a parser answers is spelled as its bytes.
use Rattle.std.proofs.Common.{◌≡◌, ℕ, ◌^◌, ◌∙◌, Bool, true, false, List, length, Result, Ok, Err, refl, sym, subst}
use Rattle.std.specs.Prelude.{◌&&◌, not, nat_lt, IfOk, OnOk, IsTrue}
use Rattle.vx_model.specs.Ty.{Ty}
use Rattle.vx_session.specs.Ids.{are_distinct, is_context}
use Rattle.vx_session.specs.Scope.{Scope}
use Rattle.vx_session.specs.Builder.{builder}
use Rattle.vx_layout_bytes.specs.Node.{Node}
use Rattle.vx_layout_bytes.specs.Reading.{Fault, root_at}
use Rattle.vx_layout_bytes.specs.Spelled.{spelling}
use Rattle.vx_layout_bytes.specs.Values.{AreBytes, IsWithin}
use Rattle.vx_layout_bytes.proofs.NodeLaws.{root_again, root_takes}
use Rattle.vx_layout_tree.specs.Views.{Gives}
use Rattle.vx_layout_tree.specs.LayoutView.{layout_data}
use Rattle.vx_layout_tree.specs.declared.layout.Layout.{Layout}
use Rattle.vx_layout_tree.specs.declared.error.LayoutError.{LayoutError}
use Rattle.vx_layout_codec_spec.specs.Permitted.{built}
use Rattle.vx_layout_codec_spec.specs.Bytes.{bytes_in}
use Rattle.vx_layout_codec_spec.specs.Parsed.{parsed, built_at, node_or_refusal, refused_by, ParsedWithin}
use Rattle.vx_layout_codec_spec.proofs.SpelledAgain.{the_law}

pub distinct_of : (ids : List (List ℕ)) → IsTrue (is_context ids) → are_distinct ids ≡ true
distinct_of ids h = both (not (nat_lt (2 ^ 16) (length ids))) (are_distinct ids) h
  where
    both : (a b : Bool) → IsTrue (a && b) → b ≡ true
    both true b h = h
    both false b h = absurd (cc h)

pub answer_again : (s : Scope) (t : Ty) (deep nodes : ℕ) (bytes : List ℕ) (r : Result Layout LayoutError) → IsTrue (is_context s.ids) → OnOk r (AreBytes bytes) → Gives layout_data r (parsed s t deep nodes bytes)
    → IfOk r (λ l. built (layout_data l) ≡ Ok tt → bytes_in s.ids (layout_data l) ≡ Ok bytes)
answer_again s t deep nodes bytes (Ok l) d fits h = λ b. the_law s t deep nodes bytes (layout_data l) (distinct_of s.ids d) fits h b
answer_again s t deep nodes bytes (Err e) d fits h = tt

pub answer_within : (s : Scope) (t : Ty) (deep nodes : ℕ) (bytes : List ℕ) (r : Result Layout LayoutError) → OnOk r (AreBytes bytes) → Gives layout_data r (parsed s t deep nodes bytes)
    → IfOk r (λ l. ParsedWithin s t deep nodes bytes (layout_data l))
answer_within s t deep nodes bytes (Ok l) fits h = go (root_at deep nodes bytes) refl
  where
    go : (r : Result Node Fault) → root_at deep nodes bytes ≡ r → ParsedWithin s t deep nodes bytes (layout_data l)
    go (Ok n) is =
        let found = root_takes deep nodes bytes n fits is in
        let p : parsed s t deep nodes bytes ≡ builder s n t = rw is refl in
        record { node = n; within = found.0; spelled = found.1; built = sym p ∙ h }
    go (Err fault) is = let p : parsed s t deep nodes bytes ≡ Err (refused_by fault) = rw is refl in absurd (cc (p, h))
answer_within s t deep nodes bytes (Err e) fits h = tt

pub answer_only : (s : Scope) (t : Ty) (deep nodes : ℕ) (bytes : List ℕ) (r : Result Layout LayoutError) → Gives layout_data r (parsed s t deep nodes bytes)
    → (n : Node) → IsWithin deep nodes n → spelling n ≡ bytes → Gives layout_data r (builder s n t)
answer_only s t deep nodes bytes r h n within spelled =
    subst (λ (read : Result Node Fault). Gives layout_data r (built_at s t (node_or_refusal read))) (root_again deep nodes bytes n within spelled) h
