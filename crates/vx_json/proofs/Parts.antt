-- Members and items of JSON values.
use Rattle.std.proofs.Common.{◌≡◌, List, [], ◌∷◌, length, Some, None, refl, arith, String, Global, string_bytes}
use Rattle.std.specs.Prelude.{slice_get}
use Rattle.serde_json.specs.View.{view, items_view, members_view}
use Rattle.serde_json.specs.declared.value.Value.{Value}
use Rattle.serde_json.proofs.Views.{Entry, view-Array, view-Object, members_len-members_view}
use Rattle.vx_json.specs.Values.{one_member, two_items}

pub one_none : (es : List Entry) → (length es ≡ 1 → ⊥) → one_member (members_view es) ≡ None
one_none [] h = refl
one_none (e ∷ []) h = absurd (h refl)
one_none (e ∷ f ∷ es) h = refl

pub one_some : (es : List Entry) (k : String Global) (v : Value) → length es ≡ 1 → slice_get es 0 ≡ Some (k, v) → one_member (members_view es) ≡ Some (string_bytes k, view v)
one_some [] k v h e = absurd (omega arith)
one_some (x ∷ []) k v h e = let s : x ≡ (k, v) = cc in rw s refl
one_some (x ∷ y ∷ es) k v h e = absurd (omega arith)

pub not_two : (vs : List Value) → (length vs ≡ 2 → ⊥) → two_items (items_view vs) ≡ None
not_two [] other = refl
not_two (a ∷ []) other = refl
not_two (a ∷ b ∷ []) other = absurd (other refl)
not_two (a ∷ b ∷ c ∷ vs) other = refl

pub ruleset part_rules = (not_two, view-Array, view-Object, members_len-members_view)

pub ruleset member_rules = (view-Array, view-Object, members_len-members_view, one_none, one_some)
