-- The fuel of a form is enough.
use Rattle.std.proofs.Common.{◌≡◌, ℕ, Bool, false, List, [], ◌∷◌, Option, Some, None, refl, sym, subst}
use Rattle.std.proofs.lemmas.Bool.{true≢false}
use Rattle.vx_model.specs.Ty.{Ty, Tys, no_fields, field}
use Rattle.vx_strategy_spec.specs.StrategyData.{ZonedOptions}
use Rattle.vx_strategy_spec.specs.Walk.{walk}
use Rattle.vx_plan.proofs.Relate.{Agree, relate, Both}
use Rattle.vx_machine_turns.specs.Forms.{Form, Forms, flat_form, chunked_form, grouped_form, compressed_form, dict_form, zoned_form, no_struct_form, struct_form, list_form, no_forms, form_then, forms_of, form_nodes, form_type}
use Rattle.vx_machine_turns.specs.Fuels.{Fuel, spent, fuel, join, fuel_of, fuels_of, Through, Enough, AllEnough}
use Rattle.vx_machine_turns.specs.Planned.{FuelIsEnough}

from_spent : (b : Fuel) (f : Form) → Enough spent f → Enough b f
from_spent spent f h = h
from_spent (fuel g) (flat_form o t) h = tt
from_spent (fuel g) (chunked_form t k) h = absurd h
from_spent (fuel g) (grouped_form r t k) h = absurd h
from_spent (fuel g) (compressed_form which room t k) h = absurd h
from_spent (fuel g) (dict_form o t c v f) h = absurd h
from_spent (fuel g) (zoned_form o t k stats) h = absurd h
from_spent (fuel g) (no_struct_form t) h = tt
from_spent (fuel g) (struct_form fs n (Some a) v ks) h = tt
from_spent (fuel g) (struct_form fs n None v ks) h = absurd h
from_spent (fuel g) (list_form t n e o v) h = absurd h

left_through : (P : Fuel → Type 0) → ((a b : Fuel) → P a → P (join a b)) → (t : Ty) (a b : Fuel) → Through P t a → Through P t (join a b)
left_through P m t spent b h = absurd h
left_through P m t (fuel x) spent h = h
left_through P m t (fuel x) (fuel y) h = m (x t) (y t) h

right_through : (P : Fuel → Type 0) → ((a b : Fuel) → P b → P (join a b)) → (t : Ty) (a b : Fuel) → Through P t b → Through P t (join a b)
right_through P m t spent b h = h
right_through P m t (fuel x) spent h = absurd h
right_through P m t (fuel x) (fuel y) h = m (x t) (y t) h

mutual
  left_enough : (a b : Fuel) (f : Form) → Enough a f → Enough (join a b) f
  left_enough spent b f h = from_spent b f h
  left_enough (fuel x) spent f h = h
  left_enough (fuel x) (fuel y) (flat_form o t) h = tt
  left_enough (fuel x) (fuel y) (chunked_form t k) h = left_enough (x (form_type k)) (y (form_type k)) k h
  left_enough (fuel x) (fuel y) (grouped_form r t k) h = left_enough (x (form_type k)) (y (form_type k)) k h
  left_enough (fuel x) (fuel y) (compressed_form which room t k) h = left_through (λ d. Enough d k) (λ a b h. left_enough a b k h) (form_type k) (x (form_type k)) (y (form_type k)) h
  left_enough (fuel x) (fuel y) (dict_form o t c v f) h =
      (left_enough (x (form_type c)) (y (form_type c)) c h.0, left_enough (x (form_type v)) (y (form_type v)) v h.1, left_enough (x (form_type f)) (y (form_type f)) f h.2)
  left_enough (fuel x) (fuel y) (zoned_form o t k stats) h =
      (left_enough (fuel x) (fuel y) k h.0, left_enough (x (form_type k)) (y (form_type k)) k h.1, λ u. left_enough (x (form_type (stats u))) (y (form_type (stats u))) (stats u) (h.2 u))
  left_enough (fuel x) (fuel y) (no_struct_form t) h = tt
  left_enough (fuel x) (fuel y) (struct_form fs n (Some a) v ks) h = tt
  left_enough (fuel x) (fuel y) (struct_form fs n None v ks) h = (left_enough (x (form_type v)) (y (form_type v)) v h.0, left_all x y ks h.1)
  left_enough (fuel x) (fuel y) (list_form t n e o v) h =
      (left_enough (x (form_type e)) (y (form_type e)) e h.0, left_enough (x (form_type o)) (y (form_type o)) o h.1, left_enough (x (form_type v)) (y (form_type v)) v h.2)

  left_all : (x y : Ty → Fuel) (fs : Forms) → AllEnough x fs → AllEnough (λ t. join (x t) (y t)) fs
  left_all x y no_forms h = tt
  left_all x y (form_then f fs) h = (left_enough (x (form_type f)) (y (form_type f)) f h.0, left_all x y fs h.1)

mutual
  right_enough : (a b : Fuel) (f : Form) → Enough b f → Enough (join a b) f
  right_enough spent b f h = h
  right_enough (fuel x) spent f h = from_spent (fuel x) f h
  right_enough (fuel x) (fuel y) (flat_form o t) h = tt
  right_enough (fuel x) (fuel y) (chunked_form t k) h = right_enough (x (form_type k)) (y (form_type k)) k h
  right_enough (fuel x) (fuel y) (grouped_form r t k) h = right_enough (x (form_type k)) (y (form_type k)) k h
  right_enough (fuel x) (fuel y) (compressed_form which room t k) h = right_through (λ d. Enough d k) (λ a b h. right_enough a b k h) (form_type k) (x (form_type k)) (y (form_type k)) h
  right_enough (fuel x) (fuel y) (dict_form o t c v f) h =
      (right_enough (x (form_type c)) (y (form_type c)) c h.0, right_enough (x (form_type v)) (y (form_type v)) v h.1, right_enough (x (form_type f)) (y (form_type f)) f h.2)
  right_enough (fuel x) (fuel y) (zoned_form o t k stats) h =
      (right_enough (fuel x) (fuel y) k h.0, right_enough (x (form_type k)) (y (form_type k)) k h.1, λ u. right_enough (x (form_type (stats u))) (y (form_type (stats u))) (stats u) (h.2 u))
  right_enough (fuel x) (fuel y) (no_struct_form t) h = tt
  right_enough (fuel x) (fuel y) (struct_form fs n (Some a) v ks) h = tt
  right_enough (fuel x) (fuel y) (struct_form fs n None v ks) h = (right_enough (x (form_type v)) (y (form_type v)) v h.0, right_all x y ks h.1)
  right_enough (fuel x) (fuel y) (list_form t n e o v) h =
      (right_enough (x (form_type e)) (y (form_type e)) e h.0, right_enough (x (form_type o)) (y (form_type o)) o h.1, right_enough (x (form_type v)) (y (form_type v)) v h.2)

  right_all : (x y : Ty → Fuel) (fs : Forms) → AllEnough y fs → AllEnough (λ t. join (x t) (y t)) fs
  right_all x y no_forms h = tt
  right_all x y (form_then f fs) h = (right_enough (x (form_type f)) (y (form_type f)) f h.0, right_all x y fs h.1)

-- of one form, at its type
record Stands (t : Ty) (f : Form) : Type 0 where
  typed : form_type f ≡ t
  enough : Enough (fuel_of f) f

fields_stand : (fs : Tys) (ks ls : List Form) → Both (λ t k f. Stands t f) fs ks ls → AllEnough (λ u. fuels_of (forms_of ls)) (forms_of ls)
fields_stand no_fields [] [] h = tt
fields_stand no_fields [] (l ∷ ls) h = absurd h
fields_stand no_fields (k ∷ ks) ls h = absurd h
fields_stand (field a t fs) [] ls h = absurd h
fields_stand (field a t fs) (k ∷ ks) [] h = absurd h
fields_stand (field a t fs) (k ∷ ks) (l ∷ ls) h =
    (left_enough (fuel_of l) (fuels_of (forms_of ls)) l h.0.enough, right_all (λ u. fuel_of l) (λ u. fuels_of (forms_of ls)) (forms_of ls) (fields_stand fs ks ls h.1))

zoned_enough : (o : ZonedOptions) (t : Ty) (k : Form) (stats : Ty → Form) (g : Ty → Fuel) (d : Fuel) → Enough d k → Enough (g (form_type k)) k → ((u : Ty) → Enough (g (form_type (stats u))) (stats u)) → Enough (join d (fuel g)) (zoned_form o t k stats)
zoned_enough o t k stats g spent h r q = (from_spent (fuel g) k h, r, q)
zoned_enough o t k stats g (fuel x) h r q =
    (left_enough (fuel x) (fuel g) k h, right_enough (x (form_type k)) (g (form_type k)) k r, λ u. right_enough (x (form_type (stats u))) (g (form_type (stats u))) (stats u) (q u))

struct_enough : (fs : Tys) (n : Bool) (dup : Option (List ℕ)) (v : Form) (ks : Forms) → Enough (fuel_of v) v → AllEnough (λ u. fuels_of ks) ks → Enough (fuel_of (struct_form fs n dup v ks)) (struct_form fs n dup v ks)
struct_enough fs n (Some a) v ks h r = tt
struct_enough fs n None v ks h r = (left_enough (fuel_of v) (fuels_of ks) v h, right_all (λ u. fuel_of v) (λ u. fuels_of ks) ks r)

-- three children at one fuel
three_enough : (a b c : Form) → Enough (fuel_of a) a → Enough (fuel_of b) b → Enough (fuel_of c) c
    → Enough (join (fuel_of a) (join (fuel_of b) (fuel_of c))) a × Enough (join (fuel_of a) (join (fuel_of b) (fuel_of c))) b × Enough (join (fuel_of a) (join (fuel_of b) (fuel_of c))) c
three_enough a b c h i j = (
  left_enough (fuel_of a) (join (fuel_of b) (fuel_of c)) a h,
  right_enough (fuel_of a) (join (fuel_of b) (fuel_of c)) b (left_enough (fuel_of b) (fuel_of c) b i),
  right_enough (fuel_of a) (join (fuel_of b) (fuel_of c)) c (right_enough (fuel_of b) (fuel_of c) c j),
)

all_stand : Agree Form Form form_nodes form_nodes false (λ t k f. Stands t f)
all_stand = record {
  at_flat = λ o t. record { typed = refl; enough = tt };
  at_chunked = λ t k l h. record { typed = refl; enough = h.enough };
  at_grouped = λ g r t k l h. record { typed = h.typed; enough = h.enough };
  at_compressed = λ which room r t k l h. record { typed = h.typed; enough = h.enough };
  at_dict = λ o t is c v f d w g h i j. record { typed = refl; enough = three_enough d w g h.enough i.enough j.enough };
  at_zoned = λ o r t k l f g h i. record {
    typed = h.typed;
    enough = zoned_enough o t l g (λ u. join (fuel_of l) (fuel_of (g u))) (fuel_of l) h.enough (left_enough (fuel_of l) (fuel_of (g (form_type l))) l h.enough)
        (λ u. right_enough (fuel_of l) (fuel_of (g (form_type (g u)))) (g u) (subst (λ z. Enough (fuel_of (g z)) (g u)) (sym (i u).typed) (i u).enough));
  };
  at_not_struct = λ t. record { typed = refl; enough = tt };
  at_struct = λ fs n dup v w ks ls h r. record { typed = refl; enough = struct_enough fs n dup w (forms_of ls) h.enough (fields_stand fs ks ls r) };
  at_list = λ t n e o v f p w h i j. record { typed = refl; enough = three_enough f p w h.enough i.enough j.enough };
}

pub fuel_is_enough : FuelIsEnough
fuel_is_enough w t = let h : Stands t (walk form_nodes w t) = relate Form Form form_nodes form_nodes false (λ t k f. Stands t f) all_stand w (λ e. absurd (true≢false (sym e))) t in (h.typed, h.enough)
