-- How deep a tree of tasks may grow: a tree that branches by the type of what is started, since data decide a zone
-- table's type.
use Rattle.std.specs.Prelude.{Some, None}
use Rattle.vx_model.specs.Ty.{Ty}
use Rattle.vx_machine_turns.specs.Forms.{Form, Forms, flat_form, chunked_form, grouped_form, compressed_form, dict_form, zoned_form, no_struct_form, struct_form, list_form, no_forms, form_then, form_type}

pub data Fuel : Type 0 where
  spent : Fuel
  fuel : (Ty → Fuel) → Fuel

-- below a task of the type
abbrev pub less : Fuel → Ty → Fuel
less spent t = spent
less (fuel g) t = g t

-- at least both
abbrev pub join : Fuel → Fuel → Fuel
join spent e = e
join (fuel f) spent = fuel f
join (fuel f) (fuel g) = fuel (λ t. join (f t) (g t))

abbrev mutual
  pub fuel_of : Form → Fuel
  fuel_of (flat_form o t) = spent
  fuel_of (chunked_form t k) = fuel (λ u. fuel_of k)
  fuel_of (grouped_form g t k) = fuel (λ u. fuel_of k)
  fuel_of (compressed_form which room t k) = fuel (λ u. fuel (λ x. fuel_of k))
  fuel_of (dict_form o t c v f) = fuel (λ u. join (fuel_of c) (join (fuel_of v) (fuel_of f)))
  fuel_of (zoned_form o t k stats) = join (fuel_of k) (fuel (λ u. join (fuel_of k) (fuel_of (stats u))))
  fuel_of (no_struct_form t) = spent
  fuel_of (struct_form fs n (Some name) v ks) = spent
  fuel_of (struct_form fs n None v ks) = fuel (λ u. join (fuel_of v) (fuels_of ks))
  fuel_of (list_form t n e o v) = fuel (λ u. join (fuel_of e) (join (fuel_of o) (fuel_of v)))

  pub fuels_of : Forms → Fuel
  fuels_of no_forms = spent
  fuels_of (form_then f fs) = join (fuel_of f) (fuels_of fs)

-- Of a form's whole machine: it has the source, and below that the root, whose fuel is the form's.
abbrev pub whole_fuel : Form → Fuel
whole_fuel f = fuel (λ t. fuel (λ u. fuel_of f))

-- one level further down
abbrev pub Through : (Fuel → Type 0) → Ty → Fuel → Type 0
Through P t spent = ⊥
Through P t (fuel g) = P (g t)

-- A form's task and all below it can stand at this fuel. A marked zoned node is its child; between a compressing node and
-- its child stands one more task.
abbrev mutual
  pub Enough : Fuel → Form → Type 0
  Enough d (flat_form o t) = Unit {0}
  Enough spent (chunked_form t k) = ⊥
  Enough (fuel g) (chunked_form t k) = Enough (g (form_type k)) k
  Enough spent (grouped_form g t k) = ⊥
  Enough (fuel g) (grouped_form r t k) = Enough (g (form_type k)) k
  Enough spent (compressed_form which room t k) = ⊥
  Enough (fuel g) (compressed_form which room t k) = Through (λ d. Enough d k) (form_type k) (g (form_type k))
  Enough spent (dict_form o t c v f) = ⊥
  Enough (fuel g) (dict_form o t c v f) = Enough (g (form_type c)) c × Enough (g (form_type v)) v × Enough (g (form_type f)) f
  Enough spent (zoned_form o t k stats) = ⊥
  Enough (fuel g) (zoned_form o t k stats) = Enough (fuel g) k × Enough (g (form_type k)) k × ((u : Ty) → Enough (g (form_type (stats u))) (stats u))
  Enough d (no_struct_form t) = Unit {0}
  Enough d (struct_form fs n (Some name) v ks) = Unit {0}
  Enough spent (struct_form fs n None v ks) = ⊥
  Enough (fuel g) (struct_form fs n None v ks) = Enough (g (form_type v)) v × AllEnough g ks
  Enough spent (list_form t n e o v) = ⊥
  Enough (fuel g) (list_form t n e o v) = Enough (g (form_type e)) e × Enough (g (form_type o)) o × Enough (g (form_type v)) v

  pub AllEnough : (Ty → Fuel) → Forms → Type 0
  AllEnough g no_forms = Unit {0}
  AllEnough g (form_then f fs) = Enough (g (form_type f)) f × AllEnough g fs
