-- Forms of which each child has the type of what it is handed, as those of every strategy.
use Rattle.std.specs.Prelude.{◌≡◌, Bool, true, false, List, [], ◌∷◌}
use Rattle.vx_model.specs.Ty.{Ty, Tys, boolean, no_fields, field}
use Rattle.vx_rules.specs.Columns.{offset_type}
use Rattle.vx_rules.specs.Runs.{code_type}
use Rattle.vx_strategy_spec.specs.StrategyData.{StrategyData}
use Rattle.vx_strategy_spec.specs.Walk.{walk}
use Rattle.vx_machine_turns.specs.Forms.{Form, Forms, flat_form, chunked_form, grouped_form, compressed_form, dict_form, zoned_form, no_struct_form, struct_form, list_form, no_forms, form_then, form_type, form_nodes}

-- the types of a struct's columns: validity where it is nullable, then the fields

abbrev pub field_types : Tys → List Ty
field_types no_fields = []
field_types (field name t fs) = t ∷ field_types fs

abbrev pub column_types : Tys → Bool → List Ty
column_types fs true = boolean false ∷ field_types fs
column_types fs false = field_types fs

-- the types of a list's columns: elements, offsets, and validity where it is nullable
abbrev pub list_types : Ty → Bool → List Ty
list_types t true = t ∷ offset_type ∷ boolean false ∷ []
list_types t false = t ∷ offset_type ∷ []

-- each child, and so on down, has the type of what it is handed
abbrev mutual
  pub Suited : Form → Type 0
  Suited (flat_form o t) = Unit {0}
  Suited (chunked_form t k) = (form_type k ≡ t) × Suited k
  Suited (grouped_form g t k) = (form_type k ≡ t) × Suited k
  Suited (struct_form fs n name v ks) = (form_type v ≡ boolean false) × Suited v × AllSuited fs ks
  Suited (no_struct_form t) = Unit {0}
  Suited (compressed_form which room t k) = (form_type k ≡ t) × Suited k
  Suited (dict_form o t c v f) = (form_type c ≡ code_type o) × Suited c × (form_type v ≡ t) × Suited v × (form_type f ≡ t) × Suited f
  Suited (zoned_form o t k stats) = (form_type k ≡ t) × Suited k × ((u : Ty) → (form_type (stats u) ≡ u) × Suited (stats u))
  Suited (list_form t n es os v) = (form_type es ≡ t) × Suited es × (form_type os ≡ offset_type) × Suited os × (form_type v ≡ boolean false) × Suited v

  pub AllSuited : Tys → Forms → Type 0
  AllSuited no_fields no_forms = Unit {0}
  AllSuited no_fields (form_then f ks) = ⊥
  AllSuited (field name t fs) no_forms = ⊥
  AllSuited (field name t fs) (form_then f ks) = (form_type f ≡ t) × Suited f × AllSuited fs ks

-- so it is in every strategy's form
abbrev pub FormsAreSuited : Type 0
FormsAreSuited = (w : StrategyData) (t : Ty) → Suited (walk form_nodes w t)
