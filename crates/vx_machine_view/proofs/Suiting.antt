-- Each strategy gives a form whose children have the types of what they are handed.
use Rattle.std.proofs.Common.{◌≡◌, ◌∷◌, refl, if◌then◌else◌, ◌++◌, Bool, true, false, ℕ, List, Some, None, []}
use Rattle.vx_model.specs.Ty.{Ty, Tys, boolean, primitive, utf8, binary, list, struct, extension, no_fields, field}
use Rattle.vx_strategy_spec.specs.StrategyData.{StrategyData, StrategyList, Wraps, flat, chunked, grouped, compressed, coded, zoned, structured, listed, tabled, no_ways, way_at, no_wraps, wrap_grouped, wrap_zoned}
use Rattle.vx_strategy_spec.specs.Walk.{Named, Around, same_names, find, chosen, field_nodes, in_lists, of_table, of_tables, walk, walk_named, walk_wraps}
use Rattle.vx_rules.specs.Columns.{offset_type}
use Rattle.vx_rules.specs.Runs.{DictOptions, code_type}
use Rattle.vx_model.specs.ChunkData.{is_dict_type}
use Rattle.vx_machine_turns.specs.Forms.{Form, dict_form, forms_of, form_nodes, form_type}
use Rattle.vx_machine_turns.proofs.Fueled.{fuel_is_enough}
use Rattle.vx_machine_view.specs.Suited.{Suited, AllSuited, FormsAreSuited}

-- of the type that it is walked at
abbrev Fits : (Ty → Form) → Type 0
Fits f = (t : Ty) → (form_type (f t) ≡ t) × Suited (f t)

abbrev AllFit : Named Form → Type 0
AllFit [] = Unit {0}
AllFit (w ∷ ws) = Fits w.1 × AllFit ws

chosen_fits : (path : List (List ℕ)) (ws : Named Form) (t : Ty) (k : Form) → AllFit ws → (form_type k ≡ t) × Suited k → (form_type (chosen (find path ws) t k) ≡ t) × Suited (chosen (find path ws) t k)
chosen_fits path [] t k h e = e
chosen_fits path (w ∷ ws) t k h e = by (same_names path w.0) (chosen_fits path ws t k h.1 e)
  where
    by : (b : Bool) → (form_type (chosen (find path ws) t k) ≡ t) × Suited (chosen (find path ws) t k)
        → (form_type (chosen (if b then Some w.1 else find path ws) t k) ≡ t) × Suited (chosen (if b then Some w.1 else find path ws) t k)
    by true r = h.0 t
    by false r = r

fields_fit : (d : Ty → Form) (ws : Named Form) → Fits d → AllFit ws → (fs : Tys) → AllSuited fs (forms_of (field_nodes d ws fs))
fields_fit d ws h all no_fields = tt
fields_fit d ws h all (field name t fs) =
    let k : (form_type (chosen (find (name ∷ []) ws) t (d t)) ≡ t) × Suited (chosen (find (name ∷ []) ws) t (d t)) = chosen_fits (name ∷ []) ws t (d t) all (h t) in
    (k.0, k.1, fields_fit d ws h all fs)

-- ---- tables

-- wrappers that keep what they wrap
abbrev AroundFits : Around Form → Type 0
AroundFits None = Unit {0}
AroundFits (Some f) = (t : Ty) (k : Form) → (form_type k ≡ t) × Suited k → (form_type (f t k) ≡ t) × Suited (f t k)

in_lists_fit : (a : Around Form) (t : Ty) (leaf k : Form) → AroundFits a → (form_type leaf ≡ t) × Suited leaf → (form_type k ≡ t) × Suited k
    → (form_type (in_lists a t leaf k) ≡ t) × Suited (in_lists a t leaf k)
in_lists_fit None t leaf k h l e = l
in_lists_fit (Some f) t leaf k h l e = h t k e

around_fits : (lists : Bool) (ws : Wraps) → AroundFits (Some (walk_wraps form_nodes ws)) → AroundFits (if lists then Some (walk_wraps form_nodes ws) else None)
around_fits true ws h = h
around_fits false ws h = tt

mutual
  table_fits : (v l : Ty → Form) (a : Around Form) (ws : Named Form) (walked : List (List ℕ)) → Fits v → Fits l → AroundFits a → AllFit ws → (t : Ty)
      → (form_type (of_table form_nodes v l a ws walked t) ≡ t) × Suited (of_table form_nodes v l a ws walked t)
  table_fits v l a ws walked hv hl ha all (struct fs n) = (refl, ((hv (boolean false)).0, (hv (boolean false)).1, tables_fit v l a ws walked hv hl ha all fs))
  table_fits v l a ws walked hv hl ha all (list t n) =
      let k : (form_type (of_table form_nodes v l a [] [] t) ≡ t) × Suited (of_table form_nodes v l a [] [] t) = table_fits v l a [] [] hv hl ha tt t in
      in_lists_fit a (list t n) (l (list t n)) (form_nodes.on_list t n (of_table form_nodes v l a [] [] t) (l offset_type) (v (boolean false))) ha (hl (list t n))
      (refl, (k.0, k.1, (hl offset_type).0, (hl offset_type).1, (hv (boolean false)).0, (hv (boolean false)).1))
  table_fits v l a ws walked hv hl ha all (boolean n) = hl (boolean n)
  table_fits v l a ws walked hv hl ha all (primitive p n) = hl (primitive p n)
  table_fits v l a ws walked hv hl ha all (utf8 n) = hl (utf8 n)
  table_fits v l a ws walked hv hl ha all (binary n) = hl (binary n)
  table_fits v l a ws walked hv hl ha all (extension tag t) = hl (extension tag t)

  tables_fit : (v l : Ty → Form) (a : Around Form) (ws : Named Form) (walked : List (List ℕ)) → Fits v → Fits l → AroundFits a → AllFit ws → (fs : Tys)
      → AllSuited fs (forms_of (of_tables form_nodes v l a ws walked fs))
  tables_fit v l a ws walked hv hl ha all no_fields = tt
  tables_fit v l a ws walked hv hl ha all (field name t fs) =
      let k : (form_type (chosen (find (walked ++ (name ∷ [])) ws) t (of_table form_nodes v l a ws (walked ++ (name ∷ [])) t)) ≡ t)
      × Suited (chosen (find (walked ++ (name ∷ [])) ws) t (of_table form_nodes v l a ws (walked ++ (name ∷ [])) t)) =
      chosen_fits (walked ++ (name ∷ [])) ws t (of_table form_nodes v l a ws (walked ++ (name ∷ [])) t) all (table_fits v l a ws (walked ++ (name ∷ [])) hv hl ha all t) in
      (k.0, k.1, tables_fit v l a ws walked hv hl ha all fs)

-- ---- all

-- of a type that no dictionary can hold it is its fallback
dict_suited : (o : DictOptions) (c v f : StrategyData) (t : Ty) (b : Bool) → Suited (walk form_nodes c (code_type o)) → Suited (walk form_nodes v t) → Suited (walk form_nodes f t)
    → Suited (if b then dict_form o t (walk form_nodes c (code_type o)) (walk form_nodes v t) (walk form_nodes f t) else walk form_nodes f t)
dict_suited o c v f t true x y z = ((fuel_is_enough c (code_type o)).0, x, (fuel_is_enough v t).0, y, (fuel_is_enough f t).0, z)
dict_suited o c v f t false x y z = z

mutual
  suited : (w : StrategyData) (t : Ty) → Suited (walk form_nodes w t)
  suited (flat o) t = tt
  suited (chunked w) t = ((fuel_is_enough w t).0, suited w t)
  suited (structured v d ws) (struct fs n) = (
    (fuel_is_enough v (boolean false)).0,
    suited v (boolean false),
    fields_fit (walk form_nodes d) (walk_named form_nodes ws) (λ t. ((fuel_is_enough d t).0, suited d t)) (all_suited ws) fs,
  )
  suited (structured v d ws) (boolean n) = tt
  suited (structured v d ws) (primitive p n) = tt
  suited (structured v d ws) (utf8 n) = tt
  suited (structured v d ws) (binary n) = tt
  suited (structured v d ws) (list t n) = tt
  suited (structured v d ws) (extension tag t) = tt
  suited (grouped g w) t = ((fuel_is_enough w t).0, suited w t)
  suited (compressed which room w) t = ((fuel_is_enough w t).0, suited w t)
  suited (coded o c v f) t = dict_suited o c v f t (is_dict_type t) (suited c (code_type o)) (suited v t) (suited f t)
  suited (zoned o w stats) t = ((fuel_is_enough w t).0, suited w t, λ u. ((fuel_is_enough stats u).0, suited stats u))
  suited (listed e o v f) (list t n) =
      ((fuel_is_enough e t).0, suited e t, (fuel_is_enough o offset_type).0, suited o offset_type, (fuel_is_enough v (boolean false)).0, suited v (boolean false))
  suited (listed e o v f) (boolean n) = suited f (boolean n)
  suited (listed e o v f) (primitive p n) = suited f (primitive p n)
  suited (listed e o v f) (utf8 n) = suited f (utf8 n)
  suited (listed e o v f) (binary n) = suited f (binary n)
  suited (listed e o v f) (struct fs n) = suited f (struct fs n)
  suited (listed e o v f) (extension tag t) = suited f (extension tag t)
  suited (tabled v l ws lists wraps) t =
      (table_fits (walk form_nodes v) (walk form_nodes l) (if lists then Some (walk_wraps form_nodes wraps) else None) (walk_named form_nodes ws) []
      (λ u. ((fuel_is_enough v u).0, suited v u)) (λ u. ((fuel_is_enough l u).0, suited l u)) (around_fits lists wraps (wraps_fit wraps)) (all_suited ws) t).1

  all_suited : (ws : StrategyList) → AllFit (walk_named form_nodes ws)
  all_suited no_ways = tt
  all_suited (way_at path w ws) = (λ t. ((fuel_is_enough w t).0, suited w t), all_suited ws)

  -- wrappers keep what they wrap
  wraps_fit : (ws : Wraps) → AroundFits (Some (walk_wraps form_nodes ws))
  wraps_fit no_wraps t k h = h
  wraps_fit (wrap_grouped g ws) t k h = let r : (form_type (walk_wraps form_nodes ws t k) ≡ t) × Suited (walk_wraps form_nodes ws t k) = wraps_fit ws t k h in (r.0, r)
  wraps_fit (wrap_zoned o stats ws) t k h =
      let r : (form_type (walk_wraps form_nodes ws t k) ≡ t) × Suited (walk_wraps form_nodes ws t k) = wraps_fit ws t k h in
      (r.0, (r.0, r.1, λ u. ((fuel_is_enough stats u).0, suited stats u)))

pub forms_are_suited : FormsAreSuited
forms_are_suited w t = suited w t
