-- A strategy at a type, with all choices by type made: a tree of nodes.
use Rattle.std.specs.Prelude.{ℕ, Bool, List, [], ◌∷◌, Option}
use Rattle.vx_model.specs.Ty.{Ty, Tys, struct, list}
use Rattle.vx_rules.specs.Runs.{DictOptions}
use Rattle.vx_strategy_spec.specs.StrategyData.{FlatOptions, ZonedOptions, Grouping}
use Rattle.vx_strategy_spec.specs.Walk.{Nodes}

mutual
  pub data Form : Type 0 where
    flat_form : FlatOptions → Ty → Form
    chunked_form : Ty → Form → Form
    grouped_form : Grouping → Ty → Form → Form
    -- the compressor's number, and how many chunks may wait behind it
    compressed_form : ℕ → ℕ → Ty → Form → Form
    -- codes, values, fallback
    dict_form : DictOptions → Ty → Form → Form → Form → Form
    -- child, and the table at any type
    zoned_form : ZonedOptions → Ty → Form → (Ty → Form) → Form
    -- of a type that is no struct
    no_struct_form : Ty → Form
    -- fields, nullable, the first repeated name, validity, each field
    struct_form : Tys → Bool → Option (List ℕ) → Form → Forms → Form
    -- elements' type, nullable, elements, offsets, validity
    list_form : Ty → Bool → Form → Form → Form → Form

  pub data Forms : Type 0 where
    no_forms : Forms
    form_then : Form → Forms → Forms

abbrev pub forms_of : List Form → Forms
forms_of [] = no_forms
forms_of (f ∷ fs) = form_then f (forms_of fs)

-- each node is itself
abbrev pub form_nodes : Nodes Form
form_nodes = record {
  on_flat = λ o t. flat_form o t;
  on_chunked = λ t k. chunked_form t k;
  on_grouped = λ g t k. grouped_form g t k;
  on_compressed = λ which room t k. compressed_form which room t k;
  on_dict = λ o t c v f. dict_form o t c v f;
  on_zoned = λ o t k stats. zoned_form o t k stats;
  on_not_struct = λ t. no_struct_form t;
  on_struct = λ fs n name v ks. struct_form fs n name v (forms_of ks);
  on_list = λ t n e o v. list_form t n e o v;
}

-- the type of its stream; of a node that hands its stream on, its child's
abbrev pub form_type : Form → Ty
form_type (flat_form o t) = t
form_type (chunked_form t k) = t
form_type (grouped_form g t k) = form_type k
form_type (compressed_form which room t k) = form_type k
form_type (dict_form o t c v f) = t
form_type (zoned_form o t k stats) = form_type k
form_type (no_struct_form t) = t
form_type (struct_form fs n name v ks) = struct fs n
form_type (list_form t n e o v) = list t n

-- a column's mark and form
abbrev pub Writer : Type 0
Writer = Bool × Form
