-- What the bytes of an input ask the command `tree` to show.
use Rattle.std.specs.Prelude.{ℕ, Bool, false, List, [], ◌∷◌, codes, Option, Some, None, option_and_then, Result, Ok, Err}
use Rattle.hex.specs.Hex.{decode_of}
use Rattle.hex.specs.declared.error.FromHexError.{FromHexError}
use Rattle.serde_json.specs.Data.{Data, Members}
use Rattle.serde_json.specs.Find.{get_member, as_bool, as_str}
use Rattle.vx_model.specs.declared.encoding.EncodingId.{EncodingId}
use Rattle.vx_model.specs.Ty.{Ty}
use Rattle.vx_chunk_json.specs.Types.{type_of}
use Rattle.vx_session.specs.declared.encoding.LayoutEncoding.{LayoutEncoding}
use Rattle.vx_session.specs.Encodings.{kind_of, all_encodings as all_kinds}
use Rattle.vx_session.specs.Ids.{is_context}
use Rattle.vx_json.specs.Steps.{when}
use Rattle.vx_json.specs.Values.{all, whole, whole_below}
use Rattle.vx_job.specs.declared.error.Key.{Key}
use Rattle.vx_job.specs.declared.error.Key.TheVariants as places
use Rattle.vx_job.specs.JobParts.{or_default}
use Rattle.vx_job.specs.JobText.{found, and_then, object_of, json_of, encodings_in}

-- how the bytes are read
pub record TreeOptions : Type 0 where
  pub encodings : List EncodingId
  -- the kinds that are known
  pub registered : List LayoutEncoding
  -- whether other kinds, and tables of other aggregates, are kept as they are found
  pub allow_unknown : Bool
  -- how deep the tree may be, and how many nodes it may have
  pub depth : ℕ
  pub nodes : ℕ

pub record TreeData : Type 0 where
  pub dtype : Ty
  pub bytes : List ℕ
  -- the ids that nodes name by their places
  pub layouts : List (List ℕ)
  pub options : TreeOptions

abbrev pub tree_keys : List (List ℕ)
tree_keys = codes "dtype" ∷ codes "bytes" ∷ codes "layouts" ∷ codes "encodings" ∷ codes "registered" ∷ codes "allow_unknown" ∷ codes "depth" ∷ codes "nodes" ∷ []

-- ---- values

abbrev pub decoded : Result (List ℕ) FromHexError → Option (List ℕ)
decoded (Ok bytes) = Some bytes
decoded (Err e) = None

abbrev pub hex_of : List ℕ → Option (List ℕ)
hex_of text = decoded (decode_of text)

-- hex text, of lower and upper case
unfoldable pub bytes_of : Data → Option (List ℕ)
bytes_of d = option_and_then hex_of (as_str d)

abbrev pub context_in : List (List ℕ) → Option (List (List ℕ))
context_in ids = when (is_context ids) (Some ids)

-- distinct ids, at most 65,536
unfoldable pub layouts_of : Data → Option (List (List ℕ))
layouts_of d = option_and_then context_in (all as_str d)

abbrev pub kind_named : List ℕ → Option LayoutEncoding
kind_named name = kind_of name all_kinds

-- the kind of an id
unfoldable pub layout_kind_of : Data → Option LayoutEncoding
layout_kind_of d = option_and_then kind_named (as_str d)

-- ---- one key after the other

unfoldable pub dtype_in : Members → Result Ty Key
dtype_in ms = found places.Dtype (option_and_then type_of (get_member (codes "dtype") ms))

unfoldable pub bytes_in : Members → Result (List ℕ) Key
bytes_in ms = found places.Bytes (option_and_then bytes_of (get_member (codes "bytes") ms))

unfoldable pub layouts_in : Members → Result (List (List ℕ)) Key
layouts_in ms = found places.Layouts (option_and_then layouts_of (get_member (codes "layouts") ms))

unfoldable pub registered_in : Members → Result (List LayoutEncoding) Key
registered_in ms = found places.Registered (or_default all_kinds (all layout_kind_of) (get_member (codes "registered") ms))

unfoldable pub allow_unknown_in : Members → Result Bool Key
allow_unknown_in ms = found places.AllowUnknown (or_default false as_bool (get_member (codes "allow_unknown") ms))

-- at most 1,024
unfoldable pub depth_in : Members → Result ℕ Key
depth_in ms = found places.Depth (or_default 64 (whole_below 1025) (get_member (codes "depth") ms))

unfoldable pub nodes_in : Members → Result ℕ Key
nodes_in ms = found places.Nodes (or_default 1000000 whole (get_member (codes "nodes") ms))

unfoldable pub tree_options_in : Members → Result TreeOptions Key
tree_options_in ms =
    and_then (encodings_in ms) (λ ids. and_then (registered_in ms) (λ kinds. and_then (allow_unknown_in ms) (λ allow. and_then (depth_in ms) (λ depth. and_then (nodes_in ms) (λ nodes.
    Ok (record { encodings = ids; registered = kinds; allow_unknown = allow; depth = depth; nodes = nodes }))))))

-- the keys are checked in order, and the first that is missing or wrong is told
unfoldable pub tree_in : Members → Result TreeData Key
tree_in ms =
    and_then (dtype_in ms) (λ dtype. and_then (bytes_in ms) (λ bytes. and_then (layouts_in ms) (λ layouts. and_then (tree_options_in ms) (λ options.
    Ok (record { dtype = dtype; bytes = bytes; layouts = layouts; options = options })))))

unfoldable pub tree_of : Data → Result TreeData Key
tree_of d = and_then (object_of tree_keys d) tree_in

-- what the bytes ask for, or the first key at fault
abbrev pub tree_job : List ℕ → Result TreeData Key
tree_job bytes = and_then (json_of bytes) tree_of
