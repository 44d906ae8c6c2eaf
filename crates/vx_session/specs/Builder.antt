-- What a node of bytes is built into.
use Rattle.std.specs.Prelude.{ℕ, Bool, false, if◌then◌else◌, List, [], ◌∷◌, Option, Some, None, Result, Ok, Err}
use Rattle.vx_model.specs.Ty.{Ty}
use Rattle.vx_layout_spec.specs.LayoutTree.{LayoutData, LayoutList, layout, no_layouts, child, foreign_kind, refused_kind}
use Rattle.vx_layout_spec.specs.Refusal.{Refusal, unknown_index, unregistered}
use Rattle.vx_layout_bytes.specs.Node.{Own, Node, Nodes, node, no_nodes, first, own_of}
use Rattle.vx_session.specs.declared.encoding.LayoutEncoding.{LayoutEncoding}
use Rattle.vx_session.specs.Ids.{id_at}
use Rattle.vx_session.specs.Encodings.{kind_of, is_flat}
use Rattle.vx_session.specs.Scope.{Scope}
use Rattle.vx_session.specs.Made.{Made, ◌>>=◌, ChildData}
use Rattle.vx_session.specs.Kinds.{Parts, build_kind}

-- ---- foreign nodes: with all below, at one type

abbrev pub unknown_here : ℕ → Option (List ℕ) → Option ℕ → Option ℕ
unknown_here index None below = Some index
unknown_here index (Some id) below = below

abbrev pub earlier : Option ℕ → Option ℕ → Option ℕ
earlier None other = other
earlier (Some n) other = Some n

-- the first index in pre-order at which the context has no id
abbrev mutual
  pub unknown_in : List (List ℕ) → Node → Option ℕ
  unknown_in ids (node o ns) = unknown_here o.index (id_at ids o.index) (unknown_among ids ns)

  pub unknown_among : List (List ℕ) → Nodes → Option ℕ
  unknown_among ids no_nodes = None
  unknown_among ids (first n ns) = earlier (unknown_in ids n) (unknown_among ids ns)

abbrev pub id_or_none : Option (List ℕ) → List ℕ
id_or_none None = []
id_or_none (Some id) = id

abbrev mutual
  pub foreign : List (List ℕ) → Ty → Node → LayoutData ℕ
  foreign ids t (node o ns) = layout (foreign_kind (id_or_none (id_at ids o.index)) o.metadata) t o.rows o.segments (all_foreign ids t ns)

  pub all_foreign : List (List ℕ) → Ty → Nodes → LayoutList ℕ
  all_foreign ids t no_nodes = no_layouts
  all_foreign ids t (first n ns) = child (foreign ids t n) (all_foreign ids t ns)

abbrev pub unless_unknown : Option ℕ → LayoutData ℕ → Made
unless_unknown None l = Ok l
unless_unknown (Some index) l = Err (unknown_index index)

abbrev pub build_foreign : List (List ℕ) → Node → Ty → Made
build_foreign ids n t = unless_unknown (unknown_in ids n) (foreign ids t n)

-- ---- nodes of all kinds

abbrev pub known_id : List (List ℕ) → ℕ → Result (List ℕ) Refusal
known_id ids index = known index (id_at ids index)
  where
    known : ℕ → Option (List ℕ) → Result (List ℕ) Refusal
    known index None = Err (unknown_index index)
    known index (Some id) = Ok id

-- what a node is built of at a type
abbrev pub own_parts : Own → List ChildData → Ty → Parts
own_parts o ks t = record { dtype = t; rows = o.rows; segments = o.segments; kids = ks }

-- what the node is where its id isn't registered, and what its kind builds
abbrev pub build_registered : Scope → Own → List ChildData → List ℕ → Made → Ty → Option LayoutEncoding → Made
build_registered s o ks id other t None = if s.allow_unknown then other else Err (unregistered id)
build_registered s o ks id other t (Some kind) =
    build_kind kind s.context (own_parts o ks t) o.metadata

abbrev pub build_own : Scope → Own → List ChildData → (Ty → Made) → Ty → Made
build_own s o ks other t = do
  id ← known_id s.ids o.index
  build_registered s o ks id (other t) t (kind_of id s.registered)

abbrev pub is_flat_kind : Option LayoutEncoding → Bool
is_flat_kind None = false
is_flat_kind (Some kind) = is_flat kind

-- whether the node's kind would be flat
abbrev pub is_flat_node : Scope → Own → Bool
is_flat_node s o = is_flat_kind (kind_of (id_or_none (id_at s.ids o.index)) s.registered)

-- a child that can't be built stands as a leaf
abbrev pub built_or_refused : Bool → Own → Ty → Made → LayoutData ℕ
built_or_refused flat o t (Ok l) = l
built_or_refused flat o t (Err refusal) = layout (refused_kind flat refusal) t o.rows o.segments no_layouts

abbrev pub kid_of : Scope → Own → (Ty → Made) → ChildData
kid_of s o build = record {
  rows = o.rows;
  is_flat = is_flat_node s o;
  build = build;
  stands = λ t. built_or_refused (is_flat_node s o) o t (build t);
}

abbrev mutual
  pub builder : Scope → Node → Ty → Made
  builder s (node o ns) = build_own s o (kids s ns) (build_foreign s.ids (node o ns))

  -- the children, each with what it builds
  pub kids : Scope → Nodes → List ChildData
  kids s no_nodes = []
  kids s (first n ns) = kid_of s (own_of n) (builder s n) ∷ kids s ns

-- what the node is built of at the type
abbrev pub node_parts : Scope → Ty → Node → Parts
node_parts s t (node o ns) = own_parts o (kids s ns) t
