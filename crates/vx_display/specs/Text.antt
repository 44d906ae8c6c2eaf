-- The text of a layout's tree: a line a node, in pre-order, each ended by a newline.
use Rattle.std.specs.Prelude.{ℕ, suc, ◌+◌, Bool, true, false, nat_lt, if◌then◌else◌, List, [], ◌∷◌, ◌++◌, length, codes, decimal, Option, Some, None, Result, Ok, Err}
use Rattle.vx_model.specs.Shown.{comma, type_text}
use Rattle.vx_model.specs.Ty.{Ty, nullable}
use Rattle.vx_layout_spec.specs.Refusal.{Refusal}
use Rattle.vx_layout_spec.specs.LayoutTree.{Kind, flat_kind, chunked_kind, struct_kind, list_kind, dict_kind, zoned_kind, unread_zoned_kind, stats_kind, foreign_kind, refused_kind, kind_id, LayoutData, LayoutList, layout, no_layouts, child, layout_kind, layout_type, row_count, segments_of, children_of}
use Rattle.vx_metadata.specs.Kept.{metadata_bytes}
use Rattle.vx_layout_slots.specs.declared.child_type.LayoutChildType.{LayoutChildType}
use Rattle.vx_layout_slots.specs.Slots.{child_name, slot_type}
use Rattle.vx_layout_tree.specs.Shown.{in_brackets}
use Rattle.vx_layout_tree.specs.ErrorNames.{refusal_name}
use Rattle.vx_layout_codec_spec.specs.Permitted.{Checked, built}
use Rattle.vx_display.specs.Lengths.{Look, known, SegmentFault, first_fault}

-- how a tree is shown
pub record Style : Type 0 where
  pub verbose : Bool
  -- the segments, where they are handed in
  pub map : Option Look

-- ---- the text of a node

-- the number of children, where there are any
abbrev pub children_text : ℕ → List ℕ
children_text n = if nat_lt 0 n then codes ", children: " ++ decimal n else []

-- the length of the metadata, where there is any
abbrev pub metadata_text : ℕ → List ℕ
metadata_text n = if nat_lt 0 n then codes ", metadata: " ++ (decimal n ++ codes " bytes") else []

abbrev pub rows_text : ℕ → List ℕ
rows_text n = codes ", rows: " ++ decimal n

-- what only verbose texts have
abbrev pub verbosely : Bool → List ℕ → List ℕ
verbosely verbose text = if verbose then text else []

-- lengths in bytes, with commas between
abbrev pub sizes : Bool → List ℕ → List ℕ
sizes first [] = []
sizes first (n ∷ ns) = comma first ++ (decimal n ++ (codes "B" ++ sizes false ns))

abbrev pub total : List ℕ → ℕ
total [] = 0
total (n ∷ ns) = n + total ns

-- the segment of a flat node, with the lengths of its buffers where they are known
abbrev pub segment_text : ℕ → Option (List ℕ) → List ℕ
segment_text n None = codes ", segment: " ++ decimal n
segment_text n (Some ns) = codes ", segment " ++ (decimal n ++ (codes ", buffers=[" ++ (sizes true ns ++ (codes "], total=" ++ (decimal (total ns) ++ codes "B")))))

abbrev pub flat_text : Style → Option (List ℕ) → List ℕ → List ℕ
flat_text style tree [] = []
flat_text style tree (n ∷ names) = segment_text n (known style.map tree n)

-- the segments of another node, where there are any
abbrev pub segments_text : List ℕ → List ℕ
segments_text [] = []
segments_text (n ∷ ns) = codes ", segments: " ++ in_brackets (n ∷ ns)

abbrev pub own_text : Style → Kind → List ℕ → List ℕ
own_text style (flat_kind encodings tree) names = flat_text style tree names
own_text style chunked_kind names = verbosely style.verbose (segments_text names)
own_text style struct_kind names = verbosely style.verbose (segments_text names)
own_text style list_kind names = verbosely style.verbose (segments_text names)
own_text style (dict_kind all) names = verbosely style.verbose (segments_text names)
own_text style (zoned_kind zone_len specs) names = verbosely style.verbose (segments_text names)
own_text style (unread_zoned_kind metadata) names = verbosely style.verbose (segments_text names)
own_text style (stats_kind zone_len stats) names = verbosely style.verbose (segments_text names)
own_text style (foreign_kind id metadata) names = verbosely style.verbose (segments_text names)
own_text style (refused_kind is_flat refusal) names = verbosely style.verbose (segments_text names)

abbrev pub detail_text : Style → LayoutData ℕ → List ℕ
detail_text style l = verbosely style.verbose (metadata_text (length (metadata_bytes l)) ++ rows_text (row_count l))

abbrev pub node_text : Style → LayoutData ℕ → List ℕ
node_text style l =
    kind_id (layout_kind l) ++ (codes ", dtype: " ++ (type_text (layout_type l) ++ (children_text (length (children_of l)) ++ (detail_text style l ++ own_text style (layout_kind l) (segments_of l)))))

-- ---- names of children

-- the slot of a child by its place: a struct that isn't nullable has none in its first slot
abbrev pub child_slot : Kind → Ty → ℕ → ℕ
child_slot (flat_kind encodings tree) t i = i
child_slot chunked_kind t i = i
child_slot struct_kind t i = if nullable t then i else suc i
child_slot list_kind t i = i
child_slot (dict_kind all) t i = i
child_slot (zoned_kind zone_len specs) t i = i
child_slot (unread_zoned_kind metadata) t i = i
child_slot (stats_kind zone_len stats) t i = i
child_slot (foreign_kind id metadata) t i = i
child_slot (refused_kind is_flat refusal) t i = i

abbrev pub name_of : Option LayoutChildType → List ℕ
name_of None = []
name_of (Some c) = child_name c

-- the name of child i
unfoldable pub label : LayoutData ℕ → ℕ → List ℕ
label l i = name_of (slot_type l (child_slot (layout_kind l) (layout_type l) i))

-- ---- branches

-- to a child that others follow, and to the last one
abbrev pub branch : List ℕ
branch = 226 ∷ 148 ∷ 156 ∷ 226 ∷ 148 ∷ 128 ∷ 226 ∷ 148 ∷ 128 ∷ 32 ∷ []

abbrev pub last_branch : List ℕ
last_branch = 226 ∷ 148 ∷ 148 ∷ 226 ∷ 148 ∷ 128 ∷ 226 ∷ 148 ∷ 128 ∷ 32 ∷ []

-- what stands before the lines below a child
abbrev pub trunk : List ℕ
trunk = 226 ∷ 148 ∷ 130 ∷ 32 ∷ 32 ∷ 32 ∷ []

abbrev pub blank : List ℕ
blank = codes "    "

abbrev pub branch_to : Bool → List ℕ
branch_to last = if last then last_branch else branch

abbrev pub trunk_by : Bool → List ℕ
trunk_by last = if last then blank else trunk

abbrev pub is_last : LayoutList ℕ → Bool
is_last no_layouts = true
is_last (child l ls) = false

-- ---- trees: `first` stands before the node's own line, and `rest` before those below it

abbrev mutual
  pub tree_text : Style → List ℕ → List ℕ → LayoutData ℕ → List ℕ
  tree_text style first rest (layout k t n names ls) =
      first ++ (node_text style (layout k t n names ls) ++ (codes "\n" ++ children_lines style rest (layout k t n names ls) 0 ls))

  -- the children of the parent from number i on
  pub children_lines : Style → List ℕ → LayoutData ℕ → ℕ → LayoutList ℕ → List ℕ
  children_lines style rest parent i no_layouts = []
  children_lines style rest parent i (child l ls) =
      tree_text style (rest ++ (branch_to (is_last ls) ++ (label parent i ++ codes ": "))) (rest ++ trunk_by (is_last ls)) l
      ++ children_lines style rest parent (suc i) ls

-- ---- whole texts

-- of a tree that can't be built, by the name of its first refusal
abbrev pub error_line : Refusal → List ℕ
error_line r = codes "Error building layout tree: " ++ (refusal_name r ++ codes "\n")

abbrev pub unless_refused : Checked → List ℕ → List ℕ
unless_refused (Ok u) text = text
unless_refused (Err r) text = error_line r

abbrev pub plain : Bool → Style
plain verbose = record { verbose = verbose; map = None }

-- without segments
abbrev pub display_text : Bool → LayoutData ℕ → List ℕ
display_text verbose l = unless_refused (built l) (tree_text (plain verbose) [] [] l)

abbrev pub unless_fault : Option SegmentFault → List ℕ → Result (List ℕ) SegmentFault
unless_fault None text = Ok text
unless_fault (Some fault) text = Err fault

abbrev pub asking : Look → Style
asking look = record { verbose = true; map = Some look }

abbrev pub unless_refused_or_fault : Checked → Option SegmentFault → List ℕ → Result (List ℕ) SegmentFault
unless_refused_or_fault (Ok u) fault text = unless_fault fault text
unless_refused_or_fault (Err r) fault text = Ok (error_line r)

-- With segments: a segment is at fault only where the tree can be built.
abbrev pub display_with : Look → LayoutData ℕ → Result (List ℕ) SegmentFault
display_with look l = unless_refused_or_fault (built l) (first_fault (Some look) l) (tree_text (asking look) [] [] l)
