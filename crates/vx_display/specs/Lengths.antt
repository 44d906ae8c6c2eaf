-- The lengths of the buffers of flat layouts, where they are known.
use Rattle.std.specs.Prelude.{ℕ, List, [], ◌∷◌, Option, Some, None, Result, Ok, Err}
use Rattle.vx_layout_spec.specs.LayoutTree.{Kind, flat_kind, chunked_kind, struct_kind, list_kind, dict_kind, zoned_kind, unread_zoned_kind, stats_kind, foreign_kind, refused_kind, LayoutData, LayoutList, layout, no_layouts, child}
use Rattle.vx_segment_reader.specs.Reading.{Fault}
use Rattle.vx_segment_reader.specs.Segment.{tree_lengths, segment_lengths}
use Rattle.vx_segment_map.specs.FirstFault.{first_of}

-- the bytes of the segments that a map has
abbrev pub Look : Type 0
Look = ℕ → Option (List ℕ)

abbrev pub lengths_in : Result (List ℕ) Fault → Option (List ℕ)
lengths_in (Ok ns) = Some ns
lengths_in (Err f) = None

-- by the array tree, where it is kept and can be read
abbrev pub by_tree : Option (List ℕ) → Option (List ℕ)
by_tree None = None
by_tree (Some tree) = lengths_in (tree_lengths tree)

-- by the segment, where it is there and can be read
abbrev pub by_segment : Option (List ℕ) → Option (List ℕ)
by_segment None = None
by_segment (Some bytes) = lengths_in (segment_lengths bytes)

-- of a layout with the array tree and the segment n: by its tree, else by its segment where there is a map
abbrev pub known : Option Look → Option (List ℕ) → ℕ → Option (List ℕ)
known None tree n = by_tree tree
known (Some look) tree n = first_of (by_tree tree) (by_segment (look n))

-- ---- what is wrong with a segment that is asked for

pub data SegmentFault : Type 0 where
  -- the segment of this number is missing
  no_segment : ℕ → SegmentFault
  -- the bytes of this number are no segment
  bad_segment : ℕ → SegmentFault

abbrev pub read_fault : ℕ → Result (List ℕ) Fault → Option SegmentFault
read_fault n (Ok ns) = None
read_fault n (Err f) = Some (bad_segment n)

abbrev pub segment_fault : ℕ → Option (List ℕ) → Option SegmentFault
segment_fault n None = Some (no_segment n)
segment_fault n (Some bytes) = read_fault n (segment_lengths bytes)

-- nothing is asked where the tree tells
abbrev pub unless_told : Option (List ℕ) → Option SegmentFault → Option SegmentFault
unless_told None fault = fault
unless_told (Some ns) fault = None

abbrev pub flat_fault : Option Look → Option (List ℕ) → ℕ → Option SegmentFault
flat_fault None tree n = None
flat_fault (Some look) tree n = unless_told (by_tree tree) (segment_fault n (look n))

abbrev pub flat_faults : Option Look → Option (List ℕ) → List ℕ → Option SegmentFault
flat_faults map tree [] = None
flat_faults map tree (n ∷ names) = flat_fault map tree n

-- segments of other kinds than flat aren't asked for
abbrev pub kind_fault : Option Look → Kind → List ℕ → Option SegmentFault
kind_fault map (flat_kind encodings tree) names = flat_faults map tree names
kind_fault map chunked_kind names = None
kind_fault map struct_kind names = None
kind_fault map list_kind names = None
kind_fault map (dict_kind all) names = None
kind_fault map (zoned_kind zone_len specs) names = None
kind_fault map (unread_zoned_kind metadata) names = None
kind_fault map (stats_kind zone_len stats) names = None
kind_fault map (foreign_kind id metadata) names = None
kind_fault map (refused_kind is_flat refusal) names = None

-- the first fault in pre-order of the nodes
abbrev mutual
  pub first_fault : Option Look → LayoutData ℕ → Option SegmentFault
  first_fault map (layout k t n names ls) = first_of (kind_fault map k names) (first_below map ls)

  pub first_below : Option Look → LayoutList ℕ → Option SegmentFault
  first_below map no_layouts = None
  first_below map (child l ls) = first_of (first_fault map l) (first_below map ls)
