-- What the functions return, as contracts see it.
use Rattle.std.specs.Prelude.{◌≡◌, ℕ, List, Option, Some, None, option_map, Result, Ok, Err, IsErr}
use Rattle.vx_model.specs.declared.text.Text.{Text}
use Rattle.vx_layout_spec.specs.Refusal.{Refusal}
use Rattle.vx_layout_spec.specs.LayoutTree.{LayoutData}
use Rattle.vx_layout_build.specs.declared.child.LayoutChild.{LayoutChild}
use Rattle.vx_layout_build.specs.ChildView.{child_lay}
use Rattle.vx_segment_map.specs.SegmentView.{segment_in}
use Rattle.vx_segment_map.specs.declared.error.ReadError.{ReadError}
use Rattle.vx_segment_map.specs.declared.error.ReadError.TheVariants as read_errors
use Rattle.vx_display.specs.declared.style.Style.{Style as HeldStyle}
use Rattle.vx_display.specs.declared.style.Stop.{Stop}
use Rattle.vx_display.specs.declared.style.Stop.TheVariants as stops
use Rattle.vx_layout_codec_spec.specs.Permitted.{Checked}
use Rattle.vx_display.specs.Lengths.{Look, SegmentFault, no_segment, bad_segment}
use Rattle.vx_display.specs.Text.{Style}

-- the segments that are handed in
abbrev pub map_of : HeldStyle → Option Look
map_of s = option_map (λ m. segment_in m.now) s.segments

abbrev pub style : HeldStyle → Style
style s = record { verbose = s.verbose; map = map_of s }

-- The first fault, or that a node can't be built; memory may run out.
abbrev pub StopsBy : Stop → Option SegmentFault → Checked → Type 0
StopsBy (stops.NoSegment n) fault built = fault ≡ Some (no_segment n)
StopsBy (stops.BadSegment n) fault built = fault ≡ Some (bad_segment n)
StopsBy stops.Refused fault built = IsErr built
StopsBy stops.OutOfMemory fault built = Unit {0}

-- no fault where all was written, and every node was built
abbrev pub Faults : {X : Type 0} → Result X Stop → Option SegmentFault → Checked → Type 0
Faults (Ok x) fault built = (fault ≡ None) × (built ≡ Ok tt)
Faults (Err e) fault built = StopsBy e fault built

-- What `display_tree_with_segments` answers: the text, or the fault. No other error comes, unless memory runs out.
abbrev pub GivesText : Result Text ReadError → Result (List ℕ) SegmentFault → Type 0
GivesText (Ok text) told = told ≡ Ok text
GivesText (Err (read_errors.NoSegment n)) told = told ≡ Err (no_segment n)
GivesText (Err (read_errors.BadSegment n)) told = told ≡ Err (bad_segment n)
GivesText (Err read_errors.OutOfMemory) told = Unit {0}
GivesText (Err e) told = ⊥

-- a child, or that it can't be built; memory may run out
abbrev pub GivesChild : Result LayoutChild Stop → Result (LayoutData ℕ) Refusal → Type 0
GivesChild (Ok c) told = told ≡ Ok (child_lay c)
GivesChild (Err stops.Refused) told = IsErr told
GivesChild (Err stops.OutOfMemory) told = Unit {0}
GivesChild (Err e) told = ⊥
