-- Steps of the whole texts.
use Rattle.std.proofs.Common.{◌≡◌, ℕ, List, [], ◌∷◌, ◌++◌, Option, None, Ok, Err, Result, refl, append_assoc}
use Rattle.std.proofs.lemmas.List.{append-nil}
use Rattle.std.specs.Prelude.{codes}
use Rattle.vx_layout_spec.specs.LayoutTree.{Kind, flat_kind, chunked_kind, struct_kind, list_kind, dict_kind, zoned_kind, unread_zoned_kind, stats_kind, foreign_kind, refused_kind, LayoutData, LayoutList, layout, no_layouts, child}
use Rattle.vx_layout_tree.specs.Views.{Fails}
use Rattle.vx_layout_tree.specs.ErrorNames.{error_name}
use Rattle.vx_layout_tree.specs.declared.error.LayoutError.{LayoutError}
use Rattle.vx_layout_tree.specs.declared.error.LayoutError.TheVariants as errors
use Rattle.vx_layout_codec_spec.specs.Permitted.{Checked}
use Rattle.vx_display.specs.Lengths.{SegmentFault, kind_fault, first_fault, first_below}
use Rattle.vx_display.specs.Text.{unless_refused, unless_refused_or_fault}

-- ---- without segments nothing is asked for

no_kind_fault : (k : Kind) (names : List ℕ) → kind_fault None k names ≡ None
no_kind_fault (flat_kind e tree) [] = refl
no_kind_fault (flat_kind e tree) (n ∷ names) = refl
no_kind_fault chunked_kind names = refl
no_kind_fault struct_kind names = refl
no_kind_fault list_kind names = refl
no_kind_fault (dict_kind all) names = refl
no_kind_fault (zoned_kind z ss) names = refl
no_kind_fault (unread_zoned_kind m) names = refl
no_kind_fault (stats_kind z ss) names = refl
no_kind_fault (foreign_kind id m) names = refl
no_kind_fault (refused_kind f r) names = refl

mutual
  pub no_fault : (l : LayoutData ℕ) → first_fault None l ≡ None
  no_fault (layout k t n names ls) = rw (no_kind_fault k names, no_fault_below ls) refl

  pub no_fault_below : (ls : LayoutList ℕ) → first_below None ls ≡ None
  no_fault_below no_layouts = refl
  no_fault_below (child l ls) = rw (no_fault l, no_fault_below ls) refl

-- ---- the line of a refusal

-- the line that names an error
abbrev pub line_of : LayoutError → List ℕ
line_of e = codes "Error building layout tree: " ++ (error_name e ++ codes "\n")

pub told_error : (e : LayoutError) (b : Checked) (text : List ℕ) → Fails e b → (e ≡ errors.OutOfMemory → ⊥) → unless_refused b text ≡ line_of e
told_error (errors.Grammar a) b text h ne = rw h refl
told_error (errors.TooDeep a) b text h ne = rw h refl
told_error (errors.TooManyNodes a) b text h ne = rw h refl
told_error (errors.UnknownIndex a) b text h ne = rw h refl
told_error (errors.Unregistered a) b text h ne = rw h refl
told_error (errors.NotPermitted a) b text h ne = rw h refl
told_error (errors.ChildCount a c) b text h ne = rw h refl
told_error (errors.ChildType a c) b text h ne = rw h refl
told_error (errors.RowCount a c) b text h ne = rw h refl
told_error (errors.SegmentCount a) b text h ne = rw h refl
told_error (errors.Metadata a) b text h ne = rw h refl
told_error (errors.UnknownAggregate a) b text h ne = rw h refl
told_error (errors.SlotRange a c) b text h ne = rw h refl
told_error (errors.FieldNotFound a) b text h ne = rw h refl
told_error errors.NotAList b text h ne = rw h refl
told_error errors.NotAStruct b text h ne = rw h refl
told_error errors.OutOfMemory b text h ne = absurd (ne refl)

pub told_error_asking : (e : LayoutError) (b : Checked) (fault : Option SegmentFault) (text : List ℕ) → Fails e b → (e ≡ errors.OutOfMemory → ⊥) → unless_refused_or_fault b fault text ≡ Ok (line_of e)
told_error_asking (errors.Grammar a) b fault text h ne = rw h refl
told_error_asking (errors.TooDeep a) b fault text h ne = rw h refl
told_error_asking (errors.TooManyNodes a) b fault text h ne = rw h refl
told_error_asking (errors.UnknownIndex a) b fault text h ne = rw h refl
told_error_asking (errors.Unregistered a) b fault text h ne = rw h refl
told_error_asking (errors.NotPermitted a) b fault text h ne = rw h refl
told_error_asking (errors.ChildCount a c) b fault text h ne = rw h refl
told_error_asking (errors.ChildType a c) b fault text h ne = rw h refl
told_error_asking (errors.RowCount a c) b fault text h ne = rw h refl
told_error_asking (errors.SegmentCount a) b fault text h ne = rw h refl
told_error_asking (errors.Metadata a) b fault text h ne = rw h refl
told_error_asking (errors.UnknownAggregate a) b fault text h ne = rw h refl
told_error_asking (errors.SlotRange a c) b fault text h ne = rw h refl
told_error_asking (errors.FieldNotFound a) b fault text h ne = rw h refl
told_error_asking errors.NotAList b fault text h ne = rw h refl
told_error_asking errors.NotAStruct b fault text h ne = rw h refl
told_error_asking errors.OutOfMemory b fault text h ne = absurd (ne refl)

pub ruleset plain_rules = (append_assoc, append-nil, no_fault, told_error)

pub ruleset asking_rules = (append_assoc, append-nil, told_error_asking)
