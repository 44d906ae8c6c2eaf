-- Steps of the text of a node.
use Rattle.std.proofs.Common.{◌≡◌, ℕ, ◌+◌, ◌<◌, ◌==◌, Bool, false, List, [], ◌∷◌, ◌++◌, length, get_or, drop, Option, None, refl, append_assoc, arith}
use Rattle.std.proofs.lemmas.List.{drop_more, append-nil}
use Rattle.std.proofs.lemmas.Bool.Decides.{nat_tests}
use Rattle.std.specs.Prelude.{codes, decimal}
use Rattle.vx_model.specs.Shown.{comma}
use Rattle.vx_layout_spec.specs.LayoutTree.{Kind, flat_kind, chunked_kind, struct_kind, list_kind, dict_kind, zoned_kind, unread_zoned_kind, stats_kind, foreign_kind, refused_kind}
use Rattle.vx_layout_tree.specs.declared.kind.LayoutKind.TheVariants as kinds
use Rattle.vx_layout_tree.specs.Children.{kind_name}
use Rattle.vx_display.specs.Lengths.{Look, kind_fault}
use Rattle.vx_display.specs.Text.{Style, sizes, total, own_text, verbosely, segments_text}

-- ---- lengths

pub drop_sizes : (first : Bool) (ns : List ℕ) (i : ℕ) → i < length ns
    → sizes first (drop i ns) ≡ comma first ++ (decimal (get_or ns i 0) ++ (codes "B" ++ sizes false (drop (i + 1) ns)))
drop_sizes first ns i lt = rw (drop_more ns i 0 lt) refl

pub next_not_first : (i : ℕ) → (i + 1 == 0) ≡ false
next_not_first i = grind (arith, nat_tests)

pub drop_total : (ns : List ℕ) (i : ℕ) → i < length ns → total (drop i ns) ≡ get_or ns i 0 + total (drop (i + 1) ns)
drop_total ns i lt = rw (drop_more ns i 0 lt) refl

-- ---- nodes that aren't flat

pub other_text : (style : Style) (k : Kind) (names : List ℕ) → (kind_name k ≡ kinds.Flat → ⊥) → own_text style k names ≡ verbosely style.verbose (segments_text names)
other_text style (flat_kind e tree) names not = absurd (not refl)
other_text style chunked_kind names not = refl
other_text style struct_kind names not = refl
other_text style list_kind names not = refl
other_text style (dict_kind all) names not = refl
other_text style (zoned_kind z ss) names not = refl
other_text style (unread_zoned_kind m) names not = refl
other_text style (stats_kind z ss) names not = refl
other_text style (foreign_kind id m) names not = refl
other_text style (refused_kind f r) names not = refl

pub other_fault : (map : Option Look) (k : Kind) (names : List ℕ) → (kind_name k ≡ kinds.Flat → ⊥) → kind_fault map k names ≡ None
other_fault map (flat_kind e tree) names not = absurd (not refl)
other_fault map chunked_kind names not = refl
other_fault map struct_kind names not = refl
other_fault map list_kind names not = refl
other_fault map (dict_kind all) names not = refl
other_fault map (zoned_kind z ss) names not = refl
other_fault map (unread_zoned_kind m) names not = refl
other_fault map (stats_kind z ss) names not = refl
other_fault map (foreign_kind id m) names not = refl
other_fault map (refused_kind f r) names not = refl

pub ruleset text_rules = (append_assoc, append-nil)

pub ruleset node_rules = (append_assoc, append-nil)

pub ruleset own_rules = (append_assoc, append-nil, other_text, other_fault)

pub ruleset size_rules = (append_assoc, append-nil, drop_sizes, next_not_first)

pub ruleset total_rules = (drop_total)
