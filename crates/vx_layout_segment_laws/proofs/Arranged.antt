-- Names that are the paths of pairs, in whatever order.
use Rattle.std.proofs.Common.{◌≡◌, ℕ, List, [], ◌∷◌, ◌++◌, refl, sym, subst}
use Rattle.std.proofs.lemmas.List.{append-nil}
use Rattle.std.proofs.lemmas.List.Sorted.{IsPermutation-refl, IsPermutation-trans, IsPermutation-append, IsPermutation-append_comm}
use Rattle.std.specs.List.Sorted.{IsPermutation}
use Rattle.vx_model.specs.Ty.{Ty}
use Rattle.vx_layout_spec.specs.LayoutTree.{LayoutData, lays_of, gathered}
use Rattle.vx_layout_segments.specs.Segments.{segments_in, all_segments}
use Rattle.vx_plan.specs.PlanData.{Pair, Plan, paths}
use Rattle.vx_plan.specs.ChunkedNode.{all_pairs, all_layouts, whole}
use Rattle.vx_plan.proofs.ChunkedLaws.{paths-append}
use Rattle.vx_layout_segment_laws.specs.Named.{SegmentsArePairs}

abbrev pub Named : List Pair → List (List ℕ) → Type 0
Named ps names = IsPermutation (paths ps) names

pub named_none : Named [] []
named_none = IsPermutation-refl []

pub named_both : (ps qs : List Pair) (xs ys : List (List ℕ)) → Named ps xs → Named qs ys → Named (ps ++ qs) (xs ++ ys)
named_both ps qs xs ys a b = subst (λ z. IsPermutation z (xs ++ ys)) (sym (paths-append ps qs)) (IsPermutation-append (paths ps) xs (paths qs) ys a b)

-- those of the second plan named first
pub named_other : (ps qs : List Pair) (xs ys : List (List ℕ)) → Named ps xs → Named qs ys → Named (ps ++ qs) (ys ++ xs)
named_other ps qs xs ys a b = IsPermutation-trans (paths (ps ++ qs)) (xs ++ ys) (ys ++ xs) (named_both ps qs xs ys a b) (IsPermutation-append_comm xs ys)

-- those of the last of several layouts
pub named_last : (ps : List Pair) (xs : List (List ℕ)) → Named ps xs → Named ps (xs ++ [])
named_last ps xs a = subst (Named ps) (sym (append-nil xs)) a

-- ---- several plans

abbrev pub AllNamed : List Plan → Type 0
AllNamed [] = Unit {0}
AllNamed (p ∷ ps) = SegmentsArePairs p × AllNamed ps

pub all_named : (ps : List Plan) → AllNamed ps → Named (all_pairs ps) (all_segments (lays_of (all_layouts ps)))
all_named [] h = named_none
all_named (p ∷ ps) h = named_both p.pairs (all_pairs ps) (segments_in p.layout) (all_segments (lays_of (all_layouts ps))) h.0 (all_named ps h.1)

gathered_segments : {A : Type 0} (t : Ty) (n : ℕ) (ls : List (LayoutData A)) → segments_in (gathered t n ls) ≡ all_segments (lays_of ls)
gathered_segments t n [] = refl
gathered_segments t n (l ∷ []) = sym (append-nil (segments_in l))
gathered_segments t n (l ∷ k ∷ ls) = refl

pub whole_named : (t : Ty) (n : ℕ) (numbers : List ℕ) (ps : List Plan) → AllNamed ps → SegmentsArePairs (whole t n numbers ps)
whole_named t n numbers ps h = subst (Named (all_pairs ps)) (sym (gathered_segments t n (all_layouts ps))) (all_named ps h)
