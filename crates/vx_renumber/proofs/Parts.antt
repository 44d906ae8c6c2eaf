-- Layouts whose segments get numbers in turn, by their parts.
use Rattle.std.proofs.Common.{◌≡◌, ℕ, ◌+◌, ◌-◌, zero, suc, ◌<◌, List, [], ◌∷◌, ◌++◌, length, get_or, take, drop, map, Option, refl, sym, ap, ap₂, ◌∙◌, arith}
use Rattle.std.proofs.lemmas.List.{length-map, length-append, map_push, map_more, drop-map, take-map, drop-drop}
use Rattle.vx_model.specs.Words.{total_by}
use Rattle.vx_model.specs.Ty.{Ty}
use Rattle.vx_model.specs.TyView.{ty}
use Rattle.vx_model.specs.declared.encoding.EncodingId.{EncodingId}
use Rattle.vx_model.specs.declared.segment.SegmentId.{SegmentId}
use Rattle.vx_layout_spec.specs.LayoutTree.{Kind, LayoutData, layout, lays_of, lays_in, layout_kind, layout_type, row_count, segments_of, children_of, flat_layout}
use Rattle.vx_layout_segments.specs.Segments.{segments_in, all_segments}
use Rattle.vx_layout_segments.specs.InTurn.{in_turn, each_in_turn}
use Rattle.vx_layout_segments.proofs.SegmentLaws.{lays_of-lays_in, segments_in-parts, all_segments_more}
use Rattle.vx_layout_segments.proofs.TurnLaws.{rows_in_turn, length-in_turn, in_turn_push}
use Rattle.vx_session.specs.Made.{kid_rows}
use Rattle.vx_layout_tree.proofs.CopySteps.{one_below}
use Rattle.vx_layout_tree.proofs.KidSteps.{length-owned}
use Rattle.vx_layout_tree.specs.declared.layout.Layout.{Layout}
use Rattle.vx_layout_tree.specs.declared.parts.LayoutHead.{LayoutHead}
use Rattle.vx_layout_tree.specs.declared.flat.FlatLayout.{FlatLayout}
use Rattle.vx_layout_tree.specs.FlatView.{flat_lay, listed_in, tree_in}
use Rattle.vx_layout_tree.specs.LayoutView.{layout_data, number}
use Rattle.vx_layout_tree.specs.LayDepth.{depth, depths}
use Rattle.vx_layout_tree.specs.KindView.{headed}
use Rattle.vx_layout_tree.specs.KidsView.{owned_kids}

-- ---- a layout's children

-- a layout of such a head and such children is the one with numbers from the a-th on
pub headed_in_turn : (l : LayoutData ℕ) (k : Kind) (h : LayoutHead) (a b : ℕ) (ns : List ℕ) (xs ys : List Layout) → layout_kind l ≡ k → children_of l ≡ map layout_data xs → h.row_count ≡ row_count l
    → ty h.dtype ≡ layout_type l → map number h.segment_ids.items ≡ take (length (segments_of l)) (drop a ns) → b ≡ a + length (segments_of l)
    → map layout_data ys ≡ lays_in (each_in_turn (drop b ns) (lays_of (map layout_data xs)))
    → headed k h (map layout_data ys) ≡ in_turn (drop a ns) l
headed_in_turn (layout k' t' n' names ls) k h a b ns xs ys kind kids rows type own next same =
    let left : drop b ns ≡ drop (length names) (drop a ns) = ap (λ m. drop m ns) next ∙ sym (drop-drop (length names) a ns) in
    let all : lays_of (map layout_data xs) ≡ ls = sym (ap lays_of kids) ∙ lays_of-lays_in ls in
    let below : lays_of (map layout_data ys) ≡ each_in_turn (drop (length names) (drop a ns)) ls =
    ap lays_of same ∙ lays_of-lays_in (each_in_turn (drop b ns) (lays_of (map layout_data xs))) ∙ ap₂ (λ r s. each_in_turn r s) left all in
    rw (type, rows, own, below, sym kind) refl

rows_owned : (ls : List (LayoutData ℕ)) → total_by row_count ls ≡ total_by kid_rows (owned_kids ls)
rows_owned [] = refl
rows_owned (l ∷ ls) = ap (λ (n : ℕ). row_count l + n) (rows_owned ls)

-- as many rows
pub rows_each : (b : ℕ) (ns : List ℕ) (xs ys : List Layout) → map layout_data ys ≡ lays_in (each_in_turn (drop b ns) (lays_of (map layout_data xs)))
    → total_by row_count (map layout_data ys) ≡ total_by kid_rows (owned_kids (map layout_data xs))
rows_each b ns xs ys same = ap (total_by row_count) same ∙ rows_in_turn (drop b ns) (map layout_data xs) ∙ rows_owned (map layout_data xs)

-- as many children
pub count_each : (b : ℕ) (ns : List ℕ) (xs ys : List Layout) → map layout_data ys ≡ lays_in (each_in_turn (drop b ns) (lays_of (map layout_data xs)))
    → length (owned_kids (map layout_data ys)) ≡ length (owned_kids (map layout_data xs))
count_each b ns xs ys same =
    length-owned (map layout_data ys) ∙ ap length same ∙ length-in_turn (drop b ns) (map layout_data xs) ∙ sym (length-owned (map layout_data xs))

-- ---- depths

pub depth_is : (l : LayoutData ℕ) (xs : List Layout) → children_of l ≡ map layout_data xs → depth l ≡ depths (lays_of (map layout_data xs))
depth_is (layout k t n names ls) xs kids = ap depths (sym (lays_of-lays_in ls) ∙ ap lays_of kids)

-- ---- how many segments there are

pub kids_count : (l : LayoutData ℕ) (xs : List Layout) → children_of l ≡ map layout_data xs
    → length (segments_in l) ≡ length (segments_of l) + length (all_segments (lays_of (map layout_data xs)))
kids_count l xs kids = ap length (segments_in-parts l (map layout_data xs) kids) ∙ length-append (segments_of l) (all_segments (lays_of (map layout_data xs)))

pub flat_count : (l : LayoutData ℕ) (x : FlatLayout) → l ≡ flat_lay x → length (segments_in l) ≡ 1
flat_count l x is = ap (λ r. length (segments_in r)) is

-- ---- one more of several

pub more_count : (xs : List Layout) (i : ℕ) (x : Layout) → i < length xs → x ≡ get_or xs i x
    → length (all_segments (lays_of (map layout_data (take (i + 1) xs)))) ≡ length (all_segments (lays_of (map layout_data (take i xs)))) + length (segments_in (layout_data x))
more_count xs i x lt is =
    ap length (all_segments_more layout_data xs i x lt is) ∙ length-append (all_segments (lays_of (map layout_data (take i xs)))) (segments_in (layout_data x))

pub more_in_turn : (ns : List ℕ) (a b : ℕ) (xs : List Layout) (i : ℕ) (x y : Layout) (ys zs : List Layout) → i < length xs → x ≡ get_or xs i x
    → map layout_data ys ≡ lays_in (each_in_turn (drop a ns) (lays_of (map layout_data (take i xs)))) → b ≡ a + length (all_segments (lays_of (map layout_data (take i xs))))
    → layout_data y ≡ in_turn (drop b ns) (layout_data x) → zs ≡ ys ++ y ∷ []
    → map layout_data zs ≡ lays_in (each_in_turn (drop a ns) (lays_of (map layout_data (take (i + 1) xs))))
more_in_turn ns a b xs i x y ys zs lt is so_far at this more =
    let front : List (LayoutData ℕ) = map layout_data (take i xs) in
    let left : drop b ns ≡ drop (length (all_segments (lays_of front))) (drop a ns) =
    ap (λ m. drop m ns) at ∙ sym (drop-drop (length (all_segments (lays_of front))) a ns) in
    let one : map layout_data (take (i + 1) xs) ≡ front ++ layout_data x ∷ [] = map_more layout_data xs i x lt ∙ ap (λ r. front ++ layout_data r ∷ []) (sym is) in
    ap (map layout_data) more ∙ map_push layout_data ys y
    ∙ ap₂ (λ r s. r ++ s ∷ []) so_far (this ∙ ap (λ r. in_turn r (layout_data x)) left)
    ∙ sym (in_turn_push (drop a ns) front (layout_data x)) ∙ ap (λ r. lays_in (each_in_turn (drop a ns) (lays_of r))) (sym one)

-- ---- flat layouts

first_left : (ns : List SegmentId) (a : ℕ) (d : SegmentId) → a < length ns → take 1 (drop a (map number ns)) ≡ number (get_or ns a d) ∷ []
first_left [] a d lt = absurd (omega (arith, lt))
first_left (n ∷ ns) zero d lt = refl
first_left (n ∷ ns) (suc a) d lt = first_left ns a d (omega (arith, lt))

pub flat_in_turn : (l : LayoutData ℕ) (x : FlatLayout) (t : Ty) (n a : ℕ) (ids : List EncodingId) (tree : Option (List ℕ)) (ns : List SegmentId) (d : SegmentId) → l ≡ flat_lay x → t ≡ layout_type l
    → n ≡ row_count l → ids ≡ listed_in (flat_lay x) → tree ≡ tree_in (flat_lay x) → a < length ns
    → flat_layout t n ids tree (get_or ns a d).0 ≡ in_turn (drop a (map number ns)) l
flat_in_turn l x t n a ids tree ns d same type rows listed kept lt =
    rw (type, rows, listed, kept, same) (rw (first_left ns a d lt) refl)

-- ---- heads

-- the numbers between the places a and b
pub between : (ns ids : List SegmentId) (l : LayoutData ℕ) (a b : ℕ) (kept : List SegmentId) → map number ids ≡ segments_of l → b ≡ a + length ids → kept ≡ take (b - a) (drop a ns)
    → map number kept ≡ take (length (segments_of l)) (drop a (map number ns))
between ns ids l a b kept own end is =
    let count : b - a ≡ length (segments_of l) = omega (arith, length-map ids number, ap length own) in
    ap (map number) is ∙ sym (take-map number (b - a) (drop a ns)) ∙ ap₂ (λ m r. take m r) count (sym (drop-map number a ns))

pub ids_count : (ids : List SegmentId) (l : LayoutData ℕ) → map number ids ≡ segments_of l → length ids ≡ length (segments_of l)
ids_count ids l own = sym (length-map ids number) ∙ ap length own

-- ---- rules

pub ruleset head_rules = (between, ids_count)

pub ruleset flat_rules = (flat_in_turn, flat_count)

pub ruleset all_rules = (more_in_turn, more_count, one_below)

pub ruleset part_rules = (rows_each, count_each, depth_is, kids_count, flat_count)
