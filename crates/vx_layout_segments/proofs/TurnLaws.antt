-- Names in turn.
use Rattle.std.proofs.Common.{◌≡◌, ℕ, suc, ◌+◌, List, [], ◌∷◌, ◌++◌, length, take, drop, map, refl, sym, ap, ap₂, ◌∙◌, append_assoc}
use Rattle.std.proofs.lemmas.List.{length-map, length-append, map-append, append-nil, drop-drop}
use Rattle.vx_model.specs.Words.{total_by}
use Rattle.vx_layout_spec.specs.LayoutTree.{LayoutData, LayoutList, layout, no_layouts, child, lays_of, lays_in, row_count, renamed, each_renamed}
use Rattle.vx_layout_segments.specs.Segments.{segments_in, all_segments}
use Rattle.vx_layout_segments.specs.InTurn.{in_turn, each_in_turn}
use Rattle.vx_layout_segments.proofs.SegmentLaws.{length-segments_in-renamed}

take_front : {A : Type 0} (xs ys : List A) → take (length xs) (xs ++ ys) ≡ xs
take_front [] ys = refl
take_front (x ∷ xs) ys = ap (λ r. x ∷ r) (take_front xs ys)

drop_front : {A : Type 0} (xs ys : List A) → drop (length xs) (xs ++ ys) ≡ ys
drop_front [] ys = refl
drop_front (x ∷ xs) ys = drop_front xs ys

split : {A B : Type 0} (f : A → B) (xs ys : List A) (ns : List B) → map f (xs ++ ys) ++ ns ≡ map f xs ++ (map f ys ++ ns)
split f xs ys ns = ap (λ r. r ++ ns) (map-append f xs ys) ∙ append_assoc (map f xs) (map f ys) ns

first_names : {A B C : Type 0} (f : A → C) (g : A → B) (xs ys : List A) (ns : List C) → take (length (map g xs)) (map f (xs ++ ys) ++ ns) ≡ map f xs
first_names f g xs ys ns =
    ap₂ (λ n r. take n r) (length-map xs g ∙ sym (length-map xs f)) (split f xs ys ns) ∙ take_front (map f xs) (map f ys ++ ns)

later_names : {A C : Type 0} (n : ℕ) (f : A → C) (xs ys : List A) (ns : List C) → n ≡ length xs → drop n (map f (xs ++ ys) ++ ns) ≡ map f ys ++ ns
later_names n f xs ys ns is =
    ap₂ (λ m r. drop m r) (is ∙ sym (length-map xs f)) (split f xs ys ns) ∙ drop_front (map f xs) (map f ys ++ ns)

-- What was renamed gets names in turn: those of its segments, whatever stood there; others behind them are left.
mutual
  pub turned : {A B C : Type 0} (f : A → C) (g : A → B) (l : LayoutData A) (ns : List C) → in_turn (map f (segments_in l) ++ ns) (renamed g l) ≡ renamed f l
  turned f g (layout k t n names ls) ns =
      ap₂ (λ r s. layout k t n r s) (first_names f g names (all_segments ls) ns)
      (ap (λ r. each_in_turn r (each_renamed g ls)) (later_names (length (map g names)) f names (all_segments ls) ns (length-map names g)) ∙ each_turned f g ls ns)

  pub each_turned : {A B C : Type 0} (f : A → C) (g : A → B) (ls : LayoutList A) (ns : List C) → each_in_turn (map f (all_segments ls) ++ ns) (each_renamed g ls) ≡ each_renamed f ls
  each_turned f g no_layouts ns = refl
  each_turned f g (child l ls) ns =
      ap₂ child (ap (λ r. in_turn r (renamed g l)) (split f (segments_in l) (all_segments ls) ns) ∙ turned f g l (map f (all_segments ls) ++ ns))
      (ap (λ r. each_in_turn r (each_renamed g ls)) (later_names (length (segments_in (renamed g l))) f (segments_in l) (all_segments ls) ns (length-segments_in-renamed g l))
      ∙ each_turned f g ls ns)

-- the names of all of them, and no more
pub in_turn-renamed : {A B C : Type 0} (f : A → C) (g : A → B) (l : LayoutData A) → in_turn (map f (segments_in l)) (renamed g l) ≡ renamed f l
in_turn-renamed f g l = ap (λ r. in_turn r (renamed g l)) (sym (append-nil (map f (segments_in l)))) ∙ turned f g l []

-- ---- layouts of a list

pub row_count-in_turn : {A B : Type 0} (ns : List B) (l : LayoutData A) → row_count (in_turn ns l) ≡ row_count l
row_count-in_turn ns (layout k t n names ls) = refl

-- as many rows
pub rows_in_turn : {A B : Type 0} (ns : List B) (ls : List (LayoutData A)) → total_by row_count (lays_in (each_in_turn ns (lays_of ls))) ≡ total_by row_count ls
rows_in_turn ns [] = refl
rows_in_turn ns (l ∷ ls) = ap₂ (λ (a b : ℕ). a + b) (row_count-in_turn ns l) (rows_in_turn (drop (length (segments_in l)) ns) ls)

-- as many layouts
pub length-in_turn : {A B : Type 0} (ns : List B) (ls : List (LayoutData A)) → length (lays_in (each_in_turn ns (lays_of ls))) ≡ length ls
length-in_turn ns [] = refl
length-in_turn ns (l ∷ ls) = ap suc (length-in_turn (drop (length (segments_in l)) ns) ls)

-- one more layout
pub in_turn_push : {A B : Type 0} (ns : List B) (ls : List (LayoutData A)) (l : LayoutData A)
    → lays_in (each_in_turn ns (lays_of (ls ++ l ∷ []))) ≡ lays_in (each_in_turn ns (lays_of ls)) ++ in_turn (drop (length (all_segments (lays_of ls))) ns) l ∷ []
in_turn_push ns [] l = refl
in_turn_push ns (x ∷ ls) l =
    let rest : drop (length (all_segments (lays_of ls))) (drop (length (segments_in x)) ns) ≡ drop (length (segments_in x ++ all_segments (lays_of ls))) ns =
    drop-drop (length (all_segments (lays_of ls))) (length (segments_in x)) ns ∙ ap (λ n. drop n ns) (sym (length-append (segments_in x) (all_segments (lays_of ls)))) in
    ap (λ r. in_turn ns x ∷ r)
    (in_turn_push (drop (length (segments_in x)) ns) ls l ∙ ap (λ r. lays_in (each_in_turn (drop (length (segments_in x)) ns) (lays_of ls)) ++ in_turn r l ∷ []) rest)
