-- The segments of renamed layouts and of several.
use Rattle.std.proofs.Common.{◌≡◌, ℕ, ◌+◌, ◌<◌, List, [], ◌∷◌, ◌++◌, length, get_or, take, drop, map, refl, sym, ap, ap₂, ◌∙◌, append_assoc}
use Rattle.std.proofs.lemmas.List.{length-map, append-nil, map-append, map_more, take-append-drop}
use Rattle.vx_layout_spec.specs.LayoutTree.{LayoutData, LayoutList, layout, no_layouts, child, lays_of, lays_in, segments_of, children_of, renamed, each_renamed}
use Rattle.vx_layout_segments.specs.Segments.{segments_in, all_segments}

-- renamed segments in the same order
mutual
  pub segments_in-renamed : {A B : Type 0} (f : A → B) (l : LayoutData A) → segments_in (renamed f l) ≡ map f (segments_in l)
  segments_in-renamed f (layout k t n names ls) = ap (λ r. map f names ++ r) (all_segments-renamed f ls) ∙ sym (map-append f names (all_segments ls))

  pub all_segments-renamed : {A B : Type 0} (f : A → B) (ls : LayoutList A) → all_segments (each_renamed f ls) ≡ map f (all_segments ls)
  all_segments-renamed f no_layouts = refl
  all_segments-renamed f (child l ls) = ap₂ (λ r s. r ++ s) (segments_in-renamed f l) (all_segments-renamed f ls) ∙ sym (map-append f (segments_in l) (all_segments ls))

-- as many of them
pub length-segments_in-renamed : {A B : Type 0} (f : A → B) (l : LayoutData A) → length (segments_in (renamed f l)) ≡ length (segments_in l)
length-segments_in-renamed f l = ap length (segments_in-renamed f l) ∙ length-map (segments_in l) f

-- those of some layouts, and then of others
pub all_segments-append : {A : Type 0} (ls ms : List (LayoutData A)) → all_segments (lays_of (ls ++ ms)) ≡ all_segments (lays_of ls) ++ all_segments (lays_of ms)
all_segments-append [] ms = refl
all_segments-append (l ∷ ls) ms = ap (λ r. segments_in l ++ r) (all_segments-append ls ms) ∙ sym (append_assoc (segments_in l) (all_segments (lays_of ls)) (all_segments (lays_of ms)))

-- one more layout
pub all_segments_push : {A : Type 0} (ls : List (LayoutData A)) (l : LayoutData A) → all_segments (lays_of (ls ++ l ∷ [])) ≡ all_segments (lays_of ls) ++ segments_in l
all_segments_push ls l = all_segments-append ls (l ∷ []) ∙ ap (λ r. all_segments (lays_of ls) ++ r) (append-nil (segments_in l))

-- ---- a layout by its parts

pub lays_of-lays_in : {A : Type 0} (ls : LayoutList A) → lays_of (lays_in ls) ≡ ls
lays_of-lays_in no_layouts = refl
lays_of-lays_in (child l ls) = ap (λ r. child l r) (lays_of-lays_in ls)

-- its own, and those of its children
pub segments_in-parts : {A : Type 0} (l : LayoutData A) (ls : List (LayoutData A)) → children_of l ≡ ls → segments_in l ≡ segments_of l ++ all_segments (lays_of ls)
segments_in-parts (layout k t n names cs) ls kids = ap (λ r. names ++ all_segments r) (sym (lays_of-lays_in cs) ∙ ap lays_of kids)

-- ---- layouts of a list

-- those of the first i, and one's more
pub all_segments_more : {X A : Type 0} (f : X → LayoutData A) (xs : List X) (i : ℕ) (x : X) → i < length xs → x ≡ get_or xs i x
    → all_segments (lays_of (map f (take (i + 1) xs))) ≡ all_segments (lays_of (map f (take i xs))) ++ segments_in (f x)
all_segments_more f xs i x lt is =
    ap (λ r. all_segments (lays_of r)) (map_more f xs i x lt ∙ ap (λ r. map f (take i xs) ++ f r ∷ []) (sym is)) ∙ all_segments_push (map f (take i xs)) (f x)

-- those of the first n, and of all others
pub all_segments-behind : {X A : Type 0} (f : X → LayoutData A) (xs : List X) (n : ℕ)
    → all_segments (lays_of (map f xs)) ≡ all_segments (lays_of (map f (take n xs))) ++ all_segments (lays_of (map f (drop n xs)))
all_segments-behind f xs n =
    ap (λ r. all_segments (lays_of r)) (ap (map f) (sym (take-append-drop n xs)) ∙ map-append f (take n xs) (drop n xs)) ∙ all_segments-append (map f (take n xs)) (map f (drop n xs))
