-- Renamed segments.
use Rattle.std.proofs.Common.{◌≡◌, ℕ, List, [], ◌∷◌, map, Option, refl, ap, ap₂, ◌∙◌}
use Rattle.vx_model.specs.Ty.{Ty}
use Rattle.vx_model.specs.ValueData.{ValueData}
use Rattle.vx_layout_spec.specs.LayoutTree.{Kind, flat_kind, chunked_kind, struct_kind, list_kind, dict_kind, zoned_kind, unread_zoned_kind, stats_kind, foreign_kind, refused_kind, LayoutData, LayoutList, layout, no_layouts, child, lays_of, lays_in, renamed, each_renamed, row_count}
use Rattle.vx_layout_spec.specs.Codec.{Codec}
use Rattle.vx_layout_spec.specs.Rows.{and_then, counted, kind_rows, rows, each_rows}

flat_rows-map : {A B : Type 0} (c : Codec) (look : B → Option (List ℕ)) (f : A → B) (k : Kind) (t : Ty) (n : ℕ) (names : List A) (parts : List (Option (List ValueData)))
    → kind_rows c look k t n (map f names) parts ≡ kind_rows c (λ a. look (f a)) k t n names parts
flat_rows-map c look f (flat_kind encodings tree) t n [] parts = refl
flat_rows-map c look f (flat_kind encodings tree) t n (a ∷ []) parts = refl
flat_rows-map c look f (flat_kind encodings tree) t n (a ∷ b ∷ names) parts = refl
flat_rows-map c look f chunked_kind t n names parts = refl
flat_rows-map c look f struct_kind t n names parts = refl
flat_rows-map c look f list_kind t n names parts = refl
flat_rows-map c look f (dict_kind all) t n names parts = refl
flat_rows-map c look f (zoned_kind zone_len specs) t n names parts = refl
flat_rows-map c look f (unread_zoned_kind metadata) t n names parts = refl
flat_rows-map c look f (stats_kind zone_len stats) t n names parts = refl
flat_rows-map c look f (foreign_kind id metadata) t n names parts = refl
flat_rows-map c look f (refused_kind is_flat refusal) t n names parts = refl

mutual
  -- the rows of a renamed layout are those with the names looked up as they were
  pub rows_renamed : {A B : Type 0} (c : Codec) (look : B → Option (List ℕ)) (f : A → B) (l : LayoutData A) → rows c look (renamed f l) ≡ rows c (λ a. look (f a)) l
  rows_renamed c look f (layout k t n names ls) =
      ap (λ parts. and_then (counted n) (kind_rows c look k t n (map f names) parts)) (each_rows_renamed c look f ls)
      ∙ ap (and_then (counted n)) (flat_rows-map c look f k t n names (each_rows c (λ a. look (f a)) ls))

  pub each_rows_renamed : {A B : Type 0} (c : Codec) (look : B → Option (List ℕ)) (f : A → B) (ls : LayoutList A) → each_rows c look (each_renamed f ls) ≡ each_rows c (λ a. look (f a)) ls
  each_rows_renamed c look f no_layouts = refl
  each_rows_renamed c look f (child l ls) = ap₂ (λ r rs. r ∷ rs) (rows_renamed c look f l) (each_rows_renamed c look f ls)

pub map_twice : {A B C : Type 0} (f : A → B) (g : B → C) (xs : List A) → map g (map f xs) ≡ map (λ a. g (f a)) xs
map_twice f g [] = refl
map_twice f g (x ∷ xs) = ap (λ r. g (f x) ∷ r) (map_twice f g xs)

-- renaming twice is renaming once
mutual
  pub renamed_twice : {A B C : Type 0} (f : A → B) (g : B → C) (l : LayoutData A) → renamed g (renamed f l) ≡ renamed (λ a. g (f a)) l
  renamed_twice f g (layout k t n names ls) = ap₂ (λ ns cs. layout k t n ns cs) (map_twice f g names) (each_renamed_twice f g ls)

  each_renamed_twice : {A B C : Type 0} (f : A → B) (g : B → C) (ls : LayoutList A) → each_renamed g (each_renamed f ls) ≡ each_renamed (λ a. g (f a)) ls
  each_renamed_twice f g no_layouts = refl
  each_renamed_twice f g (child l ls) = ap₂ child (renamed_twice f g l) (each_renamed_twice f g ls)

pub row_count-renamed : {A B : Type 0} (f : A → B) (l : LayoutData A) → row_count (renamed f l) ≡ row_count l
row_count-renamed f (layout k t n names ls) = refl

pub lays_in-lays_of : {A : Type 0} (ls : List (LayoutData A)) → lays_in (lays_of ls) ≡ ls
lays_in-lays_of [] = refl
lays_in-lays_of (l ∷ ls) = ap (λ r. l ∷ r) (lays_in-lays_of ls)

-- the children's rows, one by one
pub each_rows-lays_of : {A : Type 0} (c : Codec) (look : A → Option (List ℕ)) (ls : List (LayoutData A)) → each_rows c look (lays_of ls) ≡ map (rows c look) ls
each_rows-lays_of c look [] = refl
each_rows-lays_of c look (l ∷ ls) = ap (λ r. rows c look l ∷ r) (each_rows-lays_of c look ls)
