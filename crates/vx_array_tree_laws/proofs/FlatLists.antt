-- Several layouts, and layouts with other names.
use Rattle.std.proofs.Common.{ℕ, List, [], ◌∷◌, map, Option, ap}
use Rattle.vx_model.specs.Ty.{Ty}
use Rattle.vx_layout_spec.specs.LayoutTree.{Kind, flat_kind, chunked_kind, struct_kind, list_kind, dict_kind, zoned_kind, unread_zoned_kind, stats_kind, foreign_kind, refused_kind, LayoutData, LayoutList, layout, no_layouts, child, lays_of, gathered, renamed, each_renamed}
use Rattle.vx_plan.specs.PlanData.{Setting}
use Rattle.vx_strategy_spec.specs.StrategyData.{FlatOptions}
use Rattle.vx_array_tree_laws.specs.Flats.{IsFlat, OfFlat, AllFlat, FlatsHold}

abbrev pub AllHold : {A : Type 0} → Setting → List FlatOptions → Type 0 → (A → Option (List ℕ)) → List (LayoutData A) → Type 0
AllHold s options Good look [] = Unit {0}
AllHold s options Good look (l ∷ ls) = FlatsHold s options Good look l × AllHold s options Good look ls

pub all_flats : {A : Type 0} (s : Setting) (options : List FlatOptions) (Good : Type 0) (look : A → Option (List ℕ)) (ls : List (LayoutData A)) → AllHold s options Good look ls → AllFlat (IsFlat s options Good look) (lays_of ls)
all_flats s options Good look [] h = tt
all_flats s options Good look (l ∷ ls) h = (h.0, all_flats s options Good look ls h.1)

pub gathered_flats : {A : Type 0} (s : Setting) (options : List FlatOptions) (Good : Type 0) (look : A → Option (List ℕ)) (t : Ty) (n : ℕ) (ls : List (LayoutData A)) → AllHold s options Good look ls → FlatsHold s options Good look (gathered t n ls)
gathered_flats s options Good look t n [] h = (tt, tt)
gathered_flats s options Good look t n (l ∷ []) h = h.0
gathered_flats s options Good look t n (l ∷ k ∷ ls) h = (tt, all_flats s options Good look (l ∷ k ∷ ls) h)

-- ---- other names

flat_renamed : {A B : Type 0} (s : Setting) (options : List FlatOptions) (Good : Type 0) (look : B → Option (List ℕ)) (f : A → B) (k : Kind) (t : Ty) (n : ℕ) (names : List A)
    → OfFlat (IsFlat s options Good (λ a. look (f a))) k t n names → OfFlat (IsFlat s options Good look) k t n (map f names)
flat_renamed s options Good look f (flat_kind encodings tree) t n names h = record {
  node = h.node;
  name = f h.name;
  chunk = h.chunk;
  bytes = h.bytes;
  of_strategy = h.of_strategy;
  context = h.context;
  one_segment = ap (map f) h.one_segment;
  stored = h.stored;
  encoded = h.encoded;
  row_count = h.row_count;
  of_type = h.of_type;
  array_tree = h.array_tree;
}
flat_renamed s options Good look f chunked_kind t n names h = tt
flat_renamed s options Good look f struct_kind t n names h = tt
flat_renamed s options Good look f list_kind t n names h = tt
flat_renamed s options Good look f (dict_kind all) t n names h = tt
flat_renamed s options Good look f (zoned_kind zone_len specs) t n names h = tt
flat_renamed s options Good look f (unread_zoned_kind metadata) t n names h = tt
flat_renamed s options Good look f (stats_kind zone_len stats) t n names h = tt
flat_renamed s options Good look f (foreign_kind id metadata) t n names h = tt
flat_renamed s options Good look f (refused_kind is_flat refusal) t n names h = tt

mutual
  pub flats_renamed : {A B : Type 0} (s : Setting) (options : List FlatOptions) (Good : Type 0) (look : B → Option (List ℕ)) (f : A → B) (l : LayoutData A) → FlatsHold s options Good (λ a. look (f a)) l → FlatsHold s options Good look (renamed f l)
  flats_renamed s options Good look f (layout k t n names ls) h = (flat_renamed s options Good look f k t n names h.0, all_renamed s options Good look f ls h.1)

  all_renamed : {A B : Type 0} (s : Setting) (options : List FlatOptions) (Good : Type 0) (look : B → Option (List ℕ)) (f : A → B) (ls : LayoutList A) → AllFlat (IsFlat s options Good (λ a. look (f a))) ls → AllFlat (IsFlat s options Good look) (each_renamed f ls)
  all_renamed s options Good look f no_layouts h = tt
  all_renamed s options Good look f (child l ls) h = (flats_renamed s options Good look f l h.0, all_renamed s options Good look f ls h.1)
