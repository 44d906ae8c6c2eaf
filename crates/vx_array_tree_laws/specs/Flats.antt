-- The flat nodes of a strategy and of a layout.
use Rattle.std.specs.Prelude.{ℕ, ◌≡◌, if◌then◌else◌, List, [], ◌∷◌, ◌++◌, length, Option, Some, None}
use Rattle.vx_model.specs.declared.encoding.EncodingId.{EncodingId}
use Rattle.vx_model.specs.Ty.{Ty}
use Rattle.vx_model.specs.ChunkData.{ChunkData, cells}
use Rattle.vx_path.specs.Lists.{In}
use Rattle.vx_layout_spec.specs.LayoutTree.{Kind, flat_kind, LayoutData, LayoutList, layout, no_layouts, child}
use Rattle.vx_layout_spec.specs.Real.{Of}
use Rattle.vx_plan.specs.PlanData.{Setting}
use Rattle.vx_strategy_spec.specs.StrategyData.{StrategyData, StrategyList, Wraps, FlatOptions, flat, chunked, grouped, compressed, coded, zoned, structured, listed, tabled, no_ways, way_at, no_wraps, wrap_grouped, wrap_zoned}

-- the options of all flat nodes of a strategy
abbrev mutual
  pub flats : StrategyData → List FlatOptions
  flats (flat o) = o ∷ []
  flats (chunked w) = flats w
  flats (grouped g w) = flats w
  flats (compressed which room w) = flats w
  flats (coded o c v f) = flats c ++ (flats v ++ flats f)
  flats (zoned o w stats) = flats w ++ flats stats
  flats (structured v d ws) = flats v ++ (flats d ++ named_flats ws)
  flats (listed e o v f) = flats e ++ (flats o ++ (flats v ++ flats f))
  flats (tabled v l ws lists wraps) = flats v ++ (flats l ++ (named_flats ws ++ wrap_flats wraps))

  pub named_flats : StrategyList → List FlatOptions
  named_flats no_ways = []
  named_flats (way_at path w ws) = flats w ++ named_flats ws

  pub wrap_flats : Wraps → List FlatOptions
  wrap_flats no_wraps = []
  wrap_flats (wrap_grouped g ws) = wrap_flats ws
  wrap_flats (wrap_zoned o stats ws) = flats stats ++ wrap_flats ws

-- A flat node of n rows: it is of a flat node of the strategy and has one segment, which is a chunk of so many rows as that
-- node encodes it; and it has an array tree exactly where that node inlines, the tree part of this segment. Where all is
-- good, the chunk is a whole one of the type.
pub record IsFlat {A : Type 0} (s : Setting) (options : List FlatOptions) (Good : Type 0) (look : A → Option (List ℕ)) (encodings : List EncodingId) (tree : Option (List ℕ)) (t : Ty) (n : ℕ) (names : List A) : Type 0 where
  pub node : FlatOptions
  pub name : A
  pub chunk : ChunkData
  pub bytes : List ℕ
  pub of_strategy : In node options
  pub context : encodings ≡ s.encodings
  pub one_segment : names ≡ name ∷ []
  pub stored : look name ≡ Some bytes
  pub encoded : s.codec.encode s.encodings node.padding chunk ≡ Some bytes
  pub row_count : length (cells chunk) ≡ n
  pub of_type : Good → Of t chunk
  pub array_tree : tree ≡ (if node.inline then Some (s.codec.tree_part s.encodings node.padding chunk) else None)

-- ---- each flat node of a layout, those of zone tables too

-- what is said of a flat node: of its encodings, array tree, type, rows and segments
abbrev pub OfFlat : {A : Type 0} → (List EncodingId → Option (List ℕ) → Ty → ℕ → List A → Type 0) → Kind → Ty → ℕ → List A → Type 0
OfFlat P (flat_kind encodings tree) t n names = P encodings tree t n names
OfFlat P k t n names = Unit {0}

abbrev mutual
  pub EachFlat : {A : Type 0} → (List EncodingId → Option (List ℕ) → Ty → ℕ → List A → Type 0) → LayoutData A → Type 0
  EachFlat P (layout k t n names ls) = OfFlat P k t n names × AllFlat P ls

  pub AllFlat : {A : Type 0} → (List EncodingId → Option (List ℕ) → Ty → ℕ → List A → Type 0) → LayoutList A → Type 0
  AllFlat P no_layouts = Unit {0}
  AllFlat P (child l ls) = EachFlat P l × AllFlat P ls

abbrev pub FlatsHold : {A : Type 0} → Setting → List FlatOptions → Type 0 → (A → Option (List ℕ)) → LayoutData A → Type 0
FlatsHold s options Good look l = EachFlat (IsFlat s options Good look) l
