-- What a table stands for at a type.
use Rattle.std.specs.Prelude.{ℕ, bytes_eq, Bool, if◌then◌else◌, List, [], ◌∷◌, Option, Some, None}
use Rattle.vx_model.specs.Ty.{Ty, Tys, list, struct, no_fields, field}
use Rattle.vx_strategy_spec.specs.StrategyData.{StrategyData, StrategyList, Wraps, grouped, zoned, structured, listed, tabled, no_ways, way_at, no_wraps, wrap_grouped, wrap_zoned}

-- the override of a field itself, if there is one
abbrev pub override : List ℕ → StrategyList → Option StrategyData
override name no_ways = None
override name (way_at [] w ws) = override name ws
override name (way_at (a ∷ []) w ws) = if bytes_eq name a then Some w else override name ws
override name (way_at (a ∷ b ∷ path) w ws) = override name ws

-- the overrides below it, each without its first name
abbrev pub below : List ℕ → StrategyList → StrategyList
below name no_ways = no_ways
below name (way_at [] w ws) = below name ws
below name (way_at (a ∷ []) w ws) = below name ws
below name (way_at (a ∷ b ∷ path) w ws) = if bytes_eq name a then way_at (b ∷ path) w (below name ws) else below name ws

abbrev pub given_or : Option StrategyData → StrategyData → StrategyData
given_or None w = w
given_or (Some o) w = o

-- a field goes to its override, or else to the same table, descended
abbrev pub field_writer : StrategyData → StrategyData → StrategyList → Bool → Wraps → List ℕ → StrategyData
field_writer v l ws lists wraps name = given_or (override name ws) (tabled v l (below name ws) lists wraps)

abbrev pub field_writers : StrategyData → StrategyData → StrategyList → Bool → Wraps → Tys → StrategyList
field_writers v l ws lists wraps no_fields = no_ways
field_writers v l ws lists wraps (field name t fs) = way_at (name ∷ []) (field_writer v l ws lists wraps name) (field_writers v l ws lists wraps fs)

-- the first wrapper stands outermost
abbrev pub wrapped : Wraps → StrategyData → StrategyData
wrapped no_wraps w = w
wrapped (wrap_grouped g ws) w = grouped g (wrapped ws w)
wrapped (wrap_zoned o stats ws) w = zoned o (wrapped ws w) stats

-- A struct has a writer for each of its fields, so its default is never asked. The elements of a list go to the table
-- without overrides, its offsets and what is no list to the leaf. Every other type goes to the leaf.
abbrev pub table_at : StrategyData → StrategyData → StrategyList → Bool → Wraps → Ty → StrategyData
table_at v l ws lists wraps (struct fs n) = structured v l (field_writers v l ws lists wraps fs)
table_at v l ws lists wraps (list t n) = if lists then wrapped wraps (listed (tabled v l no_ways lists wraps) l v l) else l
table_at v l ws lists wraps t = l

-- every other strategy stands for itself
abbrev pub dispatch : StrategyData → Ty → StrategyData
dispatch (tabled v l ws lists wraps) t = table_at v l ws lists wraps t
dispatch w t = w
