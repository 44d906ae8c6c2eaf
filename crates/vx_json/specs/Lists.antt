-- Reading lists, item by item.
use Rattle.std.specs.Prelude.{List, [], ◌∷◌, Option, Some}
use Rattle.serde_json.specs.Data.{Data, Items, no_items, item}
use Rattle.vx_json.specs.Steps.{◌>>=◌}

unfoldable pub first_and : {A : Type 0} → Option A → Option (List A) → Option (List A)
first_and first others = do
  x ← first
  xs ← others
  Some (x ∷ xs)

-- f of each item, where each has one
abbrev pub each : {A : Type 0} → (Data → Option A) → Items → Option (List A)
each f no_items = Some []
each f (item d ds) = first_and (f d) (each f ds)
