-- Overrides found by a path, and by its first name and the rest.
use Rattle.std.proofs.Common.{◌≡◌, ℕ, ◌&&◌, Bool, true, false, bytes_eq, List, [], ◌∷◌, ◌++◌, Option, Some, None, refl, sym, ap, ◌∙◌, inl, inr, ◌⊎◌}
use Rattle.std.specs.Prelude.{if◌then◌else◌}
use Rattle.std.proofs.lemmas.Bool.{true≢false}
use Rattle.std.specs.Cmp.Lexicographic.{bytes_decides}
use Rattle.vx_model.specs.Ty.{Ty, Tys, no_fields, field}
use Rattle.vx_strategy_spec.specs.StrategyData.{StrategyData, StrategyList, Wraps, no_ways, way_at}
use Rattle.vx_strategy_spec.specs.Walk.{Nodes, same_names, find, walk, walk_named}
use Rattle.vx_strategy_spec.specs.Dispatch.{override, below, field_writer, field_writers}

-- what is made of a strategy, if there is one
abbrev pub made : {A : Type 0} → Nodes A → Option StrategyData → Option (Ty → A)
made on None = None
made on (Some w) = Some (walk on w)

-- a field's own override
pub find_own : {A : Type 0} (on : Nodes A) (name : List ℕ) (ws : StrategyList) → find (name ∷ []) (walk_named on ws) ≡ made on (override name ws)
find_own on name no_ways = refl
find_own on name (way_at [] w ws) = find_own on name ws
find_own on name (way_at (a ∷ []) w ws) = go (bytes_eq name a) (find_own on name ws)
  where
    go : (b : Bool) → find (name ∷ []) (walk_named on ws) ≡ made on (override name ws)
        → (if b && true then Some (walk on w) else find (name ∷ []) (walk_named on ws)) ≡ made on (if b then Some w else override name ws)
    go true r = refl
    go false r = r
find_own on name (way_at (a ∷ c ∷ path) w ws) = go (bytes_eq name a) (find_own on name ws)
  where
    go : (b : Bool) → find (name ∷ []) (walk_named on ws) ≡ made on (override name ws) → (if b && false then Some (walk on w) else find (name ∷ []) (walk_named on ws)) ≡ made on (override name ws)
    go true r = r
    go false r = r

-- an override below a field
pub find_below : {A : Type 0} (on : Nodes A) (name b : List ℕ) (q : List (List ℕ)) (ws : StrategyList) → find (name ∷ b ∷ q) (walk_named on ws) ≡ find (b ∷ q) (walk_named on (below name ws))
find_below on name b q no_ways = refl
find_below on name b q (way_at [] w ws) = find_below on name b q ws
find_below on name b q (way_at (a ∷ []) w ws) = go (bytes_eq name a) (find_below on name b q ws)
  where
    go : (x : Bool) → find (name ∷ b ∷ q) (walk_named on ws) ≡ find (b ∷ q) (walk_named on (below name ws))
        → (if x && false then Some (walk on w) else find (name ∷ b ∷ q) (walk_named on ws)) ≡ find (b ∷ q) (walk_named on (below name ws))
    go true r = r
    go false r = r
find_below on name b q (way_at (a ∷ c ∷ path) w ws) = go (bytes_eq name a) (find_below on name b q ws)
  where
    go : (x : Bool) → find (name ∷ b ∷ q) (walk_named on ws) ≡ find (b ∷ q) (walk_named on (below name ws))
        → (if x && same_names (b ∷ q) (c ∷ path) then Some (walk on w) else find (name ∷ b ∷ q) (walk_named on ws))
        ≡ find (b ∷ q) (walk_named on (if x then way_at (c ∷ path) w (below name ws) else below name ws))
    go true r = ap (λ z. if same_names (b ∷ q) (c ∷ path) then Some (walk on w) else z) r
    go false r = r

-- one that stands deeper
pub find_deeper : {A : Type 0} (on : Nodes A) (name : List ℕ) (walked : List (List ℕ)) (m : List ℕ) (ws : StrategyList) → find (name ∷ (walked ++ (m ∷ []))) (walk_named on ws) ≡ find (walked ++ (m ∷ [])) (walk_named on (below name ws))
find_deeper on name [] m ws = find_below on name m [] ws
find_deeper on name (a ∷ walked) m ws = find_below on name a (walked ++ (m ∷ [])) ws

-- the name of one of the fields
abbrev pub Named : List ℕ → Tys → Type 0
Named name no_fields = ⊥
Named name (field a t fs) = (bytes_eq name a ≡ true) ⊎ Named name fs

-- a field's writer
pub find_writer : {A : Type 0} (on : Nodes A) (v l : StrategyData) (ws : StrategyList) (lists : Bool) (wraps : Wraps) (fs : Tys) (name : List ℕ) → Named name fs
    → find (name ∷ []) (walk_named on (field_writers v l ws lists wraps fs)) ≡ Some (walk on (field_writer v l ws lists wraps name))
find_writer on v l ws lists wraps no_fields name h = absurd h
find_writer on v l ws lists wraps (field a t fs) name h = go (bytes_eq name a) refl h (find_writer on v l ws lists wraps fs name)
  where
    go : (b : Bool) → bytes_eq name a ≡ b → (bytes_eq name a ≡ true) ⊎ Named name fs
        → (Named name fs → find (name ∷ []) (walk_named on (field_writers v l ws lists wraps fs)) ≡ Some (walk on (field_writer v l ws lists wraps name)))
        → (if b && true then Some (walk on (field_writer v l ws lists wraps a)) else find (name ∷ []) (walk_named on (field_writers v l ws lists wraps fs))) ≡ Some (walk on (field_writer v l ws lists wraps name))
    go true e h r = ap (λ n. Some (walk on (field_writer v l ws lists wraps n))) (sym ((bytes_decides name a).0 e))
    go false e (inl g) r = absurd (true≢false (sym g ∙ e))
    go false e (inr g) r = r g
