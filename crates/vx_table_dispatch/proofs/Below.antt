-- Overrides of a field, and below it.
use Rattle.std.proofs.Common.{◌≡◌, ℕ, ◌+◌, ◌<◌, Bool, true, false, bytes_eq, List, [], ◌∷◌, ◌++◌, length, get_or, drop, refl, sym, ◌∙◌, ap, Option, Some, None}
use Rattle.std.specs.Prelude.{if◌then◌else◌}
use Rattle.std.proofs.lemmas.List.{drop_more, drop_all}
use Rattle.std.proofs.lemmas.Bool.{and_from, and_parts}
use Rattle.vx_strategy_spec.specs.StrategyData.{StrategyData, StrategyList, no_ways, way_at}
use Rattle.vx_strategy_spec.specs.Admitted.{are_apart, are_admitted}
use Rattle.vx_strategy_spec.specs.Dispatch.{override, below}
use Rattle.vx_strategy_spec.proofs.AdmittedLaws.{below_apart, below_admitted}
use Rattle.vx_strategy.specs.AdmittedStrategy.{are_overrides, item_overrides}
use Rattle.vx_strategy.specs.PathWays.{path_ways}
use Rattle.vx_strategy.specs.Overridden.{Names}
use Rattle.vx_strategy.specs.declared.overrides.PathWriter.{PathWriter}
use Rattle.vx_table_dispatch.specs.Paths.{is_own, rest_of}

own_first : (name : List ℕ) (path : Names) (w : StrategyData) (ws : StrategyList) (answer : Bool) → is_own name path ≡ answer
    → override name (way_at path w ws) ≡ (if answer then Some w else override name ws)
own_first name [] w ws true e = absurd (cc e)
own_first name [] w ws false e = refl
own_first name (a ∷ []) w ws answer e = rw e refl
own_first name (a ∷ b ∷ path) w ws true e = absurd (cc e)
own_first name (a ∷ b ∷ path) w ws false e = refl

pub own_here : (name : List ℕ) (xs : List PathWriter) (i : ℕ) (x : PathWriter) → i < length xs → x ≡ get_or xs i x → is_own name x.path ≡ true
    → override name (path_ways (drop i xs)) ≡ Some x.writer.item
own_here name xs i x lt is t = rw (drop_more xs i x lt, ← is) (own_first name x.path x.writer.item (path_ways (drop (i + 1) xs)) true t)

pub own_later : (name : List ℕ) (xs : List PathWriter) (i : ℕ) (x : PathWriter) → i < length xs → x ≡ get_or xs i x → is_own name x.path ≡ false
    → override name (path_ways (drop i xs)) ≡ override name (path_ways (drop (i + 1) xs))
own_later name xs i x lt is t = rw (drop_more xs i x lt, ← is) (own_first name x.path x.writer.item (path_ways (drop (i + 1) xs)) false t)

pub ruleset own_rules = (own_here, own_later, drop_all)

-- ---- below

-- these overrides before those
abbrev pub paths_before : List PathWriter → StrategyList → StrategyList
paths_before [] ws = ws
paths_before (x ∷ xs) ws = way_at x.path x.writer.item (paths_before xs ws)

pub paths_push : (xs : List PathWriter) (x : PathWriter) (ws : StrategyList) → paths_before (xs ++ (x ∷ [])) ws ≡ paths_before xs (way_at x.path x.writer.item ws)
paths_push [] x ws = refl
paths_push (y ∷ ys) x ws = ap (way_at y.path y.writer.item) (paths_push ys x ws)

pub paths_end : (xs : List PathWriter) → paths_before xs no_ways ≡ path_ways xs
paths_end [] = refl
paths_end (y ∷ ys) = ap (way_at y.path y.writer.item) (paths_end ys)

abbrev with_rest : Option Names → StrategyData → StrategyList → StrategyList
with_rest None w ws = ws
with_rest (Some path) w ws = way_at path w ws

below_first : (name : List ℕ) (path : Names) (w : StrategyData) (ws : StrategyList) → below name (way_at path w ws) ≡ with_rest (rest_of name path) w (below name ws)
below_first name [] w ws = refl
below_first name (a ∷ []) w ws = refl
below_first name (a ∷ b ∷ path) w ws = go (bytes_eq name a)
  where
    go : (x : Bool) → (if x then way_at (b ∷ path) w (below name ws) else below name ws) ≡ with_rest (if x then Some (b ∷ path) else None) w (below name ws)
    go true = refl
    go false = refl

below_at : (name : List ℕ) (xs : List PathWriter) (i : ℕ) (x : PathWriter) → i < length xs → x ≡ get_or xs i x
    → below name (path_ways (drop i xs)) ≡ with_rest (rest_of name x.path) x.writer.item (below name (path_ways (drop (i + 1) xs)))
below_at name xs i x lt is = rw (drop_more xs i x lt, ← is) (below_first name x.path x.writer.item (path_ways (drop (i + 1) xs)))

pub below_here : (name : List ℕ) (xs : List PathWriter) (i : ℕ) (x : PathWriter) (rest : Names) → i < length xs → x ≡ get_or xs i x → Some rest ≡ rest_of name x.path
    → below name (path_ways (drop i xs)) ≡ way_at rest x.writer.item (below name (path_ways (drop (i + 1) xs)))
below_here name xs i x rest lt is e = below_at name xs i x lt is ∙ ap (λ r. with_rest r x.writer.item (below name (path_ways (drop (i + 1) xs)))) (sym e)

pub below_later : (name : List ℕ) (xs : List PathWriter) (i : ℕ) (x : PathWriter) → i < length xs → x ≡ get_or xs i x → None ≡ rest_of name x.path
    → below name (path_ways (drop i xs)) ≡ below name (path_ways (drop (i + 1) xs))
below_later name xs i x lt is e = below_at name xs i x lt is ∙ ap (λ r. with_rest r x.writer.item (below name (path_ways (drop (i + 1) xs)))) (sym e)

pub ruleset rest_rules = (paths_push, paths_end, below_here, below_later, drop_all)

pub below_overrides : (name : List ℕ) (ws : StrategyList) → are_overrides ws ≡ true → are_overrides (below name ws) ≡ true
below_overrides name ws h = and_from _ _ (below_apart name ws (and_parts (are_apart ws) (are_admitted ws) h).0) (below_admitted name ws (and_parts (are_apart ws) (are_admitted ws) h).1)

pub ruleset kept_rules = (below_overrides, item_overrides)

pub ruleset child_rules = (item_overrides)
