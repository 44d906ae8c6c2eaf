-- Rules that follow one another make the same stream.
use Rattle.std.proofs.Common.{◌≡◌, Bool, List, [], ◌∷◌, ◌++◌, refl, ap, ap₂, ◌∙◌}
use Rattle.std.specs.Prelude.{if◌then◌else◌}
use Rattle.vx_model.specs.ChunkData.{ChunkData}
use Rattle.vx_rules.specs.Stream.{Chunk}
use Rattle.vx_rules.specs.Regroup.{Rule, ranked, regrouped}

-- A rule over other states, where these are good ones, gives and holds what the rule does at what is seen of its state.
pub record Follows (X S : Type 0) (q : Rule X) (r : Rule S) (sees : X → S) (Good : X → Type 0) : Type 0 where
  pub leaves : (x : X) (c : ChunkData) → Good x → q.leaves x c ≡ r.leaves (sees x) c
  pub rest : (x : X) (c : ChunkData) → Good x → q.rest x c ≡ r.rest (sees x) c
  pub holds : (x : X) (c : ChunkData) → Good x → sees (q.holds x c) ≡ r.holds (sees x) c
  pub keeps : (x : X) (c : ChunkData) → Good x → Good (q.holds x c)

pub follows : {X S : Type 0} (q : Rule X) (r : Rule S) (sees : X → S) (Good : X → Type 0) (x : X) → Follows X S q r sees Good → Good x
    → (items : List Chunk) (ended : Bool) → regrouped q x items ended ≡ regrouped r (sees x) items ended
follows q r sees Good x f g [] ended = refl
follows q r sees Good x f g (c ∷ []) ended = ap (λ (z : List ChunkData). if ended then ranked c.0 0 z else []) (f.rest x c.1 g)
follows q r sees Good x f g (c ∷ d ∷ cs) ended =
    ap₂ (λ (y : List ChunkData) (z : List Chunk). ranked c.0 0 y ++ z) (f.leaves x c.1 g)
    (follows q r sees Good (q.holds x c.1) f (f.keeps x c.1 g) (d ∷ cs) ended ∙ ap (λ s. regrouped r s (d ∷ cs) ended) (f.holds x c.1 g))
