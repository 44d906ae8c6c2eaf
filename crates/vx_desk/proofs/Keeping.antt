-- A copy is kept behind the segments.
use Rattle.std.proofs.Common.{◌≡◌, ℕ, List, [], ◌∷◌, ◌++◌, ap, ◌∙◌}
use Rattle.std.proofs.lemmas.List.{map_push}
use Rattle.std.specs.Global.{Vec}
use Rattle.vx_desk.specs.DeskView.{segments_in}

pub kept_more : (new old : List (Vec ℕ)) (v : Vec ℕ) (bytes : List ℕ) → new ≡ old ++ (v ∷ []) → v.items ≡ bytes → segments_in new ≡ segments_in old ++ (bytes ∷ [])
kept_more new old v bytes e h = ap segments_in e ∙ map_push (λ (w : Vec ℕ). w.items) old v ∙ ap (λ z. segments_in old ++ (z ∷ [])) h

pub ruleset keep_rules = (kept_more)
