-- A rule behind a list of chunks.
use Rattle.std.proofs.Common.{◌≡◌, List, [], ◌∷◌, ◌++◌, refl, ap, ◌∙◌, sym}
use Rattle.vx_model.specs.ChunkData.{ChunkData}
use Rattle.vx_regroup.specs.declared.regroup.Regroup.{Regroup}
use Rattle.vx_regroup.specs.Regrouping.{after, taken}

pub taken_more : (r : Regroup) (cs : List ChunkData) (c : ChunkData) → taken r (cs ++ (c ∷ [])) ≡ after (taken r cs) c
taken_more r [] c = refl
taken_more r (d ∷ cs) c = taken_more (after r d) cs c

pub taken_next : (old new first : Regroup) (cs : List ChunkData) (c : ChunkData) → new ≡ after old c → old ≡ taken first cs → new ≡ taken first (cs ++ (c ∷ []))
taken_next old new first cs c e h = e ∙ ap (λ (r : Regroup). after r c) h ∙ sym (taken_more first cs c)
