-- Compressors of one kind.
use Rattle.std.proofs.Common.{◌≡◌, ℕ, List, [], ◌∷◌, map, All, sym, ◌∙◌, arith}
use Rattle.vx_write_columns.specs.Beside.{kind_of}

-- all are of one, where each is of this one
pub one_kind : {C : Type 0} (kind : C → ℕ) (k : ℕ) → ((c : C) → kind c ≡ k) → (cs : List C) → All (λ c. kind c ≡ kind_of (map kind cs)) cs
one_kind kind k same [] i d less = absurd (omega (arith, less))
one_kind kind k same (c ∷ cs) i d less = same _ ∙ sym (same c)
