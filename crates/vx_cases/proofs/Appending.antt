-- Bytes that are written one after the other.
use Rattle.std.proofs.Common.{ℕ, List, ◌++◌, Option, Some, None, ap, ◌∙◌, append_assoc}
use Rattle.std.specs.Io.KnownBytes.{Appends}

pub appends_more : (a b c : Option (List ℕ)) (xs ys : List ℕ) → Appends a b xs → Appends b c ys → Appends a c (xs ++ ys)
appends_more None b c xs ys h k = tt
appends_more (Some zs) None c xs ys h k = absurd h
appends_more (Some zs) (Some ws) None xs ys h k = absurd k
appends_more (Some zs) (Some ws) (Some us) xs ys h k = k ∙ (ap (λ (r : List ℕ). r ++ ys) h ∙ append_assoc zs xs ys)
