-- Steps of the outputs, a run at a time.
use Rattle.std.proofs.Common.{◌≡◌, ℕ, zero, suc, ◌+◌, ◌<◌, ◌^◌, List, [], ◌∷◌, ◌++◌, map, length, refl, sym, ap, ◌∙◌, subst, arith, append_assoc}
use Rattle.vx_model.specs.Ty.{Ty}
use Rattle.vx_model.specs.ChunkData.{plain_piece}
use Rattle.vx_model.specs.TreeView.{tree}
use Rattle.vx_rules.specs.Runs.{DictOptions, codes_piece}
use Rattle.vx_react.specs.declared.place.Place.TheVariants.{Codes, Values}
use Rattle.vx_react.specs.Reactor.{Output}
use Rattle.vx_react.specs.Cutter.{closed_outputs}
use Rattle.vx_runs.specs.declared.rows.Closed.{Closed}
use Rattle.vx_runs.specs.Cutting.{pairs, ClosedFit}

abbrev pub run_outputs : DictOptions → Ty → ℕ → Closed → List Output
run_outputs o t n x = (Codes n, codes_piece o x.codes.items) ∷ (Values n, plain_piece t (map tree x.distinct.items)) ∷ []

pub first_fit : (o : DictOptions) (t : Ty) (ys : List Closed) (x : Closed) (xs : List Closed) → ys ≡ x ∷ xs → ClosedFit o t (pairs ys) → ClosedFit o t (pairs (x ∷ xs))
first_fit o t ys x xs e f = subst (λ (z : List Closed). ClosedFit o t (pairs z)) e f

-- the outputs of one more run
pub outputs_more : (o : DictOptions) (t : Ty) (out now : List Output) (n : ℕ) (ys : List Closed) (x : Closed) (xs : List Closed) (target : List Output → List Output) → ys ≡ x ∷ xs → now ≡ out ++ run_outputs o t n x
    → ((more : List Output) → out ++ closed_outputs o t n (pairs ys) more ≡ target more) → (more : List Output) → now ++ closed_outputs o t (n + 1) (pairs xs) more ≡ target more
outputs_more o t out now n ys x xs target e w h more =
    let one : n + 1 ≡ suc n = omega arith in
    ap (λ (z : List Output). z ++ closed_outputs o t (n + 1) (pairs xs) more) w
    ∙ append_assoc out (run_outputs o t n x) (closed_outputs o t (n + 1) (pairs xs) more)
    ∙ ap (λ (k : ℕ). out ++ (run_outputs o t n x ++ closed_outputs o t k (pairs xs) more)) one
    ∙ ap (λ (z : List Closed). out ++ closed_outputs o t n (pairs z) more) (sym e)
    ∙ h more

-- no run is left
pub outputs_end : (o : DictOptions) (t : Ty) (out : List Output) (n : ℕ) (ys : List Closed) (target : List Output → List Output) → length ys ≡ 0
    → ((more : List Output) → out ++ closed_outputs o t n (pairs ys) more ≡ target more) → (more : List Output) → out ++ more ≡ target more
outputs_end o t out n [] target e h more = h more
outputs_end o t out n (y ∷ ys) target e h more = absurd (omega arith)

-- an output behind the others
pub output_behind : (out now : List Output) (x : Output) (target : List Output → List Output) → now ≡ out ++ x ∷ [] → ((more : List Output) → out ++ more ≡ target more) → (more : List Output) → now ++ more ≡ target (x ∷ more)
output_behind out now x target w h more = ap (λ (z : List Output). z ++ more) w ∙ append_assoc out (x ∷ []) more ∙ h (x ∷ more)

pub ruleset output_rules = (append_assoc)
