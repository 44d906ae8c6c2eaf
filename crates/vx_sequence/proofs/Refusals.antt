-- An error that `?` hands on is the callee's.
use Rattle.std.proofs.Common.{◌≡◌, Result, Ok, Err, IsErrAnd, IsErrOf}

pub handed_on : {T E : Type 0} (r : Result T E) (e f : E) → IsErrOf r e → IsErrAnd r (λ x. x ≡ f) → f ≡ e
handed_on (Ok x) e f h k = absurd k
handed_on (Err x) e f h k = cc
