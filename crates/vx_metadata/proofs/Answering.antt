-- What an answer that gives what reading gives says of it.
use Rattle.std.proofs.Common.{◌≡◌, List, ℕ, Option, Some, None, Result, Ok, Err, sym, subst}
use Rattle.std.specs.Prelude.{IfOk}
use Rattle.vx_metadata.specs.declared.error.MetadataError.{MetadataError}
use Rattle.vx_metadata.specs.Views.{Gives}

pub is_found : {X V : Type 0} (view : X → V) (bytes : List ℕ) (read : Option V) (Good : V → Type 0) (r : Result X MetadataError) → ((v : V) → read ≡ Some v → Good v) → Gives view bytes r read → IfOk r (λ x. Good (view x))
is_found view bytes read Good (Ok x) holds e = holds (view x) e
is_found view bytes read Good (Err e) holds h = tt

pub is_only : {X V : Type 0} (view : X → V) (bytes : List ℕ) (read : Option V) (v : V) (r : Result X MetadataError) → read ≡ Some v → Gives view bytes r read → Gives view bytes r (Some v)
is_only {X} {V} view bytes read v r e h = subst (λ (o : Option V). Gives view bytes r o) e h
