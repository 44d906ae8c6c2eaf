-- Steps of reading, each of which may give nothing.
use Rattle.std.specs.Prelude.{Bool, if◌then◌else◌, Option, Some, None, option_and_then}

infixl 10 ◌>>=◌
abbrev pub ◌>>=◌ : {A B : Type 0} → Option A → (A → Option B) → Option B
o >>= f = option_and_then f o

-- a function's value, where its arguments are there
abbrev pub given : {A B : Type 0} → Option (A → B) → Option A → Option B
given None x = None
given (Some f) None = None
given (Some f) (Some x) = Some (f x)

-- x where the condition holds
abbrev pub when : {A : Type 0} → Bool → Option A → Option A
when c x = if c then x else None
