-- Calls that fail by a list of their numbers.
use Rattle.std.specs.Prelude.{ℕ, ◌-◌, ◌^◌, ◌&&◌, ◌==◌, nat_lt, Bool, List}
use Rattle.std.specs.List.{list_any}

-- whether the call of this number fails; at the last number none does
abbrev pub fails_at : List ℕ → ℕ → Bool
fails_at list call = nat_lt call (2 ^ 64 - 1) && list_any (λ n. n == call) list
