-- What is printed behind an output.
use Rattle.std.specs.Prelude.{if◌then◌else◌, ◌==◌, ◌-◌, ℕ, List, [], length, codes, slice_index_or}

-- a line that says so, where the bytes end without a newline; 10 is the newline
abbrev pub ending : List ℕ → List ℕ
ending bytes = if slice_index_or bytes (length bytes - 1) 10 == 10 then [] else codes "\n\\ no newline at the end\n"
